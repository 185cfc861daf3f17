-- The rows of states with each label twice: each copy of a label does what the label does.
use Rattle.std.proofs.Common.{◌≡◌, ℕ, zero, suc, ◌-◌, ◌<◌, ◌≤◌, ⊎_elim, List, [], ◌∷◌, length, refl, sym, ap, subst, ◌∙◌, arith}
use Rattle.std.specs.Prelude.{◌↔◌, slice_index}
use Rattle.std.proofs.lemmas.Bool.Decides.{leb_tells}
use Rattle.nk_policy.specs.PositionSets.{last_from}
use Rattle.nk_store.specs.StoreState.{StoreState, IsStorePacket, AreTidy}
use Rattle.nk_determ.specs.Exact.{Sends}
use Rattle.nk_determ.specs.Pairs.{AreStates}
use Rattle.nk_determ.proofs.Sending.{sent_in_range}
use Rattle.nk_merge.specs.DisjointCopies.{again, label_count, AreDisjointCopies}
use Rattle.nk_merge.proofs.Marks.{again_is, again_some, some_again, again_one}
use Rattle.nk_merge.proofs.Runs.{RunsTo, LabelGives, runs_in_range, runs_above}

module _ (st : StoreState) (states rows : List ℕ) (tw : AreDisjointCopies st states rows) where
  -- a label is one of the rows, and so is the one that is marked again
  pub once_within : (l : ℕ) → l < length states → l < length rows
  once_within l lt = omega (arith, lt, tw.count, tw.some)

  pub twice_within : (l : ℕ) → 0 < l → l < length states → again (label_count states) l < length rows
  twice_within l some lt = let e = again_is (label_count states) l some in omega (arith, e, lt, tw.count)

  -- one that is marked again is none of the states' own
  pub twice_above : (l : ℕ) → 0 < l → length states ≤ again (label_count states) l
  twice_above l some = let e = again_is (label_count states) l some in omega (arith, e, some)

module _ (st : StoreState) (states rows : List ℕ) (tw : AreDisjointCopies st states rows) (ok : AreStates st states) (tidy : AreTidy st) where
  -- what the rows send to are labels of the rows
  row_targets : (l : ℕ) (x y : List ℕ) (t : ℕ) → l < length rows → IsStorePacket st x → Sends st (slice_index rows l) x y t → t < length rows
  row_targets l x y t lt r s = ⊎_elim (λ le. low le.1) (λ more. high more.1) (leb_tells (length states) l)
    where
      low : length states ≤ l → t < length rows
      low le =
          let k : ℕ = l - label_count states in
          let some : 0 < k = omega (arith, le, tw.some) in
          let less : k < length states = omega (arith, lt, tw.count) in
          let is : again (label_count states) k ≡ l = again_is (label_count states) k some ∙ omega (arith, le, tw.some) in
          let w = (tw.disjoint k x y t some less r).0 (subst (λ i. Sends st (slice_index rows i) x y t) (sym is) s) in
          let within : w.0 < length states = ok.targets k x y w.0 less r w.1 in
          to_row w.0 within w.2
        where
          to_row : (u : ℕ) → u < length states → t ≡ again (label_count states) u → t < length rows
          to_row zero within e = omega (arith, e, within, tw.count)
          to_row (suc u) within e = omega (arith, e, within, tw.count)

      high : l < length states → t < length rows
      high less =
          let within : t < length states = ok.targets l x y t less r (subst (λ d. Sends st d x y t) (tw.once l less) s) in
          once_within st states rows tw t within

  -- the rows are states of an automaton
  pub rows_are : AreStates st rows
  rows_are = record { ids = tw.ids; targets = λ l x y t lt r s. row_targets l x y t lt r s }

  -- from a label as it is the rows record what the states do
  pub once_runs : (w : List (List ℕ)) (l : ℕ) (x : List ℕ) (m : ℕ) → l < length states → IsStorePacket st x
      → RunsTo st rows l x w m ↔ RunsTo st states l x w m
  once_runs [] l x m lt r = (λ e. e, λ e. e)
  once_runs (z ∷ w) l x m lt r = (
    λ h.
        let s : Sends st (slice_index states l) x z h.0 = subst (λ d. Sends st d x z h.0) (tw.once l lt) h.2 in
        (h.0, h.1, s, (once_runs w h.0 z m (ok.targets l x z h.0 lt r s) (sent_in_range st (slice_index states l) x z h.0 tidy r s)).0 h.3),
    λ h.
        let s : Sends st (slice_index rows l) x z h.0 = subst (λ d. Sends st d x z h.0) (sym (tw.once l lt)) h.2 in
        (h.0, h.1, s, (once_runs w h.0 z m (ok.targets l x z h.0 lt r h.2) (sent_in_range st (slice_index states l) x z h.0 tidy r h.2)).1 h.3),
  )

  -- from one that is marked again too, and to labels that are marked again
  pub disjoint_runs : (w : List (List ℕ)) (l : ℕ) (x : List ℕ) (m : ℕ) → 0 < l → l < length states → IsStorePacket st x
      → RunsTo st rows (again (label_count states) l) x w m ↔ ((k : ℕ) × (m ≡ again (label_count states) k) × RunsTo st states l x w k)
  disjoint_runs [] l x m some lt r = (λ e. (l, sym e, refl), λ h. ap (again (label_count states)) h.2 ∙ sym h.1)
  disjoint_runs (z ∷ w) l x m some lt r = (
    λ h.
        let t = (tw.disjoint l x z h.0 some lt r).0 h.2 in
        let next : 0 < t.0 = again_some (label_count states) t.0 (subst (λ k. 0 < k) t.2 h.1) in
        let within : t.0 < length states = ok.targets l x z t.0 lt r t.1 in
        let range : IsStorePacket st z = sent_in_range st (slice_index states l) x z t.0 tidy r t.1 in
        let b = (disjoint_runs w t.0 z m next within range).0 (subst (λ k. RunsTo st rows k z w m) t.2 h.3) in
        (b.0, b.1, (t.0, next, t.1, b.2)),
    λ h.
        let u = h.2.0 in
        let next : 0 < u = h.2.1 in
        let s : Sends st (slice_index states l) x z u = h.2.2 in
        let within : u < length states = ok.targets l x z u lt r s in
        let range : IsStorePacket st z = sent_in_range st (slice_index states l) x z u tidy r s in (
          again (label_count states) u,
          some_again (label_count states) u next,
          (tw.disjoint l x z (again (label_count states) u) some lt r).1 (u, s, refl),
          (disjoint_runs w u z m next within range).1 (h.0, h.1, h.2.3),
        ),
  )

  -- each copy of a label gives what the label gives
  pub once_gives : (l : ℕ) (x : List ℕ) (w : List (List ℕ)) (y : List ℕ) → l < length states → IsStorePacket st x
      → LabelGives st rows l x w y ↔ LabelGives st states l x w y
  once_gives l x w y lt r = (
    λ h.
        let run = (once_runs w l x h.0 lt r).0 h.1 in
        let within = (runs_in_range st states ok tidy w l x h.0 lt r run).1 in
        (h.0, run, subst (λ d. Sends st d (last_from x w) y 0) (tw.once h.0 within) h.2),
    λ h.
        let within = (runs_in_range st states ok tidy w l x h.0 lt r h.1).1 in
        (h.0, (once_runs w l x h.0 lt r).1 h.1, subst (λ d. Sends st d (last_from x w) y 0) (sym (tw.once h.0 within)) h.2),
  )

  -- what a label ends at is what it ends at marked again
  pub disjoint_ends : (l : ℕ) (x y : List ℕ) → 0 < l → l < length states → IsStorePacket st x
      → Sends st (slice_index rows (again (label_count states) l)) x y 0 ↔ Sends st (slice_index states l) x y 0
  disjoint_ends l x y some lt r =
      let e = tw.disjoint l x y 0 some lt r in (
        λ h. let b = e.0 h in subst (λ k. Sends st (slice_index states l) x y k) (sym (again_one (label_count states) 0 b.0 b.2)) b.1,
        λ h. e.1 (0, h, refl),
      )

  pub disjoint_gives : (l : ℕ) (x : List ℕ) (w : List (List ℕ)) (y : List ℕ) → 0 < l → l < length states → IsStorePacket st x
      → LabelGives st rows (again (label_count states) l) x w y ↔ LabelGives st states l x w y
  disjoint_gives l x w y some lt r = (
    λ h.
        let b = (disjoint_runs w l x h.0 some lt r).0 h.1 in
        let there = runs_in_range st states ok tidy w l x b.0 lt r b.2 in
        let above = runs_above st states w l x b.0 some b.2 in
        (b.0, b.2, (disjoint_ends b.0 (last_from x w) y above there.1 there.0).0 (subst (λ k. Sends st (slice_index rows k) (last_from x w) y 0) b.1 h.2)),
    λ h.
        let there = runs_in_range st states ok tidy w l x h.0 lt r h.1 in
        let above = runs_above st states w l x h.0 some h.1 in
        (again (label_count states) h.0, (disjoint_runs w l x (again (label_count states) h.0) some lt r).1 (h.0, refl, h.1), (disjoint_ends h.0 (last_from x w) y above there.1 there.0).1 h.2),
  )
