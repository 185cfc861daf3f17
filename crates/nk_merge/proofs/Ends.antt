-- Where two sets are followed as one, each side ends where its set gives a history.
use Rattle.std.proofs.Common.{◌≡◌, ℕ, ◌<◌, ◌⊎◌, ⊎_elim, inl, inr, List, length, refl, sym, subst, arith}
use Rattle.std.specs.Prelude.{◌↔◌, Contains, slice_index}
use Rattle.nk_field.proofs.Lists.{contains_from_in}
use Rattle.nk_field.proofs.Ascending.{all_from_members}
use Rattle.nk_policy.specs.PositionSets.{last_from}
use Rattle.nk_store.specs.StoreState.{StoreState, IsStorePacket, AreTidy}
use Rattle.nk_determ.specs.Exact.{Sends}
use Rattle.nk_determ.specs.Pairs.{Node, AreLabelsBelow, AreStates, IsStep}
use Rattle.nk_determ.specs.Counterexamples.{Walks}
use Rattle.nk_reach.specs.Sides.{EndsAt}
use Rattle.nk_goal.proofs.Growing.{place_of}
use Rattle.nk_merge.specs.Alike.{SetGives}
use Rattle.nk_merge.specs.DisjointCopies.{again, label_count, AreDisjointCopies}
use Rattle.nk_merge.specs.Joined.{both_sets}
use Rattle.nk_reach.proofs.SideLabels.{mark_below, mark_above, below_from, above_from}
use Rattle.nk_merge.proofs.Marks.{some_again, from_both, first_of_both, second_of_both}
use Rattle.nk_merge.proofs.Runs.{RunsTo, runs_above, runs_in_range, walk_members, walk_last, run_walks, gives_runs}
use Rattle.nk_merge.proofs.Copies.{once_within, twice_within, twice_above, rows_are, once_runs, disjoint_runs, disjoint_ends}

module _ (st : StoreState) (states rows : List ℕ) (tw : AreDisjointCopies st states rows) (ok : AreStates st states) (tidy : AreTidy st)
    (s t : List ℕ) (sp : AreLabelsBelow (length states) s) (tp : AreLabelsBelow (length states) t)
    (sa : (l : ℕ) → Contains s l → 0 < l) (ta : (l : ℕ) → Contains t l → 0 < l) where
  -- both sets together
  abbrev pub whole : List ℕ
  whole = both_sets (label_count states) s t

  -- its labels are above 0, and labels of the rows
  whole_above : (l : ℕ) → Contains whole l → 0 < l
  whole_above l c =
      ⊎_elim
      (λ h. sa l h)
      (λ h. subst (λ k. 0 < k) (sym h.2) (some_again (label_count states) h.0 (ta h.0 h.1)))
      (from_both (label_count states) s t l c)

  pub whole_places : AreLabelsBelow (length rows) whole
  whole_places =
      all_from_members (λ l. l < length rows) whole
      (λ l i. by l (from_both (label_count states) s t l (contains_from_in whole l i)))
    where
      by : (l : ℕ) → Contains s l ⊎ ((k : ℕ) × Contains t k × (l ≡ again (label_count states) k)) → l < length rows
      by l (inl c) = once_within st states rows tw l (place_of (length states) s l sp c)
      by l (inr h) =
          subst (λ k. k < length rows) (sym h.2)
          (twice_within st states rows tw h.0 (ta h.0 h.1) (place_of (length states) t h.0 tp h.1))

  -- a label of the first set leads where it leads
  pub first_walks : (x : List ℕ) (w : List (List ℕ)) (l m : ℕ) → IsStorePacket st x → Contains s l → RunsTo st states l x w m
      → (n : Node) × Walks (IsStep st rows) (whole, x) w n
  first_walks x w l m r c h =
      run_walks st rows (rows_are st states rows tw ok tidy) tidy w whole x l m whole_places r (first_of_both (label_count states) s t l c)
      ((once_runs st states rows tw ok tidy w l x m (place_of (length states) s l sp c) r).1 h)

  pub second_walks : (x : List ℕ) (w : List (List ℕ)) (l m : ℕ) → IsStorePacket st x → Contains t l → RunsTo st states l x w m
      → (n : Node) × Walks (IsStep st rows) (whole, x) w n
  second_walks x w l m r c h =
      run_walks st rows (rows_are st states rows tw ok tidy) tidy w whole x (again (label_count states) l) (again (label_count states) m) whole_places r
      (second_of_both (label_count states) s t l c)
      ((disjoint_runs st states rows tw ok tidy w l x (again (label_count states) m) (ta l c) (place_of (length states) t l tp c) r).1 (m, refl, h))

  -- a set that gives a history has its records walked
  pub first_walked : (x : List ℕ) (w : List (List ℕ)) (y : List ℕ) → IsStorePacket st x → SetGives st states s x w y
      → (n : Node) × Walks (IsStep st rows) (whole, x) w n
  first_walked x w y r g =
      let h = (gives_runs st states ok tidy s x w y sp r).0 g in
      first_walks x w h.0 h.2.0 r h.1 h.2.1

  pub second_walked : (x : List ℕ) (w : List (List ℕ)) (y : List ℕ) → IsStorePacket st x → SetGives st states t x w y
      → (n : Node) × Walks (IsStep st rows) (whole, x) w n
  second_walked x w y r g =
      let h = (gives_runs st states ok tidy t x w y tp r).0 g in
      second_walks x w h.0 h.2.0 r h.1 h.2.1

  module _ (x : List ℕ) (w : List (List ℕ)) (n : Node) (r : IsStorePacket st x) (walk : Walks (IsStep st rows) (whole, x) w n) (start : ℕ) (y : List ℕ) where
    -- the labels where the walk leads are those to which labels of one of the sets lead
    from_sets : (m : ℕ) → Contains n.0 m
        → ((l : ℕ) × Contains s l × RunsTo st states l x w m)
        ⊎ ((l : ℕ) × (k : ℕ) × Contains t l × (m ≡ again (label_count states) k) × RunsTo st states l x w k)
    from_sets m c = by b.0 b.2 (from_both (label_count states) s t b.0 b.1)
      where
        b : (l : ℕ) × Contains whole l × RunsTo st rows l x w m
        b = (walk_members st rows w whole x n walk m).0 c

        by : (l : ℕ) → RunsTo st rows l x w m → Contains s l ⊎ ((k : ℕ) × Contains t k × (l ≡ again (label_count states) k))
            → ((l : ℕ) × Contains s l × RunsTo st states l x w m)
            ⊎ ((l : ℕ) × (k : ℕ) × Contains t l × (m ≡ again (label_count states) k) × RunsTo st states l x w k)
        by l run (inl i) = inl (l, i, (once_runs st states rows tw ok tidy w l x m (place_of (length states) s l sp i) r).0 run)
        by l run (inr i) =
            let u = (disjoint_runs st states rows tw ok tidy w i.0 x m (ta i.0 i.1) (place_of (length states) t i.0 tp i.1) r).0 (subst (λ k. RunsTo st rows k x w m) i.2 run) in
            inr (i.0, u.0, i.1, u.1, u.2)

    -- none of them is 0
    no_start : Contains n.0 0 → ⊥
    no_start c =
        let b = (walk_members st rows w whole x n walk 0).0 c in
        let lt = runs_above st rows w b.0 x 0 (whole_above b.0 b.1) b.2 in
        omega (arith, lt)

    -- the left side ends at the packets that the first set gives
    pub left_ends : EndsAt st rows start (length states) 1 n.0 n.1 y ↔ SetGives st states s x w y
    left_ends = (λ e. forth e, λ g. back g)
      where
        forth : EndsAt st rows start (length states) 1 n.0 n.1 y → SetGives st states s x w y
        forth (inl e) = absurd (no_start e.0)
        forth (inr e) =
            ⊎_elim
            (λ h.
            let within = (runs_in_range st states ok tidy w h.0 x e.0 (place_of (length states) s h.0 sp h.1) r h.2).1 in
            let sends = subst (λ d. Sends st d n.1 y 0) (tw.once e.0 within) e.4 in
            (gives_runs st states ok tidy s x w y sp r).1
            (h.0, h.1, (e.0, h.2, subst (λ v. Sends st (slice_index states e.0) v y 0) (walk_last st rows w whole x n walk) sends)))
            (λ h.
            let above = runs_above st states w h.0 x h.1 (ta h.0 h.2) h.4 in
            let low = below_from (length states) e.0 e.3 in
            let high = twice_above st states rows tw h.1 above in
            absurd (omega (arith, low, high, h.3)))
            (from_sets e.0 e.1)

        back : SetGives st states s x w y → EndsAt st rows start (length states) 1 n.0 n.1 y
        back g =
            let h = (gives_runs st states ok tidy s x w y sp r).0 g in
            let place = place_of (length states) s h.0 sp h.1 in
            let within = (runs_in_range st states ok tidy w h.0 x h.2.0 place r h.2.1).1 in
            let here = (walk_members st rows w whole x n walk h.2.0).1
            (h.0, first_of_both (label_count states) s t h.0 h.1, (once_runs st states rows tw ok tidy w h.0 x h.2.0 place r).1 h.2.1) in
            let sends = subst (λ d. Sends st d (last_from x w) y 0) (sym (tw.once h.2.0 within)) h.2.2 in
            inr (
              h.2.0,
              here,
              runs_above st states w h.0 x h.2.0 (sa h.0 h.1) h.2.1,
              mark_below (length states) h.2.0 within,
              subst (λ v. Sends st (slice_index rows h.2.0) v y 0) (sym (walk_last st rows w whole x n walk)) sends,
            )

    -- and the right side at those that the second set gives
    pub right_ends : EndsAt st rows start (length states) 2 n.0 n.1 y ↔ SetGives st states t x w y
    right_ends = (λ e. forth e, λ g. back g)
      where
        forth : EndsAt st rows start (length states) 2 n.0 n.1 y → SetGives st states t x w y
        forth (inl e) = absurd (no_start e.0)
        forth (inr e) =
            ⊎_elim
            (λ h.
            let within = (runs_in_range st states ok tidy w h.0 x e.0 (place_of (length states) s h.0 sp h.1) r h.2).1 in
            let high = above_from (length states) e.0 e.3 in
            absurd (omega (arith, within, high)))
            (λ h.
            let place = place_of (length states) t h.0 tp h.2 in
            let there = runs_in_range st states ok tidy w h.0 x h.1 place r h.4 in
            let above = runs_above st states w h.0 x h.1 (ta h.0 h.2) h.4 in
            let moved = subst (λ v. Sends st (slice_index rows e.0) v y 0) (walk_last st rows w whole x n walk) e.4 in
            let sends = (disjoint_ends st states rows tw ok tidy h.1 (last_from x w) y above there.1 there.0).0
            (subst (λ k. Sends st (slice_index rows k) (last_from x w) y 0) h.3 moved) in
            (gives_runs st states ok tidy t x w y tp r).1 (h.0, h.2, (h.1, h.4, sends)))
            (from_sets e.0 e.1)

        back : SetGives st states t x w y → EndsAt st rows start (length states) 2 n.0 n.1 y
        back g =
            let h = (gives_runs st states ok tidy t x w y tp r).0 g in
            let place = place_of (length states) t h.0 tp h.1 in
            let there = runs_in_range st states ok tidy w h.0 x h.2.0 place r h.2.1 in
            let above = runs_above st states w h.0 x h.2.0 (ta h.0 h.1) h.2.1 in
            let m : ℕ = again (label_count states) h.2.0 in
            let here = (walk_members st rows w whole x n walk m).1
            (again (label_count states) h.0, second_of_both (label_count states) s t h.0 h.1, (disjoint_runs st states rows tw ok tidy w h.0 x m (ta h.0 h.1) place r).1 (h.2.0, refl, h.2.1)) in
            let sends = (disjoint_ends st states rows tw ok tidy h.2.0 (last_from x w) y above there.1 there.0).1 h.2.2 in
            inr (
              m,
              here,
              some_again (label_count states) h.2.0 above,
              mark_above (length states) m (twice_above st states rows tw h.2.0 above),
              subst (λ v. Sends st (slice_index rows m) v y 0) (sym (walk_last st rows w whole x n walk)) sends,
            )
