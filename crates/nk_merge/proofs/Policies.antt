-- What a set of labels gives is what is left of the policy after its dups.
use Rattle.std.proofs.Common.{◌≡◌, ℕ, ◌<◌, true, inl, inr, ⊎_elim, List, [], ◌∷◌, length, refl, sym, ap, subst, arith}
use Rattle.std.specs.Prelude.{◌↔◌, map, Contains, slice_index}
use Rattle.nk_field.proofs.Lists.{In, in_from_contains, contains_from_in}
use Rattle.nk_field.proofs.Ascending.{all_from_members}
use Rattle.nk_field.specs.declared.packet.Packet.{Packet}
use Rattle.nk_policy.specs.Policy.{Policy}
use Rattle.nk_policy.specs.Meaning.{Gives, Runs}
use Rattle.nk_policy.specs.Progress.{Marked, RecordsAt}
use Rattle.nk_policy.specs.After.{has_dup, after}
use Rattle.nk_policy.specs.Distinct.{HasDistinct}
use Rattle.nk_policy.proofs.Again.{again}
use Rattle.nk_policy.proofs.LabelSteps.{gives_is_runs}
use Rattle.nk_store.specs.StoreState.{StoreState, IsStorePacket, AreTidy}
use Rattle.nk_determ.specs.Exact.{Sends}
use Rattle.nk_determ.specs.Automaton.{IsState, IsAutomaton}
use Rattle.nk_determ.specs.Pairs.{AreLabelsBelow}
use Rattle.nk_determ.proofs.Sending.{sent_in_range}
use Rattle.nk_runs.proofs.Numbers.{dup_within, rest_record_dup}
use Rattle.nk_runs.proofs.Stands.{are_states}
use Rattle.nk_runs.proofs.Steps.{state_of_dup}
use Rattle.nk_merge.specs.Alike.{SetGives, AreAlike}
use Rattle.nk_merge.specs.SumsAfter.{sum_after}
use Rattle.nk_merge.proofs.Runs.{LabelGives, gives_runs}

-- the first of what a map makes, and the rest
first_is : (z : Packet) (w : List Packet) (r : Packet × ℕ) (v : Marked) → map (λ (k : Packet × ℕ). k.0) (r ∷ v) ≡ z ∷ w → r.0 ≡ z
first_is z w r v e = cc

rest_is : (z : Packet) (w : List Packet) (r : Packet × ℕ) (v : Marked) → map (λ (k : Packet × ℕ). k.0) (r ∷ v) ≡ z ∷ w → map (λ (k : Packet × ℕ). k.0) v ≡ w
rest_is z w r v e = cc

-- a sum gives what one of its parts gives
sum_gives : (p : Policy) (s : List ℕ) (x : Packet) (w : List Packet) (y : Packet) → Gives (sum_after p s) x w y ↔ ((l : ℕ) × In s l × Gives (after p l) x w y)
sum_gives p [] x w y = (λ g. absurd g, λ h. absurd h.1)
sum_gives p (k ∷ s) x w y =
    let e = sum_gives p s x w y in (
      λ g.
          ⊎_elim
          (λ here. (k, inl refl, here))
          (λ later. let h = e.0 later in (h.0, inr h.1, h.2))
          g,
      λ h.
          ⊎_elim
          (λ is. inl (subst (λ l. Gives (after p l) x w y) is h.2))
          (λ later. inr (e.1 (h.0, later, h.2)))
          h.1,
    )

module _ (p : Policy) (d : HasDistinct p) where
  -- a history of what is left after a dup begins with the next record, and goes on with what is left after its dup
  next_gives : (l : ℕ) (x z : Packet) (w : List Packet) (y : Packet)
      → Gives (after p l) x (z ∷ w) y ↔ ((k : ℕ) × RecordsAt (after p l) x [] z k × Gives (after p k) z w y)
  next_gives l x z w y = (
    λ g. let h = (gives_is_runs (after p l) x (z ∷ w) y).0 g in from h.0 h.1 h.2,
    λ h.
        let r = (gives_is_runs (after p h.0) z w y).0 h.2 in
        (gives_is_runs (after p l) x (z ∷ w) y).1 ((z, h.0) ∷ r.0, ap (λ t. z ∷ t) r.1, (again p d l).joins_too x [] z h.0 r.0 y h.1 r.2),
  )
    where
      from : (v : Marked) → map (λ (k : Packet × ℕ). k.0) v ≡ z ∷ w → Runs (after p l) x v y
          → (k : ℕ) × RecordsAt (after p l) x [] z k × Gives (after p k) z w y
      from [] e run = absurd (omega (arith, ap length e))
      from (r ∷ v) e run =
          let s = (again p d l).splits_too x [] r.0 r.1 v y run in
          let is : r.0 ≡ z = first_is z w r v e in (
            r.1,
            subst (λ (q : Packet). RecordsAt (after p l) x [] q r.1) is s.0,
            (gives_is_runs (after p r.1) z w y).1 (v, rest_is z w r v e, subst (λ (q : Packet). Runs (after p r.1) q v y) is s.1),
          )

  module _ (st : StoreState) (states : List ℕ) (a : IsAutomaton st states 1 p) (tidy : AreTidy st) where
    -- a label gives what is left after its dup
    label_gives : (w : List Packet) (l : ℕ) (x y : Packet) → has_dup p l ≡ true → IsStorePacket st x
        → LabelGives st states l x w y ↔ Gives (after p l) x w y
    label_gives [] l x y dup r =
        let state : IsState st (slice_index states l) (after p l) = state_of_dup st states p a d tidy l dup in (
          λ g. (state.ends x y r).0 (subst (λ k. Sends st (slice_index states k) x y 0) (sym g.1) g.2),
          λ g. (l, refl, (state.ends x y r).1 g),
        )
    label_gives (z ∷ w) l x y dup r =
        let state : IsState st (slice_index states l) (after p l) = state_of_dup st states p a d tidy l dup in (
          λ g.
              let k = g.1.0 in
              let record_is = (state.records x z k r g.1.1).0 g.1.2 in
              let next = rest_record_dup p l x z k record_is in
              let range : IsStorePacket st z = sent_in_range st (slice_index states l) x z k tidy r g.1.2 in
              (next_gives l x z w y).1 (k, record_is, (label_gives w k z y next range).0 (g.0, g.1.3, g.2)),
          λ g.
              let h = (next_gives l x z w y).0 g in
              let next = rest_record_dup p l x z h.0 h.1 in
              let some : 0 < h.0 = (dup_within p a.labels h.0 next).0 in
              let sends = (state.records x z h.0 r some).1 h.1 in
              let range : IsStorePacket st z = sent_in_range st (slice_index states l) x z h.0 tidy r sends in
              let rest = (label_gives w h.0 z y next range).1 h.2 in
              (rest.0, (h.0, some, sends, rest.1), rest.2),
        )

    -- the dups of a policy are places among the states
    dups_have_places : (s : List ℕ) → ((l : ℕ) → Contains s l → has_dup p l ≡ true) → AreLabelsBelow (length states) s
    dups_have_places s dups =
        all_from_members (λ l. l < length states) s
        (λ l i. let b = (dup_within p a.labels l (dups l (contains_from_in s l i))).1 in omega (arith, b, a.count))

    -- a set gives what is left after its dups
    pub set_gives : (s : List ℕ) → ((l : ℕ) → Contains s l → has_dup p l ≡ true) → (x : Packet) (w : List Packet) (y : Packet) → IsStorePacket st x
        → SetGives st states s x w y ↔ Gives (sum_after p s) x w y
    set_gives s dups x w y r =
        let e = gives_runs st states (are_states st states p a) tidy s x w y (dups_have_places s dups) r in
        let f = sum_gives p s x w y in (
          λ g.
              let h = e.0 g in
              f.1 (h.0, in_from_contains s h.0 h.1, (label_gives w h.0 x y (dups h.0 h.1) r).0 h.2),
          λ g.
              let h = f.0 g in
              let c = contains_from_in s h.0 h.1 in
              e.1 (h.0, c, (label_gives w h.0 x y (dups h.0 c) r).1 h.2),
        )

    -- so two sets are alike where that gives the same
    pub alike_is : (s t : List ℕ) → ((l : ℕ) → Contains s l → has_dup p l ≡ true) → ((l : ℕ) → Contains t l → has_dup p l ≡ true)
        → AreAlike st states s t
        ↔ ((x : Packet) → IsStorePacket st x → (w : List Packet) (y : Packet) → Gives (sum_after p s) x w y ↔ Gives (sum_after p t) x w y)
    alike_is s t sd td = (
      λ h x r w y.
          let a = set_gives s sd x w y r in
          let b = set_gives t td x w y r in
          let e = h x r w y in
          (λ g. b.0 (e.0 (a.1 g)), λ g. a.0 (e.1 (b.1 g))),
      λ h x r w y.
          let a = set_gives s sd x w y r in
          let b = set_gives t td x w y r in
          let e = h x r w y in
          (λ g. b.1 (e.0 (a.0 g)), λ g. a.1 (e.1 (b.0 g))),
    )
