-- The parts of a row on the automaton of both policies; the goal of sides; and how these facts stand as the store grows.
use Rattle.std.proofs.Common.{◌≡◌, ℕ, ◌+◌, ◌-◌, ◌<◌, ◌≤◌, true, false, ◌⊎◌, inl, inr, ⊎_elim, List, [], ◌∷◌, length, refl, sym, subst, ◌∙◌, arith}
use Rattle.std.specs.Prelude.{◌↔◌, Contains, slice_index}
use Rattle.nk_field.specs.declared.packet.Packet.{Packet}
use Rattle.nk_field.specs.Act.{applied}
use Rattle.nk_field.specs.Packet.{FieldTable}
use Rattle.nk_field.proofs.Lists.{in_from_contains, contains_from_in, numbers_decided, Decided, stable}
use Rattle.nk_field.proofs.Ascending.{all_from_members}
use Rattle.nk_policy.specs.Policy.{Policy, dups_of}
use Rattle.nk_policy.specs.Meaning.{Gives}
use Rattle.nk_policy.specs.Progress.{RecordsAt}
use Rattle.nk_policy.specs.After.{has_dup, after}
use Rattle.nk_policy.specs.Distinct.{HasDistinct}
use Rattle.nk_policy.specs.PositionSets.{at_position}
use Rattle.nk_policy.proofs.Tests.{false_true, or_cases}
use Rattle.nk_store.specs.declared.node.Out.{Out}
use Rattle.nk_store.specs.StoreState.{StoreState, IsStorePacket, Grows, AreTidy}
use Rattle.nk_store.proofs.InRange.{packet_in_range, packet_of_fields, over_grown}
use Rattle.nk_apply.specs.Unions.{AreIds}
use Rattle.nk_determ.specs.Exact.{Sends}
use Rattle.nk_determ.specs.States.{StateLeads}
use Rattle.nk_auto.proofs.Stating.{label_within}
use Rattle.nk_determ.specs.Pairs.{AreLabelsBelow, IsStep}
use Rattle.nk_reach.specs.Sides.{alone, alone_sided, ends_of, ends_same, AreOneSided, EndsAt}
use Rattle.nk_determ.specs.Counterexamples.{MakesWithTarget}
use Rattle.nk_goal.proofs.Growing.{place_of}
use Rattle.nk_runs.proofs.Numbers.{dup_within}
use Rattle.nk_runs.proofs.Listings.{all_listed, some_decided, sends_decided, empty_from, first_of_some, both_decided, decided_for, above_zero}
use Rattle.nk_runs.proofs.Stands.{stands, state_on, are_states}
use Rattle.nk_runs.proofs.Steps.{start_leads, members_lead, led_in_range}
use Rattle.nk_cert.specs.Together.{either_of, EndsWithin}
use Rattle.nk_cert.specs.Certificates.{RowPosition, at_start, at_dups, CertRow, SomeEndsAt, RecordsNext, IsRowPositionOf, MeetsPosition, MeetsFinals, MeetsHop}
use Rattle.nk_cert.specs.Levelled.{IsAutomatonOfBoth, IsOneSided}
use Rattle.nk_cert.specs.Checked.{labels_at, IsSetAt, HasNoViolation, StepsLeadToRows}
use Rattle.nk_cert.proofs.Together.{sides_of, either_distinct, held_left, held_right, after_left, after_right, left_state, right_state}
use Rattle.nk_reach.proofs.SideLabels.{below_from, above_from, mark_below, mark_above}
use Rattle.nk_cert.proofs.Levels.{side_ends, ends_decided, above_start}

-- the goal of sides, in the store in which levels begin, is one-sided
pub goal_is_one_sided : (first made old : StoreState) (states : List ℕ) (left right bound : ℕ) (ends : List ℕ)
    → AreIds made ends → length ends ≡ length states → Grows first made → Grows made old
    → ((set pk : List ℕ) → AreLabelsBelow (length states) set → IsStorePacket first pk → AreOneSided first states left right bound set pk (alone (ends_of made ends set pk)))
    → IsOneSided first states left right bound (λ set pk. alone (ends_of old ends set pk))
goal_is_one_sided first made old states left right bound ends ids count begun grown sided = record {
  sides = λ set pk places range.
      let p : AreLabelsBelow (length ends) set = subst (λ n. AreLabelsBelow n set) (sym count) places in
      subst (λ outs. AreOneSided first states left right bound set pk (alone outs)) (sym (ends_same made old ends set pk grown ids p)) (sided set pk places range);
  targets = λ set pk o c. alone_sided (ends_of old ends set pk) o c;
}

-- the automaton of both stands while the store grows
pub both_stand : (fields : FieldTable) (st new : StoreState) (states : List ℕ) (left right : ℕ) (p q : Policy)
    → IsAutomatonOfBoth fields st states left right p q → Grows st new → AreTidy new
    → IsAutomatonOfBoth fields new states left right p q
both_stand fields st new states left right p q a g tidy = record {
  over = over_grown fields st new a.over g;
  tidy = tidy;
  numbered = a.numbered;
  states_are = stands st new states 1 (either_of p q) a.states_are g;
  left_start = state_on st new left p a.left_start g;
  right_start = state_on st new right q a.right_start g;
}

module _ (fields : FieldTable) (st : StoreState) (states : List ℕ) (left right : ℕ) (p q : Policy) (a : IsAutomatonOfBoth fields st states left right p q) where
  distinct : HasDistinct (either_of p q)
  distinct = either_distinct p q (sides_of p q a.numbered)

  -- numbers of dups are above 0
  left_above : (l : ℕ) → has_dup p l ≡ true → 0 < l
  left_above l h = let w = label_within p 1 l a.numbered.left h in omega (arith, w.0)

  right_above : (l : ℕ) → has_dup q l ≡ true → 0 < l
  right_above l h = let w = label_within q (1 + dups_of p) l a.numbered.right h in omega (arith, w.0)

  -- position: each number is one of those of all dups
  pub position_is : (positions : List ℕ) → IsRowPositionOf p q (at_dups positions) ↔ ((l : ℕ) → Contains positions l → (1 ≤ l) × (l ≤ dups_of p + dups_of q))
  position_is positions = (
    λ h l c.
        ⊎_elim
        (λ d. let w = label_within p 1 l a.numbered.left d in (w.0, omega (arith, w.1)))
        (λ d. let w = label_within q (1 + dups_of p) l a.numbered.right d in (omega (arith, w.0), omega (arith, w.1)))
        (h l c),
    λ h l c.
        let w = h l c in
        let lt : l - 1 < dups_of p + (dups_of q + 0) = omega (arith, w.0, w.1) in
        let is : 1 + (l - 1) ≡ l = omega (arith, w.0) in
        let held : has_dup (either_of p q) l ≡ true = subst (λ k. has_dup (either_of p q) k ≡ true) is (a.states_are.labels (l - 1) lt) in
        ⊎_elim (λ e. inl e) (λ e. ⊎_elim (λ f. inr f) (λ f. absurd (false_true f)) (or_cases (has_dup q l) false e)) (or_cases (has_dup p l) _ held),
  )

  -- a place of dups
  module _ (row_position : RowPosition) (ok : IsRowPositionOf p q row_position) (set : List ℕ) (same : IsSetAt row_position set) where
    -- a label of the place above 0 is a dup
    dup_of_place : (l : ℕ) → Contains set l → 0 < l → (has_dup p l ≡ true) ⊎ (has_dup q l ≡ true)
    dup_of_place l c some = by row_position ok ((same l).0 c)
      where
        by : (at : RowPosition) → IsRowPositionOf p q at → Contains (labels_at at) l → (has_dup p l ≡ true) ⊎ (has_dup q l ≡ true)
        by at_start k i = absurd (⊎_elim (λ e. omega (arith, e, some)) (λ z. z) (in_from_contains (0 ∷ []) l i))
        by (at_dups positions) k i = k l i

    -- all labels are places among the states
    pub places : AreLabelsBelow (length states) set
    places =
        all_from_members (λ l. l < length states) set
        (λ l i. by (numbers_decided l 0) (contains_from_in set l i))
      where
        by : {l : ℕ} → Decided (l ≡ 0) → Contains set l → l < length states
        by {l = l} (inl e) c = omega (arith, e, a.states_are.count)
        by {l = l} (inr other) c =
            let some : 0 < l = omega (arith, other) in
            let held = ⊎_elim (λ d. held_left p q (sides_of p q a.numbered) l d) (λ d. held_right p q (sides_of p q a.numbered) l d) (dup_of_place l c some) in
            let w = dup_within (either_of p q) a.states_are.labels l held in
            omega (arith, w.1, a.states_are.count)

    -- what a side ends at
    ends_there : (b : Policy) → ((l : ℕ) → has_dup b l ≡ true → 0 < l) → (x y : Packet) → SomeEndsAt b row_position x y ↔ EndsWithin b set x y
    ends_there b above x y = by row_position ok same
      where
        by : (at : RowPosition) → IsRowPositionOf p q at → IsSetAt at set → SomeEndsAt b at x y ↔ EndsWithin b set x y
        by at_start k s = (
          λ e. (0, (s 0).1 (contains_from_in (0 ∷ []) 0 (inl refl)), inl refl, subst (λ z. Gives z x [] y) e.1 e.2),
          λ e.
              let is : e.0 ≡ 0 = ⊎_elim (λ z. z) (λ z. absurd z) (in_from_contains (0 ∷ []) e.0 ((s e.0).0 e.1)) in
              (b, refl, subst (λ l. Gives (at_position b l) x [] y) is e.3),
        )
        by (at_dups positions) k s = (
          λ e.
              let m = e.1 in
              let g = subst (λ z. Gives z x [] y) m.3 e.2 in
              (m.0, (s m.0).1 m.1, inr m.2, subst (λ z. Gives z x [] y) (sym (above_start b m.0 (above m.0 m.2))) g),
          λ e.
              let c = (s e.0).0 e.1 in
              ⊎_elim
              (λ is.
              let none : has_dup p 0 ≡ true → ⊥ = λ h. let lt = left_above 0 h in omega (arith, lt) in
              let nor : has_dup q 0 ≡ true → ⊥ = λ h. let lt = right_above 0 h in omega (arith, lt) in
              absurd (⊎_elim none nor (k 0 (subst (λ l. Contains positions l) is c))))
              (λ h. (after b e.0, (e.0, c, h, refl), subst (λ z. Gives z x [] y) (above_start b e.0 (above e.0 h)) e.3))
              e.2,
        )

    -- the ends of both sides at a packet
    pub left_there : (x y : Packet) → IsStorePacket st x → EndsAt st states left (1 + dups_of p) 1 set x y ↔ SomeEndsAt p row_position x y
    left_there x y range =
        let e =
        side_ends st states left (1 + dups_of p) 1 p a.left_start
        (left_state fields st states left right p q a)
        (λ l dup. let w = label_within p 1 l a.numbered.left dup in (omega (arith, w.0), mark_below (1 + dups_of p) l w.1))
        set x range
        (λ l c some mark.
        ⊎_elim
        (λ d. d)
        (λ d.
        let w = label_within q (1 + dups_of p) l a.numbered.right d in
        let lt = below_from (1 + dups_of p) l mark in
        absurd (omega (arith, w.0, lt)))
        (dup_of_place l c some))
        y in
        let f = ends_there p left_above x y in
        (λ h. f.1 (e.0 h), λ h. e.1 (f.0 h))

    pub right_there : (x y : Packet) → IsStorePacket st x → EndsAt st states right (1 + dups_of p) 2 set x y ↔ SomeEndsAt q row_position x y
    right_there x y range =
        let e =
        side_ends st states right (1 + dups_of p) 2 q a.right_start
        (right_state fields st states left right p q a)
        (λ l dup.
        let w = label_within q (1 + dups_of p) l a.numbered.right dup in
        (omega (arith, w.0), mark_above (1 + dups_of p) l w.0))
        set x range
        (λ l c some mark.
        ⊎_elim
        (λ d.
        let w = label_within p 1 l a.numbered.left d in
        let le = above_from (1 + dups_of p) l mark in
        absurd (omega (arith, w.1, le)))
        (λ d. d)
        (dup_of_place l c some))
        y in
        let f = ends_there q right_above x y in
        (λ h. f.1 (e.0 h), λ h. e.1 (f.0 h))

    -- both sides end alike exactly where nothing is bad
    alike : (bad : List ℕ → List ℕ → List Out) → IsOneSided st states left right (1 + dups_of p) bad → (x : Packet) → IsStorePacket st x
        → ((y : Packet) → SomeEndsAt p row_position x y ↔ SomeEndsAt q row_position x y) ↔ (bad set x ≡ [])
    alike bad goal x range = (λ h. forth h, λ e y. (λ k. there e y k, λ k. back e y k))
      where
        sided : AreOneSided st states left right (1 + dups_of p) set x (bad set x)
        sided = goal.sides set x places range

        forth : ((y : Packet) → SomeEndsAt p row_position x y ↔ SomeEndsAt q row_position x y) → bad set x ≡ []
        forth h = empty_from (bad set x) (λ some.
            let o = first_of_some (bad set x) some in
            let y = applied o.0.act x in
            ⊎_elim
            (λ e.
            let m : MakesWithTarget (bad set x) x y 0 = (o.0.act, subst (λ t. Contains (bad set x) (record { act = o.0.act; target = t })) e o.1, refl) in
            let w = (sided.left_alone y).0 m in
            w.1 ((right_there x y range).1 ((h y).0 ((left_there x y range).0 w.0))))
            (λ e.
            let m : MakesWithTarget (bad set x) x y 1 = (o.0.act, subst (λ t. Contains (bad set x) (record { act = o.0.act; target = t })) e o.1, refl) in
            let w = (sided.right_alone y).0 m in
            w.1 ((left_there x y range).1 ((h y).1 ((right_there x y range).0 w.0))))
            (goal.targets set x o.0 o.1))

        there : bad set x ≡ [] → (y : Packet) → SomeEndsAt p row_position x y → SomeEndsAt q row_position x y
        there e y k =
            let mine = (left_there x y range).1 k in
            let its = stable (ends_decided st states right (1 + dups_of p) 2 set x y) (λ other.
            let m = (sided.left_alone y).1 (mine, other) in
            in_from_contains {X = Out} [] (record { act = m.0; target = 0 }) (subst (λ os. Contains os (record { act = m.0; target = 0 })) e m.1)) in
            (right_there x y range).0 its

        back : bad set x ≡ [] → (y : Packet) → SomeEndsAt q row_position x y → SomeEndsAt p row_position x y
        back e y k =
            let mine = (right_there x y range).1 k in
            let its = stable (ends_decided st states left (1 + dups_of p) 1 set x y) (λ other.
            let m = (sided.right_alone y).1 (mine, other) in
            in_from_contains {X = Out} [] (record { act = m.0; target = 1 }) (subst (λ os. Contains os (record { act = m.0; target = 1 })) e m.1)) in
            (left_there x y range).0 its

    -- what is recorded next is what the states of the set lead to
    pub next_is : (x z : Packet) (l : ℕ) → IsStorePacket st x → RecordsNext p q row_position x z l ↔ ((0 < l) × StateLeads st states set x z l)
    next_is x z l range = by row_position ok same
      where
        moved : (at : RowPosition) → IsSetAt at set → StateLeads st states (labels_at at) x z l ↔ StateLeads st states set x z l
        moved at s = (λ h. (h.0, (s h.0).1 h.1, h.2), λ h. (h.0, (s h.0).0 h.1, h.2))

        by : (at : RowPosition) → IsRowPositionOf p q at → IsSetAt at set → RecordsNext p q at x z l ↔ ((0 < l) × StateLeads st states set x z l)
        by at_start k s =
            let lead = start_leads st states (either_of p q) a.states_are distinct a.tidy x z range l in
            let m = moved at_start s in (
              λ r.
                  let w = lead.1 (⊎_elim (λ e. inl (subst (λ t. RecordsAt t x [] z l) e r.2)) (λ e. inr (inl (subst (λ t. RecordsAt t x [] z l) e r.2))) r.1) in
                  (w.0, m.0 w.1),
              λ h. ⊎_elim (λ r. (p, inl refl, r)) (λ r. ⊎_elim (λ u. (q, inr refl, u)) (λ n. absurd n) r) (lead.0 (h.0, m.1 h.1)),
            )
        by (at_dups positions) k s =
            let sd = sides_of p q a.numbered in
            let dups : (j : ℕ) → Contains positions j → has_dup (either_of p q) j ≡ true =
            λ j c. ⊎_elim (λ d. held_left p q sd j d) (λ d. held_right p q sd j d) (k j c) in
            let lead = members_lead st states (either_of p q) a.states_are distinct a.tidy positions x z dups range l in
            let m = moved (at_dups positions) s in (
              λ r.
                  let w =
                  lead.1
                  (⊎_elim
                  (λ e. (e.0, e.1, subst (λ t. RecordsAt t x [] z l) (e.3 ∙ sym (after_left p q sd e.0 e.2)) r.2))
                  (λ e. (e.0, e.1, subst (λ t. RecordsAt t x [] z l) (e.3 ∙ sym (after_right p q sd e.0 e.2)) r.2))
                  r.1) in
                  (w.0, m.0 w.1),
              λ h.
                  let w = lead.0 (h.0, m.1 h.1) in
                  ⊎_elim
                  (λ d. (after p w.0, inl (w.0, w.1, d, refl), subst (λ t. RecordsAt t x [] z l) (after_left p q sd w.0 d) w.2))
                  (λ d. (after q w.0, inr (w.0, w.1, d, refl), subst (λ t. RecordsAt t x [] z l) (after_right p q sd w.0 d) w.2))
                  (k w.0 w.1),
            )

    -- whatever is recorded next is a step to the set of all labels with which it is
    step_of : (x z : Packet) (l : ℕ) → IsStorePacket st x → RecordsNext p q row_position x z l → (t : List ℕ) × IsStep st states (set, x) (t, z)
    step_of x z l range r =
        let P : ℕ → Type 0 = λ k. (0 < k) × StateLeads st states set x z k in
        let all =
        all_listed P
        (λ k.
        both_decided (above_zero k)
        (decided_for (λ h. (h.0, contains_from_in set h.0 h.1, h.2)) (λ h. (h.0, in_from_contains set h.0 h.1, h.2))
        (some_decided (λ j. Sends st (slice_index states j) x z k) (λ j. sends_decided st (slice_index states j) x z k) set)))
        (length states)
        (λ k h.
        (are_states st states (either_of p q) a.states_are).targets h.1.0 x z k (place_of (length states) set h.1.0 places h.1.1) range h.1.2) in
        let here = (next_is x z l range).0 r in (
          all.0,
          record {
            packet = led_in_range st states (either_of p q) a.states_are distinct a.tidy set x z l range here.1;
            some = λ e. in_from_contains [] l (subst (λ s. Contains s l) e ((all.1.1 l).1 here));
            ascend = all.1.0;
            every = all.1.1;
          },
        )

  -- finals: nothing is bad at the packets of the row
  pub finals_is : (bad : List ℕ → List ℕ → List Out) → IsOneSided st states left right (1 + dups_of p) bad
      → (row : CertRow) → MeetsPosition fields p q row → (set : List ℕ) → IsSetAt row.row_position set
      → MeetsFinals fields p q row ↔ HasNoViolation st bad row set
  finals_is bad goal row ok set same = (
    λ h pk range here. (alike row.row_position ok set same bad goal pk range).0 (h pk (packet_of_fields fields st pk a.over range) here),
    λ h pk r here.
        let range = packet_in_range fields st pk a.over r in
        (alike row.row_position ok set same bad goal pk range).1 (h pk range here),
  )

  -- hop: each step leads to a row
  pub hop_is : (all : List CertRow) (row : CertRow) → MeetsPosition fields p q row → (set : List ℕ) → IsSetAt row.row_position set
      → MeetsHop fields p q all row ↔ StepsLeadToRows st states all row set
  hop_is all row ok set same = (
    λ h pk x t range here step.
        let one = first_of_some t step.some in
        let lead = (step.every one.0).0 one.1 in
        let next = (next_is row.row_position ok set same pk x one.0 range).1 lead in
        let r = h pk x one.0 (packet_of_fields fields st pk a.over range) here next in (
          r.0,
          r.1,
          r.2,
          λ l. (
            λ c. (step.every l).1 ((next_is row.row_position ok set same pk x l range).0 ((r.3 l).0 c)),
            λ c. (r.3 l).1 ((next_is row.row_position ok set same pk x l range).1 ((step.every l).0 c)),
          ),
          r.4,
        ),
    λ h pk x l ok_pk here next.
        let range = packet_in_range fields st pk a.over ok_pk in
        let step = step_of row.row_position ok set same pk x l range next in
        let r = h pk x step.0 range here step.1 in (
          r.0,
          r.1,
          r.2,
          λ k. (
            λ c. (next_is row.row_position ok set same pk x k range).1 ((step.1.every k).0 ((r.3 k).0 c)),
            λ n. (r.3 k).1 ((step.1.every k).1 ((next_is row.row_position ok set same pk x k range).0 n)),
          ),
          r.4,
        ),
  )
