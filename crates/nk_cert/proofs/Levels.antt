-- Levels of both policies together tell whether they do the same.
use Rattle.std.proofs.Common.{◌≡◌, ℕ, zero, suc, ◌+◌, ◌-◌, ◌<◌, Bool, true, false, ◌⊎◌, inl, inr, ⊎_elim, List, [], ◌∷◌, ◌++◌, length, refl, sym, ap, subst, ◌∙◌, arith}
use Rattle.std.specs.Prelude.{◌↔◌, Contains, slice_index}
use Rattle.nk_field.specs.declared.packet.Packet.{Packet}
use Rattle.nk_field.specs.Act.{applied}
use Rattle.nk_field.specs.Packet.{FieldTable}
use Rattle.nk_field.proofs.Lists.{in_from_contains, contains_from_in, in_decided, numbers_decided, Decided, stable}
use Rattle.nk_policy.specs.Policy.{Policy, dups_of}
use Rattle.nk_policy.specs.Meaning.{Gives}
use Rattle.nk_policy.specs.After.{has_dup, after}
use Rattle.nk_policy.specs.Distinct.{HasDistinct}
use Rattle.nk_policy.specs.Labels.{HasRecorded, HasExactly}
use Rattle.nk_policy.specs.PositionSets.{at_position, last_from, IsPositionOfEither}
use Rattle.nk_policy.proofs.PositionSteps.{one_set, start_of_two, left_gives, right_gives}
use Rattle.nk_policy.proofs.ListParts.{last_of_list}
use Rattle.nk_store.specs.declared.node.Out.{Out}
use Rattle.nk_store.specs.Nodes.{InRange}
use Rattle.nk_store.specs.StoreState.{StoreState, IsStorePacket}
use Rattle.nk_store.proofs.InRange.{packet_in_range, packet_of_fields}
use Rattle.nk_determ.specs.Exact.{Sends}
use Rattle.nk_auto.specs.Automaton.{IsState, IsAutomaton}
use Rattle.nk_auto.proofs.Stating.{label_within}
use Rattle.nk_determ.specs.Pairs.{Node, AreLabelsBelow}
use Rattle.nk_determ.specs.Levels.{At, AreLevels}
use Rattle.nk_reach.specs.Sides.{label_side, EndsAt}
pub use Rattle.nk_reach.proofs.SideLabels.{mark_below, mark_above, below_from, above_from}
use Rattle.nk_determ.specs.Counterexamples.{MakesWithTarget}
pub use Rattle.nk_runs.proofs.Listings.{both_decided, decided_for, above_zero, empty_from, first_of_some}
use Rattle.nk_runs.proofs.Listings.{either_decided, some_decided, sends_decided}
use Rattle.nk_runs.proofs.Stands.{stands, packet_back}
use Rattle.nk_runs.proofs.Labelled.{met_in_range, met_labels, labels_met}
use Rattle.nk_runs.proofs.Ends.{never_violation, level_places}
use Rattle.nk_cert.specs.Equality.{AreSame, on_left, on_right, HasOneAlone}
use Rattle.nk_cert.specs.Together.{either_of, IsAtEither, EndsWithin, AgreeBySets}
use Rattle.nk_cert.specs.Levelled.{IsAutomatonOfBoth, AreLevelsOfBoth}
use Rattle.nk_cert.proofs.Together.{sides_of, exact_for, either_at, either_position, last_is_last, position_dup, either_distinct, same_from, left_state, right_state, have_sets}

-- at a position above 0 what is left is what is left after the dup
pub above_start : (p : Policy) (l : ℕ) → 0 < l → at_position p l ≡ after p l
above_start p zero lt = absurd (omega (arith, lt))
above_start p (suc l) lt = refl

-- whether a side ends at a packet is decided
pub ends_decided : (st : StoreState) (states : List ℕ) (d bound k : ℕ) (s x y : List ℕ) → Decided (EndsAt st states d bound k s x y)
ends_decided st states d bound k s x y =
    either_decided
    (both_decided
    (decided_for (λ i. contains_from_in s 0 i) (λ c. in_from_contains s 0 c) (in_decided numbers_decided s 0))
    (sends_decided st d x y 0))
    (decided_for (λ h. (h.0, contains_from_in s h.0 h.1, h.2.0, h.2.1.0, h.2.1.1)) (λ h. (h.0, in_from_contains s h.0 h.1, (h.2, (h.3, h.4))))
    (some_decided (λ l. (0 < l) × ((label_side bound l ≡ k) × Sends st (slice_index states l) x y 0))
    (λ l. both_decided (above_zero l) (both_decided (numbers_decided (label_side bound l) k) (sends_decided st (slice_index states l) x y 0)))
    s))

-- a side's marked ends at a set are the ends of its own members
module _ (st : StoreState) (states : List ℕ) (d bound k : ℕ) (a : Policy) (start : IsState st d a)
    (state : (l : ℕ) → has_dup a l ≡ true → IsState st (slice_index states l) (after a l))
    (own : (l : ℕ) → has_dup a l ≡ true → (0 < l) × (label_side bound l ≡ k))
    (s x : List ℕ) (range : IsStorePacket st x)
    (is_own : (l : ℕ) → Contains s l → 0 < l → label_side bound l ≡ k → has_dup a l ≡ true) where
  pub side_ends : (y : List ℕ) → EndsAt st states d bound k s x y ↔ EndsWithin a s x y
  side_ends y = (
    λ e.
        ⊎_elim
        (λ h. (0, h.0, inl refl, (start.ends x y range).0 h.1))
        (λ h.
        let dup = is_own h.0 h.1 h.2 h.3 in
        let g = ((state h.0 dup).ends x y range).0 h.4 in
        (h.0, h.1, inr dup, subst (λ q. Gives q x [] y) (sym (above_start a h.0 h.2)) g))
        e,
    λ e.
        ⊎_elim
        (λ is.
        let here : Contains s 0 = subst (λ l. Contains s l) is e.1 in
        let g = subst (λ l. Gives (at_position a l) x [] y) is e.3 in
        inl (here, (start.ends x y range).1 g))
        (λ dup.
        let o = own e.0 dup in
        let g = subst (λ q. Gives q x [] y) (above_start a e.0 o.0) e.3 in
        inr (e.0, e.1, o.0, o.1, ((state e.0 dup).ends x y range).1 g))
        e.2,
  )

module _ (fields : FieldTable) (st : StoreState) (states : List ℕ) (left right : ℕ) (p q : Policy) (a : IsAutomatonOfBoth fields st states left right p q) where
  -- the left side's ends at the positions after some records
  pub left_ends_at : (pk : Packet) (u : List Packet) (s x : List ℕ) → HasExactly (IsPositionOfEither p q pk u) s → IsStorePacket st x
      → (y : Packet) → EndsAt st states left (1 + dups_of p) 1 s x y ↔ EndsWithin p s x y
  left_ends_at pk u s x h range y =
      side_ends st states left (1 + dups_of p) 1 p a.left_start
      (left_state fields st states left right p q a)
      (λ l dup. let w = label_within p 1 l a.numbered.left dup in (omega (arith, w.0), mark_below (1 + dups_of p) l w.1))
      s x range
      (λ l c some mark.
      ⊎_elim
      (λ i. position_dup p pk u l i some)
      (λ i.
      let w = label_within q (1 + dups_of p) l a.numbered.right (position_dup q pk u l i some) in
      let lt = below_from (1 + dups_of p) l mark in
      absurd (omega (arith, w.0, lt)))
      ((h.1 l).0 c))
      y

  -- and the right side's
  pub right_ends_at : (pk : Packet) (u : List Packet) (s x : List ℕ) → HasExactly (IsPositionOfEither p q pk u) s → IsStorePacket st x
      → (y : Packet) → EndsAt st states right (1 + dups_of p) 2 s x y ↔ EndsWithin q s x y
  right_ends_at pk u s x h range y =
      side_ends st states right (1 + dups_of p) 2 q a.right_start
      (right_state fields st states left right p q a)
      (λ l dup.
      let w = label_within q (1 + dups_of p) l a.numbered.right dup in
      (omega (arith, w.0), mark_above (1 + dups_of p) l w.0))
      s x range
      (λ l c some mark.
      ⊎_elim
      (λ i.
      let w = label_within p 1 l a.numbered.left (position_dup p pk u l i some) in
      let le = above_from (1 + dups_of p) l mark in
      absurd (omega (arith, w.1, le)))
      (λ i. position_dup q pk u l i some)
      ((h.1 l).0 c))
      y

-- records that lead to a set at a packet
record IsAfter (st : StoreState) (p q : Policy) (n : Node) : Type 0 where
  start : Packet
  records : List Packet
  in_range : IsStorePacket st start
  last : last_from start records ≡ n.1
  exactly : HasExactly (IsPositionOfEither p q start records) n.0
  range : IsStorePacket st n.1

module _ (fields : FieldTable) (p q : Policy) (states : List ℕ) (left right : ℕ) (first old new : StoreState) (ss : List (List ℕ)) (set start : ℕ) (bad : List ℕ → List ℕ → List Out) (ls : List (List (ℕ × ℕ))) (broken : Bool) (lv : AreLevelsOfBoth fields p q states left right first old new ss set start bad ls broken) where
  -- what is known of both

  distinct : HasDistinct (either_of p q)
  distinct = either_distinct p q (sides_of p q lv.automaton.numbered)

  auto : IsAutomaton old states 1 (either_of p q)
  auto = stands first old states 1 (either_of p q) lv.automaton.states_are lv.grown

  -- a packet of one store is one of the other
  to_first : (pk : List ℕ) → IsStorePacket old pk → IsStorePacket first pk
  to_first pk r = packet_back first old pk lv.grown r

  to_old : (pk : List ℕ) → IsStorePacket first pk → IsStorePacket old pk
  to_old pk r = subst (λ m. InRange m pk) (sym lv.grown.maxes) r

  -- what is met has records after it
  after_met : (i : ℕ) (n : Node) → At old states (0 ∷ []) start i n → IsAfter first p q n
  after_met zero n h = record {
    start = n.1;
    records = [];
    in_range = to_first n.1 h.packet;
    last = refl;
    exactly = subst (λ s. HasExactly (IsPositionOfEither p q n.1 []) s) (sym h.set_is) (start_of_two p q (sides_of p q lv.automaton.numbered) n.1);
    range = to_first n.1 h.packet;
  }
  after_met (suc i) n h =
      let l = met_labels old states start (either_of p q) auto distinct lv.tidy (suc i) n h in
      record {
        start = l.0;
        records = l.1 ++ n.1 ∷ [];
        in_range = to_first l.0 l.2.0;
        last = last_is_last l.0 l.1 n.1;
        exactly = exact_for (HasRecorded (either_of p q) l.0 (l.1 ++ n.1 ∷ [])) (IsPositionOfEither p q l.0 (l.1 ++ n.1 ∷ [])) n.0 (either_position p q l.0 l.1 n.1) l.4.1;
        range = to_first n.1 (met_in_range old states start (either_of p q) auto distinct lv.tidy (suc i) n h);
      }

  -- the positions after records are met at the packet recorded last
  met_after : (pk : Packet) (u : List Packet) (s : List ℕ) → IsStorePacket old pk → HasExactly (IsPositionOfEither p q pk u) s → (s ≡ [] → ⊥)
      → (i : ℕ) × At old states (0 ∷ []) start i (s, last_from pk u)
  met_after pk [] s ok h some =
      (0, record { set_is = one_set (IsPositionOfEither p q pk []) s (0 ∷ []) h (start_of_two p q (sides_of p q lv.automaton.numbered) pk); packet = ok; has = lv.start_is pk ok })
  met_after pk (y ∷ u) s ok h some =
      let c = last_of_list y u in
      let h' : HasExactly (IsAtEither p q pk (c.0 ++ c.1 ∷ [])) s = subst (λ w. HasExactly (IsAtEither p q pk w) s) c.2 h in
      let e = either_at p q pk (c.0 ++ c.1 ∷ []) in
      let exactly = exact_for (IsAtEither p q pk (c.0 ++ c.1 ∷ [])) (HasRecorded (either_of p q) pk (c.0 ++ c.1 ∷ [])) s (λ l. ((e l).1, (e l).0)) h' in
      let at : At old states (0 ∷ []) start (suc (length c.0)) (s, c.1) =
      labels_met old states start (either_of p q) auto distinct lv.tidy (suc (length c.0)) (s, c.1) (pk, c.0, (ok, lv.start_is pk ok), refl, (some, exactly)) in
      let last : last_from pk (y ∷ u) ≡ c.1 = ap (λ w. last_from pk w) c.2 ∙ last_is_last pk c.0 c.1 in
      (suc (length c.0), subst (λ x. At old states (0 ∷ []) start (suc (length c.0)) (s, x)) (sym last) at)

  -- where no level has a violation, the set of some records has none
  no_violation_at : AreLevels old new ss states set start bad ls false → (i : ℕ) (n : Node) → At old states (0 ∷ []) start i n
      → (bad n.0 n.1 ≡ []) × AreLabelsBelow (length states) n.0
  no_violation_at levels i n at =
      let good = met_in_range old states start (either_of p q) auto distinct lv.tidy i n at in
      let c = levels.complete refl i n (subst (λ t. At old states t start i n) (sym lv.set_is) at) in (
        empty_from (bad n.0 n.1) (never_violation old new ss states set start bad ls (either_of p q) (λ y. Unit {0}) auto distinct lv.tidy lv.set_is levels c.0 n c.2 good c.3),
        level_places old new ss states set start bad ls (either_of p q) (λ y. Unit {0}) auto distinct lv.tidy lv.set_is false levels c.0 n c.2 c.3,
      )

  -- so the members of both sides end alike
  pub agree_by_levels : AreLevels old new ss states set start bad ls false → AgreeBySets fields p q
  agree_by_levels levels pk u s ok h y = (λ e. forth e, λ e. back e)
    where
      ok_old : IsStorePacket old pk
      ok_old = to_old pk (packet_in_range fields first pk lv.automaton.over ok)

      x : List ℕ
      x = last_from pk u

      some : (l : ℕ) → Contains s l → s ≡ [] → ⊥
      some l c e = in_from_contains [] l (subst (λ t. Contains t l) e c)

      forth : EndsWithin p s (last_from pk u) y → EndsWithin q s (last_from pk u) y
      forth e =
          let at = met_after pk u s ok_old h (some e.0 e.1) in
          let range = (after_met at.0 (s, last_from pk u) at.1).range in
          let none = no_violation_at levels at.0 (s, last_from pk u) at.1 in
          let sided = lv.goal.sides s (last_from pk u) none.1 range in
          let mine = (left_ends_at fields first states left right p q lv.automaton pk u s (last_from pk u) h range y).1 e in
          let its = stable (ends_decided first states right (1 + dups_of p) 2 s (last_from pk u) y) (λ other.
          let m = (sided.left_alone y).1 (mine, other) in
          let c = subst (λ os. Contains os (record { act = m.0; target = 0 })) none.0 m.1 in
          in_from_contains {X = Out} [] (record { act = m.0; target = 0 }) c) in
          (right_ends_at fields first states left right p q lv.automaton pk u s (last_from pk u) h range y).0 its

      back : EndsWithin q s (last_from pk u) y → EndsWithin p s (last_from pk u) y
      back e =
          let at = met_after pk u s ok_old h (some e.0 e.1) in
          let range = (after_met at.0 (s, last_from pk u) at.1).range in
          let none = no_violation_at levels at.0 (s, last_from pk u) at.1 in
          let sided = lv.goal.sides s (last_from pk u) none.1 range in
          let mine = (right_ends_at fields first states left right p q lv.automaton pk u s (last_from pk u) h range y).1 e in
          let its = stable (ends_decided first states left (1 + dups_of p) 1 s (last_from pk u) y) (λ other.
          let m = (sided.right_alone y).1 (mine, other) in
          let c = subst (λ os. Contains os (record { act = m.0; target = 1 })) none.0 m.1 in
          in_from_contains {X = Out} [] (record { act = m.0; target = 1 }) c) in
          (left_ends_at fields first states left right p q lv.automaton pk u s (last_from pk u) h range y).0 its

  -- and both policies do the same
  pub same_by_levels : AreLevels old new ss states set start bad ls false → AreSame fields p q
  same_by_levels levels =
      same_from p q (sides_of p q lv.automaton.numbered) fields (have_sets fields first states left right p q lv.automaton)
      (agree_by_levels levels)

  -- a violation is an end of a history of one side alone
  pub differ_by_levels : AreLevels old new ss states set start bad ls true → HasOneAlone fields p q
  differ_by_levels levels =
      let b = levels.broken_at refl in
      let n = b.0 in
      let lt : length ls - 1 < length ls = omega (arith, levels.some) in
      let at = subst (λ t. At old states t start (length ls - 1) n) lv.set_is (levels.exact.sound (length ls - 1) n lt b.1 b.2) in
      let r = after_met (length ls - 1) n at in
      let places = level_places old new ss states set start bad ls (either_of p q) (λ y. Unit {0}) auto distinct lv.tidy lv.set_is true levels (length ls - 1) n lt b.2 in
      let sided = lv.goal.sides n.0 n.1 places r.range in
      let o = first_of_some (bad n.0 n.1) b.3 in
      let y = applied o.0.act n.1 in
      let ok = packet_of_fields fields first r.start lv.automaton.over r.in_range in
      let mine = left_ends_at fields first states left right p q lv.automaton r.start r.records n.0 n.1 r.exactly r.range y in
      let its = right_ends_at fields first states left right p q lv.automaton r.start r.records n.0 n.1 r.exactly r.range y in
      let l = left_gives p q (sides_of p q lv.automaton.numbered) r.start r.records y n.0 r.exactly in
      let g = right_gives p q (sides_of p q lv.automaton.numbered) r.start r.records y n.0 r.exactly in
      ⊎_elim
      (λ e.
      let m : MakesWithTarget (bad n.0 n.1) n.1 y 0 = (o.0.act, subst (λ t. Contains (bad n.0 n.1) (record { act = o.0.act; target = t })) e o.1, refl) in
      let w = (sided.left_alone y).0 m in (
        on_left,
        record { start = r.start; records = r.records; last = y },
        (
          ok,
          l.1 (subst (λ x. EndsWithin p n.0 x y) (sym r.last) (mine.0 w.0)),
          λ h. w.1 (its.1 (subst (λ x. EndsWithin q n.0 x y) r.last (g.0 h))),
        ),
      ))
      (λ e.
      let m : MakesWithTarget (bad n.0 n.1) n.1 y 1 = (o.0.act, subst (λ t. Contains (bad n.0 n.1) (record { act = o.0.act; target = t })) e o.1, refl) in
      let w = (sided.right_alone y).0 m in (
        on_right,
        record { start = r.start; records = r.records; last = y },
        (
          ok,
          g.1 (subst (λ x. EndsWithin q n.0 x y) (sym r.last) (its.0 w.0)),
          λ h. w.1 (mine.1 (subst (λ x. EndsWithin p n.0 x y) r.last (l.0 h))),
        ),
      ))
      (lv.goal.targets n.0 n.1 o.0 o.1)
