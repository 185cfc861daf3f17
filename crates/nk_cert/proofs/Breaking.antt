-- What breaks the goal of sides are the histories of one policy alone.
use Rattle.std.proofs.Common.{◌≡◌, ℕ, ◌+◌, inl, inr, ◌⊎◌, ⊎_elim, List, [], ◌∷◌, length, refl, sym, subst}
use Rattle.std.specs.Prelude.{◌↔◌}
use Rattle.nk_field.specs.declared.packet.Packet.{Packet}
use Rattle.nk_field.specs.Packet.{FieldTable}
use Rattle.nk_field.specs.Order.{Found, IsLeast}
use Rattle.nk_policy.specs.Policy.{Policy, dups_of}
use Rattle.nk_policy.specs.Meaning.{Gives}
use Rattle.nk_policy.specs.Distinct.{HasDistinct}
use Rattle.nk_policy.specs.Labels.{HasRecorded, HasExactly}
use Rattle.nk_policy.specs.PositionSets.{IsPosition, last_from, IsPositionOfEither, AreSides}
use Rattle.nk_policy.proofs.PositionSteps.{left_gives, right_gives}
use Rattle.nk_store.specs.declared.node.Out.{Out}
use Rattle.nk_store.specs.StoreState.{StoreState, IsStorePacket}
use Rattle.nk_store.proofs.InRange.{packet_in_range, packet_of_fields}
use Rattle.nk_determ.specs.Pairs.{Node, AreLabelsBelow, IsStep}
use Rattle.nk_reach.specs.Sides.{EndsAt}
use Rattle.nk_determ.specs.Counterexamples.{Walks, IsCounterexampleWithTarget, IsCounterexample}
use Rattle.nk_runs.specs.Labels.{IsAmong}
use Rattle.nk_runs.proofs.Walking.{walk_in_range, walks_met, walk_places, given_walked}
use Rattle.nk_cert.specs.Equality.{Side, on_left, on_right, IsAloneFrom, IsOfOneAlone, IsLeastDifference}
use Rattle.nk_cert.specs.Together.{either_of, IsAtEither, EndsWithin}
use Rattle.nk_cert.specs.Levelled.{IsAutomatonOfBoth, HasEach, IsOneSided, target_of_side}
use Rattle.nk_cert.proofs.Together.{sides_of, exact_for, either_at, either_distinct}
use Rattle.nk_cert.proofs.Levels.{left_ends_at, right_ends_at}

-- positions of both as one are positions of either
positions_either : (p q : Policy) (pk : Packet) (u : List Packet) (s : List ℕ) → HasExactly (IsPosition (either_of p q) pk u) s
    → HasExactly (IsPositionOfEither p q pk u) s
positions_either p q pk [] s h =
    exact_for (λ l. l ≡ 0) (IsPositionOfEither p q pk []) s (λ l. (λ e. inl e, λ i. ⊎_elim (λ e. e) (λ e. e) i)) h
positions_either p q pk (y ∷ u) s h =
    exact_for (HasRecorded (either_of p q) pk (y ∷ u)) (IsAtEither p q pk (y ∷ u)) s (either_at p q pk (y ∷ u)) h

-- the set where a history's records end
record IsEnd (st : StoreState) (states : List ℕ) (p q : Policy) (f : Found) (n : Node) : Type 0 where
  exactly : HasExactly (IsPositionOfEither p q f.start f.records) n.0
  last : n.1 ≡ last_from f.start f.records
  range : IsStorePacket st n.1
  places : AreLabelsBelow (length states) n.0

module _ (fields : FieldTable) (st : StoreState) (states : List ℕ) (left right : ℕ) (p q : Policy) (a : IsAutomatonOfBoth fields st states left right p q) where
  sides : AreSides p q
  sides = sides_of p q a.numbered

  distinct : HasDistinct (either_of p q)
  distinct = either_distinct p q sides

  end_is : (f : Found) (n : Node) → IsStorePacket st f.start → Walks (IsStep st states) (0 ∷ [], f.start) f.records n → IsEnd st states p q f n
  end_is f n r w =
      let m = (walks_met st states (either_of p q) a.states_are distinct a.tidy f.start f.records n r).0 w in
      record {
        exactly = positions_either p q f.start f.records n.0 m.0.1;
        last = m.1;
        range = walk_in_range st states f.records (0 ∷ [], f.start) n r w;
        places = walk_places st states (either_of p q) a.states_are distinct a.tidy f.start f.records n m;
      }

  -- a side has the history exactly where it ends there
  left_end : (f : Found) (n : Node) → IsEnd st states p q f n
      → Gives p f.start f.records f.last ↔ EndsAt st states left (1 + dups_of p) 1 n.0 n.1 f.last
  left_end f n e =
      let at = left_ends_at fields st states left right p q a f.start f.records n.0 n.1 e.exactly e.range f.last in
      let g = left_gives p q sides f.start f.records f.last n.0 e.exactly in (
        λ h. at.1 (subst (λ x. EndsWithin p n.0 x f.last) (sym e.last) (g.0 h)),
        λ h. g.1 (subst (λ x. EndsWithin p n.0 x f.last) e.last (at.0 h)),
      )

  right_end : (f : Found) (n : Node) → IsEnd st states p q f n
      → Gives q f.start f.records f.last ↔ EndsAt st states right (1 + dups_of p) 2 n.0 n.1 f.last
  right_end f n e =
      let at = right_ends_at fields st states left right p q a f.start f.records n.0 n.1 e.exactly e.range f.last in
      let g = right_gives p q sides f.start f.records f.last n.0 e.exactly in (
        λ h. at.1 (subst (λ x. EndsWithin q n.0 x f.last) (sym e.last) (g.0 h)),
        λ h. g.1 (subst (λ x. EndsWithin q n.0 x f.last) e.last (at.0 h)),
      )

  module _ (bad : List ℕ → List ℕ → List Out) (goal : IsOneSided st states left right (1 + dups_of p) bad) (start : ℕ) where
    -- with target 0 the left policy's histories alone
    pub left_breaks : (f : Found) → IsCounterexampleWithTarget st states (0 ∷ []) start bad 0 f ↔ IsAloneFrom (IsAmong st start) p q f
    left_breaks f = (
      λ b.
          let e = end_is f b.end b.starts.packet b.walk in
          let w = ((goal.sides b.end.0 b.end.1 e.places e.range).left_alone f.last).0 b.makes in
          ((b.starts.packet, b.starts.has), (left_end f b.end e).1 w.0, λ h. w.1 ((right_end f b.end e).0 h)),
      λ h.
          let w = given_walked st states (either_of p q) a.states_are distinct a.tidy f.start f.records f.last h.0.0 (inl h.1) in
          let e = end_is f w.0 h.0.0 w.1 in
          record {
            starts = record { set_is = refl; packet = h.0.0; has = h.0.1 };
            end = w.0;
            walk = w.1;
            makes =
                ((goal.sides w.0.0 w.0.1 e.places e.range).left_alone f.last).1
                ((left_end f w.0 e).0 h.1, λ k. h.2 ((right_end f w.0 e).1 k));
          },
    )

    -- with target 1 the right policy's
    pub right_breaks : (f : Found) → IsCounterexampleWithTarget st states (0 ∷ []) start bad 1 f ↔ IsAloneFrom (IsAmong st start) q p f
    right_breaks f = (
      λ b.
          let e = end_is f b.end b.starts.packet b.walk in
          let w = ((goal.sides b.end.0 b.end.1 e.places e.range).right_alone f.last).0 b.makes in
          ((b.starts.packet, b.starts.has), (right_end f b.end e).1 w.0, λ h. w.1 ((left_end f b.end e).0 h)),
      λ h.
          let w = given_walked st states (either_of p q) a.states_are distinct a.tidy f.start f.records f.last h.0.0 (inr (inl h.1)) in
          let e = end_is f w.0 h.0.0 w.1 in
          record {
            starts = record { set_is = refl; packet = h.0.0; has = h.0.1 };
            end = w.0;
            walk = w.1;
            makes =
                ((goal.sides w.0.0 w.0.1 e.places e.range).right_alone f.last).1
                ((right_end f w.0 e).0 h.1, λ k. h.2 ((left_end f w.0 e).1 k));
          },
    )

    -- and there is no other target
    pub no_other_breaks : (t : ℕ) (f : Found) → IsCounterexampleWithTarget st states (0 ∷ []) start bad t f → (t ≡ 0) ⊎ (t ≡ 1)
    no_other_breaks t f b = goal.targets b.end.0 b.end.1 (record { act = b.makes.0; target = t }) b.makes.1

    module _ (each : HasEach st start) where
      -- from all packets
      of_side : (side : Side) (f : Found) → IsCounterexampleWithTarget st states (0 ∷ []) start bad (target_of_side side) f → IsOfOneAlone fields p q side f
      of_side on_left f b =
          let h = (left_breaks f).0 b in (packet_of_fields fields st f.start a.over h.0.0, h.1, h.2)
      of_side on_right f b =
          let h = (right_breaks f).0 b in (packet_of_fields fields st f.start a.over h.0.0, h.1, h.2)

      breaks_by : (side : Side) (f : Found) → IsOfOneAlone fields p q side f → IsCounterexample st states (0 ∷ []) start bad f
      breaks_by on_left f h =
          let r = packet_in_range fields st f.start a.over h.0 in (0, (left_breaks f).1 ((r, each f.start r), h.1, h.2))
      breaks_by on_right f h =
          let r = packet_in_range fields st f.start a.over h.0 in (1, (right_breaks f).1 ((r, each f.start r), h.1, h.2))

      some_side : (f : Found) → IsCounterexample st states (0 ∷ []) start bad f → (side : Side) × IsOfOneAlone fields p q side f
      some_side f b =
          ⊎_elim
          (λ e. (on_left, of_side on_left f (subst (λ t. IsCounterexampleWithTarget st states (0 ∷ []) start bad t f) e b.1)))
          (λ e. (on_right, of_side on_right f (subst (λ t. IsCounterexampleWithTarget st states (0 ∷ []) start bad t f) e b.1)))
          (no_other_breaks b.0 f b.1)

      -- so the least that breaks is the least difference
      pub least_difference : (side : Side) (f : Found) → IsCounterexampleWithTarget st states (0 ∷ []) start bad (target_of_side side) f
          → IsLeast (λ g. IsCounterexample st states (0 ∷ []) start bad g) f → IsLeastDifference fields p q side f
      least_difference side f b least =
          (of_side side f b, (some_side f least.0, λ g h. least.1 g (breaks_by h.0 g h.1)))
