-- Where neither policy has a history of its own from a packet, both have the same ones: what a run ends with is decided.
use Rattle.std.proofs.Common.{◌≡◌, ℕ, ◌+◌, inl, inr, ⊎_elim, List, [], ◌∷◌, length, sym, subst}
use Rattle.std.specs.Prelude.{◌↔◌}
use Rattle.nk_field.specs.declared.packet.Packet.{Packet}
use Rattle.nk_field.specs.Packet.{FieldTable}
use Rattle.nk_field.proofs.Lists.{stable}
use Rattle.nk_policy.specs.Policy.{Policy, dups_of}
use Rattle.nk_policy.specs.Meaning.{Gives}
use Rattle.nk_policy.specs.Distinct.{HasDistinct}
use Rattle.nk_policy.specs.Labels.{HasRecorded, HasExactly}
use Rattle.nk_policy.specs.PositionSets.{IsPosition, last_from, IsPositionOfEither, AreSides}
use Rattle.nk_policy.proofs.PositionSteps.{left_gives, right_gives}
use Rattle.nk_store.specs.StoreState.{StoreState, IsStorePacket}
use Rattle.nk_determ.specs.Pairs.{Node, IsStep}
use Rattle.nk_reach.specs.Sides.{EndsAt}
use Rattle.nk_determ.specs.Counterexamples.{Walks}
use Rattle.nk_runs.proofs.Walking.{walk_in_range, walks_met, given_walked}
use Rattle.nk_cert.specs.Together.{either_of, IsAtEither, EndsWithin}
use Rattle.nk_cert.specs.Levelled.{IsAutomatonOfBoth}
use Rattle.nk_cert.proofs.Together.{sides_of, exact_for, either_at, either_distinct}
use Rattle.nk_cert.proofs.Levels.{ends_decided, left_ends_at, right_ends_at}
use Rattle.nk_difference.specs.Alone.{HasAlone}

-- positions of both as one are positions of either
positions_either : (p q : Policy) (pk : Packet) (u : List Packet) (s : List ℕ) → HasExactly (IsPosition (either_of p q) pk u) s → HasExactly (IsPositionOfEither p q pk u) s
positions_either p q pk [] s h =
    exact_for (λ l. l ≡ 0) (IsPositionOfEither p q pk []) s (λ l. (λ e. inl e, λ i. ⊎_elim (λ e. e) (λ e. e) i)) h
positions_either p q pk (y ∷ u) s h =
    exact_for (HasRecorded (either_of p q) pk (y ∷ u)) (IsAtEither p q pk (y ∷ u)) s (either_at p q pk (y ∷ u)) h

-- the set where a history's records end
record IsEnd (st : StoreState) (p q : Policy) (pk : Packet) (u : List Packet) (n : Node) : Type 0 where
  exactly : HasExactly (IsPositionOfEither p q pk u) n.0
  last : n.1 ≡ last_from pk u
  range : IsStorePacket st n.1

module _ (fields : FieldTable) (st : StoreState) (states : List ℕ) (left right : ℕ) (p q : Policy) (a : IsAutomatonOfBoth fields st states left right p q) where
  sides : AreSides p q
  sides = sides_of p q a.numbered

  distinct : HasDistinct (either_of p q)
  distinct = either_distinct p q sides

  end_is : (pk : Packet) (u : List Packet) (n : Node) → IsStorePacket st pk → Walks (IsStep st states) (0 ∷ [], pk) u n → IsEnd st p q pk u n
  end_is pk u n r w =
      let m = (walks_met st states (either_of p q) a.states_are distinct a.tidy pk u n r).0 w in
      record {
        exactly = positions_either p q pk u n.0 m.0.1;
        last = m.1;
        range = walk_in_range st states u (0 ∷ [], pk) n r w;
      }

  left_end : (pk : Packet) (u : List Packet) (y : Packet) (n : Node) → IsEnd st p q pk u n → Gives p pk u y ↔ EndsAt st states left (1 + dups_of p) 1 n.0 n.1 y
  left_end pk u y n e =
      let at = left_ends_at fields st states left right p q a pk u n.0 n.1 e.exactly e.range y in
      let g = left_gives p q sides pk u y n.0 e.exactly in (
        λ h. at.1 (subst (λ x. EndsWithin p n.0 x y) (sym e.last) (g.0 h)),
        λ h. g.1 (subst (λ x. EndsWithin p n.0 x y) e.last (at.0 h)),
      )

  right_end : (pk : Packet) (u : List Packet) (y : Packet) (n : Node) → IsEnd st p q pk u n → Gives q pk u y ↔ EndsAt st states right (1 + dups_of p) 2 n.0 n.1 y
  right_end pk u y n e =
      let at = right_ends_at fields st states left right p q a pk u n.0 n.1 e.exactly e.range y in
      let g = right_gives p q sides pk u y n.0 e.exactly in (
        λ h. at.1 (subst (λ x. EndsWithin q n.0 x y) (sym e.last) (g.0 h)),
        λ h. g.1 (subst (λ x. EndsWithin q n.0 x y) e.last (at.0 h)),
      )

  -- the right policy has the left one's histories
  pub right_has : (pk : Packet) → IsStorePacket st pk → (HasAlone p q pk → ⊥) → (u : List Packet) (y : Packet) → Gives p pk u y → Gives q pk u y
  right_has pk r none u y h =
      let w = given_walked st states (either_of p q) a.states_are distinct a.tidy pk u y r (inl h) in
      let n : Node = w.0 in
      let e = right_end pk u y n (end_is pk u n r w.1) in
      e.1 (stable (ends_decided st states right (1 + dups_of p) 2 n.0 n.1 y) (λ other. none (u, y, h, λ g. other (e.0 g))))

  -- and the left one the right one's
  pub left_has : (pk : Packet) → IsStorePacket st pk → (HasAlone q p pk → ⊥) → (u : List Packet) (y : Packet) → Gives q pk u y → Gives p pk u y
  left_has pk r none u y h =
      let w = given_walked st states (either_of p q) a.states_are distinct a.tidy pk u y r (inr (inl h)) in
      let n : Node = w.0 in
      let e = left_end pk u y n (end_is pk u n r w.1) in
      e.1 (stable (ends_decided st states left (1 + dups_of p) 1 n.0 n.1 y) (λ other. none (u, y, h, λ g. other (e.0 g))))
