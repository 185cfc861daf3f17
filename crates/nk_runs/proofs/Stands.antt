-- An automaton in a store that has grown, and its states.
use Rattle.std.proofs.Common.{◌≡◌, ℕ, zero, suc, ◌+◌, ◌<◌, ⊎_elim, List, length, subst, arith}
use Rattle.std.specs.Prelude.{slice_index}
use Rattle.nk_policy.specs.Policy.{Policy, dups_of}
use Rattle.nk_policy.specs.After.{after}
use Rattle.nk_store.specs.Nodes.{InRange}
use Rattle.nk_store.specs.StoreState.{StoreState, IsId, IsStorePacket, Grows}
use Rattle.nk_determ.specs.Automaton.{IsState, IsAutomaton}
use Rattle.nk_determ.proofs.Sending.{sends_on, sends_back}
use Rattle.nk_determ.specs.Pairs.{AreStates}

-- a packet of the grown store is one of the old store
pub packet_back : (old new : StoreState) (pk : List ℕ) → Grows old new → IsStorePacket new pk → IsStorePacket old pk
packet_back old new pk g h = subst (λ m. InRange m pk) g.maxes h

-- a state stands
pub state_on : (old new : StoreState) (d : ℕ) (p : Policy) → IsState old d p → Grows old new → IsState new d p
state_on old new d p s g = record {
  id = g.ids d s.id;
  ends = λ pk y r.
      let e = s.ends pk y (packet_back old new pk g r) in
      (λ h. e.0 (sends_back old new d pk y 0 g s.id h), λ h. sends_on old new d pk y 0 g s.id (e.1 h));
  records = λ pk y l r le.
      let e = s.records pk y l (packet_back old new pk g r) le in
      (λ h. e.0 (sends_back old new d pk y l g s.id h), λ h. sends_on old new d pk y l g s.id (e.1 h));
}

-- each state is a diagram
pub state_id : (st : StoreState) (states : List ℕ) (first : ℕ) (p : Policy) → IsAutomaton st states first p
    → (i : ℕ) → i < length states → IsId st (slice_index states i)
state_id st states first p a zero lt = a.start.id
state_id st states first p a (suc i) lt =
    let less : i < dups_of p = omega (arith, lt, a.count) in
    let e : 1 + i ≡ suc i = omega arith in
    subst (λ k. IsId st (slice_index states k)) e (a.rest i less).id

-- the automaton stands
pub stands : (st new : StoreState) (states : List ℕ) (first : ℕ) (p : Policy) → IsAutomaton st states first p → Grows st new
    → IsAutomaton new states first p
stands st new states first p a g = record {
  count = a.count;
  labels = a.labels;
  start = state_on st new (slice_index states 0) p a.start g;
  rest = λ i lt. state_on st new (slice_index states (1 + i)) (after p (first + i)) (a.rest i lt) g;
  targets = λ i pk y t lt r s.
      a.targets i pk y t lt (packet_back st new pk g r) (sends_back st new (slice_index states i) pk y t g (state_id st states first p a i lt) s);
}

-- levels can be made of its states
pub are_states : (st : StoreState) (states : List ℕ) (p : Policy) → IsAutomaton st states 1 p → AreStates st states
are_states st states p a = record {
  ids = λ k lt. state_id st states 1 p a k lt;
  targets = λ l pk y t lt r s.
      ⊎_elim
      (λ e. omega (arith, e, a.count))
      (λ b. omega (arith, b.1, a.count))
      (a.targets l pk y t lt r s);
}
