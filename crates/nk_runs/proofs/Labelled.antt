-- The sets that are met after so many records are the label sets of runs.
use Rattle.std.proofs.Common.{◌≡◌, ℕ, zero, suc, List, [], ◌∷◌, ◌++◌, length, length-append, refl, ap, subst, arith}
use Rattle.std.specs.Prelude.{◌↔◌}
use Rattle.nk_field.specs.declared.packet.Packet.{Packet}
use Rattle.nk_policy.specs.Policy.{Policy}
use Rattle.nk_policy.specs.Distinct.{HasDistinct}
use Rattle.nk_policy.specs.Labels.{IsLabelSet}
use Rattle.nk_policy.proofs.LabelSteps.{at_next}
use Rattle.nk_policy.proofs.ListParts.{last_of_list}
use Rattle.nk_store.specs.StoreState.{StoreState, IsStorePacket, AreTidy}
use Rattle.nk_determ.specs.Automaton.{IsAutomaton}
use Rattle.nk_determ.specs.Pairs.{Node, IsStep}
use Rattle.nk_determ.specs.Levels.{At}
use Rattle.nk_runs.specs.Labels.{IsAmong, IsLabelled}
use Rattle.nk_runs.proofs.Steps.{some_member, no_member, begins, follows, known}

module _ (st : StoreState) (states : List ℕ) (start : ℕ) (p : Policy) (a : IsAutomaton st states 1 p) (d : HasDistinct p) (tidy : AreTidy st) where
  -- a packet at which a set is met is in range
  pub met_in_range : (i : ℕ) (n : Node) → At st states (0 ∷ []) start i n → IsStorePacket st n.1
  met_in_range zero n h = h.packet
  met_in_range (suc i) n h = h.2.packet

  -- one step more, from met sets to runs
  met_next : (i : ℕ) (n m : Node) → At st states (0 ∷ []) start i m → IsStep st states m n → IsLabelled p (IsAmong st start) i m
      → IsLabelled p (IsAmong st start) (suc i) n
  met_next zero n m at h l =
      let step : IsStep st states (0 ∷ [], m.1) n = subst (λ s. IsStep st states (s, m.1) n) l.0 h in
      (m.1, [], l.1, refl, (begins st states p a d tidy m.1 n.1 n.0 l.1.0).0 step)
  met_next (suc i) n m at h l =
      let step = (follows st states p a d tidy l.0 l.1 m.1 n.1 m.0 n.0 (met_in_range (suc i) m at) l.4.1).0 h in
      let many : length (l.1 ++ m.1 ∷ []) ≡ suc i = omega (arith, l.3, length-append l.1 (m.1 ∷ [])) in
      (l.0, l.1 ++ m.1 ∷ [], l.2, many, step)

  -- where a set is met runs are
  pub met_labels : (i : ℕ) (n : Node) → At st states (0 ∷ []) start i n → IsLabelled p (IsAmong st start) i n
  met_labels zero n h = (h.set_is, (h.packet, h.has))
  met_labels (suc i) n h = met_next i n h.0 h.1 h.2 (met_labels i h.0 h.1)

  -- one step more, from runs to met sets
  labels_next : (i : ℕ) (n : Node) → ((m : Node) → IsLabelled p (IsAmong st start) i m → At st states (0 ∷ []) start i m)
      → (pk : Packet) (front : List Packet) → IsAmong st start pk → length front ≡ i → IsLabelSet p pk (front ++ n.1 ∷ []) n.0
      → At st states (0 ∷ []) start (suc i) n
  labels_next zero n met pk [] b e ls =
      let m : Node = (0 ∷ [], pk) in
      (m, met m (refl, b), (begins st states p a d tidy pk n.1 n.0 b.0).1 ls)
  labels_next zero n met pk (x ∷ front) b e ls = absurd (omega (arith, e))
  labels_next (suc i) n met pk [] b e ls = absurd (omega (arith, e))
  labels_next (suc i) n met pk (x ∷ front) b e ls =
      let c = last_of_list x front in
      let many : length c.0 ≡ i = omega (arith, e, ap length c.2, length-append c.0 (c.1 ∷ [])) in
      let k = known st states p a d tidy i pk c.0 c.1 many b.0 in
      let whole = subst (λ u. IsLabelSet p pk (u ++ n.1 ∷ []) n.0) c.2 ls in
      let one = some_member n.0 whole.0 in
      let before = (at_next p d pk c.0 c.1 n.1 one.0).0 ((whole.1.1 one.0).0 one.1) in
      let there = (k.exactly.1 before.0).1 before.1 in
      let some : k.set ≡ [] → ⊥ = λ none. no_member k.set before.0 none there in
      let m : Node = (k.set, c.1) in
      let at = met m (pk, c.0, b, many, (some, k.exactly)) in
      (m, at, (follows st states p a d tidy pk c.0 c.1 n.1 k.set n.0 (met_in_range (suc i) m at) k.exactly).1 whole)

  -- where runs are the set is met
  pub labels_met : (i : ℕ) (n : Node) → IsLabelled p (IsAmong st start) i n → At st states (0 ∷ []) start i n
  labels_met zero n h = record { set_is = h.0; packet = h.1.0; has = h.1.1 }
  labels_met (suc i) n h = labels_next i n (λ m l. labels_met i m l) h.0 h.1 h.2 h.3 h.4

  -- both ways
  pub labelled : (i : ℕ) (n : Node) → At st states (0 ∷ []) start i n ↔ IsLabelled p (IsAmong st start) i n
  labelled i n = (met_labels i n, labels_met i n)
