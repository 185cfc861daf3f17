-- Ends that are not to be are met by levels, and what levels meet are such ends.
use Rattle.std.proofs.Common.{◌≡◌, ℕ, zero, suc, ◌+◌, ◌-◌, ◌<◌, Bool, true, false, ⊎_elim, List, [], ◌∷◌, ◌++◌, length, refl, sym, ap, subst, ◌∙◌, arith}
use Rattle.std.specs.Prelude.{Contains, slice_index, slice_index_or}
use Rattle.nk_field.specs.declared.packet.Packet.{Packet}
use Rattle.nk_field.proofs.Lists.{in_from_contains, numbers_decided}
use Rattle.nk_policy.specs.Policy.{Policy}
use Rattle.nk_policy.specs.Meaning.{Gives}
use Rattle.nk_policy.specs.Distinct.{HasDistinct}
use Rattle.nk_policy.proofs.LabelSteps.{gives_at}
use Rattle.nk_policy.proofs.ListParts.{last_of_list}
use Rattle.nk_store.specs.declared.node.Out.{Out}
use Rattle.nk_store.specs.StoreState.{StoreState, IsStorePacket, AreTidy}
use Rattle.nk_determ.specs.Exact.{Sends}
use Rattle.nk_determ.specs.Automaton.{IsAutomaton}
use Rattle.nk_determ.specs.Pairs.{Node, AreLabelsBelow, IsPair}
use Rattle.nk_determ.specs.Levels.{At, InLevel, IsViolation, AreLevels}
use Rattle.nk_determ.proofs.Naming.{named_entry}
use Rattle.nk_runs.specs.Labels.{IsAmong}
use Rattle.nk_runs.proofs.Numbers.{at_dup}
use Rattle.nk_runs.proofs.Steps.{no_member, state_of_dup, known}
use Rattle.nk_runs.proofs.Labelled.{met_in_range, met_labels, labels_met}
use Rattle.nk_runs.proofs.TagSets.{under_named}

-- a member's state ends, from this packet, at a wrong one
abbrev pub EndsAt : StoreState → List ℕ → (Packet → Type 0) → List ℕ → Packet → Type 0
EndsAt st states Wrong set x = (l : ℕ) × (y : Packet) × Contains set l × Sends st (slice_index states l) x y 0 × Wrong y

-- some history of a start packet ends at a wrong one
abbrev pub Ended : Policy → (Packet → Type 0) → (Packet → Type 0) → Type 0
Ended p Start Wrong = (pk : Packet) × (w : List Packet) × (y : Packet) × Start pk × Gives p pk w y × Wrong y

module _ (st : StoreState) (states : List ℕ) (start : ℕ) (p : Policy) (a : IsAutomaton st states 1 p) (d : HasDistinct p) (tidy : AreTidy st) (Wrong : Packet → Type 0) where
  -- an end of a member of a set that is met is a history's
  pub end_of_history : (i : ℕ) (n : Node) → At st states (0 ∷ []) start i n → EndsAt st states Wrong n.0 n.1
      → Ended p (IsAmong st start) Wrong
  end_of_history zero n h e =
      let c : Contains (0 ∷ []) e.0 = subst (λ s. Contains s e.0) h.set_is e.2 in
      let is : e.0 ≡ 0 = ⊎_elim (λ z. z) (λ z. absurd z) (in_from_contains (0 ∷ []) e.0 c) in
      let s : Sends st (slice_index states 0) n.1 e.1 0 = subst (λ k. Sends st (slice_index states k) n.1 e.1 0) is e.3 in
      (n.1, [], e.1, (h.packet, h.has), (a.start.ends n.1 e.1 h.packet).0 s, e.4)
  end_of_history (suc i) n h e =
      let l = met_labels st states start p a d tidy (suc i) n h in
      let range = met_in_range st states start p a d tidy (suc i) n h in
      let at = (l.4.1.1 e.0).0 e.2 in
      let dup = at_dup p l.0 (l.1 ++ n.1 ∷ []) e.0 at in
      let g = ((state_of_dup st states p a d tidy e.0 dup).ends n.1 e.1 range).0 e.3 in
      (l.0, l.1 ++ n.1 ∷ [], e.1, l.2, (gives_at p d l.0 l.1 n.1 e.1).1 (e.0, at, g), e.4)

  -- and a history's end is one of a member of a set that is met
  pub history_of_end : Ended p (IsAmong st start) Wrong
      → (i : ℕ) × (n : Node) × At st states (0 ∷ []) start i n × EndsAt st states Wrong n.0 n.1
  history_of_end h = by h.1 h.4
    where
      by : (w : List Packet) → Gives p h.0 w h.2
          → (i : ℕ) × (n : Node) × At st states (0 ∷ []) start i n × EndsAt st states Wrong n.0 n.1
      by [] g =
          let place : 0 < 1 = omega arith in (
            0,
            (0 ∷ [], h.0),
            record { set_is = refl; packet = h.3.0; has = h.3.1 },
            (0, h.2, (0, place, refl), (a.start.ends h.0 h.2 h.3.0).1 g, h.5),
          )
      by (b ∷ w) g =
          let c = last_of_list b w in
          let r = (gives_at p d h.0 c.0 c.1 h.2).0 (subst (λ u. Gives p h.0 u h.2) c.2 g) in
          let k = known st states p a d tidy (length c.0) h.0 c.0 c.1 refl h.3.0 in
          let there = (k.exactly.1 r.0).1 r.1 in
          let range = k.range r.0 r.1 in
          let dup = at_dup p h.0 (c.0 ++ c.1 ∷ []) r.0 r.1 in
          let n : Node = (k.set, c.1) in (
            suc (length c.0),
            n,
            labels_met st states start p a d tidy (suc (length c.0)) n
                (h.0, c.0, h.3, refl, ((λ none. no_member k.set r.0 none there), k.exactly)),
            (r.0, h.2, there, ((state_of_dup st states p a d tidy r.0 dup).ends c.1 h.2 range).1 r.2, h.5),
          )

module _ (old new : StoreState) (ss : List (List ℕ)) (states : List ℕ) (set start : ℕ) (bad : List ℕ → List ℕ → List Out) (ls : List (List (ℕ × ℕ))) (p : Policy) (Wrong : Packet → Type 0) (a : IsAutomaton old states 1 p) (d : HasDistinct p) (tidy : AreTidy old) (from : slice_index_or ss set [] ≡ 0 ∷ []) where
  -- the members of a set of a level are places among the states
  pub level_places : (broken : Bool) → AreLevels old new ss states set start bad ls broken → (j : ℕ) (n : Node) → j < length ls
      → InLevel new ss ls j n → AreLabelsBelow (length states) n.0
  level_places broken levels j n lt level =
      let named = under_named new (slice_index_or ls j []) level.0 n.1 level.2 in
      let q = named_entry (IsPair new ss (length states)) (slice_index_or ls j []) level.0 named (levels.pairs j lt).each in
      let e : slice_index_or ss q.0.0 [] ≡ n.0 = ap (λ i. slice_index_or ss i []) q.2 ∙ level.1 in
      subst (λ s. AreLabelsBelow (length states) s) e q.1.places

  -- levels without a violation have none at any level
  pub never_violation : AreLevels old new ss states set start bad ls false → (j : ℕ) (n : Node) → j < length ls → IsStorePacket old n.1
      → InLevel new ss ls j n → IsViolation bad n → ⊥
  never_violation levels j n lt good level b =
      ⊎_elim
      (λ last.
      let is : j ≡ length ls - 1 = omega (arith, last) in
      levels.not_broken refl n good (subst (λ k. InLevel new ss ls k n) is level) b)
      (λ not. let before : j + 1 < length ls = omega (arith, lt, not) in levels.goal j n before good level b)
      (numbers_decided (j + 1) (length ls))

  -- so no history ends wrongly
  pub none_ends : ((s x : List ℕ) → AreLabelsBelow (length states) s → IsStorePacket old x → EndsAt old states Wrong s x → bad s x ≡ [] → ⊥)
      → AreLevels old new ss states set start bad ls false → Ended p (IsAmong old start) Wrong → ⊥
  none_ends alert levels h =
      let e = history_of_end old states start p a d tidy Wrong h in
      let n = e.1 in
      let good = met_in_range old states start p a d tidy e.0 n e.2 in
      let c = levels.complete refl e.0 n (subst (λ s. At old states s start e.0 n) (sym from) e.2) in
      never_violation levels c.0 n c.2 good c.3 (alert n.0 n.1 (level_places false levels c.0 n c.2 c.3) good e.3)

  -- and where there is one some history does
  pub some_ends : ((s x : List ℕ) → AreLabelsBelow (length states) s → IsStorePacket old x → (bad s x ≡ [] → ⊥) → EndsAt old states Wrong s x)
      → AreLevels old new ss states set start bad ls true → Ended p (IsAmong old start) Wrong
  some_ends right levels =
      let b = levels.broken_at refl in
      let n = b.0 in
      let lt : length ls - 1 < length ls = omega (arith, levels.some) in
      let at = levels.exact.sound (length ls - 1) n lt b.1 b.2 in
      end_of_history old states start p a d tidy Wrong (length ls - 1) n
      (subst (λ s. At old states s start (length ls - 1) n) from at)
      (right n.0 n.1 (level_places true levels (length ls - 1) n lt b.2) b.1 b.3)
