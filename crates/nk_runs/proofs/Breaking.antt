-- Where violations are the wrong ends of members, what breaks the goal are the histories that end wrongly.
use Rattle.std.proofs.Common.{◌≡◌, ℕ, inl, List, [], ◌∷◌, length, refl, subst}
use Rattle.std.specs.Prelude.{◌↔◌, Contains}
use Rattle.nk_field.specs.declared.packet.Packet.{Packet}
use Rattle.nk_field.specs.Order.{Found}
use Rattle.nk_field.specs.Act.{applied}
use Rattle.nk_field.proofs.Lists.{in_from_contains, contains_from_in}
use Rattle.nk_policy.specs.Policy.{Policy}
use Rattle.nk_policy.specs.Meaning.{Gives}
use Rattle.nk_policy.specs.Distinct.{HasDistinct}
use Rattle.nk_store.specs.declared.node.Out.{Out}
use Rattle.nk_store.specs.StoreState.{StoreState, IsStorePacket, AreTidy}
use Rattle.nk_determ.specs.States.{StateLeads}
use Rattle.nk_determ.specs.Automaton.{IsAutomaton}
use Rattle.nk_determ.specs.Pairs.{AreLabelsBelow}
use Rattle.nk_determ.specs.Counterexamples.{MakesWithTarget}
use Rattle.nk_determ.specs.Counterexamples.{IsCounterexample}
use Rattle.nk_runs.specs.Labels.{IsAmong}
use Rattle.nk_runs.proofs.Ends.{EndsAt}
use Rattle.nk_runs.proofs.Walking.{walk_in_range, walks_met, walk_places, ends_given, given_walked}

-- of sets of places: the violations make, with target 0, exactly the wrong packets at which members' states end
abbrev pub MakeWrong : StoreState → List ℕ → (Packet → Type 0) → (List ℕ → List ℕ → List Out) → Type 0
MakeWrong st states Wrong bad =
    (set x y : List ℕ) (target : ℕ) → AreLabelsBelow (length states) set → IsStorePacket st x
    → MakesWithTarget (bad set x) x y target ↔ ((target ≡ 0) × StateLeads st states set x y 0 × Wrong y)

-- a list with an out isn't empty
not_none : (outs : List Out) (o : Out) → Contains outs o → outs ≡ [] → ⊥
not_none outs o c e = in_from_contains [] o (subst (λ os. Contains os o) e c)

-- one of the outs
some_out : (outs : List Out) → (outs ≡ [] → ⊥) → (o : Out) × Contains outs o
some_out [] some = absurd (some refl)
some_out (o ∷ os) some = (o, contains_from_in (o ∷ os) o (inl refl))

module _ (st : StoreState) (states : List ℕ) (Wrong : Packet → Type 0) (bad : List ℕ → List ℕ → List Out) (made : MakeWrong st states Wrong bad) where
  -- wherever a member ends wrongly there is a violation
  pub is_alert : (set x : List ℕ) → AreLabelsBelow (length states) set → IsStorePacket st x → EndsAt st states Wrong set x → bad set x ≡ [] → ⊥
  is_alert set x places r h empty =
      let m = (made set x h.1 0 places r).1 (refl, (h.0, h.2, h.3), h.4) in
      not_none (bad set x) (record { act = m.0; target = 0 }) m.1 empty

  -- and only there
  pub is_right : (set x : List ℕ) → AreLabelsBelow (length states) set → IsStorePacket st x → (bad set x ≡ [] → ⊥) → EndsAt st states Wrong set x
  is_right set x places r some =
      let o = some_out (bad set x) some in
      let h = (made set x (applied o.0.act x) o.0.target places r).0 (o.0.act, o.1, refl) in
      (h.1.0, applied o.0.act x, h.1.1, h.1.2, h.2)

  module _ (start : ℕ) (p : Policy) (a : IsAutomaton st states 1 p) (d : HasDistinct p) (tidy : AreTidy st) where
    -- what breaks the goal ends wrongly, and the other way round
    pub breaks_given : (f : Found) → IsCounterexample st states (0 ∷ []) start bad f
        ↔ (IsAmong st start f.start × Gives p f.start f.records f.last × Wrong f.last)
    breaks_given f = (
      λ b.
          let w = b.1.walk in
          let r = b.1.starts.packet in
          let places = walk_places st states p a d tidy f.start f.records b.1.end ((walks_met st states p a d tidy f.start f.records b.1.end r).0 w) in
          let range = walk_in_range st states f.records (0 ∷ [], f.start) b.1.end r w in
          let e = (made b.1.end.0 b.1.end.1 f.last b.0 places range).0 b.1.makes in
          ((r, b.1.starts.has), (ends_given st states p a d tidy f.start f.records b.1.end f.last r w).1 e.1, e.2),
      λ h.
          let r = h.0.0 in
          let n = given_walked st states p a d tidy f.start f.records f.last r h.1 in
          let places = walk_places st states p a d tidy f.start f.records n.0 ((walks_met st states p a d tidy f.start f.records n.0 r).0 n.1) in
          let range = walk_in_range st states f.records (0 ∷ [], f.start) n.0 r n.1 in
          let lead = (ends_given st states p a d tidy f.start f.records n.0 f.last r n.1).0 h.1 in (
            0,
            record {
              starts = record { set_is = refl; packet = r; has = h.0.1 };
              end = n.0;
              walk = n.1;
              makes = (made n.0.0 n.0.1 f.last 0 places range).1 (refl, lead, h.2);
            },
          ),
    )
