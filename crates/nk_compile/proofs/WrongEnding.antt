-- Violations off each edge port stand exactly where a member's state ends there.
use Rattle.std.proofs.Common.{◌≡◌, ℕ, zero, suc, Bool, true, inl, inr, Some, None, List, [], ◌∷◌, get_or, refl, sym, ap, subst, ◌∙◌, ◌<◌, length}
use Rattle.std.specs.Prelude.{Contains, All, ◌↔◌}
use Rattle.nk_field.specs.Act.{applied, act_then}
use Rattle.nk_field.specs.Order.{Found, IsLeast}
use Rattle.nk_field.proofs.Lists.{in_from_contains, contains_from_in}
use Rattle.nk_topo.specs.Topology.{Topology}
use Rattle.nk_store.specs.declared.node.Out.{Out}
use Rattle.nk_store.specs.StoreState.{StoreState, IsId, IsStorePacket, look, Grows, AreTidy}
use Rattle.nk_apply.specs.Predicates.{IsPass, IsPredicate}
use Rattle.nk_apply.specs.Seqs.{out_after, no_out}
use Rattle.nk_apply.proofs.Members.{Has, has_contains, contains_has, gathered_has, has_gathered, seq_leaf_has, has_seq_leaf}
use Rattle.nk_determ.specs.Exact.{Sends}
use Rattle.nk_determ.specs.States.{StateLeads}
use Rattle.nk_determ.specs.Sets.{SetsGrow, IsSetOf as IsLabels}
use Rattle.nk_determ.specs.Targets.{option_out, out_by_table, retargeted}
use Rattle.nk_auto.proofs.Sending.{sent_in_range}
use Rattle.nk_runs.specs.Wrong.{AreWrongEnds}
use Rattle.nk_sets.specs.PacketSets.{has_some_out}
use Rattle.nk_determ.specs.Pairs.{AreStates}
use Rattle.nk_determ.specs.Levels.{AreLevels}
use Rattle.nk_determ.specs.Counterexamples.{MakesWithTarget, IsCounterexample}
use Rattle.nk_witness.specs.Finds.{first_set, first_packets}
use Rattle.nk_witness.proofs.Settling.{settled}
use Rattle.nk_store.proofs.Stores.{grows_same}
use Rattle.nk_goal.proofs.Growing.{sets_refl}
use Rattle.nk_group.proofs.Growing.{set_kept}
use Rattle.nk_compile.specs.Edges.{is_start, is_no_edge}
use Rattle.nk_compile.specs.Levelled.{IsLevelled, IsLeastOff}
use Rattle.nk_compile.specs.PacketSets.{IsSetInRange}
use Rattle.nk_compile.specs.WrongEnds.{end_leaf, wrong_leaf, HaveEndsOf, wrong_on}
use Rattle.nk_compile.proofs.EndsOfStates.{of_wrong, in_wrong}

-- where there is an out, one of them
some_out : (outs : List Out) → has_some_out outs ≡ true → (o : Out) × Has outs o
some_out [] e = cc
some_out (o ∷ os) e = (o, inl refl)

-- where one is a member, there is an out
out_some : (outs : List Out) (o : Out) → Has outs o → has_some_out outs ≡ true
out_some [] o h = absurd h
out_some (x ∷ xs) o h = refl

-- what passes is the packet itself
passes : (outs : List Out) (o : Out) → IsPass outs → Has outs o → o ≡ no_out
passes [] o p h = absurd h
passes (x ∷ xs) o p (inl e) = sym e ∙ p.0
passes (x ∷ xs) o p (inr h) = absurd (subst (λ zs. Has zs o) p.1 h)

-- nothing after an act
nothing_after : (g : List (ℕ × ℕ)) → act_then g [] ≡ g
nothing_after [] = refl
nothing_after (s ∷ ss) = refl

-- what is kept is an end
kept : (u : ℕ) (g : List (ℕ × ℕ)) (o : Out) → Has (option_out g (get_or (Some 0 ∷ []) u None)) o → (u ≡ 0) × (o.act ≡ g)
kept zero g o (inl e) = (refl, sym (ap (λ (x : Out). x.act) e))
kept zero g o (inr h) = absurd h
kept (suc u) g o h = absurd h

module _ (st : StoreState) (topo : Topology) (tidy : AreTidy st) (set : ℕ) (states : List ℕ) (off : IsSetInRange st set (is_no_edge topo)) (predicate : IsPredicate st set) where
  -- what is made of a state's ends in the set is an end of the state that isn't at an edge port
  of_end : (state : ℕ) (x : List ℕ) (o : Out) → IsStorePacket st x → Has (end_leaf st set state x) o → (o.target ≡ 0) × Sends st state x (applied o.act x) 0 × (is_no_edge topo (applied o.act x) ≡ true)
  of_end state x o r h =
      let s = has_seq_leaf (retargeted (Some 0 ∷ []) (look st state x)) (look st set) x o h in
      let m = has_gathered (out_by_table (Some 0 ∷ [])) (look st state x) s.0 s.2 in
      let k = kept m.0.target m.0.act s.0 m.2 in
      let y = applied s.0.act x in
      let there : Has (look st state x) (record { act = s.0.act; target = 0 }) =
      subst (λ g. Has (look st state x) (record { act = g; target = 0 })) (sym k.1) (subst (λ t. Has (look st state x) (record { act = m.0.act; target = t })) k.0 m.1) in
      let sent : Sends st state x y 0 = (s.0.act, has_contains (look st state x) (record { act = s.0.act; target = 0 }) there, refl) in
      let range : IsStorePacket st y = sent_in_range st state x y 0 tidy r sent in
      let pass : s.1 ≡ no_out = passes (look st set y) s.1 (predicate y range.0) s.3 in
      let end_by : List (ℕ × ℕ) → Out = λ g. record { act = g; target = 0 } in
      let is : end_by s.0.act ≡ o = ap end_by (sym (nothing_after s.0.act)) ∙ ap (λ q. out_after s.0.act q) (sym pass) ∙ s.4 in
      let act_is : applied s.0.act x ≡ applied o.act x = ap (λ (q : Out). applied q.act x) is in
      let off_edge : is_no_edge topo y ≡ true = sym (off.at y range) ∙ out_some (look st set y) s.1 s.3 in
      (sym (ap (λ (q : Out). q.target) is), subst (λ z. Sends st state x z 0) act_is sent, subst (λ z. is_no_edge topo z ≡ true) act_is off_edge)

  -- and the other way round
  in_end : (state : ℕ) (x y : List ℕ) → IsStorePacket st x → (s : Sends st state x y 0) → is_no_edge topo y ≡ true → Has (end_leaf st set state x) (record { act = s.0; target = 0 })
  in_end state x y r s wrong =
      let e : Out = record { act = s.0; target = 0 } in
      let made : Has (retargeted (Some 0 ∷ []) (look st state x)) e = gathered_has (out_by_table (Some 0 ∷ [])) (look st state x) e e (contains_has (look st state x) e s.1) (inl refl) in
      let range : IsStorePacket st y = sent_in_range st state x y 0 tidy r s in
      let there = some_out (look st set y) (off.at y range ∙ wrong) in
      let pass : there.0 ≡ no_out = passes (look st set y) there.0 (predicate y range.0) there.1 in
      let following : Has (look st set (applied s.0 x)) no_out = subst (λ q. Has (look st set (applied s.0 x)) q) pass (subst (λ z. Has (look st set z) there.0) s.2 there.1) in
      let whole : Has (end_leaf st set state x) (out_after s.0 no_out) = seq_leaf_has (retargeted (Some 0 ∷ []) (look st state x)) (look st set) x e no_out made following in
      subst (λ g. Has (end_leaf st set state x) (record { act = g; target = 0 })) (nothing_after s.0) whole

  -- so the ends of states in the set are the wrong ends
  pub ends_wrong : AreWrongEnds st states (is_no_edge topo) (λ s x. wrong_leaf st set states s x)
  ends_wrong s x y t places r = (
    λ m.
        let l = of_wrong st set states s x (record { act = m.0; target = t }) (contains_has (wrong_leaf st set states s x) (record { act = m.0; target = t }) m.1) in
        let e = of_end (get_or states l.0 0) x (record { act = m.0; target = t }) r l.2 in
        (e.0, (l.0, contains_from_in s l.0 l.1, subst (λ z. Sends st (get_or states l.0 0) x z 0) (sym m.2) e.1), subst (λ z. is_no_edge topo z ≡ true) (sym m.2) e.2),
    λ h.
        let lead = h.1 in
        let send : Sends st (get_or states lead.0 0) x y 0 = lead.2 in
        let o : Out = record { act = send.0; target = 0 } in
        let has = in_wrong st set states s x o lead.0 (in_from_contains s lead.0 lead.1) (in_end (get_or states lead.0 0) x y r send h.2) in
        (send.0, subst (λ u. Contains (wrong_leaf st set states s x) (record { act = send.0; target = u })) (sym h.0) (has_contains (wrong_leaf st set states s x) o has), send.2),
  )

-- the levels of states with these violations
pub levels_are : (topo : Topology) (tag : ℕ) (old first new : StoreState) (states goal_states : List ℕ) (off goal_set from s : ℕ) (mid ss : List (List ℕ)) (ls : List (List (ℕ × ℕ))) (broken : Bool) →
    Grows old first → Grows first new → AreTidy first → goal_set ≡ off → goal_states ≡ states → IsLabels mid s (0 ∷ []) → SetsGrow mid ss → IsSetInRange first off (is_no_edge topo) → IsPredicate first off → IsSetInRange first from (is_start topo tag) →
    AreLevels first new ss states s from (λ places x. wrong_leaf first goal_set goal_states places x) ls broken → IsLevelled topo tag old states new ss ls broken
levels_are topo tag old first new states goal_states off goal_set from s mid ss ls broken grew grows tidy same_set same_states labels more is_off passing is_from are = record {
  first = first;
  grew = grew;
  grows = grows;
  tidy = tidy;
  set = s;
  start = from;
  bad = λ places x. wrong_leaf first off states places x;
  set_is = set_kept mid ss s more labels.within ∙ labels.members;
  start_is = is_from;
  wrong = ends_wrong first topo tidy off states is_off passing;
  are =
      subst (λ (r : List ℕ). AreLevels first new ss states s from (λ places x. wrong_leaf first off r places x) ls broken) same_states
      (subst (λ q. AreLevels first new ss states s from (λ places x. wrong_leaf first q goal_states places x) ls broken) same_set are);
}

-- the levels in the store after them, and of the goal as it is then
pub levels_later : (old mid : StoreState) (ss : List (List ℕ)) (states goal_states ends : List ℕ) (set start goal_set : ℕ) (now : List ℕ → List ℕ → List Out) (ls : List (List (ℕ × ℕ))) (broken : Bool) →
    AreLevels old mid ss states set start (λ places x. wrong_leaf old goal_set goal_states places x) ls broken → Grows old mid → AreStates old states → IsId old start → goal_states ≡ states → HaveEndsOf old goal_set states ends →
    ((places x : List ℕ) → now places x ≡ wrong_leaf mid goal_set goal_states places x) →
    (first_set ls ≡ set) × (first_packets ls ≡ start) × AreLevels mid mid ss states (first_set ls) (first_packets ls) now ls broken
levels_later old mid ss states goal_states ends set start goal_set now ls broken are grew states_ok id same_states fits same =
    settled old mid mid ss ss states set start (λ places x. wrong_leaf old goal_set goal_states places x) now ls broken are grew (grows_same mid) (sets_refl ss) states_ok id
    (λ n places.
    same n.0 n.1
    ∙ wrong_on old mid goal_set goal_states ends n.0 n.1 (subst (λ (r : List ℕ). HaveEndsOf old goal_set r ends) (sym same_states) fits) grew
    (subst (λ (r : List ℕ). All (λ l. l < length r) n.0) (sym same_states) places))

-- the least history that breaks the goal there
pub least_is : (topo : Topology) (tag : ℕ) (old first mid : StoreState) (states goal_states : List ℕ) (off goal_set from s : ℕ) (before ss : List (List ℕ)) (bad now : List ℕ → List ℕ → List Out) (ls : List (List (ℕ × ℕ))) (broken : Bool) (f : Found) →
    Grows old mid → AreTidy mid → goal_set ≡ off → goal_states ≡ states → IsLabels before s (0 ∷ []) → SetsGrow before ss → IsSetInRange mid off (is_no_edge topo) → IsPredicate mid off → IsSetInRange mid from (is_start topo tag) →
    ((places x : List ℕ) → now places x ≡ wrong_leaf mid goal_set goal_states places x) → AreLevels first mid ss states s from bad ls broken →
    IsLeast (IsCounterexample mid states (get_or ss (first_set ls) []) (first_packets ls) now) f → IsLeastOff topo tag old states f
least_is topo tag old first mid states goal_states off goal_set from s before ss bad now ls broken f grew tidy same_set same_states labels more is_off passing is_from same are least = record {
  first = mid;
  grew = grew;
  tidy = tidy;
  start = first_packets ls;
  bad = now;
  start_is = subst (λ d. IsSetInRange mid d (is_start topo tag)) (sym (ap (λ (v : List (ℕ × ℕ)). (get_or v 0 (0, 0)).1) are.start_is)) is_from;
  wrong = λ places x y t inside r.
      subst (λ outs. MakesWithTarget outs x y t ↔ ((t ≡ 0) × StateLeads mid states places x y 0 × (is_no_edge topo y ≡ true)))
      (sym (same places x ∙ ap (λ (r : List ℕ). wrong_leaf mid goal_set r places x) same_states ∙ ap (λ q. wrong_leaf mid q states places x) same_set))
      (ends_wrong mid topo tidy off states is_off passing places x y t inside r);
  least =
      subst (λ set. IsLeast (IsCounterexample mid states set (first_packets ls) now) f)
      (ap (λ (v : List (ℕ × ℕ)). get_or ss (get_or v 0 (0, 0)).0 []) are.start_is ∙ set_kept before ss s more labels.within ∙ labels.members) least;
}
