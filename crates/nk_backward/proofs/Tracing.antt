-- Transitions, entry by entry, and as stores grow.
use Rattle.std.proofs.Common.{◌≡◌, ℕ, ◌<◌, ◌+◌, ◌-◌, inl, inr, refl, sym, ◌∙◌, ap, subst, arith, List, [], ◌∷◌, ◌++◌, length, length-append, get_or, Contains}
use Rattle.std.proofs.lemmas.Bool.Decides.{eqb_tells}
use Rattle.std.proofs.lemmas.List.{get_or_append_left, get_or-append_right, get_or_default}
use Rattle.nk_field.specs.Act.{applied}
use Rattle.nk_store.specs.declared.node.Out.{Out}
use Rattle.nk_store.specs.Leaves.{Suits}
use Rattle.nk_store.specs.StoreState.{StoreState, IsStorePacket, Grows, look}
use Rattle.nk_store.proofs.Stores.{grows_on}
use Rattle.nk_determ.specs.Sets.{SetsGrow}
use Rattle.nk_sets.specs.declared.outs.OutPackets.{OutPackets}
use Rattle.nk_determ.specs.Pairs.{AreStates, IsPair, IsStep}
use Rattle.nk_sets.specs.Outs.{AllSuitStore, GivesAny, IsByOut}
use Rattle.nk_sets.specs.Outs.{sent_to}
use Rattle.nk_steps.specs.Local.{IsStateAt}
use Rattle.nk_sets.proofs.Kept.{packet_on, has_on}
use Rattle.nk_goal.proofs.Growing.{sets_known, sets_same, under_named, step_on, step_back}
use Rattle.nk_goal.proofs.Adding.{under_append, named_append}
use Rattle.nk_sets.proofs.OutEntries.{all_suit_on, gives_on, gives_back}
use Rattle.nk_steps.proofs.Locals.{acts_in_range}
use Rattle.nk_backward.specs.declared.transitions.Transitions.{Transitions}
use Rattle.nk_backward.specs.Transitions.{transitions_at, OutsSuitStore, IsLed, AreStepsFrom, AreTransitions}

-- transitions of no set
abbrev pub nowhere : Transitions
nowhere = record { source = 0; outs = [] }

-- the transitions at a place before one that was put after
pub at_old : (ts : List Transitions) (t : Transitions) (k : ℕ) → k < length ts → transitions_at (ts ++ t ∷ []) k ≡ transitions_at ts k
at_old ts t k l = get_or_append_left ts (t ∷ []) nowhere k l

-- those that were put after
pub at_new : (ts : List Transitions) (t : Transitions) → transitions_at (ts ++ t ∷ []) (length ts) ≡ t
at_new ts t = get_or-append_right ts (t ∷ []) (length ts) (length ts) nowhere refl (omega arith)
    ∙ (let z : length ts - length ts ≡ 0 = omega arith in ap (λ k. get_or (t ∷ []) k nowhere) z)

-- the transitions at a place
pub at_place : (ts : List Transitions) (n : ℕ) (t : Transitions) → n < length ts → t ≡ get_or ts n t → t ≡ transitions_at ts n
at_place ts n t l is = is ∙ get_or_default ts n t nowhere l

-- what outs give leads to packets in range
pub gives_in_range : (st : StoreState) (es : List OutPackets) (z : List ℕ) (g : List (ℕ × ℕ)) (t : ℕ) → AllSuitStore st es → IsStorePacket st z → GivesAny st es z (sent_to g (t + 1)) → IsStorePacket st (applied g z)
gives_in_range st es z g t k w m =
    acts_in_range st.maxes 0 g z (subst (λ (o : Out). Suits st.maxes o) m.3 (k m.0 m.2).suits) w

-- transitions lead to packets in range
pub led_in_range : (st : StoreState) (ts : List Transitions) (i : ℕ) (z : List ℕ) (t : ℕ) (y : List ℕ) → OutsSuitStore st ts → IsStorePacket st z → IsLed st ts i z t y → IsStorePacket st y
led_in_range st ts i z t y k w m =
    subst (IsStorePacket st) m.5 (gives_in_range st (transitions_at ts m.0).outs z m.1 t (k m.0 m.2) w m.4)

-- outs have sets of packets as the store grows
pub outs_suit_on : (a b : StoreState) (ts : List Transitions) → Grows a b → OutsSuitStore a ts → OutsSuitStore b ts
outs_suit_on a b ts g k i l = all_suit_on a b (transitions_at ts i).outs g (k i l)

-- transitions lead on as the store grows
pub led_on : (a b : StoreState) (ts : List Transitions) (i : ℕ) (z : List ℕ) (t : ℕ) (y : List ℕ) → Grows a b → OutsSuitStore a ts → IsLed a ts i z t y → IsLed b ts i z t y
led_on a b ts i z t y g k m =
    let es : List OutPackets = (transitions_at ts m.0).outs in
    (m.0, m.1, m.2, m.3, gives_on a b es 0 (length es) z (sent_to m.1 (t + 1)) g (k m.0 m.2) (omega arith) m.4, m.5)

-- where they lead in a grown store they led before
pub led_back : (a b : StoreState) (ts : List Transitions) (i : ℕ) (z : List ℕ) (t : ℕ) (y : List ℕ) → Grows a b → OutsSuitStore a ts → IsLed b ts i z t y → IsLed a ts i z t y
led_back a b ts i z t y g k m =
    let es : List OutPackets = (transitions_at ts m.0).outs in
    (m.0, m.1, m.2, m.3, gives_back a b es 0 (length es) z (sent_to m.1 (t + 1)) g (k m.0 m.2) (omega arith) m.4, m.5)

-- the outs of the diagram of a set state lead where its steps do
pub steps_from_of : (st s1 s2 : StoreState) (nss : List (List ℕ)) (states set : List ℕ) (x d : ℕ) (es : List OutPackets) → Grows st s1 → Grows s1 s2 → IsStateAt st states set x s1 nss d → IsByOut s2 d es → AreStepsFrom st states set x s2 nss es
steps_from_of st s1 s2 nss states set x d es g1 g2 at by = record {
  suits_store = by.suits_store;
  goes = λ z g t w m.
      at.goes z g t w (subst (λ (os : List Out). Contains os (sent_to g (t + 1))) (g2.leaves d z at.id) (by.goes z (sent_to g (t + 1)) (packet_on st s2 z (grows_on st s1 s2 g1 g2) w) m));
  comes = λ z n w h s.
      let v = at.comes z n w h s in
      let o : Out = sent_to v.0 (v.1 + 1) in
      let c : Contains (look s2 d z) o = subst (λ (os : List Out). Contains os o) (sym (g2.leaves d z at.id)) v.2 in
      (v.0, v.1, by.comes z o (packet_on st s2 z (grows_on st s1 s2 g1 g2) w) c, v.3, v.4, v.5);
}

-- the transitions of the entries and one more
pub transitions_push : (a st new : StoreState) (ass ss nss : List (List ℕ)) (states : List ℕ) (done : List (ℕ × ℕ)) (ts : List Transitions) (p : ℕ × ℕ) (t : Transitions) → AreStates a states → AreTransitions a ass states done st ss ts → Grows a st → SetsGrow ass ss → Grows st new → SetsGrow ss nss →
    IsPair a ass (length states) p → t.source ≡ p.0 → AreStepsFrom st states (get_or ss p.0 []) p.1 new nss t.outs → AreTransitions a ass states (done ++ p ∷ []) new nss (ts ++ t ∷ [])
transitions_push a st new ass ss nss states done ts p t states_ok so g1 s1 g2 s2 pair from one = record {
  suits_store = λ k l. elim (eqb_tells k (length ts)) [
    | inl same ↦ subst (λ (q : Transitions). AllSuitStore new q.outs) (sym (ap (λ j. transitions_at (ts ++ t ∷ []) j) same.1 ∙ at_new ts t)) one.suits_store
    | inr other ↦
        let m : k < length ts = omega (arith, l, length-append ts (t ∷ []), other.1) in
        subst (λ (q : Transitions). AllSuitStore new q.outs) (sym (at_old ts t k m)) (all_suit_on st new (transitions_at ts k).outs g2 (so.suits_store k m))
  ];
  known = λ i n. elim (named_append done (p ∷ []) i n) [
    | inl old ↦ so.known i old
    | inr last ↦ elim last [
      | inl here ↦ subst (λ j. j < length ass) here pair.known
      | inr none ↦ absurd none
    ]
  ];
  goes = λ i u z y w m. led_out i u z y w m.0 m.1 m.2 m.3 m.4 m.5;
  comes = λ i z n w u s. elim (under_append a done (p ∷ []) i z u) [
    | inl old ↦
        let i_known : i < length ass = so.known i (under_named a done i z old) in
        let v = so.comes i z n w old (subst (λ (l : List ℕ). IsStep a states (l, z) n) (sets_same ss nss i s2 (sets_known ass ss i s1 i_known)) s) in
        let m : IsLed new ts i z v.0 n.1 = led_on st new ts i z v.0 n.1 g2 so.suits_store v.1 in
        (v.0, led_more i z v.0 n.1 m, sets_known ss nss v.0 s2 v.2, sets_same ss nss v.0 s2 v.2 ∙ v.3)
    | inr last ↦ elim last [
      | inr none ↦ absurd none
      | inl here ↦
          let step : IsStep a states (get_or ass p.0 [], z) n = subst (λ (l : List ℕ). IsStep a states (l, z) n) (ap (λ j. get_or nss j []) (sym here.0) ∙ members) s in
          let now : IsStep st states (get_or ss p.0 [], z) n = subst (λ (l : List ℕ). IsStep st states (l, z) n) (sym old_members) (step_on a st states (get_or ass p.0 [], z) n g1 states_ok pair.places step) in
          let v = one.comes z n (packet_on a st z g1 w) (has_on a st p.1 z g1 pair.packets.id here.1) now in
          (v.1, led_last i z v.1 n.1 v.0 (from ∙ here.0) v.2 v.3, v.4, v.5)
    ]
  ];
}
  where
    p_known : p.0 < length ss
    p_known = sets_known ass ss p.0 s1 pair.known

    old_members : get_or ss p.0 [] ≡ get_or ass p.0 []
    old_members = sets_same ass ss p.0 s1 pair.known

    members : get_or nss p.0 [] ≡ get_or ass p.0 []
    members = sets_same ss nss p.0 s2 p_known ∙ old_members

    led_more : (i : ℕ) (z : List ℕ) (u : ℕ) (y : List ℕ) → IsLed new ts i z u y → IsLed new (ts ++ t ∷ []) i z u y
    led_more i z u y m =
        let at : transitions_at ts m.0 ≡ transitions_at (ts ++ t ∷ []) m.0 = sym (at_old ts t m.0 m.2) in
        (m.0, m.1, omega (arith, m.2, length-append ts (t ∷ [])), subst (λ (q : Transitions). q.source ≡ i) at m.3, subst (λ (q : Transitions). GivesAny new q.outs z (sent_to m.1 (u + 1))) at m.4, m.5)

    led_last : (i : ℕ) (z : List ℕ) (u : ℕ) (y : List ℕ) (g : List (ℕ × ℕ)) → t.source ≡ i → GivesAny new t.outs z (sent_to g (u + 1)) → applied g z ≡ y → IsLed new (ts ++ t ∷ []) i z u y
    led_last i z u y g e m is =
        let at : t ≡ transitions_at (ts ++ t ∷ []) (length ts) = sym (at_new ts t) in
        (length ts, g, omega (arith, length-append ts (t ∷ [])), subst (λ (q : Transitions). q.source ≡ i) at e, subst (λ (q : Transitions). GivesAny new q.outs z (sent_to g (u + 1))) at m, is)

    led_out : (i u : ℕ) (z y : List ℕ) → IsStorePacket a z → (k : ℕ) (g : List (ℕ × ℕ)) → k < length (ts ++ t ∷ []) → (transitions_at (ts ++ t ∷ []) k).source ≡ i → GivesAny new (transitions_at (ts ++ t ∷ []) k).outs z (sent_to g (u + 1)) → applied g z ≡ y →
        (i < length ass) × (u < length nss) × IsStep a states (get_or nss i [], z) (get_or nss u [], y)
    led_out i u z y w k g l e m is = elim (eqb_tells k (length ts)) [
      | inl same ↦
          let at : transitions_at (ts ++ t ∷ []) k ≡ t = ap (λ j. transitions_at (ts ++ t ∷ []) j) same.1 ∙ at_new ts t in
          let source : p.0 ≡ i = sym from ∙ subst (λ (q : Transitions). q.source ≡ i) at e in
          let v = one.goes z g u (packet_on a st z g1 w) (subst (λ (q : Transitions). GivesAny new q.outs z (sent_to g (u + 1))) at m) in
          let now : IsStep st states (get_or ass p.0 [], z) (get_or nss u [], applied g z) = subst (λ (s : List ℕ). IsStep st states (s, z) (get_or nss u [], applied g z)) old_members v.2 in
          let step : IsStep a states (get_or ass p.0 [], z) (get_or nss u [], applied g z) = step_back a st states (get_or ass p.0 [], z) (get_or nss u [], applied g z) g1 states_ok pair.places now in
          let to : IsStep a states (get_or ass p.0 [], z) (get_or nss u [], y) = subst (λ (x : List ℕ). IsStep a states (get_or ass p.0 [], z) (get_or nss u [], x)) is step in
          (subst (λ j. j < length ass) source pair.known, v.1, subst (λ (s : List ℕ). IsStep a states (s, z) (get_or nss u [], y)) (sym members ∙ ap (λ j. get_or nss j []) source) to)
      | inr other ↦
          let b : k < length ts = omega (arith, l, length-append ts (t ∷ []), other.1) in
          let at : transitions_at (ts ++ t ∷ []) k ≡ transitions_at ts k = at_old ts t k b in
          let led : IsLed new ts i z u y = (k, g, b, subst (λ (q : Transitions). q.source ≡ i) at e, subst (λ (q : Transitions). GivesAny new q.outs z (sent_to g (u + 1))) at m, is) in
          let v = so.goes i u z y w (led_back st new ts i z u y g2 so.suits_store led) in
          let first : IsStep a states (get_or nss i [], z) (get_or ss u [], y) = subst (λ (s : List ℕ). IsStep a states (s, z) (get_or ss u [], y)) (sym (sets_same ss nss i s2 (sets_known ass ss i s1 v.0))) v.2 in
          (v.0, sets_known ss nss u s2 v.1, subst (λ (s : List ℕ). IsStep a states (get_or nss i [], z) (s, y)) (sym (sets_same ss nss u s2 v.1)) first)
    ]

-- transitions stay so as the store grows
pub transitions_on : (a st new : StoreState) (ass ss : List (List ℕ)) (states : List ℕ) (entries : List (ℕ × ℕ)) (ts : List Transitions) → Grows st new → AreTransitions a ass states entries st ss ts → AreTransitions a ass states entries new ss ts
transitions_on a st new ass ss states entries ts g k = record {
  suits_store = outs_suit_on st new ts g k.suits_store;
  known = k.known;
  goes = λ i t z y w m. k.goes i t z y w (led_back st new ts i z t y g k.suits_store m);
  comes = λ i z n w u s. let v = k.comes i z n w u s in (v.0, led_on st new ts i z v.0 n.1 g k.suits_store v.1, v.2, v.3);
}
