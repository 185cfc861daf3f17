-- Outs taken back along the transitions that they stand for, and a frontier taken back until no more packets come.
use Rattle.std.proofs.Common.{◌≡◌, ℕ, zero, suc, ◌<◌, ◌+◌, ◌⊎◌, ◌&&◌, true, inl, inr, refl, sym, ◌∙◌, ap, subst, arith, List, [], ◌∷◌, ◌++◌, length}
use Rattle.std.proofs.lemmas.Bool.Decides.{eqb_tells}
use Rattle.nk_field.specs.Act.{applied}
use Rattle.nk_store.specs.declared.node.Out.{Out}
use Rattle.nk_store.specs.StoreState.{StoreState, IsStorePacket, Grows}
use Rattle.nk_store.proofs.Stores.{grows_on}
use Rattle.nk_sets.specs.PacketSets.{is_in, IsSet, IsPacketSetOf}
use Rattle.nk_sets.proofs.SetLemmas.{both_pass, pass_both}
use Rattle.nk_sets.specs.declared.outs.OutPackets.{OutPackets}
use Rattle.nk_sets.specs.Outs.{entry, AllSuitStore}
use Rattle.nk_sets.proofs.Kept.{Has, packet_on, has_on, has_back}
use Rattle.nk_determ.specs.Pairs.{Under, Once}
use Rattle.nk_goal.specs.Entries.{HaveSets, IsMerged}
use Rattle.nk_goal.proofs.Growing.{under_on, under_back}
use Rattle.nk_goal.proofs.Adding.{under_append, under_left, under_right, each_append}
use Rattle.nk_steps.proofs.Locals.{acts_in_range}
use Rattle.nk_backward.specs.declared.transitions.Transitions.{Transitions}
use Rattle.nk_backward.specs.Transitions.{transitions_at, OutsSuitStore, IsLed, LeadsInto}
use Rattle.nk_backward.specs.Predecessors.{out_at, ArePlacesBelow, place_at, transition_out, IsInto, LeavesFrom, packet_made, ArePredecessors, AreShownAt}
use Rattle.nk_backward.specs.Closures.{IsTakenOut, IsTakenBelow, LeadsToSet, IsLedInto, AreFound, IsGained, IsClosure, IsWholeFrontier}
use Rattle.nk_backward.proofs.Listing.{under_or_not}
use Rattle.nk_backward.proofs.Tracing.{led_in_range, led_on, led_back}
use Rattle.nk_backward.proofs.Marking.{place_is}
use Rattle.nk_backward.proofs.Preceding.{made_in_range, led_by, number_led}
use Rattle.nk_backward.proofs.Gaining.{sets_on, found_then, found_before}

-- what an out that stands for no transition takes back
pub taken_none : (st : StoreState) (ts : List Transitions) (places : List (ℕ × ℕ)) (q : OutPackets) (i : ℕ) (z : List ℕ) → ((n : ℕ) → n < length places → q.out.target ≡ n + 1 → ⊥) → IsTakenOut st ts places q i z → ⊥
taken_none st ts places q i z none k = none k.0 k.1 k.2

-- the two indices that an out stands for are a transition's
pub place_within : (ts : List Transitions) (places : List (ℕ × ℕ)) (q : OutPackets) (p : ℕ × ℕ) → ArePlacesBelow ts (length ts) places → (n : ℕ) × (n < length places) × (q.out.target ≡ n + 1) × (p ≡ place_at places n) → (p.0 < length ts) × (p.1 < length (transitions_at ts p.0).outs)
place_within ts places q p are k = subst (λ (r : ℕ × ℕ). (r.0 < length ts) × (r.1 < length (transitions_at ts r.0).outs)) (sym k.3) (place_is ts places k.0 are k.1)

-- the packets of an out taken back along its transition
pub taken_one : (st s1 : StoreState) (ts : List Transitions) (places : List (ℕ × ℕ)) (q : OutPackets) (p : ℕ × ℕ) (t : Transitions) (o : OutPackets) (led : ℕ) (found more : List (ℕ × ℕ)) → Grows st s1 → HaveSets st found →
    (n : ℕ) × (n < length places) × (q.out.target ≡ n + 1) × (p ≡ place_at places n) → t ≡ transitions_at ts p.0 → o ≡ entry t.outs p.1 → IsPacketSetOf s1 led (λ pk. is_in st q.packets (applied o.out.act pk) && is_in st o.packets pk) →
    more ≡ found ++ (t.source, led) ∷ [] → AreFound st (IsTakenOut st ts places q) found s1 more
taken_one st s1 ts places q p t o led found more g sets k is_t is_o is put = subst (AreFound st (IsTakenOut st ts places q) found s1) (sym put) (record {
  from = λ i z w u. elim (under_append s1 found ((t.source, led) ∷ []) i z u) [
    | inl was ↦ inl (under_back st s1 found i z g sets was)
    | inr now ↦ elim now [
      | inl here ↦ inr (on i z w (sym here.0, here.1))
      | inr none ↦ absurd none
    ]
  ];
  kept = λ i z w u. under_left s1 found ((t.source, led) ∷ []) i z (under_on st s1 found i z g sets u);
  every = λ i z w c. let h = off i z w c in under_right s1 found ((t.source, led) ∷ []) i z (inl (sym h.0, h.1));
  packets = each_append (λ r. IsSet s1 r.1) found ((t.source, led) ∷ []) (sets_on st s1 found g sets) (is.set, tt);
})
  where
    n : ℕ
    n = k.0

    t_is : t ≡ transitions_at ts (place_at places n).0
    t_is = is_t ∙ ap (λ (r : ℕ × ℕ). transitions_at ts r.0) k.3

    o_is : o ≡ out_at ts (place_at places n)
    o_is = is_o ∙ ap (λ (u : Transitions). entry u.outs p.1) is_t ∙ ap (λ (r : ℕ × ℕ). out_at ts r) k.3

    on : (i : ℕ) (z : List ℕ) → IsStorePacket st z → (i ≡ t.source) × (is_in s1 led z ≡ true) → IsTakenOut st ts places q i z
    on i z w c =
        let two = both_pass (is_in st q.packets (applied o.out.act z)) (is_in st o.packets z) (sym (is.at z w.0) ∙ c.1) in
        (n, k.1, k.2, ap (λ (u : Transitions). u.source) (sym t_is) ∙ sym c.0, subst (λ (e : OutPackets). is_in st e.packets z ≡ true) o_is two.1, subst (λ (e : OutPackets). is_in st q.packets (applied e.out.act z) ≡ true) o_is two.0)

    off : (i : ℕ) (z : List ℕ) → IsStorePacket st z → IsTakenOut st ts places q i z → (i ≡ t.source) × (is_in s1 led z ≡ true)
    off i z w c =
        let e : c.0 ≡ n = let a = c.2 in let b = k.2 in omega (arith, a, b) in
        let source : (transitions_at ts (place_at places n).0).source ≡ i = subst (λ (j : ℕ). (transitions_at ts (place_at places j).0).source ≡ i) e c.3 in
        let from : is_in st (out_at ts (place_at places n)).packets z ≡ true = subst (λ (j : ℕ). LeavesFrom st ts places j z) e c.4 in
        let to : is_in st q.packets (applied (out_at ts (place_at places n)).out.act z) ≡ true = subst (λ (j : ℕ). is_in st q.packets (packet_made ts places j z) ≡ true) e c.5 in (
          sym source ∙ ap (λ (u : Transitions). u.source) (sym t_is),
          is.at z w.0 ∙ pass_both (is_in st q.packets (applied o.out.act z)) (is_in st o.packets z) (subst (λ (e : OutPackets). is_in st q.packets (applied e.out.act z) ≡ true) (sym o_is) to) (subst (λ (e : OutPackets). is_in st e.packets z ≡ true) (sym o_is) from),
        )

-- an out more
pub taken_push : (a st new : StoreState) (ts : List Transitions) (places : List (ℕ × ℕ)) (es : List OutPackets) (k : ℕ) (q : OutPackets) (found mid more : List (ℕ × ℕ)) → Grows a st → OutsSuitStore a ts → ArePlacesBelow ts (length ts) places → AllSuitStore a es → k < length es → q ≡ entry es k →
    AreFound a (IsTakenBelow a ts places es k) found st mid → AreFound st (IsTakenOut st ts places q) mid new more → AreFound a (IsTakenBelow a ts places es (k + 1)) found new more
taken_push a st new ts places es k q found mid more g suits_store are outs l is first second =
    found_then a st new (IsTakenBelow a ts places es k) (IsTakenOut st ts places q) (IsTakenBelow a ts places es (k + 1)) found mid more g first second parts (λ i z w c. (c.0, omega (arith, c.1), c.2)) right
  where
    set : IsSet a q.packets
    set = subst (λ (e : OutPackets). IsSet a e.packets) (sym is) (outs k l).packets

    parts : (i : ℕ) (z : List ℕ) → IsStorePacket a z → IsTakenBelow a ts places es (k + 1) i z → IsTakenBelow a ts places es k i z ⊎ IsTakenOut st ts places q i z
    parts i z w c = elim (eqb_tells c.0 k) [
      | inr other ↦ inl (c.0, let m = c.1 in omega (arith, m, other.1), c.2)
      | inl same ↦
          let m : IsTakenOut a ts places q i z = subst (λ (e : OutPackets). IsTakenOut a ts places e i z) (ap (λ (j : ℕ). entry es j) same.1 ∙ sym is) c.2 in
          let n : ℕ = m.0 in
          let at = place_is ts places n are m.1 in
          inr (n, m.1, m.2, m.3, has_on a st (out_at ts (place_at places n)).packets z g (suits_store (place_at places n).0 at.0 (place_at places n).1 at.1).packets.id m.4, has_on a st q.packets (packet_made ts places n z) g set.id m.5)
    ]

    right : (i : ℕ) (z : List ℕ) → IsStorePacket a z → IsTakenOut st ts places q i z → IsTakenBelow a ts places es (k + 1) i z
    right i z w m =
        let n : ℕ = m.0 in
        let at = place_is ts places n are m.1 in
        let back : IsTakenOut a ts places q i z = (n, m.1, m.2, m.3, has_back a st (out_at ts (place_at places n)).packets z g (suits_store (place_at places n).0 at.0 (place_at places n).1 at.1).packets.id m.4, has_back a st q.packets (packet_made ts places n z) g set.id m.5) in
        (k, omega arith, subst (λ (e : OutPackets). IsTakenOut a ts places e i z) is back)

-- all outs that stand for transitions into the set at the packets of x
pub taken_all : (st s1 new : StoreState) (ts : List Transitions) (places into : List (ℕ × ℕ)) (t x : ℕ) (es : List OutPackets) (found more : List (ℕ × ℕ)) → Grows st s1 → OutsSuitStore st ts → HaveSets st found → ArePredecessors st ts places into → AreShownAt st into t x s1 es →
    AreFound s1 (IsTakenBelow s1 ts places es (length es)) found new more → AreFound st (LeadsToSet st ts t x) found new more
taken_all st s1 new ts places into t x es found more g suits_store sets pre shown m =
    found_before st s1 new (IsTakenBelow s1 ts places es (length es)) (LeadsToSet st ts t x) found more g sets m on off
  where
    are : ArePlacesBelow ts (length ts) places
    are = pre.places_are

    on : (i : ℕ) (z : List ℕ) → IsStorePacket st z → IsTakenBelow s1 ts places es (length es) i z → LeadsToSet st ts t x i z
    on i z w c =
        let j : ℕ = c.0 in
        let k = c.2 in
        let n : ℕ = k.0 in
        let at = place_is ts places n are k.1 in
        let from : LeavesFrom st ts places n z = has_back st s1 (out_at ts (place_at places n)).packets z g (suits_store (place_at places n).0 at.0 (place_at places n).1 at.1).packets.id k.4 in
        let o : Out = (entry es j).out in
        let y : List ℕ = packet_made ts places n z in
        let good : IsStorePacket st y = acts_in_range st.maxes 0 (out_at ts (place_at places n)).out.act z (suits_store (place_at places n).0 at.0 (place_at places n).1 at.1).suits w in
        let v = shown.goes y o good (j, omega arith, c.1, refl, k.5) in
        let s = pre.goes t y o good v.1 in
        let same : s.0 ≡ n = let a : o.target ≡ s.0 + 1 = ap (λ (r : Out). r.target) s.1 in let b = k.2 in omega (arith, a, b) in
        let is : IsInto ts places n t = subst (λ (q : ℕ). IsInto ts places q t) same s.2 in
        (y, led_by st ts places n i t z are is k.3 from, v.0)

    off : (i : ℕ) (z : List ℕ) → IsStorePacket st z → LeadsToSet st ts t x i z → IsTakenBelow s1 ts places es (length es) i z
    off i z w c =
        let y : List ℕ = c.0 in
        let k = number_led st ts places i t z y are c.1 in
        let n : ℕ = k.0 in
        let at = place_is ts places n are k.1.0 in
        let good : IsStorePacket st (packet_made ts places n z) = made_in_range st ts places n t z suits_store are k.1 w k.3 in
        let has : Has st x (packet_made ts places n z) = subst (λ (r : List ℕ). Has st x r) (sym k.4) c.2 in
        let v = shown.comes (packet_made ts places n z) (transition_out n) good has (pre.comes n t z w k.1 k.3) in
        let to : n + 1 ≡ (entry es v.0).out.target = ap (λ (r : Out). r.target) (sym v.3) in
        (v.0, v.2, (n, k.1.0, sym to, k.2, has_on st s1 (out_at ts (place_at places n)).packets z g (suits_store (place_at places n).0 at.0 (place_at places n).1 at.1).packets.id k.3, v.4))

-- an entry of the frontier more
pub frontier_push : (a st new : StoreState) (ts : List Transitions) (done : List (ℕ × ℕ)) (p : ℕ × ℕ) (found mid more : List (ℕ × ℕ)) → Grows a st → OutsSuitStore a ts → IsSet a p.1 → AreFound a (IsLedInto a ts done) found st mid → AreFound st (LeadsToSet st ts p.0 p.1) mid new more →
    AreFound a (IsLedInto a ts (done ++ p ∷ [])) found new more
frontier_push a st new ts done p found mid more g suits_store set first second =
    found_then a st new (IsLedInto a ts done) (LeadsToSet st ts p.0 p.1) (IsLedInto a ts (done ++ p ∷ [])) found mid more g first second parts
    (λ i z w c. (c.0, c.1, c.2, under_left a done (p ∷ []) c.0 c.1 c.3)) right
  where
    parts : (i : ℕ) (z : List ℕ) → IsStorePacket a z → IsLedInto a ts (done ++ p ∷ []) i z → IsLedInto a ts done i z ⊎ LeadsToSet st ts p.0 p.1 i z
    parts i z w c = elim (under_append a done (p ∷ []) c.0 c.1 c.3) [
      | inl was ↦ inl (c.0, c.1, c.2, was)
      | inr now ↦ elim now [
        | inl here ↦ inr (c.1, subst (λ (t : ℕ). IsLed st ts i z t c.1) (sym here.0) (led_on a st ts i z c.0 c.1 g suits_store c.2), has_on a st p.1 c.1 g set.id here.1)
        | inr none ↦ absurd none
      ]
    ]

    right : (i : ℕ) (z : List ℕ) → IsStorePacket a z → LeadsToSet st ts p.0 p.1 i z → IsLedInto a ts (done ++ p ∷ []) i z
    right i z w c = (p.0, c.0, led_back a st ts i z p.0 c.0 g suits_store c.1, under_right a done (p ∷ []) p.0 c.0 (inl (refl, has_back a st p.1 c.0 g set.id c.2)))

-- ways to a goal, each place of which leads to another goal
pub leads_on : (a st : StoreState) (ts : List Transitions) (Goal Next : ℕ → List ℕ → Type 0) → Grows a st → OutsSuitStore a ts → ((i : ℕ) (z : List ℕ) → IsStorePacket a z → Goal i z → (n : ℕ) × LeadsInto a ts Next n i z) →
    (m i : ℕ) (z : List ℕ) → IsStorePacket a z → LeadsInto st ts Goal m i z → (n : ℕ) × LeadsInto a ts Next n i z
leads_on a st ts Goal Next g suits_store f zero i z w l = f i z w l
leads_on a st ts Goal Next g suits_store f (suc m) i z w l =
    let led : IsLed a ts i z l.0 l.1 = led_back a st ts i z l.0 l.1 g suits_store l.2 in
    let rest = leads_on a st ts Goal Next g suits_store f m l.0 l.1 (led_in_range a ts i z l.0 l.1 suits_store w led) l.3 in
    (suc rest.0, (l.0, l.1, led, rest.1))

-- ways as the store grows, to a goal that follows
pub leads_grow : (a b : StoreState) (ts : List Transitions) (Goal Next : ℕ → List ℕ → Type 0) → Grows a b → OutsSuitStore a ts → ((i : ℕ) (z : List ℕ) → IsStorePacket a z → Goal i z → Next i z) →
    (n i : ℕ) (z : List ℕ) → IsStorePacket a z → LeadsInto a ts Goal n i z → LeadsInto b ts Next n i z
leads_grow a b ts Goal Next g suits_store f zero i z w l = f i z w l
leads_grow a b ts Goal Next g suits_store f (suc n) i z w l =
    (l.0, l.1, led_on a b ts i z l.0 l.1 g suits_store l.2, leads_grow a b ts Goal Next g suits_store f n l.0 l.1 (led_in_range a ts i z l.0 l.1 suits_store w l.2) l.3)

-- Between two passes: all entries lead to the goal, and a transition into an entry leads from an entry, unless it leads into the
-- frontier, which is not yet taken back.
pub record IsPart (a : StoreState) (ts : List Transitions) (goal : List (ℕ × ℕ)) (st : StoreState) (back frontier : List (ℕ × ℕ)) : Type 0 where
  pub grows : Grows a st
  pub sound : (i : ℕ) (z : List ℕ) → IsStorePacket a z → Under st back i z → (n : ℕ) × LeadsInto a ts (Under a goal) n i z
  pub kept : (i : ℕ) (z : List ℕ) → IsStorePacket a z → Under a goal i z → Under st back i z
  pub closed : (i : ℕ) (z : List ℕ) (t : ℕ) (y : List ℕ) → IsStorePacket a z → IsLed a ts i z t y → Under st back t y → Under st frontier t y ⊎ Under st back i z
  pub packets : HaveSets st back
  pub once : Once back
  pub frontier_packets : HaveSets st frontier
  pub inside : (i : ℕ) (z : List ℕ) → IsStorePacket a z → Under st frontier i z → Under st back i z

-- before the first pass
pub part_start : (a : StoreState) (ts : List Transitions) (goal frontier : List (ℕ × ℕ)) → Grows a a → HaveSets a goal → Once goal → OutsSuitStore a ts → IsWholeFrontier a frontier goal → IsPart a ts goal a goal frontier
part_start a ts goal frontier g sets once suits_store f = record {
  grows = g;
  sound = λ i z w u. (0, u);
  kept = λ i z w u. u;
  closed = λ i z t y w m u. inl (f.whole t y (led_in_range a ts i z t y suits_store w m) u);
  packets = sets;
  once = once;
  frontier_packets = f.packets;
  inside = f.inside;
}

-- one pass more
pub part_next : (a st new : StoreState) (ts : List Transitions) (goal back frontier all next : List (ℕ × ℕ)) → OutsSuitStore a ts → IsPart a ts goal st back frontier → Grows st new → IsGained st (IsLedInto st ts frontier) back [] new all next → IsPart a ts goal new all next
part_next a st new ts goal back frontier all next suits_store was g m = record {
  grows = grows_on a st new was.grows g;
  sound = λ i z w u. elim (m.from i z (packet_on a st z was.grows w) u) [
    | inl old ↦ was.sound i z w old
    | inr came ↦
        let led : IsLed a ts i z came.0 came.1 = led_back a st ts i z came.0 came.1 was.grows suits_store came.2 in
        let good : IsStorePacket a came.1 = led_in_range a ts i z came.0 came.1 suits_store w led in
        let rest = was.sound came.0 came.1 good (was.inside came.0 came.1 good came.3) in
        (suc rest.0, (came.0, came.1, led, rest.1))
  ];
  kept = λ i z w u. m.kept i z (packet_on a st z was.grows w) (was.kept i z w u);
  closed = λ i z t y w led u.
      let good : IsStorePacket a y = led_in_range a ts i z t y suits_store w led in
      let good_now : IsStorePacket st y = packet_on a st y was.grows good in
      elim (under_or_not st back t y) [
        | inr none ↦ inl (m.next_new t y good_now u none)
        | inl old ↦ elim (was.closed i z t y w led old) [
          | inl ahead ↦ inr (m.every i z (packet_on a st z was.grows w) (t, y, led_on a st ts i z t y was.grows suits_store led, ahead))
          | inr here ↦ inr (m.kept i z (packet_on a st z was.grows w) here)
        ]
      ];
  packets = m.packets;
  once = m.once;
  frontier_packets = m.next_packets;
  inside = λ i z w u. elim (m.next_from i z (packet_on a st z was.grows w) u) [ inl none ↦ absurd none | inr came ↦ came.0 ];
}

-- after a pass in which no packet came
pub part_last : (a st : StoreState) (ts : List Transitions) (goal back : List (ℕ × ℕ)) → OutsSuitStore a ts → IsPart a ts goal st back [] → IsClosure a ts goal st back
part_last a st ts goal back suits_store was = record {
  sound = was.sound;
  full = full;
  packets = was.packets;
  once = was.once;
}
  where
    full : (n i : ℕ) (z : List ℕ) → IsStorePacket a z → LeadsInto a ts (Under a goal) n i z → Under st back i z
    full zero i z w l = was.kept i z w l
    full (suc n) i z w l = elim (was.closed i z l.0 l.1 w l.2 (full n l.0 l.1 (led_in_range a ts i z l.0 l.1 suits_store w l.2) l.3)) [
      | inl none ↦ absurd none
      | inr here ↦ here
    ]

-- a frontier that has all entries
pub frontier_all : (st : StoreState) (back : List (ℕ × ℕ)) → HaveSets st back → IsWholeFrontier st back back
frontier_all st back sets = record {
  packets = sets;
  inside = λ i z w u. u;
  whole = λ i z w u. u;
}

-- the closure of entries with the same packets, in a store before, is the goal's
pub closure_as : (st s1 new : StoreState) (ts : List Transitions) (goal back all : List (ℕ × ℕ)) → Grows st s1 → OutsSuitStore st ts → ((i : ℕ) (z : List ℕ) → IsStorePacket st z → Under s1 back i z → Under st goal i z) → ((i : ℕ) (z : List ℕ) → IsStorePacket st z → Under st goal i z → Under s1 back i z) →
    IsClosure s1 ts back new all → IsClosure st ts goal new all
closure_as st s1 new ts goal back all g suits_store off on c = record {
  sound = λ i z w u.
      let l = c.sound i z (packet_on st s1 z g w) u in
      leads_on st s1 ts (Under s1 back) (Under st goal) g suits_store (λ j y p v. (0, off j y p v)) l.0 i z w l.1;
  full = λ n i z w l. c.full n i z (packet_on st s1 z g w) (leads_grow st s1 ts (Under st goal) (Under s1 back) g suits_store on n i z w l);
  packets = c.packets;
  once = c.once;
}

-- the closure of entries that were put together from a list is the list's
pub closure_from : (st s1 new : StoreState) (ts : List Transitions) (goal back all : List (ℕ × ℕ)) → Grows st s1 → OutsSuitStore st ts → IsMerged st [] goal s1 back → IsClosure s1 ts back new all → IsClosure st ts goal new all
closure_from st s1 new ts goal back all g suits_store m c =
    closure_as st s1 new ts goal back all g suits_store (λ i z w v. elim (m.either i z w v) [ inl none ↦ absurd none | inr there ↦ there ]) (λ i z w v. m.more i z w v) c

-- the closure of entries that stood in a store before
pub closure_before : (st s1 new : StoreState) (ts : List Transitions) (goal all : List (ℕ × ℕ)) → Grows st s1 → OutsSuitStore st ts → HaveSets st goal → IsClosure s1 ts goal new all → IsClosure st ts goal new all
closure_before st s1 new ts goal all g suits_store sets c =
    closure_as st s1 new ts goal goal all g suits_store (λ i z w v. under_back st s1 goal i z g sets v) (λ i z w v. under_on st s1 goal i z g sets v) c
