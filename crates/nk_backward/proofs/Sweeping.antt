-- Entries taken back along all transitions in turn, and the closure where a turn adds none.
use Rattle.std.proofs.Common.{◌≡◌, ℕ, zero, suc, ◌<◌, ◌≤◌, ◌+◌, ◌⊎◌, ◌&&◌, Bool, true, false, inl, inr, refl, sym, ◌∙◌, ap, subst, arith, Some, None, List, [], ◌∷◌, ◌++◌, length, get_or, eqb}
use Rattle.std.specs.Map.{lookup}
use Rattle.std.proofs.lemmas.Bool.Decides.{eqb_tells}
use Rattle.std.proofs.lemmas.List.{get_or_default}
use Rattle.nk_field.specs.Act.{applied}
use Rattle.nk_store.specs.declared.node.Out.{Out}
use Rattle.nk_store.specs.StoreState.{StoreState, IsStorePacket, Grows}
use Rattle.nk_store.proofs.Stores.{grows_on}
use Rattle.nk_sets.specs.PacketSets.{is_in, IsSet, IsPacketSetOf}
use Rattle.nk_sets.proofs.SetLemmas.{both_pass, pass_both}
use Rattle.nk_sets.specs.declared.outs.OutPackets.{OutPackets}
use Rattle.nk_sets.specs.Outs.{AllSuitStore, SuitsStore, sent_to}
use Rattle.nk_sets.proofs.Kept.{Has, packet_on, has_on, has_back}
use Rattle.nk_sets.proofs.OutEntries.{suits_at, gives_on, gives_back, gives_more, gives_less, gives_last}
use Rattle.nk_determ.specs.Pairs.{Under, Named, Once}
use Rattle.nk_goal.specs.Entries.{HaveSets}
use Rattle.nk_goal.proofs.Growing.{under_on, under_back, under_named}
use Rattle.nk_goal.proofs.Adding.{not_found, found_under, under_found, under_append, under_left, under_right, each_append}
use Rattle.nk_witness.proofs.PreimageSteps.{out_is}
use Rattle.nk_backward.specs.declared.transitions.Transitions.{Transitions}
use Rattle.nk_backward.specs.Transitions.{transitions_at, OutsSuitStore, IsLed, LeadsInto}
use Rattle.nk_backward.specs.Places.{AreAllPlaces}
use Rattle.nk_backward.specs.Closures.{AreFound, IsClosure}
use Rattle.nk_backward.specs.Sweeps.{IsLedOut, IsLedBy, IsWidened, IsTakenBack, IsSwept}
use Rattle.nk_backward.proofs.Tracing.{gives_in_range, led_in_range, led_on}
use Rattle.nk_backward.proofs.Gaining.{sets_on, found_then}
use Rattle.nk_backward.proofs.Widening.{widened_before}
use Rattle.nk_backward.proofs.Taking.{leads_on, leads_grow}

-- an out to a set that has no entry leads to no entry
pub led_missing : (st : StoreState) (s : ℕ) (q : OutPackets) (all : List (ℕ × ℕ)) (t i : ℕ) (z : List ℕ) → t + 1 ≡ q.out.target → lookup (eqb t) all ≡ None → IsLedOut st s q all i z → ⊥
led_missing st s q all t i z e miss m =
    let same : m.2.0 ≡ t = let k = m.2.1 in omega (arith, k, e) in
    not_found all t miss (subst (λ j. Named all j) same (under_named st all m.2.0 (applied q.out.act z) m.2.2))

-- the packets that an out leads to those of its set's entry
pub led_found : (st s1 : StoreState) (s : ℕ) (q : OutPackets) (all : List (ℕ × ℕ)) (t x led : ℕ) (found more : List (ℕ × ℕ)) → Grows st s1 → HaveSets st found → Once all → lookup (eqb t) all ≡ Some x → t + 1 ≡ q.out.target →
    IsPacketSetOf s1 led (λ pk. is_in st x (applied q.out.act pk) && is_in st q.packets pk) → more ≡ found ++ (s, led) ∷ [] → AreFound st (IsLedOut st s q all) found s1 more
led_found st s1 s q all t x led found more g sets once here e is put = subst (AreFound st (IsLedOut st s q all) found s1) (sym put) (record {
  from = λ i z w u. elim (under_append s1 found ((s, led) ∷ []) i z u) [
    | inl was ↦ inl (under_back st s1 found i z g sets was)
    | inr now ↦ elim now [
      | inl new ↦ inr (on i z w (sym new.0) new.1)
      | inr none ↦ absurd none
    ]
  ];
  kept = λ i z w u. under_left s1 found ((s, led) ∷ []) i z (under_on st s1 found i z g sets u);
  every = λ i z w c. let h = off i z w c in under_right s1 found ((s, led) ∷ []) i z (inl (sym h.0, h.1));
  packets = each_append (λ r. IsSet s1 r.1) found ((s, led) ∷ []) (sets_on st s1 found g sets) (is.set, tt);
})
  where
    on : (i : ℕ) (z : List ℕ) → IsStorePacket st z → i ≡ s → is_in s1 led z ≡ true → IsLedOut st s q all i z
    on i z w is_s has =
        let two = both_pass (is_in st x (applied q.out.act z)) (is_in st q.packets z) (sym (is.at z w.0) ∙ has) in
        (is_s, two.1, (t, e, found_under st all t x (applied q.out.act z) here two.0))

    off : (i : ℕ) (z : List ℕ) → IsStorePacket st z → IsLedOut st s q all i z → (i ≡ s) × (is_in s1 led z ≡ true)
    off i z w c =
        let same : c.2.0 ≡ t = let k = c.2.1 in omega (arith, k, e) in
        let has : Has st x (applied q.out.act z) = under_found st all t x (applied q.out.act z) once here (subst (λ j. Under st all j (applied q.out.act z)) same c.2.2) in
        (c.0, is.at z w.0 ∙ pass_both (is_in st x (applied q.out.act z)) (is_in st q.packets z) has c.1)

-- an out more
pub led_push : (a st new : StoreState) (t : Transitions) (k : ℕ) (q : OutPackets) (all mid more : List (ℕ × ℕ)) → Grows a st → AllSuitStore a t.outs → HaveSets a all → k < length t.outs → q ≡ get_or t.outs k q →
    AreFound a (IsLedBy a t k all) [] st mid → AreFound st (IsLedOut st t.source q all) mid new more → AreFound a (IsLedBy a t (k + 1) all) [] new more
led_push a st new t k q all mid more g suits_store sets l is first second =
    found_then a st new (IsLedBy a t k all) (IsLedOut st t.source q all) (IsLedBy a t (k + 1) all) [] mid more g first second parts left right
  where
    kept : SuitsStore a q
    kept = suits_at a t.outs k q suits_store l is

    parts : (i : ℕ) (z : List ℕ) → IsStorePacket a z → IsLedBy a t (k + 1) all i z → IsLedBy a t k all i z ⊎ IsLedOut st t.source q all i z
    parts i z w c = elim (gives_less a t.outs k q z (sent_to c.1.1 (c.1.0 + 1)) l is c.1.2) [
      | inl old ↦ inl (c.0, (c.1.0, c.1.1, old, c.1.3))
      | inr here ↦
          let act : c.1.1 ≡ q.out.act = ap (λ (o : Out). o.act) (sym here.0) in
          let to : c.1.0 + 1 ≡ q.out.target = ap (λ (o : Out). o.target) (sym here.0) in
          let under : Under st all c.1.0 (applied q.out.act z) = subst (λ (f : List (ℕ × ℕ)). Under st all c.1.0 (applied f z)) act (under_on a st all c.1.0 (applied c.1.1 z) g sets c.1.3) in
          inr (c.0, has_on a st q.packets z g kept.packets.id here.1, (c.1.0, to, under))
    ]

    left : (i : ℕ) (z : List ℕ) → IsStorePacket a z → IsLedBy a t k all i z → IsLedBy a t (k + 1) all i z
    left i z w c = (c.0, (c.1.0, c.1.1, gives_more a t.outs k z (sent_to c.1.1 (c.1.0 + 1)) c.1.2, c.1.3))

    right : (i : ℕ) (z : List ℕ) → IsStorePacket a z → IsLedOut st t.source q all i z → IsLedBy a t (k + 1) all i z
    right i z w c =
        (c.0, (c.2.0, q.out.act, gives_last a t.outs k q z (sent_to q.out.act (c.2.0 + 1)) l is (out_is q.out c.2.0 c.2.1) (has_back a st q.packets z g kept.packets.id c.1), under_back a st all c.2.0 (applied q.out.act z) g sets c.2.2))

-- what was found came
pub taken_back : (st s1 new : StoreState) (t : Transitions) (found back all : List (ℕ × ℕ)) (none : Bool) → Grows st s1 → HaveSets st back → Once back → AreFound st (IsLedBy st t (length t.outs) back) [] s1 found → IsWidened s1 (Under s1 found) back new all none → IsTakenBack st t back new all none
taken_back st s1 new t found back all none g sets once f m =
    widened_before st s1 new (Under s1 found) (IsLedBy st t (length t.outs) back) back all none g sets once m
    (λ i z w u. elim (f.from i z w u) [ inl none ↦ absurd none | inr c ↦ c ]) (λ i z w c. f.every i z w c)

-- the place that stands at a number of the order
abbrev pub place_in : List ((ℕ × ℕ) × ℕ) → ℕ → ℕ
place_in order n = (get_or order n ((0, 0), 0)).1

-- a place by its number
pub place_of : (order : List ((ℕ × ℕ) × ℕ)) (n : ℕ) (p : (ℕ × ℕ) × ℕ) → n < length order → get_or order n p ≡ p → place_in order n ≡ p.1
place_of order n p l e = ap (λ (q : (ℕ × ℕ) × ℕ). q.1) (sym (get_or_default order n p ((0, 0), 0) l) ∙ e)

-- In a sweep: the first k places of the order are swept. If no packet came, the entries are the old ones, and the transitions of these
-- places lead into them from them alone.
pub record IsSweptSoFar (a : StoreState) (ts : List Transitions) (order : List ((ℕ × ℕ) × ℕ)) (goal : List (ℕ × ℕ)) (st : StoreState) (back : List (ℕ × ℕ)) (k : ℕ) (closed : Bool) : Type 0 where
  pub grows : Grows a st
  pub sound : (i : ℕ) (z : List ℕ) → IsStorePacket a z → Under st back i z → (n : ℕ) × LeadsInto a ts (Under a goal) n i z
  pub kept : (i : ℕ) (z : List ℕ) → IsStorePacket a z → Under a goal i z → Under st back i z
  pub packets : HaveSets st back
  pub once : Once back
  pub same : closed ≡ true → (i : ℕ) (z : List ℕ) → IsStorePacket a z → Under st back i z → Under a goal i z
  pub done : closed ≡ true → (n : ℕ) → n < k → (i : ℕ) (z : List ℕ) → IsStorePacket a z →
      IsLedBy a (transitions_at ts (place_in order n)) (length (transitions_at ts (place_in order n)).outs) goal i z → Under a goal i z

-- before the first place
pub swept_start : (a : StoreState) (ts : List Transitions) (order : List ((ℕ × ℕ) × ℕ)) (goal : List (ℕ × ℕ)) → Grows a a → HaveSets a goal → Once goal → IsSweptSoFar a ts order goal a goal 0 true
swept_start a ts order goal g sets once = record {
  grows = g;
  sound = λ i z w u. (0, u);
  kept = λ i z w u. u;
  packets = sets;
  once = once;
  same = λ e i z w u. u;
  done = λ e n l i z w c. absurd (omega (arith, l));
}

-- a place more
pub swept_next : (a st new : StoreState) (ts : List Transitions) (order : List ((ℕ × ℕ) × ℕ)) (goal back all : List (ℕ × ℕ)) (k j : ℕ) (closed none : Bool) → OutsSuitStore a ts → j < length ts → place_in order k ≡ j →
    IsSweptSoFar a ts order goal st back k closed → Grows st new → IsTakenBack st (transitions_at ts j) back new all none → IsSweptSoFar a ts order goal new all (k + 1) (closed && none)
swept_next a st new ts order goal back all k j closed none suits_store lj is was g m = record {
  grows = grows_on a st new was.grows g;
  sound = λ i z w u. elim (m.from i z (on z w) u) [
    | inl old ↦ was.sound i z w old
    | inr came ↦
        let y : List ℕ = applied came.1.1 z in
        let led : IsLed a ts i z came.1.0 y = (j, came.1.1, lj, sym came.0, gives_back a st t.outs 0 (length t.outs) z (sent_to came.1.1 (came.1.0 + 1)) was.grows (suits_store j lj) (omega arith) came.1.2, refl) in
        let rest = was.sound came.1.0 y (led_in_range a ts i z came.1.0 y suits_store w led) came.1.3 in
        (suc rest.0, (came.1.0, y, led, rest.1))
  ];
  kept = λ i z w u. m.kept i z (on z w) (was.kept i z w u);
  packets = m.packets;
  once = m.once;
  same = λ e i z w u. let b = both_pass closed none e in was.same b.0 i z w (stayed b.1 i z w u);
  done = λ e n l i z w c.
      let b = both_pass closed none e in
      elim (eqb_tells n k) [
        | inl here ↦
            let at : place_in order n ≡ j = ap (λ r. place_in order r) here.1 ∙ is in
            let old : IsLedBy a t (length t.outs) goal i z = subst (λ r. IsLedBy a (transitions_at ts r) (length (transitions_at ts r).outs) goal i z) at c in
            was.same b.0 i z w (stayed b.1 i z w (m.every i z (on z w) (led_now i z w old)))
        | inr other ↦ was.done b.0 n (omega (arith, l, other.1)) i z w c
      ];
}
  where
    t : Transitions
    t = transitions_at ts j

    on : (z : List ℕ) → IsStorePacket a z → IsStorePacket st z
    on z w = packet_on a st z was.grows w

    stayed : none ≡ true → (i : ℕ) (z : List ℕ) → IsStorePacket a z → Under new all i z → Under st back i z
    stayed e i z w u = m.same e i z (on z w) u

    led_now : (i : ℕ) (z : List ℕ) → IsStorePacket a z → IsLedBy a t (length t.outs) goal i z → IsLedBy st t (length t.outs) back i z
    led_now i z w c =
        let good : IsStorePacket a (applied c.1.1 z) = gives_in_range a t.outs z c.1.1 c.1.0 (suits_store j lj) w c.1.2 in
        (c.0, (c.1.0, c.1.1, gives_on a st t.outs 0 (length t.outs) z (sent_to c.1.1 (c.1.0 + 1)) was.grows (suits_store j lj) (omega arith) c.1.2, was.kept c.1.0 (applied c.1.1 z) good c.1.3))

-- after the last place
pub swept_whole : (a st : StoreState) (ts : List Transitions) (order : List ((ℕ × ℕ) × ℕ)) (goal back : List (ℕ × ℕ)) (k : ℕ) (closed : Bool) → OutsSuitStore a ts → AreAllPlaces (length ts) order → length order ≤ k → IsSweptSoFar a ts order goal st back k closed → IsSwept a ts goal st back closed
swept_whole a st ts order goal back k closed suits_store places l was = record {
  sound = was.sound;
  kept = was.kept;
  packets = was.packets;
  once = was.once;
  shut = λ e i z t y w led u.
      let c = places.every led.0 led.2 in
      let at : place_in order c.1.0 ≡ led.0 = place_of order c.1.0 (c.0, led.0) c.1.1 c.1.2 in
      let there : Under a goal t (applied led.1 z) = subst (λ (x : List ℕ). Under a goal t x) (sym led.5) (was.same e t y (led_in_range a ts i z t y suits_store w led) u) in
      let by : IsLedBy a (transitions_at ts led.0) (length (transitions_at ts led.0).outs) goal i z = (sym led.3, (t, led.1, led.4, there)) in
      was.kept i z w (was.done e c.1.0 (let n = c.1.1 in omega (arith, l, n)) i z w (subst (λ r. IsLedBy a (transitions_at ts r) (length (transitions_at ts r).outs) goal i z) (sym at) by));
}

-- no sweep yet
pub swept_none : (a : StoreState) (ts : List Transitions) (goal : List (ℕ × ℕ)) → HaveSets a goal → Once goal → IsSwept a ts goal a goal false
swept_none a ts goal sets once = record {
  sound = λ i z w u. (0, u);
  kept = λ i z w u. u;
  packets = sets;
  once = once;
  shut = λ e. absurd cc;
}

-- a sweep more
pub swept_again : (a st new : StoreState) (ts : List Transitions) (goal back all : List (ℕ × ℕ)) (before closed : Bool) → Grows a st → OutsSuitStore a ts → IsSwept a ts goal st back before → IsSwept st ts back new all closed → IsSwept a ts goal new all closed
swept_again a st new ts goal back all before closed g suits_store first second = record {
  sound = λ i z w u.
      let l = second.sound i z (packet_on a st z g w) u in
      leads_on a st ts (Under st back) (Under a goal) g suits_store first.sound l.0 i z w l.1;
  kept = λ i z w u. second.kept i z (packet_on a st z g w) (first.kept i z w u);
  packets = second.packets;
  once = second.once;
  shut = λ e i z t y w led u. second.shut e i z t y (packet_on a st z g w) (led_on a st ts i z t y g suits_store led) u;
}

-- entries that are closed are the closure
pub swept_closed : (a st : StoreState) (ts : List Transitions) (goal back : List (ℕ × ℕ)) → OutsSuitStore a ts → IsSwept a ts goal st back true → IsClosure a ts goal st back
swept_closed a st ts goal back suits_store was = record {
  sound = was.sound;
  full = full;
  packets = was.packets;
  once = was.once;
}
  where
    full : (n i : ℕ) (z : List ℕ) → IsStorePacket a z → LeadsInto a ts (Under a goal) n i z → Under st back i z
    full zero i z w l = was.kept i z w l
    full (suc n) i z w l = was.shut refl i z l.0 l.1 w l.2 (full n l.0 l.1 (led_in_range a ts i z l.0 l.1 suits_store w l.2) l.3)

-- the closure of swept entries is the goal's
pub closure_swept : (a st new : StoreState) (ts : List Transitions) (goal back all : List (ℕ × ℕ)) (closed : Bool) → Grows a st → OutsSuitStore a ts → IsSwept a ts goal st back closed → IsClosure st ts back new all → IsClosure a ts goal new all
closure_swept a st new ts goal back all closed g suits_store was c = record {
  sound = λ i z w u.
      let l = c.sound i z (packet_on a st z g w) u in
      leads_on a st ts (Under st back) (Under a goal) g suits_store was.sound l.0 i z w l.1;
  full = λ n i z w l. c.full n i z (packet_on a st z g w) (leads_grow a st ts (Under a goal) (Under st back) g suits_store was.kept n i z w l);
  packets = c.packets;
  once = c.once;
}
