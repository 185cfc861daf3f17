-- The transitions into each set, by their numbers.
use Rattle.std.proofs.Common.{◌≡◌, ℕ, ◌+◌, true, refl, sym, ◌∙◌, ap, subst, arith, eqb, List, length, Option, Some, IfSome, Contains}
use Rattle.std.specs.List.Sorted.{IsPermutation}
use Rattle.std.specs.Map.{lookup}
use Rattle.std.proofs.lemmas.Option.{IfSome_then}
use Rattle.std.proofs.lemmas.List.Sorted.{IsPermutation-sym}
use Rattle.nk_field.specs.Act.{applied}
use Rattle.nk_store.specs.declared.node.Out.{Out}
use Rattle.nk_store.specs.StoreState.{StoreState, IsStorePacket, HasLeaves, look, Grows}
use Rattle.nk_store.proofs.Stores.{grows_on}
use Rattle.nk_apply.specs.Leaves.{guarded}
use Rattle.nk_sets.specs.PacketSets.{is_in}
use Rattle.nk_sets.specs.declared.outs.OutPackets.{OutPackets}
use Rattle.nk_sets.specs.Outs.{IsByOut, sent_to}
use Rattle.nk_sets.proofs.Kept.{packet_on, packet_back, has_back}
use Rattle.nk_witness.proofs.PreimageSteps.{out_is}
use Rattle.nk_backward.specs.declared.transitions.Transitions.{Transitions}
use Rattle.nk_backward.specs.declared.predecessors.Predecessors.{Predecessors}
use Rattle.nk_backward.specs.Transitions.{transitions_at, OutsSuitStore, IsLed}
use Rattle.nk_backward.specs.Predecessors.{out_at, ArePlacesBelow, place_at, transition_out, IsInto, LeavesFrom, packet_made, ShowsBelow, AreMarked, AreSetsJoined, ArePredecessors, AreShownAt}
use Rattle.nk_backward.proofs.Tracing.{gives_in_range}
use Rattle.nk_backward.proofs.Marking.{place_is, number_of, guarded_in, guarded_has, guarded_some}
use Rattle.nk_backward.proofs.Joining.{shows_moved, shown_on, shown_back}

-- the transition of a number leads from packets in range to packets in range
pub made_in_range : (st : StoreState) (ts : List Transitions) (places : List (ℕ × ℕ)) (n t : ℕ) (z : List ℕ) → OutsSuitStore st ts → ArePlacesBelow ts (length ts) places → IsInto ts places n t → IsStorePacket st z → LeavesFrom st ts places n z → IsStorePacket st (packet_made ts places n z)
made_in_range st ts places n t z suits_store are i w h =
    let p : ℕ × ℕ = place_at places n in
    let at = place_is ts places n are i.0 in
    gives_in_range st (transitions_at ts p.0).outs z (out_at ts p).out.act t (suits_store p.0 at.0) w (p.1, omega arith, at.1, out_is (out_at ts p).out t (sym i.1), h)

-- the transition of a number is one
pub led_by : (st : StoreState) (ts : List Transitions) (places : List (ℕ × ℕ)) (n i t : ℕ) (z : List ℕ) → ArePlacesBelow ts (length ts) places → IsInto ts places n t → (transitions_at ts (place_at places n).0).source ≡ i → LeavesFrom st ts places n z → IsLed st ts i z t (packet_made ts places n z)
led_by st ts places n i t z are k source h =
    let p : ℕ × ℕ = place_at places n in
    let at = place_is ts places n are k.0 in
    (p.0, (out_at ts p).out.act, at.0, source, (p.1, omega arith, at.1, out_is (out_at ts p).out t (sym k.1), h), refl)

-- each transition has a number
pub number_led : (st : StoreState) (ts : List Transitions) (places : List (ℕ × ℕ)) (i t : ℕ) (z y : List ℕ) → ArePlacesBelow ts (length ts) places → IsLed st ts i z t y →
    (n : ℕ) × IsInto ts places n t × ((transitions_at ts (place_at places n).0).source ≡ i) × LeavesFrom st ts places n z × (packet_made ts places n z ≡ y)
number_led st ts places i t z y are m =
    let g = m.4 in
    let p : ℕ × ℕ = (m.0, g.0) in
    let n = number_of ts places p are m.2 g.2 in
    let e : p ≡ place_at places n.0 = sym n.2 in
    let is : (out_at ts p).out ≡ sent_to m.1 (t + 1) = g.3 in
    let made : applied (out_at ts p).out.act z ≡ y = ap (λ (o : Out). applied o.act z) is ∙ m.5 in (
      n.0,
      (n.1, subst (λ (q : ℕ × ℕ). (out_at ts q).out.target ≡ t + 1) e (ap (λ (o : Out). o.target) is)),
      subst (λ (q : ℕ × ℕ). (transitions_at ts q.0).source ≡ i) e m.3,
      subst (λ (q : ℕ × ℕ). is_in st (out_at ts q).packets z ≡ true) e g.4,
      subst (λ (q : ℕ × ℕ). applied (out_at ts q).out.act z ≡ y) e made,
    )

-- predecessors stay so as the store grows
pub predecessors_on : (a b : StoreState) (ts : List Transitions) (places into : List (ℕ × ℕ)) → Grows a b → OutsSuitStore a ts → ArePredecessors a ts places into → ArePredecessors b ts places into
predecessors_on a b ts places into g suits_store pre = record {
  places_are = pre.places_are;
  ids = λ t d is. g.ids d (pre.ids t d is);
  goes = λ t y o w s. pre.goes t y o (packet_back a b y g w) (shown_back a b into t y o g pre.ids s);
  comes = λ n t z w i h.
      let at = place_is ts places n pre.places_are i.0 in
      let has : LeavesFrom a ts places n z = has_back a b (out_at ts (place_at places n)).packets z g (suits_store (place_at places n).0 at.0 (place_at places n).1 at.1).packets.id h in
      shown_on a b into t (packet_made ts places n z) (transition_out n) g pre.ids (pre.comes n t z (packet_back a b z g w) i has);
}

-- where predecessors are known, they stay so
pub known_on : (a b : StoreState) (ts : List Transitions) (known : Option Predecessors) → Grows a b → OutsSuitStore a ts → IfSome known (λ p. ArePredecessors a ts p.places p.into.entries) → IfSome known (λ p. ArePredecessors b ts p.places p.into.entries)
known_on a b ts known g suits_store k = IfSome_then known k (λ p pre. predecessors_on a b ts p.places p.into.entries g suits_store pre)

-- the diagrams of all transitions, put together by set
pub predecessors_made : (st s1 new : StoreState) (ts : List Transitions) (places ds all into : List (ℕ × ℕ)) → Grows st s1 → Grows s1 new → OutsSuitStore st ts → ArePlacesBelow ts (length ts) places → AreMarked st ts places (length places) s1 ds → IsPermutation ds all → AreSetsJoined s1 all (length all) new into → ArePredecessors new ts places into
predecessors_made st s1 new ts places ds all into g1 g2 suits_store are marked moved joined = record {
  places_are = are;
  ids = joined.ids;
  goes = λ t y o w s.
      let there : ShowsBelow s1 all (length all) t y o = joined.goes t y o w.0 s in
      marked.goes t y o (packet_back st new y g w) (shows_moved s1 all ds t y o (IsPermutation-sym ds all moved) there);
  comes = λ n t z w i h.
      let at = place_is ts places n are i.0 in
      let good : IsStorePacket st z = packet_back st new z g w in
      let from : LeavesFrom st ts places n z = has_back st new (out_at ts (place_at places n)).packets z g (suits_store (place_at places n).0 at.0 (place_at places n).1 at.1).packets.id h in
      let y : IsStorePacket st (packet_made ts places n z) = made_in_range st ts places n t z suits_store are i good from in
      joined.comes t (packet_made ts places n z) (transition_out n) y.0 (shows_moved s1 ds all t (packet_made ts places n z) (transition_out n) moved (marked.comes n t z i.0 good i from));
}
  where
    g : Grows st new
    g = grows_on st s1 new g1 g2

-- what a set's diagram has at some packets
pub shown_some : (st s1 new : StoreState) (into : List (ℕ × ℕ)) (t x d e : ℕ) (es : List OutPackets) → lookup (eqb t) into ≡ Some d → Grows st s1 → Grows s1 new → HasLeaves s1 e (λ pk. guarded (look st x pk) (look st d pk)) → IsByOut new e es → AreShownAt st into t x new es
shown_some st s1 new into t x d e es found g1 g2 h by = record {
  suits_store = by.suits_store;
  goes = λ y o w m.
      let c : Contains (look new e y) o = by.goes y o (packet_on st new y (grows_on st s1 new g1 g2) w) m in
      let k : Contains (guarded (look st x y) (look st d y)) o = subst (λ (os : List Out). Contains os o) (g2.leaves e y h.id ∙ h.leaf y w.0) c in
      (guarded_in st x y (look st d y) o k, (d, found, guarded_has (look st x y) (look st d y) o k));
  comes = λ y o w has s.
      let same : s.0 ≡ d = one s.0 d (sym s.1 ∙ found) in
      let k : Contains (look st d y) o = subst (λ (f : ℕ). Contains (look st f y) o) same s.2 in
      by.comes y o (packet_on st new y (grows_on st s1 new g1 g2) w) (subst (λ (os : List Out). Contains os o) (sym (g2.leaves e y h.id ∙ h.leaf y w.0 ∙ guarded_some st x y (look st d y) has)) k);
}
  where
    one : (a b : ℕ) → Some a ≡ Some b → a ≡ b
    one a b is = cc
