-- The diagram of a set state at some packets alone has the set's steps.
use Rattle.std.proofs.Common.{◌≡◌, ℕ, ◌+◌, ◌<◌, ◌↔◌, refl, sym, ◌∙◌, ap, subst, arith, List, [], ◌∷◌, length, get_or, set, Contains}
use Rattle.std.specs.Prelude.{map}
use Rattle.nk_field.specs.Act.{applied}
use Rattle.nk_store.specs.declared.node.Out.{Out}
use Rattle.nk_store.specs.Leaves.{IsActFrom, Suits}
use Rattle.nk_store.specs.Nodes.{InRange}
use Rattle.nk_store.specs.StoreState.{StoreState, IsId, IsStorePacket, AreTidy, HasLeaves, look, Grows}
use Rattle.nk_store.proofs.Same.{set_in_range}
use Rattle.nk_store.proofs.Ordered.{every_member}
use Rattle.nk_store.proofs.Stores.{grows_on}
use Rattle.nk_apply.specs.Leaves.{guarded}
use Rattle.nk_sets.specs.PacketSets.{has_some_out}
use Rattle.nk_sets.specs.Outs.{sent_to}
use Rattle.nk_sets.proofs.Kept.{Has, packet_on, packet_back}
use Rattle.nk_sets.proofs.Rising.{rising_one}
use Rattle.nk_determ.specs.Sets.{HasAscendingSets}
use Rattle.nk_determ.specs.Exact.{Sends}
use Rattle.nk_determ.specs.States.{HaveEach, SomeLeads, AreLedTo}
use Rattle.nk_determ.proofs.StatesAt.{leads_states, met_same}
use Rattle.nk_determ.specs.Pairs.{Node, IsStep}
use Rattle.nk_steps.specs.Local.{IsStateAt}
use Rattle.nk_steps.proofs.Cutting.{cut_each, guard_in, guard_out, leads_cut, led_step}

-- an act in range leads from packets in range to packets in range
pub acts_in_range : (maxes : List ℕ) (low : ℕ) (g : List (ℕ × ℕ)) (x : List ℕ) → IsActFrom maxes low g → InRange maxes x → InRange maxes (applied g x)
acts_in_range maxes low [] x act r = r
acts_in_range maxes low (s ∷ ss) x act r = acts_in_range maxes (s.0 + 1) ss (set x s.0 s.1) act.3 (set_in_range maxes x s.0 s.1 r act.2)

-- an out of a diagram leads from packets in range to packets in range
pub out_in_range : (st : StoreState) (d : ℕ) (z : List ℕ) (o : Out) → AreTidy st → IsStorePacket st z → Contains (look st d z) o → IsStorePacket st (applied o.act z)
out_in_range st d z o tidy p c = acts_in_range st.maxes 0 o.act z (every_member (Suits st.maxes) (look st d z) o ((tidy d).suits z) c) p

-- a list that isn't empty has a member
some_member : (xs : List ℕ) → (xs ≡ [] → ⊥) → (l : ℕ) × Contains xs l
some_member [] n = absurd (n refl)
some_member (l ∷ ls) n = (l, (0, omega arith, refl))

-- what cut states do together is the set state at these packets
pub state_at_of : (st s1 s2 : StoreState) (nss : List (List ℕ)) (states cut set : List ℕ) (x d : ℕ) → Grows st s1 → Grows s1 s2 → length cut ≡ length set → HaveEach s1 cut (cut_each st states set x) (length cut) → HasAscendingSets nss → AreTidy s2 → IsId s2 d →
    ((pk y : List ℕ) (i : ℕ) → IsStorePacket s1 pk → Sends s2 d pk y (i + 1) → AreLedTo nss s1 cut pk y i) →
    ((pk y : List ℕ) (l : ℕ) → IsStorePacket s1 pk → 0 < l → SomeLeads s1 cut pk y l → (i : ℕ) × Sends s2 d pk y (i + 1)) →
    IsStateAt st states set x s2 nss d
state_at_of st s1 s2 nss states cut set x d g1 g2 same all asc tidy known leads led = record {
  id = known;
  goes = λ z g i pz m.
      let py : IsStorePacket st (applied g z) = packet_back st s2 (applied g z) grown (out_in_range s2 d z (sent_to g (i + 1)) tidy (packet_on st s2 z grown pz) m) in
      let to = leads z (applied g z) i (packet_on st s1 z g1 pz) (g, m, refl) in
      let r = led_step st s1 states set cut x same all z pz.0 nss (applied g z) i asc py to in
      (r.0, to.within, r.1);
  comes = λ z n pz hz step. follow z n pz hz step;
}
  where
    grown : Grows st s2
    grown = grows_on st s1 s2 g1 g2

    follow : (z : List ℕ) (n : Node) → IsStorePacket st z → Has st x z → IsStep st states (set, z) n → (g : List (ℕ × ℕ)) × (i : ℕ) × Contains (look s2 d z) (sent_to g (i + 1)) × (applied g z ≡ n.1) × (i < length nss) × (get_or nss i [] ≡ n.0)
    follow z n pz hz step =
        let one = some_member n.0 step.some in
        let q = (step.every one.0).0 one.1 in
        let p1 : IsStorePacket s1 z = packet_on st s1 z g1 pz in
        let way = led z n.1 one.0 p1 q.0 (leads_cut st s1 states set cut x same all z pz.0 n.1 one.0 hz q.1) in
        let i : ℕ = way.0 in
        let to = leads z n.1 i p1 way.1 in
        let r = led_step st s1 states set cut x same all z pz.0 nss n.1 i asc step.packet to in
        let same_set : get_or nss i [] ≡ n.0 = rising_one (get_or nss i []) n.0 (asc i) step.ascend
        (λ k m. (step.every k).1 ((r.1.every k).0 m)) (λ k m. (r.1.every k).1 ((step.every k).0 m)) in
        (way.1.0, i, way.1.1, sym way.1.2, to.within, same_set)

-- what the states lead to, as a step of the set
step_of : (st : StoreState) (states set all : List ℕ) → all ≡ map (λ l. get_or states l 0) set → (nss : List (List ℕ)) (z y : List ℕ) (i : ℕ) → HasAscendingSets nss → IsStorePacket st y →
    AreLedTo nss st all z y i → IsStep st states (set, z) (get_or nss i [], y)
step_of st states set all are nss z y i asc py led = record {
  packet = py;
  some = led.some;
  ascend = asc i;
  every = λ l. (
    λ m. let q = (led.every l).0 m in (q.0, (leads_states st states set all are z y l).0 q.1),
    λ q. (led.every l).1 (q.0, (leads_states st states set all are z y l).1 q.1),
  );
}

-- diagrams lead where other ones do of which they are members, and the other way round
members_lead : (st : StoreState) (xs ys : List ℕ) → ((d : ℕ) → Contains xs d ↔ Contains ys d) → (pk y : List ℕ) (l : ℕ) → SomeLeads st xs pk y l ↔ SomeLeads st ys pk y l
members_lead st xs ys same pk y l = (λ s. (s.0, (same s.0).0 s.1, s.2), λ s. (s.0, (same s.0).1 s.1, s.2))

-- what the states do together, each once, cut to the packets, is the set state there
pub state_cut_of : (st s1 s2 : StoreState) (nss : List (List ℕ)) (states all once set : List ℕ) (x r d : ℕ) → Grows st s1 → Grows s1 s2 → IsId st x → all ≡ map (λ l. get_or states l 0) set →
    ((e : ℕ) → Contains once e ↔ Contains all e) → HasAscendingSets nss → AreTidy s2 → HasLeaves s2 d (λ pk. guarded (look s1 x pk) (look s1 r pk)) →
    ((pk y : List ℕ) (i : ℕ) → IsStorePacket st pk → Sends s1 r pk y (i + 1) → AreLedTo nss st once pk y i) →
    ((pk y : List ℕ) (l : ℕ) → IsStorePacket st pk → 0 < l → SomeLeads st once pk y l → (i : ℕ) × Sends s1 r pk y (i + 1)) →
    IsStateAt st states set x s2 nss d
state_cut_of st s1 s2 nss states all once set x r d g1 g2 ix are same asc tidy cut leads led = record {
  id = cut.id;
  goes = λ z g i pz m.
      let o : Out = sent_to g (i + 1) in
      let h = guard_out (look s1 x z) (look s1 r z) o (subst (λ (os : List Out). Contains os o) (cut.leaf z pz.0) m) in
      let py : IsStorePacket st (applied g z) = packet_back st s2 (applied g z) grown (out_in_range s2 d z o tidy (packet_on st s2 z grown pz) m) in
      let to = leads_all z (applied g z) i pz (g, h.1, refl) in
      (sym (ap has_some_out (g1.leaves x z ix)) ∙ h.0, to.within, step_of st states set all are nss z (applied g z) i asc py to);
  comes = λ z n pz hz step.
      let one = some_member n.0 step.some in
      let q = (step.every one.0).0 one.1 in
      let way = led z n.1 one.0 pz q.0 ((members_lead st once all same z n.1 one.0).1 ((leads_states st states set all are z n.1 one.0).1 q.1)) in
      let i : ℕ = way.0 in
      let to = leads_all z n.1 i pz way.1 in
      let s = step_of st states set all are nss z n.1 i asc step.packet to in
      let same_set : get_or nss i [] ≡ n.0 = rising_one (get_or nss i []) n.0 (asc i) step.ascend
      (λ k m. (step.every k).1 ((s.every k).0 m)) (λ k m. (s.every k).1 ((step.every k).0 m)) in
      let o : Out = sent_to way.1.0 (i + 1) in
      let there : Contains (look s2 d z) o = subst (λ (os : List Out). Contains os o) (sym (cut.leaf z pz.0)) (guard_in (look s1 x z) (look s1 r z) o (ap has_some_out (g1.leaves x z ix) ∙ hz) way.1.1) in
      (way.1.0, i, there, sym way.1.2, to.within, same_set);
}
  where
    grown : Grows st s2
    grown = grows_on st s1 s2 g1 g2

    leads_all : (z y : List ℕ) (i : ℕ) → IsStorePacket st z → Sends s1 r z y (i + 1) → AreLedTo nss st all z y i
    leads_all z y i p s = met_same nss i (λ l. SomeLeads st once z y l) (λ l. SomeLeads st all z y l) (λ l. members_lead st once all same z y l) (leads z y i p s)
