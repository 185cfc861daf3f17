-- Out by out, what a set records next.
use Rattle.std.proofs.Common.{◌≡◌, ℕ, ◌<◌, ◌+◌, true, false, inl, inr, sym, ◌∙◌, ap, subst, arith, List, [], length, get_or, Contains}
use Rattle.nk_field.specs.Act.{applied}
use Rattle.nk_store.specs.declared.node.Out.{Out}
use Rattle.nk_store.specs.StoreState.{StoreState, IsWhole, IsStorePacket, look, Grows}
use Rattle.nk_store.proofs.Stores.{grows_on}
use Rattle.nk_sets.specs.PacketSets.{is_in, IsSet, IsImage}
use Rattle.nk_sets.proofs.SetLemmas.{set_grows}
use Rattle.nk_sets.specs.declared.outs.OutPackets.{OutPackets}
use Rattle.nk_sets.specs.Outs.{AllSuitStore, GivesAny, IsByOut, sent_to}
use Rattle.nk_sets.proofs.Kept.{Has, packet_on, packet_back, has_on, has_back}
use Rattle.nk_sets.proofs.OutEntries.{is_set_at, gives_more, gives_less, gives_last}
use Rattle.nk_determ.specs.Pairs.{Node, Under, Once, Within, AreStates, AreLabelsBelow, IsStep}
use Rattle.nk_steps.specs.Local.{IsStateAt}
use Rattle.nk_goal.specs.Entries.{HaveSets, IsAdded}
use Rattle.nk_reach.specs.Rounds.{IsFollowed, IsSent, IsAllSent}
use Rattle.nk_goal.proofs.Growing.{under_on, under_back, each_weaker, step_places}

-- an image without packets sends nothing
pub sent_empty : (st mid : StoreState) (o : Out) (p r : ℕ) (ps : List (ℕ × ℕ)) → HaveSets st ps → Once ps → Grows st mid → IsImage st o.act p mid r → ((pk : List ℕ) → IsWhole pk → is_in mid r pk ≡ false) → IsSent st o p ps mid ps
sent_empty st mid o p r ps e once g im none = record {
  from = λ i y w u. inl (under_back st mid ps i y g e u);
  old = λ i y w u. under_on st mid ps i y g e u;
  every = λ i x y w v h t m. let has : Has mid r y = subst (λ (z : List ℕ). Has mid r z) m (im.goes x w h) in let both : false ≡ true = sym (none y v.0) ∙ has in absurd cc;
  named = λ i n. inl n;
  packets = each_weaker (λ q. IsSet st q.1) (λ q. IsSet mid q.1) ps (λ q k. set_grows st mid q.1 g k) e;
  once = once;
}

-- an image that is added is sent
pub sent_add : (st mid new : StoreState) (o : Out) (p r t : ℕ) (ps qs : List (ℕ × ℕ)) → HaveSets st ps → Grows st mid → IsImage st o.act p mid r → ((y : List ℕ) × IsStorePacket mid y × (is_in mid r y ≡ true)) → t + 1 ≡ o.target → IsAdded mid ps t r new qs → IsSent st o p ps new qs
sent_add st mid new o p r t ps qs e g im fill is a = record {
  from = λ i y w u. elim (a.either i y (packet_on st mid y g w) u) [
    | inl was ↦ inl (under_back st mid ps i y g e was)
    | inr now ↦ inr (omega (arith, now.0, is), im.comes y w now.1)
  ];
  old = λ i y w u. a.old i y (packet_on st mid y g w) (under_on st mid ps i y g e u);
  every = λ i x y w v h k m.
      let same : t ≡ i = omega (arith, is, k) in
      subst (λ j. Under new qs j y) same (a.more y (packet_on st mid y g v) (subst (λ (z : List ℕ). Has mid r z) m (im.goes x w h)));
  named = λ i n. elim (a.named i n) [
    | inl was ↦ inl was
    | inr now ↦
        let y = packet_back st mid fill.0 g fill.1 in
        let c = im.comes fill.0 y fill.2 in
        inr (omega (arith, now, is), (c.0, c.1, c.2, subst (IsStorePacket st) (sym c.3) y))
  ];
  packets = a.packets;
  once = a.once;
}

-- one out more
pub all_sent_push : (a st new : StoreState) (es : List OutPackets) (n : ℕ) (q : OutPackets) (ps qs rs : List (ℕ × ℕ)) → AllSuitStore a es → n < length es → q ≡ get_or es n q → IsAllSent a es n ps st qs → Grows a st → IsSent st q.out q.packets qs new rs → IsAllSent a es (n + 1) ps new rs
all_sent_push a st new es n q ps qs rs ok l is m g s =
    let k : IsSet a q.packets = is_set_at a es n q ok l is in
    let same : (i : ℕ) → i + 1 ≡ q.out.target → q.out ≡ sent_to q.out.act (i + 1) = λ i e. ap (λ t. sent_to q.out.act t) (sym e) in
    record {
      from = λ i y w u. elim (s.from i y (packet_on a st y g w) u) [
        | inl was ↦ elim (m.from i y w was) [
          | inl b ↦ inl b
          | inr b ↦ inr (b.0, b.1, b.2, gives_more a es n b.0 (sent_to b.1 (i + 1)) b.3, b.4)
        ]
        | inr now ↦
            let z : List ℕ = now.1.0 in
            inr (z, q.out.act, packet_back a st z g now.1.1, gives_last a es n q z (sent_to q.out.act (i + 1)) l is (same i now.0) (has_back a st q.packets z g k.id now.1.2), now.1.3)
      ];
      old = λ i y w u. s.old i y (packet_on a st y g w) (m.old i y w u);
      every = λ i z y h w v gv e. elim (gives_less a es n q z (sent_to h (i + 1)) l is gv) [
        | inl was ↦ s.old i y (packet_on a st y g v) (m.every i z y h w v was e)
        | inr now ↦
            let act : q.out.act ≡ h = ap (λ (o : Out). o.act) now.0 in
            let target : i + 1 ≡ q.out.target = sym (ap (λ (o : Out). o.target) now.0) in
            s.every i z y (packet_on a st z g w) (packet_on a st y g v) (has_on a st q.packets z g k.id now.1) target (ap (λ b. applied b z) act ∙ e)
      ];
      named = λ i v. elim (s.named i v) [
        | inl was ↦ elim (m.named i was) [
          | inl b ↦ inl b
          | inr b ↦ inr (b.0, b.1, b.2, gives_more a es n b.0 (sent_to b.1 (i + 1)) b.3, b.4)
        ]
        | inr now ↦
            let z : List ℕ = now.1.0 in
            inr (z, q.out.act, packet_back a st z g now.1.1, gives_last a es n q z (sent_to q.out.act (i + 1)) l is (same i now.0) (has_back a st q.packets z g k.id now.1.2), packet_back a st (applied q.out.act z) g now.1.3)
      ];
      packets = s.packets;
      once = s.once;
    }

-- the outs of a set state at some packets, all of them sent, are what the set records next
pub followed_of : (st mid s3 new : StoreState) (nss : List (List ℕ)) (states set : List ℕ) (x d : ℕ) (es : List OutPackets) (ps qs : List (ℕ × ℕ)) → AreStates st states → AreLabelsBelow (length states) set → HaveSets st ps →
    Grows st mid → Grows mid s3 → IsStateAt st states set x mid nss d → IsByOut s3 d es → IsAllSent s3 es (length es) ps new qs → IsFollowed st states set x ps new nss qs
followed_of st mid s3 new nss states set x d es ps qs states_ok places pp g1 g2 state by sent =
    record {
      from = λ i y w u. elim (sent.from i y (packet_on st s3 y g w) u) [
        | inl was ↦ inl (under_back st s3 ps i y g pp was)
        | inr now ↦
            let z : List ℕ = now.0 in
            let h : List (ℕ × ℕ) = now.1 in
            let pz : IsStorePacket st z = packet_back st s3 z g now.2 in
            let r = reach z h i pz now.3 in
            inr (z, pz, r.0, subst (λ (v : List ℕ). IsStep st states (set, z) (get_or nss i [], v)) now.4 r.1)
      ];
      old = λ i y w u. sent.old i y (packet_on st s3 y g w) (under_on st s3 ps i y g pp u);
      every = λ z n pz hz step. follow z n pz hz step;
      named = λ i n. elim (sent.named i n) [
        | inl was ↦ inl was
        | inr now ↦
            let z : List ℕ = now.0 in
            let h : List (ℕ × ℕ) = now.1 in
            let pz : IsStorePacket st z = packet_back st s3 z g now.2 in
            let r = reach z h i pz now.3 in
            inr (r.2, step_places st states (set, z) (get_or nss i [], applied h z) states_ok places pz r.1)
      ];
      packets = sent.packets;
      once = sent.once;
    }
  where
    g : Grows st s3
    g = grows_on st mid s3 g1 g2

    reach : (z : List ℕ) (h : List (ℕ × ℕ)) (i : ℕ) → IsStorePacket st z → GivesAny s3 es z (sent_to h (i + 1)) → Has st x z × IsStep st states (set, z) (get_or nss i [], applied h z) × (i < length nss)
    reach z h i pz gv =
        let o : Out = sent_to h (i + 1) in
        let at : Contains (look mid d z) o = subst (λ (os : List Out). Contains os o) (g2.leaves d z state.id) (by.goes z o (packet_on st s3 z g pz) gv) in
        let r = state.goes z h i pz at in
        (r.0, r.2, r.1)

    follow : (z : List ℕ) (n : Node) → IsStorePacket st z → Has st x z → IsStep st states (set, z) n → Within new nss qs n
    follow z n pz hz step =
        let way = state.comes z n pz hz step in
        let h : List (ℕ × ℕ) = way.0 in
        let i : ℕ = way.1 in
        let o : Out = sent_to h (i + 1) in
        let at : Contains (look s3 d z) o = subst (λ (os : List Out). Contains os o) (sym (g2.leaves d z state.id)) way.2 in
        (i, way.5, sent.every i z n.1 h (packet_on st s3 z g pz) (packet_on st s3 n.1 g step.packet) (by.comes z o (packet_on st s3 z g pz) at) way.3)
