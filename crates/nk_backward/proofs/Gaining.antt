-- Packets that come under sets, in turn.
use Rattle.std.proofs.Common.{◌≡◌, ℕ, ◌⊎◌, true, false, inl, inr, refl, sym, ◌∙◌, subst, List}
use Rattle.nk_store.specs.StoreState.{StoreState, IsWhole, IsStorePacket, Grows}
use Rattle.nk_store.proofs.Stores.{grows_on}
use Rattle.nk_sets.specs.PacketSets.{is_in, IsSet}
use Rattle.nk_sets.proofs.SetLemmas.{set_grows}
use Rattle.nk_sets.proofs.Kept.{Has, packet_on, packet_back, has_on, has_back}
use Rattle.nk_determ.specs.Pairs.{Under, Once}
use Rattle.nk_goal.specs.Entries.{HaveSets, IsAdded, IsRest}
use Rattle.nk_goal.proofs.Growing.{each_weaker, under_on, under_back}
use Rattle.nk_backward.specs.Closures.{AreFound, IsGained}
use Rattle.nk_backward.proofs.Listing.{under_or_not}

-- entries have sets of packets as the store grows
pub sets_on : (a b : StoreState) (ps : List (ℕ × ℕ)) → Grows a b → HaveSets a ps → HaveSets b ps
sets_on a b ps g h = each_weaker (λ p. IsSet a p.1) (λ p. IsSet b p.1) ps (λ p q. set_grows a b p.1 g q) h

-- nothing new came while the store grew
pub gained_none : (a st : StoreState) (Comes : ℕ → List ℕ → Type 0) (old before : List (ℕ × ℕ)) → Grows a st → HaveSets a old → Once old → HaveSets a before → Once before →
    ((i : ℕ) (z : List ℕ) → IsStorePacket a z → Comes i z → Under a old i z) → IsGained a Comes old before st old before
gained_none a st Comes old before g sets once before_sets before_once known = record {
  from = λ i z w u. inl (under_back a st old i z g sets u);
  kept = λ i z w u. under_on a st old i z g sets u;
  every = λ i z w c. under_on a st old i z g sets (known i z w c);
  next_from = λ i z w u. inl (under_back a st before i z g before_sets u);
  next_kept = λ i z w u. under_on a st before i z g before_sets u;
  next_new = λ i z w u n. absurd (n (under_back a st old i z g sets u));
  packets = sets_on a st old g sets;
  once = once;
  next_packets = sets_on a st before g before_sets;
  next_once = before_once;
  some = inl refl;
}

-- what came, and then came more
pub gained_then : (a st new : StoreState) (One Two Both : ℕ → List ℕ → Type 0) (old before mid between all next : List (ℕ × ℕ)) → Grows a st → IsGained a One old before st mid between → IsGained st Two mid between new all next →
    ((i : ℕ) (z : List ℕ) → IsStorePacket a z → Both i z → One i z ⊎ Two i z) → ((i : ℕ) (z : List ℕ) → IsStorePacket a z → One i z → Both i z) → ((i : ℕ) (z : List ℕ) → IsStorePacket a z → Two i z → Both i z) → IsGained a Both old before new all next
gained_then a st new One Two Both old before mid between all next g first second parts left right = record {
  from = λ i z w u. elim (second.from i z (on z w) u) [
    | inl was ↦ elim (first.from i z w was) [ inl x ↦ inl x | inr c ↦ inr (left i z w c) ]
    | inr c ↦ inr (right i z w c)
  ];
  kept = λ i z w u. second.kept i z (on z w) (first.kept i z w u);
  every = λ i z w c. elim (parts i z w c) [
    | inl one ↦ second.kept i z (on z w) (first.every i z w one)
    | inr two ↦ second.every i z (on z w) two
  ];
  next_from = λ i z w u. elim (second.next_from i z (on z w) u) [
    | inl was ↦ elim (first.next_from i z w was) [
      | inl x ↦ inl x
      | inr c ↦ inr (second.kept i z (on z w) c.0, c.1)
    ]
    | inr c ↦ inr (c.0, λ v. c.1 (first.kept i z w v))
  ];
  next_kept = λ i z w u. second.next_kept i z (on z w) (first.next_kept i z w u);
  next_new = λ i z w u n. elim (under_or_not st mid i z) [
    | inl there ↦ second.next_kept i z (on z w) (first.next_new i z w there n)
    | inr none ↦ second.next_new i z (on z w) u none
  ];
  packets = second.packets;
  once = second.once;
  next_packets = second.next_packets;
  next_once = second.next_once;
  some = elim second.some [
    | inr f ↦
        let w : IsStorePacket a f.1 = packet_back a st f.1 g f.2 in
        inr (f.0, f.1, w, f.3, λ v. f.4 (first.kept f.0 f.1 w v))
    | inl same ↦ elim first.some [
      | inl was ↦ inl (same ∙ was)
      | inr f ↦ inr (f.0, f.1, f.2, second.kept f.0 f.1 (on f.1 f.2) f.3, f.4)
    ]
  ];
}
  where
    on : (z : List ℕ) → IsStorePacket a z → IsStorePacket st z
    on z w = packet_on a st z g w

-- what was gained, in other words
pub gained_as : (a new : StoreState) (One Two : ℕ → List ℕ → Type 0) (old before all next : List (ℕ × ℕ)) → IsGained a One old before new all next → ((i : ℕ) (z : List ℕ) → IsStorePacket a z → One i z → Two i z) → ((i : ℕ) (z : List ℕ) → IsStorePacket a z → Two i z → One i z) → IsGained a Two old before new all next
gained_as a new One Two old before all next m on back = record {
  from = λ i z w u. elim (m.from i z w u) [ inl x ↦ inl x | inr c ↦ inr (on i z w c) ];
  kept = m.kept;
  every = λ i z w c. m.every i z w (back i z w c);
  next_from = m.next_from;
  next_kept = m.next_kept;
  next_new = m.next_new;
  packets = m.packets;
  once = m.once;
  next_packets = m.next_packets;
  next_once = m.next_once;
  some = m.some;
}

-- what was gained since a store was gained since the store before, in which the entries stood already
pub gained_before : (a st new : StoreState) (One Two : ℕ → List ℕ → Type 0) (old before all next : List (ℕ × ℕ)) → Grows a st → HaveSets a old → Once old → HaveSets a before → Once before → IsGained st One old before new all next →
    ((i : ℕ) (z : List ℕ) → IsStorePacket a z → One i z → Two i z) → ((i : ℕ) (z : List ℕ) → IsStorePacket a z → Two i z → One i z) → IsGained a Two old before new all next
gained_before a st new One Two old before all next g sets once before_sets before_once m on back =
    gained_then a st new (λ i z. ⊥) One Two old before old before all next g (gained_none a st (λ i z. ⊥) old before g sets once before_sets before_once (λ i z w c. absurd c)) m (λ i z w c. inr (back i z w c)) (λ i z w c. absurd c) on

-- nothing was found while the store grew
pub found_nothing : (a st : StoreState) (Comes : ℕ → List ℕ → Type 0) (before : List (ℕ × ℕ)) → Grows a st → HaveSets a before → ((i : ℕ) (z : List ℕ) → IsStorePacket a z → Comes i z → Under a before i z) → AreFound a Comes before st before
found_nothing a st Comes before g sets known = record {
  from = λ i z w u. inl (under_back a st before i z g sets u);
  kept = λ i z w u. under_on a st before i z g sets u;
  every = λ i z w c. under_on a st before i z g sets (known i z w c);
  packets = sets_on a st before g sets;
}

-- what was found, and then more
pub found_then : (a st new : StoreState) (One Two Both : ℕ → List ℕ → Type 0) (before mid all : List (ℕ × ℕ)) → Grows a st → AreFound a One before st mid → AreFound st Two mid new all →
    ((i : ℕ) (z : List ℕ) → IsStorePacket a z → Both i z → One i z ⊎ Two i z) → ((i : ℕ) (z : List ℕ) → IsStorePacket a z → One i z → Both i z) → ((i : ℕ) (z : List ℕ) → IsStorePacket a z → Two i z → Both i z) → AreFound a Both before new all
found_then a st new One Two Both before mid all g first second parts left right = record {
  from = λ i z w u. elim (second.from i z (on z w) u) [
    | inl was ↦ elim (first.from i z w was) [ inl x ↦ inl x | inr c ↦ inr (left i z w c) ]
    | inr c ↦ inr (right i z w c)
  ];
  kept = λ i z w u. second.kept i z (on z w) (first.kept i z w u);
  every = λ i z w c. elim (parts i z w c) [
    | inl one ↦ second.kept i z (on z w) (first.every i z w one)
    | inr two ↦ second.every i z (on z w) two
  ];
  packets = second.packets;
}
  where
    on : (z : List ℕ) → IsStorePacket a z → IsStorePacket st z
    on z w = packet_on a st z g w

-- what was found since a store was found since the store before, in which the list stood already, in other words
pub found_before : (a st new : StoreState) (One Two : ℕ → List ℕ → Type 0) (before all : List (ℕ × ℕ)) → Grows a st → HaveSets a before → AreFound st One before new all →
    ((i : ℕ) (z : List ℕ) → IsStorePacket a z → One i z → Two i z) → ((i : ℕ) (z : List ℕ) → IsStorePacket a z → Two i z → One i z) → AreFound a Two before new all
found_before a st new One Two before all g sets m on back =
    found_then a st new (λ i z. ⊥) One Two before before all g (found_nothing a st (λ i z. ⊥) before g sets (λ i z w c. absurd c)) m (λ i z w c. inr (back i z w c)) (λ i z w c. absurd c) on

-- packets that stand under the set already
pub put_none : (st new : StoreState) (s y rest : ℕ) (back next : List (ℕ × ℕ)) → Grows st new → HaveSets st back → Once back → HaveSets st next → Once next → IsRest st back s y new rest → ((pk : List ℕ) → IsWhole pk → is_in new rest pk ≡ false) →
    IsGained st (λ i z. (i ≡ s) × (is_in st y z ≡ true)) back next new back next
put_none st new s y rest back next g sets once next_sets next_once left empty =
    gained_none st new (λ i z. (i ≡ s) × (is_in st y z ≡ true)) back next g sets once next_sets next_once
    (λ i z w c. elim (under_or_not st back s z) [
      | inl there ↦ subst (λ j. Under st back j z) (sym c.0) there
      | inr none ↦
          let more : Has new rest z = left.both z w c.1 none in
          let no : is_in new rest z ≡ false = empty z w.0 in
          absurd cc
    ])

-- packets that come under the set
pub put_some : (st s1 s2 new : StoreState) (s y rest : ℕ) (back next all more : List (ℕ × ℕ)) → Grows st s1 → Grows s1 s2 → Grows s2 new → HaveSets st back → HaveSets st next → IsRest st back s y s1 rest → ((pk : List ℕ) × IsStorePacket s1 pk × (is_in s1 rest pk ≡ true)) →
    IsAdded s1 back s rest s2 all → IsAdded s2 next s rest new more → IsGained st (λ i z. (i ≡ s) × (is_in st y z ≡ true)) back next new all more
put_some st s1 s2 new s y rest back next all more g1 g2 g3 sets next_sets left found add next_add = record {
  from = λ i z w u. elim (add.either i z (packet_on st s1 z g1 w) (under_back s2 new all i z g3 add.packets u)) [
    | inl was ↦ inl (under_back st s1 back i z g1 sets was)
    | inr here ↦ inr (here.0, left.first z w here.1)
  ];
  kept = λ i z w u. was_there i z w (under_on st s1 back i z g1 sets u);
  every = λ i z w c. elim (under_or_not st back s z) [
    | inl there ↦ subst (λ j. Under new all j z) (sym c.0) (was_there s z w (under_on st s1 back s z g1 sets there))
    | inr none ↦ subst (λ j. Under new all j z) (sym c.0) (comes z w (left.both z w c.1 none))
  ];
  next_from = λ i z w u. elim (next_add.either i z (packet_on st s2 z (grows_on st s1 s2 g1 g2) w) u) [
    | inl was ↦ inl (under_back st s2 next i z (grows_on st s1 s2 g1 g2) next_sets was)
    | inr here ↦
        let has : Has s1 rest z = has_back s1 s2 rest z g2 left.packets.id here.1 in
        inr (subst (λ j. Under new all j z) (sym here.0) (comes z w has), λ v. left.second z w has (subst (λ j. Under st back j z) here.0 v))
  ];
  next_kept = λ i z w u. next_add.old i z (packet_on st s2 z (grows_on st s1 s2 g1 g2) w) (under_on st s2 next i z (grows_on st s1 s2 g1 g2) next_sets u);
  next_new = λ i z w u n. elim (add.either i z (packet_on st s1 z g1 w) (under_back s2 new all i z g3 add.packets u)) [
    | inl was ↦ absurd (n (under_back st s1 back i z g1 sets was))
    | inr here ↦ subst (λ j. Under new more j z) (sym here.0) (next_add.more z (packet_on st s2 z (grows_on st s1 s2 g1 g2) w) (has_on s1 s2 rest z g2 left.packets.id here.1))
  ];
  packets = sets_on s2 new all g3 add.packets;
  once = add.once;
  next_packets = next_add.packets;
  next_once = next_add.once;
  some =
      let w : IsStorePacket st found.0 = packet_back st s1 found.0 g1 found.1 in
      inr (s, found.0, w, comes found.0 w found.2, λ v. left.second found.0 w found.2 v);
}
  where
    was_there : (i : ℕ) (z : List ℕ) → IsStorePacket st z → Under s1 back i z → Under new all i z
    was_there i z w u = under_on s2 new all i z g3 add.packets (add.old i z (packet_on st s1 z g1 w) u)

    comes : (z : List ℕ) → IsStorePacket st z → Has s1 rest z → Under new all s z
    comes z w h = under_on s2 new all s z g3 add.packets (add.more z (packet_on st s1 z g1 w) h)

-- nothing is added where there are no packets
pub added_none : (st : StoreState) (back : List (ℕ × ℕ)) (s y : ℕ) → HaveSets st back → Once back → ((pk : List ℕ) → IsWhole pk → is_in st y pk ≡ false) → IsAdded st back s y st back
added_none st back s y sets once empty = record {
  either = λ i x w u. inl u;
  old = λ i x w u. u;
  more = λ x w h. let no : is_in st y x ≡ false = empty x w.0 in absurd cc;
  named = λ i n. inl n;
  packets = sets;
  once = once;
}
