-- Transitions by their two indices, and a diagram for each of them.
use Rattle.std.proofs.Common.{◌≡◌, ℕ, zero, suc, ◌<◌, ◌≤◌, ◌+◌, ◌-◌, ◌⊎◌, ◌↔◌, true, false, inl, inr, refl, sym, ◌∙◌, ap, subst, arith, List, [], ◌∷◌, ◌++◌, length, length-append, get_or, Contains}
use Rattle.std.proofs.lemmas.Bool.Decides.{eqb_tells}
use Rattle.std.proofs.lemmas.List.{get_or_append_left, get_or-append_right}
use Rattle.std.proofs.lemmas.List.Elements.{Contains-append_left, Contains-append_right, Contains-append_cases}
use Rattle.nk_field.specs.Act.{applied}
use Rattle.nk_store.specs.declared.node.Out.{Out}
use Rattle.nk_store.specs.Leaves.{IsActFrom}
use Rattle.nk_store.specs.StoreState.{StoreState, IsId, IsWhole, IsStorePacket, HasLeaves, look, Grows}
use Rattle.nk_store.proofs.Stores.{grows_on}
use Rattle.nk_apply.specs.Leaves.{guarded}
use Rattle.nk_sets.specs.PacketSets.{has_some_out, is_in, IsImage}
use Rattle.nk_sets.specs.declared.outs.OutPackets.{OutPackets}
use Rattle.nk_sets.specs.Outs.{entry}
use Rattle.nk_sets.proofs.Kept.{packet_on, has_on, get_or_same}
use Rattle.nk_sets.proofs.OutEntries.{entry_at}
use Rattle.nk_steps.proofs.Locals.{acts_in_range}
use Rattle.nk_backward.specs.declared.transitions.Transitions.{Transitions}
use Rattle.nk_backward.specs.Transitions.{transitions_at, OutsSuitStore}
use Rattle.nk_backward.specs.Predecessors.{out_at, ArePlacesBelow, place_at, transition_out, packet_made, diagram_at, HaveDiagrams, ShowsBelow, IsMarked, AreMarked}
use Rattle.nk_backward.proofs.Tracing.{at_place}

-- the only item of a list
only : {X : Type 0} (a b : X) → Contains (a ∷ []) b → a ≡ b
only a b c = at c.0 c.1 c.2
  where
    at : (k : ℕ) → k < 1 → get_or (a ∷ []) k b ≡ b → a ≡ b
    at zero l e = e
    at (suc k) l e = absurd (omega (arith, l))

-- an item of a list with one more
pub with_one : {X : Type 0} (xs : List X) (a b : X) → Contains (xs ++ a ∷ []) b ↔ (Contains xs b ⊎ (a ≡ b))
with_one xs a b = (
  λ c. elim (Contains-append_cases xs (a ∷ []) b c) [ inl was ↦ inl was | inr now ↦ inr (only a b now) ],
  λ s. elim s [
    | inl was ↦ Contains-append_left xs (a ∷ []) b was
    | inr e ↦ Contains-append_right xs (a ∷ []) b (0, omega arith, e)
  ],
)

-- the two indices of one more out
pub places_push : (old all more : List (ℕ × ℕ)) (k j : ℕ) → ((p : ℕ × ℕ) → Contains all p ↔ (Contains old p ⊎ ((p.0 ≡ k) × (p.1 < j)))) → more ≡ all ++ (k, j) ∷ [] →
    (p : ℕ × ℕ) → Contains more p ↔ (Contains old p ⊎ ((p.0 ≡ k) × (p.1 < j + 1)))
places_push old all more k j was is p = (
  λ c. elim ((with_one all (k, j) p).0 (subst (λ (ps : List (ℕ × ℕ)). Contains ps p) is c)) [
    | inl there ↦ elim ((was p).0 there) [ inl o ↦ inl o | inr h ↦ inr (h.0, omega (arith, h.1)) ]
    | inr e ↦ inr (sym (ap (λ (q : ℕ × ℕ). q.0) e), let v : j ≡ p.1 = ap (λ (q : ℕ × ℕ). q.1) e in omega (arith, v))
  ],
  λ s. subst (λ (ps : List (ℕ × ℕ)). Contains ps p) (sym is) ((with_one all (k, j) p).1 (elim s [
    | inl o ↦ inl ((was p).1 (inl o))
    | inr h ↦ elim (eqb_tells p.1 j) [
      | inl same ↦ inr (sym (pair_is p k j h.0 same.1))
      | inr other ↦ inl ((was p).1 (inr (h.0, omega (arith, h.1, other.1))))
    ]
  ])),
)
  where
    pair_is : (p : ℕ × ℕ) (k j : ℕ) → p.0 ≡ k → p.1 ≡ j → p ≡ (k, j)
    pair_is p k j a b = ap (λ (n : ℕ). (n, p.1)) a ∙ ap (λ (n : ℕ). (k, n)) b

-- those of no out yet
pub places_none : (old : List (ℕ × ℕ)) (k : ℕ) (p : ℕ × ℕ) → Contains old p ↔ (Contains old p ⊎ ((p.0 ≡ k) × (p.1 < 0)))
places_none old k p = (λ c. inl c, λ s. elim s [ inl o ↦ o | inr h ↦ absurd (let l = h.1 in omega (arith, l)) ])

-- the two indices of one more set's transitions
pub places_next : (ts : List Transitions) (k : ℕ) (old more : List (ℕ × ℕ)) (t : Transitions) → t ≡ transitions_at ts k → ArePlacesBelow ts k old →
    ((p : ℕ × ℕ) → Contains more p ↔ (Contains old p ⊎ ((p.0 ≡ k) × (p.1 < length t.outs)))) → ArePlacesBelow ts (k + 1) more
places_next ts k old more t is was step p = (
  λ c. elim ((step p).0 c) [
    | inl o ↦ let h = (was p).0 o in (omega (arith, h.0), h.1)
    | inr h ↦ (omega (arith, h.0), subst (λ (u : Transitions). p.1 < length u.outs) (is ∙ ap (λ (j : ℕ). transitions_at ts j) (sym h.0)) h.1)
  ],
  λ h. (step p).1 (elim (eqb_tells p.0 k) [
    | inl same ↦ inr (same.1, subst (λ (u : Transitions). p.1 < length u.outs) (ap (λ (j : ℕ). transitions_at ts j) same.1 ∙ sym is) h.1)
    | inr other ↦ inl ((was p).1 (let l = h.0 in omega (arith, l, other.1), h.1))
  ]),
)

-- the two indices of no transition
pub places_start : (ts : List Transitions) → ArePlacesBelow ts 0 []
places_start ts p = (λ c. absurd (let l = c.1 in omega (arith, l)), λ h. absurd (let l = h.0 in omega (arith, l)))

-- the two indices that a number has are a transition's
pub place_is : (ts : List Transitions) (places : List (ℕ × ℕ)) (n : ℕ) → ArePlacesBelow ts (length ts) places → n < length places → ((place_at places n).0 < length ts) × ((place_at places n).1 < length (transitions_at ts (place_at places n).0).outs)
place_is ts places n are l = (are (place_at places n)).0 (n, l, get_or_same places n (place_at places n) (0, 0) l)

-- two indices that stand at a number are a transition's
pub place_here : (ts : List Transitions) (places : List (ℕ × ℕ)) (n : ℕ) (p : ℕ × ℕ) → ArePlacesBelow ts (length ts) places → n < length places → p ≡ get_or places n p → (p.0 < length ts) × (p.1 < length (transitions_at ts p.0).outs)
place_here ts places n p are l is = (are p).0 (n, l, sym is)

-- the out of a transition by its two indices
pub out_here : (ts : List Transitions) (p : ℕ × ℕ) (t : Transitions) (q : OutPackets) → p.0 < length ts → p.1 < length (transitions_at ts p.0).outs → t ≡ get_or ts p.0 t → q ≡ get_or t.outs p.1 q → q ≡ out_at ts p
out_here ts p t q l m is_t is_q =
    let t_is : t ≡ transitions_at ts p.0 = at_place ts p.0 t l is_t in
    let k : p.1 < length t.outs = subst (λ (u : Transitions). p.1 < length u.outs) (sym t_is) m in
    entry_at t.outs p.1 q k is_q ∙ ap (λ (u : Transitions). entry u.outs p.1) t_is

-- the two indices of a transition have a number
pub number_of : (ts : List Transitions) (places : List (ℕ × ℕ)) (p : ℕ × ℕ) → ArePlacesBelow ts (length ts) places → p.0 < length ts → p.1 < length (transitions_at ts p.0).outs → (n : ℕ) × (n < length places) × (place_at places n ≡ p)
number_of ts places p are l m = let c = (are p).1 (l, m) in (c.0, c.1, get_or_same places c.0 (0, 0) p c.1 ∙ c.2)

-- a diagram at an index before one that was put after
pub diagram_old : (ds : List (ℕ × ℕ)) (d : ℕ × ℕ) (k : ℕ) → k < length ds → diagram_at (ds ++ d ∷ []) k ≡ diagram_at ds k
diagram_old ds d k l = get_or_append_left ds (d ∷ []) (0, 0) k l

-- the diagram that was put after
pub diagram_new : (ds : List (ℕ × ℕ)) (d : ℕ × ℕ) → diagram_at (ds ++ d ∷ []) (length ds) ≡ d
diagram_new ds d = get_or-append_right ds (d ∷ []) (length ds) (length ds) (0, 0) refl (omega arith)
    ∙ (let z : length ds - length ds ≡ 0 = omega arith in ap (λ k. get_or (d ∷ []) k (0, 0)) z)

-- diagrams stay diagrams as the store grows
pub diagrams_on : (a b : StoreState) (ds : List (ℕ × ℕ)) → Grows a b → HaveDiagrams a ds → HaveDiagrams b ds
diagrams_on a b ds g h k l = g.ids (diagram_at ds k).1 (h k l)

-- what they have they have as the store grows
pub shows_on : (a b : StoreState) (ds : List (ℕ × ℕ)) (k t : ℕ) (y : List ℕ) (o : Out) → Grows a b → HaveDiagrams a ds → k ≤ length ds → ShowsBelow a ds k t y o → ShowsBelow b ds k t y o
shows_on a b ds k t y o g h l s = (s.0, s.1, s.2, subst (λ (os : List Out). Contains os o) (sym (g.leaves (diagram_at ds s.0).1 y (h s.0 (omega (arith, l, s.1))))) s.3)

-- what they have in a grown store they had before
pub shows_back : (a b : StoreState) (ds : List (ℕ × ℕ)) (k t : ℕ) (y : List ℕ) (o : Out) → Grows a b → HaveDiagrams a ds → k ≤ length ds → ShowsBelow b ds k t y o → ShowsBelow a ds k t y o
shows_back a b ds k t y o g h l s = (s.0, s.1, s.2, subst (λ (os : List Out). Contains os o) (g.leaves (diagram_at ds s.0).1 y (h s.0 (omega (arith, l, s.1)))) s.3)

-- an end has no diagram
pub marked_end : (st : StoreState) (q : OutPackets) (n : ℕ) (old : List (ℕ × ℕ)) → HaveDiagrams st old → q.out.target ≡ 0 → IsMarked st q n old st old
marked_end st q n old ids e = record {
  ids = ids;
  from = λ t y o w s. inl s;
  kept = λ t y o s. s;
  comes = λ t z w is h. absurd (omega (arith, e, is));
}

-- the outs of a leaf at the packets of a set
pub guarded_has : (p d : List Out) (o : Out) → Contains (guarded p d) o → Contains d o
guarded_has [] d o c = absurd (let l = c.1 in omega (arith, l))
guarded_has (x ∷ xs) d o c = c

-- where a leaf at the packets of a set has an out, the set has the packet
pub guarded_in : (st : StoreState) (s : ℕ) (y : List ℕ) (d : List Out) (o : Out) → Contains (guarded (look st s y) d) o → is_in st s y ≡ true
guarded_in st s y d o c = by (look st s y) c
  where
    by : (p : List Out) → Contains (guarded p d) o → has_some_out p ≡ true
    by [] c = absurd (let l = c.1 in omega (arith, l))
    by (x ∷ xs) c = refl

-- a leaf is as it is at a packet of the set
pub guarded_some : (st : StoreState) (s : ℕ) (y : List ℕ) (d : List Out) → is_in st s y ≡ true → guarded (look st s y) d ≡ d
guarded_some st s y d h = by (look st s y) refl
  where
    by : (p : List Out) → look st s y ≡ p → guarded (look st s y) d ≡ d
    by [] e = let z : is_in st s y ≡ false = ap has_some_out e in absurd cc
    by (x ∷ xs) e = ap (λ (p : List Out). guarded p d) e

-- the diagram of a transition
pub marked_some : (st s1 s2 new : StoreState) (q : OutPackets) (n t made mark d : ℕ) (old all : List (ℕ × ℕ)) → Grows st s1 → Grows s1 s2 → Grows s2 new → IsActFrom st.maxes 0 q.out.act → HaveDiagrams st old → t + 1 ≡ q.out.target → IsImage st q.out.act q.packets s1 made → HasLeaves s2 mark (λ pk. transition_out n ∷ []) →
    HasLeaves new d (λ pk. guarded (look s2 made pk) (look s2 mark pk)) → all ≡ old ++ (t, d) ∷ [] → IsMarked st q n old new all
marked_some st s1 s2 new q n t made mark d old all g1 g2 g3 suits ids to image leaf cut is = record {
  ids = subst (HaveDiagrams new) (sym is) (λ k l. elim (eqb_tells k (length old)) [
    | inl same ↦ subst (λ (p : ℕ × ℕ). IsId new p.1) (sym (ap (λ (j : ℕ). diagram_at (old ++ (t, d) ∷ []) j) same.1 ∙ diagram_new old (t, d))) cut.id
    | inr other ↦
        let m : k < length old = omega (arith, l, length-append old ((t, d) ∷ []), other.1) in
        subst (λ (p : ℕ × ℕ). IsId new p.1) (sym (diagram_old old (t, d) k m)) (g.ids (diagram_at old k).1 (ids k m))
  ]);
  from = λ u y o w s. split u y o w (subst (λ (ds : List (ℕ × ℕ)). ShowsBelow new ds (length ds) u y o) is s);
  kept = λ u y o s.
      let later = shows_on st new old (length old) u y o g ids (omega arith) s in
      let at : diagram_at old later.0 ≡ diagram_at (old ++ (t, d) ∷ []) later.0 = sym (diagram_old old (t, d) later.0 later.1) in
      subst (λ (ds : List (ℕ × ℕ)). ShowsBelow new ds (length ds) u y o) (sym is)
      (later.0, omega (arith, later.1, length-append old ((t, d) ∷ [])), subst (λ (p : ℕ × ℕ). p.0 ≡ u) at later.2, subst (λ (p : ℕ × ℕ). Contains (look new p.1 y) o) at later.3);
  comes = λ u z w e h.
      let y : List ℕ = applied q.out.act z in
      let has : is_in s1 made y ≡ true = image.goes z w h in
      let whole : IsWhole y = (in_range z w).0 in
      let leaves : look new d y ≡ transition_out n ∷ [] = cut.leaf y whole ∙ guarded_some s2 made y (look s2 mark y) (has_on s1 s2 made y g2 image.set.id has) ∙ leaf.leaf y whole in
      let at : (t, d) ≡ diagram_at (old ++ (t, d) ∷ []) (length old) = sym (diagram_new old (t, d)) in
      subst (λ (ds : List (ℕ × ℕ)). ShowsBelow new ds (length ds) u y (transition_out n)) (sym is) (
        length old,
        omega (arith, length-append old ((t, d) ∷ [])),
        subst (λ (p : ℕ × ℕ). p.0 ≡ u) at (let v : t ≡ u = omega (arith, to, e) in v),
        subst (λ (p : ℕ × ℕ). Contains (look new p.1 y) (transition_out n)) at (subst (λ (os : List Out). Contains os (transition_out n)) (sym leaves) (0, omega arith, refl)),
      );
}
  where
    g : Grows st new
    g = grows_on st s1 new g1 (grows_on s1 s2 new g2 g3)

    split : (u : ℕ) (y : List ℕ) (o : Out) → IsStorePacket st y → ShowsBelow new (old ++ (t, d) ∷ []) (length (old ++ (t, d) ∷ [])) u y o → ShowsBelow st old (length old) u y o ⊎ ((o ≡ transition_out n) × (q.out.target ≡ u + 1))
    split u y o w s = elim (eqb_tells s.0 (length old)) [
      | inl same ↦
          let at : diagram_at (old ++ (t, d) ∷ []) s.0 ≡ (t, d) = ap (λ (j : ℕ). diagram_at (old ++ (t, d) ∷ []) j) same.1 ∙ diagram_new old (t, d) in
          let set : t ≡ u = subst (λ (p : ℕ × ℕ). p.0 ≡ u) at s.2 in
          let c : Contains (look new d y) o = subst (λ (p : ℕ × ℕ). Contains (look new p.1 y) o) at s.3 in
          let k : Contains (look s2 mark y) o = guarded_has (look s2 made y) (look s2 mark y) o (subst (λ (os : List Out). Contains os o) (cut.leaf y w.0) c) in
          inr (sym (only (transition_out n) o (subst (λ (os : List Out). Contains os o) (leaf.leaf y w.0) k)), omega (arith, to, set))
      | inr other ↦
          let l : s.0 < length old = omega (arith, s.1, length-append old ((t, d) ∷ []), other.1) in
          let at : diagram_at (old ++ (t, d) ∷ []) s.0 ≡ diagram_at old s.0 = diagram_old old (t, d) s.0 l in
          inl (shows_back st new old (length old) u y o g ids (omega arith) (s.0, l, subst (λ (p : ℕ × ℕ). p.0 ≡ u) at s.2, subst (λ (p : ℕ × ℕ). Contains (look new p.1 y) o) at s.3))
    ]

    in_range : (z : List ℕ) → IsStorePacket st z → IsStorePacket st (applied q.out.act z)
    in_range z w = acts_in_range st.maxes 0 q.out.act z suits w

-- no transition yet
pub marked_start : (st : StoreState) (ts : List Transitions) (places : List (ℕ × ℕ)) → AreMarked st ts places 0 st []
marked_start st ts places = record {
  ids = λ k l. absurd (omega (arith, l));
  goes = λ t y o w s. absurd (let l = s.1 in omega (arith, l));
  comes = λ n t z l w i h. absurd (omega (arith, l));
}

-- one transition more
pub marked_push : (a st new : StoreState) (ts : List Transitions) (places : List (ℕ × ℕ)) (k : ℕ) (q : OutPackets) (ds all : List (ℕ × ℕ)) → Grows a st → OutsSuitStore a ts → ArePlacesBelow ts (length ts) places → k < length places → q ≡ out_at ts (place_at places k) → AreMarked a ts places k st ds →
    IsMarked st q k ds new all → AreMarked a ts places (k + 1) new all
marked_push a st new ts places k q ds all g suits_store are l is was one = record {
  ids = one.ids;
  goes = λ t y o w s. elim (one.from t y o (packet_on a st y g w) s) [
    | inl old ↦ was.goes t y o w old
    | inr now ↦ (k, now.0, (l, subst (λ (e : OutPackets). e.out.target ≡ t + 1) is now.1))
  ];
  comes = λ n t z m w i h. elim (eqb_tells n k) [
    | inr other ↦ one.kept t (packet_made ts places n z) (transition_out n) (was.comes n t z (omega (arith, m, other.1)) w i h)
    | inl same ↦
        let e : q ≡ out_at ts (place_at places n) = is ∙ ap (λ (j : ℕ). out_at ts (place_at places j)) (sym same.1) in
        let at = place_is ts places n are i.0 in
        let has : is_in st (out_at ts (place_at places n)).packets z ≡ true = has_on a st (out_at ts (place_at places n)).packets z g (suits_store (place_at places n).0 at.0 (place_at places n).1 at.1).packets.id h in
        let shown = one.comes t z (packet_on a st z g w) (subst (λ (p : OutPackets). p.out.target ≡ t + 1) (sym e) i.1) (subst (λ (p : OutPackets). is_in st p.packets z ≡ true) (sym e) has) in
        subst (λ (j : ℕ). ShowsBelow new all (length all) t (packet_made ts places n z) (transition_out j)) (sym same.1)
        (subst (λ (p : OutPackets). ShowsBelow new all (length all) t (applied p.out.act z) (transition_out k)) e shown)
  ];
}
