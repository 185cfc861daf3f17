-- The diagrams of each set put together.
use Rattle.std.proofs.Common.{◌≡◌, ℕ, zero, suc, ◌<◌, ◌≤◌, ◌+◌, ◌-◌, ◌⊎◌, true, false, inl, inr, refl, sym, ◌∙◌, ap, subst, arith, cond, eqb, List, length, get_or, Some, Contains}
use Rattle.std.specs.List.Sorted.{IsPermutation}
use Rattle.std.specs.Map.{lookup}
use Rattle.std.proofs.lemmas.Bool.Decides.{eqb_tells, leb_tells}
use Rattle.std.proofs.lemmas.List.Sorted.{Contains-permutation, IsPermutation-sym}
use Rattle.nk_store.specs.declared.node.Out.{Out}
use Rattle.nk_store.specs.StoreState.{StoreState, IsId, HasLeaves, look, Grows}
use Rattle.nk_apply.specs.Leaves.{merged}
use Rattle.nk_apply.specs.Unions.{AreIds, unions}
use Rattle.nk_apply.proofs.Members.{merged_members}
use Rattle.nk_sets.proofs.Kept.{get_or_same}
use Rattle.nk_backward.specs.Predecessors.{diagram_at, HaveDiagrams, ShowsBelow, Shows, FindDiagrams, IsRunOfSet, IsWithFound, IsSetJoined, AreSetsJoined}

-- an out of all leaves is one of a leaf's
pub in_unions : (st : StoreState) (ds : List ℕ) (from n : ℕ) (y : List ℕ) (o : Out) → Contains (unions st ds from n y) o → (i : ℕ) × (from ≤ i) × (i < from + n) × Contains (look st (get_or ds i 0) y) o
in_unions st ds from zero y o c = absurd (let l = c.1 in omega (arith, l))
in_unions st ds from (suc n) y o c = elim ((merged_members o (look st (get_or ds from 0) y) (unions st ds (from + 1) n y)).0 c) [
  | inl here ↦ (from, omega arith, omega arith, here)
  | inr later ↦ let r = in_unions st ds (from + 1) n y o later in (r.0, omega (arith, r.1), omega (arith, r.2), r.3)
]

-- an out of a leaf is one of all
pub unions_has : (st : StoreState) (ds : List ℕ) (from n i : ℕ) (y : List ℕ) (o : Out) → from ≤ i → i < from + n → Contains (look st (get_or ds i 0) y) o → Contains (unions st ds from n y) o
unions_has st ds from zero i y o l m c = absurd (omega (arith, l, m))
unions_has st ds from (suc n) i y o l m c = (merged_members o (look st (get_or ds from 0) y) (unions st ds (from + 1) n y)).1 (elim (eqb_tells i from) [
  | inl same ↦ inl (subst (λ (j : ℕ). Contains (look st (get_or ds j 0) y) o) same.1 c)
  | inr other ↦ inr (unions_has st ds (from + 1) n i y o (omega (arith, l, other.1)) (omega (arith, m)) c)
])

-- diagrams in another order are diagrams
pub diagrams_moved : (st : StoreState) (ds all : List (ℕ × ℕ)) → IsPermutation ds all → HaveDiagrams st ds → HaveDiagrams st all
diagrams_moved st ds all moved ids k l =
    let c = Contains-permutation all ds (diagram_at all k) (IsPermutation-sym ds all moved) (k, l, get_or_same all k (diagram_at all k) (0, 0) l) in
    let e : diagram_at ds c.0 ≡ diagram_at all k = get_or_same ds c.0 (0, 0) (diagram_at all k) c.1 ∙ c.2 in
    subst (λ (p : ℕ × ℕ). IsId st p.1) e (ids c.0 c.1)

-- what diagrams have they have in another order
pub shows_moved : (st : StoreState) (ds all : List (ℕ × ℕ)) (t : ℕ) (y : List ℕ) (o : Out) → IsPermutation ds all → ShowsBelow st ds (length ds) t y o → ShowsBelow st all (length all) t y o
shows_moved st ds all t y o moved s =
    let c = Contains-permutation ds all (diagram_at ds s.0) moved (s.0, s.1, get_or_same ds s.0 (diagram_at ds s.0) (0, 0) s.1) in
    let e : diagram_at ds s.0 ≡ diagram_at all c.0 = sym (get_or_same all c.0 (0, 0) (diagram_at ds s.0) c.1 ∙ c.2) in
    (c.0, c.1, subst (λ (p : ℕ × ℕ). p.0 ≡ t) e s.2, subst (λ (p : ℕ × ℕ). Contains (look st p.1 y) o) e s.3)

-- a diagram and what is found
pub found_some : (st new : StoreState) (into : List (ℕ × ℕ)) (t d e r : ℕ) → lookup (eqb t) into ≡ Some e → HasLeaves new r (λ pk. merged (look st e pk) (look st d pk)) → IsWithFound st into t d new r
found_some st new into t d e r is h = record {
  id = h.id;
  from = λ y o w c. elim ((merged_members o (look st e y) (look st d y)).0 (subst (λ (os : List Out). Contains os o) (h.leaf y w) c)) [ inl k ↦ inl (e, is, k) | inr k ↦ inr k ];
  found = λ y o w s.
      let same : s.0 ≡ e = one s.0 e (sym s.1 ∙ is) in
      subst (λ (os : List Out). Contains os o) (sym (h.leaf y w)) ((merged_members o (look st e y) (look st d y)).1 (inl (subst (λ (f : ℕ). Contains (look st f y) o) same s.2)));
  comes = λ y o w c. subst (λ (os : List Out). Contains os o) (sym (h.leaf y w)) ((merged_members o (look st e y) (look st d y)).1 (inr c));
}
  where
    one : (a b : ℕ) → Some a ≡ Some b → a ≡ b
    one a b is = cc

-- what a table has, as the store grows
pub shown_on : (a b : StoreState) (into : List (ℕ × ℕ)) (t : ℕ) (y : List ℕ) (o : Out) → Grows a b → FindDiagrams a into → Shows a into t y o → Shows b into t y o
shown_on a b into t y o g ids s = (s.0, s.1, subst (λ (os : List Out). Contains os o) (sym (g.leaves s.0 y (ids t s.0 s.1))) s.2)

-- what a table has in a grown store it had before
pub shown_back : (a b : StoreState) (into : List (ℕ × ℕ)) (t : ℕ) (y : List ℕ) (o : Out) → Grows a b → FindDiagrams a into → Shows b into t y o → Shows a into t y o
shown_back a b into t y o g ids s = (s.0, s.1, subst (λ (os : List Out). Contains os o) (g.leaves s.0 y (ids t s.0 s.1)) s.2)

-- a diagram put in for a set
pub joined_put : (st new : StoreState) (into all : List (ℕ × ℕ)) (t d r : ℕ) → Grows st new → FindDiagrams st into → IsWithFound st into t d new r → ((q : ℕ) → lookup (eqb q) all ≡ cond (eqb t q) (Some r) (lookup (eqb q) into)) → IsSetJoined st into t d new all
joined_put st new into all t d r g ids one_more put = record {
  ids = λ s e is. elim (eqb_tells t s) [
    | inl same ↦ subst (IsId new) (one r e (sym (here s same.0) ∙ is)) one_more.id
    | inr other ↦ g.ids e (ids s e (sym (there s other.0) ∙ is))
  ];
  from = λ s y o w h. elim (eqb_tells t s) [
    | inl same ↦
        let e : h.0 ≡ r = one h.0 r (sym h.1 ∙ here s same.0) in
        elim (one_more.from y o w (subst (λ (f : ℕ). Contains (look new f y) o) e h.2)) [
          | inl was ↦ inl (subst (λ (u : ℕ). Shows st into u y o) same.1 was)
          | inr now ↦ inr (sym same.1, now)
        ]
    | inr other ↦ inl (shown_back st new into s y o g ids (h.0, sym (there s other.0) ∙ h.1, h.2))
  ];
  kept = λ s y o w h. elim (eqb_tells t s) [
    | inl same ↦ (r, here s same.0, one_more.found y o w (subst (λ (u : ℕ). Shows st into u y o) (sym same.1) h))
    | inr other ↦ let later = shown_on st new into s y o g ids h in (later.0, there s other.0 ∙ later.1, later.2)
  ];
  comes = λ y o w c. elim (eqb_tells t t) [
    | inl same ↦ (r, here t same.0, one_more.comes y o w c)
    | inr other ↦ absurd (other.1 refl)
  ];
}
  where
    one : (a b : ℕ) → Some a ≡ Some b → a ≡ b
    one a b is = cc

    here : (s : ℕ) → eqb t s ≡ true → lookup (eqb s) all ≡ Some r
    here s e = put s ∙ ap (λ b. cond b (Some r) (lookup (eqb s) into)) e

    there : (s : ℕ) → eqb t s ≡ false → lookup (eqb s) all ≡ lookup (eqb s) into
    there s e = put s ∙ ap (λ b. cond b (Some r) (lookup (eqb s) into)) e

-- the diagrams of a run are numbers of the store
pub run_ids : (st : StoreState) (ds : List (ℕ × ℕ)) (from to : ℕ) (all : List ℕ) → HaveDiagrams st ds → IsRunOfSet ds from to all → AreIds st all
run_ids st ds from to all ids run i l = subst (IsId st) (sym (run.items i l)) (ids (from + i) (omega (arith, l, run.count, run.within)))

-- one run more
pub joined_push : (a st mid new : StoreState) (ds : List (ℕ × ℕ)) (from to t d : ℕ) (run : List ℕ) (into all : List (ℕ × ℕ)) → Grows a st → Grows st mid → HaveDiagrams a ds → t ≡ (diagram_at ds from).0 → IsRunOfSet ds from to run → HasLeaves mid d (λ pk. unions st run 0 (length run) pk) →
    AreSetsJoined a ds from st into → IsSetJoined mid into t d new all → AreSetsJoined a ds to new all
joined_push a st mid new ds from to t d run into all g1 g2 ids set r h was one = record {
  ids = one.ids;
  goes = λ s y o w c. elim (one.from s y o w c) [
    | inl old ↦
        let k = was.goes s y o w (shown_back st mid into s y o g2 was.ids old) in
        (k.0, omega (arith, k.1, r.later), k.2, k.3)
    | inr now ↦
        let u = in_unions st run 0 (length run) y o (subst (λ (os : List Out). Contains os o) (h.leaf y w) now.1) in
        let l : u.0 < length run = omega (arith, u.2) in
        let e : get_or run u.0 0 ≡ (diagram_at ds (from + u.0)).1 = r.items u.0 l in
        let c : Contains (look st (diagram_at ds (from + u.0)).1 y) o = subst (λ (f : ℕ). Contains (look st f y) o) e u.3 in
        let id : IsId a (diagram_at ds (from + u.0)).1 = ids (from + u.0) (omega (arith, l, r.count, r.within)) in
        (from + u.0, omega (arith, l, r.count), r.one (from + u.0) (omega arith) (omega (arith, l, r.count)) ∙ sym set ∙ sym now.0, subst (λ (os : List Out). Contains os o) (g1.leaves (diagram_at ds (from + u.0)).1 y id) c)
  ];
  comes = λ s y o w k. elim (below k.0 from) [
    | inl l ↦ one.kept s y o w (shown_on st mid into s y o g2 was.ids (was.comes s y o w (k.0, l, k.2, k.3)))
    | inr m ↦
        let i : ℕ = k.0 - from in
        let at : from + i ≡ k.0 = omega (arith, m) in
        let l : i < length run = omega (arith, m, k.1, r.count) in
        let is : get_or run i 0 ≡ (diagram_at ds k.0).1 = r.items i l ∙ ap (λ (j : ℕ). (diagram_at ds j).1) at in
        let id : IsId a (diagram_at ds k.0).1 = ids k.0 (omega (arith, k.1, r.within)) in
        let now : Contains (look st (diagram_at ds k.0).1 y) o = subst (λ (os : List Out). Contains os o) (sym (g1.leaves (diagram_at ds k.0).1 y id)) k.3 in
        let c : Contains (unions st run 0 (length run) y) o = unions_has st run 0 (length run) i y o (omega arith) (omega (arith, l)) (subst (λ (f : ℕ). Contains (look st f y) o) (sym is) now) in
        let e : s ≡ t = sym k.2 ∙ r.one k.0 m k.1 ∙ sym set in
        subst (λ (u : ℕ). Shows new all u y o) (sym e) (one.comes y o w (subst (λ (os : List Out). Contains os o) (sym (h.leaf y w)) c))
  ];
}
  where
    below : (k n : ℕ) → (k < n) ⊎ (n ≤ k)
    below k n = elim (leb_tells n k) [ inl up ↦ inr up.1 | inr down ↦ inl down.1 ]
