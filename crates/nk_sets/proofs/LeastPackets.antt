-- The least packet of a set, from the first part that has one.
use Rattle.std.proofs.Common.{◌≡◌, ℕ, zero, suc, ◌+◌, ◌<◌, ◌≤◌, ◌⊎◌, true, false, List, [], ◌∷◌, length, replicate, refl, sym, ap, subst, ◌∙◌, arith, get_or, set, get_or-set_other, get_or-set_same, inl, inr}
use Rattle.std.proofs.lemmas.Bool.Decides.{eqb_tells, leb_tells}
use Rattle.std.proofs.lemmas.List.{length-set, length-replicate, get_or_past}
use Rattle.nk_field.specs.Order.{Precedes}
use Rattle.nk_store.specs.declared.node.Out.{Out}
use Rattle.nk_store.specs.Nodes.{child_at, Rises}
use Rattle.nk_store.specs.StoreState.{StoreState, IsId, look, root_field, IsWhole, IsChild, IsCase, IsLeaf, IsStill}
use Rattle.nk_store.proofs.Looks.{each_child, joined_some}
use Rattle.nk_store.proofs.Same.{child-first, child-rest, set_in_range, zero_in_range}
use Rattle.nk_apply.proofs.Parts.{child_past}
use Rattle.nk_sets.specs.PacketSets.{has_some_out, is_in, IsLeastPacket}
use Rattle.nk_sets.proofs.Cases.{look_at}

-- it comes before the other, or it is it
precedes_by : (x y : List ℕ) → length x ≡ length y → ((k : ℕ) → ((j : ℕ) → j < k → get_or x j 0 ≡ get_or y j 0) → get_or x k 0 ≤ get_or y k 0) → (x ≡ y) ⊎ Precedes x y
precedes_by [] [] l h = inl refl
precedes_by [] (b ∷ ys) l h = absurd (omega (arith, l))
precedes_by (a ∷ xs) [] l h = absurd (omega (arith, l))
precedes_by (a ∷ xs) (b ∷ ys) l h =
    let le : a ≤ b = h 0 (λ j less. absurd (omega (arith, less))) in
    elim (eqb_tells a b) [
      | inl same ↦ rest same.1 (precedes_by xs ys (omega (arith, l)) (λ k e. h (suc k) (front same.1 k e)))
      | inr other ↦ inr (inl (let ne = other.1 in omega (arith, le, ne)))
    ]
  where
    front : a ≡ b → (k : ℕ) → ((j : ℕ) → j < k → get_or xs j 0 ≡ get_or ys j 0) → (j : ℕ) → j < suc k → get_or (a ∷ xs) j 0 ≡ get_or (b ∷ ys) j 0
    front same k e zero less = same
    front same k e (suc j) less = e j (omega (arith, less))

    rest : a ≡ b → (xs ≡ ys) ⊎ Precedes xs ys → (a ∷ xs ≡ b ∷ ys) ⊎ Precedes (a ∷ xs) (b ∷ ys)
    rest same (inl e) = inl (ap (λ z. z ∷ xs) same ∙ ap (λ zs. b ∷ zs) e)
    rest same (inr p) = inr (inr (same, p))

-- what comes before another has less at the first place where they differ
before_by : (x y : List ℕ) → Precedes x y → (k : ℕ) → ((j : ℕ) → j < k → get_or x j 0 ≡ get_or y j 0) → get_or x k 0 ≤ get_or y k 0
before_by [] y p k e = absurd p
before_by (a ∷ xs) [] p k e = absurd p
before_by (a ∷ xs) (b ∷ ys) (inl less) zero e = omega (arith, less)
before_by (a ∷ xs) (b ∷ ys) (inl less) (suc k) e = let same : a ≡ b = e 0 (omega arith) in absurd (omega (arith, less, same))
before_by (a ∷ xs) (b ∷ ys) (inr r) zero e = let same = r.0 in omega (arith, same)
before_by (a ∷ xs) (b ∷ ys) (inr r) (suc k) e = before_by xs ys r.1 k (λ j less. e (suc j) (omega (arith, less)))

either_by : (x y : List ℕ) → (x ≡ y) ⊎ Precedes x y → (k : ℕ) → ((j : ℕ) → j < k → get_or x j 0 ≡ get_or y j 0) → get_or x k 0 ≤ get_or y k 0
either_by x y (inl same) k e = let is : get_or x k 0 ≡ get_or y k 0 = ap (λ l. get_or l k 0) same in omega (arith, is)
either_by x y (inr p) k e = before_by x y p k e

-- the zero packet is the least of a leaf with an out
pub zero_least :
    (st : StoreState) (s : ℕ) (outs : List Out) → IsLeaf st s outs → 0 < length outs → IsLeastPacket st s (replicate 18 0)
zero_least st s outs leaf h = record {
  packet = zero_in_range st.maxes;
  inside = ap has_some_out (leaf.leaf (replicate 18 0)) ∙ some outs h;
  first = λ y r e. precedes_by (replicate 18 0) y (length-replicate {A = ℕ} 18 0 ∙ sym r.0) (λ k same. zero_at k (get_or y k 0));
}
  where
    some : (outs : List Out) → 0 < length outs → has_some_out outs ≡ true
    some [] h = absurd (omega (arith, h))
    some (o ∷ os) h = refl

    zero_at : (k n : ℕ) → get_or (replicate 18 0) k 0 ≤ n
    zero_at k n =
        let r = zero_in_range [] in
        let le = r.1 k in
        omega (arith, le, get_or_past {X = ℕ} [] k 0 (omega arith))

-- how far the parts are known to be empty
pub record Reached (st : StoreState) (s f : ℕ) (ps : List (ℕ × ℕ)) (from : ℕ) (rest : List (ℕ × ℕ)) : Type 0 where
  pub rise : Rises (get_or st.maxes f 0) from rest
  pub at : (v : ℕ) → from ≤ v → v ≤ get_or st.maxes f 0 → child_at 0 ps v ≡ child_at 0 rest v
  pub none : (v : ℕ) (pk : List ℕ) → v < from → IsWhole pk → is_in st (child_at 0 ps v) pk ≡ false

-- without a start
restart :
    (high from v : ℕ) (p : ℕ × ℕ) (rest : List (ℕ × ℕ)) → Rises high from rest → v ≤ high → from ≤ v
    → child_at p.1 rest v ≡ child_at 0 rest v
restart high from v p [] r h l = absurd (omega (arith, r, h, l))
restart high from v p (q ∷ rest) r h l = refl

-- one part more is empty
pub reached_more :
    (st : StoreState) (s f : ℕ) (ps : List (ℕ × ℕ)) (from : ℕ) (p : ℕ × ℕ) (rest : List (ℕ × ℕ))
    → Reached st s f ps from (p ∷ rest) → ((pk : List ℕ) → IsWhole pk → is_in st p.1 pk ≡ false)
    → Reached st s f ps (p.0 + 1) rest
reached_more st s f ps from p rest r empty = record {
  rise = r.rise.2;
  at = λ v lo hi.
      let low = r.rise.0 in
      r.at v (omega (arith, lo, low)) hi ∙ child-rest 0 p rest v (omega (arith, lo)) ∙ restart (get_or st.maxes f 0) (p.0 + 1) v p rest r.rise.2 hi lo;
  none = λ v pk less w. elim (leb_tells from v) [
    | inl new ↦
        let high = r.rise.1 in
        ap (λ k. is_in st k pk) (r.at v new.1 (omega (arith, less, high)) ∙ child-first 0 p rest v (omega (arith, less))) ∙ empty pk w
    | inr old ↦ r.none v pk old.1 w
  ];
}

-- where all parts are empty so is the set
pub reached_all :
    (st : StoreState) (s f : ℕ) (ps : List (ℕ × ℕ)) (from : ℕ) → IsCase st s f ps → Reached st s f ps from []
    → (pk : List ℕ) → IsWhole pk → is_in st s pk ≡ false
reached_all st s f ps from c r pk w =
    let high = get_or st.maxes f 0 in
    let end = r.rise in
    ap has_some_out (c.leaf pk)
    ∙ elim (leb_tells (get_or pk f 0) high) [
      | inl within ↦ let le = within.1 in r.none (get_or pk f 0) pk (omega (arith, le, end)) w
      | inr past ↦ let gt = past.1 in ap (λ k. is_in st k pk) (child_past high 0 0 (get_or pk f 0) ps c.parts_ok.rise (omega (arith, gt))) ∙ r.none high pk (omega (arith, end)) w
    ]

-- the least packet of the first part that has one, with the part's least value, is the set's
pub least_part :
    (st : StoreState) (s f : ℕ) (ps : List (ℕ × ℕ)) (from : ℕ) (p : ℕ × ℕ) (rest : List (ℕ × ℕ)) (x : List ℕ)
    → IsCase st s f ps → ((d : ℕ) → IsId st d → IsStill st d) → Reached st s f ps from (p ∷ rest)
    → IsLeastPacket st p.1 x → ((k : ℕ) → k < root_field st p.1 → get_or x k 0 ≡ 0) → IsLeastPacket st s (set x f from)
least_part st s f ps from p rest x c still r least zeros =
    let high = get_or st.maxes f 0 in
    let low = r.rise.0 in
    let root_field_value = r.rise.1 in
    let is : child_at 0 ps from ≡ p.1 = r.at from (omega arith) (omega (arith, low, root_field_value)) ∙ child-first 0 p rest from low in
    let child : IsChild st f p.1 = subst (IsChild st f) is (each_child (IsChild st f) 0 ps from (joined_some ps c.joined) c.parts_ok.children) in
    let later = child.later in
    let field = c.parts_ok.field in
    let whole = least.packet.0 in
    let value : get_or (set x f from) f 0 ≡ from = get_or-set_same x f from 0 (omega (arith, field, whole)) in
    record {
      packet = set_in_range st.maxes x f from least.packet (omega (arith, low, root_field_value));
      inside = ap has_some_out (look_at st s f from ps x c still whole ∙ ap (λ k. look st k x) is) ∙ least.inside;
      first = λ y ry e.
          let w = get_or y f 0 in
          let in_child : is_in st (child_at 0 ps w) y ≡ true = sym (ap has_some_out (c.leaf y)) ∙ e in
          let reaches : from ≤ w = elim (leb_tells from w) [
            | inl le ↦ le.1
            | inr less ↦ let no : true ≡ false = sym in_child ∙ r.none w y less.1 ry.0 in absurd cc
          ] in
          precedes_by (set x f from) y (length-set x f from ∙ whole ∙ sym ry.0) (λ k same. elim (leb_tells f k) [
            | inr before ↦
                let less = before.1 in
                let z : get_or (set x f from) k 0 ≡ 0 = get_or-set_other x f k from 0 (λ q. omega (arith, q, less)) ∙ zeros k (omega (arith, less, later)) in
                omega (arith, z)
            | inl from_on ↦ elim (eqb_tells k f) [
              | inl here ↦
                  let a : get_or (set x f from) k 0 ≡ from = ap (λ j. get_or (set x f from) j 0) here.1 ∙ value in
                  let b : get_or y k 0 ≡ w = ap (λ j. get_or y j 0) here.1 in
                  omega (arith, a, b, reaches)
              | inr other ↦
                  let ne = other.1 in
                  let ge = from_on.1 in
                  let same_value : from ≡ w = sym value ∙ same f (omega (arith, ne, ge)) in
                  let y' = set y f 0 in
                  let inside : is_in st p.1 y' ≡ true =
                  ap has_some_out ((still p.1 child.id).leaf f 0 y later) ∙ ap (λ d. is_in st d y) (sym is ∙ ap (child_at 0 ps) same_value) ∙ in_child in
                  let le = either_by x y' (least.first y' (set_in_range st.maxes y f 0 ry (omega arith)) inside) k (λ j less. elim (eqb_tells j f) [
                    | inl at ↦
                        ap (λ i. get_or x i 0) at.1 ∙ zeros f (omega (arith, later))
                        ∙ sym (ap (λ i. get_or y' i 0) at.1 ∙ get_or-set_same y f 0 0 (let l = ry.0 in omega (arith, field, l)))
                    | inr off ↦ sym (get_or-set_other x f j from 0 off.1) ∙ same j less ∙ sym (get_or-set_other y f j 0 0 off.1)
                  ]) in
                  let a : get_or (set x f from) k 0 ≡ get_or x k 0 = get_or-set_other x f k from 0 ne in
                  let b : get_or y' k 0 ≡ get_or y k 0 = get_or-set_other y f k 0 0 ne in
                  omega (arith, le, a, b)
            ]
          ]);
    }
