-- Diagrams taken apart by a field, and put together again.
use Rattle.std.proofs.Common.{◌≡◌, ◌≢◌, ℕ, ◌+◌, ◌<◌, ◌≤◌, min, true, false, cond, leb, eqb, List, [], ◌∷◌, refl, sym, ◌∙◌, ap, subst, arith, get_or, set, get_or-set_same, inl, inr}
use Rattle.std.proofs.lemmas.Bool.Decides.{nat_tests, eqb_tells, leb_tells}
use Rattle.nk_store.specs.declared.node.Node.{Node}
use Rattle.nk_store.specs.declared.node.Node.TheVariants.{Leaf, Case}
use Rattle.nk_store.specs.declared.node.Out.{Out}
use Rattle.nk_store.specs.Nodes.{child_at, field_of_node, Rises}
use Rattle.nk_store.specs.StoreState.{StoreState, IsId, node_of, look, root_field, HasLeaves, IsChild, IsCase, IsNodeOf, IsStill}
use Rattle.nk_store.proofs.Same.{child-first, child-rest}
use Rattle.nk_store.proofs.Stores.{case_child, case_below}
use Rattle.nk_apply.specs.Cofactors.{cofactor_of_node, cofactor, found_in, IsPart, IsSplit, IsFirst}

-- a value up to the first part's end finds that part
pub found-first : (e p : ℕ × ℕ) (ps : List (ℕ × ℕ)) (v : ℕ) → v ≤ p.0 → found_in e (p ∷ ps) v ≡ p
found-first e p ps v h = let t : leb v p.0 ≡ true = grind (arith, nat_tests) in rw t refl

-- a value past the first part's end finds one of the rest
pub found-rest : (e p : ℕ × ℕ) (ps : List (ℕ × ℕ)) (v : ℕ) → p.0 < v → found_in e (p ∷ ps) v ≡ found_in p ps v
found-rest e p ps v h = let t : leb v p.0 ≡ false = grind (arith, nat_tests) in rw t refl

-- the part p serves the values from v to its end
pub record Serves (high d v : ℕ) (ps : List (ℕ × ℕ)) (p : ℕ × ℕ) : Type 0 where
  pub from : v ≤ p.0
  pub within : p.0 ≤ high
  pub same : (w : ℕ) → v ≤ w → w ≤ p.0 → child_at d ps w ≡ p.1

-- the part that is found serves the values from the one asked to its end
pub found_serves : (high low d v : ℕ) (e : ℕ × ℕ) (ps : List (ℕ × ℕ)) → Rises high low ps → low ≤ v →
    v ≤ high → Serves high d v ps (found_in e ps v)
found_serves high low d v e [] r a b = absurd (omega (arith, r))
found_serves high low d v e (p ∷ ps) r a b =
    elim (leb_tells v p.0) [
      | inl under ↦ subst (Serves high d v (p ∷ ps)) (sym (found-first e p ps v under.1))
          (record { from = under.1; within = r.1; same = λ w l m. child-first d p ps w m })
      | inr out ↦
          let rest = found_serves high (p.0 + 1) p.1 v p ps r.2 (omega (arith, out.1)) b in
          subst (Serves high d v (p ∷ ps)) (sym (found-rest e p ps v out.1))
          (record { from = rest.from; within = rest.within; same = λ w l m. child-rest d p ps w (omega (arith, out.1, l)) ∙ rest.same w l m })
    ]

-- past the highest value the last part serves
pub child_past : (high low d w : ℕ) (ps : List (ℕ × ℕ)) → Rises high low ps → high ≤ w →
    child_at d ps w ≡ child_at d ps high
child_past high low d w [] r h = refl
child_past high low d w (p ∷ []) r h =
    elim (leb_tells w p.0) [
      | inl a ↦ child-first d p [] w a.1 ∙ sym (child-first d p [] high (omega (arith, a.1)))
      | inr a ↦ elim (leb_tells high p.0) [
        | inl b ↦ child-rest d p [] w a.1 ∙ sym (child-first d p [] high b.1)
        | inr b ↦ child-rest d p [] w a.1 ∙ sym (child-rest d p [] high b.1)
      ]
    ]
child_past high low d w (p ∷ q ∷ ps) r h =
    child-rest d p (q ∷ ps) w (omega (arith, r.2.0, r.2.1)) ∙ child_past high (p.0 + 1) p.1 w (q ∷ ps) r.2 h
    ∙ sym (child-rest d p (q ∷ ps) high (omega (arith, r.2.0, r.2.1)))

-- a diagram that tests f first is, at a value of it, that value's child
pub cofactor-case : (st : StoreState) (f v d : ℕ) (ps : List (ℕ × ℕ)) → node_of st d ≡ Case f ps →
    cofactor st f v d ≡ child_at 0 ps v
unfolding cofactor
cofactor-case st f v d ps e =
    let t : eqb f f ≡ true = grind (arith, nat_tests) in
    ap (λ n. cofactor_of_node n f v d) e ∙ ap (λ b. cond b (child_at 0 ps v) d) t

-- a leaf is itself at each value
pub cofactor-leaf : (st : StoreState) (f v d : ℕ) (outs : List Out) → node_of st d ≡ Leaf outs → cofactor st f v d ≡ d
unfolding cofactor
cofactor-leaf st f v d outs e = ap (λ n. cofactor_of_node n f v d) e

-- a diagram that tests another field first is itself at each value of f
pub cofactor-other : (st : StoreState) (f v d g : ℕ) (ps : List (ℕ × ℕ)) → node_of st d ≡ Case g ps → g ≢ f →
    cofactor st f v d ≡ d
unfolding cofactor
cofactor-other st f v d g ps e n =
    let t : eqb g f ≡ false = grind (arith, nat_tests) in
    ap (λ n. cofactor_of_node n f v d) e ∙ ap (λ b. cond b (child_at 0 ps v) d) t

-- what is found in a choice is what its diagram is at the value
pub case_part : (st : StoreState) (f d v : ℕ) (ps : List (ℕ × ℕ)) → node_of st d ≡ Case f ps → IsCase st d f ps →
    v ≤ get_or st.maxes f 0 → IsPart st f d v (found_in (0, 0) ps v)
case_part st f d v ps n c b =
    let high = get_or st.maxes f 0 in
    let p = found_in (0, 0) ps v in
    let s = found_serves high 0 0 v (0, 0) ps c.parts_ok.rise (omega arith) b in
    let is : child_at 0 ps v ≡ p.1 = s.same v (omega arith) s.from in
    record {
      from = s.from;
      within = s.within;
      same = λ w l m. cofactor-case st f w d ps n ∙ s.same w l m;
      child = subst (IsChild st f) is (case_child st d f ps v c);
      below = subst (λ k. k ≤ d) is (omega (arith, case_below st d f ps v c));
      less = λ t. subst (λ k. k < d) is (case_below st d f ps v c);
    }

-- a choice is put together from its children
pub case_split : (st : StoreState) (f d : ℕ) (ps : List (ℕ × ℕ)) → node_of st d ≡ Case f ps → IsCase st d f ps →
    IsSplit st f d
case_split st f d ps n c = record {
  leaf = λ pk. c.leaf pk ∙ ap (λ k. look st k pk) (sym (cofactor-case st f (get_or pk f 0) d ps n));
  past = λ w h. cofactor-case st f w d ps n ∙ child_past (get_or st.maxes f 0) 0 0 w ps c.parts_ok.rise h ∙ sym (cofactor-case st f (get_or st.maxes f 0) d ps n);
  child = λ w. subst (IsChild st f) (sym (cofactor-case st f w d ps n)) (case_child st d f ps w c);
}

-- a diagram that does not test f first
pub whole_part : (st : StoreState) (f d v : ℕ) → ((w : ℕ) → cofactor st f w d ≡ d) → IsId st d → f < root_field st d →
    v ≤ get_or st.maxes f 0 → IsPart st f d v (get_or st.maxes f 0, d)
whole_part st f d v s i t b = record {
  from = b;
  within = omega arith;
  same = λ w l m. s w;
  child = record { id = i; later = t };
  below = omega arith;
  less = λ e. absurd (omega (arith, e, t));
}

-- a diagram that tests later fields is put together from itself
pub whole_split : (st : StoreState) (f d : ℕ) → ((w : ℕ) → cofactor st f w d ≡ d) → IsId st d → f < root_field st d →
    IsSplit st f d
whole_split st f d s i t = record {
  leaf = λ pk. ap (λ k. look st k pk) (sym (s (get_or pk f 0)));
  past = λ w h. s w ∙ sym (s (get_or st.maxes f 0));
  child = λ w. subst (IsChild st f) (sym (s w)) (record { id = i; later = t });
}

-- what a look at a node tells
pub view_case : (st : StoreState) (d f g : ℕ) (n : Node) (ps : List (ℕ × ℕ)) → n ≡ node_of st d → IsNodeOf st d n →
    n ≡ Case g ps → g ≡ f → (node_of st d ≡ Case f ps) × IsCase st d f ps
view_case st d f g n ps e k is same =
    let at : n ≡ Case f ps = is ∙ ap (λ h. Case h ps) same in
    (sym e ∙ at, subst (IsNodeOf st d) at k)

-- at a node of another field, or a leaf
pub whole_other : (st : StoreState) (d f g : ℕ) (n : Node) (ps : List (ℕ × ℕ)) → n ≡ node_of st d → n ≡ Case g ps →
    g ≢ f → (w : ℕ) → cofactor st f w d ≡ d
whole_other st d f g n ps e is other w = cofactor-other st f w d g ps (sym e ∙ is) other

-- a leaf is itself at each value, by the node that is seen
pub whole_leaf : (st : StoreState) (d f : ℕ) (n : Node) (outs : List Out) → n ≡ node_of st d → n ≡ Leaf outs →
    (w : ℕ) → cofactor st f w d ≡ d
whole_leaf st d f n outs e is w = cofactor-leaf st f w d outs (sym e ∙ is)

-- the field that a diagram tests first is its node's
pub root_field_of_node : (st : StoreState) (d : ℕ) (n : Node) → n ≡ node_of st d → IsNodeOf st d n → root_field st d ≡ field_of_node n
root_field_of_node st d (Leaf outs) e k = k.root_field_is
root_field_of_node st d (Case f ps) e k = k.root_field_is

-- any diagram splits by a field that is not after the one that it tests
pub split_at : (st : StoreState) (f d : ℕ) (n : Node) → IsId st d → n ≡ node_of st d → IsNodeOf st d n →
    f ≤ root_field st d → f < 18 → IsSplit st f d
split_at st f d (Leaf outs) i e k l h = whole_split st f d (whole_leaf st d f (Leaf outs) outs e refl) i (omega (arith, k.root_field_is))
split_at st f d (Case g ps) i e k l h =
    elim (eqb_tells g f) [
      | inl same ↦
          let known = view_case st d f g (Case g ps) ps e k refl same.1 in
          case_split st f d ps known.0 known.1
      | inr other ↦ whole_split st f d (whole_other st d f g (Case g ps) ps e refl other.1) i (omega (arith, k.root_field_is, other.1))
    ]

-- the lesser of two nodes' fields is the first that either diagram tests
pub first_by : (st : StoreState) (a b f : ℕ) (n m : Node) → IsId st a → IsId st b → n ≡ node_of st a →
    m ≡ node_of st b → IsNodeOf st a n → IsNodeOf st b m → f ≡ min (field_of_node n) (field_of_node m) → f < 18 →
    IsFirst st a b f
first_by st a b f n m ia ib na mb ka kb least h =
    let ta : root_field st a ≡ field_of_node n = root_field_of_node st a n na ka in
    let tb : root_field st b ≡ field_of_node m = root_field_of_node st b m mb kb in
    record {
      field = h;
      least = least ∙ ap (λ x. min x (field_of_node m)) (sym ta) ∙ ap (λ y. min (root_field st a) y) (sym tb);
      left = split_at st f a n ia na ka (omega (arith, least, ta)) h;
      right = split_at st f b m ib mb kb (omega (arith, least, tb)) h;
    }

-- a choice's field is one of the eighteen
pub case_field : (st : StoreState) (d f : ℕ) (n : Node) (ps : List (ℕ × ℕ)) → IsNodeOf st d n → n ≡ Case f ps →
    f < 18
case_field st d f n ps k e = (subst (IsNodeOf st d) e k).parts_ok.field

-- at a value of the field that is first; past the highest value the highest one serves
pub part_has_leaves : (st : StoreState) (f d n v : ℕ) (p : ℕ × ℕ) → v ≡ min n (get_or st.maxes f 0) →
    IsSplit st f d → IsPart st f d v p → IsStill st p.1 → f < 18 →
    HasLeaves st p.1 (λ pk. look st d (set pk f n))
part_has_leaves st f d n v p m s part still h = record {
  id = part.child.id;
  leaf = λ pk w.
      let high = get_or st.maxes f 0 in
      let at : cofactor st f v d ≡ p.1 = part.same v (omega arith) part.from in
      let near : cofactor st f n d ≡ cofactor st f v d = elim (leb_tells n high) [
        | inl a ↦ ap (λ x. cofactor st f x d) (omega (arith, a.1, m))
        | inr b ↦ s.past n (omega (arith, b.1)) ∙ ap (λ x. cofactor st f x d) (omega (arith, b.1, m))
      ] in
      let is : get_or (set pk f n) f 0 ≡ n = get_or-set_same pk f n 0 (omega (arith, h, w)) in
      sym (still.leaf f n pk part.child.later) ∙ ap (λ k. look st k (set pk f n)) (sym (near ∙ at)) ∙ ap (λ x. look st (cofactor st f x d) (set pk f n)) (sym is) ∙ sym (s.leaf (set pk f n));
}

-- a part tests later fields, or is the whole
pub part_root_field : (st : StoreState) (f d v : ℕ) (p : ℕ × ℕ) (n : Node) → IsPart st f d v p → n ≡ node_of st d →
    IsNodeOf st d n → f ≤ root_field st d → f < 18 → root_field st d ≤ root_field st p.1
part_root_field st f d v p (Leaf outs) part e k l h =
    let is : p.1 ≡ d = sym (part.same v (omega arith) part.from) ∙ whole_leaf st d f (Leaf outs) outs e refl v in
    subst (λ c. root_field st d ≤ root_field st c) (sym is) (omega arith)
part_root_field st f d v p (Case g ps) part e k l h =
    elim (eqb_tells g f) [
      | inl same ↦ omega (arith, k.root_field_is, same.1, part.child.later)
      | inr other ↦
          let is : p.1 ≡ d = sym (part.same v (omega arith) part.from) ∙ whole_other st d f g (Case g ps) ps e refl other.1 v in
          subst (λ c. root_field st d ≤ root_field st c) (sym is) (omega arith)
    ]
