-- A set of a sound store as a plain tree: its leaves, that it is reduced, and that equal trees have one number.
use Rattle.std.proofs.Common.{◌≡◌, ◌≢◌, ℕ, zero, suc, ◌+◌, ◌<◌, ◌≤◌, Bool, true, false, cond, inl, inr, List, [], ◌∷◌, length, refl, sym, ap, subst, ◌∙◌, arith}
use Rattle.std.specs.Prelude.{◌==◌, ◌&&◌, nat_le, slice_index}
use Rattle.std.proofs.lemmas.Bool.Decides.{nat_tests, eqb_tells}
use Rattle.nk_store.specs.declared.node.Node.{Node}
use Rattle.nk_store.specs.declared.node.Node.TheVariants.{Leaf, Case}
use Rattle.nk_store.specs.declared.node.Out.{Out}
use Rattle.nk_store.specs.Nodes.{node_at, look_in, field_of_node, root_field_in, Rises, Each, TestsLater, Differ, Sound}
use Rattle.nk_store.specs.StoreState.{StoreState, IsId, node_of, look, IsStorePacket}
use Rattle.nk_store.specs.Diagram.{Branches, leaf, case, no_branch, branch, leaf_at, leaf_among, IsReduced, AreReduced, IsOther}
use Rattle.nk_store.specs.Intervals.{same_tree, same_trees}
use Rattle.nk_store.proofs.Looks.{fits_at}
use Rattle.nk_store.proofs.Same.{same_number}
use Rattle.nk_store.proofs.Children.{each_of}
use Rattle.nk_apply.specs.Seqs.{no_out}
use Rattle.nk_sets.specs.PacketSets.{has_some_out, IsSet}
use Rattle.nk_sets.specs.Predicate.{SetTree, same_outs}
use Rattle.nk_store.specs.Trees.{branches_of, tree_in}
use Rattle.nk_store.proofs.Trees.{tree_leaf, tree_case, tree_leaf_at, ends_right, two, differ, both_each}
use Rattle.nk_sets.specs.Trees.{held_outs, set_tree}
use Rattle.nk_sets.proofs.SetLemmas.{pass_is, both_pass, pass_both}

-- the tree of a leaf of the store
pub set_leaf :
    (st : StoreState) (i : ℕ) (outs : List Out) → IsId st i → node_of st i ≡ Leaf outs → set_tree st i ≡ leaf outs
unfolding IsId node_of set_tree
set_leaf st i outs h e = tree_leaf held_outs st.nodes i outs h e

-- the tree of a choice of the store
pub set_case :
    (st : StoreState) (i f : ℕ) (ps : List (ℕ × ℕ)) → IsId st i → node_of st i ≡ Case f ps → Each (λ c. c < i) ps
    → set_tree st i ≡ case f (branches_of ps (set_tree st))
unfolding IsId node_of set_tree
set_case st i f ps h e below = tree_case held_outs st.nodes i f ps h e below

module _ (maxes : List ℕ) (ns : List Node) (sound : Sound maxes ns) where
  -- trees tell numbers apart
  tree_one : (c d : ℕ) → c < length ns → d < length ns → tree_in held_outs ns c ≡ tree_in held_outs ns d → c ≡ d
  tree_one c d h k e =
      same_number maxes ns c d sound h k (λ pk r.
      sym (tree_leaf_at held_outs [] maxes ns sound c pk h r) ∙ ap (λ t. leaf_at t [] pk) e ∙ tree_leaf_at held_outs [] maxes ns sound d pk k r)

  -- the neighbours of a child have other trees
  is_other :
      (c : ℕ) (ps : List (ℕ × ℕ)) → c < length ns → Each (λ k. k < length ns) ps → Differ c ps
      → IsOther (tree_in held_outs ns c) (branches_of ps (λ k. tree_in held_outs ns k))
  is_other c [] h e d = tt
  is_other c (p ∷ ps) h e d = λ same. d.0 (sym (tree_one c p.1 h e.0 same))

  -- parts with reduced trees are reduced branches
  parts_reduced :
      (f from : ℕ) (ps : List (ℕ × ℕ)) → Rises (slice_index maxes f) from ps → Each (λ k. k < length ns) ps
      → Each (λ c. IsReduced (tree_in held_outs ns c) maxes (f + 1)) ps → (c : ℕ) → Differ c ps
      → AreReduced (branches_of ps (λ k. tree_in held_outs ns k)) maxes f
  parts_reduced f from [] r g e c d = tt
  parts_reduced f from (p ∷ ps) r g e c d = (
    ends_right (λ k. tree_in held_outs ns k) (slice_index maxes f) p.0 ps r.2,
    e.0,
    is_other p.1 ps g.0 g.1 d.1,
    parts_reduced f (p.0 + 1) ps r.2 g.1 e.1 p.1 d.1,
  )

  -- a tree is reduced over later fields
  reduced_below : (m i low : ℕ) → i < m → i < length ns → low ≤ root_field_in ns i → IsReduced (tree_in held_outs ns i) maxes low
  reduced_below zero i low l h t = absurd (omega (arith, l))
  reduced_below (suc m) i low l h t =
      by (node_at ns i) refl (λ c k less later. reduced_below m c k (omega (arith, less, l)) (omega (arith, less, h)) later)
    where
      by :
          (n : Node) → node_at ns i ≡ n
          → ((c k : ℕ) → c < i → k ≤ root_field_in ns c → IsReduced (tree_in held_outs ns c) maxes k)
          → IsReduced (tree_in held_outs ns i) maxes low
      by (Leaf outs) e ih = subst (λ z. IsReduced z maxes low) (sym (tree_leaf held_outs ns i outs h e)) tt
      by (Case f ps) e ih =
          let fits = fits_at maxes ns i f ps sound h e in
          let shapes : Each (λ c. IsReduced (tree_in held_outs ns c) maxes (f + 1)) ps =
          each_of (λ c. (c < i) × TestsLater ns f c) (λ c. IsReduced (tree_in held_outs ns c) maxes (f + 1)) ps
          (λ c a. let later = a.1.1 in ih c (f + 1) a.0 (omega (arith, later)))
          (both_each (λ c. c < i) (TestsLater ns f) ps fits.1 fits.0.2) in
          let low_f : low ≤ f = subst (λ n. low ≤ field_of_node n) e t in
          let d = differ ps fits.0.3 in
          subst (λ z. IsReduced z maxes low) (sym (tree_case held_outs ns i f ps h e fits.1)) (
            low_f,
            two (λ k. tree_in held_outs ns k) ps fits.0.3,
            parts_reduced f 0 ps fits.0.1 (each_of (λ c. c < i) (λ k. k < length ns) ps (λ c a. omega (arith, a, h)) fits.1) shapes d.0 d.1,
          )

-- the leaves of a set's tree are those of the set
pub set_leaves :
    (st : StoreState) (i : ℕ) (pk : List ℕ) → Sound st.maxes st.nodes → IsId st i → IsStorePacket st pk
    → leaf_at (set_tree st i) [] pk ≡ look st i pk
unfolding IsId look set_tree
set_leaves st i pk sound h r = tree_leaf_at held_outs [] st.maxes st.nodes sound i pk h r

-- a set's tree is reduced
pub set_reduced : (st : StoreState) (i : ℕ) → Sound st.maxes st.nodes → IsId st i → IsReduced (set_tree st i) st.maxes 0
unfolding IsId set_tree
set_reduced st i sound h = reduced_below st.maxes st.nodes sound (suc i) i 0 (omega arith) h (omega arith)

-- two leaves that are the same
same_has : (a b : List Out) → same_outs a b ≡ true → has_some_out a ≡ has_some_out b
same_has [] [] e = refl
same_has [] (o ∷ os) e = absurd cc
same_has (o ∷ os) [] e = absurd cc
same_has (o ∷ os) (p ∷ ps) e = refl

outs_self : (a : List Out) → same_outs a a ≡ true
outs_self [] = refl
outs_self (o ∷ os) = refl

-- a test of numbers
number_of : (m n : ℕ) → (m == n) ≡ true → m ≡ n
number_of m n e = grind (arith, nat_tests, e)

number_self : (m : ℕ) → (m == m) ≡ true
number_self m = grind (arith, nat_tests)

mutual
  -- trees that are the same have the same packets
  pub same_looks :
      (d e : SetTree) (pk : List ℕ) → same_tree d same_outs e ≡ true
      → has_some_out (leaf_at d [] pk) ≡ has_some_out (leaf_at e [] pk)
  same_looks (leaf a) (leaf b) pk s = same_has a b s
  same_looks (leaf a) (case g cs) pk s = absurd cc
  same_looks (case f bs) (leaf b) pk s = absurd cc
  same_looks (case f bs) (case g cs) pk s =
      let both = both_pass (f == g) (same_trees bs same_outs cs) s in
      same_among bs cs (slice_index pk f) pk both.1 ∙ ap (λ k. has_some_out (leaf_among cs [] (slice_index pk k) pk)) (number_of f g both.0)

  -- likewise branches
  same_among :
      (bs cs : Branches (List Out)) (v : ℕ) (pk : List ℕ) → same_trees bs same_outs cs ≡ true
      → has_some_out (leaf_among bs [] v pk) ≡ has_some_out (leaf_among cs [] v pk)
  same_among no_branch no_branch v pk s = refl
  same_among no_branch (branch end e cs) v pk s = absurd cc
  same_among (branch end d bs) no_branch v pk s = absurd cc
  same_among (branch end d bs) (branch end' e cs) v pk s =
      let first = both_pass ((end == end') && same_tree d same_outs e) (same_trees bs same_outs cs) s in
      let head = both_pass (end == end') (same_tree d same_outs e) first.0 in
      by (nat_le v end) (same_looks d e pk head.1) (same_among bs cs v pk first.1)
      ∙ ap (λ n. has_some_out (cond (nat_le v n) (leaf_at e [] pk) (leaf_among cs [] v pk))) (number_of end end' head.0)
    where
      by :
          (b : Bool) → has_some_out (leaf_at d [] pk) ≡ has_some_out (leaf_at e [] pk)
          → has_some_out (leaf_among bs [] v pk) ≡ has_some_out (leaf_among cs [] v pk)
          → has_some_out (cond b (leaf_at d [] pk) (leaf_among bs [] v pk)) ≡ has_some_out (cond b (leaf_at e [] pk) (leaf_among cs [] v pk))
      by true x y = x
      by false x y = y

mutual
  -- each tree is the same as itself
  same_self : (d : SetTree) → same_tree d same_outs d ≡ true
  same_self (leaf a) = outs_self a
  same_self (case f bs) = pass_both _ _ (number_self f) (all_self bs)

  -- likewise branches
  all_self : (bs : Branches (List Out)) → same_trees bs same_outs bs ≡ true
  all_self no_branch = refl
  all_self (branch end d bs) = pass_both _ _ (pass_both _ _ (number_self end) (same_self d)) (all_self bs)

-- sets with the same trees are one
set_one :
    (st : StoreState) (c k : ℕ) → Sound st.maxes st.nodes → IsSet st c → IsSet st k
    → same_tree (set_tree st c) same_outs (set_tree st k) ≡ true → c ≡ k
unfolding IsId look
set_one st c k sound g h s =
    same_number st.maxes st.nodes c k sound g.id h.id (λ pk r.
    pass_is (look_in st.nodes c pk) (g.predicate pk r.0)
    ∙ ap (λ b. cond b (no_out ∷ []) [])
    (ap has_some_out (sym (set_leaves st c pk sound g.id r)) ∙ same_looks (set_tree st c) (set_tree st k) pk s ∙ ap has_some_out (set_leaves st k pk sound h.id r))
    ∙ sym (pass_is (look_in st.nodes k pk) (h.predicate pk r.0)))

-- trees of sets are the same exactly where their numbers are
pub same_is :
    (st : StoreState) (c k : ℕ) → Sound st.maxes st.nodes → IsSet st c → IsSet st k
    → same_tree (set_tree st c) same_outs (set_tree st k) ≡ (c == k)
same_is st c k sound g h = elim (eqb_tells c k) [
  | inl same ↦ ap (λ z. same_tree (set_tree st c) same_outs (set_tree st z)) (sym same.1) ∙ same_self (set_tree st c) ∙ sym same.0
  | inr other ↦ by (same_tree (set_tree st c) same_outs (set_tree st k)) refl other.1 ∙ sym other.0
]
  where
    by : (b : Bool) → same_tree (set_tree st c) same_outs (set_tree st k) ≡ b → c ≢ k → b ≡ false
    by true e n = absurd (n (set_one st c k sound g h e))
    by false e n = refl
