-- The tree of a number of the nodes, whatever its leaves are made to be: leaves, choices, and what holds of branches.
use Rattle.std.proofs.Common.{◌≡◌, ℕ, zero, suc, ◌+◌, ◌<◌, ◌≤◌, true, false, cond, inl, inr, List, [], ◌∷◌, length, refl, sym, ap, ◌∙◌, arith, eqb}
use Rattle.std.specs.Prelude.{slice_index}
use Rattle.std.proofs.lemmas.Bool.Decides.{nat_tests, eqb_tells, leb_tells}
use Rattle.nk_store.specs.declared.node.Node.{Node}
use Rattle.nk_store.specs.declared.node.Node.TheVariants.{Leaf, Case}
use Rattle.nk_store.specs.declared.node.Out.{Out}
use Rattle.nk_store.specs.Nodes.{child_at, node_at, look_in, Rises, Each, Differ, Joined, Sound, InRange}
use Rattle.nk_store.specs.Diagram.{Diagram, leaf, case, branch, leaf_at, leaf_among, AreTwo, EndsRight}
use Rattle.nk_store.specs.Trees.{branches_of, node_tree, tree_in}
use Rattle.nk_store.proofs.Looks.{node_at-old, node_at-new, look_leaf, look_case, fits_at, joined_some, each_child}
use Rattle.nk_store.proofs.Same.{child-first, child-rest}
use Rattle.nk_store.proofs.Children.{each_of}

-- branches with the same children
branches_same :
    {L : Type 0} (ps : List (ℕ × ℕ)) (a b : ℕ → Diagram L) → Each (λ c. a c ≡ b c) ps
    → branches_of ps a ≡ branches_of ps b
branches_same [] a b e = refl
branches_same (p ∷ ps) a b e = ap (λ t. branch p.0 t (branches_of ps a)) e.0 ∙ ap (λ bs. branch p.0 (b p.1) bs) (branches_same ps a b e.1)

-- an older node keeps its tree
tree_old :
    {L : Type 0} (made : List Out → L) (n : Node) (older : List Node) (c : ℕ) → c < length older
    → tree_in made (n ∷ older) c ≡ tree_in made older c
tree_old made n older c h =
    ap (λ b. cond b (node_tree made n (λ k. tree_in made older k)) (tree_in made older c))
    (let e : eqb c (length older) ≡ false = grind (arith, nat_tests, h) in e)

-- the newest node has the tree of its children
tree_new :
    {L : Type 0} (made : List Out → L) (n : Node) (older : List Node) (c : ℕ) → c ≡ length older
    → tree_in made (n ∷ older) c ≡ node_tree made n (λ k. tree_in made older k)
tree_new made n older c h =
    ap (λ b. cond b (node_tree made n (λ k. tree_in made older k)) (tree_in made older c))
    (let e : eqb c (length older) ≡ true = grind (arith, nat_tests, h) in e)

-- the tree of a leaf
pub tree_leaf :
    {L : Type 0} (made : List Out → L) (ns : List Node) (i : ℕ) (outs : List Out) → i < length ns → node_at ns i ≡ Leaf outs
    → tree_in made ns i ≡ leaf (made outs)
tree_leaf made [] i outs h e = absurd (omega arith)
tree_leaf made (n ∷ older) i outs h e =
    elim (eqb_tells i (length older)) [
      | inl same ↦
          tree_new made n older i same.1
          ∙ ap (λ m. node_tree made m (λ k. tree_in made older k)) (sym (node_at-new n older) ∙ ap (λ k. node_at (n ∷ older) k) (sym same.1) ∙ e)
      | inr other ↦
          let below : i < length older = omega (arith, other.1) in
          tree_old made n older i below ∙ tree_leaf made older i outs below (sym (node_at-old n older i below) ∙ e)
    ]

-- the tree of a choice
pub tree_case :
    {L : Type 0} (made : List Out → L) (ns : List Node) (i f : ℕ) (ps : List (ℕ × ℕ)) → i < length ns
    → node_at ns i ≡ Case f ps → Each (λ c. c < i) ps
    → tree_in made ns i ≡ case f (branches_of ps (λ c. tree_in made ns c))
tree_case made [] i f ps h e below = absurd (omega arith)
tree_case made (n ∷ older) i f ps h e below =
    elim (eqb_tells i (length older)) [
      | inl same ↦
          tree_new made n older i same.1
          ∙ ap (λ m. node_tree made m (λ k. tree_in made older k)) (sym (node_at-new n older) ∙ ap (λ k. node_at (n ∷ older) k) (sym same.1) ∙ e)
          ∙ ap (case f) (branches_same ps (λ c. tree_in made older c) (λ c. tree_in made (n ∷ older) c) (each_of (λ c. c < i) (λ c. tree_in made older c ≡ tree_in made (n ∷ older) c) ps (λ c l. sym (tree_old made n older c (omega (arith, l, same.1)))) below))
      | inr other ↦
          let below' : i < length older = omega (arith, other.1) in
          tree_old made n older i below'
          ∙ tree_case made older i f ps below' (sym (node_at-old n older i below') ∙ e) below
          ∙ ap (case f) (branches_same ps (λ c. tree_in made older c) (λ c. tree_in made (n ∷ older) c) (each_of (λ c. c < i) (λ c. tree_in made older c ≡ tree_in made (n ∷ older) c) ps (λ c l. sym (tree_old made n older c (omega (arith, l, below')))) below))
    ]

-- the leaf among the branches of parts is the leaf of the child at the value
among_is :
    {L : Type 0} (none : L) (tree : ℕ → Diagram L) (high from d v : ℕ) (ps : List (ℕ × ℕ)) (pk : List ℕ) → Rises high from ps
    → v ≤ high → from ≤ v
    → leaf_among (branches_of ps tree) none v pk ≡ leaf_at (tree (child_at d ps v)) none pk
among_is none tree high from d v [] pk r h k = absurd (omega (arith, r, h, k))
among_is none tree high from d v (p ∷ ps) pk r h k =
    elim (leb_tells v p.0) [
      | inl within ↦
          ap (λ b. cond b (leaf_at (tree p.1) none pk) (leaf_among (branches_of ps tree) none v pk)) within.0
          ∙ ap (λ c. leaf_at (tree c) none pk) (sym (child-first d p ps v within.1))
      | inr past ↦
          ap (λ b. cond b (leaf_at (tree p.1) none pk) (leaf_among (branches_of ps tree) none v pk)) past.0
          ∙ among_is none tree high (p.0 + 1) p.1 v ps pk r.2 h (omega (arith, past.1))
          ∙ ap (λ c. leaf_at (tree c) none pk) (sym (child-rest d p ps v past.1))
    ]

-- a tree's leaf is made of what the number gives
leaf_below :
    {L : Type 0} (made : List Out → L) (none : L) (maxes : List ℕ) (ns : List Node) → Sound maxes ns
    → (m i : ℕ) (pk : List ℕ) → i < m → i < length ns → InRange maxes pk
    → leaf_at (tree_in made ns i) none pk ≡ made (look_in ns i pk)
leaf_below made none maxes ns sound zero i pk l h r = absurd (omega (arith, l))
leaf_below {L} made none maxes ns sound (suc m) i pk l h r =
    by (node_at ns i) refl (λ c less. leaf_below made none maxes ns sound m c pk (omega (arith, less, l)) (omega (arith, less, h)) r)
  where
    by :
        (n : Node) → node_at ns i ≡ n
        → ((c : ℕ) → c < i → leaf_at (tree_in made ns c) none pk ≡ made (look_in ns c pk))
        → leaf_at (tree_in made ns i) none pk ≡ made (look_in ns i pk)
    by (Leaf outs) e ih = ap (λ t. leaf_at t none pk) (tree_leaf made ns i outs h e) ∙ ap made (sym (look_leaf ns i outs pk h e))
    by (Case f ps) e ih =
        let fits = fits_at maxes ns i f ps sound h e in
        let less = each_child (λ c. c < i) 0 ps (slice_index pk f) (joined_some ps fits.0.3) fits.1 in
        ap (λ t. leaf_at t none pk) (tree_case made ns i f ps h e fits.1)
        ∙ among_is none (λ c. tree_in made ns c) (slice_index maxes f) 0 0 (slice_index pk f) ps pk fits.0.1 (r.1 f) (omega arith)
        ∙ ih (child_at 0 ps (slice_index pk f)) less
        ∙ ap made (sym (look_case maxes ns i f ps pk sound h e))

pub tree_leaf_at :
    {L : Type 0} (made : List Out → L) (none : L) (maxes : List ℕ) (ns : List Node) → Sound maxes ns
    → (i : ℕ) (pk : List ℕ) → i < length ns → InRange maxes pk
    → leaf_at (tree_in made ns i) none pk ≡ made (look_in ns i pk)
tree_leaf_at made none maxes ns sound i pk h r = leaf_below made none maxes ns sound (suc i) i pk (omega arith) h r

-- where a part ends, the next one goes on
pub ends_right :
    {L : Type 0} (tree : ℕ → Diagram L) (high end : ℕ) (ps : List (ℕ × ℕ)) → Rises high (end + 1) ps
    → EndsRight high end (branches_of ps tree)
ends_right tree high end [] r = omega (arith, r)
ends_right tree high end (p ∷ ps) r = omega (arith, r.0)

-- a choice has two branches or more
pub two : {L : Type 0} (tree : ℕ → Diagram L) (ps : List (ℕ × ℕ)) → Joined ps → AreTwo (branches_of ps tree)
two tree [] j = j
two tree (p ∷ []) j = omega (arith, j.0)
two tree (p ∷ q ∷ ps) j = tt

-- neighbours differ, from the first on
pub differ : (ps : List (ℕ × ℕ)) → Joined ps → (c : ℕ) × Differ c ps
differ [] j = absurd j
differ (p ∷ ps) j = (suc p.1, ((λ e. omega (arith, e)), j.1))

-- what holds of each child twice
pub both_each : (P Q : ℕ → Type 0) (ps : List (ℕ × ℕ)) → Each P ps → Each Q ps → Each (λ c. P c × Q c) ps
both_each P Q [] a b = tt
both_each P Q (p ∷ ps) a b = ((a.0, b.0), both_each P Q ps a.1 b.1)
