-- One diagram, then another one.
use Rattle.std.proofs.Common.{◌≡◌, ℕ, ◌<◌, List, [], length, sym, ◌∙◌, ap, subst, arith, get_or}
use Rattle.std.proofs.lemmas.List.{get_or_default}
use Rattle.nk_store.specs.declared.node.Node.{Node}
use Rattle.nk_store.specs.declared.node.Node.TheVariants.{Leaf, Case}
use Rattle.nk_store.specs.declared.node.Out.{Out}
use Rattle.nk_store.specs.StoreState.{StoreState, IsId, node_of, look, Grows, HasLeaves}
use Rattle.nk_apply.specs.Seqs.{seq_leaf, node_outs, outs_of}

-- the outs of a leaf, by the node that is seen
pub outs_leaf : (st : StoreState) (d : ℕ) (n : Node) (outs : List Out) → n ≡ node_of st d → n ≡ Leaf outs →
    outs_of st d ≡ outs
unfolding outs_of
outs_leaf st d n outs e is = ap node_outs (sym e ∙ is)

-- a choice has no outs of its own
pub outs_case : (st : StoreState) (d f : ℕ) (n : Node) (ps : List (ℕ × ℕ)) → n ≡ node_of st d → n ≡ Case f ps →
    outs_of st d ≡ []
unfolding outs_of
outs_case st d f n ps e is = ap node_outs (sym e ∙ is)

-- the outs of a diagram stay in a store that grew
pub outs_grow : (old new : StoreState) (d : ℕ) → Grows old new → IsId old d → outs_of new d ≡ outs_of old d
unfolding outs_of
outs_grow old new d g i = ap node_outs (g.nodes d i)

-- the leaves of a diagram stay in a store that grew
pub same_looks : (old new : StoreState) (d : ℕ) → Grows old new → IsId old d → look new d ≡ look old d
same_looks old new d g i = λ j pk. g.leaves d pk i j

-- what a sequence made of a part, by the second diagram's leaves at first
pub seq_made : (old st new : StoreState) (b c d : ℕ) → Grows old st → IsId old b →
    HasLeaves new d (λ pk. seq_leaf (look st c pk) (look st b) pk) →
    HasLeaves new d (λ pk. seq_leaf (look st c pk) (look old b) pk)
seq_made old st new b c d g ib h =
    record { id = h.id; leaf = λ pk w. h.leaf pk w ∙ ap (λ B. seq_leaf (look st c pk) B pk) (same_looks old st b g ib) }

-- the empty list has no place
no_place : (i : ℕ) (os : List Out) → os ≡ [] → i < length os → ⊥
no_place i os e h = let k : i < 0 = subst (λ xs. i < length xs) e h in omega (arith, k)

-- a diagram with outs is no choice
pub not_case : (st : StoreState) (d f i : ℕ) (n : Node) (ps : List (ℕ × ℕ)) → n ≡ node_of st d → n ≡ Case f ps →
    i < length (outs_of st d) → ⊥
not_case st d f i n ps e is h = no_place i (outs_of st d) (outs_case st d f n ps e is) h

-- the out at a place of a leaf that is seen
pub out_read : (st : StoreState) (d i : ℕ) (n : Node) (outs : List Out) (o e : Out) → n ≡ node_of st d →
    n ≡ Leaf outs → o ≡ get_or outs i o → i < length outs → o ≡ get_or (outs_of st d) i e
out_read st d i n outs o e at is r h = r ∙ get_or_default outs i o e h ∙ ap (λ xs. get_or xs i e) (sym (outs_leaf st d n outs at is))
