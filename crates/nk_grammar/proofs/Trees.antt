-- The tree of a sum or a sequence, by its parts as a list.
use Rattle.std.proofs.Common.{◌≡◌, List, [], ◌∷◌, ◌++◌, length, refl, ap, sym, ◌∙◌, arith}
use Rattle.nk_grammar.specs.Tree.{sum_of, seq_of, part, with_part, sum_from, seq_from, tree_of, trees_of_row, trees_of}
use Rattle.nk_grammar.specs.declared.ast.Ast.{Ast, Row_of-Ast, end_of-Ast, more_of-Ast, items-the_row-Ast, items_hidden-the_row-Ast-0}
use Rattle.nk_grammar.specs.declared.ast.Ast.TheViews.{Sum, Seq}
use Rattle.nk_grammar.specs.declared.ast.Asts.{Asts}
use Rattle.nk_grammar.specs.declared.ast.Ast.TheBlock.{hidden-the_row-Ast-0}

-- the trees of a row are those of its list
row_trees : {m : _} → (k : Row_of-Ast m) → trees_of_row k ≡ trees_of (items-the_row-Ast m k)
row_trees end_of-Ast = refl
row_trees (more_of-Ast p ps) = ap (part (tree_of p)) (row_trees ps)

-- the tree of a sum, by its parts as a list
pub tree_of_sum : (ps : Asts) → tree_of (Sum ps) ≡ sum_of (trees_of ps.items.items)
tree_of_sum ps = ap sum_of (row_trees (hidden-the_row-Ast-0 ps.items) ∙ ap trees_of (items_hidden-the_row-Ast-0 ps.items))

-- the tree of a sequence, by its parts as a list
pub tree_of_seq : (ps : Asts) → tree_of (Seq ps) ≡ seq_of (trees_of ps.items.items)
tree_of_seq ps = ap seq_of (row_trees (hidden-the_row-Ast-0 ps.items) ∙ ap trees_of (items_hidden-the_row-Ast-0 ps.items))

-- one more tree after the others
pub trees_push : (xs : List Ast) (y : Ast) → trees_of (xs ++ y ∷ []) ≡ with_part (trees_of xs) (tree_of y)
trees_push [] y = refl
trees_push (x ∷ xs) y = ap (part (tree_of x)) (trees_push xs y)

-- two parts are more than one
more_than_one : (x : Ast) (rest : List Ast) (y : Ast) → length (x ∷ (rest ++ y ∷ [])) ≡ 1 → ⊥
more_than_one x [] y e = omega (arith, e)
more_than_one x (z ∷ rest) y e = omega (arith, e)

-- the only part
none_left : (xs rest : List Ast) (y : Ast) → length xs ≡ 1 → xs ≡ rest ++ y ∷ [] → xs ≡ y ∷ []
none_left xs [] y one e = e
none_left xs (x ∷ rest) y one e = absurd (more_than_one x rest y (ap length (sym e) ∙ one))

-- one term alone is that term, and one factor alone is that factor
pub one_alone : (xs rest : List Ast) (y : Ast) → length xs ≡ 1 → xs ≡ rest ++ y ∷ []
    → (sum_from (trees_of xs) ≡ tree_of y) × (seq_from (trees_of xs) ≡ tree_of y)
one_alone xs rest y one e =
    (ap (λ l. sum_from (trees_of l)) (none_left xs rest y one e), ap (λ l. seq_from (trees_of l)) (none_left xs rest y one e))

-- any other number of them is a sum or a sequence
pub others : (xs : List Ast) → (length xs ≡ 1 → ⊥)
    → (sum_from (trees_of xs) ≡ sum_of (trees_of xs)) × (seq_from (trees_of xs) ≡ seq_of (trees_of xs))
others [] more = (refl, refl)
others (x ∷ []) more = absurd (more refl)
others (x ∷ (y ∷ ys)) more = (refl, refl)
