-- A code of syntax trees, such as the value of a type needs: the tree as steps of a machine that makes it on a stack.
use Rattle.std.specs.Prelude.{◌≡◌, ◌⊎◌, ℕ, zero, suc, List, [], ◌∷◌}
use Rattle.std.specs.Coded.{Coded, code_by, coded_ℕ, coded_list, coded×, coded⊎}
use Rattle.std.proofs.Common.{inl, inr, refl, ap, ◌∙◌}
use Rattle.nk_lex.specs.declared.ident.Ident.{Ident}
use Rattle.nk_lex.specs.declared.ident.Number.{Number}
use Rattle.nk_grammar.specs.Tree.{Tree, Trees, name_of, test, range, assign, sum_of, seq_of, not_of, star_of, dup, link, no_part, part}

-- the text and the numbers of a leaf, or which step is taken on the trees made so far, with its line
abbrev Step : Type 0
Step = (List ℕ × List ℕ) ⊎ (ℕ × ℕ)

-- a sum of no part; one more part in front of a sum; a sum as a sequence; a negation; a star
abbrev mutual
  steps_of : Tree → List Step → List Step
  steps_of (name_of w) k = inl (w.text, w.line ∷ []) ∷ k
  steps_of (test w n) k = inl (w.text, w.line ∷ n.value ∷ n.line ∷ []) ∷ k
  steps_of (assign w n) k = inl (w.text, w.line ∷ n.value ∷ n.line ∷ 0 ∷ []) ∷ k
  steps_of (range w a b) k = inl (w.text, w.line ∷ a.value ∷ a.line ∷ b.value ∷ b.line ∷ []) ∷ k
  steps_of (sum_of ts) k = all_steps_of ts k
  steps_of (seq_of ts) k = all_steps_of ts (inr (2, 0) ∷ k)
  steps_of (not_of t line) k = steps_of t (inr (3, line) ∷ k)
  steps_of (star_of t) k = steps_of t (inr (4, 0) ∷ k)
  steps_of dup k = inl ([], []) ∷ k
  steps_of (link a m b n) k =
      inl ([], a.value ∷ a.line ∷ m.value ∷ m.line ∷ b.value ∷ b.line ∷ n.value ∷ n.line ∷ []) ∷ k

  all_steps_of : Trees → List Step → List Step
  all_steps_of no_part k = inr (0, 0) ∷ k
  all_steps_of (part t ts) k = steps_of t (all_steps_of ts (inr (1, 0) ∷ k))

abbrev word : List ℕ → ℕ → Ident
word text line = record { text = text; line = line }

abbrev number : ℕ → ℕ → Number
number value line = record { value = value; line = line }

-- a leaf of its text and numbers
abbrev leaf_of : List ℕ → List ℕ → Tree
leaf_of text [] = dup
leaf_of text (l ∷ []) = name_of (word text l)
leaf_of text (l ∷ v ∷ []) = dup
leaf_of text (l ∷ v ∷ i ∷ []) = test (word text l) (number v i)
leaf_of text (l ∷ v ∷ i ∷ x ∷ []) = assign (word text l) (number v i)
leaf_of text (l ∷ a ∷ i ∷ b ∷ j ∷ []) = range (word text l) (number a i) (number b j)
leaf_of text (l ∷ a ∷ i ∷ b ∷ j ∷ x ∷ []) = dup
leaf_of text (l ∷ a ∷ i ∷ b ∷ j ∷ x ∷ y ∷ []) = dup
leaf_of text (a ∷ i ∷ m ∷ j ∷ b ∷ x ∷ n ∷ y ∷ ks) = link (number a i) (number m j) (number b x) (number n y)

-- the trees made after a step that makes no leaf
abbrev made_after : ℕ → ℕ → Trees → Trees
made_after zero line made = part (sum_of no_part) made
made_after (suc zero) line (part (sum_of ts) (part t made)) = part (sum_of (part t ts)) made
made_after (suc (suc zero)) line (part (sum_of ts) made) = part (seq_of ts) made
made_after (suc (suc (suc zero))) line (part t made) = part (not_of t line) made
made_after (suc (suc (suc (suc zero)))) line (part t made) = part (star_of t) made
made_after n line made = made

-- the trees made after a step
abbrev after : Step → Trees → Trees
after (inl s) made = part (leaf_of s.0 s.1) made
after (inr s) made = made_after s.0 s.1 made

abbrev made_by : List Step → Trees → Trees
made_by [] made = made
made_by (s ∷ ss) made = made_by ss (after s made)

-- the tree made last
abbrev last_made : Trees → Tree
last_made no_part = dup
last_made (part t made) = t

mutual
  -- the steps of a tree make it
  makes : (t : Tree) (k : List Step) (made : Trees) → made_by (steps_of t k) made ≡ made_by k (part t made)
  makes (name_of w) k made = refl
  makes (test w n) k made = refl
  makes (assign w n) k made = refl
  makes (range w a b) k made = refl
  makes (sum_of ts) k made = all_make ts k made
  makes (seq_of ts) k made = all_make ts (inr (2, 0) ∷ k) made
  makes (not_of t line) k made = makes t (inr (3, line) ∷ k) made
  makes (star_of t) k made = makes t (inr (4, 0) ∷ k) made
  makes dup k made = refl
  makes (link a m b n) k made = refl

  -- and those of parts their sum
  all_make : (ts : Trees) (k : List Step) (made : Trees) → made_by (all_steps_of ts k) made ≡ made_by k (part (sum_of ts) made)
  all_make no_part k made = refl
  all_make (part t ts) k made = makes t (all_steps_of ts (inr (1, 0) ∷ k)) made ∙ all_make ts (inr (1, 0) ∷ k) (part t made)

pub tree_decodes : (t : Tree) → last_made (made_by (steps_of t []) no_part) ≡ t
tree_decodes t = ap last_made (makes t [] no_part)

abbrev pub coded_tree : Coded Tree
coded_tree =
    code_by (List Step) (coded_list (coded⊎ (coded× (coded_list coded_ℕ) (coded_list coded_ℕ)) (coded× coded_ℕ coded_ℕ)))
    (λ t. steps_of t []) (λ ss. last_made (made_by ss no_part)) tree_decodes

-- the parts of a sum
abbrev parts_of : Tree → Trees
parts_of (sum_of ts) = ts
parts_of t = no_part

abbrev pub coded_trees : Coded Trees
coded_trees = code_by Tree coded_tree (λ ts. sum_of ts) parts_of (λ _. refl)
