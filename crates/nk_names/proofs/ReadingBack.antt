-- What is printed of a policy is read back as that policy.
use Rattle.std.proofs.Common.{◌≡◌, ◌≤◌, ◌<◌, ◌+◌, ℕ, zero, suc, max, min, List, [], ◌∷◌, ◌++◌, Bool, false, Some, None, not, refl, sym, ap, subst, ◌∙◌, append_assoc, arith, codes}
use Rattle.std.specs.Prelude.{Ok, is_none, is_some, nat_lt, slice_index, take, unwrap_or}
use Rattle.std.specs.Option.{option_or}
use Rattle.std.specs.Str.{bytes_eq}
use Rattle.std.proofs.lemmas.Bool.Decides.{nat_tests}
use Rattle.nk_field.specs.Packet.{FieldTable, IsFieldTable, IsValue, field_named}
use Rattle.nk_lex.specs.Lex.{tokens_of}
use Rattle.nk_lex.specs.Spelling.{IsName, text_of}
use Rattle.nk_policy.specs.Policy.{Policy, Policies, test, range, assign, sum_of, seq_of, not_of, star_of, dup, link, no_part, part, depth_of, depths_of, size_of, dups_of, is_predicate, marked_from, all_marked_from}
use Rattle.nk_policy.specs.Ranges.{IsOverFields}
use Rattle.nk_policy.specs.Text.{name_of, pol_bytes}
use Rattle.nk_grammar.specs.Tree as tree
use Rattle.nk_lex.specs.declared.ident.Ident.{Ident}
use Rattle.nk_lex.specs.declared.ident.Number.{Number}
use Rattle.nk_lex.specs.Faults.{first_of, unless}
use Rattle.nk_grammar.specs.Grammar.{Pol, Term, one_term, plus, one_factor, semi, terms_of, factors_of, factor_tree, atom_tree, pol_tree}
use Rattle.nk_grammar.specs.Nesting.{nesting_of_pol, nesting_of_term, nesting_of_factor, nesting_of_atom}
use Rattle.nk_grammar.specs.Text.{lexemes_of_let, IsWordOn, IsNumberOn, IsPolOn, IsTermOn, IsFactorOn, IsAtomOn, ReadsLetTexts}
use Rattle.nk_grammar.specs.File.{definition}
use Rattle.nk_declare.specs.declared.fault.DeclareFault.TheVariants as fault
use Rattle.nk_names.specs.declared.fault.FaultKind.{FaultKind}
use Rattle.nk_names.specs.declared.fault.FaultKind.TheVariants as kind
use Rattle.nk_names.specs.Complements.{NegatesPredicates, AllNegatePredicates}
use Rattle.nk_names.specs.Meant.{Lets, MaybeTextFault, text_fault_if, value_above, no_value, no_range, place_of_field, most_in, policy_among, policy_for, policies_for, unknown_in, unknown_among, misplaced_in, misplaced_among}
use Rattle.nk_names.specs.ProgramOf.{DeclaredProgram, program_declaring, let_fault}
use Rattle.nk_names.specs.ReadBack.{IsWritable, IsNotOne, HasNoLonePart, HaveNoLonePart, IsReadable, IsReadBack, let_bytes, in_first_line}
use Rattle.nk_names.proofs.Good.{AreOver, dups_marked, depth_marked, size_marked, predicate_marked}
use Rattle.nk_declare.proofs.Places.{from_front, name_placed}
use Rattle.nk_names.proofs.Printed.{Form, a_sum, a_seq, a_star, an_atom, pol_from, term_from, factor_from, atom_from, word_for, number_for, form_of, sum_form, seq_form, sum_on, seq_on, text_is}

-- ---- no more is open at once than the policy is deep

-- parentheses open no less
pub pol_within : (f : Form) → nesting_of_pol (pol_from f) ≤ nesting_of_atom (atom_from f)
pol_within (a_sum p) = omega arith
pol_within f = omega arith

term_within : (f : Form) → nesting_of_term (term_from f) ≤ nesting_of_atom (atom_from f)
term_within (a_sum p) = omega arith
term_within f = omega arith

factor_within : (f : Form) → nesting_of_factor (factor_from f) ≤ nesting_of_atom (atom_from f)
factor_within (a_sum p) = omega arith
factor_within f = omega arith

module _ (line : ℕ) (fields : FieldTable) where
  mutual
    -- with the policy's own parentheses fewer are open than it is deep
    pub nests : (p : Policy) → nesting_of_atom (atom_from (form_of line fields p)) + 1 ≤ depth_of p
    nests (sum_of ps) = sum_nests ps
    nests (seq_of ps) = seq_nests ps
    nests (not_of p) = omega (arith, nests p)
    nests (star_of p) = omega (arith, nests p)
    nests p = omega arith

    sum_nests : (ps : Policies) → nesting_of_atom (atom_from (sum_form line fields ps)) + 1 ≤ 1 + depths_of ps
    sum_nests no_part = omega arith
    sum_nests (part p ps) =
        omega (arith, nests p, term_within (form_of line fields p), sum_on_nests (one_term (term_from (form_of line fields p))) ps)

    seq_nests : (ps : Policies) → nesting_of_atom (atom_from (seq_form line fields ps)) + 1 ≤ 1 + depths_of ps
    seq_nests no_part = omega arith
    seq_nests (part p ps) =
        omega (arith, nests p, factor_within (form_of line fields p), seq_on_nests (one_factor (factor_from (form_of line fields p))) ps)

    sum_on_nests : (before : Pol) (ps : Policies)
        → nesting_of_pol (sum_on line fields before ps) + 1 ≤ max (nesting_of_pol before + 1) (depths_of ps)
    sum_on_nests before no_part = omega arith
    sum_on_nests before (part p ps) =
        omega (arith, nests p, term_within (form_of line fields p), sum_on_nests (plus before (term_from (form_of line fields p))) ps)

    seq_on_nests : (before : Term) (ps : Policies)
        → nesting_of_term (seq_on line fields before ps) + 1 ≤ max (nesting_of_term before + 1) (depths_of ps)
    seq_on_nests before no_part = omega arith
    seq_on_nests before (part p ps) =
        omega (arith, nests p, factor_within (form_of line fields p), seq_on_nests (semi before (factor_from (form_of line fields p))) ps)

-- ---- all of it stands on the line

abbrev IsFormOn : ℕ → Form → Type 0
IsFormOn line (a_sum p) = IsPolOn line p
IsFormOn line (a_seq t) = IsTermOn line t
IsFormOn line (a_star f) = IsFactorOn line f
IsFormOn line (an_atom a) = IsAtomOn line a

pub pol_on : (line : ℕ) (f : Form) → IsFormOn line f → IsPolOn line (pol_from f)
pol_on line (a_sum p) h = h
pol_on line f h = h

term_on : (line : ℕ) (f : Form) → IsFormOn line f → IsTermOn line (term_from f)
term_on line (a_sum p) h = h
term_on line f h = h

factor_on : (line : ℕ) (f : Form) → IsFormOn line f → IsFactorOn line (factor_from f)
factor_on line (a_sum p) h = h
factor_on line f h = h

atom_on : (line : ℕ) (f : Form) → IsFormOn line f → IsAtomOn line (atom_from f)
atom_on line (a_sum p) h = h
atom_on line f h = h

module _ (line : ℕ) (fields : FieldTable) (writable : IsWritable fields) where
  -- a field's name is one
  name_on : (f n : ℕ) → IsValue fields f n → IsWordOn line (word_for line fields f)
  name_on f n v = (writable.names f [] (omega (arith, v.0, writable.table.named)), refl)

  -- a field's value can be written
  number_on : (f n : ℕ) → IsValue fields f n → IsNumberOn line (number_for line n)
  number_on f n v =
      let most : slice_index fields.maxima f ≤ 281474976710655 = writable.maxima f 0 v.0 in
      let below : n ≤ slice_index fields.maxima f = v.1 in
      (omega arith, refl)

  mutual
    pub fits : (p : Policy) → IsOverFields fields p → IsFormOn line (form_of line fields p)
    fits (test f n) h = (name_on f n h, number_on f n h)
    fits (range f low high) h = (name_on f low h.0, number_on f low h.0, number_on f high h.1)
    fits (assign f n) h = (name_on f n h, number_on f n h)
    fits (sum_of ps) h = sum_fits ps h
    fits (seq_of ps) h = seq_fits ps h
    fits (not_of p) h = (refl, atom_on line (form_of line fields p) (fits p h))
    fits (star_of p) h = atom_on line (form_of line fields p) (fits p h)
    fits (dup l) h = tt
    fits (link a m b n l) h = (number_on 0 a h.0, number_on 1 m h.1, number_on 0 b h.2, number_on 1 n h.3)

    sum_fits : (ps : Policies) → AreOver fields ps → IsFormOn line (sum_form line fields ps)
    sum_fits no_part h = tt
    sum_fits (part p ps) h =
        sum_on_fits (one_term (term_from (form_of line fields p))) ps (term_on line (form_of line fields p) (fits p h.0)) h.1

    seq_fits : (ps : Policies) → AreOver fields ps → IsFormOn line (seq_form line fields ps)
    seq_fits no_part h = tt
    seq_fits (part p ps) h =
        seq_on_fits (one_factor (factor_from (form_of line fields p))) ps (factor_on line (form_of line fields p) (fits p h.0)) h.1

    sum_on_fits : (before : Pol) (ps : Policies) → IsPolOn line before → AreOver fields ps → IsPolOn line (sum_on line fields before ps)
    sum_on_fits before no_part b h = b
    sum_on_fits before (part p ps) b h =
        sum_on_fits (plus before (term_from (form_of line fields p))) ps (b, term_on line (form_of line fields p) (fits p h.0)) h.1

    seq_on_fits : (before : Term) (ps : Policies) → IsTermOn line before → AreOver fields ps → IsTermOn line (seq_on line fields before ps)
    seq_on_fits before no_part b h = b
    seq_on_fits before (part p ps) b h =
        seq_on_fits (semi before (factor_from (form_of line fields p))) ps (b, factor_on line (form_of line fields p) (fits p h.0)) h.1

-- ---- its syntax tree

abbrev mutual
  -- the syntax tree that a policy's text has on a line
  pub tree_for : ℕ → FieldTable → Policy → tree.Tree
  tree_for line fields (test f n) = tree.test (word_for line fields f) (number_for line n)
  tree_for line fields (range f low high) = tree.range (word_for line fields f) (number_for line low) (number_for line high)
  tree_for line fields (assign f n) = tree.assign (word_for line fields f) (number_for line n)
  tree_for line fields (sum_of ps) = tree.sum_of (trees_for line fields ps)
  tree_for line fields (seq_of ps) = tree.seq_of (trees_for line fields ps)
  tree_for line fields (not_of p) = tree.not_of (tree_for line fields p) line
  tree_for line fields (star_of p) = tree.star_of (tree_for line fields p)
  tree_for line fields (dup l) = tree.dup
  tree_for line fields (link a m b n l) = tree.link (number_for line a) (number_for line m) (number_for line b) (number_for line n)

  pub trees_for : ℕ → FieldTable → Policies → tree.Trees
  trees_for line fields no_part = tree.no_part
  trees_for line fields (part p ps) = tree.part (tree_for line fields p) (trees_for line fields ps)

-- the syntax tree of a form
abbrev form_tree : Form → tree.Tree
form_tree f = pol_tree (pol_from f)

-- parentheses leave no trace
term_tree : (f : Form) → tree.seq_from (factors_of (term_from f)) ≡ form_tree f
term_tree (a_sum p) = refl
term_tree f = refl

tree_of_factor : (f : Form) → factor_tree (factor_from f) ≡ form_tree f
tree_of_factor (a_sum p) = refl
tree_of_factor f = refl

tree_of_atom : (f : Form) → atom_tree (atom_from f) ≡ form_tree f
tree_of_atom (a_sum p) = refl
tree_of_atom f = refl

-- trees and further trees after them
abbrev trees_on : tree.Trees → tree.Trees → tree.Trees
trees_on us tree.no_part = us
trees_on us (tree.part t ts) = trees_on (tree.with_part us t) ts

-- the first one stays the first
first_stays : (t : tree.Tree) (us ts : tree.Trees) → trees_on (tree.part t us) ts ≡ tree.part t (trees_on us ts)
first_stays t us tree.no_part = refl
first_stays t us (tree.part u ts) = first_stays t (tree.with_part us u) ts

-- after none they are themselves
none_before : (ts : tree.Trees) → trees_on tree.no_part ts ≡ ts
none_before tree.no_part = refl
none_before (tree.part t ts) = first_stays t tree.no_part ts ∙ ap (tree.part t) (none_before ts)

-- after one
one_before : (t : tree.Tree) (ts : tree.Trees) → trees_on (tree.part t tree.no_part) ts ≡ tree.part t ts
one_before t ts = first_stays t tree.no_part ts ∙ ap (tree.part t) (none_before ts)

-- two parts or more are a sum, and a sequence
sum_of_some : (line : ℕ) (fields : FieldTable) (t : tree.Tree) (p : Policy) (ps : Policies) → IsNotOne (part p ps)
    → tree.sum_from (tree.part t (trees_for line fields ps)) ≡ tree.sum_of (tree.part t (trees_for line fields ps))
sum_of_some line fields t p no_part h = absurd h
sum_of_some line fields t p (part q ps) h = refl

seq_of_some : (line : ℕ) (fields : FieldTable) (t : tree.Tree) (p : Policy) (ps : Policies) → IsNotOne (part p ps)
    → tree.seq_from (tree.part t (trees_for line fields ps)) ≡ tree.seq_of (tree.part t (trees_for line fields ps))
seq_of_some line fields t p no_part h = absurd h
seq_of_some line fields t p (part q ps) h = refl

module _ (line : ℕ) (fields : FieldTable) where
  mutual
    pub tree_is : (p : Policy) → HasNoLonePart p → form_tree (form_of line fields p) ≡ tree_for line fields p
    tree_is (sum_of ps) h = sum_tree ps h.0 h.1
    tree_is (seq_of ps) h = seq_tree ps h.0 h.1
    tree_is (not_of p) h = ap (λ t. tree.not_of t line) (tree_of_atom (form_of line fields p) ∙ tree_is p h)
    tree_is (star_of p) h = ap tree.star_of (tree_of_atom (form_of line fields p) ∙ tree_is p h)
    tree_is p h = refl

    sum_tree : (ps : Policies) → IsNotOne ps → HaveNoLonePart ps → form_tree (sum_form line fields ps) ≡ tree.sum_of (trees_for line fields ps)
    sum_tree no_part some h = refl
    sum_tree (part p ps) some h =
        ap tree.sum_from (sum_on_tree (one_term (term_from (form_of line fields p))) ps h.1
        ∙ ap (λ t. trees_on (tree.part t tree.no_part) (trees_for line fields ps)) (term_tree (form_of line fields p) ∙ tree_is p h.0)
        ∙ one_before (tree_for line fields p) (trees_for line fields ps))
        ∙ sum_of_some line fields (tree_for line fields p) p ps some

    seq_tree : (ps : Policies) → IsNotOne ps → HaveNoLonePart ps → form_tree (seq_form line fields ps) ≡ tree.seq_of (trees_for line fields ps)
    seq_tree no_part some h = refl
    seq_tree (part p ps) some h =
        ap tree.seq_from (seq_on_tree (one_factor (factor_from (form_of line fields p))) ps h.1
        ∙ ap (λ t. trees_on (tree.part t tree.no_part) (trees_for line fields ps)) (tree_of_factor (form_of line fields p) ∙ tree_is p h.0)
        ∙ one_before (tree_for line fields p) (trees_for line fields ps))
        ∙ seq_of_some line fields (tree_for line fields p) p ps some

    sum_on_tree : (before : Pol) (ps : Policies) → HaveNoLonePart ps
        → terms_of (sum_on line fields before ps) ≡ trees_on (terms_of before) (trees_for line fields ps)
    sum_on_tree before no_part h = refl
    sum_on_tree before (part p ps) h =
        sum_on_tree (plus before (term_from (form_of line fields p))) ps h.1
        ∙ ap (λ t. trees_on (tree.with_part (terms_of before) t) (trees_for line fields ps)) (term_tree (form_of line fields p) ∙ tree_is p h.0)

    seq_on_tree : (before : Term) (ps : Policies) → HaveNoLonePart ps
        → factors_of (seq_on line fields before ps) ≡ trees_on (factors_of before) (trees_for line fields ps)
    seq_on_tree before no_part h = refl
    seq_on_tree before (part p ps) h =
        seq_on_tree (semi before (factor_from (form_of line fields p))) ps h.1
        ∙ ap (λ t. trees_on (tree.with_part (factors_of before) t) (trees_for line fields ps)) (tree_of_factor (form_of line fields p) ∙ tree_is p h.0)

-- ---- what it stands for

-- two that are none have no first
pub none_first : (a b : MaybeTextFault) → a ≡ None → b ≡ None → first_of a b ≡ None
none_first a b e f = ap (λ o. option_or o b) e ∙ f

-- what isn't wrong is no fault
pub no_fault : (b : Bool) (k : FaultKind) (line : ℕ) → b ≡ false → text_fault_if b k line ≡ None
no_fault b k line e = ap (λ c. text_fault_if c k line) e

-- a number that is in range
not_above : (most : ℕ) (n : Number) → n.value ≤ most → value_above most n ≡ None
not_above most n le = no_fault (nat_lt most n.value) (kind.Common fault.ValueOutOfRange) n.line (test_fails most n.value le)
  where
    test_fails : (m k : ℕ) → k ≤ m → nat_lt m k ≡ false
    test_fails m k le = grind (arith, nat_tests)

-- the ranges of the switch and of the port
range_of : (xs : List ℕ) (k : ℕ) → take 2 xs ≡ 65535 ∷ 65535 ∷ [] → k < 2 → slice_index xs k ≡ 65535
range_of [] k e lt = absurd cc
range_of (x ∷ []) k e lt = absurd cc
range_of (x ∷ (y ∷ xs)) zero e lt = cc
range_of (x ∷ (y ∷ xs)) (suc zero) e lt = cc
range_of (x ∷ (y ∷ xs)) (suc (suc k)) e lt = absurd (omega arith)

module _ (line : ℕ) (fields : FieldTable) (table : IsFieldTable fields) where
  -- a field's name has its place
  named : (f n : ℕ) → IsValue fields f n → field_named fields (name_of fields f) ≡ Some f
  named f n v =
      sym (from_front (bytes_eq (name_of fields f)) fields.names)
      ∙ name_placed fields.names f 0 (omega (arith, v.0, table.named)) table.distinct
      ∙ ap Some (omega arith)

  place_is : (f n : ℕ) → IsValue fields f n → place_of_field fields (word_for line fields f) ≡ f
  place_is f n v = ap (λ o. unwrap_or o 0) (named f n v)

  -- a value in range is no fault
  value_known : (f n : ℕ) → IsValue fields f n → no_value fields (word_for line fields f) (number_for line n) ≡ None
  value_known f n v =
      none_first _ _
      (no_fault (is_none (field_named fields (name_of fields f))) kind.UnknownField line (ap is_none (named f n v)))
      (not_above (most_in fields (word_for line fields f)) (number_for line n) (subst (λ k. n ≤ slice_index fields.maxima k) (sym (place_is f n v)) v.1))

  -- and two are none
  range_known : (f low high : ℕ) → IsValue fields f low → IsValue fields f high
      → no_range fields (word_for line fields f) (number_for line low) (number_for line high) ≡ None
  range_known f low high v u =
      none_first _ _ (value_known f low v)
      (not_above (most_in fields (word_for line fields f)) (number_for line high) (subst (λ k. high ≤ slice_index fields.maxima k) (sym (place_is f high u)) u.1))

  -- a switch's or a port's number is at most 65535
  end_fits : (k n : ℕ) → k < 2 → IsValue fields k n → n ≤ 65535
  end_fits k n lt v = omega (arith, v.1, range_of fields.maxima k table.built_in_maxima lt)

  end_is : (k n : ℕ) → k < 2 → IsValue fields k n → min n 65535 ≡ n
  end_is k n lt v = let le : n ≤ 65535 = end_fits k n lt v in omega arith

  module _ (lets : Lets) where
    mutual
      -- the policy that the tree stands for is the policy, but for the numbers of its dups
      pub meant : (p : Policy) → IsOverFields fields p → (n : ℕ) → marked_from (policy_for fields lets (tree_for line fields p)) n ≡ marked_from p n
      meant (test f v) h n = ap (λ k. test k v) (place_is f v h)
      meant (range f low high) h n = ap (λ k. range k low high) (place_is f low h.0)
      meant (assign f v) h n = ap (λ k. assign k v) (place_is f v h)
      meant (sum_of ps) h n = ap sum_of (all_meant ps h n)
      meant (seq_of ps) h n = ap seq_of (all_meant ps h n)
      meant (not_of p) h n = ap not_of (meant p h n)
      meant (star_of p) h n = ap star_of (meant p h n)
      meant (dup l) h n = refl
      meant (link a m b k l) h n =
          ap (λ x. link x (min m 65535) (min b 65535) (min k 65535) n) (end_is 0 a (omega arith) h.0)
          ∙ ap (λ x. link a x (min b 65535) (min k 65535) n) (end_is 1 m (omega arith) h.1)
          ∙ ap (λ x. link a m x (min k 65535) n) (end_is 0 b (omega arith) h.2)
          ∙ ap (λ x. link a m b x n) (end_is 1 k (omega arith) h.3)

      -- the policies that the parts' trees stand for are the parts, but for the numbers of their dups
      all_meant : (ps : Policies) → AreOver fields ps → (n : ℕ) → all_marked_from (policies_for fields lets (trees_for line fields ps)) n ≡ all_marked_from ps n
      all_meant no_part h n = refl
      all_meant (part p ps) h n =
          let q = policy_for fields lets (tree_for line fields p) in
          let same : dups_of q ≡ dups_of p = sym (dups_marked q n) ∙ ap dups_of (meant p h.0 n) ∙ dups_marked p n in
          ap (λ r. part r (all_marked_from (policies_for fields lets (trees_for line fields ps)) (n + dups_of q))) (meant p h.0 n)
          ∙ ap (λ d. part (marked_from p n) (all_marked_from (policies_for fields lets (trees_for line fields ps)) (n + d))) same
          ∙ ap (part (marked_from p n)) (all_meant ps h.1 (n + dups_of p))

    -- it has the policy's depth and size, and is a predicate where that is
    pub same_depth : (p : Policy) → IsOverFields fields p → depth_of (policy_for fields lets (tree_for line fields p)) ≡ depth_of p
    same_depth p h = sym (depth_marked (policy_for fields lets (tree_for line fields p)) 1) ∙ ap depth_of (meant p h 1) ∙ depth_marked p 1

    same_size : (p : Policy) → IsOverFields fields p → size_of (policy_for fields lets (tree_for line fields p)) ≡ size_of p
    same_size p h = sym (size_marked (policy_for fields lets (tree_for line fields p)) 1) ∙ ap size_of (meant p h 1) ∙ size_marked p 1

    pub same_predicate : (p : Policy) → IsOverFields fields p → is_predicate (policy_for fields lets (tree_for line fields p)) ≡ is_predicate p
    same_predicate p h = sym (predicate_marked (policy_for fields lets (tree_for line fields p)) 1) ∙ ap is_predicate (meant p h 1) ∙ predicate_marked p 1

    mutual
      -- all names and numbers are known
      pub known : (p : Policy) → IsOverFields fields p → unknown_in fields lets (tree_for line fields p) ≡ None
      known (test f v) h = value_known f v h
      known (range f low high) h = range_known f low high h.0 h.1
      known (assign f v) h = value_known f v h
      known (sum_of ps) h = all_known ps h
      known (seq_of ps) h = all_known ps h
      known (not_of p) h = known p h
      known (star_of p) h = known p h
      known (dup l) h = refl
      known (link a m b k l) h =
          none_first _ _
          (none_first _ _
          (none_first _ _ (not_above 65535 (number_for line a) (end_fits 0 a (omega arith) h.0)) (not_above 65535 (number_for line m) (end_fits 1 m (omega arith) h.1)))
          (not_above 65535 (number_for line b) (end_fits 0 b (omega arith) h.2)))
          (not_above 65535 (number_for line k) (end_fits 1 k (omega arith) h.3))

      -- all names and numbers of the parts are known
      all_known : (ps : Policies) → AreOver fields ps → unknown_among fields lets (trees_for line fields ps) ≡ None
      all_known no_part h = refl
      all_known (part p ps) h = none_first _ _ (known p h.0) (all_known ps h.1)

    mutual
      -- each `~` stands over a predicate
      placed : (p : Policy) → IsOverFields fields p → NegatesPredicates p → misplaced_in fields lets (tree_for line fields p) ≡ None
      placed (sum_of ps) h c = all_placed ps h c
      placed (seq_of ps) h c = all_placed ps h c
      placed (not_of p) h c =
          none_first _ _
          (no_fault (not (is_predicate (policy_for fields lets (tree_for line fields p)))) kind.NotAPredicate line (ap not (same_predicate p h ∙ c.0)))
          (placed p h c.1)
      placed (star_of p) h c = placed p h c
      placed p h c = refl

      -- each `~` of the parts stands over a predicate
      all_placed : (ps : Policies) → AreOver fields ps → AllNegatePredicates ps → misplaced_among fields lets (trees_for line fields ps) ≡ None
      all_placed no_part h c = refl
      all_placed (part p ps) h c = none_first _ _ (placed p h.0 c.0) (all_placed ps h.1 c.1)

-- ---- the `let`

-- a test of a limit that isn't passed
pub not_over : (m k : ℕ) → k ≤ m → nat_lt m k ≡ false
not_over m k le = grind (arith, nat_tests)

-- a `let` without fault
let_fits : (fields : FieldTable) (lets : Lets) (w : Ident) (t : tree.Tree) (line : ℕ) → policy_among lets w.text ≡ None
    → unknown_in fields lets t ≡ None → misplaced_in fields lets t ≡ None
    → depth_of (policy_for fields lets t) ≤ 256 → size_of (policy_for fields lets t) ≤ 1048576
    → let_fault fields lets w t line ≡ None
let_fits fields lets w t line new known placed shallow small =
    none_first _ _ (no_fault (is_some (policy_among lets w.text)) kind.LetTwice w.line (ap is_some new))
    (none_first _ _ known
    (none_first _ _ placed
    (none_first _ _
    (no_fault (nat_lt 256 (depth_of (policy_for fields lets t))) kind.TooDeep line (not_over 256 (depth_of (policy_for fields lets t)) shallow))
    (no_fault (nat_lt 1048576 (size_of (policy_for fields lets t))) kind.TooLarge line (not_over 1048576 (size_of (policy_for fields lets t)) small)))))

-- the text of the form is the `let`'s
let_text : (fields : FieldTable) (name : List ℕ) (p : Policy) → NegatesPredicates p
    → text_of (lexemes_of_let (in_first_line name) (pol_from (form_of 1 fields p))) ≡ let_bytes fields name p
let_text fields name p h =
    ap (λ l. codes "let " ++ (name ++ (codes " = " ++ l))) (text_is 1 fields p h)
    ∙ ap (λ l. codes "let " ++ l) (sym (append_assoc name (codes " = ") (pol_bytes fields p)))

pub reads_printed : ReadsLetTexts → (fields : FieldTable) → IsWritable fields → (name : List ℕ) → IsName name
    → (p : Policy) → IsReadable fields p → IsReadBack fields name p
reads_printed reads fields writable name is p h =
    let form = form_of 1 fields p in
    let within = pol_within form in
    let nested : nesting_of_pol (pol_from form) ≤ 256 = omega (arith, within, nests 1 fields p, h.shallow) in
    let text = reads (in_first_line name) (pol_from form) (is, refl) (pol_on 1 form (fits 1 fields writable p h.over)) nested in
    let table = writable.table in
    record {
      tokens = text.tokens;
      tree = tree_for 1 fields p;
      cut = subst (λ l. tokens_of l ≡ Ok text.tokens) (let_text fields name p h.complements) text.cut;
      read = text.read ∙ ap (λ t. Ok (definition (in_first_line name) t 1 ∷ [])) (tree_is 1 fields p h.no_lone_part);
      known = λ lets. known 1 fields table lets p h.over;
      placed = λ lets. placed 1 fields table lets p h.over h.complements;
      shallow = λ lets. omega (arith, same_depth 1 fields table lets p h.over, h.shallow);
      small = λ lets. omega (arith, same_size 1 fields table lets p h.over, h.small);
      meant = λ lets. meant 1 fields table lets p h.over 1;
      said = λ s e new. is_said s e new;
    }
  where
    is_said : (s : DeclaredProgram) → s.fields ≡ fields → policy_among s.lets name ≡ None
        → program_declaring s (definition (in_first_line name) (tree_for 1 fields p) 1) ≡ Ok (record s { lets = s.lets ++ (name, marked_from p 1) ∷ [] })
    is_said s e new =
        let t = tree_for 1 fields p in
        let none : let_fault fields s.lets (in_first_line name) t 1 ≡ None = let_fits fields s.lets (in_first_line name) t 1 new
        (known 1 fields writable.table s.lets p h.over) (placed 1 fields writable.table s.lets p h.over h.complements)
        (omega (arith, same_depth 1 fields writable.table s.lets p h.over, h.shallow))
        (omega (arith, same_size 1 fields writable.table s.lets p h.over, h.small)) in
        ap (λ fs. unless (let_fault fs s.lets (in_first_line name) t 1) (record s { lets = s.lets ++ (name, marked_from (policy_for fs s.lets t) 1) ∷ [] })) e
        ∙ ap (λ o. unless o (record s { lets = s.lets ++ (name, marked_from (policy_for fields s.lets t) 1) ∷ [] })) none
        ∙ ap (λ q. Ok (record s { lets = s.lets ++ (name, q) ∷ [] })) (meant 1 fields writable.table s.lets p h.over 1)
