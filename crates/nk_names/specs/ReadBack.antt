-- What a printed policy is read back as: that policy, its dups numbered anew from 1, over fields that a text can write.
use Rattle.std.specs.Prelude.{◌≡◌, ℕ, ◌≤◌, true, List, [], ◌∷◌, ◌++◌, None, Ok, codes}
use Rattle.nk_field.specs.Packet.{FieldTable, built_in}
use Rattle.nk_lex.specs.declared.token.Token.{Token}
use Rattle.nk_lex.specs.Lex.{tokens_of}
use Rattle.nk_lex.specs.Spelling.{IsName, text_of}
use Rattle.nk_lex.specs.declared.ident.Ident.{Ident}
pub use Rattle.nk_declare.specs.Kept.{IsWritable}
use Rattle.nk_grammar.specs.Tree.{Tree}
use Rattle.nk_grammar.specs.Grammar.{Pol, pol_tree}
use Rattle.nk_grammar.specs.Moved.{tree_moved}
use Rattle.nk_grammar.specs.Nesting.{nesting_of_pol}
use Rattle.nk_grammar.specs.Text.{lexemes_of_pol, IsPolOn}
use Rattle.nk_grammar.specs.File.{Declaration, definition}
use Rattle.nk_grammar.specs.FileMachine.{file_of}
use Rattle.nk_policy.specs.Policy.{Policy, Policies, test, range, assign, sum_of, seq_of, not_of, star_of, dup, link, no_part, part, depth_of, size_of, is_predicate, marked_from}
use Rattle.nk_policy.specs.Ranges.{IsOverFields}
use Rattle.nk_policy.specs.Text.{pol_bytes}
use Rattle.nk_names.specs.Complements.{NegatesPredicates}
use Rattle.nk_names.specs.Meant.{Lets, policy_among, policy_for, unknown_in, misplaced_in}
use Rattle.nk_names.specs.ProgramOf.{DeclaredProgram, program_declaring, program_of, row_policy}

-- the fields of each text's program are writable
abbrev pub DeclaresWritable : Type 0
DeclaresWritable = (text : List ℕ) (ts : List Token) (ds : List Declaration) (s : DeclaredProgram)
    → tokens_of text ≡ Ok ts → file_of ts ≡ Ok ds → program_of ds ≡ Ok s → IsWritable s.fields

-- there are parts, and more than one, or there is none
abbrev pub IsNotOne : Policies → Type 0
IsNotOne no_part = Unit {0}
IsNotOne (part p no_part) = ⊥
IsNotOne (part p (part q ps)) = Unit {0}

-- no sum and no sequence in it has exactly one part
abbrev mutual
  pub HasNoLonePart : Policy → Type 0
  HasNoLonePart (test f n) = Unit {0}
  HasNoLonePart (range f low high) = Unit {0}
  HasNoLonePart (assign f n) = Unit {0}
  HasNoLonePart (sum_of ps) = IsNotOne ps × HaveNoLonePart ps
  HasNoLonePart (seq_of ps) = IsNotOne ps × HaveNoLonePart ps
  HasNoLonePart (not_of p) = HasNoLonePart p
  HasNoLonePart (star_of p) = HasNoLonePart p
  HasNoLonePart (dup l) = Unit {0}
  HasNoLonePart (link a m b n l) = Unit {0}

  -- no sum and no sequence in the parts has exactly one part
  pub HaveNoLonePart : Policies → Type 0
  HaveNoLonePart no_part = Unit {0}
  HaveNoLonePart (part p ps) = HasNoLonePart p × HaveNoLonePart ps

-- The policies whose text is read back: over the fields and in range (a link literal's numbers are in the ranges of the
-- switch and the port, at most 65535), within the limits, each `~` over a predicate, no sum or sequence of one part.
pub record IsReadable (fields : FieldTable) (p : Policy) : Type 0 where
  pub over : IsOverFields fields p
  pub shallow : depth_of p ≤ 256
  pub small : size_of p ≤ 1048576
  pub complements : NegatesPredicates p
  pub no_lone_part : HasNoLonePart p

-- `let NAME = ` and the policy's text
abbrev pub let_bytes : FieldTable → List ℕ → Policy → List ℕ
let_bytes fields name p = codes "let " ++ name ++ codes " = " ++ pol_bytes fields p

-- a name in the first line
abbrev pub in_first_line : List ℕ → Ident
in_first_line name = record { text = name; line = 1 }

-- The text of a `let` with this policy is one `let`, whose policy has no fault among any declarations that make the fields
-- and don't have its name yet, and stands for the policy.
pub record IsReadBack (fields : FieldTable) (name : List ℕ) (p : Policy) : Type 0 where
  pub tokens : List Token
  pub tree : Tree
  pub cut : tokens_of (let_bytes fields name p) ≡ Ok tokens
  pub read : file_of tokens ≡ Ok (definition (in_first_line name) tree 1 ∷ [])
  pub known : (lets : Lets) → unknown_in fields lets tree ≡ None
  pub placed : (lets : Lets) → misplaced_in fields lets tree ≡ None
  pub shallow : (lets : Lets) → depth_of (policy_for fields lets tree) ≤ 256
  pub small : (lets : Lets) → size_of (policy_for fields lets tree) ≤ 1048576
  pub meant : (lets : Lets) → marked_from (policy_for fields lets tree) 1 ≡ marked_from p 1
  pub said : (s : DeclaredProgram) → s.fields ≡ fields → policy_among s.lets name ≡ None
      → program_declaring s (definition (in_first_line name) tree 1) ≡ Ok (record s { lets = s.lets ++ (name, marked_from p 1) ∷ [] })

-- what is printed of a policy is read back as that policy
abbrev pub ReadsPrintedPolicies : Type 0
ReadsPrintedPolicies = (fields : FieldTable) → IsWritable fields → (name : List ℕ) → IsName name
    → (p : Policy) → IsReadable fields p → IsReadBack fields name p

-- The predicates whose text is read back in a row of a certificate: over the fields and in range, at most 256 deep, no sum or
-- sequence of one part. They have any size.
pub record IsReadablePredicate (fields : FieldTable) (p : Policy) : Type 0 where
  pub predicate : is_predicate p ≡ true
  pub over : IsOverFields fields p
  pub shallow : depth_of p ≤ 256
  pub no_lone_part : HasNoLonePart p

-- A predicate as it is written on a line, with the parentheses that its text has. In a row it stands for the predicate, on
-- that line and on each later one.
pub record IsPredicateReadBack (fields : FieldTable) (line : ℕ) (p : Policy) : Type 0 where
  pub written : Pol
  pub on_line : IsPolOn line written
  pub nested : nesting_of_pol written ≤ 256
  pub text : text_of (lexemes_of_pol written) ≡ pol_bytes fields p
  pub meant : (lines row : ℕ) → row_policy fields (tree_moved lines (pol_tree written)) row ≡ Ok p

-- what is printed of a predicate is read back in a row as that predicate
abbrev pub ReadsPrintedPredicates : Type 0
ReadsPrintedPredicates = (fields : FieldTable) → IsWritable fields → (line : ℕ) (p : Policy)
    → IsReadablePredicate fields p → IsPredicateReadBack fields line p

-- (sw=1;pt:=2;1:2=>2:1 + ~(pt=1 + pt in 2..3))*
abbrev pub small_policy : Policy
small_policy = star_of (sum_of (part (seq_of (part (test 0 1) (part (assign 1 2) (part (link 1 2 2 1 7) no_part)))) (part (not_of (sum_of (part (test 1 1) (part (range 1 2 3) no_part)))) no_part)))

-- the switch and the port alone are writable fields, a policy over them is readable, and this is its text
pub record IsMetBySmallPolicy : Type 0 where
  pub writable : IsWritable built_in
  pub readable : IsReadable built_in small_policy
  pub text : pol_bytes built_in small_policy ≡ codes "(sw=1;pt:=2;1:2=>2:1 + ~(pt=1 + pt in 2..3))*"
