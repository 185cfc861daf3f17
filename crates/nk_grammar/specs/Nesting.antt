-- How many parentheses and `~` are open at once in a policy as it is written, and that a `let` with at most 256 is read.
use Rattle.std.specs.Prelude.{◌≡◌, ◌≤◌, ◌+◌, ℕ, max, List, [], ◌∷◌, Ok}
use Rattle.nk_lex.specs.declared.token.Token.{Token}
use Rattle.nk_lex.specs.declared.ident.Ident.{Ident}
use Rattle.nk_grammar.specs.Grammar.{Pol, Term, Factor, Atom, one_term, plus, one_factor, semi, plain, starred, written_not, written_id, written_drop, written_dup, written_name, written_test, written_range, written_set, written_link, paren, pol_tree}
use Rattle.nk_grammar.specs.File.{definition, written_let, spell_declaration}
use Rattle.nk_grammar.specs.FileMachine.{file_of}
use Rattle.nk_grammar.specs.Answer.{terminals}

abbrev mutual
  -- the most that are open at once
  pub nesting_of_pol : Pol → ℕ
  nesting_of_pol (one_term t) = nesting_of_term t
  nesting_of_pol (plus p t) = max (nesting_of_pol p) (nesting_of_term t)

  pub nesting_of_term : Term → ℕ
  nesting_of_term (one_factor f) = nesting_of_factor f
  nesting_of_term (semi t f) = max (nesting_of_term t) (nesting_of_factor f)

  pub nesting_of_factor : Factor → ℕ
  nesting_of_factor (plain a) = nesting_of_atom a
  nesting_of_factor (starred f) = nesting_of_factor f

  pub nesting_of_atom : Atom → ℕ
  nesting_of_atom (written_not line a) = 1 + nesting_of_atom a
  nesting_of_atom written_id = 0
  nesting_of_atom written_drop = 0
  nesting_of_atom written_dup = 0
  nesting_of_atom (written_name w) = 0
  nesting_of_atom (written_test w n) = 0
  nesting_of_atom (written_range w a b) = 0
  nesting_of_atom (written_set w n) = 0
  nesting_of_atom (written_link a m b n) = 0
  nesting_of_atom (paren p) = 1 + nesting_of_pol p

-- the tokens of a `let` in which at most 256 are open at once give its declaration
abbrev pub ReadsLets : Type 0
ReadsLets = (ts : List Token) (line : ℕ) (w : Ident) (p : Pol) → terminals ts ≡ spell_declaration (written_let line w p)
    → nesting_of_pol p ≤ 256 → file_of ts ≡ Ok (definition w (pol_tree p) line ∷ [])
