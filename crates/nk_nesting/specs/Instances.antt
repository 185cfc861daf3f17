-- One `let` with 256 parentheses, and one with 257: `let p =` on line 1, and each opening parenthesis on a line of its own.
use Rattle.std.specs.Prelude.{◌≡◌, ℕ, zero, suc, List, [], ◌∷◌, ◌++◌, Ok, Err, codes}
use Rattle.nk_lex.specs.declared.kind.Kind.{Kind}
use Rattle.nk_lex.specs.declared.kind.Kind.TheVariants as kind
use Rattle.nk_lex.specs.declared.token.Token.{Token}
use Rattle.nk_grammar.specs.declared.decl.GrammarError.TheVariants as error
use Rattle.nk_grammar.specs.Tree.{no_part, seq_of}
use Rattle.nk_grammar.specs.File.{definition}
use Rattle.nk_grammar.specs.FileMachine.{file_of}

-- a token of this kind, text and line
abbrev pub token_on : ℕ → Kind → List ℕ → Token
token_on line k text = record { kind = k; start = 0; end = 0; line = line; value = 0; text = text }

-- `let p =`
abbrev pub before_policy : List Token
before_policy = token_on 1 kind.Let (codes "let") ∷ token_on 1 kind.Name (codes "p") ∷ token_on 1 kind.Equal [] ∷ []

-- so many `(`, from this line on
abbrev pub openings : ℕ → ℕ → List Token
openings line zero = []
openings line (suc n) = token_on line kind.OpenParen [] ∷ openings (suc line) n

-- so many `)`, on one line
abbrev pub closings : ℕ → ℕ → List Token
closings line zero = []
closings line (suc n) = token_on line kind.CloseParen [] ∷ closings line n

-- 256 parentheses around `id` are read; 257 are refused at the 257th, on line 258, whatever stands after it
pub record ShowsLimit : Type 0 where
  pub read : file_of (before_policy ++ openings 2 256 ++ token_on 258 kind.Id (codes "id") ∷ closings 258 256)
      ≡ Ok (definition (record { text = codes "p"; line = 1 }) (seq_of no_part) 1 ∷ [])
  pub refused : (rest : List Token) → file_of (before_policy ++ openings 2 257 ++ rest) ≡ Err (error.TooDeep 258)
