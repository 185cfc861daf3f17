-- What the code's reader of a program's text is to the machine.
use Rattle.std.specs.Prelude.{◌≡◌, ℕ, Bool, true, false, List, ◌++◌, ◌∷◌, Option, None, Ok, Err}
use Rattle.std.specs.declared.result.Result.{Result}
use Rattle.nk_lex.specs.declared.token.Token.{Token}
use Rattle.nk_grammar.specs.declared.decl.Decl.{Decl}
use Rattle.nk_grammar.specs.declared.decl.GrammarError.{GrammarError}
use Rattle.nk_grammar.specs.declared.text_parser.KnownText.{KnownText}
use Rattle.nk_grammar.specs.declared.text_parser.KnownText.TheVariants as known
use Rattle.nk_grammar.specs.Terminal.{terminal_of}
use Rattle.nk_grammar.specs.File.{Declaration}
use Rattle.nk_grammar.specs.FileReader.{TakesTerminal, phase_in}
use Rattle.nk_grammar.specs.TextProgress.{TextProgress, Going, Stopped, rest_by}

-- what is known
abbrev pub progress_in : KnownText → ℕ → TextProgress
progress_in (known.Sound r) line = Going (phase_in r) line
progress_in (known.Stopped e) line = Stopped e

-- a token is taken as the machine takes it, or nothing changes: where there is a fault, or memory ran out
abbrev pub TakesToken : KnownText → KnownText → Token → Result (Option Decl) GrammarError → Type 0
TakesToken (known.Sound r) (known.Sound s) t result =
    TakesTerminal (phase_in r) (phase_in s) t.line (terminal_of t) result
TakesToken (known.Sound r) (known.Stopped e) t result = ⊥
TakesToken (known.Stopped e) k t result = (k ≡ known.Stopped e) × (result ≡ Ok None)

-- the token is taken so, inside a policy, and completes nothing; or it is still to be taken, and nothing changed
abbrev pub TakesTokenInside : KnownText → KnownText → Token → Result Bool GrammarError → Type 0
TakesTokenInside k j t (Ok true) = TakesToken k j t (Ok None)
TakesTokenInside k j t (Ok false) = (line : ℕ) → progress_in j line ≡ progress_in k line
TakesTokenInside k j t (Err e) = TakesToken k j t (Err e)

-- after any declarations, the token leads from the one to the other, and completes these
abbrev pub TakesTextOn : TextProgress → Token → TextProgress → List Declaration → Type 0
TakesTextOn old t new es = (ds : List Declaration) (us : List Token) → rest_by new (ds ++ es) us ≡ rest_by old ds (t ∷ us)
