-- A text with a certificate, read token by token, of which nothing is kept that is done: what is known of the tokens so far, and
-- the declarations and rows that they completed.
use Rattle.std.specs.Prelude.{◌≡◌, ◌↔◌, ◌≤◌, ℕ, Bool, true, false, Option, Some, None, Ok, Err, List, [], ◌∷◌, fold, All, ⊤, ◌⊎◌}
use Rattle.std.specs.declared.result.Result.{Result}
use Rattle.nk_lex.specs.declared.token.Token.{Token}
use Rattle.nk_lex.specs.Lex.{largest}
use Rattle.nk_grammar.specs.declared.decl.Completed.{Completed}
use Rattle.nk_grammar.specs.declared.decl.Completed.TheVariants as completed
use Rattle.nk_grammar.specs.declared.decl.GrammarError.{GrammarError}
use Rattle.nk_grammar.specs.Terminal.{terminal_of}
use Rattle.nk_grammar.specs.File.{Declaration, declaration_of, IsWritten}
use Rattle.nk_grammar.specs.FileMachine.{reading, first_reading}
use Rattle.nk_grammar.specs.Answer.{terminals}
use Rattle.nk_grammar.specs.Certified.{Row, row, row_value, IsWrittenRow, Certified, CertifiedGoesOn}
use Rattle.nk_grammar.specs.CertifiedAnswer.{IsCertifiedShallow}
use Rattle.nk_grammar.specs.CertifiedMachine.{CertifiedPhase, declaring, Certifying, certifying, certify_one, judged_certified, certified_at_end, certified_end_at, certified_of}

-- what is known of the tokens so far: what may come next and the line of the last token, 1 before the first, or the first fault
pub data CertifiedProgress : Type 0 where
  Going : CertifiedPhase → (line : ℕ) → CertifiedProgress
  Stopped : GrammarError → CertifiedProgress

-- what is known before the first token
abbrev pub first_progress : CertifiedProgress
first_progress = Going (declaring first_reading) 1

-- what may come next, without the declarations that are done
abbrev pub bare : CertifiedPhase → CertifiedPhase
bare (declaring r) = declaring (reading r.phase [])
bare p = p

-- the machine's state, by what may come next and by what is done
abbrev pub with_done : CertifiedPhase → List Declaration → List Row → Certifying
with_done (declaring r) ds rs = certifying (declaring (reading r.phase ds)) [] rs
with_done p ds rs = certifying p ds rs

-- the declarations that are done in the machine's state
abbrev pub done_declarations : CertifiedPhase → List Declaration → List Declaration
done_declarations (declaring r) ds = r.declarations
done_declarations p ds = ds

-- what is known of the tokens so far, and the declarations and rows that are done
pub record ParsedPrefix : Type 0 where
  pub progress : CertifiedProgress
  pub declarations : List Declaration
  pub rows : List Row

-- the record by its parts
abbrev pub parsed_prefix : CertifiedProgress → List Declaration → List Row → ParsedPrefix
parsed_prefix p ds rs = record { progress = p; declarations = ds; rows = rs }

-- before the first token
abbrev pub empty_prefix : ParsedPrefix
empty_prefix = parsed_prefix first_progress [] []

-- what is known after a token on this line, and what is done, by the machine's state after the token
abbrev pub prefix_at : Certifying → (line : ℕ) → ParsedPrefix
prefix_at c line = parsed_prefix (Going (bare c.phase) line) (done_declarations c.phase c.declarations) c.rows

-- a fault comes after what is done
abbrev pub prefix_judged : Result Certifying GrammarError → ParsedPrefix → (line : ℕ) → ParsedPrefix
prefix_judged (Ok c) s line = prefix_at c line
prefix_judged (Err e) s line = parsed_prefix (Stopped e) s.declarations s.rows

-- one more token; a fault stays
abbrev pub prefix_on : CertifiedProgress → ParsedPrefix → Token → ParsedPrefix
prefix_on (Going p line) s t =
    prefix_judged (judged_certified t.line (certify_one (with_done p s.declarations s.rows) (terminal_of t))) s t.line
prefix_on (Stopped e) s t = s

-- one more token, by what is known of the tokens before it
abbrev pub prefix_after : ParsedPrefix → Token → ParsedPrefix
prefix_after s t = prefix_on s.progress s t

-- of these tokens this is known, and they completed these declarations and rows
abbrev pub IsRead : List Token → List Declaration → List Row → CertifiedProgress → Type 0
IsRead ts ds rs p = fold prefix_after empty_prefix ts ≡ parsed_prefix p ds rs

-- there is a fault
abbrev pub is_stopped : CertifiedProgress → Bool
is_stopped (Going p line) = false
is_stopped (Stopped e) = true

abbrev pub IsStopped : CertifiedProgress → Type 0
IsStopped p = is_stopped p ≡ true

-- the declaration that a token completes, if it does
abbrev pub declarations_by : Option Completed → List Declaration
declarations_by (Some (completed.Declaration d)) = declaration_of d ∷ []
declarations_by o = []

-- the row that a token completes, if it does
abbrev pub rows_by : Option Completed → List Row
rows_by (Some (completed.Row r)) = row_value r ∷ []
rows_by o = []

-- what a token of a text completes: its numbers are those of a text
abbrev pub IsWrittenPart : Option Completed → Type 0
IsWrittenPart None = ⊤
IsWrittenPart (Some (completed.Declaration d)) = IsWritten (declaration_of d)
IsWrittenPart (Some (completed.Row r)) = IsWrittenRow (row_value r)

-- the first row, if there is one, is the start row: it has no positions
abbrev pub BeginsWithStart : List Row → Type 0
BeginsWithStart [] = ⊤
BeginsWithStart (row ns p line ∷ rs) = ns ≡ []

-- the declarations and rows where the text ends with what is known, or the fault
abbrev pub certified_so_far : CertifiedProgress → List Declaration → List Row → Result Certified GrammarError
certified_so_far (Going p line) ds rs = certified_end_at line (certified_at_end (with_done p ds rs))
certified_so_far (Stopped e) ds rs = Err e

-- Read token by token, a text with a certificate is what it is as a whole.
abbrev pub ReadsCertifiedAsWhole : Type 0
ReadsCertifiedAsWhole = (ts : List Token) (ds : List Declaration) (rs : List Row) (p : CertifiedProgress) → IsRead ts ds rs p
    → certified_so_far p ds rs ≡ certified_of ts

-- A reader has stopped exactly where no text goes on with the tokens, or more than 256 parentheses and `~` are open after a
-- front of them.
abbrev pub StopsWithCertifiedTexts : Type 0
StopsWithCertifiedTexts = (ts : List Token) (ds : List Declaration) (rs : List Row) (p : CertifiedProgress) → IsRead ts ds rs p
    → IsStopped p ↔ ((CertifiedGoesOn (terminals ts) → ⊥) ⊎ (IsCertifiedShallow (terminals ts) → ⊥))

-- The first row that is done is the start row, and what is done from the tokens of a text has numbers of a text.
abbrev pub CompletesWritten : Type 0
CompletesWritten = (ts : List Token) (ds : List Declaration) (rs : List Row) (p : CertifiedProgress) → IsRead ts ds rs p
    → BeginsWithStart rs × (All (λ t. t.value ≤ largest) ts → All IsWritten ds × All IsWrittenRow rs)
