-- What the code's reader of texts with a certificate is to the machine.
use Rattle.std.specs.Prelude.{◌≡◌, ℕ, Bool, true, false, [], Option, None, Ok, Err, ⊤}
use Rattle.std.specs.declared.result.Result.{Result}
use Rattle.nk_lex.specs.declared.token.Token.{Token}
use Rattle.nk_grammar.specs.declared.decl.Completed.{Completed}
use Rattle.nk_grammar.specs.declared.decl.GrammarError.{GrammarError}
use Rattle.nk_grammar.specs.declared.certified.CertifiedStage.{CertifiedStage}
use Rattle.nk_grammar.specs.declared.certified.CertifiedStage.TheVariants as stage
use Rattle.nk_grammar.specs.declared.certified.SoundReader.{SoundReader}
use Rattle.nk_grammar.specs.declared.certificate_parser.Known.{Known}
use Rattle.nk_grammar.specs.declared.certificate_parser.Known.TheVariants as known
use Rattle.nk_grammar.specs.Machine.{State, step}
use Rattle.nk_grammar.specs.Reader.{reader_state}
use Rattle.nk_grammar.specs.Terminal.{Terminal, terminal_of}
use Rattle.nk_grammar.specs.FileMachine.{Phase, reading, ParseReturns}
use Rattle.nk_grammar.specs.FileReader.{phase_in, StaysWithoutMemory}
use Rattle.nk_grammar.specs.CertifiedMachine.{CertifiedPhase, declaring, row_wanted, start_wanted, start_read, number_wanted, numbers_read, in_row, Certifying, certify_one, judged_certified}
use Rattle.nk_grammar.specs.CertifiedProgress.{CertifiedProgress, Going, Stopped, with_done, declarations_by, rows_by}

-- what stands before the next token
abbrev pub certified_phase_of : CertifiedStage → Phase → State → CertifiedPhase
certified_phase_of stage.Declaring p s = declaring (reading p [])
certified_phase_of stage.RowWanted p s = row_wanted
certified_phase_of (stage.StartWanted line) p s = start_wanted line
certified_phase_of (stage.StartRead line) p s = start_read line
certified_phase_of (stage.NumberWanted line) p s = number_wanted line
certified_phase_of (stage.NumbersRead line ns) p s = numbers_read line ns.items
certified_phase_of (stage.InRow line ns) p s = in_row line ns.items s

-- what a reader is to the machine, which keeps the declarations and rows too
abbrev pub certified_phase_in : SoundReader → CertifiedPhase
certified_phase_in c = certified_phase_of c.stage (phase_in c.reader) (reader_state c.policy)

-- the machine's state after a token that completes this
abbrev pub completing : CertifiedPhase → Option Completed → Certifying
completing p o = with_done p (declarations_by o) (rows_by o)

-- the token is taken as the machine takes it, or nothing changes where memory ran out
abbrev pub CertifiedTakes : CertifiedPhase → CertifiedPhase → ℕ → Terminal → Result (Option Completed) GrammarError → Type 0
CertifiedTakes old new line t result =
    ParseReturns (completing new) result (judged_certified line (certify_one (with_done old [] []) t))
    × StaysWithoutMemory result old new

-- if a row's policy is read, it doesn't go on with the token
abbrev pub StopsRow : CertifiedPhase → Terminal → Type 0
StopsRow (in_row line ns s) t = step s t ≡ None
StopsRow p t = ⊤

-- the token is taken so, inside a policy, and completes nothing; or no row's policy goes on with it, and nothing changed
abbrev pub CertifiedTakesInside : CertifiedPhase → CertifiedPhase → ℕ → Terminal → Result Bool GrammarError → Type 0
CertifiedTakesInside old new line t (Ok true) = CertifiedTakes old new line t (Ok None)
CertifiedTakesInside old new line t (Ok false) = (new ≡ old) × StopsRow old t
CertifiedTakesInside old new line t (Err e) = CertifiedTakes old new line t (Err e)

-- what is known
abbrev pub progress_of : Known → ℕ → CertifiedProgress
progress_of (known.Sound r) line = Going (certified_phase_in r) line
progress_of (known.Stopped e) line = Stopped e

-- a token is taken as the machine takes it, or nothing changes: where there is a fault, or memory ran out
abbrev pub TakesToken : Known → Known → Token → Result (Option Completed) GrammarError → Type 0
TakesToken (known.Sound r) (known.Sound s) t result =
    CertifiedTakes (certified_phase_in r) (certified_phase_in s) t.line (terminal_of t) result
TakesToken (known.Sound r) (known.Stopped e) t result = ⊥
TakesToken (known.Stopped e) k t result = (k ≡ known.Stopped e) × (result ≡ Ok None)

-- the token is taken so, inside a policy, and completes nothing; or it is still to be taken, and nothing changed
abbrev pub TakesTokenInside : Known → Known → Token → Result Bool GrammarError → Type 0
TakesTokenInside k j t (Ok true) = TakesToken k j t (Ok None)
TakesTokenInside k j t (Ok false) = (line : ℕ) → progress_of j line ≡ progress_of k line
TakesTokenInside k j t (Err e) = TakesToken k j t (Err e)
