-- A text with a certificate, read token by token.
use Rattle.std.specs.Prelude.{ℕ, List, [], ◌∷◌, ◌++◌, Option, Some, None, Ok, Err, if◌then◌else◌, length, Bool, true, false, option_and_then, nat_le}
use Rattle.std.specs.declared.result.Result.{Result}
use Rattle.nk_lex.specs.declared.token.Token.{Token}
use Rattle.nk_lex.specs.Faults.{and_then}
use Rattle.nk_grammar.specs.declared.decl.GrammarError.{GrammarError}
use Rattle.nk_grammar.specs.declared.decl.GrammarError.TheVariants as error
use Rattle.nk_grammar.specs.Terminal.{Terminal, outside, certificate_word, row_word, start_word, is_colon_terminal, terminal_of}
use Rattle.nk_grammar.specs.Tree.{Tree}
use Rattle.nk_grammar.specs.Machine.{State, first_state, step, policy_ended, with_number}
use Rattle.nk_grammar.specs.File.{Declaration}
use Rattle.nk_grammar.specs.FileMachine.{Reading, read_one, first_reading, declarations_at_end, open_count}
use Rattle.nk_grammar.specs.Certified.{Row, row, Certified, certified}

-- what stands before the next token
pub data CertifiedPhase : Type 0 where
  -- no `certificate` so far
  declaring : Reading → CertifiedPhase
  row_wanted : CertifiedPhase
  start_wanted : (line : ℕ) → CertifiedPhase
  start_read : (line : ℕ) → CertifiedPhase
  number_wanted : (line : ℕ) → CertifiedPhase
  numbers_read : (line : ℕ) → (positions : List ℕ) → CertifiedPhase
  -- the start row has no positions
  in_row : (line : ℕ) → (positions : List ℕ) → State → CertifiedPhase

-- a text that is read: what may come next, and the declarations and rows that are done
pub record Certifying : Type 0 where
  pub phase : CertifiedPhase
  pub declarations : List Declaration
  pub rows : List Row

-- a state by its parts
abbrev pub certifying : CertifiedPhase → List Declaration → List Row → Certifying
certifying p ds rs = record { phase = p; declarations = ds; rows = rs }

-- the word `certificate`
abbrev pub is_certificate : Terminal → Bool
is_certificate (outside certificate_word) = true
is_certificate t = false

-- the word `start`
abbrev pub is_start_word : Terminal → Bool
is_start_word (outside start_word) = true
is_start_word t = false

-- the line of a word `row`, if the token is one
abbrev pub row_in : Terminal → Option ℕ
row_in (outside (row_word line)) = Some line
row_in t = None

-- by the line, or the other
abbrev pub in_line : {A : Type 0} → Option ℕ → A → (ℕ → A) → A
in_line (Some line) other f = f line
in_line None other f = other

-- a row may begin
abbrev pub with_row : {A : Type 0} → Terminal → A → (ℕ → A) → A
with_row t other f = in_line (row_in t) other f

-- the certificate begins after declarations that may end there
abbrev pub certificate_begins : List Row → Option (List Declaration) → Option Certifying
certificate_begins rs None = None
certificate_begins rs (Some ds) = Some (certifying row_wanted ds rs)

-- no certificate so far
abbrev pub still_declaring : List Row → Option Reading → Option Certifying
still_declaring rs None = None
still_declaring rs (Some r) = Some (certifying (declaring r) [] rs)

-- a row begins after a policy that may end there
abbrev pub row_done : List Declaration → List Row → List ℕ → ℕ → Option Tree → Terminal → Option Certifying
row_done ds rs ns line None t = None
row_done ds rs ns line (Some p) t = with_row t None (λ l. Some (certifying (number_wanted l) ds (rs ++ row ns p line ∷ [])))

-- a row's policy goes on, or ends before the token
abbrev pub row_on : List Declaration → List Row → List ℕ → ℕ → Option State → Option Tree → Terminal
    → Option Certifying
row_on ds rs ns line (Some s) e t = Some (certifying (in_row line ns s) ds rs)
row_on ds rs ns line None e t = row_done ds rs ns line e t

-- one more token, by what may come next
abbrev pub next_certifying : CertifiedPhase → List Declaration → List Row → Terminal → Option Certifying
next_certifying (declaring r) ds rs t =
    if is_certificate t then certificate_begins rs (declarations_at_end r) else still_declaring rs (read_one r t)
next_certifying row_wanted ds rs t = with_row t None (λ line. Some (certifying (start_wanted line) ds rs))
next_certifying (start_wanted line) ds rs t = if is_start_word t then Some (certifying (start_read line) ds rs) else None
next_certifying (start_read line) ds rs t = if is_colon_terminal t then Some (certifying (in_row line [] first_state) ds rs) else None
next_certifying (number_wanted line) ds rs t =
    with_number t None (λ n. Some (certifying (numbers_read line (n.value ∷ [])) ds rs))
next_certifying (numbers_read line ns) ds rs t =
    if is_colon_terminal t then Some (certifying (in_row line ns first_state) ds rs)
    else with_number t None (λ m. Some (certifying (numbers_read line (ns ++ m.value ∷ [])) ds rs))
next_certifying (in_row line ns s) ds rs t = row_on ds rs ns line (step s t) (policy_ended s) t

-- one more token
abbrev pub certify_one : Certifying → Terminal → Option Certifying
certify_one c t = next_certifying c.phase c.declarations c.rows t

-- all tokens of a list
abbrev pub certify_all : List Terminal → Certifying → Option Certifying
certify_all [] c = Some c
certify_all (t ∷ ts) c = option_and_then (certify_all ts) (certify_one c t)

-- before the first token
abbrev pub first_certifying : Certifying
first_certifying = certifying (declaring first_reading) [] []

-- the last row is done where its policy may end
abbrev pub certificate_ends : List Declaration → List Row → List ℕ → ℕ → Option Tree → Option Certified
certificate_ends ds rs ns line None = None
certificate_ends ds rs ns line (Some p) = Some (certified ds (rs ++ row ns p line ∷ []))

-- the declarations and rows, if the text may end here
abbrev pub certified_ended : CertifiedPhase → List Declaration → List Row → Option Certified
certified_ended (in_row line ns s) ds rs = certificate_ends ds rs ns line (policy_ended s)
certified_ended p ds rs = None

-- the declarations and rows of a state, if the text may end there
abbrev pub certified_at_end : Certifying → Option Certified
certified_at_end c = certified_ended c.phase c.declarations c.rows

-- how many parentheses and `~` are open
abbrev pub open_in_certified_phase : CertifiedPhase → ℕ
open_in_certified_phase (declaring r) = open_count r
open_in_certified_phase (in_row line ns s) = length s.frames
open_in_certified_phase p = 0

-- how many parentheses and `~` are open in a state
abbrev pub open_certified : Certifying → ℕ
open_certified c = open_in_certified_phase c.phase

-- what a token leads to
abbrev pub judged_certified : ℕ → Option Certifying → Result Certifying GrammarError
judged_certified line None = Err (error.Unexpected line)
judged_certified line (Some c) = if nat_le (open_certified c) 256 then Ok c else Err (error.TooDeep line)

-- the value at the end, or the fault there
abbrev pub certified_end_at : ℕ → Option Certified → Result Certified GrammarError
certified_end_at line None = Err (error.Unexpected line)
certified_end_at line (Some c) = Ok c

-- the declarations and rows of the tokens that are left, or the first fault; `line` is that of the last token before
abbrev pub rest_of_certified : List Token → Certifying → ℕ → Result Certified GrammarError
rest_of_certified [] c line = certified_end_at line (certified_at_end c)
rest_of_certified (t ∷ ts) c line =
    and_then (judged_certified t.line (certify_one c (terminal_of t))) (λ c. rest_of_certified ts c t.line)

-- the declarations and rows of a text's tokens, or the first fault
abbrev pub certified_of : List Token → Result Certified GrammarError
certified_of ts = rest_of_certified ts first_certifying 1
