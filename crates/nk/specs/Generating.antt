-- What `gen SIZE SEED` and `job SIZE SEED` answer: the text of a generated program, and what is counted of its policies. No
-- input has a part in them.
use Rattle.std.specs.Prelude.{◌≡◌, ◌⊎◌, ℕ, ◌+◌, ⊤, List, ◌++◌, length, codes, decimal}
use Rattle.std.specs.List.{sum_by}
use Rattle.nk_gen.specs.Text.{generated}
use Rattle.nk_policy.specs.Policy.{Policy}
use Rattle.nk_names.specs.declared.Program.{Program}
use Rattle.nk_names.specs.ProgramOf.{program_by}
use Rattle.nk_table.specs.declared.Table.{Table}
use Rattle.nk_table.specs.declared.Tables.{Tables}
use Rattle.nk_tabtext.specs.Text.{table_bytes}
use Rattle.nk_cert.specs.Certificates.{CertificateValue}
use Rattle.nk_certtext.specs.Text.{cert_bytes}
use Rattle.nk_bisim.specs.Answers.{IsRelated}
use Rattle.nk_compile.specs.Counted.{HasTagCount}
use Rattle.nk_compile.specs.Headline.{IsCompiled}
use Rattle.nk_verify_commands.specs.Comparing.{AreNamed, IsEqualAnswer}
use Rattle.nk_compile_commands.specs.Compiling.{IsCompileAnswer}
use Rattle.nk_reply.specs.Outcome.{Outcome, done}
use Rattle.nk_input.specs.ProgramText.{Declares}

-- the answer of `gen SIZE SEED`
abbrev pub IsGenAnswer : ℕ → ℕ → Outcome → Type 0
IsGenAnswer size seed outcome = outcome ≡ done (generated size seed)

-- the line of a policy's name, the number of its tag sets, and the rows and groups of its tables, of all switches together
abbrev pub tables_line : List ℕ → ℕ → List Table → List ℕ
tables_line name tags tables =
    name
    ++ codes " tags "
    ++ decimal tags
    ++ codes " rows "
    ++ decimal (sum_by (λ t. length t.rows) tables)
    ++ codes " groups "
    ++ decimal (sum_by (λ t. length t.groups) tables)
    ++ codes "\n"

-- the line of a certificate with so many rows after the start row, which counts too
abbrev pub rows_line : ℕ → List ℕ
rows_line rows = codes "equal rows " ++ decimal (1 + rows) ++ codes "\n"

-- The text is the printed tables of the program's policy of this name, and the line counts the policy's tag sets and
-- the rows and groups of these tables.
pub record CountsTables (program : Program) (name text line : List ℕ) : Type 0 where
  pub tables : Tables
  pub compiled : IsCompiled program name tables
  pub printed : text ≡ table_bytes tables
  pub tags : ℕ
  pub counted : HasTagCount program name tags
  pub told : line ≡ tables_line name tags tables.tables

-- The text is the printed certificate of the program's policies of these names, and the line counts its rows.
pub record CountsRows (program : Program) (left right text line : List ℕ) : Type 0 where
  pub left_policy : Policy
  pub right_policy : Policy
  pub named : AreNamed program left right left_policy right_policy
  pub certificate : CertificateValue
  pub related : IsRelated program.fields left_policy right_policy certificate
  pub printed : text ≡ cert_bytes program.fields certificate
  pub told : line ≡ rows_line (length certificate.rows)

-- the answer has the line of `go`, that of `cast`, and that of `go` and `same`, where these are the texts of their answers
pub record IsCounted (bytes go_text cast_text equal_text : List ℕ) (outcome : Outcome) : Type 0 where
  pub program : Program
  pub declares : Declares bytes (program_by program)
  pub go_line : List ℕ
  pub cast_line : List ℕ
  pub equal_line : List ℕ
  pub go : CountsTables program (codes "go") go_text go_line
  pub cast : CountsTables program (codes "cast") cast_text cast_line
  pub equal : CountsRows program (codes "go") (codes "same") equal_text equal_line
  pub told : outcome ≡ done (go_line ++ cast_line ++ equal_line)

-- the answer is any but that it is done
abbrev pub IsNotDone : Outcome → Type 0
IsNotDone (done text) = ⊥
IsNotDone outcome = ⊤

-- the answer of a first command where that is not done, and else what comes of the text with which it is done
abbrev pub OrThen : (Outcome → Type 0) → (List ℕ → Outcome → Type 0) → Outcome → Type 0
OrThen First Rest outcome = (IsNotDone outcome × First outcome) ⊎ ((text : List ℕ) × First (done text) × Rest text outcome)

-- What `compile go` answers to a text where that is not done; else what `compile cast` answers where that is not; else what
-- `equal go same` answers where that is not; else what is counted.
abbrev pub IsJobOver : List ℕ → Outcome → Type 0
IsJobOver bytes outcome =
    OrThen (IsCompileAnswer (codes "go") bytes) (λ go_text.
    OrThen (IsCompileAnswer (codes "cast") bytes) (λ cast_text.
    OrThen (IsEqualAnswer (codes "go") (codes "same") bytes) (λ equal_text.
    IsCounted bytes go_text cast_text equal_text))) outcome

-- the answer of `job SIZE SEED`: over the generated text as over any other
abbrev pub IsJobAnswer : ℕ → ℕ → Outcome → Type 0
IsJobAnswer size seed outcome = IsJobOver (generated size seed) outcome
