-- The job over a text: its steps, and what they come to.
use Rattle.std.proofs.Common.{◌≡◌, ◌++◌, ℕ, List, length, refl, ap, inl, inr}
use Rattle.std.specs.Prelude.{codes}
use Rattle.nk_policy.specs.Policy.{Policy}
use Rattle.nk_names.specs.declared.Program.{Program}
use Rattle.nk_names.specs.ProgramOf.{program_by}
use Rattle.nk_names.specs.ProgramValue.{IsProgram}
use Rattle.nk_table.specs.declared.Tables.{Tables}
use Rattle.nk_tabtext.specs.ReadBack.{ReadsPrintedTables}
use Rattle.nk_tabtext.specs.Text.{table_bytes}
use Rattle.nk_cert.specs.Certificates.{CertificateValue}
use Rattle.nk_certtext.specs.Printed.{ReadsPrintedFor}
use Rattle.nk_certtext.specs.Text.{cert_bytes}
use Rattle.nk_bisim.specs.Answers.{IsRelated}
use Rattle.nk_compile.specs.Counted.{HasTagCount}
use Rattle.nk_compile.specs.Headline.{IsCompiled}
use Rattle.nk_compile_commands.specs.TextTables.{CompilesPrintable}
use Rattle.nk_verify_commands.specs.Comparing.{AreNamed, IsEqualAnswer, ToCompared}
use Rattle.nk_compile_commands.specs.Compiling.{IsCompileAnswer, ToProgram}
use Rattle.nk_input.specs.Declarable.{CanBeDeclared}
use Rattle.nk.specs.Generating.{CountsRows, CountsTables, IsJobOver, IsNotDone, rows_line, tables_line}
use Rattle.nk_reply.specs.Outcome.{Outcome, done, differs, text_refused, policy_refused}
use Rattle.nk_input.specs.ProgramText.{Declares}
use Rattle.nk_verify_commands.proofs.Certified.{is_same}
use Rattle.nk_compile_commands.proofs.Printing.{is_printed}

-- a step that is done: the text of the command's answer, and a line that counts
abbrev pub Step : (Outcome → Type 0) → (List ℕ → List ℕ → Type 0) → List ℕ → Type 0
Step First Counts line = (text : List ℕ) × First (done text) × Counts text line

-- tables are counted
pub tables_counted :
    CompilesPrintable → ReadsPrintedTables → (program : Program) (name line : List ℕ) (t : Tables) (tags : ℕ)
    → IsProgram program.fields program.topo program.lets → CanBeDeclared (program_by program)
    → IsCompiled program name t → HasTagCount program name tags → line ≡ tables_line name tags t.tables
    → Step (ToProgram (program_by program) name) (CountsTables program name) line
tables_counted printable reads program name line t tags ok declared compiled counted told = (
  table_bytes t,
  is_printed printable reads program name (table_bytes t) t ok declared compiled refl,
  record { tables = t; compiled = compiled; printed = refl; tags = tags; counted = counted; told = told },
)

-- the rows of a certificate are counted
pub rows_counted :
    ReadsPrintedFor → (program : Program) (left right line : List ℕ) (p q : Policy)
    → IsProgram program.fields program.topo program.lets → (named : AreNamed program left right p q)
    → (c : CertificateValue) → IsRelated program.fields p q c → line ≡ rows_line (length c.rows)
    → Step (ToCompared (program_by program) left right) (CountsRows program left right) line
rows_counted reads program left right line p q ok named c related told = (
  cert_bytes program.fields c,
  is_same program left right p q ok named reads c (cert_bytes program.fields c) related refl,
  record {
    left_policy = p;
    right_policy = q;
    named = named;
    certificate = c;
    related = related;
    printed = refl;
    told = told;
  },
)

module _ (bytes : List ℕ) (program : Program) (d : Declares bytes (program_by program)) where
  -- what is answered to the program is answered to the text
  compile_is : (name : List ℕ) (o : Outcome) → ToProgram (program_by program) name o → IsCompileAnswer name bytes o
  compile_is name (done text) h = (program_by program, d, h)
  compile_is name (differs text) h = absurd h
  compile_is name (text_refused text) h = absurd h
  compile_is name (policy_refused text) h = (program_by program, d, h)

  equal_is : (left right : List ℕ) (o : Outcome) → ToCompared (program_by program) left right o → IsEqualAnswer left right bytes o
  equal_is left right (text_refused text) h = absurd h
  equal_is left right o h = (program_by program, d, h)

  module _ (go_line : List ℕ) (go : Step (ToProgram (program_by program) (codes "go")) (CountsTables program (codes "go")) go_line) where
    -- the job ends with the second step
    pub ends_second : (o : Outcome) → IsNotDone o × ToProgram (program_by program) (codes "cast") o → IsJobOver bytes o
    ends_second o h = inr (go.0, compile_is (codes "go") (done go.0) go.1, inl (h.0, compile_is (codes "cast") o h.1))

    module _ (cast_line : List ℕ) (cast : Step (ToProgram (program_by program) (codes "cast")) (CountsTables program (codes "cast")) cast_line) where
      -- with the third
      pub ends_third : (o : Outcome) → IsNotDone o × ToCompared (program_by program) (codes "go") (codes "same") o → IsJobOver bytes o
      ends_third o h =
          inr (
            go.0,
            compile_is (codes "go") (done go.0) go.1,
            inr (cast.0, compile_is (codes "cast") (done cast.0) cast.1, inl (h.0, equal_is (codes "go") (codes "same") o h.1)),
          )

      -- and after all of them
      pub all_counted : (equal_line : List ℕ)
          → Step (ToCompared (program_by program) (codes "go") (codes "same")) (CountsRows program (codes "go") (codes "same")) equal_line
          → (text : List ℕ) → text ≡ go_line ++ cast_line ++ equal_line → IsJobOver bytes (done text)
      all_counted equal_line equal text told =
          inr (
            go.0,
            compile_is (codes "go") (done go.0) go.1,
            inr (
              cast.0,
              compile_is (codes "cast") (done cast.0) cast.1,
              inr (
                equal.0,
                equal_is (codes "go") (codes "same") (done equal.0) equal.1,
                record {
                  program = program;
                  declares = d;
                  go_line = go_line;
                  cast_line = cast_line;
                  equal_line = equal_line;
                  go = go.2;
                  cast = cast.2;
                  equal = equal.2;
                  told = ap done told;
                },
              ),
            ),
          )
