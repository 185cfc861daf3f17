-- What `compile NAME` answers to the bytes of a text: the first fault of the text, or the first reason to refuse the
-- policy, or the printed tables, which carry it.
use Rattle.std.specs.Prelude.{◌≡◌, ℕ, List, Ok}
use Rattle.nk_names.specs.declared.Program.{Program}
use Rattle.nk_names.specs.ProgramOf.{DeclaredProgram, program_by}
use Rattle.nk_table.specs.declared.Tables.{Tables}
use Rattle.nk_tabtext.specs.Text.{table_bytes}
use Rattle.nk_tabtext.specs.Values.{tables_of}
use Rattle.nk_compile.specs.declared.refusal.Refusal.{Refusal}
use Rattle.nk_compile.specs.Headline.{IsCompiled}
use Rattle.nk_compile.specs.Refusals.{IsRefused}
use Rattle.nk_compile_commands.specs.TextTables.{HasFewGroups}
use Rattle.nk_compile_commands.specs.Messages.{refusal_line}
use Rattle.nk_reply.specs.Outcome.{Outcome, done, text_refused, policy_refused}
use Rattle.nk_input.specs.ProgramText.{Declares, HasFault}

-- The text is the printed tables of the program's policy of this name, which is accepted, and the tables carry it.
-- Read again it is these tables, unless a switch has more groups than a text has numbers.
pub record IsCompiledText (said : DeclaredProgram) (name text : List ℕ) : Type 0 where
  pub program : Program
  pub says : program_by program ≡ said
  pub tables : Tables
  pub compiled : IsCompiled program name tables
  pub printed : text ≡ table_bytes tables
  pub read : HasFewGroups tables → tables_of text ≡ Ok tables

-- the text tells the first reason to refuse the program's policy of this name
pub record IsRefusal (said : DeclaredProgram) (name text : List ℕ) : Type 0 where
  pub program : Program
  pub says : program_by program ≡ said
  pub reason : Refusal
  pub refused : IsRefused program name reason
  pub told : text ≡ refusal_line program.fields reason

-- what is answered to a program
abbrev pub ToProgram : DeclaredProgram → List ℕ → Outcome → Type 0
ToProgram said name (done text) = IsCompiledText said name text
ToProgram said name (policy_refused text) = IsRefusal said name text
ToProgram said name outcome = ⊥

-- the answer of compiling the policy of this name, over the bytes of a text
abbrev pub IsCompileAnswer : List ℕ → List ℕ → Outcome → Type 0
IsCompileAnswer name bytes (text_refused text) = HasFault bytes text
IsCompileAnswer name bytes outcome = (said : DeclaredProgram) × Declares bytes said × ToProgram said name outcome
