-- What `compact NAME` answers to the bytes of a text: the first fault of the text, or the first reason to refuse the policy, or
-- the printed tables in which tag sets after which the same histories are left share a tag, and after them a comment line for
-- each two tags that says why they are no single one.
use Rattle.std.specs.Prelude.{◌≡◌, ℕ, true, List, Ok, ◌++◌, codes, decimal}
use Rattle.std.specs.List.{flat_map}
use Rattle.nk_field.specs.Packet.{FieldTable}
use Rattle.nk_field.specs.Texts.{history_bytes, packet_bytes}
use Rattle.nk_names.specs.declared.Program.{Program}
use Rattle.nk_names.specs.ProgramOf.{DeclaredProgram, program_by}
use Rattle.nk_tabtext.specs.Text.{table_bytes}
use Rattle.nk_tabtext.specs.Values.{tables_of}
use Rattle.nk_compile.specs.declared.refusal.Refusal.{Refusal}
use Rattle.nk_compact.specs.declared.compact.DistinguishingHistory.{DistinguishingHistory}
use Rattle.nk_compact.specs.declared.compact.Compact.{Compact}
use Rattle.nk_compact.specs.Compacted.{IsCompacted, IsCompactRefused}
use Rattle.nk_compile_commands.specs.Messages.{refusal_line}
use Rattle.nk_reply.specs.Outcome.{Outcome, done, text_refused, policy_refused}
use Rattle.nk_input.specs.ProgramText.{Declares, HasFault}
use Rattle.nk_compile_commands.specs.TextTables.{HasFewGroups}

-- what a comment says of two tags: the one that alone gives the history, the packet that it starts at, and the history, with every
-- field
abbrev pub distinguishing_words : FieldTable → DistinguishingHistory → List ℕ
distinguishing_words fields a =
    codes " apart " ++ decimal a.first ++ codes " " ++ decimal a.second ++ codes " : " ++ decimal a.alone ++ codes " alone : start "
    ++ packet_bytes fields true a.start ++ codes " : history " ++ history_bytes fields true a.history

-- the line of it
abbrev pub distinguishing_line : FieldTable → DistinguishingHistory → List ℕ
distinguishing_line fields a = codes "#" ++ distinguishing_words fields a ++ codes "\n"

-- the tables' text, and after it the comment lines
abbrev pub compact_bytes : FieldTable → Compact → List ℕ
compact_bytes fields c = table_bytes c.tables ++ flat_map (distinguishing_line fields) c.aparts

-- The text is the printed merged tables of the program's policy of this name, which carry it, and a comment line of what tells
-- apart each two of their tags. Read again it is these tables, unless a switch has more groups than a text has numbers.
pub record IsCompactPrinted (said : DeclaredProgram) (name text : List ℕ) : Type 0 where
  pub program : Program
  pub says : program_by program ≡ said
  pub compact : Compact
  pub compacted : IsCompacted program name compact
  pub printed : text ≡ compact_bytes program.fields compact
  pub read : HasFewGroups compact.tables → tables_of text ≡ Ok compact.tables

-- the text tells the first reason to refuse the program's policy of this name
pub record IsCompactRefusal (said : DeclaredProgram) (name text : List ℕ) : Type 0 where
  pub program : Program
  pub says : program_by program ≡ said
  pub reason : Refusal
  pub refused : IsCompactRefused program name reason
  pub told : text ≡ refusal_line program.fields reason

-- what is answered to a program
abbrev pub ToCompacted : DeclaredProgram → List ℕ → Outcome → Type 0
ToCompacted said name (done text) = IsCompactPrinted said name text
ToCompacted said name (policy_refused text) = IsCompactRefusal said name text
ToCompacted said name outcome = ⊥

-- the answer of compacting the policy of this name, over the bytes of a text
abbrev pub IsCompactAnswer : List ℕ → List ℕ → Outcome → Type 0
IsCompactAnswer name bytes (text_refused text) = HasFault bytes text
IsCompactAnswer name bytes outcome = (said : DeclaredProgram) × Declares bytes said × ToCompacted said name outcome
