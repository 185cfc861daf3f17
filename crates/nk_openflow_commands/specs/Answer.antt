-- What is answered to words and the bytes of a table text: the first fault of the text, or the first thing that is refused, or
-- the lines of the switch's groups or flows.
use Rattle.std.specs.Prelude.{◌≡◌, ℕ, ◌+◌, Option, Some, None, Result, Ok, Err, List, codes, if◌then◌else◌}
use Rattle.std.specs.List.{flat_map}
use Rattle.nk_field.specs.Packet.{FieldTable}
use Rattle.nk_topo.specs.Topology.{is_switch, ports_of}
use Rattle.nk_table.specs.declared.Group.{Group}
use Rattle.nk_table.specs.declared.Row.{Row}
use Rattle.nk_table.specs.declared.Tables.{Tables}
use Rattle.nk_table.specs.Rules.{groups_at_switch, rows_of}
use Rattle.nk_tabgrammar.specs.declared.written.ReadError.{ReadError}
use Rattle.nk_tabgrammar.specs.declared.written.ReadError.TheVariants as text
use Rattle.nk_tabtext.specs.Values.{tables_of}
use Rattle.nk_reply.specs.Outcome.{Outcome, done, policy_refused, text_refused}
use Rattle.nk_openflow.specs.declared.mapping.Mapping.{Mapping}
use Rattle.nk_openflow.specs.declared.refusals.Place.{Place}
use Rattle.nk_openflow.specs.declared.refusals.RuleFault.{RuleFault}
use Rattle.nk_openflow.specs.declared.refusals.WordFault.{WordFault}
use Rattle.nk_openflow.specs.declared.refusals.WordFault.TheVariants.{NoSwitch}
use Rattle.nk_openflow.specs.declared.words.Head.{Head}
use Rattle.nk_openflow.specs.declared.words.Part.{Part}
use Rattle.nk_openflow.specs.declared.words.Part.TheVariants.{Groups, Flows}
use Rattle.nk_openflow.specs.Lines.{group_line, row_lines}
use Rattle.nk_openflow.specs.Mapping.{mapping_of}
use Rattle.nk_openflow.specs.Refusals.{rule_line, text_line, word_fault_line}
use Rattle.nk_openflow.specs.Rules.{first_rule_fault}

abbrev pub text_fault : ℕ → List ℕ → Outcome
text_fault line words = text_refused (text_line line words)

abbrev pub word_refused : ℕ → WordFault → Outcome
word_refused n k = policy_refused (word_fault_line n k)

-- the lines of a part of a switch's table
abbrev pub lines_of : Part → FieldTable → Mapping → List ℕ → List Group → List Row → List ℕ
lines_of Groups fs mapping ports groups rows = flat_map (group_line mapping) groups
lines_of Flows fs mapping ports groups rows = flat_map (row_lines fs mapping ports) rows

-- the first fault, or else the lines
abbrev pub unless_at_fault : FieldTable → Option (Place × RuleFault) → List ℕ → Outcome
unless_at_fault fs None lines = done lines
unless_at_fault fs (Some f) lines = policy_refused (rule_line fs f.0 f.1)

-- the first fault of a switch's rules, or else the lines of a part of its table
abbrev pub of_switch : Part → FieldTable → Mapping → List ℕ → List Group → List Row → Outcome
of_switch part fs mapping ports groups rows =
    unless_at_fault fs (first_rule_fault fs mapping ports groups rows) (lines_of part fs mapping ports groups rows)

abbrev pub of_mapping : Head → Tables → Mapping → Outcome
of_mapping head t mapping =
    of_switch head.part t.fields mapping (ports_of t.topo head.switch) (groups_at_switch t.tables head.switch) (rows_of t.tables head.switch)

-- what is answered where words map fields, or that a word is refused
abbrev pub of_words : Head → Tables → Result Mapping (ℕ × WordFault) → Outcome
of_words head t (Ok mapping) = of_mapping head t mapping
of_words head t (Err f) = word_refused f.0 f.1

-- the answer to tables: the words after the first ones map fields
abbrev pub of_tables : Head → List (List ℕ) → Tables → Outcome
of_tables head ws t =
    if is_switch t.topo head.switch then of_words head t (mapping_of t.fields head.base (head.count + 1) ws) else word_refused 1 NoSwitch

-- the answer to what a text is
abbrev pub ToText : Head → List (List ℕ) → Result Tables ReadError → Outcome → Type 0
ToText head ws (Ok t) outcome = outcome ≡ of_tables head ws t
ToText head ws (Err (text.BadByte line)) outcome = outcome ≡ text_fault line (codes "bad byte")
ToText head ws (Err (text.NumberTooLarge line)) outcome = outcome ≡ text_fault line (codes "number too large")
ToText head ws (Err (text.Unexpected line)) outcome = outcome ≡ text_fault line (codes "unexpected")
ToText head ws (Err (text.TableFault line)) outcome = outcome ≡ text_fault line (codes "table fault")
ToText head ws (Err text.NoMemory) outcome = ⊥

-- the answer to a text's bytes
abbrev pub IsLinesAnswer : Head → List (List ℕ) → List ℕ → Outcome → Type 0
IsLinesAnswer head ws bytes outcome = ToText head ws (tables_of bytes) outcome
