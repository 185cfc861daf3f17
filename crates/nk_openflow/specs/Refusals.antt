-- The lines that tell what is refused.
use Rattle.std.specs.Prelude.{ℕ, List, ◌++◌, codes, decimal}
use Rattle.nk_field.specs.Packet.{FieldTable}
use Rattle.nk_field.specs.Texts.{name_of}
use Rattle.nk_openflow.specs.declared.refusals.WordFault.{WordFault}
use Rattle.nk_openflow.specs.declared.refusals.WordFault.TheVariants.{NoMatchField, NotInBase, MatchFieldTwice, FieldTwice}
use Rattle.nk_openflow.specs.declared.refusals.WordFault.TheVariants.{NoSwitch, NoField, NotTheTag, FieldTooLarge}
use Rattle.nk_openflow.specs.declared.refusals.RuleFault.{RuleFault}
use Rattle.nk_openflow.specs.declared.refusals.RuleFault.TheVariants.{NotMapped, NotMaskable, NotWritable, TagPrefix, TagUnmatched, Port, GroupNumber}
use Rattle.nk_openflow.specs.declared.refusals.Place.{Place}
use Rattle.nk_openflow.specs.declared.refusals.Place.TheVariants.{Ports, Group, Row}

-- what is wrong with a word
abbrev pub word_message : WordFault → List ℕ
word_message NoMatchField = codes "unknown match field"
word_message NotInBase = codes "match field not in base"
word_message MatchFieldTwice = codes "match field twice"
word_message FieldTwice = codes "field twice"
word_message NoSwitch = codes "unknown switch"
word_message NoField = codes "unknown field"
word_message NotTheTag = codes "not the tag"
word_message FieldTooLarge = codes "field too large"

-- the line of a word at fault, by its number
abbrev pub word_fault_line : ℕ → WordFault → List ℕ
word_fault_line n k = codes "word " ++ decimal n ++ codes ": " ++ word_message k ++ codes "\n"

-- the line of a fault of the table text
abbrev pub text_line : ℕ → List ℕ → List ℕ
text_line n words = codes "line " ++ decimal n ++ codes ": " ++ words ++ codes "\n"

-- what a fault is in
abbrev pub place_text : Place → List ℕ
place_text Ports = codes "ports"
place_text (Group n) = codes "group " ++ decimal n
place_text (Row n) = codes "row " ++ decimal n

-- a field's name and some words
abbrev pub named_text : FieldTable → ℕ → List ℕ → List ℕ
named_text fs f words = name_of fs f ++ words

-- a number that is none of a port
abbrev pub port_text : ℕ → List ℕ
port_text n = codes "no port of OpenFlow: " ++ decimal n

-- what is wrong
abbrev pub fault_text : FieldTable → RuleFault → List ℕ
fault_text fs (NotMapped f) = named_text fs f (codes " has no match field")
fault_text fs (NotMaskable f) = named_text fs f (codes " can't be masked")
fault_text fs (NotWritable f) = named_text fs f (codes " can't be set")
fault_text fs TagPrefix = codes "a prefix of the tag has 0 and other values"
fault_text fs TagUnmatched = codes "the tag is set and not matched"
fault_text fs (Port n) = port_text n
fault_text fs GroupNumber = codes "number above 4294967040"

-- the line of what can't be written
abbrev pub rule_line : FieldTable → Place → RuleFault → List ℕ
rule_line fs place fault = place_text place ++ codes ": " ++ fault_text fs fault ++ codes "\n"
