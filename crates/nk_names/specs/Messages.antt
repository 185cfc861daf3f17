-- The words for what is wrong with a text, and the line that has them; a common fault has the words that nk_declare gives it.
use Rattle.std.specs.Prelude.{ℕ, List, ◌++◌, codes, decimal}
use Rattle.nk_declare.specs.Messages as declare
use Rattle.nk_names.specs.declared.fault.FaultKind.{FaultKind}
use Rattle.nk_names.specs.declared.fault.FaultKind.TheVariants as kind

-- the line of a text's fault
abbrev pub fault_line : ℕ → List ℕ → List ℕ
fault_line line message = codes "line " ++ decimal line ++ codes ": " ++ message ++ codes "\n"

abbrev pub fault_message_of : FaultKind → List ℕ
fault_message_of (kind.Common f) = declare.declaration_fault_message f
fault_message_of kind.LetTwice = codes "let twice"
fault_message_of kind.UnknownName = codes "unknown name"
fault_message_of kind.UnknownField = codes "unknown field"
fault_message_of kind.NotAPredicate = codes "not a predicate"
fault_message_of kind.TooDeep = codes "too deep"
fault_message_of kind.TooLarge = codes "too large"
