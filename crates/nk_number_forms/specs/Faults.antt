-- What the line of a fault says.
use Rattle.std.specs.Prelude.{ℕ, List, ◌++◌, codes, decimal}
use Rattle.nk_number_forms.specs.declared.fault.Cause.{Cause}
use Rattle.nk_number_forms.specs.declared.fault.Cause.TheVariants as cause
use Rattle.nk_number_forms.specs.declared.fault.Fault.{Fault}

-- what is wrong, in words
abbrev pub message_of : Cause → List ℕ
message_of cause.Address = codes "bad IPv4 address"
message_of cause.HardwareAddress = codes "bad hardware address"
message_of cause.Hexadecimal = codes "bad hexadecimal number"
message_of cause.TooLarge = codes "number too large"
message_of cause.Length = codes "bad prefix length"
message_of cause.Ones = codes "ones after the prefix length"
message_of cause.Untested = codes "prefix without test"

-- the line that tells a fault
abbrev pub notation_fault_line : Fault → List ℕ
notation_fault_line f = codes "line " ++ decimal f.line ++ codes ": " ++ message_of f.cause ++ codes "\n"
