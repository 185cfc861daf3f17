-- The number of each status.
use Rattle.std.specs.Prelude.{ℕ}
use Rattle.nk_reply.specs.declared.status.Status.{Status}
use Rattle.nk_reply.specs.declared.status.Status.TheVariants.{Done, Differs, Usage, Text, Refused}
use Rattle.nk_reply.specs.declared.status.Status.TheVariants.{ReadFault, WriteFault, NoMemory, TooLong}

-- the number that the program ends with
abbrev pub code_of : Status → ℕ
code_of Done = 0
code_of Differs = 1
code_of Usage = 2
code_of Text = 3
code_of Refused = 4
code_of ReadFault = 5
code_of WriteFault = 6
code_of NoMemory = 7
code_of TooLong = 8
