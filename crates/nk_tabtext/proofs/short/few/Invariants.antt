use Rattle.std.proofs.Common.{◌≡◌, ◌++◌, drop}
use Rattle.nk_tabtext.proofs.short.few.Given as goal

-- what is made so far, then the rest, is the whole
abbrev pub invariant-loop-byte : goal.invariant-loop-byte
invariant-loop-byte l = l.out.items ++ drop l.byte-index l.bytes ≡ l.fn.out.items ++ l.bytes
