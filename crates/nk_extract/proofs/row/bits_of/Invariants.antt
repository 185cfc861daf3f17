use Rattle.std.proofs.Common.{◌≡◌, length}
use Rattle.nk_extract.proofs.Bits.{HasBitsFrom, bit_from}
use Rattle.nk_extract.proofs.row.bits_of.Given as goal

abbrev pub invariant-loop-f : goal.invariant-loop-f
invariant-loop-f l = record {
  long : length l.all ≡ 18;
  made : HasBitsFrom l.f l.width l.tag l.all;
  bit : l.bit ≡ bit_from l.width l.tag l.f;
}
