use Rattle.std.proofs.Common.{arith, refl, ◌-◌}
use Rattle.nk_extract.proofs.Bits.{ones_end, bits_end, bits_before, bits_small, bit_put, long_put}
use Rattle.nk_extract.proofs.row.bits_of.Goals as goal

pub loop-f-init : goal.loop-f-init
loop-f-init c = record {
  long = refl;
  made = ones_end c.args.width c.args.tag;
  bit = bits_end c.args.width c.args.tag;
}

pub before_field-bit-requires : goal.before_field-bit-requires
before_field-bit-requires c = bits_small c.args.width c.args.tag c.loop-f.f c.loop-f.bit c.requires c.loop-f.invariant.bit

pub loop-f-preserved : goal.loop-f-preserved
loop-f-preserved c = record {
  long = long_put (c.loop-f.f - 1) c.loop-f.bit c.loop-f.all c.loop-f.invariant.long;
  made = bit_put c.args.width c.args.tag c.loop-f.f c.loop-f.bit c.loop-f.all (omega (arith, c.loop-f-test.true)) c.loop-f.auto.f c.requires c.loop-f.invariant.long c.loop-f.invariant.bit c.loop-f.invariant.made;
  bit = bits_before c.args.width c.args.tag c.loop-f.f c.loop-f.bit c.before_field-bit.result (omega (arith, c.loop-f-test.true)) c.loop-f.auto.f c.loop-f.invariant.bit c.before_field-bit.ensures;
}
