use Rattle.std.proofs.Common.{arith, ◌+◌, ◌<◌, ◌^◌}
use Rattle.std.proofs.lemmas.Nat.{leading_top}
use Rattle.std.proofs.lemmas.Grind.{pow_more}
use Rattle.std.proofs.Math.Nat.{pow-suc}
use Rattle.nk_prefix.proofs.Powers.{digits_are}
use Rattle.nk_prefix.proofs.cutting.digits_of.Goals as goal

pub returns-else-max-eq0-clause-is : goal.returns-else-max-eq0-clause-is
returns-else-max-eq0-clause-is c =
    let (j, count, low, high) = leading_top 64 c.args.max (omega arith) (omega arith) in
    let above : c.args.max < 2 ^ (j + 1) = omega (arith, high, pow_more 2 j, pow-suc 2 j) in
    omega (arith, count, digits_are j c.args.max low above)
