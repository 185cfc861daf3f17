use Rattle.std.proofs.Common.{arith, ◌≡◌, suc, ◌-◌, ◌+◌, ◌<◌, ◌≤◌, ◌^◌, subst}
use Rattle.std.specs.Int.Count.{count_leading_zeros}
use Rattle.std.proofs.lemmas.Nat.{leading_top}
use Rattle.nk_prefix.proofs.cutting.whole_digits.Goals as goal

pub returns-clause-most : goal.returns-clause-most
returns-clause-most c =
    let (j, count, low, high) = leading_top 128 c.args.n c.requires (omega arith) in
    let is : j ≡ 127 - count_leading_zeros 128 c.args.n = omega (arith, count) in
    subst (λ k. 2 ^ k ≤ c.args.n) is low

pub returns-clause-next : goal.returns-clause-next
returns-clause-next c =
    let (j, count, low, high) = leading_top 128 c.args.n c.requires (omega arith) in
    let is : suc j ≡ 127 - count_leading_zeros 128 c.args.n + 1 = omega (arith, count) in
    subst (λ k. c.args.n < 2 ^ k) is high
