use Rattle.std.proofs.Common.{arith, sym, ap, ◌∙◌, min}
use Rattle.std.specs.Int.{w64, trailing_zeros}
use Rattle.nk_prefix.proofs.Zeros.{zeros_aligned, zeros_stop, least_of_three}
use Rattle.nk_prefix.proofs.cutting.free_digits.Goals as goal

pub returns-clause-is : goal.returns-clause-is
returns-clause-is c =
    sym (least_of_three c.args.from c.args.end c.args.digits (trailing_zeros w64 c.args.from) c.whole_digits-fitting.result c.min-2.result
    c.requires.within (zeros_aligned c.args.from (omega arith)) (λ l. zeros_stop c.args.from c.args.digits (omega arith) c.requires.small l)
    c.whole_digits-fitting.ensures.most c.whole_digits-fitting.ensures.next
    (c.min-2.ensures ∙ ap (λ a. min a c.args.digits) c.min.ensures))
