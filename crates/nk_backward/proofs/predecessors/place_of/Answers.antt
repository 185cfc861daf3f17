use Rattle.std.proofs.Common.{◌∙◌, ◌<◌, ◌-◌, length, arith}
use Rattle.std.proofs.lemmas.List.{get_or_default}
use Rattle.nk_backward.proofs.predecessors.place_of.Goals as goal

pub returns-then-n-len-clause-some : goal.returns-then-n-len-clause-some
returns-then-n-len-clause-some c =
    let l : c.args.target - 1 < length c.args.places.now = omega (arith, c.if-n-len.true, c.len.ensures) in
    (c.args.target - 1, l, omega (arith, c.if-target-eq0.false), c.at.ensures ∙ get_or_default c.args.places.now (c.args.target - 1) c.at.result.now (0, 0) l)
