use Rattle.std.proofs.Common.{arith}
use Rattle.nk_apply.proofs.Places.{found_after}
use Rattle.nk_apply.proofs.part.is_place.Goals as goal

pub returns-clause-found : goal.returns-clause-found
returns-clause-found c = λ t e.
    found_after c.args.max c.args.v c.args.place c.args.parts.now _ _ e c.requires.rise c.if-place-eq0.false (omega (arith, c.if-place-parts.false)) t c.if-parts-place.false
