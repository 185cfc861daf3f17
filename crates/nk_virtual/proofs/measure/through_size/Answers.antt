use Rattle.std.proofs.Common.{sym, ap, ◌∙◌}
use Rattle.nk_virtual.specs.Sizes.{size_within}
use Rattle.nk_virtual.proofs.Places.{through_nothing, sized_found}
use Rattle.nk_virtual.proofs.measure.through_size.Goals as goal

pub returns-in-Some : goal.returns-in-Some
returns-in-Some c = λ l.
    c.saturating_add.ensures
    ∙ sized_found c.args.links.now c.args.sizes.now c.in-Some.place c.args.literal.0 c.args.literal.1 c.args.literal.2 c.args.literal.3 l c.requires.sizes (sym c.in-Some.ensures.place)

pub returns-in-None : goal.returns-in-None
returns-in-None c = λ l.
    ap size_within
    (sym (through_nothing c.args.links.now c.args.literal.0 c.args.literal.1 c.args.literal.2 c.args.literal.3 l (sym c.in-None.ensures.place)))
