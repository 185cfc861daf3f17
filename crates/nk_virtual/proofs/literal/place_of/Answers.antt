use Rattle.std.proofs.Common.{ap, ◌∙◌}
use Rattle.std.specs.Prelude.{position}
use Rattle.nk_virtual.specs.Physical.{has_ends}
use Rattle.nk_virtual.proofs.Places.{placed_alike}
use Rattle.nk_virtual.proofs.literal.place_of.Goals as goal

pub returns-clause-place : goal.returns-clause-place
returns-clause-place c =
    c.get_index_of.ensures.index
    ∙ placed_alike c.args.literal c.args.ends.now.keys
    ∙ ap (position (has_ends c.args.literal.0 c.args.literal.1 c.args.literal.2 c.args.literal.3)) c.requires
