use Rattle.std.proofs.Common.{subst, sym, ap, ◌∙◌}
use Rattle.nk_field.specs.Act.{AscendsFrom, left_without}
use Rattle.nk_field.proofs.Withouts.{without_ascends}
use Rattle.nk_field.proofs.act.Act.without.Goals as goal

pub invariant_of-result : goal.invariant_of-result
invariant_of-result c =
    subst (AscendsFrom 0) (sym (c.in_ok-sets.ensures ∙ ap (left_without c.args.f) c.as_slice.ensures))
    (without_ascends c.args.f 0 c.self.inside.sets c.self.invariant)
