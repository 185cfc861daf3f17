use Rattle.std.proofs.Common.{[], ◌∙◌, sym, ap, subst, slice_get}
use Rattle.std.specs.List.Sorted.{IsStrictlyIncreasing}
use Rattle.std.proofs.lemmas.Option.{get_or_from_slice_get}
use Rattle.nk_determ.proofs.sets.Sets.members.Goals as goal

pub returns-clause-ascend : goal.returns-clause-ascend
returns-clause-ascend c = subst IsStrictlyIncreasing (get_or_from_slice_get c.self.inside.sets c.args.s c.at.result.now [] (ap (λ k. slice_get c.self.inside.sets k) (sym c.s.view_is) ∙ c.at.ensures) ∙ sym c.as_slice.ensures) (c.self.invariant c.args.s)
