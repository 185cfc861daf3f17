use Rattle.std.proofs.Common.{◌∙◌, ap, nat_eq}
use Rattle.std.specs.List.{position_from}
use Rattle.nk_goal.proofs.Placing.{found_within}
use Rattle.nk_goal.proofs.entries.Entries.place.Goals as goal

pub returns-clause-place : goal.returns-clause-place
returns-clause-place c = c.copied.ensures ∙ c.get.ensures.value ∙ c.self.invariant.placed c.args.t ∙ ap (position_from (λ p. nat_eq c.args.t p.0) 0) c.self.view_is

pub returns-clause-within : goal.returns-clause-within
returns-clause-within c =
    found_within c.args.t c.args.self.now c.copied.result (c.copied.ensures ∙ c.get.ensures.value ∙ c.self.invariant.placed c.args.t ∙ ap (position_from (λ p. nat_eq c.args.t p.0) 0) c.self.view_is)
