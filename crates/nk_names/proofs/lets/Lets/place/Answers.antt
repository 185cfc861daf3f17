use Rattle.std.proofs.Common.{◌∙◌}
use Rattle.nk_names.proofs.Places.{found_within}
use Rattle.nk_names.proofs.lets.Lets.place.Goals as goal

pub returns-clause-place : goal.returns-clause-place
returns-clause-place c = c.copied.ensures ∙ c.get.ensures.value ∙ c.args.self.now.placed c.args.name.now

pub returns-clause-within : goal.returns-clause-within
returns-clause-within c =
    found_within c.args.name.now c.args.self.now.entries.items c.copied.result (c.copied.ensures ∙ c.get.ensures.value ∙ c.args.self.now.placed c.args.name.now)
