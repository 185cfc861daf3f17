use Rattle.std.proofs.Common.{◌∙◌, sym}
use Rattle.nk_names.proofs.Places.{policy_at, no_policy}
use Rattle.nk_names.proofs.lets.Lets.policy.Goals as goal

pub returns-in-Some : goal.returns-in-Some
returns-in-Some c =
    policy_at c.args.name.now c.args.self.now.entries.items c.in-Some.place c.index.result.now (sym c.place.ensures.place ∙ c.in-Some.is) c.index.ensures

pub returns-in-None : goal.returns-in-None
returns-in-None c = sym (no_policy c.args.name.now c.args.self.now.entries.items 0 (sym c.place.ensures.place ∙ c.in-None.is))
