use Rattle.nk_star.proofs.Leads.{made_in_range}
use Rattle.nk_star.proofs.stars.laws.Goals as goal

pub returns : goal.returns
returns c = made_in_range c.args.st.now c.laws.ensures.tidy
