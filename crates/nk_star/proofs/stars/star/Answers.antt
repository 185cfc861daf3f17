use Rattle.nk_store.specs.StoreState.{node_of}
use Rattle.nk_star.proofs.Rounds.{last_steps, last_ends, last_pass, last_later}
use Rattle.nk_star.proofs.Leads.{last_leads}
use Rattle.nk_star.proofs.stars.star.Goals as goal

pub returns-clause-ends : goal.returns-clause-ends
returns-clause-ends c = last_ends c.last_round.new.st c.in_ok-all.all _ c.requires.ends c.in_ok-all.ensures.ok

pub returns-clause-steps : goal.returns-clause-steps
returns-clause-steps c = last_steps c.last_round.new.st c.in_ok-all.all _ c.requires.ends c.in_ok-all.ensures.ok

pub returns-clause-leads : goal.returns-clause-leads
returns-clause-leads c = last_leads c.args.st.now c.last_round.new.st c.args.d c.in_ok-all.all c.last_round.ensures.grows c.requires.id c.laws.ensures.tidy c.requires.ends c.in_ok-all.ensures.ok

pub returns-clause-predicate : goal.returns-clause-predicate
returns-clause-predicate c = λ p. last_pass c.last_round.new.st c.in_ok-all.all _ c.in_ok-all.ensures.ok p

pub returns-clause-later : goal.returns-clause-later
returns-clause-later c =
    let st = c.last_round.new.st in
    let d = c.args.d in
    let r = c.in_ok-all.all in
    let id = c.last_round.ensures.grows.ids d c.requires.id in
    last_later c.args.st.now st d r (node_of st d) c.last_round.ensures.grows c.requires.id (c.laws.ensures.nodes d id) (c.laws.ensures.still d id) (c.laws.ensures.reduced r c.in_ok-all.ensures.ok.leaves.id) c.in_ok-all.ensures.ok
