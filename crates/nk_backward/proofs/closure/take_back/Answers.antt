use Rattle.nk_backward.proofs.Tracing.{outs_suit_on}
use Rattle.nk_backward.proofs.Gaining.{sets_on}
use Rattle.nk_backward.proofs.Taking.{taken_all}
use Rattle.nk_backward.proofs.closure.take_back.Goals as goal

pub take_outs-requires-clause-suits_store : goal.take_outs-requires-clause-suits_store
take_outs-requires-clause-suits_store c = outs_suit_on c.args.st.now c.outs_into.new.st c.args.ts.now c.outs_into.ensures.grows c.requires.suits_store

pub take_outs-requires-clause-found : goal.take_outs-requires-clause-found
take_outs-requires-clause-found c = sets_on c.args.st.now c.outs_into.new.st c.args.found.now c.outs_into.ensures.grows c.requires.found

pub returns-clause-ok : goal.returns-clause-ok
returns-clause-ok c =
    taken_all c.args.st.now c.outs_into.new.st c.take_outs.new.st c.args.ts.now c.args.pre.now.places c.args.pre.now.into.entries c.args.t c.args.x c.in_ok-outs.outs c.args.found.now c.take_outs.new.found
    c.outs_into.ensures.grows c.requires.suits_store c.requires.found c.requires.pre c.in_ok-outs.ensures.ok c.in_ok-take_outs.ensures.ok
