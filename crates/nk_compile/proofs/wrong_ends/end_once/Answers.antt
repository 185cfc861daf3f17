use Rattle.std.proofs.Common.{◌∙◌, sym}
use Rattle.nk_compile.proofs.EndsOfStates.{table_on, table_put}
use Rattle.nk_compile.proofs.wrong_ends.end_once.Goals as goal

pub returns-in-Some-clause-end : goal.returns-in-Some-clause-end
returns-in-Some-clause-end c = c.requires.seen c.args.state c.in-Some.r (sym c.known.ensures ∙ c.in-Some.is)

pub returns-clause-seen : goal.returns-clause-seen
returns-clause-seen c =
    table_put c.end_in.new.st c.args.set c.args.state c.in_ok-r.r c.args.seen.now c.insert.new.self
    (table_on c.args.st.now c.end_in.new.st c.args.set c.args.seen.now c.end_in.ensures.grows c.requires.set c.requires.seen) c.in_ok-r.ensures.end
    c.in_ok-insert.ensures.found
