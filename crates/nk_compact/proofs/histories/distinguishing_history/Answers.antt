use Rattle.nk_compact.proofs.Distinguishing.{none_alike, some_told}
use Rattle.nk_compact.proofs.histories.distinguishing_history.Goals as goal

pub unreachable-requires : goal.unreachable-requires
unreachable-requires c =
    c.requires.different
    (none_alike c.args.st.now c.args.states.now c.args.ss.now c.args.tags.now c.args.firsts.now c.args.i c.args.j c.set_of_first-s.result c.set_of_first-t.result c.set_of_first-s.ensures c.set_of_first-t.ensures
    c.in_ok-found.field-0 c.in-None.is c.in_ok-found.ensures.ok)

pub returns-clause-told : goal.returns-clause-told
returns-clause-told c =
    some_told c.args.st.now c.args.states.now c.args.ss.now c.args.tags.now c.args.firsts.now c.args.i c.args.j c.set_of_first-s.result c.set_of_first-t.result c.set_of_first-s.ensures c.set_of_first-t.ensures
    c.in_ok-found.field-0 c.in-Some.found c.in-Some.is c.in_ok-found.ensures.ok c.told.result c.told.ensures
