use Rattle.std.proofs.Common.{◌∙◌, refl}
use Rattle.std.proofs.lemmas.List.{get_or_default}
use Rattle.nk_merge.proofs.Doubling.{made_twice}
use Rattle.nk_merge.proofs.disjoint_copy.DisjointCopy.new.Goals as goal

pub returns-clause-ok : goal.returns-clause-ok
returns-clause-ok c =
    made_twice c.args.st.now c.rows_twice.new.st c.new.new.st c.args.states.now c.in_ok-rows.rows c.as_slice.result.now c.index-states-0.result
    (record { rows = c.in_ok-rows.rows; goal = c.in_ok-goal.goal }) c.requires.states c.requires.few c.rows_twice.ensures.grows c.new.ensures.grows c.in_ok-rows.ensures.ok
    c.as_slice.ensures (c.index-states-0.is ∙ get_or_default c.args.states.now 0 c.index-states-0.result 0 c.requires.some) refl
    c.in_ok-goal.ensures.fits c.in_ok-goal.ensures.marked.count c.in_ok-goal.ensures.alone
