use Rattle.nk_check.proofs.Predicates.{all_in, one_out}
use Rattle.nk_check.proofs.packets.has_each.Goals as goal

pub returns-clause-yes : goal.returns-clause-yes
returns-clause-yes c = λ e.
    all_in c.args.st.now c.negate.new.st c.args.packets c.in_ok-others.others c.negate.ensures.grows c.in_ok-others.ensures.ok (c.is_empty.ensures.yes e)

pub returns-clause-no : goal.returns-clause-no
returns-clause-no c = λ e.
    one_out c.args.st.now c.negate.new.st c.args.packets c.in_ok-others.others c.negate.ensures.grows c.in_ok-others.ensures.ok (c.is_empty.ensures.no e)
