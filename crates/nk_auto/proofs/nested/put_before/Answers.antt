use Rattle.nk_auto.proofs.TwoWays.{cons_ways}
use Rattle.nk_auto.proofs.nested.put_before.Goals as goal

pub returns-clause-ok : goal.returns-clause-ok
returns-clause-ok c = λ p ps nothing a b.
    cons_ways c.args.st.now c.ended_then.new.st c.union.new.st c.ended_then-2.new.st nothing c.args.first.silent c.args.first.records c.args.following.silent c.args.following.records c.in_ok-later.later c.in_ok-records.records c.in_ok-silent.silent p ps c.laws.ensures.tidy c.laws-2.ensures.tidy c.ended_then.ensures.grows c.union.ensures.grows c.ended_then-2.ensures.grows a b c.in_ok-later.ensures.ok c.in_ok-records.ensures.ok c.in_ok-silent.ensures.ok
