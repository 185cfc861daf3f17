use Rattle.nk_policy.specs.Policy.{star_of}
use Rattle.nk_store.proofs.Stores.{grows_on}
use Rattle.nk_auto.proofs.Silences.{silent_grow, star_silent}
use Rattle.nk_auto.proofs.TwoWays.{star_onward}
use Rattle.nk_auto.proofs.nested.around.Goals as goal

pub returns-clause-silent : goal.returns-clause-silent
returns-clause-silent c = λ p a.
    silent_grow c.star.new.st c.seq.new.st c.in_ok-silent.silent (star_of p) (grows_on _ _ _ c.union.ensures.grows c.seq.ensures.grows)
    (star_silent c.args.st.now c.star.new.st c.args.body.silent c.in_ok-silent.silent p c.star.ensures.grows a c.in_ok-silent.ensures.id c.in_ok-silent.ensures.ends c.in_ok-silent.ensures.leads)

pub returns-clause-records : goal.returns-clause-records
returns-clause-records c = λ p nothing a.
    star_onward c.args.st.now c.star.new.st c.union.new.st c.seq.new.st nothing c.args.body.silent c.args.body.records c.args.next c.in_ok-silent.silent c.in_ok-onward.onward c.in_ok-records.records p c.laws.ensures.tidy c.star.ensures.grows c.union.ensures.grows c.seq.ensures.grows a
    (star_silent c.args.st.now c.star.new.st c.args.body.silent c.in_ok-silent.silent p c.star.ensures.grows a.silently c.in_ok-silent.ensures.id c.in_ok-silent.ensures.ends c.in_ok-silent.ensures.leads)
    c.requires.next c.in_ok-onward.ensures.ok c.in_ok-records.ensures.ok
