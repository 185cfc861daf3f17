use Rattle.nk_auto.proofs.Guarding.{more_guarded}
use Rattle.nk_auto.proofs.guards.guarded_by.Goals as goal

pub returns-clause-ok : goal.returns-clause-ok
returns-clause-ok c = λ p ps k is a pred h.
    more_guarded c.args.st.now c.both.new.st c.args.d c.args.following.guard c.args.following.rest c.in_ok-guard.guard k p ps c.both.ensures.grows is a pred (c.in_ok-guard.ensures.predicate h.predicate) c.in_ok-guard.ensures.ok h
