use Rattle.nk_auto.proofs.Guarding.{free_guarded}
use Rattle.nk_auto.proofs.guards.unguarded.Goals as goal

pub returns-clause-ok : goal.returns-clause-ok
returns-clause-ok c = λ p k h.
    free_guarded c.args.st.now c.identity.new.st c.in_ok-guard.guard c.args.rest k p c.identity.ensures.grows c.in_ok-guard.ensures.ok c.in_ok-guard.ensures.predicate h
