use Rattle.std.proofs.Common.{subst}
use Rattle.nk_backward.specs.Sweeps.{IsSwept}
use Rattle.nk_backward.proofs.Tracing.{outs_suit_on}
use Rattle.nk_backward.proofs.Preceding.{known_on}
use Rattle.nk_backward.proofs.Sweeping.{swept_closed, closure_swept}
use Rattle.nk_backward.proofs.closure.close_all.Goals as goal

pub returns-then-closed-clause-ok : goal.returns-then-closed-clause-ok
returns-then-closed-clause-ok c =
    swept_closed c.args.st.now c.sweep_some.new.st c.args.ts.now c.args.back.now c.sweep_some.new.back c.requires.suits_store
    (subst (λ b. IsSwept c.args.st.now c.args.ts.now c.args.back.now c.sweep_some.new.st c.sweep_some.new.back b) c.if-closed.true c.in_ok-closed.ensures.ok)

pub returns-then-closed-clause-pre : goal.returns-then-closed-clause-pre
returns-then-closed-clause-pre c = known_on c.args.st.now c.sweep_some.new.st c.args.ts.now c.args.pre.now c.sweep_some.ensures.grows c.requires.suits_store c.requires.pre

pub close_rest-requires-clause-suits_store : goal.close_rest-requires-clause-suits_store
close_rest-requires-clause-suits_store c = outs_suit_on c.args.st.now c.sweep_some.new.st c.args.ts.now c.sweep_some.ensures.grows c.requires.suits_store

pub close_rest-requires-clause-pre : goal.close_rest-requires-clause-pre
close_rest-requires-clause-pre c = known_on c.args.st.now c.sweep_some.new.st c.args.ts.now c.args.pre.now c.sweep_some.ensures.grows c.requires.suits_store c.requires.pre

pub close_rest-requires-clause-back : goal.close_rest-requires-clause-back
close_rest-requires-clause-back c = c.in_ok-closed.ensures.ok.packets

pub close_rest-requires-clause-once : goal.close_rest-requires-clause-once
close_rest-requires-clause-once c = c.in_ok-closed.ensures.ok.once

pub returns-clause-ok : goal.returns-clause-ok
returns-clause-ok c =
    closure_swept c.args.st.now c.sweep_some.new.st c.close_rest.new.st c.args.ts.now c.args.back.now c.sweep_some.new.back c.close_rest.new.back c.in_ok-closed.closed
    c.sweep_some.ensures.grows c.requires.suits_store c.in_ok-closed.ensures.ok c.in_ok-close_rest.ensures.ok
