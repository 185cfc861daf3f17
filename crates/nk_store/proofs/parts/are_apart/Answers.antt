use Rattle.std.proofs.Common.{sym, ◌∙◌, arith}
use Rattle.nk_store.proofs.Joins.{apart_next, apart_joined}
use Rattle.nk_store.proofs.parts.are_apart.Goals as goal

pub loop-i-init : goal.loop-i-init
loop-i-init c = (omega arith, λ d k a b. absurd (omega (arith, a)))

pub loop-i-preserved : goal.loop-i-preserved
loop-i-preserved c = (
  omega arith,
  apart_next c.args.parts.now c.loop-i.i _ _ c.loop-i.invariant.0 c.loop-i-test.true (sym c.eq.ensures ∙ c.if-eq.false) c.loop-i.invariant.1,
)

pub returns : goal.returns
returns c = λ t. apart_joined c.args.parts.now (λ d k a b. c.loop-i.invariant.1 d k (omega (arith, b)) b)
