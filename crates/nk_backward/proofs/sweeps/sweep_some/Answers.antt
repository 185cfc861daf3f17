use Rattle.std.proofs.Common.{false, subst}
use Rattle.nk_store.proofs.Stores.{grows_on, grows_same}
use Rattle.nk_backward.specs.Sweeps.{IsSwept}
use Rattle.nk_backward.proofs.Tracing.{outs_suit_on}
use Rattle.nk_backward.proofs.Sweeping.{swept_none, swept_again}
use Rattle.nk_backward.proofs.sweeps.sweep_some.Goals as goal

pub sweeps-init : goal.sweeps-init
sweeps-init c = record {
  grows = grows_same c.args.st.now;
  made = swept_none c.args.st.now c.args.ts.now c.args.back.now c.requires.back c.requires.once;
}

pub sweep-requires-clause-suits_store : goal.sweep-requires-clause-suits_store
sweep-requires-clause-suits_store c = outs_suit_on c.args.st.now c.sweeps.st c.args.ts.now c.sweeps.invariant.grows c.requires.suits_store

pub returns-then-closed-clause-ok : goal.returns-then-closed-clause-ok
returns-then-closed-clause-ok c =
    subst (λ b. IsSwept c.args.st.now c.args.ts.now c.args.back.now c.sweep.new.st c.sweep.new.back b) c.if-closed.true
    (swept_again c.args.st.now c.sweeps.st c.sweep.new.st c.args.ts.now c.args.back.now c.sweeps.back c.sweep.new.back false c.in_ok-closed.closed c.sweeps.invariant.grows c.requires.suits_store c.sweeps.invariant.made c.in_ok-closed.ensures.ok)

pub sweeps-preserved : goal.sweeps-preserved
sweeps-preserved c = record {
  grows = grows_on _ _ _ c.sweeps.invariant.grows c.sweep.ensures.grows;
  made = subst (λ b. IsSwept c.args.st.now c.args.ts.now c.args.back.now c.sweep.new.st c.sweep.new.back b) c.if-closed.false
      (swept_again c.args.st.now c.sweeps.st c.sweep.new.st c.args.ts.now c.args.back.now c.sweeps.back c.sweep.new.back false c.in_ok-closed.closed c.sweeps.invariant.grows c.requires.suits_store c.sweeps.invariant.made c.in_ok-closed.ensures.ok);
}
