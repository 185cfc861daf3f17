use Rattle.std.proofs.Common.{◌≡◌, ℕ, ◌+◌, ◌<◌, get_or}
use Rattle.std.specs.declared.cmp.Ordering.TheVariants.{Less}
use Rattle.nk_store.specs.declared.node.Out.{Out}
use Rattle.nk_store.specs.Leaves.{out_cmp}
use Rattle.nk_store.proofs.store.ascend.Given as goal

abbrev pub invariant-loop-i : goal.invariant-loop-i
invariant-loop-i l = (k : ℕ) (d : Out) → k + 1 < l.i → out_cmp (get_or l.outs k d) (get_or l.outs (k + 1) d) ≡ Less
