use Rattle.std.proofs.Common.{◌≡◌, ℕ, ◌<◌, get_or}
use Rattle.nk_store.specs.declared.node.Out.{Out}
use Rattle.nk_steps.specs.Plain.{fields_in}
use Rattle.nk_steps.proofs.plain.assign_all.Given as goal

-- the outs so far are finals or assign the same fields
abbrev pub invariant-loop-o : goal.invariant-loop-o
invariant-loop-o l = (k : ℕ) (e : Out) → k < l.o-index → 0 < (get_or l.outs k e).target → fields_in l.act ≡ fields_in (get_or l.outs k e).act
