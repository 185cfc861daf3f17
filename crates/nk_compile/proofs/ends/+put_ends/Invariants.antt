use Rattle.std.proofs.Common.{ℕ, Option, List, drop}
use Rattle.nk_policy.specs.Tree.{trees_of}
use Rattle.nk_compile.specs.Comings.{HaveEnds}
use Rattle.nk_compile.proofs.ends.+put_ends.Given as goal

-- what the parts that are left put in, put in after what is there, is what all put in
abbrev pub invariant-put_all_ends-loop-q : goal.invariant-put_all_ends-loop-q
invariant-put_all_ends-loop-q l = (new : List (Option ℕ)) → HaveEnds l.ends new (trees_of (drop l.q-index l.ps)) → HaveEnds l.fn.ends new (trees_of l.ps)
