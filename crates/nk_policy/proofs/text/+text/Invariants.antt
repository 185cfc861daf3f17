use Rattle.std.proofs.Common.{◌≡◌, ◌++◌, [], drop}
use Rattle.nk_policy.specs.Text.{sum_bytes, seq_bytes}
use Rattle.nk_policy.specs.Tree.{trees_of}
use Rattle.nk_policy.proofs.text.+text.Given as goal

-- what was put out, then the parts that are left, is all
abbrev pub invariant-push_sum-loop-q : goal.invariant-push_sum-loop-q
invariant-push_sum-loop-q l =
    l.out.items ++ sum_bytes l.fields l.before (trees_of (drop l.q-index l.ps)) ≡ l.fn.out.items ++ sum_bytes l.fields [] (trees_of l.ps)

-- what was put out, then the parts of a sequence that are left, is all
abbrev pub invariant-push_seq-loop-q : goal.invariant-push_seq-loop-q
invariant-push_seq-loop-q l =
    l.out.items ++ seq_bytes l.fields l.before (trees_of (drop l.q-index l.ps)) ≡ l.fn.out.items ++ seq_bytes l.fields [] (trees_of l.ps)
