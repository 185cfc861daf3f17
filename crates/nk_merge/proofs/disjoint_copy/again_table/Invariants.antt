use Rattle.std.proofs.Common.{◌≡◌, ℕ, ◌-◌, ◌<◌, Some, None, length, get_or}
use Rattle.nk_merge.specs.DisjointCopies.{again}
use Rattle.nk_merge.proofs.disjoint_copy.again_table.Given as goal

-- the labels so far have their numbers
abbrev pub invariant-loop-l : goal.invariant-loop-l
invariant-loop-l l = record {
  len : length l.table ≡ l.l;
  is : (t : ℕ) → t < l.l → get_or l.table t None ≡ Some (again (l.count - 1) t);
}
