use Rattle.std.proofs.Common.{◌≡◌, ℕ, ◌≤◌, ◌++◌, take, drop}
use Rattle.std.specs.Prelude.{All}
use Rattle.nk_compile.proofs.ChildLemmas.{parts_between}
use Rattle.nk_compile.proofs.children.all_parts.Given as goal

-- the parts so far, and those of the children that are left, are all parts
abbrev pub invariant-loop-i : goal.invariant-loop-i
invariant-loop-i l = record {
  whole : l.parts ++ parts_between l.high l.other l.next (drop l.i l.children) ≡ parts_between l.high l.other 0 l.children;
  small : All (λ (c : ℕ × ℕ). c.0 ≤ 65535) (take l.i l.children);
}
