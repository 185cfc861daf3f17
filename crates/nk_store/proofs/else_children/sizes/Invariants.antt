use Rattle.std.proofs.Common.{◌≡◌, ◌+◌, ◌≤◌, ℕ, drop}
use Rattle.nk_store.specs.Nodes.{Rises}
use Rattle.nk_store.specs.ElseChild.{spans, size_of, kept}
use Rattle.nk_store.proofs.else_children.sizes.Given as goal

abbrev pub invariant-loop-end : goal.invariant-loop-end
invariant-loop-end l = record {
  rise : Rises l.high l.from (drop l.end-index l.parts);
  small : l.from ≤ l.high + 1;
  below : (c : ℕ) → kept l.sizes.entries c ≤ l.from;
  counts : (c : ℕ) → kept l.sizes.entries c + size_of c (spans (drop l.end-index l.parts) l.from) ≡ size_of c (spans l.parts 0);
}
