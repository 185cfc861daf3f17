use Rattle.std.proofs.Common.{◌≡◌, ◌+◌, ◌≤◌, drop}
use Rattle.nk_store.specs.Nodes.{Rises}
use Rattle.nk_store.specs.ElseChild.{spans, size_of}
use Rattle.nk_store.proofs.else_children.size_among.Given as goal

abbrev pub invariant-loop-end : goal.invariant-loop-end
invariant-loop-end l = record {
  rise : Rises l.high l.from (drop l.end-index l.parts);
  small : l.from ≤ l.high + 1;
  below : l.size ≤ l.from;
  counts : l.size + size_of l.c (spans (drop l.end-index l.parts) l.from) ≡ size_of l.c (spans l.parts 0);
}
