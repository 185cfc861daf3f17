use Rattle.std.proofs.Common.{◌≡◌, drop}
use Rattle.nk_store.specs.Nodes.{child_at}
use Rattle.nk_store.proofs.parts.part_child.Given as goal

abbrev pub invariant-loop-end : goal.invariant-loop-end
invariant-loop-end l = child_at l.child (drop l.end-index l.parts) l.value ≡ child_at 0 l.parts l.value
