use Rattle.std.proofs.Common.{◌+◌, ◌*◌, ◌-◌, ◌≤◌}
use Rattle.std.specs.Prelude.{IfSome}
use Rattle.nk_store.specs.StoreState.{Grows}
use Rattle.nk_apply.specs.MadeOf.{IsMadeOf, AreMadeOf}
use Rattle.nk_apply.proofs.Built.{Built}
use Rattle.nk_apply.proofs.Turned.{turned}
use Rattle.nk_apply.proofs.walks.+walk.Given as goal

abbrev pub decreases-walk_part : goal.decreases-walk_part
decreases-walk_part g l = 5 * l.d + 4

abbrev pub decreases-walk_once : goal.decreases-walk_once
decreases-walk_once g l = 5 * l.d + 3

abbrev pub decreases-walk_case : goal.decreases-walk_case
decreases-walk_case g l = 5 * l.d + 2

abbrev pub decreases-walk_node : goal.decreases-walk_node
decreases-walk_node g l = 5 * l.d + 1

abbrev pub decreases-walk_parts : goal.decreases-walk_parts
decreases-walk_parts g l = 5 * l.d

abbrev pub invariant-walk_parts-loop-parts : goal.invariant-walk_parts-loop-parts
invariant-walk_parts-loop-parts g l = record {
  grows : Grows l.fn.st l.st;
  seen : AreMadeOf (g.M.NodeMap.taken l.m) (g.M.NodeMap.made l.m) (g.M.NodeMap.first l.m) l.st l.seen;
  before : IfSome l.before (λ x. IsMadeOf (g.M.NodeMap.taken l.m) (g.M.NodeMap.made l.m) (g.M.NodeMap.first l.m) l.st x.0 x.1);
  last : IfSome l.last (λ x. IsMadeOf (g.M.NodeMap.taken l.m) (g.M.NodeMap.made l.m) (g.M.NodeMap.first l.m) l.st x.0 x.1);
  within : l.from ≤ l.max;
  built : Built (turned (g.M.NodeMap.taken l.m) (g.M.NodeMap.made l.m l.fn.st.maxes) l.fn.st l.g l.d) l.st l.g l.from l.parts;
}

abbrev pub decreases-walk_parts-loop-parts : goal.decreases-walk_parts-loop-parts
decreases-walk_parts-loop-parts g l = l.max - l.from
