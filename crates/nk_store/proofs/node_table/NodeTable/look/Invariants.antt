use Rattle.std.proofs.Common.{◌≡◌}
use Rattle.nk_store.specs.StoreState.{IsId, look}
use Rattle.nk_store.proofs.node_table.NodeTable.look.Given as goal

abbrev pub invariant-loop-outs : goal.invariant-loop-outs
invariant-loop-outs l = record { id : IsId l.self l.at; leaf : look l.self l.at l.p ≡ look l.self l.fn.d l.p }

abbrev pub decreases-loop-outs : goal.decreases-loop-outs
decreases-loop-outs l = l.at
