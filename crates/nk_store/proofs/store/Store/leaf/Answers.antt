use Rattle.nk_store.specs.Leaves.{Suits}
use Rattle.nk_store.proofs.Ordered.{every_ordered}
use Rattle.nk_store.proofs.store.Store.leaf.Goals as goal

pub leaf_in_order-requires-clause-suits : goal.leaf_in_order-requires-clause-suits
leaf_in_order-requires-clause-suits c = every_ordered (Suits c.args.self.now.maxes) c.args.outs c.in_order.result c.in_order.ensures c.requires
