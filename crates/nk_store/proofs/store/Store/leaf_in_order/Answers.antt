use Rattle.nk_store.proofs.Kept.{answers_stay, leaf_kept}
use Rattle.nk_store.proofs.store.Store.leaf_in_order.Goals as goal

pub invariant_of-self : goal.invariant_of-self
invariant_of-self c = (
  answers_stay c.self.inside.table c.leaf_in_order.new.self c.leaf_in_order.ensures.grows c.leaf_in_order.ensures.kept c.self.invariant.0,
  leaf_kept c.self.inside.table c.leaf_in_order.new.self _ c.self.inside.empty c.leaf_in_order.ensures.grows c.self.invariant.1,
  leaf_kept c.self.inside.table c.leaf_in_order.new.self _ c.self.inside.identity c.leaf_in_order.ensures.grows c.self.invariant.2,
)
