use Rattle.nk_store.proofs.Kept.{answers_stay, leaf_kept}
use Rattle.nk_store.proofs.store.Store.case.Goals as goal

pub invariant_of-self : goal.invariant_of-self
invariant_of-self c = (
  answers_stay c.self.inside.table c.case.new.self c.case.ensures.grows c.case.ensures.kept c.self.invariant.0,
  leaf_kept c.self.inside.table c.case.new.self _ c.self.inside.empty c.case.ensures.grows c.self.invariant.1,
  leaf_kept c.self.inside.table c.case.new.self _ c.self.inside.identity c.case.ensures.grows c.self.invariant.2,
)
