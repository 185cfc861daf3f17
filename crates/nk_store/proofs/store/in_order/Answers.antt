use Rattle.std.proofs.Common.{◌∙◌}
use Rattle.std.proofs.lemmas.List.Filters.{dedup_is}
use Rattle.nk_store.proofs.Ordered.{ordered}
use Rattle.nk_store.proofs.store.in_order.Goals as goal

pub returns : goal.returns
returns c = ordered c.args.outs c.sort_unstable.new.self.items c.from_vec.result (rw c.into_vec-all.ensures at c.sort_unstable.ensures.permutation) c.sort_unstable.ensures.sorted
    (c.from_vec.ensures ∙ dedup_is _ _ _ c.dedup.ensures.filtered)
