use Rattle.nk_store.proofs.UniqueTables.{no_table}
use Rattle.nk_store.proofs.unique_table.UniqueTable.new.Goals as goal

pub invariant_of-result : goal.invariant_of-result
invariant_of-result g c = no_table g.T.PartialEq.eq g.T.Digest.number _ _ c.new.ensures.items c.with_hasher.ensures.empty
