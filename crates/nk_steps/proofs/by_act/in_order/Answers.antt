use Rattle.std.proofs.Common.{◌∙◌, eqb}
use Rattle.std.proofs.lemmas.List.Filters.{dedup_is}
use Rattle.nk_steps.proofs.ByActs.{sorted_members, sorted_rise}
use Rattle.nk_steps.proofs.by_act.in_order.Goals as goal

pub returns-clause-members : goal.returns-clause-members
returns-clause-members c =
    sorted_members c.args.labels c.sort_unstable.new.self.items c.from_vec.result (rw c.into_vec-all.ensures at c.sort_unstable.ensures.permutation)
    (c.from_vec.ensures ∙ dedup_is eqb _ _ c.dedup.ensures.filtered)

pub returns-clause-ascend : goal.returns-clause-ascend
returns-clause-ascend c = sorted_rise c.sort_unstable.new.self.items c.from_vec.result c.sort_unstable.ensures.sorted (c.from_vec.ensures ∙ dedup_is eqb _ _ c.dedup.ensures.filtered)
