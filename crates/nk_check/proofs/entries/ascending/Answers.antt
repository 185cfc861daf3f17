use Rattle.std.proofs.Common.{List, ℕ, ◌∙◌, subst}
use Rattle.std.specs.List.Sorted.{IsPermutation}
use Rattle.std.proofs.lemmas.List.Filters.{dedup_is}
use Rattle.nk_check.proofs.RowSets.{sorted_once}
use Rattle.nk_check.proofs.entries.ascending.Goals as goal

pub returns-clause-ascend : goal.returns-clause-ascend
returns-clause-ascend c =
    (sorted_once c.args.numbers.now c.sort_unstable.new.self.items c.from_vec.result
    (subst (λ (l : List ℕ). IsPermutation l c.sort_unstable.new.self.items) c.in_ok-all.ensures.items c.sort_unstable.ensures.permutation)
    c.sort_unstable.ensures.sorted (c.from_vec.ensures ∙ dedup_is _ _ _ c.dedup.ensures.filtered)).0

pub returns-clause-same : goal.returns-clause-same
returns-clause-same c =
    (sorted_once c.args.numbers.now c.sort_unstable.new.self.items c.from_vec.result
    (subst (λ (l : List ℕ). IsPermutation l c.sort_unstable.new.self.items) c.in_ok-all.ensures.items c.sort_unstable.ensures.permutation)
    c.sort_unstable.ensures.sorted (c.from_vec.ensures ∙ dedup_is _ _ _ c.dedup.ensures.filtered)).1
