use Rattle.std.proofs.Common.{◌∙◌, ap}
use Rattle.std.proofs.lemmas.List.Sorted.{IsNonDecreasingBy-from_sort}
use Rattle.nk_topo.specs.Topology.{ascending, has_double}
use Rattle.nk_topo.proofs.Orders.{order_from_sort, sort_is_ascending, double_ascending, sorted_rises}
use Rattle.nk_topo.proofs.search.sorted.Goals as goal

pub returns-clause-climbs : goal.returns-clause-climbs
returns-clause-climbs c = order_from_sort _ (IsNonDecreasingBy-from_sort (λ x. x) _ c.sort_unstable.ensures.sorted)

-- the numbers are those given in ascending order
numbers : goal.returns-clause-numbers
numbers c =
    sort_is_ascending _ _ c.sort_unstable.ensures.permutation (order_from_sort _ (IsNonDecreasingBy-from_sort (λ x. x) _ c.sort_unstable.ensures.sorted))
    ∙ ap ascending c.in_ok-sorted.ensures.items

pub returns-clause-numbers : goal.returns-clause-numbers
returns-clause-numbers c = numbers c

pub returns-clause-doubles : goal.returns-clause-doubles
returns-clause-doubles c = ap has_double (numbers c) ∙ double_ascending c.args.numbers.now

pub returns-clause-rises : goal.returns-clause-rises
returns-clause-rises c = λ e. sorted_rises c.args.numbers.now c.sort_unstable.new.self.items (numbers c) e
