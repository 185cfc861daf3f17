use Rattle.std.proofs.lemmas.List.Sorted.{All-permutation}
use Rattle.nk_sim.proofs.Orders.{sorted_in_order}
use Rattle.nk_sim.proofs.Sizes.{IsHistorySized}
use Rattle.nk_sim.proofs.tracing.sorted.Goals as goal

pub returns : goal.returns
returns c = record {
  all = c.in_ok-sort.ensures.permutation;
  ordered = λ alike.
      sorted_in_order c.sort.new.self.items c.in_ok-sort.ensures.sorted
      (alike.0, alike.1, All-permutation (IsHistorySized alike.0 alike.1) c.args.left.items c.sort.new.self.items c.in_ok-sort.ensures.permutation alike.2);
}
