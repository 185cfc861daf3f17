use Rattle.std.proofs.Common.{subst}
use Rattle.nk_backward.specs.Places.{AreAllPlaces}
use Rattle.nk_backward.proofs.Placing.{all_moved}
use Rattle.nk_backward.proofs.postorder.in_postorder.Goals as goal

pub returns : goal.returns
returns c =
    subst (λ n. AreAllPlaces n c.by_rank.result) c.in_ok-ranks.ensures (all_moved _ c.in_ok-ranked.ranked c.by_rank.result c.by_rank.ensures c.in_ok-ranked.ensures)
