-- What enters at 1:1 leaves after one crossing.
use Rattle.std.proofs.Common.{ℕ, List, refl, ap, ◌∙◌}
use Rattle.nk_policy.specs.Meaning.{Gives}
use Rattle.nk_worked.specs.TwoSwitches.{over_one_link}
use Rattle.nk_worked.specs.TheirTable.{entering_packet, its_history, LeavesAfterOneCrossing}
use Rattle.nk_worked.proofs.Crossing.{crossed}
use Rattle.nk_worked.proofs.TagSet.{starts}
use Rattle.nk_worked.proofs.States.{there}
use Rattle.nk_worked.proofs.Program.{carried}

-- the history is the policy's, since the tables carry it
pub given : Gives over_one_link entering_packet its_history.records its_history.packet
given = ((carried.exactly 1 entering_packet starts its_history.records its_history.packet).0 (there its_history)).0

pub leaves : LeavesAfterOneCrossing
leaves = record {
  start = starts;
  not_at_once = refl;
  then = refl;
  no_more = refl;
  given = given;
  alone = λ w last g.
      let c = crossed entering_packet w last g in
      ap (λ (v : List (List ℕ)). record { records = v; packet = last }) c.2
      ∙ ap (λ (z : List ℕ). record { records = its_history.records; packet = z }) c.3;
}
