use Rattle.std.proofs.Common.{◌≡◌, ◌≤◌, ℕ, length, drop}
use Rattle.nk_sim.specs.Emitted.{table_of, found_by}
use Rattle.nk_sim.proofs.finder.places_of.Given as goal

-- the first tables of those from the place on are found
abbrev pub invariant-loop-i : goal.invariant-loop-i
invariant-loop-i l = record {
  within : l.i ≤ length l.tables;
  found : (switch : ℕ) → found_by l.places.items l.tables switch ≡ table_of (drop l.i l.tables) switch;
}

abbrev pub decreases-loop-i : goal.decreases-loop-i
decreases-loop-i l = l.i
