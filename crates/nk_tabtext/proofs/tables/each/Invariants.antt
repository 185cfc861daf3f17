use Rattle.std.proofs.Common.{◌≡◌, ◌<◌, ◌≤◌, ℕ, take, map, length}
use Rattle.std.specs.Prelude.{slice_index}
use Rattle.nk_tabtext.specs.Values.{table_for}
use Rattle.nk_tabtext.proofs.tables.each.Given as goal

-- the tables so far are those of the first switches, and those of the others are there
abbrev pub invariant-loop-switch : goal.invariant-loop-switch
invariant-loop-switch l = record {
  done : l.all ≡ map (table_for l.fn.tables.entries) (take l.switch-index l.switches);
  left : (k : ℕ) → l.switch-index ≤ k → k < length l.switches → table_for l.tables.entries (slice_index l.switches k) ≡ table_for l.fn.tables.entries (slice_index l.switches k);
}
