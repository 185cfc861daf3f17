use Rattle.std.proofs.Common.{◌≡◌, ◌<◌, ◌≤◌, ◌-◌, length}
use Rattle.nk_sets.specs.Outs.{piece}
use Rattle.nk_sets.proofs.Running.{IsLaid}
use Rattle.nk_sets.proofs.groups.run_parts.Given as goal

abbrev pub invariant-loop-parts : goal.invariant-loop-parts
invariant-loop-parts l = record {
  order : l.from ≤ l.k;
  within : l.k < length l.ss;
  out : (piece l.ss l.k).out ≡ (piece l.ss l.from).out;
  following : l.next ≤ (piece l.ss l.k).from;
  laid : IsLaid l.st l.fn.f l.ss l.from l.k l.next l.parts;
}

abbrev pub decreases-loop-parts : goal.decreases-loop-parts
decreases-loop-parts l = length l.ss - l.k
