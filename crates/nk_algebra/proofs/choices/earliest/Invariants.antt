use Rattle.std.proofs.Common.{◌≡◌, ◌<◌, drop}
use Rattle.nk_algebra.specs.Choices.{first_of}
use Rattle.nk_algebra.proofs.choices.earliest.Given as goal

abbrev pub invariant-loop-i : goal.invariant-loop-i
invariant-loop-i l = record {
  field : l.first < 18;
  rest : first_of l.st l.first (drop l.i l.parts) ≡ first_of l.st l.fn.f l.parts;
}
