use Rattle.std.proofs.Common.{◌≡◌, drop}
use Rattle.nk_field.specs.Act.{applied}
use Rattle.nk_field.proofs.act.Act.apply.Given as goal

abbrev pub invariant-loop-f : goal.invariant-loop-f
invariant-loop-f l = applied (drop l.f-index l.self) l.to ≡ applied l.self l.p
