use Rattle.std.proofs.Common.{◌≡◌, ◌-◌, length, take}
use Rattle.nk_steps.specs.Plain.{fields_in}
use Rattle.nk_steps.proofs.plain.assigns_same.Given as goal

-- the fields so far are the same
abbrev pub invariant-loop-i : goal.invariant-loop-i
invariant-loop-i l = fields_in (take l.i l.a) ≡ fields_in (take l.i l.b)

abbrev pub decreases-loop-i : goal.decreases-loop-i
decreases-loop-i l = length l.a - l.i
