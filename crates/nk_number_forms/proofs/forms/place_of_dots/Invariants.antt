use Rattle.std.proofs.Common.{◌≡◌, ◌+◌, ◌-◌, ◌≤◌, drop, length}
use Rattle.nk_number_forms.specs.Forms.{place_of_dots}
use Rattle.nk_number_forms.proofs.forms.place_of_dots.Given as goal

-- no `..` stands in the bytes so far
abbrev pub invariant-bytes : goal.invariant-bytes
invariant-bytes l = record {
  within : l.at ≤ length l.text;
  none : l.at + place_of_dots (drop l.at l.text) ≡ place_of_dots l.text;
}

abbrev pub decreases-bytes : goal.decreases-bytes
decreases-bytes l = length l.text - l.at
