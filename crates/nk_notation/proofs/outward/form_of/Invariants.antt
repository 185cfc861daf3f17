use Rattle.std.proofs.Common.{◌≡◌, drop, map}
use Rattle.nk_notation.specs.Outward.{form_of, named_form}
use Rattle.nk_notation.proofs.outward.form_of.Given as goal

-- no field so far has the name
abbrev pub invariant-loop-field : goal.invariant-loop-field
invariant-loop-field l = form_of (map named_form (drop l.field-index l.fields)) l.name ≡ form_of (map named_form l.fields) l.name
