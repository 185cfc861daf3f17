use Rattle.std.proofs.Common.{◌≡◌, drop}
use Rattle.std.specs.List.{position_from}
use Rattle.std.specs.Str.{bytes_eq}
use Rattle.nk_declare.proofs.names.field_with.Given as goal

-- the name is none of the fields so far
abbrev pub invariant-loop-place : goal.invariant-loop-place
invariant-loop-place l =
    position_from (bytes_eq l.fn.name) l.place (drop l.place l.fields.names)
    ≡ position_from (bytes_eq l.fn.name) 0 l.fields.names
