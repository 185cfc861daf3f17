use Rattle.std.proofs.Common.{◌≡◌, drop}
use Rattle.nk_openflow.specs.Mapping.{mapped_at}
use Rattle.nk_openflow.proofs.mapping.mapped_at.Given as goal

-- what is passed says nothing
abbrev pub invariant-loop-g : goal.invariant-loop-g
invariant-loop-g l =
    (mapped_at (drop l.g-index l.g-items) l.f ≡ mapped_at l.g-items l.f) × (l.g-items ≡ l.mapping.fields)
