use Rattle.std.proofs.Common.{◌≡◌, ◌+◌, drop}
use Rattle.std.specs.Prelude.{nat_lt}
use Rattle.std.specs.List.{prefix_len}
use Rattle.nk_tabtext.proofs.values.place_of.Given as goal

-- all fields so far are lower
abbrev pub invariant-loop-f : goal.invariant-loop-f
invariant-loop-f l =
    (l.place ≡ l.f-index)
    × (l.place + prefix_len (λ x. nat_lt x.0 l.fn.field) (drop l.f-index l.matches) ≡ prefix_len (λ x. nat_lt x.0 l.fn.field) l.matches)
