use Rattle.std.proofs.Common.{◌≡◌, drop}
use Rattle.nk_policy.proofs.Trees.{joined}
use Rattle.nk_names.specs.Body.{policies_in}
use Rattle.nk_names.proofs.Building.{meant}
use Rattle.nk_names.proofs.build.+build.Given as goal

-- the bodies made so far, then what is left, are all
abbrev pub invariant-all_built-loop-q : goal.invariant-all_built-loop-q
invariant-all_built-loop-q l =
    joined (policies_in l.out.items) (meant l.fields l.lets.entries.items (drop l.q-index l.parts))
    ≡ meant l.fields l.lets.entries.items l.parts
