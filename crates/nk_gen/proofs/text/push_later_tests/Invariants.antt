use Rattle.std.proofs.Common.{◌≡◌, ◌++◌, drop}
use Rattle.std.specs.Prelude.{codes}
use Rattle.std.specs.List.{flat_map}
use Rattle.nk_gen.specs.Text.{home_test}
use Rattle.nk_gen.proofs.text.push_later_tests.Given as goal

-- what is made so far, then the rest, is the whole
abbrev pub invariant-loop-home : goal.invariant-loop-home
invariant-loop-home l =
    l.out.items ++ flat_map (λ h. codes " + " ++ home_test h) (drop l.home-index l.homes)
    ≡ l.fn.out.items ++ flat_map (λ h. codes " + " ++ home_test h) l.homes
