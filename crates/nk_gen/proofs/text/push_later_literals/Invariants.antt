use Rattle.std.proofs.Common.{◌≡◌, ◌++◌, drop}
use Rattle.std.specs.Prelude.{codes}
use Rattle.std.specs.List.{flat_map}
use Rattle.nk_gen.specs.Text.{literal}
use Rattle.nk_gen.proofs.text.push_later_literals.Given as goal

-- what is made so far, then the rest, is the whole
abbrev pub invariant-loop-link : goal.invariant-loop-link
invariant-loop-link l =
    l.out.items ++ flat_map (λ k. codes " + " ++ literal k) (drop l.link-index l.links)
    ≡ l.fn.out.items ++ flat_map (λ k. codes " + " ++ literal k) l.links
