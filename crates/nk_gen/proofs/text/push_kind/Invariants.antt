use Rattle.std.proofs.Common.{◌≡◌, ◌++◌, drop}
use Rattle.std.specs.List.{flat_map}
use Rattle.nk_gen.specs.Text.{link_line}
use Rattle.nk_gen.proofs.text.push_kind.Given as goal

-- what is made so far, then the rest, is the whole
abbrev pub invariant-loop-link : goal.invariant-loop-link
invariant-loop-link l =
    l.out.items ++ flat_map link_line (drop l.link-index l.links)
    ≡ l.fn.out.items ++ flat_map link_line l.links
