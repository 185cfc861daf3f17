use Rattle.std.proofs.Common.{◌≡◌, ◌++◌, drop}
use Rattle.std.specs.List.{flat_map}
use Rattle.nk_topo.specs.Inside.{link_of}
use Rattle.nk_tabtext.specs.Text.{link_text}
use Rattle.nk_tabtext.proofs.head.links.Given as goal

-- what is made so far, then the rest, is the whole
abbrev pub invariant-loop-l : goal.invariant-loop-l
invariant-loop-l l =
    l.out.items ++ flat_map (λ k. link_text (link_of k)) (drop l.l-index l.links)
    ≡ l.fn.out.items ++ flat_map (λ k. link_text (link_of k)) l.links
