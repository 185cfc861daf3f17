use Rattle.std.proofs.Common.{◌≡◌, ◌++◌, drop}
use Rattle.std.specs.List.{flat_map}
use Rattle.nk_topo.specs.Topology.{ports_of}
use Rattle.nk_tabtext.specs.Text.{switch_text}
use Rattle.nk_tabtext.proofs.head.switch_lines.Given as goal

-- what is made so far, then the rest, is the whole
abbrev pub invariant-loop-n : goal.invariant-loop-n
invariant-loop-n l =
    l.out.items ++ flat_map (λ n. switch_text (record { switch = n; ports = ports_of l.topo n })) (drop l.n-index l.numbers)
    ≡ l.fn.out.items ++ flat_map (λ n. switch_text (record { switch = n; ports = ports_of l.topo n })) l.numbers
