use Rattle.std.proofs.Common.{◌≡◌, ◌++◌, drop}
use Rattle.std.specs.Prelude.{codes}
use Rattle.std.specs.Fmt.{decimal}
use Rattle.std.specs.List.{flat_map}
use Rattle.nk_tabtext.proofs.head.after_commas.Given as goal

-- what is made so far, then the rest, is the whole
abbrev pub invariant-loop-port : goal.invariant-loop-port
invariant-loop-port l =
    l.out.items ++ flat_map (λ q. codes "," ++ decimal q) (drop l.port-index l.ports)
    ≡ l.fn.out.items ++ flat_map (λ q. codes "," ++ decimal q) l.ports
