use Rattle.std.proofs.Common.{◌≡◌, take}
use Rattle.std.specs.Prelude.{map}
use Rattle.nk_topo.proofs.topo.copies.Given as goal

-- the lists so far are copied
abbrev pub invariant-loop-list : goal.invariant-loop-list
invariant-loop-list l = map (λ p. p.items) l.all.items ≡ map (λ p. p.items) (take l.list-index l.lists)
