use Rattle.std.proofs.Common.{◌≡◌, true, eqb, take}
use Rattle.std.specs.List.{list_all}
use Rattle.nk_steps.proofs.plain.leaf_is_plain.Given as goal

-- the outs so far are finals
abbrev pub invariant-loop-o : goal.invariant-loop-o
invariant-loop-o l = list_all (λ o. eqb o.target 0) (take l.o-index l.outs) ≡ true
