use Rattle.std.proofs.Common.{take, drop}
use Rattle.nk_policy.specs.Policy.{sum_of}
use Rattle.nk_policy.specs.Tree.{trees_of}
use Rattle.nk_deriv.specs.Part.{AllNegatePredicates}
use Rattle.nk_deriv.specs.Turns.{ArePartsOf}
use Rattle.nk_deriv.proofs.Collected.{IsSumming}
use Rattle.nk_deriv.proofs.first.+first.Given as goal

-- the terms and legs so far, and then the parts that are left, come to the whole sum
abbrev pub invariant-collected_any-loop-q : goal.invariant-collected_any-loop-q
invariant-collected_any-loop-q l =
    IsSumming l.fn.legs l.legs (sum_of (trees_of l.frees.items)) (trees_of (drop l.q-index l.ps)) (trees_of l.ps)

-- the policies so far have their parts
abbrev pub invariant-parts_of_all-loop-q : goal.invariant-parts_of_all-loop-q
invariant-parts_of_all-loop-q l = record {
  made : ArePartsOf l.states (trees_of (take l.q-index l.ps));
  complements : AllNegatePredicates (trees_of (drop l.q-index l.ps));
}
