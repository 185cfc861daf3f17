use Rattle.std.proofs.Common.{drop}
use Rattle.nk_policy.specs.Tree.{trees_of}
use Rattle.nk_auto.specs.Continued.{AreFit}
use Rattle.nk_deriv.specs.Part.{AllNegatePredicates}
use Rattle.nk_diagram_tests.proofs.automata.+fits.Given as goal

-- where that holds of the parts that are left, it holds of all
abbrev pub invariant-all_fit-loop-q : goal.invariant-all_fit-loop-q
invariant-all_fit-loop-q l = record {
  fit : AreFit l.st.maxes (trees_of (drop l.q-index l.ps)) → AreFit l.st.maxes (trees_of l.ps);
  complements : AllNegatePredicates (trees_of (drop l.q-index l.ps)) → AllNegatePredicates (trees_of l.ps);
}
