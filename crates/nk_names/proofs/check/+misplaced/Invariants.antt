use Rattle.std.proofs.Common.{◌≡◌, drop}
use Rattle.nk_grammar.specs.Tree.{trees_of}
use Rattle.nk_names.specs.Meant.{misplaced_among}
use Rattle.nk_names.proofs.check.+misplaced.Given as goal

-- the first fault is among the parts that are left
abbrev pub invariant-first_misplaced_among-loop-q : goal.invariant-first_misplaced_among-loop-q
invariant-first_misplaced_among-loop-q l =
    misplaced_among l.fields l.lets.entries.items (trees_of (drop l.q-index l.parts))
    ≡ misplaced_among l.fields l.lets.entries.items (trees_of l.parts)
