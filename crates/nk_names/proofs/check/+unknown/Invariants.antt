use Rattle.std.proofs.Common.{◌≡◌, drop}
use Rattle.nk_grammar.specs.Tree.{trees_of}
use Rattle.nk_names.specs.Meant.{unknown_among}
use Rattle.nk_names.proofs.check.+unknown.Given as goal

-- the first fault is among the parts that are left
abbrev pub invariant-first_unknown_among-loop-q : goal.invariant-first_unknown_among-loop-q
invariant-first_unknown_among-loop-q l =
    unknown_among l.fields l.lets.entries.items (trees_of (drop l.q-index l.parts))
    ≡ unknown_among l.fields l.lets.entries.items (trees_of l.parts)
