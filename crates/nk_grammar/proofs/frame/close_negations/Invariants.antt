use Rattle.std.proofs.Common.{◌≡◌, length}
use Rattle.nk_grammar.specs.Machine.{atom_ended}
use Rattle.nk_grammar.specs.Reader.{stack_of}
use Rattle.nk_grammar.specs.Tree.{Trees, tree_of}
use Rattle.nk_grammar.proofs.frame.close_negations.Given as goal

-- what is left to close comes to the same
abbrev pub invariant-negations : goal.invariant-negations
invariant-negations l = (ts us : Trees)
    → atom_ended (tree_of l.atom) (stack_of l.frames.items) ts us ≡ atom_ended (tree_of l.fn.atom) (stack_of l.fn.frames.items) ts us

abbrev pub decreases-negations : goal.decreases-negations
decreases-negations l = length (stack_of l.frames.items)
