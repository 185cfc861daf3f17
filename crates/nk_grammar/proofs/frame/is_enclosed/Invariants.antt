use Rattle.std.proofs.Common.{◌≡◌, ◌≤◌, length, take}
use Rattle.nk_grammar.specs.Reader.{encloses, stack_of}
use Rattle.nk_grammar.proofs.frame.is_enclosed.Given as goal

-- what is left to look at decides
abbrev pub invariant-negations : goal.invariant-negations
invariant-negations l = record {
  left : l.left ≤ length l.frames;
  decides : encloses (stack_of l.frames) ≡ encloses (stack_of (take l.left l.frames));
}

abbrev pub decreases-negations : goal.decreases-negations
decreases-negations l = l.left
