use Rattle.std.proofs.Common.{◌≡◌, ◌++◌, drop}
use Rattle.nk_tabtext.specs.Text.{matches_text}
use Rattle.nk_tabtext.proofs.rules.some_matches.Given as goal

-- what is made so far, then the rest, is the whole
abbrev pub invariant-loop-m : goal.invariant-loop-m
invariant-loop-m l =
    l.out.items ++ matches_text l.fs l.tag (drop l.m-index l.ms) ≡ l.fn.out.items ++ matches_text l.fs l.tag l.ms
