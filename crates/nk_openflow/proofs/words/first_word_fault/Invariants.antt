use Rattle.std.proofs.Common.{◌≡◌, ◌+◌, [], drop, take, map, string_bytes}
use Rattle.nk_openflow.specs.Words.{first_word_fault}
use Rattle.nk_openflow.proofs.words.first_word_fault.Given as goal

-- what is passed says nothing
abbrev pub invariant-loop-i : goal.invariant-loop-i
invariant-loop-i l =
    first_word_fault l.base (map (λ w. string_bytes w) (take l.i l.words)) (l.first + l.i) (map (λ w. string_bytes w) (drop l.i l.words))
    ≡ first_word_fault l.base [] l.first (map (λ w. string_bytes w) l.words)
