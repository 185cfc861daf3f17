use Rattle.std.proofs.Common.{◌≡◌, drop, map, string_bytes}
use Rattle.std.specs.List.{list_any}
use Rattle.nk_openflow.specs.Words.{clashes}
use Rattle.nk_openflow.proofs.words.some_clash.Given as goal

-- what is passed says nothing
abbrev pub invariant-loop-word : goal.invariant-loop-word
invariant-loop-word l =
    list_any (clashes l.field) (map (λ w. string_bytes w) (drop l.word-index l.words))
    ≡ list_any (clashes l.field) (map (λ w. string_bytes w) l.words)
