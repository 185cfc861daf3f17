use Rattle.std.proofs.Common.{◌≡◌, ◌+◌, [], drop, map, string_bytes}
use Rattle.nk_openflow.specs.Mapping.{mapped_pairs}
use Rattle.nk_openflow.proofs.mapping.mapping_of.Given as goal

-- the pairs of the words that are left, after those so far, are all
abbrev pub invariant-loop-i : goal.invariant-loop-i
invariant-loop-i l =
    mapped_pairs l.fs l.fields (l.first + l.i) (map (λ w. string_bytes w) (drop l.i l.words)) ≡ mapped_pairs l.fs [] l.first (map (λ w. string_bytes w) l.words)
