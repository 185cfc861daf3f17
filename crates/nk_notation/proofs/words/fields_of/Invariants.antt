use Rattle.std.proofs.Common.{◌≡◌, drop, map}
use Rattle.std.specs.Prelude.{string_bytes}
use Rattle.nk_notation.specs.Outward.{named_form}
use Rattle.nk_notation.specs.Words.{fields_of, with_fields}
use Rattle.nk_notation.proofs.words.fields_of.Given as goal

-- the fields so far and those that the words left name are those of all
abbrev pub invariant-loop-word : goal.invariant-loop-word
invariant-loop-word l =
    with_fields (map named_form l.fields.items) (fields_of (map (λ w. string_bytes w) (drop l.word-index l.words)))
    ≡ fields_of (map (λ w. string_bytes w) l.words)
