-- What words ask for, by the fault of those that map fields.
use Rattle.std.proofs.Common.{◌≡◌, ◌∙◌, ◌+◌, ◌-◌, ℕ, List, [], ap, sym, drop, take, length, map, string_bytes, Some, String, Global}
use Rattle.std.specs.declared.option.Option.{Option}
use Rattle.std.proofs.lemmas.List.{drop-map}
use Rattle.std.proofs.lemmas.List.{take_rest}
use Rattle.nk_openflow.specs.declared.refusals.WordFault.{WordFault}
use Rattle.nk_openflow.specs.declared.words.Head.{Head}
use Rattle.nk_openflow.specs.Words.{first_word_fault}
use Rattle.nk_openflow_commands.specs.Ends.{asked_by, mapping_words, unless_at_word}

-- the bytes of the words after the first ones
abbrev pub later_bytes : Head → List (String Global) → List (List ℕ)
later_bytes head words = map (λ w. string_bytes w) (take (length words - head.count) (drop head.count words))

-- these words map fields
pub mapping_words_are : (head : Head) (words : List (String Global))
    → mapping_words head (map (λ w. string_bytes w) words) ≡ later_bytes head words
mapping_words_are head words =
    drop-map (λ w. string_bytes w) head.count words ∙ ap (map (λ w. string_bytes w)) (sym (take_rest words head.count))

-- what is asked for, by the first fault of these
pub asked_is : (head : Head) (words : List (String Global)) (r : Option (ℕ × WordFault))
    → r ≡ first_word_fault head.base [] (head.count + 1) (later_bytes head words)
    → asked_by (Some head) (map (λ w. string_bytes w) words) ≡ unless_at_word head r
asked_is head words r e =
    ap (unless_at_word head)
    (ap (λ ws. first_word_fault head.base [] (head.count + 1) ws) (mapping_words_are head words) ∙ sym e)
