use Rattle.std.proofs.Common.{◌≡◌, ℕ, ◌+◌, ◌<◌, false, true, List, ◌∷◌, length, get_or, map, drop, sym, ap, subst, ◌∙◌, rules, String, Global}
use Rattle.std.specs.Prelude.{string_bytes}
use Rattle.std.proofs.lemmas.List.{at_drop_more, at_drop_all}
use Rattle.nk_notation.specs.Outward.{NamedForms, named_form}
use Rattle.nk_notation.specs.Words.{IsPushed, field_of, fields_of, with_fields}
use Rattle.nk_notation.proofs.Fields.{pushed_none, pushed_one, with_last, with_none}
use Rattle.nk_notation.proofs.words.fields_of.Goals as goal

-- the word at a place, and those after it
turn : (fields : NamedForms) (ws : List (String Global)) (i : ℕ) (word : String Global) → i < length ws → word ≡ get_or ws i word
    → with_fields fields (fields_of (map (λ w. string_bytes w) (drop i ws))) ≡ with_fields fields (fields_of (string_bytes word ∷ map (λ w. string_bytes w) (drop (i + 1) ws)))
turn fields ws i word lt is =
    at_drop_more (λ vs. with_fields fields (fields_of (map (λ w. string_bytes w) vs))) ws i word lt
    ∙ ap (λ x. with_fields fields (fields_of (string_bytes x ∷ map (λ w. string_bytes w) (drop (i + 1) ws)))) (sym is)

pub loop-word-init : goal.loop-word-init
loop-word-init c =
    ap (λ fs. with_fields (map named_form fs) (fields_of (map (λ w. string_bytes w) c.args.words.now))) c.new-fields.ensures.items ∙ with_none _

pub returns-then-not-pushed : goal.returns-then-not-pushed
returns-then-not-pushed c =
    let same : c.deref.result.now ≡ string_bytes c.word-item.result = search rules in
    let none : IsPushed c.in_ok-pushed.pushed (map named_form c.loop-word.fields.items) (map named_form c.push_field.new.fields.items) (field_of c.deref.result.now) = c.in_ok-pushed.ensures in
    sym (pushed_none (map named_form c.loop-word.fields.items) (map named_form c.push_field.new.fields.items) (string_bytes c.word-item.result) _
    (subst (λ w. IsPushed false (map named_form c.loop-word.fields.items) (map named_form c.push_field.new.fields.items) (field_of w)) same
    (subst (λ b. IsPushed b (map named_form c.loop-word.fields.items) (map named_form c.push_field.new.fields.items) (field_of c.deref.result.now)) c.if-not-pushed.true none)))
    ∙ sym (turn (map named_form c.loop-word.fields.items) c.args.words.now c.loop-word.word-index c.word-item.result c.loop-word-test.true c.word-item.is)
    ∙ c.loop-word.invariant

pub loop-word-preserved : goal.loop-word-preserved
loop-word-preserved c =
    let same : c.deref.result.now ≡ string_bytes c.word-item.result = search rules in
    let one : IsPushed c.in_ok-pushed.pushed (map named_form c.loop-word.fields.items) (map named_form c.push_field.new.fields.items) (field_of c.deref.result.now) = c.in_ok-pushed.ensures in
    sym (pushed_one (map named_form c.loop-word.fields.items) (map named_form c.push_field.new.fields.items) (string_bytes c.word-item.result) _
    (subst (λ w. IsPushed true (map named_form c.loop-word.fields.items) (map named_form c.push_field.new.fields.items) (field_of w)) same
    (subst (λ b. IsPushed b (map named_form c.loop-word.fields.items) (map named_form c.push_field.new.fields.items) (field_of c.deref.result.now)) c.if-not-pushed.false one)))
    ∙ sym (turn (map named_form c.loop-word.fields.items) c.args.words.now c.loop-word.word-index c.word-item.result c.loop-word-test.true c.word-item.is)
    ∙ c.loop-word.invariant

pub returns : goal.returns
returns c =
    sym (with_last (map named_form c.loop-word.fields.items))
    ∙ sym (at_drop_all (λ vs. with_fields (map named_form c.loop-word.fields.items) (fields_of (map (λ w. string_bytes w) vs))) c.args.words.now c.loop-word.word-index c.loop-word-test.false)
    ∙ c.loop-word.invariant
