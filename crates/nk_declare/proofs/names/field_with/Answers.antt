use Rattle.std.proofs.Common.{◌≡◌, ◌<◌, true, false, Some, length, get_or, [], sym, ap, ◌∙◌, arith}
use Rattle.std.proofs.lemmas.List.{drop_all}
use Rattle.std.specs.List.{position_from}
use Rattle.std.specs.Str.{bytes_eq}
use Rattle.nk_declare.proofs.Places.{passes_here, fails_here, from_front}
use Rattle.nk_declare.proofs.names.field_with.Goals as goal

pub returns-then-eq-clause-is : goal.returns-then-eq-clause-is
returns-then-eq-clause-is c =
    let names = c.args.fields.now.names in
    let within : c.loop-place.place < length names = omega (arith, c.declared-declared.ensures.is.named, c.len-place-end.ensures) in
    let name : c.name.result.now ≡ get_or names c.loop-place.place [] = c.name.ensures ∙ ap (λ k. get_or names k []) c.new-field.ensures in
    let same : bytes_eq c.args.name.now c.name.result.now ≡ true =
    ap (bytes_eq c.args.name.now) (sym c.as_bytes.ensures.value) ∙ sym c.if-eq.ensures in
    ap Some c.new-field.ensures
    ∙ sym (passes_here (bytes_eq c.args.name.now) names c.loop-place.place c.name.result.now [] within name same)
    ∙ c.loop-place.invariant ∙ from_front (bytes_eq c.args.name.now) names

pub returns-clause-is : goal.returns-clause-is
returns-clause-is c =
    let names = c.args.fields.now.names in
    ap (position_from (bytes_eq c.args.name.now) c.loop-place.place) (sym (drop_all c.loop-place.place names (omega (arith, c.declared-declared.ensures.is.named, c.len-place-end.ensures))))
    ∙ c.loop-place.invariant ∙ from_front (bytes_eq c.args.name.now) names

pub loop-place-preserved : goal.loop-place-preserved
loop-place-preserved c =
    let names = c.args.fields.now.names in
    let within : c.loop-place.place < length names = omega (arith, c.declared-declared.ensures.is.named, c.len-place-end.ensures) in
    let name : c.name.result.now ≡ get_or names c.loop-place.place [] = c.name.ensures ∙ ap (λ k. get_or names k []) c.new-field.ensures in
    let other : bytes_eq c.args.name.now c.name.result.now ≡ false =
    ap (bytes_eq c.args.name.now) (sym c.as_bytes.ensures.value) ∙ sym c.if-eq.ensures in
    sym (fails_here (bytes_eq c.args.name.now) names c.loop-place.place c.name.result.now [] within name other)
    ∙ c.loop-place.invariant
