use Rattle.std.proofs.Common.{ℕ, List, [], Option, min, subst}
use Rattle.std.specs.Prelude.{slice_index, IfSome}
use Rattle.nk_store.proofs.Stores.{grows_on}
use Rattle.nk_apply.specs.Unions.{HaveParts}
use Rattle.nk_auto.specs.Values.{value_leaf}
use Rattle.nk_auto.proofs.Tested.{constant_grow, values_case}
use Rattle.nk_auto.proofs.values.values_where.Goals as goal

pub value_parts-requires-clause-inside : goal.value_parts-requires-clause-inside
value_parts-requires-clause-inside c = record { leaves = c.in_ok-inside.ensures.ok; root_field_is = c.in_ok-inside.ensures.later }

pub value_parts-requires-clause-outside : goal.value_parts-requires-clause-outside
value_parts-requires-clause-outside c =
    constant_grow c.empty.new.st c.identity.new.st c.in_ok-outside.outside [] c.identity.ensures.grows
    (record { leaves = c.in_ok-outside.ensures.ok; root_field_is = c.in_ok-outside.ensures.later })

pub case-requires : goal.case-requires
case-requires c =
    let st = c.identity.new.st in
    let parts = subst (λ (o : Option (List (ℕ × ℕ))). IfSome o (HaveParts st c.args.f (λ v pk. value_leaf c.args.intervals.now (min v (slice_index st.maxes c.args.f))))) c.in-Some.is c.in_ok-parts.ensures in
    parts.parts

pub returns-in_ok-d-in-Some-clause-ok : goal.returns-in_ok-d-in-Some-clause-ok
returns-in_ok-d-in-Some-clause-ok c =
    let st = c.identity.new.st in
    let parts = subst (λ (o : Option (List (ℕ × ℕ))). IfSome o (HaveParts st c.args.f (λ v pk. value_leaf c.args.intervals.now (min v (slice_index st.maxes c.args.f))))) c.in-Some.is c.in_ok-parts.ensures in
    values_case c.args.st.now st c.case.new.self c.args.f c.in_ok-d-in-Some.d c.args.intervals.now c.in-Some.parts (grows_on _ _ _ c.empty.ensures.grows c.identity.ensures.grows) parts c.in_ok-d-in-Some.ensures.ok
