use Rattle.std.proofs.Common.{ℕ, List, Option, min, sym, subst}
use Rattle.std.specs.Prelude.{slice_index, IfSome}
use Rattle.std.proofs.lemmas.Option.{IfSome_then}
use Rattle.std.proofs.lemmas.Result.{IfOk-weaker}
use Rattle.nk_policy.specs.Policy.{sum_of}
use Rattle.nk_policy.specs.Tree.{trees_of}
use Rattle.nk_auto.specs.Values.{KeepsWhere}
use Rattle.nk_auto.proofs.Tested.{values_silent, values_pass}
use Rattle.nk_auto.proofs.values.tests_of.Goals as goal

pub returns-in-Some-clause-ok : goal.returns-in-Some-clause-ok
returns-in-Some-clause-ok c =
    let p = sum_of (trees_of c.args.ps.now) in
    let keeps = subst (λ (o : Option (List (ℕ × ℕ))). IfSome o (λ intervals. KeepsWhere c.args.f intervals p)) c.in-Some.is c.in_ok-intervals.ensures in
    IfOk-weaker c.values_where.result _ _
    (λ o h. IfSome_then o h (λ d k. values_silent c.values_where.new.st c.args.st.now.maxes d c.args.f c.as_slice.result.now p c.values_where.ensures.grows.maxes k
    (subst (λ (intervals : List (ℕ × ℕ)). KeepsWhere c.args.f intervals p) (sym c.as_slice.ensures) keeps)))
    c.values_where.ensures.ok

pub returns-in-Some-clause-predicate : goal.returns-in-Some-clause-predicate
returns-in-Some-clause-predicate c =
    IfOk-weaker c.values_where.result _ _
    (λ o h. IfSome_then o h (λ d k. values_pass c.values_where.new.st d c.as_slice.result.now (λ pk. min (slice_index pk c.args.f) (slice_index c.args.st.now.maxes c.args.f)) k))
    c.values_where.ensures.ok
