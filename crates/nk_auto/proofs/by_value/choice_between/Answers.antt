use Rattle.std.proofs.Common.{ℕ, List, Option, min, subst}
use Rattle.std.specs.Prelude.{slice_index, IfSome}
use Rattle.nk_apply.specs.Unions.{HaveParts}
use Rattle.nk_auto.specs.ByValue.{arm_leaf, HaveOwnValues}
use Rattle.nk_auto.proofs.ByValue.{choice_silent}
use Rattle.nk_auto.proofs.by_value.choice_between.Goals as goal

pub returns-in_ok-d-in-Some-clause-ok : goal.returns-in_ok-d-in-Some-clause-ok
returns-in_ok-d-in-Some-clause-ok c = λ p a.
    let st = c.empty.new.st in
    let arms = c.args.arms.now in
    let parts = subst (λ (o : Option (List (ℕ × ℕ))). IfSome o (HaveParts st c.args.f (λ v pk. arm_leaf st arms (min v (slice_index st.maxes c.args.f)) pk))) c.in-Some.is c.in_ok-parts.ensures.parts in
    let alone = subst (λ (o : Option (List (ℕ × ℕ))). IfSome o (λ ps. HaveOwnValues st arms)) c.in-Some.is c.in_ok-parts.ensures.alone in
    choice_silent c.args.st.now st c.case.new.self c.args.f c.in_ok-d-in-Some.d arms c.in-Some.parts p c.empty.ensures.grows c.case.ensures.grows a alone parts c.in_ok-d-in-Some.ensures.ok
