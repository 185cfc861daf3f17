use Rattle.std.proofs.Common.{ℕ, Option, subst}
use Rattle.std.specs.Prelude.{IfSome}
use Rattle.nk_policy.specs.Tree.{tree_of}
use Rattle.nk_policy.specs.Policy.{not_of}
use Rattle.nk_store.proofs.Stores.{grows_on}
use Rattle.nk_apply.specs.Predicates.{IsPredicate}
use Rattle.nk_auto.specs.Continued.{IsSilent}
use Rattle.nk_auto.proofs.Silences.{not_silent, twice_silent}
use Rattle.nk_auto.proofs.silence.silent_predicate.Goals as goal

pub returns-in-Some-clause-ok : goal.returns-in-Some-clause-ok
returns-in-Some-clause-ok c =
    subst (λ (o : Option ℕ). IfSome o (λ d. IsSilent c.tests_of_sum.new.st d (tree_of c.args.p.now))) c.in-Some.is c.in_ok-together.ensures.ok

pub returns-in-Some-clause-predicate : goal.returns-in-Some-clause-predicate
returns-in-Some-clause-predicate c =
    subst (λ (o : Option ℕ). IfSome o (λ d. IsPredicate c.tests_of_sum.new.st d)) c.in-Some.is c.in_ok-together.ensures.predicate

pub returns-clause-ok : goal.returns-clause-ok
returns-clause-ok c =
    let p = tree_of c.args.p.now in
    let once = not_silent c.silent.new.st c.negate.new.st c.in_ok-d.d c.in_ok-others.others p c.negate.ensures.grows c.in_ok-d.ensures.ok c.in_ok-others.ensures.ok in
    let twice = not_silent c.negate.new.st c.negate-2.new.st c.in_ok-others.others c.in_ok-r.r (not_of p) c.negate-2.ensures.grows once c.in_ok-r.ensures.ok in
    twice_silent c.silent.new.st c.negate-2.new.st c.in_ok-d.d c.in_ok-r.r p c.requires (grows_on _ _ _ c.negate.ensures.grows c.negate-2.ensures.grows) c.in_ok-d.ensures.ok twice
