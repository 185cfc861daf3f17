use Rattle.std.proofs.Common.{ℕ, Option, sym, subst}
use Rattle.std.specs.Prelude.{IfSome}
use Rattle.nk_policy.specs.Policy.{assign}
use Rattle.nk_store.specs.StoreState.{StoreState}
use Rattle.nk_auto.specs.Continued.{IsSilent}
use Rattle.nk_auto.specs.ByValue.{AreAssignments}
use Rattle.nk_auto.proofs.DrawnAssignments.{assignments_grow}
use Rattle.nk_auto.proofs.assignments.drawn_once.Goals as goal

pub returns-in-Some-clause-ok : goal.returns-in-Some-clause-ok
returns-in-Some-clause-ok c =
    let known = subst (λ (o : Option ℕ). IfSome o (λ d. (st : StoreState) → AreAssignments st c.as_slice.result.now → IsSilent st d (assign c.args.f c.args.n))) c.in-Some.is c.remembered.ensures in
    known c.args.st.now (subst (AreAssignments c.args.st.now) (sym c.as_slice.ensures) c.requires)

pub returns-clause-drawn : goal.returns-clause-drawn
returns-clause-drawn c =
    c.in_ok-remember.ensures c.silent_set.new.st (assignments_grow c.args.st.now c.silent_set.new.st c.args.drawn.now c.silent_set.ensures.grows c.requires) c.in_ok-d.ensures.ok
