use Rattle.std.proofs.Common.{◌∙◌, ap, sym, subst}
use Rattle.nk_field.specs.Act.{applied, AscendsFrom, act_then}
use Rattle.nk_field.proofs.Thens.{then_ascends, then_applied}
use Rattle.nk_field.proofs.act.Act.then.Goals as goal

pub invariant_of-result : goal.invariant_of-result
invariant_of-result c =
    subst (AscendsFrom 0)
    (sym
    (c.in_ok-sets.ensures ∙ ap (λ x. act_then x c.as_slice-2.result.now) c.as_slice.ensures
    ∙ ap (λ y. act_then c.self.inside.sets y) c.as_slice-2.ensures))
    (then_ascends c.self.inside.sets 0 c.h.inside.sets c.self.invariant c.h.invariant)

pub returns-clause-does : goal.returns-clause-does
returns-clause-does c = λ pk.
    ap (λ a. applied a pk)
    (c.in_ok-sets.ensures ∙ ap (λ x. act_then x c.as_slice-2.result.now) c.as_slice.ensures
    ∙ ap (λ y. act_then c.self.inside.sets y) c.as_slice-2.ensures)
    ∙ then_applied c.self.inside.sets 0 c.h.inside.sets pk c.self.invariant c.h.invariant
    ∙ ap (λ h. applied h (applied c.self.inside.sets pk)) c.h.view_is
    ∙ ap (λ g. applied c.args.h.now (applied g pk)) c.self.view_is
