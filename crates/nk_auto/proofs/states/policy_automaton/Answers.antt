use Rattle.std.proofs.Common.{◌≡◌, subst, sym, ◌+◌, [], ◌∷◌, arith, length}
use Rattle.nk_policy.specs.Policy.{dups_of}
use Rattle.nk_policy.specs.Tree.{tree_of}
use Rattle.nk_apply.specs.Seqs.{no_out}
use Rattle.nk_auto.specs.Continued.{IsFit}
use Rattle.nk_auto.proofs.Grown.{leaves_grow}
use Rattle.nk_auto.proofs.Stating.{automaton_is}
use Rattle.nk_auto.proofs.states.policy_automaton.Goals as goal

pub returns-clause-ok : goal.returns-clause-ok
returns-clause-ok c = λ fit.
    let st = c.continued_with_states.new.st in
    let p = tree_of c.args.p.now in
    let many : length c.in_ok-states.states ≡ dups_of p + 1 = omega (arith, c.in_ok-states.ensures, c.dups-count.ensures, c.requires.few) in
    automaton_is st c.in_ok-states.states c.continued_with_states.new.states c.put.new.self c.args.first c.in_ok-start.start c.in_ok-end.end p
    c.requires.from c.requires.numbered many c.in_ok-start.ensures.written c.in_ok-start.ensures.ok
    (leaves_grow c.identity.new.st st c.in_ok-end.end (λ pk. no_out ∷ []) c.continued_with_states.ensures.grows c.in_ok-end.ensures.ok)
    c.put.ensures
    (subst (λ m. IsFit m p) (sym c.continued_with_states.ensures.grows.maxes) (subst (λ m. IsFit m p) (sym c.identity.ensures.grows.maxes) fit))
