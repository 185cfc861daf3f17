use Rattle.std.proofs.Common.{◌≡◌, ℕ, not, Some, false, [], ◌∷◌, ◌++◌, sym, ap, subst, ◌∙◌, arith}
use Rattle.std.specs.Prelude.{◌==◌}
use Rattle.std.specs.List.{list_any}
use Rattle.std.proofs.lemmas.Grind.{common_steps}
use Rattle.nk_topo.specs.Topology.{has_double}
use Rattle.nk_declare.specs.declared.fault.DeclareFault.TheVariants as fault
use Rattle.nk_declare.specs.Declarations.{IsFirstFault, port_fault}
use Rattle.nk_declare.proofs.Checks.{is_first, not_wrong, once_more, one_refused, refused_with, seen_more, stands_before}
use Rattle.nk_declare.proofs.check.Ports.add.Goals as goal

pub returns-in_err-refuse_if-clause-fault : goal.returns-in_err-refuse_if-clause-fault
returns-in_err-refuse_if-clause-fault c =
    let p = c.args.p in
    let before = stands_before c.in_ok-new.new p.value c.in_ok-number.number c.self.inside.seen.keys c.self.inside.numbers.items c.in_ok-new.ensures.added c.self.invariant.1 c.in_ok-number.ensures.value in
    let first : port_fault c.args.self.now p ≡ Some c.in_err-refuse_if.field-0.0 =
    ap (λ l. port_fault l p) (sym c.self.view_is)
    ∙ one_refused c.self.inside.numbers.items p (not c.in_ok-new.new) c.in_ok-number.ensures.fault before
    ∙ c.in_err-refuse_if.ensures in
    refused_with c.from_residual-in_err-refuse_if.result c.in_err-refuse_if.field-0.0 _ (λ d. IsFirstFault d (port_fault c.args.self.now p)) c.from_residual-in_err-refuse_if.ensures.1 (is_first c.in_err-refuse_if.field-0.0 _ first)

pub invariant_of-self-2 : goal.invariant_of-self-2
invariant_of-self-2 c =
    let p = c.args.p in
    let before = stands_before c.in_ok-new.new p.value c.in_ok-number.number c.self.inside.seen.keys c.self.inside.numbers.items c.in_ok-new.ensures.added c.self.invariant.1 c.in_ok-number.ensures.value in
    let new : list_any (λ q. p.value == q) c.self.inside.numbers.items ≡ false =
    sym before ∙ not_wrong (not c.in_ok-new.new) fault.PortTwice p.line c.in_ok-refuse_if.ensures in
    let more : c.push.new.self.items ≡ c.self.inside.numbers.items ++ p.value ∷ [] = grind (arith, common_steps) in (
      subst (λ l. has_double l ≡ false) (sym more) (once_more c.self.inside.numbers.items p.value c.self.invariant.0 new),
      subst (λ l. (q : ℕ) → list_any (λ r. q == r) l ≡ list_any (λ r. q == r) c.insert.new.self.keys) (sym more)
          (seen_more c.self.inside.numbers.items c.self.inside.seen.keys c.insert.new.self.keys p.value c.in_ok-number.number c.in_ok-number.ensures.value c.self.invariant.1 c.in_ok-new.ensures.updates.0),
    )

pub returns-clause-fault : goal.returns-clause-fault
returns-clause-fault c =
    let p = c.args.p in
    let before = stands_before c.in_ok-new.new p.value c.in_ok-number.number c.self.inside.seen.keys c.self.inside.numbers.items c.in_ok-new.ensures.added c.self.invariant.1 c.in_ok-number.ensures.value in
    ap (λ l. port_fault l p) (sym c.self.view_is)
    ∙ one_refused c.self.inside.numbers.items p (not c.in_ok-new.new) c.in_ok-number.ensures.fault before
    ∙ c.in_ok-refuse_if.ensures
