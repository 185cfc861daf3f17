use Rattle.std.proofs.Common.{◌≡◌, ◌∙◌, List, ℕ, None, sym, ap, subst, refl, arith}
use Rattle.std.specs.Prelude.{option_map}
use Rattle.nk_policy.specs.Tree.{tree_of}
use Rattle.nk_runs.proofs.Stands.{are_states}
use Rattle.nk_compile.specs.Levelled.{IsLevelled}
use Rattle.nk_compile.specs.Preparing.{IsEarlyError}
use Rattle.nk_compile.specs.Ready.{IsBegun}
use Rattle.nk_compile.specs.Refusals.{static_refusal_with}
use Rattle.nk_compile.specs.declared.refusal.Refusal.TheVariants.{Static}
use Rattle.nk_compile.proofs.PolicyAutomaton.{begun_is}
use Rattle.nk_compile.proofs.ProgramFits.{places_high}
use Rattle.nk_compile.proofs.Levelled.{least_off}
use Rattle.nk_compile.proofs.CompileErrors.{refused_with, off_error}
use Rattle.nk_compile.proofs.tables.prepare.Goals as goal

-- nothing is seen
none : (c : goal.After-as_slice) → static_refusal_with c.args.tag c.args.topo.now (tree_of c.args.p.now) ≡ None
none c = ap (option_map Static) (sym c.static_fault.ensures ∙ c.in_default.is)

begun : (c : goal.After-as_slice) (states : List ℕ) → states ≡ c.in_ok-states.states → IsBegun c.args.fields.now c.args.topo.now c.args.tag (tree_of c.args.p.now) c.policy_automaton.new.st states
begun c states same =
    begun_is c.args.fields.now c.args.topo.now c.args.tag (tree_of c.args.p.now) c.in_ok-store.store c.policy_automaton.new.st c.in_ok-states.states states
    c.declared-few.ensures.is c.requires.tag c.switches-switches.ensures.is c.requires.held.numbered (none c) c.in_ok-store.ensures.over c.policy_automaton.ensures.grows
    c.in_ok-states.ensures.ok same c.requires.held.complements c.requires.held.in_range c.requires.room

pub levels_from-requires-clause-switch : goal.levels_from-requires-clause-switch
levels_from-requires-clause-switch c =
    let b = begun c c.as_slice.result.now c.as_slice.ensures in
    (places_high c.args.fields.now c.policy_automaton.new.st c.args.tag b.clear.table b.over b.clear.tag_is).0

pub levels_from-requires-clause-port : goal.levels_from-requires-clause-port
levels_from-requires-clause-port c =
    let b = begun c c.as_slice.result.now c.as_slice.ensures in
    (places_high c.args.fields.now c.policy_automaton.new.st c.args.tag b.clear.table b.over b.clear.tag_is).1

pub levels_from-requires-clause-states : goal.levels_from-requires-clause-states
levels_from-requires-clause-states c =
    are_states c.policy_automaton.new.st c.as_slice.result.now (tree_of c.args.p.now) (begun c c.as_slice.result.now c.as_slice.ensures).automaton

pub levels_from-requires-clause-start : goal.levels_from-requires-clause-start
levels_from-requires-clause-start c = let b = begun c c.as_slice.result.now c.as_slice.ensures in let n = b.automaton.count in omega (arith, n)

pub returns-in_err-levels-clause-err : goal.returns-in_err-levels-clause-err
returns-in_err-levels-clause-err c =
    let nothing = ap (option_map Static) (sym c.static_fault.ensures ∙ c.in_default.is) in
    let b =
    begun_is c.args.fields.now c.args.topo.now c.args.tag (tree_of c.args.p.now) c.in_ok-store.store c.policy_automaton.new.st c.in_ok-states.states c.as_slice.result.now
    c.declared-few.ensures.is c.requires.tag c.switches-switches.ensures.is c.requires.held.numbered nothing c.in_ok-store.ensures.over c.policy_automaton.ensures.grows
    c.in_ok-states.ensures.ok c.as_slice.ensures c.requires.held.complements c.requires.held.in_range c.requires.room in
    refused_with c.from_residual-in_err-levels.result c.in_err-levels.field-0.0 (IsEarlyError c.args.fields.now c.args.topo.now (tree_of c.args.p.now)) c.from_residual-in_err-levels.ensures.1
    (off_error c.args.fields.now c.args.topo.now c.args.tag (tree_of c.args.p.now) c.requires.tag nothing c.policy_automaton.new.st c.as_slice.result.now c.in_err-levels.field-0.0
    (λ f k. least_off c.args.fields.now c.args.topo.now c.args.tag (tree_of c.args.p.now) c.policy_automaton.new.st c.as_slice.result.now b.clear b.over b.automaton f k)
    c.in_err-levels.ensures.err)

pub returns-clause-ok : goal.returns-clause-ok
returns-clause-ok c = record {
  before = c.policy_automaton.new.st;
  begun =
      begun_is c.args.fields.now c.args.topo.now c.args.tag (tree_of c.args.p.now) c.in_ok-store.store c.policy_automaton.new.st c.in_ok-states.states c.in_ok-states.states
      c.declared-few.ensures.is c.requires.tag c.switches-switches.ensures.is c.requires.held.numbered (ap (option_map Static) (sym c.static_fault.ensures ∙ c.in_default.is)) c.in_ok-store.ensures.over
      c.policy_automaton.ensures.grows c.in_ok-states.ensures.ok refl c.requires.held.complements c.requires.held.in_range c.requires.room;
  levelled =
      subst (λ l. IsLevelled c.args.topo.now c.args.tag c.policy_automaton.new.st l c.levels_from.new.st c.levels_from.new.ss c.in_ok-levels.levels.levels c.in_ok-levels.levels.broken)
      c.as_slice.ensures c.in_ok-levels.ensures.ok;
  whole = c.in_ok-levels.ensures.whole;
  differ = c.differ.ensures.differ;
}
