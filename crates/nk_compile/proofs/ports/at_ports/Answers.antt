use Rattle.std.proofs.Common.{ℕ, ◌<◌, ◌∙◌, true, false, refl, sym, ap, subst, map, get_or}
use Rattle.std.specs.Prelude.{AllPairs}
use Rattle.std.proofs.lemmas.List.{take_all}
use Rattle.std.proofs.lemmas.Result.{IfOk-weaker}
use Rattle.nk_store.proofs.Stores.{grows_on}
use Rattle.nk_compile.proofs.SetLemmas.{constant_grows}
use Rattle.nk_compile.proofs.PortLemmas.{AreSwitches, switches_more, numbers_more, numbers_ascend, at_ports_set}
use Rattle.nk_compile.proofs.ports.at_ports.Goals as goal

pub loop-sw-preserved : goal.loop-sw-preserved
loop-sw-preserved c =
    let i = c.loop-sw.sw-index in
    let sw = get_or c.switches-switches.result.now i 0 in
    record {
      grows = grows_on _ _ _ c.loop-sw.invariant.grows c.at_switch.ensures.grows;
      none = constant_grows c.loop-sw.st c.at_switch.new.st c.in_ok-none.none false c.at_switch.ensures.grows c.loop-sw.invariant.none;
      all = constant_grows c.loop-sw.st c.at_switch.new.st c.in_ok-all.all true c.at_switch.ensures.grows c.loop-sw.invariant.all;
      numbers = numbers_more i sw c.in_ok-d.d c.switches-switches.result.now c.loop-sw.children c.push.new.self c.loop-sw-test.true refl c.in_ok-push.ensures.ok c.loop-sw.invariant.numbers;
      sets = switches_more c.loop-sw.st c.at_switch.new.st c.args.edges_only c.args.topo.now sw c.in_ok-d.d c.loop-sw.children c.push.new.self c.at_switch.ensures.grows
          c.in_ok-push.ensures.ok c.in_ok-d.ensures.set c.loop-sw.invariant.sets;
    }

pub by_values-requires-clause-ascend : goal.by_values-requires-clause-ascend
by_values-requires-clause-ascend c =
    let numbers = ap (map (λ (e : ℕ × ℕ). e.0)) c.as_slice.ensures ∙ c.loop-sw.invariant.numbers
    ∙ take_all c.loop-sw.sw-index c.switches-switches.result.now c.loop-sw-test.false ∙ c.switches-switches.ensures.numbers in
    subst (AllPairs (λ v w. v < w)) (sym numbers) (numbers_ascend c.args.topo.now c.switches-switches.ensures.is)

pub returns-clause-set : goal.returns-clause-set
returns-clause-set c =
    let numbers = ap (map (λ (e : ℕ × ℕ). e.0)) c.as_slice.ensures ∙ c.loop-sw.invariant.numbers
    ∙ take_all c.loop-sw.sw-index c.switches-switches.result.now c.loop-sw-test.false ∙ c.switches-switches.ensures.numbers in
    IfOk-weaker c.by_values.result _ _
    (λ d h. at_ports_set c.loop-sw.st c.by_values.new.st c.args.edges_only c.args.topo.now c.in_ok-none.none d c.as_slice.result.now
    c.by_values.ensures.grows c.loop-sw.invariant.none numbers (subst (AreSwitches c.loop-sw.st c.args.edges_only c.args.topo.now) (sym c.as_slice.ensures) c.loop-sw.invariant.sets) h)
    c.by_values.ensures.ok
