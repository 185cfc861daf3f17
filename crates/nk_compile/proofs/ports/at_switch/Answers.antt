use Rattle.std.proofs.lemmas.Result.{IfOk-weaker}
use Rattle.nk_compile.proofs.PortLemmas.{switch_sets, at_switch_set}
use Rattle.nk_compile.proofs.ports.at_switch.Goals as goal

pub by_values-requires-clause-ascend : goal.by_values-requires-clause-ascend
by_values-requires-clause-ascend c =
    (switch_sets c.args.st.now c.args.edges_only c.args.topo.now c.args.sw c.args.none c.args.all c.as_slice.result.now c.in_ok-children.children
    c.requires.topology c.requires.none c.requires.all c.as_slice.ensures c.in_ok-children.ensures).ascend

pub by_values-requires-clause-children : goal.by_values-requires-clause-children
by_values-requires-clause-children c =
    (switch_sets c.args.st.now c.args.edges_only c.args.topo.now c.args.sw c.args.none c.args.all c.as_slice.result.now c.in_ok-children.children
    c.requires.topology c.requires.none c.requires.all c.as_slice.ensures c.in_ok-children.ensures).children

pub returns-clause-set : goal.returns-clause-set
returns-clause-set c =
    let sets = switch_sets c.args.st.now c.args.edges_only c.args.topo.now c.args.sw c.args.none c.args.all c.as_slice.result.now c.in_ok-children.children
    c.requires.topology c.requires.none c.requires.all c.as_slice.ensures c.in_ok-children.ensures in
    IfOk-weaker c.by_values.result _ _
    (λ d h. at_switch_set c.args.st.now c.by_values.new.st c.args.edges_only c.args.topo.now c.args.sw c.args.none d c.as_slice.result.now
    c.by_values.ensures.grows c.requires.none sets h)
    c.by_values.ensures.ok
