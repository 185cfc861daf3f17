use Rattle.std.proofs.Common.{ap, not, refl, sym, ◌∙◌}
use Rattle.nk_names.proofs.Fabrics.{ends_by_tests, third, fourth, told_last, refused_with}
use Rattle.nk_names.proofs.declare.check_ends.Goals as goal

-- a virtual link begins there already
pub returns-in_err-refuse-4 : goal.returns-in_err-refuse-4
returns-in_err-refuse-4 c =
    let topo = c.args.names.now.declared.topo in
    let links = c.args.names.now.virtuals in
    let tests =
    ends_by_tests topo links c.args.a c.args.m c.args.b c.args.n
    c.place_of-from_switch.result c.place_of-from_port.result c.place_of-to_switch.result c.place_of-to_port.result
    (not c.is_port-missing.result) (not c.is_port-missing-2.result) c.is_source-twice.result _
    (sym c.first_above.ensures ∙ c.in_ok-refuse.ensures)
    c.place_of-from_switch.ensures c.place_of-from_port.ensures c.place_of-to_switch.ensures c.place_of-to_port.ensures
    (ap not c.is_port-missing.ensures) (ap not c.is_port-missing-2.ensures) (c.is_source-twice.ensures topo) refl in
    refused_with _ c.in_err-refuse-4.field-0.0 _ _ c.from_residual-in_err-refuse-4.ensures.1
    (tests
    ∙ third _ _ _ _ _ (sym c.fault_if.ensures ∙ c.in_ok-refuse-2.ensures) (sym c.fault_if-2.ensures ∙ c.in_ok-refuse-3.ensures)
    (sym c.fault_if-3.ensures ∙ c.in_err-refuse-4.ensures))

-- or one ends there, or neither
pub returns : goal.returns
returns c =
    let topo = c.args.names.now.declared.topo in
    let links = c.args.names.now.virtuals in
    let tests =
    ends_by_tests topo links c.args.a c.args.m c.args.b c.args.n
    c.place_of-from_switch.result c.place_of-from_port.result c.place_of-to_switch.result c.place_of-to_port.result
    (not c.is_port-missing.result) (not c.is_port-missing-2.result) c.is_source-twice.result c.is_target-twice.result
    (sym c.first_above.ensures ∙ c.in_ok-refuse.ensures)
    c.place_of-from_switch.ensures c.place_of-from_port.ensures c.place_of-to_switch.ensures c.place_of-to_port.ensures
    (ap not c.is_port-missing.ensures) (ap not c.is_port-missing-2.ensures) (c.is_source-twice.ensures topo) (c.is_target-twice.ensures topo) in
    told_last c.refuse-5.result _ _
    (tests
    ∙ fourth _ _ _ _ (sym c.fault_if.ensures ∙ c.in_ok-refuse-2.ensures) (sym c.fault_if-2.ensures ∙ c.in_ok-refuse-3.ensures)
    (sym c.fault_if-3.ensures ∙ c.in_ok-refuse-4.ensures)
    ∙ sym c.fault_if-4.ensures)
    c.refuse-5.ensures
