use Rattle.std.proofs.Common.{subst}
use Rattle.nk_policy.specs.Tree.{tree_of}
use Rattle.nk_witness.specs.Finds.{found_of}
use Rattle.nk_cert.specs.Values.{certificate_value}
use Rattle.nk_cert.specs.Comparison.{whose, IsComparison}
use Rattle.nk_virtual.specs.Held.{virtual_link_of}
use Rattle.nk_virtual.proofs.Telling.{from_askable, from_none, from_some}
use Rattle.nk_virtual.proofs.judging.least_from.Goals as goal

pub compared-requires : goal.compared-requires
compared-requires c =
    from_askable c.args.fields.now (virtual_link_of c.args.k.now) (tree_of c.in_ok-others.others) (tree_of c.dropping-nothing.result) c.args.start.now c.in_ok-others.ensures c.dropping-nothing.ensures c.requires.askable c.requires.some

pub unreachable-requires : goal.unreachable-requires
unreachable-requires c =
    from_none c.args.fields.now (virtual_link_of c.args.k.now) (tree_of c.in_ok-others.others) (tree_of c.dropping-nothing.result) c.args.start.now c.in_ok-others.ensures c.dropping-nothing.ensures c.requires.askable c.requires.some (certificate_value c.in-Related.field-0)
    (subst (IsComparison c.args.fields.now (tree_of c.in_ok-others.others) (tree_of c.dropping-nothing.result)) c.in-Related.is c.in_ok-compared.ensures)

pub returns : goal.returns
returns c =
    from_some c.args.fields.now (virtual_link_of c.args.k.now) (tree_of c.in_ok-others.others) (tree_of c.dropping-nothing.result) c.args.start.now c.in_ok-others.ensures c.dropping-nothing.ensures c.requires.askable c.requires.some (whose c.in-Broken.found.side) (found_of c.in-Broken.found)
    (subst (IsComparison c.args.fields.now (tree_of c.in_ok-others.others) (tree_of c.dropping-nothing.result)) c.in-Broken.is c.in_ok-compared.ensures)
