use Rattle.std.proofs.Common.{subst}
use Rattle.nk_policy.specs.Tree.{tree_of}
use Rattle.nk_witness.specs.Finds.{found_of}
use Rattle.nk_cert.specs.Values.{certificate_value}
use Rattle.nk_cert.specs.Comparison.{whose, IsComparison}
use Rattle.nk_virtual.specs.Held.{virtual_link_of}
use Rattle.nk_virtual.proofs.Telling.{left_askable, left_none, left_some}
use Rattle.nk_virtual.proofs.judging.least_left.Goals as goal

pub compared-requires : goal.compared-requires
compared-requires c = left_askable c.args.fields.now (virtual_link_of c.args.k.now) (tree_of c.in_ok-fabric.fabric) (tree_of c.in_ok-move_alone.move_alone) c.in_ok-fabric.ensures c.in_ok-move_alone.ensures c.requires.askable

pub returns-in-Related : goal.returns-in-Related
returns-in-Related c =
    left_none c.args.fields.now (virtual_link_of c.args.k.now) (tree_of c.in_ok-fabric.fabric) (tree_of c.in_ok-move_alone.move_alone) c.in_ok-fabric.ensures c.in_ok-move_alone.ensures c.requires.target (certificate_value c.in-Related.field-0)
    (subst (IsComparison c.args.fields.now (tree_of c.in_ok-fabric.fabric) (tree_of c.in_ok-move_alone.move_alone)) c.in-Related.is c.in_ok-compared.ensures)

pub returns : goal.returns
returns c =
    left_some c.args.fields.now (virtual_link_of c.args.k.now) (tree_of c.in_ok-fabric.fabric) (tree_of c.in_ok-move_alone.move_alone) c.in_ok-fabric.ensures c.in_ok-move_alone.ensures c.requires.target (whose c.in-Broken.left.side) (found_of c.in-Broken.left)
    (subst (IsComparison c.args.fields.now (tree_of c.in_ok-fabric.fabric) (tree_of c.in_ok-move_alone.move_alone)) c.in-Broken.is c.in_ok-compared.ensures)
