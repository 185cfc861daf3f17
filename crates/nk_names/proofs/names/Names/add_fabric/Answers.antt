use Rattle.std.proofs.Common.{◌<◌, sym, ap, subst, ◌∙◌}
use Rattle.nk_policy.specs.Policy.{dups_of}
use Rattle.nk_grammar.specs.Tree.{tree_of}
use Rattle.nk_names.specs.Meant.{policy_for}
use Rattle.nk_names.specs.Shape.{shape_of}
use Rattle.nk_names.proofs.Declarations.{faultless}
use Rattle.nk_names.proofs.Named.{dups_fit, shape_marked}
use Rattle.nk_names.proofs.names.Names.add_fabric.Goals as goal

-- a policy of this size has few enough dups
pub new-policy-requires : goal.new-policy-requires
new-policy-requires c =
    let fields = c.args.self.now.declared.fields in
    let lets = c.args.self.now.lets.entries.items in
    let t = tree_of c.args.ast.now in
    let none = faultless fields lets c.args.self.now.fabrics.entries.items c.args.w.now t c.args.line c.in_ok-shape.ensures.fault in
    subst (λ p. dups_of p < 4294967295) (sym c.in_ok-shared_of.ensures) (dups_fit (policy_for fields lets t) none.small)

pub add-requires-clause-shape : goal.add-requires-clause-shape
add-requires-clause-shape c =
    c.in_ok-shape.ensures.shape
    ∙ sym (shape_marked (policy_for c.args.self.now.declared.fields c.args.self.now.lets.entries.items (tree_of c.args.ast.now)) 1)
    ∙ ap shape_of (sym c.in_ok-shared_of.ensures)
    ∙ ap shape_of (sym c.new-policy.ensures)
