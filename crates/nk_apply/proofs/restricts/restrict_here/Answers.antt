use Rattle.std.proofs.Common.{◌∙◌, ap, min}
use Rattle.nk_apply.proofs.Parts.{part_has_leaves, part_root_field, split_at}
use Rattle.nk_apply.proofs.restricts.restrict_here.Goals as goal

pub returns-clause-leaves : goal.returns-clause-leaves
returns-clause-leaves c = part_has_leaves c.args.st.now c.args.f c.args.d c.args.n c.min-v.result c.part_at-c.result (c.min-v.ensures ∙ ap (λ m. min c.args.n m) c.max.ensures)
    (split_at c.args.st.now c.args.f c.args.d c.view-first.result.now c.requires.id c.view-first.ensures.node c.view-first.ensures.means c.requires.first c.requires.field)
    c.part_at-c.ensures c.view-child.ensures.still c.requires.field

pub returns-clause-later : goal.returns-clause-later
returns-clause-later c = part_root_field c.args.st.now c.args.f c.args.d c.min-v.result c.part_at-c.result c.view-first.result.now c.part_at-c.ensures c.view-first.ensures.node c.view-first.ensures.means c.requires.first c.requires.field
