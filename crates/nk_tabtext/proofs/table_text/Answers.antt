use Rattle.std.proofs.Common.{◌++◌, ap, ◌∙◌}
use Rattle.nk_tabtext.specs.Written.{head_text}
use Rattle.nk_tabtext.proofs.Heads.{whole}
use Rattle.nk_tabtext.proofs.table_text.Goals as goal

pub returns : goal.returns
returns c =
    whole c.args.t.now c.switches.result.now c.head.new.out.items c.sections.new.out.items
    (c.in_ok-head.ensures ∙ ap (λ l. l ++ head_text c.version.result c.args.t.now.fields c.args.t.now.topo) c.new-out.ensures.items
    ∙ ap (λ v. head_text v c.args.t.now.fields c.args.t.now.topo) c.version.ensures)
    c.in_ok-sections.ensures c.switches.ensures.numbers
