use Rattle.std.proofs.Common.{◌≡◌, ◌++◌, ap, subst, ◌∙◌}
use Rattle.std.specs.Prelude.{OnOk}
use Rattle.std.specs.List.{flat_map}
use Rattle.nk_topo.specs.Topology.{ports_of}
use Rattle.nk_tabtext.specs.Text.{switch_text}
use Rattle.nk_tabtext.proofs.Heads.{lines_by_number}
use Rattle.nk_tabtext.proofs.head.switches.Goals as goal

pub returns : goal.returns
returns c =
    subst (λ l. OnOk c.switch_lines.result (c.switch_lines.new.out.items ≡ c.args.out.now.items ++ l))
    (ap (λ l. flat_map (λ n. switch_text (record { switch = n; ports = ports_of c.args.topo.now n })) l) c.switches.ensures.numbers
    ∙ lines_by_number c.args.topo.now c.switches.ensures.is)
    c.switch_lines.ensures
