use Rattle.nk_gen.specs.Text.{switch_line}
use Rattle.nk_gen.proofs.Steps.{lists_pushed}
use Rattle.nk_gen.proofs.text.push_switches.Goals as goal

pub loop-below-preserved : goal.loop-below-preserved
loop-below-preserved c =
    lists_pushed switch_line c.loop-below.below c.args.out.now.items c.loop-below.out.items c.push_switch.new.out.items
    c.loop-below.invariant c.in_ok-push_switch.ensures
