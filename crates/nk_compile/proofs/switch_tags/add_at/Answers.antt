use Rattle.std.proofs.Common.{sym}
use Rattle.nk_compile.proofs.ComingEnds.{ok_weaker}
use Rattle.nk_compile.proofs.ComingSteps.{none_put_at, one_put_at}
use Rattle.nk_compile.proofs.switch_tags.add_at.Goals as goal

pub returns-in-Some : goal.returns-in-Some
returns-in-Some c = ok_weaker c.push_tag.result _ _ (λ is. one_put_at c.args.sw c.args.tag c.in-Some.place c.args.all.now.items c.push_tag.new.all.items c.args.switches.now c.requires.switches c.requires.ascend c.in-Some.ensures.found is) c.push_tag.ensures

pub returns-in-None : goal.returns-in-None
returns-in-None c = sym (none_put_at c.args.sw c.args.tag c.args.all.now.items c.args.switches.now c.requires.switches c.in-None.ensures.none)
