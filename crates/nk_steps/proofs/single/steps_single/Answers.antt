use Rattle.std.proofs.lemmas.Option.{IfSome_then}
use Rattle.nk_determ.proofs.Interned.{sets_same}
use Rattle.nk_steps.proofs.SingleSent.{single_leads, single_led, none_leads, none_led}
use Rattle.nk_steps.proofs.single.steps_single.Goals as goal

pub returns-then-drops-clause-sets : goal.returns-then-drops-clause-sets
returns-then-drops-clause-sets c = sets_same c.args.ss.now

pub returns-then-drops-clause-leads : goal.returns-then-drops-clause-leads
returns-then-drops-clause-leads c = λ pk y i p s. none_leads c.args.st.now c.args.d (c.drops.ensures.yes c.if-drops.true) c.args.ss.now pk y i s

pub returns-then-drops-clause-led : goal.returns-then-drops-clause-led
returns-then-drops-clause-led c = λ pk y l p pos s. none_led c.args.st.now c.args.d (c.drops.ensures.yes c.if-drops.true) pk y l s

pub returns-clause-id : goal.returns-clause-id
returns-clause-id c = IfSome_then c.in_ok-steps.steps c.in_ok-steps.ensures.ok (λ r k. (k.leaves c.single_new.new.ss (sets_same c.single_new.new.ss)).id)

pub returns-clause-leads : goal.returns-clause-leads
returns-clause-leads c = IfSome_then c.in_ok-steps.steps c.in_ok-steps.ensures.ok (λ r k. single_leads c.args.st.now c.args.d c.single_new.new.st c.single_new.new.ss r k)

pub returns-clause-led : goal.returns-clause-led
returns-clause-led c = IfSome_then c.in_ok-steps.steps c.in_ok-steps.ensures.ok (λ r k. single_led c.args.st.now c.args.d c.single_new.new.st c.single_new.new.ss r k)
