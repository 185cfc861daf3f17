use Rattle.std.proofs.Common.{◌∙◌, sym}
use Rattle.nk_store.proofs.Stores.{grows_same}
use Rattle.nk_goal.proofs.Adding.{found_set}
use Rattle.nk_backward.specs.Sweeps.{IsLedOut}
use Rattle.nk_backward.proofs.Gaining.{found_nothing}
use Rattle.nk_backward.proofs.Sweeping.{led_missing, led_found}
use Rattle.nk_backward.proofs.sweeps.push_led.Goals as goal

pub returns-in_default-clause-ok : goal.returns-in_default-clause-ok
returns-in_default-clause-ok c =
    found_nothing c.args.st.now c.args.st.now (IsLedOut c.args.st.now c.args.s c.args.o.now c.args.back.now) c.args.found.now (grows_same c.args.st.now) c.requires.found
    (λ i z w m. absurd (led_missing c.args.st.now c.args.s c.args.o.now c.args.back.now c.from_target.result i z c.from_target.ensures (sym c.packets_of_set.ensures ∙ c.in_default.is) m))

pub preimage_by_out-requires-clause-to : goal.preimage_by_out-requires-clause-to
preimage_by_out-requires-clause-to c = found_set c.args.st.now c.args.back.now c.from_target.result c.in-Some.x (sym c.packets_of_set.ensures ∙ c.in-Some.is) c.requires.back

pub returns-clause-ok : goal.returns-clause-ok
returns-clause-ok c =
    led_found c.args.st.now c.preimage_by_out.new.st c.args.s c.args.o.now c.args.back.now c.from_target.result c.in-Some.x c.in_ok-led.led c.args.found.now c.push.new.self
    c.preimage_by_out.ensures.grows c.requires.found c.requires.once (sym c.packets_of_set.ensures ∙ c.in-Some.is) c.from_target.ensures c.in_ok-led.ensures.ok c.in_ok-push.ensures.ok
