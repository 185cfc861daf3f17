use Rattle.std.proofs.Common.{[], sym, subst}
use Rattle.nk_determ.specs.Pairs.{Under}
use Rattle.nk_goal.specs.Entries.{HaveSets}
use Rattle.nk_backward.specs.Closures.{IsLedInto, IsGained}
use Rattle.nk_backward.proofs.Gaining.{sets_on}
use Rattle.nk_backward.proofs.Putting.{sets_moved, found_gained}
use Rattle.nk_backward.proofs.closure.pass_back.Goals as goal

pub put_all_new-requires-clause-found : goal.put_all_new-requires-clause-found
put_all_new-requires-clause-found c =
    subst (HaveSets c.led_into.new.st) (sym c.as_slice.ensures) (sets_moved c.led_into.new.st c.in_ok-found.found c.in_order-ordered.result c.in_order-ordered.ensures c.in_ok-found.ensures.ok.packets)

pub put_all_new-requires-clause-back : goal.put_all_new-requires-clause-back
put_all_new-requires-clause-back c = sets_on c.args.st.now c.led_into.new.st c.args.back.now c.led_into.ensures.grows c.requires.back

pub returns-clause-ok : goal.returns-clause-ok
returns-clause-ok c =
    found_gained c.args.st.now c.led_into.new.st c.put_all_new.new.st (IsLedInto c.args.st.now c.args.ts.now c.args.frontier.now) c.in_ok-found.found c.in_order-ordered.result c.args.back.now [] c.put_all_new.new.back c.in_ok-next.next
    c.led_into.ensures.grows c.requires.back c.requires.once tt tt c.in_ok-found.ensures.ok c.in_order-ordered.ensures
    (subst (λ ps. IsGained c.led_into.new.st (Under c.led_into.new.st ps) c.args.back.now [] c.put_all_new.new.st c.put_all_new.new.back c.in_ok-next.next) c.as_slice.ensures c.in_ok-next.ensures.ok)
