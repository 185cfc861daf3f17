use Rattle.std.proofs.Common.{sym, subst}
use Rattle.nk_determ.specs.Pairs.{Under}
use Rattle.nk_goal.specs.Entries.{HaveSets}
use Rattle.nk_backward.specs.Sweeps.{IsWidened}
use Rattle.nk_backward.proofs.Gaining.{sets_on}
use Rattle.nk_backward.proofs.Sweeping.{taken_back}
use Rattle.nk_backward.proofs.sweeps.sweep_one.Goals as goal

pub put_all-requires-clause-found : goal.put_all-requires-clause-found
put_all-requires-clause-found c = subst (HaveSets c.led_from.new.st) (sym c.as_slice.ensures) c.in_ok-found.ensures.ok.packets

pub put_all-requires-clause-back : goal.put_all-requires-clause-back
put_all-requires-clause-back c = sets_on c.args.st.now c.led_from.new.st c.args.back.now c.led_from.ensures.grows c.requires.back

pub returns-clause-ok : goal.returns-clause-ok
returns-clause-ok c =
    taken_back c.args.st.now c.led_from.new.st c.put_all.new.st c.args.t.now c.in_ok-found.found c.args.back.now c.put_all.new.back c.in_ok-none.none c.led_from.ensures.grows c.requires.back c.requires.once c.in_ok-found.ensures.ok
    (subst (λ ps. IsWidened c.led_from.new.st (Under c.led_from.new.st ps) c.args.back.now c.put_all.new.st c.put_all.new.back c.in_ok-none.none) c.as_slice.ensures c.in_ok-none.ensures.ok)
