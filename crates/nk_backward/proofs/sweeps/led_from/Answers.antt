use Rattle.std.proofs.Common.{◌≡◌, ◌<◌, [], length, sym, subst, arith}
use Rattle.nk_store.proofs.Stores.{grows_on, grows_same}
use Rattle.nk_sets.proofs.SetLemmas.{set_grows}
use Rattle.nk_sets.proofs.OutEntries.{is_set_at}
use Rattle.nk_backward.specs.Closures.{AreFound}
use Rattle.nk_backward.specs.Sweeps.{IsLedBy}
use Rattle.nk_backward.proofs.Gaining.{sets_on, found_nothing}
use Rattle.nk_backward.proofs.Sweeping.{led_push}
use Rattle.nk_backward.proofs.sweeps.led_from.Goals as goal

pub loop-i-init : goal.loop-i-init
loop-i-init c = record {
  grows = grows_same c.args.st.now;
  made = subst (λ ps. AreFound c.args.st.now (IsLedBy c.args.st.now c.args.t.now 0 c.args.back.now) [] c.args.st.now ps) (sym c.new-found.ensures)
      (found_nothing c.args.st.now c.args.st.now (IsLedBy c.args.st.now c.args.t.now 0 c.args.back.now) [] (grows_same c.args.st.now) tt (λ i z w m. absurd (let l = m.1.2.2 in omega (arith, l))));
}

pub push_led-requires-clause-from : goal.push_led-requires-clause-from
push_led-requires-clause-from c =
    let l : c.loop-i.i < length c.args.t.now.outs = omega (arith, c.loop-i-test.true, c.len-i-end.ensures) in
    set_grows c.args.st.now c.loop-i.st c.at.result.now.packets c.loop-i.invariant.grows (is_set_at c.args.st.now c.args.t.now.outs c.loop-i.i c.at.result.now c.requires.suits_store l c.at.ensures)

pub push_led-requires-clause-back : goal.push_led-requires-clause-back
push_led-requires-clause-back c = sets_on c.args.st.now c.loop-i.st c.args.back.now c.loop-i.invariant.grows c.requires.back

pub push_led-requires-clause-found : goal.push_led-requires-clause-found
push_led-requires-clause-found c = c.loop-i.invariant.made.packets

pub loop-i-preserved : goal.loop-i-preserved
loop-i-preserved c =
    let l : c.loop-i.i < length c.args.t.now.outs = omega (arith, c.loop-i-test.true, c.len-i-end.ensures) in
    record {
      grows = grows_on _ _ _ c.loop-i.invariant.grows c.push_led.ensures.grows;
      made = led_push c.args.st.now c.loop-i.st c.push_led.new.st c.args.t.now c.loop-i.i c.at.result.now c.args.back.now c.loop-i.found c.push_led.new.found
          c.loop-i.invariant.grows c.requires.suits_store c.requires.back l c.at.ensures c.loop-i.invariant.made c.in_ok-push_led.ensures.ok;
    }

pub returns-clause-ok : goal.returns-clause-ok
returns-clause-ok c =
    let e : c.loop-i.i ≡ length c.args.t.now.outs = omega (arith, c.loop-i-test.false, c.len-i-end.ensures, c.loop-i.auto.i-end) in
    subst (λ n. AreFound c.args.st.now (IsLedBy c.args.st.now c.args.t.now n c.args.back.now) [] c.loop-i.st c.loop-i.found) e c.loop-i.invariant.made
