use Rattle.std.proofs.Common.{◌≡◌, suc, ◌+◌, ◌-◌, ◌<◌, [], length, get_or, sym, ap, subst, ◌∙◌, arith}
use Rattle.nk_store.proofs.Stores.{grows_on, grows_same}
use Rattle.nk_sets.specs.PacketSets.{IsSet}
use Rattle.nk_sets.proofs.SetLemmas.{set_grows}
use Rattle.nk_sets.proofs.Kept.{get_or_same}
use Rattle.nk_goal.specs.Entries.{HaveSets}
use Rattle.nk_goal.proofs.Growing.{each_weaker}
use Rattle.nk_cert.specs.Later.{AreLaterPackets}
use Rattle.nk_cert.proofs.Making.{none_later, later_more, later_done}
use Rattle.nk_cert.proofs.printed.later_packets.Goals as goal

pub loop-i-init : goal.loop-i-init
loop-i-init c = record {
  grows = grows_same c.args.st.now;
  later = subst (λ m. AreLaterPackets c.args.st.now c.args.lv.now.levels 0 c.args.st.now m) (sym c.new-visited.ensures) (none_later c.args.st.now c.args.lv.now.levels);
}

pub add_level-requires-clause-level : goal.add_level-requires-clause-level
add_level-requires-clause-level c =
    let lt : c.loop-i.i < length c.args.lv.now.levels = omega (arith, c.loop-i-test.true, c.len-i-end.ensures) in
    let is : c.at-level.result.now ≡ get_or c.args.lv.now.levels c.loop-i.i [] = c.at-level.ensures ∙ get_or_same c.args.lv.now.levels c.loop-i.i c.at-level.result.now [] lt in
    subst (HaveSets c.loop-i.st) (sym is)
    (each_weaker (λ p. IsSet c.args.st.now p.1) (λ p. IsSet c.loop-i.st p.1) (get_or c.args.lv.now.levels c.loop-i.i [])
    (λ p k. set_grows c.args.st.now c.loop-i.st p.1 c.loop-i.invariant.grows k) (c.requires c.loop-i.i lt))

pub loop-i-preserved : goal.loop-i-preserved
loop-i-preserved c =
    let lt : c.loop-i.i < length c.args.lv.now.levels = omega (arith, c.loop-i-test.true, c.len-i-end.ensures) in
    let is : c.at-level.result.now ≡ get_or c.args.lv.now.levels c.loop-i.i [] = c.at-level.ensures ∙ get_or_same c.args.lv.now.levels c.loop-i.i c.at-level.result.now [] lt in
    let at : c.loop-i.i ≡ suc (c.loop-i.i - 1) = omega arith in
    let next : (c.loop-i.i - 1) + 1 ≡ (c.loop-i.i + 1) - 1 = omega arith in
    record {
      grows = grows_on _ _ _ c.loop-i.invariant.grows c.add_level.ensures.grows;
      later = subst (λ n. AreLaterPackets c.args.st.now c.args.lv.now.levels n c.add_level.new.st c.add_level.new.self) next
          (later_more c.args.st.now c.loop-i.st c.add_level.new.st c.args.lv.now.levels (c.loop-i.i - 1) c.loop-i.visited c.add_level.new.self c.at-level.result.now c.loop-i.invariant.grows c.loop-i.invariant.later
          (subst (HaveSets c.args.st.now) (sym is) (c.requires c.loop-i.i lt)) (is ∙ ap (λ i. get_or c.args.lv.now.levels i []) at) c.in_ok-add_level.ensures.ok);
    }

pub returns-clause-ok : goal.returns-clause-ok
returns-clause-ok c = later_done c.args.st.now c.args.lv.now.levels c.loop-i.i c.loop-i.st c.loop-i.visited (omega (arith, c.loop-i-test.false, c.len-i-end.ensures)) c.loop-i.invariant.later
