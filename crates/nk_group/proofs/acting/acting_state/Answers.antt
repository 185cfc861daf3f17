use Rattle.std.proofs.Common.{◌≡◌, ◌<◌, ◌-◌, ◌+◌, length, drop, subst, refl, arith}
use Rattle.nk_store.proofs.Stores.{grows_on}
use Rattle.nk_group.specs.Classed.{IsActingTag, IsActingState}
use Rattle.nk_group.proofs.Growing.{all_at, sets_grow_on, known_kept}
use Rattle.nk_group.proofs.Stating.{ids_kept}
use Rattle.nk_group.proofs.Fronting.{acting_tag_kept, acting_id, acting_more, acting_last, from_place}
use Rattle.nk_group.proofs.acting.acting_state.Goals as goal

pub loop-i-init : goal.loop-i-init
loop-i-init c = record {
  within = omega arith;
  grows = c.tag_state.ensures.grows;
  sets = c.tag_state.ensures.sets;
  made =
      acting_last c.tag_state.new.st c.args.ss.now c.tag_state.new.ss c.args.states.now c.args.tags.now c.args.tag c.args.sw c.as_slice-acting.result.now (length c.as_slice-acting.result.now)
      c.args.h.now.other c.in_ok-d.d c.tag_state.ensures.sets c.requires.known refl c.requires.acting.other c.in_ok-d.ensures.state;
}

pub in_front-requires-clause-acting : goal.in_front-requires-clause-acting
in_front-requires-clause-acting c =
    let some = c.loop-i-test.true in
    let within = c.loop-i.invariant.within in
    acting_tag_kept c.args.st.now c.loop-i.st c.args.ss.now c.loop-i.ss c.args.tags.now (length c.args.states.now) c.index-acting-i.result c.loop-i.invariant.grows c.loop-i.invariant.sets c.requires.known
    (all_at (IsActingTag c.args.st.now c.args.ss.now (length c.args.states.now) c.args.tags.now) c.args.h.now.acting c.as_slice-acting.result.now (c.loop-i.i - 1) c.index-acting-i.result
    c.requires.acting.acting c.as_slice-acting.ensures (omega (arith, some, within)) c.index-acting-i.is)

pub in_front-requires-clause-rest : goal.in_front-requires-clause-rest
in_front-requires-clause-rest c =
    acting_id c.loop-i.st c.loop-i.ss c.args.states.now c.args.tags.now c.args.tag c.args.sw (drop c.loop-i.i c.as_slice-acting.result.now) c.args.h.now.other c.loop-i.d c.loop-i.invariant.made

pub loop-i-preserved : goal.loop-i-preserved
loop-i-preserved c =
    let some = c.loop-i-test.true in
    let within = c.loop-i.invariant.within in
    let less : c.loop-i.i - 1 < length c.as_slice-acting.result.now = omega (arith, some, within) in
    let next : c.loop-i.i ≡ c.loop-i.i - 1 + 1 = omega (arith, some) in
    let at = all_at (IsActingTag c.args.st.now c.args.ss.now (length c.args.states.now) c.args.tags.now) c.args.h.now.acting c.as_slice-acting.result.now (c.loop-i.i - 1) c.index-acting-i.result c.requires.acting.acting c.as_slice-acting.ensures less c.index-acting-i.is in
    let kept = acting_tag_kept c.args.st.now c.loop-i.st c.args.ss.now c.loop-i.ss c.args.tags.now (length c.args.states.now) c.index-acting-i.result c.loop-i.invariant.grows c.loop-i.invariant.sets c.requires.known at in
    record {
      within = omega (arith, within);
      grows = grows_on _ _ _ c.loop-i.invariant.grows c.in_front.ensures.grows;
      sets = sets_grow_on c.args.ss.now c.loop-i.ss c.in_front.new.ss c.loop-i.invariant.sets c.in_front.ensures.sets;
      made =
          acting_more c.loop-i.st c.in_front.new.st c.loop-i.ss c.in_front.new.ss c.args.states.now c.args.tags.now c.args.tag c.args.sw c.as_slice-acting.result.now (c.loop-i.i - 1) c.index-acting-i.result
          c.args.h.now.other c.loop-i.d c.in_ok-d-2.d c.in_front.ensures.grows c.in_front.ensures.sets
          (ids_kept c.args.st.now c.loop-i.st c.args.states.now c.loop-i.invariant.grows c.requires.states)
          (known_kept c.args.ss.now c.loop-i.ss c.args.tags.now c.loop-i.invariant.sets c.requires.known)
          (from_place c.as_slice-acting.result.now c.as_slice-acting.result.now (c.loop-i.i - 1) c.index-acting-i.result refl less c.index-acting-i.is) kept.has c.in_ok-d-2.ensures.front
          (subst (λ n. IsActingState c.loop-i.st c.loop-i.ss c.args.states.now c.args.tags.now c.args.tag c.args.sw (drop n c.as_slice-acting.result.now) c.args.h.now.other c.loop-i.d) next c.loop-i.invariant.made);
    }
