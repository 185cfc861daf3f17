use Rattle.std.proofs.Common.{◌≡◌, ◌+◌, ◌≤◌, [], refl, sym, subst, arith, take, get_or}
use Rattle.std.proofs.lemmas.List.{take_all}
use Rattle.nk_apply.proofs.Built.{Built, built_none}
use Rattle.nk_auto.proofs.Tested.{by_value, value_step, below_step, rest_built, values_parts}
use Rattle.nk_auto.proofs.values.value_parts.Goals as goal

pub loop-i-init : goal.loop-i-init
loop-i-init c = record {
  within = omega arith;
  below = λ v l. refl;
  built = subst (λ ps. Built (by_value []) c.args.st.now c.args.f 0 ps) (sym c.in_ok-parts.ensures) (built_none (by_value []) c.args.st.now c.args.f);
}

pub loop-i-preserved : goal.loop-i-preserved
loop-i-preserved c =
    let intervals = c.args.intervals.now in
    let l = c.loop-i-test.true in
    let x = get_or intervals c.loop-i.i (0, 0) in
    let le : c.loop-i.from ≤ x.0 = omega arith in
    let rise : x.0 ≤ x.1 = omega arith in
    record {
      within = omega arith;
      below = below_step c.loop-i.from c.loop-i.i x intervals l refl (omega (arith, le, rise)) c.loop-i.invariant.below;
      built = value_step c.args.st.now c.args.f c.loop-i.from c.loop-i.i c.args.inside c.args.outside x intervals c.loop-i.parts c.push_gap.new.parts c.push.new.self c.requires.field l
          refl le rise c.requires.inside c.requires.outside c.loop-i.invariant.below c.in_ok-push_gap.ensures c.in_ok-push.ensures.ok c.loop-i.invariant.built;
    }

pub returns-then-hi-max-2 : goal.returns-then-hi-max-2
returns-then-hi-max-2 c =
    let intervals = c.args.intervals.now in
    let l = c.loop-i-test.true in
    let x = get_or intervals c.loop-i.i (0, 0) in
    let le : c.loop-i.from ≤ x.0 = omega arith in
    let rise : x.0 ≤ x.1 = omega arith in
    let step = value_step c.args.st.now c.args.f c.loop-i.from c.loop-i.i c.args.inside c.args.outside x intervals c.loop-i.parts c.push_gap.new.parts c.push.new.self c.requires.field l
    refl le rise c.requires.inside c.requires.outside c.loop-i.invariant.below c.in_ok-push_gap.ensures c.in_ok-push.ensures.ok c.loop-i.invariant.built in
    let all : take (c.loop-i.i + 1) intervals ≡ intervals = take_all (c.loop-i.i + 1) intervals (omega arith) in
    values_parts c.args.st.now c.args.f c.max-max.result intervals c.push.new.self c.requires.field c.max-max.ensures
    (subst (λ n. Built (by_value intervals) c.args.st.now c.args.f (n + 1) c.push.new.self) c.if-hi-max-2.true
    (subst (λ vs. Built (by_value vs) c.args.st.now c.args.f (x.1 + 1) c.push.new.self) all step))

pub returns : goal.returns
returns c =
    let intervals = c.args.intervals.now in
    let all : take c.loop-i.i intervals ≡ intervals = take_all c.loop-i.i intervals (omega arith) in
    values_parts c.args.st.now c.args.f c.max-max.result intervals c.push-2.new.self c.requires.field c.max-max.ensures
    (subst (λ vs. Built (by_value vs) c.args.st.now c.args.f (c.max-max.result + 1) c.push-2.new.self) all
    (subst (λ ps. Built (by_value (take c.loop-i.i intervals)) c.args.st.now c.args.f (c.max-max.result + 1) ps) (sym c.in_ok-push-2.ensures.ok)
    (rest_built c.args.st.now c.args.f c.loop-i.from c.max-max.result c.args.outside (take c.loop-i.i intervals) c.loop-i.parts c.requires.field c.loop-i.invariant.within c.requires.outside c.loop-i.invariant.below c.loop-i.invariant.built)))
