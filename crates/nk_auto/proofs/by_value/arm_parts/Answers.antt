use Rattle.std.proofs.Common.{◌≡◌, ◌+◌, ◌<◌, ◌≤◌, List, [], length, take, sym, subst, arith}
use Rattle.std.proofs.lemmas.List.{take_all}
use Rattle.nk_apply.proofs.Built.{Built, built_none}
use Rattle.nk_apply.proofs.Members.{contains_has}
use Rattle.nk_auto.specs.ByValue.{HaveOwnValues}
use Rattle.nk_auto.proofs.ByValue.{Arm, by_arm, arm_step, below_step, alone_step, rest_built, arms_parts}
use Rattle.nk_auto.proofs.by_value.arm_parts.Goals as goal

pub loop-i-init : goal.loop-i-init
loop-i-init c = record {
  within = omega arith;
  below = λ v l u h. absurd h;
  alone = λ x k. absurd (contains_has [] x k);
  built = subst (λ ps. Built (by_arm c.args.st.now []) c.args.st.now c.args.f 0 ps) (sym c.in_ok-parts.ensures) (built_none (by_arm c.args.st.now []) c.args.st.now c.args.f);
}

pub loop-i-preserved : goal.loop-i-preserved
loop-i-preserved c =
    let arms = c.args.arms.now in
    let l : c.loop-i.i < length arms = omega arith in
    let x = c.at.result.now in
    let le : c.loop-i.from ≤ x.0.0 = omega arith in
    let rise : x.0.0 ≤ x.0.1 = omega arith in
    record {
      within = omega arith;
      below = below_step c.loop-i.from c.loop-i.i x arms l c.at.ensures (omega (arith, le, rise)) c.loop-i.invariant.below;
      alone = alone_step c.args.st.now c.loop-i.from c.loop-i.i x arms l c.at.ensures le c.loop-i.invariant.below c.loop-i.invariant.alone;
      built = arm_step c.args.st.now c.args.f c.loop-i.from c.loop-i.i c.args.outside x arms c.loop-i.parts c.push_gap.new.parts c.push.new.self c.requires.field l
          c.at.ensures le rise c.requires.children c.requires.outside c.loop-i.invariant.below c.in_ok-push_gap.ensures c.in_ok-push.ensures.ok c.loop-i.invariant.built;
    }

pub returns-then-hi-max-2-clause-parts : goal.returns-then-hi-max-2-clause-parts
returns-then-hi-max-2-clause-parts c =
    let arms = c.args.arms.now in
    let l : c.loop-i.i < length arms = omega arith in
    let x = c.at.result.now in
    let le : c.loop-i.from ≤ x.0.0 = omega arith in
    let rise : x.0.0 ≤ x.0.1 = omega arith in
    let step = arm_step c.args.st.now c.args.f c.loop-i.from c.loop-i.i c.args.outside x arms c.loop-i.parts c.push_gap.new.parts c.push.new.self c.requires.field l
    c.at.ensures le rise c.requires.children c.requires.outside c.loop-i.invariant.below c.in_ok-push_gap.ensures c.in_ok-push.ensures.ok c.loop-i.invariant.built in
    let all : take (c.loop-i.i + 1) arms ≡ arms = take_all (c.loop-i.i + 1) arms (omega arith) in
    arms_parts c.args.st.now c.args.f c.max-max.result arms c.push.new.self c.requires.field c.max-max.ensures
    (subst (λ n. Built (by_arm c.args.st.now arms) c.args.st.now c.args.f (n + 1) c.push.new.self) c.if-hi-max-2.true
    (subst (λ (vs : List Arm). Built (by_arm c.args.st.now vs) c.args.st.now c.args.f (x.0.1 + 1) c.push.new.self) all step))

pub returns-then-hi-max-2-clause-alone : goal.returns-then-hi-max-2-clause-alone
returns-then-hi-max-2-clause-alone c =
    let arms = c.args.arms.now in
    let l : c.loop-i.i < length arms = omega arith in
    let x = c.at.result.now in
    let le : c.loop-i.from ≤ x.0.0 = omega arith in
    let all : take (c.loop-i.i + 1) arms ≡ arms = take_all (c.loop-i.i + 1) arms (omega arith) in
    subst (λ (vs : List Arm). HaveOwnValues c.args.st.now vs) all
    (alone_step c.args.st.now c.loop-i.from c.loop-i.i x arms l c.at.ensures le c.loop-i.invariant.below c.loop-i.invariant.alone)

pub returns-clause-parts : goal.returns-clause-parts
returns-clause-parts c =
    let arms = c.args.arms.now in
    let all : take c.loop-i.i arms ≡ arms = take_all c.loop-i.i arms (omega arith) in
    arms_parts c.args.st.now c.args.f c.max-max.result arms c.push-2.new.self c.requires.field c.max-max.ensures
    (subst (λ (vs : List Arm). Built (by_arm c.args.st.now vs) c.args.st.now c.args.f (c.max-max.result + 1) c.push-2.new.self) all
    (subst (λ ps. Built (by_arm c.args.st.now (take c.loop-i.i arms)) c.args.st.now c.args.f (c.max-max.result + 1) ps) (sym c.in_ok-push-2.ensures.ok)
    (rest_built c.args.st.now c.args.f c.loop-i.from c.max-max.result c.args.outside (take c.loop-i.i arms) c.loop-i.parts c.requires.field c.loop-i.invariant.within c.requires.outside c.loop-i.invariant.below c.loop-i.invariant.built)))

pub returns-clause-alone : goal.returns-clause-alone
returns-clause-alone c =
    let arms = c.args.arms.now in
    let all : take c.loop-i.i arms ≡ arms = take_all c.loop-i.i arms (omega arith) in
    subst (λ (vs : List Arm). HaveOwnValues c.args.st.now vs) all c.loop-i.invariant.alone
