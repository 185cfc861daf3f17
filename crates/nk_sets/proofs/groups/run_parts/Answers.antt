use Rattle.std.proofs.Common.{◌≤◌, ◌+◌, refl, sym, ◌∙◌, subst, arith, get_or}
use Rattle.nk_sets.specs.Outs.{HaveRun}
use Rattle.nk_sets.proofs.Running.{laid_step, have_run, have_run_empty}
use Rattle.nk_sets.proofs.groups.run_parts.Goals as goal

pub returns-then-end-max : goal.returns-then-end-max
returns-then-end-max c =
    have_run c.args.st.now c.args.f c.args.ss.now c.args.from (c.loop-parts.k + 1) c.end_at-end.result c.put_part.new.parts
    (laid_step c.args.st.now c.args.f c.args.ss.now c.args.from c.loop-parts.k c.loop-parts.next c.args.none c.end_at-end.result c.loop-parts.parts c.put_part.new.parts c.loop-parts.invariant.laid c.requires.none c.requires.field c.requires.stretches
    c.loop-parts.invariant.within c.loop-parts.invariant.order c.loop-parts.invariant.out c.loop-parts.invariant.following c.in_ok-put_part.ensures c.end_at-end.ensures)
    c.requires.field (c.if-end-max.true ∙ c.max-max.ensures) (omega (arith, c.loop-parts.invariant.order)) (omega (arith, c.loop-parts.invariant.within))

pub returns-then-k-ss : goal.returns-then-k-ss
returns-then-k-ss c =
    let most : c.end_at-end.result ≤ get_or c.args.st.now.maxes c.args.f 0 = let w = (c.requires.stretches c.loop-parts.k c.loop-parts.invariant.within).within in omega (arith, w, c.end_at-end.ensures) in
    let low : c.end_at-end.result + 1 ≤ c.max-max.result = omega (arith, most, c.max-max.ensures, c.if-end-max.false) in
    subst (HaveRun c.args.st.now c.args.f c.args.ss.now c.args.from (c.loop-parts.k + 1)) (sym c.in_ok-push.ensures.ok)
    (have_run_empty c.args.st.now c.args.f c.args.ss.now c.args.from (c.loop-parts.k + 1) (c.end_at-end.result + 1) c.max-max.result c.args.none c.put_part.new.parts
    (laid_step c.args.st.now c.args.f c.args.ss.now c.args.from c.loop-parts.k c.loop-parts.next c.args.none c.end_at-end.result c.loop-parts.parts c.put_part.new.parts c.loop-parts.invariant.laid c.requires.none c.requires.field c.requires.stretches
    c.loop-parts.invariant.within c.loop-parts.invariant.order c.loop-parts.invariant.out c.loop-parts.invariant.following c.in_ok-put_part.ensures c.end_at-end.ensures)
    c.requires.none c.requires.field low c.max-max.ensures (omega (arith, c.loop-parts.invariant.order)) (omega (arith, c.loop-parts.invariant.within)))

pub loop-parts-preserved : goal.loop-parts-preserved
loop-parts-preserved c = record {
  order = omega (arith, c.loop-parts.invariant.order);
  within = omega (arith, c.loop-parts.invariant.within, c.if-k-ss.false);
  out = c.if-not-follows.ensures.out refl;
  following = c.if-not-follows.ensures.following refl;
  laid = laid_step c.args.st.now c.args.f c.args.ss.now c.args.from c.loop-parts.k c.loop-parts.next c.args.none c.end_at-end.result c.loop-parts.parts c.put_part.new.parts c.loop-parts.invariant.laid c.requires.none c.requires.field c.requires.stretches
      c.loop-parts.invariant.within c.loop-parts.invariant.order c.loop-parts.invariant.out c.loop-parts.invariant.following c.in_ok-put_part.ensures c.end_at-end.ensures;
}
