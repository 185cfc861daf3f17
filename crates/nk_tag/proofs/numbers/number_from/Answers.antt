use Rattle.std.proofs.Common.{◌≡◌, ◌+◌, ◌-◌, ◌*◌, ◌<◌, ◌≤◌, ◌/◌, length, refl, sym, subst, ◌∙◌, arith}
use Rattle.nk_tag.specs.Numbers.{odd_level, AreNumbers}
use Rattle.nk_determ.proofs.Naming.{named_within}
use Rattle.nk_tag.proofs.Below.{below_more, all_below, too_many}
use Rattle.nk_tag.proofs.numbers.number_from.Goals as goal

pub returns-then-len-max-clause-err : goal.returns-then-len-max-clause-err
returns-then-len-max-clause-err c =
    let more = below_more c.args.ss.now (odd_level c.args.lv.now.levels) c.loop-j.j c.loop-j.all.keys c.add_level.new.all.keys c.loop-j.invariant.below c.in_ok-add_level.ensures in
    let lt : c.args.max < c.args.first + length c.add_level.new.all.keys = omega (arith, c.len.ensures.len, c.if-len-max.true, c.requires.first) in
    let n = c.args.max + 1 - c.args.first in
    let sum : c.args.first + n ≡ c.args.max + 1 = omega (arith, c.requires.first) in
    (refl, (n, too_many c.args.ss.now (odd_level c.args.lv.now.levels) (c.loop-j.j + 1) c.add_level.new.all.keys n more (omega (arith, lt)), sum))

pub loop-j-preserved : goal.loop-j-preserved
loop-j-preserved c = record {
  below = below_more c.args.ss.now (odd_level c.args.lv.now.levels) c.loop-j.j c.loop-j.all.keys c.add_level.new.all.keys c.loop-j.invariant.below c.in_ok-add_level.ensures;
  few = omega (arith, c.len.ensures.len, c.if-len-max.false, c.requires.first);
}

pub returns-clause-ok : goal.returns-clause-ok
returns-clause-ok c =
    let many : length c.args.lv.now.levels / 2 ≤ c.loop-j.j = omega (arith, c.loop-j-test.false, c.len-j-end.ensures) in
    subst (λ l. AreNumbers c.args.ss.now c.args.lv.now.levels l)
    (sym (c.in_ok-sets.ensures ∙ c.as_slice.ensures.keys))
    (all_below c.args.ss.now (odd_level c.args.lv.now.levels) c.loop-j.j c.loop-j.all.keys
    (λ j s h. let lt = named_within c.args.lv.now.levels (2 * j + 1) s h in omega (arith, lt, many)) c.loop-j.invariant.below)
