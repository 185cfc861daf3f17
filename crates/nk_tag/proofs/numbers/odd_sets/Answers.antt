use Rattle.std.proofs.Common.{◌+◌, ◌*◌, ◌≤◌, ◌/◌, length, sym, subst, ◌∙◌, arith}
use Rattle.nk_tag.specs.Numbers.{odd_level, AreNumbers}
use Rattle.nk_determ.proofs.Naming.{named_within}
use Rattle.nk_tag.proofs.Below.{below_more, all_below}
use Rattle.nk_tag.proofs.numbers.odd_sets.Goals as goal

pub loop-k-preserved : goal.loop-k-preserved
loop-k-preserved c =
    below_more c.args.ss.now (odd_level c.args.lv.now.levels) c.loop-k.k c.loop-k.all.keys c.add_level.new.all.keys c.loop-k.invariant c.in_ok-add_level.ensures

pub returns : goal.returns
returns c =
    let many : length c.args.lv.now.levels / 2 ≤ c.loop-k.k = omega (arith, c.loop-k-test.false, c.len-k-end.ensures) in
    subst (λ l. AreNumbers c.args.ss.now c.args.lv.now.levels l)
    (sym (c.in_ok-sets.ensures ∙ c.as_slice.ensures.keys))
    (all_below c.args.ss.now (odd_level c.args.lv.now.levels) c.loop-k.k c.loop-k.all.keys
    (λ j s h. let lt = named_within c.args.lv.now.levels (2 * j + 1) s h in omega (arith, lt, many)) c.loop-k.invariant)
