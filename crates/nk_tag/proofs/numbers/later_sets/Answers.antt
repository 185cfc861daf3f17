use Rattle.std.proofs.Common.{◌≡◌, suc, ◌+◌, ◌-◌, ◌≤◌, length, sym, subst, ◌∙◌, arith, get_or, []}
use Rattle.nk_tag.specs.Numbers.{later_level, AreLaterSets}
use Rattle.nk_tag.specs.Steps.{IsAdded, AreBelow}
use Rattle.nk_determ.proofs.Naming.{named_within}
use Rattle.nk_tag.proofs.Below.{below_more, all_below}
use Rattle.nk_tag.proofs.numbers.later_sets.Goals as goal

pub loop-i-preserved : goal.loop-i-preserved
loop-i-preserved c =
    let at : c.loop-i.i ≡ suc (c.loop-i.i - 1) = omega arith in
    let next : (c.loop-i.i - 1) + 1 ≡ (c.loop-i.i + 1) - 1 = omega arith in
    subst (λ n. AreBelow (later_level c.args.lv.now.levels) c.args.ss.now n c.add_level.new.all.keys) next
    (below_more c.args.ss.now (later_level c.args.lv.now.levels) (c.loop-i.i - 1) c.loop-i.all.keys c.add_level.new.all.keys c.loop-i.invariant
    (subst (λ i. IsAdded c.args.ss.now (get_or c.args.lv.now.levels i []) c.loop-i.all.keys c.add_level.new.all.keys) at c.in_ok-add_level.ensures))

pub returns : goal.returns
returns c =
    let many : length c.args.lv.now.levels ≤ c.loop-i.i = omega (arith, c.loop-i-test.false, c.len-i-end.ensures) in
    subst (λ l. AreLaterSets c.args.ss.now c.args.lv.now.levels l)
    (sym (c.in_ok-sets.ensures ∙ c.as_slice.ensures.keys))
    (all_below c.args.ss.now (later_level c.args.lv.now.levels) (c.loop-i.i - 1) c.loop-i.all.keys
    (λ j s h. let lt = named_within c.args.lv.now.levels (suc j) s h in omega (arith, lt, many)) c.loop-i.invariant)
