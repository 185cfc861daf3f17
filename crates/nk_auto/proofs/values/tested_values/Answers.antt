use Rattle.std.proofs.Common.{◌≡◌, ℕ, List, drop, arith, sym, subst}
use Rattle.nk_policy.specs.Policy.{sum_of}
use Rattle.nk_policy.specs.Tree.{tree_of, trees_of}
use Rattle.nk_auto.specs.Values.{KeepsWhere}
use Rattle.nk_auto.proofs.Parts.{trees_before}
use Rattle.nk_auto.proofs.Tested.{keeps_more, keeps_moved}
use Rattle.nk_auto.proofs.values.tested_values.Goals as goal

pub loop-i-preserved : goal.loop-i-preserved
loop-i-preserved c =
    let here = sym (trees_before c.args.ps.now c.loop-i.i c.index-ps-i.result c.loop-i-test.true c.loop-i.invariant.within c.index-ps-i.is) in
    record {
      within = omega (arith, c.loop-i.invariant.within);
      keeps = subst (λ ps. KeepsWhere c.args.f c.push_values.new.found (sum_of ps)) here
          (keeps_more c.args.f c.in-Some.ends c.loop-i.found c.push_values.new.found (tree_of c.index-ps-i.result) (trees_of (drop c.loop-i.i c.args.ps.now)) c.in_ok-push_values.ensures c.in-Some.ensures c.loop-i.invariant.keeps);
    }

pub returns : goal.returns
returns c =
    let zero_is : c.loop-i.i ≡ 0 = omega (arith, c.loop-i-test.false) in
    let keeps : KeepsWhere c.args.f c.loop-i.found (sum_of (trees_of c.args.ps.now)) = subst (λ n. KeepsWhere c.args.f c.loop-i.found (sum_of (trees_of (drop n c.args.ps.now)))) zero_is c.loop-i.invariant.keeps in
    subst (λ (xs : List (ℕ × ℕ)). KeepsWhere c.args.f xs (sum_of (trees_of c.args.ps.now))) (sym c.from_vec.ensures)
    (keeps_moved c.args.f c.into_vec-intervals.result.items c.sort_unstable.new.self.items (sum_of (trees_of c.args.ps.now)) c.sort_unstable.ensures.permutation
    (subst (λ (xs : List (ℕ × ℕ)). KeepsWhere c.args.f xs (sum_of (trees_of c.args.ps.now))) (sym c.into_vec-intervals.ensures) keeps))
