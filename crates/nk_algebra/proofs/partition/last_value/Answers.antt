use Rattle.std.proofs.Common.{ℕ, arith, ◌+◌, ◌-◌, ◌<◌, length, suc, drop, sym, subst, ap, ◌∙◌, ◌≡◌, false, true}
use Rattle.std.proofs.lemmas.Bool.Decides.{nat_tests}
use Rattle.std.proofs.lemmas.List.{get_or_default}
use Rattle.nk_algebra.specs.Partition.{assigns, last_value}
use Rattle.nk_algebra.proofs.Reaches.{found_last}
use Rattle.nk_algebra.proofs.partition.last_value.Goals as goal

pub returns-then-eq : goal.returns-then-eq
returns-then-eq c =
    let pairs = c.as_slice-pairs.result.now in
    let x = c.index-pairs-i-then-eq.result in
    let y = c.index-pairs-i.result in
    let before : c.loop-i.i ≡ suc (c.loop-i.i - 1) = omega (arith, c.loop-i-test.true) in
    let within : c.loop-i.i - 1 < length pairs = omega (arith, c.loop-i-test.true, c.loop-i.invariant.within) in
    let none : assigns c.args.f (drop (suc (c.loop-i.i - 1)) pairs) ≡ false =
    subst (λ (n : ℕ). assigns c.args.f (drop n pairs) ≡ false) before c.loop-i.invariant.none in
    let here : y.0 ≡ c.args.f = grind (arith, nat_tests, c.eq.ensures, c.if-eq.true) in
    let r = found_last c.args.f (c.loop-i.i - 1) pairs y within c.index-pairs-i.is here none in (
      subst (λ xs. assigns c.args.f xs ≡ true) c.as_slice-pairs.ensures r.0,
      subst (λ xs. last_value c.args.f xs ≡ y.1) c.as_slice-pairs.ensures r.1
          ∙ ap (λ (z : ℕ × ℕ). z.1) (c.index-pairs-i.is ∙ get_or_default pairs (c.loop-i.i - 1) y x within),
    )
