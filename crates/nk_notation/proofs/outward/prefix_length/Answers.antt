use Rattle.std.proofs.Common.{rules, ◌≡◌, ◌<◌, ◌-◌, ℕ, zero, suc, true, false, cond, refl, sym, ap, subst, ◌∙◌, arith}
use Rattle.std.specs.Prelude.{None, Some}
use Rattle.nk_notation.specs.Outward.{is_block, length_below}
use Rattle.nk_notation.proofs.outward.prefix_length.Goals as goal

-- the greatest length below n, by the one before it
length_more : (n x y : ℕ) → 0 < n → length_below n x y ≡ cond (is_block x y (n - 1)) (Some (n - 1)) (length_below (n - 1) x y)
unfolding length_below
length_more zero x y lt = absurd (omega arith)
length_more (suc k) x y lt =
    let e : k ≡ suc k - 1 = omega arith in
    subst (λ m. length_below (suc k) x y ≡ cond (is_block x y m) (Some m) (length_below m x y)) e refl

none_below : (n x y : ℕ) → n ≡ 0 → length_below n x y ≡ None
unfolding length_below
none_below n x y e = ap (λ m. length_below m x y) e

pub returns-then-is_block : goal.returns-then-is_block
returns-then-is_block c =
    let d = c.lengths.digits in
    let yes : is_block c.args.low c.args.high (d - 1) ≡ true = search rules in
    sym (ap (λ t. cond t (Some (d - 1)) (length_below (d - 1) c.args.low c.args.high)) yes)
    ∙ sym (length_more d c.args.low c.args.high (omega arith)) ∙ c.lengths.invariant.none

pub lengths-preserved : goal.lengths-preserved
lengths-preserved c =
    let d = c.lengths.digits in
    let fails : is_block c.args.low c.args.high (d - 1) ≡ false = search rules in record {
      within = omega arith;
      none = sym (ap (λ t. cond t (Some (d - 1)) (length_below (d - 1) c.args.low c.args.high)) fails)
          ∙ sym (length_more d c.args.low c.args.high (omega arith)) ∙ c.lengths.invariant.none;
    }

pub returns : goal.returns
returns c = sym (none_below c.lengths.digits c.args.low c.args.high (omega arith)) ∙ c.lengths.invariant.none
