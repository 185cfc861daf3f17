-- The side of a label: 1 below the bound, and 2 from the bound on.
use Rattle.std.proofs.Common.{◌≡◌, ℕ, ◌<◌, ◌≤◌, Bool, true, false, cond, refl, sym, ap, ◌∙◌, arith}
use Rattle.std.specs.Prelude.{nat_lt}
use Rattle.std.proofs.lemmas.Bool.{ltb-true, ltb-false, lt-ltb, le-ltb}
use Rattle.nk_reach.specs.Sides.{label_side}

-- the mark by the side
abbrev pub mark_by : Bool → ℕ
mark_by b = cond b 1 2

-- labels below the bound have mark 1, and the others mark 2
pub mark_below : (bound l : ℕ) → l < bound → label_side bound l ≡ 1
mark_below bound l lt = ap mark_by (lt-ltb l bound lt)

pub mark_above : (bound l : ℕ) → bound ≤ l → label_side bound l ≡ 2
mark_above bound l le = ap mark_by (le-ltb l bound le)

pub below_from : (bound l : ℕ) → label_side bound l ≡ 1 → l < bound
below_from bound l e = by (nat_lt l bound) refl
  where
    by : (b : Bool) → nat_lt l bound ≡ b → l < bound
    by true is = ltb-true l bound is
    by false is = let two : 2 ≡ 1 = sym (ap mark_by is) ∙ e in absurd (omega (arith, two))

pub above_from : (bound l : ℕ) → label_side bound l ≡ 2 → bound ≤ l
above_from bound l e = by (nat_lt l bound) refl
  where
    by : (b : Bool) → nat_lt l bound ≡ b → bound ≤ l
    by true is = let one : 1 ≡ 2 = sym (ap mark_by is) ∙ e in absurd (omega (arith, one))
    by false is = ltb-false l bound is
