-- An act without one field still ascends.
use Rattle.std.proofs.Common.{ℕ, ◌+◌, ◌≤◌, Bool, true, false, cond, eqb, List, [], ◌∷◌, arith}
use Rattle.nk_field.specs.Act.{AscendsFrom, left_without}

-- what ascends from a number on ascends from a lower one on
lower : (low high : ℕ) (ss : List (ℕ × ℕ)) → low ≤ high → AscendsFrom high ss → AscendsFrom low ss
lower low high [] h a = tt
lower low high (s ∷ ss) h a = (omega (arith, h, a.0), a.1)

-- what is left of an ascending act without one field ascends
pub without_ascends : (f low : ℕ) (ss : List (ℕ × ℕ)) → AscendsFrom low ss →
    AscendsFrom low (left_without f ss)
without_ascends f low [] a = tt
without_ascends f low (s ∷ ss) a = by (eqb s.0 f) (without_ascends f (s.0 + 1) ss a.1)
  where
    -- whether the first assignment goes or stays
    by : (b : Bool) → AscendsFrom (s.0 + 1) (left_without f ss) →
        AscendsFrom low (cond b (left_without f ss) (s ∷ left_without f ss))
    by true r = lower low (s.0 + 1) (left_without f ss) (omega (arith, a.0)) r
    by false r = (a.0, r)
