-- A match in the place of the first one that doesn't come before it.
use Rattle.std.proofs.Common.{◌≡◌, ◌<◌, ◌≤◌, ◌+◌, ℕ, suc, List, [], ◌∷◌, Bool, true, false, cond, length, refl, ap, ◌∙◌, arith}
use Rattle.std.proofs.Math.ListN.{set}
use Rattle.std.specs.Prelude.{nat_lt}
use Rattle.std.specs.List.{prefix_len}
use Rattle.nk_tabtext.specs.Progress.{match_set}

abbrev pub before : ℕ → List (ℕ × ℕ × ℕ) → ℕ
before f ms = prefix_len (λ x. nat_lt x.0 f) ms

one_more : (k : ℕ) → 1 + k ≡ suc k
one_more k = omega arith

pub set_there : (m : ℕ × ℕ × ℕ) (ms : List (ℕ × ℕ × ℕ)) → before m.0 ms < length ms → set ms (before m.0 ms) m ≡ match_set m ms
set_there m [] h = absurd (omega arith)
set_there m (x ∷ xs) h = by (nat_lt x.0 m.0) h (set_there m xs)
  where
    less : (k n : ℕ) → 1 + k < suc n → k < n
    less k n e = omega arith

    by : (b : Bool) → cond b (1 + before m.0 xs) 0 < length (x ∷ xs) → (before m.0 xs < length xs → set xs (before m.0 xs) m ≡ match_set m xs)
        → set (x ∷ xs) (cond b (1 + before m.0 xs) 0) m ≡ cond b (x ∷ match_set m xs) (m ∷ xs)
    by true e ih = ap (λ k. set (x ∷ xs) k m) (one_more (before m.0 xs)) ∙ ap (λ l. x ∷ l) (ih (less (before m.0 xs) (length xs) e))
    by false e ih = refl

pub set_nowhere : (m : ℕ × ℕ × ℕ) (ms : List (ℕ × ℕ × ℕ)) → length ms ≤ before m.0 ms → ms ≡ match_set m ms
set_nowhere m [] h = refl
set_nowhere m (x ∷ xs) h = by (nat_lt x.0 m.0) h (set_nowhere m xs)
  where
    less : (k n : ℕ) → suc n ≤ 1 + k → n ≤ k
    less k n e = omega arith

    by : (b : Bool) → length (x ∷ xs) ≤ cond b (1 + before m.0 xs) 0 → (length xs ≤ before m.0 xs → xs ≡ match_set m xs) → x ∷ xs ≡ cond b (x ∷ match_set m xs) (m ∷ xs)
    by true e ih = ap (λ l. x ∷ l) (ih (less (before m.0 xs) (length xs) e))
    by false e ih = absurd (omega arith)
