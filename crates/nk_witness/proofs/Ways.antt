-- Ways from the start to what is reached, and that a shortest one passes each level.
use Rattle.std.proofs.Common.{ℕ, ◌<◌, ◌+◌, ◌⊎◌, inl, inr, arith}
use Rattle.nk_determ.specs.Reach.{Reach, Exact}
use Rattle.nk_goal.proofs.Graphs.{not_before, some_before}

-- what is bad is not reached before the last level
pub violation_not_early : {N : Type 0} (Start : N → Type 0) (Step : N → N → Type 0) (Good : N → Type 0) (Lev : ℕ → N → Type 0) (IsViolation : N → Type 0) (h : ℕ) (n : N) → Exact Start Step Good Lev (h + 1) → ((j : ℕ) (n : N) → j < h + 1 → Good n → Lev j n ⊎ (Lev j n → ⊥)) → ((i : ℕ) → i < h → Lev i n → IsViolation n → ⊥) → Good n → IsViolation n → (j : ℕ) → j < h → Reach Start Step j n → ⊥
violation_not_early Start Step Good Lev IsViolation h n e dec goal g b j l r =
    elim (some_before Good Lev (h + 1) n g dec (j + 1) (omega (arith, l))) [
      | inl found ↦ goal found.0 (omega (arith, found.1, l)) found.2 b
      | inr none ↦ not_before Start Step Good Lev (h + 1) (j + 1) n e (omega (arith, l)) none j (omega arith) r
    ]
