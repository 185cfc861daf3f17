-- Schedules that are drawn: where nothing flies all stays.
use Rattle.std.proofs.Common.{◌≡◌, ℕ, zero, suc, ◌+◌, ◌%◌, ◌-◌, ◌≤◌, [], ◌∷◌, List, refl, sym, ap, ◌∙◌, length, arith}
use Rattle.std.specs.Prelude.{remove, slice_get}
use Rattle.nk_flight.specs.declared.copies.Flying.{Flying}
use Rattle.nk_flight.specs.Flights.{FlightState, handled}
use Rattle.nk_flight.specs.Draws.{draw, handled_by_draw, after_draws}

-- nothing flies
nothing : (s : FlightState) (fs : List Flying) (i : ℕ) → fs ≡ [] → handled s (slice_get fs i) (remove fs i) ≡ s
nothing s fs i e = ap (λ l. handled s (slice_get l i) (remove l i)) e

-- so a draw leaves all as it is
idle : (s : FlightState) (x : ℕ) → s.flying ≡ [] → handled_by_draw x s ≡ s
idle s x e = nothing s s.flying (x % length s.flying) e

-- and so do more draws
idle_more : (seed n m : ℕ) (s : FlightState) → (after_draws seed n s).flying ≡ [] → after_draws seed (m + n) s ≡ after_draws seed n s
idle_more seed n zero s e = let same : 0 + n ≡ n = omega arith in ap (λ (k : ℕ). after_draws seed k s) same
idle_more seed n (suc m) s e =
    let rest = idle_more seed n m s e in
    let count : suc m + n ≡ suc (m + n) = omega arith in
    ap (λ (k : ℕ). after_draws seed k s) count
    ∙ ap (handled_by_draw (draw seed (suc (m + n)))) rest
    ∙ idle (after_draws seed n s) (draw seed (suc (m + n))) e

-- up to any later number of draws
pub idle_to : (seed n m : ℕ) (s : FlightState) → n ≤ m → length (after_draws seed n s).flying ≡ 0 → after_draws seed n s ≡ after_draws seed m s
idle_to seed n m s le none =
    let count : (m - n) + n ≡ m = omega (arith, le) in
    sym (ap (λ (k : ℕ). after_draws seed k s) (sym count) ∙ idle_more seed n (m - n) s (no_items (after_draws seed n s).flying none))
  where
    no_items : {X : Type 0} (xs : List X) → length xs ≡ 0 → xs ≡ []
    no_items [] e = refl
    no_items (x ∷ xs) e = absurd (omega (arith, e))
