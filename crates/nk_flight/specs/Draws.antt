-- Schedules that are drawn: at each step the next draw says which copy is handled.
use Rattle.std.specs.Prelude.{ℕ, zero, suc, ◌%◌, length}
pub use Rattle.nk_random.specs.Draws.{next_draw}
use Rattle.nk_flight.specs.Flights.{FlightState, stepped}

-- the draw of this number from a seed
abbrev pub draw : ℕ → ℕ → ℕ
draw seed zero = seed
draw seed (suc n) = next_draw (draw seed n)

-- the copy at a drawn place is handled; where nothing flies all stays
abbrev pub handled_by_draw : ℕ → FlightState → FlightState
handled_by_draw x s = stepped (x % length s.flying) s

-- after so many draws from a seed
abbrev pub after_draws : ℕ → ℕ → FlightState → FlightState
after_draws seed zero s = s
after_draws seed (suc n) s = handled_by_draw (draw seed (suc n)) (after_draws seed n s)
