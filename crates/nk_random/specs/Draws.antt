-- The generator of draws: the minimal standard of Park and Miller (Communications of the ACM 31, 1988) with the multiplier
-- of Park, Miller and Stockmeyer (Communications of the ACM 36, 1993).
use Rattle.std.specs.Prelude.{ℕ, ◌*◌, ◌%◌}

-- the draw after this one
abbrev pub next_draw : ℕ → ℕ
next_draw x = (48271 * x) % 2147483647
