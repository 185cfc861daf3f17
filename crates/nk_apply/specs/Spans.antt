-- A diagram for the values from lo to hi, and another one for the rest.
use Rattle.std.specs.Prelude.{◌==◌, ℕ, ◌-◌, min, nat_le, ◌&&◌, List, [], ◌∷◌, ◌++◌, if◌then◌else◌}

-- a value past the field's highest counts as the highest
abbrev pub spanned : ℕ → ℕ → ℕ → ℕ → ℕ → ℕ → ℕ
spanned high lo hi inside outside v = if nat_le lo (min v high) && nat_le (min v high) hi then inside else outside

-- the part for the values below lo, if there are any
abbrev pub before : ℕ → ℕ → List (ℕ × ℕ)
before lo outside = if lo == 0 then [] else (lo - 1, outside) ∷ []

-- the part for the values above hi, if there are any
abbrev pub after : ℕ → ℕ → ℕ → List (ℕ × ℕ)
after high hi outside = if hi == high then [] else (high, outside) ∷ []

-- the parts of a diagram with one child from lo to hi and another one for the rest
abbrev pub span_list : ℕ → ℕ → ℕ → ℕ → ℕ → List (ℕ × ℕ)
span_list high lo hi inside outside = before lo outside ++ ((hi, inside) ∷ after high hi outside)
