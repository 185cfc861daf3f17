-- The draws of a network: which of those after a seed is for which of its parts.
use Rattle.std.specs.Prelude.{ℕ, zero, suc, ◌+◌, ◌*◌, List, [], ◌∷◌, take, drop, slice_index}
pub use Rattle.nk_random.specs.Draws.{next_draw}

-- so many draws after a seed, in their order
abbrev pub draws : ℕ → ℕ → List ℕ
draws seed zero = []
draws seed (suc n) = next_draw seed ∷ draws (next_draw seed) n

-- all draws of a network of so many switches: one for the home of each switch, then one for the chord of each switch, then
-- the key
abbrev pub all_draws : ℕ → ℕ → List ℕ
all_draws size seed = draws seed (2 * size + 1)

-- the draws for homes, switch by switch
abbrev pub home_draws : ℕ → ℕ → List ℕ
home_draws size seed = take size (all_draws size seed)

-- the draws for chords, switch by switch
abbrev pub chord_draws : ℕ → ℕ → List ℕ
chord_draws size seed = take size (drop size (all_draws size seed))

-- the key: the draw after these
abbrev pub key : ℕ → ℕ → ℕ
key size seed = slice_index (all_draws size seed) (2 * size)
