-- An interval of a field's values, cut into prefixes.
use Rattle.std.specs.Prelude.{◌≡◌, ◌≢◌, ℕ, zero, suc, ◌+◌, ◌-◌, ◌≤◌, ◌%◌, ◌^◌, ◌==◌, ◌&&◌, Bool, nat_lt, nat_le, if◌then◌else◌, List, [], ◌∷◌}
use Rattle.nk_prefix.specs.Prefix.{digits_of, agrees_to}

-- a block of 2 ^ k values that begins at v is aligned, and doesn't go past an end
abbrev pub fits : (v end k : ℕ) → Bool
fits v end k = (v % 2 ^ k == 0) && nat_le (v + 2 ^ k) (end + 1)

-- the largest k up to a number for which a block of 2 ^ k values that begins at v fits, 0 if there is none
abbrev pub largest_fit : (v end k : ℕ) → ℕ
largest_fit v end zero = 0
largest_fit v end (suc k) = if fits v end (suc k) then suc k else largest_fit v end k

-- where an interval counts as ending: one of several values that ends at the field's largest value ends at the largest
-- number of as many digits
abbrev pub end_of : (lo hi max : ℕ) → ℕ
end_of lo hi max = if nat_lt lo hi && (hi == max) then 2 ^ digits_of max - 1 else hi

-- the blocks from v on, each with its first value and how many digits its values share: from the first value on the
-- largest that begins there and fits, and none that begins past the field's largest value; at most so many
abbrev pub blocks_from : (digits end max : ℕ) → ℕ → ℕ → List (ℕ × ℕ)
blocks_from digits end max zero v = []
blocks_from digits end max (suc n) v =
    let rest = blocks_from digits end max n (v + 2 ^ largest_fit v end digits) in
    if nat_le v end && nat_le v max then (v, digits - largest_fit v end digits) ∷ rest else []

-- the blocks of the interval from lo to hi of a field with a largest value; there are no more than values
abbrev pub blocks_of : (lo hi max : ℕ) → List (ℕ × ℕ)
blocks_of lo hi max = blocks_from (digits_of max) (end_of lo hi max) max (end_of lo hi max + 1) lo

-- whether a value agrees with a block of a field with a largest value
abbrev pub is_in_block : (max n : ℕ) → ℕ × ℕ → Bool
is_in_block max n b = agrees_to b.0 b.1 (digits_of max) n

-- how many values a block of a field with a largest value has
abbrev pub block_size : ℕ → ℕ × ℕ → ℕ
block_size max b = 2 ^ (digits_of max - b.1)

-- blocks ascend and are disjoint: each begins right after the one before, and the first at v
abbrev pub BlocksAscend : (max v : ℕ) → List (ℕ × ℕ) → Type 0
BlocksAscend max v [] = Unit {0}
BlocksAscend max v (b ∷ bs) = (b.0 ≡ v) × BlocksAscend max (b.0 + block_size max b) bs

-- a block of an interval begins within it, begins at a multiple of its size, and shares at least one digit and at most
-- all; it shares none only where it has all values
pub record IsBlockOf (lo hi max : ℕ) (b : ℕ × ℕ) : Type 0 where
  pub low : lo ≤ b.0
  pub high : b.0 ≤ hi
  pub aligned : b.0 % block_size max b ≡ 0
  pub most : b.1 ≤ digits_of max
  pub least : lo ≢ 0 → 1 ≤ b.1
  pub whole : hi ≢ max → 1 ≤ b.1
