-- Intervals cut by hand.
use Rattle.std.specs.Prelude.{◌≡◌, [], ◌∷◌}
use Rattle.nk_prefix.specs.Prefix.{digits_of}
use Rattle.nk_prefix.specs.Blocks.{blocks_of}

-- how many digits some numbers have
abbrev pub DigitsByHand : Type 0
DigitsByHand =
    (digits_of 0 ≡ 1) × (digits_of 1 ≡ 1) × (digits_of 7 ≡ 3) × (digits_of 8 ≡ 4) × (digits_of 9 ≡ 4)
    × (digits_of 65535 ≡ 16) × (digits_of 65536 ≡ 17)

-- with values up to 7: the interval 1..5, and what is beside it
abbrev pub UpToSeven : Type 0
UpToSeven =
    (blocks_of 0 0 7 ≡ (0, 3) ∷ []) × (blocks_of 6 7 7 ≡ (6, 2) ∷ [])
    × (blocks_of 1 5 7 ≡ (1, 3) ∷ (2, 2) ∷ (4, 2) ∷ []) × (blocks_of 0 7 7 ≡ (0, 0) ∷ [])

-- with values up to 9, of four digits: an interval within, one that ends at 9, and the single value 9
abbrev pub UpToNine : Type 0
UpToNine =
    (blocks_of 2 5 9 ≡ (2, 3) ∷ (4, 3) ∷ []) × (blocks_of 8 9 9 ≡ (8, 1) ∷ []) × (blocks_of 9 9 9 ≡ (9, 4) ∷ [])
    × (blocks_of 7 9 9 ≡ (7, 4) ∷ (8, 1) ∷ []) × (blocks_of 3 2 9 ≡ [])
