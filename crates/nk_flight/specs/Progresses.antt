-- How many plan steps each switch has done, as it is held: a count for each number of a switch, and how many of the declared
-- switches have done one, and two.
use Rattle.std.specs.Prelude.{◌≡◌, ℕ, Bool, nat_le, List, length, filter, ◌≤◌, All}
use Rattle.nk_field.specs.Lists.{IsWithoutDoubles}
use Rattle.nk_flight.specs.Updates.{done_by}

-- the declared switches, and how many steps each has done, by its number
pub record ProgressState : Type 0 where
  pub switches : List ℕ
  pub done : List ℕ

abbrev pub progress_at : List ℕ → List ℕ → ProgressState
progress_at switches counts = record { switches = switches; done = counts }

-- how many elements pass a test
abbrev pub how_many : {X : Type 0} → (X → Bool) → List X → ℕ
how_many test xs = length (filter test xs)

-- how many of the switches have done so many steps
abbrev pub have_done : ℕ → (ℕ → ℕ) → List ℕ → ℕ
have_done n done switches = how_many (λ sw. nat_le n (done sw)) switches

-- No switch stands twice, each number of a switch has its count, none more than three, and so many switches have done one
-- step, and two.
pub record IsProgress (switches counts : List ℕ) (once twice : ℕ) : Type 0 where
  pub distinct : IsWithoutDoubles switches
  pub room : length counts ≡ 65536
  pub most : All (λ d. d ≤ 3) counts
  pub ones : once ≡ have_done 1 (done_by counts) switches
  pub twos : twice ≡ have_done 2 (done_by counts) switches
