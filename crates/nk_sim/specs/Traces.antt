-- The histories of a packet that is followed through tables, and what a trace answers.
use Rattle.std.specs.Prelude.{◌≡◌, ℕ, zero, suc, ◌+◌, ◌⊎◌, List, [], ◌++◌, map, length, AllPairs}
use Rattle.std.specs.List.Sorted.{IsPermutation}
use Rattle.nk_field.specs.declared.history.History.{History}
use Rattle.nk_field.specs.Order.{Found, IsLess}
use Rattle.nk_table.specs.declared.Tables.{Tables}
use Rattle.nk_table.specs.Hops.{Copy, waiting, left_after}
use Rattle.nk_sim.specs.declared.tracing.Traced.{Traced}

-- a copy that has left, as a history
abbrev pub as_history : Copy → History
as_history c = record { records = c.records; last = c.packet }

-- the histories that leave after exactly k crossings
abbrev pub histories_after : Tables → ℕ → List ℕ → List History
histories_after t k pk = map as_history (left_after t k pk)

-- those that leave after fewer than n crossings
abbrev pub histories_before : Tables → ℕ → List ℕ → List History
histories_before t zero pk = []
histories_before t (suc n) pk = histories_before t n pk ++ histories_after t n pk

-- a history with the packet where it began
abbrev pub found : List ℕ → History → Found
found pk h = record { start = pk; records = h.records; last = h.last }

-- each history is the same as each later one, or comes before it
abbrev pub AreOrderedFrom : List ℕ → List History → Type 0
AreOrderedFrom pk hs = AllPairs (λ g h. (g ≡ h) ⊎ IsLess (found pk g) (found pk h)) hs

-- all histories that leave after at most so many crossings, each as often as it leaves, in order; and how many copies
-- would make one crossing more
pub record IsTrace (t : Tables) (hops : ℕ) (pk : List ℕ) (traced : Traced) : Type 0 where
  pub all : IsPermutation (histories_before t (hops + 1) pk) traced.histories
  pub ordered : AreOrderedFrom pk traced.histories
  pub flying : traced.flying ≡ length (waiting t (hops + 1) pk)
