-- What is found, step by step.
use Rattle.std.specs.Prelude.{◌≡◌, ℕ, ◌<◌, List, [], length, slice_index_or}
use Rattle.nk_field.specs.Order.{Found}
use Rattle.nk_store.specs.declared.node.Out.{Out}
use Rattle.nk_store.specs.StoreState.{StoreState, IsStorePacket}
use Rattle.nk_determ.specs.Reach.{Reach}
use Rattle.nk_determ.specs.Pairs.{Node, Under, Within, IsStart, IsStep}
use Rattle.nk_determ.specs.Levels.{IsViolation}
use Rattle.nk_witness.specs.Histories.{PrecedesOrEquals, IsLeastWalk}
use Rattle.nk_witness.specs.declared.found.Side.{Side}
use Rattle.nk_witness.specs.declared.found.Side.TheVariants.{Left, Right}
use Rattle.nk_witness.specs.declared.found.Found as declared

-- the number of the set that levels start from
abbrev pub first_set : List (List (ℕ × ℕ)) → ℕ
first_set ls = (slice_index_or (slice_index_or ls 0 []) 0 (0, 0)).0

-- the packets that levels start from
abbrev pub first_packets : List (List (ℕ × ℕ)) → ℕ
first_packets ls = (slice_index_or (slice_index_or ls 0 []) 0 (0, 0)).1

-- the target of a side's violations
abbrev pub target_of : Side → ℕ
target_of Left = 0
target_of Right = 1

-- the history that is found, as the order sees it
abbrev pub found_of : declared.Found → Found
found_of f = record { start = f.start; records = f.history.records; last = f.history.last }

-- y, under the set t, is the least packet to which a step of the set at x leads under next
pub record IsNextLeast (st : StoreState) (ss : List (List ℕ)) (states set x : List ℕ) (next : List (ℕ × ℕ)) (t : ℕ) (y : List ℕ) : Type 0 where
  pub known : t < length ss
  pub step : IsStep st states (set, x) (slice_index_or ss t [], y)
  pub under : Under st next t y
  pub first : (k : Node) → IsStep st states (set, x) k → Within st ss next k → PrecedesOrEquals y k.1

-- the first i records of the least history, and the set and the packet that are met after them
pub record IsForward (old st : StoreState) (ss : List (List ℕ)) (states : List ℕ) (start : ℕ) (bad : List ℕ → List ℕ → List Out) (h i : ℕ) (back : List (ℕ × ℕ)) (set first : List ℕ) (records : List (List ℕ)) (s : ℕ) (x : List ℕ) : Type 0 where
  pub walk : IsLeastWalk (IsStep old states) (IsViolation bad) h (set, first) records (slice_index_or ss s [], x)
  pub count : length records ≡ i
  pub at : Reach (IsStart old set start) (IsStep old states) i (slice_index_or ss s [], x)
  pub packet : IsStorePacket old x
  pub under : Under st back s x
