-- Two sets of labels followed as one, the second one's labels marked again.
use Rattle.std.specs.Prelude.{◌≡◌, ℕ, Bool, true, List, [], ◌++◌, map, slice_index_or}
use Rattle.nk_store.specs.StoreState.{StoreState, IsStorePacket, AreTidy}
use Rattle.nk_sets.specs.PacketSets.{is_in}
use Rattle.nk_determ.specs.Levels.{AreLevels}
use Rattle.nk_reach.specs.Sides.{alone, ends_of}
use Rattle.nk_witness.specs.Finds.{first_set, first_packets}
use Rattle.nk_merge.specs.DisjointCopies.{again, label_count}
use Rattle.nk_merge.specs.declared.disjoint_copy.DisjointCopy.{DisjointCopy}

-- the labels of both, where so many are marked already, those of the second set marked again
abbrev pub both_sets : ℕ → List ℕ → List ℕ → List ℕ
both_sets n s t = s ++ map (again n) t

-- levels of both sets together from all packets, up to an end of one of them alone
pub record AreLevelsOfTwo (st : StoreState) (ss : List (List ℕ)) (states s t : List ℕ) (disjoint : DisjointCopy) (ls : List (List (ℕ × ℕ))) (broken : Bool) : Type 0 where
  pub tidy : AreTidy st
  pub set_is : slice_index_or ss (first_set ls) [] ≡ both_sets (label_count states) s t
  pub start_is : (pk : List ℕ) → IsStorePacket st pk → is_in st (first_packets ls) pk ≡ true
  pub levels : AreLevels st st ss disjoint.rows (first_set ls) (first_packets ls) (λ set pk. alone (ends_of st disjoint.goal.ends set pk)) ls broken
