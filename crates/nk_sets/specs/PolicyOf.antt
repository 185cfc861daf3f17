-- The policy that is printed for a packet set.
use Rattle.std.specs.Prelude.{◌≡◌, ℕ, ◌↔◌, true, List, []}
use Rattle.nk_policy.specs.Policy.{Policy}
use Rattle.nk_policy.specs.Meaning.{Gives}
use Rattle.nk_store.specs.StoreState.{StoreState, IsStorePacket, look}
use Rattle.nk_store.specs.Diagram.{IsReduced, leaf_at}
use Rattle.nk_sets.specs.PacketSets.{is_in}
use Rattle.nk_sets.specs.Predicate.{SetInterval, predicate_of, intervals_of}
use Rattle.nk_sets.specs.Trees.{branches_of, set_tree}

-- the predicate of the set's reduced tree, which keeps exactly the packets of the set
pub record IsPolicyOf (st : StoreState) (s : ℕ) (p : Policy) : Type 0 where
  pub is : p ≡ predicate_of (set_tree st s)
  pub reduced : IsReduced (set_tree st s) st.maxes 0
  pub leaves : (pk : List ℕ) → IsStorePacket st pk → leaf_at (set_tree st s) [] pk ≡ look st s pk
  pub keeps : (pk : List ℕ) → IsStorePacket st pk → Gives p pk [] pk ↔ (is_in st s pk ≡ true)

-- a set of the store as the child of an interval of values
abbrev pub interval_at : StoreState → ℕ → ℕ → ℕ → SetInterval
interval_at st first last c = record {
  first = first;
  last = last;
  child = set_tree st c;
  made = predicate_of (set_tree st c);
}

-- the intervals of parts
abbrev pub intervals_at : StoreState → List (ℕ × ℕ) → ℕ → List SetInterval
intervals_at st parts from = intervals_of (branches_of parts (set_tree st)) from
