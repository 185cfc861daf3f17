-- Sets of packets as predicate diagrams (Smolka et al., ICFP 2015): a packet is in the set where the leaf is not empty.
use Rattle.std.specs.Prelude.{ℕ, Bool, true, false, List, [], ◌∷◌}
use Rattle.nk_store.specs.declared.node.Out.{Out}
use Rattle.nk_store.specs.StoreState.{StoreState, IsId, look}
use Rattle.nk_apply.specs.Predicates.{IsPredicate}

-- whether there is an out
abbrev pub has_some_out : List Out → Bool
has_some_out [] = false
has_some_out (o ∷ os) = true

-- whether the packet is in the set
abbrev pub is_in : StoreState → ℕ → List ℕ → Bool
is_in st s pk = has_some_out (look st s pk)

-- the number stands for a set of packets
pub record IsSet (st : StoreState) (s : ℕ) : Type 0 where
  pub id : IsId st s
  pub predicate : IsPredicate st s
