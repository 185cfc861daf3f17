-- What the tables of a policy are made of: its automaton and its tag sets.
use Rattle.std.specs.Prelude.{◌≡◌, ℕ, ◌+◌, ◌<◌, false, Some, None, List, [], length, map, slice_index, slice_index_or, All}
use Rattle.nk_field.specs.Packet.{FieldTable, IsFieldTable}
use Rattle.nk_topo.specs.Topology.{Topology, IsTopology}
use Rattle.nk_policy.specs.Policy.{Policy, marked_from}
use Rattle.nk_policy.specs.Leaves.{has_leaf, is_on_field, is_dup, is_switch_assignment}
use Rattle.nk_policy.specs.Tags.{AreTags}
use Rattle.nk_names.specs.Accepted.{IsStartPacket, is_link_outside}
use Rattle.nk_store.specs.StoreState.{StoreState, IsOver, HasFields}
use Rattle.nk_determ.specs.Sets.{HasAscendingSets}
use Rattle.nk_auto.specs.Automaton.{IsAutomaton}
use Rattle.nk_compile.specs.NumberedAfter.{tags_after}
use Rattle.nk_compile.specs.Refusals.{static_refusal_with}

-- a policy of which nothing is seen that stands against it, over these fields, where links are declared
pub record IsClear (fields : FieldTable) (topo : Topology) (tag : ℕ) (p : Policy) : Type 0 where
  pub table : IsFieldTable fields
  pub tag_is : fields.tag ≡ Some tag
  pub topology : IsTopology topo
  pub numbered : marked_from p 1 ≡ p
  pub tag_free : has_leaf (is_on_field tag) p ≡ false
  pub dups_in_links : has_leaf is_dup p ≡ false
  pub switch_in_links : has_leaf is_switch_assignment p ≡ false
  pub links_declared : has_leaf (is_link_outside topo.links) p ≡ false

-- the sets with these numbers
abbrev pub sets_of : List (List ℕ) → List ℕ → List (List ℕ)
sets_of ss tags = map (λ s. slice_index_or ss s []) tags

-- the automaton's states in a store over the fields, and the numbers of the tags' sets: for the first so many tags those of the
-- set without labels, and after them those of the tag sets in order
pub record IsReady (first : ℕ) (fields : FieldTable) (topo : Topology) (p : Policy) (st : StoreState) (ss : List (List ℕ)) (states tags : List ℕ) : Type 0 where
  pub over : IsOver fields st
  pub has : HasFields st
  pub automaton : IsAutomaton st states 1 p
  pub ascend : HasAscendingSets ss
  pub known : All (λ s. s < length ss) tags
  pub sets : List (List ℕ)
  pub numbered : sets_of ss tags ≡ tags_after first sets
  pub in_order : AreTags p (IsStartPacket fields topo) sets

-- a clear policy of which nothing is seen, with its automaton's states in a store over the fields
pub record IsBegun (fields : FieldTable) (topo : Topology) (tag : ℕ) (p : Policy) (st : StoreState) (states : List ℕ) : Type 0 where
  pub clear : IsClear fields topo tag p
  pub seen : static_refusal_with tag topo p ≡ None
  pub over : IsOver fields st
  pub automaton : IsAutomaton st states 1 p
  pub room : slice_index fields.maxima tag + 1 < 18446744073709551616
