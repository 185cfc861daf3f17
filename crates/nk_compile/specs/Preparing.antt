-- A policy whose tags can be numbered, and why there is none.
use Rattle.std.specs.Prelude.{◌≡◌, ℕ, ◌<◌, ◌≤◌, ⊤, false, Option, Some, None, List, length, slice_index, slice_index_or}
use Rattle.nk_field.specs.Packet.{FieldTable}
use Rattle.nk_topo.specs.Topology.{Topology}
use Rattle.nk_policy.specs.Policy.{Policy}
use Rattle.nk_names.specs.declared.Program.{Program}
use Rattle.nk_names.specs.Named.{policy_named}
use Rattle.nk_names.specs.ProgramValue.{IsProgram}
use Rattle.nk_names.specs.WellFormed.{IsWellFormed}
use Rattle.nk_store.specs.StoreState.{StoreState}
use Rattle.nk_determ.specs.Sets.{HasEachSetOnce}
use Rattle.nk_tag.specs.Numbers.{AreNumbers}
use Rattle.nk_compile.specs.declared.numbered.Numbered.{Numbered}
use Rattle.nk_compile.specs.declared.prepared.Prepared.{Prepared}
use Rattle.nk_compile.specs.declared.refusal.CompileError.{CompileError}
use Rattle.nk_compile.specs.declared.refusal.CompileError.TheVariants.{NoMemory, Refused}
use Rattle.nk_compile.specs.declared.refusal.Refusal.TheVariants.{NoPolicy, NoTag, TooManyTags}
use Rattle.nk_compile.specs.Levelled.{IsLevelled}
use Rattle.nk_compile.specs.Ready.{IsBegun}
use Rattle.nk_compile.specs.Refusals.{IsReason}
use Rattle.nk_compile.specs.WholeTable.{link_end}

-- a policy of which nothing is seen that stands against it, with its automaton's states in a store over the fields and their
-- whole levels from the start packets
pub record IsPrepared (fields : FieldTable) (topo : Topology) (tag : ℕ) (p : Policy) (b : Prepared) : Type 0 where
  pub before : StoreState
  pub begun : IsBegun fields topo tag p before b.states
  pub levelled : IsLevelled topo tag before b.states b.store b.sets b.levels.levels b.levels.broken
  pub whole : b.levels.broken ≡ false
  pub differ : HasEachSetOnce b.sets

-- for each mark below so many the switch where the policy's link literal with it ends, if there is one
pub record AreLinkEnds (p : Policy) (count : ℕ) (ends : List (Option ℕ)) : Type 0 where
  pub len : length ends ≡ count
  pub each : (l : ℕ) → l < count → slice_index_or ends l None ≡ link_end p l

-- a prepared policy with the numbers of its tag sets in order, at most as many as the tag has values above 0
pub record IsNumberedPolicy (fields : FieldTable) (topo : Topology) (p : Policy) (n : Numbered) : Type 0 where
  pub tag : ℕ
  pub prepared : IsPrepared fields topo tag p n.prepared
  pub ends : AreLinkEnds p (length n.prepared.states) n.ends
  pub numbers : AreNumbers n.prepared.sets n.prepared.levels.levels n.tags
  pub few : length n.tags ≤ slice_index fields.maxima tag

-- so is the policy of this name of a program
pub record IsNumberedByName (program : Program) (name : List ℕ) (n : Numbered) : Type 0 where
  pub is : IsProgram program.fields program.topo program.lets
  pub policy : Policy
  pub named : policy_named program name ≡ Some policy
  pub held : IsWellFormed program.fields policy
  pub numbered : IsNumberedPolicy program.fields program.topo policy n

-- why a policy is refused before its tags are numbered; running out of memory says nothing
abbrev pub IsEarlyError : FieldTable → Topology → Policy → CompileError → Type 0
IsEarlyError fields topo p NoMemory = ⊤
IsEarlyError fields topo p (Refused NoPolicy) = ⊥
IsEarlyError fields topo p (Refused NoTag) = ⊥
IsEarlyError fields topo p (Refused (TooManyTags found)) = ⊥
IsEarlyError fields topo p (Refused r) = IsReason fields topo p r
