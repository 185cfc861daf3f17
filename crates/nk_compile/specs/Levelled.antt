-- The levels of a policy's automaton from the located untagged packets, up to ends off edge ports.
use Rattle.std.specs.Prelude.{◌≡◌, ℕ, ◌+◌, Bool, List, [], ◌∷◌, slice_index_or}
use Rattle.nk_topo.specs.Topology.{Topology}
use Rattle.nk_store.specs.declared.node.Out.{Out}
use Rattle.nk_store.specs.StoreState.{StoreState, Grows, AreTidy}
use Rattle.nk_policy.specs.Labels.{AtLeast}
use Rattle.nk_determ.specs.Levels.{AreLevels}
use Rattle.nk_tag.specs.Numbers.{IsAtOdd}
use Rattle.nk_tag.specs.declared.error.NumberError.{NumberError}
use Rattle.nk_tag.specs.declared.error.NumberError.TheVariants as number
use Rattle.nk_compile.specs.declared.refusal.CompileError.{CompileError}
use Rattle.nk_compile.specs.declared.refusal.CompileError.TheVariants as compile
use Rattle.nk_compile.specs.declared.refusal.Refusal.TheVariants as refusal
use Rattle.nk_field.specs.Order.{Found, IsLeast}
use Rattle.nk_determ.specs.Counterexamples.{IsCounterexample}
use Rattle.nk_runs.specs.Wrong.{AreWrongEnds}
use Rattle.nk_compile.specs.Edges.{is_start, is_no_edge}
use Rattle.nk_compile.specs.PacketSets.{IsSetInRange}
use Rattle.nk_compile.specs.Refusals.{found_from}

-- the levels of these states from the start packets; they are broken where a member ends at no edge port
pub record IsLevelled (topo : Topology) (tag : ℕ) (old : StoreState) (states : List ℕ) (new : StoreState) (ss : List (List ℕ)) (levels : List (List (ℕ × ℕ))) (broken : Bool) : Type 0 where
  pub first : StoreState
  pub grew : Grows old first
  pub grows : Grows first new
  pub tidy : AreTidy first
  pub set : ℕ
  pub start : ℕ
  pub bad : List ℕ → List ℕ → List Out
  pub set_is : slice_index_or ss set [] ≡ 0 ∷ []
  pub start_is : IsSetInRange first start (is_start topo tag)
  pub wrong : AreWrongEnds first states (is_no_edge topo) bad
  pub are : AreLevels first new ss states set start bad levels broken

-- the least history from the start packets along these states that ends at no edge port
pub record IsLeastOff (topo : Topology) (tag : ℕ) (old : StoreState) (states : List ℕ) (f : Found) : Type 0 where
  pub first : StoreState
  pub grew : Grows old first
  pub tidy : AreTidy first
  pub start : ℕ
  pub bad : List ℕ → List ℕ → List Out
  pub start_is : IsSetInRange first start (is_start topo tag)
  pub wrong : AreWrongEnds first states (is_no_edge topo) bad
  pub least : IsLeast (IsCounterexample first states (0 ∷ []) start bad) f

-- why there are no levels without such an end: memory ran out, or the least history with one is told
abbrev pub IsOffFault : Topology → ℕ → StoreState → List ℕ → CompileError → Type 0
IsOffFault topo tag old states compile.NoMemory = Unit {0}
IsOffFault topo tag old states (compile.Refused (refusal.OffEdge start history)) = IsLeastOff topo tag old states (found_from start history)
IsOffFault topo tag old states (compile.Refused r) = ⊥

-- the fault of numbers as one of compilation
abbrev pub compile_fault : NumberError → CompileError
compile_fault number.NoMemory = compile.NoMemory
compile_fault (number.TooManyTags found) = compile.Refused (refusal.TooManyTags found)

-- why there are no tags after the first so many: memory ran out, or with so many of the sets the tags are as many as are told,
-- one more than may be
abbrev pub IsTagFault : List (List (ℕ × ℕ)) → (first max : ℕ) → CompileError → Type 0
IsTagFault levels first max compile.NoMemory = Unit {0}
IsTagFault levels first max (compile.Refused (refusal.TooManyTags found)) =
    (found ≡ max + 1) × ((n : ℕ) × AtLeast n (IsAtOdd levels) × (first + n ≡ found))
IsTagFault levels first max (compile.Refused r) = ⊥
