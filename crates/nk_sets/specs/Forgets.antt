-- A field forgotten: the packets that are in a set for some value of the field (quantification over a field).
use Rattle.std.specs.Prelude.{◌≡◌, ℕ, zero, suc, ◌≤◌, ◌||◌, nat_eq, Bool, List, [], ◌∷◌, if◌then◌else◌, Some, slice_index, slice_set, map}
use Rattle.std.specs.Map.{lookup}
use Rattle.nk_store.specs.declared.node.Out.{Out}
use Rattle.nk_store.specs.StoreState.{StoreState, root_field, HasLeaves, IsCase}
use Rattle.nk_apply.specs.Seqs.{no_out}
use Rattle.nk_sets.specs.PacketSets.{is_in, IsSet}

-- whether a value up to the highest passes the test
abbrev pub some_value : (ℕ → Bool) → ℕ → Bool
some_value passes zero = passes 0
some_value passes (suc high) = passes (suc high) || some_value passes high

-- whether the packet is in the set for some value of the field
abbrev pub is_in_for_some : StoreState → ℕ → ℕ → List ℕ → Bool
is_in_for_some st f s pk = some_value (λ v. is_in st s (slice_set pk f v)) (slice_index st.maxes f)

-- the packet itself where it is
abbrev pub forgotten : StoreState → ℕ → ℕ → List ℕ → List Out
forgotten st f s pk = if is_in_for_some st f s pk then no_out ∷ [] else []

-- r is the set s with the field forgotten; it tests no field before those of s
pub record IsForgotten (st : StoreState) (f s r : ℕ) : Type 0 where
  pub set : IsSet st s
  pub leaves : HasLeaves st r (forgotten st f s)
  pub later : root_field st s ≤ root_field st r

-- a set tests the field first, and its parts have these children
abbrev pub AreChildren : StoreState → ℕ → ℕ → List ℕ → Type 0
AreChildren st s f ds = (parts : List (ℕ × ℕ)) × IsCase st s f parts × (ds ≡ map (λ p. p.1) parts)

-- each entry of a table leads from a set to it with the field forgotten
abbrev pub AreForgotten : StoreState → ℕ → List (ℕ × ℕ) → Type 0
AreForgotten st f entries = (s r : ℕ) → lookup (nat_eq s) entries ≡ Some r → IsForgotten st f s r
