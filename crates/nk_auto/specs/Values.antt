-- Packets by the values of one field.
use Rattle.std.specs.Prelude.{◌≡◌, ℕ, ◌-◌, ◌↔◌, Bool, true, nat_le, ◌&&◌, List, [], ◌∷◌, ◌++◌, if◌then◌else◌, slice_index}
use Rattle.std.specs.List.{list_any}
use Rattle.nk_policy.specs.Policy.{Policy}
use Rattle.nk_policy.specs.Meaning.{Gives}
use Rattle.nk_store.specs.declared.node.Out.{Out}
use Rattle.nk_store.specs.StoreState.{StoreState, root_field, HasLeaves}
use Rattle.nk_apply.specs.Seqs.{no_out}

-- the value is in the interval, by its ends
abbrev pub is_between : ℕ → ℕ × ℕ → Bool
is_between v ends = nat_le ends.0 v && nat_le v ends.1

-- without a record the policy ends exactly where the field's value is in one of the intervals, at the packet itself
abbrev pub KeepsWhere : ℕ → List (ℕ × ℕ) → Policy → Type 0
KeepsWhere f intervals p =
    (pk y : List ℕ) → Gives p pk [] y ↔ ((list_any (is_between (slice_index pk f)) intervals ≡ true) × (y ≡ pk))

-- the new intervals have the values of the old ones and of one more
abbrev pub HaveOneMore : (old new : List (ℕ × ℕ)) (ends : ℕ × ℕ) → Type 0
HaveOneMore old new ends = (v : ℕ) → list_any (is_between v) new ≡ list_any (is_between v) (old ++ ends ∷ [])

-- the packet itself for a value in one of the intervals, nothing for another one
abbrev pub value_leaf : List (ℕ × ℕ) → ℕ → List Out
value_leaf intervals v = if list_any (is_between v) intervals then no_out ∷ [] else []

-- the diagram has one leaf for all packets
pub record IsConstant (st : StoreState) (d : ℕ) (outs : List Out) : Type 0 where
  pub leaves : HasLeaves st d (λ pk. outs)
  pub root_field_is : root_field st d ≡ 18

-- the part for the values from low on that are below high, if there are any
abbrev pub gap : ℕ → ℕ → ℕ → List (ℕ × ℕ)
gap low high d = if nat_le high low then [] else (high - 1, d) ∷ []

-- the out of an assignment
abbrev pub one_out : ℕ → ℕ → Out
one_out f n = record { act = (f, n) ∷ []; target = 0 }
