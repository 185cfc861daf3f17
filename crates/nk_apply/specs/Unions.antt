-- Many diagrams together.
use Rattle.std.specs.Prelude.{◌≡◌, ℕ, zero, suc, ◌+◌, ◌<◌, ◌≤◌, List, [], ◌++◌, length, map, slice_index}
use Rattle.std.specs.List.{flat_map}
use Rattle.nk_store.specs.declared.node.Out.{Out}
use Rattle.nk_store.specs.Nodes.{child_at}
use Rattle.nk_store.specs.StoreState.{StoreState, IsId, IsWhole, look, root_field, AreParts}
use Rattle.nk_apply.specs.Leaves.{merged}
use Rattle.nk_apply.specs.Seqs.{outs_of}
use Rattle.nk_apply.specs.Cofactors.{cofactor}

-- each is a number of the store
abbrev pub AreIds : StoreState → List ℕ → Type 0
AreIds st ds = (k : ℕ) → k < length ds → IsId st (slice_index ds k)

-- the leaves of n of the diagrams, from an index on, as one ascending list
abbrev pub unions : StoreState → List ℕ → ℕ → ℕ → List ℕ → List Out
unions st ds from zero pk = []
unions st ds from (suc n) pk = merged (look st (slice_index ds from) pk) (unions st ds (from + 1) n pk)

-- the outs of all these leaves, one leaf's after the other's
abbrev pub outs_in_turn : StoreState → List ℕ → List Out
outs_in_turn st ds = flat_map (outs_of st) ds

-- what F makes of n indices from this one on, as one ascending list
abbrev pub over_places : (ℕ → List Out) → ℕ → ℕ → List Out
over_places F from zero = []
over_places F from (suc n) = merged (F from) (over_places F (from + 1) n)

-- what F makes of n indices from this one on, one list after the other
abbrev pub in_turn : (ℕ → List Out) → ℕ → ℕ → List Out
in_turn F from zero = []
in_turn F from (suc n) = F from ++ in_turn F (from + 1) n

-- none of the diagrams tests a field before f
abbrev pub AreFrom : StoreState → ℕ → List ℕ → Type 0
AreFrom st f ds = (k : ℕ) → k < length ds → f ≤ root_field st (slice_index ds k)

-- the leaf of the diagram with index k, at the value v of f
abbrev pub cofactor_leaf : StoreState → ℕ → List ℕ → ℕ → List ℕ → ℕ → List Out
cofactor_leaf st f ds v pk k = look st (cofactor st f v (slice_index ds k)) pk

-- what each of the diagrams is at the value v of f
abbrev pub cofactors : StoreState → ℕ → ℕ → List ℕ → List ℕ
cofactors st f v ds = map (cofactor st f v) ds

-- each of the diagrams is at the values of f from v to e what it is at v
abbrev pub AreSteady : StoreState → ℕ → List ℕ → ℕ → ℕ → Type 0
AreSteady st f ds v e = (k w : ℕ) → k < length ds → v ≤ w → w ≤ e →
    cofactor st f w (slice_index ds k) ≡ cofactor st f v (slice_index ds k)

-- parts by f that have at each value v the leaf R v
pub record HaveParts (st : StoreState) (f : ℕ) (R : ℕ → List ℕ → List Out) (ps : List (ℕ × ℕ)) : Type 0 where
  pub parts : AreParts st f ps
  pub leaf : (v : ℕ) (pk : List ℕ) → IsWhole pk → look st (child_at 0 ps v) pk ≡ R v pk
