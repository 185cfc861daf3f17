-- From packet to packet by the outs of a diagram that end.
use Rattle.std.specs.Prelude.{◌≡◌, ℕ, zero, suc, List, Contains}
use Rattle.nk_field.specs.Act.{applied}
use Rattle.nk_store.specs.declared.node.Out.{Out}

-- one of the outs at the packet makes y of it, and ends
abbrev pub Makes : (List ℕ → List Out) → List ℕ → List ℕ → Type 0
Makes D pk y = (g : List (ℕ × ℕ)) × Contains (D pk) (record { act = g; target = 0 }) × (y ≡ applied g pk)

-- n steps lead from the packet to y, each made at the packet that the one before made
abbrev pub Leads : (List ℕ → List Out) → ℕ → List ℕ → List ℕ → Type 0
Leads D zero pk y = y ≡ pk
Leads D (suc n) pk y = (x : List ℕ) × Makes D pk x × Leads D n x y
