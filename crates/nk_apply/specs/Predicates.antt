-- Diagrams that stand for sets of packets, and diagrams whose outs all end.
use Rattle.std.specs.Prelude.{◌≡◌, ℕ, List, [], ◌∷◌}
use Rattle.nk_store.specs.declared.node.Out.{Out}
use Rattle.nk_store.specs.Leaves.{Every}
use Rattle.nk_store.specs.StoreState.{StoreState, IsWhole, look}
use Rattle.nk_apply.specs.Seqs.{no_out}

-- the leaf is empty, or it has the packet itself alone
abbrev pub IsPass : List Out → Type 0
IsPass [] = Unit {0}
IsPass (o ∷ os) = (o ≡ no_out) × (os ≡ [])

-- a predicate diagram: it lets a packet pass as it is, or drops it
abbrev pub IsPredicate : StoreState → ℕ → Type 0
IsPredicate st d = (pk : List ℕ) → IsWhole pk → IsPass (look st d pk)

-- each out of each leaf has target 0
abbrev pub HasOnlyFinals : (List ℕ → List Out) → Type 0
HasOnlyFinals D = (pk : List ℕ) → IsWhole pk → Every (λ o. o.target ≡ 0) (D pk)
