-- Leaves in a store that grew.
use Rattle.std.proofs.Common.{ℕ, List, ◌∙◌}
use Rattle.nk_store.specs.declared.node.Out.{Out}
use Rattle.nk_store.specs.StoreState.{StoreState, Grows, HasLeaves}

-- what a diagram gives stays in a store that grew
pub leaves_grow : (old new : StoreState) (d : ℕ) (F : List ℕ → List Out) → Grows old new → HasLeaves old d F →
    HasLeaves new d F
leaves_grow old new d F g h = record { id = g.ids d h.id; leaf = λ pk whole. g.leaves d pk h.id ∙ h.leaf pk whole }
