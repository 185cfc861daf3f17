-- Leaves put together.
pub use Rattle.nk_store.specs.Operations.{by_order, weave, merged, guarded, absent, gathered}
use Rattle.std.specs.Prelude.{ℕ, List, [], ◌∷◌}
use Rattle.nk_store.specs.declared.node.Out.{Out}

-- the out with another target
abbrev pub out_to : ℕ → Out → Out
out_to target o = record { act = o.act; target = target }

-- each out with that target
abbrev pub aimed : ℕ → List Out → List Out
aimed target os = gathered (λ o. out_to target o ∷ []) os
