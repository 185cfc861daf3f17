-- One diagram, then another one.
pub use Rattle.nk_store.specs.Operations.{out_after, prefixed, seq_leaf}
use Rattle.std.specs.Prelude.{ℕ, min, nat_le, ◌&&◌, List, [], ◌∷◌, if◌then◌else◌, map, slice_index_or}
use Rattle.nk_field.specs.Act.{applied}
use Rattle.nk_store.specs.declared.node.Out.{Out}
use Rattle.nk_store.specs.declared.node.Node.{Node}
use Rattle.nk_store.specs.declared.node.Node.TheVariants.{Leaf, Case}
use Rattle.nk_store.specs.StoreState.{StoreState, node_of}

-- the outs of a node that is a leaf
abbrev pub node_outs : Node → List Out
node_outs (Leaf outs) = outs
node_outs (Case f parts) = []

-- the outs of a leaf
unfoldable pub outs_of : StoreState → ℕ → List Out
outs_of st d = node_outs (node_of st d)

-- the packet itself, to the target 0
abbrev pub no_out : Out
no_out = record { act = []; target = 0 }

-- what the second diagram makes of the out at a place
abbrev pub out_made : List Out → (List ℕ → List Out) → List ℕ → ℕ → List Out
out_made outs B pk k = prefixed (slice_index_or outs k no_out).act (B (applied (slice_index_or outs k no_out).act pk))

-- what the second diagram makes of the out at a place, where it has these outs at each packet: each of them after the act, in their order
abbrev pub outs_made : List Out → List Out → ℕ → List Out
outs_made outs seconds k = map (out_after (slice_index_or outs k no_out).act) seconds

-- the packet itself where the field's value is from lo to hi, a value past the highest counting as it
abbrev pub in_span : ℕ → ℕ → ℕ → ℕ → List Out
in_span high lo hi v = if nat_le lo (min v high) && nat_le (min v high) hi then no_out ∷ [] else []
