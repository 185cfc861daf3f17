-- What operations on diagrams make of their leaves.
use Rattle.std.specs.Prelude.{ℕ, Bool, not, cond, eqb, min, List, [], ◌∷◌, slice_index}
use Rattle.std.specs.List.{list_any, filter}
use Rattle.std.specs.declared.cmp.Ordering.{Ordering}
use Rattle.std.specs.declared.cmp.Ordering.TheVariants.{Less, Equal, Greater}
use Rattle.nk_field.specs.Act.{applied, act_then}
use Rattle.nk_store.specs.declared.node.Out.{Out}
use Rattle.nk_store.specs.declared.operation.Operation.{Operation}
use Rattle.nk_store.specs.declared.operation.Operation.TheVariants.{Union, Both, Negate, Missing, Seq, Split}
use Rattle.nk_store.specs.contracts.node.OutPartialEq.TheImpl.{ghosts}
use Rattle.nk_store.specs.Leaves.{out_cmp}

-- the answer for less, equal or greater
abbrev pub by_order : {A : Type 0} → Ordering → A → A → A → A
by_order Less a b c = a
by_order Equal a b c = b
by_order Greater a b c = c

-- x and xs among ys, where rest puts xs among a list
abbrev pub weave : Out → List Out → (List Out → List Out) → List Out → List Out
weave x xs rest [] = x ∷ xs
weave x xs rest (y ∷ ys) = by_order (out_cmp x y) (x ∷ rest (y ∷ ys)) (x ∷ rest ys) (y ∷ weave x xs rest ys)

-- two ascending lists as one
abbrev pub merged : List Out → List Out → List Out
merged [] ys = ys
merged (x ∷ xs) ys = weave x xs (merged xs) ys

-- d where p is not empty
abbrev pub guarded : List Out → List Out → List Out
guarded [] d = []
guarded (x ∷ xs) d = d

-- the packet itself where p is empty
abbrev pub absent : List Out → List Out → List Out
absent [] d = record { act = []; target = 0 } ∷ []
absent (x ∷ xs) d = []

-- whether two outs are one
abbrev pub out_eq : Out → Out → Bool
out_eq x y = ghosts.eq x y

-- whether the out is one of a leaf's
abbrev pub has_out : List Out → Out → Bool
has_out outs o = list_any (λ x. out_eq o x) outs

-- the outs of the first leaf that the second one lacks
abbrev pub lacking : List Out → List Out → List Out
lacking xs ys = filter (λ o. not (has_out ys o)) xs

-- what F makes of each out, as one ascending list
abbrev pub gathered : (Out → List Out) → List Out → List Out
gathered F [] = []
gathered F (o ∷ os) = merged (F o) (gathered F os)

-- an out, after the act g
abbrev pub out_after : List (ℕ × ℕ) → Out → Out
out_after g o = record { act = act_then g o.act; target = o.target }

-- each out after the act g
abbrev pub prefixed : List (ℕ × ℕ) → List Out → List Out
prefixed g [] = []
prefixed g (o ∷ os) = merged (out_after g o ∷ []) (prefixed g os)

-- each out of the first leaf, then those that the second diagram gives the packet that it makes
abbrev pub seq_leaf : List Out → (List ℕ → List Out) → List ℕ → List Out
seq_leaf [] B pk = []
seq_leaf (o ∷ os) B pk = merged (prefixed o.act (B (applied o.act pk))) (seq_leaf os B pk)

-- the assignments that change the packet; a value past the highest counts as the highest
abbrev pub exact : List ℕ → List ℕ → List (ℕ × ℕ) → List (ℕ × ℕ)
exact maxes pk [] = []
exact maxes pk (s ∷ ss) =
    cond (eqb (min (slice_index pk s.0) (slice_index maxes s.0)) s.1) (exact maxes pk ss) (s ∷ exact maxes pk ss)

-- the out with those assignments of its act that change the packet
abbrev pub exact_out : List ℕ → List ℕ → Out → Out
exact_out maxes pk o = record { act = exact maxes pk o.act; target = o.target }

-- each out with those assignments of its act that change the packet
abbrev pub split_leaf : List ℕ → List ℕ → List Out → List Out
split_leaf maxes pk os = gathered (λ o. exact_out maxes pk o ∷ []) os

-- the leaf of an operation's answer at a packet, by the leaf of its first diagram there and the leaves of its second
abbrev pub made : Operation → List ℕ → List Out → (List ℕ → List Out) → List ℕ → List Out
made Union maxes a B pk = merged a (B pk)
made Both maxes a B pk = guarded a (B pk)
made Negate maxes a B pk = absent a (B pk)
made Missing maxes a B pk = lacking a (B pk)
made Seq maxes a B pk = seq_leaf a B pk
made Split maxes a B pk = split_leaf maxes pk a
