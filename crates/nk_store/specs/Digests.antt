-- The number by which a node, a list of numbers, or what an answer is kept under, is found.
use Rattle.std.specs.Prelude.{ℕ, ◌+◌, ◌*◌, ◌/◌, ◌%◌, ◌^◌, List, [], ◌∷◌, length, nat_eq, if◌then◌else◌}
use Rattle.std.specs.Int.{w64, from_le_bytes}
use Rattle.nk_store.specs.declared.node.Node.{Node}
use Rattle.nk_store.specs.declared.node.Node.TheVariants.{Leaf, Case}
use Rattle.nk_store.specs.declared.node.Out.{Out}
use Rattle.nk_store.specs.declared.operation.Operation.{Operation}
use Rattle.nk_store.specs.declared.operation.Operation.TheVariants.{Union, Both, Negate, Missing, Seq, Split}
use Rattle.nk_store.specs.declared.operation.Key.{Key}

-- the odd number after twice another one
abbrev pub odd : ℕ → ℕ
odd n = ((n * 2) % 2 ^ 64 + 1) % 2 ^ 64

-- what a number is multiplied by, made of two others: odd, so no two numbers have the same product with it
abbrev pub factor : ℕ → ℕ → ℕ
factor a b = odd ((((b * 0x9e37_79b9_7f4a_7c15) % 2 ^ 64 + a) % 2 ^ 64 + 0x243f_6a88_85a3_08d3) % 2 ^ 64)

-- two halves of a product as one: h + l + 2 * h * l
abbrev pub halves_mixed : ℕ → ℕ → ℕ
halves_mixed h l = ((h * odd l) % 2 ^ 64 + l) % 2 ^ 64

-- the halves of the product of two numbers as one, with the second number added
abbrev pub folded : ℕ → ℕ → ℕ
folded x y = (halves_mixed (x * y / 2 ^ 64) ((x * y) % 2 ^ 64) + y) % 2 ^ 64

-- two numbers mixed into another
abbrev pub mixed : ℕ → ℕ → ℕ → ℕ
mixed n a b = folded (((n + a) % 2 ^ 64 + b) % 2 ^ 64) (factor a b)

-- numbers mixed into a number
abbrev pub numbers_mixed : ℕ → List ℕ → ℕ
numbers_mixed n [] = n
numbers_mixed n (m ∷ ms) = numbers_mixed (mixed n m 0) ms

-- assignments mixed into a number
abbrev pub sets_mixed : ℕ → List (ℕ × ℕ) → ℕ
sets_mixed n [] = n
sets_mixed n (s ∷ sets) = sets_mixed (mixed n s.0 s.1) sets

-- parts mixed into a number
abbrev pub parts_mixed : ℕ → List (ℕ × ℕ) → ℕ
parts_mixed n [] = n
parts_mixed n (p ∷ parts) = parts_mixed (mixed n p.0 p.1) parts

-- outs mixed into a number
abbrev pub outs_mixed : ℕ → List Out → ℕ
outs_mixed n [] = n
outs_mixed n (o ∷ outs) = outs_mixed (mixed (sets_mixed n o.act) o.target 0) outs

-- a node as a number
abbrev pub digest : Node → ℕ
digest (Leaf outs) = outs_mixed 0 outs
digest (Case f parts) = parts_mixed f parts

-- an operation as a number
abbrev pub operation_number : Operation → ℕ
operation_number Union = 0
operation_number Both = 1
operation_number Negate = 2
operation_number Missing = 3
operation_number Seq = 4
operation_number Split = 5

-- an operation and its diagrams as a number
abbrev pub key_mixed : Key → ℕ
key_mixed k = mixed (operation_number k.operation) k.left k.right

-- eight bytes as a number, the lowest first; other writes leave the number before
abbrev pub number_given : ℕ → List ℕ → ℕ
number_given before bytes = if nat_eq (length bytes) 8 then from_le_bytes w64 bytes else before
