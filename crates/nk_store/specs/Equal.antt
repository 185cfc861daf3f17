-- `==` of nodes, of lists of numbers, and of what answers are found by, tells whether they are one.
use Rattle.std.proofs.Common.{◌≡◌, ℕ, Bool, true, false, ◌&&◌, List, nat_eq, refl, ap, ◌∙◌, eqb, eqb-true, eq-eqb, IsTrue}
use Rattle.std.specs.Bool.{Decides}
use Rattle.std.specs.Cmp.Lexicographic.{pointwise, pointwise_decides}
use Rattle.std.proofs.lemmas.Bool.Decides.{Decides-eqb, Decides-and, Decides-like}
use Rattle.nk_store.specs.declared.node.Node.{Node}
use Rattle.nk_store.specs.declared.node.Node.TheVariants.{Leaf, Case}
use Rattle.nk_store.specs.declared.node.Out.{Out}
use Rattle.nk_store.specs.declared.operation.Operation.{Operation}
use Rattle.nk_store.specs.declared.operation.Operation.TheVariants.{Union, Both, Negate, Missing, Seq, Split}
use Rattle.nk_store.specs.declared.operation.Key.{Key}
use Rattle.nk_store.specs.contracts.node.NodePartialEq.TheImpl.{ghosts}
use Rattle.nk_store.specs.contracts.node.OutPartialEq.TheImpl as out_impl
use Rattle.nk_store.specs.contracts.operation.OperationPartialEq.TheImpl as operation_impl
use Rattle.nk_store.specs.contracts.operation.KeyPartialEq.TheImpl as key_impl

-- the test of two parts tells whether they are one
pub pair_decides : (p q : ℕ × ℕ) → Decides (eqb p.0 q.0 && eqb p.1 q.1) (p ≡ q)
pair_decides p q = Decides-like _ (λ (h : (p.0 ≡ q.0) × (p.1 ≡ q.1)) i. (h.0 i, h.1 i)) (λ e. (ap (λ r. r.0) e, ap (λ r. r.1) e)) (Decides-and _ _ (Decides-eqb p.0 q.0) (Decides-eqb p.1 q.1))

-- `==` of outs tells whether they are one
pub out_decides : (a b : Out) → Decides (out_impl.ghosts.eq a b) (a ≡ b)
out_decides a b =
    Decides-like _ (λ (h : (a.act ≡ b.act) × (a.target ≡ b.target)) i. record { act = h.0 i; target = h.1 i }) (λ e. (ap (λ (o : Out). o.act) e, ap (λ (o : Out). o.target) e))
    (Decides-and _ _ (pointwise_decides pair_decides a.act b.act) (Decides-eqb a.target b.target))

-- `==` of nodes tells whether they are one
pub node_eq_decides : (a b : Node) → Decides (ghosts.eq a b) (a ≡ b)
node_eq_decides (Leaf xs) (Leaf ys) =
    Decides-like _ (λ (h : xs ≡ ys). ap (λ zs. Leaf zs) h) (λ e. cc) (pointwise_decides out_decides xs ys)
node_eq_decides (Leaf xs) (Case g qs) = (λ e. cc, λ e. cc)
node_eq_decides (Case f ps) (Leaf ys) = (λ e. cc, λ e. cc)
node_eq_decides (Case f ps) (Case g qs) =
    Decides-like _ (λ (h : (f ≡ g) × (ps ≡ qs)). cc) (λ e. (cc, cc))
    (Decides-and _ _ (Decides-eqb f g) (pointwise_decides pair_decides ps qs))

-- nodes that are equal are one
pub node_same : (a b : Node) → IsTrue (ghosts.eq a b) → a ≡ b
node_same a b h = (node_eq_decides a b).0 h

-- lists of numbers that are equal are one
pub numbers_same : (a b : List ℕ) → IsTrue (pointwise nat_eq a b) → a ≡ b
numbers_same a b h = (pointwise_decides Decides-eqb a b).0 h

-- operations that are equal are one
operation_same : (a b : Operation) → operation_impl.ghosts.eq a b ≡ true → a ≡ b
operation_same Union Union h = refl
operation_same Union Both h = cc
operation_same Union Negate h = cc
operation_same Union Missing h = cc
operation_same Union Seq h = cc
operation_same Union Split h = cc
operation_same Both Union h = cc
operation_same Both Both h = refl
operation_same Both Negate h = cc
operation_same Both Missing h = cc
operation_same Both Seq h = cc
operation_same Both Split h = cc
operation_same Negate Union h = cc
operation_same Negate Both h = cc
operation_same Negate Negate h = refl
operation_same Negate Missing h = cc
operation_same Negate Seq h = cc
operation_same Negate Split h = cc
operation_same Missing Union h = cc
operation_same Missing Both h = cc
operation_same Missing Negate h = cc
operation_same Missing Missing h = refl
operation_same Missing Seq h = cc
operation_same Missing Split h = cc
operation_same Seq Union h = cc
operation_same Seq Both h = cc
operation_same Seq Negate h = cc
operation_same Seq Missing h = cc
operation_same Seq Seq h = refl
operation_same Seq Split h = cc
operation_same Split Union h = cc
operation_same Split Both h = cc
operation_same Split Negate h = cc
operation_same Split Missing h = cc
operation_same Split Seq h = cc
operation_same Split Split h = refl

-- the first of two that both hold
and_left : (s t : Bool) → (s && t) ≡ true → s ≡ true
and_left true t h = refl
and_left false t h = h

-- the second of two that both hold
and_right : (s t : Bool) → (s && t) ≡ true → t ≡ true
and_right true t h = h
and_right false t h = cc

-- keys that are equal are one
pub key_same : (k q : Key) → key_impl.ghosts.eq k q ≡ true → k ≡ q
key_same k q h =
    let a : k.operation ≡ q.operation = operation_same k.operation q.operation (and_left _ _ h) in
    let rest = and_right _ _ h in
    let b : k.left ≡ q.left = eqb-true _ _ (and_left _ _ rest) in
    let c : k.right ≡ q.right = eqb-true _ _ (and_right _ _ rest) in
    λ i. record { operation = a i; left = b i; right = c i }

-- an operation is equal to itself
operation_alike : (a : Operation) → operation_impl.ghosts.eq a a ≡ true
operation_alike Union = refl
operation_alike Both = refl
operation_alike Negate = refl
operation_alike Missing = refl
operation_alike Seq = refl
operation_alike Split = refl

-- two that both hold hold together
and_both : (s t : Bool) → s ≡ true → t ≡ true → (s && t) ≡ true
and_both s t h k = ap (λ x. x && t) h ∙ k

-- a key is equal to itself
pub key_alike : (k : Key) → key_impl.ghosts.eq k k ≡ true
key_alike k = and_both _ _ (operation_alike k.operation) (and_both _ _ (eq-eqb k.left k.left refl) (eq-eqb k.right k.right refl))
