-- The link literals of a policy whose links are declared lead where the topology's links do.
use Rattle.std.proofs.Common.{◌≡◌, ℕ, Bool, true, false, inl, inr, ⊎_elim, Some, List, [], ◌∷◌, refl, sym, ap, subst, ◌∙◌}
use Rattle.std.specs.Prelude.{◌==◌, ◌&&◌, not, slice_index}
use Rattle.std.specs.List.{list_any}
use Rattle.nk_field.specs.declared.packet.Packet.{Packet}
use Rattle.nk_field.proofs.Lists.{In, contains_from_in}
use Rattle.nk_topo.specs.Topology.{Topology, Link, AreLinks, link_from}
use Rattle.nk_policy.specs.Policy.{Policy, Policies, sum_of, seq_of, star_of, link, no_part, part}
use Rattle.nk_policy.specs.Leaves.{has_leaf, some_has_leaf}
use Rattle.nk_policy.specs.Literals.{Literal, HoldsLiteral, SomeHoldsLiteral, IsAtSource}
use Rattle.nk_policy.proofs.Tests.{both_false, both_true, or_cases, same_from}
use Rattle.nk_names.specs.Accepted.{is_link_outside}

-- a test whose negation fails passes
true_of_not : (b : Bool) → not b ≡ false → b ≡ true
true_of_not true h = refl
true_of_not false h = cc

-- the literal's link
abbrev pub link_of : Literal → Link
link_of k = record { from_switch = k.from_switch; from_port = k.from_port; to_switch = k.to_switch; to_port = k.to_port }

-- a link by its four numbers
link_is : (l : Link) (a m b n : ℕ) → l.from_switch ≡ a → l.from_port ≡ m → l.to_switch ≡ b → l.to_port ≡ n → record { from_switch = a; from_port = m; to_switch = b; to_port = n } ≡ l
link_is l a m b n e f g h =
    ap (λ i. record { from_switch = i; from_port = m; to_switch = b; to_port = n }) (sym e)
    ∙ ap (λ i. record { from_switch = l.from_switch; from_port = i; to_switch = b; to_port = n }) (sym f)
    ∙ ap (λ i. record { from_switch = l.from_switch; from_port = l.from_port; to_switch = i; to_port = n }) (sym g)
    ∙ ap (λ i. record { from_switch = l.from_switch; from_port = l.from_port; to_switch = l.to_switch; to_port = i }) (sym h)

-- a link that the search finds is listed
found_link : (links : List Link) (a m b n : ℕ) → list_any (λ k. (k.from_switch == a) && (k.from_port == m) && (k.to_switch == b) && (k.to_port == n)) links ≡ true → In links record { from_switch = a; from_port = m; to_switch = b; to_port = n }
found_link [] a m b n h = cc
found_link (l ∷ ls) a m b n h =
    ⊎_elim
    (λ s.
    let s1 = both_true ((l.from_switch == a) && (l.from_port == m) && (l.to_switch == b)) (l.to_port == n) s in
    let s2 = both_true ((l.from_switch == a) && (l.from_port == m)) (l.to_switch == b) s1.0 in
    let s3 = both_true (l.from_switch == a) (l.from_port == m) s2.0 in
    inl (link_is l a m b n (same_from l.from_switch a s3.0) (same_from l.from_port m s3.1) (same_from l.to_switch b s2.1) (same_from l.to_port n s1.1)))
    (λ s. inr (found_link ls a m b n s))
    (or_cases ((l.from_switch == a) && (l.from_port == m) && (l.to_switch == b) && (l.to_port == n)) _ h)

module _ (links : List Link) where
  mutual
    -- a literal of a policy whose links are declared is a declared link
    pub literal_declared : (p : Policy) → has_leaf (is_link_outside links) p ≡ false → (k : Literal) → HoldsLiteral p k → In links (link_of k)
    literal_declared (sum_of ps) d k h = some_literal_declared ps d k h
    literal_declared (seq_of ps) d k h = some_literal_declared ps d k h
    literal_declared (star_of p) d k h = literal_declared p d k h
    literal_declared (link a m b n l) d k h =
        subst (λ (i : Literal). In links (link_of i)) (sym h) (found_link links a m b n (true_of_not _ d))
    literal_declared p d k h = absurd h

    -- a literal of parts whose links are declared is a declared link
    pub some_literal_declared : (ps : Policies) → some_has_leaf (is_link_outside links) ps ≡ false → (k : Literal) → SomeHoldsLiteral ps k → In links (link_of k)
    some_literal_declared no_part d k h = absurd h
    some_literal_declared (part p ps) d k h =
        let d' = both_false (has_leaf (is_link_outside links) p) (some_has_leaf (is_link_outside links) ps) d in
        ⊎_elim (λ a. literal_declared p d'.0 k a) (λ b. some_literal_declared ps d'.1 k b) h

-- so from where a literal records, the topology's link leads to the literal's target
pub link_at_source : (topo : Topology) → AreLinks topo → (p : Policy) → has_leaf (is_link_outside topo.links) p ≡ false → (k : Literal) → HoldsLiteral p k → (x : Packet) → IsAtSource k x → link_from topo (slice_index x 0) (slice_index x 1) ≡ Some (k.to_switch, k.to_port)
link_at_source topo ok p d k h x at =
    ap (λ i. link_from topo i (slice_index x 1)) at.0
    ∙ ap (λ i. link_from topo k.from_switch i) at.1
    ∙ ok.one (link_of k) (contains_from_in topo.links (link_of k) (literal_declared topo.links p d k h))
