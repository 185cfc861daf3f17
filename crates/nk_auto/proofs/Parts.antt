-- The parts of a policy from a place on, one before the next.
use Rattle.std.proofs.Common.{◌≡◌, ℕ, ◌+◌, ◌-◌, ◌<◌, ◌≤◌, List, length, get_or, drop, ap, ◌∙◌, arith}
use Rattle.nk_policy.specs.Policy.{part}
use Rattle.nk_policy.specs.Tree.{tree_of, trees_of}
use Rattle.nk_policy.specs.declared.policy.Pol.{Pol}
use Rattle.nk_policy.proofs.Steps.{left_is}

-- the parts from the place before
pub trees_before : (ps : List Pol) (i : ℕ) (q : Pol) → 0 < i → i ≤ length ps → q ≡ get_or ps (i - 1) q →
    trees_of (drop (i - 1) ps) ≡ part (tree_of q) (trees_of (drop i ps))
trees_before ps i q some within is =
    let back : (i - 1) + 1 ≡ i = omega (arith, some) in
    let lt : i - 1 < length ps = omega (arith, some, within) in
    ap trees_of (left_is ps (i - 1) q lt is) ∙ ap (λ n. part (tree_of q) (trees_of (drop n ps))) back
