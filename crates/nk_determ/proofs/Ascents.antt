-- Outs of one act stand together, and ascend by their targets.
use Rattle.std.proofs.Common.{◌≡◌, ℕ, ◌<◌, Bool, true, false, cond, eqb, nat_lt, List, [], ◌∷◌, arith, refl, sym, ap, ◌∙◌, inl, inr}
use Rattle.std.proofs.lemmas.Bool.Decides.{nat_tests}
use Rattle.std.specs.Bool.{Decides}
use Rattle.std.specs.Cmp.{IsTotalOrder}
use Rattle.std.specs.Cmp.Lexicographic.{pointwise_decides}
use Rattle.std.specs.Ordering.{ordering_then, nat_cmp, ordering_reverse, is_eq}
use Rattle.std.specs.declared.cmp.Ordering.{Ordering}
use Rattle.std.specs.declared.cmp.Ordering.TheVariants.{Less, Equal, Greater}
use Rattle.nk_field.specs.contracts.act.ActPartialEq.TheImpl as act_eq
use Rattle.nk_field.specs.contracts.act.ActOrd.TheImpl.{ghosts}
use Rattle.nk_field.specs.contracts.act.ActOrd.TheImpl.Laws.{total-law, matches_eq-law}
use Rattle.nk_store.specs.declared.node.Out.{Out}
use Rattle.nk_store.specs.Leaves.{out_cmp, Every}
use Rattle.nk_store.proofs.NodeEq.{pair_decides}
use Rattle.nk_apply.proofs.Members.{Has, every_has}

-- the order of acts is total
act_order : IsTotalOrder ghosts.cmp
act_order = total-law

-- `==` of acts tells whether they are one
pub act_decides : (g h : List (ℕ × ℕ)) → Decides (act_eq.ghosts.eq g h) (g ≡ h)
act_decides g h = pointwise_decides pair_decides g h

-- acts that the order doesn't tell apart are one
tied : (g h : List (ℕ × ℕ)) → ghosts.cmp g h ≡ Equal → g ≡ h
tied g h e = (act_decides g h).0 (matches_eq-law g h ∙ ap is_eq e)

-- an ordering that is its own reverse
own_turn : (r : Ordering) → r ≡ ordering_reverse r → r ≡ Equal
own_turn Less e = cc
own_turn Equal e = refl
own_turn Greater e = cc

-- outs are compared by their acts, then by their targets
out_cmp_is : (x y : Out) → out_cmp x y ≡ ordering_then (ghosts.cmp x.act y.act) (nat_cmp x.target y.target)
out_cmp_is x y = refl

-- outs of one act are compared by their targets
less_targets : (g : List (ℕ × ℕ)) (t u : ℕ) → out_cmp (record { act = g; target = t }) (record { act = g; target = u }) ≡ Less → nat_cmp t u ≡ Less
less_targets g t u h = sym (out_cmp_is (record { act = g; target = t }) (record { act = g; target = u }) ∙ ap (λ r. ordering_then r (nat_cmp t u)) (own_turn (ghosts.cmp g g) (act_order.antisymm g g))) ∙ h

-- where numbers compare as less, the test of less is true
less_is : (b c : Bool) → cond b Less (cond c Equal Greater) ≡ Less → b ≡ true
less_is true c e = refl
less_is false true e = cc
less_is false false e = cc

-- outs of one act ascend by their targets
pub targets_rise : (g : List (ℕ × ℕ)) (t u : ℕ) → out_cmp (record { act = g; target = t }) (record { act = g; target = u }) ≡ Less → t < u
targets_rise g t u h = let k : nat_lt t u ≡ true = less_is (nat_lt t u) (eqb t u) (less_targets g t u h) in grind (arith, nat_tests, k)

-- the act of an earlier out is not greater
pub acts_rise : (x y : Out) → out_cmp x y ≡ Less → ghosts.cmp x.act y.act ≡ Greater → ⊥
acts_rise x y h e = let k : Less ≡ Greater = sym h ∙ out_cmp_is x y ∙ ap (λ r. ordering_then r (nat_cmp x.target y.target)) e in cc

-- no act is before the one that assigns nothing
pub none_first : (g : List (ℕ × ℕ)) → ghosts.cmp [] g ≡ Greater → ⊥
none_first [] e = cc
none_first (s ∷ ss) e = cc

-- where g is not greater than the first out's act and is another one, no out has it
pub apart : (g : List (ℕ × ℕ)) (o : Out) (os : List Out) → (ghosts.cmp g o.act ≡ Greater → ⊥) → (o.act ≡ g → ⊥) → Every (λ y. out_cmp o y ≡ Less) os → (y : Out) → Has (o ∷ os) y → y.act ≡ g → ⊥
apart g o os low ne e y (inl is) same = ne (ap (λ (z : Out). z.act) is ∙ same)
apart g o os low ne e y (inr h) same = by (ghosts.cmp g o.act) refl
  where
    by : (r : Ordering) → ghosts.cmp g o.act ≡ r → ⊥
    by Less k = acts_rise o y (every_has (λ z. out_cmp o z ≡ Less) os y e h) (ap (λ a. ghosts.cmp o.act a) same ∙ act_order.antisymm o.act g ∙ ap ordering_reverse k)
    by Equal k = ne (sym (tied g o.act k))
    by Greater k = low k
