-- Leaves with one out at most, and values in range.
use Rattle.std.proofs.Common.{◌≡◌, ℕ, inl, inr, Bool, true, false, cond, min, List, [], ◌∷◌, refl, arith}
use Rattle.std.specs.Prelude.{slice_index}
use Rattle.nk_store.specs.declared.node.Out.{Out}
use Rattle.nk_store.specs.Nodes.{InRange}
use Rattle.nk_apply.proofs.Members.{Has}

-- the member of a list that has one at most
pub one_of : (b : Bool) (x o : Out) → Has (cond b (x ∷ []) []) o → (b ≡ true) × (x ≡ o)
one_of true x o (inl e) = (refl, e)
one_of true x o (inr h) = absurd h
one_of false x o h = absurd h

-- and it is one
pub is_one : (b : Bool) (x : Out) → b ≡ true → Has (cond b (x ∷ []) []) x
is_one true x e = inl refl
is_one false x e = cc

-- a field's value is its clipped one, in range
pub clipped : (maxes pk : List ℕ) (f : ℕ) → InRange maxes pk →
    min (slice_index pk f) (slice_index maxes f) ≡ slice_index pk f
clipped maxes pk f r = let h = r.1 f in grind arith
