-- Outs of one kind, and the others: those that assign a field, or those that end with a value of it between two.
use Rattle.std.specs.Prelude.{◌≡◌, ◌==◌, ℕ, Bool, true, false, nat_le, ◌&&◌, List, [], ◌∷◌, if◌then◌else◌}
use Rattle.nk_store.specs.declared.node.Out.{Out}
use Rattle.nk_store.specs.Leaves.{Every}
use Rattle.nk_apply.specs.Leaves.{gathered}

-- whether the act assigns f
abbrev pub assigns : ℕ → List (ℕ × ℕ) → Bool
assigns f [] = false
assigns f (s ∷ ss) = if s.0 == f then true else assigns f ss

-- the last value that an act assigns, to f where it assigns f
abbrev pub last_value : ℕ → List (ℕ × ℕ) → ℕ
last_value f [] = 0
last_value f (s ∷ ss) = if assigns f ss then last_value f ss else s.1

-- whether the act assigns f, at last a value from lo to hi
abbrev pub ends_between : ℕ → ℕ → ℕ → List (ℕ × ℕ) → Bool
ends_between f lo hi g = assigns f g && nat_le lo (last_value f g) && nat_le (last_value f g) hi

-- the out where its act is of the kind, if b is true, and where it isn't, if b is false; else nothing
abbrev pub passed : (List (ℕ × ℕ) → Bool) → Bool → Out → List Out
passed K b o = if K o.act then (if b then o ∷ [] else []) else (if b then [] else o ∷ [])

-- the outs whose acts are of the kind, or the others
abbrev pub partition : (List (ℕ × ℕ) → Bool) → Bool → List Out → List Out
partition K b os = gathered (passed K b) os

-- the outs that assign f, or those that don't
abbrev pub partition_on_field : ℕ → Bool → List Out → List Out
partition_on_field f b os = partition (assigns f) b os

-- no out assigns f
abbrev pub Keep : ℕ → List Out → Type 0
Keep f os = Every (λ o. assigns f o.act ≡ false) os
