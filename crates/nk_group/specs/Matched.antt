-- Two lists whose elements match one by one.
use Rattle.std.specs.Prelude.{List, [], ◌∷◌}

-- each element of the first has the relation to the one at its place in the second, and they are equally long
abbrev pub Matched : {X Y : Type 0} → (X → Y → Type 0) → List X → List Y → Type 0
Matched R [] [] = Unit {0}
Matched R [] (y ∷ ys) = ⊥
Matched R (x ∷ xs) [] = ⊥
Matched R (x ∷ xs) (y ∷ ys) = R x y × Matched R xs ys
