-- Lists of any elements.
use Rattle.std.specs.Prelude.{List, [], ◌∷◌, Contains}

-- no element stands twice
abbrev pub IsWithoutDoubles : {X : Type 0} → List X → Type 0
IsWithoutDoubles [] = Unit {0}
IsWithoutDoubles (x ∷ xs) = ¬ Contains xs x × IsWithoutDoubles xs
