-- Kinds of outs, by their acts.
use Rattle.std.specs.Prelude.{ℕ, Bool, List}
use Rattle.nk_algebra.specs.declared.partition.Kind.{Kind}
use Rattle.nk_algebra.specs.declared.partition.Kind.TheVariants.{Assigning, Ending}
use Rattle.nk_algebra.specs.Partition.{assigns, ends_between}

-- whether an act is of the kind
abbrev pub is_of : Kind → List (ℕ × ℕ) → Bool
is_of (Assigning f) g = assigns f g
is_of (Ending f lo hi) g = ends_between f lo hi g
