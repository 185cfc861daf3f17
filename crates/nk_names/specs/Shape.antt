-- What is known of a policy without a look at its tree.
use Rattle.std.specs.Prelude.{min}
use Rattle.nk_policy.specs.Policy.{Policy, depth_of, size_of, is_predicate}
use Rattle.nk_names.specs.declared.shape.Shape.{Shape}

-- depth and size are counted up to the last u64
abbrev pub shape_of : Policy → Shape
shape_of p = record {
  depth = min (depth_of p) 18446744073709551615;
  size = min (size_of p) 18446744073709551615;
  predicate = is_predicate p;
}
