-- What the assignments of a policy have in common; policies that set fields to values in range alone.
use Rattle.std.specs.Prelude.{ℕ, ◌≤◌, slice_index}
use Rattle.nk_field.specs.Packet.{FieldTable, IsValue}
use Rattle.nk_policy.specs.Policy.{Policy, Policies, test, range, assign, sum_of, seq_of, not_of, star_of, dup, link, no_part, part}

-- each assignment outside complements is allowed, a link literal's two among them
abbrev mutual
  pub AssignsOnly : (ℕ → ℕ → Type 0) → Policy → Type 0
  AssignsOnly Allowed (test f n) = Unit {0}
  AssignsOnly Allowed (range f lo hi) = Unit {0}
  AssignsOnly Allowed (assign f n) = Allowed f n
  AssignsOnly Allowed (sum_of ps) = AllAssignOnly Allowed ps
  AssignsOnly Allowed (seq_of ps) = AllAssignOnly Allowed ps
  AssignsOnly Allowed (not_of p) = Unit {0}
  AssignsOnly Allowed (star_of p) = AssignsOnly Allowed p
  AssignsOnly Allowed (dup l) = Unit {0}
  AssignsOnly Allowed (link a m b n l) = Allowed 0 b × Allowed 1 n

  -- each assignment of the parts is
  pub AllAssignOnly : (ℕ → ℕ → Type 0) → Policies → Type 0
  AllAssignOnly Allowed no_part = Unit {0}
  AllAssignOnly Allowed (part p ps) = AssignsOnly Allowed p × AllAssignOnly Allowed ps

-- each test and each assignment is allowed, under complements too, and so are both ends of a range, and the two tests and
-- the two assignments of a link literal
abbrev mutual
  pub UsesOnly : (ℕ → ℕ → Type 0) → Policy → Type 0
  UsesOnly Allowed (test f n) = Allowed f n
  UsesOnly Allowed (range f lo hi) = Allowed f lo × Allowed f hi
  UsesOnly Allowed (assign f n) = Allowed f n
  UsesOnly Allowed (sum_of ps) = AllUseOnly Allowed ps
  UsesOnly Allowed (seq_of ps) = AllUseOnly Allowed ps
  UsesOnly Allowed (not_of p) = UsesOnly Allowed p
  UsesOnly Allowed (star_of p) = UsesOnly Allowed p
  UsesOnly Allowed (dup l) = Unit {0}
  UsesOnly Allowed (link a m b n l) = Allowed 0 a × Allowed 1 m × Allowed 0 b × Allowed 1 n

  -- each test, range and assignment of the parts is
  pub AllUseOnly : (ℕ → ℕ → Type 0) → Policies → Type 0
  AllUseOnly Allowed no_part = Unit {0}
  AllUseOnly Allowed (part p ps) = UsesOnly Allowed p × AllUseOnly Allowed ps

-- its tests, ranges and assignments have fields of these, and values in range
abbrev pub IsOverFields : FieldTable → Policy → Type 0
IsOverFields fields p = UsesOnly (IsValue fields) p

-- a value of the field in range
abbrev pub IsValueOf : FieldTable → ℕ → ℕ → Type 0
IsValueOf fields f n = n ≤ slice_index fields.maxima f

-- each assignment outside complements is to a value in range
abbrev pub IsInRange : Policy → FieldTable → Type 0
IsInRange p fields = AssignsOnly (IsValueOf fields) p

-- those of the parts are
abbrev pub AreInRange : Policies → FieldTable → Type 0
AreInRange ps fields = AllAssignOnly (IsValueOf fields) ps
