-- What stands at the leaves of a policy, under complements too.
use Rattle.std.specs.Prelude.{ℕ, ◌==◌, ◌||◌, Bool, true, false}
use Rattle.nk_policy.specs.Policy.{Policy, Policies, test, range, assign, sum_of, seq_of, not_of, star_of, dup, link, no_part, part}

-- some leaf of the policy passes the test
abbrev mutual
  pub has_leaf : (Policy → Bool) → Policy → Bool
  has_leaf is (test f n) = is (test f n)
  has_leaf is (range f lo hi) = is (range f lo hi)
  has_leaf is (assign f n) = is (assign f n)
  has_leaf is (sum_of ps) = some_has_leaf is ps
  has_leaf is (seq_of ps) = some_has_leaf is ps
  has_leaf is (not_of p) = has_leaf is p
  has_leaf is (star_of p) = has_leaf is p
  has_leaf is (dup l) = is (dup l)
  has_leaf is (link a m b n l) = is (link a m b n l)

  -- some leaf of one of the parts does
  pub some_has_leaf : (Policy → Bool) → Policies → Bool
  some_has_leaf is no_part = false
  some_has_leaf is (part p ps) = has_leaf is p || some_has_leaf is ps

-- a test, a range or an assignment of the field
abbrev pub is_on_field : ℕ → Policy → Bool
is_on_field f (test g n) = f == g
is_on_field f (range g lo hi) = f == g
is_on_field f (assign g n) = f == g
is_on_field f _ = false

-- a dup that stands in no link literal
abbrev pub is_dup : Policy → Bool
is_dup (dup l) = true
is_dup _ = false

-- an assignment of the switch that stands in no link literal
abbrev pub is_switch_assignment : Policy → Bool
is_switch_assignment (assign g n) = g == 0
is_switch_assignment _ = false
