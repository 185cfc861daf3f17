-- What is looked for at the leaves of a policy.
use Rattle.std.specs.Prelude.{ℕ, ◌==◌, ◌||◌, Bool, true, false, List}
use Rattle.nk_topo.specs.Topology.{Link}
use Rattle.nk_policy.specs.Policy.{Policy, test, range, assign, dup, link}
use Rattle.nk_policy.specs.Leaves.{is_on_field, is_dup, is_switch_assignment}
use Rattle.nk_names.specs.Accepted.{is_link_outside}
use Rattle.nk_static.specs.declared.leaf_test.LeafTest.{LeafTest}
use Rattle.nk_static.specs.declared.leaf_test.LeafTest.TheVariants.{OnField, LooseDup, SwitchAssignment, LinkOutside, AnyOf}

-- a leaf that shows something: it uses the tag, it is a dup or an assignment of the switch outside of a link literal, or a literal that
-- is none of the links
abbrev pub shows_something : (tag : ℕ) → List Link → Policy → Bool
shows_something tag links (test f n) = tag == f
shows_something tag links (range f lo hi) = tag == f
shows_something tag links (assign f n) = (f == 0) || (tag == f)
shows_something tag links (dup l) = true
shows_something tag links (link a m b n l) = is_link_outside links (link a m b n l)
shows_something tag links p = false

abbrev pub test_for : LeafTest → List Link → Policy → Bool
test_for (OnField f) links = is_on_field f
test_for LooseDup links = is_dup
test_for SwitchAssignment links = is_switch_assignment
test_for LinkOutside links = is_link_outside links
test_for (AnyOf f) links = shows_something f links
