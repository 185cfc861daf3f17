-- Of a policy that holds no leaf that shows something, nothing is seen.
use Rattle.std.proofs.Common.{◌≡◌, ℕ, List, Bool, true, false, refl, ap, ◌∙◌}
use Rattle.std.specs.Prelude.{◌==◌, ◌||◌, Some, None, if◌then◌else◌}
use Rattle.nk_topo.specs.Topology.{Link}
use Rattle.nk_policy.specs.Policy.{Policy, Policies, test, range, assign, sum_of, seq_of, not_of, star_of, dup, link, no_part, part}
use Rattle.nk_policy.specs.Leaves.{has_leaf, some_has_leaf, is_on_field, is_dup, is_switch_assignment}
use Rattle.nk_names.specs.Accepted.{is_link_outside}
use Rattle.nk_static.specs.declared.faults.StaticFault.TheVariants.{TagUsed, LooseDup, SwitchSet, NoSuchLink}
use Rattle.nk_static.specs.StaticFaults.{static_fault_of}
use Rattle.nk_static.specs.LeafTests.{shows_something}

-- of two tests neither passes
neither : (a b : Bool) → (a || b) ≡ false → (a ≡ false) × (b ≡ false)
neither true b h = absurd cc
neither false b h = (refl, h)

mutual
  -- what passes a test that is narrower isn't there either
  none_narrower : (f g : Policy → Bool) → ((q : Policy) → f q ≡ false → g q ≡ false) → (p : Policy) → has_leaf f p ≡ false → has_leaf g p ≡ false
  none_narrower f g n (test x v) h = n (test x v) h
  none_narrower f g n (range x lo hi) h = n (range x lo hi) h
  none_narrower f g n (assign x v) h = n (assign x v) h
  none_narrower f g n (sum_of ps) h = none_of_narrower f g n ps h
  none_narrower f g n (seq_of ps) h = none_of_narrower f g n ps h
  none_narrower f g n (not_of p) h = none_narrower f g n p h
  none_narrower f g n (star_of p) h = none_narrower f g n p h
  none_narrower f g n (dup l) h = n (dup l) h
  none_narrower f g n (link a m b k l) h = n (link a m b k l) h

  none_of_narrower : (f g : Policy → Bool) → ((q : Policy) → f q ≡ false → g q ≡ false) → (ps : Policies) → some_has_leaf f ps ≡ false
      → some_has_leaf g ps ≡ false
  none_of_narrower f g n no_part h = refl
  none_of_narrower f g n (part p ps) h =
      let both = neither (has_leaf f p) (some_has_leaf f ps) h in
      ap (λ b. b || some_has_leaf g ps) (none_narrower f g n p both.0) ∙ none_of_narrower f g n ps both.1

-- each of what is told is shown
field_shown : (tag : ℕ) (links : List Link) (q : Policy) → shows_something tag links q ≡ false → is_on_field tag q ≡ false
field_shown tag links (test f n) h = h
field_shown tag links (range f lo hi) h = h
field_shown tag links (assign f n) h = (neither (f == 0) (tag == f) h).1
field_shown tag links q h = refl

dup_shown : (tag : ℕ) (links : List Link) (q : Policy) → shows_something tag links q ≡ false → is_dup q ≡ false
dup_shown tag links (dup l) h = h
dup_shown tag links q h = refl

switch_shown : (tag : ℕ) (links : List Link) (q : Policy) → shows_something tag links q ≡ false → is_switch_assignment q ≡ false
switch_shown tag links (assign f n) h = (neither (f == 0) (tag == f) h).0
switch_shown tag links q h = refl

link_shown : (tag : ℕ) (links : List Link) (q : Policy) → shows_something tag links q ≡ false → is_link_outside links q ≡ false
link_shown tag links (link a m b n l) h = h
link_shown tag links q h = refl

-- so nothing is seen
pub nothing_shown : (tag : ℕ) (links : List Link) (p : Policy) → has_leaf (shows_something tag links) p ≡ false → static_fault_of tag links p ≡ None
nothing_shown tag links p h =
    ap (λ b. if b then Some TagUsed else if has_leaf is_dup p then Some LooseDup
    else if has_leaf is_switch_assignment p then Some SwitchSet else if has_leaf (is_link_outside links) p then Some NoSuchLink else None)
    (none_narrower (shows_something tag links) (is_on_field tag) (field_shown tag links) p h)
    ∙ ap (λ b. if b then Some LooseDup
    else if has_leaf is_switch_assignment p then Some SwitchSet else if has_leaf (is_link_outside links) p then Some NoSuchLink else None)
    (none_narrower (shows_something tag links) is_dup (dup_shown tag links) p h)
    ∙ ap (λ b. if b then Some SwitchSet else if has_leaf (is_link_outside links) p then Some NoSuchLink else None)
    (none_narrower (shows_something tag links) is_switch_assignment (switch_shown tag links) p h)
    ∙ ap (λ b. if b then Some NoSuchLink else None)
    (none_narrower (shows_something tag links) (is_link_outside links) (link_shown tag links) p h)
