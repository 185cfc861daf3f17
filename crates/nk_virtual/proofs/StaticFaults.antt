-- What is seen of a physical policy's text: no leaf that neither the virtual policy nor a fabric has.
use Rattle.std.proofs.Common.{◌≡◌, ℕ, ◌+◌, ◌≤◌, Bool, true, false, List, refl, ap, ◌∙◌, arith, lit≤}
use Rattle.std.specs.Prelude.{◌==◌, ◌||◌, map, All}
use Rattle.nk_field.proofs.Ascending.{members_from_all}
use Rattle.nk_policy.specs.Policy.{Policy, Policies, test, range, assign, sum_of, seq_of, not_of, star_of, dup, link, no_part, part, is_predicate, are_predicates, dups_of, marked_from, all_marked_from}
use Rattle.nk_topo.specs.Topology.{Link}
use Rattle.nk_policy.specs.Leaves.{has_leaf, some_has_leaf, is_on_field, is_dup, is_switch_assignment}
use Rattle.nk_policy.proofs.Tests.{false_true, false_where, both_true, both_false, same_from}
use Rattle.nk_names.specs.Accepted.{is_link_outside}
use Rattle.nk_policy.specs.Complements.{NegatesPredicates, AllNegatePredicates}
use Rattle.nk_names.specs.ProgramValue.{VirtualLink}
use Rattle.nk_virtual.specs.Physical.{through_fabric, link_through, physical, all_physical}
use Rattle.nk_virtual.proofs.Literals.{IsFound, is_found, not_false}

-- two tests that fail, together
or_none : (a b : Bool) → a ≡ false → b ≡ false → a || b ≡ false
or_none true b g h = g
or_none false b g h = h

-- a field past the port is neither the switch nor the port
pub past_port : (tag f : ℕ) → f ≤ 1 → 2 ≤ tag → tag == f ≡ false
past_port tag f low past = false_where (tag == f) (λ h. let e = same_from tag f h in omega (arith, e, low, past))

module _ (is : Policy → Bool) (same_dup : (l k : ℕ) → is (dup l) ≡ is (dup k))
    (same_link : (a m b n l k : ℕ) → is (link a m b n l) ≡ is (link a m b n k)) where
  mutual
    -- to number a policy anew changes nothing of it
    pub marked_leaf : (p : Policy) (n : ℕ) → has_leaf is (marked_from p n) ≡ has_leaf is p
    marked_leaf (sum_of ps) n = some_marked_leaf ps n
    marked_leaf (seq_of ps) n = some_marked_leaf ps n
    marked_leaf (not_of p) n = marked_leaf p n
    marked_leaf (star_of p) n = marked_leaf p n
    marked_leaf (dup l) n = same_dup n l
    marked_leaf (link a m b k l) n = same_link a m b k n l
    marked_leaf p n = refl

    -- of its parts
    some_marked_leaf : (ps : Policies) (n : ℕ) → some_has_leaf is (all_marked_from ps n) ≡ some_has_leaf is ps
    some_marked_leaf no_part n = refl
    some_marked_leaf (part p ps) n =
        ap (λ c. c || some_has_leaf is (all_marked_from ps (n + dups_of p))) (marked_leaf p n)
        ∙ ap (λ c. has_leaf is p || c) (some_marked_leaf ps (n + dups_of p))

module _ (is : Policy → Bool) (no_switch : (n : ℕ) → is (test 0 n) ≡ false) (no_port : (n : ℕ) → is (test 1 n) ≡ false)
    (links : List VirtualLink) (fabrics : All (λ k. has_leaf is k.fabric ≡ false) links) where
  -- a literal that is no virtual link
  abbrev outside : Policy → Bool
  outside = is_link_outside (map (λ k. k.ends) links)

  -- a fabric after its tests
  through_leaf : (k : VirtualLink) → has_leaf is k.fabric ≡ false → has_leaf is (through_fabric k) ≡ false
  through_leaf k h =
      or_none
      (is (test 0 k.ends.from_switch))
      (is (test 1 k.ends.from_port) || (has_leaf is k.fabric || false))
      (no_switch k.ends.from_switch)
      (or_none
      (is (test 1 k.ends.from_port))
      (has_leaf is k.fabric || false)
      (no_port k.ends.from_port)
      (or_none (has_leaf is k.fabric) false h refl))

  -- what stands for a literal of a virtual link
  literal_leaf : (a m b n l : ℕ) → outside (link a m b n l) ≡ false
      → has_leaf is (link_through links a m b n l) ≡ false
  literal_leaf a m b n l o =
      let i : IsFound links a m b n l = is_found links a m b n l (not_false _ o) in
      ap (has_leaf is) i.stands
      ∙ through_leaf i.found (members_from_all (λ k. has_leaf is k.fabric ≡ false) links fabrics i.found i.among)

  mutual
    -- no leaf where the virtual policy has none
    pub free_leaf : (p : Policy) → has_leaf outside p ≡ false → has_leaf is p ≡ false
        → has_leaf is (physical links p) ≡ false
    free_leaf (sum_of ps) o h = free_leaves ps o h
    free_leaf (seq_of ps) o h = free_leaves ps o h
    free_leaf (star_of p) o h = free_leaf p o h
    free_leaf (link a m b n l) o h = literal_leaf a m b n l o
    free_leaf p o h = h

    -- of its parts
    free_leaves : (ps : Policies) → some_has_leaf outside ps ≡ false → some_has_leaf is ps ≡ false
        → some_has_leaf is (all_physical links ps) ≡ false
    free_leaves no_part o h = refl
    free_leaves (part p ps) o h =
        let o2 = both_false (has_leaf outside p) (some_has_leaf outside ps) o in
        let h2 = both_false (has_leaf is p) (some_has_leaf is ps) h in
        or_none (has_leaf is (physical links p)) (some_has_leaf is (all_physical links ps)) (free_leaf p o2.0 h2.0) (free_leaves ps o2.1 h2.1)

  module _ (no_test : (f n : ℕ) → is (test f n) ≡ false) (no_range : (f low high : ℕ) → is (range f low high) ≡ false)
      (no_assign : (f n : ℕ) → is (assign f n) ≡ false)
      (no_dup : (l : ℕ) → is (dup l) ≡ false) where
    mutual
      -- a predicate has tests alone
      predicate_leaf : (p : Policy) → is_predicate p ≡ true → has_leaf is p ≡ false
      predicate_leaf (test f n) h = no_test f n
      predicate_leaf (range f low high) h = no_range f low high
      predicate_leaf (sum_of ps) h = predicate_leaves ps h
      predicate_leaf (seq_of ps) h = predicate_leaves ps h
      predicate_leaf (not_of p) h = predicate_leaf p h
      predicate_leaf p h = absurd (false_true h)

      -- its parts have
      predicate_leaves : (ps : Policies) → are_predicates ps ≡ true → some_has_leaf is ps ≡ false
      predicate_leaves no_part h = refl
      predicate_leaves (part p ps) h =
          let b = both_true (is_predicate p) (are_predicates ps) h in
          or_none (has_leaf is p) (some_has_leaf is ps) (predicate_leaf p b.0) (predicate_leaves ps b.1)

    mutual
      -- a test of literals alone: none is left
      pub literals_gone : (p : Policy) → NegatesPredicates p → has_leaf outside p ≡ false
          → has_leaf is (physical links p) ≡ false
      literals_gone (test f n) h o = no_test f n
      literals_gone (range f low high) h o = no_range f low high
      literals_gone (assign f n) h o = no_assign f n
      literals_gone (sum_of ps) h o = all_literals_gone ps h o
      literals_gone (seq_of ps) h o = all_literals_gone ps h o
      literals_gone (not_of p) h o = predicate_leaf p h.0
      literals_gone (star_of p) h o = literals_gone p h o
      literals_gone (dup l) h o = no_dup l
      literals_gone (link a m b n l) h o = literal_leaf a m b n l o

      -- of parts
      all_literals_gone : (ps : Policies) → AllNegatePredicates ps → some_has_leaf outside ps ≡ false
          → some_has_leaf is (all_physical links ps) ≡ false
      all_literals_gone no_part h o = refl
      all_literals_gone (part p ps) h o =
          let o2 = both_false (has_leaf outside p) (some_has_leaf outside ps) o in
          or_none (has_leaf is (physical links p)) (some_has_leaf is (all_physical links ps)) (literals_gone p h.0 o2.0) (all_literals_gone ps h.1 o2.1)

-- ---- with all dups numbered anew

module _ (links : List VirtualLink) (p : Policy) (among : has_leaf (is_link_outside (map (λ k. k.ends) links)) p ≡ false) (n : ℕ) where
  -- the tag is free
  pub physical_tag_free : (tag : ℕ) → 2 ≤ tag → has_leaf (is_on_field tag) p ≡ false
      → All (λ k. has_leaf (is_on_field tag) k.fabric ≡ false) links
      → has_leaf (is_on_field tag) (marked_from (physical links p) n) ≡ false
  physical_tag_free tag past h fabrics =
      marked_leaf (is_on_field tag) (λ l k. refl) (λ a m b j l k. refl) (physical links p) n
      ∙ free_leaf (is_on_field tag) (λ v. past_port tag 0 (lit≤ tt) past) (λ v. past_port tag 1 (lit≤ tt) past) links fabrics p among h

  -- no dup is loose
  pub physical_dups : has_leaf is_dup p ≡ false → All (λ k. has_leaf is_dup k.fabric ≡ false) links
      → has_leaf is_dup (marked_from (physical links p) n) ≡ false
  physical_dups h fabrics =
      marked_leaf is_dup (λ l k. refl) (λ a m b j l k. refl) (physical links p) n
      ∙ free_leaf is_dup (λ v. refl) (λ v. refl) links fabrics p among h

  -- nor an assignment of the switch
  pub physical_switch : has_leaf is_switch_assignment p ≡ false → All (λ k. has_leaf is_switch_assignment k.fabric ≡ false) links
      → has_leaf is_switch_assignment (marked_from (physical links p) n) ≡ false
  physical_switch h fabrics =
      marked_leaf is_switch_assignment (λ l k. refl) (λ a m b j l k. refl) (physical links p) n
      ∙ free_leaf is_switch_assignment (λ v. refl) (λ v. refl) links fabrics p among h

  -- and the literals are declared links
  pub physical_links : (declared : List Link) → NegatesPredicates p
      → All (λ k. has_leaf (is_link_outside declared) k.fabric ≡ false) links
      → has_leaf (is_link_outside declared) (marked_from (physical links p) n) ≡ false
  physical_links declared h fabrics =
      marked_leaf (is_link_outside declared) (λ l k. refl) (λ a m b j l k. refl) (physical links p) n
      ∙ literals_gone (is_link_outside declared) (λ v. refl) (λ v. refl) links fabrics (λ f v. refl) (λ f v w. refl) (λ f v. refl) (λ l. refl) p h among
