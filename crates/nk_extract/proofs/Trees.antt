-- Trees: the test of sameness decides equality, the intervals of a node, the else-child, and the child at a value.
use Rattle.std.proofs.Common.{◌≡◌, ◌≢◌, ℕ, ◌+◌, ◌<◌, ◌≤◌, length, Bool, true, false, cond, inl, inr, ⊎_elim, List, [], ◌∷◌, refl, ap, ◌∙◌, arith, get_or-set_other}
use Rattle.std.specs.Prelude.{◌==◌, ◌&&◌, nat_le, nat_lt, slice_index, slice_set}
use Rattle.std.proofs.lemmas.Bool.Decides.{leb_tells}
use Rattle.std.proofs.lemmas.List.{get_or_past}
use Rattle.std.specs.List.{AllByRecursion}
use Rattle.nk_store.specs.Diagram.{Diagram, Branches, leaf, case, no_branch, branch, leaf_at, leaf_among, IsReduced, AreReduced, AreTwo, IsFreeOf, AreFreeOf}
use Rattle.nk_store.specs.Intervals.{same_tree, same_trees, values_with, with_most}
use Rattle.nk_table.specs.declared.Bucket.{Bucket}
use Rattle.nk_table.specs.Buckets.{same_buckets}
use Rattle.nk_table.proofs.SameBuckets.{and_left, and_right, and_both, eq_of, eq_self, same_buckets_tells, same_buckets_self}
use Rattle.nk_extract.specs.RuleTree.{PathInterval, paths_of, path_intervals}
use Rattle.nk_field.proofs.Lists.{In}
use Rattle.nk_extract.proofs.Lists.{every_weaker}

abbrev pub Tree : Type 0
Tree = Diagram (List Bucket)

mutual
  pub same_tree_tells : (d e : Tree) → same_tree d same_buckets e ≡ true → d ≡ e
  same_tree_tells (leaf a) (leaf b) s = ap leaf (same_buckets_tells a b s)
  same_tree_tells (leaf a) (case g cs) s = absurd cc
  same_tree_tells (case f bs) (leaf b) s = absurd cc
  same_tree_tells (case f bs) (case g cs) s =
      ap (λ h. case h bs) (eq_of f g (and_left (f == g) (same_trees bs same_buckets cs) s)) ∙ ap (λ z. case g z) (same_trees_tells bs cs (and_right (f == g) (same_trees bs same_buckets cs) s))

  -- likewise branches
  pub same_trees_tells :
      (bs cs : Branches (List Bucket)) → same_trees bs same_buckets cs ≡ true → bs ≡ cs
  same_trees_tells no_branch no_branch s = refl
  same_trees_tells no_branch (branch end e cs) s = absurd cc
  same_trees_tells (branch end d bs) no_branch s = absurd cc
  same_trees_tells (branch end d bs) (branch end' e cs) s =
      let first = and_left ((end == end') && same_tree d same_buckets e) (same_trees bs same_buckets cs) s in
      ap (λ n. branch n d bs) (eq_of end end' (and_left (end == end') (same_tree d same_buckets e) first))
      ∙ ap (λ x. branch end' x bs) (same_tree_tells d e (and_right (end == end') (same_tree d same_buckets e) first))
      ∙ ap (λ zs. branch end' e zs) (same_trees_tells bs cs (and_right ((end == end') && same_tree d same_buckets e) (same_trees bs same_buckets cs) s))

mutual
  pub same_tree_self : (d : Tree) → same_tree d same_buckets d ≡ true
  same_tree_self (leaf a) = same_buckets_self a
  same_tree_self (case f bs) = and_both _ _ (eq_self f) (same_trees_self bs)

  -- likewise branches
  pub same_trees_self : (bs : Branches (List Bucket)) → same_trees bs same_buckets bs ≡ true
  same_trees_self no_branch = refl
  same_trees_self (branch end d bs) = and_both _ _ (and_both _ _ (eq_self end) (same_tree_self d)) (same_trees_self bs)

-- the branches rise from one value to the largest one
abbrev pub Rising : ℕ → ℕ → Branches (List Bucket) → Type 0
Rising most from no_branch = from ≡ most + 1
Rising most from (branch end d bs) = (from ≤ end) × Rising most (end + 1) bs

-- reduced branches rise from where they begin
pub rising :
    (maxima : List ℕ) (f end from : ℕ) (d : Tree) (bs : Branches (List Bucket)) → from ≤ end
    → AreReduced (branch end d bs) maxima f → Rising (slice_index maxima f) from (branch end d bs)
rising maxima f end from d no_branch h r = (h, omega (arith, r.0))
rising maxima f end from d (branch next e bs) h r = (h, rising maxima f next (end + 1) e bs (omega (arith, r.0)) r.3)

-- and from 0
pub rising_all :
    (maxima : List ℕ) (f : ℕ) (bs : Branches (List Bucket)) → AreTwo bs → AreReduced bs maxima f
    → Rising (slice_index maxima f) 0 bs
rising_all maxima f no_branch two r = absurd two
rising_all maxima f (branch end d bs) two r = rising maxima f end 0 d bs (omega arith) r

-- where branches begin, at most one past the largest value
pub rising_end : (most from : ℕ) (bs : Branches (List Bucket)) → Rising most from bs → from ≤ most + 1
rising_end most from no_branch r = omega (arith, r)
rising_end most from (branch end d bs) r = omega (arith, r.0, rising_end most (end + 1) bs r.1)

-- each node tests a field that has the property
abbrev mutual
  pub TestsOnly : (ℕ → Type 0) → Tree → Type 0
  TestsOnly P (leaf a) = Unit {0}
  TestsOnly P (case f bs) = P f × TestOnly P bs

  pub TestOnly : (ℕ → Type 0) → Branches (List Bucket) → Type 0
  TestOnly P no_branch = Unit {0}
  TestOnly P (branch end d bs) = TestsOnly P d × TestOnly P bs

-- a field that a row can match beside the tag
abbrev pub IsMatchable : ℕ → ℕ → ℕ → Type 0
IsMatchable width tag f = (f < width) × (f ≢ tag)

-- a field that a reduced tree tests has several values
several : (most : ℕ) (bs : Branches (List Bucket)) → AreTwo bs → Rising most 0 bs → 1 ≤ most
several most no_branch two r = absurd two
several most (branch end d no_branch) two r = absurd two
several most (branch end d (branch next e bs)) two r = omega (arith, r.1.0, rising_end most (next + 1) bs r.1.1)

-- and thus is one of the fields
tested :
    (maxima : List ℕ) (f : ℕ) (bs : Branches (List Bucket)) → AreTwo bs → AreReduced bs maxima f
    → f < length maxima
tested maxima f bs two r =
    elim (leb_tells (length maxima) f) [
      | inl past ↦
          let none : slice_index maxima f ≡ 0 = get_or_past maxima f 0 past.1 in
          absurd (omega (arith, none, several (slice_index maxima f) bs two (rising_all maxima f bs two r)))
      | inr within ↦ within.1
    ]

mutual
  -- a reduced tree that doesn't test the tag tests fields alone that a row can match
  pub tests_only :
      (maxima : List ℕ) (tag low : ℕ) (d : Tree) → IsReduced d maxima low → IsFreeOf tag d
      → TestsOnly (IsMatchable (length maxima) tag) d
  tests_only maxima tag low (leaf a) r free = tt
  tests_only maxima tag low (case f bs) r free = ((tested maxima f bs r.1 r.2, free.0), test_only maxima tag f bs r.2 free.1)

  -- likewise branches
  test_only :
      (maxima : List ℕ) (tag f : ℕ) (bs : Branches (List Bucket)) → AreReduced bs maxima f
      → AreFreeOf tag bs → TestOnly (IsMatchable (length maxima) tag) bs
  test_only maxima tag f no_branch r free = tt
  test_only maxima tag f (branch end d bs) r free = (tests_only maxima tag (f + 1) d r.1 free.0, test_only maxima tag f bs r.3 free.1)

-- the child at a value, o past the last branch
abbrev pub child_among : Tree → Branches (List Bucket) → ℕ → Tree
child_among o no_branch v = o
child_among o (branch end d bs) v = cond (nat_le v end) d (child_among o bs v)

-- the leaf among branches is that of the child
pub leaf_among_is :
    (bs : Branches (List Bucket)) (o : List Bucket) (v : ℕ) (pk : List ℕ)
    → leaf_among bs o v pk ≡ leaf_at (child_among (leaf o) bs v) o pk
leaf_among_is no_branch o v pk = refl
leaf_among_is (branch end d bs) o v pk = by (nat_le v end) (leaf_among_is bs o v pk)
  where
    by :
        (b : Bool) → leaf_among bs o v pk ≡ leaf_at (child_among (leaf o) bs v) o pk
        → cond b (leaf_at d o pk) (leaf_among bs o v pk) ≡ leaf_at (cond b d (child_among (leaf o) bs v)) o pk
    by true e = refl
    by false e = e

-- each child has the property
abbrev pub EachChild : (Tree → Type 0) → Branches (List Bucket) → Type 0
EachChild P no_branch = Unit {0}
EachChild P (branch end d bs) = P d × EachChild P bs

-- what is known of an interval of a node over fields with their largest values
pub record IsInterval (maxima : List ℕ) (P : Tree → Type 0) (o : Tree) (bs : Branches (List Bucket)) (most from : ℕ) (i : PathInterval) : Type 0 where
  pub made : i.made ≡ paths_of maxima i.child
  pub holds : P i.child
  pub order : i.first ≤ i.last
  pub low : from ≤ i.first
  pub high : i.last ≤ most
  pub child : (v : ℕ) → i.first ≤ v → v ≤ i.last → child_among o bs v ≡ i.child

-- an interval of later branches is one of all
earlier_end :
    (maxima : List ℕ) (P : Tree → Type 0) (o d : Tree) (bs : Branches (List Bucket)) (most from end : ℕ)
    (i : PathInterval)
    → from ≤ end → IsInterval maxima P o bs most (end + 1) i → IsInterval maxima P o (branch end d bs) most from i
earlier_end maxima P o d bs most from end i h k = record {
  made = k.made;
  holds = k.holds;
  order = k.order;
  low = omega (arith, k.low);
  high = k.high;
  child = λ v a b. elim (leb_tells v end) [
    | inl within ↦ absurd (omega (arith, within.1, k.low))
    | inr past ↦ ap (λ t. cond t d (child_among o bs v)) past.0 ∙ k.child v a b
  ];
}

-- the intervals of branches
pub intervals_are :
    (maxima : List ℕ) (P : Tree → Type 0) (o : Tree) (bs : Branches (List Bucket)) (most from : ℕ)
    → EachChild P bs → Rising most from bs
    → AllByRecursion (IsInterval maxima P o bs most from) (path_intervals maxima bs from)
intervals_are maxima P o no_branch most from e r = tt
intervals_are maxima P o (branch end d bs) most from e r = (
  record {
    made = refl;
    holds = e.0;
    order = r.0;
    low = omega arith;
    high = omega (arith, rising_end most (end + 1) bs r.1);
    child = λ v a b. elim (leb_tells v end) [
      | inl within ↦ ap (λ t. cond t d (child_among o bs v)) within.0
      | inr past ↦ absurd (omega (arith, past.1))
    ];
  },
  every_weaker (IsInterval maxima P o bs most (end + 1)) (IsInterval maxima P o (branch end d bs) most from) (path_intervals maxima bs (end + 1)) (λ i k. earlier_end maxima P o d bs most from end i r.0 k) (intervals_are maxima P o bs most (end + 1) e.1 r.1),
)

-- an interval begins where its branches do, or after that
pub begins_after :
    (maxima : List ℕ) (bs : Branches (List Bucket)) (most from : ℕ) (i : PathInterval) → Rising most from bs
    → In (path_intervals maxima bs from) i → from ≤ i.first
begins_after maxima no_branch most from i r m = absurd m
begins_after maxima (branch end d bs) most from i r m =
    ⊎_elim
    (λ s. let e : i.first ≡ from = ap (λ z. z.first) s in omega (arith, e))
    (λ l. let h = begins_after maxima bs most (end + 1) i r.1 l in omega (arith, h, r.0))
    m

-- and ends at the largest value, or before it
pub ends_before :
    (maxima : List ℕ) (bs : Branches (List Bucket)) (most from : ℕ) (i : PathInterval) → Rising most from bs
    → In (path_intervals maxima bs from) i → i.last ≤ most
ends_before maxima no_branch most from i r m = absurd m
ends_before maxima (branch end d bs) most from i r m =
    ⊎_elim
    (λ s. let e : i.last ≡ end = ap (λ z. z.last) s in omega (arith, e, rising_end most (end + 1) bs r.1))
    (λ l. ends_before maxima bs most (end + 1) i r.1 l)
    m

-- a value has an interval
pub interval_at :
    (maxima : List ℕ) (bs : Branches (List Bucket)) (most from v : ℕ) → Rising most from bs → from ≤ v → v ≤ most
    → (i : PathInterval) × In (path_intervals maxima bs from) i × (i.first ≤ v) × (v ≤ i.last)
interval_at maxima no_branch most from v r a b = absurd (omega (arith, r, a, b))
interval_at maxima (branch end d bs) most from v r a b =
    elim (leb_tells v end) [
      | inl within ↦ (record { first = from; last = end; child = d; made = paths_of maxima d }, inl refl, a, within.1)
      | inr past ↦
          let later = interval_at maxima bs most (end + 1) v r.1 (omega (arith, past.1)) b in
          (later.0, inr later.1, later.2, later.3)
    ]

-- what holds of each interval holds of the one with the most values
pub with_most_has :
    (Q : PathInterval → Type 0) (all : List PathInterval) (best : PathInterval) (is : List PathInterval)
    → Q best → AllByRecursion Q is → Q (with_most same_buckets all best is)
with_most_has Q all best [] q e = q
with_most_has Q all best (i ∷ is) q e =
    by (nat_lt (values_with same_buckets best.child all) (values_with same_buckets i.child all)) (with_most_has Q all i is e.0 e.1) (with_most_has Q all best is q e.1)
  where
    by :
        (b : Bool) → Q (with_most same_buckets all i is) → Q (with_most same_buckets all best is)
        → Q (cond b (with_most same_buckets all i is) (with_most same_buckets all best is))
    by true x y = x
    by false x y = y

mutual
  -- a tree that doesn't test a field has one leaf for all the field's values
  pub leaf_stays :
      (d : Tree) (f n : ℕ) (pk : List ℕ) → IsFreeOf f d
      → leaf_at d [] (slice_set pk f n) ≡ leaf_at d [] pk
  leaf_stays (leaf a) f n pk h = refl
  leaf_stays (case g bs) f n pk h =
      ap (λ v. leaf_among bs [] v (slice_set pk f n)) (get_or-set_other pk f g n 0 h.0) ∙ leaves_stay bs f n pk (slice_index pk g) h.1

  -- likewise among branches
  leaves_stay :
      (bs : Branches (List Bucket)) (f n : ℕ) (pk : List ℕ) (v : ℕ) → AreFreeOf f bs
      → leaf_among bs [] v (slice_set pk f n) ≡ leaf_among bs [] v pk
  leaves_stay no_branch f n pk v h = refl
  leaves_stay (branch end d bs) f n pk v h = by (nat_le v end) (leaf_stays d f n pk h.0) (leaves_stay bs f n pk v h.1)
    where
      by :
          (b : Bool) → leaf_at d [] (slice_set pk f n) ≡ leaf_at d [] pk
          → leaf_among bs [] v (slice_set pk f n) ≡ leaf_among bs [] v pk
          → cond b (leaf_at d [] (slice_set pk f n)) (leaf_among bs [] v (slice_set pk f n)) ≡ cond b (leaf_at d [] pk) (leaf_among bs [] v pk)
      by true e g = e
      by false e g = g
