-- The predicate that is printed for a packet set is one whose text is read back.
use Rattle.std.proofs.Common.{◌≡◌, ℕ, ◌+◌, ◌-◌, ◌*◌, ◌<◌, ◌≤◌, Bool, true, false, cond, inl, inr, List, [], ◌∷◌, ◌++◌, length, refl, arith}
use Rattle.std.specs.Prelude.{◌==◌, nat_lt, slice_index}
use Rattle.std.specs.List.{flat_map}
use Rattle.std.proofs.lemmas.List.{get_or_past}
use Rattle.std.proofs.lemmas.Bool.Decides.{leb_tells}
use Rattle.nk_field.specs.Packet.{FieldTable, IsFieldTable, IsValue}
use Rattle.nk_policy.specs.Policy.{Policy, test, range, seq_of, not_of, no_part, part, depth_of, depths_of, is_predicate, are_predicates}
use Rattle.nk_policy.specs.Ranges.{IsOverFields, AllUseOnly}
use Rattle.nk_store.specs.declared.node.Out.{Out}
use Rattle.nk_store.specs.Diagram.{Branches, leaf, case, no_branch, branch, IsReduced, AreReduced}
use Rattle.nk_store.specs.Intervals.{same_tree, with_most, values_with}
use Rattle.nk_names.specs.ReadBack.{IsReadablePredicate, HasNoLonePart, HaveNoLonePart}
use Rattle.nk_sets.specs.Predicate.{SetTree, SetInterval, same_outs, is_empty_set, is_full_set, parts_of, sum_of_terms, guarded_predicate, part_of, parts_outside, terms_of, conditions_of, else_condition, else_terms, predicate_at, predicate_of, intervals_of}

-- a predicate over the fields, at most so deep, with no sum or sequence of one part
record IsGood (fields : FieldTable) (most : ℕ) (p : Policy) : Type 0 where
  predicate : is_predicate p ≡ true
  over : IsOverFields fields p
  shallow : depth_of p ≤ most
  no_lone_part : HasNoLonePart p

-- each policy of a list is one
abbrev AreGood : FieldTable → ℕ → List Policy → Type 0
AreGood fields most [] = Unit {0}
AreGood fields most (p ∷ ps) = IsGood fields most p × AreGood fields most ps

-- an interval has values, they are in range, and its child's predicate is one
abbrev IsGoodInterval : FieldTable → ℕ → ℕ → SetInterval → Type 0
IsGoodInterval fields f most i = (i.first ≤ i.last) × (i.last ≤ slice_index fields.maxima f) × IsGood fields most i.made

-- each interval of a list is
abbrev AreGoodIntervals : FieldTable → ℕ → ℕ → List SetInterval → Type 0
AreGoodIntervals fields f most [] = Unit {0}
AreGoodIntervals fields f most (i ∷ is) = IsGoodInterval fields f most i × AreGoodIntervals fields f most is

-- a good policy is good with a larger bound
deeper : (fields : FieldTable) (m n : ℕ) (p : Policy) → m ≤ n → IsGood fields m p → IsGood fields n p
deeper fields m n p le g = record {
  predicate = g.predicate;
  over = g.over;
  shallow = omega (arith, le, g.shallow);
  no_lone_part = g.no_lone_part;
}

-- what is known of parts
record ArePartsGood (fields : FieldTable) (most : ℕ) (ps : List Policy) : Type 0 where
  predicates : are_predicates (parts_of ps) ≡ true
  over : AllUseOnly (IsValue fields) (parts_of ps)
  shallow : depths_of (parts_of ps) ≤ most
  no_lone_part : HaveNoLonePart (parts_of ps)

parts_good : (fields : FieldTable) (most : ℕ) (ps : List Policy) → AreGood fields most ps → ArePartsGood fields most ps
parts_good fields most [] g = record { predicates = refl; over = tt; shallow = omega arith; no_lone_part = tt }
parts_good fields most (p ∷ ps) g =
    let rest = parts_good fields most ps g.1 in record {
      predicates = rw (g.0.predicate, rest.predicates) refl;
      over = (g.0.over, rest.over);
      shallow = omega (arith, g.0.shallow, rest.shallow);
      no_lone_part = (g.0.no_lone_part, rest.no_lone_part);
    }

-- a sum of terms is one deeper
sum_good : (fields : FieldTable) (most : ℕ) (ps : List Policy) → AreGood fields most ps → IsGood fields (1 + most) (sum_of_terms ps)
sum_good fields most [] g = record { predicate = refl; over = tt; shallow = omega arith; no_lone_part = (tt, tt) }
sum_good fields most (p ∷ []) g = deeper fields most (1 + most) p (omega arith) g.0
sum_good fields most (p ∷ q ∷ ps) g =
    let parts = parts_good fields most (p ∷ q ∷ ps) g in record {
      predicate = parts.predicates;
      over = parts.over;
      shallow = let le = parts.shallow in omega (arith, le);
      no_lone_part = (tt, parts.no_lone_part);
    }

-- a guarded predicate is one deeper than its condition and the child's
guarded_good :
    (fields : FieldTable) (most : ℕ) (c rest : Policy) (child : SetTree) → IsGood fields most c → IsGood fields most rest
    → IsGood fields (1 + most) (guarded_predicate c child rest)
guarded_good fields most c rest child g h = by (is_full_set child)
  where
    both : IsGood fields (1 + most) (seq_of (part c (part rest no_part)))
    both =
        let parts = parts_good fields most (c ∷ rest ∷ []) (g, (h, tt)) in record {
          predicate = parts.predicates;
          over = parts.over;
          shallow = let le = parts.shallow in omega (arith, le);
          no_lone_part = (tt, parts.no_lone_part);
        }

    by : (b : Bool) → IsGood fields (1 + most) (cond b c (seq_of (part c (part rest no_part))))
    by true = deeper fields most (1 + most) c (omega arith) g
    by false = both

-- a test of a value in range
test_good : (fields : FieldTable) (most f v : ℕ) → 1 ≤ most → IsValue fields f v → IsGood fields most (test f v)
test_good fields most f v le is = record { predicate = refl; over = is; shallow = le; no_lone_part = tt }

-- a complement is one deeper
not_good : (fields : FieldTable) (most : ℕ) (p : Policy) → IsGood fields most p → IsGood fields (1 + most) (not_of p)
not_good fields most p g = record {
  predicate = g.predicate;
  over = g.over;
  shallow = let le = g.shallow in omega (arith, le);
  no_lone_part = g.no_lone_part;
}

-- two lists
append_good :
    (fields : FieldTable) (most : ℕ) (ps qs : List Policy) → AreGood fields most ps → AreGood fields most qs
    → AreGood fields most (ps ++ qs)
append_good fields most [] qs g h = h
append_good fields most (p ∷ ps) qs g h = (g.0, append_good fields most ps qs g.1 h)

-- a part as a condition: a test of its one value, or a range
part_good :
    (fields : FieldTable) (most f : ℕ) (i : SetInterval) → f < length fields.maxima → 1 ≤ most → i.first ≤ i.last
    → i.last ≤ slice_index fields.maxima f → IsGood fields most (part_of f i)
part_good fields most f i lt le rises ends = by (i.first == i.last)
  where
    by : (b : Bool) → IsGood fields most (cond b (test f i.first) (range f i.first i.last))
    by true = test_good fields most f i.first le (lt, omega (arith, rises, ends))
    by false = record {
      predicate = refl;
      over = ((lt, omega (arith, rises, ends)), (lt, ends));
      shallow = le;
      no_lone_part = tt;
    }

-- the conditions of all parts
conditions_good :
    (fields : FieldTable) (f most : ℕ) (other : SetTree) (is : List SetInterval) → f < length fields.maxima
    → AreGoodIntervals fields f most is → AreGood fields 1 (parts_outside f other is)
conditions_good fields f most other [] lt g = tt
conditions_good fields f most other (i ∷ is) lt g =
    append_good fields 1 (conditions_of f other i) (parts_outside f other is)
    (by (same_tree other same_outs i.child)) (conditions_good fields f most other is lt g.1)
  where
    by : (b : Bool) → AreGood fields 1 (cond b [] (part_of f i ∷ []))
    by true = tt
    by false = (part_good fields 1 f i lt (omega arith) g.0.0 g.0.1, tt)

-- the terms of an interval
terms_good :
    (fields : FieldTable) (f most : ℕ) (other : SetTree) (i : SetInterval) → f < length fields.maxima → 1 ≤ most
    → IsGoodInterval fields f most i → AreGood fields (1 + most) (terms_of f other i)
terms_good fields f most other i lt le g = by (same_tree other same_outs i.child) (is_empty_set i.child)
  where
    by : (b n : Bool) → AreGood fields (1 + most) (cond b [] (cond n [] (guarded_predicate (part_of f i) i.child i.made ∷ [])))
    by true n = tt
    by false true = tt
    by false false = (
      guarded_good fields most (part_of f i) i.made i.child
          (part_good fields most f i lt le g.0 g.1) g.2,
      tt,
    )

-- those of all intervals
all_terms_good :
    (fields : FieldTable) (f most : ℕ) (other : SetTree) (is : List SetInterval) → f < length fields.maxima → 1 ≤ most
    → AreGoodIntervals fields f most is → AreGood fields (1 + most) (flat_map (terms_of f other) is)
all_terms_good fields f most other [] lt le g = tt
all_terms_good fields f most other (i ∷ is) lt le g =
    append_good fields (1 + most) (terms_of f other i) (flat_map (terms_of f other) is)
    (terms_good fields f most other i lt le g.0) (all_terms_good fields f most other is lt le g.1)

-- one of the intervals is the one with the most values
most_good :
    (fields : FieldTable) (f most : ℕ) (all : List SetInterval) (best : SetInterval) (is : List SetInterval)
    → IsGoodInterval fields f most best → AreGoodIntervals fields f most is
    → IsGoodInterval fields f most (with_most same_outs all best is)
most_good fields f most all best [] b g = b
most_good fields f most all best (i ∷ is) b g =
    by (nat_lt (values_with same_outs best.child all) (values_with same_outs i.child all))
    (most_good fields f most all i is g.0 g.1) (most_good fields f most all best is b g.1)
  where
    by : (c : Bool) → IsGoodInterval fields f most (with_most same_outs all i is)
        → IsGoodInterval fields f most (with_most same_outs all best is)
        → IsGoodInterval fields f most (cond c (with_most same_outs all i is) (with_most same_outs all best is))
    by true x y = x
    by false x y = y

-- the term of the else-child
else_good :
    (fields : FieldTable) (f most : ℕ) (other : SetInterval) (is : List SetInterval) → f < length fields.maxima → 3 ≤ most
    → IsGoodInterval fields f most other → AreGoodIntervals fields f most is
    → AreGood fields (1 + most) (else_terms f other is)
else_good fields f most other is lt le o g = by (is_empty_set other.child)
  where
    condition : IsGood fields 3 (else_condition f other is)
    condition =
        let parts = parts_outside f other.child is in
        deeper fields (1 + (1 + 1)) 3 (not_of (sum_of_terms parts)) (omega arith)
        (not_good fields (1 + 1) (sum_of_terms parts) (sum_good fields 1 parts (conditions_good fields f most other.child is lt g)))

    by : (b : Bool) → AreGood fields (1 + most) (cond b [] (guarded_predicate (else_condition f other is) other.child other.made ∷ []))
    by true = tt
    by false = (
      guarded_good fields most (else_condition f other is) other.made other.child
          (deeper fields 3 most (else_condition f other is) le condition) o.2,
      tt,
    )

-- the predicate of a choice is two deeper than those of its children, and five at least
choice_good :
    (fields : FieldTable) (f most : ℕ) (is : List SetInterval) → f < length fields.maxima → 3 ≤ most
    → AreGoodIntervals fields f most is → IsGood fields (2 + most) (predicate_at f is)
choice_good fields f most [] lt le g = record { predicate = refl; over = tt; shallow = omega arith; no_lone_part = (tt, tt) }
choice_good fields f most (i ∷ is) lt le g =
    let other = with_most same_outs (i ∷ is) i is in
    let terms = flat_map (terms_of f other.child) (i ∷ is) in
    let last = else_terms f other (i ∷ is) in
    deeper fields (1 + (1 + most)) (2 + most) (sum_of_terms (terms ++ last)) (omega arith)
    (sum_good fields (1 + most) (terms ++ last) (append_good fields (1 + most) terms last
    (all_terms_good fields f most other.child (i ∷ is) lt (omega (arith, le)) g)
    (else_good fields f most other (i ∷ is) lt le (most_good fields f most (i ∷ is) i is g.0 g.1) g)))

-- branches end in range
ends_within :
    (maxima : List ℕ) (f end : ℕ) (d : SetTree) (bs : Branches (List Out)) → AreReduced (branch end d bs) maxima f
    → end ≤ slice_index maxima f
ends_within maxima f end d no_branch r = let e = r.0 in omega (arith, e)
ends_within maxima f end d (branch next e bs) r =
    let le = ends_within maxima f next e bs r.3 in let lt = r.0 in omega (arith, le, lt)

-- a field that is tested is one of the table, since a field past it has one value
is_field :
    (maxima : List ℕ) (f end next : ℕ) (d e : SetTree) (bs : Branches (List Out))
    → AreReduced (branch end d (branch next e bs)) maxima f → f < length maxima
is_field maxima f end next d e bs r = elim (leb_tells (length maxima) f) [
  | inl past ↦
      let none : slice_index maxima f ≡ 0 = get_or_past maxima f 0 past.1 in
      let le = ends_within maxima f next e bs r.3 in let lt = r.0 in absurd (omega (arith, none, le, lt))
  | inr within ↦ within.1
]

-- the value is at most the first branch's end
abbrev BeginsIn : ℕ → Branches (List Out) → Type 0
BeginsIn from no_branch = Unit {0}
BeginsIn from (branch end d bs) = from ≤ end

-- the next branch ends past the value after one's end
begins_next : (maxima : List ℕ) (f end : ℕ) (d : SetTree) (bs : Branches (List Out)) → AreReduced (branch end d bs) maxima f → BeginsIn (end + 1) bs
begins_next maxima f end d no_branch r = tt
begins_next maxima f end d (branch next e bs) r = let lt = r.0 in omega (arith, lt)

mutual
  -- the predicate of a tree that tests fields from one on
  tree_good :
      (fields : FieldTable) (low : ℕ) (d : SetTree) → length fields.maxima ≤ 18 → low ≤ 18 → IsReduced d fields.maxima low
      → IsGood fields (39 - 2 * low) (predicate_of d)
  tree_good fields low (leaf []) few le r = record { predicate = refl; over = tt; shallow = omega (arith, le); no_lone_part = (tt, tt) }
  tree_good fields low (leaf (o ∷ os)) few le r = record { predicate = refl; over = tt; shallow = omega (arith, le); no_lone_part = (tt, tt) }
  tree_good fields low (case f no_branch) few le r = absurd r.1
  tree_good fields low (case f (branch end d no_branch)) few le r = absurd r.1
  tree_good fields low (case f (branch end d (branch next e bs))) few le r =
      let lt = is_field fields.maxima f end next d e bs r.2 in
      let from = r.0 in
      let bound : f < 18 = omega (arith, lt, few) in
      let all = intervals_of (branch end d (branch next e bs)) 0 in
      deeper fields (2 + (37 - 2 * f)) (39 - 2 * low) (predicate_at f all) (omega (arith, from, bound))
      (choice_good fields f (37 - 2 * f) all lt (omega (arith, bound))
      (trees_good fields f (branch end d (branch next e bs)) 0 few bound (omega arith) r.2))

  -- those of branches, where the first one's values begin at one that it has
  trees_good :
      (fields : FieldTable) (f : ℕ) (bs : Branches (List Out)) (from : ℕ) → length fields.maxima ≤ 18 → f < 18
      → BeginsIn from bs → AreReduced bs fields.maxima f → AreGoodIntervals fields f (37 - 2 * f) (intervals_of bs from)
  trees_good fields f no_branch from few lt rises r = tt
  trees_good fields f (branch end d bs) from few lt rises r =
      let child = tree_good fields (f + 1) d few (omega (arith, lt)) r.1 in (
        (
          rises,
          ends_within fields.maxima f end d bs r,
          deeper fields (39 - 2 * (f + 1)) (37 - 2 * f) (predicate_of d) (omega (arith, lt)) child,
        ),
        trees_good fields f bs (end + 1) few lt (begins_next fields.maxima f end d bs r) r.3,
      )

pub printed_is_readable : (fields : FieldTable) → IsFieldTable fields → (d : SetTree) → IsReduced d fields.maxima 0
    → IsReadablePredicate fields (predicate_of d)
printed_is_readable fields table d r =
    let g = tree_good fields 0 d table.few (omega arith) r in record {
      predicate = g.predicate;
      over = g.over;
      shallow = let le = g.shallow in omega (arith, le);
      no_lone_part = g.no_lone_part;
    }
