-- Sets by their number, and sets that grow.
use Rattle.std.proofs.Common.{◌≡◌, ◌≢◌, ℕ, ◌+◌, ◌<◌, Bool, true, false, cond, ◌||◌, nat_eq, List, [], ◌∷◌, ◌++◌, length, refl, sym, ◌∙◌, ap, arith, get_or, slice_get, Some, inl, inr}
use Rattle.std.specs.Prelude.{AllPairs}
use Rattle.std.specs.Bool.{Decides}
use Rattle.std.specs.List.{list_any, position_or_len, IsDistinct}
use Rattle.std.specs.Cmp.Lexicographic.{pointwise, pointwise_decides}
use Rattle.std.proofs.lemmas.Bool.Decides.{Decides-eqb}
use Rattle.std.proofs.lemmas.Option.{get_or_from_slice_get, slice_get_cases}
use Rattle.std.proofs.lemmas.List.{append_assoc, append-nil}
use Rattle.std.proofs.lemmas.List.Folds.{list_any-append}
use Rattle.std.proofs.lemmas.List.Sums.{passes_at_first}
use Rattle.std.proofs.lemmas.Map.Made.{AllPairs-from_IsDistinct}
use Rattle.nk_field.proofs.Thens.{order}
use Rattle.nk_determ.specs.Sets.{SetsGrow, IsSetOf, HasEachSetOnce, holds, with_set, place_in}

-- the test of equal lists of labels tells whether they are one
pub labels_decide : (xs ys : List ℕ) → Decides (pointwise nat_eq xs ys) (xs ≡ ys)
labels_decide xs ys = pointwise_decides Decides-eqb xs ys

-- sets grow to themselves
pub sets_same : (sets : List (List ℕ)) → SetsGrow sets sets
sets_same sets = ([], sym (append-nil sets))

-- sets that grew twice
pub sets_on : (a b c : List (List ℕ)) → SetsGrow a b → SetsGrow b c → SetsGrow a c
sets_on a b c g h = (g.0 ++ h.0, h.1 ∙ ap (λ xs. xs ++ h.0) g.1 ∙ append_assoc a g.0 h.0)

-- labels that are one of the sets are one of more sets
pub holds_grow : (old new : List (List ℕ)) (labels : List ℕ) → SetsGrow old new → holds old labels ≡ true → holds new labels ≡ true
holds_grow old new labels g h =
    ap (λ s. holds s labels) g.1 ∙ list_any-append (pointwise nat_eq labels) old g.0 ∙ ap (λ b. b || holds g.0 labels) h

-- labels that are put in are one of the sets
pub set_there : (sets : List (List ℕ)) (labels : List ℕ) → holds (with_set sets labels) labels ≡ true
set_there sets labels = by (holds sets labels) refl
  where
    last : (b : Bool) → (b || (pointwise nat_eq labels labels || false)) ≡ true
    last true = refl
    last false = ap (λ b. b || false) ((labels_decide labels labels).1 refl)

    by : (b : Bool) → holds sets labels ≡ b → holds (cond b sets (sets ++ labels ∷ [])) labels ≡ true
    by true e = e
    by false e = list_any-append (pointwise nat_eq labels) sets (labels ∷ []) ∙ last (holds sets labels)

-- what a look-up finds is within the list
inside : (zs : List (List ℕ)) (j : ℕ) (m : List ℕ) → slice_get zs j ≡ Some m → j < length zs
inside zs j m e = grind (arith, slice_get_cases zs j, e)

-- the list that stands at a place has that number
pub stored_set : (sets : List (List ℕ)) (i : ℕ) (k labels : List ℕ) → slice_get sets i ≡ Some k → pointwise nat_eq labels k ≡ true → IsSetOf sets i labels
stored_set sets i k labels at same = record {
  within = inside sets i k at;
  members = get_or_from_slice_get sets i k [] at ∙ sym ((labels_decide labels k).0 same);
}

-- sets of which no two are equal differ
pub distinct_differ : (sets : List (List ℕ)) → IsDistinct (pointwise nat_eq) sets → HasEachSetOnce sets
distinct_differ sets d i j li lj e =
    let apart : AllPairs (λ x y. x ≢ y) sets = AllPairs-from_IsDistinct labels_decide sets d in
    elim (order i j) [
      | inl less ↦ absurd (apart i j [] less lj e)
      | inr (inl same) ↦ same
      | inr (inr more) ↦ absurd (apart j i [] more li (sym e))
    ]

-- where a test passes somewhere, the first place is within the list
found_before : (p : List ℕ → Bool) (xs : List (List ℕ)) → list_any p xs ≡ true → position_or_len p xs < length xs
found_before p [] h = cc
found_before p (x ∷ xs) h = by (p x) refl h (λ k. found_before p xs k)
  where
    by : (b : Bool) → p x ≡ b → b || list_any p xs ≡ true → (list_any p xs ≡ true → position_or_len p xs < length xs) → position_or_len p (x ∷ xs) < length (x ∷ xs)
    by true is k go = let e : position_or_len p (x ∷ xs) ≡ 0 = rw is refl in omega (arith, e)
    by false is k go = let e : position_or_len p (x ∷ xs) ≡ 1 + position_or_len p xs = rw is refl in omega (arith, e, go k)

-- labels that are one of the sets stand at their place
pub place_holds : (sets : List (List ℕ)) (labels : List ℕ) → holds sets labels ≡ true → (place_in sets labels < length sets) × (get_or sets (place_in sets labels) [] ≡ labels)
place_holds sets labels h =
    let p : List ℕ → Bool = pointwise nat_eq labels in
    let within : position_or_len p sets < length sets = found_before p sets h in
    (within, sym ((labels_decide labels (get_or sets (place_in sets labels) [])).0 (passes_at_first p sets [] within)))

-- where a test passes somewhere, items after leave the first place as it is
found_still : (p : List ℕ → Bool) (xs ys : List (List ℕ)) → list_any p xs ≡ true → position_or_len p (xs ++ ys) ≡ position_or_len p xs
found_still p [] ys h = cc
found_still p (x ∷ xs) ys h = by (p x) refl h (λ k. found_still p xs ys k)
  where
    by : (b : Bool) → p x ≡ b → b || list_any p xs ≡ true → (list_any p xs ≡ true → position_or_len p (xs ++ ys) ≡ position_or_len p xs) →
        position_or_len p (x ∷ (xs ++ ys)) ≡ position_or_len p (x ∷ xs)
    by true is k go =
        let e : position_or_len p (x ∷ (xs ++ ys)) ≡ 0 = rw is refl in
        let f : position_or_len p (x ∷ xs) ≡ 0 = rw is refl in
        e ∙ sym f
    by false is k go =
        let e : position_or_len p (x ∷ (xs ++ ys)) ≡ 1 + position_or_len p (xs ++ ys) = rw is refl in
        let f : position_or_len p (x ∷ xs) ≡ 1 + position_or_len p xs = rw is refl in
        e ∙ ap (λ n. 1 + n) (go k) ∙ sym f

-- labels that are one of the sets have the same place among more sets
pub place_grow : (old new : List (List ℕ)) (labels : List ℕ) → SetsGrow old new → holds old labels ≡ true → place_in new labels ≡ place_in old labels
place_grow old new labels g h = ap (λ s. place_in s labels) g.1 ∙ found_still (pointwise nat_eq labels) old g.0 h

-- the number of labels that were put in is their place, whatever sets come later
pub number_placed : (old new : List (List ℕ)) (i : ℕ) (labels : List ℕ) → new ≡ with_set old labels → HasEachSetOnce new → IsSetOf new i labels →
    (later : List (List ℕ)) → SetsGrow new later → i ≡ place_in later labels
number_placed old new i labels e d s later g =
    let h : holds new labels ≡ true = ap (λ zs. holds zs labels) e ∙ set_there old labels in
    let at = place_holds new labels h in
    d i (place_in new labels) s.within at.0 (s.members ∙ sym at.1) ∙ sym (place_grow new later labels g h)
