-- Labels that are raised by a number, and two lists of them one after the other.
use Rattle.std.proofs.Common.{◌≡◌, ℕ, ◌+◌, ◌-◌, ◌<◌, ◌≤◌, inl, inr, ⊎_elim, List, [], ◌∷◌, ◌++◌, length, refl, sym, ap, ◌∙◌, arith}
use Rattle.std.specs.Prelude.{All, map, slice_index}
use Rattle.std.proofs.lemmas.List.{get_or_default}
use Rattle.std.specs.List.Sorted.{IsStrictlyIncreasing}
use Rattle.nk_field.proofs.Lists.{In, in_either, in_mapped, from_mapped, in_from_place}
use Rattle.nk_field.proofs.Ascending.{Rising, all_from_members, members_from_all, rising_from, increasing_from}
use Rattle.nk_determ.specs.Pairs.{AreLabelsBelow}
use Rattle.nk_merge.specs.Alike.{labels_after}
use Rattle.nk_merge.specs.DisjointCopies.{again}
use Rattle.nk_merge.specs.Joined.{both_sets}
use Rattle.nk_merge.proofs.Marks.{again_is}

-- a label after which is a place
pub each_below : (n : ℕ) (xs : List ℕ) → AreLabelsBelow n (labels_after xs) → (l : ℕ) → In xs l → l + 1 < n
each_below n xs p l i = members_from_all (λ k. k < n) (labels_after xs) p (l + 1) (in_mapped (λ k. k + 1) xs l i)

-- raised labels fit
pub raised_fit : (n by most : ℕ) (xs : List ℕ) → AreLabelsBelow n (labels_after xs) → n + by ≤ most → All (λ l. l + by < most) xs
raised_fit n by most xs p le = all_from_members (λ l. l + by < most) xs (λ l i. let lt = each_below n xs p l i in omega (arith, lt, le))

-- the labels after others, marked again, are those others raised
marked_is : (n : ℕ) (ys : List ℕ) → ((l : ℕ) → In ys l → l + 1 < n) → map (again (n - 1)) (labels_after ys) ≡ map (λ l. l + n) ys
marked_is n [] h = refl
marked_is n (y ∷ ys) h =
    let lt = h y (inl refl) in
    let some : 0 < y + 1 = omega arith in
    let first : again (n - 1) (y + 1) ≡ y + n = again_is (n - 1) (y + 1) some ∙ omega (arith, lt) in
    ap (λ z. z ∷ map (again (n - 1)) (labels_after ys)) first ∙ ap (λ zs. (y + n) ∷ zs) (marked_is n ys (λ l i. h l (inr i)))

-- both sets after, as raised labels
pub both_are : (n : ℕ) (xs ys : List ℕ) → AreLabelsBelow n (labels_after ys) → map (λ l. l + 1) xs ++ map (λ l. l + n) ys ≡ both_sets (n - 1) (labels_after xs) (labels_after ys)
both_are n xs ys p = ap (λ zs. map (λ l. l + 1) xs ++ zs) (sym (marked_is n ys (each_below n ys p)))

-- raised labels rise
raised_rise : (by : ℕ) (xs : List ℕ) → Rising xs → Rising (map (λ l. l + by) xs)
raised_rise by [] r = tt
raised_rise by (x ∷ xs) r = (
  λ y i.
      let m = from_mapped (λ l. l + by) xs y i in
      let lt = r.0 m.0 m.1 in
      omega (arith, lt, m.2),
  raised_rise by xs r.1,
)

-- two lists that rise, the first below the second, rise together
joined_rise : (xs ys : List ℕ) → Rising xs → Rising ys → ((x y : ℕ) → In xs x → In ys y → x < y) → Rising (xs ++ ys)
joined_rise [] ys a b h = b
joined_rise (x ∷ xs) ys a b h = (
  λ y i. ⊎_elim (λ s. a.0 y s) (λ s. h x y (inl refl) s) (in_either xs ys y i),
  joined_rise xs ys a.1 b (λ z y i j. h z y (inr i) j),
)

-- so both together ascend
pub both_ascend : (n : ℕ) (xs ys : List ℕ) → AreLabelsBelow n (labels_after xs) → IsStrictlyIncreasing xs → IsStrictlyIncreasing ys
    → IsStrictlyIncreasing (map (λ l. l + 1) xs ++ map (λ l. l + n) ys)
both_ascend n xs ys p a b =
    increasing_from (map (λ l. l + 1) xs ++ map (λ l. l + n) ys)
    (joined_rise (map (λ l. l + 1) xs) (map (λ l. l + n) ys) (raised_rise 1 xs (rising_from xs a)) (raised_rise n ys (rising_from ys b))
    (λ x y i j.
    let k = from_mapped (λ l. l + 1) xs x i in
    let m = from_mapped (λ l. l + n) ys y j in
    let lt = each_below n xs p k.0 k.1 in
    omega (arith, lt, k.2, m.2)))

-- by its place
pub places_below : (n : ℕ) (xs : List ℕ) → AreLabelsBelow n (labels_after xs) → (k : ℕ) → k < length xs → slice_index xs k + 1 < n
places_below n xs p k lt = each_below n xs p (slice_index xs k) (in_from_place xs (slice_index xs k) k lt (get_or_default xs k (slice_index xs k) 0 lt))
