-- Places in lists: where the first element stands that passes a test.
use Rattle.std.proofs.Common.{◌≡◌, ◌≢◌, ℕ, zero, ◌+◌, ◌<◌, Bool, true, false, cond, Some, List, [], ◌∷◌, length, get_or, drop, suc, drop-cons, add-one, refl, sym, ap, ◌∙◌, arith}
use Rattle.std.specs.Prelude.{position, slice_index_or, AllPairs}
use Rattle.std.specs.Cmp.Lexicographic.{bytes_decides}
use Rattle.std.specs.List.{position_from}
use Rattle.std.specs.Str.{bytes_eq}
use Rattle.std.proofs.lemmas.Iterator.Adapters.{position_from-zero}

-- what is left begins with the element at the place
pub rest_is : {A : Type 0} (xs : List A) (i : ℕ) (x d : A) → i < length xs → x ≡ get_or xs i d → drop i xs ≡ x ∷ drop (i + 1) xs
rest_is xs i x d lt is = rw add-one (drop-cons xs i d lt ∙ ap (λ y. y ∷ drop (suc i) xs) (sym is))

module _ {A : Type 0} (test : A → Bool) where
  -- the element at the place passes
  pub passes_here : (xs : List A) (i : ℕ) (x d : A) → i < length xs → x ≡ get_or xs i d → test x ≡ true
      → position_from test i (drop i xs) ≡ Some i
  passes_here xs i x d lt is h =
      ap (position_from test i) (rest_is xs i x d lt is) ∙ ap (λ b. cond b (Some i) (position_from test (i + 1) (drop (i + 1) xs))) h

  -- the element at the place fails
  pub fails_here : (xs : List A) (i : ℕ) (x d : A) → i < length xs → x ≡ get_or xs i d → test x ≡ false
      → position_from test i (drop i xs) ≡ position_from test (i + 1) (drop (i + 1) xs)
  fails_here xs i x d lt is h =
      ap (position_from test i) (rest_is xs i x d lt is)
      ∙ ap (λ b. cond b (Some i) (position_from test (i + 1) (drop (i + 1) xs))) h

  -- the place from the front
  pub from_front : (xs : List A) → position_from test 0 xs ≡ position test xs
  from_front xs = sym (position_from-zero test xs)

-- a name stands where it stands first
pub name_placed : (xs : List (List ℕ)) (f i : ℕ) → f < length xs → AllPairs (λ a b. a ≢ b) xs
    → position_from (bytes_eq (slice_index_or xs f [])) i xs ≡ Some (i + f)
name_placed [] f i lt d = absurd (omega arith)
name_placed (x ∷ xs) zero i lt d =
    ap (λ b. cond b (Some i) (position_from (bytes_eq x) (i + 1) xs)) ((bytes_decides x x).1 refl)
    ∙ ap Some (omega arith)
name_placed (x ∷ xs) (suc f) i lt d =
    ap (λ b. cond b (Some i) (position_from (bytes_eq (slice_index_or xs f [])) (i + 1) xs)) (other (bytes_eq (slice_index_or xs f []) x) refl)
    ∙ name_placed xs f (i + 1) (omega arith) (λ j k e a b. d (suc j) (suc k) e (omega (arith, a)) (omega (arith, b)))
    ∙ ap Some (omega arith)
  where
    other : (b : Bool) → bytes_eq (slice_index_or xs f []) x ≡ b → bytes_eq (slice_index_or xs f []) x ≡ false
    other true e = absurd (d 0 (suc f) [] (omega arith) lt (sym ((bytes_decides (slice_index_or xs f []) x).0 e)))
    other false e = e
