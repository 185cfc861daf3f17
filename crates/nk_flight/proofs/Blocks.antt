-- Places in blocks: what becomes of all of them, one block after the other, where one block changes.
use Rattle.std.proofs.Common.{◌≡◌, ℕ, zero, suc, ◌+◌, ◌-◌, ◌<◌, ◌≤◌, ◌⊎◌, ⊎_elim, List, [], ◌∷◌, ◌++◌, length, take, refl, sym, ap, ◌∙◌, arith, append_assoc, length-append}
use Rattle.std.specs.Prelude.{remove, slice_index, slice_index_or, slice_set}
use Rattle.std.specs.List.{concat}
use Rattle.std.proofs.lemmas.List.{append-nil, get_or_append_left, get_or-append-add, take_all, take_more}
use Rattle.std.proofs.lemmas.List.Edits.{remove-append_left, remove-append_right}
use Rattle.std.proofs.lemmas.List.Folds.{concat-append}

-- one block more
pub one_more : (bs : List (List ℕ)) (x : List ℕ) → concat (bs ++ x ∷ []) ≡ concat bs ++ x
one_more bs x = concat-append bs (x ∷ []) ∙ ap (λ l. concat bs ++ l) (append-nil x)

-- the blocks so far, and one of them more
pub so_far : (bs : List (List ℕ)) (b : ℕ) (x : List ℕ) → b < length bs → x ≡ slice_index_or bs b x
    → concat (take (b + 1) bs) ≡ concat (take b bs) ++ x
so_far bs b x lt e =
    ap concat (take_more bs b x lt)
    ∙ ap (λ y. concat (take b bs ++ y ∷ [])) (sym e)
    ∙ one_more (take b bs) x

-- the last block grows
pub last_grown : (bs : List (List ℕ)) (n : ℕ) (x new more : List ℕ) → n + 1 ≡ length bs → x ≡ slice_index_or bs n x → new ≡ x ++ more
    → concat (slice_set bs n new) ≡ concat bs ++ more
last_grown [] n x new more e is grown = absurd (omega (arith, e))
last_grown (b ∷ []) zero x new more e is grown =
    append-nil new ∙ grown ∙ ap (λ l. l ++ more) (is ∙ sym (append-nil b))
last_grown (b ∷ c ∷ bs) zero x new more e is grown = absurd (omega (arith, e))
last_grown (b ∷ bs) (suc n) x new more e is grown =
    let count : n + 1 ≡ length bs = omega (arith, e) in
    ap (λ l. b ++ l) (last_grown bs n x new more count is grown) ∙ sym (append_assoc b (concat bs) more)

-- a place of a block
pub place_at : (bs : List (List ℕ)) (b j : ℕ) (x : List ℕ) → b < length bs → j < length (slice_index_or bs b []) → x ≡ slice_index_or bs b x
    → slice_index (concat bs) (length (concat (take b bs)) + j) ≡ slice_index x j
place_at [] b j x lt inside is = absurd (omega (arith, lt))
place_at (y ∷ bs) zero j x lt inside is =
    let front : 0 + j ≡ j = omega arith in
    ap (slice_index (y ++ concat bs)) front ∙ get_or_append_left y (concat bs) 0 j inside ∙ ap (λ l. slice_index l j) (sym is)
place_at (y ∷ bs) (suc b) j x lt inside is =
    let less : b < length bs = omega (arith, lt) in
    let moved : length (y ++ concat (take b bs)) + j ≡ length y + (length (concat (take b bs)) + j) = omega (arith, length-append y (concat (take b bs))) in
    ap (slice_index (y ++ concat bs)) moved
    ∙ get_or-append-add y (concat bs) (length (concat (take b bs)) + j) 0
    ∙ place_at bs b j x less inside is

-- a place is taken out of a block
pub taken_out : (bs : List (List ℕ)) (b j : ℕ) (x new : List ℕ) → b < length bs → j < length (slice_index_or bs b []) → x ≡ slice_index_or bs b x → new ≡ remove x j
    → concat (slice_set bs b new) ≡ remove (concat bs) (length (concat (take b bs)) + j)
taken_out [] b j x new lt inside is gone = absurd (omega (arith, lt))
taken_out (y ∷ bs) zero j x new lt inside is gone =
    let front : 0 + j ≡ j = omega arith in
    ap (λ l. l ++ concat bs) (gone ∙ ap (λ l. remove l j) is)
    ∙ sym (ap (remove (y ++ concat bs)) front ∙ remove-append_left y (concat bs) j inside)
taken_out (y ∷ bs) (suc b) j x new lt inside is gone =
    let less : b < length bs = omega (arith, lt) in
    let sum = length-append y (concat (take b bs)) in
    let following : length y ≤ length (y ++ concat (take b bs)) + j = omega (arith, sum) in
    let left : (length (y ++ concat (take b bs)) + j) - length y ≡ length (concat (take b bs)) + j = omega (arith, sum) in
    ap (λ l. y ++ l) (taken_out bs b j x new less inside is gone ∙ ap (remove (concat bs)) (sym left))
    ∙ sym (remove-append_right y (concat bs) (length y) (length (y ++ concat (take b bs)) + j) refl following)

-- a block without places is taken out
pub emptied : (bs : List (List ℕ)) (b : ℕ) (x : List ℕ) → b < length bs → x ≡ slice_index_or bs b x → length x ≡ 0
    → concat (remove bs b) ≡ concat bs
emptied [] b x lt is none = absurd (omega (arith, lt))
emptied (y ∷ bs) zero x lt is none = ap (λ l. l ++ concat bs) (sym (nothing x none) ∙ is)
  where
    nothing : (l : List ℕ) → length l ≡ 0 → l ≡ []
    nothing [] e = refl
    nothing (z ∷ l) e = absurd (omega (arith, e))
emptied (y ∷ bs) (suc b) x lt is none =
    let less : b < length bs = omega (arith, lt) in
    ap (λ l. y ++ l) (emptied bs b x less is none)

-- a place after a block is one of a later block
pub goes_on : (bs : List (List ℕ)) (i b w : ℕ) (x : List ℕ) → i < length (concat bs) → b < length bs → length (concat (take b bs)) + w ≡ i
    → x ≡ slice_index_or bs b x → length x ≤ w
    → (b + 1 < length bs) × (length (concat (take (b + 1) bs)) + (w - length x) ≡ i)
goes_on bs i b w x inside lt before is le =
    let count : length (concat (take (b + 1) bs)) ≡ length (concat (take b bs)) + length x =
    ap length (so_far bs b x lt is) ∙ length-append (concat (take b bs)) x in (
      ⊎_elim (λ less. less)
          (λ last.
          let all = ap (λ l. length (concat l)) (take_all (b + 1) bs last) in
          absurd (omega (arith, all, count, before, inside, le)))
          (sides (b + 1) (length bs)),
      omega (arith, count, before, le),
    )
  where
    sides : (m n : ℕ) → (m < n) ⊎ (n ≤ m)
    sides m n = grind arith
