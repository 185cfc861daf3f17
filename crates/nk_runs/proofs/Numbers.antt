-- The numbers of a policy's dups, where they are as many as there are places from 1 on: they are these places.
use Rattle.std.proofs.Common.{◌≡◌, ℕ, zero, suc, ◌+◌, ◌-◌, ◌<◌, ◌≤◌, true, inl, inr, ⊎_elim, List, [], ◌∷◌, ◌++◌, length, length-append, refl, sym, ap, subst, ◌∙◌, arith}
use Rattle.std.specs.List.{range_with_len}
use Rattle.std.proofs.lemmas.List.Elements.{All-contains, Contains-push}
use Rattle.nk_field.specs.declared.packet.Packet.{Packet}
use Rattle.nk_field.proofs.Lists.{In, in_left, in_right, in_either, in_from_contains, in_decided, numbers_decided, NoDup}
use Rattle.nk_policy.specs.Policy.{Policy, Policies, test, range, assign, sum_of, seq_of, not_of, star_of, dup, link, no_part, part, dups_of, dups_of_all, numbers_of, numbers_of_all}
use Rattle.nk_policy.specs.Progress.{RecordsAt}
use Rattle.nk_policy.specs.After.{has_dup, after}
use Rattle.nk_policy.specs.Labels.{HasRecorded}
use Rattle.nk_policy.proofs.DupsOfRuns.{front_dups, rest_dups}
use Rattle.nk_policy.proofs.Remade.{numbers_are}

-- where an element stands
record IsSplitAt {X : Type 0} (xs : List X) (x : X) : Type 0 where
  before : List X
  following : List X
  is : xs ≡ before ++ x ∷ following

split_at : {X : Type 0} (xs : List X) (x : X) → In xs x → IsSplitAt xs x
split_at [] x h = absurd h
split_at (y ∷ ys) x h =
    ⊎_elim
    (λ e. record { before = []; following = ys; is = ap (λ z. z ∷ ys) (sym e) })
    (λ r. let s = split_at ys x r in record { before = y ∷ s.before; following = s.following; is = ap (λ l. y ∷ l) s.is })
    h

-- elements without doubles that stand in a list are at most as many as it has
pub no_dup_fit : {X : Type 0} (xs ys : List X) → NoDup xs → ((x : X) → In xs x → In ys x) → length xs ≤ length ys
no_dup_fit [] ys a h = omega arith
no_dup_fit {X} (x ∷ xs) ys a h =
    let s = split_at ys x (h x (inl refl)) in
    let less = no_dup_fit xs (s.before ++ s.following) a.1 (λ y i. others s y i) in
    let many : length ys ≡ length s.before + length (x ∷ s.following) = ap length s.is ∙ length-append s.before (x ∷ s.following) in
    let fewer : length (s.before ++ s.following) ≡ length s.before + length s.following = length-append s.before s.following in
    omega (arith, less, many, fewer)
  where
    others : (s : IsSplitAt ys x) (y : X) → In xs y → In (s.before ++ s.following) y
    others s y i =
        ⊎_elim
        (λ l. in_left s.before s.following y l)
        (λ r. ⊎_elim (λ e. absurd (a.0 (subst (λ z. In xs z) e i))) (λ j. in_right s.before s.following y j) r)
        (in_either s.before (x ∷ s.following) y (subst (λ l. In l y) s.is (h y (inr i))))

-- a number of numbers in a row
range_in : (a n l : ℕ) → In (range_with_len a n) l → (a ≤ l) × (l < a + n)
range_in a zero l h = absurd h
range_in a (suc n) l h =
    ⊎_elim
    (λ e. (omega (arith, e), omega (arith, e)))
    (λ r. let b = range_in (a + 1) n l r in (omega (arith, b.0), omega (arith, b.1)))
    h

range_no_dup : (a n : ℕ) → NoDup (range_with_len a n)
range_no_dup a zero = tt
range_no_dup a (suc n) = (λ i. let b = range_in (a + 1) n a i in omega (arith, b.0), range_no_dup (a + 1) n)

range_count : (a n : ℕ) → length (range_with_len a n) ≡ n
range_count a zero = refl
range_count a (suc n) = ap suc (range_count (a + 1) n)

mutual
  -- a policy has as many numbers as dups
  count_numbers : (p : Policy) → length (numbers_of p) ≡ dups_of p
  count_numbers (test f n) = refl
  count_numbers (range f lo hi) = refl
  count_numbers (assign f n) = refl
  count_numbers (sum_of ps) = count_all_numbers ps
  count_numbers (seq_of ps) = count_all_numbers ps
  count_numbers (not_of p) = count_numbers p
  count_numbers (star_of p) = count_numbers p
  count_numbers (dup l) = refl
  count_numbers (link a m b n l) = refl

  -- so do its parts
  count_all_numbers : (ps : Policies) → length (numbers_of_all ps) ≡ dups_of_all ps
  count_all_numbers no_part = refl
  count_all_numbers (part p ps) =
      length-append (numbers_of p) (numbers_of_all ps)
      ∙ ap (λ n. n + length (numbers_of_all ps)) (count_numbers p)
      ∙ ap (λ n. dups_of p + n) (count_all_numbers ps)

-- where each place from 1 on, as many as there are dups, is a dup's number, there are no other numbers
pub dup_within : (p : Policy) → ((i : ℕ) → i < dups_of p → has_dup p (1 + i) ≡ true)
    → (l : ℕ) → has_dup p l ≡ true → (1 ≤ l) × (l ≤ dups_of p)
dup_within p all l h =
    ⊎_elim
    (λ i. let b = range_in 1 (dups_of p) l i in (b.0, omega (arith, b.1)))
    (λ new. absurd (too_many new))
    (in_decided numbers_decided (range_with_len 1 (dups_of p)) l)
  where
    each : (k : ℕ) → In (l ∷ range_with_len 1 (dups_of p)) k → In (numbers_of p) k
    each k i =
        ⊎_elim
        (λ e. in_from_contains (numbers_of p) k ((numbers_are p k).1 (subst (λ z. has_dup p z ≡ true) (sym e) h)))
        (λ r.
        let b = range_in 1 (dups_of p) k r in
        let lt : k - 1 < dups_of p = omega (arith, b.0, b.1) in
        let is : 1 + (k - 1) ≡ k = omega (arith, b.0) in
        in_from_contains (numbers_of p) k ((numbers_are p k).1 (subst (λ z. has_dup p z ≡ true) is (all (k - 1) lt))))
        i

    too_many : (In (range_with_len 1 (dups_of p)) l → ⊥) → ⊥
    too_many new =
        let le = no_dup_fit (l ∷ range_with_len 1 (dups_of p)) (numbers_of p) (new, range_no_dup 1 (dups_of p)) each in
        omega (arith, le, range_count 1 (dups_of p), count_numbers p)

-- what is recorded, at once or after more, is recorded at one of the policy's dups
pub record_dup : (p : Policy) (pk : Packet) (u : List (Packet × ℕ)) (x : Packet) (l : ℕ) → RecordsAt p pk u x l
    → has_dup p l ≡ true
record_dup p pk u x l r =
    All-contains (λ q. has_dup p q.1 ≡ true) (u ++ (x, l) ∷ []) (x, l) (front_dups p pk u x l r) (Contains-push u (x, l))

-- so it is in what is left
pub rest_record_dup : (p : Policy) (k : ℕ) (pk x : Packet) (l : ℕ) → RecordsAt (after p k) pk [] x l → has_dup p l ≡ true
rest_record_dup p k pk x l r = rest_dups p k l (record_dup (after p k) pk [] x l r)

-- and so is where a run is
pub at_dup : (p : Policy) (pk : Packet) (u : List Packet) (l : ℕ) → HasRecorded p pk u l → has_dup p l ≡ true
at_dup p pk u l a = record_dup p pk a.0 a.1 l a.3
