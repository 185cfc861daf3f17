-- Policies made from others mean the same: numbered anew, and with link literals written out.
use Rattle.std.proofs.Common.{◌≡◌, ℕ, zero, suc, ◌+◌, Bool, true, false, ◌⊎◌, inl, inr, ⊎_elim, [], ◌∷◌, ◌++◌, refl, sym, ap, ◌∙◌, arith, max}
use Rattle.std.specs.Prelude.{◌==◌, ◌||◌, ◌&&◌, ◌↔◌, Contains}
use Rattle.std.specs.List.{range_with_len}
use Rattle.nk_field.specs.declared.packet.Packet.{Packet}
use Rattle.nk_field.proofs.Lists.{In, in_left, in_right, in_either, in_from_contains, contains_from_in}
use Rattle.nk_policy.specs.Policy.{Policy, Policies, sum_of, seq_of, not_of, star_of, dup, link, no_part, part, depth_of, depths_of, size_of, sizes_of, dups_of, dups_of_all, numbers_of, numbers_of_all, is_predicate, are_predicates, marked_from, all_marked_from, without_links, all_without_links}
use Rattle.nk_policy.specs.Meaning.{Way, keep, followed_by, rounds, way_of, some_way_of, way_of_all}
use Rattle.nk_policy.specs.Progress.{Front, numbered, no_dup, within_either, RecordsAt, SomeRecordsAt, AllRecordAt}
use Rattle.nk_policy.specs.After.{has_dup, some_has_dup}
use Rattle.nk_policy.proofs.Tests.{or_left, or_right, or_cases, same_test, same_from, false_true}

-- the ways of a policy by those of its parts
module _ {A : Type 0} where
  -- of two parts of a sum
  abbrev either_way : Way A → Way A → Way A
  either_way R S pk w y = R pk w y ⊎ S pk w y

  -- of a complement
  abbrev no_way : Way A → Way A
  no_way R pk w y = keep pk w y × ¬ (R pk [] pk)

  -- of a star
  abbrev star_way : Way A → Way A
  star_way R pk w y = (n : ℕ) × rounds n R pk w y

-- without its numbers a policy has the same ways
module _ {A : Type 0} (f : Packet → A) where
  -- a record in a form that leaves the number out
  abbrev bare : ℕ → Packet → A
  bare l x = f x

  mutual
    -- a policy that is numbered anew
    pub marked_ways : (p : Policy) (n : ℕ) → way_of (marked_from p n) bare ≡ way_of p bare
    marked_ways (sum_of ps) n = some_marked_ways ps n
    marked_ways (seq_of ps) n = all_marked_ways ps n
    marked_ways (not_of p) n = ap no_way (marked_ways p n)
    marked_ways (star_of p) n = ap star_way (marked_ways p n)
    marked_ways p n = refl

    -- the parts of a sum
    some_marked_ways : (ps : Policies) (n : ℕ)
        → some_way_of (all_marked_from ps n) bare ≡ some_way_of ps bare
    some_marked_ways no_part n = refl
    some_marked_ways (part p ps) n =
        ap (λ (R : Way A). either_way R (some_way_of (all_marked_from ps (n + dups_of p)) bare)) (marked_ways p n)
        ∙ ap (either_way (way_of p bare)) (some_marked_ways ps (n + dups_of p))

    -- the parts of a sequence
    all_marked_ways : (ps : Policies) (n : ℕ)
        → way_of_all (all_marked_from ps n) bare ≡ way_of_all ps bare
    all_marked_ways no_part n = refl
    all_marked_ways (part p ps) n =
        ap (λ (R : Way A). followed_by R (way_of_all (all_marked_from ps (n + dups_of p)) bare)) (marked_ways p n)
        ∙ ap (followed_by (way_of p bare)) (all_marked_ways ps (n + dups_of p))

-- with its link literals written out a policy has the same ways
module _ {A : Type 0} (mark : ℕ → Packet → A) where
  mutual
    -- a policy
    pub written_ways : (p : Policy) → way_of (without_links p) mark ≡ way_of p mark
    written_ways (sum_of ps) = some_written_ways ps
    written_ways (seq_of ps) = all_written_ways ps
    written_ways (not_of p) = ap no_way (written_ways p)
    written_ways (star_of p) = ap star_way (written_ways p)
    written_ways p = refl

    -- the parts of a sum
    some_written_ways : (ps : Policies) → some_way_of (all_without_links ps) mark ≡ some_way_of ps mark
    some_written_ways no_part = refl
    some_written_ways (part p ps) =
        ap (λ (R : Way A). either_way R (some_way_of (all_without_links ps) mark)) (written_ways p)
        ∙ ap (either_way (way_of p mark)) (some_written_ways ps)

    -- the parts of a sequence
    all_written_ways : (ps : Policies) → way_of_all (all_without_links ps) mark ≡ way_of_all ps mark
    all_written_ways no_part = refl
    all_written_ways (part p ps) =
        ap (λ (R : Way A). followed_by R (way_of_all (all_without_links ps) mark)) (written_ways p)
        ∙ ap (followed_by (way_of p mark)) (all_written_ways ps)

-- a dup of either of two parts
abbrev either_front : Front → Front → Front
either_front F G pk u x l = F pk u x l ⊎ G pk u x l

-- a dup of a round, after rounds
abbrev star_front : Way (Packet × ℕ) → Front → Front
star_front R F pk u x l = (n : ℕ) × within_either no_dup (rounds n R) F pk u x l

mutual
  -- and the same runs so far
  pub written_records : (p : Policy) → RecordsAt (without_links p) ≡ RecordsAt p
  written_records (sum_of ps) = some_written_records ps
  written_records (seq_of ps) = all_written_records ps
  written_records (star_of p) =
      ap (λ (R : Way (Packet × ℕ)). star_front R (RecordsAt (without_links p))) (written_ways numbered p)
      ∙ ap (star_front (way_of p numbered)) (written_records p)
  written_records p = refl

  -- the parts of a sum
  some_written_records : (ps : Policies) → SomeRecordsAt (all_without_links ps) ≡ SomeRecordsAt ps
  some_written_records no_part = refl
  some_written_records (part p ps) =
      ap (λ (F : Front). either_front F (SomeRecordsAt (all_without_links ps))) (written_records p)
      ∙ ap (either_front (RecordsAt p)) (some_written_records ps)

  -- the parts of a sequence
  all_written_records : (ps : Policies) → AllRecordAt (all_without_links ps) ≡ AllRecordAt ps
  all_written_records no_part = refl
  all_written_records (part p ps) =
      ap (λ (F : Front). within_either F (way_of (without_links p) numbered) (AllRecordAt (all_without_links ps))) (written_records p)
      ∙ ap (λ (R : Way (Packet × ℕ)). within_either (RecordsAt p) R (AllRecordAt (all_without_links ps))) (written_ways numbered p)
      ∙ ap (within_either (RecordsAt p) (way_of p numbered)) (all_written_records ps)

-- a test that fails changes nothing at the end
or_false : (a : Bool) → a || false ≡ a
or_false true = refl
or_false false = refl

mutual
  -- and the same dups
  pub written_dups : (p : Policy) (l : ℕ) → has_dup (without_links p) l ≡ has_dup p l
  written_dups (sum_of ps) l = all_written_dups ps l
  written_dups (seq_of ps) l = all_written_dups ps l
  written_dups (not_of p) l = written_dups p l
  written_dups (star_of p) l = written_dups p l
  written_dups (link a m b n k) l = ap (λ c. (l == k) || c) (or_false (l == (k + 1)))
  written_dups p l = refl

  -- of the parts
  all_written_dups : (ps : Policies) (l : ℕ) → some_has_dup (all_without_links ps) l ≡ some_has_dup ps l
  all_written_dups no_part l = refl
  all_written_dups (part p ps) l =
      ap (λ c. c || some_has_dup (all_without_links ps) l) (written_dups p l) ∙ ap (λ c. has_dup p l || c) (all_written_dups ps l)

-- what is read off a policy is the same once it is numbered anew
mutual
  -- the depth
  pub marked_depth : (p : Policy) (n : ℕ) → depth_of (marked_from p n) ≡ depth_of p
  marked_depth (sum_of ps) n = ap (λ d. 1 + d) (marked_depths ps n)
  marked_depth (seq_of ps) n = ap (λ d. 1 + d) (marked_depths ps n)
  marked_depth (not_of p) n = ap (λ d. 1 + d) (marked_depth p n)
  marked_depth (star_of p) n = ap (λ d. 1 + d) (marked_depth p n)
  marked_depth p n = refl

  -- of the parts
  marked_depths : (ps : Policies) (n : ℕ) → depths_of (all_marked_from ps n) ≡ depths_of ps
  marked_depths no_part n = refl
  marked_depths (part p ps) n =
      ap (λ d. max d (depths_of (all_marked_from ps (n + dups_of p)))) (marked_depth p n)
      ∙ ap (λ d. max (depth_of p) d) (marked_depths ps (n + dups_of p))

mutual
  -- the size
  pub marked_size : (p : Policy) (n : ℕ) → size_of (marked_from p n) ≡ size_of p
  marked_size (sum_of ps) n = ap (λ d. 1 + d) (marked_sizes ps n)
  marked_size (seq_of ps) n = ap (λ d. 1 + d) (marked_sizes ps n)
  marked_size (not_of p) n = ap (λ d. 1 + d) (marked_size p n)
  marked_size (star_of p) n = ap (λ d. 1 + d) (marked_size p n)
  marked_size p n = refl

  -- of the parts
  marked_sizes : (ps : Policies) (n : ℕ) → sizes_of (all_marked_from ps n) ≡ sizes_of ps
  marked_sizes no_part n = refl
  marked_sizes (part p ps) n =
      ap (λ d. d + sizes_of (all_marked_from ps (n + dups_of p))) (marked_size p n)
      ∙ ap (λ d. size_of p + d) (marked_sizes ps (n + dups_of p))

mutual
  -- how many dups
  pub marked_dups : (p : Policy) (n : ℕ) → dups_of (marked_from p n) ≡ dups_of p
  marked_dups (sum_of ps) n = all_marked_dups ps n
  marked_dups (seq_of ps) n = all_marked_dups ps n
  marked_dups (not_of p) n = marked_dups p n
  marked_dups (star_of p) n = marked_dups p n
  marked_dups p n = refl

  -- of the parts
  all_marked_dups : (ps : Policies) (n : ℕ) → dups_of_all (all_marked_from ps n) ≡ dups_of_all ps
  all_marked_dups no_part n = refl
  all_marked_dups (part p ps) n =
      ap (λ d. d + dups_of_all (all_marked_from ps (n + dups_of p))) (marked_dups p n)
      ∙ ap (λ d. dups_of p + d) (all_marked_dups ps (n + dups_of p))

mutual
  -- whether it is a predicate
  pub marked_predicate : (p : Policy) (n : ℕ) → is_predicate (marked_from p n) ≡ is_predicate p
  marked_predicate (sum_of ps) n = marked_predicates ps n
  marked_predicate (seq_of ps) n = marked_predicates ps n
  marked_predicate (not_of p) n = marked_predicate p n
  marked_predicate p n = refl

  -- of the parts
  marked_predicates : (ps : Policies) (n : ℕ)
      → are_predicates (all_marked_from ps n) ≡ are_predicates ps
  marked_predicates no_part n = refl
  marked_predicates (part p ps) n =
      ap (λ c. c && are_predicates (all_marked_from ps (n + dups_of p))) (marked_predicate p n)
      ∙ ap (λ c. is_predicate p && c) (marked_predicates ps (n + dups_of p))

-- numbers in a row, and then those that follow
range_joined : (n i j : ℕ) → range_with_len n i ++ range_with_len (n + i) j ≡ range_with_len n (i + j)
range_joined n zero j = let e : n + 0 ≡ n = omega arith in let f : 0 + j ≡ j = omega arith in ap (λ k. range_with_len k j) e ∙ ap (λ k. range_with_len n k) (sym f)
range_joined n (suc i) j =
    let e : n + suc i ≡ (n + 1) + i = omega arith in
    let f : suc i + j ≡ suc (i + j) = omega arith in
    ap (λ k. n ∷ (range_with_len (n + 1) i ++ range_with_len k j)) e
    ∙ ap (λ l. n ∷ l) (range_joined (n + 1) i j)
    ∙ ap (λ k. range_with_len n k) (sym f)

mutual
  -- a policy that is numbered anew has its numbers in a row, in text order
  pub marked_numbers : (p : Policy) (n : ℕ)
      → numbers_of (marked_from p n) ≡ range_with_len n (dups_of p)
  marked_numbers (sum_of ps) n = all_marked_numbers ps n
  marked_numbers (seq_of ps) n = all_marked_numbers ps n
  marked_numbers (not_of p) n = marked_numbers p n
  marked_numbers (star_of p) n = marked_numbers p n
  marked_numbers p n = refl

  -- its parts have
  all_marked_numbers : (ps : Policies) (n : ℕ)
      → numbers_of_all (all_marked_from ps n) ≡ range_with_len n (dups_of_all ps)
  all_marked_numbers no_part n = refl
  all_marked_numbers (part p ps) n =
      ap (λ l. l ++ numbers_of_all (all_marked_from ps (n + dups_of p))) (marked_numbers p n)
      ∙ ap (λ l. range_with_len n (dups_of p) ++ l) (all_marked_numbers ps (n + dups_of p))
      ∙ range_joined n (dups_of p) (dups_of_all ps)

mutual
  -- a dup's number stands among the numbers
  number_listed : (p : Policy) (l : ℕ) → has_dup p l ≡ true → In (numbers_of p) l
  number_listed (sum_of ps) l h = number_of_part ps l h
  number_listed (seq_of ps) l h = number_of_part ps l h
  number_listed (not_of p) l h = number_listed p l h
  number_listed (star_of p) l h = number_listed p l h
  number_listed (dup k) l h = inl (same_from l k h)
  number_listed (link a m b n k) l h =
      ⊎_elim (λ s. inl (same_from l k s)) (λ s. inr (inl (same_from l (k + 1) s))) (or_cases (l == k) (l == (k + 1)) h)
  number_listed p l h = absurd (false_true h)

  -- a part's
  number_of_part : (ps : Policies) (l : ℕ) → some_has_dup ps l ≡ true → In (numbers_of_all ps) l
  number_of_part no_part l h = absurd (false_true h)
  number_of_part (part p ps) l h =
      ⊎_elim
      (λ s. in_left (numbers_of p) (numbers_of_all ps) l (number_listed p l s))
      (λ s. in_right (numbers_of p) (numbers_of_all ps) l (number_of_part ps l s))
      (or_cases (has_dup p l) (some_has_dup ps l) h)

mutual
  -- a listed number is a dup's
  listed_number : (p : Policy) (l : ℕ) → In (numbers_of p) l → has_dup p l ≡ true
  listed_number (sum_of ps) l h = part_of_number ps l h
  listed_number (seq_of ps) l h = part_of_number ps l h
  listed_number (not_of p) l h = listed_number p l h
  listed_number (star_of p) l h = listed_number p l h
  listed_number (dup k) l h = ⊎_elim (λ e. same_test l k e) (λ i. absurd i) h
  listed_number (link a m b n k) l h =
      ⊎_elim
      (λ e. or_left (l == k) (l == (k + 1)) (same_test l k e))
      (λ i. ⊎_elim (λ e. or_right (l == k) (l == (k + 1)) (same_test l (k + 1) e)) (λ j. absurd j) i)
      h
  listed_number p l h = absurd h

  -- a part's
  part_of_number : (ps : Policies) (l : ℕ) → In (numbers_of_all ps) l → some_has_dup ps l ≡ true
  part_of_number no_part l h = absurd h
  part_of_number (part p ps) l h =
      ⊎_elim
      (λ s. or_left (has_dup p l) (some_has_dup ps l) (listed_number p l s))
      (λ s. or_right (has_dup p l) (some_has_dup ps l) (part_of_number ps l s))
      (in_either (numbers_of p) (numbers_of_all ps) l h)

-- the listed numbers are those of the dups
pub numbers_are : (p : Policy) (l : ℕ) → Contains (numbers_of p) l ↔ (has_dup p l ≡ true)
numbers_are p l = (
  λ c. listed_number p l (in_from_contains (numbers_of p) l c),
  λ h. contains_from_in (numbers_of p) l (number_listed p l h),
)

mutual
  -- to number a policy once more is to number it once
  pub marked_again : (p : Policy) (m n : ℕ) → marked_from (marked_from p m) n ≡ marked_from p n
  marked_again (sum_of ps) m n = ap sum_of (all_marked_again ps m n)
  marked_again (seq_of ps) m n = ap seq_of (all_marked_again ps m n)
  marked_again (not_of p) m n = ap not_of (marked_again p m n)
  marked_again (star_of p) m n = ap star_of (marked_again p m n)
  marked_again p m n = refl

  -- its parts
  all_marked_again : (ps : Policies) (m n : ℕ)
      → all_marked_from (all_marked_from ps m) n ≡ all_marked_from ps n
  all_marked_again no_part m n = refl
  all_marked_again (part p ps) m n =
      ap (λ d. part (marked_from (marked_from p m) n) (all_marked_from (all_marked_from ps (m + dups_of p)) (n + d))) (marked_dups p m)
      ∙ ap (λ q. part q (all_marked_from (all_marked_from ps (m + dups_of p)) (n + dups_of p))) (marked_again p m n)
      ∙ ap (part (marked_from p n)) (all_marked_again ps (m + dups_of p) (n + dups_of p))

mutual
  -- a policy that has no dup stays as it is
  pub dupless_marked : (p : Policy) (n : ℕ) → dups_of p ≡ 0 → marked_from p n ≡ p
  dupless_marked (sum_of ps) n none = ap sum_of (all_dupless_marked ps n none)
  dupless_marked (seq_of ps) n none = ap seq_of (all_dupless_marked ps n none)
  dupless_marked (not_of p) n none = ap not_of (dupless_marked p n none)
  dupless_marked (star_of p) n none = ap star_of (dupless_marked p n none)
  dupless_marked (dup l) n none = absurd (omega (arith, none))
  dupless_marked (link a j b k l) n none = absurd (omega (arith, none))
  dupless_marked p n none = refl

  -- its parts
  all_dupless_marked : (ps : Policies) (n : ℕ) → dups_of_all ps ≡ 0 → all_marked_from ps n ≡ ps
  all_dupless_marked no_part n none = refl
  all_dupless_marked (part p ps) n none =
      ap (λ q. part q (all_marked_from ps (n + dups_of p))) (dupless_marked p n (omega (arith, none)))
      ∙ ap (part p) (all_dupless_marked ps (n + dups_of p) (omega (arith, none)))
