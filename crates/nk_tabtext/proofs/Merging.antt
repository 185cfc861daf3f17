-- Assignments that are read in the order of the text stand by field.
use Rattle.std.proofs.Common.{◌≡◌, ◌≤◌, ◌<◌, ◌+◌, ℕ, List, [], ◌∷◌, ◌++◌, Bool, true, false, refl, sym, ap, ◌∙◌, append_assoc, append-nil, map, Some, None, arith}
use Rattle.std.specs.Prelude.{◌==◌, Ok, nat_lt, nat_le, not, slice_index, unwrap_or}
use Rattle.std.specs.List.{list_any, AllByRecursion}
use Rattle.std.proofs.lemmas.Bool.Decides.{nat_tests}
use Rattle.nk_lex.specs.Faults.{and_then, first_of}
use Rattle.nk_field.specs.Packet.{FieldTable, field_named}
use Rattle.nk_field.specs.Act.{AscendsFrom, act_then}
use Rattle.nk_field.proofs.Thens.{lay-less, lay-more}
use Rattle.nk_tabtext.specs.Text.{is_tag, name_of}
use Rattle.nk_declare.specs.Declarations.{is_from}
use Rattle.nk_tabtext.specs.Values.{line_if, unless_at, pair_read, pairs_read}
use Rattle.nk_tabtext.proofs.Keyed.{kept_where, set_field, sets_where, Below, Ascend, both_miss, below_more, below_push, both_below, ascend_push, below_misses, above_misses, no_tag}
use Rattle.nk_tabtext.proofs.Lines.{written_pair}

-- assignments ascend by field
fields_ascend : (k : ℕ) (ms : List (ℕ × ℕ)) → AscendsFrom k ms → Ascend set_field k ms
fields_ascend k [] a = tt
fields_ascend k (m ∷ ms) a = (a.0, fields_ascend (m.0 + 1) ms a.1)

-- a pair put between those below and those above
insert_mid : (k : ℕ) (xs ys : List (ℕ × ℕ)) (m : ℕ × ℕ) → Below set_field k xs → k ≤ m.0 → Ascend set_field (m.0 + 1) ys
    → act_then (xs ++ ys) (m ∷ []) ≡ xs ++ m ∷ ys
insert_mid k [] [] m h le a = refl
insert_mid k [] (y ∷ ys) m h le a = lay-more y m ys [] (act_then ys) (omega (arith, a.0))
insert_mid k (x ∷ xs) ys m h le a =
    lay-less x m (xs ++ ys) [] (act_then (xs ++ ys)) (omega (arith, h.0, le)) ∙ ap (λ l. x ∷ l) (insert_mid k xs ys m h.1 le a)

-- an assignment that a table may have: its field has its name, is from `low` on, and the value is in range
abbrev pub IsGood : FieldTable → ℕ → ℕ × ℕ → Type 0
IsGood fs low m = (field_named fs (name_of fs m.0) ≡ Some m.0) × (low ≤ m.0) × (m.1 ≤ slice_index fs.maxima m.0)

abbrev pub AreGood : FieldTable → ℕ → List (ℕ × ℕ) → Type 0
AreGood fs low ms = AllByRecursion (IsGood fs low) ms

-- it is read where no other of its field stands
good_read : (fs : FieldTable) (low line : ℕ) (before : List (ℕ × ℕ)) (m : ℕ × ℕ) → IsGood fs low m
    → list_any (λ s. s.0 == m.0) before ≡ false → pair_read fs low before (written_pair fs line m) ≡ Ok m
good_read fs low line before m h none =
    ap (λ o. unless_at (first_of (first_of (line_if (not (is_from low o)) line) (line_if (list_any (λ s. s.0 == unwrap_or o 0) before) line)) (line_if (nat_lt (slice_index fs.maxima (unwrap_or o 0)) m.1) line)) (unwrap_or o 0, m.1)) h.0
    ∙ ap (λ b. unless_at (first_of (first_of (line_if (not b) line) (line_if (list_any (λ s. s.0 == m.0) before) line)) (line_if (nat_lt (slice_index fs.maxima m.0) m.1) line)) m) (from low m.0 h.1)
    ∙ ap (λ b. unless_at (first_of (first_of None (line_if b line)) (line_if (nat_lt (slice_index fs.maxima m.0) m.1) line)) m) none
    ∙ ap (λ b. unless_at (first_of (first_of None None) (line_if b line)) m) (no_more m.1 (slice_index fs.maxima m.0) h.2)
  where
    from : (a b : ℕ) → a ≤ b → nat_le a b ≡ true
    from a b le = grind (arith, nat_tests)

    no_more : (a b : ℕ) → a ≤ b → nat_lt b a ≡ false
    no_more a b le = grind (arith, nat_tests)

-- a good pair is read, and the others are read with it among those before
step_read : (fs : FieldTable) (low line : ℕ) (before after : List (ℕ × ℕ)) (m : ℕ × ℕ) (ms : List (ℕ × ℕ)) → IsGood fs low m
    → list_any (λ s. s.0 == m.0) before ≡ false → act_then before (m ∷ []) ≡ after
    → pairs_read fs low before (map (written_pair fs line) (m ∷ ms)) ≡ pairs_read fs low after (map (written_pair fs line) ms)
step_read fs low line before after m ms h none e =
    ap (λ r. and_then r (λ s. pairs_read fs low (act_then before (s ∷ [])) (map (written_pair fs line) ms))) (good_read fs low line before m h none)
    ∙ ap (λ l. pairs_read fs low l (map (written_pair fs line) ms)) e

-- a pair after others that it stands before
late : (fs : FieldTable) (low line k n : ℕ) (xs ys ms : List (ℕ × ℕ)) (m : ℕ × ℕ) → Below set_field n xs → n ≤ m.0 → Ascend set_field (m.0 + 1) ys
    → Below set_field k ys → m.0 < k → Ascend set_field k ms → AreGood fs low ms → IsGood fs low m
    → pairs_read fs low (xs ++ ys) (map (written_pair fs line) (ms ++ m ∷ [])) ≡ Ok (xs ++ m ∷ (ys ++ ms))
late fs low line k n xs ys [] m b le a c lt d g h =
    step_read fs low line (xs ++ ys) (xs ++ m ∷ ys) m [] h
    (both_miss (λ s. s.0 == m.0) xs ys (below_misses set_field n m.0 xs b le) (above_misses set_field (m.0 + 1) m.0 ys a (omega arith)))
    (insert_mid n xs ys m b le a)
    ∙ ap (λ l. Ok (xs ++ m ∷ l)) (sym (append-nil ys))
late fs low line k n xs ys (x ∷ ms) m b le a c lt d g h =
    step_read fs low line (xs ++ ys) (xs ++ (ys ++ x ∷ [])) x (ms ++ m ∷ []) g.0
    (both_miss (λ s. s.0 == x.0) xs ys (below_misses set_field n x.0 xs b (omega (arith, le, lt, d.0))) (below_misses set_field k x.0 ys c d.0))
    (ap (λ l. act_then l (x ∷ [])) (sym (append-nil (xs ++ ys)))
    ∙ insert_mid k (xs ++ ys) [] x (both_below set_field k xs ys (below_more set_field n k xs (omega (arith, le, lt)) b) c) d.0 tt
    ∙ append_assoc xs ys (x ∷ []))
    ∙ late fs low line (x.0 + 1) n xs (ys ++ x ∷ []) ms m b le (ascend_push set_field (m.0 + 1) k ys x a c d.0 (omega (arith, lt, d.0))) (below_push set_field (x.0 + 1) ys x (below_more set_field k (x.0 + 1) ys (omega (arith, d.0)) c) (omega arith)) (omega (arith, lt, d.0)) d.1 g.1 h
    ∙ ap (λ l. Ok (xs ++ m ∷ l)) (append_assoc ys (x ∷ []) ms)

-- the assignments of a bucket
all_pairs : (fs : FieldTable) (low line k : ℕ) (xs ms : List (ℕ × ℕ)) → Below set_field k xs → Ascend set_field k ms → AreGood fs low ms
    → pairs_read fs low xs (map (written_pair fs line) (sets_where fs false ms ++ sets_where fs true ms)) ≡ Ok (xs ++ ms)
all_pairs fs low line k xs [] b a g = ap (λ l. Ok l) (sym (append-nil xs))
all_pairs fs low line k xs (m ∷ ms) b a g =
    by (is_tag fs m.0) refl (all_pairs fs low line (m.0 + 1) (xs ++ m ∷ []) ms (below_push set_field (m.0 + 1) xs m (below_more set_field k (m.0 + 1) xs (omega (arith, a.0)) b) (omega arith)) a.1 g.1)
  where
    tw : List (ℕ × ℕ)
    tw = sets_where fs true ms

    fw : List (ℕ × ℕ)
    fw = sets_where fs false ms

    by : (t : Bool) → is_tag fs m.0 ≡ t → pairs_read fs low (xs ++ m ∷ []) (map (written_pair fs line) (fw ++ tw)) ≡ Ok ((xs ++ m ∷ []) ++ ms)
        → pairs_read fs low xs (map (written_pair fs line) (kept_where t false m fw ++ kept_where t true m tw)) ≡ Ok (xs ++ m ∷ ms)
    by true s e =
        let none = no_tag set_field fs m.0 ms s a.1 in
        ap (λ l. pairs_read fs low xs (map (written_pair fs line) (fw ++ m ∷ l))) none.0
        ∙ ap (λ l. pairs_read fs low xs (map (written_pair fs line) (l ++ m ∷ []))) none.1
        ∙ ap (λ l. pairs_read fs low l (map (written_pair fs line) (ms ++ m ∷ []))) (sym (append-nil xs))
        ∙ late fs low line (m.0 + 1) k xs [] ms m b a.0 tt tt (omega arith) a.1 g.1 g.0
    by false s e =
        step_read fs low line xs (xs ++ m ∷ []) m (fw ++ tw) g.0 (below_misses set_field k m.0 xs b a.0)
        (ap (λ l. act_then l (m ∷ [])) (sym (append-nil xs)) ∙ insert_mid k xs [] m b a.0 tt)
        ∙ e ∙ ap (λ l. Ok l) (append_assoc xs (m ∷ []) ms)

pub bucket_pairs : (fs : FieldTable) (low line k : ℕ) (ms : List (ℕ × ℕ)) → AscendsFrom k ms → AreGood fs low ms
    → pairs_read fs low [] (map (written_pair fs line) (sets_where fs false ms ++ sets_where fs true ms)) ≡ Ok ms
bucket_pairs fs low line k ms a g = all_pairs fs low line k [] ms tt (fields_ascend k ms a) g
