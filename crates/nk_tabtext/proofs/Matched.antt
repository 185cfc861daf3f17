-- Matches that are read in the order of the text, the tag's first, stand by field.
use Rattle.std.proofs.Common.{◌≡◌, ◌≤◌, ◌<◌, ◌+◌, ◌-◌, ℕ, List, [], ◌∷◌, ◌++◌, Bool, true, false, refl, sym, ap, ◌∙◌, append_assoc, map, Option, Some, None, arith, ◌||◌}
use Rattle.std.specs.Prelude.{◌==◌, ◌%◌, ◌^◌, Ok, nat_lt, nat_le, not, slice_index, unwrap_or}
use Rattle.std.specs.declared.result.Result.{Result}
use Rattle.std.specs.List.{list_any, AllByRecursion}
use Rattle.std.proofs.lemmas.Bool.Decides.{nat_tests}
use Rattle.nk_field.specs.Packet.{FieldTable, field_named}
use Rattle.nk_prefix.specs.Prefix.{digits_of}
use Rattle.nk_topo.proofs.Members.{placed_after, placed_front}
use Rattle.nk_lex.specs.declared.ident.Number.{Number}
use Rattle.nk_lex.specs.Faults.{and_then, first_of}
use Rattle.nk_tabgrammar.specs.declared.written.ReadError.{ReadError}
use Rattle.nk_tabtext.specs.InOrder.{MatchesAscend}
use Rattle.nk_tabtext.specs.Text.{is_tag, is_exact, name_of}
use Rattle.nk_declare.specs.Declarations.{is_from}
use Rattle.nk_tabtext.specs.Values.{line_if, unless_at, length_in, length_fault, ones_fault, match_read, placed_match, matches_read}
use Rattle.nk_tabtext.proofs.Keyed.{kept_where, match_field, matches_where, Below, Ascend, AtMostOne, both_miss, below_more, below_push, below_misses, above_misses, where_ascends, all_where, one_tag}
use Rattle.nk_tabtext.proofs.Lines.{number_on, written_length, written_match}

-- matches ascend by field
pub fields_ascend : (k : ℕ) (ms : List (ℕ × ℕ × ℕ)) → MatchesAscend k ms → Ascend match_field k ms
fields_ascend k [] a = tt
fields_ascend k (m ∷ ms) a = (a.0, fields_ascend (m.0 + 1) ms a.1)

-- a match put between those below and those above
insert_mid : (k : ℕ) (xs ys : List (ℕ × ℕ × ℕ)) (m : ℕ × ℕ × ℕ) → Below match_field k xs → k ≤ m.0 → Ascend match_field (m.0 + 1) ys
    → placed_match m (xs ++ ys) ≡ xs ++ m ∷ ys
insert_mid k [] [] m h le a = refl
insert_mid k [] (y ∷ ys) m h le a = placed_front (λ x. nat_lt x.0 m.0) m y ys (no_less y.0 m.0 (omega (arith, a.0)))
  where
    no_less : (a b : ℕ) → b ≤ a → nat_lt a b ≡ false
    no_less a b le = grind (arith, nat_tests)
insert_mid k (x ∷ xs) ys m h le a =
    placed_after (λ z. nat_lt z.0 m.0) m x (xs ++ ys) (less x.0 m.0 (omega (arith, h.0, le))) ∙ ap (λ l. x ∷ l) (insert_mid k xs ys m h.1 le a)
  where
    less : (a b : ℕ) → a < b → nat_lt a b ≡ true
    less a b lt = grind (arith, nat_tests)

-- a match that a table may have: its field has its name and isn't the switch, the value is in range, one digit counts or
-- more, up to all, and after those are zeros; where not all count, the text is of version 2
pub record IsFine (version : ℕ) (fs : FieldTable) (m : ℕ × ℕ × ℕ) : Type 0 where
  pub named : field_named fs (name_of fs m.0) ≡ Some m.0
  pub low : 1 ≤ m.0
  pub within : m.1 ≤ slice_index fs.maxima m.0
  pub some : 1 ≤ m.2
  pub most : m.2 ≤ digits_of (slice_index fs.maxima m.0)
  pub zeros : m.1 % 2 ^ (digits_of (slice_index fs.maxima m.0) - m.2) ≡ 0
  pub prefix : is_exact fs m ≡ false → version ≡ 2

abbrev pub AreFine : ℕ → FieldTable → List (ℕ × ℕ × ℕ) → Type 0
AreFine version fs ms = AllByRecursion (IsFine version fs) ms

-- tests of numbers that pass
no_more : (a b : ℕ) → a ≤ b → nat_lt b a ≡ false
no_more a b le = grind (arith, nat_tests)

no_zero : (a : ℕ) → 1 ≤ a → (a == 0) ≡ false
no_zero a le = grind (arith, nat_tests)

same : (a b : ℕ) → (a == b) ≡ true → a ≡ b
same a b e = grind (arith, nat_tests, e)

equal : (a b : ℕ) → a ≡ b → (a == b) ≡ true
equal a b e = grind (arith, nat_tests, e)

-- its digits are no fault
module _ (version : ℕ) (line digits : ℕ) (m : ℕ × ℕ × ℕ) where
  abbrev of_digits : Option Number → Result (ℕ × ℕ × ℕ) ReadError
  of_digits l =
      unless_at (first_of (length_fault version digits l) (ones_fault digits (length_in digits l) (number_on line m.1)))
      (m.0, m.1, length_in digits l)

  zeros_fine : m.1 % 2 ^ (digits - m.2) ≡ 0 → ones_fault digits m.2 (number_on line m.1) ≡ None
  zeros_fine z = ap (λ b. line_if (not b) line) (equal (m.1 % 2 ^ (digits - m.2)) 0 z)

  digits_read : (b : Bool) → (m.2 == digits) ≡ b → 1 ≤ m.2 → m.2 ≤ digits → m.1 % 2 ^ (digits - m.2) ≡ 0 → (b ≡ false → version ≡ 2)
      → of_digits (written_length b line m.2) ≡ Ok m
  digits_read true e some most z v =
      ap (λ k. unless_at (ones_fault digits k (number_on line m.1)) (m.0, m.1, k)) (sym (same m.2 digits e))
      ∙ ap (λ f. unless_at f m) (zeros_fine z)
  digits_read false e some most z v =
      ap (λ b. unless_at (first_of (line_if (not b || ((m.2 == 0) || nat_lt digits m.2)) line) (ones_fault digits m.2 (number_on line m.1))) m) (equal version 2 (v refl))
      ∙ ap (λ b. unless_at (first_of (line_if (b || nat_lt digits m.2) line) (ones_fault digits m.2 (number_on line m.1))) m) (no_zero m.2 some)
      ∙ ap (λ b. unless_at (first_of (line_if b line) (ones_fault digits m.2 (number_on line m.1))) m) (no_more m.2 digits most)
      ∙ ap (λ f. unless_at f m) (zeros_fine z)

-- it is read where no other of its field stands
fine_read : (version : ℕ) (fs : FieldTable) (line : ℕ) (before : List (ℕ × ℕ × ℕ)) (m : ℕ × ℕ × ℕ) → IsFine version fs m
    → list_any (λ s. s.0 == m.0) before ≡ false → match_read version fs before (written_match fs line m) ≡ Ok m
fine_read version fs line before m h none =
    ap (λ o. answer o (is_from 1 o) (list_any (λ s. s.0 == unwrap_or o 0) before) (nat_lt (slice_index fs.maxima (unwrap_or o 0)) m.1)) h.named
    ∙ ap (λ b. answer (Some m.0) b (list_any (λ s. s.0 == m.0) before) (nat_lt (slice_index fs.maxima m.0) m.1)) (from 1 m.0 h.low)
    ∙ ap (λ b. answer (Some m.0) true b (nat_lt (slice_index fs.maxima m.0) m.1)) none
    ∙ ap (λ b. answer (Some m.0) true false b) (no_more m.1 (slice_index fs.maxima m.0) h.within)
    ∙ digits_read version line (digits_of (slice_index fs.maxima m.0)) m (is_exact fs m) refl h.some h.most h.zeros h.prefix
  where
    from : (a b : ℕ) → a ≤ b → nat_le a b ≡ true
    from a b le = grind (arith, nat_tests)

    length : Option Number
    length = written_length (is_exact fs m) line m.2

    answer : Option ℕ → (is_low taken above : Bool) → Result (ℕ × ℕ × ℕ) ReadError
    answer o is_low taken above =
        let digits = digits_of (slice_index fs.maxima (unwrap_or o 0)) in
        unless_at
        (first_of
        (first_of (first_of (line_if (not is_low) line) (line_if taken line)) (line_if above line))
        (first_of (length_fault version digits length) (ones_fault digits (length_in digits length) (number_on line m.1))))
        (unwrap_or o 0, m.1, length_in digits length)

-- a fine match is read, and the others are read with it among those before
step_read : (version : ℕ) (fs : FieldTable) (line : ℕ) (before after : List (ℕ × ℕ × ℕ)) (m : ℕ × ℕ × ℕ) (ms : List (ℕ × ℕ × ℕ)) → IsFine version fs m
    → list_any (λ s. s.0 == m.0) before ≡ false → placed_match m before ≡ after
    → matches_read version fs before (map (written_match fs line) (m ∷ ms)) ≡ matches_read version fs after (map (written_match fs line) ms)
step_read version fs line before after m ms h none e =
    ap (λ r. and_then r (λ s. matches_read version fs (placed_match s before) (map (written_match fs line) ms))) (fine_read version fs line before m h none)
    ∙ ap (λ l. matches_read version fs l (map (written_match fs line) ms)) e

-- the matches of a row after that of the tag
row_matches : (version : ℕ) (fs : FieldTable) (line k : ℕ) (xs ms : List (ℕ × ℕ × ℕ)) → Below match_field k xs → Ascend match_field k ms → AreFine version fs ms
    → matches_read version fs (xs ++ matches_where fs true ms) (map (written_match fs line) (matches_where fs false ms)) ≡ Ok (xs ++ ms)
row_matches version fs line k xs [] b a g = refl
row_matches version fs line k xs (m ∷ ms) b a g =
    by (is_tag fs m.0)
    (row_matches version fs line (m.0 + 1) (xs ++ m ∷ []) ms (below_push match_field (m.0 + 1) xs m (below_more match_field k (m.0 + 1) xs (omega (arith, a.0)) b) (omega arith)) a.1 g.1)
  where
    tw : List (ℕ × ℕ × ℕ)
    tw = matches_where fs true ms

    fw : List (ℕ × ℕ × ℕ)
    fw = matches_where fs false ms

    above : Ascend match_field (m.0 + 1) tw
    above = where_ascends match_field fs true (m.0 + 1) ms a.1

    by : (t : Bool) → matches_read version fs ((xs ++ m ∷ []) ++ tw) (map (written_match fs line) fw) ≡ Ok ((xs ++ m ∷ []) ++ ms)
        → matches_read version fs (xs ++ kept_where t true m tw) (map (written_match fs line) (kept_where t false m fw)) ≡ Ok (xs ++ m ∷ ms)
    by true e =
        ap (λ l. matches_read version fs l (map (written_match fs line) fw)) (sym (append_assoc xs (m ∷ []) tw))
        ∙ e ∙ ap (λ l. Ok l) (append_assoc xs (m ∷ []) ms)
    by false e =
        step_read version fs line (xs ++ tw) (xs ++ m ∷ tw) m fw g.0
        (both_miss (λ s. s.0 == m.0) xs tw (below_misses match_field k m.0 xs b a.0) (above_misses match_field (m.0 + 1) m.0 tw above (omega arith)))
        (insert_mid k xs tw m b a.0 above)
        ∙ ap (λ l. matches_read version fs l (map (written_match fs line) fw)) (sym (append_assoc xs (m ∷ []) tw))
        ∙ e ∙ ap (λ l. Ok l) (append_assoc xs (m ∷ []) ms)

-- the tag's match, and then the others
pub tag_first : (version : ℕ) (fs : FieldTable) (line k : ℕ) (ms : List (ℕ × ℕ × ℕ)) → MatchesAscend k ms → AreFine version fs ms
    → matches_read version fs [] (map (written_match fs line) (matches_where fs true ms ++ matches_where fs false ms)) ≡ Ok ms
tag_first version fs line k ms up g =
    by (matches_where fs true ms) (one_tag match_field fs k ms a) (all_where match_field (IsFine version fs) fs true ms g)
    ∙ row_matches version fs line k [] ms tt a g
  where
    a : Ascend match_field k ms
    a = fields_ascend k ms up

    by : (tw : List (ℕ × ℕ × ℕ)) → AtMostOne tw → AreFine version fs tw
        → matches_read version fs [] (map (written_match fs line) (tw ++ matches_where fs false ms)) ≡ matches_read version fs tw (map (written_match fs line) (matches_where fs false ms))
    by [] o g = refl
    by (x ∷ tw) o g =
        step_read version fs line [] (x ∷ []) x (tw ++ matches_where fs false ms) g.0 refl refl
        ∙ ap (λ l. matches_read version fs (x ∷ []) (map (written_match fs line) (l ++ matches_where fs false ms))) o
        ∙ ap (λ l. matches_read version fs (x ∷ l) (map (written_match fs line) (matches_where fs false ms))) (sym o)
