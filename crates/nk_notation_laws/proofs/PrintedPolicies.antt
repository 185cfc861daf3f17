-- The texts of policies and certificates, as they are printed, have plain numbers.
use Rattle.std.proofs.Common.{◌≤◌, ◌||◌, ℕ, Bool, true, false, cond, List, [], ◌∷◌, ◌++◌, decimal, refl, sym, subst, ◌∙◌, append_assoc, append-nil}
use Rattle.std.proofs.lemmas.List.Elements.{All-head, All-tail}
use Rattle.std.specs.Prelude.{All, codes}
use Rattle.std.specs.List.{flat_map}
use Rattle.nk_lex.specs.Lex.{largest}
use Rattle.nk_lex.specs.Spelling.{IsName}
use Rattle.nk_lex.proofs.Digits.{StopsAt}
use Rattle.nk_cert.specs.Certificates.{CertificateValue, RowValue}
use Rattle.nk_certtext.specs.ReadBack.{IsPrintableCertificate, IsReadableRow}
use Rattle.nk_certtext.specs.Text.{cert_bytes, position_bytes, predicate_bytes, row_bytes}
use Rattle.nk_declare.specs.Kept.{IsWritable}
use Rattle.nk_field.specs.Packet.{FieldTable, IsValue}
use Rattle.nk_field.specs.Texts.{name_of}
use Rattle.nk_policy.specs.Policy.{Policy, Policies, test, range, assign, sum_of, seq_of, not_of, star_of, dup, link, no_part, part}
use Rattle.nk_policy.specs.Ranges.{AllUseOnly, IsOverFields}
use Rattle.nk_policy.specs.Text.{enclosed, has_part, is_seq, is_star, is_sum, pol_bytes, seq_bytes, sum_bytes}
use Rattle.nk_notation.specs.Inward.{text_start}
use Rattle.nk_notation.specs.Lexemes.{is_run_byte}
use Rattle.nk_notation_laws.specs.Laws.{IsLeftByIn, PrintedCertificatesAreLeft, PrintedPoliciesAreLeft}
use Rattle.nk_notation_laws.proofs.Pieces.{left_word}
use Rattle.nk_notation_laws.proofs.PlainTexts.{Left, left_assigned, left_byte, left_decimal, left_equals, left_name, left_nothing, left_number, nothing_still}
use Rattle.nk_notation_laws.proofs.PrintedTables.{AreFine, Free, Gap, Runs, free_byte, free_each, free_free, free_runs, gap_colon, gap_end, named_field, runs_end, runs_gap, runs_name, two_joined, value_small}
use Rattle.nk_notation_laws.proofs.RunsAgain.{decimal_run, decimal_still, range_still}
use Rattle.nk_notation_laws.proofs.Shapes.{joined}
use Rattle.nk_notation_laws.proofs.WordsAgain.{range_runs}

runs_free : (w : List ℕ) → Free w → Runs w
runs_free w f = λ rest stops next. f rest next

runs_enclosed : (b : Bool) (w : List ℕ) → Runs w → Runs (enclosed b w)
runs_enclosed true w f = runs_free (codes "(" ++ w ++ codes ")") (runs_gap (codes "(" ++ w) (codes ")") (free_runs (codes "(") w (free_byte 40 refl refl) f) (free_byte 41 refl refl, λ rest. refl))
runs_enclosed false w f = f

gap_in : Gap (codes " in ")
gap_in = ((λ rest next. left_byte 32 (codes "in" ++ 32 ∷ rest) refl refl (left_word (codes "in") (refl, refl) refl rest next)), λ rest. refl)

gap_link : Gap (codes "=>")
gap_link = ((λ rest next. left_equals [] (62 ∷ rest) refl nothing_still refl (left_byte 62 rest refl refl next)), λ rest. refl)

-- what goes on with a text that ends a run
abbrev pub GoesOn : List ℕ → Type 0
GoesOn w = (rest : List ℕ) → StopsAt is_run_byte rest → Left rest → StopsAt is_run_byte (w ++ rest) × Left (w ++ rest)

pub goes_nothing : GoesOn []
goes_nothing = λ rest stops next. (stops, next)

pub runs_on : (v w : List ℕ) → Runs v → GoesOn w → Runs (v ++ w)
runs_on v w f g = λ rest stops next. let after = g rest stops next in subst Left (sym (append_assoc v w rest)) (f (w ++ rest) after.0 after.1)

-- one more summand
pub plus_on : (w others : List ℕ) → Runs w → GoesOn others → GoesOn (codes " + " ++ w ++ others)
plus_on w others f g = λ rest stops next.
    let after = g rest stops next in (
      refl,
      subst Left (sym (append_assoc (codes " + " ++ w) others rest))
          (left_byte 32 (43 ∷ 32 ∷ w ++ (others ++ rest)) refl refl (left_byte 43 (32 ∷ w ++ (others ++ rest)) refl refl (left_byte 32 (w ++ (others ++ rest)) refl refl
          (f (others ++ rest) after.0 after.1)))),
    )

-- a test, an assignment and a link
pub runs_test : (w : List ℕ) (n : ℕ) → IsName w → n ≤ largest → Runs (w ++ codes "=" ++ decimal n)
runs_test w n name le = λ rest stops next.
    subst Left (sym (append_assoc (w ++ codes "=") (decimal n) rest ∙ append_assoc w (codes "=") (decimal n ++ rest)))
    (runs_name w name (61 ∷ decimal n ++ rest) refl (left_equals (decimal n) rest (decimal_run n le) (decimal_still n le) stops next))

pub runs_set : (w : List ℕ) (n : ℕ) → IsName w → n ≤ largest → Runs (w ++ codes ":=" ++ decimal n)
runs_set w n name le = λ rest stops next.
    subst Left (sym (append_assoc (w ++ codes ":=") (decimal n) rest ∙ append_assoc w (codes ":=") (decimal n ++ rest))) (left_assigned w n rest name.0 le stops next)

pub runs_link : (a m b n : ℕ) → a ≤ largest → m ≤ largest → b ≤ largest → n ≤ largest → Runs (decimal a ++ codes ":" ++ decimal m ++ codes "=>" ++ decimal b ++ codes ":" ++ decimal n)
runs_link a m b n la lm lb ln =
    let x = decimal a ++ codes ":" ++ decimal m in
    let y = decimal b ++ codes ":" ++ decimal n in
    subst Runs (two_joined (x ++ codes "=>") (decimal b) (codes ":") (decimal n)) (free_runs (x ++ codes "=>") y (runs_gap x (codes "=>") (runs_end a m la lm) gap_link) (runs_end b n lb ln))

module _ (fs : FieldTable) (fine : AreFine fs) where
  mutual
    pub pol_runs : (p : Policy) → IsOverFields fs p → Runs (pol_bytes fs p)
    pol_runs (test f n) h = runs_test (name_of fs f) n (named_field fs fine f n h) (value_small fs fine f n h)
    pol_runs (range f lo hi) h =
        let name = name_of fs f in
        let low = value_small fs fine f lo h.0 in
        let high = value_small fs fine f hi h.1 in
        subst Runs (sym (joined (name ++ codes " in ") (decimal lo) (codes "..") (decimal hi)))
        (free_runs (name ++ codes " in ") (decimal lo ++ 46 ∷ 46 ∷ decimal hi) (runs_gap name (codes " in ") (runs_name name (named_field fs fine f lo h.0)) gap_in)
        (λ rest stops next. left_number lo (46 ∷ 46 ∷ decimal hi) rest low (range_runs lo hi low high) (range_still lo hi low high) stops next))
    pol_runs (assign f n) h = runs_set (name_of fs f) n (named_field fs fine f n h) (value_small fs fine f n h)
    pol_runs (sum_of ps) h = sum_runs ps h
    pol_runs (seq_of ps) h = seq_runs ps h
    pol_runs (not_of p) h = free_runs (codes "~") (enclosed (is_sum p || is_seq p) (pol_bytes fs p)) (free_byte 126 refl refl) (runs_enclosed (is_sum p || is_seq p) (pol_bytes fs p) (pol_runs p h))
    pol_runs (star_of p) h =
        let w = enclosed (is_sum p || is_seq p || is_star p) (pol_bytes fs p) in
        runs_free (w ++ codes "*") (runs_gap w (codes "*") (runs_enclosed (is_sum p || is_seq p || is_star p) (pol_bytes fs p) (pol_runs p h)) (free_byte 42 refl refl, λ rest. refl))
    pol_runs (dup l) h = λ rest stops next. left_name (codes "dup") rest (refl, refl) refl stops next
    pol_runs (link a m b n l) h = runs_link a m b n (value_small fs fine 0 a h.0) (value_small fs fine 1 m h.1) (value_small fs fine 0 b h.2) (value_small fs fine 1 n h.3)

    sum_runs : (ps : Policies) → AllUseOnly (IsValue fs) ps → Runs (cond (has_part ps) (sum_bytes fs [] ps) (codes "drop"))
    sum_runs no_part h = λ rest stops next. left_name (codes "drop") rest (refl, refl) refl stops next
    sum_runs (part p ps) h = runs_on (enclosed (is_sum p) (pol_bytes fs p)) (sum_bytes fs (codes " + ") ps) (runs_enclosed (is_sum p) (pol_bytes fs p) (pol_runs p h.0)) (sum_on ps h.1)

    sum_on : (ps : Policies) → AllUseOnly (IsValue fs) ps → GoesOn (sum_bytes fs (codes " + ") ps)
    sum_on no_part h = goes_nothing
    sum_on (part p ps) h = plus_on (enclosed (is_sum p) (pol_bytes fs p)) (sum_bytes fs (codes " + ") ps) (runs_enclosed (is_sum p) (pol_bytes fs p) (pol_runs p h.0)) (sum_on ps h.1)

    seq_runs : (ps : Policies) → AllUseOnly (IsValue fs) ps → Runs (cond (has_part ps) (seq_bytes fs [] ps) (codes "id"))
    seq_runs no_part h = λ rest stops next. left_name (codes "id") rest (refl, refl) refl stops next
    seq_runs (part p ps) h =
        runs_on (enclosed (is_sum p || is_seq p) (pol_bytes fs p)) (seq_bytes fs (codes ";") ps) (runs_enclosed (is_sum p || is_seq p) (pol_bytes fs p) (pol_runs p h.0)) (seq_on ps h.1)

    seq_on : (ps : Policies) → AllUseOnly (IsValue fs) ps → GoesOn (seq_bytes fs (codes ";") ps)
    seq_on no_part h = goes_nothing
    seq_on (part p ps) h = λ rest stops next.
        let w = enclosed (is_sum p || is_seq p) (pol_bytes fs p) in
        let others = seq_bytes fs (codes ";") ps in
        let after = seq_on ps h.1 rest stops next in (
          refl,
          subst Left (sym (append_assoc (codes ";" ++ w) others rest))
              (left_byte 59 (w ++ (others ++ rest)) refl refl (runs_enclosed (is_sum p || is_seq p) (pol_bytes fs p) (pol_runs p h.0) (others ++ rest) after.0 after.1)),
        )

  -- certificates
  predicate_free : (p : Policy) → IsOverFields fs p → Free (predicate_bytes fs p)
  predicate_free p h = runs_gap (codes " : " ++ pol_bytes fs p) (codes "\n") (free_runs (codes " : ") (pol_bytes fs p) gap_colon.0 (pol_runs p h)) gap_end

  positions_on : (ns : List ℕ) → All (λ n. n ≤ largest) ns → GoesOn (flat_map position_bytes ns)
  positions_on [] h = goes_nothing
  positions_on (n ∷ ns) h = λ rest stops next.
      let others = flat_map position_bytes ns in
      let after = positions_on ns (All-tail (λ k. k ≤ largest) n ns h) rest stops next in (
        refl,
        subst Left (sym (append_assoc (codes " " ++ decimal n) others rest))
            (left_byte 32 (decimal n ++ (others ++ rest)) refl refl (left_decimal n (others ++ rest) (All-head (λ k. k ≤ largest) n ns h) after.0 after.1)),
      )

  row_free : (r : RowValue) → IsReadableRow fs r → Free (row_bytes fs r)
  row_free r h =
      let positions = flat_map position_bytes r.positions in
      let p = predicate_bytes fs r.predicate in
      runs_gap (codes "row" ++ positions) p
      (runs_on (codes "row") positions (λ rest stops next. left_name (codes "row") rest (refl, refl) refl stops next) (positions_on r.positions h.small))
      (predicate_free r.predicate h.predicate.over, λ rest. refl)

  start_runs : Runs (codes "certificate\nrow start")
  start_runs = λ rest stops next.
      left_name (codes "certificate") (10 ∷ codes "row start" ++ rest) (refl, refl) refl refl
      (left_byte 10 (codes "row start" ++ rest) refl refl (left_word (codes "row") (refl, refl) refl (codes "start" ++ rest) (left_name (codes "start") rest (refl, refl) refl stops next)))

  certificate_free : (c : CertificateValue) → IsPrintableCertificate fs c → Free (cert_bytes fs c)
  certificate_free c h =
      let p = predicate_bytes fs c.start in
      free_free (codes "certificate\nrow start" ++ p) (flat_map (row_bytes fs) c.rows)
      (runs_gap (codes "certificate\nrow start") p start_runs (predicate_free c.start h.start.over, λ rest. refl))
      (free_each (IsReadableRow fs) (row_bytes fs) row_free c.rows h.rows)

pub fine_fields : (fs : FieldTable) → IsWritable fs → AreFine fs
fine_fields fs h = record { table = h.table; names = h.names; maxima = h.maxima }

pub printed_policies_left : PrintedPoliciesAreLeft
printed_policies_left = λ fs w p over. subst IsLeftByIn (append-nil (pol_bytes fs p)) (pol_runs fs (fine_fields fs w) p over [] tt left_nothing text_start refl)

pub printed_certificates_left : PrintedCertificatesAreLeft
printed_certificates_left = λ fs w c h. subst IsLeftByIn (append-nil (cert_bytes fs c)) (certificate_free fs (fine_fields fs w) c h [] left_nothing text_start refl)
