-- What is printed of a certificate is read back as that certificate.
use Rattle.std.proofs.Common.{◌≡◌, ◌≢◌, ◌≤◌, ◌<◌, ◌+◌, ℕ, suc, Bool, true, false, ◌&&◌, ◌||◌, List, [], ◌∷◌, ◌++◌, map, length, get_or, nat_lt, Some, Ok, not, refl, sym, ap, subst, ◌∙◌, append_assoc, append-nil, arith, codes, decimal}
use Rattle.std.specs.Prelude.{All, AllPairs}
use Rattle.std.specs.List.{flat_map, AllByRecursion}
use Rattle.std.specs.List.Sorted.{IsStrictlyIncreasing}
use Rattle.std.specs.Str.{bytes_eq}
use Rattle.std.specs.Cmp.Lexicographic.{bytes_decides}
use Rattle.std.proofs.lemmas.Bool.Decides.{nat_tests}
use Rattle.std.proofs.lemmas.List.{get_or_append_left, get_or_at}
use Rattle.std.proofs.lemmas.List.Elements.{All-nil, All-cons, All-head, All-tail, recursion_from_All}
use Rattle.std.proofs.lemmas.List.Kept.{AllPairs-from_increasing}
use Rattle.nk_field.specs.Packet.{FieldTable}
use Rattle.nk_lex.specs.declared.token.Token.{Token}
use Rattle.nk_lex.specs.Lex.{largest, tokens_of}
use Rattle.nk_lex.specs.Spans.{line_feeds}
use Rattle.nk_lex.specs.Spelling.{Lexeme, text_of}
use Rattle.nk_policy.specs.Policy.{Policy}
use Rattle.nk_policy.specs.Text.{pol_bytes}
use Rattle.nk_lex.specs.declared.ident.Number.{Number}
use Rattle.nk_lex.specs.Faults.{and_then}
use Rattle.nk_grammar.specs.Grammar.{Pol, pol_tree}
use Rattle.nk_grammar.specs.Text.{lexemes_of_pol, IsNumberOn}
use Rattle.nk_grammar.specs.File.{Declaration}
use Rattle.nk_grammar.specs.FileMachine.{file_of}
use Rattle.nk_grammar.specs.Certified.{row, WrittenRow, written_row, number_value, row_of, rows_said}
use Rattle.nk_grammar.specs.CertifiedText.{lexemes_of_numbers, lexemes_of_predicate, lexemes_of_rows, lexemes_of_certificate, AreRowsOn, ReadsCertificateTexts}
use Rattle.nk_grammar.specs.Moved.{tree_moved, row_moved, nesting_of_row, ReadsTogether}
use Rattle.nk_names.specs.ProgramOf.{DeclaredProgram, program_of, row_policy}
use Rattle.nk_names.specs.ReadBack.{IsWritable, DeclaresWritable, IsPredicateReadBack, ReadsPrintedPredicates}
use Rattle.nk_names.proofs.Printed.{text_append}
use Rattle.nk_cert.specs.Certificates.{RowValue, CertificateValue}
use Rattle.nk_certtext.specs.Text.{position_bytes, predicate_bytes, row_bytes, cert_bytes}
use Rattle.nk_certtext.specs.Rows.{ascend, ascend_after, have_positions, is_misplaced, with_written_row, with_later_rows, with_rows, from_start}
use Rattle.nk_certtext.specs.ReadBack.{IsReadableRow, IsPrintableCertificate, IsCertificateReadBack}
use Rattle.nk_certtext.proofs.RowsRead.{row_read}

-- ---- positions that are no fault

-- numbers that ascend pass the test
rises_after : (m : ℕ) (ns : List ℕ) → AllPairs (λ x y. x < y) (m ∷ ns) → ascend_after (Some m) ns ≡ true
rises_after m [] h = refl
rises_after m (n ∷ ns) h =
    ap (λ b. b && ascend_after (Some n) ns) (below m n (h 0 1 0 (omega arith) (omega arith)))
    ∙ rises_after n ns (λ j k d a b. h (suc j) (suc k) d (omega (arith, a)) (omega (arith, b)))
  where
    below : (m n : ℕ) → m < n → nat_lt m n ≡ true
    below m n lt = grind (arith, nat_tests)

rises : (ns : List ℕ) → AllPairs (λ x y. x < y) ns → ascend ns ≡ true
rises [] h = refl
rises (n ∷ ns) h = rises_after n ns h

-- positions that no row has are not found
none_has : (before : List RowValue) (ns : List ℕ)
    → ((i : ℕ) (d : RowValue) → i < length before → (get_or before i d).positions ≢ ns) → have_positions before ns ≡ false
none_has [] ns h = refl
none_has (b ∷ bs) ns h = by (bytes_eq ns b.positions) refl (none_has bs ns (λ i d lt. h (suc i) d (omega (arith, lt))))
  where
    by : (t : Bool) → bytes_eq ns b.positions ≡ t → have_positions bs ns ≡ false → (bytes_eq ns b.positions || have_positions bs ns) ≡ false
    by true e rest = absurd (h 0 b (omega arith) (sym ((bytes_decides ns b.positions).0 e)))
    by false e rest = ap (λ t. t || have_positions bs ns) e ∙ rest

-- rows that stand apart
abbrev StandApart : List RowValue → Type 0
StandApart rows = AllPairs (λ r s. r.positions ≢ s.positions) rows

-- a row that ascends and stands apart from those before it isn't misplaced
not_misplaced : (before : List RowValue) (r : RowValue) (rs : List RowValue) → IsStrictlyIncreasing r.positions
    → StandApart (before ++ r ∷ rs) → is_misplaced before r.positions ≡ false
not_misplaced before r rs up apart =
    ap (λ b. not b || have_positions before r.positions) (rises r.positions (AllPairs-from_increasing r.positions up))
    ∙ none_has before r.positions (λ i d lt e. differ i d lt e)
  where
    longer : (before : List RowValue) → length before < length (before ++ r ∷ rs)
    longer [] = omega arith
    longer (b ∷ bs) = omega (arith, longer bs)

    differ : (i : ℕ) (d : RowValue) → i < length before → (get_or before i d).positions ≢ r.positions
    differ i d lt e =
        apart i (length before) d lt (longer before)
        (ap (λ x. x.positions) (get_or_append_left before (r ∷ rs) d i lt) ∙ e
        ∙ ap (λ x. x.positions) (sym (get_or_at before r rs d (length before) refl)))

-- ---- one row

-- a number on a line
abbrev number_on : ℕ → ℕ → Number
number_on line n = record { value = n; line = line }

-- numbers on a line have their values
values_back : (line : ℕ) (ns : List ℕ) → map number_value (map (number_on line) ns) ≡ ns
values_back line [] = refl
values_back line (n ∷ ns) = ap (λ l. n ∷ l) (values_back line ns)

-- and can be written
numbers_on : (line : ℕ) (ns : List ℕ) → All (λ n. n ≤ largest) ns → All (IsNumberOn line) (map (number_on line) ns)
numbers_on line [] h = All-nil (IsNumberOn line)
numbers_on line (n ∷ ns) h =
    All-cons (IsNumberOn line) (number_on line n) (map (number_on line) ns) (All-head (λ n. n ≤ largest) n ns h, refl)
    (numbers_on line ns (All-tail (λ n. n ≤ largest) n ns h))

-- the text of numbers, each after a space
numbers_text : (ns : List Number) → text_of (lexemes_of_numbers ns) ≡ flat_map position_bytes (map number_value ns)
numbers_text [] = refl
numbers_text (n ∷ ns) = ap (λ l. codes " " ++ (decimal n.value ++ l)) (numbers_text ns)

-- the text of a predicate, to the end of its line
predicate_text : (fields : FieldTable) (p : Policy) (written : Pol) (rest : List Lexeme)
    → text_of (lexemes_of_pol written) ≡ pol_bytes fields p
    → text_of (lexemes_of_predicate written rest) ≡ predicate_bytes fields p ++ text_of rest
predicate_text fields p written rest e =
    ap (λ l. codes " : " ++ l)
    (text_append (lexemes_of_pol written) (Lexeme.line_feed ∷ rest)
    ∙ ap (λ l. l ++ (codes "\n" ++ text_of rest)) e
    ∙ sym (append_assoc (pol_bytes fields p) (codes "\n") (text_of rest)))

-- how a row is written on a line
record IsRowWritten (fields : FieldTable) (line : ℕ) (r : RowValue) : Type 0 where
  pub first : Number
  pub more : List Number
  pub first_on : IsNumberOn line first
  pub more_on : All (IsNumberOn line) more
  pub positions : first.value ∷ map number_value more ≡ r.positions
  pub predicate : IsPredicateReadBack fields line r.predicate

row_written : ReadsPrintedPredicates → (fields : FieldTable) → IsWritable fields → (line : ℕ) (r : RowValue)
    → IsReadableRow fields r → IsRowWritten fields line r
row_written reads fields writable line r h = by r.positions refl
  where
    by : (ns : List ℕ) → r.positions ≡ ns → IsRowWritten fields line r
    by [] e = absurd (omega (arith, h.some, ap length e))
    by (n ∷ ns) e =
        let small : All (λ n. n ≤ largest) (n ∷ ns) = subst (All (λ n. n ≤ largest)) e h.small in
        record {
          first = number_on line n;
          more = map (number_on line) ns;
          first_on = (All-head (λ n. n ≤ largest) n ns small, refl);
          more_on = numbers_on line ns (All-tail (λ n. n ≤ largest) n ns small);
          positions = ap (λ l. n ∷ l) (values_back line ns) ∙ sym e;
          predicate = reads fields writable line r.predicate h.predicate;
        }

-- ---- all rows

-- how rows are written from a line on
record AreRowsWritten (fields : FieldTable) (line : ℕ) (rows : List RowValue) : Type 0 where
  pub written : List WrittenRow
  pub on_lines : AreRowsOn line written
  pub nested : All (λ w. nesting_of_row w ≤ 256) written
  pub text : text_of (lexemes_of_rows written) ≡ flat_map (row_bytes fields) rows
  pub meant : (lines : ℕ) (before : List RowValue) → StandApart (before ++ rows)
      → with_later_rows fields (map (row_moved lines) (map row_of written)) before ≡ Ok (before ++ rows)

module _ (reads : ReadsPrintedPredicates) (fields : FieldTable) (writable : IsWritable fields) where
  one_more : (line : ℕ) (r : RowValue) (rs : List RowValue) → IsReadableRow fields r → AreRowsWritten fields (line + 1) rs
      → AreRowsWritten fields line (r ∷ rs)
  one_more line r rs h rest =
      let one = row_written reads fields writable line r h in
      let pol = one.predicate.written in
      let w = written_row line one.first one.more pol in
      record {
        written = w ∷ rest.written;
        on_lines = (refl, one.first_on, one.more_on, one.predicate.on_line, rest.on_lines);
        nested = All-cons (λ w. nesting_of_row w ≤ 256) w rest.written one.predicate.nested rest.nested;
        text = text_of_one one;
        meant = λ lines before apart. meant_one one lines before apart;
      }
    where
      text_of_one : (one : IsRowWritten fields line r)
          → text_of (lexemes_of_rows (written_row line one.first one.more one.predicate.written ∷ rest.written)) ≡ flat_map (row_bytes fields) (r ∷ rs)
      text_of_one one =
          let numbers = one.first ∷ one.more in
          let following = lexemes_of_predicate one.predicate.written (lexemes_of_rows rest.written) in
          let positions = flat_map position_bytes r.positions in
          let predicate = predicate_bytes fields r.predicate in
          ap (λ l. codes "row" ++ l)
          (text_append (lexemes_of_numbers numbers) following
          ∙ ap (λ l. l ++ text_of following) (numbers_text numbers ∙ ap (flat_map position_bytes) one.positions)
          ∙ ap (λ l. positions ++ l)
          (predicate_text fields r.predicate one.predicate.written (lexemes_of_rows rest.written) one.predicate.text
          ∙ ap (λ l. predicate ++ l) rest.text)
          ∙ sym (append_assoc positions predicate (flat_map (row_bytes fields) rs)))

      meant_one : (one : IsRowWritten fields line r) (lines : ℕ) (before : List RowValue) → StandApart (before ++ r ∷ rs)
          → with_later_rows fields (map (row_moved lines) (map row_of (written_row line one.first one.more one.predicate.written ∷ rest.written))) before
          ≡ Ok (before ++ r ∷ rs)
      meant_one one lines before apart =
          let t = tree_moved lines (pol_tree one.predicate.written) in
          let at = line + lines in
          let later = map (row_moved lines) (map row_of rest.written) in
          let moved : (before ++ r ∷ []) ++ rs ≡ before ++ r ∷ rs = append_assoc before (r ∷ []) rs in
          let read = row_read before r.positions at (row_policy fields t at) r.predicate (before ++ r ∷ [])
          (not_misplaced before r rs h.ascend apart) (one.predicate.meant lines at) refl in
          ap (λ l. and_then (with_written_row fields before (row l t at)) (with_later_rows fields later)) one.positions
          ∙ ap (λ x. and_then x (with_later_rows fields later)) read
          ∙ rest.meant lines (before ++ r ∷ []) (subst StandApart (sym moved) apart)
          ∙ ap Ok moved

  all_written : (line : ℕ) (rows : List RowValue) → AllByRecursion (IsReadableRow fields) rows → AreRowsWritten fields line rows
  all_written line [] h = record {
    written = [];
    on_lines = tt;
    nested = All-nil (λ w. nesting_of_row w ≤ 256);
    text = refl;
    meant = λ lines before apart. ap Ok (sym (append-nil before));
  }
  all_written line (r ∷ rs) h = one_more line r rs h.0 (all_written (line + 1) rs h.1)

-- ---- the certificate

pub certificates_back : DeclaresWritable → ReadsPrintedPredicates → ReadsCertificateTexts → ReadsTogether
    → (text : List ℕ) (ts : List Token) (ds : List Declaration) (s : DeclaredProgram) (c : CertificateValue)
    → tokens_of text ≡ Ok ts → file_of ts ≡ Ok ds → program_of ds ≡ Ok s → IsPrintableCertificate s.fields c
    → IsCertificateReadBack s.fields text ds c
certificates_back declares reads texts together text ts ds s c cut read said h =
    let fields = s.fields in
    let writable = declares text ts ds s cut read said in
    let start = reads fields writable 2 c.start h.start in
    let rows = all_written reads fields writable 3 c.rows (recursion_from_All (IsReadableRow fields) c.rows h.rows) in
    let words : text_of (lexemes_of_certificate start.written rows.written) ≡ cert_bytes fields c =
    ap (λ l. codes "certificate\nrow start" ++ l)
    (predicate_text fields c.start start.written (lexemes_of_rows rows.written) start.text
    ∙ ap (λ l. predicate_bytes fields c.start ++ l) rows.text) in
    let alone = texts start.written rows.written start.on_line rows.on_lines start.nested rows.nested in
    let lines = line_feeds text + 1 in
    let both = together text (cert_bytes fields c) ts alone.tokens ds (rows_said 2 start.written rows.written) cut read
    (subst (λ l. tokens_of l ≡ Ok alone.tokens) words alone.cut) alone.read in
    let later = map (row_moved lines) (map row_of rows.written) in
    record {
      tokens = both.tokens;
      rows = map (row_moved lines) (rows_said 2 start.written rows.written);
      cut = both.cut;
      read = both.read;
      started = refl;
      made = ap (λ x. from_start fields x later) (start.meant lines (2 + lines)) ∙ ap (with_rows c.start) (rows.meant lines [] h.apart);
    }
