-- The text of a certificate is cut into the tokens of its spelling.
use Rattle.std.proofs.Common.{◌≡◌, ◌≤◌, ◌+◌, ℕ, List, [], ◌∷◌, ◌++◌, refl, sym, ◌∙◌, ap, append_assoc, arith}
use Rattle.std.proofs.lemmas.List.Elements.{All-tail}
use Rattle.std.specs.Prelude.{All}
use Rattle.nk_lex.specs.Spelling.{Lexeme, IsApart, AreSeparate, text_of, tokens_from, CutsLexemes}
use Rattle.nk_lex.specs.declared.ident.Number.{Number}
use Rattle.nk_grammar.specs.Terminal.{Terminal, colon, outside, certificate_word, row_word, start_word}
use Rattle.nk_grammar.specs.Grammar.{Pol, spell_pol}
use Rattle.nk_grammar.specs.Answer.{terminals}
use Rattle.nk_grammar.specs.Nesting.{nesting_of_pol}
use Rattle.nk_grammar.specs.Text.{lexemes_of_pol, IsNumberOn, IsPolOn}
use Rattle.nk_grammar.specs.Certified.{WrittenRow, written_row, spell_numbers, spell_rows, spell_certificate}
use Rattle.nk_grammar.specs.Moved.{nesting_of_row}
use Rattle.nk_grammar.specs.CertifiedText.{lexemes_of_numbers, lexemes_of_predicate, lexemes_of_rows, lexemes_of_certificate, AreRowsOn, IsCertificateText}
use Rattle.nk_grammar.proofs.LetTexts.{space_apart, pol_apart, terminals_on, of_tokens, number_terminal, put, pol_spelled}
use Rattle.nk_grammar.proofs.NestedRows.{certificates_read}

-- ---- lexemes stand apart

line_feed_apart : (r : List Lexeme) → IsApart Lexeme.line_feed r
line_feed_apart [] = tt
line_feed_apart (y ∷ ys) = refl

predicate_apart : (line : ℕ) (p : Pol) (r : List Lexeme) → IsPolOn line p → AreSeparate r → AreSeparate (lexemes_of_predicate p r)
predicate_apart line p r on a = (
  tt,
  refl,
  (
    tt,
    refl,
    (
      tt,
      space_apart (lexemes_of_pol p ++ Lexeme.line_feed ∷ r),
      pol_apart line p (Lexeme.line_feed ∷ r) on tt (tt, line_feed_apart r, a),
    ),
  ),
)

-- a number may stand before a space
number_before : (m : ℕ) (ns : List Number) (p : Pol) (r : List Lexeme)
    → IsApart (Lexeme.numeral m) (lexemes_of_numbers ns ++ lexemes_of_predicate p r)
number_before m [] p r = refl
number_before m (n ∷ ns) p r = refl

numbers_apart : (line : ℕ) (ns : List Number) (p : Pol) (r : List Lexeme) → All (IsNumberOn line) ns
    → AreSeparate (lexemes_of_predicate p r) → AreSeparate (lexemes_of_numbers ns ++ lexemes_of_predicate p r)
numbers_apart line [] p r on a = a
numbers_apart line (n ∷ ns) p r on a = (
  tt,
  refl,
  ((on 0 n (omega arith)).0, number_before n.value ns p r, numbers_apart line ns p r (All-tail (IsNumberOn line) n ns on) a),
)

rows_apart : (ws : List WrittenRow) (line : ℕ) → AreRowsOn line ws → AreSeparate (lexemes_of_rows ws)
rows_apart [] line on = tt
rows_apart (written_row l n ns p ∷ ws) line on = (
  (refl, refl),
  refl,
  (
    tt,
    refl,
    (
      on.1.0,
      number_before n.value ns p (lexemes_of_rows ws),
      numbers_apart line ns p (lexemes_of_rows ws) on.2
          (predicate_apart line p (lexemes_of_rows ws) on.3 (rows_apart ws (line + 1) on.4)),
    ),
  ),
)

certificate_apart : (p : Pol) (ws : List WrittenRow) → IsPolOn 2 p → AreRowsOn 3 ws → AreSeparate (lexemes_of_certificate p ws)
certificate_apart p ws on rows = (
  (refl, refl),
  refl,
  (
    tt,
    refl,
    (
      (refl, refl),
      refl,
      (tt, refl, ((refl, refl), refl, predicate_apart 2 p (lexemes_of_rows ws) on (rows_apart ws 3 rows))),
    ),
  ),
)

-- ---- their tokens are the spelling

predicate_spelled : (line : ℕ) (p : Pol) (r : List Lexeme) (ts : List Terminal) → IsPolOn line p → terminals_on (line + 1) r ≡ ts
    → terminals_on line (lexemes_of_predicate p r) ≡ colon ∷ (spell_pol p ++ ts)
predicate_spelled line p r ts on e =
    ap (λ l. colon ∷ l) (pol_spelled line p (Lexeme.line_feed ∷ r) on ∙ ap (λ l. spell_pol p ++ l) e)

numbers_spelled : (line : ℕ) (ns : List Number) (r : List Lexeme) → All (IsNumberOn line) ns
    → terminals_on line (lexemes_of_numbers ns ++ r) ≡ spell_numbers ns ++ terminals_on line r
numbers_spelled line [] r on = refl
numbers_spelled line (n ∷ ns) r on =
    put _ _ _ _ (number_terminal line n (on 0 n (omega arith))) (numbers_spelled line ns r (All-tail (IsNumberOn line) n ns on))

rows_spelled : (ws : List WrittenRow) (line : ℕ) → AreRowsOn line ws → terminals_on line (lexemes_of_rows ws) ≡ spell_rows ws
rows_spelled [] line on = refl
rows_spelled (written_row l n ns p ∷ ws) line on =
    let following : List Lexeme = lexemes_of_predicate p (lexemes_of_rows ws) in
    put _ _ _ _ (ap (λ k. outside (row_word k)) (sym on.0))
    (put _ _ _ _ (number_terminal line n on.1)
    (numbers_spelled line ns following on.2
    ∙ ap (λ l. spell_numbers ns ++ l) (predicate_spelled line p (lexemes_of_rows ws) (spell_rows ws) on.3 (rows_spelled ws (line + 1) on.4))
    ∙ sym (append_assoc (spell_numbers ns) (colon ∷ spell_pol p) (spell_rows ws))))

certificate_spelled : (p : Pol) (ws : List WrittenRow) → IsPolOn 2 p → AreRowsOn 3 ws
    → terminals (tokens_from 1 0 (lexemes_of_certificate p ws)) ≡ outside certificate_word ∷ spell_certificate 2 p ws
certificate_spelled p ws on rows =
    of_tokens (lexemes_of_certificate p ws) 1 0
    ∙ ap (λ l. outside certificate_word ∷ outside (row_word 2) ∷ outside start_word ∷ l)
    (predicate_spelled 2 p (lexemes_of_rows ws) (spell_rows ws) on (rows_spelled ws 3 rows))

-- so its text is read as it, where the lexemes of a text are cut as they are spelled
pub certificate_texts_read : CutsLexemes → (p : Pol) (ws : List WrittenRow) → IsPolOn 2 p → AreRowsOn 3 ws → nesting_of_pol p ≤ 256
    → All (λ w. nesting_of_row w ≤ 256) ws → IsCertificateText (text_of (lexemes_of_certificate p ws)) p ws
certificate_texts_read cuts p ws on rows le all = record {
  tokens = tokens_from 1 0 (lexemes_of_certificate p ws);
  cut = cuts (lexemes_of_certificate p ws) (certificate_apart p ws on rows);
  read = certificates_read (tokens_from 1 0 (lexemes_of_certificate p ws)) 2 p ws (certificate_spelled p ws on rows) le all;
}
