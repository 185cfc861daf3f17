-- The text of a `let` is cut into the tokens of its spelling.
use Rattle.std.proofs.Common.{◌≡◌, ◌≤◌, ◌+◌, ℕ, List, [], ◌∷◌, ◌++◌, false, length, refl, sym, subst, ◌∙◌, ap, append_assoc, append-nil, decimal, codes, ◌&&◌}
use Rattle.std.specs.Prelude.{⊤}
use Rattle.nk_lex.specs.declared.kind.Kind.TheVariants as kind
use Rattle.nk_lex.specs.Kinds.{kind_of_name}
use Rattle.nk_lex.specs.Spelling.{Sign, Lexeme, is_colon, begins_with_equal, IsApart, AreSeparate, sign_bytes, sign_kind, text_of, tokens_from, CutsLexemes}
use Rattle.nk_lex.specs.declared.ident.Ident.{Ident}
use Rattle.nk_lex.specs.declared.ident.Number.{Number}
use Rattle.nk_grammar.specs.Terminal.{Terminal, name, number, equal, outside, let_word, plus_sign, semicolon, star_sign, opening, closing, terminal_from}
use Rattle.nk_grammar.specs.Grammar.{Pol, Term, Factor, Atom, one_term, plus, one_factor, semi, plain, starred, written_not, written_id, written_drop, written_dup, written_name, written_test, written_range, written_set, written_link, paren, spell_pol, spell_term, spell_factor, spell_atom}
use Rattle.nk_grammar.specs.Answer.{terminals}
use Rattle.nk_grammar.specs.Nesting.{nesting_of_pol}
use Rattle.nk_grammar.specs.Text.{lexemes_of_pol, lexemes_of_term, lexemes_of_factor, lexemes_of_atom, lexemes_of_let, IsWordOn, IsNumberOn, IsPolOn, IsTermOn, IsFactorOn, IsAtomOn, IsLetText}
use Rattle.nk_grammar.proofs.Nested.{lets_read}

-- ---- lexemes stand apart

-- what may stand after a policy: no word and no number
abbrev EndsPolicy : List Lexeme → Type 0
EndsPolicy (Lexeme.word w ∷ ys) = ⊥
EndsPolicy (Lexeme.numeral n ∷ ys) = ⊥
EndsPolicy r = ⊤

word_apart : (w : List ℕ) (r : List Lexeme) → EndsPolicy r → IsApart (Lexeme.word w) r
word_apart w [] h = tt
word_apart w (Lexeme.word v ∷ ys) h = absurd h
word_apart w (Lexeme.numeral n ∷ ys) h = absurd h
word_apart w r h = refl

number_apart : (n : ℕ) (r : List Lexeme) → EndsPolicy r → IsApart (Lexeme.numeral n) r
number_apart n [] h = tt
number_apart n (Lexeme.word v ∷ ys) h = absurd h
number_apart n (Lexeme.numeral m ∷ ys) h = absurd h
number_apart n r h = refl

-- a symbol but the colon may stand before anything
sign_apart : (s : Sign) (r : List Lexeme) → is_colon s ≡ false → IsApart (Lexeme.sign s) r
sign_apart s [] h = tt
sign_apart s (Lexeme.sign t ∷ ys) h = ap (λ b. b && begins_with_equal t) h
sign_apart s r h = refl

-- a space may stand before anything
pub space_apart : (r : List Lexeme) → IsApart Lexeme.space r
space_apart [] = tt
space_apart (y ∷ ys) = refl

module _ (line : ℕ) where
  mutual
    pub pol_apart : (p : Pol) (r : List Lexeme) → IsPolOn line p → EndsPolicy r → AreSeparate r → AreSeparate (lexemes_of_pol p ++ r)
    pol_apart (one_term t) r on e a = term_apart t r on e a
    pol_apart (plus p t) r on e a =
        subst AreSeparate (sym (append_assoc (lexemes_of_pol p) (Lexeme.space ∷ Lexeme.sign Sign.plus ∷ Lexeme.space ∷ lexemes_of_term t) r))
        (pol_apart p (Lexeme.space ∷ Lexeme.sign Sign.plus ∷ Lexeme.space ∷ lexemes_of_term t ++ r) on.0 tt
        (tt, refl, (tt, refl, (tt, space_apart (lexemes_of_term t ++ r), term_apart t r on.1 e a))))

    term_apart : (t : Term) (r : List Lexeme) → IsTermOn line t → EndsPolicy r → AreSeparate r → AreSeparate (lexemes_of_term t ++ r)
    term_apart (one_factor f) r on e a = factor_apart f r on e a
    term_apart (semi t f) r on e a =
        subst AreSeparate (sym (append_assoc (lexemes_of_term t) (Lexeme.sign Sign.semicolon ∷ lexemes_of_factor f) r))
        (term_apart t (Lexeme.sign Sign.semicolon ∷ lexemes_of_factor f ++ r) on.0 tt
        (tt, sign_apart Sign.semicolon (lexemes_of_factor f ++ r) refl, factor_apart f r on.1 e a))

    factor_apart : (f : Factor) (r : List Lexeme) → IsFactorOn line f → EndsPolicy r → AreSeparate r → AreSeparate (lexemes_of_factor f ++ r)
    factor_apart (plain x) r on e a = atom_apart x r on e a
    factor_apart (starred f) r on e a =
        subst AreSeparate (sym (append_assoc (lexemes_of_factor f) (Lexeme.sign Sign.star ∷ []) r))
        (factor_apart f (Lexeme.sign Sign.star ∷ r) on tt (tt, sign_apart Sign.star r refl, a))

    atom_apart : (x : Atom) (r : List Lexeme) → IsAtomOn line x → EndsPolicy r → AreSeparate r → AreSeparate (lexemes_of_atom x ++ r)
    atom_apart (written_not l x) r on e a =
        (tt, sign_apart Sign.tilde (lexemes_of_atom x ++ r) refl, atom_apart x r on.1 e a)
    atom_apart written_id r on e a = ((refl, refl), word_apart (codes "id") r e, a)
    atom_apart written_drop r on e a = ((refl, refl), word_apart (codes "drop") r e, a)
    atom_apart written_dup r on e a = ((refl, refl), word_apart (codes "dup") r e, a)
    atom_apart (written_name w) r on e a = (on.0.0, word_apart w.text r e, a)
    atom_apart (written_test w n) r on e a = (on.0.0.0, refl, (tt, refl, (on.1.0, number_apart n.value r e, a)))
    atom_apart (written_range w b c) r on e a =
        (on.0.0.0, refl, (tt, refl, ((refl, refl), refl, (tt, refl, (on.1.0, refl, (tt, refl, (on.2.0, number_apart c.value r e, a)))))))
    atom_apart (written_set w n) r on e a = (on.0.0.0, refl, (tt, refl, (on.1.0, number_apart n.value r e, a)))
    atom_apart (written_link b m c n) r on e a =
        (on.0.0, refl, (tt, refl, (on.1.0, refl, (tt, refl, (on.2.0, refl, (tt, refl, (on.3.0, number_apart n.value r e, a)))))))
    atom_apart (paren p) r on e a = (
      tt,
      sign_apart Sign.open_parenthesis ((lexemes_of_pol p ++ Lexeme.sign Sign.close_parenthesis ∷ []) ++ r) refl,
      subst AreSeparate (sym (append_assoc (lexemes_of_pol p) (Lexeme.sign Sign.close_parenthesis ∷ []) r))
          (pol_apart p (Lexeme.sign Sign.close_parenthesis ∷ r) on tt (tt, sign_apart Sign.close_parenthesis r refl, a)),
    )

-- ---- their tokens are the spelling

-- the terminals of lexemes, the first one on this line
abbrev pub terminals_on : ℕ → List Lexeme → List Terminal
terminals_on line [] = []
terminals_on line (Lexeme.space ∷ xs) = terminals_on line xs
terminals_on line (Lexeme.line_feed ∷ xs) = terminals_on (line + 1) xs
terminals_on line (Lexeme.word w ∷ xs) = terminal_from (kind_of_name w) line 0 w ∷ terminals_on line xs
terminals_on line (Lexeme.numeral n ∷ xs) = terminal_from kind.Number line n [] ∷ terminals_on line xs
terminals_on line (Lexeme.sign s ∷ xs) = terminal_from (sign_kind s) line 0 [] ∷ terminals_on line xs

pub of_tokens : (xs : List Lexeme) (line at : ℕ) → terminals (tokens_from line at xs) ≡ terminals_on line xs
of_tokens [] line at = refl
of_tokens (Lexeme.space ∷ xs) line at = of_tokens xs line (at + 1)
of_tokens (Lexeme.line_feed ∷ xs) line at = of_tokens xs (line + 1) (at + 1)
of_tokens (Lexeme.word w ∷ xs) line at = ap (λ l. terminal_from (kind_of_name w) line 0 w ∷ l) (of_tokens xs line (at + length w))
of_tokens (Lexeme.numeral n ∷ xs) line at = ap (λ l. terminal_from kind.Number line n [] ∷ l) (of_tokens xs line (at + length (decimal n)))
of_tokens (Lexeme.sign s ∷ xs) line at = ap (λ l. terminal_from (sign_kind s) line 0 [] ∷ l) (of_tokens xs line (at + length (sign_bytes s)))

-- a name's terminal
name_terminal : (line : ℕ) (w : Ident) → IsWordOn line w → terminal_from (kind_of_name w.text) line 0 w.text ≡ name w
name_terminal line w on =
    ap (λ k. terminal_from k line 0 w.text) on.0.1 ∙ ap (λ l. name (record { text = w.text; line = l })) (sym on.1)

-- a number's terminal
pub number_terminal : (line : ℕ) (n : Number) → IsNumberOn line n → terminal_from kind.Number line n.value [] ≡ number n
number_terminal line n on = ap (λ l. number (record { value = n.value; line = l })) (sym on.1)

-- terminals one after the other
pub put : (x y : Terminal) (xs ys : List Terminal) → x ≡ y → xs ≡ ys → x ∷ xs ≡ y ∷ ys
put x y xs ys e f = ap (λ z. z ∷ xs) e ∙ ap (λ l. y ∷ l) f

module _ (line : ℕ) where
  mutual
    pub pol_spelled : (p : Pol) (r : List Lexeme) → IsPolOn line p
        → terminals_on line (lexemes_of_pol p ++ r) ≡ spell_pol p ++ terminals_on line r
    pol_spelled (one_term t) r on = term_spelled t r on
    pol_spelled (plus p t) r on =
        ap (terminals_on line) (append_assoc (lexemes_of_pol p) (Lexeme.space ∷ Lexeme.sign Sign.plus ∷ Lexeme.space ∷ lexemes_of_term t) r)
        ∙ pol_spelled p (Lexeme.space ∷ Lexeme.sign Sign.plus ∷ Lexeme.space ∷ lexemes_of_term t ++ r) on.0
        ∙ ap (λ l. spell_pol p ++ plus_sign ∷ l) (term_spelled t r on.1)
        ∙ sym (append_assoc (spell_pol p) (plus_sign ∷ spell_term t) (terminals_on line r))

    term_spelled : (t : Term) (r : List Lexeme) → IsTermOn line t
        → terminals_on line (lexemes_of_term t ++ r) ≡ spell_term t ++ terminals_on line r
    term_spelled (one_factor f) r on = factor_spelled f r on
    term_spelled (semi t f) r on =
        ap (terminals_on line) (append_assoc (lexemes_of_term t) (Lexeme.sign Sign.semicolon ∷ lexemes_of_factor f) r)
        ∙ term_spelled t (Lexeme.sign Sign.semicolon ∷ lexemes_of_factor f ++ r) on.0
        ∙ ap (λ l. spell_term t ++ semicolon ∷ l) (factor_spelled f r on.1)
        ∙ sym (append_assoc (spell_term t) (semicolon ∷ spell_factor f) (terminals_on line r))

    factor_spelled : (f : Factor) (r : List Lexeme) → IsFactorOn line f
        → terminals_on line (lexemes_of_factor f ++ r) ≡ spell_factor f ++ terminals_on line r
    factor_spelled (plain a) r on = atom_spelled a r on
    factor_spelled (starred f) r on =
        ap (terminals_on line) (append_assoc (lexemes_of_factor f) (Lexeme.sign Sign.star ∷ []) r)
        ∙ factor_spelled f (Lexeme.sign Sign.star ∷ r) on
        ∙ sym (append_assoc (spell_factor f) (star_sign ∷ []) (terminals_on line r))

    atom_spelled : (a : Atom) (r : List Lexeme) → IsAtomOn line a
        → terminals_on line (lexemes_of_atom a ++ r) ≡ spell_atom a ++ terminals_on line r
    atom_spelled (written_not l a) r on =
        put _ _ _ _ (ap (λ k. Terminal.tilde k) (sym on.0)) (atom_spelled a r on.1)
    atom_spelled written_id r on = refl
    atom_spelled written_drop r on = refl
    atom_spelled written_dup r on = refl
    atom_spelled (written_name w) r on = put _ _ _ _ (name_terminal line w on) refl
    atom_spelled (written_test w n) r on =
        put _ _ _ _ (name_terminal line w on.0) (put _ _ _ _ refl (put _ _ _ _ (number_terminal line n on.1) refl))
    atom_spelled (written_range w a b) r on =
        put _ _ _ _ (name_terminal line w on.0) (put _ _ _ _ refl
        (put _ _ _ _ (number_terminal line a on.1) (put _ _ _ _ refl (put _ _ _ _ (number_terminal line b on.2) refl))))
    atom_spelled (written_set w n) r on =
        put _ _ _ _ (name_terminal line w on.0) (put _ _ _ _ refl (put _ _ _ _ (number_terminal line n on.1) refl))
    atom_spelled (written_link a m b n) r on =
        put _ _ _ _ (number_terminal line a on.0) (put _ _ _ _ refl
        (put _ _ _ _ (number_terminal line m on.1) (put _ _ _ _ refl
        (put _ _ _ _ (number_terminal line b on.2) (put _ _ _ _ refl
        (put _ _ _ _ (number_terminal line n on.3) refl))))))
    atom_spelled (paren p) r on =
        ap (λ l. opening ∷ terminals_on line l) (append_assoc (lexemes_of_pol p) (Lexeme.sign Sign.close_parenthesis ∷ []) r)
        ∙ ap (λ l. opening ∷ l) (pol_spelled p (Lexeme.sign Sign.close_parenthesis ∷ r) on
        ∙ sym (append_assoc (spell_pol p) (closing ∷ []) (terminals_on line r)))

-- ---- a `let`

-- the lexemes of a `let` stand apart
let_apart : (w : Ident) (p : Pol) → IsWordOn 1 w → IsPolOn 1 p → AreSeparate (lexemes_of_let w p)
let_apart w p on all = (
  (refl, refl),
  refl,
  (
    tt,
    refl,
    (
      on.0.0,
      refl,
      (
        tt,
        refl,
        (
          tt,
          refl,
          (
            tt,
            space_apart (lexemes_of_pol p),
            subst AreSeparate (append-nil (lexemes_of_pol p)) (pol_apart 1 p [] all tt tt),
          ),
        ),
      ),
    ),
  ),
)

-- and their tokens spell it
let_spelled : (w : Ident) (p : Pol) → IsWordOn 1 w → IsPolOn 1 p
    → terminals (tokens_from 1 0 (lexemes_of_let w p)) ≡ outside (let_word 1) ∷ name w ∷ equal ∷ spell_pol p
let_spelled w p on all =
    of_tokens (lexemes_of_let w p) 1 0
    ∙ ap (λ t. outside (let_word 1) ∷ t ∷ equal ∷ terminals_on 1 (lexemes_of_pol p)) (name_terminal 1 w on)
    ∙ ap (λ l. outside (let_word 1) ∷ name w ∷ equal ∷ l)
    (ap (terminals_on 1) (sym (append-nil (lexemes_of_pol p))) ∙ pol_spelled 1 p [] all ∙ append-nil (spell_pol p))

-- so its text is read as it, where the lexemes of a text are cut as they are spelled
pub let_texts_read : CutsLexemes → (w : Ident) (p : Pol) → IsWordOn 1 w → IsPolOn 1 p → nesting_of_pol p ≤ 256
    → IsLetText (text_of (lexemes_of_let w p)) w p
let_texts_read cuts w p on all le = record {
  tokens = tokens_from 1 0 (lexemes_of_let w p);
  cut = cuts (lexemes_of_let w p) (let_apart w p on all);
  read = lets_read (tokens_from 1 0 (lexemes_of_let w p)) 1 w p (let_spelled w p on all) le;
}
