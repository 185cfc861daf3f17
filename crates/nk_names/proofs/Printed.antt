-- A policy as it is written with the parentheses that its text has.
use Rattle.std.proofs.Common.{◌≡◌, ℕ, List, [], ◌∷◌, ◌++◌, Bool, true, false, refl, sym, ap, ◌∙◌, append_assoc, append-nil, codes, decimal, ◌||◌}
use Rattle.nk_field.specs.Packet.{FieldTable}
use Rattle.nk_lex.specs.Spelling.{Sign, Lexeme, bytes_of, text_of}
use Rattle.nk_policy.specs.Policy.{Policy, Policies, test, range, assign, sum_of, seq_of, not_of, star_of, dup, link, no_part, part, is_predicate}
use Rattle.nk_policy.specs.Text.{is_sum, is_seq, is_star, enclosed, name_of, pol_bytes, sum_bytes, seq_bytes}
use Rattle.nk_lex.specs.declared.ident.Ident.{Ident}
use Rattle.nk_lex.specs.declared.ident.Number.{Number}
use Rattle.nk_grammar.specs.Grammar.{Pol, Term, Factor, Atom, one_term, plus, one_factor, semi, plain, starred, written_not, written_id, written_drop, written_dup, written_test, written_range, written_set, written_link, paren}
use Rattle.nk_grammar.specs.Text.{lexemes_of_pol, lexemes_of_term, lexemes_of_factor, lexemes_of_atom}
use Rattle.nk_names.specs.Complements.{NegatesPredicates, AllNegatePredicates}

-- a policy as it is written, by what it is without parentheses
pub data Form : Type 0 where
  a_sum : Pol → Form
  a_seq : Term → Form
  a_star : Factor → Form
  an_atom : Atom → Form

-- as a policy, where nothing needs parentheses
abbrev pub pol_from : Form → Pol
pol_from (a_sum p) = p
pol_from (a_seq t) = one_term t
pol_from (a_star f) = one_term (one_factor f)
pol_from (an_atom a) = one_term (one_factor (plain a))

-- as a part of a sum, where a sum does
abbrev pub term_from : Form → Term
term_from (a_sum p) = one_factor (plain (paren p))
term_from (a_seq t) = t
term_from (a_star f) = one_factor f
term_from (an_atom a) = one_factor (plain a)

-- as a part of a sequence, where a sequence does too
abbrev pub factor_from : Form → Factor
factor_from (a_sum p) = plain (paren p)
factor_from (a_seq t) = plain (paren (one_term t))
factor_from (a_star f) = f
factor_from (an_atom a) = plain a

-- under a star or a complement, where a star does too
abbrev pub atom_from : Form → Atom
atom_from (a_sum p) = paren p
atom_from (a_seq t) = paren (one_term t)
atom_from (a_star f) = paren (one_term (one_factor f))
atom_from (an_atom a) = a

-- the name of a field, and a number, on a line
abbrev pub word_for : ℕ → FieldTable → ℕ → Ident
word_for line fields f = record { text = name_of fields f; line = line }

abbrev pub number_for : ℕ → ℕ → Number
number_for line n = record { value = n; line = line }

abbrev mutual
  -- how a policy is written on a line
  pub form_of : ℕ → FieldTable → Policy → Form
  form_of line fields (test f n) = an_atom (written_test (word_for line fields f) (number_for line n))
  form_of line fields (range f low high) =
      an_atom (written_range (word_for line fields f) (number_for line low) (number_for line high))
  form_of line fields (assign f n) = an_atom (written_set (word_for line fields f) (number_for line n))
  form_of line fields (sum_of ps) = sum_form line fields ps
  form_of line fields (seq_of ps) = seq_form line fields ps
  form_of line fields (not_of p) = an_atom (written_not line (atom_from (form_of line fields p)))
  form_of line fields (star_of p) = a_star (starred (plain (atom_from (form_of line fields p))))
  form_of line fields (dup l) = an_atom written_dup
  form_of line fields (link a m b n l) = an_atom (written_link (number_for line a) (number_for line m) (number_for line b) (number_for line n))

  -- a sum of these parts
  pub sum_form : ℕ → FieldTable → Policies → Form
  sum_form line fields no_part = an_atom written_drop
  sum_form line fields (part p ps) = a_sum (sum_on line fields (one_term (term_from (form_of line fields p))) ps)

  -- a sequence of them
  pub seq_form : ℕ → FieldTable → Policies → Form
  seq_form line fields no_part = an_atom written_id
  seq_form line fields (part p ps) = a_seq (seq_on line fields (one_factor (factor_from (form_of line fields p))) ps)

  -- further parts of a sum
  pub sum_on : ℕ → FieldTable → Pol → Policies → Pol
  sum_on line fields before no_part = before
  sum_on line fields before (part p ps) = sum_on line fields (plus before (term_from (form_of line fields p))) ps

  -- and of a sequence
  pub seq_on : ℕ → FieldTable → Term → Policies → Term
  seq_on line fields before no_part = before
  seq_on line fields before (part p ps) = seq_on line fields (semi before (factor_from (form_of line fields p))) ps

-- ---- its text

-- texts one after the other
pub text_append : (xs ys : List Lexeme) → text_of (xs ++ ys) ≡ text_of xs ++ text_of ys
text_append [] ys = refl
text_append (x ∷ xs) ys =
    ap (λ l. bytes_of x ++ l) (text_append xs ys) ∙ sym (append_assoc (bytes_of x) (text_of xs) (text_of ys))

-- the text of a form without parentheses around it
abbrev form_text : Form → List ℕ
form_text f = text_of (lexemes_of_pol (pol_from f))

abbrev is_a_sum : Form → Bool
is_a_sum (a_sum p) = true
is_a_sum f = false

abbrev is_a_seq : Form → Bool
is_a_seq (a_seq t) = true
is_a_seq f = false

abbrev is_a_star : Form → Bool
is_a_star (a_star t) = true
is_a_star f = false

-- the text in parentheses
in_parentheses : (p : Pol) → text_of (lexemes_of_atom (paren p)) ≡ enclosed true (text_of (lexemes_of_pol p))
in_parentheses p = ap (λ l. codes "(" ++ l) (text_append (lexemes_of_pol p) (Lexeme.sign Sign.close_parenthesis ∷ []))

term_text : (f : Form) → text_of (lexemes_of_term (term_from f)) ≡ enclosed (is_a_sum f) (form_text f)
term_text (a_sum p) = in_parentheses p
term_text f = refl

factor_text : (f : Form) → text_of (lexemes_of_factor (factor_from f)) ≡ enclosed (is_a_sum f || is_a_seq f) (form_text f)
factor_text (a_sum p) = in_parentheses p
factor_text (a_seq t) = in_parentheses (one_term t)
factor_text (a_star f) = refl
factor_text (an_atom a) = refl

atom_text : (f : Form) → text_of (lexemes_of_atom (atom_from f)) ≡ enclosed (is_a_sum f || is_a_seq f || is_a_star f) (form_text f)
atom_text (a_sum p) = in_parentheses p
atom_text (a_seq t) = in_parentheses (one_term t)
atom_text (a_star f) = in_parentheses (one_term (one_factor f))
atom_text (an_atom a) = refl

module _ (line : ℕ) (fields : FieldTable) where
  -- a form is what the policy is
  sum_is : (p : Policy) → is_a_sum (form_of line fields p) ≡ is_sum p
  sum_is (sum_of no_part) = refl
  sum_is (seq_of no_part) = refl
  sum_is p = refl

  seq_is : (p : Policy) → is_a_seq (form_of line fields p) ≡ is_seq p
  seq_is (sum_of no_part) = refl
  seq_is (seq_of no_part) = refl
  seq_is p = refl

  star_is : (p : Policy) → is_a_star (form_of line fields p) ≡ is_star p
  star_is (sum_of no_part) = refl
  star_is (seq_of no_part) = refl
  star_is p = refl

  -- no predicate is a star
  no_star : (p : Policy) → is_predicate p ≡ true → is_star p ≡ false
  no_star (star_of p) h = absurd cc
  no_star p h = refl

  -- the text of a part of a sum, where its own is the policy's
  term_is : (p : Policy) (text : List ℕ) → form_text (form_of line fields p) ≡ text
      → text_of (lexemes_of_term (term_from (form_of line fields p))) ≡ enclosed (is_sum p) text
  term_is p text e =
      term_text (form_of line fields p) ∙ ap (λ b. enclosed b (form_text (form_of line fields p))) (sum_is p) ∙ ap (enclosed (is_sum p)) e

  -- of a part of a sequence
  factor_is : (p : Policy) (text : List ℕ) → form_text (form_of line fields p) ≡ text
      → text_of (lexemes_of_factor (factor_from (form_of line fields p))) ≡ enclosed (is_sum p || is_seq p) text
  factor_is p text e =
      factor_text (form_of line fields p)
      ∙ ap (λ b. enclosed (b || is_a_seq (form_of line fields p)) (form_text (form_of line fields p))) (sum_is p)
      ∙ ap (λ b. enclosed (is_sum p || b) (form_text (form_of line fields p))) (seq_is p)
      ∙ ap (enclosed (is_sum p || is_seq p)) e

  -- of what stands under a star
  atom_is : (p : Policy) (text : List ℕ) → form_text (form_of line fields p) ≡ text
      → text_of (lexemes_of_atom (atom_from (form_of line fields p))) ≡ enclosed (is_sum p || is_seq p || is_star p) text
  atom_is p text e =
      atom_text (form_of line fields p)
      ∙ ap (λ b. enclosed (b || is_a_seq (form_of line fields p) || is_a_star (form_of line fields p)) (form_text (form_of line fields p))) (sum_is p)
      ∙ ap (λ b. enclosed (is_sum p || b || is_a_star (form_of line fields p)) (form_text (form_of line fields p))) (seq_is p)
      ∙ ap (λ b. enclosed (is_sum p || is_seq p || b) (form_text (form_of line fields p))) (star_is p)
      ∙ ap (enclosed (is_sum p || is_seq p || is_star p)) e

  -- and under a complement
  negated_is : (p : Policy) (text : List ℕ) → is_predicate p ≡ true → form_text (form_of line fields p) ≡ text
      → text_of (lexemes_of_atom (atom_from (form_of line fields p))) ≡ enclosed (is_sum p || is_seq p) text
  negated_is p text h e =
      atom_is p text e
      ∙ ap (λ b. enclosed (is_sum p || is_seq p || b) text) (no_star p h)
      ∙ ap (λ b. enclosed b text) (either (is_sum p) (is_seq p))
    where
      either : (a b : Bool) → (a || b || false) ≡ (a || b)
      either true b = refl
      either false true = refl
      either false false = refl

  -- three texts one after the other
  test_text : (name digits : List ℕ) → name ++ (codes "=" ++ (digits ++ [])) ≡ name ++ codes "=" ++ digits
  test_text name digits = ap (λ l. name ++ (codes "=" ++ l)) (append-nil digits) ∙ sym (append_assoc name (codes "=") digits)

  range_text : (name low high : List ℕ) → name ++ (codes " " ++ (codes "in" ++ (codes " " ++ (low ++ (codes ".." ++ (high ++ []))))))
      ≡ name ++ codes " in " ++ low ++ codes ".." ++ high
  range_text name low high = simp (append_assoc, append-nil)

  set_text : (name digits : List ℕ) → name ++ (codes ":=" ++ (digits ++ [])) ≡ name ++ codes ":=" ++ digits
  set_text name digits = ap (λ l. name ++ (codes ":=" ++ l)) (append-nil digits) ∙ sym (append_assoc name (codes ":=") digits)

  link_text : (a m b n : List ℕ) → a ++ (codes ":" ++ (m ++ (codes "=>" ++ (b ++ (codes ":" ++ (n ++ []))))))
      ≡ a ++ codes ":" ++ m ++ codes "=>" ++ b ++ codes ":" ++ n
  link_text a m b n = simp (append_assoc, append-nil)

  mutual
    -- what is written is the policy's text
    pub text_is : (p : Policy) → NegatesPredicates p → form_text (form_of line fields p) ≡ pol_bytes fields p
    text_is (test f n) h = test_text (name_of fields f) (decimal n)
    text_is (range f low high) h = range_text (name_of fields f) (decimal low) (decimal high)
    text_is (assign f n) h = set_text (name_of fields f) (decimal n)
    text_is (sum_of ps) h = sum_text ps h
    text_is (seq_of ps) h = seq_text ps h
    text_is (not_of p) h = ap (λ l. codes "~" ++ l) (negated_is p (pol_bytes fields p) h.0 (text_is p h.1))
    text_is (star_of p) h =
        text_append (lexemes_of_atom (atom_from (form_of line fields p))) (Lexeme.sign Sign.star ∷ [])
        ∙ ap (λ l. l ++ codes "*") (atom_is p (pol_bytes fields p) (text_is p h))
    text_is (dup l) h = refl
    text_is (link a m b n l) h = link_text (decimal a) (decimal m) (decimal b) (decimal n)

    pub sum_text : (ps : Policies) → AllNegatePredicates ps → form_text (sum_form line fields ps) ≡ pol_bytes fields (sum_of ps)
    sum_text no_part h = refl
    sum_text (part p ps) h =
        sum_on_text (one_term (term_from (form_of line fields p))) ps h.1
        ∙ ap (λ l. l ++ sum_bytes fields (codes " + ") ps) (term_is p (pol_bytes fields p) (text_is p h.0))

    pub seq_text : (ps : Policies) → AllNegatePredicates ps → form_text (seq_form line fields ps) ≡ pol_bytes fields (seq_of ps)
    seq_text no_part h = refl
    seq_text (part p ps) h =
        seq_on_text (one_factor (factor_from (form_of line fields p))) ps h.1
        ∙ ap (λ l. l ++ seq_bytes fields (codes ";") ps) (factor_is p (pol_bytes fields p) (text_is p h.0))

    pub sum_on_text : (before : Pol) (ps : Policies) → AllNegatePredicates ps
        → text_of (lexemes_of_pol (sum_on line fields before ps)) ≡ text_of (lexemes_of_pol before) ++ sum_bytes fields (codes " + ") ps
    sum_on_text before no_part h = sym (append-nil (text_of (lexemes_of_pol before)))
    sum_on_text before (part p ps) h =
        sum_on_text (plus before (term_from (form_of line fields p))) ps h.1
        ∙ ap (λ l. l ++ sum_bytes fields (codes " + ") ps)
        (text_append (lexemes_of_pol before) (Lexeme.space ∷ Lexeme.sign Sign.plus ∷ Lexeme.space ∷ lexemes_of_term (term_from (form_of line fields p)))
        ∙ ap (λ l. text_of (lexemes_of_pol before) ++ (codes " + " ++ l)) (term_is p (pol_bytes fields p) (text_is p h.0)))
        ∙ append_assoc (text_of (lexemes_of_pol before)) (codes " + " ++ enclosed (is_sum p) (pol_bytes fields p)) (sum_bytes fields (codes " + ") ps)

    pub seq_on_text : (before : Term) (ps : Policies) → AllNegatePredicates ps
        → text_of (lexemes_of_term (seq_on line fields before ps)) ≡ text_of (lexemes_of_term before) ++ seq_bytes fields (codes ";") ps
    seq_on_text before no_part h = sym (append-nil (text_of (lexemes_of_term before)))
    seq_on_text before (part p ps) h =
        seq_on_text (semi before (factor_from (form_of line fields p))) ps h.1
        ∙ ap (λ l. l ++ seq_bytes fields (codes ";") ps)
        (text_append (lexemes_of_term before) (Lexeme.sign Sign.semicolon ∷ lexemes_of_factor (factor_from (form_of line fields p)))
        ∙ ap (λ l. text_of (lexemes_of_term before) ++ (codes ";" ++ l)) (factor_is p (pol_bytes fields p) (text_is p h.0)))
        ∙ append_assoc (text_of (lexemes_of_term before)) (codes ";" ++ enclosed (is_sum p || is_seq p) (pol_bytes fields p)) (seq_bytes fields (codes ";") ps)
