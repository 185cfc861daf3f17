-- The texts of policies and certificates have plain numbers.
use Rattle.std.proofs.Common.{◌≡◌, ◌+◌, ℕ, Bool, true, false, List, [], ◌∷◌, ◌++◌, refl, sym, ap, subst, ◌∙◌, append_assoc, append-nil, arith}
use Rattle.std.proofs.lemmas.List.Elements.{All-tail}
use Rattle.std.proofs.lemmas.Slice.Eq.{bytes_eq-Decides}
use Rattle.std.specs.Prelude.{All, bytes_eq, codes}
use Rattle.nk_lex.specs.declared.ident.Number.{Number}
use Rattle.nk_lex.specs.declared.kind.Kind.TheVariants as kind
use Rattle.nk_lex.specs.Kinds.{kind_of_name}
use Rattle.nk_lex.specs.Spelling.{Lexeme, Sign}
use Rattle.nk_grammar.specs.Certified.{WrittenRow, written_row}
use Rattle.nk_grammar.specs.CertifiedText.{AreRowsOn, lexemes_of_certificate, lexemes_of_numbers, lexemes_of_predicate, lexemes_of_rows}
use Rattle.nk_grammar.specs.Grammar.{Pol, Term, Factor, Atom, one_term, plus, one_factor, semi, plain, starred, written_not, written_id, written_drop, written_dup, written_name, written_test, written_range, written_set, written_link, paren}
use Rattle.nk_grammar.specs.Text.{lexemes_of_pol, lexemes_of_term, lexemes_of_factor, lexemes_of_atom, lexemes_of_let, IsNumberOn, IsPolOn, IsTermOn, IsFactorOn, IsAtomOn}
use Rattle.nk_notation_laws.specs.Laws.{CertificatesAreLeft, PoliciesAreLeft}
use Rattle.nk_notation_laws.specs.PlainLexemes.{ArePlain, EndsRun, ends, blank, ended, mark, named, number, interval, port, assigned, tested, divided, equals, linked}
use Rattle.nk_notation_laws.proofs.PlainTexts.{plain_left}

-- a name is not the word `field`
field_by : (w : List ℕ) → kind_of_name w ≡ kind.Name → (t : Bool) → bytes_eq w (codes "field") ≡ t → t ≡ false
field_by w name true e = let wrong : kind.Field ≡ kind.Name = ap kind_of_name (sym ((bytes_eq-Decides w (codes "field")).0 e)) ∙ name in absurd cc
field_by w name false e = refl

pub no_keyword : (w : List ℕ) → kind_of_name w ≡ kind.Name → bytes_eq w (codes "field") ≡ false
no_keyword w name = field_by w name (bytes_eq w (codes "field")) refl

module _ (at : ℕ) where
  mutual
    pub pol_plain : (p : Pol) (r : List Lexeme) → IsPolOn at p → EndsRun r → ArePlain r → ArePlain (lexemes_of_pol p ++ r)
    pol_plain (one_term t) r on e a = term_plain t r on e a
    pol_plain (plus p t) r on e a =
        subst ArePlain (sym (append_assoc (lexemes_of_pol p) (Lexeme.space ∷ Lexeme.sign Sign.plus ∷ Lexeme.space ∷ lexemes_of_term t) r))
        (pol_plain p (Lexeme.space ∷ Lexeme.sign Sign.plus ∷ Lexeme.space ∷ lexemes_of_term t ++ r) on.0 tt
        (blank (Lexeme.sign Sign.plus ∷ Lexeme.space ∷ lexemes_of_term t ++ r)
        (mark Sign.plus (Lexeme.space ∷ lexemes_of_term t ++ r) refl (blank (lexemes_of_term t ++ r) (term_plain t r on.1 e a)))))

    term_plain : (t : Term) (r : List Lexeme) → IsTermOn at t → EndsRun r → ArePlain r → ArePlain (lexemes_of_term t ++ r)
    term_plain (one_factor f) r on e a = factor_plain f r on e a
    term_plain (semi t f) r on e a =
        subst ArePlain (sym (append_assoc (lexemes_of_term t) (Lexeme.sign Sign.semicolon ∷ lexemes_of_factor f) r))
        (term_plain t (Lexeme.sign Sign.semicolon ∷ lexemes_of_factor f ++ r) on.0 refl
        (mark Sign.semicolon (lexemes_of_factor f ++ r) refl (factor_plain f r on.1 e a)))

    factor_plain : (f : Factor) (r : List Lexeme) → IsFactorOn at f → EndsRun r → ArePlain r → ArePlain (lexemes_of_factor f ++ r)
    factor_plain (plain x) r on e a = atom_plain x r on e a
    factor_plain (starred f) r on e a =
        subst ArePlain (sym (append_assoc (lexemes_of_factor f) (Lexeme.sign Sign.star ∷ []) r))
        (factor_plain f (Lexeme.sign Sign.star ∷ r) on refl (mark Sign.star r refl a))

    atom_plain : (x : Atom) (r : List Lexeme) → IsAtomOn at x → EndsRun r → ArePlain r → ArePlain (lexemes_of_atom x ++ r)
    atom_plain (written_not l x) r on e a = mark Sign.tilde (lexemes_of_atom x ++ r) refl (atom_plain x r on.1 e a)
    atom_plain written_id r on e a = named (codes "id") r (refl, refl) refl e a
    atom_plain written_drop r on e a = named (codes "drop") r (refl, refl) refl e a
    atom_plain written_dup r on e a = named (codes "dup") r (refl, refl) refl e a
    atom_plain (written_name w) r on e a = named w.text r on.0.0 (no_keyword w.text on.0.1) e a
    atom_plain (written_test w n) r on e a =
        named w.text (Lexeme.sign Sign.equal ∷ Lexeme.numeral n.value ∷ r) on.0.0.0 (no_keyword w.text on.0.0.1) refl (tested n.value r on.1.0 e a)
    atom_plain (written_range w b c) r on e a =
        let digits : List Lexeme = Lexeme.numeral b.value ∷ Lexeme.sign Sign.dots ∷ Lexeme.numeral c.value ∷ r in
        named w.text (Lexeme.space ∷ Lexeme.word (codes "in") ∷ Lexeme.space ∷ digits) on.0.0.0 (no_keyword w.text on.0.0.1) tt
        (blank (Lexeme.word (codes "in") ∷ Lexeme.space ∷ digits)
        (named (codes "in") (Lexeme.space ∷ digits) (refl, refl) refl tt (blank digits (interval b.value c.value r on.1.0 on.2.0 e a))))
    atom_plain (written_set w n) r on e a = assigned w.text n.value r on.0.0.0 on.1.0 e a
    atom_plain (written_link b m c n) r on e a =
        let far : List Lexeme = Lexeme.numeral c.value ∷ Lexeme.sign Sign.colon ∷ Lexeme.numeral n.value ∷ r in
        port b.value m.value (Lexeme.sign Sign.fat_arrow ∷ far) on.0.0 on.1.0 refl (linked far (port c.value n.value r on.2.0 on.3.0 e a))
    atom_plain (paren p) r on e a =
        mark Sign.open_parenthesis ((lexemes_of_pol p ++ Lexeme.sign Sign.close_parenthesis ∷ []) ++ r) refl
        (subst ArePlain (sym (append_assoc (lexemes_of_pol p) (Lexeme.sign Sign.close_parenthesis ∷ []) r))
        (pol_plain p (Lexeme.sign Sign.close_parenthesis ∷ r) on refl (mark Sign.close_parenthesis r refl a)))

-- a policy with a name
pub policies_left : PoliciesAreLeft
policies_left = λ w p name on.
    let pol : List Lexeme = lexemes_of_pol p in
    plain_left (lexemes_of_let w p)
    (named (codes "let") (Lexeme.space ∷ Lexeme.word w.text ∷ Lexeme.space ∷ Lexeme.sign Sign.equal ∷ Lexeme.space ∷ pol) (refl, refl) refl tt
    (blank (Lexeme.word w.text ∷ Lexeme.space ∷ Lexeme.sign Sign.equal ∷ Lexeme.space ∷ pol)
    (named w.text (Lexeme.space ∷ Lexeme.sign Sign.equal ∷ Lexeme.space ∷ pol) name.0.0 (no_keyword w.text name.0.1) tt
    (blank (Lexeme.sign Sign.equal ∷ Lexeme.space ∷ pol)
    (equals (Lexeme.space ∷ pol) tt
    (blank pol (subst ArePlain (append-nil pol) (pol_plain 1 p [] on tt ends))))))))

-- a certificate
predicate_plain : (at : ℕ) (p : Pol) (r : List Lexeme) → IsPolOn at p → ArePlain r → ArePlain (lexemes_of_predicate p r)
predicate_plain at p r on a =
    let pol : List Lexeme = lexemes_of_pol p ++ Lexeme.line_feed ∷ r in
    blank (Lexeme.sign Sign.colon ∷ Lexeme.space ∷ pol)
    (divided (Lexeme.space ∷ pol) tt (blank pol (pol_plain at p (Lexeme.line_feed ∷ r) on tt (ended r a))))

numbers_end : (ns : List Number) (p : Pol) (r : List Lexeme) → EndsRun (lexemes_of_numbers ns ++ lexemes_of_predicate p r)
numbers_end [] p r = tt
numbers_end (n ∷ ns) p r = tt

numbers_plain : (at : ℕ) (ns : List Number) (p : Pol) (r : List Lexeme) → All (IsNumberOn at) ns → ArePlain (lexemes_of_predicate p r)
    → ArePlain (lexemes_of_numbers ns ++ lexemes_of_predicate p r)
numbers_plain at [] p r on a = a
numbers_plain at (n ∷ ns) p r on a =
    let rest : List Lexeme = lexemes_of_numbers ns ++ lexemes_of_predicate p r in
    blank (Lexeme.numeral n.value ∷ rest)
    (number n.value rest (on 0 n (omega arith)).0 (numbers_end ns p r) (numbers_plain at ns p r (All-tail (IsNumberOn at) n ns on) a))

rows_plain : (ws : List WrittenRow) (at : ℕ) → AreRowsOn at ws → ArePlain (lexemes_of_rows ws)
rows_plain [] at on = ends
rows_plain (written_row l n ns p ∷ ws) at on =
    let rest : List Lexeme = lexemes_of_numbers ns ++ lexemes_of_predicate p (lexemes_of_rows ws) in
    named (codes "row") (Lexeme.space ∷ Lexeme.numeral n.value ∷ rest) (refl, refl) refl tt
    (blank (Lexeme.numeral n.value ∷ rest)
    (number n.value rest on.1.0 (numbers_end ns p (lexemes_of_rows ws))
    (numbers_plain at ns p (lexemes_of_rows ws) on.2 (predicate_plain at p (lexemes_of_rows ws) on.3 (rows_plain ws (at + 1) on.4)))))

pub certificates_left : CertificatesAreLeft
certificates_left = λ p ws on rows.
    let rest : List Lexeme = lexemes_of_predicate p (lexemes_of_rows ws) in
    plain_left (lexemes_of_certificate p ws)
    (named (codes "certificate") (Lexeme.line_feed ∷ Lexeme.word (codes "row") ∷ Lexeme.space ∷ Lexeme.word (codes "start") ∷ rest) (refl, refl) refl tt
    (ended (Lexeme.word (codes "row") ∷ Lexeme.space ∷ Lexeme.word (codes "start") ∷ rest)
    (named (codes "row") (Lexeme.space ∷ Lexeme.word (codes "start") ∷ rest) (refl, refl) refl tt
    (blank (Lexeme.word (codes "start") ∷ rest)
    (named (codes "start") rest (refl, refl) refl tt (predicate_plain 2 p (lexemes_of_rows ws) on (rows_plain ws 3 rows)))))))
