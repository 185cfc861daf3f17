-- After each front of a spelling no more is open than what is open before it and what nests in it; so a `let` that isn't
-- nested too deep is read.
use Rattle.std.proofs.Common.{◌≡◌, ◌≤◌, ◌+◌, ℕ, List, [], ◌∷◌, ◌++◌, true, length, refl, sym, subst, ◌∙◌, ap, append_assoc, append-nil, arith, Option, cond}
use Rattle.std.specs.Prelude.{Some, None, Ok, Err, IfSome, option_and_then, option_map}
use Rattle.nk_lex.specs.declared.token.Token.{Token}
use Rattle.nk_lex.specs.declared.ident.Ident.{Ident}
use Rattle.nk_lex.specs.Faults.{and_then}
use Rattle.nk_grammar.specs.declared.decl.PolicyKeyword.TheVariants as policies
use Rattle.nk_grammar.specs.declared.decl.Naming.TheVariants as naming
use Rattle.nk_grammar.specs.declared.decl.GrammarError.TheVariants as error
use Rattle.nk_grammar.specs.declared.place.Place.TheVariants as place
use Rattle.nk_grammar.specs.Terminal.{Terminal, name, equal, outside, let_word, plus_sign, semicolon, star_sign, closing, terminal_of}
use Rattle.nk_grammar.specs.Tree.{Tree, Trees, name_of, no_part, with_part, sum_from}
use Rattle.nk_grammar.specs.Grammar.{Pol, Term, Factor, Atom, one_term, plus, one_factor, semi, plain, starred, written_not, written_name, written_test, written_range, written_set, written_link, paren, spell_pol, spell_term, spell_factor, spell_atom, terms_of, factors_of, factor_tree, atom_tree, pol_tree}
use Rattle.nk_grammar.specs.Machine.{Open, group, negation, State, state, first_state, atom_ended, run, step, policy_ended, HasNoNegation}
use Rattle.nk_grammar.specs.File.{definition}
use Rattle.nk_grammar.specs.FileMachine.{Reading, reading, name_wanted, policy_named, in_policy, judged, policy_on, open_count, read_one, first_reading, one_more, ended_at, rest_of_file, file_of}
use Rattle.nk_grammar.specs.Answer.{terminals}
use Rattle.nk_grammar.specs.Nesting.{nesting_of_pol, nesting_of_term, nesting_of_factor, nesting_of_atom}
use Rattle.nk_grammar.proofs.Spelled.{IsFree, has_star, term_has_star, pol_has_star, early, late, early_late, one_star, step_atom, reads_tree}
use Rattle.nk_grammar.proofs.Files.{within}

-- after each front of the tokens at most n are open
abbrev pub Low : ℕ → List Terminal → State → Type 0
Low n [] s = length s.frames ≤ n
Low n (t ∷ ts) s = (length s.frames ≤ n) × IfSome (step s t) (λ s'. Low n ts s')

module _ (n : ℕ) where
  -- a name with no sign of its own after it is an atom
  named_low : (w : Ident) (fs : List Open) (ts us : Trees) (r : List Terminal) → IsFree r → length fs ≤ n
      → Low n r (atom_ended (name_of w) fs ts us) → Low n r (state (place.Named w) fs ts us)
  named_low w fs ts us [] free le low = le
  named_low w fs ts us (x ∷ r) free le low =
      let e : step (state (place.Named w) fs ts us) x ≡ step (atom_ended (name_of w) fs ts us) x =
      rw free.0 (rw free.1 (rw free.2 (step_atom x (name_of w) fs ts us))) in
      (le, subst (λ o. IfSome o (λ s'. Low n r s')) (sym e) low.1)

  mutual
    pub pol_low : (p : Pol) (fs : List Open) (r : List Terminal) → HasNoNegation fs → IsFree r → length fs + nesting_of_pol p ≤ n
        → Low n r (state (place.After (pol_has_star p)) fs (early p) (late p))
        → Low n (spell_pol p ++ r) (state place.Want fs no_part no_part)
    pol_low (one_term t) fs r top free le low = term_low t fs no_part r top free le low
    pol_low (plus p t) fs r top free le low =
        subst (λ l. Low n l (state place.Want fs no_part no_part)) (sym (append_assoc (spell_pol p) (plus_sign ∷ spell_term t) r))
        (pol_low p fs (plus_sign ∷ spell_term t ++ r) top (refl, refl, refl) (omega arith) (
          omega arith,
          subst (λ x. Low n (spell_term t ++ r) (state place.Want fs x no_part)) (sym (early_late p))
              (term_low t fs (terms_of p) r top free (omega arith) low),
        ))

    pub term_low : (t : Term) (fs : List Open) (ts : Trees) (r : List Terminal) → HasNoNegation fs → IsFree r
        → length fs + nesting_of_term t ≤ n
        → Low n r (state (place.After (term_has_star t)) fs ts (factors_of t))
        → Low n (spell_term t ++ r) (state place.Want fs ts no_part)
    term_low (one_factor f) fs ts r top free le low = factor_low f fs ts no_part r top free le low
    term_low (semi t f) fs ts r top free le low =
        subst (λ l. Low n l (state place.Want fs ts no_part)) (sym (append_assoc (spell_term t) (semicolon ∷ spell_factor f) r))
        (term_low t fs ts (semicolon ∷ spell_factor f ++ r) top (refl, refl, refl) (omega arith)
        (omega arith, factor_low f fs ts (factors_of t) r top free (omega arith) low))

    pub factor_low : (f : Factor) (fs : List Open) (ts us : Trees) (r : List Terminal) → HasNoNegation fs → IsFree r
        → length fs + nesting_of_factor f ≤ n
        → Low n r (state (place.After (has_star f)) fs ts (with_part us (factor_tree f)))
        → Low n (spell_factor f ++ r) (state place.Want fs ts us)
    factor_low (plain a) fs ts us r top free le low =
        atom_low a fs ts us r free le (subst (λ s. Low n r s) (sym (top (atom_tree a) ts us)) low)
    factor_low (starred f) fs ts us r top free le low =
        subst (λ l. Low n l (state place.Want fs ts us)) (sym (append_assoc (spell_factor f) (star_sign ∷ []) r))
        (factor_low f fs ts us (star_sign ∷ r) top (refl, refl, refl) le
        (omega arith, subst (λ x. Low n r (state (place.After true) fs ts x)) (sym (one_star f us)) low))

    pub atom_low : (a : Atom) (fs : List Open) (ts us : Trees) (r : List Terminal) → IsFree r
        → length fs + nesting_of_atom a ≤ n
        → Low n r (atom_ended (atom_tree a) fs ts us) → Low n (spell_atom a ++ r) (state place.Want fs ts us)
    atom_low (written_not l a) fs ts us r free le low =
        (omega arith, atom_low a (negation l ∷ fs) ts us r free (omega arith) low)
    atom_low (written_name w) fs ts us r free le low = (omega arith, named_low w fs ts us r free (omega arith) low)
    atom_low (written_test w k) fs ts us r free le low = (omega arith, (omega arith, (omega arith, low)))
    atom_low (written_range w a b) fs ts us r free le low =
        (omega arith, (omega arith, (omega arith, (omega arith, (omega arith, low)))))
    atom_low (written_set w k) fs ts us r free le low = (omega arith, (omega arith, (omega arith, low)))
    atom_low (written_link a m b k) fs ts us r free le low =
        (omega arith, (omega arith, (omega arith, (omega arith, (omega arith, (omega arith, (omega arith, low)))))))
    atom_low (paren p) fs ts us r free le low = (
      omega arith,
      subst (λ l. Low n l (state place.Want (group ts us ∷ fs) no_part no_part)) (sym (append_assoc (spell_pol p) (closing ∷ []) r))
          (pol_low p (group ts us ∷ fs) (closing ∷ r) (λ t ts us. refl) (refl, refl, refl) (omega arith)
          (omega arith, subst (λ x. Low n r (atom_ended (sum_from x) fs ts us)) (sym (early_late p)) low)),
    )
    atom_low a fs ts us r free le low = (omega arith, low)

-- ---- a `let`

-- a token that is taken, after which no more than 256 are open
one_step : (t : Token) (x : Terminal) (r s : Reading) (ts : List Token) (line : ℕ) → terminal_of t ≡ x
    → read_one r x ≡ Some s → open_count s ≤ 256 → rest_of_file (t ∷ ts) r line ≡ rest_of_file ts s t.line
one_step t x r s ts line e f le =
    ap (λ y. and_then (judged t.line (read_one r y)) (λ q. rest_of_file ts q t.line)) e
    ∙ ap (λ o. and_then (judged t.line o) (λ q. rest_of_file ts q t.line)) f
    ∙ ap (λ b. and_then (cond b (Ok s) (Err (error.TooDeep t.line))) (λ q. rest_of_file ts q t.line)) (within (open_count s) le)

-- what is not there is no tree
no_tree : {A : Type 0} (t : Tree) → ◌≡◌ {A = Option Tree} None (Some t) → A
no_tree t e = absurd cc

-- the tokens of a policy that isn't nested too deep
policy_read : (ts : List Token) (s : State) (w : Ident) (line at : ℕ) (t : Tree) → Low 256 (terminals ts) s
    → option_and_then policy_ended (run (terminals ts) s) ≡ Some t
    → rest_of_file ts (reading (in_policy policies.Let w line s) []) at ≡ Ok (definition w t line ∷ [])
policy_read [] s w line at t low e =
    ap (λ o. ended_at at (option_map (λ p. one_more [] (definition w p line)) o)) e
policy_read (x ∷ xs) s w line at t low e =
    by_step (step s (terminal_of x)) refl low.1 e (λ s' l f. policy_read xs s' w line x.line t l f)
  where
    low_now : (ts : List Token) (s' : State) → Low 256 (terminals ts) s' → length s'.frames ≤ 256
    low_now [] s' l = l
    low_now (y ∷ ys) s' l = l.0

    by_step : (o : Option State) → step s (terminal_of x) ≡ o → IfSome o (λ s'. Low 256 (terminals xs) s')
        → option_and_then policy_ended (option_and_then (run (terminals xs)) o) ≡ Some t
        → ((s' : State) → Low 256 (terminals xs) s' → option_and_then policy_ended (run (terminals xs) s') ≡ Some t → rest_of_file xs (reading (in_policy policies.Let w line s') []) x.line ≡ Ok (definition w t line ∷ []))
        → rest_of_file (x ∷ xs) (reading (in_policy policies.Let w line s) []) at ≡ Ok (definition w t line ∷ [])
    by_step None f l e' more = no_tree t e'
    by_step (Some s') f l e' more =
        one_step x (terminal_of x) (reading (in_policy policies.Let w line s) []) (reading (in_policy policies.Let w line s') []) xs at refl
        (ap (λ o. policy_on policies.Let w line [] o (policy_ended s) (terminal_of x)) f) (low_now xs s' l)
        ∙ more s' l e'

-- the tokens of a `let` that isn't nested too deep
pub lets_read : (ts : List Token) (line : ℕ) (w : Ident) (p : Pol)
    → terminals ts ≡ outside (let_word line) ∷ name w ∷ equal ∷ spell_pol p
    → nesting_of_pol p ≤ 256 → file_of ts ≡ Ok (definition w (pol_tree p) line ∷ [])
lets_read [] line w p e le = absurd cc
lets_read (a ∷ []) line w p e le = absurd cc
lets_read (a ∷ (b ∷ [])) line w p e le = absurd cc
lets_read (a ∷ (b ∷ (c ∷ ts))) line w p e le =
    one_step a (outside (let_word line)) first_reading (reading (name_wanted (naming.Policy policies.Let line)) []) (b ∷ (c ∷ ts)) 1 (first _ _ _ _ e) refl (omega arith)
    ∙ one_step b (name w) (reading (name_wanted (naming.Policy policies.Let line)) []) (reading (policy_named policies.Let w line) []) (c ∷ ts) a.line (first _ _ _ _ (rest _ _ _ _ e)) refl (omega arith)
    ∙ one_step c equal (reading (policy_named policies.Let w line) []) (reading (in_policy policies.Let w line first_state) []) ts b.line (first _ _ _ _ (rest _ _ _ _ (rest _ _ _ _ e))) refl (omega arith)
    ∙ policy_read ts first_state w line c.line (pol_tree p)
    (subst (λ l. Low 256 l first_state) (append-nil (spell_pol p) ∙ sym same) (pol_low 256 p [] [] (λ t ts us. refl) tt (omega arith) (omega arith)))
    (reads_tree (terminals ts) (pol_tree p) (p, same, refl))
  where
    first : (x y : Terminal) (xs ys : List Terminal) → x ∷ xs ≡ y ∷ ys → x ≡ y
    first x y xs ys e = cc

    rest : (x y : Terminal) (xs ys : List Terminal) → x ∷ xs ≡ y ∷ ys → xs ≡ ys
    rest x y xs ys e = cc

    same : terminals ts ≡ spell_pol p
    same = rest _ _ _ _ (rest _ _ _ _ (rest _ _ _ _ e))
