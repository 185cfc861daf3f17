-- The counts of a text go with its tokens.
use Rattle.std.proofs.Common.{◌≤◌, ℕ, suc, subst, List, [], ◌∷◌, ◌++◌, refl, sym, append_assoc, append-nil, arith}
use Rattle.nk_lex.specs.declared.ident.Number.{Number}
use Rattle.nk_grammar.specs.Terminal.{Terminal, plus_sign, semicolon, star_sign, closing}
use Rattle.nk_grammar.specs.Grammar.{Pol, Term, Factor, Atom, one_term, plus, one_factor, semi, plain, starred, written_not, written_test, written_range, written_set, written_link, paren, spell_pol, spell_term, spell_factor, spell_atom}
use Rattle.nk_grammar.specs.File.{Written, written_field, written_tag, written_switch, written_declared_link, written_let, written_fabric, written_virtual, spell_ports, spell_declaration, spell_file}
use Rattle.nk_nesting.specs.Counts.{open_in_pol, open_in_term, open_in_factor, open_in_atom, open_in_ports, open_in_declaration, open_in_file, GoWith}

-- counts and tokens, each in three parts
pub three_parts : (P : List ℕ → List Terminal → Type 0) (is ks js : List ℕ) (ts us r : List Terminal)
    → P (is ++ (ks ++ js)) (ts ++ (us ++ r)) → P ((is ++ ks) ++ js) ((ts ++ us) ++ r)
three_parts P is ks js ts us r h =
    subst (λ l. P l ((ts ++ us) ++ r)) (sym (append_assoc is ks js)) (subst (λ l. P (is ++ (ks ++ js)) l) (sym (append_assoc ts us r)) h)

mutual
  pub pol_goes : (p : Pol) (n : ℕ) (js : List ℕ) (r : List Terminal) → GoWith n js r
      → GoWith n (open_in_pol n p ++ js) (spell_pol p ++ r)
  pol_goes (one_term t) n js r go = term_goes t n js r go
  pol_goes (plus p t) n js r go =
      three_parts (GoWith n) (open_in_pol n p) (n ∷ open_in_term n t) js (spell_pol p) (plus_sign ∷ spell_term t) r
      (pol_goes p n (n ∷ (open_in_term n t ++ js)) (plus_sign ∷ (spell_term t ++ r)) (refl, term_goes t n js r go))

  term_goes : (t : Term) (n : ℕ) (js : List ℕ) (r : List Terminal) → GoWith n js r
      → GoWith n (open_in_term n t ++ js) (spell_term t ++ r)
  term_goes (one_factor f) n js r go = factor_goes f n js r go
  term_goes (semi t f) n js r go =
      three_parts (GoWith n) (open_in_term n t) (n ∷ open_in_factor n f) js (spell_term t) (semicolon ∷ spell_factor f) r
      (term_goes t n (n ∷ (open_in_factor n f ++ js)) (semicolon ∷ (spell_factor f ++ r)) (refl, factor_goes f n js r go))

  factor_goes : (f : Factor) (n : ℕ) (js : List ℕ) (r : List Terminal) → GoWith n js r
      → GoWith n (open_in_factor n f ++ js) (spell_factor f ++ r)
  factor_goes (plain a) n js r go =
      subst (λ l. GoWith n l (spell_atom a ++ r)) (sym (append_assoc (open_in_atom n a) (n ∷ []) js)) (atom_goes a n n js r (omega arith) go)
  factor_goes (starred f) n js r go =
      three_parts (GoWith n) (open_in_factor n f) (n ∷ []) js (spell_factor f) (star_sign ∷ []) r
      (factor_goes f n (n ∷ js) (star_sign ∷ r) (refl, go))

  -- m are open after the atom
  atom_goes : (a : Atom) (n m : ℕ) (js : List ℕ) (r : List Terminal) → m ≤ n → GoWith m js r
      → GoWith n (open_in_atom n a ++ m ∷ js) (spell_atom a ++ r)
  atom_goes (written_not l a) n m js r le go = (refl, atom_goes a (suc n) m js r (omega arith) go)
  atom_goes (written_test w k) n m js r le go = (omega arith, (omega arith, (le, go)))
  atom_goes (written_range w a b) n m js r le go =
      (omega arith, (omega arith, (omega arith, (omega arith, (le, go)))))
  atom_goes (written_set w k) n m js r le go = (omega arith, (omega arith, (le, go)))
  atom_goes (written_link a i b k) n m js r le go =
      (omega arith, (omega arith, (omega arith, (omega arith, (omega arith, (omega arith, (le, go)))))))
  atom_goes (paren p) n m js r le go = (
    refl,
    subst (λ l. GoWith (suc n) (open_in_pol (suc n) p ++ m ∷ js) l) (sym (append_assoc (spell_pol p) (closing ∷ []) r))
        (pol_goes p (suc n) (m ∷ js) (closing ∷ r) (omega arith, go)),
  )
  atom_goes a n m js r le go = (le, go)

-- further ports
ports_go : (ps : List Number) (js : List ℕ) (r : List Terminal) → GoWith 0 js r
    → GoWith 0 (open_in_ports ps ++ js) (spell_ports ps ++ r)
ports_go [] js r go = go
ports_go (p ∷ ps) js r go = (omega arith, (omega arith, ports_go ps js r go))

-- a declaration
declaration_goes : (w : Written) (js : List ℕ) (r : List Terminal) → GoWith 0 js r
    → GoWith 0 (open_in_declaration w ++ js) (spell_declaration w ++ r)
declaration_goes (written_field w n) js r go = (omega arith, (omega arith, (omega arith, go)))
declaration_goes (written_tag w) js r go = (omega arith, (omega arith, go))
declaration_goes (written_switch n p ps) js r go =
    (omega arith, (omega arith, (omega arith, (omega arith, ports_go ps js r go))))
declaration_goes (written_declared_link a m b n) js r go =
    (omega arith, (omega arith, (omega arith, (omega arith, (omega arith, (omega arith, (omega arith, (omega arith, go))))))))
declaration_goes (written_let line w p) js r go =
    (omega arith, (omega arith, (omega arith, pol_goes p 0 js r go)))
declaration_goes (written_fabric line w p) js r go =
    (omega arith, (omega arith, (omega arith, pol_goes p 0 js r go)))
declaration_goes (written_virtual a m b n w) js r go =
    (omega arith, (omega arith, (omega arith, (omega arith, (omega arith, (omega arith, (omega arith, (omega arith, (omega arith, (omega arith, go))))))))))

-- a text, and what stands after it
pub file_goes : (ws : List Written) (js : List ℕ) (r : List Terminal) → GoWith 0 js r
    → GoWith 0 (open_in_file ws ++ js) (spell_file ws ++ r)
file_goes [] js r go = go
file_goes (w ∷ ws) js r go =
    three_parts (GoWith 0) (open_in_declaration w) (open_in_file ws) js (spell_declaration w) (spell_file ws) r
    (declaration_goes w (open_in_file ws ++ js) (spell_file ws ++ r) (file_goes ws js r go))

-- a text
pub goes_with : (ws : List Written) → GoWith 0 (open_in_file ws) (spell_file ws)
goes_with ws =
    subst (λ l. GoWith 0 l (spell_file ws)) (append-nil (open_in_file ws))
    (subst (λ l. GoWith 0 (open_in_file ws ++ []) l) (append-nil (spell_file ws)) (file_goes ws [] [] tt))
