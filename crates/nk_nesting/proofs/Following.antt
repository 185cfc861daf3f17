-- The reader's count follows the text's: it is at least that, and within the limit as long as the text's is. After a name
-- alone it may be more, since an `=`, `in` or `:=` may come.
use Rattle.std.proofs.Common.{◌≡◌, ◌≤◌, ℕ, List, [], ◌∷◌, ◌++◌, true, false, length, refl, sym, subst, ◌∙◌, ap, append_assoc, append-nil, arith, Option}
use Rattle.std.specs.Prelude.{Some, None, IsSomeAnd, option_and_then}
use Rattle.nk_lex.specs.declared.ident.Ident.{Ident}
use Rattle.nk_lex.specs.declared.ident.Number.{Number}
use Rattle.nk_grammar.specs.declared.place.Place.TheVariants as place
use Rattle.nk_grammar.specs.declared.decl.PolicyKeyword.{PolicyKeyword}
use Rattle.nk_grammar.specs.declared.decl.PolicyKeyword.TheVariants as policies
use Rattle.nk_grammar.specs.Terminal.{Terminal, Outside, name, number, equal, colon, outside, ports_word, arrow, plus_sign, semicolon, star_sign, closing, field_word, tag_word, switch_word, link_word, let_word, fabric_word, virtual_word, by_word}
use Rattle.nk_grammar.specs.Tree.{Tree, Trees, name_of, not_of, no_part, with_part, sum_from}
use Rattle.nk_grammar.specs.Grammar.{Pol, Term, Factor, Atom, one_term, plus, one_factor, semi, plain, starred, written_not, written_id, written_drop, written_dup, written_name, written_test, written_range, written_set, written_link, paren, spell_pol, spell_term, spell_factor, spell_atom, terms_of, factors_of, factor_tree, atom_tree, pol_tree}
use Rattle.nk_grammar.specs.Machine.{Open, group, negation, State, state, first_state, atom_ended, run, step, policy_ended, HasNoNegation}
use Rattle.nk_grammar.specs.File.{Declaration, Written, written_field, written_tag, written_switch, written_declared_link, written_let, written_fabric, written_virtual, spell_ports, spell_declaration, spell_file, declared, switch}
use Rattle.nk_grammar.specs.FileMachine.{Reading, reading, between, in_policy, port_read, policy_on, policy_done, one_more, defined, open_count, read_one}
use Rattle.nk_grammar.proofs.Spelled.{IsFree, has_star, term_has_star, pol_has_star, early, late, early_late, one_star, step_atom}
use Rattle.nk_grammar.proofs.Texts.{outside_refused, left_by}
use Rattle.nk_nesting.specs.Counts.{open_in_pol, open_in_term, open_in_factor, open_in_atom, open_in_ports, open_in_declaration, open_in_file}
use Rattle.nk_nesting.proofs.Counting.{three_parts}

-- the tokens pass, and the count follows
abbrev pub Follows : List ℕ → List Terminal → State → Type 0
Follows [] [] s = Unit {0}
Follows [] (t ∷ ts) s = ⊥
Follows (k ∷ ks) [] s = ⊥
Follows (k ∷ ks) (t ∷ ts) s =
    IsSomeAnd (step s t) (λ s'. (k ≤ length s'.frames) × (k ≤ 256 → (length s'.frames ≤ 256) × Follows ks ts s'))

-- what was open before an atom and is no more after it
fewer : (t : Tree) (fs : List Open) (ts us : Trees) → length (atom_ended t fs ts us).frames ≤ length fs
fewer t [] ts us = omega arith
fewer t (group ts' us' ∷ fs) ts us = omega arith
fewer t (negation l ∷ fs) ts us = let le = fewer (not_of t l) fs ts us in omega (arith, le)

-- a name with no sign of its own after it is an atom
named_follows : (w : Ident) (fs : List Open) (ts us : Trees) (ks : List ℕ) (r : List Terminal) → IsFree r
    → Follows ks r (atom_ended (name_of w) fs ts us) → Follows ks r (state (place.Named w) fs ts us)
named_follows w fs ts us [] [] free h = tt
named_follows w fs ts us [] (x ∷ r) free h = absurd h
named_follows w fs ts us (k ∷ ks) [] free h = absurd h
named_follows w fs ts us (k ∷ ks) (x ∷ r) free h =
    let e : step (state (place.Named w) fs ts us) x ≡ step (atom_ended (name_of w) fs ts us) x =
    rw free.0 (rw free.1 (rw free.2 (step_atom x (name_of w) fs ts us))) in
    subst (λ o. IsSomeAnd o (λ s'. (k ≤ length s'.frames) × (k ≤ 256 → (length s'.frames ≤ 256) × Follows ks r s'))) (sym e) h

-- the last token of an atom
ends : (a : Atom) (fs : List Open) (ts us : Trees) (m : ℕ) (ks : List ℕ) (r : List Terminal) → length fs ≤ 256
    → m ≤ length (atom_ended (atom_tree a) fs ts us).frames → Follows ks r (atom_ended (atom_tree a) fs ts us)
    → (m ≤ length (atom_ended (atom_tree a) fs ts us).frames) × (m ≤ 256 → (length (atom_ended (atom_tree a) fs ts us).frames ≤ 256) × Follows ks r (atom_ended (atom_tree a) fs ts us))
ends a fs ts us m ks r le low h = let few = fewer (atom_tree a) fs ts us in (low, λ _. (omega (arith, few, le), h))

mutual
  pol_follows : (p : Pol) (fs : List Open) (ks : List ℕ) (r : List Terminal) → HasNoNegation fs → IsFree r
      → length fs ≤ 256 → Follows ks r (state (place.After (pol_has_star p)) fs (early p) (late p))
      → Follows (open_in_pol (length fs) p ++ ks) (spell_pol p ++ r) (state place.Want fs no_part no_part)
  pol_follows (one_term t) fs ks r top free le h = term_follows t fs no_part ks r top free le h
  pol_follows (plus p t) fs ks r top free le h =
      three_parts (λ l m. Follows l m (state place.Want fs no_part no_part)) (open_in_pol (length fs) p) (length fs ∷ open_in_term (length fs) t) ks (spell_pol p) (plus_sign ∷ spell_term t) r
      (pol_follows p fs (length fs ∷ (open_in_term (length fs) t ++ ks)) (plus_sign ∷ (spell_term t ++ r)) top (refl, refl, refl) le (
        omega arith,
        λ few. (
          le,
          subst (λ x. Follows (open_in_term (length fs) t ++ ks) (spell_term t ++ r) (state place.Want fs x no_part)) (sym (early_late p))
              (term_follows t fs (terms_of p) ks r top free le h),
        ),
      ))

  term_follows : (t : Term) (fs : List Open) (ts : Trees) (ks : List ℕ) (r : List Terminal) → HasNoNegation fs
      → IsFree r → length fs ≤ 256 → Follows ks r (state (place.After (term_has_star t)) fs ts (factors_of t))
      → Follows (open_in_term (length fs) t ++ ks) (spell_term t ++ r) (state place.Want fs ts no_part)
  term_follows (one_factor f) fs ts ks r top free le h = factor_follows f fs ts no_part ks r top free le h
  term_follows (semi t f) fs ts ks r top free le h =
      three_parts (λ l m. Follows l m (state place.Want fs ts no_part)) (open_in_term (length fs) t) (length fs ∷ open_in_factor (length fs) f) ks (spell_term t) (semicolon ∷ spell_factor f) r
      (term_follows t fs ts (length fs ∷ (open_in_factor (length fs) f ++ ks)) (semicolon ∷ (spell_factor f ++ r)) top (refl, refl, refl) le
      (omega arith, λ few. (le, factor_follows f fs ts (factors_of t) ks r top free le h)))

  factor_follows : (f : Factor) (fs : List Open) (ts us : Trees) (ks : List ℕ) (r : List Terminal)
      → HasNoNegation fs → IsFree r → length fs ≤ 256
      → Follows ks r (state (place.After (has_star f)) fs ts (with_part us (factor_tree f)))
      → Follows (open_in_factor (length fs) f ++ ks) (spell_factor f ++ r) (state place.Want fs ts us)
  factor_follows (plain a) fs ts us ks r top free le h =
      let e : atom_ended (atom_tree a) fs ts us ≡ state (place.After false) fs ts (with_part us (atom_tree a)) = top (atom_tree a) ts us in
      subst (λ l. Follows l (spell_atom a ++ r) (state place.Want fs ts us)) (sym (append_assoc (open_in_atom (length fs) a) (length fs ∷ []) ks))
      (atom_follows a fs ts us (length fs) ks r free le (subst (λ s. length fs ≤ length s.frames) (sym e) (omega arith)) (subst (λ s. Follows ks r s) (sym e) h))
  factor_follows (starred f) fs ts us ks r top free le h =
      three_parts (λ l m. Follows l m (state place.Want fs ts us)) (open_in_factor (length fs) f) (length fs ∷ []) ks (spell_factor f) (star_sign ∷ []) r
      (factor_follows f fs ts us (length fs ∷ ks) (star_sign ∷ r) top (refl, refl, refl) le
      (omega arith, λ few. (le, subst (λ x. Follows ks r (state (place.After true) fs ts x)) (sym (one_star f us)) h)))

  -- m are open after the atom
  atom_follows : (a : Atom) (fs : List Open) (ts us : Trees) (m : ℕ) (ks : List ℕ) (r : List Terminal) → IsFree r
      → length fs ≤ 256 → m ≤ length (atom_ended (atom_tree a) fs ts us).frames
      → Follows ks r (atom_ended (atom_tree a) fs ts us)
      → Follows (open_in_atom (length fs) a ++ m ∷ ks) (spell_atom a ++ r) (state place.Want fs ts us)
  atom_follows (written_not l a) fs ts us m ks r free le low h =
      (omega arith, λ few. (few, atom_follows a (negation l ∷ fs) ts us m ks r free few low h))
  atom_follows written_id fs ts us m ks r free le low h = ends written_id fs ts us m ks r le low h
  atom_follows written_drop fs ts us m ks r free le low h = ends written_drop fs ts us m ks r le low h
  atom_follows written_dup fs ts us m ks r free le low h = ends written_dup fs ts us m ks r le low h
  atom_follows (written_name w) fs ts us m ks r free le low h =
      let few = fewer (name_of w) fs ts us in
      (omega (arith, few, low), λ _. (le, named_follows w fs ts us ks r free h))
  atom_follows (written_test w k) fs ts us m ks r free le low h =
      (omega arith, λ _. (le, (omega arith, λ _. (le, ends (written_test w k) fs ts us m ks r le low h))))
  atom_follows (written_range w a b) fs ts us m ks r free le low h =
      let n : length fs ≤ length fs = omega arith in
      (n, λ _. (le, (n, λ _. (le, (n, λ _. (le, (n, λ _. (le, ends (written_range w a b) fs ts us m ks r le low h))))))))
  atom_follows (written_set w k) fs ts us m ks r free le low h =
      (omega arith, λ _. (le, (omega arith, λ _. (le, ends (written_set w k) fs ts us m ks r le low h))))
  atom_follows (written_link a i b k) fs ts us m ks r free le low h =
      let n : length fs ≤ length fs = omega arith in
      (n, λ _. (le, (n, λ _. (le, (n, λ _. (le, (n, λ _. (le, (n, λ _. (le, (n, λ _. (le, ends (written_link a i b k) fs ts us m ks r le low h))))))))))))
  atom_follows (paren p) fs ts us m ks r free le low h = (
    omega arith,
    λ few. (
      few,
      subst (λ l. Follows (open_in_pol (length (group ts us ∷ fs)) p ++ m ∷ ks) l (state place.Want (group ts us ∷ fs) no_part no_part)) (sym (append_assoc (spell_pol p) (closing ∷ []) r))
          (pol_follows p (group ts us ∷ fs) (m ∷ ks) (closing ∷ r) (λ t ts us. refl) (refl, refl, refl) few
          (subst (λ x. (m ≤ length (atom_ended (sum_from x) fs ts us).frames) × (m ≤ 256 → (length (atom_ended (sum_from x) fs ts us).frames ≤ 256) × Follows ks r (atom_ended (sum_from x) fs ts us))) (sym (early_late p)) (ends (paren p) fs ts us m ks r le low h))),
    ),
  )

-- a policy alone
pub policy_follows : (p : Pol) → Follows (open_in_pol 0 p) (spell_pol p) first_state
policy_follows p =
    subst (λ x. Follows x (spell_pol p) first_state) (append-nil (open_in_pol 0 p))
    (subst (λ x. Follows (open_in_pol 0 p ++ []) x first_state) (append-nil (spell_pol p))
    (pol_follows p [] [] [] (λ t ts us. refl) tt (omega arith) tt))

-- ---- texts

-- the tokens pass a text's reader, and the count follows
abbrev pub ReadsAlong : List ℕ → List Terminal → Reading → Type 0
ReadsAlong [] [] r = Unit {0}
ReadsAlong [] (t ∷ ts) r = ⊥
ReadsAlong (k ∷ ks) [] r = ⊥
ReadsAlong (k ∷ ks) (t ∷ ts) r =
    IsSomeAnd (read_one r t) (λ s. (k ≤ open_count s) × (k ≤ 256 → (open_count s ≤ 256) × ReadsAlong ks ts s))

-- a policy inside a declaration
policy_along : (k : PolicyKeyword) (w : Ident) (line : ℕ) (ds : List Declaration) (ks js : List ℕ) (xs r : List Terminal) (s s' : State)
    → Follows ks xs s → run xs s ≡ Some s' → ReadsAlong js r (reading (in_policy k w line s') ds)
    → ReadsAlong (ks ++ js) (xs ++ r) (reading (in_policy k w line s) ds)
policy_along k w line ds [] js [] r s s' f e h = subst (λ x. ReadsAlong js r (reading (in_policy k w line x) ds)) (sym (same s s' e)) h
  where
    same : (x y : State) → ◌≡◌ {A = Option State} (Some x) (Some y) → x ≡ y
    same x y e = cc
policy_along k w line ds [] js (x ∷ xs) r s s' f e h = absurd f
policy_along k w line ds (i ∷ ks) js [] r s s' f e h = absurd f
policy_along k w line ds (i ∷ ks) js (x ∷ xs) r s s' f e h = by_step (step s x) (policy_ended s) f e (λ s g e. policy_along k w line ds ks js xs r s s' g e h)
  where
    by_step : (o : Option State) (t : Option Tree)
        → IsSomeAnd o (λ s'. (i ≤ length s'.frames) × (i ≤ 256 → (length s'.frames ≤ 256) × Follows ks xs s'))
        → option_and_then (run xs) o ≡ Some s'
        → ((s : State) → Follows ks xs s → run xs s ≡ Some s' → ReadsAlong (ks ++ js) (xs ++ r) (reading (in_policy k w line s) ds))
        → IsSomeAnd (policy_on k w line ds o t x) (λ s. (i ≤ open_count s) × (i ≤ 256 → (open_count s ≤ 256) × ReadsAlong (ks ++ js) (xs ++ r) s))
    by_step None t g e go = absurd g
    by_step (Some s) t g e go = (g.0, λ few. ((g.1 few).0, go s (g.1 few).1 e))

-- two readers that do the same at a token
same_step : (r r' : Reading) (k : ℕ) (ks : List ℕ) (t : Terminal) (ts : List Terminal) → read_one r t ≡ read_one r' t
    → ReadsAlong (k ∷ ks) (t ∷ ts) r' → ReadsAlong (k ∷ ks) (t ∷ ts) r
same_step r r' k ks t ts e h =
    subst (λ o. IsSomeAnd o (λ s. (k ≤ open_count s) × (k ≤ 256 → (open_count s ≤ 256) × ReadsAlong ks ts s))) (sym e) h

-- a text goes on
abbrev Goes : List Written → Reading → Type 0
Goes ws r = ReadsAlong (open_in_file ws) (spell_file ws) r

-- after a policy that may end
after_policy : (k : PolicyKeyword) (w : Ident) (line : ℕ) (ds : List Declaration) (s : State) (p : Tree) (ws : List Written) → policy_ended s ≡ Some p
    → Goes ws (reading between (one_more ds (defined k w p line))) → Goes ws (reading (in_policy k w line s) ds)
after_policy k w line ds s p ws e h = by_first ws h
  where
    begins : (z : Outside) → read_one (reading (in_policy k w line s) ds) (outside z) ≡ read_one (reading between (one_more ds (defined k w p line))) (outside z)
    begins z =
        ap (λ o. policy_on k w line ds o (policy_ended s) (outside z)) (outside_refused s.place s.frames s.terms s.factors z)
        ∙ ap (λ o. policy_done k w line ds o (outside z)) e

    by_first : (ws : List Written) → Goes ws (reading between (one_more ds (defined k w p line))) → Goes ws (reading (in_policy k w line s) ds)
    by_first [] h = tt
    by_first (written_field v n ∷ ws) h = same_step (reading (in_policy k w line s) ds) (reading between (one_more ds (defined k w p line))) 0 (0 ∷ 0 ∷ open_in_file ws) (outside field_word) (name v ∷ number n ∷ spell_file ws) (begins field_word) h
    by_first (written_tag v ∷ ws) h = same_step (reading (in_policy k w line s) ds) (reading between (one_more ds (defined k w p line))) 0 (0 ∷ open_in_file ws) (outside tag_word) (name v ∷ spell_file ws) (begins tag_word) h
    by_first (written_switch n q qs ∷ ws) h = same_step (reading (in_policy k w line s) ds) (reading between (one_more ds (defined k w p line))) 0 (0 ∷ 0 ∷ 0 ∷ (open_in_ports qs ++ open_in_file ws)) (outside switch_word) (number n ∷ outside ports_word ∷ number q ∷ (spell_ports qs ++ spell_file ws)) (begins switch_word) h
    by_first (written_declared_link a m b n ∷ ws) h = same_step (reading (in_policy k w line s) ds) (reading between (one_more ds (defined k w p line))) 0 (0 ∷ 0 ∷ 0 ∷ 0 ∷ 0 ∷ 0 ∷ 0 ∷ open_in_file ws) (outside link_word) (number a ∷ colon ∷ number m ∷ outside arrow ∷ number b ∷ colon ∷ number n ∷ spell_file ws) (begins link_word) h
    by_first (written_let l v q ∷ ws) h = same_step (reading (in_policy k w line s) ds) (reading between (one_more ds (defined k w p line))) 0 (0 ∷ 0 ∷ (open_in_pol 0 q ++ open_in_file ws)) (outside (let_word l)) (name v ∷ equal ∷ (spell_pol q ++ spell_file ws)) (begins (let_word l)) h
    by_first (written_fabric l v q ∷ ws) h = same_step (reading (in_policy k w line s) ds) (reading between (one_more ds (defined k w p line))) 0 (0 ∷ 0 ∷ (open_in_pol 0 q ++ open_in_file ws)) (outside (fabric_word l)) (name v ∷ equal ∷ (spell_pol q ++ spell_file ws)) (begins (fabric_word l)) h
    by_first (written_virtual a m b n v ∷ ws) h = same_step (reading (in_policy k w line s) ds) (reading between (one_more ds (defined k w p line))) 0 (0 ∷ 0 ∷ 0 ∷ 0 ∷ 0 ∷ 0 ∷ 0 ∷ 0 ∷ 0 ∷ open_in_file ws) (outside virtual_word) (number a ∷ colon ∷ number m ∷ outside arrow ∷ number b ∷ colon ∷ number n ∷ outside by_word ∷ name v ∷ spell_file ws) (begins virtual_word) h

-- after ports
after_ports : (n : Number) (qs : List Number) (ds : List Declaration) (ws : List Written)
    → Goes ws (reading between (one_more ds (switch n qs))) → Goes ws (reading (port_read n qs) ds)
after_ports n qs ds [] h = tt
after_ports n qs ds (written_field v m ∷ ws) h = h
after_ports n qs ds ws h = h

-- a token at which nothing is open
pub nothing_open : {A : Type 0} → A → (0 ≤ 0) × (0 ≤ 256 → (0 ≤ 256) × A)
nothing_open h = (omega arith, λ _. (omega arith, h))

-- further ports
ports_along : (n : Number) (qs ps : List Number) (ds : List Declaration) (ws : List Written)
    → Goes ws (reading between (one_more ds (switch n (qs ++ ps))))
    → ReadsAlong (open_in_ports ps ++ open_in_file ws) (spell_ports ps ++ spell_file ws) (reading (port_read n qs) ds)
ports_along n qs [] ds ws h =
    after_ports n qs ds ws (subst (λ x. Goes ws (reading between (one_more ds (switch n x)))) (append-nil qs) h)
ports_along n qs (p ∷ ps) ds ws h =
    nothing_open (nothing_open (ports_along n (qs ++ p ∷ []) ps ds ws (subst (λ x. Goes ws (reading between (one_more ds (switch n x)))) (sym (append_assoc qs (p ∷ []) ps)) h)))

-- a policy, and the declarations after it
defined_along : (k : PolicyKeyword) (line : ℕ) (w : Ident) (p : Pol) (ds : List Declaration) (ws : List Written)
    → Goes ws (reading between (one_more ds (defined k w (pol_tree p) line)))
    → ReadsAlong (open_in_pol 0 p ++ open_in_file ws) (spell_pol p ++ spell_file ws) (reading (in_policy k w line first_state) ds)
defined_along k line w p ds ws h =
    let l = left_by p in
    policy_along k w line ds (open_in_pol 0 p) (open_in_file ws) (spell_pol p) (spell_file ws) first_state l.0 (policy_follows p) l.1 (after_policy k w line ds l.0 (pol_tree p) ws l.2 h)

-- a declaration
declaration_along : (w : Written) (ds : List Declaration) (ws : List Written)
    → Goes ws (reading between (one_more ds (declared w)))
    → ReadsAlong (open_in_declaration w ++ open_in_file ws) (spell_declaration w ++ spell_file ws) (reading between ds)
declaration_along (written_field w n) ds ws h = nothing_open (nothing_open (nothing_open h))
declaration_along (written_tag w) ds ws h = nothing_open (nothing_open h)
declaration_along (written_switch n p ps) ds ws h =
    nothing_open (nothing_open (nothing_open (nothing_open (ports_along n (p ∷ []) ps ds ws h))))
declaration_along (written_declared_link a m b n) ds ws h =
    nothing_open (nothing_open (nothing_open (nothing_open (nothing_open (nothing_open (nothing_open (nothing_open h)))))))
declaration_along (written_let line w p) ds ws h = nothing_open (nothing_open (nothing_open (defined_along policies.Let line w p ds ws h)))
declaration_along (written_fabric line w p) ds ws h = nothing_open (nothing_open (nothing_open (defined_along policies.Fabric line w p ds ws h)))
declaration_along (written_virtual a m b n w) ds ws h =
    nothing_open (nothing_open (nothing_open (nothing_open (nothing_open (nothing_open (nothing_open (nothing_open (nothing_open (nothing_open (h))))))))))

-- a text
pub file_along : (ws : List Written) (ds : List Declaration)
    → ReadsAlong (open_in_file ws) (spell_file ws) (reading between ds)
file_along [] ds = tt
file_along (w ∷ ws) ds = declaration_along w ds ws (file_along ws (one_more ds (declared w)))
