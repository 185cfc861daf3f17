-- What is spelled passes, and leaves its syntax tree.
use Rattle.std.proofs.Common.{◌≡◌, List, [], ◌∷◌, ◌++◌, Bool, true, false, refl, sym, ◌∙◌, ap, append_assoc, append-nil, Option}
use Rattle.std.specs.Prelude.{Some, None, option_and_then, option_map, if◌then◌else◌}
use Rattle.nk_lex.specs.declared.ident.Ident.{Ident}
use Rattle.nk_grammar.specs.declared.place.Place.TheVariants as place
use Rattle.nk_grammar.specs.Terminal.{Terminal, plus_sign, semicolon, star_sign, closing, is_equal, is_in_word, is_becomes}
use Rattle.nk_grammar.specs.Tree.{Tree, Trees, name_of, not_of, star_of, no_part, part, with_part, with_star, sum_from, seq_from}
use Rattle.nk_grammar.specs.Grammar.{Pol, Term, Factor, Atom, one_term, plus, one_factor, semi, plain, starred, written_not, written_name, paren, spell_pol, spell_term, spell_factor, spell_atom, terms_of, factors_of, factor_tree, atom_tree, HasTree}
use Rattle.nk_grammar.specs.Machine.{Open, group, negation, State, state, first_state, atom_ended, run, step, step_done, settled, policy_ended, done, HasNoNegation}

-- what the tokens come to, a name at the end being an atom
abbrev pub outcome : List Terminal → State → Option State
outcome ts s = option_map settled (run ts s)

-- the next token isn't one that a name would take
abbrev pub IsFree : List Terminal → Type 0
IsFree [] = Unit {0}
IsFree (t ∷ ts) = (is_equal t ≡ false) × (is_in_word t ≡ false) × (is_becomes t ≡ false)

-- whether the last factor has a star
abbrev pub has_star : Factor → Bool
has_star (plain a) = false
has_star (starred f) = true

-- whether a term's last factor has a star
abbrev pub term_has_star : Term → Bool
term_has_star (one_factor f) = has_star f
term_has_star (semi t f) = has_star f

-- whether the last factor of a policy's last term has a star
abbrev pub pol_has_star : Pol → Bool
pol_has_star (one_term t) = term_has_star t
pol_has_star (plus p t) = term_has_star t

-- the terms but the last
abbrev pub early : Pol → Trees
early (one_term t) = no_part
early (plus p t) = terms_of p

-- the factors of the last term
abbrev pub late : Pol → Trees
late (one_term t) = factors_of t
late (plus p t) = factors_of t

-- both together are the policy's terms
pub early_late : (p : Pol) → with_part (early p) (seq_from (late p)) ≡ terms_of p
early_late (one_term t) = refl
early_late (plus p t) = refl

-- a star on the last part
pub star_last : (us : Trees) (t : Tree) → with_star (with_part us t) ≡ with_part us (star_of t)
star_last no_part t = refl
star_last (part u no_part) t = refl
star_last (part u (part v vs)) t = ap (part u) (star_last (part v vs) t)

-- a star after a factor with a star changes nothing
pub one_star : (f : Factor) (us : Trees)
    → (if has_star f then with_part us (factor_tree f) else with_star (with_part us (factor_tree f))) ≡ with_part us (factor_tree (starred f))
one_star (plain a) us = star_last us (atom_tree a)
one_star (starred f) us = refl

-- an atom that ended is settled
settled_atom : (t : Tree) (fs : List Open) (ts us : Trees)
    → settled (atom_ended t fs ts us) ≡ atom_ended t fs ts us
settled_atom t [] ts us = refl
settled_atom t (group ts' us' ∷ fs) ts us = refl
settled_atom t (negation l ∷ fs) ts us = settled_atom (not_of t l) fs ts us

-- after an atom the machine goes on after a factor
pub step_atom : (x : Terminal) (t : Tree) (fs : List Open) (ts us : Trees)
    → step_done (atom_ended t fs ts us) x ≡ step (atom_ended t fs ts us) x
step_atom x t [] ts us = refl
step_atom x t (group ts' us' ∷ fs) ts us = refl
step_atom x t (negation l ∷ fs) ts us = step_atom x (not_of t l) fs ts us

-- a name with no sign of its own after it is an atom
named_free : (w : Ident) (fs : List Open) (ts us : Trees) (r : List Terminal) → IsFree r
    → outcome r (state (place.Named w) fs ts us) ≡ outcome r (atom_ended (name_of w) fs ts us)
named_free w fs ts us [] free = ap (λ s. Some s) (sym (settled_atom (name_of w) fs ts us))
named_free w fs ts us (x ∷ r) free =
    let e : step (state (place.Named w) fs ts us) x ≡ step (atom_ended (name_of w) fs ts us) x =
    rw free.0 (rw free.1 (rw free.2 (step_atom x (name_of w) fs ts us))) in
    ap (λ o. option_map settled (option_and_then (run r) o)) e

mutual
  pub pol_passes : (p : Pol) (fs : List Open) (r : List Terminal) → HasNoNegation fs → IsFree r
      → outcome (spell_pol p ++ r) (state place.Want fs no_part no_part) ≡ outcome r (state (place.After (pol_has_star p)) fs (early p) (late p))
  pol_passes (one_term t) fs r top free = term_passes t fs no_part r top free
  pol_passes (plus p t) fs r top free =
      rw (append_assoc (spell_pol p) (plus_sign ∷ spell_term t) r)
      (pol_passes p fs (plus_sign ∷ spell_term t ++ r) top (refl, refl, refl)
      ∙ ap (λ x. outcome (spell_term t ++ r) (state place.Want fs x no_part)) (early_late p)
      ∙ term_passes t fs (terms_of p) r top free)

  pub term_passes : (t : Term) (fs : List Open) (ts : Trees) (r : List Terminal) → HasNoNegation fs → IsFree r
      → outcome (spell_term t ++ r) (state place.Want fs ts no_part) ≡ outcome r (state (place.After (term_has_star t)) fs ts (factors_of t))
  term_passes (one_factor f) fs ts r top free = factor_passes f fs ts no_part r top free
  term_passes (semi t f) fs ts r top free =
      rw (append_assoc (spell_term t) (semicolon ∷ spell_factor f) r)
      (term_passes t fs ts (semicolon ∷ spell_factor f ++ r) top (refl, refl, refl) ∙ factor_passes f fs ts (factors_of t) r top free)

  pub factor_passes : (f : Factor) (fs : List Open) (ts us : Trees) (r : List Terminal)
      → HasNoNegation fs → IsFree r
      → outcome (spell_factor f ++ r) (state place.Want fs ts us) ≡ outcome r (state (place.After (has_star f)) fs ts (with_part us (factor_tree f)))
  factor_passes (plain a) fs ts us r top free = atom_passes a fs ts us r free ∙ ap (outcome r) (top (atom_tree a) ts us)
  factor_passes (starred f) fs ts us r top free =
      rw (append_assoc (spell_factor f) (star_sign ∷ []) r)
      (factor_passes f fs ts us (star_sign ∷ r) top (refl, refl, refl)
      ∙ ap (λ x. outcome r (state (place.After true) fs ts x)) (one_star f us))

  pub atom_passes : (a : Atom) (fs : List Open) (ts us : Trees) (r : List Terminal) → IsFree r
      → outcome (spell_atom a ++ r) (state place.Want fs ts us) ≡ outcome r (atom_ended (atom_tree a) fs ts us)
  atom_passes (written_not l a) fs ts us r free = atom_passes a (negation l ∷ fs) ts us r free
  atom_passes (written_name w) fs ts us r free = named_free w fs ts us r free
  atom_passes (paren p) fs ts us r free =
      rw (append_assoc (spell_pol p) (closing ∷ []) r)
      (pol_passes p (group ts us ∷ fs) (closing ∷ r) (λ t ts us. refl) (refl, refl, refl)
      ∙ ap (λ x. outcome r (atom_ended (sum_from x) fs ts us)) (early_late p))
  atom_passes a fs ts us r free = refl

-- a policy's tokens leave the policy done
pub reads : (p : Pol)
    → outcome (spell_pol p) first_state ≡ Some (state (place.After (pol_has_star p)) [] (early p) (late p))
reads p = rw append-nil at (pol_passes p [] [] (λ t ts us. refl) tt)

-- what the tokens give at their end
pub ended_outcome : (o : Option State) → option_and_then policy_ended o ≡ option_and_then done (option_map settled o)
ended_outcome None = refl
ended_outcome (Some s) = refl

-- the tokens of a policy give its tree
pub reads_tree : (ts : List Terminal) (t : Tree) → HasTree ts t
    → option_and_then policy_ended (run ts first_state) ≡ Some t
reads_tree ts t h =
    ended_outcome (run ts first_state)
    ∙ ap (λ x. option_and_then done (outcome x first_state)) h.1
    ∙ ap (option_and_then done) (reads h.0)
    ∙ ap (λ x. Some (sum_from x)) (early_late h.0)
    ∙ ap (λ x. Some x) (sym h.2)
