-- The front of a policy: what is done, and what is open.
use Rattle.std.proofs.Common.{◌≡◌, ℕ, subst, List, [], ◌∷◌, ◌++◌, Bool, true, false, refl, sym, ◌∙◌, ap, append_assoc, append-nil, Option}
use Rattle.std.specs.Prelude.{Some, None, option_and_then, option_map, if◌then◌else◌}
use Rattle.nk_lex.specs.declared.ident.Ident.{Ident}
use Rattle.nk_lex.specs.declared.ident.Number.{Number}
use Rattle.nk_grammar.specs.declared.place.Place.{Place}
use Rattle.nk_grammar.specs.declared.place.Place.TheVariants as place
use Rattle.nk_lex.specs.declared.quad.Quad.{Quad}
use Rattle.nk_lex.specs.declared.quad.Quad.TheVariants as quad
use Rattle.nk_lex.specs.declared.quad.QuadNext.{QuadNext}
use Rattle.nk_lex.specs.declared.quad.QuadNext.TheVariants as next
use Rattle.nk_grammar.specs.Terminal.{Terminal, name, number, tilde, opening, closing, plus_sign, semicolon, star_sign, equal, becomes, colon, fat_arrow, id_word, drop_word, dup_word, in_word, dots, is_equal, is_in_word, is_dots, is_becomes}
use Rattle.nk_grammar.specs.Tree.{Tree, Trees, name_of, test, range, assign, no_part, with_part, sum_from, seq_from}
use Rattle.nk_grammar.specs.Grammar.{Pol, Term, Factor, Atom, one_term, plus, one_factor, semi, plain, starred, written_not, written_id, written_drop, written_dup, written_name, written_test, written_range, written_set, written_link, paren, spell_pol, spell_term, spell_factor, spell_atom, terms_of, factors_of, factor_tree, atom_tree, HasTree, PolicyGoesOn}
use Rattle.nk_grammar.specs.Machine.{Open, group, negation, State, state, first_state, atom_ended, terms_joined, close, with_number, quad_step, begin, linked, step, run, settled, policy_ended, done}
use Rattle.nk_grammar.proofs.Spelled.{has_star, one_star, reads, step_atom}
use Rattle.nk_grammar.proofs.Links.{spell_quad, IsQuadSpelledWith, quad_spell}

mutual
  -- where an atom is wanted: after terms and factors, or after a `~`
  pub data Before : Type 0 where
    layer : Outer → Option Pol → Option Term → Before
    negated : Before → (line : ℕ) → Before

  -- around it: nothing, or an open parenthesis
  pub data Outer : Type 0 where
    outermost : Outer
    in_group : Before → Outer

-- the front: an atom is wanted, a part of one stands there, or a factor does
pub data Front : Type 0 where
  wants : Before → Front
  named : Before → Ident → Front
  tested : Before → Ident → Front
  ranged : Before → Ident → Front
  ranged_from : Before → Ident → (low : Number) → Front
  ranged_to : Before → Ident → (low : Number) → Front
  assigned : Before → Ident → Front
  partly_linked : Before → Quad → Front
  stands : Outer → Option Pol → Option Term → Factor → Front

-- the tokens of the terms that are done
abbrev before_pol : Option Pol → List Terminal
before_pol None = []
before_pol (Some p) = spell_pol p ++ plus_sign ∷ []

-- the tokens of the factors that are done
abbrev before_term : Option Term → List Terminal
before_term None = []
before_term (Some t) = spell_term t ++ semicolon ∷ []

-- the tokens of terms and factors that are done
abbrev pre : Option Pol → Option Term → List Terminal
pre sp st = before_pol sp ++ before_term st

abbrev mutual
  pub spell_before : Before → List Terminal
  spell_before (layer o sp st) = spell_outer o ++ pre sp st
  spell_before (negated c line) = spell_before c ++ tilde line ∷ []

  pub spell_outer : Outer → List Terminal
  spell_outer outermost = []
  spell_outer (in_group c) = spell_before c ++ opening ∷ []

-- the tokens of a front
abbrev spell_front : Front → List Terminal
spell_front (wants c) = spell_before c
spell_front (named c w) = spell_before c ++ name w ∷ []
spell_front (tested c w) = spell_before c ++ name w ∷ equal ∷ []
spell_front (ranged c w) = spell_before c ++ name w ∷ in_word ∷ []
spell_front (ranged_from c w a) = spell_before c ++ name w ∷ in_word ∷ number a ∷ []
spell_front (ranged_to c w a) = spell_before c ++ name w ∷ in_word ∷ number a ∷ dots ∷ []
spell_front (assigned c w) = spell_before c ++ name w ∷ becomes ∷ []
spell_front (partly_linked c q) = spell_before c ++ spell_quad true q
spell_front (stands o sp st f) = (spell_outer o ++ pre sp st) ++ spell_factor f

-- the trees of the terms that are done
abbrev done_terms : Option Pol → Trees
done_terms None = no_part
done_terms (Some p) = terms_of p

-- the trees of the factors that are done
abbrev done_factors : Option Term → Trees
done_factors None = no_part
done_factors (Some t) = factors_of t

abbrev mutual
  frames_of : Before → List Open
  frames_of (layer o sp st) = outer_frames o
  frames_of (negated c line) = negation line ∷ frames_of c

  outer_frames : Outer → List Open
  outer_frames outermost = []
  outer_frames (in_group c) = group (before_terms c) (before_factors c) ∷ frames_of c

  before_terms : Before → Trees
  before_terms (layer o sp st) = done_terms sp
  before_terms (negated c line) = before_terms c

  before_factors : Before → Trees
  before_factors (layer o sp st) = done_factors st
  before_factors (negated c line) = before_factors c

-- the machine's state where an atom is wanted, or a part of one stands
abbrev state_before : Place → Before → State
state_before p c = state p (frames_of c) (before_terms c) (before_factors c)

-- the machine's state at a front
abbrev state_of : Front → State
state_of (wants c) = state_before place.Want c
state_of (named c w) = state_before (place.Named w) c
state_of (tested c w) = state_before (place.Tested w) c
state_of (ranged c w) = state_before (place.Ranged w) c
state_of (ranged_from c w a) = state_before (place.RangedFrom w a) c
state_of (ranged_to c w a) = state_before (place.RangedTo w a) c
state_of (assigned c w) = state_before (place.Assigned w) c
state_of (partly_linked c q) = state_before (place.Linked q) c
state_of (stands o sp st f) = state (place.After (has_star f)) (outer_frames o) (done_terms sp) (with_part (done_factors st) (factor_tree f))

-- an atom ends where one was wanted
abbrev fill : Before → Atom → Front
fill (layer o sp st) a = stands o sp st (plain a)
fill (negated c line) a = fill c (written_not line a)

-- an atom ends after terms and factors
fill_outer : (o : Outer) (t : Tree) (ts us : Trees)
    → atom_ended t (outer_frames o) ts us ≡ state (place.After false) (outer_frames o) ts (with_part us t)
fill_outer outermost t ts us = refl
fill_outer (in_group c) t ts us = refl

-- the machine does the same when an atom ends
fill_state : (c : Before) (a : Atom)
    → state_of (fill c a) ≡ atom_ended (atom_tree a) (frames_of c) (before_terms c) (before_factors c)
fill_state (layer o sp st) a = sym (fill_outer o (atom_tree a) (done_terms sp) (done_factors st))
fill_state (negated c line) a = fill_state c (written_not line a)

-- an atom's tokens stand after the front's
fill_spell : (c : Before) (a : Atom) → spell_front (fill c a) ≡ spell_before c ++ spell_atom a
fill_spell (layer o sp st) a = refl
fill_spell (negated c line) a = fill_spell c (written_not line a) ∙ sym (append_assoc (spell_before c) (tilde line ∷ []) (spell_atom a))

-- the factors that are done, and one more
abbrev term_with : Option Term → Factor → Term
term_with None f = one_factor f
term_with (Some t) f = semi t f

-- the terms that are done, and one more
abbrev pol_with : Option Pol → Term → Pol
pol_with None t = one_term t
pol_with (Some p) t = plus p t

-- the tokens of a term with one more factor
term_spell : (st : Option Term) (f : Factor) → before_term st ++ spell_factor f ≡ spell_term (term_with st f)
term_spell None f = refl
term_spell (Some t) f = append_assoc (spell_term t) (semicolon ∷ []) (spell_factor f)

-- the trees of a term with one more factor
term_trees : (st : Option Term) (f : Factor)
    → with_part (done_factors st) (factor_tree f) ≡ factors_of (term_with st f)
term_trees None f = refl
term_trees (Some t) f = refl

-- the tokens of a policy with one more term
pol_spell : (sp : Option Pol) (t : Term) → before_pol sp ++ spell_term t ≡ spell_pol (pol_with sp t)
pol_spell None t = refl
pol_spell (Some p) t = append_assoc (spell_pol p) (plus_sign ∷ []) (spell_term t)

-- the trees of a policy with one more term
pol_trees : (sp : Option Pol) (t : Term)
    → with_part (done_terms sp) (seq_from (factors_of t)) ≡ terms_of (pol_with sp t)
pol_trees None t = refl
pol_trees (Some p) t = refl

-- all that stands there as one
abbrev all_of : Option Pol → Option Term → Factor → Pol
all_of sp st f = pol_with sp (term_with st f)

-- the tokens of the policy that stands there
whole : (sp : Option Pol) (st : Option Term) (f : Factor)
    → pre sp st ++ spell_factor f ≡ spell_pol (all_of sp st f)
whole sp st f = append_assoc (before_pol sp) (before_term st) (spell_factor f)
    ∙ ap (λ x. before_pol sp ++ x) (term_spell st f) ∙ pol_spell sp (term_with st f)

-- the trees of the policy that stands there
all_terms : (sp : Option Pol) (st : Option Term) (f : Factor)
    → with_part (done_terms sp) (seq_from (with_part (done_factors st) (factor_tree f))) ≡ terms_of (all_of sp st f)
all_terms sp st f = ap (λ x. with_part (done_terms sp) (seq_from x)) (term_trees st f) ∙ pol_trees sp (term_with st f)

-- a parenthesis closes
abbrev closed : Outer → Pol → Option Front
closed outermost p = None
closed (in_group c) p = Some (fill c (paren p))

-- a factor stands there, and goes on
abbrev next_standing : Outer → Option Pol → Option Term → Factor → Terminal → Option Front
next_standing o sp st f plus_sign = Some (wants (layer o (Some (all_of sp st f)) None))
next_standing o sp st f semicolon = Some (wants (layer o sp (Some (term_with st f))))
next_standing o sp st f star_sign = Some (stands o sp st (starred f))
next_standing o sp st f closing = closed o (all_of sp st f)
next_standing o sp st f t = None

-- one more token after a factor
abbrev next_done : Front → Terminal → Option Front
next_done (stands o sp st f) t = next_standing o sp st f t
next_done p t = None

-- an atom begins
abbrev next_wanted : Before → Terminal → Option Front
next_wanted c (name w) = Some (named c w)
next_wanted c (number a) = Some (partly_linked c (quad.Switch a))
next_wanted c (tilde line) = Some (wants (negated c line))
next_wanted c opening = Some (wants (layer (in_group c) None None))
next_wanted c id_word = Some (fill c written_id)
next_wanted c drop_word = Some (fill c written_drop)
next_wanted c dup_word = Some (fill c written_dup)
next_wanted c t = None

-- one more token of a link
abbrev next_linked : Before → QuadNext → Option Front
next_linked c next.Refused = None
next_linked c (next.Going q) = Some (partly_linked c q)
next_linked c (next.Full a m b n) = Some (fill c (written_link a m b n))

-- the front after one more token
abbrev next_front : Front → Terminal → Option Front
next_front (wants c) t = next_wanted c t
next_front (named c w) t =
    if is_equal t then Some (tested c w)
    else if is_in_word t then Some (ranged c w)
    else if is_becomes t then Some (assigned c w)
    else next_done (fill c (written_name w)) t
next_front (tested c w) t = with_number t None (λ n. Some (fill c (written_test w n)))
next_front (ranged c w) t = with_number t None (λ a. Some (ranged_from c w a))
next_front (ranged_from c w a) t = if is_dots t then Some (ranged_to c w a) else None
next_front (ranged_to c w a) t = with_number t None (λ b. Some (fill c (written_range w a b)))
next_front (assigned c w) t = with_number t None (λ n. Some (fill c (written_set w n)))
next_front (partly_linked c q) t = next_linked c (quad_step true q t)
next_front (stands o sp st f) t = next_standing o sp st f t

-- equal values are equal where they are there
some : {A : Type 0} {x y : A} → x ≡ y → Some x ≡ Some y
some e = ap (λ z. Some z) e

-- the machine closes a parenthesis alike
close_state : (o : Outer) (sp : Option Pol) (st : Option Term) (f : Factor)
    → close (outer_frames o) (terms_joined (done_terms sp) (with_part (done_factors st) (factor_tree f))) ≡ option_map state_of (closed o (all_of sp st f))
close_state outermost sp st f = refl
close_state (in_group c) sp st f =
    some (ap (λ x. atom_ended (sum_from x) (frames_of c) (before_terms c) (before_factors c)) (all_terms sp st f) ∙ sym (fill_state c (paren (all_of sp st f))))

-- the machine goes as the fronts do
standing_state : (o : Outer) (sp : Option Pol) (st : Option Term) (f : Factor) (t : Terminal)
    → step (state_of (stands o sp st f)) t ≡ option_map state_of (next_standing o sp st f t)
standing_state o sp st f closing = close_state o sp st f
standing_state o sp st f plus_sign = some (ap (λ x. state place.Want (outer_frames o) x no_part) (all_terms sp st f))
standing_state o sp st f semicolon = some (ap (λ x. state place.Want (outer_frames o) (done_terms sp) x) (term_trees st f))
standing_state o sp st f star_sign = some (ap (λ x. state (place.After true) (outer_frames o) (done_terms sp) x) (one_star f (done_factors st)))
standing_state o sp st f t = refl

-- the machine begins an atom alike
wanted_state : (c : Before) (t : Terminal)
    → begin (frames_of c) (before_terms c) (before_factors c) t ≡ option_map state_of (next_wanted c t)
wanted_state c id_word = some (sym (fill_state c written_id))
wanted_state c drop_word = some (sym (fill_state c written_drop))
wanted_state c dup_word = some (sym (fill_state c written_dup))
wanted_state c t = refl

-- the machine goes on in a link alike
linked_state : (c : Before) (q : QuadNext)
    → linked (frames_of c) (before_terms c) (before_factors c) q ≡ option_map state_of (next_linked c q)
linked_state c next.Refused = refl
linked_state c (next.Going q) = refl
linked_state c (next.Full a m b n) = some (sym (fill_state c (written_link a m b n)))

-- the machine takes a number alike
number_state : (t : Terminal) (g : Number → State) (h : Number → Front)
    → ((n : Number) → g n ≡ state_of (h n))
    → with_number t None (λ n. Some (g n)) ≡ option_map state_of (with_number t None (λ n. Some (h n)))
number_state (number x) g h e = some (e x)
number_state t g h e = refl

-- the machine goes on after an atom alike
done_state : (c : Before) (a : Atom) (t : Terminal)
    → step (state_of (fill c a)) t ≡ option_map state_of (next_done (fill c a) t)
done_state (layer o sp st) a t = standing_state o sp st (plain a) t
done_state (negated c line) a t = done_state c (written_not line a) t

-- a test that both make
choice : (b : Bool) (s s' : Option State) (p p' : Option Front) → s ≡ option_map state_of p
    → s' ≡ option_map state_of p'
    → (if b then s else s') ≡ option_map state_of (if b then p else p')
choice true s s' p p' e e' = e
choice false s s' p p' e e' = e'

-- the machine goes as the fronts do
next_state : (p : Front) (t : Terminal) → step (state_of p) t ≡ option_map state_of (next_front p t)
next_state (wants c) t = wanted_state c t
next_state (named c w) t =
    choice (is_equal t) _ _ (Some (tested c w)) _ refl
    (choice (is_in_word t) _ _ (Some (ranged c w)) _ refl
    (choice (is_becomes t) _ _ (Some (assigned c w)) (next_done (fill c (written_name w)) t) refl
    (step_atom t (name_of w) (frames_of c) (before_terms c) (before_factors c) ∙ ap (λ s. step s t) (sym (fill_state c (written_name w))) ∙ done_state c (written_name w) t)))
next_state (tested c w) t = number_state t (λ n. atom_ended (test w n) (frames_of c) (before_terms c) (before_factors c)) (λ n. fill c (written_test w n)) (λ n. sym (fill_state c (written_test w n)))
next_state (ranged c w) t = number_state t (λ a. state_before (place.RangedFrom w a) c) (λ a. ranged_from c w a) (λ a. refl)
next_state (ranged_from c w a) t = choice (is_dots t) _ None (Some (ranged_to c w a)) None refl refl
next_state (ranged_to c w a) t = number_state t (λ b. atom_ended (range w a b) (frames_of c) (before_terms c) (before_factors c)) (λ b. fill c (written_range w a b)) (λ b. sym (fill_state c (written_range w a b)))
next_state (assigned c w) t = number_state t (λ n. atom_ended (assign w n) (frames_of c) (before_terms c) (before_factors c)) (λ n. fill c (written_set w n)) (λ n. sym (fill_state c (written_set w n)))
next_state (partly_linked c q) t = linked_state c (quad_step true q t)
next_state (stands o sp st f) t = standing_state o sp st f t

-- the next front is spelled with the token after it
abbrev IsSpelledWith : List Terminal → Terminal → Option Front → Type 0
IsSpelledWith ts t None = Unit {0}
IsSpelledWith ts t (Some q) = spell_front q ≡ ts ++ t ∷ []

-- the tokens with a semicolon
semi_spell : (sp : Option Pol) (st : Option Term) (f : Factor)
    → pre sp (Some (term_with st f)) ≡ (pre sp st ++ spell_factor f) ++ semicolon ∷ []
semi_spell sp st f =
    sym (append_assoc (before_pol sp) (spell_term (term_with st f)) (semicolon ∷ []))
    ∙ ap (λ x. (before_pol sp ++ x) ++ semicolon ∷ []) (sym (term_spell st f))
    ∙ ap (λ x. x ++ semicolon ∷ []) (sym (append_assoc (before_pol sp) (before_term st) (spell_factor f)))

-- the tokens with a plus
plus_spell : (sp : Option Pol) (st : Option Term) (f : Factor)
    → pre (Some (all_of sp st f)) None ≡ (pre sp st ++ spell_factor f) ++ plus_sign ∷ []
plus_spell sp st f = append-nil _ ∙ ap (λ x. x ++ plus_sign ∷ []) (sym (whole sp st f))

-- the tokens so far and one more
following : (us xs ys : List Terminal) (t : Terminal) (zs : List Terminal) → zs ≡ (xs ++ ys) ++ t ∷ []
    → us ++ zs ≡ ((us ++ xs) ++ ys) ++ t ∷ []
following us xs ys t zs e = rw e (simp append_assoc)

-- the tokens with a closing parenthesis
closed_spell : (o : Outer) (sp : Option Pol) (st : Option Term) (f : Factor)
    → IsSpelledWith ((spell_outer o ++ pre sp st) ++ spell_factor f) closing (closed o (all_of sp st f))
closed_spell outermost sp st f = tt
closed_spell (in_group c) sp st f =
    fill_spell c (paren (all_of sp st f))
    ∙ ap (λ x. spell_before c ++ opening ∷ (x ++ closing ∷ [])) (sym (whole sp st f))
    ∙ sym (append_assoc (spell_before c) (opening ∷ []) ((pre sp st ++ spell_factor f) ++ closing ∷ []))
    ∙ following (spell_before c ++ opening ∷ []) (pre sp st) (spell_factor f) closing _ refl

-- after a factor, the next front has the token
standing_spell : (o : Outer) (sp : Option Pol) (st : Option Term) (f : Factor) (t : Terminal)
    → IsSpelledWith ((spell_outer o ++ pre sp st) ++ spell_factor f) t (next_standing o sp st f t)
standing_spell o sp st f closing = closed_spell o sp st f
standing_spell o sp st f plus_sign = following (spell_outer o) (pre sp st) (spell_factor f) plus_sign _ (plus_spell sp st f)
standing_spell o sp st f semicolon = following (spell_outer o) (pre sp st) (spell_factor f) semicolon _ (semi_spell sp st f)
standing_spell o sp st f star_sign = sym (append_assoc (spell_outer o ++ pre sp st) (spell_factor f) (star_sign ∷ []))
standing_spell o sp st f t = tt

-- where an atom is wanted, the next front has the token
wanted_spell : (c : Before) (t : Terminal) → IsSpelledWith (spell_before c) t (next_wanted c t)
wanted_spell c (name x) = refl
wanted_spell c (number x) = refl
wanted_spell c (tilde l) = refl
wanted_spell c opening = append-nil _
wanted_spell c id_word = fill_spell c written_id
wanted_spell c drop_word = fill_spell c written_drop
wanted_spell c dup_word = fill_spell c written_dup
wanted_spell c t = tt

-- where a number is wanted, the next front has it
number_spell : (t : Terminal) (ts : List Terminal) (h : Number → Front)
    → ((n : Number) → spell_front (h n) ≡ ts ++ number n ∷ [])
    → IsSpelledWith ts t (with_number t None (λ n. Some (h n)))
number_spell (number x) ts h e = e x
number_spell t ts h e = tt

-- in a link literal, the next front has the token
linked_spell : (c : Before) (ts : List Terminal) (t : Terminal) (q : QuadNext)
    → IsQuadSpelledWith true ts t q → IsSpelledWith (spell_before c ++ ts) t (next_linked c q)
linked_spell c ts t next.Refused e = tt
linked_spell c ts t (next.Going q) e = ap (λ x. spell_before c ++ x) e ∙ sym (append_assoc (spell_before c) ts (t ∷ []))
linked_spell c ts t (next.Full a m b n) e = fill_spell c (written_link a m b n) ∙ ap (λ x. spell_before c ++ x) e ∙ sym (append_assoc (spell_before c) ts (t ∷ []))

-- after an atom, the next front has the token
done_spell : (c : Before) (a : Atom) (t : Terminal)
    → IsSpelledWith (spell_front (fill c a)) t (next_done (fill c a) t)
done_spell (layer o sp st) a t = standing_spell o sp st (plain a) t
done_spell (negated c line) a t = done_spell c (written_not line a) t

-- after a name, the next front has the token
named_spell : (c : Before) (w : Ident) (t : Terminal)
    → IsSpelledWith (spell_before c ++ name w ∷ []) t (next_done (fill c (written_name w)) t)
named_spell c w t = subst (λ ts. IsSpelledWith ts t (next_done (fill c (written_name w)) t)) (fill_spell c (written_name w)) (done_spell c (written_name w) t)

-- where `=` may come
equal_spell : (t : Terminal) (ts : List Terminal) (p : Front) (o : Option Front)
    → spell_front p ≡ ts ++ equal ∷ [] → IsSpelledWith ts t o
    → IsSpelledWith ts t (if is_equal t then Some p else o)
equal_spell equal ts p o e f = e
equal_spell t ts p o e f = f

-- where `in` may come
in_spell : (t : Terminal) (ts : List Terminal) (p : Front) (o : Option Front)
    → spell_front p ≡ ts ++ in_word ∷ [] → IsSpelledWith ts t o
    → IsSpelledWith ts t (if is_in_word t then Some p else o)
in_spell in_word ts p o e f = e
in_spell t ts p o e f = f

-- where `..` may come
dots_spell : (t : Terminal) (ts : List Terminal) (p : Front) (o : Option Front)
    → spell_front p ≡ ts ++ dots ∷ [] → IsSpelledWith ts t o
    → IsSpelledWith ts t (if is_dots t then Some p else o)
dots_spell dots ts p o e f = e
dots_spell t ts p o e f = f

-- where `:=` may come
becomes_spell : (t : Terminal) (ts : List Terminal) (p : Front) (o : Option Front)
    → spell_front p ≡ ts ++ becomes ∷ [] → IsSpelledWith ts t o
    → IsSpelledWith ts t (if is_becomes t then Some p else o)
becomes_spell becomes ts p o e f = e
becomes_spell t ts p o e f = f

-- the next front is spelled with the token
next_spell : (p : Front) (t : Terminal) → IsSpelledWith (spell_front p) t (next_front p t)
next_spell (wants c) t = wanted_spell c t
next_spell (named c w) t =
    equal_spell t (spell_front (named c w)) (tested c w) _ (sym (append_assoc (spell_before c) (name w ∷ []) (equal ∷ [])))
    (in_spell t (spell_front (named c w)) (ranged c w) _ (sym (append_assoc (spell_before c) (name w ∷ []) (in_word ∷ [])))
    (becomes_spell t (spell_front (named c w)) (assigned c w) (next_done (fill c (written_name w)) t) (sym (append_assoc (spell_before c) (name w ∷ []) (becomes ∷ []))) (named_spell c w t)))
next_spell (tested c w) t = number_spell t (spell_front (tested c w)) (λ n. fill c (written_test w n)) (λ n. fill_spell c (written_test w n) ∙ sym (append_assoc (spell_before c) (name w ∷ equal ∷ []) (number n ∷ [])))
next_spell (ranged c w) t =
    number_spell t (spell_front (ranged c w)) (λ a. ranged_from c w a) (λ a. sym (append_assoc (spell_before c) (name w ∷ in_word ∷ []) (number a ∷ [])))
next_spell (ranged_from c w a) t =
    dots_spell t (spell_front (ranged_from c w a)) (ranged_to c w a) None (sym (append_assoc (spell_before c) (name w ∷ in_word ∷ number a ∷ []) (dots ∷ []))) tt
next_spell (ranged_to c w a) t =
    number_spell t (spell_front (ranged_to c w a)) (λ b. fill c (written_range w a b)) (λ b. fill_spell c (written_range w a b) ∙ sym (append_assoc (spell_before c) (name w ∷ in_word ∷ number a ∷ dots ∷ []) (number b ∷ [])))
next_spell (assigned c w) t = number_spell t (spell_front (assigned c w)) (λ n. fill c (written_set w n)) (λ n. fill_spell c (written_set w n) ∙ sym (append_assoc (spell_before c) (name w ∷ becomes ∷ []) (number n ∷ [])))
next_spell (partly_linked c q) t = linked_spell c (spell_quad true q) t (quad_step true q t) (quad_spell true q t)
next_spell (stands o sp st f) t = standing_spell o sp st f t

-- nothing is not something
pub none_some : {A : Type 0} (s : A) → ◌≡◌ {A = Option A} None (Some s) → ⊥
none_some s e = cc

-- values that are there and equal are equal
pub some_same : {A : Type 0} (x y : A) → ◌≡◌ {A = Option A} (Some x) (Some y) → x ≡ y
some_same x y e = cc

-- every state that the machine comes to is that of a front with these tokens
pub reached : (ts : List Terminal) (p : Front) (s : State) → run ts (state_of p) ≡ Some s
    → (q : Front) × (spell_front q ≡ spell_front p ++ ts) × (s ≡ state_of q)
reached [] p s e = (p, sym (append-nil (spell_front p)), cc)
reached (t ∷ ts) p s e = by_next (next_front p t) (rw (next_state p t) at e) (next_spell p t) (λ q h. reached ts q s h)
  where
    by_next : (o : Option Front) → option_and_then (run ts) (option_map state_of o) ≡ Some s
        → IsSpelledWith (spell_front p) t o
        → ((q : Front) → run ts (state_of q) ≡ Some s → (r : Front) × (spell_front r ≡ spell_front q ++ ts) × (s ≡ state_of r))
        → (q : Front) × (spell_front q ≡ spell_front p ++ t ∷ ts) × (s ≡ state_of q)
    by_next None e w go = absurd (none_some s e)
    by_next (Some q) e w go =
        let r = go q e in
        (r.0, r.1 ∙ ap (λ x. x ++ ts) w ∙ append_assoc (spell_front p) (t ∷ []) ts, r.2)

-- a front of tokens is the front of a policy's
abbrev pub Completes : List Terminal → Type 0
Completes ts = (more : List Terminal) × (p : Pol) × (ts ++ more ≡ spell_pol p)

-- the tokens of a parenthesis that closes
closes : (us xs ys zs r : List Terminal) → xs ++ ys ≡ zs
    → (((us ++ opening ∷ []) ++ xs) ++ ys) ++ closing ∷ r ≡ (us ++ opening ∷ (zs ++ closing ∷ [])) ++ r
closes us xs ys zs r e = rw (sym e) (simp append_assoc)

mutual
  -- a place for an atom can be completed around it
  complete_before : (c : Before) (a : Atom) → Completes (spell_before c ++ spell_atom a)
  complete_before (layer o sp st) a = complete_standing o sp st (plain a)
  complete_before (negated c line) a =
      let r = complete_before c (written_not line a) in
      (r.0, r.1, ap (λ x. x ++ r.0) (append_assoc (spell_before c) (tilde line ∷ []) (spell_atom a)) ∙ r.2)

  complete_standing : (o : Outer) (sp : Option Pol) (st : Option Term) (f : Factor)
      → Completes ((spell_outer o ++ pre sp st) ++ spell_factor f)
  complete_standing outermost sp st f = ([], all_of sp st f, append-nil _ ∙ whole sp st f)
  complete_standing (in_group c) sp st f =
      let q : Pol = all_of sp st f in
      let r = complete_before c (paren q) in (
        closing ∷ r.0,
        r.1,
        closes (spell_before c) (pre sp st) (spell_factor f) (spell_pol q) r.0 (whole sp st f) ∙ r.2,
      )

-- more tokens complete it, so it can be completed
further : (ts more : List Terminal) → Completes (ts ++ more) → Completes ts
further ts more r = (more ++ r.0, r.1, sym (append_assoc ts more r.0) ∙ r.2)

-- a part of an atom can be completed
complete_named : (c : Before) (xs more : List Terminal) (a : Atom) → xs ++ more ≡ spell_atom a
    → Completes (spell_before c ++ xs)
complete_named c xs more a e =
    further (spell_before c ++ xs) more (subst Completes (ap (λ x. spell_before c ++ x) (sym e) ∙ sym (append_assoc (spell_before c) xs more)) (complete_before c a))

-- some number
zero_number : Number
zero_number = record { value = 0; line = 0 }

-- a part of a link literal can be completed
complete_quad : (c : Before) (q : Quad) → Completes (spell_before c ++ spell_quad true q)
complete_quad c quad.Start = complete_named c [] _ written_id refl
complete_quad c (quad.Switch a) = complete_named c _ (colon ∷ number a ∷ fat_arrow ∷ number a ∷ colon ∷ number a ∷ []) (written_link a a a a) refl
complete_quad c (quad.SwitchColon a) = complete_named c _ (number a ∷ fat_arrow ∷ number a ∷ colon ∷ number a ∷ []) (written_link a a a a) refl
complete_quad c (quad.Port a m) = complete_named c _ (fat_arrow ∷ number a ∷ colon ∷ number a ∷ []) (written_link a m a a) refl
complete_quad c (quad.Arrow a m) = complete_named c _ (number a ∷ colon ∷ number a ∷ []) (written_link a m a a) refl
complete_quad c (quad.ToSwitch a m b) = complete_named c _ (colon ∷ number a ∷ []) (written_link a m b a) refl
complete_quad c (quad.ToColon a m b) = complete_named c _ (number a ∷ []) (written_link a m b a) refl

-- each front can be completed
pub complete : (p : Front) → Completes (spell_front p)
complete (wants c) = further (spell_before c) (id_word ∷ []) (complete_before c written_id)
complete (named c w) = complete_named c _ [] (written_name w) refl
complete (tested c w) = complete_named c _ (number zero_number ∷ []) (written_test w zero_number) refl
complete (ranged c w) = complete_named c _ (number zero_number ∷ dots ∷ number zero_number ∷ []) (written_range w zero_number zero_number) refl
complete (ranged_from c w a) = complete_named c _ (dots ∷ number a ∷ []) (written_range w a a) refl
complete (ranged_to c w a) = complete_named c _ (number a ∷ []) (written_range w a a) refl
complete (assigned c w) = complete_named c _ (number zero_number ∷ []) (written_set w zero_number) refl
complete (partly_linked c q) = complete_quad c q
complete (stands o sp st f) = complete_standing o sp st f

-- tokens in two parts
pub run_append : (xs ys : List Terminal) (s : State) → run (xs ++ ys) s ≡ option_and_then (run ys) (run xs s)
run_append [] ys s = refl
run_append (x ∷ xs) ys s = by_step (step s x) (run_append xs ys)
  where
    by_step : (o : Option State)
        → ((s : State) → run (xs ++ ys) s ≡ option_and_then (run ys) (run xs s))
        → option_and_then (run (xs ++ ys)) o ≡ option_and_then (run ys) (option_and_then (run xs) o)
    by_step None go = refl
    by_step (Some s) go = go s

-- the front before the first token
abbrev pub at_start : Front
at_start = wants (layer outermost None None)

-- tokens that the machine takes are the front of a policy
pub goes_on : (ts : List Terminal) (s : State) → run ts first_state ≡ Some s → PolicyGoesOn ts
goes_on ts s e =
    let r = reached ts at_start s e in
    subst Completes r.1 (complete r.0)

-- and those that it refuses are none
pub stops : (ts : List Terminal) → run ts first_state ≡ None → PolicyGoesOn ts → ⊥
stops ts e g =
    let refused : run (ts ++ g.0) first_state ≡ None = run_append ts g.0 first_state ∙ ap (option_and_then (run g.0)) e in
    none_some _ (ap (option_map settled) (sym refused) ∙ ap (λ x. option_map settled (run x first_state)) g.2 ∙ reads g.1)

-- a front that ends after a factor is a policy
standing_ends : (o : Outer) (sp : Option Pol) (st : Option Term) (f : Factor) (t : Tree)
    → done (state_of (stands o sp st f)) ≡ Some t → HasTree (spell_front (stands o sp st f)) t
standing_ends outermost sp st f t e =
    let same : sum_from (terms_of (all_of sp st f)) ≡ t = some_same _ t (some (ap sum_from (sym (all_terms sp st f))) ∙ e) in
    (all_of sp st f, whole sp st f, sym same)
standing_ends (in_group c) sp st f t e = absurd (none_some t e)

-- a front that ends after an atom is a policy
filled_ends : (c : Before) (a : Atom) (t : Tree) → done (state_of (fill c a)) ≡ Some t
    → HasTree (spell_front (fill c a)) t
filled_ends (layer o sp st) a t e = standing_ends o sp st (plain a) t e
filled_ends (negated c line) a t e = filled_ends c (written_not line a) t e

-- a front that may end is a policy
front_ends : (p : Front) (t : Tree) → policy_ended (state_of p) ≡ Some t → HasTree (spell_front p) t
front_ends (stands o sp st f) t e = standing_ends o sp st f t e
front_ends (named c w) t e =
    subst (λ ts. HasTree ts t) (fill_spell c (written_name w)) (filled_ends c (written_name w) t (ap done (fill_state c (written_name w)) ∙ e))
front_ends p t e = absurd (none_some t e)

-- what the machine reads as a policy is one
pub reads_only : (ts : List Terminal) (t : Tree) → option_and_then policy_ended (run ts first_state) ≡ Some t
    → HasTree ts t
reads_only ts t e = by_state (run ts first_state) refl e
  where
    by_state : (o : Option State) → run ts first_state ≡ o → option_and_then policy_ended o ≡ Some t → HasTree ts t
    by_state None f e = absurd (none_some t e)
    by_state (Some s) f e =
        let r = reached ts at_start s f in
        subst (λ x. HasTree x t) r.1 (front_ends r.0 t (ap policy_ended (sym r.2) ∙ e))
