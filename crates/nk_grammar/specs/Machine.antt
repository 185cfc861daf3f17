-- A policy read token by token: what may come next, and what is open.
use Rattle.std.specs.Prelude.{◌≡◌, ℕ, List, [], ◌∷◌, Bool, true, false, Option, Some, None, if◌then◌else◌, option_and_then}
use Rattle.nk_lex.specs.declared.ident.Number.{Number}
use Rattle.nk_lex.specs.declared.quad.Quad.{Quad}
use Rattle.nk_lex.specs.declared.quad.Quad.TheVariants as quad
use Rattle.nk_lex.specs.declared.quad.QuadNext.{QuadNext}
use Rattle.nk_lex.specs.declared.quad.QuadNext.TheVariants as next
use Rattle.nk_grammar.specs.declared.place.Place.{Place}
use Rattle.nk_grammar.specs.declared.place.Place.TheVariants as place
use Rattle.nk_grammar.specs.Terminal.{Terminal, name, number, tilde, opening, closing, plus_sign, semicolon, star_sign, id_word, drop_word, dup_word, is_equal, is_in_word, is_dots, is_becomes, is_colon_terminal, is_link_sign}
use Rattle.nk_grammar.specs.Grammar.{HasTree, PolicyGoesOn}
use Rattle.nk_grammar.specs.Tree.{Tree, Trees, name_of, test, range, assign, sum_of, seq_of, not_of, dup, link, no_part, with_part, sum_from, seq_from, with_star}

-- what is open: a parenthesis with the terms and factors before it, or a `~` with its line
pub data Open : Type 0 where
  group : (terms factors : Trees) → Open
  negation : (line : ℕ) → Open

-- a policy that is read: what may come next, what is open (the innermost first), and the terms and
-- factors that are done
pub record State : Type 0 where
  pub place : Place
  pub frames : List Open
  pub terms : Trees
  pub factors : Trees

-- a state by its parts
abbrev pub state : Place → List Open → Trees → Trees → State
state p fs ts us = record { place = p; frames = fs; terms = ts; factors = us }

-- before the first token
abbrev pub first_state : State
first_state = state place.Want [] no_part no_part

-- an atom ended, and with it each `~` before it
abbrev pub atom_ended : Tree → List Open → Trees → Trees → State
atom_ended t [] ts us = state (place.After false) [] ts (with_part us t)
atom_ended t (group ts' us' ∷ fs) ts us = state (place.After false) (group ts' us' ∷ fs) ts (with_part us t)
atom_ended t (negation line ∷ fs) ts us = atom_ended (not_of t line) fs ts us

-- no `~` is the innermost one that is open
abbrev pub HasNoNegation : List Open → Type 0
HasNoNegation fs = (t : Tree) (ts us : Trees) → atom_ended t fs ts us ≡ state (place.After false) fs ts (with_part us t)

-- the policy whose terms but the last, and whose last term's factors, are these
abbrev pub terms_joined : Trees → Trees → Tree
terms_joined ts us = sum_from (with_part ts (seq_from us))

-- a parenthesis closes
abbrev pub close : List Open → Tree → Option State
close [] t = None
close (group ts us ∷ fs) t = Some (atom_ended t fs ts us)
close (negation line ∷ fs) t = None

-- the number that a token is, if it is one
abbrev pub number_in : Terminal → Option Number
number_in (number n) = Some n
number_in t = None

-- by the number, or the other
abbrev pub in_option : {A : Type 0} → Option Number → A → (Number → A) → A
in_option (Some n) other f = f n
in_option None other f = other

-- a number may come
abbrev pub with_number : {A : Type 0} → Terminal → A → (Number → A) → A
with_number t other f = in_option (number_in t) other f

-- one more token of a link
abbrev pub quad_step : Bool → Quad → Terminal → QuadNext
quad_step literal quad.Start t = with_number t next.Refused (λ a. next.Going (quad.Switch a))
quad_step literal (quad.Switch a) t = if is_colon_terminal t then next.Going (quad.SwitchColon a) else next.Refused
quad_step literal (quad.SwitchColon a) t = with_number t next.Refused (λ m. next.Going (quad.Port a m))
quad_step literal (quad.Port a m) t = if is_link_sign literal t then next.Going (quad.Arrow a m) else next.Refused
quad_step literal (quad.Arrow a m) t = with_number t next.Refused (λ b. next.Going (quad.ToSwitch a m b))
quad_step literal (quad.ToSwitch a m b) t = if is_colon_terminal t then next.Going (quad.ToColon a m b) else next.Refused
quad_step literal (quad.ToColon a m b) t = with_number t next.Refused (λ n. next.Full a m b n)

-- an atom is wanted
abbrev pub begin : List Open → Trees → Trees → Terminal → Option State
begin fs ts us (tilde line) = Some (state place.Want (negation line ∷ fs) ts us)
begin fs ts us opening = Some (state place.Want (group ts us ∷ fs) no_part no_part)
begin fs ts us id_word = Some (atom_ended (seq_of no_part) fs ts us)
begin fs ts us drop_word = Some (atom_ended (sum_of no_part) fs ts us)
begin fs ts us dup_word = Some (atom_ended dup fs ts us)
begin fs ts us (name w) = Some (state (place.Named w) fs ts us)
begin fs ts us (number a) = Some (state (place.Linked (quad.Switch a)) fs ts us)
begin fs ts us t = None

-- a factor stands there
abbrev pub after_factor : Bool → List Open → Trees → Trees → Terminal → Option State
after_factor starred fs ts us plus_sign = Some (state place.Want fs (with_part ts (seq_from us)) no_part)
after_factor starred fs ts us semicolon = Some (state place.Want fs ts us)
after_factor starred fs ts us star_sign = Some (state (place.After true) fs ts (if starred then us else with_star us))
after_factor starred fs ts us closing = close fs (terms_joined ts us)
after_factor starred fs ts us t = None

-- one more token of a link literal
abbrev pub linked : List Open → Trees → Trees → QuadNext → Option State
linked fs ts us next.Refused = None
linked fs ts us (next.Going q) = Some (state (place.Linked q) fs ts us)
linked fs ts us (next.Full a m b n) = Some (atom_ended (link a m b n) fs ts us)

-- the factor that stands there, if one does, goes on
abbrev pub go_on_from : Place → List Open → Trees → Trees → Terminal → Option State
go_on_from (place.After starred) fs ts us t = after_factor starred fs ts us t
go_on_from p fs ts us t = None

-- the factor that stands at a state's place, if one does, goes on
abbrev pub step_done : State → Terminal → Option State
step_done s t = go_on_from s.place s.frames s.terms s.factors t

-- one more token, by what may come next
abbrev pub step_at : Place → List Open → Trees → Trees → Terminal → Option State
step_at place.Want fs ts us t = begin fs ts us t
step_at (place.Named w) fs ts us t =
    if is_equal t then Some (state (place.Tested w) fs ts us)
    else if is_in_word t then Some (state (place.Ranged w) fs ts us)
    else if is_becomes t then Some (state (place.Assigned w) fs ts us)
    else step_done (atom_ended (name_of w) fs ts us) t
step_at (place.Tested w) fs ts us t = with_number t None (λ n. Some (atom_ended (test w n) fs ts us))
step_at (place.Ranged w) fs ts us t = with_number t None (λ a. Some (state (place.RangedFrom w a) fs ts us))
step_at (place.RangedFrom w a) fs ts us t = if is_dots t then Some (state (place.RangedTo w a) fs ts us) else None
step_at (place.RangedTo w a) fs ts us t = with_number t None (λ b. Some (atom_ended (range w a b) fs ts us))
step_at (place.Assigned w) fs ts us t = with_number t None (λ n. Some (atom_ended (assign w n) fs ts us))
step_at (place.Linked q) fs ts us t = linked fs ts us (quad_step true q t)
step_at (place.After starred) fs ts us t = after_factor starred fs ts us t

-- one more token
abbrev pub step : State → Terminal → Option State
step s t = step_at s.place s.frames s.terms s.factors t

-- all tokens of a list
abbrev pub run : List Terminal → State → Option State
run [] s = Some s
run (t ∷ ts) s = option_and_then (run ts) (step s t)

-- where a name stands, it is an atom
abbrev pub settled_at : Place → State → State
settled_at (place.Named w) s = atom_ended (name_of w) s.frames s.terms s.factors
settled_at p s = s

-- the state, with a name that stands at its place taken as an atom
abbrev pub settled : State → State
settled s = settled_at s.place s

-- a policy may end after a factor where nothing is open
abbrev pub done_at : Place → List Open → Tree → Option Tree
done_at (place.After starred) [] t = Some t
done_at p fs t = None

-- the policy of a state, if a policy may end there: after a factor, where nothing is open
abbrev pub done : State → Option Tree
done s = done_at s.place s.frames (terms_joined s.terms s.factors)

-- the policy, if it may end here
abbrev pub policy_ended : State → Option Tree
policy_ended s = done (settled s)

-- the tokens of a policy give its syntax tree, so they are those of no other
abbrev pub ReadsPolicies : Type 0
ReadsPolicies = (ts : List Terminal) (t : Tree) → HasTree ts t → option_and_then policy_ended (run ts first_state) ≡ Some t

-- what is read as a policy is one
abbrev pub ReadsOnlyPolicies : Type 0
ReadsOnlyPolicies = (ts : List Terminal) (t : Tree) → option_and_then policy_ended (run ts first_state) ≡ Some t → HasTree ts t

-- tokens that are taken are the front of a policy
abbrev pub TakesFronts : Type 0
TakesFronts = (ts : List Terminal) (s : State) → run ts first_state ≡ Some s → PolicyGoesOn ts

-- and those that are refused are the front of none
abbrev pub RefusesOthers : Type 0
RefusesOthers = (ts : List Terminal) → run ts first_state ≡ None → PolicyGoesOn ts → ⊥
