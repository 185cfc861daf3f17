-- How many parentheses and `~` are open after each token of a text, by its spelling alone. A parenthesis is open from its
-- token until its closing one; a `~` from its token until the atom that it negates ends, which it does with its last token.
-- Which atom a name begins is the spelling's to say: in `~a` nothing is open after `a`, in `~a = 1` the `~` is, until the 1,
-- and in `~a in 1..2` until the 2.
use Rattle.std.specs.Prelude.{◌≡◌, ◌≤◌, ◌<◌, ℕ, suc, List, [], ◌∷◌, ◌++◌, ⊤}
use Rattle.nk_lex.specs.declared.ident.Number.{Number}
use Rattle.nk_grammar.specs.Terminal.{Terminal, tilde, opening, closing, plus_sign, semicolon, star_sign}
use Rattle.nk_grammar.specs.Grammar.{Pol, Term, Factor, Atom, one_term, plus, one_factor, semi, plain, starred, written_not, written_id, written_drop, written_dup, written_name, written_test, written_range, written_set, written_link, paren}
use Rattle.nk_grammar.specs.File.{Written, written_field, written_tag, written_switch, written_declared_link, written_let, written_fabric, written_virtual, spell_file}

abbrev mutual
  -- after each token of a policy around which n are open
  pub open_in_pol : ℕ → Pol → List ℕ
  open_in_pol n (one_term t) = open_in_term n t
  open_in_pol n (plus p t) = open_in_pol n p ++ n ∷ open_in_term n t

  pub open_in_term : ℕ → Term → List ℕ
  open_in_term n (one_factor f) = open_in_factor n f
  open_in_term n (semi t f) = open_in_term n t ++ n ∷ open_in_factor n f

  -- after an atom's last token neither it nor a `~` before it is open
  pub open_in_factor : ℕ → Factor → List ℕ
  open_in_factor n (plain a) = open_in_atom n a ++ n ∷ []
  open_in_factor n (starred f) = open_in_factor n f ++ n ∷ []

  -- after each token of an atom but the last
  pub open_in_atom : ℕ → Atom → List ℕ
  open_in_atom n (written_not line a) = suc n ∷ open_in_atom (suc n) a
  open_in_atom n written_id = []
  open_in_atom n written_drop = []
  open_in_atom n written_dup = []
  open_in_atom n (written_name w) = []
  open_in_atom n (written_test w m) = n ∷ n ∷ []
  open_in_atom n (written_range w a b) = n ∷ n ∷ n ∷ n ∷ []
  open_in_atom n (written_set w m) = n ∷ n ∷ []
  open_in_atom n (written_link a m b k) = n ∷ n ∷ n ∷ n ∷ n ∷ n ∷ []
  open_in_atom n (paren p) = suc n ∷ open_in_pol (suc n) p

-- after each token of further ports
abbrev pub open_in_ports : List Number → List ℕ
open_in_ports [] = []
open_in_ports (p ∷ ps) = 0 ∷ 0 ∷ open_in_ports ps

-- after each token of a declaration: nothing is open but in the policy of a `let` or a fabric
abbrev pub open_in_declaration : Written → List ℕ
open_in_declaration (written_field w n) = 0 ∷ 0 ∷ 0 ∷ []
open_in_declaration (written_tag w) = 0 ∷ 0 ∷ []
open_in_declaration (written_switch n p ps) = 0 ∷ 0 ∷ 0 ∷ 0 ∷ open_in_ports ps
open_in_declaration (written_declared_link a m b n) = 0 ∷ 0 ∷ 0 ∷ 0 ∷ 0 ∷ 0 ∷ 0 ∷ 0 ∷ []
open_in_declaration (written_let line w p) = 0 ∷ 0 ∷ 0 ∷ open_in_pol 0 p
open_in_declaration (written_fabric line w p) = 0 ∷ 0 ∷ 0 ∷ open_in_pol 0 p
open_in_declaration (written_virtual a m b n w) = 0 ∷ 0 ∷ 0 ∷ 0 ∷ 0 ∷ 0 ∷ 0 ∷ 0 ∷ 0 ∷ 0 ∷ []

-- after each token of a text
abbrev pub open_in_file : List Written → List ℕ
open_in_file [] = []
open_in_file (w ∷ ws) = open_in_declaration w ++ open_in_file ws

-- what a token does: `(` and `~` open one more, `)` leaves fewer open, signs between factors and terms leave as many, and no
-- other token opens any
abbrev pub Changes : Terminal → ℕ → ℕ → Type 0
Changes (tilde line) before following = following ≡ suc before
Changes opening before following = following ≡ suc before
Changes closing before following = following < before
Changes plus_sign before following = following ≡ before
Changes semicolon before following = following ≡ before
Changes star_sign before following = following ≡ before
Changes t before following = following ≤ before

-- there is one count for each token, and each token changes it so, from the count before the first token on
abbrev pub GoWith : ℕ → List ℕ → List Terminal → Type 0
GoWith before [] [] = ⊤
GoWith before [] (t ∷ ts) = ⊥
GoWith before (k ∷ ks) [] = ⊥
GoWith before (k ∷ ks) (t ∷ ts) = Changes t before k × GoWith k ks ts

-- the counts of a text go with its tokens
abbrev pub CountsGoWithTokens : Type 0
CountsGoWithTokens = (ws : List Written) → GoWith 0 (open_in_file ws) (spell_file ws)
