-- The grammar of policies: what is written is a tree, its tokens are the tree's spelling, and its
-- meaning is a syntax tree.
use Rattle.std.specs.Prelude.{◌≡◌, ℕ, List, [], ◌∷◌, ◌++◌}
use Rattle.nk_lex.specs.declared.ident.Ident.{Ident}
use Rattle.nk_lex.specs.declared.ident.Number.{Number}
use Rattle.nk_grammar.specs.Terminal.{Terminal, name, number, tilde, opening, closing, plus_sign, semicolon, star_sign, equal, becomes, colon, fat_arrow, id_word, drop_word, dup_word, in_word, dots}
use Rattle.nk_grammar.specs.Tree.{Tree, Trees, name_of, test, range, assign, sum_of, seq_of, not_of, star_of, dup, link, no_part, part, with_part, sum_from, seq_from}

mutual
  -- pol : term { + term }
  pub data Pol : Type 0 where
    one_term : Term → Pol
    plus : Pol → Term → Pol

  -- term : factor { ; factor }
  pub data Term : Type 0 where
    one_factor : Factor → Term
    semi : Term → Factor → Term

  -- factor : atom { * }
  pub data Factor : Type 0 where
    plain : Atom → Factor
    starred : Factor → Factor

  -- atom : ~ atom | id | drop | dup | NAME | NAME = NUMBER | NAME in NUMBER .. NUMBER
  --      | NAME := NUMBER | NUMBER : NUMBER => NUMBER : NUMBER | ( pol )
  pub data Atom : Type 0 where
    written_not : (line : ℕ) → Atom → Atom
    written_id : Atom
    written_drop : Atom
    written_dup : Atom
    written_name : Ident → Atom
    written_test : Ident → Number → Atom
    written_range : Ident → (low high : Number) → Atom
    written_set : Ident → Number → Atom
    written_link : Number → Number → Number → Number → Atom
    paren : Pol → Atom

abbrev mutual
  -- the tokens of a policy
  pub spell_pol : Pol → List Terminal
  spell_pol (one_term t) = spell_term t
  spell_pol (plus p t) = spell_pol p ++ plus_sign ∷ spell_term t

  pub spell_term : Term → List Terminal
  spell_term (one_factor f) = spell_factor f
  spell_term (semi t f) = spell_term t ++ semicolon ∷ spell_factor f

  pub spell_factor : Factor → List Terminal
  spell_factor (plain a) = spell_atom a
  spell_factor (starred f) = spell_factor f ++ star_sign ∷ []

  pub spell_atom : Atom → List Terminal
  spell_atom (written_not line a) = tilde line ∷ spell_atom a
  spell_atom written_id = id_word ∷ []
  spell_atom written_drop = drop_word ∷ []
  spell_atom written_dup = dup_word ∷ []
  spell_atom (written_name w) = name w ∷ []
  spell_atom (written_test w n) = name w ∷ equal ∷ number n ∷ []
  spell_atom (written_range w a b) = name w ∷ in_word ∷ number a ∷ dots ∷ number b ∷ []
  spell_atom (written_set w n) = name w ∷ becomes ∷ number n ∷ []
  spell_atom (written_link a m b n) = number a ∷ colon ∷ number m ∷ fat_arrow ∷ number b ∷ colon ∷ number n ∷ []
  spell_atom (paren p) = opening ∷ spell_pol p ++ closing ∷ []

abbrev mutual
  -- the syntax trees of a policy's terms
  pub terms_of : Pol → Trees
  terms_of (one_term t) = part (seq_from (factors_of t)) no_part
  terms_of (plus p t) = with_part (terms_of p) (seq_from (factors_of t))

  -- the syntax trees of a term's factors
  pub factors_of : Term → Trees
  factors_of (one_factor f) = part (factor_tree f) no_part
  factors_of (semi t f) = with_part (factors_of t) (factor_tree f)

  -- a run of stars after one atom is one star
  pub factor_tree : Factor → Tree
  factor_tree (plain a) = atom_tree a
  factor_tree (starred (plain a)) = star_of (atom_tree a)
  factor_tree (starred (starred f)) = factor_tree (starred f)

  pub atom_tree : Atom → Tree
  atom_tree (written_not line a) = not_of (atom_tree a) line
  atom_tree written_id = seq_of no_part
  atom_tree written_drop = sum_of no_part
  atom_tree written_dup = dup
  atom_tree (written_name w) = name_of w
  atom_tree (written_test w n) = test w n
  atom_tree (written_range w a b) = range w a b
  atom_tree (written_set w n) = assign w n
  atom_tree (written_link a m b n) = link a m b n
  atom_tree (paren p) = sum_from (terms_of p)

-- the syntax tree of a policy as it is written
abbrev pub pol_tree : Pol → Tree
pol_tree p = sum_from (terms_of p)

-- the tokens are those of a policy with this syntax tree
abbrev pub HasTree : List Terminal → Tree → Type 0
HasTree ts t = (p : Pol) × (ts ≡ spell_pol p) × (t ≡ pol_tree p)

-- a policy goes on with these tokens
abbrev pub PolicyGoesOn : List Terminal → Type 0
PolicyGoesOn ts = (more : List Terminal) × (p : Pol) × (ts ++ more ≡ spell_pol p)
