-- The grammar of texts: declarations are written one after the other.
use Rattle.std.specs.Prelude.{◌≡◌, ◌≤◌, ℕ, List, [], ◌∷◌, ◌++◌, map, ⊤}
use Rattle.nk_lex.specs.Lex.{largest}
use Rattle.nk_lex.specs.declared.ident.Ident.{Ident}
use Rattle.nk_lex.specs.declared.ident.Number.{Number}
use Rattle.nk_grammar.specs.declared.decl.Decl.{Decl}
use Rattle.nk_grammar.specs.declared.decl.Decl.TheVariants as decl
use Rattle.nk_grammar.specs.Terminal.{Terminal, name, number, equal, colon, outside, field_word, tag_word, switch_word, ports_word, link_word, let_word, fabric_word, virtual_word, by_word, arrow, comma}
use Rattle.nk_grammar.specs.Tree.{Tree, tree_of}
use Rattle.nk_grammar.specs.Grammar.{Pol, spell_pol, pol_tree}

-- a declaration
pub data Declaration : Type 0 where
  field : Ident → Number → Declaration
  tag : Ident → Declaration
  switch : Number → (ports : List Number) → Declaration
  declared_link : Number → Number → Number → Number → Declaration
  definition : Ident → Tree → (line : ℕ) → Declaration
  fabric : Ident → Tree → (line : ℕ) → Declaration
  -- the ends, and the name of the fabric
  virtual_link : Number → Number → Number → Number → Ident → Declaration

-- the plain value of a declaration that the program holds
abbrev pub declaration_of : Decl → Declaration
declaration_of (decl.Field w n) = field w n
declaration_of (decl.Tag w) = tag w
declaration_of (decl.Switch n ps) = switch n ps
declaration_of (decl.Link a m b n) = declared_link a m b n
declaration_of (decl.Let w p line) = definition w (tree_of p) line
declaration_of (decl.Fabric w p line) = fabric w (tree_of p) line
declaration_of (decl.Virtual a m b n w) = virtual_link a m b n w

-- decl : field NAME NUMBER | tag NAME | switch NUMBER ports NUMBER { , NUMBER }
--      | link NUMBER : NUMBER -> NUMBER : NUMBER | let NAME = pol
--      | fabric NAME = pol | virtual NUMBER : NUMBER -> NUMBER : NUMBER by NAME
pub data Written : Type 0 where
  written_field : Ident → Number → Written
  written_tag : Ident → Written
  written_switch : Number → (first : Number) → (more : List Number) → Written
  written_declared_link : Number → Number → Number → Number → Written
  written_let : (line : ℕ) → Ident → Pol → Written
  written_fabric : (line : ℕ) → Ident → Pol → Written
  written_virtual : Number → Number → Number → Number → Ident → Written

-- further ports
abbrev pub spell_ports : List Number → List Terminal
spell_ports [] = []
spell_ports (p ∷ ps) = outside comma ∷ number p ∷ spell_ports ps

-- the tokens of a declaration
abbrev pub spell_declaration : Written → List Terminal
spell_declaration (written_field w n) = outside field_word ∷ name w ∷ number n ∷ []
spell_declaration (written_tag w) = outside tag_word ∷ name w ∷ []
spell_declaration (written_switch n p ps) = outside switch_word ∷ number n ∷ outside ports_word ∷ number p ∷ spell_ports ps
spell_declaration (written_declared_link a m b n) = outside link_word ∷ number a ∷ colon ∷ number m ∷ outside arrow ∷ number b ∷ colon ∷ number n ∷ []
spell_declaration (written_let line w p) = outside (let_word line) ∷ name w ∷ equal ∷ spell_pol p
spell_declaration (written_fabric line w p) = outside (fabric_word line) ∷ name w ∷ equal ∷ spell_pol p
spell_declaration (written_virtual a m b n w) =
    outside virtual_word ∷ number a ∷ colon ∷ number m ∷ outside arrow ∷ number b ∷ colon ∷ number n ∷ outside by_word ∷ name w ∷ []

-- what a declaration says
abbrev pub declared : Written → Declaration
declared (written_field w n) = field w n
declared (written_tag w) = tag w
declared (written_switch n p ps) = switch n (p ∷ ps)
declared (written_declared_link a m b n) = declared_link a m b n
declared (written_let line w p) = definition w (pol_tree p) line
declared (written_fabric line w p) = fabric w (pol_tree p) line
declared (written_virtual a m b n w) = virtual_link a m b n w

-- file : decl*
abbrev pub spell_file : List Written → List Terminal
spell_file [] = []
spell_file (w ∷ ws) = spell_declaration w ++ spell_file ws

-- the tokens are those of a text with these declarations
abbrev pub HasDeclarations : List Terminal → List Declaration → Type 0
HasDeclarations ts ds = (ws : List Written) × (ts ≡ spell_file ws) × (ds ≡ map declared ws)

-- a text goes on with these tokens
abbrev pub FileGoesOn : List Terminal → Type 0
FileGoesOn ts = (more : List Terminal) × (ws : List Written) × (ts ++ more ≡ spell_file ws)

-- what is read from the tokens of a text: a field's largest value is a number of a text
abbrev pub IsWritten : Declaration → Type 0
IsWritten (field w n) = n.value ≤ largest
IsWritten d = ⊤
