-- Tokens as the grammar sees them: lines are kept where a tree keeps them.
use Rattle.std.specs.Prelude.{ℕ, List, Bool, true, false}
use Rattle.nk_lex.specs.declared.kind.Kind.{Kind}
use Rattle.nk_lex.specs.declared.kind.Kind.TheVariants as kind
use Rattle.nk_lex.specs.declared.token.Token.{Token}
use Rattle.nk_lex.specs.declared.ident.Ident.{Ident}
use Rattle.nk_lex.specs.declared.ident.Number.{Number}

-- the tokens that stand in declarations alone, and all that stand in no text
pub data Outside : Type 0 where
  field_word : Outside
  tag_word : Outside
  switch_word : Outside
  ports_word : Outside
  link_word : Outside
  let_word : (line : ℕ) → Outside
  fabric_word : (line : ℕ) → Outside
  virtual_word : Outside
  by_word : Outside
  arrow : Outside
  comma : Outside
  certificate_word : Outside
  row_word : (line : ℕ) → Outside
  start_word : Outside
  no_terminal : Outside

-- a token of the grammar
pub data Terminal : Type 0 where
  name : Ident → Terminal
  number : Number → Terminal
  tilde : (line : ℕ) → Terminal
  opening : Terminal
  closing : Terminal
  plus_sign : Terminal
  semicolon : Terminal
  star_sign : Terminal
  equal : Terminal
  becomes : Terminal
  colon : Terminal
  fat_arrow : Terminal
  id_word : Terminal
  drop_word : Terminal
  dup_word : Terminal
  in_word : Terminal
  dots : Terminal
  outside : Outside → Terminal

-- the terminal of a kind, with the token's line, value and text
abbrev pub terminal_from : Kind → ℕ → ℕ → List ℕ → Terminal
terminal_from kind.Name line value text = name (record { text = text; line = line })
terminal_from kind.Number line value text = number (record { value = value; line = line })
terminal_from kind.Tilde line value text = tilde line
terminal_from kind.OpenParen line value text = opening
terminal_from kind.CloseParen line value text = closing
terminal_from kind.Plus line value text = plus_sign
terminal_from kind.Semicolon line value text = semicolon
terminal_from kind.Star line value text = star_sign
terminal_from kind.Equal line value text = equal
terminal_from kind.Assign line value text = becomes
terminal_from kind.Colon line value text = colon
terminal_from kind.FatArrow line value text = fat_arrow
terminal_from kind.Id line value text = id_word
terminal_from kind.Drop line value text = drop_word
terminal_from kind.Dup line value text = dup_word
terminal_from kind.In line value text = in_word
terminal_from kind.DotDot line value text = dots
terminal_from kind.Field line value text = outside field_word
terminal_from kind.Tag line value text = outside tag_word
terminal_from kind.Switch line value text = outside switch_word
terminal_from kind.Ports line value text = outside ports_word
terminal_from kind.Link line value text = outside link_word
terminal_from kind.Let line value text = outside (let_word line)
terminal_from kind.Fabric line value text = outside (fabric_word line)
terminal_from kind.Virtual line value text = outside virtual_word
terminal_from kind.By line value text = outside by_word
terminal_from kind.Arrow line value text = outside arrow
terminal_from kind.Comma line value text = outside comma
terminal_from kind.Certificate line value text = outside certificate_word
terminal_from kind.Row line value text = outside (row_word line)
terminal_from kind.Start line value text = outside start_word
terminal_from k line value text = outside no_terminal

-- the terminal of a token
abbrev pub terminal_of : Token → Terminal
terminal_of t = terminal_from t.kind t.line t.value t.text

-- the sign `=`
abbrev pub is_equal : Terminal → Bool
is_equal equal = true
is_equal t = false

-- the sign `:=`
abbrev pub is_becomes : Terminal → Bool
is_becomes becomes = true
is_becomes t = false

-- the word `in`
abbrev pub is_in_word : Terminal → Bool
is_in_word in_word = true
is_in_word t = false

-- the sign `..`
abbrev pub is_dots : Terminal → Bool
is_dots dots = true
is_dots t = false

-- a colon
abbrev pub is_colon_terminal : Terminal → Bool
is_colon_terminal colon = true
is_colon_terminal t = false

-- the sign between the two ends of a link: `=>` in a literal, `->` in a declaration
abbrev pub is_link_sign : Bool → Terminal → Bool
is_link_sign true fat_arrow = true
is_link_sign false (outside arrow) = true
is_link_sign literal t = false
