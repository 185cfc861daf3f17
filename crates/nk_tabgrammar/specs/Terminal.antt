-- Tokens as the grammar of table texts sees them: names and numbers with their lines, the others by their kind.
use Rattle.std.specs.Prelude.{ℕ, ◌==◌, List, Bool, false, Option, Some, None}
use Rattle.nk_lex.specs.declared.kind.Kind.{Kind}
use Rattle.nk_lex.specs.declared.kind.Kind.TheVariants as kind
use Rattle.nk_lex.specs.declared.token.Token.{Token}
use Rattle.nk_lex.specs.declared.ident.Ident.{Ident}
use Rattle.nk_lex.specs.declared.ident.Number.{Number}

pub data Terminal : Type 0 where
  name : Ident → Terminal
  number : Number → Terminal
  mark : Kind → Terminal

-- the terminal of a kind, with the token's line, value and text
abbrev pub table_terminal_from : Kind → ℕ → ℕ → List ℕ → Terminal
table_terminal_from kind.Name line value text = name (record { text = text; line = line })
table_terminal_from kind.Number line value text = number (record { value = value; line = line })
table_terminal_from k line value text = mark k

-- the terminal of a token
abbrev pub table_terminal_of : Token → Terminal
table_terminal_of t = table_terminal_from t.kind t.line t.value t.text

-- the index of a kind among all kinds
abbrev pub kind_place : Kind → ℕ
kind_place kind.Name = 0
kind_place kind.Number = 1
kind_place kind.Field = 2
kind_place kind.Tag = 3
kind_place kind.Switch = 4
kind_place kind.Ports = 5
kind_place kind.Link = 6
kind_place kind.Let = 7
kind_place kind.Certificate = 8
kind_place kind.Row = 9
kind_place kind.Start = 10
kind_place kind.Id = 11
kind_place kind.Drop = 12
kind_place kind.Dup = 13
kind_place kind.Tables = 14
kind_place kind.Table = 15
kind_place kind.Group = 16
kind_place kind.Out = 17
kind_place kind.In = 18
kind_place kind.Virtual = 19
kind_place kind.Fabric = 20
kind_place kind.By = 21
kind_place kind.Plus = 22
kind_place kind.Semicolon = 23
kind_place kind.Star = 24
kind_place kind.Tilde = 25
kind_place kind.OpenParen = 26
kind_place kind.CloseParen = 27
kind_place kind.Equal = 28
kind_place kind.Assign = 29
kind_place kind.FatArrow = 30
kind_place kind.Arrow = 31
kind_place kind.Colon = 32
kind_place kind.Comma = 33
kind_place kind.Slash = 34
kind_place kind.DotDot = 35
kind_place kind.OpenBracket = 36
kind_place kind.CloseBracket = 37

-- a token of this kind, which is no name and no number
abbrev pub is_mark : Kind → Terminal → Bool
is_mark k (mark l) = kind_place k == kind_place l
is_mark k (name w) = false
is_mark k (number n) = false

-- the name that a token is, if it is one
abbrev pub table_name_in : Terminal → Option Ident
table_name_in (name w) = Some w
table_name_in (number n) = None
table_name_in (mark k) = None

-- the number that a token is, if it is one
abbrev pub table_number_in : Terminal → Option Number
table_number_in (number n) = Some n
table_number_in (name w) = None
table_number_in (mark k) = None

-- by what is there, or the other
abbrev pub in_case : {A B : Type 0} → Option A → B → (A → B) → B
in_case (Some x) other f = f x
in_case None other f = other

-- a name may come
abbrev pub with_table_name : {A : Type 0} → Terminal → A → (Ident → A) → A
with_table_name t other f = in_case (table_name_in t) other f

-- a number may come
abbrev pub with_table_number : {A : Type 0} → Terminal → A → (Number → A) → A
with_table_number t other f = in_case (table_number_in t) other f
