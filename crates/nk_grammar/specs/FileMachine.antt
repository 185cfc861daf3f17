-- A text read token by token.
use Rattle.std.specs.Prelude.{◌≡◌, ℕ, List, [], ◌∷◌, ◌++◌, Option, Some, None, Ok, Err, if◌then◌else◌, length, Bool, true, false, option_map, option_and_then, nat_le, ⊤}
use Rattle.std.specs.declared.result.Result.{Result}
use Rattle.nk_lex.specs.declared.token.Token.{Token}
use Rattle.nk_lex.specs.declared.ident.Ident.{Ident}
use Rattle.nk_lex.specs.declared.ident.Number.{Number}
use Rattle.nk_lex.specs.Faults.{and_then}
use Rattle.nk_lex.specs.declared.quad.Quad.{Quad}
use Rattle.nk_lex.specs.declared.quad.Quad.TheVariants as quad
use Rattle.nk_lex.specs.declared.quad.QuadNext.{QuadNext}
use Rattle.nk_lex.specs.declared.quad.QuadNext.TheVariants as next
use Rattle.nk_grammar.specs.declared.decl.PolicyKeyword.{PolicyKeyword}
use Rattle.nk_grammar.specs.declared.decl.PolicyKeyword.TheVariants as policies
use Rattle.nk_grammar.specs.declared.decl.LinkKeyword.{LinkKeyword}
use Rattle.nk_grammar.specs.declared.decl.LinkKeyword.TheVariants as links
use Rattle.nk_grammar.specs.declared.decl.Naming.{Naming}
use Rattle.nk_grammar.specs.declared.decl.Naming.TheVariants as naming
use Rattle.nk_grammar.specs.declared.decl.GrammarError.{GrammarError}
use Rattle.nk_grammar.specs.declared.decl.GrammarError.TheVariants as error
use Rattle.nk_grammar.specs.Terminal.{Terminal, name, outside, field_word, tag_word, switch_word, ports_word, link_word, let_word, fabric_word, virtual_word, by_word, comma, is_equal, terminal_of}
use Rattle.nk_grammar.specs.Tree.{Tree}
use Rattle.nk_grammar.specs.Machine.{State, first_state, step, policy_ended, with_number, quad_step}
use Rattle.nk_grammar.specs.File.{Declaration, field, tag, switch, declared_link, definition, fabric, virtual_link, HasDeclarations}

-- what stands before the next token
pub data Phase : Type 0 where
  between : Phase
  name_wanted : Naming → Phase
  field_named : Ident → Phase
  switch_read : Phase
  switch_numbered : Number → Phase
  port_wanted : Number → List Number → Phase
  port_read : Number → List Number → Phase
  link_read : LinkKeyword → Quad → Phase
  by_wanted : Number → Number → Number → Number → Phase
  policy_named : PolicyKeyword → Ident → (line : ℕ) → Phase
  in_policy : PolicyKeyword → Ident → (line : ℕ) → State → Phase

-- a text that is read: what may come next, and the declarations that are done
pub record Reading : Type 0 where
  pub phase : Phase
  pub declarations : List Declaration

-- a state by its parts
abbrev pub reading : Phase → List Declaration → Reading
reading p ds = record { phase = p; declarations = ds }

-- the name that a token is, if it is one
abbrev pub name_in : Terminal → Option Ident
name_in (name w) = Some w
name_in t = None

-- the word `ports`
abbrev pub is_ports : Terminal → Bool
is_ports (outside ports_word) = true
is_ports t = false

-- the word `by`
abbrev pub is_by : Terminal → Bool
is_by (outside by_word) = true
is_by t = false

-- a comma
abbrev pub is_comma : Terminal → Bool
is_comma (outside comma) = true
is_comma t = false

-- by the name, or the other
abbrev pub by_name : {A : Type 0} → Option Ident → A → (Ident → A) → A
by_name (Some w) other f = f w
by_name None other f = other

-- a name may come
abbrev pub with_name : {A : Type 0} → Terminal → A → (Ident → A) → A
with_name t other f = by_name (name_in t) other f

-- a declaration begins
abbrev pub begin_declaration : List Declaration → Terminal → Option Reading
begin_declaration ds (outside field_word) = Some (reading (name_wanted naming.Field) ds)
begin_declaration ds (outside tag_word) = Some (reading (name_wanted naming.Tag) ds)
begin_declaration ds (outside switch_word) = Some (reading switch_read ds)
begin_declaration ds (outside link_word) = Some (reading (link_read links.Link quad.Start) ds)
begin_declaration ds (outside (let_word line)) = Some (reading (name_wanted (naming.Policy policies.Let line)) ds)
begin_declaration ds (outside (fabric_word line)) = Some (reading (name_wanted (naming.Policy policies.Fabric line)) ds)
begin_declaration ds (outside virtual_word) = Some (reading (link_read links.Virtual quad.Start) ds)
begin_declaration ds t = None

-- the declarations and one more
abbrev pub one_more : List Declaration → Declaration → List Declaration
one_more ds d = ds ++ d ∷ []

-- the declaration that a policy is, by the word that it began with
abbrev pub defined : PolicyKeyword → Ident → Tree → ℕ → Declaration
defined policies.Let w p line = definition w p line
defined policies.Fabric w p line = fabric w p line

-- the name of something
abbrev pub named : Naming → Ident → List Declaration → Reading
named naming.Field w ds = reading (field_named w) ds
named naming.Tag w ds = reading between (one_more ds (tag w))
named (naming.Policy k line) w ds = reading (policy_named k w line) ds
named (naming.Virtual a m b n) w ds = reading between (one_more ds (virtual_link a m b n w))

-- a link is read, and a virtual one goes on
abbrev pub linked : LinkKeyword → Number → Number → Number → Number → List Declaration → Reading
linked links.Link a m b n ds = reading between (one_more ds (declared_link a m b n))
linked links.Virtual a m b n ds = reading (by_wanted a m b n) ds

-- one more token of a link
abbrev pub link_on : LinkKeyword → List Declaration → QuadNext → Option Reading
link_on k ds next.Refused = None
link_on k ds (next.Going q) = Some (reading (link_read k q) ds)
link_on k ds (next.Full a m b n) = Some (linked k a m b n ds)

-- a declaration begins after a policy that may end there
abbrev pub policy_done : PolicyKeyword → Ident → ℕ → List Declaration → Option Tree → Terminal → Option Reading
policy_done k w line ds None t = None
policy_done k w line ds (Some p) t = begin_declaration (one_more ds (defined k w p line)) t

-- a policy goes on, or ends before the token
abbrev pub policy_on : PolicyKeyword → Ident → ℕ → List Declaration → Option State → Option Tree → Terminal → Option Reading
policy_on k w line ds (Some s) e t = Some (reading (in_policy k w line s) ds)
policy_on k w line ds None e t = policy_done k w line ds e t

-- one more token, by what may come next
abbrev pub next_reading : Phase → List Declaration → Terminal → Option Reading
next_reading between ds t = begin_declaration ds t
next_reading (name_wanted k) ds t = with_name t None (λ w. Some (named k w ds))
next_reading (field_named w) ds t = with_number t None (λ n. Some (reading between (one_more ds (field w n))))
next_reading switch_read ds t = with_number t None (λ n. Some (reading (switch_numbered n) ds))
next_reading (switch_numbered n) ds t = if is_ports t then Some (reading (port_wanted n []) ds) else None
next_reading (port_wanted n ps) ds t = with_number t None (λ p. Some (reading (port_read n (ps ++ p ∷ [])) ds))
next_reading (port_read n ps) ds t =
    if is_comma t then Some (reading (port_wanted n ps) ds) else begin_declaration (one_more ds (switch n ps)) t
next_reading (link_read k q) ds t = link_on k ds (quad_step false q t)
next_reading (by_wanted a m b n) ds t = if is_by t then Some (reading (name_wanted (naming.Virtual a m b n)) ds) else None
next_reading (policy_named k w line) ds t = if is_equal t then Some (reading (in_policy k w line first_state) ds) else None
next_reading (in_policy k w line s) ds t = policy_on k w line ds (step s t) (policy_ended s) t

-- one more token
abbrev pub read_one : Reading → Terminal → Option Reading
read_one r t = next_reading r.phase r.declarations t

-- all tokens of a list
abbrev pub read_all : List Terminal → Reading → Option Reading
read_all [] r = Some r
read_all (t ∷ ts) r = option_and_then (read_all ts) (read_one r t)

-- before the first token
abbrev pub first_reading : Reading
first_reading = reading between []

-- the declarations, if the text may end here
abbrev pub text_ended : Phase → List Declaration → Option (List Declaration)
text_ended between ds = Some ds
text_ended (port_read n ps) ds = Some (one_more ds (switch n ps))
text_ended (in_policy k w line s) ds = option_map (λ p. one_more ds (defined k w p line)) (policy_ended s)
text_ended p ds = None

-- the declarations of a state, if the text may end there
abbrev pub declarations_at_end : Reading → Option (List Declaration)
declarations_at_end r = text_ended r.phase r.declarations

-- how many parentheses and `~` are open
abbrev pub open_in_phase : Phase → ℕ
open_in_phase (in_policy k w line s) = length s.frames
open_in_phase p = 0

-- how many parentheses and `~` are open in a state
abbrev pub open_count : Reading → ℕ
open_count r = open_in_phase r.phase

-- what a token leads to: refused where no text goes on with it, or where it opens one more than 256
abbrev pub judged : ℕ → Option Reading → Result Reading GrammarError
judged line None = Err (error.Unexpected line)
judged line (Some r) = if nat_le (open_count r) 256 then Ok r else Err (error.TooDeep line)

-- the value at the end, or the fault there
abbrev pub ended_at : ℕ → Option (List Declaration) → Result (List Declaration) GrammarError
ended_at line None = Err (error.Unexpected line)
ended_at line (Some ds) = Ok ds

-- the declarations of the tokens that are left, or the first fault; `line` is that of the last
-- token before
abbrev pub rest_of_file : List Token → Reading → ℕ → Result (List Declaration) GrammarError
rest_of_file [] r line = ended_at line (declarations_at_end r)
rest_of_file (t ∷ ts) r line = and_then (judged t.line (read_one r (terminal_of t))) (λ r. rest_of_file ts r t.line)

-- the declarations of a text's tokens, or the first fault
abbrev pub file_of : List Token → Result (List Declaration) GrammarError
file_of ts = rest_of_file ts first_reading 1

-- running out of memory says nothing, any other fault is the one that is wanted
abbrev pub ParseFails : {Y : Type 0} → GrammarError → Result Y GrammarError → Type 0
ParseFails error.NoMemory wanted = ⊤
ParseFails e wanted = wanted ≡ Err e

-- what was answered is what is wanted, unless memory ran out
abbrev pub ParseReturns : {X Y : Type 0} → (X → Y) → Result X GrammarError → Result Y GrammarError → Type 0
ParseReturns view (Ok x) wanted = wanted ≡ Ok (view x)
ParseReturns view (Err e) wanted = ParseFails e wanted

-- the tokens of a text give its declarations
abbrev pub ReadsTexts : Type 0
ReadsTexts = (ts : List Terminal) (ds : List Declaration) → HasDeclarations ts ds → option_and_then declarations_at_end (read_all ts first_reading) ≡ Some ds
