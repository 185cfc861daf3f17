-- What is declared by a text keeps its rules.
use Rattle.std.proofs.Common.{◌≡◌, ◌≤◌, ℕ, List, [], ◌∷◌, ◌++◌, Bool, true, false, refl, ap, subst, Option, Some, None, arith, ◌||◌, map}
use Rattle.std.specs.Prelude.{Ok, Err, All, nat_lt, ⊤}
use Rattle.std.specs.List.{flat_map, AllByRecursion}
use Rattle.std.specs.declared.result.Result.{Result}
use Rattle.std.proofs.lemmas.Bool.Decides.{nat_tests}
use Rattle.std.proofs.lemmas.List.Elements.{recursion_from_All}
use Rattle.nk_lex.specs.declared.kind.Kind.{Kind}
use Rattle.nk_lex.specs.declared.kind.Kind.TheVariants as kind
use Rattle.nk_lex.specs.declared.token.Token.{Token}
use Rattle.nk_lex.specs.declared.token.LexError.{LexError}
use Rattle.nk_lex.specs.Lex.{answer_with, largest, scan, tokens_of}
use Rattle.nk_lex.specs.Spelling.{IsName}
use Rattle.nk_lex.proofs.Named.{names_are_names}
use Rattle.nk_lex.proofs.Standing.{values_are_small}
use Rattle.nk_topo.specs.Topology.{IsTopology}
use Rattle.nk_declare.specs.declared.fault.DeclareError.{DeclareError}
use Rattle.nk_declare.specs.Declarations.{DeclaredValue, nothing_declared, declared_after}
use Rattle.nk_declare.specs.Kept.{IsWritable, IsDeclarable, HasFieldOfText, HasPort}
use Rattle.nk_declare.proofs.Kept.{ok_is, built_in_writable, fields_kept, nothing_is_topology, topology_kept, AreFit, fit_declarable, numbers_kept, all_kept}
use Rattle.nk_lex.specs.declared.ident.Number.{Number}
use Rattle.nk_tabgrammar.specs.declared.written.Declaration.{Declaration}
use Rattle.nk_tabgrammar.specs.declared.written.Declaration.TheVariants as declared
use Rattle.nk_tabgrammar.specs.declared.written.WrittenGroup.{WrittenGroup}
use Rattle.nk_tabgrammar.specs.declared.written.WrittenTable.{WrittenTable}
use Rattle.nk_tabgrammar.specs.declared.written.WrittenTables.{WrittenTables}
use Rattle.nk_tabgrammar.specs.declared.written.ReadError.{ReadError}
use Rattle.nk_tabgrammar.specs.declared.written.ReadError.TheVariants as error
use Rattle.nk_tabgrammar.specs.Terminal.{Terminal, name, number, mark, table_terminal_from}
use Rattle.nk_tabgrammar.specs.Spelling.{spell_table_declaration, spell_group, spell_table_row, spell_table, spell_text}
use Rattle.nk_tabgrammar.specs.Answer.{table_terminals, IsTableParse}
use Rattle.nk_tabgrammar.specs.Machine.{written_of}
use Rattle.nk_tabtext.specs.Values.{FaultLine, line_if, line_above, unless_at, checked, plain_declaration, fault_of, read_of, said_after}
use Rattle.nk_tabgrammar.proofs.Answering.{answers}

-- ---- answers without fault

module _ {X : Type 0} where
  not_ok : (e : ReadError) (x : X) → ◌≡◌ {A = Result X ReadError} (Err e) (Ok x) → ⊥
  not_ok e x h = cc

  -- the value where there is no fault
  pub unless_ok : (o : FaultLine) (x y : X) → unless_at o x ≡ Ok y → (o ≡ None) × (x ≡ y)
  unless_ok None x y e = (refl, ok_is x y e)
  unless_ok (Some l) x y e = absurd (not_ok (error.TableFault l) y e)

  pub checked_ok : (o : FaultLine) (r : Result X ReadError) (y : X) → checked o r ≡ Ok y → (o ≡ None) × (r ≡ Ok y)
  checked_ok None r y e = (refl, e)
  checked_ok (Some l) r y e = absurd (not_ok (error.TableFault l) y e)

-- what is no fault isn't wrong
pub not_wrong : (b : Bool) (line : ℕ) → line_if b line ≡ None → b ≡ false
not_wrong true line e = absurd cc
not_wrong false line e = refl

pub within : (most : ℕ) (n : Number) → line_above most n ≡ None → n.value ≤ most
within most n e = le most n.value (not_wrong (nat_lt most n.value) n.line e)
  where
    le : (m k : ℕ) → nat_lt m k ≡ false → k ≤ m
    le m k e = grind (arith, nat_tests, e)

pub neither : (a b : Bool) → (a || b) ≡ false → (a ≡ false) × (b ≡ false)
neither true b e = absurd cc
neither false b e = (refl, e)

-- ---- the tokens of a text

-- a token as a text gives it
abbrev IsOfText : Token → Type 0
IsOfText t = (t.kind ≡ kind.Name → IsName t.text) × (t.value ≤ largest)

-- its terminal
abbrev pub IsTerminalOfText : Terminal → Type 0
IsTerminalOfText (name w) = IsName w.text
IsTerminalOfText (number n) = n.value ≤ largest
IsTerminalOfText (mark k) = ⊤

terminal_fits : (k : Kind) (line value : ℕ) (text : List ℕ) → (k ≡ kind.Name → IsName text) → value ≤ largest
    → IsTerminalOfText (table_terminal_from k line value text)
terminal_fits kind.Name line value text h le = h refl
terminal_fits kind.Number line value text h le = le
terminal_fits k line value text h le = tt

terminals_fit : (ts : List Token) → AllByRecursion IsOfText ts → AllByRecursion IsTerminalOfText (table_terminals ts)
terminals_fit [] h = tt
terminals_fit (t ∷ ts) h = (terminal_fits t.kind t.line t.value t.text h.0.0 h.0.1, terminals_fit ts h.1)

-- the tokens of a text without fault are those before its fault
all_tokens : (ts us : List Token) (o : Option LexError) → answer_with us o ≡ Ok ts → us ≡ ts
all_tokens ts us None e = cc
all_tokens ts us (Some x) e = absurd (never e)
  where
    never : ◌≡◌ {A = Result (List Token) LexError} (Err x) (Ok ts) → ⊥
    never e = cc

-- what holds of all holds of those after, and of those in front
following : (xs ys : List Terminal) → AllByRecursion IsTerminalOfText (xs ++ ys) → AllByRecursion IsTerminalOfText ys
following [] ys h = h
following (x ∷ xs) ys h = following xs ys h.1

front : (xs ys : List Terminal) → AllByRecursion IsTerminalOfText (xs ++ ys) → AllByRecursion IsTerminalOfText xs
front [] ys h = tt
front (x ∷ xs) ys h = (h.0, front xs ys h.1)

-- a declaration as a text has it
abbrev pub IsDeclarationOfText : Declaration → Type 0
IsDeclarationOfText d = HasFieldOfText (plain_declaration d)

declarations_fit : (ds : List Declaration) → AllByRecursion IsTerminalOfText (flat_map spell_table_declaration ds) → AllByRecursion IsDeclarationOfText ds
declarations_fit [] h = tt
declarations_fit (declared.Field w n ∷ ds) h = ((h.1.0, h.1.1.0), declarations_fit ds h.1.1.1)
declarations_fit (declared.Tag w ∷ ds) h = (tt, declarations_fit ds (following (spell_table_declaration (declared.Tag w)) (flat_map spell_table_declaration ds) h))
declarations_fit (declared.Switch n p ps ∷ ds) h =
    (tt, declarations_fit ds (following (spell_table_declaration (declared.Switch n p ps)) (flat_map spell_table_declaration ds) h))
declarations_fit (declared.Link a m b n ∷ ds) h =
    (tt, declarations_fit ds (following (spell_table_declaration (declared.Link a m b n)) (flat_map spell_table_declaration ds) h))

-- a group and a table as a text has them
abbrev pub IsGroupOfText : WrittenGroup → Type 0
IsGroupOfText g = g.number.value ≤ largest

abbrev pub IsTableOfText : WrittenTable → Type 0
IsTableOfText t = AllByRecursion IsGroupOfText t.groups

groups_fit : (gs : List WrittenGroup) → AllByRecursion IsTerminalOfText (flat_map spell_group gs) → AllByRecursion IsGroupOfText gs
groups_fit [] h = tt
groups_fit (g ∷ gs) h = (h.1.0, groups_fit gs (following (spell_group g) (flat_map spell_group gs) h))

tables_fit : (ts : List WrittenTable) → AllByRecursion IsTerminalOfText (flat_map spell_table ts) → AllByRecursion IsTableOfText ts
tables_fit [] h = tt
tables_fit (t ∷ ts) h = (
  groups_fit t.groups (front (flat_map spell_group t.groups) (flat_map spell_table_row t.rows)
      (front (flat_map spell_group t.groups ++ flat_map spell_table_row t.rows) (flat_map spell_table ts) h.1.1)),
  tables_fit ts (following (spell_table t) (flat_map spell_table ts) h),
)

-- what a text writes
pub of_text : (text : List ℕ) (ts : List Token) (x : WrittenTables) → tokens_of text ≡ Ok ts → written_of ts ≡ Ok x
    → AllByRecursion IsDeclarationOfText x.declarations × AllByRecursion IsTableOfText x.tables
of_text text ts x cut read =
    let all : All IsOfText ts = subst (All IsOfText) (all_tokens ts (scan text 0 1 0).0 (scan text 0 1 0).1 cut)
    (λ k d lt. (names_are_names text k d lt, values_are_small text k d lt)) in
    let answer : IsTableParse ts (Ok x) = subst (IsTableParse ts) read (answers ts) in
    let fit : AllByRecursion IsTerminalOfText (spell_text x) = subst (AllByRecursion IsTerminalOfText) answer (terminals_fit ts (recursion_from_All IsOfText ts all)) in
    let ds = flat_map spell_table_declaration x.declarations in
    let us = flat_map spell_table x.tables in
    (declarations_fit x.declarations (front ds us fit.1.1), tables_fit x.tables (following ds us fit.1.1))

-- ---- what is declared

-- what is said keeps the rules
pub record IsSaid (s : DeclaredValue) : Type 0 where
  pub fields : IsWritable s.fields
  pub topology : IsTopology s.topo
  pub numbers : IsDeclarable s.topo

-- what is read of declarations without fault is declared by them
read_ok : (r : Result DeclaredValue DeclareError) (s : DeclaredValue) → read_of r ≡ Ok s → r ≡ Ok s
read_ok (Ok d) s e = ap Ok (ok_is d s e)
read_ok (Err x) s e = absurd (not_ok (fault_of x) s e)

-- the declarations of a text
fields_of_text : (ds : List Declaration) → AllByRecursion IsDeclarationOfText ds → AllByRecursion HasFieldOfText (map plain_declaration ds)
fields_of_text [] h = tt
fields_of_text (d ∷ ds) h = (h.0, fields_of_text ds h.1)

has_port : (d : Declaration) → HasPort (plain_declaration d)
has_port (declared.Switch n p ps) = omega arith
has_port d = tt

have_ports : (ds : List Declaration) → AllByRecursion HasPort (map plain_declaration ds)
have_ports [] = tt
have_ports (d ∷ ds) = (has_port d, have_ports ds)

pub declared_fits : (ds : List Declaration) (s : DeclaredValue) → AllByRecursion IsDeclarationOfText ds → said_after ds nothing_declared ≡ Ok s → IsSaid s
declared_fits ds s are e =
    let all = map plain_declaration ds in
    let is = read_ok (declared_after all nothing_declared) s e in
    record {
      fields = all_kept (λ v. IsWritable v.fields) HasFieldOfText fields_kept all nothing_declared s built_in_writable (fields_of_text ds are) is;
      topology = all_kept (λ v. IsTopology v.topo) HasPort (λ v w d h has f. topology_kept v w d h f) all nothing_declared s nothing_is_topology (have_ports ds) is;
      numbers = fit_declarable s.topo (all_kept (λ v. AreFit v.topo) HasPort numbers_kept all nothing_declared s (λ r i. absurd i) (have_ports ds) is);
    }
