-- What is read of any text are tables that can be printed and read back.
use Rattle.std.proofs.Common.{◌≡◌, ℕ, List, [], false, refl, ap, ◌∙◌, subst, Option, Some, None, map}
use Rattle.std.specs.Prelude.{Ok, Err, IfOk, IsSome, is_none}
use Rattle.std.specs.declared.result.Result.{Result}
use Rattle.std.proofs.lemmas.List.Elements.{All-from_recursion}
use Rattle.nk_lex.specs.declared.token.Token.{Token}
use Rattle.nk_lex.specs.declared.token.LexError.{LexError}
use Rattle.nk_lex.specs.declared.token.LexError.TheVariants as lexical
use Rattle.nk_lex.specs.Lex.{tokens_of}
use Rattle.nk_topo.specs.Topology.{numbers_of}
use Rattle.nk_table.specs.declared.Tables.{Tables}
use Rattle.nk_table.specs.declared.Table.{Table}
use Rattle.nk_tabgrammar.specs.declared.written.WrittenTables.{WrittenTables}
use Rattle.nk_tabgrammar.specs.declared.written.ReadError.{ReadError}
use Rattle.nk_tabgrammar.specs.declared.written.ReadError.TheVariants as error
use Rattle.nk_declare.proofs.Kept.{both_ok}
use Rattle.nk_declare.specs.Declarations.{DeclaredValue, nothing_declared}
use Rattle.nk_tabgrammar.specs.Machine.{written_of, TableParseReturns}
use Rattle.nk_tabtext.specs.Values.{version_fault, line_if, unless_at, said_after, tables_read, table_for, whole, tables_from, lexed, tables_of, tables_of_tokens}
use Rattle.nk_lex.specs.Spans.{last_line}
use Rattle.nk_tabtext.specs.ReadBack.{ArePrintableTables, IsPrintableTable}
use Rattle.nk_tabtext.proofs.HeadKept.{checked_ok, unless_ok, not_wrong, of_text, IsDeclarationOfText, IsTableOfText, IsSaid, declared_fits}
use Rattle.nk_tabtext.proofs.TablesKept.{IsTableEntry, tables_kept, each_kept}
use Rattle.std.specs.List.{AllByRecursion}
use Rattle.nk_lex.specs.Faults.{and_then}

-- a tag that is there
some_tag : (o : Option ℕ) → is_none o ≡ false → IsSome o
some_tag None h = absurd cc
some_tag (Some f) h = refl

-- what is declared and read makes such tables
whole_is : (s : DeclaredValue) (es : List (ℕ × Table)) → IsSaid s → IsSome s.fields.tag → AllByRecursion (IsTableEntry s.fields) es → ArePrintableTables (whole s es)
whole_is s es h tag all =
    let each = each_kept s.fields es (numbers_of s.topo) all in
    record {
      fields = h.fields.table;
      maxima = h.fields.maxima;
      names = h.fields.names;
      tag = tag;
      topology = h.topology;
      switches = h.numbers.switches;
      ports = h.numbers.ports;
      some = h.numbers.some;
      each = each.0;
      tables = All-from_recursion (IsPrintableTable s.fields) (map (table_for es) (numbers_of s.topo)) each.1;
    }

-- what is written by a text makes such tables
from_is : (line : ℕ) (x : WrittenTables) (t : Tables) → AllByRecursion IsDeclarationOfText x.declarations → AllByRecursion IsTableOfText x.tables
    → tables_from line x ≡ Ok t → ArePrintableTables t
from_is line x t ds ts e =
    let q = checked_ok (version_fault x.version) _ t e in
    let said = both_ok (said_after x.declarations nothing_declared)
    (λ s. and_then (tables_read x.version.value s [] x.tables) (λ es. unless_at (line_if (is_none s.fields.tag) line) (whole s es))) t q.1 in
    let s = said.0 in
    let read = both_ok (tables_read x.version.value s [] x.tables) (λ es. unless_at (line_if (is_none s.fields.tag) line) (whole s es)) t said.2 in
    let fits : IsSaid s = declared_fits x.declarations s ds said.1 in
    let last = unless_ok (line_if (is_none s.fields.tag) line) (whole s read.0) t read.2 in
    subst ArePrintableTables last.1 (whole_is s read.0 fits
    (some_tag s.fields.tag (not_wrong (is_none s.fields.tag) line last.0))
    (tables_kept x.version.value s fits.fields.table [] x.tables read.0 ts tt tt read.1))

-- a text without lexical fault
pub lexed_ok : (r : Result (List Token) LexError) (ts : List Token) → lexed r ≡ Ok ts → r ≡ Ok ts
lexed_ok (Ok x) ts e = ap Ok (same e)
  where
    same : ◌≡◌ {A = Result (List Token) ReadError} (Ok x) (Ok ts) → x ≡ ts
    same e = cc
lexed_ok (Err lexical.NoMemory) ts e = absurd (never e)
  where
    never : ◌≡◌ {A = Result (List Token) ReadError} (Err error.NoMemory) (Ok ts) → ⊥
    never e = cc
lexed_ok (Err (lexical.BadByte line)) ts e = absurd (never e)
  where
    never : ◌≡◌ {A = Result (List Token) ReadError} (Err (error.BadByte line)) (Ok ts) → ⊥
    never e = cc
lexed_ok (Err (lexical.NumberTooLarge line)) ts e = absurd (never e)
  where
    never : ◌≡◌ {A = Result (List Token) ReadError} (Err (error.NumberTooLarge line)) (Ok ts) → ⊥
    never e = cc

pub answers_printable : (text : List ℕ) (t : Tables) → tables_of text ≡ Ok t → ArePrintableTables t
answers_printable text t e =
    let cut = both_ok (lexed (tokens_of text)) (λ ts. and_then (written_of ts) (λ x. tables_from (last_line 1 ts) x)) t e in
    let ts = cut.0 in
    let read = both_ok (written_of ts) (λ x. tables_from (last_line 1 ts) x) t cut.2 in
    let fit = of_text text ts read.0 (lexed_ok (tokens_of text) ts cut.1) read.1 in
    from_is (last_line 1 ts) read.0 t fit.0 fit.1 read.2

-- what is answered of a text's tokens
pub of_tokens : (text : List ℕ) (ts : List Token) (r : Result Tables ReadError) → tokens_of text ≡ Ok ts → TableParseReturns (λ t. t) r (tables_of_tokens ts) → IfOk r ArePrintableTables
of_tokens text ts (Ok t) cut e = answers_printable text t (ap (λ q. and_then (lexed q) tables_of_tokens) cut ∙ e)
of_tokens text ts (Err f) cut e = tt
