-- What is printed of tables is read back as them.
use Rattle.std.proofs.Common.{◌≡◌, ◌≤◌, ◌<◌, ◌+◌, ℕ, List, [], ◌∷◌, ◌++◌, length, take, drop, refl, sym, ap, subst, ◌∙◌, append_assoc, append-nil, map, arith, codes, decimal, Option, Some, None, length-drop}
use Rattle.std.specs.Prelude.{Ok, Err, All, AllPairs, ◌≢◌, ◌==◌, ◌||◌, not, true, false, Bool, if◌then◌else◌, IsSome, is_none}
use Rattle.std.specs.declared.result.Result.{Result}
use Rattle.std.specs.List.{flat_map, list_any, AllByRecursion}
use Rattle.std.proofs.lemmas.List.Elements.{recursion_from_All, All-tail}
use Rattle.nk_lex.specs.declared.kind.Kind.TheVariants as kind
use Rattle.nk_lex.specs.Lex.{largest, tokens_of}
use Rattle.nk_lex.specs.Spelling.{Lexeme, IsName, AreSeparate, text_of, tokens_from}
use Rattle.nk_lex.proofs.Cutting.{cuts}
use Rattle.nk_field.specs.Packet.{IsFieldTable, built_in}
use Rattle.nk_topo.specs.Topology.{SwitchPorts, numbers_of}
use Rattle.nk_topo.proofs.Members.{In, order_from_pairs, members_from_all, contains_from_in}
use Rattle.nk_table.specs.declared.Tables.{Tables}
use Rattle.nk_table.specs.Rules.{rows_of}
use Rattle.nk_tabgrammar.specs.declared.written.Declaration.{Declaration}
use Rattle.nk_tabgrammar.specs.declared.written.Declaration.TheVariants as declared
use Rattle.nk_tabgrammar.specs.declared.written.WrittenTables.{WrittenTables}
use Rattle.nk_tabgrammar.specs.declared.written.ReadError.{ReadError}
use Rattle.nk_tabgrammar.specs.Terminal.{number, mark}
use Rattle.nk_tabgrammar.specs.Spelling.{spell_table_declaration, spell_table, spell_text}
use Rattle.nk_declare.specs.declared.fault.DeclareError.{DeclareError}
use Rattle.nk_declare.specs.Declarations.{DeclaredValue, nothing_declared, declared_with, declared_after}
use Rattle.nk_declare.specs.Kept.{IsWritable}
use Rattle.nk_tabgrammar.specs.Machine.{written_of}
use Rattle.nk_tabtext.specs.Text.{name_of, have_prefix, table_field_lines, tag_line, switch_text, link_text, section_text, version_of, version_text, table_bytes}
use Rattle.nk_tabtext.specs.Values.{line_if, unless_at, checked, plain_declaration, read_of, said_after, tables_read, table_for, whole, tables_from, lexed}
use Rattle.nk_lex.specs.Spans.{last_line}
use Rattle.nk_lex.specs.Faults.{and_then}
use Rattle.nk_tabtext.specs.ReadBack.{ArePrintableTables, AreReadBack, IsPrintableTable}
use Rattle.nk_tabtext.proofs.Lines.{left3, left4, terminals_on, of_tokens, word_on, number_on, feed_apart, flat_joined}
use Rattle.nk_tabtext.proofs.TableLines.{following, written_tables, lex_tables, table_lines, tables_bytes, tables_apart, tables_spelled, AreTablesShown}
use Rattle.nk_tabtext.proofs.HeadLines.{AreFieldsShown, lex_fields, written_fields, after_fields, fields_bytes, fields_apart, fields_spelled, lex_tag, tag_bytes, tag_apart, tag_spelled, lex_switches, written_switches, switches_bytes, switches_apart, switches_spelled, AreLinksShown, lex_links, written_links, links_bytes, links_apart, links_spelled}
use Rattle.nk_tabtext.proofs.HeadValues.{FieldsFit, SwitchesFit, said_of, fields_back, with_switches, switches_back}
use Rattle.nk_tabtext.proofs.Valued.{AreTablesGood, TablesFrom, table_entry, tables_back, each_is}
use Rattle.nk_tabgrammar.proofs.Answering.{reads}
use Rattle.nk_tabtext.proofs.Heads.{version_is}
use Rattle.nk_tabtext.proofs.HeadBack.{two_first, has_one, fields_fit, fields_shown, tag_back, ports_from, IsSwitchFine, Below, switches_fit, switches_shown, AreLinkable, links_back, links_shown}
use Rattle.nk_tabtext.proofs.TablesBack.{NumbersFit, numbers_fit, tables_good, tables_shown, tables_rise, sections, found_in_tables, over_numbers}

-- one list of declarations and then another
abbrev said : List Declaration → DeclaredValue → Result DeclaredValue DeclareError
said ds s = declared_after (map plain_declaration ds) s

said_joined : (xs ys : List Declaration) (s : DeclaredValue) → said (xs ++ ys) s ≡ and_then (said xs s) (said ys)
said_joined [] ys s = refl
said_joined (d ∷ xs) ys s = by (declared_with s (plain_declaration d)) (said_joined xs ys)
  where
    by : (r : Result DeclaredValue DeclareError) → ((s : DeclaredValue) → said (xs ++ ys) s ≡ and_then (said xs s) (said ys))
        → and_then r (said (xs ++ ys)) ≡ and_then (and_then r (said xs)) (said ys)
    by (Ok x) go = go x
    by (Err e) go = refl

-- ---- the parts of the text

abbrev names_of : Tables → List (List ℕ)
names_of t = drop 2 t.fields.names

abbrev maxima_of : Tables → List ℕ
maxima_of t = drop 2 t.fields.maxima

-- the lines of the tag, of the first switch, of the first link and of the first table
abbrev tag_at : Tables → ℕ
tag_at t = after_fields 2 (names_of t) (maxima_of t)

abbrev switches_at : Tables → ℕ
switches_at t = tag_at t + 1

abbrev links_at : Tables → ℕ
links_at t = following (switches_at t) t.topo.switches

abbrev tables_at : Tables → ℕ
tables_at t = following (links_at t) t.topo.links

-- the lexemes after the first line, from the tag on, and so on
abbrev lex_topo : Tables → List Lexeme
lex_topo t = lex_switches t.topo.switches (lex_links t.topo.links (lex_tables t.fields t.tables []))

abbrev lex_head : Tables → ℕ → List Lexeme
lex_head t f = lex_fields (names_of t) (maxima_of t) (lex_tag (name_of t.fields f) (lex_topo t))

abbrev lexemes : Tables → ℕ → List Lexeme
lexemes t f = Lexeme.word (codes "tables") ∷ Lexeme.space ∷ Lexeme.numeral (version_of t) ∷ Lexeme.line_feed ∷ lex_head t f

-- as it is written
abbrev topo_declared : Tables → List Declaration
topo_declared t = written_switches (switches_at t) t.topo.switches ++ written_links (links_at t) t.topo.links

abbrev tag_declared : Tables → ℕ → Declaration
tag_declared t f = declared.Tag (word_on (tag_at t) (name_of t.fields f))

abbrev head_declared : Tables → ℕ → List Declaration
head_declared t f = written_fields 2 (names_of t) (maxima_of t) ++ tag_declared t f ∷ topo_declared t

abbrev written : Tables → ℕ → WrittenTables
written t f = record {
  version = number_on 1 (version_of t);
  declarations = head_declared t f;
  tables = written_tables t.fields (tables_at t) t.tables;
}

-- what is said by all declarations
abbrev value_of : Tables → DeclaredValue
value_of t = record { fields = t.fields; topo = t.topo }

-- what all that asks
record Fits (t : Tables) (f : ℕ) : Type 0 where
  table : IsFieldTable t.fields
  tag : t.fields.tag ≡ Some f
  name : IsName (name_of t.fields f)
  fields_shown : AreFieldsShown (names_of t) (maxima_of t)
  fields_fit : FieldsFit built_in.names built_in.maxima (names_of t) (maxima_of t)
  switches : SwitchesFit 0 t.topo.switches
  links : AreLinkable t.topo.switches t.topo.links
  links_shown : AreLinksShown t.topo.links
  each : map (λ u. u.switch) t.tables ≡ numbers_of t.topo
  tables_shown : AreTablesShown t.fields t.tables
  tables_good : AreTablesGood (version_of t) (value_of t) 0 t.tables
  tables_rise : TablesFrom 0 t.tables

-- ---- bytes, lexemes and what they spell

bytes_are : (t : Tables) (f : ℕ) → Fits t f → text_of (lexemes t f) ≡ table_bytes t
bytes_are t f h =
    let fl = table_field_lines (names_of t) (maxima_of t) in
    let tl = tag_line t.fields (Some f) in
    let sw = flat_map switch_text t.topo.switches in
    let ln = flat_map link_text t.topo.links in
    let ts = flat_map (table_lines t.fields) t.tables in
    let first = version_text (version_of t) in
    sym (left3 (codes "tables ") (decimal (version_of t)) (codes "\n") (text_of (lex_head t f)))
    ∙ ap (λ l. first ++ l)
    (fields_bytes (names_of t) (maxima_of t) (lex_tag (name_of t.fields f) (lex_topo t))
    ∙ ap (λ l. fl ++ l) (tag_bytes (name_of t.fields f) (lex_topo t)
    ∙ ap (λ l. tl ++ l) (switches_bytes t.topo.switches (lex_links t.topo.links (lex_tables t.fields t.tables []))
    ∙ ap (λ l. sw ++ l) (links_bytes t.topo.links (lex_tables t.fields t.tables [])
    ∙ ap (λ l. ln ++ l) (tables_bytes t.fields t.tables [] ∙ append-nil ts))
    ∙ sym (append_assoc sw ln ts))))
    ∙ sym (left4 first fl tl (sw ++ ln) ts)
    ∙ ap (λ o. (((first ++ fl) ++ tag_line t.fields o) ++ (sw ++ ln)) ++ ts) (sym h.tag)
    ∙ ap (λ l. (((first ++ fl) ++ tag_line t.fields t.fields.tag) ++ (sw ++ ln)) ++ l) (sym each_table)
  where
    each_table : flat_map (λ s. section_text t.fields t.tables s.switch) t.topo.switches ≡ flat_map (table_lines t.fields) t.tables
    each_table =
        over_numbers (section_text t.fields t.tables) t.topo.switches
        ∙ ap (flat_map (section_text t.fields t.tables)) (sym h.each)
        ∙ sections t.fields 0 [] t.tables tt h.tables_rise

-- the version is 1 or 2
module _ (b : Bool) where
  version_small : (if b then 2 else 1) ≤ largest
  version_small = elim b as (λ v. (if v then 2 else 1) ≤ largest) [ true ↦ omega arith | false ↦ omega arith ]

  version_known : (((if b then 2 else 1) == 1) || ((if b then 2 else 1) == 2)) ≡ true
  version_known = elim b as (λ v. (((if v then 2 else 1) == 1) || ((if v then 2 else 1) == 2)) ≡ true) [ true ↦ refl | false ↦ refl ]

-- whether some match is a prefix
abbrev some_prefix : Tables → Bool
some_prefix t = list_any (λ s. have_prefix t.fields (rows_of t.tables s.switch)) t.topo.switches

apart : (t : Tables) (f : ℕ) → Fits t f → AreSeparate (lexemes t f)
apart t f h = (
  (refl, refl),
  refl,
  (
    tt,
    refl,
    (
      version_small (some_prefix t),
      refl,
      (
        tt,
        feed_apart (lex_head t f),
        fields_apart (names_of t) (maxima_of t) (lex_tag (name_of t.fields f) (lex_topo t)) h.fields_shown
            (tag_apart (name_of t.fields f) (lex_topo t) h.name
            (switches_apart t.topo.switches (lex_links t.topo.links (lex_tables t.fields t.tables [])) (switches_shown 0 t.topo.switches h.switches)
            (links_apart t.topo.links (lex_tables t.fields t.tables []) h.links_shown
            (tables_apart t.fields t.tables [] h.tables_shown tt)))),
      ),
    ),
  ),
)

spelled : (t : Tables) (f : ℕ) → Fits t f → terminals_on 1 (lexemes t f) ≡ spell_text (written t f)
spelled t f h =
    let fw = written_fields 2 (names_of t) (maxima_of t) in
    let sw = written_switches (switches_at t) t.topo.switches in
    let lw = written_links (links_at t) t.topo.links in
    let each = flat_map spell_table_declaration in
    let tag = spell_table_declaration (tag_declared t f) in
    let ts = flat_map spell_table (written_tables t.fields (tables_at t) t.tables) in
    ap (λ l. mark kind.Tables ∷ number (number_on 1 (version_of t)) ∷ l)
    (fields_spelled 2 (names_of t) (maxima_of t) (lex_tag (name_of t.fields f) (lex_topo t)) h.fields_shown
    ∙ ap (λ l. each fw ++ l) (tag_spelled (tag_at t) (name_of t.fields f) (lex_topo t) h.name
    ∙ ap (λ l. tag ++ l) (switches_spelled (switches_at t) t.topo.switches (lex_links t.topo.links (lex_tables t.fields t.tables [])) (switches_shown 0 t.topo.switches h.switches)
    ∙ ap (λ l. each sw ++ l) (links_spelled (links_at t) t.topo.links (lex_tables t.fields t.tables [])
    ∙ ap (λ l. each lw ++ l) (tables_spelled t.fields (tables_at t) t.tables h.tables_shown))
    ∙ sym (append_assoc (each sw) (each lw) ts)
    ∙ ap (λ l. l ++ ts) (sym (flat_joined spell_table_declaration sw lw)))
    ∙ sym (append_assoc tag (each (sw ++ lw)) ts))
    ∙ sym (append_assoc (each fw) (tag ++ each (sw ++ lw)) ts)
    ∙ ap (λ l. l ++ ts) (sym (flat_joined spell_table_declaration fw (tag_declared t f ∷ (sw ++ lw)))))

-- ---- what is read

all_said : (t : Tables) (f : ℕ) → Fits t f → said (head_declared t f) nothing_declared ≡ Ok (value_of t)
all_said t f h =
    let rest = tag_declared t f ∷ topo_declared t in
    let ns = built_in.names ++ names_of t in
    let ms = built_in.maxima ++ maxima_of t in
    let names : ns ≡ t.fields.names = two_first t.fields.names (codes "sw") (codes "pt") h.table.built_in_names in
    let maxima : ms ≡ t.fields.maxima = two_first t.fields.maxima 65535 65535 h.table.built_in_maxima in
    said_joined (written_fields 2 (names_of t) (maxima_of t)) rest nothing_declared
    ∙ ap (λ r. and_then r (said rest)) (fields_back 2 built_in.names built_in.maxima (names_of t) (maxima_of t) h.fields_fit)
    ∙ ap (λ l. said rest (said_of l ms)) names
    ∙ ap (λ l. said rest (said_of t.fields.names l)) maxima
    ∙ ap (λ r. and_then r (said (topo_declared t))) (tag_back t.fields (tag_at t) f h.table h.tag)
    ∙ said_joined (written_switches (switches_at t) t.topo.switches) (written_links (links_at t) t.topo.links) (with_switches t.fields [])
    ∙ ap (λ r. and_then r (said (written_links (links_at t) t.topo.links))) (switches_back t.fields (switches_at t) 0 [] t.topo.switches tt h.switches)
    ∙ links_back t.fields t.topo.switches (links_at t) [] t.topo.links h.switches h.links

values : (t : Tables) (f line : ℕ) → Fits t f → tables_from line (written t f) ≡ Ok t
values t f line h =
    ap (λ b. checked (line_if (not b) 1) (and_then (said_after (head_declared t f) nothing_declared) rest)) (version_known (some_prefix t))
    ∙ ap (λ r. and_then (read_of r) rest) (all_said t f h)
    ∙ ap (λ r. and_then r (λ ts. unless_at (line_if (is_none t.fields.tag) line) (whole (value_of t) ts))) (tables_back (version_of t) (value_of t) (tables_at t) 0 [] t.tables tt h.tables_good)
    ∙ ap (λ o. unless_at (line_if (is_none o) line) (whole (value_of t) (map table_entry t.tables))) h.tag
    ∙ ap (λ ns. Ok (record { fields = t.fields; topo = t.topo; tables = map (table_for (map table_entry t.tables)) ns })) (sym h.each)
    ∙ ap (λ ts. Ok (record { fields = t.fields; topo = t.topo; tables = ts })) (each_is 0 [] t.tables tt h.tables_rise)
  where
    rest : DeclaredValue → Result Tables ReadError
    rest s = and_then (tables_read (version_of t) s [] (written_tables t.fields (tables_at t) t.tables)) (λ ts. unless_at (line_if (is_none s.fields.tag) line) (whole s ts))

-- ---- what printable tables are

all_after_two : {X : Type 0} (P : X → Type 0) (xs : List X) (a b : X) → take 2 xs ≡ a ∷ b ∷ [] → All P xs → All P (drop 2 xs)
all_after_two P xs a b e h = All-tail P b (drop 2 xs) (All-tail P a (b ∷ drop 2 xs) (subst (All P) (sym (two_first xs a b e)) h))

fits : (t : Tables) (f : ℕ) → ArePrintableTables t → t.fields.tag ≡ Some f → Fits t f
fits t f h e = record {
  table = is;
  tag = e;
  name = h.names f [] (omega (arith, at.1, is.named));
  fields_shown = fields_shown (names_of t) (maxima_of t)
      (recursion_from_All IsName (names_of t) (all_after_two IsName t.fields.names (codes "sw") (codes "pt") is.built_in_names h.names))
      (recursion_from_All (λ m. m ≤ largest) (maxima_of t) (all_after_two (λ m. m ≤ largest) t.fields.maxima 65535 65535 is.built_in_maxima h.maxima));
  fields_fit = fields_fit built_in.names built_in.maxima (names_of t) (maxima_of t)
      (omega (arith, length-drop 2 t.fields.names, length-drop 2 t.fields.maxima, is.named))
      (subst (AllPairs (λ a b. a ≢ b)) (sym (two_first t.fields.names (codes "sw") (codes "pt") is.built_in_names)) is.distinct)
      (omega (arith, length-drop 2 t.fields.maxima, is.few));
  switches = switches;
  links = links;
  links_shown = links_shown ss t.topo.links switches (λ l i. (links.from_port l i, links.to_port l i));
  each = h.each;
  tables_shown = tables_shown t.topo t.fields declarable 0 t.tables numbers tables;
  tables_good = tables_good (version_of t) (value_of t) declarable 0 t.tables numbers only tables;
  tables_rise = tables_rise t.topo 0 t.tables numbers;
}
  where
    is : IsFieldTable t.fields
    is = h.fields

    at : (2 ≤ f) × (f < length t.fields.maxima)
    at = is.tag_past_port f e

    ss : List SwitchPorts
    ss = t.topo.switches

    fine : (s : SwitchPorts) → In t.topo.switches s → IsSwitchFine s
    fine s i = (
      members_from_all (λ r. r.switch ≤ 65535) t.topo.switches h.switches s i,
      ports_from 0 s.ports
          (order_from_pairs (λ p q. p < q) s.ports (members_from_all (λ r. AllPairs (λ p q. p < q) r.ports) t.topo.switches h.topology.ports s i))
          (λ p j. omega arith)
          (members_from_all (λ p. p ≤ 65535) s.ports (members_from_all (λ r. All (λ p. p ≤ 65535) r.ports) t.topo.switches h.ports s i)),
      has_one s.ports (members_from_all (λ r. 1 ≤ length r.ports) t.topo.switches h.some s i),
    )

    switches : SwitchesFit 0 t.topo.switches
    switches = switches_fit 0 t.topo.switches (order_from_pairs (λ r s. r.switch < s.switch) t.topo.switches h.topology.switches) (λ s i. omega arith) fine

    links : AreLinkable t.topo.switches t.topo.links
    links = record {
      order = order_from_pairs Below t.topo.links h.topology.sources;
      from_port = λ l i. h.topology.links.from_port l (contains_from_in t.topo.links l i);
      to_port = λ l i. h.topology.links.declared l (contains_from_in t.topo.links l i);
      one_to = λ k l i j. h.topology.links.one_to k l (contains_from_in t.topo.links k i) (contains_from_in t.topo.links l j);
    }

    declarable : IsWritable t.fields
    declarable = record { table = is; maxima = h.maxima; names = h.names }

    numbers : NumbersFit t.topo 0 (map (λ u. u.switch) t.tables)
    numbers = subst (NumbersFit t.topo 0) (sym h.each) (numbers_fit t.topo 0 t.topo.switches switches (λ s i. i))

    only : list_any (λ u. have_prefix t.fields u.rows) t.tables ≡ true → version_of t ≡ 2
    only e =
        sym (version_is t (map (λ u. u.switch) t.tables) true
        (sym (found_in_tables (have_prefix t.fields) 0 [] t.tables tt (tables_rise t.topo 0 t.tables numbers) ∙ e))
        h.each)

    tables : AllByRecursion (IsPrintableTable t.fields) t.tables
    tables = recursion_from_All (IsPrintableTable t.fields) t.tables h.tables

pub reads_printed : (t : Tables) → ArePrintableTables t → AreReadBack t
reads_printed t h = by t.fields.tag refl h.tag
  where
    with_tag : (f : ℕ) → Fits t f → AreReadBack t
    with_tag f k =
        let ts = tokens_from 1 0 (lexemes t f) in
        let cut : tokens_of (table_bytes t) ≡ Ok ts = subst (λ l. tokens_of l ≡ Ok ts) (bytes_are t f k) (cuts (lexemes t f) (apart t f k)) in
        record {
          tokens = ts;
          cut = cut;
          read =
              ap (λ r. and_then (lexed r) (λ xs. and_then (written_of xs) (λ x. tables_from (last_line 1 xs) x))) cut
              ∙ ap (λ r. and_then r (λ x. tables_from (last_line 1 ts) x)) (reads ts (written t f) (of_tokens (lexemes t f) 1 0 ∙ spelled t f k))
              ∙ values t f (last_line 1 ts) k;
        }

    by : (o : Option ℕ) → t.fields.tag ≡ o → IsSome o → AreReadBack t
    by None e s = absurd cc
    by (Some f) e s = with_tag f (fits t f h e)
