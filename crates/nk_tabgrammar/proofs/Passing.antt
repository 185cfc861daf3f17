-- What is spelled is read.
use Rattle.std.proofs.Common.{◌≡◌, List, [], ◌∷◌, ◌++◌, false, refl, sym, ◌∙◌, ap, append_assoc, append-nil, Option}
use Rattle.std.specs.Prelude.{None, Some, option_and_then, if◌then◌else◌}
use Rattle.std.specs.List.{flat_map}
use Rattle.nk_lex.specs.declared.kind.Kind.{Kind}
use Rattle.nk_lex.specs.declared.kind.Kind.TheVariants as kind
use Rattle.nk_lex.specs.declared.ident.Ident.{Ident}
use Rattle.nk_lex.specs.declared.ident.Number.{Number}
use Rattle.nk_tabgrammar.specs.declared.written.Pair.{Pair}
use Rattle.nk_tabgrammar.specs.declared.written.Declaration.{Declaration}
use Rattle.nk_tabgrammar.specs.declared.written.Declaration.TheVariants as declared
use Rattle.nk_tabgrammar.specs.declared.written.Way.{Way}
use Rattle.nk_tabgrammar.specs.declared.written.Way.TheVariants as way
use Rattle.nk_tabgrammar.specs.declared.written.WrittenMatch.{WrittenMatch}
use Rattle.nk_tabgrammar.specs.declared.written.WrittenBucket.{WrittenBucket}
use Rattle.nk_tabgrammar.specs.declared.written.WrittenTarget.{WrittenTarget}
use Rattle.nk_tabgrammar.specs.declared.written.WrittenTarget.TheVariants as target
use Rattle.nk_tabgrammar.specs.declared.written.WrittenRow.{WrittenRow}
use Rattle.nk_tabgrammar.specs.declared.written.WrittenGroup.{WrittenGroup}
use Rattle.nk_tabgrammar.specs.declared.written.WrittenTable.{WrittenTable}
use Rattle.nk_tabgrammar.specs.declared.written.WrittenTables.{WrittenTables}
use Rattle.nk_tabgrammar.specs.declared.stage.Place.TheVariants as place
use Rattle.nk_tabgrammar.specs.declared.stage.Owner.{Owner}
use Rattle.nk_tabgrammar.specs.declared.stage.Owner.TheVariants as owner
use Rattle.nk_tabgrammar.specs.declared.stage.Stage.TheVariants as stage
use Rattle.nk_tabgrammar.specs.declared.stage.Declaring.TheVariants as declaring
use Rattle.nk_tabgrammar.specs.declared.stage.Grouping.TheVariants as grouping
use Rattle.nk_tabgrammar.specs.declared.stage.InRow.TheVariants as in_row
use Rattle.nk_tabgrammar.specs.Terminal.{Terminal, mark, is_mark}
use Rattle.nk_tabgrammar.specs.Spelling.{spell_port, spell_table_declaration, spell_match, spell_set, way_token, spell_bucket, spell_target, spell_table_row, spell_group, spell_table, spell_text}
use Rattle.nk_tabgrammar.specs.Machine.{Reading, table_reading, opened, opened_table, no_table, with_declaration, with_table, with_group, with_table_row, with_table_match, match_of, row_written, bucket_done, begin_table_text, begin_row, begin_group, read_table_tokens, first_table_reading, written_at_end}

-- what the tokens come to at their end
abbrev finish : Option Reading → Option WrittenTables
finish o = option_and_then written_at_end o

-- the first token, if there is one, is none of this kind
abbrev IsAfter : Kind → List Terminal → Type 0
IsAfter k [] = Unit {0}
IsAfter k (t ∷ ts) = is_mark k t ≡ false

-- declarations begin with no comma, nor do tables
declarations_after : (ds : List Declaration) (r : List Terminal) → IsAfter kind.Comma r → IsAfter kind.Comma (flat_map spell_table_declaration ds ++ r)
declarations_after [] r b = b
declarations_after (declared.Field w n ∷ ds) r b = refl
declarations_after ds r b = refl

-- tables, rows and groups begin with a word of theirs
tables_following : (k : Kind) → is_mark k (mark kind.Table) ≡ false → (ts : List WrittenTable) → IsAfter k (flat_map spell_table ts)
tables_following k e [] = tt
tables_following k e (t ∷ ts) = e

rows_following : (k : Kind) → is_mark k (mark kind.Row) ≡ false → (rs : List WrittenRow) (r : List Terminal) → IsAfter k r → IsAfter k (flat_map spell_table_row rs ++ r)
rows_following k e [] r b = b
rows_following k e (x ∷ rs) r b = e

groups_following : (k : Kind) → is_mark k (mark kind.Group) ≡ false → (gs : List WrittenGroup) (r : List Terminal) → IsAfter k r → IsAfter k (flat_map spell_group gs ++ r)
groups_following k e [] r b = b
groups_following k e (x ∷ gs) r b = e

-- further ports
ports_pass : (x : WrittenTables) (c : WrittenTable) (n p : Number) (qs ps : List Number) (r : List Terminal) → IsAfter kind.Comma r
    → finish (read_table_tokens (flat_map spell_port ps ++ r) (table_reading (stage.Declared (declaring.PortRead n p qs)) x c)) ≡ finish (read_table_tokens r (table_reading stage.Between (with_declaration x (declared.Switch n p (qs ++ ps))) c))
ports_pass x c n p qs (q ∷ ps) r b =
    ports_pass x c n p (qs ++ q ∷ []) ps r b
    ∙ ap (λ l. finish (read_table_tokens r (table_reading stage.Between (with_declaration x (declared.Switch n p l)) c))) (append_assoc qs (q ∷ []) ps)
ports_pass x c n p qs [] [] b = ap (λ l. Some (with_declaration x (declared.Switch n p l))) (sym (append-nil qs))
ports_pass x c n p qs [] (t ∷ r) b =
    ap (λ f. finish (option_and_then (read_table_tokens r) (if f then Some (table_reading (stage.Declared (declaring.NextPort n p qs)) x c) else begin_table_text (with_declaration x (declared.Switch n p qs)) c t))) b
    ∙ ap (λ l. finish (option_and_then (read_table_tokens r) (begin_table_text (with_declaration x (declared.Switch n p l)) c t))) (sym (append-nil qs))

-- a declaration
declaration_passes : (x : WrittenTables) (c : WrittenTable) (d : Declaration) (r : List Terminal) → IsAfter kind.Comma r
    → finish (read_table_tokens (spell_table_declaration d ++ r) (table_reading stage.Between x c)) ≡ finish (read_table_tokens r (table_reading stage.Between (with_declaration x d) c))
declaration_passes x c (declared.Switch n p ps) r b = ports_pass x c n p [] ps r b
declaration_passes x c d r b = refl

-- more declarations
abbrev with_declarations : WrittenTables → List Declaration → WrittenTables
with_declarations x ds = record x { declarations = x.declarations ++ ds }

declarations_pass : (x : WrittenTables) (c : WrittenTable) (ds : List Declaration) (r : List Terminal) → IsAfter kind.Comma r
    → finish (read_table_tokens (flat_map spell_table_declaration ds ++ r) (table_reading stage.Between x c)) ≡ finish (read_table_tokens r (table_reading stage.Between (with_declarations x ds) c))
declarations_pass x c [] r b =
    ap (λ l. finish (read_table_tokens r (table_reading stage.Between (record x { declarations = l }) c))) (sym (append-nil x.declarations))
declarations_pass x c (d ∷ ds) r b =
    ap (λ l. finish (read_table_tokens l (table_reading stage.Between x c))) (append_assoc (spell_table_declaration d) (flat_map spell_table_declaration ds) r)
    ∙ declaration_passes x c d (flat_map spell_table_declaration ds ++ r) (declarations_after ds r b)
    ∙ declarations_pass (with_declaration x d) c ds r b
    ∙ ap (λ l. finish (read_table_tokens r (table_reading stage.Between (record x { declarations = l }) c))) (append_assoc x.declarations (d ∷ []) ds)

-- assignments
sets_pass : (x : WrittenTables) (c : WrittenTable) (o : Owner) (qs ps : List Pair) (r : List Terminal)
    → read_table_tokens (flat_map spell_set ps ++ r) (table_reading (stage.InBucket o (place.Sets qs)) x c) ≡ read_table_tokens r (table_reading (stage.InBucket o (place.Sets (qs ++ ps))) x c)
sets_pass x c o qs [] r = ap (λ l. read_table_tokens r (table_reading (stage.InBucket o (place.Sets l)) x c)) (sym (append-nil qs))
sets_pass x c o qs (p ∷ ps) r =
    sets_pass x c o (qs ++ p ∷ []) ps r
    ∙ ap (λ l. read_table_tokens r (table_reading (stage.InBucket o (place.Sets l)) x c)) (append_assoc qs (p ∷ []) ps)

-- an exit, and the end of the bucket
way_passes : (x : WrittenTables) (c : WrittenTable) (o : Owner) (ps : List Pair) (e : Way) (r : List Terminal)
    → read_table_tokens (mark kind.Out ∷ way_token e ∷ mark kind.CloseBracket ∷ r) (table_reading (stage.InBucket o (place.Sets ps)) x c) ≡ read_table_tokens r (bucket_done x c o (record { sets = ps; way = e }))
way_passes x c o ps way.Back r = refl
way_passes x c o ps (way.Port n) r = refl

-- a bucket after its bracket
bucket_passes : (x : WrittenTables) (c : WrittenTable) (o : Owner) (b : WrittenBucket) (r : List Terminal)
    → read_table_tokens ((flat_map spell_set b.sets ++ mark kind.Out ∷ way_token b.way ∷ mark kind.CloseBracket ∷ []) ++ r) (table_reading (stage.InBucket o (place.Sets [])) x c)
    ≡ read_table_tokens r (bucket_done x c o b)
bucket_passes x c o b r =
    ap (λ l. read_table_tokens l (table_reading (stage.InBucket o (place.Sets [])) x c)) (append_assoc (flat_map spell_set b.sets) (mark kind.Out ∷ way_token b.way ∷ mark kind.CloseBracket ∷ []) r)
    ∙ sets_pass x c o [] b.sets (mark kind.Out ∷ way_token b.way ∷ mark kind.CloseBracket ∷ r)
    ∙ way_passes x c o b.sets b.way r

-- a group with more buckets
abbrev with_buckets : WrittenGroup → List WrittenBucket → WrittenGroup
with_buckets g bs = record g { more = g.more ++ bs }

buckets_pass : (x : WrittenTables) (c : WrittenTable) (g : WrittenGroup) (bs : List WrittenBucket) (r : List Terminal) → IsAfter kind.OpenBracket r
    → finish (read_table_tokens (flat_map spell_bucket bs ++ r) (table_reading (stage.Grouped (grouping.BucketRead g)) x c)) ≡ finish (read_table_tokens r (table_reading stage.Groups x (with_group c (with_buckets g bs))))
buckets_pass x c g [] [] b = ap (λ l. Some (with_table x (with_group c (record g { more = l })))) (sym (append-nil g.more))
buckets_pass x c g [] (t ∷ r) b =
    ap (λ f. finish (option_and_then (read_table_tokens r) (if f then Some (table_reading (stage.InBucket (owner.Next g) (place.Sets [])) x c) else begin_group x (with_group c g) t))) b
    ∙ ap (λ l. finish (option_and_then (read_table_tokens r) (begin_group x (with_group c (record g { more = l })) t))) (sym (append-nil g.more))
buckets_pass x c g (y ∷ bs) r b =
    ap (λ l. finish (read_table_tokens l (table_reading (stage.Grouped (grouping.BucketRead g)) x c))) (append_assoc (spell_bucket y) (flat_map spell_bucket bs) r)
    ∙ ap finish (bucket_passes x c (owner.Next g) y (flat_map spell_bucket bs ++ r))
    ∙ buckets_pass x c (record g { more = g.more ++ y ∷ [] }) bs r b
    ∙ ap (λ l. finish (read_table_tokens r (table_reading stage.Groups x (with_group c (record g { more = l }))))) (append_assoc g.more (y ∷ []) bs)

-- a group
group_passes : (x : WrittenTables) (c : WrittenTable) (g : WrittenGroup) (r : List Terminal) → IsAfter kind.OpenBracket r
    → finish (read_table_tokens (spell_group g ++ r) (table_reading stage.Groups x c)) ≡ finish (read_table_tokens r (table_reading stage.Groups x (with_group c g)))
group_passes x c g r b =
    ap (λ l. finish (read_table_tokens l (table_reading (stage.Grouped (grouping.FirstBucket g.number)) x c))) (append_assoc (spell_bucket g.first) (flat_map spell_bucket g.more) r)
    ∙ ap finish (bucket_passes x c (owner.First g.number) g.first (flat_map spell_bucket g.more ++ r))
    ∙ buckets_pass x c (record { number = g.number; first = g.first; more = [] }) g.more r b

-- groups
abbrev with_groups : WrittenTable → List WrittenGroup → WrittenTable
with_groups c gs = record c { groups = c.groups ++ gs }

groups_pass : (x : WrittenTables) (c : WrittenTable) (gs : List WrittenGroup) (r : List Terminal) → IsAfter kind.OpenBracket r
    → finish (read_table_tokens (flat_map spell_group gs ++ r) (table_reading stage.Groups x c)) ≡ finish (read_table_tokens r (table_reading stage.Groups x (with_groups c gs)))
groups_pass x c [] r b = ap (λ l. finish (read_table_tokens r (table_reading stage.Groups x (record c { groups = l })))) (sym (append-nil c.groups))
groups_pass x c (g ∷ gs) r b =
    ap (λ l. finish (read_table_tokens l (table_reading stage.Groups x c))) (append_assoc (spell_group g) (flat_map spell_group gs) r)
    ∙ group_passes x c g (flat_map spell_group gs ++ r) (groups_following kind.OpenBracket refl gs r b)
    ∙ groups_pass x (with_group c g) gs r b
    ∙ ap (λ l. finish (read_table_tokens r (table_reading stage.Groups x (record c { groups = l })))) (append_assoc c.groups (g ∷ []) gs)

-- rows may follow
rows_follow : (x : WrittenTables) (c : WrittenTable) (r : List Terminal) → IsAfter kind.Group r
    → finish (read_table_tokens r (table_reading stage.Groups x c)) ≡ finish (read_table_tokens r (table_reading stage.Rows x c))
rows_follow x c [] b = refl
rows_follow x c (t ∷ r) b = ap (λ f. finish (option_and_then (read_table_tokens r) (if f then Some (table_reading (stage.Grouped grouping.Group) x c) else begin_row x c t))) b

-- matches up to the arrow
abbrev with_arrow : List WrittenMatch → List Terminal → List Terminal
with_arrow ms r = flat_map spell_match ms ++ mark kind.Arrow ∷ r

-- after a value without length stands no `/`
value_passes : (x : WrittenTables) (c : WrittenTable) (p : Number) (ns : List WrittenMatch) (w : Ident) (n : Number) (ms : List WrittenMatch) (r : List Terminal)
    → read_table_tokens (with_arrow ms r) (table_reading (stage.InRow (in_row.MatchValued p ns w n)) x c) ≡ read_table_tokens (with_arrow ms r) (table_reading (stage.InRow (in_row.Matches p (with_table_match ns w n None))) x c)
value_passes x c p ns w n [] r = refl
value_passes x c p ns w n (m ∷ ms) r = refl

-- a match
match_passes : (x : WrittenTables) (c : WrittenTable) (p : Number) (ns : List WrittenMatch) (w : Ident) (n : Number) (l : Option Number) (ms : List WrittenMatch) (r : List Terminal)
    → read_table_tokens (spell_match (match_of w n l) ++ with_arrow ms r) (table_reading (stage.InRow (in_row.Matches p ns)) x c)
    ≡ read_table_tokens (with_arrow ms r) (table_reading (stage.InRow (in_row.Matches p (with_table_match ns w n l))) x c)
match_passes x c p ns w n None ms r = value_passes x c p ns w n ms r
match_passes x c p ns w n (Some l) ms r = refl

matches_pass : (x : WrittenTables) (c : WrittenTable) (p : Number) (ns ms : List WrittenMatch) (r : List Terminal)
    → read_table_tokens (with_arrow ms r) (table_reading (stage.InRow (in_row.Matches p ns)) x c) ≡ read_table_tokens r (table_reading (stage.InRow (in_row.Target p (ns ++ ms))) x c)
matches_pass x c p ns [] r = ap (λ l. read_table_tokens r (table_reading (stage.InRow (in_row.Target p l)) x c)) (sym (append-nil ns))
matches_pass x c p ns (m ∷ ms) r =
    ap (λ l. read_table_tokens l (table_reading (stage.InRow (in_row.Matches p ns)) x c)) (append_assoc (spell_match m) (flat_map spell_match ms) (mark kind.Arrow ∷ r))
    ∙ match_passes x c p ns m.name m.number m.length ms r
    ∙ matches_pass x c p (ns ++ m ∷ []) ms r
    ∙ ap (λ l. read_table_tokens r (table_reading (stage.InRow (in_row.Target p l)) x c)) (append_assoc ns (m ∷ []) ms)

-- a target
target_passes : (x : WrittenTables) (c : WrittenTable) (p : Number) (ms : List WrittenMatch) (t : WrittenTarget) (r : List Terminal)
    → read_table_tokens (spell_target t ++ r) (table_reading (stage.InRow (in_row.Target p ms)) x c) ≡ read_table_tokens r (table_reading stage.Rows x (with_table_row c (row_written p ms t)))
target_passes x c p ms (target.Bucket b) r = bucket_passes x c (owner.Row p ms) b r
target_passes x c p ms (target.Group n) r = refl
target_passes x c p ms target.Discard r = refl

-- a row
row_passes : (x : WrittenTables) (c : WrittenTable) (w : WrittenRow) (r : List Terminal)
    → read_table_tokens (spell_table_row w ++ r) (table_reading stage.Rows x c) ≡ read_table_tokens r (table_reading stage.Rows x (with_table_row c w))
row_passes x c w r =
    ap (λ l. read_table_tokens l (table_reading (stage.InRow (in_row.Matches w.priority [])) x c)) (append_assoc (flat_map spell_match w.matches) (mark kind.Arrow ∷ spell_target w.target) r)
    ∙ matches_pass x c w.priority [] w.matches (spell_target w.target ++ r)
    ∙ target_passes x c w.priority w.matches w.target r

-- rows
rows_pass : (x : WrittenTables) (c : WrittenTable) (ws : List WrittenRow) (r : List Terminal)
    → read_table_tokens (flat_map spell_table_row ws ++ r) (table_reading stage.Rows x c) ≡ read_table_tokens r (table_reading stage.Rows x (record c { rows = c.rows ++ ws }))
rows_pass x c [] r = ap (λ l. read_table_tokens r (table_reading stage.Rows x (record c { rows = l }))) (sym (append-nil c.rows))
rows_pass x c (w ∷ ws) r =
    ap (λ l. read_table_tokens l (table_reading stage.Rows x c)) (append_assoc (spell_table_row w) (flat_map spell_table_row ws) r)
    ∙ row_passes x c w (flat_map spell_table_row ws ++ r)
    ∙ rows_pass x (with_table_row c w) ws r
    ∙ ap (λ l. read_table_tokens r (table_reading stage.Rows x (record c { rows = l }))) (append_assoc c.rows (w ∷ []) ws)

-- what stands after the number of a table
table_passes : (x : WrittenTables) (t : WrittenTable) (r : List Terminal) → IsAfter kind.OpenBracket r → IsAfter kind.Group r
    → finish (read_table_tokens ((flat_map spell_group t.groups ++ flat_map spell_table_row t.rows) ++ r) (table_reading stage.Groups x (opened_table t.switch)))
    ≡ finish (read_table_tokens r (table_reading stage.Rows x t))
table_passes x t r b g =
    ap (λ l. finish (read_table_tokens l (table_reading stage.Groups x (opened_table t.switch)))) (append_assoc (flat_map spell_group t.groups) (flat_map spell_table_row t.rows) r)
    ∙ groups_pass x (opened_table t.switch) t.groups (flat_map spell_table_row t.rows ++ r) (rows_following kind.OpenBracket refl t.rows r b)
    ∙ rows_follow x (with_groups (opened_table t.switch) t.groups) (flat_map spell_table_row t.rows ++ r) (rows_following kind.Group refl t.rows r g)
    ∙ ap finish (rows_pass x (with_groups (opened_table t.switch) t.groups) t.rows r)

-- more tables
abbrev with_tables : WrittenTables → List WrittenTable → WrittenTables
with_tables x ts = record x { tables = x.tables ++ ts }

-- further tables
tables_pass : (x : WrittenTables) (c : WrittenTable) (ts : List WrittenTable)
    → finish (read_table_tokens (flat_map spell_table ts) (table_reading stage.Rows x c)) ≡ Some (with_tables x (c ∷ ts))
tables_pass x c [] = refl
tables_pass x c (t ∷ ts) =
    table_passes (with_table x c) t (flat_map spell_table ts) (tables_following kind.OpenBracket refl ts) (tables_following kind.Group refl ts)
    ∙ tables_pass (with_table x c) t ts
    ∙ ap (λ l. Some (record x { tables = l })) (append_assoc x.tables (c ∷ []) (t ∷ ts))

-- all tables
all_tables_pass : (x : WrittenTables) (c : WrittenTable) (ts : List WrittenTable)
    → finish (read_table_tokens (flat_map spell_table ts) (table_reading stage.Between x c)) ≡ Some (with_tables x ts)
all_tables_pass x c [] = ap (λ l. Some (record x { tables = l })) (sym (append-nil x.tables))
all_tables_pass x c (t ∷ ts) =
    table_passes x t (flat_map spell_table ts) (tables_following kind.OpenBracket refl ts) (tables_following kind.Group refl ts)
    ∙ tables_pass x t ts

-- the tokens of a text give what is written
pub text_passes : (x : WrittenTables) → option_and_then written_at_end (read_table_tokens (spell_text x) first_table_reading) ≡ Some x
text_passes x =
    declarations_pass (opened x.version) no_table x.declarations (flat_map spell_table x.tables) (tables_following kind.Comma refl x.tables)
    ∙ all_tables_pass (with_declarations (opened x.version) x.declarations) no_table x.tables
