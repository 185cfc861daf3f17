-- What is said at each stage of reading by what is written so far, and that a stage's last token adds one more part.
use Rattle.std.proofs.Common.{◌≡◌, arith, ℕ, List, [], ◌∷◌, ◌++◌, Bool, true, false, refl, sym, ap, ◌∙◌, Some, None}
use Rattle.std.proofs.lemmas.Bool.Decides.{nat_tests}
use Rattle.nk_topo.proofs.Members.{placed_after, placed_front}
use Rattle.std.specs.Prelude.{if◌then◌else◌, ◌==◌, ◌-◌, ◌%◌, ◌^◌, not, nat_lt, unwrap_or, Ok}
use Rattle.std.specs.declared.result.Result.{Result}
use Rattle.std.specs.List.{list_any}
use Rattle.std.specs.Ordering.{nat_cmp}
use Rattle.std.specs.BTreeMap.{insert_entry}
use Rattle.nk_lex.specs.declared.ident.Ident.{Ident}
use Rattle.nk_lex.specs.declared.ident.Number.{Number}
use Rattle.nk_lex.specs.Faults.{and_then, first_of}
use Rattle.nk_field.specs.Packet.{FieldTable, field_named}
use Rattle.nk_field.specs.Act.{act_then}
use Rattle.nk_table.specs.declared.Bucket.{Bucket}
use Rattle.nk_table.specs.declared.Exit.{Exit}
use Rattle.nk_table.specs.declared.Exit.TheVariants as exit
use Rattle.nk_table.specs.declared.Group.{Group}
use Rattle.nk_table.specs.declared.Row.{Row}
use Rattle.nk_table.specs.declared.Table.{Table}
use Rattle.nk_table.specs.declared.Target.TheVariants as does
use Rattle.nk_declare.specs.Declarations.{DeclaredValue, nothing_declared, declared_with, is_from, place_of_field, most_in}
use Rattle.nk_tabgrammar.specs.declared.written.Pair.{Pair}
use Rattle.nk_tabgrammar.specs.declared.written.Way.{Way}
use Rattle.nk_tabgrammar.specs.declared.written.Declaration.{Declaration}
use Rattle.nk_tabgrammar.specs.declared.written.WrittenMatch.{WrittenMatch}
use Rattle.nk_tabgrammar.specs.declared.written.WrittenTarget.TheVariants as target
use Rattle.nk_tabgrammar.specs.declared.written.WrittenGroup.{WrittenGroup}
use Rattle.nk_tabgrammar.specs.declared.written.WrittenTable.{WrittenTable}
use Rattle.nk_tabgrammar.specs.declared.written.WrittenTables.{WrittenTables}
use Rattle.nk_tabgrammar.specs.declared.written.ReadError.{ReadError}
use Rattle.nk_tabgrammar.specs.declared.stage.Owner.{Owner}
use Rattle.nk_tabgrammar.specs.declared.stage.Owner.TheVariants as owner
use Rattle.nk_tabgrammar.specs.Machine.{with_declaration, with_table, with_group, with_table_row, with_table_match, row_written}
use Rattle.nk_tabtext.specs.Values.{FaultLine, bucket_with, checked, digits_in, group_fault, group_of, group_read, groups_read, has_key, length_fault, line_above, line_if, matches_read, ones_fault, pairs_read, plain_declaration, placed_match, read_of, row_with, rows_read, said_after, table_fault, table_with, tables_read, version_fault, way_read}
use Rattle.nk_tabtext.specs.Progress.{match_set}
use Rattle.nk_tabtext.proofs.AddedParts.{then_assoc, checked_assoc, checked_first, unless_assoc, said_more, pairs_more, matches_more, buckets_more, groups_more, rows_more, tables_more}

-- what is said so far: of the text, of the table that is read, and of the group or row that is
pub record TablesSoFar : Type 0 where
  pub said : DeclaredValue
  pub tables : List (ℕ × Table)
  pub groups : List (ℕ × Group)
  pub rows : List Row
  pub buckets : List Bucket
  pub matches : List (ℕ × ℕ × ℕ)
  pub sets : List (ℕ × ℕ)
  pub out : Exit

abbrev pub Value : Type 0
Value = Result TablesSoFar ReadError

-- it by its parts
abbrev pub so_far : DeclaredValue → List (ℕ × Table) → List (ℕ × Group) → List Row → List Bucket → List (ℕ × ℕ × ℕ) → TablesSoFar
so_far s ts gs rs bs ms = record { said = s; tables = ts; groups = gs; rows = rs; buckets = bs; matches = ms; sets = []; out = exit.Back }

-- declarations
abbrev pub declared_so : WrittenTables → Value
declared_so x = checked (version_fault x.version) (and_then (said_after x.declarations nothing_declared) (λ s. Ok (so_far s [] [] [] [] [])))

-- and tables
abbrev pub tabled_so : WrittenTables → Value
tabled_so x = and_then (declared_so x) (λ v. and_then (tables_read x.version.value v.said [] x.tables) (λ ts. Ok (so_far v.said ts [] [] [] [])))

-- and the groups of a table
abbrev pub grouped_so : WrittenTables → WrittenTable → Value
grouped_so x c =
    and_then (tabled_so x) (λ v. checked (table_fault v.said.topo v.tables c.switch)
    (and_then (groups_read v.said.fields [] c.groups) (λ gs. Ok (so_far v.said v.tables gs [] [] []))))

-- and its rows
abbrev pub rowed_so : WrittenTables → WrittenTable → Value
rowed_so x c =
    and_then (grouped_so x c) (λ v. and_then (rows_read x.version.value v.said.fields v.groups [] c.rows) (λ rs. Ok (so_far v.said v.tables v.groups rs [] [])))

-- and the number of a group
abbrev pub numbered_so : WrittenTables → WrittenTable → Number → Value
numbered_so x c n = and_then (grouped_so x c) (λ v. checked (group_fault v.groups n) (Ok (so_far v.said v.tables v.groups [] [] [])))

-- and its buckets
abbrev pub filled_so : WrittenTables → WrittenTable → WrittenGroup → Value
filled_so x c g = and_then (grouped_so x c) (λ v. and_then (group_read v.said.fields v.groups g) (λ y. Ok (so_far v.said v.tables v.groups [] y.buckets [])))

-- and the matches of a row
abbrev pub matched_so : WrittenTables → WrittenTable → Number → List WrittenMatch → Value
matched_so x c p ms =
    and_then (rowed_so x c) (λ v. checked (line_above 65535 p)
    (and_then (matches_read x.version.value v.said.fields [] ms) (λ l. Ok (so_far v.said v.tables v.groups v.rows [] l))))

-- what stands before a bucket
abbrev pub owned_so : WrittenTables → WrittenTable → Owner → Value
owned_so x c (owner.First n) = numbered_so x c n
owned_so x c (owner.Next g) = filled_so x c g
owned_so x c (owner.Row p ms) = matched_so x c p ms

-- with assignments
abbrev pub with_sets : TablesSoFar → List (ℕ × ℕ) → Exit → TablesSoFar
with_sets v ss e = record v { sets = ss; out = e }

-- and a bucket's assignments
abbrev pub assigned_so : WrittenTables → WrittenTable → Owner → List Pair → Value
assigned_so x c o ps = and_then (owned_so x c o) (λ v. and_then (pairs_read v.said.fields 2 [] ps) (λ ss. Ok (with_sets v ss exit.Back)))

-- a name of a field from `low` on that is none of those that are taken
abbrev pub word_fault : FieldTable → ℕ → (ℕ → Bool) → Ident → FaultLine
word_fault fields low taken w =
    first_of (line_if (not (is_from low (field_named fields w.text))) w.line) (line_if (taken (unwrap_or (field_named fields w.text) 0)) w.line)

abbrev pub is_assigned : List (ℕ × ℕ) → ℕ → Bool
is_assigned ss n = list_any (λ s. s.0 == n) ss

abbrev pub is_matched : List (ℕ × ℕ × ℕ) → ℕ → Bool
is_matched ms n = list_any (λ m. m.0 == n) ms

-- and the name of one more
abbrev pub named_so : WrittenTables → WrittenTable → Owner → List Pair → Ident → Value
named_so x c o ps w = and_then (assigned_so x c o ps) (λ v. checked (word_fault v.said.fields 2 (is_assigned v.sets) w) (Ok v))

-- and its exit
abbrev pub left_so : WrittenTables → WrittenTable → Owner → List Pair → Way → Value
left_so x c o ps e = and_then (assigned_so x c o ps) (λ v. and_then (way_read e) (λ y. Ok (with_sets v v.sets y)))

-- the name of a match
abbrev pub called_so : WrittenTables → WrittenTable → Number → List WrittenMatch → Ident → Value
called_so x c p ms w = and_then (matched_so x c p ms) (λ v. checked (word_fault v.said.fields 1 (is_matched v.matches) w) (Ok v))

-- with matches
abbrev pub with_matches : TablesSoFar → List (ℕ × ℕ × ℕ) → TablesSoFar
with_matches v ms = so_far v.said v.tables v.groups v.rows [] ms

-- the value of a match, which is exact unless a length follows
abbrev pub tested_so : WrittenTables → WrittenTable → Number → List WrittenMatch → Ident → Number → Value
tested_so x c p ms w n =
    and_then (called_so x c p ms w) (λ v. checked (line_above (most_in v.said.fields w) n)
    (Ok (with_matches v (placed_match (place_of_field v.said.fields w, n.value, digits_in v.said.fields w) v.matches))))

-- ---- one more part

pub declaration_more : (x : WrittenTables) (d : Declaration)
    → declared_so (with_declaration x d) ≡ and_then (declared_so x) (λ v. and_then (read_of (declared_with v.said (plain_declaration d))) (λ s. Ok (so_far s [] [] [] [] [])))
declaration_more x d = simp (said_more, then_assoc, checked_assoc)

pub no_table_more : (x : WrittenTables) → x.tables ≡ [] → tabled_so x ≡ and_then (declared_so x) (λ v. Ok (so_far v.said [] [] [] [] []))
no_table_more x e = ap (λ l. and_then (declared_so x) (λ v. and_then (tables_read x.version.value v.said [] l) (λ ts. Ok (so_far v.said ts [] [] [] [])))) e

pub table_more : (x : WrittenTables) (c : WrittenTable)
    → tabled_so (with_table x c) ≡ and_then (rowed_so x c) (λ v. Ok (so_far v.said (insert_entry nat_cmp v.tables c.switch.value (table_with c.switch v.groups v.rows)) [] [] [] []))
table_more x c = simp (tables_more, then_assoc, checked_assoc)

pub no_row_more : (x : WrittenTables) (c : WrittenTable) → c.rows ≡ [] → rowed_so x c ≡ and_then (grouped_so x c) (λ v. Ok (so_far v.said v.tables v.groups [] [] []))
no_row_more x c e = ap (λ l. and_then (grouped_so x c) (λ v. and_then (rows_read x.version.value v.said.fields v.groups [] l) (λ rs. Ok (so_far v.said v.tables v.groups rs [] [])))) e

pub group_more : (x : WrittenTables) (c : WrittenTable) (g : WrittenGroup)
    → grouped_so x (with_group c g) ≡ and_then (filled_so x c g) (λ v. Ok (so_far v.said v.tables (insert_entry nat_cmp v.groups g.number.value (group_of g.number v.buckets)) [] [] []))
group_more x c g = simp (groups_more, then_assoc, checked_assoc)

pub row_more_bucket : (x : WrittenTables) (c : WrittenTable) (p : Number) (ms : List WrittenMatch) (ps : List Pair) (e : Way)
    → rowed_so x (with_table_row c (row_written p ms (target.Bucket (record { sets = ps; way = e }))))
    ≡ and_then (left_so x c (owner.Row p ms) ps e) (λ v. Ok (so_far v.said v.tables v.groups (v.rows ++ row_with p v.matches (does.Bucket (bucket_with v.sets v.out)) ∷ []) [] []))
row_more_bucket x c p ms ps e = simp (rows_more, then_assoc, checked_assoc)

pub row_more_group : (x : WrittenTables) (c : WrittenTable) (p : Number) (ms : List WrittenMatch) (n : Number)
    → rowed_so x (with_table_row c (row_written p ms (target.Group n)))
    ≡ and_then (matched_so x c p ms) (λ v. checked (line_if (not (has_key v.groups n.value)) n.line) (Ok (so_far v.said v.tables v.groups (v.rows ++ row_with p v.matches (does.Group n.value) ∷ []) [] [])))
row_more_group x c p ms n = simp (rows_more, then_assoc, checked_assoc, unless_assoc)

pub row_more_drop : (x : WrittenTables) (c : WrittenTable) (p : Number) (ms : List WrittenMatch)
    → rowed_so x (with_table_row c (row_written p ms target.Discard))
    ≡ and_then (matched_so x c p ms) (λ v. Ok (so_far v.said v.tables v.groups (v.rows ++ row_with p v.matches does.Discard ∷ []) [] []))
row_more_drop x c p ms = simp (rows_more, then_assoc, checked_assoc)

pub first_bucket_more : (x : WrittenTables) (c : WrittenTable) (n : Number) (ps : List Pair) (e : Way)
    → filled_so x c (record { number = n; first = record { sets = ps; way = e }; more = [] })
    ≡ and_then (left_so x c (owner.First n) ps e) (λ v. Ok (so_far v.said v.tables v.groups [] (bucket_with v.sets v.out ∷ []) []))
first_bucket_more x c n ps e = simp (then_assoc, checked_assoc)

pub bucket_more : (x : WrittenTables) (c : WrittenTable) (g : WrittenGroup) (ps : List Pair) (e : Way)
    → filled_so x c (record g { more = g.more ++ record { sets = ps; way = e } ∷ [] })
    ≡ and_then (left_so x c (owner.Next g) ps e) (λ v. Ok (so_far v.said v.tables v.groups [] (v.buckets ++ bucket_with v.sets v.out ∷ []) []))
bucket_more x c g ps e = simp (buckets_more, then_assoc, checked_assoc)

pub pair_more : (x : WrittenTables) (c : WrittenTable) (o : Owner) (ps : List Pair) (w : Ident) (n : Number)
    → assigned_so x c o (ps ++ record { name = w; number = n } ∷ [])
    ≡ and_then (named_so x c o ps w) (λ v. checked (line_above (most_in v.said.fields w) n) (Ok (with_sets v (act_then v.sets ((place_of_field v.said.fields w, n.value) ∷ [])) exit.Back)))
pair_more x c o ps w n = simp (pairs_more, then_assoc, checked_assoc, checked_first, unless_assoc)

-- of all digits no zeros have to follow
no_ones : (d : ℕ) (n : Number) → ones_fault d d n ≡ None
no_ones d n = ap (λ k. line_if (not (n.value % 2 ^ k == 0)) n.line) (none d) ∙ ap (λ k. line_if (not (k == 0)) n.line) (mod_one n.value)
  where
    none : (m : ℕ) → m - m ≡ 0
    none m = omega arith

    mod_one : (m : ℕ) → m % 2 ^ 0 ≡ 0
    mod_one m = omega arith

-- a match that takes the place of one of its field
put_again : (f v d l : ℕ) (ms : List (ℕ × ℕ × ℕ)) → match_set (f, v, l) (placed_match (f, v, d) ms) ≡ placed_match (f, v, l) ms
put_again f v d l [] = ap (λ b. if b then (f, v, d) ∷ match_set (f, v, l) [] else (f, v, l) ∷ []) (not_less f)
  where
    not_less : (n : ℕ) → nat_lt n n ≡ false
    not_less n = grind (arith, nat_tests)
put_again f v d l (m ∷ ms) = by (nat_lt m.0 f) refl (put_again f v d l ms)
  where
    not_less : (n : ℕ) → nat_lt n n ≡ false
    not_less n = grind (arith, nat_tests)

    lower : ℕ × ℕ × ℕ → Bool
    lower x = nat_lt x.0 f

    by : (b : Bool) → nat_lt m.0 f ≡ b → match_set (f, v, l) (placed_match (f, v, d) ms) ≡ placed_match (f, v, l) ms
        → match_set (f, v, l) (placed_match (f, v, d) (m ∷ ms)) ≡ placed_match (f, v, l) (m ∷ ms)
    by true e ih =
        ap (match_set (f, v, l)) (placed_after (λ x. nat_lt x.0 f) (f, v, d) m ms e)
        ∙ ap (λ b. if b then m ∷ match_set (f, v, l) (placed_match (f, v, d) ms) else (f, v, l) ∷ placed_match (f, v, d) ms) e
        ∙ ap (λ r. m ∷ r) ih
        ∙ sym (placed_after (λ x. nat_lt x.0 f) (f, v, l) m ms e)
    by false e ih =
        ap (match_set (f, v, l)) (placed_front (λ x. nat_lt x.0 f) (f, v, d) m ms e)
        ∙ ap (λ b. if b then (f, v, d) ∷ match_set (f, v, l) (m ∷ ms) else (f, v, l) ∷ m ∷ ms) (not_less f)
        ∙ sym (placed_front (λ x. nat_lt x.0 f) (f, v, l) m ms e)

pub match_more : (x : WrittenTables) (c : WrittenTable) (p : Number) (ms : List WrittenMatch) (w : Ident) (n : Number)
    → matched_so x c p (with_table_match ms w n None) ≡ tested_so x c p ms w n
match_more x c p ms w n = simp (matches_more, then_assoc, checked_assoc, checked_first, unless_assoc, no_ones)

pub match_more_length : (x : WrittenTables) (c : WrittenTable) (p : Number) (ms : List WrittenMatch) (w : Ident) (n l : Number)
    → matched_so x c p (with_table_match ms w n (Some l))
    ≡ and_then (tested_so x c p ms w n) (λ v. checked (first_of (length_fault x.version.value (digits_in v.said.fields w) (Some l)) (ones_fault (digits_in v.said.fields w) l.value n))
    (Ok (with_matches v (match_set (place_of_field v.said.fields w, n.value, l.value) v.matches))))
match_more_length x c p ms w n l = simp (matches_more, then_assoc, checked_assoc, checked_first, unless_assoc, put_again)
