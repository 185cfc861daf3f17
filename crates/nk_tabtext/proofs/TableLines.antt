-- The lexemes of the printed tables of switches and of the declarations, the same of each.
use Rattle.std.proofs.Common.{◌≡◌, ◌≤◌, ◌+◌, ℕ, List, [], ◌∷◌, ◌++◌, true, false, refl, sym, ◌∙◌, ap, append_assoc, decimal, codes, map}
use Rattle.std.specs.Prelude.{⊤}
use Rattle.std.specs.List.{flat_map}
use Rattle.nk_lex.specs.declared.kind.Kind.TheVariants as kind
use Rattle.nk_lex.specs.Lex.{largest}
use Rattle.nk_lex.specs.Spelling.{Sign, Lexeme, IsApart, AreSeparate, text_of}
use Rattle.nk_field.specs.Packet.{FieldTable}
use Rattle.nk_table.specs.declared.Row.{Row}
use Rattle.nk_table.specs.declared.Group.{Group}
use Rattle.nk_table.specs.declared.Bucket.{Bucket}
use Rattle.nk_table.specs.declared.Target.{Target}
use Rattle.nk_table.specs.declared.Target.TheVariants as does
use Rattle.nk_tabgrammar.specs.declared.written.Way.TheVariants as way
use Rattle.nk_tabgrammar.specs.declared.written.WrittenTarget.{WrittenTarget}
use Rattle.nk_tabgrammar.specs.declared.written.WrittenTarget.TheVariants as target
use Rattle.nk_tabgrammar.specs.declared.written.WrittenRow.{WrittenRow}
use Rattle.nk_tabgrammar.specs.declared.written.WrittenGroup.{WrittenGroup}
use Rattle.nk_tabgrammar.specs.Terminal.{number, mark}
use Rattle.nk_tabgrammar.specs.Spelling.{spell_match, spell_bucket, spell_target, spell_table_row, spell_group}
use Rattle.nk_tabtext.specs.Text.{matches_text, bucket_text, target_text, row_text, group_text}
use Rattle.nk_table.specs.declared.Table.{Table}
use Rattle.nk_tabgrammar.specs.declared.written.WrittenTable.{WrittenTable}
use Rattle.nk_tabgrammar.specs.Spelling.{spell_table}
use Rattle.nk_tabtext.proofs.Keyed.{match_field, matches_where, all_where}
use Rattle.nk_tabtext.proofs.Lines.{left3, left4, left5, left8, terminals_on, number_on, AreMatchesShown, IsMatchShown, written_match, lex_matches, matches_bytes, matches_apart, matches_spelled, parts_spelled, space_apart, feed_apart, IsBucketShown, written_bucket, lex_bucket, bucket_bytes, bucket_apart, bucket_spelled}

-- ---- groups

abbrev pub AreBucketsShown : FieldTable → List Bucket → Type 0
AreBucketsShown fs [] = ⊤
AreBucketsShown fs (b ∷ bs) = IsBucketShown fs b × AreBucketsShown fs bs

-- buckets, a space before each, up to the line feed
abbrev lex_buckets : FieldTable → List Bucket → List Lexeme → List Lexeme
lex_buckets fs [] r = Lexeme.line_feed ∷ r
lex_buckets fs (b ∷ bs) r = Lexeme.space ∷ lex_bucket fs b (lex_buckets fs bs r)

abbrev lex_group : FieldTable → Group → List Lexeme → List Lexeme
lex_group fs g r =
    Lexeme.word (codes "group") ∷ Lexeme.space ∷ Lexeme.numeral g.number ∷ Lexeme.space ∷ Lexeme.sign Sign.equal ∷ lex_buckets fs g.buckets r

buckets_bytes : (fs : FieldTable) (bs : List Bucket) (r : List Lexeme)
    → text_of (lex_buckets fs bs r) ≡ flat_map (λ b. codes " " ++ bucket_text fs b) bs ++ (codes "\n" ++ text_of r)
buckets_bytes fs [] r = refl
buckets_bytes fs (b ∷ bs) r =
    ap (λ l. codes " " ++ l) (bucket_bytes fs b (lex_buckets fs bs r) ∙ ap (λ l. bucket_text fs b ++ l) (buckets_bytes fs bs r))
    ∙ sym (left3 (codes " ") (bucket_text fs b) (flat_map (λ x. codes " " ++ bucket_text fs x) bs) (codes "\n" ++ text_of r))

group_bytes : (fs : FieldTable) (g : Group) (r : List Lexeme) → text_of (lex_group fs g r) ≡ group_text fs g ++ text_of r
group_bytes fs g r =
    ap (λ l. codes "group " ++ (decimal g.number ++ (codes " =" ++ l))) (buckets_bytes fs g.buckets r)
    ∙ sym (left5 (codes "group ") (decimal g.number) (codes " =") (flat_map (λ b. codes " " ++ bucket_text fs b) g.buckets) (codes "\n") (text_of r))

buckets_apart : (fs : FieldTable) (bs : List Bucket) (r : List Lexeme) → AreBucketsShown fs bs → AreSeparate r → AreSeparate (lex_buckets fs bs r)
buckets_apart fs [] r h a = (tt, feed_apart r, a)
buckets_apart fs (b ∷ bs) r h a = (tt, refl, bucket_apart fs b (lex_buckets fs bs r) h.0 (buckets_apart fs bs r h.1 a))

-- after the sign `=`
equal_apart : (fs : FieldTable) (bs : List Bucket) (r : List Lexeme) → IsApart (Lexeme.sign Sign.equal) (lex_buckets fs bs r)
equal_apart fs [] r = refl
equal_apart fs (b ∷ bs) r = refl

-- there is one
abbrev pub HasOne : {X : Type 0} → List X → Type 0
HasOne [] = ⊥
HasOne (x ∷ xs) = ⊤

-- a group that a text can write
abbrev pub IsGroupShown : FieldTable → Group → Type 0
IsGroupShown fs g = (g.number ≤ largest) × AreBucketsShown fs g.buckets × HasOne g.buckets

group_apart : (fs : FieldTable) (g : Group) (r : List Lexeme) → IsGroupShown fs g → AreSeparate r → AreSeparate (lex_group fs g r)
group_apart fs g r h a =
    ((refl, refl), refl, (tt, refl, (h.0, refl, (tt, refl, (tt, equal_apart fs g.buckets r, buckets_apart fs g.buckets r h.1 a)))))

-- a group as it is written; one without a bucket isn't
abbrev pub group_with : FieldTable → ℕ → ℕ → List Bucket → WrittenGroup
group_with fs line n [] = record { number = number_on line n; first = record { sets = []; way = way.Back }; more = [] }
group_with fs line n (b ∷ bs) = record { number = number_on line n; first = written_bucket fs line b; more = map (written_bucket fs line) bs }

abbrev pub written_group : FieldTable → ℕ → Group → WrittenGroup
written_group fs line g = group_with fs line g.number g.buckets

buckets_spelled : (fs : FieldTable) (line : ℕ) (bs : List Bucket) (r : List Lexeme) → AreBucketsShown fs bs
    → terminals_on line (lex_buckets fs bs r) ≡ flat_map spell_bucket (map (written_bucket fs line) bs) ++ terminals_on (line + 1) r
buckets_spelled fs line [] r h = refl
buckets_spelled fs line (b ∷ bs) r h =
    bucket_spelled fs line b (lex_buckets fs bs r) h.0
    ∙ ap (λ l. spell_bucket (written_bucket fs line b) ++ l) (buckets_spelled fs line bs r h.1)
    ∙ sym (append_assoc (spell_bucket (written_bucket fs line b)) (flat_map spell_bucket (map (written_bucket fs line) bs)) (terminals_on (line + 1) r))

group_spelled : (fs : FieldTable) (line : ℕ) (g : Group) (r : List Lexeme) → IsGroupShown fs g
    → terminals_on line (lex_group fs g r) ≡ spell_group (written_group fs line g) ++ terminals_on (line + 1) r
group_spelled fs line g r h = by g.buckets h.1 h.2 (buckets_spelled fs line g.buckets r h.1)
  where
    by : (bs : List Bucket) → AreBucketsShown fs bs → HasOne bs
        → terminals_on line (lex_buckets fs bs r) ≡ flat_map spell_bucket (map (written_bucket fs line) bs) ++ terminals_on (line + 1) r
        → mark kind.Group ∷ number (number_on line g.number) ∷ mark kind.Equal ∷ terminals_on line (lex_buckets fs bs r)
        ≡ spell_group (group_with fs line g.number bs) ++ terminals_on (line + 1) r
    by [] s one e = absurd one
    by (b ∷ bs) s one e = ap (λ l. mark kind.Group ∷ number (number_on line g.number) ∷ mark kind.Equal ∷ l) e

-- ---- rows

abbrev pub IsTargetShown : FieldTable → Target → Type 0
IsTargetShown fs (does.Bucket b) = IsBucketShown fs b
IsTargetShown fs (does.Group n) = n ≤ largest
IsTargetShown fs does.Discard = ⊤

abbrev pub IsRowShown : FieldTable → Row → Type 0
IsRowShown fs r = (r.priority ≤ largest) × AreMatchesShown fs r.matches × IsTargetShown fs r.target

abbrev pub written_target : FieldTable → ℕ → Target → WrittenTarget
written_target fs line (does.Bucket b) = target.Bucket (written_bucket fs line b)
written_target fs line (does.Group n) = target.Group (number_on line n)
written_target fs line does.Discard = target.Discard

-- the matches in the order of a row's text
abbrev pub row_order : FieldTable → List (ℕ × ℕ × ℕ) → List (ℕ × ℕ × ℕ)
row_order fs ms = matches_where fs true ms ++ matches_where fs false ms

abbrev pub written_row : FieldTable → ℕ → Row → WrittenRow
written_row fs line w = record {
  priority = number_on line w.priority;
  matches = map (written_match fs line) (row_order fs w.matches);
  target = written_target fs line w.target;
}

-- a target up to the line feed
abbrev lex_target : FieldTable → Target → List Lexeme → List Lexeme
lex_target fs (does.Bucket b) r = lex_bucket fs b (Lexeme.line_feed ∷ r)
lex_target fs (does.Group n) r = Lexeme.word (codes "group") ∷ Lexeme.space ∷ Lexeme.numeral n ∷ Lexeme.line_feed ∷ r
lex_target fs does.Discard r = Lexeme.word (codes "drop") ∷ Lexeme.line_feed ∷ r

-- the arrow and what stands after it
abbrev lex_act : FieldTable → Target → List Lexeme → List Lexeme
lex_act fs t r = Lexeme.sign Sign.arrow ∷ Lexeme.space ∷ lex_target fs t r

abbrev lex_row : FieldTable → Row → List Lexeme → List Lexeme
lex_row fs w r =
    Lexeme.word (codes "row") ∷ Lexeme.space ∷ Lexeme.numeral w.priority ∷ Lexeme.space ∷ Lexeme.sign Sign.colon ∷ Lexeme.space
    ∷ lex_matches fs (matches_where fs true w.matches) (lex_matches fs (matches_where fs false w.matches) (lex_act fs w.target r))

target_bytes : (fs : FieldTable) (t : Target) (r : List Lexeme) → text_of (lex_target fs t r) ≡ target_text fs t ++ (codes "\n" ++ text_of r)
target_bytes fs (does.Bucket b) r = bucket_bytes fs b (Lexeme.line_feed ∷ r)
target_bytes fs (does.Group n) r = sym (append_assoc (codes "group ") (decimal n) (codes "\n" ++ text_of r))
target_bytes fs does.Discard r = refl

row_bytes : (fs : FieldTable) (w : Row) (r : List Lexeme) → text_of (lex_row fs w r) ≡ row_text fs w ++ text_of r
row_bytes fs w r =
    ap (λ l. codes "row " ++ (decimal w.priority ++ (codes " : " ++ l)))
    (matches_bytes fs true w.matches (lex_matches fs (matches_where fs false w.matches) (lex_act fs w.target r))
    ∙ ap (λ l. matches_text fs true w.matches ++ l) (matches_bytes fs false w.matches (lex_act fs w.target r)
    ∙ ap (λ l. matches_text fs false w.matches ++ (codes "-> " ++ l)) (target_bytes fs w.target r)))
    ∙ sym (left8 (codes "row ") (decimal w.priority) (codes " : ") (matches_text fs true w.matches) (matches_text fs false w.matches) (codes "-> ") (target_text fs w.target) (codes "\n") (text_of r))

target_apart : (fs : FieldTable) (t : Target) (r : List Lexeme) → IsTargetShown fs t → AreSeparate r → AreSeparate (lex_target fs t r)
target_apart fs (does.Bucket b) r h a = bucket_apart fs b (Lexeme.line_feed ∷ r) h (tt, feed_apart r, a)
target_apart fs (does.Group n) r h a = ((refl, refl), refl, (tt, refl, (h, refl, (tt, feed_apart r, a))))
target_apart fs does.Discard r h a = ((refl, refl), refl, (tt, feed_apart r, a))

row_apart : (fs : FieldTable) (w : Row) (r : List Lexeme) → IsRowShown fs w → AreSeparate r → AreSeparate (lex_row fs w r)
row_apart fs w r h a =
    let tw = matches_where fs true w.matches in
    let fw = matches_where fs false w.matches in (
      (refl, refl),
      refl,
      (
        tt,
        refl,
        (
          h.0,
          refl,
          (
            tt,
            refl,
            (
              tt,
              refl,
              (
                tt,
                space_apart (lex_matches fs tw (lex_matches fs fw (lex_act fs w.target r))),
                matches_apart fs tw (lex_matches fs fw (lex_act fs w.target r)) (all_where match_field (IsMatchShown fs) fs true w.matches h.1)
                    (matches_apart fs fw (lex_act fs w.target r) (all_where match_field (IsMatchShown fs) fs false w.matches h.1)
                    (tt, refl, (tt, space_apart (lex_target fs w.target r), target_apart fs w.target r h.2 a))),
              ),
            ),
          ),
        ),
      ),
    )

target_spelled : (fs : FieldTable) (line : ℕ) (t : Target) (r : List Lexeme) → IsTargetShown fs t
    → terminals_on line (lex_target fs t r) ≡ spell_target (written_target fs line t) ++ terminals_on (line + 1) r
target_spelled fs line (does.Bucket b) r h = bucket_spelled fs line b (Lexeme.line_feed ∷ r) h
target_spelled fs line (does.Group n) r h = refl
target_spelled fs line does.Discard r h = refl

row_spelled : (fs : FieldTable) (line : ℕ) (w : Row) (r : List Lexeme) → IsRowShown fs w
    → terminals_on line (lex_row fs w r) ≡ spell_table_row (written_row fs line w) ++ terminals_on (line + 1) r
row_spelled fs line w r h =
    let tw = matches_where fs true w.matches in
    let fw = matches_where fs false w.matches in
    let one = written_match fs line in
    let rest = terminals_on (line + 1) r in
    ap (λ l. mark kind.Row ∷ number (number_on line w.priority) ∷ mark kind.Colon ∷ l)
    (matches_spelled fs line tw (lex_matches fs fw (lex_act fs w.target r)) (all_where match_field (IsMatchShown fs) fs true w.matches h.1)
    ∙ ap (λ l. flat_map spell_match (map one tw) ++ l) (matches_spelled fs line fw (lex_act fs w.target r) (all_where match_field (IsMatchShown fs) fs false w.matches h.1)
    ∙ ap (λ l. flat_map spell_match (map one fw) ++ mark kind.Arrow ∷ l) (target_spelled fs line w.target r h.2))
    ∙ parts_spelled spell_match one tw fw (mark kind.Arrow ∷ spell_target (written_target fs line w.target) ++ rest)
    ∙ sym (append_assoc (flat_map spell_match (map one (row_order fs w.matches))) (mark kind.Arrow ∷ spell_target (written_target fs line w.target)) rest))

-- ---- tables

abbrev pub AreGroupsShown : FieldTable → List Group → Type 0
AreGroupsShown fs [] = ⊤
AreGroupsShown fs (g ∷ gs) = IsGroupShown fs g × AreGroupsShown fs gs

abbrev pub AreRowsShown : FieldTable → List Row → Type 0
AreRowsShown fs [] = ⊤
AreRowsShown fs (w ∷ ws) = IsRowShown fs w × AreRowsShown fs ws

abbrev pub AreTablesShown : FieldTable → List Table → Type 0
AreTablesShown fs [] = ⊤
AreTablesShown fs (t ∷ ts) = ((t.switch ≤ largest) × AreGroupsShown fs t.groups × AreRowsShown fs t.rows) × AreTablesShown fs ts

-- each on a line of its own, from this one on
abbrev pub written_groups : FieldTable → ℕ → List Group → List WrittenGroup
written_groups fs line [] = []
written_groups fs line (g ∷ gs) = written_group fs line g ∷ written_groups fs (line + 1) gs

abbrev pub written_rows : FieldTable → ℕ → List Row → List WrittenRow
written_rows fs line [] = []
written_rows fs line (w ∷ ws) = written_row fs line w ∷ written_rows fs (line + 1) ws

-- the line after these
abbrev pub following : {X : Type 0} → ℕ → List X → ℕ
following line [] = line
following line (x ∷ xs) = following (line + 1) xs

abbrev pub written_tables : FieldTable → ℕ → List Table → List WrittenTable
written_tables fs line [] = []
written_tables fs line (t ∷ ts) =
    record {
      switch = number_on line t.switch;
      groups = written_groups fs (line + 1) t.groups;
      rows = written_rows fs (following (line + 1) t.groups) t.rows;
    } ∷ written_tables fs (following (following (line + 1) t.groups) t.rows) ts

abbrev lex_groups : FieldTable → List Group → List Lexeme → List Lexeme
lex_groups fs [] r = r
lex_groups fs (g ∷ gs) r = lex_group fs g (lex_groups fs gs r)

abbrev lex_rows : FieldTable → List Row → List Lexeme → List Lexeme
lex_rows fs [] r = r
lex_rows fs (w ∷ ws) r = lex_row fs w (lex_rows fs ws r)

abbrev pub lex_tables : FieldTable → List Table → List Lexeme → List Lexeme
lex_tables fs [] r = r
lex_tables fs (t ∷ ts) r =
    Lexeme.word (codes "table") ∷ Lexeme.space ∷ Lexeme.numeral t.switch ∷ Lexeme.line_feed
    ∷ lex_groups fs t.groups (lex_rows fs t.rows (lex_tables fs ts r))

-- the text of a table
abbrev pub table_lines : FieldTable → Table → List ℕ
table_lines fs t =
    codes "table " ++ decimal t.switch ++ codes "\n" ++ (flat_map (group_text fs) t.groups ++ flat_map (row_text fs) t.rows)

groups_bytes : (fs : FieldTable) (gs : List Group) (r : List Lexeme) → text_of (lex_groups fs gs r) ≡ flat_map (group_text fs) gs ++ text_of r
groups_bytes fs [] r = refl
groups_bytes fs (g ∷ gs) r =
    group_bytes fs g (lex_groups fs gs r) ∙ ap (λ l. group_text fs g ++ l) (groups_bytes fs gs r)
    ∙ sym (append_assoc (group_text fs g) (flat_map (group_text fs) gs) (text_of r))

rows_bytes : (fs : FieldTable) (ws : List Row) (r : List Lexeme) → text_of (lex_rows fs ws r) ≡ flat_map (row_text fs) ws ++ text_of r
rows_bytes fs [] r = refl
rows_bytes fs (w ∷ ws) r =
    row_bytes fs w (lex_rows fs ws r) ∙ ap (λ l. row_text fs w ++ l) (rows_bytes fs ws r)
    ∙ sym (append_assoc (row_text fs w) (flat_map (row_text fs) ws) (text_of r))

pub tables_bytes : (fs : FieldTable) (ts : List Table) (r : List Lexeme) → text_of (lex_tables fs ts r) ≡ flat_map (table_lines fs) ts ++ text_of r
tables_bytes fs [] r = refl
tables_bytes fs (t ∷ ts) r =
    let gs = flat_map (group_text fs) t.groups in
    let ws = flat_map (row_text fs) t.rows in
    ap (λ l. codes "table " ++ (decimal t.switch ++ (codes "\n" ++ l)))
    (groups_bytes fs t.groups (lex_rows fs t.rows (lex_tables fs ts r))
    ∙ ap (λ l. gs ++ l) (rows_bytes fs t.rows (lex_tables fs ts r) ∙ ap (λ l. ws ++ l) (tables_bytes fs ts r))
    ∙ sym (append_assoc gs ws (flat_map (table_lines fs) ts ++ text_of r)))
    ∙ sym (left4 (codes "table ") (decimal t.switch) (codes "\n") (gs ++ ws) (flat_map (table_lines fs) ts ++ text_of r))
    ∙ sym (append_assoc (table_lines fs t) (flat_map (table_lines fs) ts) (text_of r))

groups_apart : (fs : FieldTable) (gs : List Group) (r : List Lexeme) → AreGroupsShown fs gs → AreSeparate r → AreSeparate (lex_groups fs gs r)
groups_apart fs [] r h a = a
groups_apart fs (g ∷ gs) r h a = group_apart fs g (lex_groups fs gs r) h.0 (groups_apart fs gs r h.1 a)

rows_apart : (fs : FieldTable) (ws : List Row) (r : List Lexeme) → AreRowsShown fs ws → AreSeparate r → AreSeparate (lex_rows fs ws r)
rows_apart fs [] r h a = a
rows_apart fs (w ∷ ws) r h a = row_apart fs w (lex_rows fs ws r) h.0 (rows_apart fs ws r h.1 a)

pub tables_apart : (fs : FieldTable) (ts : List Table) (r : List Lexeme) → AreTablesShown fs ts → AreSeparate r → AreSeparate (lex_tables fs ts r)
tables_apart fs [] r h a = a
tables_apart fs (t ∷ ts) r h a = (
  (refl, refl),
  refl,
  (
    tt,
    refl,
    (
      h.0.0,
      refl,
      (
        tt,
        feed_apart (lex_groups fs t.groups (lex_rows fs t.rows (lex_tables fs ts r))),
        groups_apart fs t.groups (lex_rows fs t.rows (lex_tables fs ts r)) h.0.1 (rows_apart fs t.rows (lex_tables fs ts r) h.0.2 (tables_apart fs ts r h.1 a)),
      ),
    ),
  ),
)

groups_spelled : (fs : FieldTable) (line : ℕ) (gs : List Group) (r : List Lexeme) → AreGroupsShown fs gs
    → terminals_on line (lex_groups fs gs r) ≡ flat_map spell_group (written_groups fs line gs) ++ terminals_on (following line gs) r
groups_spelled fs line [] r h = refl
groups_spelled fs line (g ∷ gs) r h =
    group_spelled fs line g (lex_groups fs gs r) h.0
    ∙ ap (λ l. spell_group (written_group fs line g) ++ l) (groups_spelled fs (line + 1) gs r h.1)
    ∙ sym (append_assoc (spell_group (written_group fs line g)) (flat_map spell_group (written_groups fs (line + 1) gs)) (terminals_on (following (line + 1) gs) r))

rows_spelled : (fs : FieldTable) (line : ℕ) (ws : List Row) (r : List Lexeme) → AreRowsShown fs ws
    → terminals_on line (lex_rows fs ws r) ≡ flat_map spell_table_row (written_rows fs line ws) ++ terminals_on (following line ws) r
rows_spelled fs line [] r h = refl
rows_spelled fs line (w ∷ ws) r h =
    row_spelled fs line w (lex_rows fs ws r) h.0
    ∙ ap (λ l. spell_table_row (written_row fs line w) ++ l) (rows_spelled fs (line + 1) ws r h.1)
    ∙ sym (append_assoc (spell_table_row (written_row fs line w)) (flat_map spell_table_row (written_rows fs (line + 1) ws)) (terminals_on (following (line + 1) ws) r))

pub tables_spelled : (fs : FieldTable) (line : ℕ) (ts : List Table) → AreTablesShown fs ts
    → terminals_on line (lex_tables fs ts []) ≡ flat_map spell_table (written_tables fs line ts)
tables_spelled fs line [] h = refl
tables_spelled fs line (t ∷ ts) h =
    let gl = line + 1 in
    let rl = following gl t.groups in
    let el = following rl t.rows in
    let gs = flat_map spell_group (written_groups fs gl t.groups) in
    let ws = flat_map spell_table_row (written_rows fs rl t.rows) in
    ap (λ l. mark kind.Table ∷ number (number_on line t.switch) ∷ l)
    (groups_spelled fs gl t.groups (lex_rows fs t.rows (lex_tables fs ts [])) h.0.1
    ∙ ap (λ l. gs ++ l) (rows_spelled fs rl t.rows (lex_tables fs ts []) h.0.2 ∙ ap (λ l. ws ++ l) (tables_spelled fs el ts h.1))
    ∙ sym (append_assoc gs ws (flat_map spell_table (written_tables fs el ts))))
