-- The tables of switches that are printed are read as they are.
use Rattle.std.proofs.Common.{◌≡◌, ◌≤◌, ◌<◌, ◌+◌, ℕ, List, [], ◌∷◌, ◌++◌, Bool, true, false, cond, refl, sym, ap, ◌∙◌, append_assoc, append-nil, map, Some, None, arith, ◌||◌}
use Rattle.std.specs.Prelude.{◌==◌, Ok, nat_lt, not, is_some, unwrap_or}
use Rattle.std.specs.List.{list_any}
use Rattle.std.specs.Map.{lookup}
use Rattle.std.specs.Ordering.{nat_cmp, is_eq, match_ordering}
use Rattle.std.specs.declared.cmp.Ordering.TheVariants.{Less, Equal, Greater}
use Rattle.std.specs.BTreeMap.{insert_entry, is_at}
use Rattle.std.proofs.lemmas.Bool.Decides.{nat_tests}
use Rattle.nk_lex.specs.Faults.{and_then, first_of}
use Rattle.nk_field.specs.Packet.{FieldTable}
use Rattle.nk_field.specs.Act.{AscendsFrom}
use Rattle.nk_topo.specs.Topology.{is_switch}
use Rattle.nk_table.specs.declared.Table.{Table}
use Rattle.nk_table.specs.declared.Row.{Row}
use Rattle.nk_table.specs.declared.Group.{Group}
use Rattle.nk_table.specs.declared.Bucket.{Bucket}
use Rattle.nk_table.specs.declared.Target.{Target}
use Rattle.nk_table.specs.declared.Target.TheVariants as does
use Rattle.nk_table.specs.declared.Exit.{Exit}
use Rattle.nk_table.specs.declared.Exit.TheVariants as exit
use Rattle.nk_tabgrammar.specs.declared.written.WrittenTable.{WrittenTable}
use Rattle.nk_declare.specs.Declarations.{DeclaredValue}
use Rattle.nk_tabtext.specs.Values.{line_if, unless_at, checked, way_read, bucket_with, bucket_read, buckets_read, has_key, group_of, group_fault, group_read, groups_read, target_read, row_with, row_read, rows_read, table_fault, table_with, table_read, tables_read, empty_table, table_for, matches_read}
use Rattle.nk_tabtext.specs.ReadBack.{IsExit}
use Rattle.nk_tabtext.proofs.Lines.{number_on, written_way, written_bucket}
use Rattle.nk_tabtext.proofs.TableLines.{HasOne, group_with, written_group, written_groups, written_target, written_row, written_rows, following, written_tables}
use Rattle.nk_tabtext.specs.InOrder.{MatchesAscend}
use Rattle.nk_tabtext.proofs.Merging.{AreGood, bucket_pairs}
use Rattle.nk_tabtext.proofs.Matched.{AreFine, tag_first}

-- no number above a bound
not_above : (n k : ℕ) → n ≤ k → nat_lt k n ≡ false
not_above n k le = grind (arith, nat_tests)

-- ---- buckets

abbrev pub IsBucketGood : FieldTable → Bucket → Type 0
IsBucketGood fs b = AscendsFrom 2 b.sets × AreGood fs 2 b.sets × IsExit b.exit

abbrev pub AreBucketsGood : FieldTable → List Bucket → Type 0
AreBucketsGood fs [] = Unit {0}
AreBucketsGood fs (b ∷ bs) = IsBucketGood fs b × AreBucketsGood fs bs

way_back : (line : ℕ) (e : Exit) → IsExit e → way_read (written_way line e) ≡ Ok e
way_back line exit.Back h = refl
way_back line (exit.Port n) h = ap (λ b. unless_at (line_if b line) (exit.Port n)) (not_above n 65535 h)

bucket_back : (fs : FieldTable) (line : ℕ) (b : Bucket) → IsBucketGood fs b → bucket_read fs (written_bucket fs line b) ≡ Ok b
bucket_back fs line b h =
    ap (λ r. and_then r (λ sets. and_then (way_read (written_way line b.exit)) (λ e. Ok (bucket_with sets e)))) (bucket_pairs fs 2 line 2 b.sets h.0 h.1)
    ∙ ap (λ r. and_then r (λ e. Ok (bucket_with b.sets e))) (way_back line b.exit h.2)

buckets_back : (fs : FieldTable) (line : ℕ) (before bs : List Bucket) → AreBucketsGood fs bs
    → buckets_read fs before (map (written_bucket fs line) bs) ≡ Ok (before ++ bs)
buckets_back fs line before [] h = ap (λ l. Ok l) (sym (append-nil before))
buckets_back fs line before (b ∷ bs) h =
    ap (λ r. and_then r (λ x. buckets_read fs (before ++ x ∷ []) (map (written_bucket fs line) bs))) (bucket_back fs line b h.0)
    ∙ buckets_back fs line (before ++ b ∷ []) bs h.1
    ∙ ap (λ l. Ok l) (append_assoc before (b ∷ []) bs)

-- ---- entries by ascending keys

-- where a key stands to a number
compared : (n k : ℕ) → nat_lt n k ≡ false → (n == k) ≡ false → nat_cmp n k ≡ Greater
compared n k e f = ap (λ b. cond b Less (cond (n == k) Equal Greater)) e ∙ ap (λ b. cond b Equal Greater) f

pub above_key : (n k : ℕ) → k < n → nat_cmp n k ≡ Greater
above_key n k lt = compared n k (no_less n k lt) (no_same n k lt)
  where
    no_less : (n k : ℕ) → k < n → nat_lt n k ≡ false
    no_less n k lt = grind (arith, nat_tests)

    no_same : (n k : ℕ) → k < n → (n == k) ≡ false
    no_same n k lt = grind (arith, nat_tests)

pub same_key : (n : ℕ) → is_at (nat_cmp n) n ≡ true
same_key n =
    ap (λ b. is_eq (cond b Less (cond (n == n) Equal Greater))) (no_less n) ∙ ap (λ b. is_eq (cond b Equal Greater)) (same n)
  where
    no_less : (n : ℕ) → nat_lt n n ≡ false
    no_less n = grind (arith, nat_tests)

    same : (n : ℕ) → (n == n) ≡ true
    same n = grind (arith, nat_tests)

-- all keys are below
abbrev pub KeysBelow : {X : Type 0} → ℕ → List (ℕ × X) → Type 0
KeysBelow n [] = Unit {0}
KeysBelow n (e ∷ es) = (e.0 < n) × KeysBelow n es

module _ {X : Type 0} where
  keys_more : (k n : ℕ) (es : List (ℕ × X)) → k ≤ n → KeysBelow k es → KeysBelow n es
  keys_more k n [] le h = tt
  keys_more k n (e ∷ es) le h = (omega (arith, le, h.0), keys_more k n es le h.1)

  keys_push : (n : ℕ) (es : List (ℕ × X)) (e : ℕ × X) → KeysBelow n es → e.0 < n → KeysBelow n (es ++ e ∷ [])
  keys_push n [] e h lt = (lt, tt)
  keys_push n (x ∷ es) e h lt = (h.0, keys_push n es e h.1 lt)

  no_key : (n : ℕ) (es : List (ℕ × X)) → KeysBelow n es → lookup (is_at (nat_cmp n)) es ≡ None
  no_key n [] h = refl
  no_key n (e ∷ es) h =
      ap (λ o. cond (is_eq o) (Some e.1) (lookup (is_at (nat_cmp n)) es)) (above_key n e.0 h.0) ∙ no_key n es h.1

  put_last : (n : ℕ) (es : List (ℕ × X)) (x : X) → KeysBelow n es → insert_entry nat_cmp es n x ≡ es ++ (n, x) ∷ []
  put_last n [] x h = refl
  put_last n (e ∷ es) x h =
      ap (λ o. match_ordering o ((n, x) ∷ e ∷ es) ((e.0, x) ∷ es) (e ∷ insert_entry nat_cmp es n x)) (above_key n e.0 h.0)
      ∙ ap (λ l. e ∷ l) (put_last n es x h.1)

  found_after : (n : ℕ) (es fs : List (ℕ × X)) → KeysBelow n es → lookup (is_at (nat_cmp n)) (es ++ fs) ≡ lookup (is_at (nat_cmp n)) fs
  found_after n [] fs h = refl
  found_after n (e ∷ es) fs h =
      ap (λ o. cond (is_eq o) (Some e.1) (lookup (is_at (nat_cmp n)) (es ++ fs))) (above_key n e.0 h.0) ∙ found_after n es fs h.1

-- ---- groups

-- a group's entry
abbrev pub group_entry : Group → ℕ × Group
group_entry g = (g.number, g)

abbrev pub AreGroupsGood : FieldTable → ℕ → List Group → Type 0
AreGroupsGood fs low [] = Unit {0}
AreGroupsGood fs low (g ∷ gs) = (low ≤ g.number) × AreBucketsGood fs g.buckets × HasOne g.buckets × AreGroupsGood fs (g.number + 1) gs

group_back : (fs : FieldTable) (line : ℕ) (before : List (ℕ × Group)) (g : Group) → 1 ≤ g.number → KeysBelow g.number before
    → AreBucketsGood fs g.buckets → HasOne g.buckets → group_read fs before (written_group fs line g) ≡ Ok g
group_back fs line before g low keys h one = by g.buckets h one
  where
    not_zero : (n : ℕ) → 1 ≤ n → (n == 0) ≡ false
    not_zero n le = grind (arith, nat_tests)

    fine : group_fault before (number_on line g.number) ≡ None
    fine =
        ap (λ b. line_if (b || has_key before g.number) line) (not_zero g.number low)
        ∙ ap (λ o. line_if (is_some o) line) (no_key g.number before keys)

    by : (bs : List Bucket) → AreBucketsGood fs bs → HasOne bs
        → group_read fs before (group_with fs line g.number bs) ≡ Ok (record { number = g.number; buckets = bs })
    by [] h one = absurd one
    by (b ∷ bs) h one =
        ap (λ f. checked f (and_then (bucket_read fs (written_bucket fs line b)) (λ x. and_then (buckets_read fs (x ∷ []) (map (written_bucket fs line) bs)) (λ l. Ok (group_of (number_on line g.number) l))))) fine
        ∙ ap (λ r. and_then r (λ x. and_then (buckets_read fs (x ∷ []) (map (written_bucket fs line) bs)) (λ l. Ok (group_of (number_on line g.number) l)))) (bucket_back fs line b h.0)
        ∙ ap (λ r. and_then r (λ l. Ok (group_of (number_on line g.number) l))) (buckets_back fs line (b ∷ []) bs h.1)

groups_back : (fs : FieldTable) (line low : ℕ) (before : List (ℕ × Group)) (gs : List Group) → 1 ≤ low → KeysBelow low before → AreGroupsGood fs low gs
    → groups_read fs before (written_groups fs line gs) ≡ Ok (before ++ map group_entry gs)
groups_back fs line low before [] le keys h = ap (λ l. Ok l) (sym (append-nil before))
groups_back fs line low before (g ∷ gs) le keys h =
    let below = keys_more low g.number before h.0 keys in
    ap (λ r. and_then r (λ x. groups_read fs (insert_entry nat_cmp before x.number x) (written_groups fs (line + 1) gs))) (group_back fs line before g (omega (arith, le, h.0)) below h.1 h.2)
    ∙ ap (λ l. groups_read fs l (written_groups fs (line + 1) gs)) (put_last g.number before g below)
    ∙ groups_back fs (line + 1) (g.number + 1) (before ++ group_entry g ∷ []) gs (omega arith) (keys_push (g.number + 1) before (group_entry g) (keys_more g.number (g.number + 1) before (omega arith) below) (omega arith)) h.3
    ∙ ap (λ l. Ok l) (append_assoc before (group_entry g ∷ []) (map group_entry gs))

-- the test for a key
pub same_test : (n k : ℕ) → is_at (nat_cmp n) k ≡ (k == n)
same_test n k = at (nat_lt n k) refl
  where
    less : (n k : ℕ) → nat_lt n k ≡ true → false ≡ (k == n)
    less n k e = grind (arith, nat_tests, e)

    turned : (n k : ℕ) → (n == k) ≡ (k == n)
    turned n k = grind (arith, nat_tests)

    shown : (b : Bool) → is_eq (cond b Equal Greater) ≡ b
    shown true = refl
    shown false = refl

    at : (b : Bool) → nat_lt n k ≡ b → is_eq (cond b Less (cond (n == k) Equal Greater)) ≡ (k == n)
    at true e = less n k e
    at false e = shown (n == k) ∙ turned n k

-- a number that a group has is a key
group_there : (n : ℕ) (gs : List Group) → list_any (λ g. g.number == n) gs ≡ true → has_key (map group_entry gs) n ≡ true
group_there n [] e = absurd (false_true e)
  where
    false_true : false ≡ true → ⊥
    false_true e = cc
group_there n (g ∷ gs) e = by (g.number == n) refl e (group_there n gs)
  where
    by : (b : Bool) → (g.number == n) ≡ b → (b || list_any (λ x. x.number == n) gs) ≡ true
        → (list_any (λ x. x.number == n) gs ≡ true → has_key (map group_entry gs) n ≡ true)
        → is_some (cond (is_at (nat_cmp n) g.number) (Some g) (lookup (is_at (nat_cmp n)) (map group_entry gs))) ≡ true
    by true s e go = ap (λ b. is_some (cond b (Some g) (lookup (is_at (nat_cmp n)) (map group_entry gs)))) (same_test n g.number ∙ s)
    by false s e go = ap (λ b. is_some (cond b (Some g) (lookup (is_at (nat_cmp n)) (map group_entry gs)))) (same_test n g.number ∙ s) ∙ go e

-- ---- rows

abbrev pub IsTargetGood : FieldTable → List Group → Target → Type 0
IsTargetGood fs gs (does.Bucket b) = IsBucketGood fs b
IsTargetGood fs gs (does.Group n) = list_any (λ g. g.number == n) gs ≡ true
IsTargetGood fs gs does.Discard = Unit {0}

abbrev pub AreRowsGood : ℕ → FieldTable → List Group → List Row → Type 0
AreRowsGood version fs gs [] = Unit {0}
AreRowsGood version fs gs (w ∷ ws) =
    ((w.priority ≤ 65535) × MatchesAscend 1 w.matches × AreFine version fs w.matches × IsTargetGood fs gs w.target) × AreRowsGood version fs gs ws

target_back : (fs : FieldTable) (line : ℕ) (gs : List Group) (t : Target) → IsTargetGood fs gs t
    → target_read fs (map group_entry gs) (written_target fs line t) ≡ Ok t
target_back fs line gs (does.Bucket b) h = ap (λ r. and_then r (λ x. Ok (does.Bucket x))) (bucket_back fs line b h)
target_back fs line gs (does.Group n) h = ap (λ b. unless_at (line_if (not b) line) (does.Group n)) (group_there n gs h)
target_back fs line gs does.Discard h = refl

rows_back : (version : ℕ) (fs : FieldTable) (line : ℕ) (gs : List Group) (before ws : List Row) → AreRowsGood version fs gs ws
    → rows_read version fs (map group_entry gs) before (written_rows fs line ws) ≡ Ok (before ++ ws)
rows_back version fs line gs before [] h = ap (λ l. Ok l) (sym (append-nil before))
rows_back version fs line gs before (w ∷ ws) h =
    ap (λ r. and_then r (λ x. rows_read version fs es (before ++ x ∷ []) (written_rows fs (line + 1) ws))) one
    ∙ rows_back version fs (line + 1) gs (before ++ w ∷ []) ws h.1
    ∙ ap (λ l. Ok l) (append_assoc before (w ∷ []) ws)
  where
    es : List (ℕ × Group)
    es = map group_entry gs

    one : row_read version fs es (written_row fs line w) ≡ Ok w
    one =
        ap (λ b. checked (line_if b line) (and_then (matches_read version fs [] (written_row fs line w).matches) (λ ms. and_then (target_read fs es (written_target fs line w.target)) (λ t. Ok (row_with (number_on line w.priority) ms t))))) (not_above w.priority 65535 h.0.0)
        ∙ ap (λ r. and_then r (λ ms. and_then (target_read fs es (written_target fs line w.target)) (λ t. Ok (row_with (number_on line w.priority) ms t)))) (tag_first version fs line 1 w.matches h.0.1 h.0.2)
        ∙ ap (λ r. and_then r (λ t. Ok (row_with (number_on line w.priority) w.matches t))) (target_back fs line gs w.target h.0.3)

-- ---- tables

-- a table's entry
abbrev pub table_entry : Table → ℕ × Table
table_entry t = (t.switch, t)

abbrev pub AreTablesGood : ℕ → DeclaredValue → ℕ → List Table → Type 0
AreTablesGood version s low [] = Unit {0}
AreTablesGood version s low (t ∷ ts) =
    ((low ≤ t.switch) × (t.switch ≤ 65535) × (is_switch s.topo t.switch ≡ true) × AreGroupsGood s.fields 1 t.groups × AreRowsGood version s.fields t.groups t.rows)
    × AreTablesGood version s (t.switch + 1) ts

-- the entries' groups
entries_groups : (gs : List Group) → map (λ e. e.1) (map group_entry gs) ≡ gs
entries_groups [] = refl
entries_groups (g ∷ gs) = ap (λ l. g ∷ l) (entries_groups gs)

pub tables_back : (version : ℕ) (s : DeclaredValue) (line low : ℕ) (before : List (ℕ × Table)) (ts : List Table) → KeysBelow low before → AreTablesGood version s low ts
    → tables_read version s before (written_tables s.fields line ts) ≡ Ok (before ++ map table_entry ts)
tables_back version s line low before [] keys h = ap (λ l. Ok l) (sym (append-nil before))
tables_back version s line low before (t ∷ ts) keys h =
    ap (λ r. and_then r (λ x. tables_read version s (insert_entry nat_cmp before x.switch x) rest)) one
    ∙ ap (λ l. tables_read version s l rest) (put_last t.switch before t below)
    ∙ tables_back version s (following rl t.rows) (t.switch + 1) (before ++ table_entry t ∷ []) ts (keys_push (t.switch + 1) before (table_entry t) (keys_more t.switch (t.switch + 1) before (omega arith) below) (omega arith)) h.1
    ∙ ap (λ l. Ok l) (append_assoc before (table_entry t ∷ []) (map table_entry ts))
  where
    rl : ℕ
    rl = following (line + 1) t.groups

    rest : List WrittenTable
    rest = written_tables s.fields (following rl t.rows) ts

    below : KeysBelow t.switch before
    below = keys_more low t.switch before h.0.0 keys

    fine : table_fault s.topo before (number_on line t.switch) ≡ None
    fine =
        ap (λ b. first_of (line_if b line) (line_if (not (is_switch s.topo t.switch) || has_key before t.switch) line)) (not_above t.switch 65535 h.0.1)
        ∙ ap (λ b. line_if (not b || has_key before t.switch) line) h.0.2
        ∙ ap (λ o. line_if (is_some o) line) (no_key t.switch before below)

    one : table_read version s before (record { switch = number_on line t.switch; groups = written_groups s.fields (line + 1) t.groups; rows = written_rows s.fields rl t.rows }) ≡ Ok t
    one =
        ap (λ f. checked f (and_then (groups_read s.fields [] (written_groups s.fields (line + 1) t.groups)) (λ gs. and_then (rows_read version s.fields gs [] (written_rows s.fields rl t.rows)) (λ rs. Ok (table_with (number_on line t.switch) gs rs))))) fine
        ∙ ap (λ r. and_then r (λ gs. and_then (rows_read version s.fields gs [] (written_rows s.fields rl t.rows)) (λ rs. Ok (table_with (number_on line t.switch) gs rs)))) (groups_back s.fields (line + 1) 1 [] t.groups (omega arith) tt h.0.3)
        ∙ ap (λ r. and_then r (λ rs. Ok (table_with (number_on line t.switch) (map group_entry t.groups) rs))) (rows_back version s.fields rl t.groups [] t.rows h.0.4)
        ∙ ap (λ l. Ok (record { switch = t.switch; groups = l; rows = t.rows })) (entries_groups t.groups)

-- ascending tables
abbrev pub TablesFrom : ℕ → List Table → Type 0
TablesFrom low [] = Unit {0}
TablesFrom low (t ∷ ts) = (low ≤ t.switch) × TablesFrom (t.switch + 1) ts

-- the table of each switch is its own
pub each_is : (low : ℕ) (before : List (ℕ × Table)) (ts : List Table) → KeysBelow low before → TablesFrom low ts
    → map (table_for (before ++ map table_entry ts)) (map (λ t. t.switch) ts) ≡ ts
each_is low before [] keys h = refl
each_is low before (t ∷ ts) keys h =
    let below = keys_more low t.switch before h.0 keys in
    let this : table_for (before ++ table_entry t ∷ map table_entry ts) t.switch ≡ t =
    ap (λ o. unwrap_or o (empty_table t.switch)) (found_after t.switch before (table_entry t ∷ map table_entry ts) below
    ∙ ap (λ b. cond b (Some t) (lookup (is_at (nat_cmp t.switch)) (map table_entry ts))) (same_key t.switch)) in
    ap (λ x. x ∷ map (table_for (before ++ table_entry t ∷ map table_entry ts)) (map (λ u. u.switch) ts)) this
    ∙ ap (λ l. t ∷ map (table_for l) (map (λ u. u.switch) ts)) (sym (append_assoc before (table_entry t ∷ []) (map table_entry ts)))
    ∙ ap (λ l. t ∷ l) (each_is (t.switch + 1) (before ++ table_entry t ∷ []) ts (keys_push (t.switch + 1) before (table_entry t) (keys_more t.switch (t.switch + 1) before (omega arith) below) (omega arith)) h.1)
