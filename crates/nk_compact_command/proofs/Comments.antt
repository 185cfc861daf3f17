-- Comment lines after a table text: the tables are the same.
use Rattle.std.proofs.Common.{◌≡◌, ℕ, zero, ◌+◌, ◌-◌, true, false, inl, inr, ⊎_elim, ◌⊎◌, Option, Some, None, List, [], ◌∷◌, ◌++◌, length, append_assoc, append-nil, refl, sym, ap, subst, ◌∙◌, arith, codes, decimal}
use Rattle.std.specs.Prelude.{take_while, All, Ok, Err, drop}
use Rattle.std.specs.declared.result.Result.{Result}
use Rattle.std.specs.List.{flat_map, list_all}
use Rattle.std.proofs.lemmas.List.Elements.{All-head, All-tail}
use Rattle.nk_lex.specs.declared.token.Token.{Token}
use Rattle.nk_lex.specs.declared.token.LexError.{LexError}
use Rattle.nk_lex.specs.Classes.{not_line_feed}
use Rattle.nk_lex.specs.Joined.{joined, joined_after, JoinsTexts}
use Rattle.nk_lex.specs.Lex.{scan, go_on, cut, tokens_of, lex_result}
use Rattle.nk_lex.specs.Faults.{and_then}
use Rattle.nk_lex.specs.Spans.{line_feeds}
use Rattle.nk_lex.specs.declared.front.Front.TheVariants as front
use Rattle.nk_lex.proofs.Digits.{run_is}
use Rattle.nk_lex.proofs.Joining.{joins}
use Rattle.nk_field.specs.Packet.{FieldTable}
use Rattle.nk_topo.specs.Topology.{SwitchPorts, Link}
use Rattle.nk_table.specs.declared.Tables.{Tables}
use Rattle.nk_table.specs.declared.Table.{Table}
use Rattle.nk_table.specs.declared.Group.{Group}
use Rattle.nk_table.specs.declared.Row.{Row}
use Rattle.nk_table.specs.Rules.{rows_of, groups_at_switch}
use Rattle.nk_tabtext.specs.Text.{table_bytes, version_text, version_of, field_text, table_field_lines, fields_text, tag_line, tag_text, switch_text, link_text, ports_text, topology_text, group_text, row_text, rules_text, section_text, bucket_text, matches_text, target_text, name_of}
use Rattle.nk_tabtext.specs.Values.{lexed, tables_of, tables_of_tokens}
use Rattle.nk_compact_command.specs.CommentLines.{IsCommentLine}

-- ---- comment lines have no tokens

-- the bytes of a lexeme are passed over
skipped : (xs r : List ℕ) (line at : ℕ) → scan (xs ++ r) (length xs) line at ≡ scan r zero line (at + length xs)
skipped [] r line at = ap (λ n. scan r zero line n) (omega arith)
skipped (x ∷ xs) r line at = skipped xs r line (at + 1) ∙ ap (λ n. scan r zero line n) (omega arith)

one_line : (body r : List ℕ) (line at : ℕ) → list_all not_line_feed body ≡ true → (place : ℕ) × (scan (35 ∷ (body ++ 10 ∷ r)) zero line at ≡ scan r zero (line + 1) place)
one_line body r line at h =
    let run : take_while not_line_feed (body ++ 10 ∷ r) ≡ body = run_is not_line_feed body (10 ∷ r) h refl in (
      at + 1 + length body + 1,
      ap (λ (l : List ℕ). go_on (cut (front.Blank (length l + 1)) line at (35 ∷ (body ++ 10 ∷ r))) (λ n. scan (body ++ 10 ∷ r) (n - 1) line (at + 1))) run
          ∙ ap (λ n. scan (body ++ 10 ∷ r) n line (at + 1)) (let e : length body + 1 - 1 ≡ length body = omega arith in e)
          ∙ skipped body (10 ∷ r) line (at + 1),
    )

-- comment lines one after the other
none_scanned : {A : Type 0} (f : A → List ℕ) (xs : List A) → All (λ x. IsCommentLine (f x)) xs → (line at : ℕ) → scan (flat_map f xs) zero line at ≡ ([], None)
none_scanned f [] h line at = refl
none_scanned {A} f (x ∷ xs) h line at =
    let c : IsCommentLine (f x) = All-head (λ y. IsCommentLine (f y)) x xs h in
    let rest = flat_map f xs in
    let one = one_line c.body rest line at c.plain in
    ap (λ l. scan (l ++ rest) zero line at) c.is
    ∙ ap (λ l. scan (35 ∷ l) zero line at) (append_assoc c.body (10 ∷ []) rest)
    ∙ one.1
    ∙ none_scanned f xs (All-tail (λ y. IsCommentLine (f y)) x xs h) (line + 1) one.0

no_tokens : {A : Type 0} (f : A → List ℕ) (xs : List A) → All (λ x. IsCommentLine (f x)) xs → tokens_of (flat_map f xs) ≡ Ok []
no_tokens f xs h = ap lex_result (none_scanned f xs h 1 0)

-- ---- after a text that ends a line they change nothing

-- the text ends a line
record EndsLine (text : List ℕ) : Type 0 where
  before : List ℕ
  is : text ≡ before ++ 10 ∷ []

nothing_following : (r : Result (List Token) LexError) (lines places : ℕ) → joined_after r lines places (Ok []) ≡ r
nothing_following (Ok ts) lines places = ap (λ l. Ok l) (append-nil ts)
nothing_following (Err e) lines places = refl

same_tokens : JoinsTexts → (text comments : List ℕ) → EndsLine text → tokens_of comments ≡ Ok [] → tokens_of (text ++ comments) ≡ tokens_of text
same_tokens joins text comments ends none =
    let a = ends.before in
    let first : (b : List ℕ) → tokens_of b ≡ Ok [] → tokens_of (joined a b) ≡ tokens_of a = λ b e.
    joins a b ∙ ap (λ r. joined_after (tokens_of a) (line_feeds a + 1) (length a + 1) r) e ∙ nothing_following (tokens_of a) (line_feeds a + 1) (length a + 1) in
    ap (λ l. tokens_of (l ++ comments)) ends.is
    ∙ ap tokens_of (append_assoc a (10 ∷ []) comments)
    ∙ first comments none
    ∙ sym (first [] refl)
    ∙ ap tokens_of (sym ends.is)

-- ---- a table text ends a line

-- it is empty or ends a line
abbrev MayEnd : List ℕ → Type 0
MayEnd text = (text ≡ []) ⊎ EndsLine text

ends_after : (x y : List ℕ) → EndsLine y → EndsLine (x ++ y)
ends_after x y e = record { before = x ++ e.before; is = ap (λ l. x ++ l) e.is ∙ sym (append_assoc x e.before (10 ∷ [])) }

ends_before : (x y : List ℕ) → EndsLine x → MayEnd y → EndsLine (x ++ y)
ends_before x y e m =
    ⊎_elim
    (λ none. subst (λ l. EndsLine (x ++ l)) (sym none) (subst EndsLine (sym (append-nil x)) e))
    (λ some. ends_after x y some)
    m

may_end : (x y : List ℕ) → MayEnd x → MayEnd y → MayEnd (x ++ y)
may_end x y m n = ⊎_elim (λ none. subst (λ l. MayEnd (l ++ y)) (sym none) n) (λ some. inr (ends_before x y some n)) m

all_end : {A : Type 0} (f : A → List ℕ) → ((a : A) → EndsLine (f a)) → (xs : List A) → MayEnd (flat_map f xs)
all_end f h [] = inl refl
all_end f h (x ∷ xs) = inr (ends_before (f x) (flat_map f xs) (h x) (all_end f h xs))

feed : EndsLine (codes "\n")
feed = record { before = []; is = refl }

-- whatever stands before the line feed
line : (a : List ℕ) → EndsLine (a ++ codes "\n")
line a = ends_after a (codes "\n") feed

fields_end : (names : List (List ℕ)) (maxima : List ℕ) → MayEnd (table_field_lines names maxima)
fields_end [] maxima = inl refl
fields_end (n ∷ names) [] = inl refl
fields_end (n ∷ names) (m ∷ maxima) =
    inr (ends_before (field_text n m) (table_field_lines names maxima) (line (codes "field " ++ n ++ codes " " ++ decimal m)) (fields_end names maxima))

tag_ends : (fs : FieldTable) (o : Option ℕ) → MayEnd (tag_line fs o)
tag_ends fs None = inl refl
tag_ends fs (Some f) = inr (line (codes "tag " ++ name_of fs f))

switch_ends : (s : SwitchPorts) → EndsLine (switch_text s)
switch_ends s = line (codes "switch " ++ decimal s.switch ++ codes " ports " ++ ports_text s.ports)

link_ends : (l : Link) → EndsLine (link_text l)
link_ends l = line (codes "link " ++ decimal l.from_switch ++ codes ":" ++ decimal l.from_port ++ codes " -> " ++ decimal l.to_switch ++ codes ":" ++ decimal l.to_port)

group_ends : (fs : FieldTable) (g : Group) → EndsLine (group_text fs g)
group_ends fs g = line (codes "group " ++ decimal g.number ++ codes " =" ++ flat_map (λ b. codes " " ++ bucket_text fs b) g.buckets)

row_ends : (fs : FieldTable) (r : Row) → EndsLine (row_text fs r)
row_ends fs r =
    line (codes "row " ++ decimal r.priority ++ codes " : " ++ matches_text fs true r.matches ++ matches_text fs false r.matches ++ codes "-> " ++ target_text fs r.target)

section_ends : (fs : FieldTable) (tables : List Table) (sw : ℕ) → EndsLine (section_text fs tables sw)
section_ends fs tables sw =
    let groups = flat_map (group_text fs) (groups_at_switch tables sw) in
    let rows = flat_map (row_text fs) (rows_of tables sw) in
    ends_before (codes "table " ++ decimal sw ++ codes "\n") (rules_text fs tables sw) (line (codes "table " ++ decimal sw))
    (may_end groups rows (all_end (group_text fs) (group_ends fs) (groups_at_switch tables sw)) (all_end (row_text fs) (row_ends fs) (rows_of tables sw)))

table_ends : (t : Tables) → EndsLine (table_bytes t)
table_ends t =
    let fs = t.fields in
    let version = version_text (version_of t) in
    let section = λ (s : SwitchPorts). section_text fs t.tables s.switch in
    ends_before (version ++ fields_text fs ++ tag_text fs ++ topology_text t.topo) (flat_map section t.topo.switches)
    (ends_before (version ++ fields_text fs ++ tag_text fs) (topology_text t.topo)
    (ends_before (version ++ fields_text fs) (tag_text fs)
    (ends_before version (fields_text fs) (line (codes "tables " ++ decimal (version_of t))) (fields_end (drop 2 fs.names) (drop 2 fs.maxima)))
    (tag_ends fs fs.tag))
    (may_end (flat_map switch_text t.topo.switches) (flat_map link_text t.topo.links) (all_end switch_text switch_ends t.topo.switches) (all_end link_text link_ends t.topo.links)))
    (all_end section (λ s. section_ends fs t.tables s.switch) t.topo.switches)

-- ---- so the tables are the same

pub comments_change_nothing : {A : Type 0} (f : A → List ℕ) (xs : List A) → All (λ x. IsCommentLine (f x)) xs
    → (t : Tables) → tables_of (table_bytes t ++ flat_map f xs) ≡ tables_of (table_bytes t)
comments_change_nothing f xs h t =
    ap (λ r. and_then (lexed r) tables_of_tokens) (same_tokens joins (table_bytes t) (flat_map f xs) (table_ends t) (no_tokens f xs h))
