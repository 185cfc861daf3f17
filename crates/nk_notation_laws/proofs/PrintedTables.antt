-- The texts of tables have plain numbers.
use Rattle.std.proofs.Common.{◌≡◌, ◌<◌, ◌≤◌, ◌==◌, ◌&&◌, ◌||◌, ℕ, zero, suc, Bool, true, false, cond, List, [], ◌∷◌, ◌++◌, length, drop, decimal, refl, sym, ap, subst, ◌∙◌, arith, append_assoc, append-nil}
use Rattle.std.proofs.lemmas.Bool.{eqb-true}
use Rattle.std.proofs.lemmas.List.Elements.{All-cons, All-head, All-nil, All-tail}
use Rattle.std.specs.Prelude.{All, Contains, Option, None, Some, codes, slice_index, slice_index_or}
use Rattle.std.specs.List.{flat_map, list_any}
use Rattle.nk_lex.specs.Lex.{largest}
use Rattle.nk_lex.specs.Spelling.{IsName, space}
use Rattle.nk_lex.proofs.Digits.{StopsAt, both_pass}
use Rattle.nk_field.specs.Packet.{FieldTable, IsFieldTable, IsValue}
use Rattle.nk_field.specs.Texts.{is_tag, name_of}
use Rattle.nk_prefix.specs.Prefix.{digits_of}
use Rattle.nk_prefix.proofs.Powers.{fewest}
use Rattle.nk_table.specs.declared.Bucket.{Bucket}
use Rattle.nk_table.specs.declared.Exit.{Exit}
use Rattle.nk_table.specs.declared.Exit.TheVariants as exit
use Rattle.nk_table.specs.declared.Group.{Group}
use Rattle.nk_table.specs.declared.Row.{Row}
use Rattle.nk_table.specs.declared.Table.{Table}
use Rattle.nk_table.specs.declared.Tables.{Tables}
use Rattle.nk_table.specs.declared.Target.{Target}
use Rattle.nk_table.specs.declared.Target.TheVariants as does
use Rattle.nk_table.specs.Rules.{groups_at_switch, rows_of}
use Rattle.nk_tabtext.proofs.Lines.{left5}
use Rattle.nk_tabtext.specs.ReadBack.{ArePrintableTables, IsExit, IsPrintableBucket, IsPrintableGroup, IsPrintableMatch, IsPrintableRow, IsPrintableTable, IsPrintableTarget}
use Rattle.nk_tabtext.specs.Text.{bucket_text, exit_text, field_text, fields_text, group_text, have_prefix, is_exact, length_text, link_text, match_text, matches_text, ports_text, row_text, rules_text, section_text, set_text, sets_text, switch_text, table_bytes, table_field_lines, tag_line, tag_text, target_text, topology_text, version_of, version_text, where_same}
use Rattle.nk_topo.specs.Topology.{IsTopology, Link, SwitchPorts, Topology}
use Rattle.nk_notation.specs.Inward.{text_start}
use Rattle.nk_notation.specs.Lexemes.{begins_word, is_run_byte}
use Rattle.nk_notation_laws.specs.Laws.{IsLeftByIn, TablesAreLeft}
use Rattle.nk_notation_laws.proofs.Pieces.{left_word, most, name_at, left_named}
use Rattle.nk_notation_laws.proofs.PlainTexts.{Left, left_assigned, left_byte, left_colon, left_decimal, left_declared, left_equals, left_name, left_nothing, left_pair, left_prefix, nothing_still, port_still}
use Rattle.nk_notation_laws.proofs.Printed.{no_keyword}
use Rattle.nk_notation_laws.proofs.RunsAgain.{decimal_run, decimal_still}
use Rattle.nk_notation_laws.proofs.Shapes.{joined}

-- pieces that `in` leaves: before any text, and before a text that ends a run
abbrev pub Free : List ℕ → Type 0
Free w = (rest : List ℕ) → Left rest → Left (w ++ rest)

abbrev pub Runs : List ℕ → Type 0
Runs w = (rest : List ℕ) → StopsAt is_run_byte rest → Left rest → Left (w ++ rest)

-- a piece that ends the run before it
abbrev pub Gap : List ℕ → Type 0
Gap w = Free w × ((rest : List ℕ) → StopsAt is_run_byte (w ++ rest))

pub free_free : (v w : List ℕ) → Free v → Free w → Free (v ++ w)
free_free v w f g = λ rest next. subst Left (sym (append_assoc v w rest)) (f (w ++ rest) (g rest next))

pub free_runs : (v w : List ℕ) → Free v → Runs w → Runs (v ++ w)
free_runs v w f g = λ rest stops next. subst Left (sym (append_assoc v w rest)) (f (w ++ rest) (g rest stops next))

pub runs_gap : (v w : List ℕ) → Runs v → Gap w → Free (v ++ w)
runs_gap v w f g = λ rest next. subst Left (sym (append_assoc v w rest)) (f (w ++ rest) (g.1 rest) (g.0 rest next))

pub free_nothing : Free []
free_nothing = λ rest next. next

pub free_each : {A : Type 0} (P : A → Type 0) (f : A → List ℕ) → ((x : A) → P x → Free (f x)) → (xs : List A) → All P xs → Free (flat_map f xs)
free_each P f g [] h = free_nothing
free_each P f g (x ∷ xs) h = free_free (f x) (flat_map f xs) (g x (All-head P x xs h)) (free_each P f g xs (All-tail P x xs h))

pub free_byte : (b : ℕ) → (b == 35) ≡ false → begins_word b ≡ false → Free (b ∷ [])
free_byte b hash begins = λ rest next. left_byte b rest hash begins next

pub gap_space : Gap (codes " ")
gap_space = (free_byte 32 refl refl, λ rest. refl)

pub gap_end : Gap (codes "\n")
gap_end = (free_byte 10 refl refl, λ rest. refl)

pub gap_colon : Gap (codes " : ")
gap_colon = ((λ rest next. left_byte 32 (58 ∷ 32 ∷ rest) refl refl (left_colon (32 ∷ rest) refl (left_byte 32 rest refl refl next))), λ rest. refl)

pub runs_number : (n : ℕ) → n ≤ largest → Runs (decimal n)
runs_number n le = λ rest stops next. left_decimal n rest le stops next

pub runs_name : (w : List ℕ) → IsName w → Runs w
runs_name w h = λ rest stops next. left_name w rest h.0 (no_keyword w h.1) stops next

-- the line of a declared field
pub field_free : (name : List ℕ) (max : ℕ) → IsName name → max ≤ largest → Free (field_text name max)
field_free name max h le = λ rest next.
    subst Left (sym (left5 (codes "field ") name (codes " ") (decimal max) (codes "\n") rest))
    (left_declared (space ∷ []) name (space ∷ []) max (10 ∷ rest) (refl, refl) h.0 (no_keyword name h.1) (refl, refl) le refl (left_byte 10 rest refl refl next))

fields_free : (names : List (List ℕ)) (maxima : List ℕ) → All IsName names → All (λ m. m ≤ largest) maxima → Free (table_field_lines names maxima)
fields_free [] maxima hn hm = free_nothing
fields_free (n ∷ names) [] hn hm = free_nothing
fields_free (n ∷ names) (m ∷ maxima) hn hm =
    free_free (field_text n m) (table_field_lines names maxima) (field_free n m (All-head IsName n names hn) (All-head (λ k. k ≤ largest) m maxima hm))
    (fields_free names maxima (All-tail IsName n names hn) (All-tail (λ k. k ≤ largest) m maxima hm))

dropped_all : {A : Type 0} (P : A → Type 0) (xs : List A) → All P xs → All P (drop 2 xs)
dropped_all P [] h = h
dropped_all P (x ∷ []) h = All-tail P x [] h
dropped_all P (x ∷ y ∷ xs) h = All-tail P y xs (All-tail P x (y ∷ xs) h)

-- the line of the tag
tag_free : (fs : FieldTable) (o : Option ℕ) → All IsName fs.names → Free (tag_line fs o)
tag_free fs None names = free_nothing
tag_free fs (Some f) names =
    let name = name_of fs f in
    runs_gap (codes "tag " ++ name) (codes "\n")
    (free_runs (codes "tag ") name (left_word (codes "tag") (refl, refl) refl) (λ rest stops next. left_named name rest (name_at fs.names f names) stops next)) gap_end

-- switches
small_number : (n : ℕ) → n ≤ 65535 → n ≤ largest
small_number n le = omega (arith, le)

more_ports : (ps : List ℕ) → All (λ p. p ≤ 65535) ps → (rest : List ℕ) → StopsAt is_run_byte rest → Left rest
    → StopsAt is_run_byte (flat_map (λ q. codes "," ++ decimal q) ps ++ rest) × Left (flat_map (λ q. codes "," ++ decimal q) ps ++ rest)
more_ports [] h rest stops next = (stops, next)
more_ports (p ∷ ps) h rest stops next =
    let others = flat_map (λ q. codes "," ++ decimal q) ps in
    let after = more_ports ps (All-tail (λ q. q ≤ 65535) p ps h) rest stops next in (
      refl,
      subst (λ v. Left (44 ∷ v)) (sym (append_assoc (decimal p) others rest))
          (left_byte 44 (decimal p ++ (others ++ rest)) refl refl (left_decimal p (others ++ rest) (small_number p (All-head (λ q. q ≤ 65535) p ps h)) after.0 after.1)),
    )

runs_ports : (ps : List ℕ) → All (λ p. p ≤ 65535) ps → Runs (ports_text ps)
runs_ports [] h = λ rest stops next. next
runs_ports (p ∷ ps) h = λ rest stops next.
    let others = flat_map (λ q. codes "," ++ decimal q) ps in
    let after = more_ports ps (All-tail (λ q. q ≤ 65535) p ps h) rest stops next in
    subst Left (sym (append_assoc (decimal p) others rest)) (left_decimal p (others ++ rest) (small_number p (All-head (λ q. q ≤ 65535) p ps h)) after.0 after.1)

abbrev IsSmallSwitch : SwitchPorts → Type 0
IsSmallSwitch s = (s.switch ≤ 65535) × All (λ p. p ≤ 65535) s.ports

gap_ports : Gap (codes " ports ")
gap_ports = ((λ rest next. left_byte 32 (codes "ports" ++ 32 ∷ rest) refl refl (left_word (codes "ports") (refl, refl) refl rest next)), λ rest. refl)

switch_free : (s : SwitchPorts) → IsSmallSwitch s → Free (switch_text s)
switch_free s h =
    let n = decimal s.switch in
    let a = free_runs (codes "switch ") n (left_word (codes "switch") (refl, refl) refl) (runs_number s.switch (small_number s.switch h.0)) in
    let b = runs_gap (codes "switch " ++ n) (codes " ports ") a gap_ports in
    let c = free_runs (codes "switch " ++ n ++ codes " ports ") (ports_text s.ports) b (runs_ports s.ports h.1) in
    runs_gap (codes "switch " ++ n ++ codes " ports " ++ ports_text s.ports) (codes "\n") c gap_end

-- links
abbrev IsSmallLink : Link → Type 0
IsSmallLink l = (l.from_switch ≤ 65535) × (l.from_port ≤ 65535) × (l.to_switch ≤ 65535) × (l.to_port ≤ 65535)

pub runs_end : (a b : ℕ) → a ≤ largest → b ≤ largest → Runs (decimal a ++ codes ":" ++ decimal b)
runs_end a b la lb = λ rest stops next.
    subst Left (sym (append_assoc (decimal a ++ codes ":") (decimal b) rest ∙ append_assoc (decimal a) (codes ":") (decimal b ++ rest)))
    (left_pair a b 58 rest la lb refl (port_still a b la lb) stops next)

gap_arrow : Gap (codes " -> ")
gap_arrow = ((λ rest next. left_byte 32 (45 ∷ 62 ∷ 32 ∷ rest) refl refl (left_byte 45 (62 ∷ 32 ∷ rest) refl refl (left_byte 62 (32 ∷ rest) refl refl (left_byte 32 rest refl refl next)))), λ rest. refl)

pub two_joined : (lead x d y : List ℕ) → lead ++ (x ++ d ++ y) ≡ lead ++ x ++ d ++ y
two_joined lead x d y = ap (λ v. lead ++ v) (append_assoc x d y) ∙ sym (joined lead x d y)

-- the line of a link between two ports
pub ends_free : (i p j q : ℕ) → i ≤ largest → p ≤ largest → j ≤ largest → q ≤ largest
    → Free (codes "link " ++ decimal i ++ codes ":" ++ decimal p ++ codes " -> " ++ decimal j ++ codes ":" ++ decimal q ++ codes "\n")
ends_free i p j q li lp lj lq =
    let x = decimal i ++ codes ":" ++ decimal p in
    let y = decimal j ++ codes ":" ++ decimal q in
    let a = free_runs (codes "link ") x (left_word (codes "link") (refl, refl) refl) (runs_end i p li lp) in
    let b = runs_gap (codes "link " ++ x) (codes " -> ") a gap_arrow in
    let c = free_runs (codes "link " ++ x ++ codes " -> ") y b (runs_end j q lj lq) in
    let all = runs_gap (codes "link " ++ x ++ codes " -> " ++ y) (codes "\n") c gap_end in
    let first : codes "link " ++ x ≡ codes "link " ++ decimal i ++ codes ":" ++ decimal p = two_joined (codes "link ") (decimal i) (codes ":") (decimal p) in
    let front = codes "link " ++ decimal i ++ codes ":" ++ decimal p ++ codes " -> " in
    let second : front ++ y ≡ front ++ decimal j ++ codes ":" ++ decimal q = two_joined front (decimal j) (codes ":") (decimal q) in
    subst (λ v. Free (v ++ codes "\n")) (ap (λ v. v ++ codes " -> " ++ y) first ∙ second) all

link_free : (l : Link) → IsSmallLink l → Free (link_text l)
link_free l h =
    ends_free l.from_switch l.from_port l.to_switch l.to_port
    (small_number l.from_switch h.0) (small_number l.from_port h.1) (small_number l.to_switch h.2) (small_number l.to_port h.3)

links_free : (ls : List Link) → ((l : Link) → Contains ls l → IsSmallLink l) → Free (flat_map link_text ls)
links_free [] h = free_nothing
links_free (l ∷ ls) h =
    free_free (link_text l) (flat_map link_text ls) (link_free l (h l (0, omega arith, refl))) (links_free ls (λ k c. h k (suc c.0, omega (arith, c.1), c.2)))

-- a declared port has small numbers
among : (ps : List ℕ) (pt : ℕ) → All (λ p. p ≤ 65535) ps → list_any (λ p. p == pt) ps ≡ true → pt ≤ 65535
among [] pt h e = absurd cc
among (p ∷ ps) pt h e = among_by (p == pt) refl e (among ps pt (All-tail (λ q. q ≤ 65535) p ps h))
  where
    among_by : (t : Bool) → (p == pt) ≡ t → (t || list_any (λ q. q == pt) ps) ≡ true → (list_any (λ q. q == pt) ps ≡ true → pt ≤ 65535) → pt ≤ 65535
    among_by true s e go = subst (λ q. q ≤ 65535) (eqb-true p pt s) (All-head (λ q. q ≤ 65535) p ps h)
    among_by false s e go = go e

port_small : (ss : List SwitchPorts) (sw pt : ℕ) → All IsSmallSwitch ss → list_any (λ s. (s.switch == sw) && list_any (λ p. p == pt) s.ports) ss ≡ true → (sw ≤ 65535) × (pt ≤ 65535)
port_small [] sw pt h e = absurd cc
port_small (s ∷ ss) sw pt h e = port_by ((s.switch == sw) && list_any (λ p. p == pt) s.ports) refl e (port_small ss sw pt (All-tail IsSmallSwitch s ss h))
  where
    port_by : (t : Bool) → ((s.switch == sw) && list_any (λ p. p == pt) s.ports) ≡ t → (t || list_any (λ x. (x.switch == sw) && list_any (λ p. p == pt) x.ports) ss) ≡ true
        → (list_any (λ x. (x.switch == sw) && list_any (λ p. p == pt) x.ports) ss ≡ true → (sw ≤ 65535) × (pt ≤ 65535)) → (sw ≤ 65535) × (pt ≤ 65535)
    port_by true f e go =
        let both = both_pass (s.switch == sw) (list_any (λ p. p == pt) s.ports) f in
        let fine = All-head IsSmallSwitch s ss h in
        (subst (λ q. q ≤ 65535) (eqb-true s.switch sw both.0) fine.0, among s.ports pt fine.1 both.1)
    port_by false f e go = go e

-- names and values of fields
name_there : (names : List (List ℕ)) (f : ℕ) → f < length names → All IsName names → IsName (slice_index_or names f [])
name_there [] f lt h = absurd (omega (arith, lt))
name_there (n ∷ names) zero lt h = All-head IsName n names h
name_there (n ∷ names) (suc f) lt h = name_there names f (omega (arith, lt)) (All-tail IsName n names h)

-- what is known of the fields of tables
pub record AreFine (fs : FieldTable) : Type 0 where
  pub table : IsFieldTable fs
  pub names : All IsName fs.names
  pub maxima : All (λ m. m ≤ largest) fs.maxima

module _ (fs : FieldTable) (fine : AreFine fs) where
  pub named_field : (f n : ℕ) → IsValue fs f n → IsName (name_of fs f)
  named_field f n h = name_there fs.names f (let same = fine.table.named in let lt = h.0 in omega (arith, same, lt)) fine.names

  pub value_small : (f n : ℕ) → IsValue fs f n → n ≤ largest
  value_small f n h = let a = h.1 in let b = most fs.maxima f fine.maxima in omega (arith, a, b)

  -- matches
  digits_small : (f k : ℕ) → k ≤ digits_of (slice_index fs.maxima f) → k ≤ largest
  digits_small f k h =
      let b = most fs.maxima f fine.maxima in
      let few : digits_of (slice_index fs.maxima f) ≤ 48 = fewest (slice_index fs.maxima f) 48 (omega arith) (omega (arith, b)) in
      omega (arith, h, few)

  value_runs : (v k : ℕ) → v ≤ largest → k ≤ largest → (t : Bool) → (rest : List ℕ) → StopsAt is_run_byte rest → Left rest
      → Left (61 ∷ (decimal v ++ (cond t [] (codes "/" ++ decimal k) ++ rest)))
  value_runs v k lv lk true rest stops next = left_equals (decimal v) rest (decimal_run v lv) (decimal_still v lv) stops next
  value_runs v k lv lk false rest stops next = left_prefix v k rest lv lk stops next

  match_free : (m : ℕ × ℕ × ℕ) → IsPrintableMatch fs m → Free (match_text fs m)
  match_free m h = λ rest next.
      let name = name_of fs m.0 in
      let v = decimal m.1 in
      let l = length_text fs m in
      subst Left (sym (append_assoc (name ++ codes "=" ++ v ++ l) (codes " ") rest ∙ append_assoc (name ++ codes "=" ++ v) l (32 ∷ rest)
      ∙ append_assoc (name ++ codes "=") v (l ++ 32 ∷ rest) ∙ append_assoc name (codes "=") (v ++ (l ++ 32 ∷ rest))))
      (runs_name name (named_field m.0 m.1 h.value) (61 ∷ (v ++ (l ++ 32 ∷ rest))) refl
      (value_runs m.1 m.2 (value_small m.0 m.1 h.value) (digits_small m.0 m.2 h.most) (is_exact fs m) (32 ∷ rest) refl (left_byte 32 rest refl refl next)))

  where_free : (a b : Bool) (w : List ℕ) → Free w → Free (where_same a b w)
  where_free true true w f = f
  where_free true false w f = free_nothing
  where_free false true w f = free_nothing
  where_free false false w f = f

  matches_free : (flag : Bool) (ms : List (ℕ × ℕ × ℕ)) → All (IsPrintableMatch fs) ms → Free (matches_text fs flag ms)
  matches_free flag ms h = free_each (IsPrintableMatch fs) (λ m. where_same (is_tag fs m.0) flag (match_text fs m)) (λ m x. where_free (is_tag fs m.0) flag (match_text fs m) (match_free m x)) ms h

  -- buckets
  abbrev IsSet : ℕ × ℕ → Type 0
  IsSet s = IsValue fs s.0 s.1

  set_free : (s : ℕ × ℕ) → IsSet s → Free (set_text fs s)
  set_free s h = λ rest next.
      let name = name_of fs s.0 in
      let v = decimal s.1 in
      subst Left (sym (append_assoc (name ++ codes ":=" ++ v) (codes " ") rest ∙ append_assoc (name ++ codes ":=") v (32 ∷ rest) ∙ append_assoc name (codes ":=") (v ++ 32 ∷ rest)))
      (left_assigned name s.1 (32 ∷ rest) (named_field s.0 s.1 h).0 (value_small s.0 s.1 h) refl (left_byte 32 rest refl refl next))

  sets_free : (flag : Bool) (ss : List (ℕ × ℕ)) → All IsSet ss → Free (sets_text fs flag ss)
  sets_free flag ss h = free_each IsSet (λ s. where_same (is_tag fs s.0) flag (set_text fs s)) (λ s x. where_free (is_tag fs s.0) flag (set_text fs s) (set_free s x)) ss h

  runs_exit : (e : Exit) → IsExit e → Runs (exit_text e)
  runs_exit exit.Back h = λ rest stops next. left_word (codes "out") (refl, refl) refl (codes "in" ++ rest) (left_name (codes "in") rest (refl, refl) refl stops next)
  runs_exit (exit.Port n) h = free_runs (codes "out ") (decimal n) (left_word (codes "out") (refl, refl) refl) (runs_number n (small_number n h))

  gap_close : Gap (codes "]")
  gap_close = (free_byte 93 refl refl, λ rest. refl)

  bucket_free : (b : Bucket) → IsPrintableBucket fs b → Free (bucket_text fs b)
  bucket_free b h =
      let x = sets_text fs false b.sets in
      let y = sets_text fs true b.sets in
      let a = free_free (codes "[") x (free_byte 91 refl refl) (sets_free false b.sets h.values) in
      let c = free_free (codes "[" ++ x) y a (sets_free true b.sets h.values) in
      runs_gap (codes "[" ++ x ++ y ++ exit_text b.exit) (codes "]") (free_runs (codes "[" ++ x ++ y) (exit_text b.exit) c (runs_exit b.exit h.exit)) gap_close

  -- groups
  buckets_stop : (bs : List Bucket) (rest : List ℕ) → StopsAt is_run_byte (flat_map (λ b. codes " " ++ bucket_text fs b) bs ++ 10 ∷ rest)
  buckets_stop [] rest = refl
  buckets_stop (b ∷ bs) rest = refl

  group_free : (g : Group) → IsPrintableGroup fs g → Free (group_text fs g)
  group_free g h =
      let n = decimal g.number in
      let bs = flat_map (λ b. codes " " ++ bucket_text fs b) g.buckets in
      let a = free_runs (codes "group ") n (left_word (codes "group") (refl, refl) refl) (runs_number g.number h.high) in
      λ rest next.
      let all = free_free bs (codes "\n") (free_each (IsPrintableBucket fs) (λ b. codes " " ++ bucket_text fs b) (λ b x. free_free (codes " ") (bucket_text fs b) gap_space.0 (bucket_free b x)) g.buckets h.buckets) gap_end.0 in
      subst Left (sym (append_assoc (codes "group " ++ n ++ codes " =" ++ bs) (codes "\n") rest ∙ append_assoc (codes "group " ++ n ++ codes " =") bs (10 ∷ rest)
      ∙ append_assoc (codes "group " ++ n) (codes " =") (bs ++ 10 ∷ rest)))
      (a (32 ∷ 61 ∷ (bs ++ 10 ∷ rest)) refl
      (left_byte 32 (61 ∷ (bs ++ 10 ∷ rest)) refl refl
      (left_equals [] (bs ++ 10 ∷ rest) refl nothing_still (buckets_stop g.buckets rest)
      (subst Left (append_assoc bs (codes "\n") rest) (all rest next)))))

  -- rows
  group_number : (gs : List Group) (n : ℕ) → All (IsPrintableGroup fs) gs → list_any (λ g. g.number == n) gs ≡ true → n ≤ largest
  group_number [] n h e = absurd cc
  group_number (g ∷ gs) n h e = number_of (g.number == n) refl e (group_number gs n (All-tail (IsPrintableGroup fs) g gs h))
    where
      number_of : (t : Bool) → (g.number == n) ≡ t → (t || list_any (λ x. x.number == n) gs) ≡ true → (list_any (λ x. x.number == n) gs ≡ true → n ≤ largest) → n ≤ largest
      number_of true s e go = subst (λ k. k ≤ largest) (eqb-true g.number n s) (All-head (IsPrintableGroup fs) g gs h).high
      number_of false s e go = go e

  runs_target : (gs : List Group) (t : Target) → All (IsPrintableGroup fs) gs → IsPrintableTarget fs gs t → Runs (target_text fs t)
  runs_target gs (does.Bucket b) hg h = λ rest stops next. bucket_free b h rest next
  runs_target gs (does.Group n) hg h = free_runs (codes "group ") (decimal n) (left_word (codes "group") (refl, refl) refl) (runs_number n (group_number gs n hg h))
  runs_target gs does.Discard hg h = λ rest stops next. left_name (codes "drop") rest (refl, refl) refl stops next

  free_arrow : Free (codes "-> ")
  free_arrow = λ rest next. left_byte 45 (62 ∷ 32 ∷ rest) refl refl (left_byte 62 (32 ∷ rest) refl refl (left_byte 32 rest refl refl next))

  row_free : (gs : List Group) → All (IsPrintableGroup fs) gs → (r : Row) → IsPrintableRow fs gs r → Free (row_text fs r)
  row_free gs hg r h =
      let p = decimal r.priority in
      let x = matches_text fs true r.matches in
      let y = matches_text fs false r.matches in
      let t = target_text fs r.target in
      let a = free_runs (codes "row ") p (left_word (codes "row") (refl, refl) refl) (runs_number r.priority (small_number r.priority h.priority)) in
      let b = runs_gap (codes "row " ++ p) (codes " : ") a gap_colon in
      let c = free_free (codes "row " ++ p ++ codes " : ") x b (matches_free true r.matches h.matches) in
      let d = free_free (codes "row " ++ p ++ codes " : " ++ x) y c (matches_free false r.matches h.matches) in
      let e = free_free (codes "row " ++ p ++ codes " : " ++ x ++ y) (codes "-> ") d free_arrow in
      runs_gap (codes "row " ++ p ++ codes " : " ++ x ++ y ++ codes "-> " ++ t) (codes "\n")
      (free_runs (codes "row " ++ p ++ codes " : " ++ x ++ y ++ codes "-> ") t e (runs_target gs r.target hg h.target)) gap_end

  -- the groups and rows at a switch
  groups_free : (ts : List Table) (sw : ℕ) → All (IsPrintableTable fs) ts → Free (flat_map (group_text fs) (groups_at_switch ts sw))
  groups_free [] sw h = free_nothing
  groups_free (t ∷ ts) sw h = elim (t.switch == sw) as (λ u. Free (flat_map (group_text fs) (cond u t.groups (groups_at_switch ts sw)))) [
    | true ↦ free_each (IsPrintableGroup fs) (group_text fs) group_free t.groups (All-head (IsPrintableTable fs) t ts h).groups
    | false ↦ groups_free ts sw (All-tail (IsPrintableTable fs) t ts h)
  ]

  rows_free : (ts : List Table) (sw : ℕ) → All (IsPrintableTable fs) ts → Free (flat_map (row_text fs) (rows_of ts sw))
  rows_free [] sw h = free_nothing
  rows_free (t ∷ ts) sw h =
      let first = All-head (IsPrintableTable fs) t ts h in
      elim (t.switch == sw) as (λ u. Free (flat_map (row_text fs) (cond u t.rows (rows_of ts sw)))) [
        | true ↦ free_each (IsPrintableRow fs t.groups) (row_text fs) (row_free t.groups first.groups) t.rows first.rows
        | false ↦ rows_free ts sw (All-tail (IsPrintableTable fs) t ts h)
      ]

  section_free : (ts : List Table) (sw : ℕ) → All (IsPrintableTable fs) ts → sw ≤ 65535 → Free (section_text fs ts sw)
  section_free ts sw h le =
      let a = runs_gap (codes "table " ++ decimal sw) (codes "\n") (free_runs (codes "table ") (decimal sw) (left_word (codes "table") (refl, refl) refl) (runs_number sw (small_number sw le))) gap_end in
      free_free (codes "table " ++ decimal sw ++ codes "\n") (rules_text fs ts sw) a
      (free_free (flat_map (group_text fs) (groups_at_switch ts sw)) (flat_map (row_text fs) (rows_of ts sw)) (groups_free ts sw h) (rows_free ts sw h))

-- all tables
-- whether some match is a prefix
abbrev some_prefix : Tables → Bool
some_prefix t = list_any (λ s. have_prefix t.fields (rows_of t.tables s.switch)) t.topo.switches

version_small : (t : Bool) → cond t 2 1 ≤ largest
version_small true = omega arith
version_small false = omega arith

small_switches : (ss : List SwitchPorts) → All (λ s. s.switch ≤ 65535) ss → All (λ s. All (λ p. p ≤ 65535) s.ports) ss → All IsSmallSwitch ss
small_switches [] h k = All-nil IsSmallSwitch
small_switches (s ∷ ss) h k =
    All-cons IsSmallSwitch s ss (All-head (λ x. x.switch ≤ 65535) s ss h, All-head (λ x. All (λ p. p ≤ 65535) x.ports) s ss k)
    (small_switches ss (All-tail (λ x. x.switch ≤ 65535) s ss h) (All-tail (λ x. All (λ p. p ≤ 65535) x.ports) s ss k))

topology_free : (t : Topology) → IsTopology t → All IsSmallSwitch t.switches → Free (topology_text t)
topology_free t h small =
    free_free (flat_map switch_text t.switches) (flat_map link_text t.links) (free_each IsSmallSwitch switch_text switch_free t.switches small)
    (links_free t.links (λ l c.
    let from = port_small t.switches l.from_switch l.from_port small (h.links.from_port l c) in
    let to = port_small t.switches l.to_switch l.to_port small (h.links.declared l c) in
    (from.0, from.1, to.0, to.1)))

pub tables_free : (t : Tables) → ArePrintableTables t → Free (table_bytes t)
tables_free t h =
    let fine : AreFine t.fields = record { table = h.fields; names = h.names; maxima = h.maxima } in
    let small = small_switches t.topo.switches h.switches h.ports in
    let v = version_text (version_of t) in
    let f = fields_text t.fields in
    let g = tag_text t.fields in
    let w = topology_text t.topo in
    let first : Free v =
    runs_gap (codes "tables " ++ decimal (version_of t)) (codes "\n")
    (free_runs (codes "tables ") (decimal (version_of t)) (left_word (codes "tables") (refl, refl) refl) (runs_number (version_of t) (version_small (some_prefix t)))) gap_end in
    let a = free_free v f first (fields_free (drop 2 t.fields.names) (drop 2 t.fields.maxima) (dropped_all IsName t.fields.names h.names) (dropped_all (λ m. m ≤ largest) t.fields.maxima h.maxima)) in
    let b = free_free (v ++ f) g a (tag_free t.fields t.fields.tag h.names) in
    let c = free_free (v ++ f ++ g) w b (topology_free t.topo h.topology small) in
    free_free (v ++ f ++ g ++ w) (flat_map (λ s. section_text t.fields t.tables s.switch) t.topo.switches) c
    (free_each (λ s. s.switch ≤ 65535) (λ s. section_text t.fields t.tables s.switch) (λ s le. section_free t.fields fine t.tables s.switch h.tables le) t.topo.switches h.switches)

pub tables_left : TablesAreLeft
tables_left = λ t h. subst IsLeftByIn (append-nil (table_bytes t)) (tables_free t h [] left_nothing text_start refl)
