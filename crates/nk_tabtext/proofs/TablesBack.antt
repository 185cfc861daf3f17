-- What printable tables of switches are to the reader, and the text of each switch.
use Rattle.std.proofs.Common.{◌≡◌, ◌≤◌, ◌<◌, ◌+◌, ℕ, List, [], ◌∷◌, ◌++◌, Bool, true, false, not, refl, sym, ap, subst, ◌∙◌, append_assoc, map, arith, ◌||◌, inl, inr, ⊎_elim}
use Rattle.std.specs.Prelude.{◌==◌, if◌then◌else◌, slice_index}
use Rattle.std.specs.List.{list_any, flat_map, AllByRecursion}
use Rattle.std.proofs.lemmas.Bool.Decides.{nat_tests}
use Rattle.std.proofs.lemmas.List.Elements.{recursion_from_All}
use Rattle.nk_lex.specs.Lex.{largest}
use Rattle.nk_field.specs.Packet.{FieldTable, IsValue}
use Rattle.nk_field.specs.Act.{AscendsFrom}
use Rattle.nk_prefix.specs.Prefix.{digits_of}
use Rattle.nk_prefix.proofs.Powers.{fewest}
use Rattle.nk_topo.specs.Topology.{Topology, SwitchPorts, is_switch}
use Rattle.nk_topo.proofs.Members.{In, InOrder, order_from_pairs}
use Rattle.nk_table.specs.declared.Table.{Table}
use Rattle.nk_table.specs.declared.Row.{Row}
use Rattle.nk_table.specs.declared.Group.{Group}
use Rattle.nk_table.specs.declared.Bucket.{Bucket}
use Rattle.nk_table.specs.declared.Target.{Target}
use Rattle.nk_table.specs.declared.Target.TheVariants as does
use Rattle.nk_table.specs.declared.Exit.{Exit}
use Rattle.nk_table.specs.declared.Exit.TheVariants as exit
use Rattle.nk_table.specs.Rules.{rows_of, groups_at_switch}
use Rattle.nk_tabtext.specs.InOrder.{MatchesAscend}
use Rattle.nk_tabtext.specs.Text.{is_exact, have_prefix, section_text}
use Rattle.nk_tabtext.specs.ReadBack.{IsExit, IsPrintableBucket, IsPrintableGroup, IsPrintableTarget, IsPrintableMatch, IsPrintableRow, IsPrintableTable}
use Rattle.nk_declare.specs.Declarations.{DeclaredValue}
use Rattle.nk_declare.specs.Kept.{IsWritable}
use Rattle.nk_tabtext.proofs.Lines.{AreShown, AreMatchesShown, IsExitShown, IsBucketShown}
use Rattle.nk_tabtext.proofs.TableLines.{AreBucketsShown, AreGroupsShown, IsTargetShown, AreRowsShown, AreTablesShown, table_lines}
use Rattle.nk_tabtext.proofs.Merging.{AreGood}
use Rattle.nk_tabtext.proofs.Matched.{AreFine}
use Rattle.nk_tabtext.proofs.Valued.{IsBucketGood, AreBucketsGood, AreGroupsGood, IsTargetGood, AreRowsGood, AreTablesGood, TablesFrom}
use Rattle.nk_tabtext.proofs.HeadValues.{SwitchesFit}
use Rattle.nk_tabtext.proofs.HeadBack.{name_there, has_one}

-- a text of this version has these rows: where some match is a prefix it is version 2
abbrev Allows : ℕ → FieldTable → List Row → Type 0
Allows version fs ws = have_prefix fs ws ≡ true → version ≡ 2

-- one of two tests passes
pub or_first : (a b : Bool) → a ≡ true → (a || b) ≡ true
or_first a b e = ap (λ x. x || b) e

pub or_second : (a b : Bool) → b ≡ true → (a || b) ≡ true
or_second true b e = refl
or_second false b e = e

module _ (fs : FieldTable) (is : IsWritable fs) where
  -- pairs that ascend
  good_pairs : (low k : ℕ) (ms : List (ℕ × ℕ)) → low ≤ k → AscendsFrom k ms → AllByRecursion (λ m. IsValue fs m.0 m.1) ms → AreGood fs low ms
  good_pairs low k [] le a v = tt
  good_pairs low k (m ∷ ms) le a v =
      ((name_there fs is.table m.0 v.0.0, omega (arith, le, a.0), v.0.1), good_pairs low (m.0 + 1) ms (omega (arith, le, a.0)) a.1 v.1)

  shown_pairs : (ms : List (ℕ × ℕ)) → AllByRecursion (λ m. IsValue fs m.0 m.1) ms → AreShown fs ms
  shown_pairs [] v = tt
  shown_pairs (m ∷ ms) v =
      let most = is.maxima m.0 0 v.0.0 in
      ((is.names m.0 [] (omega (arith, v.0.0, is.table.named)), omega (arith, v.0.1, most)), shown_pairs ms v.1)

  -- matches that ascend
  fine_matches : (version k : ℕ) (ms : List (ℕ × ℕ × ℕ)) → 1 ≤ k → MatchesAscend k ms → AllByRecursion (IsPrintableMatch fs) ms
      → (list_any (λ m. not (is_exact fs m)) ms ≡ true → version ≡ 2) → AreFine version fs ms
  fine_matches version k [] le a v only = tt
  fine_matches version k (m ∷ ms) le a v only = (
    record {
      named = name_there fs is.table m.0 v.0.value.0;
      low = omega (arith, le, a.0);
      within = v.0.value.1;
      some = v.0.some;
      most = v.0.most;
      zeros = v.0.zeros;
      prefix = λ e. only (or_first (not (is_exact fs m)) _ (ap not e));
    },
    fine_matches version (m.0 + 1) ms (omega (arith, le, a.0)) a.1 v.1 (λ e. only (or_second (not (is_exact fs m)) _ e)),
  )

  -- a field has at most 48 digits
  few_digits : (max : ℕ) → max ≤ largest → digits_of max ≤ largest
  few_digits max le = let few : digits_of max ≤ 48 = fewest max 48 (omega arith) (omega (arith, le)) in omega (arith, few)

  shown_matches : (ms : List (ℕ × ℕ × ℕ)) → AllByRecursion (IsPrintableMatch fs) ms → AreMatchesShown fs ms
  shown_matches [] v = tt
  shown_matches (m ∷ ms) v =
      let at = v.0.value in
      let most = is.maxima m.0 0 at.0 in
      let few = few_digits (slice_index fs.maxima m.0) most in (
        (
          is.names m.0 [] (omega (arith, at.0, is.table.named)),
          omega (arith, at.1, most),
          omega (arith, v.0.most, few),
        ),
        shown_matches ms v.1,
      )

  -- ---- buckets

  exit_shown : (e : Exit) → IsExit e → IsExitShown e
  exit_shown exit.Back h = tt
  exit_shown (exit.Port n) h = omega (arith, h)

  bucket_good : (b : Bucket) → IsPrintableBucket fs b → IsBucketGood fs b
  bucket_good b h = (h.ascend, good_pairs 2 2 b.sets (omega arith) h.ascend (recursion_from_All _ b.sets h.values), h.exit)

  bucket_shown : (b : Bucket) → IsPrintableBucket fs b → IsBucketShown fs b
  bucket_shown b h = (shown_pairs b.sets (recursion_from_All _ b.sets h.values), exit_shown b.exit h.exit)

  buckets_good : (bs : List Bucket) → AllByRecursion (IsPrintableBucket fs) bs → AreBucketsGood fs bs
  buckets_good [] h = tt
  buckets_good (b ∷ bs) h = (bucket_good b h.0, buckets_good bs h.1)

  buckets_shown : (bs : List Bucket) → AllByRecursion (IsPrintableBucket fs) bs → AreBucketsShown fs bs
  buckets_shown [] h = tt
  buckets_shown (b ∷ bs) h = (bucket_shown b h.0, buckets_shown bs h.1)

  -- ---- groups

  groups_good : (low : ℕ) (gs : List Group) → AllByRecursion (IsPrintableGroup fs) gs → InOrder (λ g h. g.number < h.number) gs
      → ((g : Group) → In gs g → low ≤ g.number) → AreGroupsGood fs low gs
  groups_good low [] h up le = tt
  groups_good low (g ∷ gs) h up le = (
    le g (inl refl),
    buckets_good g.buckets (recursion_from_All (IsPrintableBucket fs) g.buckets h.0.buckets),
    has_one g.buckets h.0.some,
    groups_good (g.number + 1) gs h.1 up.1 (λ k i. let above = up.0 k i in omega (arith, above)),
  )

  groups_shown : (gs : List Group) → AllByRecursion (IsPrintableGroup fs) gs → AreGroupsShown fs gs
  groups_shown [] h = tt
  groups_shown (g ∷ gs) h =
      ((h.0.high, buckets_shown g.buckets (recursion_from_All (IsPrintableBucket fs) g.buckets h.0.buckets), has_one g.buckets h.0.some), groups_shown gs h.1)

  -- numbers of groups are at least 1
  all_low : (gs : List Group) → AllByRecursion (IsPrintableGroup fs) gs → (g : Group) → In gs g → 1 ≤ g.number
  all_low [] h g i = absurd i
  all_low (k ∷ gs) h g i = ⊎_elim (λ e. subst (λ x. 1 ≤ x.number) (sym e) h.0.low) (λ j. all_low gs h.1 g j) i

  -- ---- rows

  target_good : (gs : List Group) (t : Target) → IsPrintableTarget fs gs t → IsTargetGood fs gs t
  target_good gs (does.Bucket b) h = bucket_good b h
  target_good gs (does.Group n) h = h
  target_good gs does.Discard h = tt

  rows_good : (version : ℕ) (gs : List Group) (ws : List Row) → Allows version fs ws → AllByRecursion (IsPrintableRow fs gs) ws → AreRowsGood version fs gs ws
  rows_good version gs [] only h = tt
  rows_good version gs (w ∷ ws) only h =
      let here = list_any (λ m. not (is_exact fs m)) w.matches in (
        (
          h.0.priority,
          h.0.ascend,
          fine_matches version 1 w.matches (omega arith) h.0.ascend (recursion_from_All (IsPrintableMatch fs) w.matches h.0.matches)
              (λ e. only (or_first here (have_prefix fs ws) e)),
          target_good gs w.target h.0.target,
        ),
        rows_good version gs ws (λ e. only (or_second here (have_prefix fs ws) e)) h.1,
      )

  -- a group that is one of these has a number that a text can write
  group_small : (gs : List Group) (n : ℕ) → AllByRecursion (IsPrintableGroup fs) gs → list_any (λ g. g.number == n) gs ≡ true → n ≤ largest
  group_small [] n h e = absurd cc
  group_small (g ∷ gs) n h e = by (g.number == n) refl e (group_small gs n h.1)
    where
      same : (m k : ℕ) → (m == k) ≡ true → m ≤ 281474976710655 → k ≤ 281474976710655
      same m k e le = grind (arith, nat_tests, e, le)

      by : (b : Bool) → (g.number == n) ≡ b → (b || list_any (λ x. x.number == n) gs) ≡ true
          → (list_any (λ x. x.number == n) gs ≡ true → n ≤ largest) → n ≤ largest
      by true s e go = same g.number n s h.0.high
      by false s e go = go e

  target_shown : (gs : List Group) (t : Target) → AllByRecursion (IsPrintableGroup fs) gs → IsPrintableTarget fs gs t → IsTargetShown fs t
  target_shown gs (does.Bucket b) k h = bucket_shown b h
  target_shown gs (does.Group n) k h = group_small gs n k h
  target_shown gs does.Discard k h = tt

  rows_shown : (gs : List Group) (ws : List Row) → AllByRecursion (IsPrintableGroup fs) gs → AllByRecursion (IsPrintableRow fs gs) ws → AreRowsShown fs ws
  rows_shown gs [] k h = tt
  rows_shown gs (w ∷ ws) k h = (
    (omega (arith, h.0.priority), shown_matches w.matches (recursion_from_All (IsPrintableMatch fs) w.matches h.0.matches), target_shown gs w.target k h.0.target),
    rows_shown gs ws k h.1,
  )

-- ---- the tables of switches

-- numbers of declared switches, ascending from a lower bound on
abbrev pub NumbersFit : Topology → ℕ → List ℕ → Type 0
NumbersFit topo low [] = Unit {0}
NumbersFit topo low (n ∷ ns) = ((low ≤ n) × (n ≤ 65535) × (is_switch topo n ≡ true)) × NumbersFit topo (n + 1) ns

-- a switch is there
there : (ss : List SwitchPorts) (s : SwitchPorts) → In ss s → list_any (λ r. r.switch == s.switch) ss ≡ true
there [] s i = absurd i
there (r ∷ ss) s i = ⊎_elim first (λ j. following (r.switch == s.switch) (list_any (λ x. x.switch == s.switch) ss) (there ss s j)) i
  where
    same : (n : ℕ) → (n == n) ≡ true
    same n = grind (arith, nat_tests)

    first : s ≡ r → list_any (λ x. x.switch == s.switch) (r ∷ ss) ≡ true
    first e =
        ap (λ x. (r.switch == x.switch) || list_any (λ y. y.switch == x.switch) ss) e
        ∙ ap (λ b. b || list_any (λ y. y.switch == r.switch) ss) (same r.switch)

    following : (a b : Bool) → b ≡ true → (a || b) ≡ true
    following true b e = refl
    following false b e = e

pub numbers_fit : (topo : Topology) (low : ℕ) (ss : List SwitchPorts) → SwitchesFit low ss → ((s : SwitchPorts) → In ss s → In topo.switches s)
    → NumbersFit topo low (map (λ s. s.switch) ss)
numbers_fit topo low [] h i = tt
numbers_fit topo low (s ∷ ss) h i =
    ((h.0.0, h.0.1, there topo.switches s (i s (inl refl))), numbers_fit topo (s.switch + 1) ss h.1 (λ r j. i r (inr j)))

pub tables_good : (version : ℕ) (s : DeclaredValue) (is : IsWritable s.fields) (low : ℕ) (ts : List Table) → NumbersFit s.topo low (map (λ t. t.switch) ts)
    → (list_any (λ t. have_prefix s.fields t.rows) ts ≡ true → version ≡ 2) → AllByRecursion (IsPrintableTable s.fields) ts → AreTablesGood version s low ts
tables_good version s is low [] n only h = tt
tables_good version s is low (t ∷ ts) n only h =
    let gs = recursion_from_All (IsPrintableGroup s.fields) t.groups h.0.groups in
    let later = list_any (λ u. have_prefix s.fields u.rows) ts in (
      (
        n.0.0,
        n.0.1,
        n.0.2,
        groups_good s.fields is 1 t.groups gs (order_from_pairs (λ g k. g.number < k.number) t.groups h.0.ascend) (all_low s.fields is t.groups gs),
        rows_good s.fields is version t.groups t.rows (λ e. only (or_first (have_prefix s.fields t.rows) later e))
            (recursion_from_All (IsPrintableRow s.fields t.groups) t.rows h.0.rows),
      ),
      tables_good version s is (t.switch + 1) ts n.1 (λ e. only (or_second (have_prefix s.fields t.rows) later e)) h.1,
    )

pub tables_shown : (topo : Topology) (fs : FieldTable) (is : IsWritable fs) (low : ℕ) (ts : List Table) → NumbersFit topo low (map (λ t. t.switch) ts)
    → AllByRecursion (IsPrintableTable fs) ts → AreTablesShown fs ts
tables_shown topo fs is low [] n h = tt
tables_shown topo fs is low (t ∷ ts) n h =
    let gs = recursion_from_All (IsPrintableGroup fs) t.groups h.0.groups in (
      (
        omega (arith, n.0.1),
        groups_shown fs is t.groups gs,
        rows_shown fs is t.groups t.rows gs (recursion_from_All (IsPrintableRow fs t.groups) t.rows h.0.rows),
      ),
      tables_shown topo fs is (t.switch + 1) ts n.1 h.1,
    )

pub tables_rise : (topo : Topology) (low : ℕ) (ts : List Table) → NumbersFit topo low (map (λ t. t.switch) ts) → TablesFrom low ts
tables_rise topo low [] n = tt
tables_rise topo low (t ∷ ts) n = (n.0.0, tables_rise topo (t.switch + 1) ts n.1)

-- ---- the text of each switch

-- tables of lower switches
abbrev TablesBelow : ℕ → List Table → Type 0
TablesBelow n [] = Unit {0}
TablesBelow n (t ∷ ts) = (t.switch < n) × TablesBelow n ts

below_more : (k n : ℕ) (ts : List Table) → k ≤ n → TablesBelow k ts → TablesBelow n ts
below_more k n [] le h = tt
below_more k n (t ∷ ts) le h = (omega (arith, le, h.0), below_more k n ts le h.1)

below_push : (n : ℕ) (ts : List Table) (t : Table) → TablesBelow n ts → t.switch < n → TablesBelow n (ts ++ t ∷ [])
below_push n [] t h lt = (lt, tt)
below_push n (x ∷ ts) t h lt = (h.0, below_push n ts t h.1 lt)

other : (m n : ℕ) → m < n → (m == n) ≡ false
other m n lt = grind (arith, nat_tests)

itself : (n : ℕ) → (n == n) ≡ true
itself n = grind (arith, nat_tests)

groups_found : (before : List Table) (t : Table) (ts : List Table) → TablesBelow t.switch before → groups_at_switch (before ++ t ∷ ts) t.switch ≡ t.groups
groups_found [] t ts h = ap (λ b. if b then t.groups else groups_at_switch ts t.switch) (itself t.switch)
groups_found (x ∷ before) t ts h =
    ap (λ b. if b then x.groups else groups_at_switch (before ++ t ∷ ts) t.switch) (other x.switch t.switch h.0) ∙ groups_found before t ts h.1

rows_found : (before : List Table) (t : Table) (ts : List Table) → TablesBelow t.switch before → rows_of (before ++ t ∷ ts) t.switch ≡ t.rows
rows_found [] t ts h = ap (λ b. if b then t.rows else rows_of ts t.switch) (itself t.switch)
rows_found (x ∷ before) t ts h =
    ap (λ b. if b then x.rows else rows_of (before ++ t ∷ ts) t.switch) (other x.switch t.switch h.0) ∙ rows_found before t ts h.1

pub sections : (fs : FieldTable) (low : ℕ) (before ts : List Table) → TablesBelow low before → TablesFrom low ts
    → flat_map (section_text fs (before ++ ts)) (map (λ t. t.switch) ts) ≡ flat_map (table_lines fs) ts
sections fs low before [] b h = refl
sections fs low before (t ∷ ts) b h =
    let below = below_more low t.switch before h.0 b in
    let rest = flat_map (section_text fs (before ++ t ∷ ts)) (map (λ u. u.switch) ts) in
    ap (λ gs. lines gs (rows_of (before ++ t ∷ ts) t.switch) ++ rest) (groups_found before t ts below)
    ∙ ap (λ ws. lines t.groups ws ++ rest) (rows_found before t ts below)
    ∙ ap (λ all. table_lines fs t ++ flat_map (section_text fs all) (map (λ u. u.switch) ts)) (sym (append_assoc before (t ∷ []) ts))
    ∙ ap (λ l. table_lines fs t ++ l) (sections fs (t.switch + 1) (before ++ t ∷ []) ts (below_push (t.switch + 1) before t (below_more t.switch (t.switch + 1) before (omega arith) below) (omega arith)) h.1)
  where
    lines : List Group → List Row → List ℕ
    lines gs ws = table_lines fs (record { switch = t.switch; groups = gs; rows = ws })

-- what is found in the tables of switches, by their numbers
pub found_in_tables : (found : List Row → Bool) (low : ℕ) (before ts : List Table) → TablesBelow low before → TablesFrom low ts
    → list_any (λ n. found (rows_of (before ++ ts) n)) (map (λ t. t.switch) ts) ≡ list_any (λ t. found t.rows) ts
found_in_tables found low before [] b h = refl
found_in_tables found low before (t ∷ ts) b h =
    let below = below_more low t.switch before h.0 b in
    let rest = list_any (λ n. found (rows_of (before ++ t ∷ ts) n)) (map (λ u. u.switch) ts) in
    ap (λ ws. found ws || rest) (rows_found before t ts below)
    ∙ ap (λ all. found t.rows || list_any (λ n. found (rows_of all n)) (map (λ u. u.switch) ts)) (sym (append_assoc before (t ∷ []) ts))
    ∙ ap (λ x. found t.rows || x) (found_in_tables found (t.switch + 1) (before ++ t ∷ []) ts (below_push (t.switch + 1) before t (below_more t.switch (t.switch + 1) before (omega arith) below) (omega arith)) h.1)

-- over the numbers of switches
pub over_numbers : {X : Type 0} (f : ℕ → List X) (ss : List SwitchPorts) → flat_map (λ s. f s.switch) ss ≡ flat_map f (map (λ s. s.switch) ss)
over_numbers f [] = refl
over_numbers f (s ∷ ss) = ap (λ l. f s.switch ++ l) (over_numbers f ss)
