-- Which rows act at a switch where plan steps are done: those of the packet's own tag, with the buckets that they had.
use Rattle.std.proofs.Common.{◌≡◌, ◌≢◌, ℕ, zero, suc, ◌+◌, ◌-◌, ◌/◌, ◌^◌, ◌<◌, ◌≤◌, ◌&&◌, Bool, true, false, true≢false, cond, ◌⊎◌, inl, inr, ⊎_elim, Option, Some, None, List, [], ◌∷◌, ◌++◌, length, refl, sym, ap, subst, ◌∙◌, arith, append-nil}
use Rattle.std.specs.Prelude.{◌==◌, nat_le, nat_lt, if◌then◌else◌, map, filter, filter_map, slice_index, Contains}
use Rattle.std.specs.List.{list_all}
use Rattle.std.proofs.lemmas.Bool.Decides.{nat_tests}
use Rattle.std.proofs.lemmas.List.Elements.{filter-append}
use Rattle.nk_field.proofs.Ascending.{members_from_all}
use Rattle.nk_field.proofs.Lists.{In, map_joined, in_decided, numbers_decided, in_from_contains}
use Rattle.nk_field.specs.Packet.{FieldTable}
use Rattle.nk_topo.specs.Topology.{numbers_of}
use Rattle.nk_prefix.specs.Prefix.{digits_of, agrees_to}
use Rattle.nk_table.specs.declared.Tables.{Tables}
use Rattle.nk_table.specs.declared.Table.{Table}
use Rattle.nk_table.specs.declared.Row.{Row}
use Rattle.nk_table.specs.declared.Group.{Group}
use Rattle.nk_table.specs.declared.Target.{Target}
use Rattle.nk_table.specs.declared.Target.TheVariants as target
use Rattle.nk_table.specs.Rules.{agrees, agrees_at, rows_of, groups_at_switch, is_above_all, highest, buckets_in, buckets_for, buckets_of_row, sent_by, sent_for}
use Rattle.nk_update.specs.declared.plans.Plan.{Plan}
use Rattle.nk_update.specs.Plans.{Pair, tag_digits, asked_of, plan_table, switches_of, HasOldTag, HasNewTag, NamesOneOf, AreNumberedFrom, IsPlannable, is_tagged, is_tagged_row, old_stands, new_stands, numbered_on, target_on, plan_row_on, rows_at, groups_at}
use Rattle.nk_update.specs.Steps.{plan_steps_of, plan_of, table_after, tables_after, AreFourTables}

-- a test is true or false
pub true_or_false : (b : Bool) → (b ≡ true) ⊎ (b ≡ false)
true_or_false true = inl refl
true_or_false false = inr refl

-- tests of numbers
pub le_true : (m n : ℕ) → m ≤ n → nat_le m n ≡ true
le_true m n h = grind (arith, h)

-- at most, and not
pub le_false : (m n : ℕ) → n < m → nat_le m n ≡ false
le_false m n h = grind (arith, h)

-- equal
pub eq_true : (m n : ℕ) → m ≡ n → m == n ≡ true
eq_true m n h = grind (arith, h)

-- and not
pub eq_false : (m n : ℕ) → m ≢ n → m == n ≡ false
eq_false m n h = grind (arith, h)

-- and back
pub true_eq : (m n : ℕ) → m == n ≡ true → m ≡ n
true_eq m n h = grind (arith, nat_tests, h)

-- likewise
pub false_eq : (m n : ℕ) → m == n ≡ false → m ≢ n
false_eq m n h = λ e. true≢false (sym (eq_true m n e) ∙ h)

-- at most, from the test
pub true_le : (m n : ℕ) → nat_le m n ≡ true → m ≤ n
true_le m n h = grind (arith, nat_tests, h)

-- the number, if there is one
abbrev or_else : {X : Type 0} → X → Option X → X
or_else x None = x
or_else x (Some y) = y

-- one is one
pub same_some : {X : Type 0} (x y : X) → Some x ≡ Some y → x ≡ y
same_some x y e = ap (or_else x) e

-- one is there or not
pub clash : {X : Type 0} (x : X) → None ≡ Some x → ⊥
clash x e = cc

-- what passes both tests, where the second passes whenever the first does
kept_twice : {X : Type 0} (q p : X → Bool) (xs : List X) → ((x : X) → In xs x → q x ≡ true → p x ≡ true) → filter q (filter p xs) ≡ filter q xs
kept_twice q p [] h = refl
kept_twice q p (x ∷ xs) h = by (p x) (q x) refl refl (kept_twice q p xs (λ y i. h y (inr i)))
  where
    by : (a b : Bool) → p x ≡ a → q x ≡ b → filter q (filter p xs) ≡ filter q xs →
        filter q (cond a (x ∷ filter p xs) (filter p xs)) ≡ cond b (x ∷ filter q xs) (filter q xs)
    by true true e f r = ap (λ c. cond c (x ∷ filter q (filter p xs)) (filter q (filter p xs))) f ∙ ap (λ l. x ∷ l) r
    by true false e f r = ap (λ c. cond c (x ∷ filter q (filter p xs)) (filter q (filter p xs))) f ∙ r
    by false true e f r = absurd (true≢false (sym (h x (inl refl) f) ∙ e))
    by false false e f r = r

-- where none passes both
none_kept : {X : Type 0} (q p : X → Bool) (xs : List X) → ((x : X) → In xs x → q x ≡ true → p x ≡ true → ⊥) → filter q (filter p xs) ≡ []
none_kept q p [] h = refl
none_kept q p (x ∷ xs) h = by (p x) (q x) refl refl (none_kept q p xs (λ y i. h y (inr i)))
  where
    by : (a b : Bool) → p x ≡ a → q x ≡ b → filter q (filter p xs) ≡ [] →
        filter q (cond a (x ∷ filter p xs) (filter p xs)) ≡ []
    by true true e f r = absurd (h x (inl refl) f e)
    by true false e f r = ap (λ c. cond c (x ∷ filter q (filter p xs)) (filter q (filter p xs))) f ∙ r
    by false b e f r = r

-- what is kept was there
pub kept_in : {X : Type 0} (q : X → Bool) (xs : List X) (x : X) → In (filter q xs) x → In xs x
kept_in q [] x i = absurd i
kept_in q (y ∷ ys) x i = by (q y) i (kept_in q ys x)
  where
    by : (b : Bool) → In (cond b (y ∷ filter q ys) (filter q ys)) x → (In (filter q ys) x → In ys x) → In (y ∷ ys) x
    by true i r = ⊎_elim (λ e. inl e) (λ j. inr (r j)) i
    by false i r = inr (r i)

-- new group numbers change nothing of what matches
kept_on : (mx pk : List ℕ) (n : ℕ) (rows : List Row) → filter (agrees mx pk) (map (plan_row_on n) rows) ≡ map (plan_row_on n) (filter (agrees mx pk) rows)
kept_on mx pk n [] = refl
kept_on mx pk n (r ∷ rs) = by (agrees mx pk r) (kept_on mx pk n rs)
  where
    by : (b : Bool) → filter (agrees mx pk) (map (plan_row_on n) rs) ≡ map (plan_row_on n) (filter (agrees mx pk) rs) →
        cond b (plan_row_on n r ∷ filter (agrees mx pk) (map (plan_row_on n) rs)) (filter (agrees mx pk) (map (plan_row_on n) rs)) ≡ map (plan_row_on n) (cond b (r ∷ filter (agrees mx pk) rs) (filter (agrees mx pk) rs))
    by true e = ap (λ l. plan_row_on n r ∷ l) e
    by false e = e

-- both tests passed
pub both_passed : (a b : Bool) → (a && b) ≡ true → (a ≡ true) × (b ≡ true)
both_passed true b e = (refl, e)
both_passed false b e = absurd (true≢false (sym e))

-- a value that agrees in all digits is that value
pub sure : (v len d x : ℕ) → d ≤ len → agrees_to v len d x ≡ true → x ≡ v
sure v len d x le h =
    let free : d - len ≡ 0 = omega (arith, le) in
    let whole : (y : ℕ) → y / 1 ≡ y = λ y. omega arith in
    let at : x / 1 == v / 1 ≡ true = subst (λ k. x / 2 ^ k == v / 2 ^ k ≡ true) free h in
    sym (whole x) ∙ true_eq (x / 1) (v / 1) at ∙ whole v

-- both tests passed, or one didn't
both_or : (a c : Bool) → (((a ≡ true) × (c ≡ true)) × ((a && c) ≡ true)) ⊎ ((a && c) ≡ false)
both_or true true = inl ((refl, refl), refl)
both_or true false = inr refl
both_or false c = inr refl

-- a packet that a row matches has the value that the row asks for
asked : (f v : ℕ) (mx pk : List ℕ) (ms : List (ℕ × ℕ × ℕ)) → asked_of (digits_of (slice_index mx f)) f ms ≡ Some v → list_all (agrees_at mx pk) ms ≡ true → slice_index pk f ≡ v
asked f v mx pk [] e h = absurd (clash v e)
asked f v mx pk (m ∷ ms) e h =
    let d = digits_of (slice_index mx f) in
    let parts = both_passed (agrees_at mx pk m) (list_all (agrees_at mx pk) ms) h in
    ⊎_elim
    (λ y.
    let same = true_eq m.0 f y.0.0 in
    let le : digits_of (slice_index mx m.0) ≤ m.2 = subst (λ g. digits_of (slice_index mx g) ≤ m.2) (sym same) (true_le d m.2 y.0.1) in
    let is = sure m.1 m.2 (digits_of (slice_index mx m.0)) (slice_index pk m.0) le parts.0 in
    let one = same_some m.1 v (sym (ap (λ b. if b then Some m.1 else asked_of d f ms) y.1) ∙ e) in
    ap (slice_index pk) (sym same) ∙ is ∙ one)
    (λ n. asked f v mx pk ms (sym (ap (λ b. if b then Some m.1 else asked_of d f ms) n) ∙ e) parts.1)
    (both_or (m.0 == f) (nat_le d m.2))

-- new group numbers leave priorities
above_on : (q n : ℕ) (xs : List Row) → is_above_all q (map (plan_row_on n) xs) ≡ is_above_all q xs
above_on q n [] = refl
above_on q n (x ∷ xs) = ap (λ b. nat_lt x.priority q && b) (above_on q n xs)

-- the row with new numbers, if there is one
abbrev found_on : ℕ → Option Row → Option Row
found_on n None = None
found_on n (Some r) = Some (plan_row_on n r)

-- so the same row is the highest
highest_on : (n : ℕ) (before xs : List Row) → highest (map (plan_row_on n) before) (map (plan_row_on n) xs) ≡ found_on n (highest before xs)
highest_on n before [] = refl
highest_on n before (r ∷ rest) =
    ap (λ b. if b then Some (plan_row_on n r) else highest (map (plan_row_on n) before ++ plan_row_on n r ∷ []) (map (plan_row_on n) rest))
    (ap (is_above_all r.priority) (sym (map_joined (plan_row_on n) before rest)) ∙ above_on r.priority n (before ++ rest))
    ∙ by (is_above_all r.priority (before ++ rest)) (highest_on n (before ++ r ∷ []) rest)
  where
    by : (b : Bool) → highest (map (plan_row_on n) (before ++ r ∷ [])) (map (plan_row_on n) rest) ≡ found_on n (highest (before ++ r ∷ []) rest) →
        (if b then Some (plan_row_on n r) else highest (map (plan_row_on n) before ++ plan_row_on n r ∷ []) (map (plan_row_on n) rest)) ≡ found_on n (if b then Some r else highest (before ++ r ∷ []) rest)
    by true e = refl
    by false e = ap (λ l. highest l (map (plan_row_on n) rest)) (sym (map_joined (plan_row_on n) before (r ∷ []))) ∙ e

-- the highest row is one of them
pub found_in : (before xs : List Row) (r : Row) → highest before xs ≡ Some r → In xs r
found_in before [] r e = absurd (clash r e)
found_in before (x ∷ xs) r e = by (is_above_all x.priority (before ++ xs)) e (found_in (before ++ x ∷ []) xs r)
  where
    by : (b : Bool) → (if b then Some x else highest (before ++ x ∷ []) xs) ≡ Some r → (highest (before ++ x ∷ []) xs ≡ Some r → In xs r) → In (x ∷ xs) r
    by true e h = inl (sym (same_some x r e))
    by false e h = inr (h e)

-- buckets that are the same for each row are so for the one that acts
buckets_same : (gs hs : List Group) (rows : List Row) → ((r : Row) → In rows r → buckets_for gs r.target ≡ buckets_for hs r.target) →
    buckets_of_row gs (highest [] rows) ≡ buckets_of_row hs (highest [] rows)
buckets_same gs hs rows h = by (highest [] rows) refl
  where
    by : (o : Option Row) → highest [] rows ≡ o → buckets_of_row gs o ≡ buckets_of_row hs o
    by None e = refl
    by (Some r) e = h r (found_in [] rows r e)

-- and with new numbers
buckets_on : (n : ℕ) (gs hs : List Group) (rows : List Row) → ((r : Row) → In rows r → buckets_for gs (target_on n r.target) ≡ buckets_for hs r.target) →
    buckets_of_row gs (found_on n (highest [] rows)) ≡ buckets_of_row hs (highest [] rows)
buckets_on n gs hs rows h = by (highest [] rows) refl
  where
    by : (o : Option Row) → highest [] rows ≡ o → buckets_of_row gs (found_on n o) ≡ buckets_of_row hs o
    by None e = refl
    by (Some r) e = h r (found_in [] rows r e)

-- a group that is there is found before those after
old_found : (n : ℕ) (gs hs : List Group) (g : ℕ) → AreNumberedFrom n gs → n ≤ g → g < n + length gs → buckets_in (gs ++ hs) g ≡ buckets_in gs g
old_found n [] hs g a le lt = absurd (omega (arith, le, lt))
old_found n (x ∷ xs) hs g a le lt = by (x.number == g) refl (λ more less. old_found (n + 1) xs hs g a.1 more less)
  where
    by : (b : Bool) → x.number == g ≡ b → (n + 1 ≤ g → g < n + 1 + length xs → buckets_in (xs ++ hs) g ≡ buckets_in xs g) →
        (if b then x.buckets else buckets_in (xs ++ hs) g) ≡ (if b then x.buckets else buckets_in xs g)
    by true e rest = refl
    by false e rest =
        let other = false_eq x.number g e in
        let more : n + 1 ≤ g = omega (arith, a.0, other, le) in
        let less : g < n + 1 + length xs = omega (arith, lt) in
        rest more less

-- a greater number isn't among the groups
past_old : (n : ℕ) (gs hs : List Group) (g : ℕ) → AreNumberedFrom n gs → n + length gs ≤ g → buckets_in (gs ++ hs) g ≡ buckets_in hs g
past_old n [] hs g a le = refl
past_old n (x ∷ xs) hs g a le =
    let other : x.number ≢ g = omega (arith, a.0, le) in
    let more : n + 1 + length xs ≤ g = omega (arith, le) in
    ap (λ b. if b then x.buckets else buckets_in (xs ++ hs) g) (eq_false x.number g other) ∙ past_old (n + 1) xs hs g a.1 more

-- numbers that go on are the same where the first ones are
same_test : (a b n : ℕ) → (a + n == b + n) ≡ (a == b)
same_test a b n =
    ⊎_elim
    (λ e. let same : a + n ≡ b + n = omega (arith, true_eq a b e) in eq_true (a + n) (b + n) same ∙ sym e)
    (λ e. let ne = false_eq a b e in let other : a + n ≢ b + n = λ f. ne (omega (arith, f)) in eq_false (a + n) (b + n) other ∙ sym e)
    (true_or_false (a == b))

-- groups numbered on
numbered_found : (n : ℕ) (gs : List Group) (g : ℕ) → buckets_in (map (numbered_on n) gs) (g + n) ≡ buckets_in gs g
numbered_found n [] g = refl
numbered_found n (x ∷ xs) g =
    ap (λ b. if b then x.buckets else buckets_in (map (numbered_on n) xs) (g + n)) (same_test x.number g n)
    ∙ ap (λ l. if x.number == g then x.buckets else l) (numbered_found n xs g)

-- what an old row's target does, with more groups after
old_target : (gs hs : List Group) (to : Target) → AreNumberedFrom 1 gs → NamesOneOf (length gs) to → buckets_for (gs ++ hs) to ≡ buckets_for gs to
old_target gs hs (target.Group g) a n = let lt : g < 1 + length gs = omega (arith, n.1) in old_found 1 gs hs g a n.0 lt
old_target gs hs (target.Bucket b) a n = refl
old_target gs hs target.Discard a n = refl

-- what a new row's target does, after the old groups or alone
new_target : (b : Bool) (olds news : List Group) (to : Target) → AreNumberedFrom 1 olds → NamesOneOf (length news) to →
    buckets_for ((if b then olds else []) ++ map (numbered_on (length olds)) news) (target_on (length olds) to) ≡ buckets_for news to
new_target true olds news (target.Group g) a n =
    let le : 1 + length olds ≤ g + length olds = omega (arith, n.0) in
    past_old 1 olds (map (numbered_on (length olds)) news) (g + length olds) a le ∙ numbered_found (length olds) news g
new_target false olds news (target.Group g) a n = numbered_found (length olds) news g
new_target b olds news (target.Bucket k) a n = refl
new_target b olds news target.Discard a n = refl

-- a value above 0 is a tag
tagged : (v : ℕ) → 1 ≤ v → is_tagged (Some v) ≡ true
tagged zero h = absurd (omega (arith, h))
tagged (suc n) h = refl

-- the switch's table in a list with one for each of some switches
rows_made : (tb : ℕ → Table) → ((n : ℕ) → (tb n).switch ≡ n) → (ns : List ℕ) (sw : ℕ) → In ns sw → rows_of (map tb ns) sw ≡ (tb sw).rows
rows_made tb s [] sw i = absurd i
rows_made tb s (n ∷ ns) sw i = by ((tb n).switch == sw) refl i (rows_made tb s ns sw)
  where
    by : (b : Bool) → (tb n).switch == sw ≡ b → In (n ∷ ns) sw → (In ns sw → rows_of (map tb ns) sw ≡ (tb sw).rows) → (if b then (tb n).rows else rows_of (map tb ns) sw) ≡ (tb sw).rows
    by true e i r = ap (λ k. (tb k).rows) (sym (s n) ∙ true_eq (tb n).switch sw e)
    by false e i r = ⊎_elim (λ h. absurd (false_eq (tb n).switch sw e (s n ∙ sym h))) (λ j. r j) i

groups_made : (tb : ℕ → Table) → ((n : ℕ) → (tb n).switch ≡ n) → (ns : List ℕ) (sw : ℕ) → In ns sw → groups_at_switch (map tb ns) sw ≡ (tb sw).groups
groups_made tb s [] sw i = absurd i
groups_made tb s (n ∷ ns) sw i = by ((tb n).switch == sw) refl i (groups_made tb s ns sw)
  where
    by : (b : Bool) → (tb n).switch == sw ≡ b → In (n ∷ ns) sw → (In ns sw → groups_at_switch (map tb ns) sw ≡ (tb sw).groups) → (if b then (tb n).groups else groups_at_switch (map tb ns) sw) ≡ (tb sw).groups
    by true e i r = ap (λ k. (tb k).groups) (sym (s n) ∙ true_eq (tb n).switch sw e)
    by false e i r = ⊎_elim (λ h. absurd (false_eq (tb n).switch sw e (s n ∙ sym h))) (λ j. r j) i

-- and none for another switch
none_made : (tb : ℕ → Table) → ((n : ℕ) → (tb n).switch ≡ n) → (ns : List ℕ) (sw : ℕ) → (In ns sw → ⊥) → rows_of (map tb ns) sw ≡ []
none_made tb s [] sw i = refl
none_made tb s (n ∷ ns) sw i =
    ap (λ b. if b then (tb n).rows else rows_of (map tb ns) sw) (eq_false (tb n).switch sw (λ e. i (inl (sym e ∙ s n))))
    ∙ none_made tb s ns sw (λ j. i (inr j))

-- a map over a map
mapped_twice : {X Y Z : Type 0} (f : Y → Z) (g : X → Y) (xs : List X) → map f (map g xs) ≡ map (λ x. f (g x)) xs
mapped_twice f g [] = refl
mapped_twice f g (x ∷ xs) = ap (λ l. f (g x) ∷ l) (mapped_twice f g xs)

-- after at most three steps a switch has its table
table_is : (p : Pair) (d : ℕ) → d ≤ 3 → (sw : ℕ) → table_after d (plan_steps_of p.old p.new p.tag sw) ≡ plan_table p.old p.new p.tag d sw
table_is p zero le sw = refl
table_is p (suc zero) le sw = refl
table_is p (suc (suc zero)) le sw = refl
table_is p (suc (suc (suc zero))) le sw = refl
table_is p (suc (suc (suc (suc n)))) le sw = absurd (omega (arith, le))

module _ (p : Pair) (ok : IsPlannable p) (d : ℕ) (most : d ≤ 3) (pk : List ℕ) where
  abbrev here : ℕ
  here = slice_index pk 0

  abbrev tag : ℕ
  tag = slice_index pk p.tag

  abbrev olds : List Row
  olds = rows_of p.old.tables here

  abbrev news : List Row
  news = rows_of p.new.tables here

  abbrev shift : ℕ
  shift = length (groups_at_switch p.old.tables here)

  abbrev mx : List ℕ
  mx = p.old.fields.maxima

  abbrev switches : List ℕ
  switches = switches_of p.old

  abbrev stage : Tables
  stage = tables_after (plan_of p) d

  abbrev made : ℕ → Table
  made sw = table_after d (plan_steps_of p.old p.new p.tag sw)

  -- each table is that of its switch
  made_at : (sw : ℕ) → (made sw).switch ≡ sw
  made_at sw = ap (λ (t : Table). t.switch) (table_is p d most sw)

  -- a switch that isn't declared has no rows
  no_rows : (In switches here → ⊥) → (olds ≡ []) × (news ≡ [])
  no_rows n = (
    ok.old_switches here (λ c. n (in_from_contains switches here c)),
    ok.new_switches here (λ c. n (in_from_contains switches here (subst (λ t. Contains (numbers_of t) here) ok.topo c))),
  )

  -- the switch's own table acts
  there_sent : sent_for stage pk ≡ filter_map (sent_by pk) (buckets_of_row (groups_at p.old p.new d here) (highest [] (filter (agrees mx pk) (rows_at p.old p.new p.tag d here))))
  there_sent =
      ap (λ ts. filter_map (sent_by pk) (buckets_of_row (groups_at_switch ts here) (highest [] (filter (agrees mx pk) (rows_of ts here)))))
      (mapped_twice (table_after d) (plan_steps_of p.old p.new p.tag) switches)
      ∙ ⊎_elim
      (λ i.
      ap (λ gs. filter_map (sent_by pk) (buckets_of_row gs (highest [] (filter (agrees mx pk) (rows_of (map made switches) here)))))
      (groups_made made made_at switches here i ∙ ap (λ (t : Table). t.groups) (table_is p d most here))
      ∙ ap (λ rs. filter_map (sent_by pk) (buckets_of_row (groups_at p.old p.new d here) (highest [] (filter (agrees mx pk) rs))))
      (rows_made made made_at switches here i ∙ ap (λ (t : Table). t.rows) (table_is p d most here)))
      (λ n.
      ap (λ rs. filter_map (sent_by pk) (buckets_of_row (groups_at_switch (map made switches) here) (highest [] (filter (agrees mx pk) rs)))) (none_made made made_at switches here n)
      ∙ sym (ap (λ rs. filter_map (sent_by pk) (buckets_of_row (groups_at p.old p.new d here) (highest [] (filter (agrees mx pk) (filter (old_stands (tag_digits p.old p.tag) p.tag d) rs ++ map (plan_row_on shift) (filter (new_stands (tag_digits p.old p.tag) p.tag d) news)))))) (no_rows n).0
      ∙ ap (λ rs. filter_map (sent_by pk) (buckets_of_row (groups_at p.old p.new d here) (highest [] (filter (agrees mx pk) (map (plan_row_on shift) (filter (new_stands (tag_digits p.old p.tag) p.tag d) rs)))))) (no_rows n).1))
      (in_decided numbers_decided switches here)

  -- the rows that match, old and new
  matching : filter (agrees mx pk) (rows_at p.old p.new p.tag d here) ≡ filter (agrees mx pk) (filter (old_stands (tag_digits p.old p.tag) p.tag d) olds) ++ map (plan_row_on shift) (filter (agrees mx pk) (filter (new_stands (tag_digits p.old p.tag) p.tag d) news))
  matching =
      filter-append (agrees mx pk) (filter (old_stands (tag_digits p.old p.tag) p.tag d) olds) (map (plan_row_on shift) (filter (new_stands (tag_digits p.old p.tag) p.tag d) news))
      ∙ ap (λ l. filter (agrees mx pk) (filter (old_stands (tag_digits p.old p.tag) p.tag d) olds) ++ l) (kept_on mx pk shift (filter (new_stands (tag_digits p.old p.tag) p.tag d) news))

  -- where all old rows that match stand, and no new one
  by_old : d ≤ 2 → ((r : Row) → In olds r → agrees mx pk r ≡ true → old_stands (tag_digits p.old p.tag) p.tag d r ≡ true)
      → ((r : Row) → In news r → agrees mx pk r ≡ true → new_stands (tag_digits p.old p.tag) p.tag d r ≡ true → ⊥)
      → sent_for stage pk ≡ sent_for p.old pk
  by_old le stand none =
      let groups = groups_at_switch p.old.tables here in
      let more = if nat_le 1 d then map (numbered_on shift) (groups_at_switch p.new.tables here) else [] in
      let rows = filter (agrees mx pk) olds in
      let all : filter (agrees mx pk) (rows_at p.old p.new p.tag d here) ≡ rows =
      matching
      ∙ ap (λ l. l ++ map (plan_row_on shift) (filter (agrees mx pk) (filter (new_stands (tag_digits p.old p.tag) p.tag d) news))) (kept_twice (agrees mx pk) (old_stands (tag_digits p.old p.tag) p.tag d) olds stand)
      ∙ ap (λ l. rows ++ map (plan_row_on shift) l) (none_kept (agrees mx pk) (new_stands (tag_digits p.old p.tag) p.tag d) news none)
      ∙ append-nil rows in
      there_sent
      ∙ ap (λ l. filter_map (sent_by pk) (buckets_of_row (groups_at p.old p.new d here) (highest [] l))) all
      ∙ ap (λ b. filter_map (sent_by pk) (buckets_of_row ((if b then groups else []) ++ more) (highest [] rows))) (le_true d 2 le)
      ∙ ap (filter_map (sent_by pk)) (buckets_same (groups ++ more) groups rows (λ r i.
      old_target groups more r.target (ok.old_numbers.groups here)
      (members_from_all (λ (s : Row). NamesOneOf shift s.target) olds (ok.old_numbers.named here) r (kept_in (agrees mx pk) olds r i))))

  -- where all new rows that match stand, and no old one
  by_new : 1 ≤ d → ((r : Row) → In olds r → agrees mx pk r ≡ true → old_stands (tag_digits p.old p.tag) p.tag d r ≡ true → ⊥)
      → ((r : Row) → In news r → agrees mx pk r ≡ true → new_stands (tag_digits p.old p.tag) p.tag d r ≡ true)
      → sent_for stage pk ≡ sent_for p.new pk
  by_new le none stand =
      let groups = groups_at_switch p.old.tables here in
      let later = groups_at_switch p.new.tables here in
      let rows = filter (agrees mx pk) news in
      let all : filter (agrees mx pk) (rows_at p.old p.new p.tag d here) ≡ map (plan_row_on shift) rows =
      matching
      ∙ ap (λ l. l ++ map (plan_row_on shift) (filter (agrees mx pk) (filter (new_stands (tag_digits p.old p.tag) p.tag d) news))) (none_kept (agrees mx pk) (old_stands (tag_digits p.old p.tag) p.tag d) olds none)
      ∙ ap (map (plan_row_on shift)) (kept_twice (agrees mx pk) (new_stands (tag_digits p.old p.tag) p.tag d) news stand) in
      there_sent
      ∙ ap (λ l. filter_map (sent_by pk) (buckets_of_row (groups_at p.old p.new d here) (highest [] l))) all
      ∙ ap (λ o. filter_map (sent_by pk) (buckets_of_row (groups_at p.old p.new d here) o)) (highest_on shift [] rows)
      ∙ ap (λ b. filter_map (sent_by pk) (buckets_of_row ((if nat_le d 2 then groups else []) ++ (if b then map (numbered_on shift) later else [])) (found_on shift (highest [] rows)))) (le_true 1 d le)
      ∙ ap (filter_map (sent_by pk)) (buckets_on shift ((if nat_le d 2 then groups else []) ++ map (numbered_on shift) later) later rows (λ r i.
      new_target (nat_le d 2) groups later r.target (ok.old_numbers.groups here)
      (members_from_all (λ (s : Row). NamesOneOf (length later) s.target) news (ok.new_numbers.named here) r (kept_in (agrees mx pk) news r i))))
      ∙ ap (λ (f : FieldTable). filter_map (sent_by pk) (buckets_of_row later (highest [] (filter (agrees f.maxima pk) news)))) (sym ok.fields)

  -- where no row that matches stands
  by_none : ((r : Row) → In olds r → agrees mx pk r ≡ true → old_stands (tag_digits p.old p.tag) p.tag d r ≡ true → ⊥)
      → ((r : Row) → In news r → agrees mx pk r ≡ true → new_stands (tag_digits p.old p.tag) p.tag d r ≡ true → ⊥)
      → sent_for stage pk ≡ []
  by_none none none' =
      there_sent
      ∙ ap (λ l. filter_map (sent_by pk) (buckets_of_row (groups_at p.old p.new d here) (highest [] l)))
      (matching
      ∙ ap (λ l. l ++ map (plan_row_on shift) (filter (agrees mx pk) (filter (new_stands (tag_digits p.old p.tag) p.tag d) news))) (none_kept (agrees mx pk) (old_stands (tag_digits p.old p.tag) p.tag d) olds none)
      ∙ ap (map (plan_row_on shift)) (none_kept (agrees mx pk) (new_stands (tag_digits p.old p.tag) p.tag d) news none'))

  -- an old row that matches asks for the packet's tag, which is an old one or 0
  old_asks : (r : Row) → In olds r → agrees mx pk r ≡ true → (asked_of (tag_digits p.old p.tag) p.tag r.matches ≡ Some tag) × (tag ≤ p.old_tags)
  old_asks r i a =
      let h = members_from_all (HasOldTag p) olds (ok.old_rows here) r i in
      let same = asked p.tag h.0 mx pk r.matches h.1 a in
      (h.1 ∙ ap Some (sym same), subst (λ v. v ≤ p.old_tags) (sym same) h.2)

  -- a new row's is a new one or 0
  new_asks : (r : Row) → In news r → agrees mx pk r ≡ true → (asked_of (tag_digits p.old p.tag) p.tag r.matches ≡ Some tag) × ((tag ≡ 0) ⊎ (p.old_tags < tag))
  new_asks r i a =
      let h = members_from_all (HasNewTag p) news (ok.new_rows here) r i in
      let same = asked p.tag h.0 mx pk r.matches h.1 a in
      (h.1 ∙ ap Some (sym same), subst (λ v. (v ≡ 0) ⊎ (p.old_tags < v)) (sym same) h.2)

  -- whether a row with the packet's tag stands
  tagged_old : 1 ≤ tag → (r : Row) → asked_of (tag_digits p.old p.tag) p.tag r.matches ≡ Some tag → old_stands (tag_digits p.old p.tag) p.tag d r ≡ nat_le d 2
  tagged_old h r e = ap (λ o. if is_tagged o then nat_le d 2 else nat_le d 1) e ∙ ap (λ b. if b then nat_le d 2 else nat_le d 1) (tagged tag h)

  tagged_new : 1 ≤ tag → (r : Row) → asked_of (tag_digits p.old p.tag) p.tag r.matches ≡ Some tag → new_stands (tag_digits p.old p.tag) p.tag d r ≡ nat_le 1 d
  tagged_new h r e = ap (λ o. if is_tagged o then nat_le 1 d else nat_le 2 d) e ∙ ap (λ b. if b then nat_le 1 d else nat_le 2 d) (tagged tag h)

  untagged_old : tag ≡ 0 → (r : Row) → asked_of (tag_digits p.old p.tag) p.tag r.matches ≡ Some tag → old_stands (tag_digits p.old p.tag) p.tag d r ≡ nat_le d 1
  untagged_old h r e = ap (λ o. if is_tagged o then nat_le d 2 else nat_le d 1) (e ∙ ap Some h)

  untagged_new : tag ≡ 0 → (r : Row) → asked_of (tag_digits p.old p.tag) p.tag r.matches ≡ Some tag → new_stands (tag_digits p.old p.tag) p.tag d r ≡ nat_le 2 d
  untagged_new h r e = ap (λ o. if is_tagged o then nat_le 1 d else nat_le 2 d) (e ∙ ap Some h)

  -- with an old tag no new row matches
  no_new : 1 ≤ tag → tag ≤ p.old_tags → (r : Row) → In news r → agrees mx pk r ≡ true → ⊥
  no_new h le r i a = ⊎_elim (λ z. omega (arith, z, h)) (λ lt. omega (arith, lt, le)) (new_asks r i a).1

  -- with a new tag no old row matches
  no_old : p.old_tags < tag → (r : Row) → In olds r → agrees mx pk r ≡ true → ⊥
  no_old lt r i a = let le = (old_asks r i a).1 in omega (arith, lt, le)

  old_tag_upto : 1 ≤ tag → tag ≤ p.old_tags → d ≤ 2 → sent_for stage pk ≡ sent_for p.old pk
  old_tag_upto h le two = by_old two (λ r i a. tagged_old h r (old_asks r i a).0 ∙ le_true d 2 two) (λ r i a s. no_new h le r i a)

  old_tag_gone_upto : 1 ≤ tag → tag ≤ p.old_tags → 3 ≤ d → sent_for stage pk ≡ []
  old_tag_gone_upto h le three =
      let lt : 2 < d = omega (arith, three) in
      by_none (λ r i a s. true≢false (sym s ∙ tagged_old h r (old_asks r i a).0 ∙ le_false d 2 lt)) (λ r i a s. no_new h le r i a)

  new_tag_upto : p.old_tags < tag → 1 ≤ d → sent_for stage pk ≡ sent_for p.new pk
  new_tag_upto lt one =
      let h : 1 ≤ tag = omega (arith, lt) in
      by_new one (λ r i a s. no_old lt r i a) (λ r i a. tagged_new h r (new_asks r i a).0 ∙ le_true 1 d one)

  no_new_tag_upto : p.old_tags < tag → d < 1 → sent_for stage pk ≡ []
  no_new_tag_upto lt none =
      let h : 1 ≤ tag = omega (arith, lt) in
      by_none (λ r i a s. no_old lt r i a) (λ r i a s. true≢false (sym s ∙ tagged_new h r (new_asks r i a).0 ∙ le_false 1 d none))

  untagged_before_upto : tag ≡ 0 → d ≤ 1 → sent_for stage pk ≡ sent_for p.old pk
  untagged_before_upto z one =
      let two : d ≤ 2 = omega (arith, one) in
      let lt : d < 2 = omega (arith, one) in
      by_old two (λ r i a. untagged_old z r (old_asks r i a).0 ∙ le_true d 1 one) (λ r i a s. true≢false (sym s ∙ untagged_new z r (new_asks r i a).0 ∙ le_false 2 d lt))

  untagged_after_upto : tag ≡ 0 → 2 ≤ d → sent_for stage pk ≡ sent_for p.new pk
  untagged_after_upto z two =
      let one : 1 ≤ d = omega (arith, two) in
      let lt : 1 < d = omega (arith, two) in
      by_new one (λ r i a s. true≢false (sym s ∙ untagged_old z r (old_asks r i a).0 ∙ le_false d 1 lt)) (λ r i a. untagged_new z r (new_asks r i a).0 ∙ le_true 2 d two)

  -- at a switch that isn't declared nothing is sent
  nothing_sent : (In switches here → ⊥) → (sent_for stage pk ≡ []) × (sent_for p.new pk ≡ [])
  nothing_sent n =
      let none = no_rows n in (
        by_none (λ r i a s. subst (λ l. In l r) none.0 i) (λ r i a s. subst (λ l. In l r) none.1 i),
        ap (λ l. filter_map (sent_by pk) (buckets_of_row (groups_at_switch p.new.tables here) (highest [] (filter (agrees p.new.fields.maxima pk) l)))) none.1,
      )

-- more than three steps are three
record IsUpto (d : ℕ) : Type 0 where
  pub steps : ℕ
  pub most : steps ≤ 3
  pub low : steps ≤ d
  pub high : (n : ℕ) → n ≤ 3 → n ≤ d → n ≤ steps
  pub same : (pl : Plan) → tables_after pl d ≡ tables_after pl steps

upto : (d : ℕ) → IsUpto d
upto zero = record { steps = 0; most = omega arith; low = omega arith; high = λ n a b. b; same = λ pl. refl }
upto (suc zero) = record { steps = 1; most = omega arith; low = omega arith; high = λ n a b. b; same = λ pl. refl }
upto (suc (suc zero)) = record { steps = 2; most = omega arith; low = omega arith; high = λ n a b. b; same = λ pl. refl }
upto (suc (suc (suc n))) = record { steps = 3; most = omega arith; low = omega arith; high = λ n a b. a; same = λ pl. refl }

module _ (p : Pair) (ok : IsPlannable p) (d : ℕ) (pk : List ℕ) where
  abbrev tag_at : ℕ
  tag_at = slice_index pk p.tag

  abbrev few : IsUpto d
  few = upto d

  -- the tables are those after three steps at most
  there : sent_for (tables_after (plan_of p) d) pk ≡ sent_for (tables_after (plan_of p) few.steps) pk
  there = ap (λ t. sent_for t pk) (few.same (plan_of p))

  pub old_tag : 1 ≤ tag_at → tag_at ≤ p.old_tags → d ≤ 2 → sent_for (tables_after (plan_of p) d) pk ≡ sent_for p.old pk
  old_tag h le two = let low : few.steps ≤ 2 = omega (arith, few.low, two) in there ∙ old_tag_upto p ok few.steps few.most pk h le low

  pub old_tag_gone : 1 ≤ tag_at → tag_at ≤ p.old_tags → 3 ≤ d → sent_for (tables_after (plan_of p) d) pk ≡ []
  old_tag_gone h le three = let three_or : 3 ≤ 3 = omega arith in there ∙ old_tag_gone_upto p ok few.steps few.most pk h le (few.high 3 three_or three)

  pub new_tag : p.old_tags < tag_at → 1 ≤ d → sent_for (tables_after (plan_of p) d) pk ≡ sent_for p.new pk
  new_tag lt one = let small : 1 ≤ 3 = omega arith in there ∙ new_tag_upto p ok few.steps few.most pk lt (few.high 1 small one)

  pub no_new_tag : p.old_tags < tag_at → d < 1 → sent_for (tables_after (plan_of p) d) pk ≡ []
  no_new_tag lt none = let low : few.steps < 1 = omega (arith, few.low, none) in there ∙ no_new_tag_upto p ok few.steps few.most pk lt low

  pub untagged_before : tag_at ≡ 0 → d ≤ 1 → sent_for (tables_after (plan_of p) d) pk ≡ sent_for p.old pk
  untagged_before z one = let low : few.steps ≤ 1 = omega (arith, few.low, one) in there ∙ untagged_before_upto p ok few.steps few.most pk z low

  pub untagged_after : tag_at ≡ 0 → 2 ≤ d → sent_for (tables_after (plan_of p) d) pk ≡ sent_for p.new pk
  untagged_after z two = let small : 2 ≤ 3 = omega arith in there ∙ untagged_after_upto p ok few.steps few.most pk z (few.high 2 small two)

  -- at a switch that isn't declared nothing is sent
  pub nothing_there : (In (switches_of p.old) (slice_index pk 0) → ⊥) → (sent_for (tables_after (plan_of p) d) pk ≡ []) × (sent_for p.new pk ≡ [])
  nothing_there n = let none = nothing_sent p ok few.steps few.most pk n in (there ∙ none.0, none.1)

-- a test that each element passes keeps all
kept_all : {X : Type 0} (q : X → Bool) (xs : List X) → ((x : X) → q x ≡ true) → filter q xs ≡ xs
kept_all q [] h = refl
kept_all q (x ∷ xs) h = ap (λ b. cond b (x ∷ filter q xs) (filter q xs)) (h x) ∙ ap (λ l. x ∷ l) (kept_all q xs h)

-- and one that none passes keeps none
all_out : {X : Type 0} (q : X → Bool) (xs : List X) → ((x : X) → q x ≡ false) → filter q xs ≡ []
all_out q [] h = refl
all_out q (x ∷ xs) h = ap (λ b. cond b (x ∷ filter q xs) (filter q xs)) (h x) ∙ all_out q xs h

-- tests that agree keep the same
kept_same : {X : Type 0} (q r : X → Bool) (xs : List X) → ((x : X) → q x ≡ r x) → filter q xs ≡ filter r xs
kept_same q r [] h = refl
kept_same q r (x ∷ xs) h = ap (λ b. cond b (x ∷ filter q xs) (filter q xs)) (h x) ∙ ap (λ l. cond (r x) (x ∷ l) l) (kept_same q r xs h)

-- choices
either_way : (c b : Bool) → (if b then c else c) ≡ c
either_way c true = refl
either_way c false = refl

-- the test itself
by_test : (b : Bool) → (if b then true else false) ≡ b
by_test true = refl
by_test false = refl

-- the four tables of a switch
pub four_tables : (old new : Tables) (f sw : ℕ) → AreFourTables old new f sw (plan_steps_of old new f sw)
four_tables old new f sw =
    let olds = rows_of old.tables sw in
    let news = rows_of new.tables sw in
    let n = length (groups_at_switch old.tables sw) in
    let d = tag_digits old f in
    let on : List Row → List Row = λ l. map (plan_row_on n) l in
    record {
      switch = refl;
      before_rows =
          ap (λ l. l ++ on (filter (new_stands d f 0) news)) (kept_all (old_stands d f 0) olds (λ r. either_way true (is_tagged_row d f r)))
          ∙ ap (λ l. olds ++ on l) (all_out (new_stands d f 0) news (λ r. either_way false (is_tagged_row d f r)))
          ∙ append-nil olds;
      before_groups = append-nil (groups_at_switch old.tables sw);
      added_rows =
          ap (λ l. l ++ on (filter (new_stands d f 1) news)) (kept_all (old_stands d f 1) olds (λ r. either_way true (is_tagged_row d f r)))
          ∙ ap (λ l. olds ++ on l) (kept_same (new_stands d f 1) (is_tagged_row d f) news (λ r. by_test (is_tagged_row d f r)));
      added_groups = refl;
      replaced_rows =
          ap (λ l. l ++ on (filter (new_stands d f 2) news)) (kept_same (old_stands d f 2) (is_tagged_row d f) olds (λ r. by_test (is_tagged_row d f r)))
          ∙ ap (λ l. filter (is_tagged_row d f) olds ++ on l) (kept_all (new_stands d f 2) news (λ r. either_way true (is_tagged_row d f r)));
      replaced_groups = refl;
      removed_rows =
          ap (λ l. l ++ on (filter (new_stands d f 3) news)) (all_out (old_stands d f 3) olds (λ r. either_way false (is_tagged_row d f r)))
          ∙ ap on (kept_all (new_stands d f 3) news (λ r. either_way true (is_tagged_row d f r)));
      removed_groups = refl;
    }
