-- What is read as tables of switches keeps the rules of a text.
use Rattle.std.proofs.Common.{◌≡◌, ◌≤◌, ◌<◌, ◌+◌, ℕ, List, [], ◌∷◌, ◌++◌, Bool, true, false, cond, not, length, refl, sym, ap, subst, ◌∙◌, Option, Some, None, map, arith, ◌||◌, inl, inr, ⊎_elim}
use Rattle.std.specs.Prelude.{◌==◌, Ok, Err, ltb, eqb, nat_lt, is_some, unwrap_or, slice_index}
use Rattle.std.specs.List.{list_any, AllByRecursion}
use Rattle.std.specs.Map.{lookup}
use Rattle.std.specs.Ordering.{nat_cmp, match_ordering}
use Rattle.std.specs.declared.cmp.Ordering.{Ordering}
use Rattle.std.specs.declared.cmp.Ordering.TheVariants.{Less, Equal, Greater}
use Rattle.std.specs.declared.result.Result.{Result}
use Rattle.std.specs.BTreeMap.{insert_entry, is_at}
use Rattle.std.proofs.lemmas.Bool.Decides.{nat_tests}
use Rattle.std.proofs.lemmas.List.Elements.{All-nil, All-from_recursion}
use Rattle.nk_field.specs.Packet.{FieldTable, IsFieldTable, IsValue, field_named}
use Rattle.nk_field.specs.Act.{AscendsFrom, lay, act_then}
use Rattle.nk_field.proofs.Thens.{order, then_ascends}
use Rattle.nk_prefix.specs.Prefix.{digits_of}
use Rattle.nk_topo.proofs.Members.{In, InOrder, pairs_from_order, placed_after, placed_front}
use Rattle.nk_table.specs.declared.Table.{Table}
use Rattle.nk_table.specs.declared.Row.{Row}
use Rattle.nk_table.specs.declared.Group.{Group}
use Rattle.nk_table.specs.declared.Bucket.{Bucket}
use Rattle.nk_table.specs.declared.Target.{Target}
use Rattle.nk_table.specs.declared.Target.TheVariants as does
use Rattle.nk_table.specs.declared.Exit.{Exit}
use Rattle.nk_table.specs.declared.Exit.TheVariants as exit
use Rattle.nk_lex.specs.declared.ident.Number.{Number}
use Rattle.nk_lex.specs.Faults.{and_then, first_of}
use Rattle.nk_tabgrammar.specs.declared.written.Pair.{Pair}
use Rattle.nk_tabgrammar.specs.declared.written.WrittenMatch.{WrittenMatch}
use Rattle.nk_tabgrammar.specs.declared.written.Way.{Way}
use Rattle.nk_tabgrammar.specs.declared.written.Way.TheVariants as way
use Rattle.nk_tabgrammar.specs.declared.written.WrittenBucket.{WrittenBucket}
use Rattle.nk_tabgrammar.specs.declared.written.WrittenTarget.{WrittenTarget}
use Rattle.nk_tabgrammar.specs.declared.written.WrittenTarget.TheVariants as target
use Rattle.nk_tabgrammar.specs.declared.written.WrittenRow.{WrittenRow}
use Rattle.nk_tabgrammar.specs.declared.written.WrittenGroup.{WrittenGroup}
use Rattle.nk_tabgrammar.specs.declared.written.WrittenTable.{WrittenTable}
use Rattle.nk_tabgrammar.specs.declared.written.ReadError.{ReadError}
use Rattle.nk_tabgrammar.specs.declared.written.ReadError.TheVariants as error
use Rattle.nk_declare.proofs.Checks.{none_both}
use Rattle.nk_declare.specs.Declarations.{DeclaredValue, is_from}
use Rattle.nk_tabtext.specs.Values.{line_if, line_above, unless_at, pair_read, pairs_read, length_in, length_fault, ones_fault, match_read, placed_match, matches_read, way_read, bucket_with, bucket_read, buckets_read, has_key, group_fault, group_of, group_read, groups_read, target_read, row_with, row_read, rows_read, table_with, table_read, tables_read, empty_table, table_for}
use Rattle.nk_tabtext.specs.InOrder.{MatchesAscend}
use Rattle.nk_tabtext.specs.ReadBack.{IsExit, IsPrintableBucket, IsPrintableGroup, IsPrintableTarget, IsPrintableMatch, IsPrintableRow, IsPrintableTable}
use Rattle.nk_tabtext.proofs.Valued.{above_key, same_test}
use Rattle.nk_declare.proofs.Kept.{both_ok, ok_is, from_low, has_maximum, holds}
use Rattle.nk_tabtext.proofs.HeadKept.{unless_ok, checked_ok, not_wrong, within, neither, IsGroupOfText, IsTableOfText}

-- ---- pairs

-- what holds of the assignments of two acts holds of those of one and then the other
lay_all : (P : ℕ × ℕ → Type 0) (s : ℕ × ℕ) (ss : List (ℕ × ℕ)) (rest : List (ℕ × ℕ) → List (ℕ × ℕ))
    → ((h : List (ℕ × ℕ)) → AllByRecursion P h → AllByRecursion P (rest h)) → P s → AllByRecursion P ss
    → (h : List (ℕ × ℕ)) → AllByRecursion P h → AllByRecursion P (lay s ss rest h)
lay_all P s ss rest ih p all [] b = (p, all)
lay_all P s ss rest ih p all (t ∷ ts) b = by (ltb s.0 t.0) (eqb s.0 t.0) (lay_all P s ss rest ih p all ts b.1)
  where
    by : (x y : Bool) → AllByRecursion P (lay s ss rest ts)
        → AllByRecursion P (cond x (s ∷ rest (t ∷ ts)) (cond y (t ∷ rest ts) (t ∷ lay s ss rest ts)))
    by true y r = (p, ih (t ∷ ts) b)
    by false true r = (b.0, ih ts b.1)
    by false false r = (b.0, r)

then_all : (P : ℕ × ℕ → Type 0) (g h : List (ℕ × ℕ)) → AllByRecursion P g → AllByRecursion P h → AllByRecursion P (act_then g h)
then_all P [] h a b = b
then_all P (s ∷ ss) h a b = lay_all P s ss (act_then ss) (λ k c. then_all P ss k a.1 c) a.0 a.1 h b

-- a pair that is read
pair_kept : (fs : FieldTable) → IsFieldTable fs → (low : ℕ) (before : List (ℕ × ℕ)) (p : Pair) (s : ℕ × ℕ) → pair_read fs low before p ≡ Ok s
    → (low ≤ s.0) × IsValue fs s.0 s.1
pair_kept fs is low before p s e = by (field_named fs p.name.text) refl e
  where
    read : Option ℕ → Result (ℕ × ℕ) ReadError
    read o =
        unless_at
        (first_of
        (first_of (line_if (not (is_from low o)) p.name.line) (line_if (list_any (λ x. x.0 == unwrap_or o 0) before) p.name.line))
        (line_if (nat_lt (slice_index fs.maxima (unwrap_or o 0)) p.number.value) p.number.line))
        (unwrap_or o 0, p.number.value)

    le : (m k : ℕ) → nat_lt m k ≡ false → k ≤ m
    le m k h = grind (arith, nat_tests, h)

    never : ◌≡◌ {A = Result (ℕ × ℕ) ReadError} (Err (error.TableFault p.name.line)) (Ok s) → ⊥
    never h = cc

    by : (o : Option ℕ) → field_named fs p.name.text ≡ o → read o ≡ Ok s → (low ≤ s.0) × IsValue fs s.0 s.1
    by None there h = absurd (never h)
    by (Some f) there h =
        let r = unless_ok _ _ s h in
        let parts = none_both _ _ r.0 in
        let first = none_both _ _ parts.0 in
        subst (λ x. (low ≤ x.0) × IsValue fs x.0 x.1) r.1 (
          from_low low (Some f) f (holds _ (not_wrong _ p.name.line first.0)) refl,
          (has_maximum fs p.name.text f is there, le (slice_index fs.maxima f) p.number.value (not_wrong _ p.number.line parts.1)),
        )

-- pairs that ascend, in range
abbrev ArePairs : FieldTable → ℕ → List (ℕ × ℕ) → Type 0
ArePairs fs low ms = AscendsFrom low ms × AllByRecursion (λ m. IsValue fs m.0 m.1) ms

pairs_kept : (fs : FieldTable) → IsFieldTable fs → (low : ℕ) (before : List (ℕ × ℕ)) (ps : List Pair) (ms : List (ℕ × ℕ)) → ArePairs fs low before
    → pairs_read fs low before ps ≡ Ok ms → ArePairs fs low ms
pairs_kept fs is low before [] ms h e = subst (ArePairs fs low) (ok_is before ms e) h
pairs_kept fs is low before (p ∷ ps) ms h e =
    let step = both_ok (pair_read fs low before p) (λ s. pairs_read fs low (act_then before (s ∷ [])) ps) ms e in
    let s = step.0 in
    let this = pair_kept fs is low before p s step.1 in
    pairs_kept fs is low (act_then before (s ∷ [])) ps ms (
      then_ascends before low (s ∷ []) h.0 (this.0, tt),
      then_all (λ m. IsValue fs m.0 m.1) before (s ∷ []) h.1 (this.1, tt),
    ) step.2

-- ---- matches

-- a length that is written, or all digits
length_kept : (version digits : ℕ) (l : Option Number) → 1 ≤ digits → length_fault version digits l ≡ None
    → (1 ≤ length_in digits l) × (length_in digits l ≤ digits)
length_kept version digits None some e = (some, omega arith)
length_kept version digits (Some l) some e =
    let parts = neither _ _ (neither _ _ (not_wrong _ l.line e)).1 in
    (low l.value parts.0, high digits l.value parts.1)
  where
    low : (n : ℕ) → (n == 0) ≡ false → 1 ≤ n
    low n h = grind (arith, nat_tests, h)

    high : (m n : ℕ) → nat_lt m n ≡ false → n ≤ m
    high m n h = grind (arith, nat_tests, h)

some_digits : (n : ℕ) → 1 ≤ digits_of n
some_digits n = omega arith

-- a match that is read
match_kept : (version : ℕ) (fs : FieldTable) → IsFieldTable fs → (before : List (ℕ × ℕ × ℕ)) (m : WrittenMatch) (s : ℕ × ℕ × ℕ)
    → match_read version fs before m ≡ Ok s → (1 ≤ s.0) × IsPrintableMatch fs s × (list_any (λ x. x.0 == s.0) before ≡ false)
match_kept version fs is before m s e = by (field_named fs m.name.text) refl e
  where
    digits : Option ℕ → ℕ
    digits o = digits_of (slice_index fs.maxima (unwrap_or o 0))

    read : Option ℕ → Result (ℕ × ℕ × ℕ) ReadError
    read o =
        unless_at
        (first_of
        (first_of
        (first_of (line_if (not (is_from 1 o)) m.name.line) (line_if (list_any (λ x. x.0 == unwrap_or o 0) before) m.name.line))
        (line_if (nat_lt (slice_index fs.maxima (unwrap_or o 0)) m.number.value) m.number.line))
        (first_of (length_fault version (digits o) m.length) (ones_fault (digits o) (length_in (digits o) m.length) m.number)))
        (unwrap_or o 0, m.number.value, length_in (digits o) m.length)

    le : (m k : ℕ) → nat_lt m k ≡ false → k ≤ m
    le m k h = grind (arith, nat_tests, h)

    zero : (n : ℕ) → (n == 0) ≡ true → n ≡ 0
    zero n h = grind (arith, nat_tests, h)

    never : ◌≡◌ {A = Result (ℕ × ℕ × ℕ) ReadError} (Err (error.TableFault m.name.line)) (Ok s) → ⊥
    never h = cc

    Kept : ℕ × ℕ × ℕ → Type 0
    Kept x = (1 ≤ x.0) × IsPrintableMatch fs x × (list_any (λ y. y.0 == x.0) before ≡ false)

    by : (o : Option ℕ) → field_named fs m.name.text ≡ o → read o ≡ Ok s → Kept s
    by None there h = absurd (never h)
    by (Some f) there h =
        let r = unless_ok _ _ s h in
        let parts = none_both _ _ r.0 in
        let pair = none_both _ _ parts.0 in
        let name = none_both _ _ pair.0 in
        let last = none_both _ _ parts.1 in
        let d = digits_of (slice_index fs.maxima f) in
        let length = length_kept version d m.length (some_digits (slice_index fs.maxima f)) last.0 in
        subst Kept r.1 (
          from_low 1 (Some f) f (holds _ (not_wrong _ m.name.line name.0)) refl,
          record {
            value = (has_maximum fs m.name.text f is there, le (slice_index fs.maxima f) m.number.value (not_wrong _ m.number.line pair.1));
            some = length.0;
            most = length.1;
            zeros = zero _ (holds _ (not_wrong _ m.number.line last.1));
          },
          not_wrong _ m.name.line name.1,
        )

-- one more match
put_ascends : (P : ℕ × ℕ × ℕ → Type 0) (low : ℕ) (before : List (ℕ × ℕ × ℕ)) (m : ℕ × ℕ × ℕ) → MatchesAscend low before → AllByRecursion P before
    → low ≤ m.0 → list_any (λ x. x.0 == m.0) before ≡ false → P m → MatchesAscend low (placed_match m before) × AllByRecursion P (placed_match m before)
put_ascends P low [] m up all le new p = ((le, tt), (p, tt))
put_ascends P low (x ∷ xs) m up all le new p = by (nat_lt x.0 m.0) refl (λ first n. put_ascends P (x.0 + 1) xs m up.1 all.1 first n p)
  where
    other : list_any (λ y. y.0 == m.0) (x ∷ xs) ≡ false → ((x.0 == m.0) ≡ false) × (list_any (λ y. y.0 == m.0) xs ≡ false)
    other e = neither (x.0 == m.0) (list_any (λ y. y.0 == m.0) xs) e

    less : (a b : ℕ) → nat_lt a b ≡ true → a + 1 ≤ b
    less a b h = grind (arith, nat_tests, h)

    more : (a b : ℕ) → nat_lt a b ≡ false → (a == b) ≡ false → b + 1 ≤ a
    more a b h k = grind (arith, nat_tests, h, k)

    Kept : List (ℕ × ℕ × ℕ) → Type 0
    Kept l = MatchesAscend low l × AllByRecursion P l

    by : (b : Bool) → nat_lt x.0 m.0 ≡ b
        → (x.0 + 1 ≤ m.0 → list_any (λ y. y.0 == m.0) xs ≡ false → MatchesAscend (x.0 + 1) (placed_match m xs) × AllByRecursion P (placed_match m xs))
        → Kept (placed_match m (x ∷ xs))
    by true h go =
        let rest = go (less x.0 m.0 h) (other new).1 in
        subst Kept (sym (placed_after (λ z. nat_lt z.0 m.0) m x xs h)) ((up.0, rest.0), (all.0, rest.1))
    by false h go =
        subst Kept (sym (placed_front (λ z. nat_lt z.0 m.0) m x xs h)) ((le, (more x.0 m.0 h (other new).0, up.1)), (p, all))

-- matches that ascend, each one of the field table
abbrev AreMatches : FieldTable → List (ℕ × ℕ × ℕ) → Type 0
AreMatches fs ms = MatchesAscend 1 ms × AllByRecursion (IsPrintableMatch fs) ms

matches_kept : (version : ℕ) (fs : FieldTable) → IsFieldTable fs → (before : List (ℕ × ℕ × ℕ)) (ps : List WrittenMatch) (ms : List (ℕ × ℕ × ℕ)) → AreMatches fs before
    → matches_read version fs before ps ≡ Ok ms → AreMatches fs ms
matches_kept version fs is before [] ms h e = subst (AreMatches fs) (ok_is before ms e) h
matches_kept version fs is before (p ∷ ps) ms h e =
    let step = both_ok (match_read version fs before p) (λ s. matches_read version fs (placed_match s before) ps) ms e in
    let s = step.0 in
    let this = match_kept version fs is before p s step.1 in
    matches_kept version fs is (placed_match s before) ps ms (put_ascends (IsPrintableMatch fs) 1 before s h.0 h.1 this.0 this.2 this.1) step.2

-- ---- buckets

push_all : {X : Type 0} (P : X → Type 0) (xs : List X) (x : X) → AllByRecursion P xs → P x → AllByRecursion P (xs ++ x ∷ [])
push_all P [] x h p = (p, tt)
push_all P (y ∷ xs) x h p = (h.0, push_all P xs x h.1 p)

exit_kept : (w : Way) (e : Exit) → way_read w ≡ Ok e → IsExit e
exit_kept way.Back e h = subst IsExit (ok_is exit.Back e h) tt
exit_kept (way.Port n) e h = let r = unless_ok (line_above 65535 n) (exit.Port n.value) e h in subst IsExit r.1 (within 65535 n r.0)

module _ (fs : FieldTable) (is : IsFieldTable fs) where
  bucket_kept : (b : WrittenBucket) (x : Bucket) → bucket_read fs b ≡ Ok x → IsPrintableBucket fs x
  bucket_kept b x e =
      let sets = both_ok (pairs_read fs 2 [] b.sets) (λ ss. and_then (way_read b.way) (λ w. Ok (bucket_with ss w))) x e in
      let out = both_ok (way_read b.way) (λ w. Ok (bucket_with sets.0 w)) x sets.2 in
      let pairs : ArePairs fs 2 sets.0 = pairs_kept fs is 2 [] b.sets sets.0 (tt, tt) sets.1 in
      subst (IsPrintableBucket fs) (ok_is (bucket_with sets.0 out.0) x out.2) (record {
        ascend = pairs.0;
        values = All-from_recursion (λ m. IsValue fs m.0 m.1) sets.0 pairs.1;
        exit = exit_kept b.way out.0 out.1;
      })

  -- these buckets and at least as many
  buckets_kept : (before : List Bucket) (bs : List WrittenBucket) (xs : List Bucket) → AllByRecursion (IsPrintableBucket fs) before → 1 ≤ length before
      → buckets_read fs before bs ≡ Ok xs → AllByRecursion (IsPrintableBucket fs) xs × (1 ≤ length xs)
  buckets_kept before [] xs h some e = subst (λ l. AllByRecursion (IsPrintableBucket fs) l × (1 ≤ length l)) (ok_is before xs e) (h, some)
  buckets_kept before (b ∷ bs) xs h some e =
      let step = both_ok (bucket_read fs b) (λ x. buckets_read fs (before ++ x ∷ []) bs) xs e in
      buckets_kept (before ++ step.0 ∷ []) bs xs (push_all (IsPrintableBucket fs) before step.0 h (bucket_kept b step.0 step.1)) (more before step.0) step.2
    where
      more : (l : List Bucket) (x : Bucket) → 1 ≤ length (l ++ x ∷ [])
      more [] x = omega arith
      more (y ∷ l) x = omega arith

-- ---- entries by number

-- keys that ascend from a lower bound on
abbrev KeysRise : {X : Type 0} → ℕ → List (ℕ × X) → Type 0
KeysRise low [] = Unit {0}
KeysRise low (e ∷ es) = (low ≤ e.0) × KeysRise (e.0 + 1) es

less_key : (n k : ℕ) → n < k → nat_cmp n k ≡ Less
less_key n k lt = ap (λ b. cond b Less (cond (n == k) Equal Greater)) (test n k lt)
  where
    test : (n k : ℕ) → n < k → nat_lt n k ≡ true
    test n k lt = grind (arith, nat_tests)

pub equal_key : (n k : ℕ) → n ≡ k → nat_cmp n k ≡ Equal
equal_key n k e = ap (λ b. cond b Less (cond (n == k) Equal Greater)) (test n k e) ∙ ap (λ b. cond b Equal Greater) (same n k e)
  where
    test : (n k : ℕ) → n ≡ k → nat_lt n k ≡ false
    test n k e = grind (arith, nat_tests, e)

    same : (n k : ℕ) → n ≡ k → (n == k) ≡ true
    same n k e = grind (arith, nat_tests, e)

-- one more entry
put_kept : {X : Type 0} (P : ℕ × X → Type 0) (low : ℕ) (es : List (ℕ × X)) (n : ℕ) (x : X) → KeysRise low es → low ≤ n → P (n, x) → AllByRecursion P es
    → KeysRise low (insert_entry nat_cmp es n x) × AllByRecursion P (insert_entry nat_cmp es n x)
put_kept P low [] n x up le p h = ((le, tt), (p, tt))
put_kept {X} P low (e ∷ es) n x up le p h =
    elim (order n e.0) [
      | inl less ↦ subst Kept (sym (ap chosen (less_key n e.0 less))) ((le, (omega (arith, less), up.1)), (p, h))
      | inr (inl same) ↦ subst Kept (sym (ap chosen (equal_key n e.0 same))) ((up.0, up.1), (subst (λ k. P (k, x)) same p, h.1))
      | inr (inr more) ↦
          let rest = put_kept P (e.0 + 1) es n x up.1 (omega (arith, more)) p h.1 in
          subst Kept (sym (ap chosen (above_key n e.0 more))) ((up.0, rest.0), (h.0, rest.1))
    ]
  where
    Kept : List (ℕ × X) → Type 0
    Kept l = KeysRise low l × AllByRecursion P l

    chosen : Ordering → List (ℕ × X)
    chosen o = match_ordering o ((n, x) ∷ e ∷ es) ((e.0, x) ∷ es) (e ∷ insert_entry nat_cmp es n x)

-- ---- groups

-- a group by its number
abbrev IsGroupEntry : FieldTable → ℕ × Group → Type 0
IsGroupEntry fs e = (e.0 ≡ e.1.number) × IsPrintableGroup fs e.1

-- the groups of entries
abbrev groups_in : List (ℕ × Group) → List Group
groups_in es = map (λ e. e.1) es

groups_hold : (fs : FieldTable) (es : List (ℕ × Group)) → AllByRecursion (IsGroupEntry fs) es → AllByRecursion (IsPrintableGroup fs) (groups_in es)
groups_hold fs [] h = tt
groups_hold fs (e ∷ es) h = (h.0.1, groups_hold fs es h.1)

-- they have at least this number
groups_above : (fs : FieldTable) (low : ℕ) (es : List (ℕ × Group)) → KeysRise low es → AllByRecursion (IsGroupEntry fs) es
    → (g : Group) → In (groups_in es) g → low ≤ g.number
groups_above fs low [] up h g i = absurd i
groups_above fs low (e ∷ es) up h g i =
    ⊎_elim
    (λ s. subst (λ x. low ≤ x.number) (sym s) (subst (λ k. low ≤ k) h.0.0 up.0))
    (λ j. let rest = groups_above fs (e.0 + 1) es up.1 h.1 g j in omega (arith, rest, up.0))
    i

groups_rise : (fs : FieldTable) (low : ℕ) (es : List (ℕ × Group)) → KeysRise low es → AllByRecursion (IsGroupEntry fs) es
    → InOrder (λ g k. g.number < k.number) (groups_in es)
groups_rise fs low [] up h = tt
groups_rise fs low (e ∷ es) up h = (
  (λ g i. let line_above = groups_above fs (e.0 + 1) es up.1 h.1 g i in omega (arith, line_above, h.0.0)),
  groups_rise fs (e.0 + 1) es up.1 h.1,
)

-- a key is a group's number
key_there : (fs : FieldTable) (es : List (ℕ × Group)) (n : ℕ) → AllByRecursion (IsGroupEntry fs) es → has_key es n ≡ true
    → list_any (λ g. g.number == n) (groups_in es) ≡ true
key_there fs [] n h e = absurd cc
key_there fs (k ∷ es) n h e = by (k.0 == n) refl (ap (λ b. is_some (cond b (Some k.1) (lookup (is_at (nat_cmp n)) es))) (sym (same_test n k.0)) ∙ e) (key_there fs es n h.1)
  where
    by : (b : Bool) → (k.0 == n) ≡ b → is_some (cond (k.0 == n) (Some k.1) (lookup (is_at (nat_cmp n)) es)) ≡ true
        → (has_key es n ≡ true → list_any (λ g. g.number == n) (groups_in es) ≡ true)
        → ((k.1.number == n) || list_any (λ g. g.number == n) (groups_in es)) ≡ true
    by true s r go = ap (λ m. (m == n) || list_any (λ g. g.number == n) (groups_in es)) (sym h.0.0) ∙ ap (λ b. b || list_any (λ g. g.number == n) (groups_in es)) s
    by false s r go =
        either (k.1.number == n) (list_any (λ g. g.number == n) (groups_in es))
        (go (ap (λ b. is_some (cond b (Some k.1) (lookup (is_at (nat_cmp n)) es))) (sym s) ∙ r))
      where
        either : (a b : Bool) → b ≡ true → (a || b) ≡ true
        either true b e = refl
        either false b e = e

module _ (fs : FieldTable) (is : IsFieldTable fs) where
  group_kept : (before : List (ℕ × Group)) (g : WrittenGroup) (x : Group) → IsGroupOfText g → group_read fs before g ≡ Ok x → IsPrintableGroup fs x
  group_kept before g x small e =
      let r = checked_ok (group_fault before g.number) _ x e in
      let first = both_ok (bucket_read fs g.first) (λ b. and_then (buckets_read fs (b ∷ []) g.more) (λ bs. Ok (group_of g.number bs))) x r.1 in
      let more = both_ok (buckets_read fs (first.0 ∷ []) g.more) (λ bs. Ok (group_of g.number bs)) x first.2 in
      let all = buckets_kept fs is (first.0 ∷ []) g.more more.0 (bucket_kept fs is g.first first.0 first.1, tt) (omega arith) more.1 in
      let fine = neither (g.number.value == 0) (has_key before g.number.value) (not_wrong _ g.number.line r.0) in
      subst (IsPrintableGroup fs) (ok_is (group_of g.number more.0) x more.2) (record {
        low = some g.number.value fine.0;
        high = small;
        some = all.1;
        buckets = All-from_recursion (IsPrintableBucket fs) more.0 all.0;
      })
    where
      some : (n : ℕ) → (n == 0) ≡ false → 1 ≤ n
      some n e = grind (arith, nat_tests, e)

  groups_kept : (before : List (ℕ × Group)) (gs : List WrittenGroup) (es : List (ℕ × Group)) → AllByRecursion IsGroupOfText gs
      → KeysRise 0 before → AllByRecursion (IsGroupEntry fs) before → groups_read fs before gs ≡ Ok es → KeysRise 0 es × AllByRecursion (IsGroupEntry fs) es
  groups_kept before [] es small up h e =
      subst (λ l. KeysRise 0 l × AllByRecursion (IsGroupEntry fs) l) (ok_is before es e) (up, h)
  groups_kept before (g ∷ gs) es small up h e =
      let step = both_ok (group_read fs before g) (λ x. groups_read fs (insert_entry nat_cmp before x.number x) gs) es e in
      let x = step.0 in
      let put = put_kept (IsGroupEntry fs) 0 before x.number x up (omega arith) (refl, group_kept before g x small.0 step.1) h in
      groups_kept (insert_entry nat_cmp before x.number x) gs es small.1 put.0 put.1 step.2

  -- ---- rows

  target_kept : (es : List (ℕ × Group)) (t : WrittenTarget) (x : Target) → AllByRecursion (IsGroupEntry fs) es → target_read fs es t ≡ Ok x
      → IsPrintableTarget fs (groups_in es) x
  target_kept es (target.Bucket b) x h e =
      let r = both_ok (bucket_read fs b) (λ y. Ok (does.Bucket y)) x e in
      subst (IsPrintableTarget fs (groups_in es)) (ok_is (does.Bucket r.0) x r.2) (bucket_kept fs is b r.0 r.1)
  target_kept es (target.Group n) x h e =
      let r = unless_ok (line_if (not (has_key es n.value)) n.line) (does.Group n.value) x e in
      subst (IsPrintableTarget fs (groups_in es)) r.1 (key_there fs es n.value h (holds _ (not_wrong _ n.line r.0)))
  target_kept es target.Discard x h e = subst (IsPrintableTarget fs (groups_in es)) (ok_is does.Discard x e) tt

  row_kept : (version : ℕ) (es : List (ℕ × Group)) (r : WrittenRow) (x : Row) → AllByRecursion (IsGroupEntry fs) es → row_read version fs es r ≡ Ok x
      → IsPrintableRow fs (groups_in es) x
  row_kept version es r x h e =
      let q = checked_ok (line_above 65535 r.priority) _ x e in
      let ms = both_ok (matches_read version fs [] r.matches) (λ m. and_then (target_read fs es r.target) (λ t. Ok (row_with r.priority m t))) x q.1 in
      let to = both_ok (target_read fs es r.target) (λ t. Ok (row_with r.priority ms.0 t)) x ms.2 in
      let all : AreMatches fs ms.0 = matches_kept version fs is [] r.matches ms.0 (tt, tt) ms.1 in
      subst (IsPrintableRow fs (groups_in es)) (ok_is (row_with r.priority ms.0 to.0) x to.2) (record {
        priority = within 65535 r.priority q.0;
        ascend = all.0;
        matches = All-from_recursion (IsPrintableMatch fs) ms.0 all.1;
        target = target_kept es r.target to.0 h to.1;
      })

  rows_kept : (version : ℕ) (es : List (ℕ × Group)) (before : List Row) (rs : List WrittenRow) (xs : List Row) → AllByRecursion (IsGroupEntry fs) es
      → AllByRecursion (IsPrintableRow fs (groups_in es)) before → rows_read version fs es before rs ≡ Ok xs → AllByRecursion (IsPrintableRow fs (groups_in es)) xs
  rows_kept version es before [] xs h all e = subst (AllByRecursion (IsPrintableRow fs (groups_in es))) (ok_is before xs e) all
  rows_kept version es before (r ∷ rs) xs h all e =
      let step = both_ok (row_read version fs es r) (λ x. rows_read version fs es (before ++ x ∷ []) rs) xs e in
      rows_kept version es (before ++ step.0 ∷ []) rs xs h (push_all (IsPrintableRow fs (groups_in es)) before step.0 all (row_kept version es r step.0 h step.1)) step.2

-- ---- tables

-- a table by its switch
abbrev pub IsTableEntry : FieldTable → ℕ × Table → Type 0
IsTableEntry fs e = (e.0 ≡ e.1.switch) × IsPrintableTable fs e.1

table_kept : (version : ℕ) (s : DeclaredValue) → IsFieldTable s.fields → (before : List (ℕ × Table)) (t : WrittenTable) (x : Table) → IsTableOfText t
    → table_read version s before t ≡ Ok x → IsPrintableTable s.fields x
table_kept version s is before t x small e =
    let r = checked_ok _ _ x e in
    let gs = both_ok (groups_read s.fields [] t.groups) (λ es. and_then (rows_read version s.fields es [] t.rows) (λ ws. Ok (table_with t.switch es ws))) x r.1 in
    let ws = both_ok (rows_read version s.fields gs.0 [] t.rows) (λ rs. Ok (table_with t.switch gs.0 rs)) x gs.2 in
    let groups = groups_kept s.fields is [] t.groups gs.0 small tt tt gs.1 in
    let rows = rows_kept s.fields is version gs.0 [] t.rows ws.0 groups.1 tt ws.1 in
    subst (IsPrintableTable s.fields) (ok_is (table_with t.switch gs.0 ws.0) x ws.2) (record {
      groups = All-from_recursion (IsPrintableGroup s.fields) (groups_in gs.0) (groups_hold s.fields gs.0 groups.1);
      ascend = pairs_from_order (λ g k. g.number < k.number) (groups_in gs.0) (groups_rise s.fields 0 gs.0 groups.0 groups.1);
      rows = All-from_recursion (IsPrintableRow s.fields (groups_in gs.0)) ws.0 rows;
    })

pub tables_kept : (version : ℕ) (s : DeclaredValue) → IsFieldTable s.fields → (before : List (ℕ × Table)) (ts : List WrittenTable) (es : List (ℕ × Table)) → AllByRecursion IsTableOfText ts
    → KeysRise 0 before → AllByRecursion (IsTableEntry s.fields) before → tables_read version s before ts ≡ Ok es → AllByRecursion (IsTableEntry s.fields) es
tables_kept version s is before [] es small up h e = subst (AllByRecursion (IsTableEntry s.fields)) (ok_is before es e) h
tables_kept version s is before (t ∷ ts) es small up h e =
    let step = both_ok (table_read version s before t) (λ x. tables_read version s (insert_entry nat_cmp before x.switch x) ts) es e in
    let x = step.0 in
    let put = put_kept (IsTableEntry s.fields) 0 before x.switch x up (omega arith) (refl, table_kept version s is before t x small.0 step.1) h in
    tables_kept version s is (insert_entry nat_cmp before x.switch x) ts es small.1 put.0 put.1 step.2

-- the table of a switch
table_found : (fs : FieldTable) (es : List (ℕ × Table)) (sw : ℕ) → AllByRecursion (IsTableEntry fs) es
    → ((table_for es sw).switch ≡ sw) × IsPrintableTable fs (table_for es sw)
table_found fs [] sw h = (
  refl,
  record {
    groups = All-nil (IsPrintableGroup fs);
    ascend = pairs_from_order (λ g k. g.number < k.number) [] tt;
    rows = All-nil (IsPrintableRow fs []);
  },
)
table_found fs (e ∷ es) sw h =
    subst Found (sym (ap chosen (same_test sw e.0))) (by (e.0 == sw) refl (table_found fs es sw h.1))
  where
    Found : Table → Type 0
    Found t = (t.switch ≡ sw) × IsPrintableTable fs t

    chosen : Bool → Table
    chosen b = unwrap_or (cond b (Some e.1) (lookup (is_at (nat_cmp sw)) es)) (empty_table sw)

    same : (m n : ℕ) → (m == n) ≡ true → m ≡ n
    same m n e = grind (arith, nat_tests, e)

    by : (b : Bool) → (e.0 == sw) ≡ b → Found (table_for es sw) → Found (chosen b)
    by true s r = (sym h.0.0 ∙ same e.0 sw s, h.0.1)
    by false s r = r

pub each_kept : (fs : FieldTable) (es : List (ℕ × Table)) (ns : List ℕ) → AllByRecursion (IsTableEntry fs) es
    → (map (λ t. t.switch) (map (table_for es) ns) ≡ ns) × AllByRecursion (IsPrintableTable fs) (map (table_for es) ns)
each_kept fs es [] h = (refl, tt)
each_kept fs es (n ∷ ns) h =
    let this = table_found fs es n h in
    let rest = each_kept fs es ns h in
    (ap (λ m. m ∷ map (λ t. t.switch) (map (table_for es) ns)) this.0 ∙ ap (λ l. n ∷ l) rest.0, (this.1, rest.1))
