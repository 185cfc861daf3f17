-- The groups and rows of a table whose rows with their whole bucket lists a text can write.
use Rattle.std.proofs.Common.{◌≡◌, ℕ, suc, ◌+◌, ◌<◌, ◌≤◌, inl, inr, ⊎_elim, Bool, true, false, cond, List, [], ◌∷◌, ◌++◌, length, refl, sym, ap, subst, arith}
use Rattle.std.specs.Prelude.{◌==◌, ◌||◌, All, AllPairs}
use Rattle.std.specs.List.{list_any, position_or_len}
use Rattle.std.proofs.lemmas.List.Kept.{AllPairs-cons}
use Rattle.nk_field.specs.Packet.{FieldTable}
use Rattle.nk_field.proofs.Lists.{In, in_either}
use Rattle.nk_field.proofs.Ascending.{all_from_members}
use Rattle.nk_lex.specs.Lex.{largest}
use Rattle.nk_table.specs.declared.Bucket.{Bucket}
use Rattle.nk_table.specs.declared.Group.{Group}
use Rattle.nk_table.specs.declared.Plain.{Plain}
use Rattle.nk_table.specs.declared.Row.{Row}
use Rattle.nk_table.specs.Buckets.{same_buckets}
use Rattle.nk_table.specs.Rules.{buckets_in, buckets_for}
use Rattle.nk_tabtext.specs.ReadBack.{IsPrintableBucket, IsPrintableGroup, IsPrintableTarget, IsPrintableRow}
use Rattle.nk_group.specs.Groups.{taken, target_in_groups, rows_after, lists_after, numbered, groups_of, AreKept}
use Rattle.nk_group.proofs.Kept.{groups_keep_buckets}
use Rattle.nk_compile_commands.proofs.SoundRows.{IsSoundRow}

-- ---- the lists of the groups

-- a bucket list with a bucket, each of which a text can write
abbrev IsList : FieldTable → List Bucket → Type 0
IsList fields bs = (1 ≤ length bs) × ((b : Bucket) → In bs b → IsPrintableBucket fields b)

abbrev AreLists : FieldTable → List (List Bucket) → Type 0
AreLists fields ls = (l : List Bucket) → In ls l → IsList fields l

-- after one more row
taken_ok :
    (fields : FieldTable) (ls : List (List Bucket)) (bs : List Bucket) → AreLists fields ls
    → ((b : Bucket) → In bs b → IsPrintableBucket fields b) → AreLists fields (taken ls bs)
taken_ok fields ls [] h q l i = h l i
taken_ok fields ls (b ∷ []) h q l i = h l i
taken_ok fields ls (b ∷ c ∷ bs) h q l i = by (list_any (same_buckets (b ∷ c ∷ bs)) ls) i
  where
    by : (t : Bool) → In (cond t ls (ls ++ (b ∷ c ∷ bs) ∷ [])) l → IsList fields l
    by true j = h l j
    by false j =
        ⊎_elim
        (λ r. h l r)
        (λ s. ⊎_elim (λ e. subst (IsList fields) (sym e) (omega arith, q)) (λ n. absurd n) s)
        (in_either ls ((b ∷ c ∷ bs) ∷ []) l j)

-- after all rows
after_ok :
    (fields : FieldTable) (ls : List (List Bucket)) (ps : List Plain) → AreLists fields ls
    → ((r : Plain) → In ps r → IsSoundRow fields r) → AreLists fields (lists_after ls ps)
after_ok fields ls [] h q l i = h l i
after_ok fields ls (p ∷ ps) h q l i =
    after_ok fields (taken ls p.buckets) ps (taken_ok fields ls p.buckets h (q p (inl refl)).buckets) (λ r j. q r (inr j)) l i

-- ---- the groups

-- numbers go on by one
numbers_between :
    (n : ℕ) (ls : List (List Bucket)) (g : Group) → In (numbered n ls) g
    → (n ≤ g.number) × (g.number < n + length ls)
numbers_between n [] g i = absurd i
numbers_between n (l ∷ ls) g i =
    ⊎_elim
    (λ e. subst (λ (z : Group). (n ≤ z.number) × (z.number < n + length (l ∷ ls))) (sym e) (omega arith, omega arith))
    (λ r. let h = numbers_between (n + 1) ls g r in (omega (arith, h.0), omega (arith, h.1)))
    i

-- there is a group for each list
numbered_many : (n : ℕ) (ls : List (List Bucket)) → length (numbered n ls) ≡ length ls
numbered_many n [] = refl
numbered_many n (l ∷ ls) = ap suc (numbered_many (n + 1) ls)

-- each has one of the lists
numbered_lists :
    (fields : FieldTable) (n : ℕ) (ls : List (List Bucket)) → AreLists fields ls → (g : Group)
    → In (numbered n ls) g → IsList fields g.buckets
numbered_lists fields n [] h g i = absurd i
numbered_lists fields n (l ∷ ls) h g i =
    ⊎_elim
    (λ e. subst (λ (z : Group). IsList fields z.buckets) (sym e) (h l (inl refl)))
    (λ r. numbered_lists fields (n + 1) ls (λ m j. h m (inr j)) g r)
    i

abbrev pub Below : Group → Group → Type 0
Below g h = g.number < h.number

-- they ascend
numbered_ascend : (n : ℕ) (ls : List (List Bucket)) → AllPairs Below (numbered n ls)
numbered_ascend n [] = λ i j d lt less. absurd (omega (arith, less))
numbered_ascend n (l ∷ ls) =
    AllPairs-cons Below record { number = n; buckets = l } (numbered (n + 1) ls)
    (all_from_members (Below record { number = n; buckets = l }) (numbered (n + 1) ls) (λ h i. let b = numbers_between (n + 1) ls h i in omega (arith, b.0)))
    (numbered_ascend (n + 1) ls)

-- a number below one more than what is at most another
at_most : (a b c : ℕ) → a < 1 + b → b ≤ c → a ≤ c
at_most a b c lt le = omega (arith, lt, le)

-- each has such buckets, however many groups there are
pub group_buckets_ok :
    (fields : FieldTable) (ps : List Plain) → ((r : Plain) → In ps r → IsSoundRow fields r)
    → (g : Group) → In (groups_of ps) g → All (IsPrintableBucket fields) g.buckets
group_buckets_ok fields ps q g i =
    let list = numbered_lists fields 1 (lists_after [] ps) (after_ok fields [] ps (λ l j. absurd j) q) g i in
    all_from_members (IsPrintableBucket fields) g.buckets list.1

-- the groups of rows, of which there are not more than a text has numbers
pub groups_ok :
    (fields : FieldTable) (ps : List Plain) → ((r : Plain) → In ps r → IsSoundRow fields r)
    → length (groups_of ps) ≤ largest → (g : Group) → In (groups_of ps) g → IsPrintableGroup fields g
groups_ok fields ps q few g i =
    let ls = lists_after [] ps in
    let number = numbers_between 1 ls g i in
    let list = numbered_lists fields 1 ls (after_ok fields [] ps (λ l j. absurd j) q) g i in
    record {
      low = number.0;
      high = at_most g.number (length ls) largest number.1 (subst (λ n. n ≤ largest) (numbered_many 1 ls) few);
      some = list.0;
      buckets = group_buckets_ok fields ps q g i;
    }

pub groups_ascend : (ps : List Plain) → AllPairs Below (groups_of ps)
groups_ascend ps = numbered_ascend 1 (lists_after [] ps)

-- ---- the rows

-- a group that has buckets is there
has_group :
    (gs : List Group) (n : ℕ) (b : Bucket) (bs : List Bucket) → buckets_in gs n ≡ b ∷ bs
    → list_any (λ g. g.number == n) gs ≡ true
has_group [] n b bs e = absurd cc
has_group (g ∷ gs) n b bs e = by (g.number == n) e (λ f. has_group gs n b bs f)
  where
    by :
        (t : Bool) → cond t g.buckets (buckets_in gs n) ≡ b ∷ bs
        → (buckets_in gs n ≡ b ∷ bs → list_any (λ (h : Group). h.number == n) gs ≡ true)
        → (t || list_any (λ (h : Group). h.number == n) gs) ≡ true
    by true e rest = refl
    by false e rest = rest e

target_ok :
    (fields : FieldTable) (gs : List Group) (ls : List (List Bucket)) (bs : List Bucket)
    → buckets_for gs (target_in_groups ls bs) ≡ bs → ((b : Bucket) → In bs b → IsPrintableBucket fields b)
    → IsPrintableTarget fields gs (target_in_groups ls bs)
target_ok fields gs ls [] e q = tt
target_ok fields gs ls (b ∷ []) e q = q b (inl refl)
target_ok fields gs ls (b ∷ c ∷ bs) e q = has_group gs (position_or_len (same_buckets (b ∷ c ∷ bs)) ls + 1) b (c ∷ bs) e

rows_from :
    (fields : FieldTable) (gs : List Group) (ls : List (List Bucket)) (ps : List Plain)
    → AreKept gs ps (rows_after ls ps) → ((p : Plain) → In ps p → IsSoundRow fields p)
    → (r : Row) → In (rows_after ls ps) r → IsPrintableRow fields gs r
rows_from fields gs ls [] k h r i = absurd i
rows_from fields gs ls (p ∷ ps) k h r i =
    ⊎_elim
    (λ e.
    let s = h p (inl refl) in
    subst (IsPrintableRow fields gs) (sym e) record {
      priority = s.priority;
      ascend = s.ascend;
      matches = s.matches;
      target = target_ok fields gs (taken ls p.buckets) p.buckets k.2 s.buckets;
    })
    (λ j. rows_from fields gs (taken ls p.buckets) ps k.3 (λ q m. h q (inr m)) r j)
    i

pub rows_ok :
    (fields : FieldTable) (ps : List Plain) → ((p : Plain) → In ps p → IsSoundRow fields p)
    → (r : Row) → In (rows_after [] ps) r → IsPrintableRow fields (groups_of ps) r
rows_ok fields ps h = rows_from fields (groups_of ps) [] ps (groups_keep_buckets ps) h
