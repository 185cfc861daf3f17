-- What the rows and groups of a printed table are: each row matches the tag exactly, groups are numbered from 1 in order, and
-- rows name none but these.
use Rattle.std.proofs.Common.{◌≡◌, ◌≢◌, ℕ, suc, ◌+◌, ◌<◌, ◌≤◌, Bool, true, false, cond, inl, inr, ⊎_elim, Some, None, List, [], ◌∷◌, length, refl, sym, ap, subst, ◌∙◌, arith}
use Rattle.std.specs.Prelude.{◌==◌, ◌&&◌, ◌||◌, not, nat_le, nat_lt, if◌then◌else◌, map, filter, slice_index}
use Rattle.std.specs.List.{flat_map, position_or_len, AllByRecursion}
use Rattle.std.proofs.lemmas.Bool.Decides.{nat_tests}
use Rattle.nk_field.proofs.Lists.{In, from_mapped}
use Rattle.nk_prefix.specs.Prefix.{digits_of}
use Rattle.nk_prefix.specs.Blocks.{blocks_of}
use Rattle.nk_store.specs.Diagram.{Branches, leaf, case, no_branch, branch, IsFreeOf, AreFreeOf}
use Rattle.nk_store.specs.Intervals.{same_tree}
use Rattle.nk_table.specs.declared.Bucket.{Bucket}
use Rattle.nk_table.specs.declared.Plain.{Plain}
use Rattle.nk_table.specs.declared.Row.{Row}
use Rattle.nk_table.specs.Buckets.{same_buckets}
use Rattle.nk_table.specs.Rules.{buckets_in, buckets_for}
use Rattle.nk_extract.specs.RuleTree.{Path, PathInterval, is_drop_list, is_drop_leaf, with_match, block_paths, paths_of, path_intervals, put_match, plain_row, rows_for}
use Rattle.nk_extract.proofs.Highest.{other_of}
use Rattle.nk_extract.proofs.Lists.{every_weaker, every_append, every_map, every_flat_map, every_true, every_in, in_filter}
use Rattle.nk_extract.proofs.Trees.{Tree, with_most_has}
use Rattle.nk_group.specs.Groups.{taken, target_in_groups, rows_after, lists_after, numbered, groups_of, AreKept}
use Rattle.nk_group.proofs.Kept.{groups_keep_buckets}
use Rattle.nk_update.specs.Plans.{asked_of, NamesOneOf, AreNumberedFrom}
use Rattle.nk_compile.proofs.BucketResults.{same_number, other_number}

-- ---- the value of the tag

-- no match is of the field
abbrev pub AreOff : ℕ → List (ℕ × ℕ × ℕ) → Type 0
AreOff tag ms = AllByRecursion (λ m. m.0 ≢ tag) ms

module _ (maxima : List ℕ) (tag : ℕ) where
  abbrev Off : Path → Type 0
  Off p = AreOff tag p.matches

  abbrev EachOff : PathInterval → Type 0
  EachOff i = AllByRecursion Off i.made

  -- the ways at a node that tests another field
  node_off : (g : ℕ) (bs : Branches (List Bucket)) → g ≢ tag → AllByRecursion EachOff (path_intervals maxima bs 0) → AllByRecursion Off (paths_of maxima (case g bs))
  node_off g no_branch ne e = tt
  node_off g (branch end d bs) ne e =
      let max = slice_index maxima g in
      let other = other_of maxima bs end d in
      let all = path_intervals maxima (branch end d bs) 0 in
      let by : (i : PathInterval) (t : Bool) → EachOff i → AllByRecursion Off (cond t [] (flat_map (λ b. map (with_match g (is_drop_leaf other.child) b) i.made) (blocks_of i.first i.last max))) =
      λ i t later. elim t as (λ z. AllByRecursion Off (cond z [] (flat_map (λ b. map (with_match g (is_drop_leaf other.child) b) i.made) (blocks_of i.first i.last max)))) [
        | true ↦ tt
        | false ↦ every_flat_map (λ b. Unit {0}) Off (λ b. map (with_match g (is_drop_leaf other.child) b) i.made) (blocks_of i.first i.last max)
            (λ b u. every_map Off (with_match g (is_drop_leaf other.child) b) i.made (every_weaker Off (λ p. Off (with_match g (is_drop_leaf other.child) b p)) i.made (λ p k. (ne, k)) later))
            (every_true (λ b. Unit {0}) (blocks_of i.first i.last max) (λ b. tt))
      ] in
      every_append Off (flat_map (block_paths max g other) all) other.made
      (every_flat_map EachOff Off (block_paths max g other) all (λ i k. by i (same_tree other.child same_buckets i.child) k) e)
      (with_most_has EachOff all record { first = 0; last = end; child = d; made = paths_of maxima d } (path_intervals maxima bs (end + 1)) e.0 e.1)

  mutual
    -- a way through a tree that doesn't test the field matches others
    ways_off : (d : Tree) → IsFreeOf tag d → AllByRecursion Off (paths_of maxima d)
    ways_off (leaf bs) free = (tt, tt)
    ways_off (case g bs) free = node_off g bs free.0 (all_off bs 0 free.1)

    -- likewise of each branch
    all_off : (bs : Branches (List Bucket)) (from : ℕ) → AreFreeOf tag bs → AllByRecursion EachOff (path_intervals maxima bs from)
    all_off no_branch from free = tt
    all_off (branch end d bs) from free = (ways_off d free.0, all_off bs (end + 1) free.1)

-- at most itself
le_self : (n : ℕ) → nat_le n n ≡ true
le_self n = grind (arith, nat_tests)

-- what is put in among matches of other fields is asked for
asked_put : (digits f v : ℕ) (ms : List (ℕ × ℕ × ℕ)) → AreOff f ms → asked_of digits f (put_match (f, v, digits) ms) ≡ Some v
asked_put digits f v [] off =
    ap (λ b. if b && nat_le digits digits then Some v else None) (same_number f f refl) ∙ ap (λ b. if b then Some v else None) (le_self digits)
asked_put digits f v (m ∷ ms) off = by (nat_lt f m.0) (asked_put digits f v ms off.1)
  where
    by :
        (b : Bool) → asked_of digits f (put_match (f, v, digits) ms) ≡ Some v
        → asked_of digits f (cond b ((f, v, digits) ∷ m ∷ ms) (m ∷ put_match (f, v, digits) ms)) ≡ Some v
    by true e =
        ap (λ b. if b && nat_le digits digits then Some v else asked_of digits f (m ∷ ms)) (same_number f f refl)
        ∙ ap (λ b. if b then Some v else asked_of digits f (m ∷ ms)) (le_self digits)
    by false e =
        ap (λ b. if b && nat_le digits m.2 then Some m.1 else asked_of digits f (put_match (f, v, digits) ms)) (other_number m.0 f off.0) ∙ e

-- a row with its whole bucket list matches its tag exactly
pub plain_asks :
    (maxima : List ℕ) (tag t : ℕ) (d : Tree) → IsFreeOf tag d → (r : Plain) → In (rows_for maxima tag t d) r
    → asked_of (digits_of (slice_index maxima tag)) tag r.matches ≡ Some t
plain_asks maxima tag t d free r i =
    let printed : Path → Bool = λ q. not (is_drop_list q.buckets) || q.shown in
    let q = from_mapped (plain_row maxima tag t) (filter printed (paths_of maxima d)) r i in
    let j = (in_filter printed (paths_of maxima d) q.0 q.1).0 in
    ap (λ (z : Plain). asked_of (digits_of (slice_index maxima tag)) tag z.matches) q.2
    ∙ asked_put (digits_of (slice_index maxima tag)) tag t q.0.matches (every_in (λ (w : Path). AreOff tag w.matches) (paths_of maxima d) q.0 (ways_off maxima tag d free) j)

-- each row has the matches of one with its whole bucket list
pub plain_of : (ls : List (List Bucket)) (ps : List Plain) (r : Row) → In (rows_after ls ps) r → (p : Plain) × In ps p × (r.matches ≡ p.matches)
plain_of ls [] r i = absurd i
plain_of ls (p ∷ ps) r i =
    ⊎_elim
    (λ e. (p, inl refl, ap (λ (z : Row). z.matches) e))
    (λ j. let k = plain_of (taken ls p.buckets) ps r j in (k.0, inr k.1, k.2))
    i

-- ---- the numbers of groups

-- groups are numbered in order
numbered_in_order : (n : ℕ) (ls : List (List Bucket)) → AreNumberedFrom n (numbered n ls)
numbered_in_order n [] = tt
numbered_in_order n (l ∷ ls) = (refl, numbered_in_order (n + 1) ls)

pub groups_in_order : (ps : List Plain) → AreNumberedFrom 1 (groups_of ps)
groups_in_order ps = numbered_in_order 1 (lists_after [] ps)

-- equal numbers, from the test
same_from : (m n : ℕ) → m == n ≡ true → m ≡ n
same_from m n h = grind (arith, nat_tests, h)

-- a group that has buckets is one of them
in_range :
    (m : ℕ) (ls : List (List Bucket)) (n : ℕ) (b : Bucket) (bs : List Bucket) → buckets_in (numbered m ls) n ≡ b ∷ bs
    → (m ≤ n) × (n < m + length (numbered m ls))
in_range m [] n b bs e = absurd cc
in_range m (l ∷ ls) n b bs e = by (m == n) refl e (λ f. in_range (m + 1) ls n b bs f)
  where
    by :
        (t : Bool) → m == n ≡ t → cond t l (buckets_in (numbered (m + 1) ls) n) ≡ b ∷ bs
        → (buckets_in (numbered (m + 1) ls) n ≡ b ∷ bs → (m + 1 ≤ n) × (n < (m + 1) + length (numbered (m + 1) ls)))
        → (m ≤ n) × (n < m + suc (length (numbered (m + 1) ls)))
    by true s e rest = let is : m ≡ n = same_from m n s in (omega (arith, is), omega (arith, is))
    by false s e rest = let r = rest e in let low = r.0 in let high = r.1 in (omega (arith, low), omega (arith, high))

-- a row's target names one of them
target_in :
    (all ls : List (List Bucket)) (bs : List Bucket) → buckets_for (numbered 1 all) (target_in_groups ls bs) ≡ bs
    → NamesOneOf (length (numbered 1 all)) (target_in_groups ls bs)
target_in all ls [] e = tt
target_in all ls (b ∷ []) e = tt
target_in all ls (b ∷ c ∷ bs) e =
    let r = in_range 1 all (position_or_len (same_buckets (b ∷ c ∷ bs)) ls + 1) b (c ∷ bs) e in
    let high = r.1 in
    (r.0, omega (arith, high))

-- so do the targets of all rows
targets_in :
    (all ls : List (List Bucket)) (ps : List Plain) → AreKept (numbered 1 all) ps (rows_after ls ps) → (r : Row)
    → In (rows_after ls ps) r → NamesOneOf (length (numbered 1 all)) r.target
targets_in all ls [] k r i = absurd i
targets_in all ls (p ∷ ps) k r i =
    ⊎_elim
    (λ e. subst (λ (z : Row). NamesOneOf (length (numbered 1 all)) z.target) (sym e) (target_in all (taken ls p.buckets) p.buckets k.2))
    (λ j. targets_in all (taken ls p.buckets) ps k.3 r j)
    i

pub rows_name_groups : (ps : List Plain) (r : Row) → In (rows_after [] ps) r → NamesOneOf (length (groups_of ps)) r.target
rows_name_groups ps r i = targets_in (lists_after [] ps) [] ps (groups_keep_buckets ps) r i
