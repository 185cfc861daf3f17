-- The ways through a tree that a packet meets: what a node makes of those of its children.
use Rattle.std.proofs.Common.{◌≡◌, ℕ, ◌+◌, ◌<◌, ◌≤◌, Bool, true, false, cond, ◌⊎◌, inl, inr, ⊎_elim, List, [], ◌∷◌, ◌++◌, refl, sym, ap, subst, ◌∙◌, arith, append-nil}
use Rattle.std.specs.Prelude.{◌&&◌, ◌||◌, not, map, filter, slice_index, count_by, nat_le}
use Rattle.std.specs.List.{flat_map}
use Rattle.std.proofs.lemmas.Bool.Decides.{nat_tests}
use Rattle.std.proofs.lemmas.List.Sums.{sum_by-cons}
use Rattle.nk_field.proofs.Lists.{In, contains_from_in}
use Rattle.nk_prefix.specs.Blocks.{blocks_of, is_in_block}
use Rattle.nk_prefix.proofs.Covers.{counted_once, in_interval}
use Rattle.nk_store.specs.Diagram.{Branches, no_branch, branch}
use Rattle.nk_store.specs.Intervals.{same_tree}
use Rattle.nk_table.specs.declared.Bucket.{Bucket}
use Rattle.nk_table.specs.Buckets.{same_buckets}
use Rattle.nk_extract.specs.RuleTree.{Path, PathInterval, is_drop_list, is_drop_leaf, with_match, block_paths, paths_of, path_intervals}
use Rattle.nk_extract.specs.Chosen.{agrees_with}
use Rattle.nk_extract.proofs.Lists.{filter_same, filter_none, filter_map_is, filter_append_is}
use Rattle.nk_extract.proofs.Bits.{one_if}
use Rattle.nk_extract.proofs.Trees.{Tree, Rising, rising_end, begins_after, ends_before}

-- the packet goes this way
abbrev pub goes : (maxima pk : List ℕ) → Path → Bool
goes maxima pk p = agrees_with maxima pk p.matches

abbrev pub is_printed : Path → Bool
is_printed p = not (is_drop_list p.buckets) || p.shown

-- the ways that the packet goes and that are printed, all of them where e holds
abbrev pub met : (maxima pk : List ℕ) → Bool → List Path → List Path
met maxima pk e ps = filter (λ p. goes maxima pk p && (is_printed p || e)) ps

-- a way is printed by its own flag or by that of the ways before
pub flags : (a drops s e : Bool) → (a || (not drops || s)) || e ≡ (a || s) || (not drops || e)
flags true drops s e = refl
flags false true s e = refl
flags false false true e = refl
flags false false false e = refl

-- a count of blocks, one block on
counts_block :
    (test : ℕ × ℕ → Bool) (b : ℕ × ℕ) (bs : List (ℕ × ℕ))
    → count_by test (b ∷ bs) ≡ one_if (test b) + count_by test bs
counts_block test b bs = sum_by-cons (λ z. one_if (test z)) b bs

-- a block that passes is counted
counted_block :
    (test : ℕ × ℕ → Bool) (bs : List (ℕ × ℕ)) (b : ℕ × ℕ) → In bs b → test b ≡ true → 1 ≤ count_by test bs
counted_block test [] b i t = absurd i
counted_block test (c ∷ cs) b i t =
    ⊎_elim
    (λ s. let one : one_if (test c) ≡ 1 = ap one_if (ap test (sym s) ∙ t) in omega (arith, counts_block test c cs, one))
    (λ r. omega (arith, counts_block test c cs, counted_block test cs b r t))
    i

module _ (maxima pk : List ℕ) (e : Bool) (f : ℕ) (drops : Bool) where
  -- whether a block has the packet's value
  abbrev has : ℕ × ℕ → Bool
  has b = is_in_block (slice_index maxima f) (slice_index pk f) b

  -- ways with one more block matched, which has the packet's value
  block_same :
      (b : ℕ × ℕ) (ps : List Path) → has b ≡ true
      → met maxima pk e (map (with_match f drops b) ps) ≡ map (with_match f drops b) (met maxima pk (not drops || e) ps)
  block_same b ps h =
      filter_map_is (λ p. goes maxima pk p && (is_printed p || e)) (with_match f drops b) ps
      ∙ ap (map (with_match f drops b)) (filter_same _ (λ p. goes maxima pk p && (is_printed p || (not drops || e))) ps (λ q. ap (λ t. (t && goes maxima pk q) && (is_printed (with_match f drops b q) || e)) h ∙ ap (λ t. goes maxima pk q && t) (flags (not (is_drop_list q.buckets)) drops q.shown e)))

  -- ways of another block are not met
  block_other :
      (b : ℕ × ℕ) (ps : List Path) → has b ≡ false → met maxima pk e (map (with_match f drops b) ps) ≡ []
  block_other b ps h =
      filter_map_is (λ p. goes maxima pk p && (is_printed p || e)) (with_match f drops b) ps
      ∙ ap (map (with_match f drops b)) (filter_none _ ps (λ q i. ap (λ t. (t && goes maxima pk q) && (is_printed (with_match f drops b q) || e)) h))

  -- ways of blocks, one block on
  met_on :
      (b : ℕ × ℕ) (bs : List (ℕ × ℕ)) (ps : List Path)
      → met maxima pk e (flat_map (λ c. map (with_match f drops c) ps) (b ∷ bs)) ≡ met maxima pk e (map (with_match f drops b) ps) ++ met maxima pk e (flat_map (λ c. map (with_match f drops c) ps) bs)
  met_on b bs ps =
      filter_append_is (λ p. goes maxima pk p && (is_printed p || e)) (map (with_match f drops b) ps) (flat_map (λ c. map (with_match f drops c) ps) bs)

  -- a value in no block is met nowhere
  in_none :
      (ps : List Path) (bs : List (ℕ × ℕ)) → count_by has bs ≡ 0
      → met maxima pk e (flat_map (λ b. map (with_match f drops b) ps) bs) ≡ []
  in_none ps [] n = refl
  in_none ps (b ∷ bs) n =
      met_on b bs ps
      ∙ ap (λ l. l ++ met maxima pk e (flat_map (λ c. map (with_match f drops c) ps) bs)) (block_other b ps (by (has b) refl))
      ∙ in_none ps bs (omega (arith, counts_block has b bs, n))
    where
      by : (t : Bool) → has b ≡ t → t ≡ false
      by true h = let one : one_if (has b) ≡ 1 = ap one_if h in absurd (omega (arith, counts_block has b bs, n, one))
      by false h = refl

  -- a value in one block is met there
  in_one :
      (ps : List Path) (bs : List (ℕ × ℕ)) (b : ℕ × ℕ) → count_by has bs ≡ 1 → In bs b → has b ≡ true
      → met maxima pk e (flat_map (λ c. map (with_match f drops c) ps) bs) ≡ map (with_match f drops b) (met maxima pk (not drops || e) ps)
  in_one ps [] b n i h = absurd i
  in_one ps (c ∷ cs) b n i h =
      met_on c cs ps
      ∙ ⊎_elim
      (λ s.
      let here : has c ≡ true = ap has (sym s) ∙ h in
      let one : one_if (has c) ≡ 1 = ap one_if here in
      ap (λ l. met maxima pk e (map (with_match f drops c) ps) ++ l) (in_none ps cs (omega (arith, counts_block has c cs, n, one)))
      ∙ append-nil _
      ∙ block_same c ps here
      ∙ ap (λ z. map (with_match f drops z) (met maxima pk (not drops || e) ps)) (sym s))
      (λ r.
      let more = counted_block has cs b r h in
      let none : has c ≡ false = by (has c) refl more in
      let zero : one_if (has c) ≡ 0 = ap one_if none in
      ap (λ l. l ++ met maxima pk e (flat_map (λ z. map (with_match f drops z) ps) cs)) (block_other c ps none)
      ∙ in_one ps cs b (omega (arith, counts_block has c cs, n, zero)) r h)
      i
    where
      by : (t : Bool) → has c ≡ t → 1 ≤ count_by has cs → t ≡ false
      by true k more = let one : one_if (has c) ≡ 1 = ap one_if k in absurd (omega (arith, counts_block has c cs, n, one, more))
      by false k more = refl

-- what a block of a node gives the packet, which has a value in it and the child there
abbrev pub block_met : (maxima pk : List ℕ) → Bool → ℕ → Tree → ℕ × ℕ → Tree → List Path
block_met maxima pk e f other b c =
    cond (same_tree other same_buckets c) [] (map (with_match f (is_drop_leaf other) b) (met maxima pk (not (is_drop_leaf other) || e) (paths_of maxima c)))

-- a value outside an interval isn't counted
outside : (lo hi v : ℕ) → (v < lo) ⊎ (hi < v) → one_if (nat_le lo v && nat_le v hi) ≡ 0
outside lo hi v h = ⊎_elim (λ a. grind (arith, nat_tests, a)) (λ b. grind (arith, nat_tests, b)) h

-- one inside is
inside : (lo hi v : ℕ) → lo ≤ v → v ≤ hi → one_if (nat_le lo v && nat_le v hi) ≡ 1
inside lo hi v a b = grind (arith, nat_tests, a, b)

module _ (maxima pk : List ℕ) (e : Bool) (f : ℕ) (other : PathInterval) (within : slice_index pk f ≤ slice_index maxima f) where
  abbrev max : ℕ
  max = slice_index maxima f

  -- an interval without the packet's value is not met
  interval_out :
      (i : PathInterval) → i.last ≤ max → (slice_index pk f < i.first) ⊎ (i.last < slice_index pk f)
      → met maxima pk e (block_paths max f other i) ≡ []
  interval_out i o h = by (same_tree other.child same_buckets i.child)
    where
      by :
          (t : Bool)
          → met maxima pk e (cond t [] (flat_map (λ b. map (with_match f (is_drop_leaf other.child) b) i.made) (blocks_of i.first i.last max))) ≡ []
      by true = refl
      by false =
          in_none maxima pk e f (is_drop_leaf other.child) i.made (blocks_of i.first i.last max)
          (counted_once i.first i.last max (slice_index pk f) o within ∙ outside i.first i.last (slice_index pk f) h)

  -- in the interval with it the ways of its child are met, after the block with it
  interval_in :
      (i : PathInterval) (b : ℕ × ℕ) → i.last ≤ max → In (blocks_of i.first i.last max) b
      → is_in_block max (slice_index pk f) b ≡ true → i.made ≡ paths_of maxima i.child
      → met maxima pk e (block_paths max f other i) ≡ block_met maxima pk e f other.child b i.child
  interval_in i b o among h m = by (same_tree other.child same_buckets i.child)
    where
      by :
          (t : Bool)
          → met maxima pk e (cond t [] (flat_map (λ c. map (with_match f (is_drop_leaf other.child) c) i.made) (blocks_of i.first i.last max))) ≡ cond t [] (map (with_match f (is_drop_leaf other.child) b) (met maxima pk (not (is_drop_leaf other.child) || e) (paths_of maxima i.child)))
      by true = refl
      by false =
          let lies = in_interval i.first i.last max (slice_index pk f) b o within (contains_from_in (blocks_of i.first i.last max) b among) h in
          in_one maxima pk e f (is_drop_leaf other.child) i.made (blocks_of i.first i.last max) b
          (counted_once i.first i.last max (slice_index pk f) o within ∙ inside i.first i.last (slice_index pk f) lies.0 lies.1)
          among h
          ∙ ap (λ ps. map (with_match f (is_drop_leaf other.child) b) (met maxima pk (not (is_drop_leaf other.child) || e) ps)) m

  -- ways of intervals, one interval on
  met_next :
      (i : PathInterval) (is : List PathInterval)
      → met maxima pk e (flat_map (block_paths max f other) (i ∷ is)) ≡ met maxima pk e (block_paths max f other i) ++ met maxima pk e (flat_map (block_paths max f other) is)
  met_next i is =
      filter_append_is (λ p. goes maxima pk p && (is_printed p || e)) (block_paths max f other i) (flat_map (block_paths max f other) is)

  -- nothing is met in intervals after the value
  blocks_before :
      (bs : Branches (List Bucket)) (from : ℕ) → slice_index pk f < from → Rising max from bs
      → met maxima pk e (flat_map (block_paths max f other) (path_intervals maxima bs from)) ≡ []
  blocks_before no_branch from h r = refl
  blocks_before (branch end d bs) from h r =
      let i : PathInterval = record { first = from; last = end; child = d; made = paths_of maxima d } in
      met_next i (path_intervals maxima bs (end + 1))
      ∙ ap (λ l. l ++ met maxima pk e (flat_map (block_paths max f other) (path_intervals maxima bs (end + 1)))) (interval_out i (omega (arith, rising_end max (end + 1) bs r.1)) (inl h))
      ∙ blocks_before bs (end + 1) (omega (arith, h, r.0)) r.1

  -- of the blocks' ways those of the one with the packet's value are met, whose child is that of its interval
  pub block_at :
      (bs : Branches (List Bucket)) (from : ℕ) → Rising max from bs → (i : PathInterval)
      → In (path_intervals maxima bs from) i → (b : ℕ × ℕ) → In (blocks_of i.first i.last max) b
      → is_in_block max (slice_index pk f) b ≡ true
      → met maxima pk e (flat_map (block_paths max f other) (path_intervals maxima bs from)) ≡ block_met maxima pk e f other.child b i.child
  block_at no_branch from r i m b among h = absurd m
  block_at (branch end d bs) from r i m b among h =
      let j : PathInterval = record { first = from; last = end; child = d; made = paths_of maxima d } in
      let low : end ≤ max = omega (arith, rising_end max (end + 1) bs r.1) in
      met_next j (path_intervals maxima bs (end + 1))
      ∙ ⊎_elim
      (λ s.
      let among' : In (blocks_of from end max) b = subst (λ z. In (blocks_of z.first z.last max) b) s among in
      let lies = in_interval from end max (slice_index pk f) b low within (contains_from_in (blocks_of from end max) b among') h in
      ap (λ l. met maxima pk e (block_paths max f other j) ++ l) (blocks_before bs (end + 1) (omega (arith, lies.1)) r.1)
      ∙ append-nil _
      ∙ interval_in j b low among' h refl
      ∙ ap (λ z. block_met maxima pk e f other.child b z.child) (sym s))
      (λ l.
      let following = begins_after maxima bs max (end + 1) i r.1 l in
      let high : i.last ≤ max = ends_before maxima bs max (end + 1) i r.1 l in
      let lies = in_interval i.first i.last max (slice_index pk f) b high within (contains_from_in (blocks_of i.first i.last max) b among) h in
      ap (λ l. l ++ met maxima pk e (flat_map (block_paths max f other) (path_intervals maxima bs (end + 1)))) (interval_out j low (inr (omega (arith, following, lies.0))))
      ∙ block_at bs (end + 1) r.1 i l b among h)
      m
