-- What a printed row matches: fields that ascend, and of each a prefix that a text can write.
use Rattle.std.proofs.Common.{◌≡◌, ◌≢◌, ℕ, ◌+◌, ◌-◌, ◌%◌, ◌^◌, ◌<◌, ◌≤◌, Bool, true, false, cond, ◌⊎◌, inl, inr, ⊎_elim, List, [], ◌∷◌, length, refl, sym, subst, arith}
use Rattle.std.specs.Prelude.{nat_lt, map, slice_index}
use Rattle.std.specs.List.{flat_map, AllByRecursion}
use Rattle.std.proofs.lemmas.Bool.Decides.{nat_tests}
use Rattle.nk_field.specs.Packet.{FieldTable}
use Rattle.nk_field.proofs.Lists.{In, contains_from_in}
use Rattle.nk_prefix.specs.Prefix.{digits_of}
use Rattle.nk_prefix.specs.Blocks.{blocks_of}
use Rattle.nk_prefix.proofs.Covers.{blocks_are}
use Rattle.nk_store.specs.Diagram.{Branches, leaf, case, no_branch, branch, IsReduced, AreReduced, AreTwo}
use Rattle.nk_store.specs.Intervals.{same_tree}
use Rattle.nk_table.specs.declared.Bucket.{Bucket}
use Rattle.nk_table.specs.Buckets.{same_buckets}
use Rattle.nk_tabtext.specs.InOrder.{MatchesAscend}
use Rattle.nk_tabtext.specs.ReadBack.{IsPrintableMatch}
use Rattle.nk_extract.specs.RuleTree.{Path, PathInterval, is_drop_leaf, with_match, block_paths, paths_of, path_intervals, put_match, exactly}
use Rattle.nk_extract.proofs.Lists.{every_weaker, every_append, every_map, every_flat_map}
use Rattle.nk_extract.proofs.Trees.{Tree, Rising, rising_all, rising_end, TestsOnly, TestOnly, IsMatchable, with_most_has}
use Rattle.nk_extract.proofs.Highest.{other_of}

-- what each member has
every_from :
    {A : Type 0} (P : A → Type 0) (xs : List A) → ((x : A) → In xs x → P x) → AllByRecursion P xs
every_from P [] f = tt
every_from P (x ∷ xs) f = (f x (inl refl), every_from P xs (λ y i. f y (inr i)))

-- both of two
every_both :
    {A : Type 0} (P Q : A → Type 0) (xs : List A) → AllByRecursion P xs → AllByRecursion Q xs
    → AllByRecursion (λ x. P x × Q x) xs
every_both P Q [] a b = tt
every_both P Q (x ∷ xs) a b = ((a.0, b.0), every_both P Q xs a.1 b.1)

-- ---- the intervals of a node

-- one within the field's values that isn't all of them
abbrev IsPart : ℕ → PathInterval → Type 0
IsPart max i = (i.last ≤ max) × ((i.first ≢ 0) ⊎ (i.last ≢ max))

-- those that begin above 0
later_parts :
    (maxima : List ℕ) (max from : ℕ) (bs : Branches (List Bucket)) → 1 ≤ from → Rising max from bs
    → AllByRecursion (IsPart max) (path_intervals maxima bs from)
later_parts maxima max from no_branch low r = tt
later_parts maxima max from (branch end d bs) low r =
    let high : end ≤ max = omega (arith, rising_end max (end + 1) bs r.1) in
    ((high, inl (λ e. omega (arith, e, low))), later_parts maxima max (end + 1) bs (omega arith) r.1)

-- those of a node with two branches or more
parts_are :
    (maxima : List ℕ) (max : ℕ) (bs : Branches (List Bucket)) → AreTwo bs → Rising max 0 bs
    → AllByRecursion (IsPart max) (path_intervals maxima bs 0)
parts_are maxima max no_branch two r = absurd two
parts_are maxima max (branch end d no_branch) two r = absurd two
parts_are maxima max (branch end d (branch next e bs)) two r =
    let under : end < max = omega (arith, r.1.0, rising_end max (next + 1) bs r.1.1) in
    ((omega (arith, under), inr (λ e. omega (arith, e, under))), later_parts maxima max (end + 1) (branch next e bs) (omega arith) r.1)

-- ---- matches that a text can write

-- a block of such an interval
block_match :
    (fields : FieldTable) (f : ℕ) (i : PathInterval) (b : ℕ × ℕ) → f < length fields.maxima
    → IsPart (slice_index fields.maxima f) i → In (blocks_of i.first i.last (slice_index fields.maxima f)) b
    → IsPrintableMatch fields (f, b.0, b.1)
block_match fields f i b declared part there =
    let max = slice_index fields.maxima f in
    let k = blocks_are i.first i.last max b part.0 (contains_from_in (blocks_of i.first i.last max) b there) in
    record {
      value = (declared, omega (arith, k.high, part.0));
      some = ⊎_elim (λ n. k.least n) (λ n. k.whole n) part.1;
      most = k.most;
      zeros = k.aligned;
    }

-- an exact value
pub exact_match :
    (fields : FieldTable) (f v : ℕ) → f < length fields.maxima → v ≤ slice_index fields.maxima f
    → IsPrintableMatch fields (exactly fields.maxima f v)
exact_match fields f v declared le =
    let digits = digits_of (slice_index fields.maxima f) in
    let none : digits - digits ≡ 0 = omega arith in
    record {
      value = (declared, le);
      some = omega arith;
      most = omega arith;
      zeros = subst (λ n. v % 2 ^ n ≡ 0) (sym none) (omega arith);
    }

-- declared fields but the tag, ascending from low on, each with a match that a text can write
abbrev pub MatchesClimb : (fields : FieldTable) (tag low : ℕ) → List (ℕ × ℕ × ℕ) → Type 0
MatchesClimb fields tag low [] = Unit {0}
MatchesClimb fields tag low (m ∷ ms) =
    (low ≤ m.0) × (m.0 ≢ tag) × IsPrintableMatch fields m × MatchesClimb fields tag (m.0 + 1) ms

module _ (fields : FieldTable) (tag : ℕ) where
  -- from a later field on is from an earlier one on
  climb_lower :
      (low high : ℕ) (ms : List (ℕ × ℕ × ℕ)) → low ≤ high → MatchesClimb fields tag high ms
      → MatchesClimb fields tag low ms
  climb_lower low high [] le c = tt
  climb_lower low high (m ∷ ms) le c = (omega (arith, le, c.0), c.1, c.2, c.3)

  -- each is such a match
  pub climb_matches :
      (low : ℕ) (ms : List (ℕ × ℕ × ℕ)) (m : ℕ × ℕ × ℕ) → MatchesClimb fields tag low ms → In ms m
      → IsPrintableMatch fields m
  climb_matches low [] m c i = absurd i
  climb_matches low (n ∷ ns) m c i =
      ⊎_elim (λ e. subst (IsPrintableMatch fields) (sym e) c.2) (λ r. climb_matches (n.0 + 1) ns m c.3 r) i

  climb_ascends :
      (low : ℕ) (ms : List (ℕ × ℕ × ℕ)) → MatchesClimb fields tag low ms → MatchesAscend low ms
  climb_ascends low [] c = tt
  climb_ascends low (m ∷ ms) c = (c.0, climb_ascends (m.0 + 1) ms c.3)

  -- a lesser field
  before_it : (a b : ℕ) → nat_lt a b ≡ true → a + 1 ≤ b
  before_it a b e = grind (arith, nat_tests, e)

  -- another field that isn't greater
  after_it : (a b : ℕ) → b ≢ a → nat_lt a b ≡ false → b + 1 ≤ a
  after_it a b n e = grind (arith, nat_tests, n, e)

  -- with the tag they ascend
  pub put_climbs :
      (v len low : ℕ) (ms : List (ℕ × ℕ × ℕ)) → low ≤ tag → MatchesClimb fields tag low ms
      → MatchesAscend low (put_match (tag, v, len) ms)
  put_climbs v len low [] le c = (le, tt)
  put_climbs v len low (m ∷ ms) le c = by (nat_lt tag m.0) refl (λ l. put_climbs v len (m.0 + 1) ms l c.3)
    where
      by :
          (b : Bool) → nat_lt tag m.0 ≡ b
          → (m.0 + 1 ≤ tag → MatchesAscend (m.0 + 1) (put_match (tag, v, len) ms))
          → MatchesAscend low (cond b ((tag, v, len) ∷ m ∷ ms) (m ∷ put_match (tag, v, len) ms))
      by true e rest = (le, (before_it tag m.0 e, climb_ascends (m.0 + 1) ms c.3))
      by false e rest = (c.0, rest (after_it tag m.0 c.1 e))

  -- ---- the ways through a reduced tree

  -- at a node
  node_climbs :
      (low g : ℕ) (bs : Branches (List Bucket)) → low ≤ g → IsMatchable (length fields.maxima) tag g → AreTwo bs
      → Rising (slice_index fields.maxima g) 0 bs
      → AllByRecursion (λ i. AllByRecursion (λ p. MatchesClimb fields tag (g + 1) p.matches) i.made) (path_intervals fields.maxima bs 0)
      → AllByRecursion (λ p. MatchesClimb fields tag low p.matches) (paths_of fields.maxima (case g bs))
  node_climbs low g no_branch le m two rise e = absurd two
  node_climbs low g (branch end d bs) le m two rise e =
      let maxima = fields.maxima in
      let max = slice_index maxima g in
      let other = other_of maxima bs end d in
      let all = path_intervals maxima (branch end d bs) 0 in
      let Later : Path → Type 0 = λ p. MatchesClimb fields tag (g + 1) p.matches in
      let Here : Path → Type 0 = λ p. MatchesClimb fields tag low p.matches in
      let raise : (b : ℕ × ℕ) (ps : List Path) → IsPrintableMatch fields (g, b.0, b.1) → AllByRecursion Later ps → AllByRecursion Here (map (with_match g (is_drop_leaf other.child) b) ps) =
      λ b ps k later. every_map Here (with_match g (is_drop_leaf other.child) b) ps (every_weaker Later (λ p. Here (with_match g (is_drop_leaf other.child) b p)) ps (λ p c. (le, m.1, k, c)) later) in
      let by : (i : PathInterval) (t : Bool) → AllByRecursion Later i.made → IsPart max i → AllByRecursion Here (cond t [] (flat_map (λ b. map (with_match g (is_drop_leaf other.child) b) i.made) (blocks_of i.first i.last max))) =
      λ i t later part. elim t as (λ z. AllByRecursion Here (cond z [] (flat_map (λ b. map (with_match g (is_drop_leaf other.child) b) i.made) (blocks_of i.first i.last max)))) [
        | true ↦ tt
        | false ↦ every_flat_map (λ b. IsPrintableMatch fields (g, b.0, b.1)) Here (λ b. map (with_match g (is_drop_leaf other.child) b) i.made) (blocks_of i.first i.last max) (λ b k. raise b i.made k later) (every_from (λ b. IsPrintableMatch fields (g, b.0, b.1)) (blocks_of i.first i.last max) (λ b there. block_match fields g i b m.0 part there))
      ] in
      every_append Here (flat_map (block_paths max g other) all) other.made
      (every_flat_map (λ i. AllByRecursion Later i.made × IsPart max i) Here (block_paths max g other) all (λ i k. by i (same_tree other.child same_buckets i.child) k.0 k.1)
      (every_both (λ i. AllByRecursion Later i.made) (IsPart max) all e (parts_are maxima max (branch end d bs) two rise)))
      (every_weaker Later Here other.made (λ p c. climb_lower low (g + 1) p.matches (omega (arith, le)) c) (with_most_has (λ i. AllByRecursion Later i.made) all record { first = 0; last = end; child = d; made = paths_of maxima d } (path_intervals maxima bs (end + 1)) e.0 e.1))

  mutual
    -- what a way matches
    pub climb :
        (d : Tree) (low : ℕ) → IsReduced d fields.maxima low
        → TestsOnly (IsMatchable (length fields.maxima) tag) d
        → AllByRecursion (λ p. MatchesClimb fields tag low p.matches) (paths_of fields.maxima d)
    climb (leaf bs) low r m = (tt, tt)
    climb (case g bs) low r m = node_climbs low g bs r.0 m.0 r.1 (rising_all fields.maxima g bs r.1 r.2) (all_climb bs g 0 r.2 m.1)

    -- likewise of each branch's ways
    all_climb :
        (bs : Branches (List Bucket)) (g from : ℕ) → AreReduced bs fields.maxima g
        → TestOnly (IsMatchable (length fields.maxima) tag) bs
        → AllByRecursion (λ i. AllByRecursion (λ p. MatchesClimb fields tag (g + 1) p.matches) i.made) (path_intervals fields.maxima bs from)
    all_climb no_branch g from r m = tt
    all_climb (branch end d bs) g from r m = (climb d (g + 1) r.1 m.0, all_climb bs g (end + 1) r.3 m.1)

-- what stands there is what was put in or stood there before
pub in_put_match :
    (a : ℕ × ℕ × ℕ) (ms : List (ℕ × ℕ × ℕ)) (m : ℕ × ℕ × ℕ) → In (put_match a ms) m → (m ≡ a) ⊎ In ms m
in_put_match a [] m i = i
in_put_match a (n ∷ ns) m i = by (nat_lt a.0 n.0) i (λ r. in_put_match a ns m r)
  where
    by :
        (b : Bool) → In (cond b (a ∷ n ∷ ns) (n ∷ put_match a ns)) m
        → (In (put_match a ns) m → (m ≡ a) ⊎ In ns m)
        → (m ≡ a) ⊎ In (n ∷ ns) m
    by true i rest = i
    by false i rest = ⊎_elim (λ e. inr (inl e)) (λ r. ⊎_elim (λ e. inl e) (λ j. inr (inr j)) (rest r)) i
