-- Of the ways that a packet meets, one alone is highest and has its leaf, or none is printed and the leaf is empty.
use Rattle.std.proofs.Common.{◌≡◌, ◌≢◌, ℕ, ◌+◌, ◌<◌, ◌≤◌, Bool, true, false, cond, ◌⊎◌, inl, inr, ⊎_elim, List, [], ◌∷◌, ◌++◌, refl, sym, ap, subst, ◌∙◌, arith}
use Rattle.std.specs.Prelude.{◌&&◌, ◌||◌, not, map, slice_index}
use Rattle.std.specs.List.{flat_map, AllByRecursion}
use Rattle.nk_store.specs.Diagram.{Branches, leaf, case, no_branch, branch, leaf_at, IsReduced, AreReduced, AreTwo}
use Rattle.nk_prefix.specs.Blocks.{blocks_of, is_in_block}
use Rattle.nk_prefix.proofs.Covers.{has_block}
use Rattle.nk_store.specs.Intervals.{same_tree, with_most}
use Rattle.nk_field.proofs.Lists.{In, in_from_contains}
use Rattle.nk_table.specs.declared.Bucket.{Bucket}
use Rattle.nk_table.specs.Buckets.{same_buckets}
use Rattle.nk_extract.specs.RuleTree.{Path, PathInterval, is_drop_leaf, with_match, block_paths, paths_of, path_intervals, bit_of, priority_of}
use Rattle.nk_extract.specs.Chosen.{NoDupBy, IsTop}
use Rattle.nk_extract.proofs.Lists.{every_in, every_weaker, every_append, every_map, every_flat_map, every_filter, every_true, filter_append_is, no_dup_append, no_dup_map, top_map, top_append}
use Rattle.nk_extract.proofs.Bits.{bits_double, bit_positive}
use Rattle.nk_extract.proofs.Trees.{Tree, TestsOnly, TestOnly, IsMatchable, Rising, rising_all, leaf_among_is, EachChild, IsInterval, intervals_are, interval_at, ends_before, with_most_has, same_tree_tells}
use Rattle.nk_extract.proofs.Paths.{goes, is_printed, met, block_met, block_at}

-- the intervals of a node, and its else-child
abbrev pub other_of : List ℕ → Branches (List Bucket) → (end : ℕ) → Tree → PathInterval
other_of maxima bs end d =
    let i : PathInterval = record { first = 0; last = end; child = d; made = paths_of maxima d } in
    with_most same_buckets (path_intervals maxima (branch end d bs) 0) i (path_intervals maxima bs (end + 1))

module _ (width tag : ℕ) where
  abbrev pub weight : Path → ℕ
  weight p = priority_of width tag p.matches

module _ (width tag : ℕ) (maxima : List ℕ) where
  -- the priorities of a node's ways are below the bit of a field before it
  node_light :
      (g f : ℕ) (bs : Branches (List Bucket)) → f < g → IsMatchable width tag g → AreTwo bs
      → AllByRecursion (λ i. AllByRecursion (λ p. weight width tag p < bit_of width tag g) i.made) (path_intervals maxima bs 0)
      → AllByRecursion (λ p. weight width tag p < bit_of width tag f) (paths_of maxima (case g bs))
  node_light g f no_branch h m two e = absurd two
  node_light g f (branch end d bs) h m two e =
      let double = bits_double width tag f g h m.0 m.1 in
      let max = slice_index maxima g in
      let other = other_of maxima bs end d in
      let Small : Path → Type 0 = λ p. weight width tag p < bit_of width tag g in
      let Below : Path → Type 0 = λ p. weight width tag p < bit_of width tag f in
      let raise : (b : ℕ × ℕ) (ps : List Path) → AllByRecursion Small ps → AllByRecursion Below (map (with_match g (is_drop_leaf other.child) b) ps) =
      λ b ps small. every_map Below (with_match g (is_drop_leaf other.child) b) ps (every_weaker Small (λ p. Below (with_match g (is_drop_leaf other.child) b p)) ps (λ p s. omega (arith, s, double)) small) in
      let by : (i : PathInterval) (t : Bool) → AllByRecursion Small i.made → AllByRecursion Below (cond t [] (flat_map (λ b. map (with_match g (is_drop_leaf other.child) b) i.made) (blocks_of i.first i.last max))) =
      λ i t small. elim t as (λ z. AllByRecursion Below (cond z [] (flat_map (λ b. map (with_match g (is_drop_leaf other.child) b) i.made) (blocks_of i.first i.last max)))) [
        | true ↦ tt
        | false ↦ every_flat_map (λ b. Unit {0}) Below (λ b. map (with_match g (is_drop_leaf other.child) b) i.made) (blocks_of i.first i.last max) (λ b u. raise b i.made small) (every_true (λ b. Unit {0}) (blocks_of i.first i.last max) (λ b. tt))
      ] in
      every_append Below (flat_map (block_paths max g other) (path_intervals maxima (branch end d bs) 0)) other.made
      (every_flat_map (λ i. AllByRecursion Small i.made) Below (block_paths max g other) (path_intervals maxima (branch end d bs) 0) (λ i small. by i (same_tree other.child same_buckets i.child) small) e)
      (every_weaker Small Below other.made (λ p s. omega (arith, s, double)) (with_most_has (λ i. AllByRecursion Small i.made) (path_intervals maxima (branch end d bs) 0) record { first = 0; last = end; child = d; made = paths_of maxima d } (path_intervals maxima bs (end + 1)) e.0 e.1))

  mutual
    pub light :
        (d : Tree) (f : ℕ) → IsReduced d maxima (f + 1) → TestsOnly (IsMatchable width tag) d
        → AllByRecursion (λ p. weight width tag p < bit_of width tag f) (paths_of maxima d)
    light (leaf bs) f r m = (bit_positive width tag f, tt)
    light (case g bs) f r m = node_light g f bs (omega (arith, r.0)) m.0 r.1 (lights bs g 0 r.2 m.1)

    -- likewise of each branch's ways
    pub lights :
        (bs : Branches (List Bucket)) (g from : ℕ) → AreReduced bs maxima g
        → TestOnly (IsMatchable width tag) bs
        → AllByRecursion (λ i. AllByRecursion (λ p. weight width tag p < bit_of width tag g) i.made) (path_intervals maxima bs from)
    lights no_branch g from r m = tt
    lights (branch end d bs) g from r m = (light d g r.1 m.0, lights bs g (end + 1) r.3 m.1)

  -- what the law says of a subtree: of the ways met under each flag one is highest and has the leaf, or there is none
  abbrev pub Outcome : List ℕ → Bool → Tree → Type 0
  Outcome pk e d =
      ((p : Path) × IsTop Path (weight width tag) (met maxima pk e (paths_of maxima d)) p × (p.buckets ≡ leaf_at d [] pk))
      ⊎ ((met maxima pk e (paths_of maxima d) ≡ []) × (leaf_at d [] pk ≡ []) × (e ≡ false))

  pub record Law (pk : List ℕ) (d : Tree) : Type 0 where
    pub outcome : (e : Bool) → Outcome pk e d
    pub apart : (e : Bool) → NoDupBy (weight width tag) (met maxima pk e (paths_of maxima d))

  -- the else-child, as an interval of the node
  pub other_is :
      (P : Tree → Type 0) (o : Tree) (bs : Branches (List Bucket)) (end : ℕ) (d : Tree) (most : ℕ)
      → EachChild P (branch end d bs) → Rising most 0 (branch end d bs)
      → IsInterval maxima P o (branch end d bs) most 0 (other_of maxima bs end d)
  other_is P o bs end d most e r =
      let all = intervals_are maxima P o (branch end d bs) most 0 e r in
      with_most_has (IsInterval maxima P o (branch end d bs) most 0) (path_intervals maxima (branch end d bs) 0) record { first = 0; last = end; child = d; made = paths_of maxima d } (path_intervals maxima bs (end + 1)) all.0 all.1

  -- an interval of a node and a block of it that has the value
  pub record HasBlock (max : ℕ) (bs : Branches (List Bucket)) (v : ℕ) : Type 0 where
    pub interval : PathInterval
    pub block : ℕ × ℕ
    pub there : In (path_intervals maxima bs 0) interval
    pub low : interval.first ≤ v
    pub high : v ≤ interval.last
    pub among : In (blocks_of interval.first interval.last max) block
    pub has : is_in_block max v block ≡ true

  -- each value has one
  pub with_block :
      (max : ℕ) (bs : Branches (List Bucket)) (v : ℕ) → Rising max 0 bs → v ≤ max → HasBlock max bs v
  with_block max bs v r h =
      let i = interval_at maxima bs max 0 v r (omega arith) h in
      let b = has_block i.0.first i.0.last max v (ends_before maxima bs max 0 i.0 r i.1) i.2 i.3 in
      record {
        interval = i.0;
        block = b.0;
        there = i.1;
        low = i.2;
        high = i.3;
        among = in_from_contains (blocks_of i.0.first i.0.last max) b.0 b.1;
        has = b.2;
      }

  -- what a packet meets at a node: the part of the block with its value, and the else-child's
  pub node_met :
      (pk : List ℕ) (e : Bool) (f : ℕ) (bs : Branches (List Bucket)) (end : ℕ) (d : Tree)
      → slice_index pk f ≤ slice_index maxima f → Rising (slice_index maxima f) 0 (branch end d bs)
      → (x : HasBlock (slice_index maxima f) (branch end d bs) (slice_index pk f))
      → met maxima pk e (paths_of maxima (case f (branch end d bs))) ≡ block_met maxima pk e f (other_of maxima bs end d).child x.block x.interval.child ++ met maxima pk e (other_of maxima bs end d).made
  node_met pk e f bs end d h r x =
      filter_append_is (λ p. goes maxima pk p && (is_printed p || e)) (flat_map (block_paths (slice_index maxima f) f (other_of maxima bs end d)) (path_intervals maxima (branch end d bs) 0)) (other_of maxima bs end d).made
      ∙ ap (λ l. l ++ met maxima pk e (other_of maxima bs end d).made) (block_at maxima pk e f (other_of maxima bs end d) h (branch end d bs) 0 r x.interval x.there x.block x.among x.has)

  -- the drop tree is the empty leaf
  drop_is : (t : Tree) → is_drop_leaf t ≡ true → t ≡ leaf []
  drop_is (leaf []) e = refl
  drop_is (leaf (b ∷ bs)) e = absurd cc
  drop_is (case f bs) e = absurd cc

  -- neither holds, so not the first
  or_left : (a b : Bool) → a || b ≡ false → a ≡ false
  or_left true b e = e
  or_left false b e = refl

  -- nor the second
  or_right : (a b : Bool) → a || b ≡ false → b ≡ false
  or_right true b e = absurd cc
  or_right false b e = e

  -- not false is true
  not_is : (a : Bool) → not a ≡ false → a ≡ true
  not_is true e = refl
  not_is false e = absurd cc

  -- a drop leaf alone is not printed
  drop_met : (pk : List ℕ) → met maxima pk false (paths_of maxima (leaf [])) ≡ []
  drop_met pk = refl

  -- the ways met at a node, where the packet's value is not of the else-child
  module _ (f : ℕ) (b : ℕ × ℕ) (drops : Bool) where
    -- the highest way after the packet's block is the highest of all
    pub lifted :
        (xs ys : List Path) (q : Path) → AllByRecursion (λ p. weight width tag p < bit_of width tag f) ys
        → IsTop Path (weight width tag) xs q
        → IsTop Path (weight width tag) (map (with_match f drops b) xs ++ ys) (with_match f drops b q)
    lifted xs ys q small t =
        top_append (weight width tag) (map (with_match f drops b) xs) ys (with_match f drops b q)
        (top_map (weight width tag) (weight width tag) (with_match f drops b) xs q (λ y l. omega (arith, l)) t)
        (every_weaker (λ p. weight width tag p < bit_of width tag f) (λ p. weight width tag p < weight width tag (with_match f drops b q)) ys (λ p s. omega (arith, s)) small)

    -- and no two have one priority
    lifted_no_dup :
        (xs ys : List Path) → AllByRecursion (λ p. weight width tag p < bit_of width tag f) ys
        → NoDupBy (weight width tag) xs → NoDupBy (weight width tag) ys
        → NoDupBy (weight width tag) (map (with_match f drops b) xs ++ ys)
    lifted_no_dup xs ys small below above =
        no_dup_append (weight width tag) (map (with_match f drops b) xs) ys
        (no_dup_map (weight width tag) (weight width tag) (with_match f drops b) xs (λ x y n s. n (omega (arith, s))) below)
        above
        (every_map (λ x. AllByRecursion (λ y. weight width tag x ≢ weight width tag y) ys) (with_match f drops b) xs (every_true (λ x. AllByRecursion (λ y. weight width tag (with_match f drops b x) ≢ weight width tag y) ys) xs (λ x. every_weaker (λ p. weight width tag p < bit_of width tag f) (λ y. weight width tag (with_match f drops b x) ≢ weight width tag y) ys (λ y s. omega (arith, s)) small)))

  -- what a packet meets at a node, where its value is in block b, with child c, and the else-child is t
  abbrev pub parts : List ℕ → ℕ → ℕ × ℕ → Tree → Tree → Bool → Bool → List Path
  parts pk f b c t same e =
      cond same [] (map (with_match f (is_drop_leaf t) b) (met maxima pk (not (is_drop_leaf t) || e) (paths_of maxima c))) ++ met maxima pk e (paths_of maxima t)

  abbrev NodeOutcome : List ℕ → Tree → Bool → List Path → Type 0
  NodeOutcome pk c e ms =
      ((p : Path) × IsTop Path (weight width tag) ms p × (p.buckets ≡ leaf_at c [] pk))
      ⊎ ((ms ≡ []) × (leaf_at c [] pk ≡ []) × (e ≡ false))

  -- the law at a node, by the law at its children; c is the child at the packet's value, t the else-child
  module _ (pk : List ℕ) (f : ℕ) (b : ℕ × ℕ) (c t : Tree) (small : (e : Bool) → AllByRecursion (λ p. weight width tag p < bit_of width tag f) (met maxima pk e (paths_of maxima t))) (lc : Law pk c) (lt : Law pk t) where
    -- one way is the highest at the node, or none is met
    node_outcome :
        (same : Bool) → same_tree t same_buckets c ≡ same → (e : Bool)
        → NodeOutcome pk c e (parts pk f b c t same e)
    node_outcome true s e = subst (λ x. ((p : Path) × IsTop Path (weight width tag) (met maxima pk e (paths_of maxima t)) p × (p.buckets ≡ leaf_at x [] pk)) ⊎ ((met maxima pk e (paths_of maxima t) ≡ []) × (leaf_at x [] pk ≡ []) × (e ≡ false))) (same_tree_tells t c s) (lt.outcome e)
    node_outcome false s e =
        ⊎_elim
        (λ q. inl (with_match f (is_drop_leaf t) b q.0, lifted f b (is_drop_leaf t) (met maxima pk (not (is_drop_leaf t) || e) (paths_of maxima c)) (met maxima pk e (paths_of maxima t)) q.0 (small e) q.1, q.2))
        (λ n.
        let unset : e ≡ false = or_right (not (is_drop_leaf t)) e n.2 in
        let dropped : t ≡ leaf [] = drop_is t (not_is (is_drop_leaf t) (or_left (not (is_drop_leaf t)) e n.2)) in
        inr (
          ap (λ l. map (with_match f (is_drop_leaf t) b) l ++ met maxima pk e (paths_of maxima t)) n.0
              ∙ ap (λ z. met maxima pk z (paths_of maxima t)) unset
              ∙ ap (λ z. met maxima pk false (paths_of maxima z)) dropped
              ∙ drop_met pk,
          n.1,
          unset,
        ))
        (lc.outcome (not (is_drop_leaf t) || e))

    -- no two ways met at the node have one priority
    node_no_dup : (same : Bool) (e : Bool) → NoDupBy (weight width tag) (parts pk f b c t same e)
    node_no_dup true e = lt.apart e
    node_no_dup false e = lifted_no_dup f b (is_drop_leaf t) (met maxima pk (not (is_drop_leaf t) || e) (paths_of maxima c)) (met maxima pk e (paths_of maxima t)) (small e) (lc.apart (not (is_drop_leaf t) || e)) (lt.apart e)

  module _ (pk : List ℕ) (within : (f : ℕ) → f ≢ tag → slice_index pk f ≤ slice_index maxima f) where
    -- the law at a node
    node_law :
        (f : ℕ) (bs : Branches (List Bucket)) → f ≢ tag → AreTwo bs → AreReduced bs maxima f
        → TestOnly (IsMatchable width tag) bs → EachChild (Law pk) bs → Law pk (case f bs)
    node_law f no_branch able two r m laws = absurd two
    node_law f (branch end d bs) able two r m laws =
        let rise = rising_all maxima f (branch end d bs) two r in
        let other = other_of maxima bs end d in
        let it = other_is (Law pk) (leaf []) bs end d (slice_index maxima f) laws rise in
        let x = with_block (slice_index maxima f) (branch end d bs) (slice_index pk f) rise (within f able) in
        let part = every_in (IsInterval maxima (Law pk) (leaf []) (branch end d bs) (slice_index maxima f) 0) (path_intervals maxima (branch end d bs) 0) x.interval (intervals_are maxima (Law pk) (leaf []) (branch end d bs) (slice_index maxima f) 0 laws rise) x.there in
        let c = x.interval.child in
        let split : (e : Bool) → met maxima pk e (paths_of maxima (case f (branch end d bs))) ≡ parts pk f x.block c other.child (same_tree other.child same_buckets c) e =
        λ e. node_met pk e f bs end d (within f able) rise x ∙ ap (λ ps. block_met maxima pk e f other.child x.block c ++ met maxima pk e ps) it.made in
        let made_small : AllByRecursion (λ p. weight width tag p < bit_of width tag f) other.made = with_most_has (λ i. AllByRecursion (λ p. weight width tag p < bit_of width tag f) i.made) (path_intervals maxima (branch end d bs) 0) record { first = 0; last = end; child = d; made = paths_of maxima d } (path_intervals maxima bs (end + 1)) (lights (branch end d bs) f 0 r m).0 (lights (branch end d bs) f 0 r m).1 in
        let small : (e : Bool) → AllByRecursion (λ p. weight width tag p < bit_of width tag f) (met maxima pk e (paths_of maxima other.child)) =
        λ e. every_filter (λ p. weight width tag p < bit_of width tag f) (λ p. goes maxima pk p && (is_printed p || e)) (paths_of maxima other.child) (subst (AllByRecursion (λ p. weight width tag p < bit_of width tag f)) it.made made_small) in
        let leaf_is : leaf_at (case f (branch end d bs)) [] pk ≡ leaf_at c [] pk = leaf_among_is (branch end d bs) [] (slice_index pk f) pk ∙ ap (λ z. leaf_at z [] pk) (part.child (slice_index pk f) x.low x.high) in
        record {
          outcome = λ e. subst (λ l. ((p : Path) × IsTop Path (weight width tag) (met maxima pk e (paths_of maxima (case f (branch end d bs)))) p × (p.buckets ≡ l)) ⊎ ((met maxima pk e (paths_of maxima (case f (branch end d bs))) ≡ []) × (l ≡ []) × (e ≡ false))) (sym leaf_is)
              (subst (λ ms. NodeOutcome pk c e ms) (sym (split e)) (node_outcome pk f x.block c other.child small part.holds it.holds (same_tree other.child same_buckets c) refl e));
          apart = λ e. subst (NoDupBy (weight width tag)) (sym (split e)) (node_no_dup pk f x.block c other.child small part.holds it.holds (same_tree other.child same_buckets c) e);
        }

    -- a leaf's one way
    leaf_outcome : (bs : List Bucket) (e : Bool) → Outcome pk e (leaf bs)
    leaf_outcome [] true = inl (record { matches = []; buckets = []; shown = false }, record { before = []; after = []; is = refl; lower_before = tt; lower_after = tt }, refl)
    leaf_outcome [] false = inr (refl, refl, refl)
    leaf_outcome (b ∷ bs) e = inl (record { matches = []; buckets = b ∷ bs; shown = false }, record { before = []; after = []; is = refl; lower_before = tt; lower_after = tt }, refl)

    -- a leaf has one way at most
    leaf_no_dup :
        (bs : List Bucket) (e : Bool) → NoDupBy (weight width tag) (met maxima pk e (paths_of maxima (leaf bs)))
    leaf_no_dup [] true = (tt, tt)
    leaf_no_dup [] false = tt
    leaf_no_dup (b ∷ bs) e = (tt, tt)

    mutual
      pub law :
          (d : Tree) (low : ℕ) → IsReduced d maxima low → TestsOnly (IsMatchable width tag) d → Law pk d
      law (leaf bs) low r m = record { outcome = leaf_outcome bs; apart = leaf_no_dup bs }
      law (case f bs) low r m = node_law f bs m.0.1 r.1 r.2 m.1 (laws bs f r.2 m.1)

      -- and of each branch
      pub laws :
          (bs : Branches (List Bucket)) (f : ℕ) → AreReduced bs maxima f
          → TestOnly (IsMatchable width tag) bs → EachChild (Law pk) bs
      laws no_branch f r m = tt
      laws (branch end d bs) f r m = (law d (f + 1) r.1 m.0, laws bs f r.3 m.1)
