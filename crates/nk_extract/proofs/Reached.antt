-- Each printed way is the highest one for some packet in range.
use Rattle.std.proofs.Common.{◌≡◌, ◌≢◌, ℕ, ◌+◌, ◌-◌, ◌/◌, ◌^◌, ◌<◌, ◌≤◌, Bool, true, false, cond, ⊎_elim, List, [], ◌∷◌, ◌++◌, refl, sym, ap, subst, ◌∙◌, arith, get_or-set_same, get_or-set_other}
use Rattle.std.specs.Prelude.{◌&&◌, ◌||◌, not, map, slice_index, slice_set}
use Rattle.std.specs.List.{flat_map, AllByRecursion}
use Rattle.nk_store.specs.Diagram.{Branches, leaf, case, no_branch, branch, IsReduced, AreReduced, AreTwo}
use Rattle.nk_store.specs.Nodes.{InRange}
use Rattle.nk_prefix.specs.Prefix.{digits_of}
use Rattle.nk_prefix.specs.Blocks.{blocks_of, is_in_block}
use Rattle.nk_prefix.proofs.Covers.{blocks_are}
use Rattle.nk_store.specs.Intervals.{same_tree}
use Rattle.nk_store.proofs.Same.{set_in_range}
use Rattle.nk_field.proofs.Lists.{In, in_either, from_joined, from_mapped, contains_from_in}
use Rattle.nk_table.specs.declared.Bucket.{Bucket}
use Rattle.nk_table.specs.Buckets.{same_buckets}
use Rattle.nk_table.proofs.SameBuckets.{eq_self}
use Rattle.nk_extract.specs.RuleTree.{Path, PathInterval, is_drop_list, is_drop_leaf, with_match, block_paths, paths_of, path_intervals, bit_of}
use Rattle.nk_extract.specs.Chosen.{IsTop}
use Rattle.nk_extract.proofs.Lists.{every_filter, every_in}
use Rattle.nk_extract.proofs.Trees.{Tree, TestsOnly, TestOnly, IsMatchable, Rising, rising_all, child_among, EachChild, IsInterval, intervals_are, with_most_has, same_tree_self}
use Rattle.nk_extract.proofs.Paths.{goes, is_printed, met, block_met, flags}
use Rattle.nk_extract.proofs.Highest.{other_of, weight, lights, other_is, HasBlock, with_block, node_met, lifted}

module _ (width tag : ℕ) (maxima : List ℕ) (most_fields : width ≤ 18) where
  -- a packet like base up to field f, for which the way is the highest one met
  pub record Reached (d : Tree) (f : ℕ) (p : Path) (e : Bool) (base : List ℕ) : Type 0 where
    pub packet : List ℕ
    pub in_range : InRange maxima packet
    pub before : (g : ℕ) → g ≤ f → slice_index packet g ≡ slice_index base g
    pub tag_kept : slice_index packet tag ≡ slice_index base tag
    pub top : IsTop Path (weight width tag) (met maxima packet e (paths_of maxima d)) p

  abbrev pub AreReached : Tree → ℕ → Type 0
  AreReached d f = (e : Bool) (p : Path) → In (paths_of maxima d) p → is_printed p || e ≡ true → (base : List ℕ) → InRange maxima base → Reached d f p e base

  -- a leaf's way is met everywhere
  leaf_reached : (bs : List Bucket) (f : ℕ) → AreReached (leaf bs) f
  leaf_reached bs f e p m printed base ok =
      let way : Path = record { matches = []; buckets = bs; shown = false } in
      let same : p ≡ way = ⊎_elim (λ s. s) (λ n. absurd n) m in
      let shown : is_printed way || e ≡ true = subst (λ q. is_printed q || e ≡ true) same printed in
      record {
        packet = base;
        in_range = ok;
        before = λ g h. refl;
        tag_kept = refl;
        top = record {
          before = [];
          after = [];
          is = ap (λ b. cond b (way ∷ []) []) shown ∙ ap (λ q. q ∷ []) (sym same);
          lower_before = tt;
          lower_after = tt;
        };
      }

  -- what stands in a list or nothing stands in the list
  in_unless : (p : Path) (b : Bool) (ps : List Path) → In (cond b [] ps) p → (b ≡ false) × In ps p
  in_unless p true ps m = absurd m
  in_unless p false ps m = (refl, m)

  module _ (g f : ℕ) (bs : Branches (List Bucket)) (end : ℕ) (d : Tree) (less : f < g) (able : IsMatchable width tag g) (two : AreTwo (branch end d bs)) (r : AreReduced (branch end d bs) maxima g) (m : TestOnly (IsMatchable width tag) (branch end d bs)) (ih : EachChild (λ c. AreReached c g) (branch end d bs)) where
    abbrev node : Tree
    node = case g (branch end d bs)

    -- the branches rise
    rise : Rising (slice_index maxima g) 0 (branch end d bs)
    rise = rising_all maxima g (branch end d bs) two r

    abbrev IsPart : PathInterval → Type 0
    IsPart i = IsInterval maxima (λ c. AreReached c g) (leaf []) (branch end d bs) (slice_index maxima g) 0 i

    -- the else-child is one of the intervals
    other_part : IsPart (other_of maxima bs end d)
    other_part = other_is width tag maxima (λ c. AreReached c g) (leaf []) bs end d (slice_index maxima g) ih rise

    -- the field has the value that is set
    value_set : (base : List ℕ) (v : ℕ) → InRange maxima base → slice_index (slice_set base g v) g ≡ v
    value_set base v ok = get_or-set_same base g v 0 (omega (arith, ok.0, able.0, most_fields))

    -- the other fields keep theirs
    value_kept :
        (base : List ℕ) (v h : ℕ) → h ≢ g → slice_index (slice_set base g v) h ≡ slice_index base h
    value_kept base v h n = get_or-set_other base g h v 0 n

    -- the ways of the else-child that a packet meets are below the node's bit
    small :
        (pk : List ℕ) (e : Bool)
        → AllByRecursion (λ p. weight width tag p < bit_of width tag g) (met maxima pk e (other_of maxima bs end d).made)
    small pk e =
        every_filter (λ p. weight width tag p < bit_of width tag g) (λ p. goes maxima pk p && (is_printed p || e)) (other_of maxima bs end d).made
        (with_most_has (λ i. AllByRecursion (λ p. weight width tag p < bit_of width tag g) i.made) (path_intervals maxima (branch end d bs) 0) record { first = 0; last = end; child = d; made = paths_of maxima d } (path_intervals maxima bs (end + 1)) (lights width tag maxima (branch end d bs) g 0 r m).0 (lights width tag maxima (branch end d bs) g 0 r m).1)

    abbrev Has : ℕ → Type 0
    Has v = HasBlock width tag maxima (slice_index maxima g) (branch end d bs) v

    -- what a packet meets at the node, whose child at its value is c
    met_is :
        (pk : List ℕ) (e : Bool) → slice_index pk g ≤ slice_index maxima g → (x : Has (slice_index pk g)) → (c : Tree)
        → x.interval.child ≡ c → (same : Bool) → same_tree (other_of maxima bs end d).child same_buckets c ≡ same
        → met maxima pk e (paths_of maxima node) ≡ cond same [] (map (with_match g (is_drop_leaf (other_of maxima bs end d).child) x.block) (met maxima pk (not (is_drop_leaf (other_of maxima bs end d).child) || e) (paths_of maxima c))) ++ met maxima pk e (other_of maxima bs end d).made
    met_is pk e h x c is same k =
        node_met width tag maxima pk e g bs end d h rise x
        ∙ ap (λ z. block_met maxima pk e g (other_of maxima bs end d).child x.block z ++ met maxima pk e (other_of maxima bs end d).made) is
        ∙ ap (λ z. cond z [] (map (with_match g (is_drop_leaf (other_of maxima bs end d).child) x.block) (met maxima pk (not (is_drop_leaf (other_of maxima bs end d).child) || e) (paths_of maxima c))) ++ met maxima pk e (other_of maxima bs end d).made) k

    -- what is known of an interval of the node
    part_of : (i : PathInterval) → In (path_intervals maxima (branch end d bs) 0) i → IsPart i
    part_of i m = every_in IsPart (path_intervals maxima (branch end d bs) 0) i (intervals_are maxima (λ c. AreReached c g) (leaf []) (branch end d bs) (slice_index maxima g) 0 ih rise) m

    -- a way of the else-child is the highest somewhere
    by_else :
        (e : Bool) (p : Path) → In (other_of maxima bs end d).made p → is_printed p || e ≡ true
        → (base : List ℕ) → InRange maxima base → Reached node f p e base
    by_else e p a printed base ok =
        let other = other_of maxima bs end d in
        let start = slice_set base g other.first in
        let high : other.first ≤ slice_index maxima g = omega (arith, other_part.order, other_part.high) in
        let x = other_part.holds e p (subst (λ l. In l p) other_part.made a) printed start (set_in_range maxima base g other.first ok high) in
        let here : slice_index x.packet g ≡ other.first = x.before g (omega arith) ∙ value_set base other.first ok in
        let at = with_block width tag maxima (slice_index maxima g) (branch end d bs) (slice_index x.packet g) rise (x.in_range.1 g) in
        let child : at.interval.child ≡ other.child =
        sym ((part_of at.interval at.there).child (slice_index x.packet g) at.low at.high)
        ∙ ap (child_among (leaf []) (branch end d bs)) here ∙ other_part.child other.first (omega arith) other_part.order in
        record {
          packet = x.packet;
          in_range = x.in_range;
          before = λ h le. x.before h (omega (arith, le, less)) ∙ value_kept base other.first h (omega (arith, le, less));
          tag_kept = x.tag_kept ∙ value_kept base other.first tag (λ s. able.1 (sym s));
          top = subst (λ ms. IsTop Path (weight width tag) ms p) (sym (met_is x.packet e (x.in_range.1 g) at other.child child true (same_tree_self other.child) ∙ ap (met maxima x.packet e) other_part.made)) x.top;
        }

    -- a way of a block is the highest somewhere, with the block's first value
    by_block :
        (e : Bool) (p : Path) (i : PathInterval) → In (path_intervals maxima (branch end d bs) 0) i → (b : ℕ × ℕ)
        → In (blocks_of i.first i.last (slice_index maxima g)) b
        → same_tree (other_of maxima bs end d).child same_buckets i.child ≡ false → (q : Path) → In i.made q
        → p ≡ with_match g (is_drop_leaf (other_of maxima bs end d).child) b q → is_printed p || e ≡ true
        → (base : List ℕ) → InRange maxima base → Reached node f p e base
    by_block e p i there b among differ q a is printed base ok =
        let part = part_of i there in
        let most = slice_index maxima g in
        let block = blocks_are i.first i.last most b part.high (contains_from_in (blocks_of i.first i.last most) b among) in
        let drops = is_drop_leaf (other_of maxima bs end d).child in
        let start = slice_set base g b.0 in
        let high : b.0 ≤ most = omega (arith, block.high, part.high) in
        let printed' : is_printed q || (not drops || e) ≡ true = sym (flags (not (is_drop_list q.buckets)) drops q.shown e) ∙ subst (λ z. is_printed z || e ≡ true) is printed in
        let x = part.holds (not drops || e) q (subst (λ l. In l q) part.made a) printed' start (set_in_range maxima base g b.0 ok high) in
        let here : slice_index x.packet g ≡ b.0 = x.before g (omega arith) ∙ value_set base b.0 ok in
        let has : is_in_block most (slice_index x.packet g) b ≡ true = ap (λ n. is_in_block most n b) here ∙ eq_self (b.0 / 2 ^ (digits_of most - b.1)) in
        let at : Has (slice_index x.packet g) = record {
          interval = i;
          block = b;
          there = there;
          low = omega (arith, here, block.low);
          high = omega (arith, here, block.high);
          among = among;
          has = has;
        } in
        let top = lifted width tag maxima g b drops (met maxima x.packet (not drops || e) (paths_of maxima i.child)) (met maxima x.packet e (other_of maxima bs end d).made) q (small x.packet e) x.top in
        record {
          packet = x.packet;
          in_range = x.in_range;
          before = λ h le. x.before h (omega (arith, le, less)) ∙ value_kept base b.0 h (omega (arith, le, less));
          tag_kept = x.tag_kept ∙ value_kept base b.0 tag (λ s. able.1 (sym s));
          top = subst (λ ms. IsTop Path (weight width tag) ms p) (sym (met_is x.packet e (x.in_range.1 g) at i.child refl false differ))
              (subst (IsTop Path (weight width tag) (map (with_match g drops b) (met maxima x.packet (not drops || e) (paths_of maxima i.child)) ++ met maxima x.packet e (other_of maxima bs end d).made)) (sym is) top);
        }

    -- each way of a node is
    node_reached : AreReached node f
    node_reached e p a printed base ok =
        let most = slice_index maxima g in
        let drops = is_drop_leaf (other_of maxima bs end d).child in
        ⊎_elim
        (λ exact.
        let i = from_joined (block_paths most g (other_of maxima bs end d)) (path_intervals maxima (branch end d bs) 0) p exact in
        let u = in_unless p (same_tree (other_of maxima bs end d).child same_buckets i.0.child) (flat_map (λ b. map (with_match g drops b) i.0.made) (blocks_of i.0.first i.0.last most)) i.2 in
        let b = from_joined (λ b. map (with_match g drops b) i.0.made) (blocks_of i.0.first i.0.last most) p u.1 in
        let q = from_mapped (with_match g drops b.0) i.0.made p b.2 in
        by_block e p i.0 i.1 b.0 b.1 u.0 q.0 q.1 q.2 printed base ok)
        (λ rest. by_else e p rest printed base ok)
        (in_either (flat_map (block_paths most g (other_of maxima bs end d)) (path_intervals maxima (branch end d bs) 0)) (other_of maxima bs end d).made p a)

  -- each way of a choice is
  case_reached :
      (g f : ℕ) (bs : Branches (List Bucket)) → f < g → IsMatchable width tag g → AreTwo bs
      → AreReduced bs maxima g → TestOnly (IsMatchable width tag) bs
      → EachChild (λ c. AreReached c g) bs → AreReached (case g bs) f
  case_reached g f no_branch less able two r m ih = absurd two
  case_reached g f (branch end d bs) less able two r m ih = node_reached g f bs end d less able two r m ih

  mutual
    pub reached :
        (d : Tree) (f : ℕ) → IsReduced d maxima (f + 1) → TestsOnly (IsMatchable width tag) d
        → AreReached d f
    reached (leaf bs) f r m = leaf_reached bs f
    reached (case g bs) f r m = case_reached g f bs (omega (arith, r.0)) m.0 r.1 r.2 m.1 (all_reached bs g r.2 m.1)

    -- and of each branch
    pub all_reached :
        (bs : Branches (List Bucket)) (g : ℕ) → AreReduced bs maxima g
        → TestOnly (IsMatchable width tag) bs → EachChild (λ c. AreReached c g) bs
    all_reached no_branch g r m = tt
    all_reached (branch end d bs) g r m = (reached d g r.1 m.0, all_reached bs g r.3 m.1)
