-- The ways of a diagram in the store are those of its tree, where equal trees have one number.
use Rattle.std.proofs.Common.{◌≡◌, ◌≢◌, ℕ, zero, suc, ◌+◌, ◌-◌, ◌<◌, Bool, true, false, cond, inl, inr, List, [], ◌∷◌, ◌++◌, length, refl, sym, ap, subst, ◌∙◌, arith}
use Rattle.std.specs.Prelude.{◌==◌, map, nat_lt, slice_index}
use Rattle.std.specs.List.{flat_map}
use Rattle.std.proofs.lemmas.Bool.Decides.{nat_tests, eqb_tells}
use Rattle.nk_store.specs.declared.node.Node.{Node}
use Rattle.nk_store.specs.declared.node.Node.TheVariants.{Leaf, Case}
use Rattle.nk_store.specs.Nodes.{node_at, Each}
use Rattle.nk_store.specs.Diagram.{case}
use Rattle.nk_store.specs.Intervals.{same_tree, with_most, values_with}
use Rattle.nk_prefix.specs.Blocks.{blocks_of}
use Rattle.nk_table.specs.Buckets.{same_buckets}
use Rattle.nk_extract.specs.RuleTree.{Path, PathInterval, is_drop_leaf, with_match, block_paths, paths_of, path_intervals}
use Rattle.nk_store.specs.ElseChild.{Span, spans, size_of, largest, else_of}
use Rattle.nk_extract.specs.Ways.{span_ways, node_ways, is_empty_leaf, ways_in, bucket_list}
use Rattle.nk_extract.proofs.Trees.{Tree, same_tree_tells, same_tree_self}
use Rattle.nk_store.specs.Trees.{branches_of, tree_in}
use Rattle.nk_store.proofs.Trees.{tree_leaf, tree_case}
use Rattle.nk_extract.proofs.Walks.{ways_at_case, ways_at_leaf}

-- a node whose children's trees are told apart by their numbers
module _ (maxima : List ℕ) (tree : ℕ → Tree) (ways : ℕ → List Path) (Good : ℕ → Type 0) (one : (c k : ℕ) → Good c → Good k → tree c ≡ tree k → c ≡ k) (made : (c : ℕ) → Good c → ways c ≡ paths_of maxima (tree c)) where
  -- trees are the same exactly where their numbers are
  same_is : (c k : ℕ) → Good c → Good k → same_tree (tree c) same_buckets (tree k) ≡ (c == k)
  same_is c k g h = elim (eqb_tells c k) [
    | inl same ↦ ap (λ z. same_tree (tree c) same_buckets (tree z)) (sym same.1) ∙ same_tree_self (tree c) ∙ sym same.0
    | inr other ↦ by (same_tree (tree c) same_buckets (tree k)) refl other.1 ∙ sym other.0
  ]
    where
      by : (b : Bool) → same_tree (tree c) same_buckets (tree k) ≡ b → c ≢ k → b ≡ false
      by true e n = absurd (n (one c k g h (same_tree_tells (tree c) (tree k) e)))
      by false e n = refl

  -- in either order
  same_back : (c k : ℕ) → Good c → Good k → same_tree (tree c) same_buckets (tree k) ≡ (k == c)
  same_back c k g h = same_is c k g h ∙ turn c k
    where
      -- a test of numbers in either order
      turn : (m n : ℕ) → (m == n) ≡ (n == m)
      turn m n = grind (arith, nat_tests)

  -- as many values have a tree as have its number
  size_is :
      (c : ℕ) (ps : List (ℕ × ℕ)) (from : ℕ) → Good c → Each Good ps
      → values_with same_buckets (tree c) (path_intervals maxima (branches_of ps tree) from) ≡ size_of c (spans ps from)
  size_is c [] from g e = refl
  size_is c (p ∷ ps) from g e =
      ap (λ b. cond b (p.0 + 1 - from) 0 + values_with same_buckets (tree c) (path_intervals maxima (branches_of ps tree) (p.0 + 1))) (same_is c p.1 g e.0)
      ∙ ap (λ n. cond (c == p.1) (p.0 + 1 - from) 0 + n) (size_is c ps (p.0 + 1) g e.1)

  -- the interval that is found has the child that is found
  record IsAt (i : PathInterval) (c : ℕ) : Type 0 where
    child : i.child ≡ tree c
    paths : i.made ≡ paths_of maxima (tree c)
    good : Good c

  -- the else-child is found alike by trees and by numbers
  most_is :
      (all : List PathInterval) (ss : List Span)
      → ((c : ℕ) → Good c → values_with same_buckets (tree c) all ≡ size_of c ss)
      → (i : PathInterval) (b : ℕ) (ps : List (ℕ × ℕ)) (from : ℕ) → IsAt i b → Each Good ps
      → IsAt (with_most same_buckets all i (path_intervals maxima (branches_of ps tree) from)) (largest ss b ps)
  most_is all ss sizes i b [] from a e = a
  most_is all ss sizes i b (p ∷ ps) from a e =
      let j : PathInterval = record { first = from; last = p.0; child = tree p.1; made = paths_of maxima (tree p.1) } in
      let test : nat_lt (values_with same_buckets i.child all) (values_with same_buckets (tree p.1) all) ≡ nat_lt (size_of b ss) (size_of p.1 ss) =
      ap (λ t. nat_lt (values_with same_buckets t all) (values_with same_buckets (tree p.1) all)) a.child
      ∙ ap (λ n. nat_lt n (values_with same_buckets (tree p.1) all)) (sizes b a.good)
      ∙ ap (λ n. nat_lt (size_of b ss) n) (sizes p.1 e.0) in
      subst (λ t. IsAt (cond t (with_most same_buckets all j (path_intervals maxima (branches_of ps tree) (p.0 + 1))) (with_most same_buckets all i (path_intervals maxima (branches_of ps tree) (p.0 + 1)))) (cond (nat_lt (size_of b ss) (size_of p.1 ss)) (largest ss p.1 ps) (largest ss b ps))) (sym test)
      (by (nat_lt (size_of b ss) (size_of p.1 ss))
      (most_is all ss sizes j p.1 ps (p.0 + 1) record { child = refl; paths = refl; good = e.0 } e.1)
      (most_is all ss sizes i b ps (p.0 + 1) a e.1))
    where
      by : (t : Bool) → IsAt (with_most same_buckets all record { first = from; last = p.0; child = tree p.1; made = paths_of maxima (tree p.1) } (path_intervals maxima (branches_of ps tree) (p.0 + 1))) (largest ss p.1 ps) → IsAt (with_most same_buckets all i (path_intervals maxima (branches_of ps tree) (p.0 + 1))) (largest ss b ps) → IsAt (cond t (with_most same_buckets all record { first = from; last = p.0; child = tree p.1; made = paths_of maxima (tree p.1) } (path_intervals maxima (branches_of ps tree) (p.0 + 1))) (with_most same_buckets all i (path_intervals maxima (branches_of ps tree) (p.0 + 1)))) (cond t (largest ss p.1 ps) (largest ss b ps))
      by true x y = x
      by false x y = y

  -- the ways of blocks are the same
  blocks_are :
      (max f : ℕ) (other : PathInterval) (c : ℕ) (ps : List (ℕ × ℕ)) (from : ℕ) → IsAt other c
      → Each Good ps
      → flat_map (span_ways max f (is_drop_leaf (tree c)) c ways) (spans ps from) ≡ flat_map (block_paths max f other) (path_intervals maxima (branches_of ps tree) from)
  blocks_are max f other c [] from a e = refl
  blocks_are max f other c (p ∷ ps) from a e =
      ap (λ l. l ++ flat_map (span_ways max f (is_drop_leaf (tree c)) c ways) (spans ps (p.0 + 1)))
      (ap (λ t. cond t [] (flat_map (λ b. map (with_match f (is_drop_leaf (tree c)) b) (ways p.1)) (blocks_of from p.0 max))) (sym (same_back c p.1 a.good e.0))
      ∙ ap (λ l. cond (same_tree (tree c) same_buckets (tree p.1)) [] (flat_map (λ b. map (with_match f (is_drop_leaf (tree c)) b) l) (blocks_of from p.0 max))) (made p.1 e.0)
      ∙ ap (λ t. cond (same_tree t same_buckets (tree p.1)) [] (flat_map (λ b. map (with_match f (is_drop_leaf t) b) (paths_of maxima (tree p.1))) (blocks_of from p.0 max))) (sym a.child))
      ∙ ap (λ l. block_paths max f other record { first = from; last = p.0; child = tree p.1; made = paths_of maxima (tree p.1) } ++ l) (blocks_are max f other c ps (p.0 + 1) a e.1)

  -- the ways of a choice are those of its tree
  pub node_is :
      (maxes : List ℕ) (tag f : ℕ) (ps : List (ℕ × ℕ)) (drops : ℕ → Bool)
      → slice_index maxes f ≡ slice_index maxima f → ((c : ℕ) → Good c → drops c ≡ is_drop_leaf (tree c))
      → 0 < length ps → Each Good ps
      → node_ways maxes tag (Case f ps) drops ways ≡ paths_of maxima (case f (branches_of ps tree))
  node_is maxes tag f [] drops same d h e = absurd (omega arith)
  node_is maxes tag f (p ∷ ps) drops same d h e =
      let i : PathInterval = record { first = 0; last = p.0; child = tree p.1; made = paths_of maxima (tree p.1) } in
      let all = path_intervals maxima (branches_of (p ∷ ps) tree) 0 in
      let c = else_of (p ∷ ps) in
      let other = with_most same_buckets all i (path_intervals maxima (branches_of ps tree) (p.0 + 1)) in
      let first : largest (spans (p ∷ ps) 0) p.1 (p ∷ ps) ≡ largest (spans (p ∷ ps) 0) p.1 ps = itself (size_of p.1 (spans (p ∷ ps) 0)) in
      let a : IsAt other c = subst (IsAt other) (sym first) (most_is all (spans (p ∷ ps) 0) (λ k g. size_is k (p ∷ ps) 0 g e) i p.1 ps (p.0 + 1) record { child = refl; paths = refl; good = e.0 } e.1) in
      ap (λ m. flat_map (span_ways m f (drops c) c ways) (spans (p ∷ ps) 0) ++ ways c) same
      ∙ ap (λ b. flat_map (span_ways (slice_index maxima f) f b c ways) (spans (p ∷ ps) 0) ++ ways c) (d c a.good)
      ∙ ap (λ l. l ++ ways c) (blocks_are (slice_index maxima f) f other c (p ∷ ps) 0 a e)
      ∙ ap (λ l. flat_map (block_paths (slice_index maxima f) f other) all ++ l) (made c a.good ∙ sym a.paths)
    where
      -- a test between a thing and itself
      itself :
          (n : ℕ)
          → cond (nat_lt n n) (largest (spans (p ∷ ps) 0) p.1 ps) (largest (spans (p ∷ ps) 0) p.1 ps) ≡ largest (spans (p ∷ ps) 0) p.1 ps
      itself n = by (nat_lt n n)
        where
          by :
              (b : Bool)
              → cond b (largest (spans (p ∷ ps) 0) p.1 ps) (largest (spans (p ∷ ps) 0) p.1 ps) ≡ largest (spans (p ∷ ps) 0) p.1 ps
          by true = refl
          by false = refl

-- the empty leaf is the drop tree
drops_by :
    (tag : ℕ) (ns : List Node) (c : ℕ) (n : Node) → c < length ns → node_at ns c ≡ n
    → ((f : ℕ) (ps : List (ℕ × ℕ)) → n ≡ Case f ps → Each (λ k. k < c) ps)
    → is_empty_leaf n ≡ is_drop_leaf (tree_in (bucket_list tag) ns c)
drops_by tag ns c (Leaf []) h e b = sym (ap is_drop_leaf (tree_leaf (bucket_list tag) ns c [] h e))
drops_by tag ns c (Leaf (o ∷ os)) h e b = sym (ap is_drop_leaf (tree_leaf (bucket_list tag) ns c (o ∷ os) h e))
drops_by tag ns c (Case f ps) h e b = sym (ap is_drop_leaf (tree_case (bucket_list tag) ns c f ps h e (b f ps refl)))

module _ (maxes maxima : List ℕ) (same : (f : ℕ) → slice_index maxes f ≡ slice_index maxima f) (tag : ℕ) (ns : List Node) (Good : ℕ → Type 0) (id : (d : ℕ) → Good d → d < length ns) (some : (d f : ℕ) (ps : List (ℕ × ℕ)) → Good d → node_at ns d ≡ Case f ps → 0 < length ps) (below : (d f : ℕ) (ps : List (ℕ × ℕ)) → Good d → node_at ns d ≡ Case f ps → Each (λ c. c < d) ps) (good : (d f : ℕ) (ps : List (ℕ × ℕ)) → Good d → node_at ns d ≡ Case f ps → Each Good ps) (one : (c d : ℕ) → Good c → Good d → tree_in (bucket_list tag) ns c ≡ tree_in (bucket_list tag) ns d → c ≡ d) where
  -- what holds of each child twice
  both : (P Q : ℕ → Type 0) (ps : List (ℕ × ℕ)) → Each P ps → Each Q ps → Each (λ c. P c × Q c) ps
  both P Q [] a b = tt
  both P Q (p ∷ ps) a b = ((a.0, b.0), both P Q ps a.1 b.1)

  -- the ways of one node, by those of its children
  at_node :
      (m i : ℕ) (n : Node) → ((c : ℕ) → c < i → Good c → ways_in maxes tag ns c ≡ paths_of maxima (tree_in (bucket_list tag) ns c))
      → Good i → node_at ns i ≡ n → ways_in maxes tag ns i ≡ paths_of maxima (tree_in (bucket_list tag) ns i)
  at_node m i (Leaf outs) ih g e = ways_at_leaf maxes tag ns i outs (id i g) e ∙ sym (ap (paths_of maxima) (tree_leaf (bucket_list tag) ns i outs (id i g) e))
  at_node m i (Case f ps) ih g e =
      ways_at_case maxes tag ns i f ps (id i g) e (some i f ps g e) (below i f ps g e)
      ∙ node_is maxima (λ c. tree_in (bucket_list tag) ns c) (λ c. ways_in maxes tag ns c) (λ c. (c < i) × Good c) (λ c k a b t. one c k a.1 b.1 t) (λ c a. ih c a.0 a.1) maxes tag f ps (λ c. is_empty_leaf (node_at ns c)) (same f)
      (λ c a. drops_by tag ns c (node_at ns c) (id c a.1) refl (λ h qs q. below c h qs a.1 q)) (some i f ps g e) (both (λ c. c < i) Good ps (below i f ps g e) (good i f ps g e))
      ∙ sym (ap (paths_of maxima) (tree_case (bucket_list tag) ns i f ps (id i g) e (below i f ps g e)))

  -- the ways of the numbers below m
  up_to : (m i : ℕ) → i < m → Good i → ways_in maxes tag ns i ≡ paths_of maxima (tree_in (bucket_list tag) ns i)
  up_to zero i h g = absurd (omega arith)
  up_to (suc m) i h g = at_node m i (node_at ns i) (λ c l k. up_to m c (omega (arith, l, h)) k) g refl

  -- the ways of a good number are those of its tree
  pub ways_are : (i : ℕ) → Good i → ways_in maxes tag ns i ≡ paths_of maxima (tree_in (bucket_list tag) ns i)
  ways_are i g = up_to (suc i) i (omega arith) g
