-- The steps of the walk over a diagram.
use Rattle.std.proofs.Common.{◌≡◌, ℕ, ◌+◌, ◌<◌, Bool, true, false, cond, min, inl, inr, List, [], ◌∷◌, ◌++◌, length, Result, Ok, Err, OnOk, refl, sym, ap, ◌∙◌, arith, append_assoc, append-nil, eqb, get_or, drop, drop-cons, suc}
use Rattle.std.specs.Prelude.{◌==◌, ◌||◌, not, map, filter, slice_index}
use Rattle.std.specs.List.{flat_map}
use Rattle.std.proofs.lemmas.Bool.Decides.{nat_tests, eqb_tells}
use Rattle.nk_store.specs.ElseChild.{Span, spans, else_of}
use Rattle.nk_store.proofs.Children.{else_has, each_of}
use Rattle.nk_store.specs.declared.node.Node.{Node}
use Rattle.nk_store.specs.declared.node.Node.TheVariants.{Leaf, Case}
use Rattle.nk_store.specs.declared.node.Out.{Out}
use Rattle.nk_store.specs.Nodes.{node_at, Each}
use Rattle.nk_store.specs.StoreState.{StoreState, IsId, node_of}
use Rattle.nk_prefix.specs.Blocks.{blocks_of}
use Rattle.nk_store.proofs.Looks.{node_at-old, node_at-new}
use Rattle.nk_table.specs.declared.Plain.{Plain}
use Rattle.nk_extract.specs.RuleTree.{Path, is_drop_list, with_match, priority_of, put_match}
use Rattle.nk_store.specs.ElseChild.{Span, spans, else_of}
use Rattle.nk_extract.specs.Ways.{span_ways, node_ways, is_empty_leaf, ways_in, ways, row_after, rows_following, span_rows, bucket_list}
use Rattle.nk_extract.proofs.Lists.{filter_same, filter_map_is, filter_append_is, map_append_is}
use Rattle.nk_extract.proofs.Paths.{flags}

-- a sum may be clamped before it is complete
pub clamped :
    (all bit rest : ℕ) → min 65535 (min (min 4294967295 (all + bit)) 65535 + rest) ≡ min 65535 (all + (bit + rest))
clamped all bit rest = omega arith

-- the ways of a node
spans_same :
    (max f : ℕ) (drops : Bool) (other : ℕ) (w v : ℕ → List Path) (ps : List (ℕ × ℕ)) (from : ℕ)
    → Each (λ c. w c ≡ v c) ps
    → flat_map (span_ways max f drops other w) (spans ps from) ≡ flat_map (span_ways max f drops other v) (spans ps from)
spans_same max f drops other w v [] from e = refl
spans_same max f drops other w v (p ∷ ps) from e =
    ap (λ l. cond (p.1 == other) [] (flat_map (λ b. map (with_match f drops b) l) (blocks_of from p.0 max)) ++ flat_map (span_ways max f drops other w) (spans ps (p.0 + 1))) e.0
    ∙ ap (λ l. span_ways max f drops other v record { first = from; last = p.0; child = p.1 } ++ l) (spans_same max f drops other w v ps (p.0 + 1) e.1)

-- a choice by other words for its children
case_same :
    (maxes : List ℕ) (tag f : ℕ) (ps : List (ℕ × ℕ)) (d e : ℕ → Bool) (w v : ℕ → List Path) → 0 < length ps
    → Each (λ c. (d c ≡ e c) × (w c ≡ v c)) ps
    → node_ways maxes tag (Case f ps) d w ≡ node_ways maxes tag (Case f ps) e v
case_same maxes tag f ps d e w v h s =
    let max = slice_index maxes f in
    let other = else_of ps in
    let both = else_has (λ c. (d c ≡ e c) × (w c ≡ v c)) ps h s in
    ap (λ b. flat_map (span_ways max f b other w) (spans ps 0) ++ w other) both.0
    ∙ ap (λ l. l ++ w other) (spans_same max f (e other) other w v ps 0 (each_of (λ c. (d c ≡ e c) × (w c ≡ v c)) (λ c. w c ≡ v c) ps (λ c p. p.1) s))
    ∙ ap (λ l. flat_map (span_ways max f (e other) other v) (spans ps 0) ++ l) both.1

-- an older node keeps its ways
ways_old :
    (maxes : List ℕ) (tag : ℕ) (n : Node) (older : List Node) (c : ℕ) → c < length older
    → ways_in maxes tag (n ∷ older) c ≡ ways_in maxes tag older c
ways_old maxes tag n older c h = ap (λ b. cond b (node_ways maxes tag n (λ c. is_empty_leaf (node_at older c)) (λ c. ways_in maxes tag older c)) (ways_in maxes tag older c)) (let e : eqb c (length older) ≡ false = grind (arith, nat_tests, h) in e)

-- the newest node has the ways of its children
ways_new :
    (maxes : List ℕ) (tag : ℕ) (n : Node) (older : List Node) (c : ℕ) → c ≡ length older
    → ways_in maxes tag (n ∷ older) c ≡ node_ways maxes tag n (λ c. is_empty_leaf (node_at older c)) (λ c. ways_in maxes tag older c)
ways_new maxes tag n older c h = ap (λ b. cond b (node_ways maxes tag n (λ c. is_empty_leaf (node_at older c)) (λ c. ways_in maxes tag older c)) (ways_in maxes tag older c)) (let e : eqb c (length older) ≡ true = grind (arith, nat_tests, h) in e)

-- the ways of a choice, by its number
pub ways_at_case :
    (maxes : List ℕ) (tag : ℕ) (ns : List Node) (i f : ℕ) (ps : List (ℕ × ℕ)) → i < length ns → node_at ns i ≡ Case f ps
    → 0 < length ps → Each (λ c. c < i) ps
    → ways_in maxes tag ns i ≡ node_ways maxes tag (Case f ps) (λ c. is_empty_leaf (node_at ns c)) (λ c. ways_in maxes tag ns c)
ways_at_case maxes tag [] i f ps h e some below = absurd (omega arith)
ways_at_case maxes tag (n ∷ older) i f ps h e some below =
    elim (eqb_tells i (length older)) [
      | inl same ↦
          let e' : n ≡ Case f ps = sym (node_at-new n older) ∙ ap (λ k. node_at (n ∷ older) k) (sym same.1) ∙ e in
          ways_new maxes tag n older i same.1
          ∙ ap (λ m. node_ways maxes tag m (λ c. is_empty_leaf (node_at older c)) (λ c. ways_in maxes tag older c)) e'
          ∙ case_same maxes tag f ps (λ c. is_empty_leaf (node_at older c)) (λ c. is_empty_leaf (node_at (n ∷ older) c)) (λ c. ways_in maxes tag older c) (λ c. ways_in maxes tag (n ∷ older) c) some
          (each_of (λ c. c < i) (λ c. (is_empty_leaf (node_at older c) ≡ is_empty_leaf (node_at (n ∷ older) c)) × (ways_in maxes tag older c ≡ ways_in maxes tag (n ∷ older) c)) ps (λ c l. let k : c < length older = omega (arith, l, same.1) in (ap is_empty_leaf (sym (node_at-old n older c k)), sym (ways_old maxes tag n older c k))) below)
      | inr other ↦
          let below' : i < length older = omega (arith, other.1) in
          ways_old maxes tag n older i below'
          ∙ ways_at_case maxes tag older i f ps below' (sym (node_at-old n older i below') ∙ e) some below
          ∙ case_same maxes tag f ps (λ c. is_empty_leaf (node_at older c)) (λ c. is_empty_leaf (node_at (n ∷ older) c)) (λ c. ways_in maxes tag older c) (λ c. ways_in maxes tag (n ∷ older) c) some
          (each_of (λ c. c < i) (λ c. (is_empty_leaf (node_at older c) ≡ is_empty_leaf (node_at (n ∷ older) c)) × (ways_in maxes tag older c ≡ ways_in maxes tag (n ∷ older) c)) ps (λ c l. let k : c < length older = omega (arith, l, below') in (ap is_empty_leaf (sym (node_at-old n older c k)), sym (ways_old maxes tag n older c k))) below)
    ]

-- the ways of a choice in the store
pub ways_case :
    (tag : ℕ) (st : StoreState) (i f : ℕ) (ps : List (ℕ × ℕ)) → IsId st i → node_of st i ≡ Case f ps
    → 0 < length ps → Each (λ c. c < i) ps
    → ways tag st i ≡ node_ways st.maxes tag (Case f ps) (λ c. is_empty_leaf (node_of st c)) (ways tag st)
unfolding IsId node_of ways
ways_case tag st i f ps h e some below = ways_at_case st.maxes tag st.nodes i f ps h e some below

-- the way of a leaf, by its number
pub ways_at_leaf : (maxes : List ℕ) (tag : ℕ) (ns : List Node) (i : ℕ) (outs : List Out) → i < length ns → node_at ns i ≡ Leaf outs → ways_in maxes tag ns i ≡ record { matches = []; buckets = bucket_list tag outs; shown = false } ∷ []
ways_at_leaf maxes tag [] i outs h e = absurd (omega arith)
ways_at_leaf maxes tag (n ∷ older) i outs h e =
    elim (eqb_tells i (length older)) [
      | inl same ↦
          let e' : n ≡ Leaf outs = sym (node_at-new n older) ∙ ap (λ k. node_at (n ∷ older) k) (sym same.1) ∙ e in
          ways_new maxes tag n older i same.1 ∙ ap (λ m. node_ways maxes tag m (λ c. is_empty_leaf (node_at older c)) (λ c. ways_in maxes tag older c)) e'
      | inr other ↦
          let below : i < length older = omega (arith, other.1) in
          ways_old maxes tag n older i below ∙ ways_at_leaf maxes tag older i outs below (sym (node_at-old n older i below) ∙ e)
    ]

-- the way of a leaf in the store
pub ways_leaf : (tag : ℕ) (st : StoreState) (i : ℕ) (outs : List Out) → IsId st i → node_of st i ≡ Leaf outs → ways tag st i ≡ record { matches = []; buckets = bucket_list tag outs; shown = false } ∷ []
unfolding IsId node_of ways
ways_leaf tag st i outs h e = ways_at_leaf st.maxes tag st.nodes i outs h e

-- rows after a way
map_twice :
    {A B C : Type 0} (g : B → C) (h : A → B) (xs : List A) → map g (map h xs) ≡ map (λ x. g (h x)) xs
map_twice g h [] = refl
map_twice g h (x ∷ xs) = ap (λ l. g (h x) ∷ l) (map_twice g h xs)

-- functions that agree have the same images
map_same : {A B : Type 0} (g h : A → B) (xs : List A) → ((x : A) → g x ≡ h x) → map g xs ≡ map h xs
map_same g h [] e = refl
map_same g h (x ∷ xs) e = ap (λ y. y ∷ map g xs) (e x) ∙ ap (λ l. h x ∷ l) (map_same g h xs e)

module _ (width : ℕ) (tag : ℕ × ℕ × ℕ) (ms : List (ℕ × ℕ × ℕ)) (all : Bool) where
  -- the rows of ways joined
  after_append :
      (ps qs : List Path)
      → rows_following width tag ms all (ps ++ qs) ≡ rows_following width tag ms all ps ++ rows_following width tag ms all qs
  after_append ps qs =
      ap (map (row_after width tag ms)) (filter_append_is (λ p. (not (is_drop_list p.buckets) || p.shown) || all) ps qs)
      ∙ map_append_is (row_after width tag ms) (filter (λ p. (not (is_drop_list p.buckets) || p.shown) || all) ps) (filter (λ p. (not (is_drop_list p.buckets) || p.shown) || all) qs)

  -- the rows of ways with one more match
  after_match :
      (f : ℕ) (b : ℕ × ℕ) (drops : Bool) (ps : List Path)
      → rows_following width tag ms all (map (with_match f drops b) ps) ≡ rows_following width tag (ms ++ (f, b.0, b.1) ∷ []) (not drops || all) ps
  after_match f b drops ps =
      ap (map (row_after width tag ms))
      (filter_map_is (λ p. (not (is_drop_list p.buckets) || p.shown) || all) (with_match f drops b) ps
      ∙ ap (map (with_match f drops b)) (filter_same _ (λ p. (not (is_drop_list p.buckets) || p.shown) || (not drops || all)) ps (λ q. flags (not (is_drop_list q.buckets)) drops q.shown all)))
      ∙ map_twice (row_after width tag ms) (with_match f drops b) (filter (λ p. (not (is_drop_list p.buckets) || p.shown) || (not drops || all)) ps)
      ∙ map_same _ (row_after width tag (ms ++ (f, b.0, b.1) ∷ [])) (filter (λ p. (not (is_drop_list p.buckets) || p.shown) || (not drops || all)) ps)
      (λ q. ap (λ (l : List (ℕ × ℕ × ℕ)). (record { priority = min 65535 (priority_of width tag.0 l); matches = put_match tag l; buckets = q.buckets })) (sym (append_assoc ms ((f, b.0, b.1) ∷ []) q.matches)))

  -- the rows of several blocks
  after_blocks :
      (f : ℕ) (drops : Bool) (ps : List Path) (bs : List (ℕ × ℕ))
      → rows_following width tag ms all (flat_map (λ b. map (with_match f drops b) ps) bs) ≡ flat_map (λ b. rows_following width tag (ms ++ (f, b.0, b.1) ∷ []) (not drops || all) ps) bs
  after_blocks f drops ps [] = refl
  after_blocks f drops ps (b ∷ bs) =
      after_append (map (with_match f drops b) ps) (flat_map (λ c. map (with_match f drops c) ps) bs)
      ∙ ap (λ l. l ++ rows_following width tag ms all (flat_map (λ c. map (with_match f drops c) ps) bs)) (after_match f b drops ps)
      ∙ ap (λ l. rows_following width tag (ms ++ (f, b.0, b.1) ∷ []) (not drops || all) ps ++ l) (after_blocks f drops ps bs)

  -- the rows of an interval
  after_span :
      (max f : ℕ) (drops : Bool) (other : ℕ) (w : ℕ → List Path) (s : Span)
      → rows_following width tag ms all (span_ways max f drops other w s) ≡ span_rows width tag ms max f (not drops || all) other w s
  after_span max f drops other w s = by (s.child == other)
    where
      by :
          (t : Bool)
          → rows_following width tag ms all (cond t [] (flat_map (λ b. map (with_match f drops b) (w s.child)) (blocks_of s.first s.last max))) ≡ cond t [] (flat_map (λ b. rows_following width tag (ms ++ (f, b.0, b.1) ∷ []) (not drops || all) (w s.child)) (blocks_of s.first s.last max))
      by true = refl
      by false = after_blocks f drops (w s.child) (blocks_of s.first s.last max)

  -- the rows of intervals
  after_spans :
      (max f : ℕ) (drops : Bool) (other : ℕ) (w : ℕ → List Path) (ss : List Span)
      → rows_following width tag ms all (flat_map (span_ways max f drops other w) ss) ≡ flat_map (span_rows width tag ms max f (not drops || all) other w) ss
  after_spans max f drops other w [] = refl
  after_spans max f drops other w (s ∷ ss) =
      after_append (span_ways max f drops other w s) (flat_map (span_ways max f drops other w) ss)
      ∙ ap (λ l. l ++ rows_following width tag ms all (flat_map (span_ways max f drops other w) ss)) (after_span max f drops other w s)
      ∙ ap (λ l. span_rows width tag ms max f (not drops || all) other w s ++ l) (after_spans max f drops other w ss)

  -- the rows of a choice
  pub after_node :
      (maxes : List ℕ) (f : ℕ) (ps : List (ℕ × ℕ)) (d : ℕ → Bool) (w : ℕ → List Path)
      → rows_following width tag ms all (node_ways maxes tag.0 (Case f ps) d w) ≡ flat_map (span_rows width tag ms (slice_index maxes f) f (not (d (else_of ps)) || all) (else_of ps) w) (spans ps 0) ++ rows_following width tag ms all (w (else_of ps))
  after_node maxes f ps d w =
      after_append (flat_map (span_ways (slice_index maxes f) f (d (else_of ps)) (else_of ps) w) (spans ps 0)) (w (else_of ps))
      ∙ ap (λ l. l ++ rows_following width tag ms all (w (else_of ps))) (after_spans (slice_index maxes f) f (d (else_of ps)) (else_of ps) w (spans ps 0))

-- what holds of an Ok answer
pub on_ok : {T E : Type 0} (r : Result T E) (P Q : Type 0) → (P → Q) → OnOk r P → OnOk r Q
on_ok (Ok x) P Q f h = f h
on_ok (Err e) P Q f h = h

-- the end of the loop over parts
pub case_returns :
    (width : ℕ) (tag : ℕ × ℕ × ℕ) (ms : List (ℕ × ℕ × ℕ)) (all : Bool) (maxes : List ℕ) (max f : ℕ) (ps : List (ℕ × ℕ)) (d : ℕ → Bool) (w : ℕ → List Path) (before mid after : List Plain) (other : ℕ) (shown : Bool) (rest : List (ℕ × ℕ)) (from : ℕ)
    → max ≡ slice_index maxes f → other ≡ else_of ps → shown ≡ (not (d other) || all) → rest ≡ []
    → mid ++ flat_map (span_rows width tag ms max f shown other w) (spans rest from) ≡ before ++ flat_map (span_rows width tag ms max f shown other w) (spans ps 0)
    → after ≡ mid ++ rows_following width tag ms all (w other)
    → after ≡ before ++ rows_following width tag ms all (node_ways maxes tag.0 (Case f ps) d w)
case_returns width tag ms all maxes max f ps d w before mid after other shown rest from top is s none made h =
    let mid_is : mid ≡ before ++ flat_map (span_rows width tag ms max f shown other w) (spans ps 0) =
    sym (append-nil mid) ∙ ap (λ l. mid ++ flat_map (span_rows width tag ms max f shown other w) (spans l from)) (sym none) ∙ made in
    let flag : shown ≡ (not (d (else_of ps)) || all) = s ∙ ap (λ o. not (d o) || all) is in
    h
    ∙ ap (λ l. l ++ rows_following width tag ms all (w other)) mid_is
    ∙ append_assoc before (flat_map (span_rows width tag ms max f shown other w) (spans ps 0)) (rows_following width tag ms all (w other))
    ∙ ap (λ o. before ++ (flat_map (span_rows width tag ms max f shown o w) (spans ps 0) ++ rows_following width tag ms all (w o))) is
    ∙ ap (λ b. before ++ (flat_map (span_rows width tag ms max f b (else_of ps) w) (spans ps 0) ++ rows_following width tag ms all (w (else_of ps)))) flag
    ∙ ap (λ m. before ++ (flat_map (span_rows width tag ms m f (not (d (else_of ps)) || all) (else_of ps) w) (spans ps 0) ++ rows_following width tag ms all (w (else_of ps)))) top
    ∙ ap (λ l. before ++ l) (sym (after_node width tag ms all maxes f ps d w))

-- an empty leaf that isn't shown has no row
pub leaf_none :
    (width : ℕ) (tag : ℕ × ℕ × ℕ) (ms : List (ℕ × ℕ × ℕ)) (all : Bool) (outs : List Out) → length outs ≡ 0 → all ≡ false
    → rows_following width tag ms all (record { matches = []; buckets = bucket_list tag.0 outs; shown = false } ∷ []) ≡ []
leaf_none width tag ms all [] h e = ap (λ b. rows_following width tag ms b (record { matches = []; buckets = []; shown = false } ∷ [])) e
leaf_none width tag ms all (o ∷ os) h e = absurd (omega (arith, h))

-- another leaf has one
pub leaf_one :
    (width : ℕ) (tag : ℕ × ℕ × ℕ) (ms : List (ℕ × ℕ × ℕ)) (all : Bool) (outs : List Out) → (length outs ≡ 0 → all ≡ true)
    → record { priority = min 65535 (priority_of width tag.0 ms); matches = put_match tag ms; buckets = bucket_list tag.0 outs } ∷ []
    ≡ rows_following width tag ms all (record { matches = []; buckets = bucket_list tag.0 outs; shown = false } ∷ [])
leaf_one width tag ms all [] h =
    ap (λ (l : List (ℕ × ℕ × ℕ)). (record { priority = min 65535 (priority_of width tag.0 l); matches = put_match tag l; buckets = [] }) ∷ []) (sym (append-nil ms))
    ∙ ap (λ b. rows_following width tag ms b (record { matches = []; buckets = []; shown = false } ∷ [])) (sym (h refl))
leaf_one width tag ms all (o ∷ os) h =
    ap (λ (l : List (ℕ × ℕ × ℕ)). (record { priority = min 65535 (priority_of width tag.0 l); matches = put_match tag l; buckets = bucket_list tag.0 (o ∷ os) }) ∷ []) (sym (append-nil ms))

-- the rows of an interval's blocks, unless it has the else-child
pub span_none :
    (width : ℕ) (tag : ℕ × ℕ × ℕ) (ms : List (ℕ × ℕ × ℕ)) (max f : ℕ) (all : Bool) (other : ℕ) (w : ℕ → List Path) (s : Span)
    → (s.child == other) ≡ true → span_rows width tag ms max f all other w s ≡ []
span_none width tag ms max f all other w s e =
    ap (λ b. cond b [] (flat_map (λ b. rows_following width tag (ms ++ (f, b.0, b.1) ∷ []) all (w s.child)) (blocks_of s.first s.last max))) e

pub span_all :
    (width : ℕ) (tag : ℕ × ℕ × ℕ) (ms : List (ℕ × ℕ × ℕ)) (max f : ℕ) (all : Bool) (other : ℕ) (w : ℕ → List Path) (s : Span)
    → (s.child == other) ≡ false
    → flat_map (λ b. rows_following width tag (ms ++ (f, b.0, b.1) ∷ []) all (w s.child)) (blocks_of s.first s.last max) ≡ span_rows width tag ms max f all other w s
span_all width tag ms max f all other w s e =
    sym (ap (λ b. cond b [] (flat_map (λ b. rows_following width tag (ms ++ (f, b.0, b.1) ∷ []) all (w s.child)) (blocks_of s.first s.last max))) e)

-- a single value is one block
pub span_one :
    (width : ℕ) (tag : ℕ × ℕ × ℕ) (ms : List (ℕ × ℕ × ℕ)) (max f : ℕ) (all : Bool) (other : ℕ) (w : ℕ → List Path) (s : Span) (b : ℕ × ℕ)
    → (s.child == other) ≡ false → blocks_of s.first s.last max ≡ b ∷ []
    → rows_following width tag (ms ++ (f, b.0, b.1) ∷ []) all (w s.child) ≡ span_rows width tag ms max f all other w s
span_one width tag ms max f all other w s b e is =
    sym (append-nil (rows_following width tag (ms ++ (f, b.0, b.1) ∷ []) all (w s.child)))
    ∙ ap (flat_map (λ b. rows_following width tag (ms ++ (f, b.0, b.1) ∷ []) all (w s.child))) (sym is)
    ∙ span_all width tag ms max f all other w s e

-- one more span, and one more block
pub parts_on :
    (width : ℕ) (tag : ℕ × ℕ × ℕ) (ms : List (ℕ × ℕ × ℕ)) (max f : ℕ) (all : Bool) (other : ℕ) (w : ℕ → List Path) (rows total : List Plain) (p : ℕ × ℕ) (ps rest : List (ℕ × ℕ)) (from : ℕ)
    → ps ≡ p ∷ rest
    → rows ++ flat_map (span_rows width tag ms max f all other w) (spans ps from) ≡ total
    → (rows ++ span_rows width tag ms max f all other w (record { first = from; last = p.0; child = p.1 })) ++ flat_map (span_rows width tag ms max f all other w) (spans rest (p.0 + 1)) ≡ total
parts_on width tag ms max f all other w rows total p ps rest from is made =
    append_assoc rows (span_rows width tag ms max f all other w (record { first = from; last = p.0; child = p.1 })) (flat_map (span_rows width tag ms max f all other w) (spans rest (p.0 + 1)))
    ∙ ap (λ l. rows ++ flat_map (span_rows width tag ms max f all other w) (spans l from)) (sym is)
    ∙ made

pub blocks_on :
    {X : Type 0} (made : X → List Plain) (rows total : List Plain) (b : X) (bs rest : List X) → bs ≡ b ∷ rest
    → rows ++ flat_map made bs ≡ total → (rows ++ made b) ++ flat_map made rest ≡ total
blocks_on made rows total b bs rest is so = append_assoc rows (made b) (flat_map made rest) ∙ ap (λ l. rows ++ flat_map made l) (sym is) ∙ so

-- no block is left
pub blocks_done :
    {X : Type 0} (made : X → List Plain) (rows total : List Plain) (rest : List X) → rest ≡ [] → rows ++ flat_map made rest ≡ total → rows ≡ total
blocks_done made rows total rest none so = sym (append-nil rows) ∙ ap (λ l. rows ++ flat_map made l) (sym none) ∙ so

-- what is left at a place
pub rest_at : {A : Type 0} (xs : List A) (i : ℕ) (d : A) → i < length xs → drop i xs ≡ get_or xs i d ∷ drop (i + 1) xs
rest_at xs i d h = let one : suc i ≡ i + 1 = omega arith in drop-cons xs i d h ∙ ap (λ n. get_or xs i d ∷ drop n xs) one
