-- What a sound store gives its callers.
use Rattle.std.proofs.Common.{◌≡◌, ℕ, ◌<◌, ◌≤◌, List, [], ◌∷◌, ◌++◌, length, reverse, refl, sym, ◌∙◌, ap, subst, arith, get_or, set, inl, inr, Option}
use Rattle.std.proofs.lemmas.Bool.Decides.{eqb_tells}
use Rattle.std.proofs.lemmas.List.{length-reverse, reverse-reverse, reverse-append, get_or_append_left, get_or_at}
use Rattle.std.proofs.lemmas.Grind.{reverse_onto}
use Rattle.nk_store.specs.declared.node.Node.{Node}
use Rattle.nk_store.specs.declared.node.Node.TheVariants.{Leaf, Case}
use Rattle.nk_store.specs.declared.node.Out.{Out}
use Rattle.nk_store.specs.declared.operation.Key.{Key}
use Rattle.nk_store.specs.Nodes.{child_at, node_at, look_in, field_of_node, Rises, Each, TestsLater, Joined, joined, Fits, Sound}
use Rattle.nk_store.specs.StoreState.{StoreState, HasFields, IsId, node_of, look, root_field, Grows, HasLeaves, IsChild, AreParts, IsCase, IsNodeOf, IsStill, IsReduced, IsTidy, Agree, IsCanonical, recalled}
use Rattle.nk_store.proofs.Looks.{node_at-old, node_at-new, look-old, root_field-old, look_leaf, look_case, look_same, look_tidy, fits_at, leaf_fits_at, joined_some, each_child, each_weaker}
use Rattle.nk_store.proofs.Same.{same_number, tests_not}
use Rattle.nk_store.proofs.Joins.{joined_child, joined_rises, joined_each, joined_joined, joined_some as joined_more, single_child}

-- the store with other nodes
abbrev pub with_nodes : StoreState → List Node → StoreState
with_nodes st nodes = record st { nodes = nodes }

-- a store with no node
abbrev pub bare : List ℕ → ℕ → Option ℕ → List (Key × ℕ) → StoreState
bare maxes width tag kept = record { nodes = []; maxes = maxes; width = width; tag = tag; kept = kept }

-- what the store's nodes keep to
abbrev pub IsSound : StoreState → Type 0
IsSound st = HasFields st × Sound st.maxes st.nodes

-- a node of the list newest first, read from the list oldest first
node_back : (rs : List Node) (i : ℕ) (e : Node) → i < length rs → node_at rs i ≡ get_or (reverse rs) i e
node_back [] i e h = absurd (omega arith)
node_back (n ∷ older) i e h =
    let turned : reverse (n ∷ older) ≡ reverse older ++ n ∷ [] = reverse_onto older n [] in
    elim (eqb_tells i (length older)) [
      | inl same ↦ ap (λ k. node_at (n ∷ older) k) same.1 ∙ node_at-new n older ∙ sym (get_or_at (reverse older) n [] e i (length-reverse older ∙ sym same.1)) ∙ ap (λ xs. get_or xs i e) (sym turned)
      | inr other ↦
          let below : i < length older = omega (arith, other.1) in
          node_at-old n older i below ∙ node_back older i e below ∙ sym (get_or_append_left (reverse older) (n ∷ []) e i (omega (arith, length-reverse older)))
          ∙ ap (λ xs. get_or xs i e) (sym turned)
    ]

-- the newest node first, read by its number
pub node_reversed : (xs : List Node) (i : ℕ) (e : Node) → i < length xs →
    node_at (reverse xs) i ≡ get_or xs i e
node_reversed xs i e h = node_back (reverse xs) i e (omega (arith, length-reverse xs)) ∙ ap (λ ys. get_or ys i e) (reverse-reverse xs)

-- the nodes of a store that keeps them oldest first
pub kept_id : (st : StoreState) (base : StoreState) (xs : List Node) (d : ℕ) → with_nodes base (reverse xs) ≡ st →
    IsId st d → d < length xs
unfolding IsId
kept_id st base xs d e h = let k : d < length (reverse xs) = subst (λ (s : StoreState). d < length s.nodes) (sym e) h in omega (arith, length-reverse xs)

-- the node at a number's place of the list oldest first is the number's node
pub kept_node : (st : StoreState) (base : StoreState) (xs : List Node) (d : ℕ) (n : Node) →
    with_nodes base (reverse xs) ≡ st → IsId st d → n ≡ get_or xs d n → n ≡ node_of st d
unfolding node_of
kept_node st base xs d n e h k = k ∙ sym (node_reversed xs d n (kept_id st base xs d e h)) ∙ ap (λ (s : StoreState). node_at s.nodes d) e

-- a sound store's node is what is known of nodes
pub node_means : (st : StoreState) (d : ℕ) (n : Node) → IsSound st → IsId st d → node_of st d ≡ n → IsNodeOf st d n
unfolding IsId node_of look root_field
node_means st d (Leaf outs) s h e = record { root_field_is = ap field_of_node e; leaf = λ pk. look_leaf st.nodes d outs pk h e; sorted = (leaf_fits_at st.maxes st.nodes d outs s.1 h e).0; suits = (leaf_fits_at st.maxes st.nodes d outs s.1 h e).1 }
node_means st d (Case f parts) s h e =
    let fits = fits_at st.maxes st.nodes d f parts s.1 h e in
    record {
      parts_ok = record { field = fits.0.0; rise = fits.0.1; children = each_weaker _ _ parts (λ c l. record { id = l.0; later = l.1 }) fits.0.2 };
      below = fits.1;
      joined = fits.0.3;
      root_field_is = ap field_of_node e;
      leaf = λ pk. look_case st.maxes st.nodes d f parts pk s.1 h e;
    }

-- in a sound store, numbers that agree are one
pub same_id : (st : StoreState) (d e : ℕ) → IsSound st → IsId st d → IsId st e → Agree st d e → d ≡ e
unfolding IsId look
same_id st d e s h k agree = same_number st.maxes st.nodes d e s.1 h k agree

-- a node put last comes first when turned round
pub pushed_reversed : (xs ys : List Node) (n : Node) → ys ≡ xs ++ n ∷ [] → reverse ys ≡ n ∷ reverse xs
pushed_reversed xs ys n e = ap (λ zs. reverse zs) e ∙ reverse-append xs (n ∷ [])

-- a store with a newer node has grown
pub grows_newer : (st : StoreState) (n : Node) → Grows st (with_nodes st (n ∷ st.nodes))
unfolding IsId node_of look root_field recalled
grows_newer st n = record {
  ids = λ d h. omega (arith, h);
  nodes = λ d h. node_at-old n st.nodes d h;
  root_fields = λ d h. root_field-old n st.nodes d h;
  leaves = λ d pk h. look-old n st.nodes d pk h;
  maxes = refl;
  width = refl;
  tag = refl;
  kept = λ operation a b d e. e;
}

-- a store with a node put last has grown
pub grows_pushed : (st : StoreState) (base : StoreState) (xs ys : List Node) (n : Node) →
    with_nodes base (reverse xs) ≡ st → ys ≡ xs ++ n ∷ [] → Grows st (with_nodes base (reverse ys))
grows_pushed st base xs ys n e k =
    let new : StoreState = with_nodes base (n ∷ reverse xs) in
    let grown : Grows (with_nodes base (reverse xs)) new = grows_newer (with_nodes base (reverse xs)) n in
    let same : new ≡ with_nodes base (reverse ys) = ap (λ ns. with_nodes base ns) (sym (pushed_reversed xs ys n k)) in
    subst (λ (s : StoreState). Grows st s) same (subst (λ (s : StoreState). Grows s new) e grown)

-- a store has grown from itself
pub grows_same : (st : StoreState) → Grows st st
grows_same st = record { ids = λ d h. h; nodes = λ d h. refl; root_fields = λ d h. refl; leaves = λ d pk h. refl; maxes = refl; width = refl; tag = refl; kept = λ operation a b d e. e }

-- growing twice is growing
pub grows_on : (a b c : StoreState) → Grows a b → Grows b c → Grows a c
grows_on a b c g h = record {
  ids = λ d i. h.ids d (g.ids d i);
  nodes = λ d i. h.nodes d (g.ids d i) ∙ g.nodes d i;
  root_fields = λ d i. h.root_fields d (g.ids d i) ∙ g.root_fields d i;
  leaves = λ d pk i. h.leaves d pk (g.ids d i) ∙ g.leaves d pk i;
  maxes = h.maxes ∙ g.maxes;
  width = h.width ∙ g.width;
  tag = h.tag ∙ g.tag;
  kept = λ operation a b d e. h.kept operation a b d (g.kept operation a b d e);
}

-- a leaf's number has its outs at each packet
pub leaf_has_outs : (st : StoreState) (d : ℕ) (outs : List Out) → IsId st d → node_of st d ≡ Leaf outs →
    HasLeaves st d (λ pk. outs)
unfolding IsId node_of look
leaf_has_outs st d outs h e = record { id = h; leaf = λ pk w. look_leaf st.nodes d outs pk h e }

-- the child at a value is a child of the choice
pub case_child : (st : StoreState) (d f : ℕ) (ps : List (ℕ × ℕ)) (v : ℕ) → IsCase st d f ps →
    IsChild st f (child_at 0 ps v)
case_child st d f ps v k = each_child (IsChild st f) 0 ps v (joined_some ps k.joined) k.parts_ok.children

-- the child at a value has a smaller number
pub case_below : (st : StoreState) (d f : ℕ) (ps : List (ℕ × ℕ)) (v : ℕ) → IsCase st d f ps → child_at 0 ps v < d
case_below st d f ps v k = each_child (λ c. c < d) 0 ps v (joined_some ps k.joined) k.below

-- no part at all covers no value
no_parts : (high : ℕ) → Rises high 0 [] → ⊥
no_parts high r = omega (arith, r)

-- children in the words of the nodes
children_within : (st : StoreState) (f : ℕ) (ps : List (ℕ × ℕ)) → Each (IsChild st f) ps →
    Each (TestsLater st.nodes f) ps
unfolding IsId root_field
children_within st f ps e = each_weaker (IsChild st f) (TestsLater st.nodes f) ps (λ c k. (k.id, k.later)) e

-- parts that cover the values are some
some_first : (high : ℕ) (ps : List (ℕ × ℕ)) → Rises high 0 ps → 0 < length ps
some_first high [] r = absurd (no_parts high r)
some_first high (p ∷ ps) r = omega arith

-- and so are they once joined
some_parts : (high : ℕ) (ps : List (ℕ × ℕ)) → Rises high 0 ps → 0 < length (joined ps)
some_parts high [] r = absurd (no_parts high r)
some_parts high (p ∷ ps) r = joined_more p ps

-- joined parts that are more than one are a choice
joins : (high : ℕ) (ps : List (ℕ × ℕ)) → Rises high 0 ps → (length (joined ps) ≡ 1 → ⊥) → Joined (joined ps)
joins high [] r n = absurd (no_parts high r)
joins high (p ∷ ps) r n = joined_joined p ps (omega (arith, joined_more p ps, n))

-- joined parts that are more than one make a node that fits
pub case_fits : (st : StoreState) (f : ℕ) (ps kept : List (ℕ × ℕ)) → AreParts st f ps → kept ≡ joined ps →
    (length kept ≡ 1 → ⊥) → Fits st.maxes st.nodes (Case f kept)
case_fits st f ps kept a e n =
    let high = get_or st.maxes f 0 in
    let fits : Fits st.maxes st.nodes (Case f (joined ps)) = (
      a.field,
      joined_rises high 0 ps a.rise,
      children_within st f (joined ps) (joined_each (IsChild st f) ps a.children),
      joins high ps a.rise (λ l. n (ap (λ ks. length ks) e ∙ l)),
    ) in
    subst (λ ks. Fits st.maxes st.nodes (Case f ks)) (sym e) fits

-- a single part's child serves for all parts
pub case_single : (st : StoreState) (f : ℕ) (ps kept : List (ℕ × ℕ)) (q : ℕ × ℕ) → AreParts st f ps →
    kept ≡ joined ps → length kept ≡ 1 → q ≡ get_or kept 0 q →
    HasLeaves st q.1 (λ pk. look st (child_at 0 ps (get_or pk f 0)) pk) × (f ≤ root_field st q.1)
case_single st f ps kept q a e l r =
    let high = get_or st.maxes f 0 in
    let same : (v : ℕ) → child_at 0 ps v ≡ q.1 = λ v.
    sym (joined_child high 0 0 ps v a.rise) ∙ ap (λ ks. child_at 0 ks v) (sym e) ∙ single_child 0 v kept q l r in
    let child : IsChild st f q.1 = subst (IsChild st f) (ap (λ ks. child_at 0 ks 0) (sym e) ∙ single_child 0 0 kept q l r)
    (each_child (IsChild st f) 0 (joined ps) 0 (some_parts high ps a.rise) (joined_each (IsChild st f) ps a.children)) in
    (record { id = child.id; leaf = λ pk w. ap (λ k. look st k pk) (sym (same (get_or pk f 0))) }, omega (arith, child.later))

-- the number of the joined choice has the leaves of the children for its parts' values
pub case_has_leaves : (old new : StoreState) (d f : ℕ) (ps kept : List (ℕ × ℕ)) → Grows old new → IsSound new →
    AreParts old f ps → kept ≡ joined ps → IsId new d → node_of new d ≡ Case f kept →
    HasLeaves new d (λ pk. look old (child_at 0 ps (get_or pk f 0)) pk) × (f ≤ root_field new d)
case_has_leaves old new d f ps kept g s a e h n =
    let high = get_or old.maxes f 0 in
    let c : IsCase new d f kept = node_means new d (Case f kept) s h n in (
      record {
        id = h;
        leaf = λ pk w.
            let v = get_or pk f 0 in
            let same : child_at 0 kept v ≡ child_at 0 ps v = ap (λ ks. child_at 0 ks v) e ∙ joined_child high 0 0 ps v a.rise in
            let child : IsChild old f (child_at 0 ps v) = each_child (IsChild old f) 0 ps v (some_first high ps a.rise) a.children in
            c.leaf pk ∙ ap (λ k. look new k pk) same ∙ g.leaves (child_at 0 ps v) pk child.id;
      },
      omega (arith, c.root_field_is),
    )

-- a leaf tests no field
pub leaf_root_field : (st : StoreState) (d : ℕ) (outs : List Out) → node_of st d ≡ Leaf outs → root_field st d ≡ 18
unfolding node_of root_field
leaf_root_field st d outs e = ap field_of_node e

-- a sound store's number depends on no field before the one that it tests
pub is_still : (st : StoreState) (d : ℕ) → IsSound st → IsId st d → IsStill st d
unfolding IsId look root_field
is_still st d s h = record { leaf = λ f v pk t. look_same st.maxes st.nodes d f v pk s.1 h t }

-- a sound store's number, by its node, depends on the field that it tests
reduced_by : (st : StoreState) (d : ℕ) (n : Node) → IsSound st → d < length st.nodes → node_at st.nodes d ≡ n →
    (f : ℕ) → f < 18 → field_of_node n ≡ f →
    ((v : ℕ) (pk : List ℕ) → length pk ≡ 18 → look_in st.nodes d (set pk f v) ≡ look_in st.nodes d pk) → ⊥
reduced_by st d (Leaf outs) s h e f l t still = omega (arith, l, t)
reduced_by st d (Case g ps) s h e f l t still = tests_not st.maxes st.nodes d f ps s.1 h (e ∙ ap (λ x. Case x ps) t) still

-- a sound store's number depends on the field that it tests
pub is_reduced : (st : StoreState) (d : ℕ) → IsSound st → IsId st d → IsReduced st d
unfolding IsId look root_field
is_reduced st d s h = record { tests = λ f l t still. reduced_by st d (node_at st.nodes d) s h refl f l t still }

-- a sound store's leaves ascend and suit the highest values
pub is_tidy : (st : StoreState) (d : ℕ) → IsSound st → IsTidy st d
unfolding look
is_tidy st d s = record { sorted = λ pk. (look_tidy st.maxes st.nodes d pk s.1).0; suits = λ pk. (look_tidy st.maxes st.nodes d pk s.1).1 }

-- diagrams that agree are one
pub are_canonical : (st : StoreState) → IsSound st → IsCanonical st
are_canonical st s = λ d e h k agree. same_id st d e s h k agree
