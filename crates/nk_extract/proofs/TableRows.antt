-- The rows of a diagram at a switch are those of the reduced tree of its bucket lists.
use Rattle.std.proofs.Common.{◌≡◌, ◌≢◌, ℕ, ◌+◌, ◌<◌, ◌≤◌, true, false, cond, eqb, inl, inr, ⊎_elim, List, [], ◌∷◌, length, take, refl, sym, ap, subst, ◌∙◌, arith}
use Rattle.std.specs.Prelude.{slice_index, slice_set, Contains}
use Rattle.std.proofs.lemmas.Bool.Decides.{nat_tests, eqb_tells, leb_tells}
use Rattle.std.proofs.lemmas.List.{length-set, length-take, get_or-take, get_or_past, set-get_or}
use Rattle.std.proofs.lemmas.Grind.{get_or-set_at}
use Rattle.nk_field.specs.Act.{applied, AscendsFrom}
use Rattle.nk_field.proofs.Lists.{In, contains_from_in}
use Rattle.nk_store.specs.declared.node.Node.{Node}
use Rattle.nk_store.specs.declared.node.Node.TheVariants.{Leaf, Case}
use Rattle.nk_store.specs.declared.node.Out.{Out}
use Rattle.nk_store.specs.Leaves.{Every, Suits, IsActFrom}
use Rattle.nk_store.specs.Nodes.{child_at, node_at, look_in, field_of_node, root_field_in, Sound, InRange}
use Rattle.nk_store.specs.StoreState.{StoreState, IsId, node_of, look}
use Rattle.nk_store.specs.Diagram.{Branches, leaf, case, no_branch, branch, leaf_at, IsReduced, AreReduced, EndsRight}
use Rattle.nk_store.proofs.Looks.{look_same, look_tidy, fits_at, child_later, joined_some}
use Rattle.nk_store.proofs.Same.{set_in_range, look_child}
use Rattle.nk_prefix.specs.Prefix.{digits_of}
use Rattle.nk_table.specs.declared.Bucket.{Bucket}
use Rattle.nk_table.specs.declared.Plain.{Plain}
use Rattle.nk_extract.specs.RuleTree.{paths_of, bit_of, exactly}
use Rattle.nk_store.specs.Trees.{tree_in}
use Rattle.nk_extract.specs.Ways.{bucket_list, ways, ways_in, rows_following, at_switch}
use Rattle.nk_extract.specs.Buckets.{AreBuckets}
use Rattle.nk_extract.specs.RowsOf.{IsFrame, IsPrintable, AreRowsOf}
use Rattle.nk_extract.proofs.Acts.{value, ascends, applied_value, IsChange, Avoids, IsActAt}
use Rattle.nk_extract.proofs.Bits.{bits_fit}
use Rattle.nk_extract.proofs.BucketLists.{every_out, out_each, are_buckets}
use Rattle.nk_extract.proofs.Trees.{Tree}
use Rattle.nk_extract.proofs.Shapes.{IsGood, leaf_is, one, good_children, shape, set_swap}
use Rattle.nk_extract.proofs.Bridge.{ways_are}
use Rattle.nk_extract.proofs.Made.{rows_are_made}

-- a tree is reduced over other lists of largest values that give each field the same
mutual
  same_reduced :
      (m n : List ℕ) (low : ℕ) (d : Tree) → ((f : ℕ) → slice_index m f ≡ slice_index n f)
      → IsReduced d m low → IsReduced d n low
  same_reduced m n low (leaf a) e r = tt
  same_reduced m n low (case f bs) e r = (r.0, r.1, same_all m n f bs e r.2)

  -- likewise branches
  same_all :
      (m n : List ℕ) (f : ℕ) (bs : Branches (List Bucket))
      → ((f : ℕ) → slice_index m f ≡ slice_index n f) → AreReduced bs m f → AreReduced bs n f
  same_all m n f no_branch e r = tt
  same_all m n f (branch end d bs) e r = (subst (λ z. EndsRight z end bs) (e f) r.0, same_reduced m n (f + 1) d e r.1, r.2, same_all m n f bs e r.3)

-- the declared fields' largest values, where there is 0 after them
taken :
    (maxes : List ℕ) (width : ℕ) → ((f : ℕ) → width ≤ f → slice_index maxes f ≡ 0) → (f : ℕ)
    → slice_index maxes f ≡ slice_index (take width maxes) f
taken maxes width following f =
    elim (leb_tells width f) [
      | inl past ↦ following f past.1 ∙ sym (get_or_past (take width maxes) f 0 (let short = length-take width maxes in let h = past.1 in omega (arith, short, h)))
      | inr within ↦ sym (get_or-take width maxes f 0 within.1)
    ]

-- the value that an ascending act assigns
assigned : (low d : ℕ) (g : List (ℕ × ℕ)) (s : ℕ × ℕ) → AscendsFrom low g → In g s → value g s.0 d ≡ s.1
assigned low d [] s a i = absurd i
assigned low d (t ∷ ts) s a i =
    ⊎_elim
    (λ e. ap (λ z. value (t ∷ ts) z.0 d) e ∙ ap (λ b. cond b t.1 (value ts t.0 d)) (let w : eqb t.0 t.0 ≡ true = grind (arith, nat_tests) in w) ∙ ap (λ z. z.1) (sym e))
    (λ j.
    let after = above (t.0 + 1) ts s a.1 j in
    ap (λ b. cond b t.1 (value ts s.0 d)) (let n : t.0 ≢ s.0 = λ e. omega (arith, e, after) in let w : eqb t.0 s.0 ≡ false = grind (arith, nat_tests, n) in w)
    ∙ assigned (t.0 + 1) d ts s a.1 j)
    i
  where
    above : (low : ℕ) (g : List (ℕ × ℕ)) (s : ℕ × ℕ) → AscendsFrom low g → In g s → low ≤ s.0
    above low [] s a i = absurd i
    above low (t ∷ ts) s a i = ⊎_elim (λ e. subst (λ z. low ≤ z.0) (sym e) a.0) (λ j. let h = above (t.0 + 1) ts s a.1 j in omega (arith, h, a.0)) i

-- none of the assignments is of the switch or the tag
avoids_all :
    (tag : ℕ) (g : List (ℕ × ℕ)) → ((s : ℕ × ℕ) → In g s → (s.0 ≢ 0) × (s.0 ≢ tag)) → Avoids tag g
avoids_all tag [] f = tt
avoids_all tag (s ∷ ss) f = let h = f s (inl refl) in (h.0, h.1, avoids_all tag ss (λ t i. f t (inr i)))

-- each assignment is a change
changes_all :
    (P : ℕ → ℕ) (maxes : List ℕ) (tag low high : ℕ) (g : List (ℕ × ℕ)) → IsActFrom maxes low g
    → ((s : ℕ × ℕ) → In g s → s.1 ≤ slice_index maxes s.0 → (s.0 < high) × ((s.0 ≢ 0) × ((s.0 ≢ tag) × (P s.0 ≢ s.1))))
    → IsChange P tag low high g
changes_all P maxes tag low high [] a f = tt
changes_all P maxes tag low high (s ∷ ss) a f =
    let h = f s (inl refl) a.2 in (a.0, h.0, h.1.0, h.1.1.0, h.1.1.1, changes_all P maxes tag (s.0 + 1) high ss a.3 (λ t i. f t (inr i)))

module _ (st : StoreState) (width tag sw d : ℕ) (places : length st.maxes ≡ 18) (sound : Sound st.maxes st.nodes) (id : d < length st.nodes) (frame : IsFrame st width tag) (ok : IsPrintable st tag sw d) (small : sw ≤ 65535) where
  -- what the diagram sends
  abbrev sends : List ℕ → List ℕ → ℕ → Type 0
  sends pk y t = (g : List (ℕ × ℕ)) × Contains (look_in st.nodes d pk) (record { act = g; target = t }) × (y ≡ applied g pk)

  -- the facts on the diagram, over its nodes
  exact :
      (pk : List ℕ) (o : Out) (s : ℕ × ℕ) → InRange st.maxes pk → slice_index pk 0 ≡ sw
      → In (look_in st.nodes d pk) o → In o.act s → slice_index pk s.0 ≢ s.1
  unfolding look
  exact pk o s r at i j = ok.exact pk o.act o.target s.0 s.1 r at (contains_from_in (look_in st.nodes d pk) o i) (contains_from_in o.act s j)

  -- a result is at the switch, with its tag
  keeps :
      (pk : List ℕ) (o : Out) → InRange st.maxes pk → slice_index pk 0 ≡ sw
      → In (look_in st.nodes d pk) o
      → (slice_index (applied o.act pk) 0 ≡ sw) × (slice_index (applied o.act pk) tag ≡ slice_index pk tag)
  unfolding look
  keeps pk o r at i = ok.keeps pk (applied o.act pk) o.target r at (o.act, contains_from_in (look_in st.nodes d pk) o i, refl)

  -- the leaf is the same whatever the tag
  free :
      (pk : List ℕ) (n : ℕ) → InRange st.maxes pk → slice_index pk 0 ≡ sw → n ≤ slice_index st.maxes tag
      → look_in st.nodes d (slice_set pk tag n) ≡ look_in st.nodes d pk
  unfolding look
  free pk n r at l = ok.free pk n r at l

  -- acts of leaves are in range
  act_in : (pk : List ℕ) (o : Out) → In (look_in st.nodes d pk) o → IsActFrom st.maxes 0 o.act
  act_in pk o i = every_out (Suits st.maxes) (look_in st.nodes d pk) o (look_tidy st.maxes st.nodes d pk sound).1 i

  -- no act assigns the switch or the tag
  untouched :
      (pk : List ℕ) (o : Out) (s : ℕ × ℕ) → InRange st.maxes pk → slice_index pk 0 ≡ sw
      → In (look_in st.nodes d pk) o → In o.act s → (s.0 ≢ 0) × (s.0 ≢ tag)
  untouched pk o s r at i j =
      let act = act_in pk o i in
      let kept = keeps pk o r at i in
      let left : slice_index (applied o.act pk) s.0 ≡ s.1 = applied_value st.maxes 0 o.act pk s.0 act r.0 ∙ assigned 0 (slice_index pk s.0) o.act s (ascends st.maxes 0 o.act act) j in
      let differ = exact pk o s r at i j in (
        λ e. differ (ap (slice_index pk) e ∙ at ∙ sym kept.0 ∙ ap (slice_index (applied o.act pk)) (sym e) ∙ left),
        λ e. differ (ap (slice_index pk) e ∙ sym kept.1 ∙ ap (slice_index (applied o.act pk)) (sym e) ∙ left),
      )

  -- each act of a leaf changes fields but the switch and the tag
  acts_at :
      (pk : List ℕ) → InRange st.maxes pk → slice_index pk 0 ≡ sw
      → Every (λ o. IsActAt st.maxes width tag pk o.act) (look_in st.nodes d pk)
  acts_at pk r at =
      out_each (λ o. IsActAt st.maxes width tag pk o.act) (look_in st.nodes d pk) (λ o i. record {
        act = act_in pk o i;
        change = changes_all (slice_index pk) st.maxes tag 0 width o.act (act_in pk o i) (λ s j le.
            let un = untouched pk o s r at i j in
            let differ = exact pk o s r at i j in
            let within : s.0 < width = elim (leb_tells width s.0) [
              | inl past ↦
                  let none = frame.following s.0 past.1 in
                  let here = r.1 s.0 in
                  absurd (differ (omega (arith, none, here, le)))
              | inr under ↦ under.1
            ] in
            (within, (un.0, (un.1, differ))));
      })

  -- the part of the diagram for the switch
  record IsRoot (r : ℕ) : Type 0 where
    below : r < length st.nodes
    later : 1 ≤ root_field_in st.nodes r
    leaves : (pk : List ℕ) → length pk ≡ 18 → look_in st.nodes r pk ≡ look_in st.nodes d (slice_set pk 0 sw)

  -- it is found by the first node
  root_is : (n : Node) → node_at st.nodes d ≡ n → IsRoot (at_switch sw d n)
  root_is (Leaf outs) e =
      let top : root_field_in st.nodes d ≡ 18 = ap field_of_node e in
      record {
        below = id;
        later = omega (arith, top);
        leaves = λ pk l. sym (look_same st.maxes st.nodes d 0 sw pk sound id (omega (arith, top)));
      }
  root_is (Case f ps) e =
      elim (eqb_tells f 0) [
        | inl first ↦
            let e' : node_at st.nodes d ≡ Case 0 ps = e ∙ ap (λ z. Case z ps) first.1 in
            let fits = fits_at st.maxes st.nodes d 0 ps sound id e' in
            let later = child_later st.maxes st.nodes 0 ps sw fits.0 in
            let above = later.1 in
            subst (λ b. IsRoot (cond b (child_at 0 ps sw) d)) (sym first.0) record {
              below = later.0;
              later = omega (arith, above);
              leaves = λ pk l. sym (look_child st.maxes st.nodes d 0 sw ps pk sound id e' l);
            }
        | inr other ↦
            let top : root_field_in st.nodes d ≡ f = ap field_of_node e in
            let past : 1 ≤ root_field_in st.nodes d = let n = other.1 in omega (arith, top, n) in
            subst (λ b. IsRoot (cond b (child_at 0 ps sw) d)) (sym other.0) record {
              below = id;
              later = past;
              leaves = λ pk l. sym (look_same st.maxes st.nodes d 0 sw pk sound id (omega (arith, past)));
            }
      ]

  -- a packet brought to the switch is in range, and at the switch
  brought : (pk : List ℕ) → InRange st.maxes pk → InRange st.maxes (slice_set pk 0 sw)
  brought pk r = let most = frame.switches in set_in_range st.maxes pk 0 sw r (omega (arith, most, small))

  -- and at the switch
  at_it : (pk : List ℕ) → InRange st.maxes pk → slice_index (slice_set pk 0 sw) 0 ≡ sw
  at_it pk r = get_or-set_at pk 0 0 sw 0 refl (let l = r.0 in omega (arith, l))

  -- the part is good
  good : (r : ℕ) → IsRoot r → IsGood st.maxes st.nodes sound tag r
  good r root = record {
    id = root.below;
    avoids = λ pk h.
        subst (Every (λ o. Avoids tag o.act)) (sym (root.leaves pk h.0))
        (out_each (λ o. Avoids tag o.act) (look_in st.nodes d (slice_set pk 0 sw)) (λ o i. avoids_all tag o.act (λ s j. untouched (slice_set pk 0 sw) o s (brought pk h) (at_it pk h) i j)));
    free = λ pk n h l.
        root.leaves (slice_set pk tag n) (length-set pk tag n ∙ h.0)
        ∙ ap (look_in st.nodes d) (set_swap pk tag 0 n sw (λ e. let two = frame.past_port in omega (arith, e, two)))
        ∙ free (slice_set pk 0 sw) n (brought pk h) (at_it pk h) l
        ∙ sym (root.leaves pk h.0);
  }

  -- the leaf of the part's tree is the bucket list of the diagram's leaf
  leaves_are :
      (r : ℕ) → IsRoot r → (pk : List ℕ) → InRange st.maxes pk → slice_index pk 0 ≡ sw
      → AreBuckets width tag (λ x t. sends pk x t) pk (leaf_at (tree_in (bucket_list tag) st.nodes r) [] pk)
  leaves_are r root pk h at =
      let same : slice_set pk 0 sw ≡ pk = ap (slice_set pk 0) (sym at) ∙ set-get_or pk 0 0 in
      let is : leaf_at (tree_in (bucket_list tag) st.nodes r) [] pk ≡ bucket_list tag (look_in st.nodes d pk) =
      leaf_is st.maxes st.nodes sound tag r pk root.below h ∙ ap (bucket_list tag) (root.leaves pk h.0 ∙ ap (look_in st.nodes d) same) in
      subst (AreBuckets width tag (λ x t. sends pk x t) pk) (sym is)
      (are_buckets st.maxes tag frame.ports width pk (look_in st.nodes d pk) h.0 (look_tidy st.maxes st.nodes d pk sound).0 (acts_at pk h at))

  -- the rows of the part are those of its tree
  rows_are :
      (to len r : ℕ) (rows : List Plain) → IsRoot r → len ≡ digits_of (slice_index st.maxes tag)
      → rows ≡ rows_following width (tag, to, len) [] false (ways_in st.maxes tag st.nodes r)
      → AreRowsOf st width tag sw to d rows
  unfolding look
  rows_are to len r rows root all e =
      let g = good r root in
      let few = frame.few in
      let maxima = take width st.maxes in
      let same = taken st.maxes width frame.following in
      let tree = tree_in (bucket_list tag) st.nodes r in
      let count : length maxima ≡ width = let l = length-take width st.maxes in omega (arith, l, places, few) in
      let shaped = shape st.maxes st.nodes sound tag r 1 frame.ports g root.later in
      let reduced = same_reduced st.maxes maxima 1 tree same shaped.0 in
      let fit : bit_of (length maxima) tag 0 ≤ 65536 = subst (λ w. bit_of w tag 0 ≤ 65536) (sym count) (bits_fit width tag frame.past_port frame.declared frame.few) in
      let made = rows_are_made maxima tag to tree record { reduced = reduced; tag_free = shaped.1 } fit in
      let exact : (tag, to, len) ≡ exactly maxima tag to = ap (λ n. (tag, to, n)) (all ∙ ap digits_of (same tag)) in
      let ways_is = ways_are st.maxes maxima same tag st.nodes (IsGood st.maxes st.nodes sound tag) (λ c k. k.id)
      (λ c f ps k n. joined_some ps (fits_at st.maxes st.nodes c f ps sound k.id n).0.3)
      (λ c f ps k n. (fits_at st.maxes st.nodes c f ps sound k.id n).1)
      (λ c f ps k n. good_children st.maxes st.nodes sound tag c f ps k n)
      (λ c k a b t. one st.maxes st.nodes sound tag c k frame.ports a b t) r g in
      record {
        tree = tree;
        rows_are =
            e
            ∙ ap (rows_following width (tag, to, len) [] false) ways_is
            ∙ ap (λ m. rows_following width m [] false (paths_of maxima tree)) exact
            ∙ ap (λ w. rows_following w (exactly maxima tag to) [] false (paths_of maxima tree)) (sym count)
            ∙ made;
        reduced = reduced;
        tag_free = shaped.1;
        leaves = λ pk h at. leaves_are r root pk h at;
      }

  -- the rows made of the ways of the part for the switch
  pub are_rows :
      (to len : ℕ) (rows : List Plain) → len ≡ digits_of (slice_index st.maxes tag)
      → rows ≡ rows_following width (tag, to, len) [] false (ways_in st.maxes tag st.nodes (at_switch sw d (node_at st.nodes d)))
      → AreRowsOf st width tag sw to d rows
  are_rows to len rows all e = rows_are to len (at_switch sw d (node_at st.nodes d)) rows (root_is (node_at st.nodes d) refl) all e

-- the rows made of the ways of the part for the switch are the diagram's rows, in words of the store
pub table_rows :
    (st : StoreState) (width tag sw d to len : ℕ) (rows : List Plain) → length st.maxes ≡ 18
    → Sound st.maxes st.nodes → IsId st d → IsFrame st width tag → IsPrintable st tag sw d → sw ≤ 65535
    → len ≡ digits_of (slice_index st.maxes tag)
    → rows ≡ rows_following width (tag, to, len) [] false (ways tag st (at_switch sw d (node_of st d)))
    → AreRowsOf st width tag sw to d rows
unfolding IsId node_of ways
table_rows st width tag sw d to len rows places sound id frame ok small all e =
    are_rows st width tag sw d places sound id frame ok small to len rows all e
