-- The rows of a diagram with the tags of a table, and of many diagrams in turn.
use Rattle.std.proofs.Common.{◌≡◌, ℕ, ◌+◌, ◌<◌, ◌≤◌, ◌↔◌, inl, inr, Option, Some, None, List, [], ◌∷◌, ◌++◌, length, length-set, get_or, take, set, refl, sym, ap, subst, ◌∙◌}
use Rattle.std.specs.Prelude.{Contains}
use Rattle.std.proofs.lemmas.List.{take_more, append-nil}
use Rattle.std.proofs.lemmas.List.Concat.{flat_map-append}
use Rattle.nk_field.proofs.Ascending.{members_from_all}
use Rattle.nk_store.specs.declared.node.Out.{Out}
use Rattle.nk_store.specs.Nodes.{InRange}
use Rattle.nk_store.specs.Diagram.{IsReduced, leaf_at}
use Rattle.nk_store.specs.StoreState.{StoreState, IsStorePacket, look, Grows, HasLeaves}
use Rattle.nk_apply.proofs.Members.{Has, contains_has, has_contains, gathered_has, has_gathered}
use Rattle.nk_determ.specs.Exact.{Sends}
use Rattle.nk_determ.specs.Targets.{option_out, out_by_table, retargeted}
use Rattle.nk_table.specs.declared.Bucket.{Bucket}
use Rattle.nk_table.specs.declared.Plain.{Plain}
use Rattle.nk_table.specs.declared.Table.{Table}
use Rattle.nk_extract.specs.Buckets.{AreBuckets}
use Rattle.nk_extract.specs.RowsOf.{IsPrintable, AreRowsOf, IsFrame}
use Rattle.nk_extract.specs.RuleTree.{rows_for}
use Rattle.nk_group.specs.Groups.{groups_of, rows_after}
use Rattle.nk_group.specs.declared.switch_tags.TagState.{TagState}
use Rattle.nk_group.specs.declared.switch_tags.SwitchStates.{SwitchStates}
use Rattle.nk_group.specs.Matched.{Matched}
use Rattle.nk_group.specs.Tagged.{SendsBy}
use Rattle.nk_group.specs.Made.{TagTree, rows_of_trees, IsPrintableState, ArePrintableStates, IsTreeBy, AreRowsBy, IsTableBy}
use Rattle.nk_group.proofs.Growing.{declared_same, sends_grown, printable_grown}
use Rattle.nk_group.proofs.Matching.{matched_push, matched_with}

-- bucket lists of the same results
pub buckets_same : (width tag : ℕ) (S T : List ℕ → ℕ → Type 0) (pk : List ℕ) (bs : List Bucket) → ((y : List ℕ) (t : ℕ) → S y t ↔ T y t) →
    AreBuckets width tag S pk bs → AreBuckets width tag T pk bs
buckets_same width tag S T pk bs same k = record {
  exactly = λ b. (
    λ c. let h = (k.exactly b).0 c in (h.0, h.1, (same h.0 h.1).0 h.2, h.3),
    λ h. (k.exactly b).1 (h.0, h.1, (same h.0 h.1).1 h.2, h.3),
  );
  in_order = k.in_order;
}

-- an act to what a table has
option_has : (a : List (ℕ × ℕ)) (q : Option ℕ) (o : Out) → Has (option_out a q) o → (t : ℕ) × (q ≡ Some t) × ((record { act = a; target = t }) ≡ o)
option_has a None o h = absurd h
option_has a (Some t) o (inl e) = (t, refl, e)
option_has a (Some t) o (inr h) = absurd h

module _ (st new : StoreState) (table : List (Option ℕ)) (d r : ℕ) (g : Grows st new) (h : HasLeaves new r (λ pk. retargeted table (look st d pk))) where
  before : (pk : List ℕ) → IsStorePacket new pk → IsStorePacket st pk
  before pk p = subst (λ m. InRange m pk) g.maxes p

  -- what the new diagram sends is sent by the table
  out_from : (pk : List ℕ) → IsStorePacket new pk → (a : List (ℕ × ℕ)) (t : ℕ) → Contains (look new r pk) (record { act = a; target = t }) →
      (u : ℕ) × Contains (look st d pk) (record { act = a; target = u }) × (get_or table u None ≡ Some t)
  out_from pk p a t c =
      let m = has_gathered (out_by_table table) (look st d pk) (record { act = a; target = t }) (subst (λ os. Has os (record { act = a; target = t })) (h.leaf pk p.0) (contains_has (look new r pk) (record { act = a; target = t }) c)) in
      let o = option_has m.0.act (get_or table m.0.target None) (record { act = a; target = t }) m.2 in
      let act : m.0.act ≡ a = ap (λ (x : Out). x.act) o.2 in
      let to : o.0 ≡ t = ap (λ (x : Out). x.target) o.2 in
      let there : Has (look st d pk) (record { act = a; target = m.0.target }) = subst (λ x. Has (look st d pk) (record { act = x; target = m.0.target })) act m.1 in
      (m.0.target, has_contains (look st d pk) (record { act = a; target = m.0.target }) there, o.1 ∙ ap Some to)

  -- and the other way round
  out_to : (pk : List ℕ) → IsStorePacket new pk → (a : List (ℕ × ℕ)) (u t : ℕ) → Contains (look st d pk) (record { act = a; target = u }) → get_or table u None ≡ Some t →
      Contains (look new r pk) (record { act = a; target = t })
  out_to pk p a u t c e =
      let made : Has (option_out a (get_or table u None)) (record { act = a; target = t }) = subst (λ q. Has (option_out a q) (record { act = a; target = t })) (sym e) (inl refl) in
      let all = gathered_has (out_by_table table) (look st d pk) (record { act = a; target = u }) (record { act = a; target = t }) (contains_has (look st d pk) (record { act = a; target = u }) c) made in
      has_contains (look new r pk) (record { act = a; target = t }) (subst (λ os. Has os (record { act = a; target = t })) (sym (h.leaf pk p.0)) all)

  pub retarget_sends : (pk y : List ℕ) (t : ℕ) → IsStorePacket new pk → Sends new r pk y t ↔ SendsBy st table d pk y t
  retarget_sends pk y t p = (
    λ s. let o = out_from pk p s.0 t s.1 in (o.0, (s.0, o.1, s.2), o.2),
    λ s. (s.1.0, out_to pk p s.1.0 s.0 t s.1.1 s.2, s.1.2),
  )

  -- it can be printed where the old one can
  pub retarget_printable : (tag sw : ℕ) → IsPrintable st tag sw d → 2 ≤ tag → IsPrintable new tag sw r
  retarget_printable tag sw k past = record {
    exact = λ pk a t f n p here c m. let o = out_from pk p a t c in k.exact pk a o.0 f n (before pk p) here o.1 m;
    keeps = λ pk y t p here s. let o = (retarget_sends pk y t p).0 s in k.keeps pk y o.0 (before pk p) here o.1;
    free = λ pk n p here le.
        h.leaf (set pk tag n) (whole pk n p) ∙ ap (retargeted table) (k.free pk n (before pk p) here (subst (λ m. n ≤ get_or m tag 0) g.maxes le)) ∙ sym (h.leaf pk p.0);
  }
    where
      whole : (pk : List ℕ) (n : ℕ) → IsStorePacket new pk → length (set pk tag n) ≡ 18
      whole pk n p = length-set pk tag n ∙ p.0

  -- its rows are those of the tree by the table
  pub tree_of_rows : (tag sw t : ℕ) (rows : List Plain) → AreRowsOf new new.width tag sw t r rows →
      (e : TagTree) × IsTreeBy st table tag sw (record { tag = t; diagram = d }) e × (rows ≡ rows_for (take st.width st.maxes) tag e.tag e.tree)
  tree_of_rows tag sw t rows k = (
    record { tag = t; tree = k.tree },
    record {
      tag_is = refl;
      reduced = subst (λ m. IsReduced k.tree m 1) (declared_same st new g) k.reduced;
      tag_free = k.tag_free;
      leaves = λ pk p here.
          let q : IsStorePacket new pk = subst (λ m. InRange m pk) (sym g.maxes) p in
          subst (λ n. AreBuckets n tag (λ y u. SendsBy st table d pk y u) pk (leaf_at k.tree [] pk)) g.width
          (buckets_same new.width tag (λ y u. Sends new r pk y u) (λ y u. SendsBy st table d pk y u) pk (leaf_at k.tree [] pk) (λ y u. retarget_sends pk y u q) (k.leaves pk q here));
    },
    k.rows_are ∙ ap (λ m. rows_for m tag t k.tree) (declared_same st new g),
  )

module _ (st cur : StoreState) (table : List (Option ℕ)) (tag sw : ℕ) (g : Grows st cur) where
  -- a tree by a later store is one by the earlier
  pub tree_back : (s : TagState) (e : TagTree) → IsPrintableState st tag sw s → IsTreeBy cur table tag sw s e → IsTreeBy st table tag sw s e
  tree_back s e k t = record {
    tag_is = t.tag_is;
    reduced = subst (λ m. IsReduced e.tree m 1) (declared_same st cur g) t.reduced;
    tag_free = t.tag_free;
    leaves = λ pk p here.
        let q : IsStorePacket cur pk = subst (λ m. InRange m pk) (sym g.maxes) p in
        subst (λ n. AreBuckets n tag (λ y u. SendsBy st table s.diagram pk y u) pk (leaf_at e.tree [] pk)) g.width
        (buckets_same cur.width tag (λ y u. SendsBy cur table s.diagram pk y u) (λ y u. SendsBy st table s.diagram pk y u) pk (leaf_at e.tree [] pk) (same pk) (t.leaves pk q here));
  }
    where
      same : (pk y : List ℕ) (u : ℕ) → SendsBy cur table s.diagram pk y u ↔ SendsBy st table s.diagram pk y u
      same pk y u = (
        λ b. (b.0, (sends_grown st cur s.diagram pk y b.0 g k.id).1 b.1, b.2),
        λ b. (b.0, (sends_grown st cur s.diagram pk y b.0 g k.id).0 b.1, b.2),
      )

  -- one more tag's rows
  pub rows_more : (tag_states : List TagState) (i : ℕ) (s : TagState) (all rows more : List Plain) → i < length tag_states → s ≡ get_or tag_states i s → more ≡ all ++ rows →
      IsPrintableState st tag sw s → ((e : TagTree) × IsTreeBy cur table tag sw s e × (rows ≡ rows_for (take cur.width cur.maxes) tag e.tag e.tree)) →
      AreRowsBy st table tag sw (take i tag_states) all → AreRowsBy st table tag sw (take (i + 1) tag_states) more
  rows_more tag_states i s all rows more lt at is k one so_far =
      let e = one.0 in
      let trees = so_far.0 in (
        trees ++ e ∷ [],
        subst (λ l. Matched (IsTreeBy st table tag sw) l (trees ++ e ∷ [])) (ap (λ x. take i tag_states ++ x ∷ []) at ∙ sym (take_more tag_states i s lt))
            (matched_push (IsTreeBy st table tag sw) (take i tag_states) trees s e so_far.1 (tree_back s e k one.1)),
        is ∙ ap (λ l. l ++ rows) so_far.2 ∙ ap (λ l. rows_of_trees (take st.width st.maxes) tag trees ++ l) (one.2 ∙ ap (λ m. rows_for m tag e.tag e.tree) (declared_same st cur g) ∙ sym (append-nil (rows_for (take st.width st.maxes) tag e.tag e.tree)))
            ∙ sym (flat_map-append (λ (x : TagTree). rows_for (take st.width st.maxes) tag x.tag x.tree) trees (e ∷ [])),
      )

-- a table of a later store is one of the earlier
pub table_back : (st cur : StoreState) (table : List (Option ℕ)) (tag : ℕ) (s : SwitchStates) (t : Table) → Grows st cur → ArePrintableStates st tag s → IsTableBy cur table tag s t → IsTableBy st table tag s t
table_back st cur table tag s t g all k = record {
  switch = k.switch;
  trees = k.trees;
  each = matched_with (IsPrintableState st tag s.switch) (IsTreeBy cur table tag s.switch) (IsTreeBy st table tag s.switch)
      (λ x e p m. tree_back st cur table tag s.switch g x e p m) s.tag_states k.trees (λ x i. members_from_all (IsPrintableState st tag s.switch) s.tag_states all x i) k.each;
  groups = k.groups ∙ ap (λ m. groups_of (rows_of_trees m tag k.trees)) (declared_same st cur g);
  rows = k.rows ∙ ap (λ m. rows_after [] (rows_of_trees m tag k.trees)) (declared_same st cur g);
}

-- states that can be printed can be printed later
pub printables_grown : (st cur : StoreState) (tag : ℕ) (s : SwitchStates) → Grows st cur → ArePrintableStates st tag s → ArePrintableStates cur tag s
printables_grown st cur tag s g all k d lt = printable_grown st cur tag s.switch (get_or s.tag_states k d) g (all k d lt)

-- the frame of a store that grew
pub frame_grown : (st cur : StoreState) (tag : ℕ) → Grows st cur → IsFrame st st.width tag → IsFrame cur cur.width tag
frame_grown st cur tag g f = record {
  past_port = f.past_port;
  declared = subst (λ n. tag < n) (sym g.width) f.declared;
  few = subst (λ n. n ≤ 18) (sym g.width) f.few;
  switches = ap (λ m. get_or m 0 0) g.maxes ∙ f.switches;
  ports = ap (λ m. get_or m 1 0) g.maxes ∙ f.ports;
  following = λ k le. ap (λ m. get_or m k 0) g.maxes ∙ f.following k (subst (λ n. n ≤ k) g.width le);
}

-- one more switch's table
pub tables_more : (st cur : StoreState) (table : List (Option ℕ)) (tag : ℕ) (all : List SwitchStates) (i : ℕ) (s : SwitchStates) (t : Table) (ts more : List Table) → Grows st cur →
    i < length all → s ≡ get_or all i s → more ≡ ts ++ t ∷ [] → ArePrintableStates st tag s → IsTableBy cur table tag s t →
    Matched (IsTableBy st table tag) (take i all) ts → Matched (IsTableBy st table tag) (take (i + 1) all) more
tables_more st cur table tag all i s t ts more g lt at is k one m =
    subst (λ l. Matched (IsTableBy st table tag) l more) (ap (λ x. take i all ++ x ∷ []) at ∙ sym (take_more all i s lt))
    (subst (Matched (IsTableBy st table tag) (take i all ++ s ∷ [])) (sym is)
    (matched_push (IsTableBy st table tag) (take i all) ts s t m (table_back st cur table tag s t g k one)))
