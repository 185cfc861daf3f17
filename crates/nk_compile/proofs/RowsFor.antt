-- Where the rows of a switch's table are those of trees by number, the row for a copy with a number has the leaf of its tree at the
-- copy's packet; so in the printed table it has the bucket list of the tag.
use Rattle.std.proofs.Common.{◌≡◌, ◌≢◌, ℕ, ◌<◌, ◌≤◌, inl, inr, ⊎_elim, List, [], ◌∷◌, length, refl, sym, ap, subst, ◌∙◌, arith, get_or-set_other, get_or-set_same}
use Rattle.std.specs.List.Sorted.{IsStrictlyIncreasing}
use Rattle.std.specs.Prelude.{◌&&◌, if◌then◌else◌, map, filter, filter_map, All, slice_index, slice_set}
use Rattle.nk_field.specs.declared.packet.Packet.{Packet}
use Rattle.nk_field.proofs.Lists.{In, in_from_contains, from_mapped, NoDup, no_dup_from_images, one_of_images, numbers_decided}
use Rattle.nk_field.proofs.Ascending.{Rising, rising_from, members_from_all}
use Rattle.nk_topo.specs.Topology.{SwitchPorts}
use Rattle.nk_policy.specs.Policy.{Policy}
use Rattle.nk_store.specs.Diagram.{IsReduced, IsFreeOf, leaf_at}
use Rattle.nk_table.specs.declared.Tables.{Tables}
use Rattle.nk_table.specs.declared.Table.{Table}
use Rattle.nk_table.specs.declared.Bucket.{Bucket}
use Rattle.nk_table.specs.declared.Plain.{Plain}
use Rattle.nk_table.specs.Rules.{agrees, agrees_at, rows_of, groups_at_switch, highest, buckets_of_row, sent_by, sent_for}
use Rattle.nk_extract.specs.RuleTree.{exactly, plain_row, rows_for}
use Rattle.nk_extract.specs.Chosen.{agrees_with, IsTop, rank, matching, Choose}
use Rattle.nk_extract.proofs.Lists.{filter_none, filter_one}
use Rattle.nk_extract.proofs.Trees.{leaf_stays}
use Rattle.nk_extract.proofs.PlainRows.{put_all, exactly_differs, rows_give_leaves}
use Rattle.nk_group.specs.Groups.{rows_after, groups_of as all_groups}
use Rattle.nk_group.proofs.Choice.{groups_keep_the_choice}
use Rattle.nk_compile.specs.PrintedTable.{IsNumberedList, IsTreeOfTag, IsBucketList}
use Rattle.nk_compile.specs.WholeTable.{HasRowsAt, TagTree, rows_of_trees, IsSwitchTable}
use Rattle.nk_compile.proofs.BucketResults.{same_number, other_number}
use Rattle.nk_compile.proofs.ActingTags.{GivesAs, Numbering}
use Rattle.nk_compile.proofs.Reached.{Setting, AtState, come, tagged_index}
use Rattle.nk_compile.proofs.Emitted.{HasBuckets, acts_for}

-- a list that rises has no doubles
rising_no_dup : (xs : List ℕ) → Rising xs → NoDup xs
rising_no_dup [] h = tt
rising_no_dup (x ∷ xs) h = (λ i. let lt = h.0 x i in omega (arith, lt), rising_no_dup xs h.1)

-- the first table of a switch that has one
pub table_for :
    (ts : List Table) (sw : ℕ) → In (map (λ (s : Table). s.switch) ts) sw
    → (table : Table) × In ts table × (table.switch ≡ sw) × (rows_of ts sw ≡ table.rows) × (groups_at_switch ts sw ≡ table.groups)
table_for [] sw h = absurd h
table_for (s ∷ ss) sw h =
    ⊎_elim
    (λ e. (
      s,
      inl refl,
      e,
      ap (λ b. if b then s.rows else rows_of ss sw) (same_number s.switch sw e),
      ap (λ b. if b then s.groups else groups_at_switch ss sw) (same_number s.switch sw e),
    ))
    (λ ne.
    ⊎_elim
    (λ e. absurd (ne (sym e)))
    (λ i.
    let r = table_for ss sw i in (
      r.0,
      inr r.1,
      r.2,
      ap (λ b. if b then s.rows else rows_of ss sw) (other_number s.switch sw ne) ∙ r.3,
      ap (λ b. if b then s.groups else groups_at_switch ss sw) (other_number s.switch sw ne) ∙ r.4,
    ))
    h)
    (numbers_decided s.switch sw)

-- rows that match alike choose alike
choose_more :
    (maxima pk : List ℕ) (rs all : List Plain) (bs : List Bucket) → matching maxima all pk ≡ matching maxima rs pk
    → Choose maxima rs pk bs → Choose maxima all pk bs
choose_more maxima pk rs all bs e c =
    ⊎_elim
    (λ s. inl (s.0, subst (λ l. IsTop Plain rank l s.0) (sym e) s.1, s.2))
    (λ s. inr (e ∙ s.0, s.1))
    c

-- the table has the rows of trees, by number, and one of them is that of the number c
pub record HasTree (maxima : List ℕ) (tag : ℕ) (table : Table) (c : ℕ) : Type 0 where
  pub trees : List TagTree
  pub ascending : IsStrictlyIncreasing (map (λ (e : TagTree). e.tag) trees)
  pub groups : table.groups ≡ all_groups (rows_of_trees maxima tag trees)
  pub rows : table.rows ≡ rows_after [] (rows_of_trees maxima tag trees)
  pub own : TagTree
  pub listed : In trees own
  pub number_is : own.tag ≡ c
  pub reduced : IsReduced own.tree maxima 1
  pub tag_free : IsFreeOf tag own.tree

-- rows of another number don't match
other_number_off :
    (M : List ℕ) (tag : ℕ) (pk : List ℕ) (c : ℕ) → slice_index pk tag ≡ c → (e : TagTree) → e.tag ≢ c
    → filter (λ (r : Plain). agrees_with M pk r.matches) (rows_for M tag e.tag e.tree) ≡ []
other_number_off M tag pk c is e ne =
    filter_none (λ (r : Plain). agrees_with M pk r.matches) (rows_for M tag e.tag e.tree) (λ r i.
    let s = from_mapped (plain_row M tag e.tag) _ r i in
    let differ : slice_index pk tag ≢ e.tag = λ f. ne (sym f ∙ is) in
    ap (λ (q : Plain). agrees_with M pk q.matches) s.2
    ∙ put_all (agrees_at M pk) (exactly M tag e.tag) s.0.matches
    ∙ ap (λ b. b && agrees_with M pk s.0.matches) (exactly_differs M pk tag e.tag differ))

module _ (t : Tables) (p : Policy) (tag : ℕ) (tags : List (List ℕ)) (g : Setting t p tag tags) where
  -- shorter names
  abbrev M : List ℕ
  M = t.fields.maxima

  module _ (c tg : ℕ) (x : Packet) (a : AtState t p tag tags tg x) where
    abbrev copy : Packet
    copy = slice_set x tag c

    -- the row for a copy with the number of a tree of the table chooses the tree's leaf
    chosen :
        (table : Table) (h : HasTree M tag table c)
        → buckets_of_row table.groups (highest [] (filter (agrees M copy) table.rows)) ≡ leaf_at h.own.tree [] x
    chosen table h =
        let rising = rising_from (map (λ (e : TagTree). e.tag) h.trees) h.ascending in
        let tags_apart = rising_no_dup (map (λ (e : TagTree). e.tag) h.trees) rising in
        let e : TagTree = h.own in
        let all : List Plain = rows_of_trees M tag h.trees in
        let lt = (g.fields_ok.tag_past_port tag g.tag_is).1 in
        let few = g.fields_ok.few in
        let long : tag < length x = omega (arith, a.packet.places, lt, few) in
        let tagged : slice_index copy tag ≡ e.tag = get_or-set_same x tag c 0 long ∙ sym h.number_is in
        let fits : (f : ℕ) → f ≢ tag → slice_index copy f ≤ slice_index M f = λ f ne. subst (λ n. n ≤ slice_index M f) (sym (get_or-set_other x tag f c 0 ne)) (a.packet.within f) in
        let one = rows_give_leaves M tag e.tag e.tree record { reduced = h.reduced; tag_free = h.tag_free } copy record { within = fits; tagged = tagged } in
        let only : filter (λ (r : Plain). agrees_with M copy r.matches) all ≡ filter (λ (r : Plain). agrees_with M copy r.matches) (rows_for M tag e.tag e.tree) =
        filter_one (λ (r : Plain). agrees_with M copy r.matches) (λ (q : TagTree). rows_for M tag q.tag q.tree) h.trees e (no_dup_from_images (λ (q : TagTree). q.tag) h.trees tags_apart) h.listed
        (λ q i ne. other_number_off M tag copy e.tag tagged q (λ f. ne (one_of_images (λ (r : TagTree). r.tag) h.trees tags_apart q e i h.listed f))) in
        let choose : Choose M all copy (leaf_at e.tree [] copy) = choose_more M copy (rows_for M tag e.tag e.tree) all (leaf_at e.tree [] copy) only one in
        ap (λ rs. buckets_of_row table.groups (highest [] (filter (agrees M copy) rs))) h.rows
        ∙ ap (λ gs. buckets_of_row gs (highest [] (filter (agrees M copy) (rows_after [] all)))) h.groups
        ∙ groups_keep_the_choice M all copy (leaf_at e.tree [] copy) choose
        ∙ leaf_stays e.tree tag c x h.tag_free

    -- so what is sent is that of its buckets
    pub sent_by_leaf :
        (table : Table) → rows_of t.tables (slice_index x 0) ≡ table.rows → groups_at_switch t.tables (slice_index x 0) ≡ table.groups
        → (h : HasTree M tag table c) → sent_for t copy ≡ filter_map (sent_by copy) (leaf_at h.own.tree [] x)
    sent_by_leaf table rows groups h =
        let sw : slice_index copy 0 ≡ slice_index x 0 = let lt : 0 < 2 = omega arith in tagged_index t p tag tags g 0 c x lt in
        ap (λ n. filter_map (sent_by copy) (buckets_of_row (groups_at_switch t.tables n) (highest [] (filter (agrees M copy) (rows_of t.tables n))))) sw
        ∙ ap (λ rs. filter_map (sent_by copy) (buckets_of_row (groups_at_switch t.tables (slice_index x 0)) (highest [] (filter (agrees M copy) rs)))) rows
        ∙ ap (λ gs. filter_map (sent_by copy) (buckets_of_row gs (highest [] (filter (agrees M copy) table.rows)))) groups
        ∙ ap (λ l. filter_map (sent_by copy) l) (chosen table h)

-- a bucket list is one where each tag is its own number
own_numbers :
    (width tag : ℕ) (p : Policy) (tags : List (List ℕ)) (tg : ℕ) (x : Packet) (buckets : List Bucket)
    → IsBucketList width tag p tags tg x buckets → IsNumberedList (λ n. n) width tag p tags tg x buckets
own_numbers width tag p tags tg x buckets h = record { exactly = h.exactly; in_order = h.in_order }

module _ (t : Tables) (p : Policy) (tag : ℕ) (tags : List (List ℕ)) (g : Setting t p tag tags) (switches : map (λ (s : Table). s.switch) t.tables ≡ map (λ (s : SwitchPorts). s.switch) t.topo.switches) (each : All (IsSwitchTable t.fields tag p tags) t.tables) where
  -- the row for a copy has its tag's buckets
  has_buckets : (tg : ℕ) (x : Packet) → AtState t p tag tags tg x → HasBuckets t p tag tags (λ n. n) tg tg x
  has_buckets tg x a =
      let f = table_for t.tables (slice_index x 0) (subst (λ l. In l (slice_index x 0)) (sym switches) a.here) in
      let table : Table = f.0 in
      let st : IsSwitchTable t.fields tag p tags table = members_from_all (IsSwitchTable t.fields tag p tags) t.tables each table f.1 in
      let has_rows : HasRowsAt p tags table.switch tg = subst (λ w. HasRowsAt p tags w tg) (sym f.2) a.rows in
      let found = from_mapped (λ (e : TagTree). e.tag) st.trees tg (in_from_contains (map (λ (e : TagTree). e.tag) st.trees) tg ((st.exactly tg).1 has_rows)) in
      let e : TagTree = found.0 in
      let is_tree : IsTreeOfTag t.fields tag p tags e.tag table.switch e.tree = members_from_all (λ (q : TagTree). IsTreeOfTag t.fields tag p tags q.tag table.switch q.tree) st.trees st.each e found.1 in
      let list = subst (λ n. IsBucketList (length t.fields.maxima) tag p tags n x (leaf_at e.tree [] x)) (sym found.2) (is_tree.leaves x a.packet (sym f.2)) in
      record {
        buckets = leaf_at e.tree [] x;
        list = own_numbers (length t.fields.maxima) tag p tags tg x (leaf_at e.tree [] x) list;
        sent_is = sent_by_leaf t p tag tags g tg tg x a table f.3 f.4
            record { trees = st.trees; ascending = st.ascending; groups = st.groups; rows = st.rows; own = e; listed = found.1; number_is = sym found.2; reduced = is_tree.reduced; tag_free = is_tree.tag_free };
      }

  -- so each tag acts for itself
  pub own_numbering : Numbering t p tag tags (λ n. n)
  own_numbering = record {
    zero_is = refl;
    acts = λ tg x under.
        let at = (come t p tag tags g tg x under).reached.at in
        acts_for t p tag tags g (λ n. n) tg tg x at (has_buckets tg x at) under refl;
    alike = λ a b x e under under' w last h. subst (λ n. GivesAs p tags n x w last) e h;
  }
