-- At most one table is printed for a policy.
use Rattle.std.proofs.Common.{◌≡◌, ℕ, ◌≤◌, inl, inr, Some, List, [], ◌∷◌, length, refl, sym, ap, subst, ◌∙◌}
use Rattle.std.specs.Prelude.{map, slice_index, All}
use Rattle.nk_field.specs.Packet.{FieldTable}
use Rattle.nk_field.proofs.Lists.{In, in_from_contains, contains_from_in, in_mapped, from_mapped}
use Rattle.nk_field.proofs.Ascending.{members_from_all, rising_from, one_list}
use Rattle.nk_topo.specs.Topology.{Topology, SwitchPorts}
use Rattle.nk_policy.specs.Policy.{Policy}
use Rattle.nk_table.specs.declared.Table.{Table}
use Rattle.nk_table.specs.declared.Tables.{Tables}
use Rattle.nk_group.specs.Groups.{groups_of, rows_after}
use Rattle.nk_compile.specs.NumberedAfter.{tags_after, IsTableAfter}
use Rattle.nk_compile.specs.PrintedTable.{IsTreeOfTag}
use Rattle.nk_compile.specs.WholeTable.{HasRowsAt, TagTree, rows_of_trees, IsSwitchTable, IsTableOf}
use Rattle.nk_uniqueness.specs.Packets.{HavePackets}
use Rattle.nk_compile.proofs.TagsNumberedAfter.{after_none}
use Rattle.nk_compile.proofs.OneTagList.{one_tag_list}
use Rattle.nk_uniqueness.proofs.Trees.{one_tag_tree}

pub number_is : (m n : ℕ) → Some m ≡ Some n → m ≡ n
number_is m n e = cc

-- equal lists have equal first elements and rests
first_is : {X : Type 0} (x : X) (xs : List X) (y : X) (ys : List X) → x ∷ xs ≡ y ∷ ys → x ≡ y
first_is x xs y ys e = cc

rest_is : {X : Type 0} (x : X) (xs : List X) (y : X) (ys : List X) → x ∷ xs ≡ y ∷ ys → xs ≡ ys
rest_is x xs y ys e = cc

none_first : {X : Type 0} (x : X) (xs : List X) → [] ≡ x ∷ xs → ⊥
none_first x xs e = cc

-- lists with the same keys, where elements with one key are one
pub same_by_key : {X : Type 0} (key : X → ℕ) (xs ys : List X) → map key xs ≡ map key ys
    → ((x y : X) → In xs x → In ys y → key x ≡ key y → x ≡ y) → xs ≡ ys
same_by_key key [] [] e one = refl
same_by_key key [] (y ∷ ys) e one = absurd (none_first (key y) (map key ys) e)
same_by_key key (x ∷ xs) [] e one = absurd (none_first (key x) (map key xs) (sym e))
same_by_key key (x ∷ xs) (y ∷ ys) e one =
    let head = one x y (inl refl) (inl refl) (first_is (key x) (map key xs) (key y) (map key ys) e) in
    let tail = same_by_key key xs ys (rest_is (key x) (map key xs) (key y) (map key ys) e) (λ a b i j. one a b (inr i) (inr j)) in
    ap (λ w. w ∷ xs) head ∙ ap (λ w. y ∷ w) tail

module _ (fields : FieldTable) (few : length fields.maxima ≤ 18) (tag : ℕ) (p : Policy) (tags : List (List ℕ)) where
  -- the trees of a switch are one list
  one_tree_list : (sw : ℕ) → sw ≤ slice_index fields.maxima 0 → (xs ys : List TagTree) → map (λ e. e.tag) xs ≡ map (λ e. e.tag) ys
      → ((e : TagTree) → In xs e → IsTreeOfTag fields tag p tags e.tag sw e.tree)
      → ((e : TagTree) → In ys e → IsTreeOfTag fields tag p tags e.tag sw e.tree) → xs ≡ ys
  one_tree_list sw within xs ys same h k = same_by_key (λ e. e.tag) xs ys same one
    where
      one : (x y : TagTree) → In xs x → In ys y → x.tag ≡ y.tag → x ≡ y
      one x y i j e =
          let tree = one_tag_tree fields tag p tags y.tag sw x.tree y.tree few within (subst (λ t. IsTreeOfTag fields tag p tags t sw x.tree) e (h x i)) (k y j) in
          λ n. record { tag = e n; tree = tree n }

  -- the table of a switch is one
  one_switch_table : (a b : Table) → a.switch ≤ slice_index fields.maxima 0 → a.switch ≡ b.switch → IsSwitchTable fields tag p tags a → IsSwitchTable fields tag p tags b → a ≡ b
  one_switch_table a b within e h k =
      let tags_are =
      one_list (map (λ z. z.tag) h.trees) (map (λ z. z.tag) k.trees) (rising_from (map (λ z. z.tag) h.trees) h.ascending) (rising_from (map (λ z. z.tag) k.trees) k.ascending)
      (λ t i. in_from_contains (map (λ z. z.tag) k.trees) t ((k.exactly t).1 (subst (λ sw. HasRowsAt p tags sw t) e ((h.exactly t).0 (contains_from_in (map (λ z. z.tag) h.trees) t i)))))
      (λ t i. in_from_contains (map (λ z. z.tag) h.trees) t ((h.exactly t).1 (subst (λ sw. HasRowsAt p tags sw t) (sym e) ((k.exactly t).0 (contains_from_in (map (λ z. z.tag) k.trees) t i))))) in
      let trees =
      one_tree_list a.switch within h.trees k.trees tags_are
      (λ z i. members_from_all (λ (w : TagTree). IsTreeOfTag fields tag p tags w.tag a.switch w.tree) h.trees h.each z i)
      (λ z i. subst (λ sw. IsTreeOfTag fields tag p tags z.tag sw z.tree) (sym e) (members_from_all (λ (w : TagTree). IsTreeOfTag fields tag p tags w.tag b.switch w.tree) k.trees k.each z i)) in
      let groups = h.groups ∙ ap (λ ts. groups_of (rows_of_trees fields.maxima tag ts)) trees ∙ sym k.groups in
      let rows = h.rows ∙ ap (λ ts. rows_after [] (rows_of_trees fields.maxima tag ts)) trees ∙ sym k.rows in
      λ n. record { switch = e n; groups = groups n; rows = rows n }

-- the tables that are printed for a policy after so many tags are one
pub one_table_after : (first : ℕ) (fields : FieldTable) (topo : Topology) (Start : List ℕ → Type 0) (p : Policy) (t u : Tables) → HavePackets fields topo
    → IsTableAfter first fields topo Start p t → IsTableAfter first fields topo Start p u → t ≡ u
one_table_after first fields topo Start p t u there h k =
    let tag_is : h.tag ≡ k.tag = number_is h.tag k.tag (sym h.tag_declared ∙ k.tag_declared) in
    let tags_are : h.tags ≡ k.tags = one_tag_list p Start h.tags k.tags h.in_order k.in_order in
    let h_each : All (IsSwitchTable fields k.tag p (tags_after first k.tags)) t.tables =
    subst (λ g. All (IsSwitchTable fields g p (tags_after first k.tags)) t.tables) tag_is (subst (λ ts. All (IsSwitchTable fields h.tag p (tags_after first ts)) t.tables) tags_are h.each) in
    let tables =
    same_by_key (λ (s : Table). s.switch) t.tables u.tables (h.switches ∙ sym k.switches) (λ a b i j e.
    one_switch_table fields there.few k.tag p (tags_after first k.tags) a b (within a i) e
    (members_from_all (IsSwitchTable fields k.tag p (tags_after first k.tags)) t.tables h_each a i)
    (members_from_all (IsSwitchTable fields k.tag p (tags_after first k.tags)) u.tables k.each b j)) in
    λ n. record { fields = (h.same_fields ∙ sym k.same_fields) n; topo = (h.same_topology ∙ sym k.same_topology) n; tables = tables n }
  where
    -- a table's switch is declared
    within : (a : Table) → In t.tables a → a.switch ≤ slice_index fields.maxima 0
    within a i =
        let s = from_mapped (λ (z : SwitchPorts). z.switch) topo.switches a.switch (subst (λ ns. In ns a.switch) h.switches (in_mapped (λ (z : Table). z.switch) t.tables a i)) in
        subst (λ n. n ≤ slice_index fields.maxima 0) (sym s.2) (members_from_all (λ (z : SwitchPorts). z.switch ≤ slice_index fields.maxima 0) topo.switches there.switches s.0 s.1)

-- so are the printed tables of a policy
pub one_table : (fields : FieldTable) (topo : Topology) (Start : List ℕ → Type 0) (p : Policy) (t u : Tables) → HavePackets fields topo
    → IsTableOf fields topo Start p t → IsTableOf fields topo Start p u → t ≡ u
one_table fields topo Start p t u there h k =
    one_table_after 0 fields topo Start p t u there (after_none fields topo Start p t h) (after_none fields topo Start p u k)
