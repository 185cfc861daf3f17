-- At most one merged table is printed for a policy, and at most one history tells two classes of its tag sets apart.
use Rattle.std.proofs.Common.{◌≡◌, ◌∙◌, ℕ, zero, suc, ◌<◌, ◌≤◌, ◌⊎◌, inl, inr, ⊎_elim, Some, List, [], length, sym, ap, subst, arith}
use Rattle.std.specs.Prelude.{map, slice_get, slice_index, All}
use Rattle.nk_field.specs.declared.packet.Packet.{Packet}
use Rattle.nk_field.specs.Order.{Found, IsLeast}
use Rattle.nk_field.specs.Packet.{FieldTable, erased}
use Rattle.nk_field.proofs.Lists.{In, in_from_contains, contains_from_in, in_mapped, from_mapped}
use Rattle.nk_field.proofs.Ascending.{members_from_all, rising_from, one_list}
use Rattle.nk_topo.specs.Topology.{Topology, SwitchPorts}
use Rattle.nk_policy.specs.Policy.{Policy}
use Rattle.nk_names.specs.declared.Program.{Program}
use Rattle.nk_names.specs.Accepted.{IsStartPacket}
use Rattle.nk_names.specs.ProgramOf.{program_by}
use Rattle.nk_names.proofs.Alike.{fields_alike, topo_alike, one_policy}
use Rattle.nk_store.specs.Diagram.{leaf_at}
use Rattle.nk_table.specs.declared.Bucket.{Bucket}
use Rattle.nk_table.specs.declared.Table.{Table}
use Rattle.nk_table.specs.declared.Tables.{Tables}
use Rattle.nk_extract.specs.Buckets.{IsBucketBefore}
use Rattle.nk_group.specs.Groups.{groups_of, rows_after}
use Rattle.nk_group.specs.Classed.{class_of}
use Rattle.nk_compile.specs.PrintedTable.{IsNumberedList}
use Rattle.nk_compile.specs.Refusals.{found_from}
use Rattle.nk_compile.specs.WholeTable.{TagTree, rows_of_trees}
use Rattle.nk_compile.proofs.OneTagList.{three, one_tag_list}
use Rattle.nk_compile.proofs.Orders.{one_least, same_sorted}
use Rattle.nk_compile.proofs.ReasonByName.{alike}
use Rattle.nk_compact.specs.declared.compact.DistinguishingHistory.{DistinguishingHistory}
use Rattle.nk_compact.specs.declared.compact.Compact.{Compact}
use Rattle.nk_compact.specs.Compacted.{IsOfFirstSetAlone, IsLeastAlone, IsFirstSet, IsDistinguishingHistory, classes_distinguished, AreDistinguishingHistories, IsCompactOf, IsCompacted}
use Rattle.nk_compact.specs.MergedTable.{GivesAfter, IsOfClass, IsMetMember, IsFirstPlace, IsActingMember, ActsFor, IsClassTree, HasClassRowsAt, IsClassTable, IsMergedTable}
use Rattle.nk_compact.proofs.CompactReasons.{one_classes}
use Rattle.nk_uniqueness.specs.Packets.{HavePackets}
use Rattle.nk_uniqueness.proofs.OneTable.{number_is, same_by_key}
use Rattle.nk_uniqueness.proofs.Trees.{Tree, bucket_once, one_tree_at}

-- ---- which member acts

-- the first place is one
one_first : (P : ℕ → Type 0) (i j : ℕ) → IsFirstPlace P i → IsFirstPlace P j → i ≡ j
one_first P i j h k =
    ⊎_elim
    (λ lt. absurd (k.1 i lt h.0))
    (λ rest. ⊎_elim (λ lt. absurd (h.1 j lt k.0)) (λ e. e) rest)
    (three i j)

module _ (p : Policy) (Start : Packet → Type 0) (tags : List (List ℕ)) (classes : List ℕ) where
  one_member : (c : ℕ) (x : Packet) (i j : ℕ) → IsActingMember p Start tags classes c x i → IsActingMember p Start tags classes c x j → i ≡ j
  one_member c x i j (inl a) (inl b) = one_first (IsMetMember p Start tags classes c x) i j a b
  one_member c x i j (inl a) (inr b) = absurd (b.0 i a.0)
  one_member c x i j (inr a) (inl b) = absurd (a.0 j b.0)
  one_member c x i j (inr a) (inr b) = one_first (IsOfClass classes c) i j a.1 b.1

  one_acts : (c : ℕ) (x : Packet) (t u : ℕ) → ActsFor p Start tags classes c x t → ActsFor p Start tags classes c x u → t ≡ u
  one_acts zero x t u h k = h ∙ sym k
  one_acts (suc c) x zero u h k = absurd h
  one_acts (suc c) x (suc t) zero h k = absurd k
  one_acts (suc c) x (suc t) (suc u) h k = ap suc (one_member (suc c) x t u h k)

  -- ---- the tables

  module _ (fields : FieldTable) (few : length fields.maxima ≤ 18) (tag : ℕ) where
    abbrev Numbered : ℕ → List ℕ → List Bucket → Type 0
    Numbered t pk xs = IsNumberedList (class_of classes) (length fields.maxima) tag p tags t pk xs

    one_numbered_list : (t : ℕ) (pk : List ℕ) (xs ys : List Bucket) → Numbered t pk xs → Numbered t pk ys → xs ≡ ys
    one_numbered_list t pk xs ys h k =
        same_sorted (IsBucketBefore tag) (bucket_once tag) xs ys h.in_order k.in_order
        (λ b i. in_from_contains ys b ((k.exactly b).1 ((h.exactly b).0 (contains_from_in xs b i))))
        (λ b i. in_from_contains xs b ((h.exactly b).1 ((k.exactly b).0 (contains_from_in ys b i))))

    one_class_tree : (c sw : ℕ) (d e : Tree) → sw ≤ slice_index fields.maxima 0
        → IsClassTree fields tag Start p tags classes c sw d → IsClassTree fields tag Start p tags classes c sw e → d ≡ e
    one_class_tree c sw d e within h k =
        one_tree_at fields sw d e few within h.reduced k.reduced
        (λ pk good at.
        let a = h.leaves pk good at in
        let b = k.leaves pk good at in
        let same = one_acts c (erased fields pk) a.0 b.0 a.1 b.1 in
        one_numbered_list b.0 pk (leaf_at d [] pk) (leaf_at e [] pk) (subst (λ t. Numbered t pk (leaf_at d [] pk)) same a.2) b.2)

    one_class_list : (sw : ℕ) → sw ≤ slice_index fields.maxima 0 → (xs ys : List TagTree) → map (λ e. e.tag) xs ≡ map (λ e. e.tag) ys
        → ((e : TagTree) → In xs e → IsClassTree fields tag Start p tags classes e.tag sw e.tree)
        → ((e : TagTree) → In ys e → IsClassTree fields tag Start p tags classes e.tag sw e.tree) → xs ≡ ys
    one_class_list sw within xs ys same h k = same_by_key (λ e. e.tag) xs ys same one
      where
        one : (x y : TagTree) → In xs x → In ys y → x.tag ≡ y.tag → x ≡ y
        one x y i j e =
            let tree = one_class_tree y.tag sw x.tree y.tree within (subst (λ t. IsClassTree fields tag Start p tags classes t sw x.tree) e (h x i)) (k y j) in
            λ n. record { tag = e n; tree = tree n }

    one_class_table : (a b : Table) → a.switch ≤ slice_index fields.maxima 0 → a.switch ≡ b.switch
        → IsClassTable fields tag Start p tags classes a → IsClassTable fields tag Start p tags classes b → a ≡ b
    one_class_table a b within e h k =
        let numbers : List TagTree → List ℕ = λ zs. map (λ z. z.tag) zs in
        let tags_are =
        one_list (numbers h.trees) (numbers k.trees) (rising_from (numbers h.trees) h.ascending) (rising_from (numbers k.trees) k.ascending)
        (λ t i. in_from_contains (numbers k.trees) t ((k.exactly t).1 (subst (λ sw. HasClassRowsAt p tags classes sw t) e ((h.exactly t).0 (contains_from_in (numbers h.trees) t i)))))
        (λ t i. in_from_contains (numbers h.trees) t ((h.exactly t).1 (subst (λ sw. HasClassRowsAt p tags classes sw t) (sym e) ((k.exactly t).0 (contains_from_in (numbers k.trees) t i))))) in
        let trees =
        one_class_list a.switch within h.trees k.trees tags_are
        (λ z i. members_from_all (λ (w : TagTree). IsClassTree fields tag Start p tags classes w.tag a.switch w.tree) h.trees h.each z i)
        (λ z i. subst (λ sw. IsClassTree fields tag Start p tags classes z.tag sw z.tree) (sym e) (members_from_all (λ (w : TagTree). IsClassTree fields tag Start p tags classes w.tag b.switch w.tree) k.trees k.each z i)) in
        let groups = h.groups ∙ ap (λ ts. groups_of (rows_of_trees fields.maxima tag ts)) trees ∙ sym k.groups in
        let rows = h.rows ∙ ap (λ ts. rows_after [] (rows_of_trees fields.maxima tag ts)) trees ∙ sym k.rows in
        λ n. record { switch = e n; groups = groups n; rows = rows n }

  one_merged : (fields : FieldTable) (topo : Topology) (t u : Tables) → HavePackets fields topo
      → IsMergedTable fields topo Start p tags classes t → IsMergedTable fields topo Start p tags classes u → t ≡ u
  one_merged fields topo t u there h k =
      let tag_is : h.tag ≡ k.tag = number_is h.tag k.tag (sym h.tag_declared ∙ k.tag_declared) in
      let h_each : All (IsClassTable fields k.tag Start p tags classes) t.tables = subst (λ g. All (IsClassTable fields g Start p tags classes) t.tables) tag_is h.each in
      let tables =
      same_by_key (λ (s : Table). s.switch) t.tables u.tables (h.switches ∙ sym k.switches) (λ a b i j e.
      one_class_table fields there.few k.tag a b (within a i) e
      (members_from_all (IsClassTable fields k.tag Start p tags classes) t.tables h_each a i)
      (members_from_all (IsClassTable fields k.tag Start p tags classes) u.tables k.each b j)) in
      λ n. record { fields = (h.same_fields ∙ sym k.same_fields) n; topo = (h.same_topology ∙ sym k.same_topology) n; tables = tables n }
    where
      -- a table's switch is declared
      within : (a : Table) → In t.tables a → a.switch ≤ slice_index fields.maxima 0
      within a i =
          let s = from_mapped (λ (z : SwitchPorts). z.switch) topo.switches a.switch (subst (λ ns. In ns a.switch) h.switches (in_mapped (λ (z : Table). z.switch) t.tables a i)) in
          subst (λ n. n ≤ slice_index fields.maxima 0) (sym s.2) (members_from_all (λ (z : SwitchPorts). z.switch ≤ slice_index fields.maxima 0) topo.switches there.switches s.0 s.1)

-- ---- what tells classes apart

set_is : (s t : List ℕ) → Some s ≡ Some t → s ≡ t
set_is s t e = cc

module _ (fields : FieldTable) (p : Policy) where
  -- the least of two kinds is that of both in the other order
  swapped : (s t : List ℕ) (f : Found) → IsLeast (λ g. IsOfFirstSetAlone fields p t s g ⊎ IsOfFirstSetAlone fields p s t g) f → IsLeast (λ g. IsOfFirstSetAlone fields p s t g ⊎ IsOfFirstSetAlone fields p t s g) f
  swapped s t f h = (⊎_elim (λ a. inr a) (λ b. inl b) h.0, λ g k. h.1 g (⊎_elim (λ a. inr a) (λ b. inl b) k))

  -- the found history and which of both has it
  abbrev Sided : List ℕ → List ℕ → ℕ → ℕ → ℕ → Found → Type 0
  Sided s t first second alone f = ((alone ≡ first) × IsLeastAlone fields p s t f) ⊎ ((alone ≡ second) × IsLeastAlone fields p t s f)

  clash : (s t : List ℕ) (f g : Found) → f ≡ g → IsOfFirstSetAlone fields p s t f → IsOfFirstSetAlone fields p t s g → ⊥
  clash s t f g e a b = b.2 (subst (λ z. GivesAfter p s z.start z.records z.last) e a.1)

  one_sided : (s t : List ℕ) (first second m n : ℕ) (f g : Found) → Sided s t first second m f → Sided s t first second n g → (m ≡ n) × (f ≡ g)
  one_sided s t first second m n f g (inl a) (inl b) =
      (a.0 ∙ sym b.0, one_least (λ z. IsOfFirstSetAlone fields p s t z ⊎ IsOfFirstSetAlone fields p t s z) f g a.1.1 b.1.1)
  one_sided s t first second m n f g (inl a) (inr b) =
      absurd (clash s t f g (one_least (λ z. IsOfFirstSetAlone fields p s t z ⊎ IsOfFirstSetAlone fields p t s z) f g a.1.1 (swapped s t g b.1.1)) a.1.0 b.1.0)
  one_sided s t first second m n f g (inr a) (inl b) =
      absurd (clash t s f g (one_least (λ z. IsOfFirstSetAlone fields p t s z ⊎ IsOfFirstSetAlone fields p s t z) f g a.1.1 (swapped t s g b.1.1)) a.1.0 b.1.0)
  one_sided s t first second m n f g (inr a) (inr b) =
      (a.0 ∙ sym b.0, one_least (λ z. IsOfFirstSetAlone fields p t s z ⊎ IsOfFirstSetAlone fields p s t z) f g a.1.1 b.1.1)

  module _ (tags : List (List ℕ)) (classes : List ℕ) where
    one_first_set : (c : ℕ) (s t : List ℕ) → IsFirstSet tags classes c s → IsFirstSet tags classes c t → s ≡ t
    one_first_set c s t h k = set_is s t (sym h.2 ∙ ap (λ i. slice_get tags i) (one_first (IsOfClass classes c) h.0 k.0 h.1 k.1) ∙ k.2)

    one_distinguishing_history : (a b : DistinguishingHistory) → IsDistinguishingHistory fields p tags classes a → IsDistinguishingHistory fields p tags classes b → a.first ≡ b.first → a.second ≡ b.second → a ≡ b
    one_distinguishing_history a b h k e f =
        let s = one_first_set b.first h.s k.s (subst (λ c. IsFirstSet tags classes c h.s) e h.of_first) k.of_first in
        let t = one_first_set b.second h.t k.t (subst (λ c. IsFirstSet tags classes c h.t) f h.of_second) k.of_second in
        let mine : Sided k.s k.t b.first b.second a.alone (found_from a.start a.history) =
        subst (λ c. Sided k.s k.t b.first c a.alone (found_from a.start a.history)) f
        (subst (λ c. Sided k.s k.t c a.second a.alone (found_from a.start a.history)) e
        (subst (λ z. Sided k.s z a.first a.second a.alone (found_from a.start a.history)) t
        (subst (λ z. Sided z h.t a.first a.second a.alone (found_from a.start a.history)) s h.least))) in
        let one = one_sided k.s k.t b.first b.second a.alone b.alone (found_from a.start a.history) (found_from b.start b.history) mine k.least in
        let records = ap (λ (z : Found). z.records) one.1 in
        let last = ap (λ (z : Found). z.last) one.1 in
        let start = ap (λ (z : Found). z.start) one.1 in
        λ n. record { first = e n; second = f n; alone = one.0 n; start = start n; history = record { records = records n; last = last n } }

    abbrev IsBefore : DistinguishingHistory → DistinguishingHistory → Type 0
    IsBefore a b = (a.first < b.first) ⊎ ((a.first ≡ b.first) × (a.second < b.second))

    before_once : (a b : DistinguishingHistory) → IsBefore a b → IsBefore b a → ⊥
    before_once a b (inl lt) (inl less) = omega (arith, lt, less)
    before_once a b (inl lt) (inr k) = omega (arith, lt, k.0)
    before_once a b (inr h) (inl less) = omega (arith, less, h.0)
    before_once a b (inr h) (inr k) = omega (arith, h.1, k.1)

    -- what tells two classes apart in one list does in the other
    there : (xs ys : List DistinguishingHistory) → AreDistinguishingHistories fields p tags classes xs → AreDistinguishingHistories fields p tags classes ys → (a : DistinguishingHistory) → In xs a → In ys a
    there xs ys h k a i =
        let here = contains_from_in (map classes_distinguished xs) (classes_distinguished a) (in_mapped classes_distinguished xs a i) in
        let b = from_mapped classes_distinguished ys (classes_distinguished a) (in_from_contains (map classes_distinguished ys) (classes_distinguished a) ((k.exactly a.first a.second).1 ((h.exactly a.first a.second).0 here))) in
        let same = one_distinguishing_history a b.0
        (members_from_all (IsDistinguishingHistory fields p tags classes) xs h.each a i)
        (members_from_all (IsDistinguishingHistory fields p tags classes) ys k.each b.0 b.1)
        (ap (λ (q : ℕ × ℕ). q.0) b.2) (ap (λ (q : ℕ × ℕ). q.1) b.2) in
        subst (In ys) (sym same) b.1

    one_distinguishing_histories : (xs ys : List DistinguishingHistory) → AreDistinguishingHistories fields p tags classes xs → AreDistinguishingHistories fields p tags classes ys → xs ≡ ys
    one_distinguishing_histories xs ys h k = same_sorted IsBefore before_once xs ys h.in_order k.in_order (there xs ys h k) (there ys xs k h)

-- ---- both

-- what compacting a policy gives is one
one_compact : (fields : FieldTable) (topo : Topology) (p : Policy) (c d : Compact) → HavePackets fields topo → IsCompactOf fields topo p c → IsCompactOf fields topo p d → c ≡ d
one_compact fields topo p c d have h k =
    let tags = one_tag_list p (IsStartPacket fields topo) h.tags k.tags h.merged.in_order k.merged.in_order in
    let classes = one_classes fields topo p h.tags k.tags h.classes k.classes h.merged.in_order k.merged.in_order h.merged.are_classes k.merged.are_classes in
    let tables =
    one_merged p (IsStartPacket fields topo) k.tags k.classes fields topo c.tables d.tables have
    (subst (λ cs. IsMergedTable fields topo (IsStartPacket fields topo) p k.tags cs c.tables) classes (subst (λ ts. IsMergedTable fields topo (IsStartPacket fields topo) p ts h.classes c.tables) tags h.merged)) k.merged in
    let aparts =
    one_distinguishing_histories fields p k.tags k.classes c.aparts d.aparts
    (subst (λ cs. AreDistinguishingHistories fields p k.tags cs c.aparts) classes (subst (λ ts. AreDistinguishingHistories fields p ts h.classes c.aparts) tags h.apart)) k.apart in
    λ n. record { tables = tables n; aparts = aparts n }

module _ (program other : Program) (same : program_by program ≡ program_by other) (name : List ℕ) where
  -- and so is what compacting a name gives
  pub one_compacted : (c d : Compact) → HavePackets program.fields program.topo → IsCompacted program name c → IsCompacted other name d → c ≡ d
  one_compacted c d have h k =
      one_compact program.fields program.topo h.0 c d have h.2
      (alike (λ f o p. IsCompactOf f o p d) other.fields program.fields other.topo program.topo k.0 h.0 (sym (fields_alike program other same)) (sym (topo_alike program other same)) (sym (one_policy program other same name h.0 k.0 h.1 k.1)) k.2)
