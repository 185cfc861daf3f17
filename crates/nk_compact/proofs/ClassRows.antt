-- The tables that are made of a policy's states and classes are the merged ones.
use Rattle.std.proofs.Common.{◌≡◌, ◌≢◌, ℕ, zero, suc, ◌+◌, ◌<◌, ◌≤◌, ◌↔◌, ◌⊎◌, inl, inr, ⊎_elim, true, Option, Some, None, List, [], ◌∷◌, length, get_or, refl, sym, ap, subst, ◌∙◌, arith, length-set, get_or-set_other}
use Rattle.std.specs.Prelude.{All, map, Contains, slice_get, slice_index, slice_set}
use Rattle.std.specs.List.Sorted.{IsStrictlyIncreasing}
use Rattle.std.proofs.lemmas.List.{length-map, get_or_default}
use Rattle.nk_field.specs.declared.packet.Packet.{Packet}
use Rattle.nk_field.specs.Packet.{FieldTable, IsPacket, erased, without}
use Rattle.nk_field.proofs.Lists.{In, contains_from_in, in_from_contains, from_mapped, numbers_decided}
use Rattle.nk_field.proofs.Ascending.{rising_from, increasing_from, all_from_members, members_from_all}
use Rattle.nk_topo.specs.Topology.{Topology, numbers_of}
use Rattle.nk_policy.specs.Policy.{Policy}
use Rattle.nk_policy.specs.Tags.{AreTags}
use Rattle.nk_policy.proofs.Numbering.{numbered_distinct}
use Rattle.nk_names.specs.Accepted.{IsStartPacket}
use Rattle.nk_store.specs.Diagram.{IsReduced, leaf_at}
use Rattle.nk_store.specs.StoreState.{StoreState, IsId, IsStorePacket as IsPacketOf}
use Rattle.nk_store.proofs.InRange.{packet_in_range}
use Rattle.nk_apply.specs.PacketSets.{is_in}
use Rattle.nk_extract.specs.Buckets.{bucket_of, AreBuckets}
use Rattle.nk_group.specs.Groups.{groups_of, rows_after}
use Rattle.nk_group.specs.declared.switch_tags.ActingTag.{ActingTag}
use Rattle.nk_group.specs.declared.switch_tags.ClassHere.{ClassHere}
use Rattle.nk_group.specs.declared.switch_tags.SwitchClasses.{SwitchClasses}
use Rattle.nk_group.specs.declared.switch_tags.SwitchTags.{SwitchTags}
use Rattle.nk_group.specs.Matched.{Matched}
use Rattle.nk_group.specs.Tagged.{set_of_tag, members_of}
use Rattle.nk_group.specs.Made.{IsTagAt}
use Rattle.nk_group.specs.Classed.{class_of, acting_tag, LeadsTo, IsActingAt, IsClassAt, AreSwitchClasses, IsClassTreeAt, IsClassTableAt}
use Rattle.nk_group.proofs.Matching.{of_second, matched_maps}
use Rattle.nk_table.specs.declared.Table.{Table}
use Rattle.nk_table.specs.declared.Tables.{Tables}
use Rattle.nk_compile.specs.Comings.{ComesTo, HasComing}
use Rattle.nk_compile.specs.MetUnder.{IsMetUnder}
use Rattle.nk_compile.specs.PrintedTable.{IsNumberedList}
use Rattle.nk_compile.specs.Ready.{sets_of}
use Rattle.nk_compile.specs.WholeTable.{TagTree, rows_of_trees, HasRowsAt, link_end}
use Rattle.nk_compile.proofs.CompileErrors.{is_compilable}
use Rattle.nk_compile.proofs.Reached.{Setting, come}
use Rattle.nk_compile.proofs.Results.{set_there, set_within, tag_at, results_are, declared_are}
use Rattle.nk_compile.proofs.StatesOfPositions.{IsTagged}
use Rattle.nk_compile.proofs.TagPlaces.{tags_stand}
use Rattle.nk_compile.proofs.TagTables.{tagged, comes_rows}
use Rattle.nk_compact.specs.ClassesAtSwitches.{acting_of, classes_among, switch_classes_of}
use Rattle.nk_compact.specs.Mergeable.{IsMergeable}
use Rattle.nk_compact.specs.MergedTable.{IsOfClass, IsMetMember, ActsFor, IsClassTree, HasClassRowsAt, IsClassTable, IsMergedTable}
use Rattle.nk_compact.proofs.ActingTags.{acting_from, acting_some, IsFirstMet, IsNoneMet, acting_is, IsClassOf, class_from, start_there, class_there, classes_rise}
use Rattle.nk_compact.proofs.Merging.{get_index, index_get}

-- a list that isn't empty has an element
some_acting : (xs : List ActingTag) → (xs ≡ [] → ⊥) → (a : ActingTag) × In xs a
some_acting [] h = absurd (h refl)
some_acting (a ∷ xs) h = (a, inl refl)

-- a packet stays in range without its tag
untagged_in_range : (fields : FieldTable) (pk : List ℕ) (tag : ℕ) → IsPacket fields pk → IsPacket fields (slice_set pk tag 0)
untagged_in_range fields pk tag k = record {
  places = length-set pk tag 0 ∙ k.places;
  within = λ f.
      ⊎_elim
      (λ e. by f (index_after pk tag f))
      (λ ne. subst (λ n. n ≤ slice_index fields.maxima f) (sym (get_or-set_other pk tag f 0 0 ne)) (k.within f))
      (numbers_decided f tag);
}
  where
    by : (f : ℕ) → (slice_index (slice_set pk tag 0) f ≡ 0) ⊎ (slice_index (slice_set pk tag 0) f ≡ slice_index pk f) → slice_index (slice_set pk tag 0) f ≤ slice_index fields.maxima f
    by f (inl z) = omega (arith, z)
    by f (inr same) = subst (λ n. n ≤ slice_index fields.maxima f) (sym same) (k.within f)

    index_after : (xs : List ℕ) (i f : ℕ) → (slice_index (slice_set xs i 0) f ≡ 0) ⊎ (slice_index (slice_set xs i 0) f ≡ slice_index xs f)
    index_after (x ∷ xs) zero zero = inl refl
    index_after (x ∷ xs) (suc i) (suc f) = index_after xs i f
    index_after xs i f = inr refl

module _ (fields : FieldTable) (topo : Topology) (tag : ℕ) (p : Policy) (st : StoreState) (ss : List (List ℕ)) (states tags classes firsts met : List ℕ) (m : IsMergeable fields topo tag p st ss states tags classes firsts met)
    (ends : List (Option ℕ)) (each_end : (l : ℕ) → l < length states → get_or ends l None ≡ link_end p l) where
  -- shorter names
  abbrev Start : Packet → Type 0
  Start = IsStartPacket fields topo

  abbrev sets : List (List ℕ)
  sets = sets_of ss tags

  -- tables with these fields, of no switch
  abbrev bare : Tables
  bare = record { fields = fields; topo = topo; tables = [] }

  setting : Setting bare p tag sets
  setting = record {
    fields_ok = m.clear.table;
    links_ok = m.clear.topology.links;
    distinct = numbered_distinct p 1 m.clear.numbered;
    in_range = m.in_range;
    compilable = is_compilable fields topo tag p m.clear m.ends;
    tag_is = m.clear.tag_is;
    stand = tags_stand p Start sets (subst (λ l. AreTags p Start l) (sym m.ready.numbered) m.ready.in_order);
  }

  past : 2 ≤ tag
  past = (m.clear.table.tag_past_port tag m.clear.tag_is).0

  -- there are as many classes as tags
  classes_count : length classes ≡ length tags
  classes_count = m.classes_are.one_each ∙ length-map tags (λ s. get_or ss s [])

  -- the set of a member
  tagged_here : (i : ℕ) → i < length tags → IsTagged p ss tags i
  tagged_here = tagged 0 fields topo tag p st ss states tags m.clear m.ready

  -- a tag comes to a switch exactly where it has rows there
  rows_here : (sw t : ℕ) → ComesTo ends ss tags (length tags) sw t ↔ HasRowsAt p sets sw t
  rows_here = comes_rows 0 fields topo tag p st ss states tags m.clear m.ready ends each_end

  -- a member of the class stands at its place
  member_at : (i c : ℕ) → i < length tags → slice_index classes i ≡ c → IsOfClass classes c i
  member_at i c lt is = get_index classes i (subst (λ n. i < n) (sym classes_count) lt) ∙ ap Some is

  module _ (s : SwitchTags) (coming : HasComing ends ss tags (length tags) s) where
    -- a tag that comes here is one of them
    tag_within : (t : ℕ) → In s.tags t → t ≤ length tags
    tag_within t i = members_from_all (λ n. n ≤ length tags) s.tags coming.within t i

    -- what is met under a tag here comes here
    comes_here : (i : ℕ) (x : Packet) → slice_index x 0 ≡ s.switch → (labels : List ℕ) → slice_get sets i ≡ Some labels → IsMetUnder p Start labels x → In s.tags (suc i)
    comes_here i x here labels get under =
        let rows = (come bare p tag sets setting (suc i) x (labels, get, under)).reached.at.rows in
        in_from_contains s.tags (suc i) ((coming.exactly (suc i)).1 ((rows_here s.switch (suc i)).1 (subst (λ w. HasRowsAt p sets w (suc i)) here rows)))

    module _ (pk : List ℕ) (packet : IsPacket fields pk) (here : slice_index pk 0 ≡ s.switch) where
      -- the packet without its tag
      abbrev bare_packet : Packet
      bare_packet = slice_set pk tag 0

      bare_in_range : IsPacket fields bare_packet
      bare_in_range = untagged_in_range fields pk tag packet

      bare_here : slice_index bare_packet 0 ≡ s.switch
      bare_here = let ne : 0 ≢ tag = λ e. omega (arith, past, e) in get_or-set_other pk tag 0 0 0 ne ∙ here

      -- whatever acts for a class, the member that acts does
      acts_here : (low : ℕ) → low < length firsts → ActsFor p Start sets classes (suc low) bare_packet (acting_tag st tag (acting_of classes met (suc low) s.tags) (slice_index firsts low + 1) pk)
      acts_here low lt =
          ⊎_elim (λ f. first f) (λ n. subst (ActsFor p Start sets classes (suc low) bare_packet) (sym (n.0 ∙ next)) (none n.1))
          (acting_is classes met (suc low) st tag (slice_index firsts low + 1) pk s.tags (rising_from s.tags coming.ascend))
        where
          next : slice_index firsts low + 1 ≡ suc (slice_index firsts low)
          next = omega arith

          -- a member under which the packet is met acts here
          met_here : (j : ℕ) → IsMetMember p Start sets classes (suc low) bare_packet j → In s.tags (suc j) × (slice_index classes j ≡ suc low) × (is_in st (slice_index met j) bare_packet ≡ true)
          met_here j q =
              let w = set_within ss tags j q.1 q.2 in
              (comes_here j bare_packet bare_here q.1 q.2 q.3, index_get classes j (suc low) q.0, ((m.met_are j w.0).met bare_packet bare_in_range).1 (subst (λ l. IsMetUnder p Start l bare_packet) (sym w.1) q.3))

          first : IsFirstMet classes met (suc low) st tag (slice_index firsts low + 1) pk s.tags (acting_tag st tag (acting_of classes met (suc low) s.tags) (slice_index firsts low + 1) pk)
              → ActsFor p Start sets classes (suc low) bare_packet (acting_tag st tag (acting_of classes met (suc low) s.tags) (slice_index firsts low + 1) pk)
          first f =
              let inside : f.place < length tags = let le = tag_within (suc f.place) f.comes in omega (arith, le) in
              subst (ActsFor p Start sets classes (suc low) bare_packet) (sym f.tag_is)
              (inl (
                (member_at f.place (suc low) inside f.class_is, set_of_tag ss tags f.place, set_there ss tags f.place inside, ((m.met_are f.place inside).met bare_packet bare_in_range).0 f.met_is),
                λ j less q. let k = met_here j q in f.first j k.0 k.1 k.2 less,
              ))

          none : IsNoneMet classes met (suc low) st tag (slice_index firsts low + 1) pk s.tags → ActsFor p Start sets classes (suc low) bare_packet (suc (slice_index firsts low))
          none n =
              let member = m.firsts_are.member low lt in
              inr (
                (λ j q. let k = met_here j q in n j k.0 k.1 k.2),
                (get_index classes (slice_index firsts low) member.0 ∙ ap Some member.1, λ j less q. m.firsts_are.first low j lt (index_get classes j (suc low) q) less),
              )

    -- a class of the switch, by its place among them
    abbrev At : ClassHere → Type 0
    At h = In (classes_among classes met firsts s.tags (length firsts)) h

    -- the tag that acts is one of the tags
    acting_within : (h : ClassHere) → At h → (pk : List ℕ) → acting_tag st tag h.acting h.other pk ≤ length tags
    acting_within h i pk =
        ⊎_elim
        (λ e. subst (λ (q : ClassHere). acting_tag st tag q.acting q.other pk ≤ length tags) (sym e) (omega arith))
        (λ k. by k.0 k.1)
        (class_from classes met firsts s.tags (length firsts) h i)
      where
        by : (k : IsClassOf classes met firsts s.tags h) → k.low < length firsts → acting_tag st tag h.acting h.other pk ≤ length tags
        by k lt =
            subst (λ l. acting_tag st tag l h.other pk ≤ length tags) (sym k.acting_are)
            (subst (λ n. acting_tag st tag (acting_of classes met (suc k.low) s.tags) n pk ≤ length tags) (sym k.other_is)
            (⊎_elim
            (λ f. subst (λ n. n ≤ length tags) (sym f.tag_is) (tag_within (suc f.place) f.comes))
            (λ n. subst (λ t. t ≤ length tags) (sym n.0) (let member = (m.firsts_are.member k.low lt).0 in omega (arith, member, classes_count)))
            (acting_is classes met (suc k.low) st tag (slice_index firsts k.low + 1) pk s.tags (rising_from s.tags coming.ascend))))

    -- it acts for its class
    acts_for : (h : ClassHere) → At h → (pk : List ℕ) → IsPacket fields pk → slice_index pk 0 ≡ s.switch → ActsFor p Start sets classes h.class (erased fields pk) (acting_tag st tag h.acting h.other pk)
    acts_for h i pk packet here =
        subst (λ x. ActsFor p Start sets classes h.class x (acting_tag st tag h.acting h.other pk)) (sym (ap (λ o. without o pk) m.clear.tag_is))
        (⊎_elim
        (λ e. subst (λ (q : ClassHere). ActsFor p Start sets classes q.class (slice_set pk tag 0) (acting_tag st tag q.acting q.other pk)) (sym e) refl)
        (λ k.
        subst (λ c. ActsFor p Start sets classes c (slice_set pk tag 0) (acting_tag st tag h.acting h.other pk)) (sym k.0.class_is)
        (subst (λ l. ActsFor p Start sets classes (suc k.0.low) (slice_set pk tag 0) (acting_tag st tag l h.other pk)) (sym k.0.acting_are)
        (subst (λ n. ActsFor p Start sets classes (suc k.0.low) (slice_set pk tag 0) (acting_tag st tag (acting_of classes met (suc k.0.low) s.tags) n pk)) (sym k.0.other_is)
        (acts_here pk packet here k.0.low k.1))))
        (class_from classes met firsts s.tags (length firsts) h i))

    -- the tree of a class
    tree_is : (h : ClassHere) → At h → (e : TagTree) → IsClassTreeAt st ss states tags classes tag s.switch h e → IsClassTree fields tag Start p sets classes e.tag s.switch e.tree
    tree_is h i e k = record {
      reduced = subst (λ q. IsReduced e.tree q 1) (declared_are 0 fields topo tag p st ss states tags m.clear m.ready tagged_here) k.reduced;
      tag_free = k.tag_free;
      leaves = λ pk packet here.
          let r : IsPacketOf st pk = packet_in_range fields st pk m.ready.over packet in
          let t = acting_tag st tag h.acting h.other pk in
          let le = acting_within h i pk in (
            t,
            subst (λ c. ActsFor p Start sets classes c (erased fields pk) t) (sym k.number_is) (acts_for h i pk packet here),
            list e pk r t le (subst (λ n. AreBuckets n tag (λ y c. LeadsTo st ss states tags classes (members_of ss tags t) pk y c) pk (leaf_at e.tree [] pk)) m.ready.over.width (k.leaves pk r here)),
          );
    }
      where
        list : (e : TagTree) (pk : List ℕ) → IsPacketOf st pk → (t : ℕ) → t ≤ length tags → AreBuckets (length fields.maxima) tag (λ y c. LeadsTo st ss states tags classes (members_of ss tags t) pk y c) pk (leaf_at e.tree [] pk)
            → IsNumberedList (class_of classes) (length fields.maxima) tag p sets t pk (leaf_at e.tree [] pk)
        list e pk r t le b = record {
          exactly = λ x. (
            λ c.
                let h = (b.exactly x).0 c in
                let l = h.2 in
                (h.0, l.0, (results_are 0 fields topo tag p st ss states tags m.clear m.ready tagged_here t le pk r h.0 l.0).0 l.1, subst (λ n. x ≡ bucket_of (length fields.maxima) tag pk h.0 n) l.2 h.3),
            λ h. (b.exactly x).1 (h.0, class_of classes h.1, (h.1, (results_are 0 fields topo tag p st ss states tags m.clear m.ready tagged_here t le pk r h.0 h.1).1 h.2, refl), h.3),
          );
          in_order = b.in_order;
        }

    -- a class has rows here exactly where it is one of the switch's
    rows_are : (c : ℕ) → In (map (λ (h : ClassHere). h.class) (classes_among classes met firsts s.tags (length firsts))) c ↔ HasClassRowsAt p sets classes s.switch c
    rows_are zero = (λ i. tt, λ u. start_there classes met firsts s.tags (length firsts))
    rows_are (suc low) = (
      λ i.
          let f = from_mapped (λ (h : ClassHere). h.class) (classes_among classes met firsts s.tags (length firsts)) (suc low) i in
          ⊎_elim
          (λ e. absurd (let z = ap (λ (q : ClassHere). q.class) e in omega (arith, z, f.2)))
          (λ k. by f.0 k.0 (let is = k.0.class_is in omega (arith, is, f.2)))
          (class_from classes met firsts s.tags (length firsts) f.0 f.1),
      λ h.
          let comes = in_from_contains s.tags (suc h.0) ((coming.exactly (suc h.0)).1 ((rows_here s.switch (suc h.0)).1 h.2)) in
          let inside : h.0 < length tags = let le = tag_within (suc h.0) comes in omega (arith, le) in
          let class_is = index_get classes h.0 (suc low) h.1 in
          let all = m.firsts_are.all h.0 (subst (λ n. h.0 < n) (sym classes_count) inside) in
          class_there classes met firsts s.tags (length firsts) low (omega (arith, all, class_is)) (acting_some classes met (suc low) s.tags h.0 comes class_is),
    )
      where
        by : (h : ClassHere) (k : IsClassOf classes met firsts s.tags h) → k.low ≡ low → HasClassRowsAt p sets classes s.switch (suc low)
        by h k e =
            let a = some_acting (acting_of classes met (suc k.low) s.tags) k.some in
            let f = acting_from classes met (suc k.low) s.tags a.0 a.1 in
            let inside : f.0 < length tags = let le = tag_within (suc f.0) f.3 in omega (arith, le) in
            (f.0, member_at f.0 (suc low) inside (f.4 ∙ ap suc e), (rows_here s.switch (suc f.0)).0 ((coming.exactly (suc f.0)).0 (contains_from_in s.tags (suc f.0) f.3)))

    -- the table of a switch
    table_is : (t : Table) → IsClassTableAt st ss states tags classes tag (switch_classes_of classes met firsts s) t → IsClassTable fields tag Start p sets classes t
    table_is t k =
        let all = classes_among classes met firsts s.tags (length firsts) in
        let numbers : map (λ (e : TagTree). e.tag) k.trees ≡ map (λ (h : ClassHere). h.class) all =
        matched_maps (IsClassTreeAt st ss states tags classes tag s.switch) (λ (h : ClassHere). h.class) (λ (e : TagTree). e.tag) (λ h e q. q.number_is) all k.trees k.each in
        let declared = declared_are 0 fields topo tag p st ss states tags m.clear m.ready tagged_here in
        record {
          trees = k.trees;
          ascending = subst IsStrictlyIncreasing (sym numbers) (increasing_from (map (λ (h : ClassHere). h.class) all) (classes_rise classes met firsts s.tags (length firsts)));
          exactly = λ c.
              let r = rows_are c in (
                λ h. subst (λ w. HasClassRowsAt p sets classes w c) (sym k.switch) (r.0 (in_from_contains (map (λ (h : ClassHere). h.class) all) c (subst (λ l. Contains l c) numbers h))),
                λ h. subst (λ l. Contains l c) (sym numbers) (contains_from_in (map (λ (h : ClassHere). h.class) all) c (r.1 (subst (λ w. HasClassRowsAt p sets classes w c) k.switch h))),
              );
          each = all_from_members (λ (e : TagTree). IsClassTree fields tag Start p sets classes e.tag t.switch e.tree) k.trees (λ e i.
              let h = of_second (IsClassTreeAt st ss states tags classes tag s.switch) all k.trees e k.each i in
              subst (λ w. IsClassTree fields tag Start p sets classes e.tag w e.tree) (sym k.switch) (tree_is h.0 h.1 e h.2));
          groups = k.groups ∙ ap (λ q. groups_of (rows_of_trees q tag k.trees)) declared;
          rows = k.rows ∙ ap (λ q. rows_after [] (rows_of_trees q tag k.trees)) declared;
        }

    -- a switch's classes can be put into its table
    pub class_stop_is : AreSwitchClasses st ss states tags tag (switch_classes_of classes met firsts s)
    class_stop_is =
        all_from_members (IsClassAt st ss states tags tag s.switch) (classes_among classes met firsts s.tags (length firsts)) (λ h i.
        ⊎_elim
        (λ e. subst (IsClassAt st ss states tags tag s.switch) (sym e) (record { acting = λ k d lt. absurd (omega (arith, lt)); other = at 0 (omega arith) }))
        (λ k. record {
          acting = subst (All (IsActingAt st ss states tags tag s.switch)) (sym k.0.acting_are)
              (all_from_members (IsActingAt st ss states tags tag s.switch) (acting_of classes met (suc k.0.low) s.tags) (λ a q.
              let f = acting_from classes met (suc k.0.low) s.tags a q in
              let le = tag_within (suc f.0) f.3 in
              let inside : f.0 < length tags = omega (arith, le) in
              record {
                packets = subst (IsId st) (sym f.2) (m.met_are f.0 inside).id;
                at = subst (IsTagAt st ss states tags tag s.switch) (sym f.1) (at (suc f.0) le);
              }));
          other = subst (IsTagAt st ss states tags tag s.switch) (sym k.0.other_is)
              (at (slice_index firsts k.0.low + 1) (let member = (m.firsts_are.member k.0.low k.1).0 in omega (arith, member, classes_count)));
        })
        (class_from classes met firsts s.tags (length firsts) h i))
      where
        at : (t : ℕ) → t ≤ length tags → IsTagAt st ss states tags tag s.switch t
        at t le = tag_at 0 fields topo tag p st ss states tags m.clear m.ready tagged_here s.switch t le

  -- so it is with each switch
  pub classes_at_switches_are : (by_switch : List SwitchTags) (all : List SwitchClasses) → All (HasComing ends ss tags (length tags)) by_switch → all ≡ map (switch_classes_of classes met firsts) by_switch →
      All (AreSwitchClasses st ss states tags tag) all
  classes_at_switches_are by_switch all coming is =
      subst (All (AreSwitchClasses st ss states tags tag)) (sym is)
      (all_from_members (AreSwitchClasses st ss states tags tag) (map (switch_classes_of classes met firsts) by_switch) (λ q i.
      let f = from_mapped (switch_classes_of classes met firsts) by_switch q i in
      subst (AreSwitchClasses st ss states tags tag) (sym f.2) (class_stop_is f.0 (members_from_all (HasComing ends ss tags (length tags)) by_switch coming f.0 f.1))))

  -- the tags that come are tags with classes
  pub tags_have_classes : (by_switch : List SwitchTags) → All (HasComing ends ss tags (length tags)) by_switch → All (λ (s : SwitchTags). All (λ t. t ≤ length classes) s.tags) by_switch
  tags_have_classes by_switch coming k d lt j e less = subst (λ n. get_or (get_or by_switch k d).tags j e ≤ n) (sym classes_count) ((coming k d lt).within j e less)

  -- the first members have classes
  pub firsts_within : All (λ i. i < length classes) firsts
  firsts_within k d lt = subst (λ n. n < length classes) (get_or_default firsts k 0 d lt) (m.firsts_are.member k lt).0

  -- the tables of all switches
  pub merged_are : (by_switch : List SwitchTags) (ts : List Table) → map (λ (s : SwitchTags). s.switch) by_switch ≡ numbers_of topo → All (HasComing ends ss tags (length tags)) by_switch →
      Matched (IsClassTableAt st ss states tags classes tag) (map (switch_classes_of classes met firsts) by_switch) ts → (t : Tables) → t.fields ≡ fields → t.topo ≡ topo → t.tables ≡ ts →
      IsMergedTable fields topo Start p sets classes t
  merged_are by_switch ts switches coming k t same_fields same_topology are = record {
    tag = tag;
    tag_declared = m.clear.tag_is;
    in_order = subst (λ l. AreTags p Start l) (sym m.ready.numbered) m.ready.in_order;
    are_classes = m.classes_are;
    same_fields = same_fields;
    same_topology = same_topology;
    switches =
        ap (map (λ (u : Table). u.switch)) are
        ∙ matched_maps (IsClassTableAt st ss states tags classes tag) (λ (s : SwitchClasses). s.switch) (λ (u : Table). u.switch) (λ s u q. q.switch) (map (switch_classes_of classes met firsts) by_switch) ts k
        ∙ stops_switches by_switch ∙ switches;
    each =
        subst (All (IsClassTable fields tag Start p sets classes)) (sym are)
        (all_from_members (IsClassTable fields tag Start p sets classes) ts (λ u i.
        let s = of_second (IsClassTableAt st ss states tags classes tag) (map (switch_classes_of classes met firsts) by_switch) ts u k i in
        let f = from_mapped (switch_classes_of classes met firsts) by_switch s.0 s.1 in
        table_is f.0 (members_from_all (HasComing ends ss tags (length tags)) by_switch coming f.0 f.1) u (subst (λ q. IsClassTableAt st ss states tags classes tag q u) f.2 s.2)));
  }
    where
      stops_switches : (xs : List SwitchTags) → map (λ (s : SwitchClasses). s.switch) (map (switch_classes_of classes met firsts) xs) ≡ map (λ (s : SwitchTags). s.switch) xs
      stops_switches [] = refl
      stops_switches (x ∷ xs) = ap (λ l. x.switch ∷ l) (stops_switches xs)
