-- The tables that are made of the states and the tag sets of a policy are the printed ones.
use Rattle.std.proofs.Common.{◌≡◌, ◌≢◌, ℕ, zero, suc, ◌<◌, ◌↔◌, Option, Some, None, true, List, [], ◌∷◌, length, get_or, inl, refl, sym, ap, subst, ◌∙◌}
use Rattle.std.specs.Prelude.{All, map, Contains, slice_get}
use Rattle.nk_field.specs.Packet.{FieldTable}
use Rattle.nk_field.proofs.Lists.{In, contains_from_in, in_from_contains}
use Rattle.nk_field.proofs.Ascending.{all_from_members, members_from_all}
use Rattle.nk_topo.specs.Topology.{Topology, numbers_of}
use Rattle.nk_policy.specs.Policy.{Policy}
use Rattle.nk_policy.specs.After.{has_dup}
use Rattle.nk_policy.specs.Distinct.{HasDistinct}
use Rattle.nk_policy.specs.Labels.{IsTagSet}
use Rattle.nk_policy.specs.Tags.{IsTagBefore}
use Rattle.nk_policy.proofs.Numbering.{numbered_distinct}
use Rattle.nk_policy.proofs.LinkStructure.{holds_first}
use Rattle.nk_names.specs.Accepted.{IsStartPacket}
use Rattle.nk_store.specs.StoreState.{StoreState}
use Rattle.nk_table.specs.declared.Table.{Table}
use Rattle.nk_table.specs.declared.Tables.{Tables}
use Rattle.nk_group.specs.declared.switch_tags.SwitchTags.{SwitchTags}
use Rattle.nk_group.specs.Matched.{Matched}
use Rattle.nk_group.specs.Tagged.{set_of_tag, AreOnce}
use Rattle.nk_group.specs.Made.{IsTableAt, AreSwitchTags}
use Rattle.nk_group.proofs.Matching.{of_second, matched_maps}
use Rattle.nk_compile.specs.NumberedAfter.{tags_after, IsTableAfter}
use Rattle.nk_compile.specs.WholeTable.{HasRowsAt, IsSwitchTable, link_end}
use Rattle.nk_compile.specs.Ready.{sets_of, IsClear, IsReady}
use Rattle.nk_compile.specs.Comings.{first_end, ComesTo, HasComing}
use Rattle.nk_compile.proofs.StatesOfPositions.{IsTagged}
use Rattle.nk_compile.proofs.Padding.{following_in, after_once}
use Rattle.nk_compile.proofs.TagPlaces.{never_itself}
use Rattle.nk_compile.proofs.Reasons.{none_some}
use Rattle.nk_compile.proofs.TagSets.{literal_of, one_end}
use Rattle.nk_compile.proofs.Results.{set_there, set_within, set_contained, dup_place, tag_at, switch_table_is}

-- the first of some marks is one of them
first_of : (ends : List (Option ℕ)) (s : List ℕ) → s ≢ [] → (l : ℕ) × Contains s l × (first_end ends s ≡ get_or ends l None)
first_of ends [] h = absurd (h refl)
first_of ends (l ∷ ls) h = (l, contains_from_in (l ∷ ls) l (inl refl), refl)

-- a set with a member has labels
some_labels : (s : List ℕ) (l : ℕ) → Contains s l → s ≡ [] → ⊥
some_labels s l c e = in_from_contains [] l (subst (λ z. Contains z l) e c)

-- the set without labels leads nowhere
some_end : (ends : List (Option ℕ)) (s : List ℕ) (sw : ℕ) → first_end ends s ≡ Some sw → s ≡ [] → ⊥
some_end ends s sw h e = absurd (none_some sw (sym (ap (first_end ends) e) ∙ h))

module _ (first : ℕ) (fields : FieldTable) (topo : Topology) (tag : ℕ) (p : Policy) (st : StoreState) (ss : List (List ℕ)) (states tags : List ℕ) (clear : IsClear fields topo tag p) (ready : IsReady first fields topo p st ss states tags) where
  distinct : HasDistinct p
  distinct = numbered_distinct p 1 clear.numbered

  -- each tag's set with labels is a tag set
  tag_set : (i : ℕ) → i < length tags → (set_of_tag ss tags i ≡ [] → ⊥) → IsTagSet p (IsStartPacket fields topo) (set_of_tag ss tags i)
  tag_set i lt some =
      let s = set_of_tag ss tags i in
      let among : In (tags_after first ready.sets) s = in_from_contains _ s (subst (λ l. Contains l s) ready.numbered (set_contained ss tags i lt)) in
      (ready.in_order.exactly s).0 (contains_from_in ready.sets s (following_in first ready.sets s some among))

  -- so it has first dups of literals
  pub tagged : (i : ℕ) → i < length tags → IsTagged p ss tags i
  tagged i lt = record {
    literal = λ l c. literal_of topo clear.topology.links p distinct clear.dups_in_links clear.links_declared (IsStartPacket fields topo) (set_of_tag ss tags i) (tag_set i lt (some_labels (set_of_tag ss tags i) l c)) l c;
  }

  -- the set at a place
  set_at : (i : ℕ) → i < length tags → slice_get (tags_after first ready.sets) i ≡ Some (set_of_tag ss tags i)
  set_at i lt = subst (λ l. slice_get l i ≡ Some (set_of_tag ss tags i)) ready.numbered (set_there ss tags i lt)

  -- no two tags have one set with labels
  pub tags_once : AreOnce ss tags
  tags_once i j a b some e =
      after_once (IsTagBefore p (IsStartPacket fields topo)) (never_itself p (IsStartPacket fields topo)) first ready.sets ready.in_order.in_order i j (set_of_tag ss tags i) some
      (set_at i a) (set_at j b ∙ ap (λ n. Some (get_or ss n [])) (sym e))

  module _ (ends : List (Option ℕ)) (each : (l : ℕ) → l < length states → get_or ends l None ≡ link_end p l) where
    -- a member's place in the list of ends
    member_end : (i : ℕ) → i < length tags → (l : ℕ) → Contains (set_of_tag ss tags i) l → get_or ends l None ≡ link_end p l
    member_end i lt l c =
        let k = (tagged i lt).literal l c in
        each l (dup_place first fields topo tag p st ss states tags clear ready tagged l (subst (λ n. has_dup p n ≡ true) k.2 (holds_first p k.0 k.1))).1

    -- a tag comes to a switch exactly where it has rows there
    pub comes_rows : (sw t : ℕ) → ComesTo ends ss tags (length tags) sw t ↔ HasRowsAt p (sets_of ss tags) sw t
    comes_rows sw zero = (λ u. tt, λ u. tt)
    comes_rows sw (suc i) = (
      λ h.
          let f = first_of ends (set_of_tag ss tags i) (some_end ends (set_of_tag ss tags i) sw h.1) in
          (set_of_tag ss tags i, f.0, set_there ss tags i h.0, f.1, sym (member_end i h.0 f.0 f.1) ∙ sym f.2 ∙ h.1),
      λ h.
          let w = set_within ss tags i h.0 h.2 in
          let c : Contains (set_of_tag ss tags i) h.1 = subst (λ s. Contains s h.1) (sym w.1) h.3 in
          let some = some_labels (set_of_tag ss tags i) h.1 c in
          let f = first_of ends (set_of_tag ss tags i) some in (
            w.0,
            f.2 ∙ member_end i w.0 f.0 f.1
                ∙ one_end topo clear.topology.links p distinct clear.dups_in_links clear.links_declared (IsStartPacket fields topo) (set_of_tag ss tags i) (tag_set i w.0 some) f.0 h.1 f.1 c
                ∙ h.4,
          ),
    )

    -- a switch's tags can be put into its table
    pub switch_tags_are : (s : SwitchTags) → HasComing ends ss tags (length tags) s → AreSwitchTags st ss states tags tag s
    switch_tags_are s k j d lt = tag_at first fields topo tag p st ss states tags clear ready tagged s.switch (get_or s.tags j d) (k.within j d lt)

    -- the table of a switch
    table_is : (s : SwitchTags) (t : Table) → HasComing ends ss tags (length tags) s → IsTableAt st ss states tags tag s t → IsSwitchTable fields tag p (sets_of ss tags) t
    table_is s t k at =
        switch_table_is first fields topo tag p st ss states tags clear ready tagged s t k.ascend
        (λ n. let a = k.exactly n in let b = comes_rows s.switch n in (λ c. b.0 (a.0 c), λ h. a.1 (b.1 h))) k.within at

    -- the tables of all switches
    pub tables_are : (by_switch : List SwitchTags) (ts : List Table) → map (λ (s : SwitchTags). s.switch) by_switch ≡ numbers_of topo → All (HasComing ends ss tags (length tags)) by_switch →
        Matched (IsTableAt st ss states tags tag) by_switch ts → (t : Tables) → t.fields ≡ fields → t.topo ≡ topo → t.tables ≡ ts → IsTableAfter first fields topo (IsStartPacket fields topo) p t
    tables_are by_switch ts switches coming m t same_fields same_topology are = record {
      tag = tag;
      tags = ready.sets;
      tag_declared = clear.tag_is;
      in_order = ready.in_order;
      same_fields = same_fields;
      same_topology = same_topology;
      switches =
          ap (map (λ (u : Table). u.switch)) are
          ∙ matched_maps (IsTableAt st ss states tags tag) (λ (s : SwitchTags). s.switch) (λ (u : Table). u.switch) (λ s u k. k.switch) by_switch ts m ∙ switches;
      each = subst (λ sets. All (IsSwitchTable fields tag p sets) t.tables) ready.numbered (
          subst (All (IsSwitchTable fields tag p (sets_of ss tags))) (sym are) (all_from_members (IsSwitchTable fields tag p (sets_of ss tags)) ts (λ u i.
          let s = of_second (IsTableAt st ss states tags tag) by_switch ts u m i in
          table_is s.0 u (members_from_all (HasComing ends ss tags (length tags)) by_switch coming s.0 s.1) s.2)));
    }
