-- The tables that are made of the diagrams of tags are those of the tags' states.
use Rattle.std.proofs.Common.{ℕ, zero, suc, ◌<◌, ◌≤◌, ◌↔◌, Option, List, [], length, sym, ap, subst, ◌∙◌}
use Rattle.std.specs.Prelude.{All}
use Rattle.nk_field.proofs.Lists.{In, in_mapped}
use Rattle.nk_field.proofs.Ascending.{all_from_members, members_from_all}
use Rattle.nk_store.specs.Nodes.{InRange}
use Rattle.nk_store.specs.Diagram.{IsReduced, leaf_at}
use Rattle.nk_store.specs.StoreState.{StoreState, IsStorePacket, Grows, AreTidy}
use Rattle.nk_apply.specs.Unions.{AreIds}
use Rattle.nk_determ.specs.Sets.{SetsGrow, HasEachSetOnce, HasAscendingSets}
use Rattle.nk_table.specs.declared.Table.{Table}
use Rattle.nk_extract.specs.Buckets.{AreBuckets}
use Rattle.nk_group.specs.Groups.{groups_of, rows_after}
use Rattle.nk_group.specs.declared.switch_tags.SwitchTags.{SwitchTags}
use Rattle.nk_group.specs.declared.switch_tags.TagState.{TagState}
use Rattle.nk_group.specs.declared.switch_tags.SwitchStates.{SwitchStates}
use Rattle.nk_group.specs.Matched.{Matched}
use Rattle.nk_group.specs.States.{IsStateAtSwitch}
use Rattle.nk_group.specs.Tagged.{members_of, LeadsWith, SendsBy, IsTagTable}
use Rattle.nk_group.specs.Made.{TagTree, rows_of_trees, IsTagAt, AreSwitchTags, IsTagTree, IsTableAt, IsTagState, AreStatesAt, IsPrintableState, ArePrintableStates, IsTreeBy, IsTableBy, TagsHaveLabelsBelow}
use Rattle.nk_group.proofs.Growing.{declared_same, leads_grown, stay_grown, members_kept, sets_longer}
use Rattle.nk_group.proofs.Matching.{of_second, matched_maps, matched_with, matched_through}
use Rattle.nk_group.proofs.Printing.{state_printable}
use Rattle.nk_group.proofs.Tagging.{sends_leads, leads_sends}
use Rattle.nk_group.proofs.Trees.{buckets_same}

-- the places of a switch's states
pub switch_places : (st : StoreState) (ss : List (List ℕ)) (states tags : List ℕ) (tag : ℕ) (s : SwitchTags) → AreSwitchTags st ss states tags tag s → TagsHaveLabelsBelow ss (length states) tags s
switch_places st ss states tags tag s h k d lt = let a = h k d lt in record { within = a.within; places = a.places }

module _ (first st : StoreState) (old ss : List (List ℕ)) (states tags : List ℕ) (tag : ℕ) (g : Grows first st) (grew : SetsGrow old ss) (ids : AreIds first states)
    (known : All (λ s. s < length old) tags) (differ : HasEachSetOnce ss) (ascend : HasAscendingSets ss) where
  -- what is known of a tag of a switch
  of_tag : (s : SwitchTags) (tag_states : SwitchStates) → AreSwitchTags first old states tags tag s → AreStatesAt st ss states tags s tag_states → (e : TagState) → In tag_states.tag_states e →
      IsTagAt first old states tags tag s.switch e.tag
  of_tag s tag_states switch_entry k e i =
      members_from_all (IsTagAt first old states tags tag s.switch) s.tags switch_entry e.tag
      (subst (λ l. In l e.tag) k.tags_are (in_mapped (λ (x : TagState). x.tag) tag_states.tag_states e i))

  -- the set state of its states, by the sets of the beginning
  of_state : (sw : ℕ) (e : TagState) → IsTagState st ss states tags sw e → IsStateAtSwitch st ss states (members_of old tags e.tag) sw e.diagram
  of_state sw e k = subst (λ m. IsStateAtSwitch st ss states m sw e.diagram) (members_kept old ss tags e.tag grew known k.within) k.state

  -- a switch's diagrams can be printed
  pub switch_printable : 2 ≤ tag → AreTidy st → (s : SwitchTags) (tag_states : SwitchStates) → AreSwitchTags first old states tags tag s → AreStatesAt st ss states tags s tag_states → ArePrintableStates st tag tag_states
  switch_printable past tidy s tag_states switch_entry k =
      all_from_members (IsPrintableState st tag tag_states.switch) tag_states.tag_states (λ e i.
      let t = of_tag s tag_states switch_entry k e i in
      let state = of_state s.switch e (members_from_all (IsTagState st ss states tags s.switch) tag_states.tag_states k.each e i) in
      subst (λ n. IsPrintableState st tag n e) (sym k.switch) (record {
        id = state.id;
        printable = state_printable st ss states (members_of old tags e.tag) tag s.switch e.diagram past tidy differ ascend state
            (stay_grown first st states (members_of old tags e.tag) g ids t.places tag s.switch t.stay);
      }))

  -- where states lead with a tag in the later store
  leads_back : (members : List ℕ) → All (λ l. l < length states) members → (pk y : List ℕ) (t : ℕ) → LeadsWith st old states tags members pk y t ↔ LeadsWith first old states tags members pk y t
  leads_back members inside pk y zero = let r = leads_grown first st states members g ids inside pk y 0 in (r.1, r.0)
  leads_back members inside pk y (suc t) = (
    λ h. (h.0, h.1, λ l. let r = leads_grown first st states members g ids inside pk y l in (λ c. let q = (h.2 l).0 c in (q.0, r.1 q.1), λ q. (h.2 l).1 (q.0, r.0 q.1))),
    λ h. (h.0, h.1, λ l. let r = leads_grown first st states members g ids inside pk y l in (λ c. let q = (h.2 l).0 c in (q.0, r.0 q.1), λ q. (h.2 l).1 (q.0, r.1 q.1))),
  )

  module _ (table : List (Option ℕ)) (is : IsTagTable (length tags) ss tags table) where
    -- the tree of a tag
    tree_is : (sw : ℕ) (x : TagState) (e : TagTree) → IsTagAt first old states tags tag sw x.tag → IsTagState st ss states tags sw x → IsTreeBy st table tag sw x e →
        IsTagTree first old states tags tag sw e
    tree_is sw x e at k t = record {
      reduced = subst (λ m. IsReduced e.tree m 1) (declared_same first st g) t.reduced;
      tag_free = t.tag_free;
      leaves = λ pk p here.
          let q : IsStorePacket st pk = subst (λ m. InRange m pk) (sym g.maxes) p in
          let state = of_state sw x k in
          let members = members_of old tags x.tag in
          subst (λ u. AreBuckets first.width tag (λ y n. LeadsWith first old states tags (members_of old tags u) pk y n) pk (leaf_at e.tree [] pk)) (sym t.tag_is)
          (subst (λ w. AreBuckets w tag (λ y n. LeadsWith first old states tags members pk y n) pk (leaf_at e.tree [] pk)) g.width
          (buckets_same st.width tag (λ y n. SendsBy st table x.diagram pk y n) (λ y n. LeadsWith first old states tags members pk y n) pk (leaf_at e.tree [] pk)
          (λ y n.
          let b = leads_back members at.places pk y n in (
            λ s. b.0 (sends_leads st old ss states tags members sw x.diagram table differ ascend grew known (sets_longer old ss grew) is state pk y n q here s),
            λ l. leads_sends st old ss states tags members sw x.diagram table differ ascend grew known (sets_longer old ss grew) is state pk y n q here (b.1 l),
          ))
          (t.leaves pk q here)));
    }

    -- the table of a switch
    table_is : (s : SwitchTags) (tag_states : SwitchStates) (t : Table) → AreSwitchTags first old states tags tag s → AreStatesAt st ss states tags s tag_states → IsTableBy st table tag tag_states t →
        IsTableAt first old states tags tag s t
    table_is s tag_states t switch_entry k by = record {
      switch = by.switch ∙ k.switch;
      trees = by.trees;
      tags_are = matched_maps (IsTreeBy st table tag tag_states.switch) (λ (x : TagState). x.tag) (λ (e : TagTree). e.tag) (λ x e m. m.tag_is) tag_states.tag_states by.trees by.each ∙ k.tags_are;
      each = all_from_members (IsTagTree first old states tags tag s.switch) by.trees (λ e i.
          let x = of_second (IsTreeBy st table tag tag_states.switch) tag_states.tag_states by.trees e by.each i in
          tree_is s.switch x.0 e (of_tag s tag_states switch_entry k x.0 x.1) (members_from_all (IsTagState st ss states tags s.switch) tag_states.tag_states k.each x.0 x.1)
          (subst (λ n. IsTreeBy st table tag n x.0 e) k.switch x.2));
      groups = by.groups ∙ ap (λ m. groups_of (rows_of_trees m tag by.trees)) (declared_same first st g);
      rows = by.rows ∙ ap (λ m. rows_after [] (rows_of_trees m tag by.trees)) (declared_same first st g);
    }

    -- a switch with its diagrams
    abbrev Both : SwitchTags → SwitchStates → Type 0
    Both s x = AreSwitchTags first old states tags tag s × AreStatesAt st ss states tags s x

    -- the tables of all switches
    pub tables_are : (by_switch : List SwitchTags) (all : List SwitchStates) (ts : List Table) → All (AreSwitchTags first old states tags tag) by_switch →
        Matched (AreStatesAt st ss states tags) by_switch all → Matched (IsTableBy st table tag) all ts → Matched (IsTableAt first old states tags tag) by_switch ts
    tables_are by_switch all ts each m n =
        matched_through Both (IsTableBy st table tag) (IsTableAt first old states tags tag) (λ s x t k b. table_is s x t k.0 k.1 b) by_switch all ts
        (matched_with (AreSwitchTags first old states tags tag) (AreStatesAt st ss states tags) Both (λ s x a k. (a, k)) by_switch all
        (λ s i. members_from_all (AreSwitchTags first old states tags tag) by_switch each s i) m) n

  -- all diagrams can be printed
  pub all_printable : 2 ≤ tag → AreTidy st → (by_switch : List SwitchTags) (all : List SwitchStates) → All (AreSwitchTags first old states tags tag) by_switch →
      Matched (AreStatesAt st ss states tags) by_switch all → All (ArePrintableStates st tag) all
  all_printable past tidy by_switch all each m =
      all_from_members (ArePrintableStates st tag) all (λ x i.
      let s = of_second (AreStatesAt st ss states tags) by_switch all x m i in
      switch_printable past tidy s.0 x (members_from_all (AreSwitchTags first old states tags tag) by_switch each s.0 s.1) s.2)
