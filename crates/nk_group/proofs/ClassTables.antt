-- The tables that are made of the diagrams of classes are those of the states of the tags that act for them.
use Rattle.std.proofs.Common.{◌≡◌, ◌≢◌, ℕ, zero, suc, ◌<◌, ◌≤◌, ◌↔◌, ⊎_elim, Bool, true, false, cond, Option, Some, None, List, [], ◌∷◌, length, length-set, get_or, refl, sym, ap, subst, ◌∙◌, arith}
use Rattle.std.specs.Prelude.{All, Contains, map, slice_index, slice_set}
use Rattle.std.proofs.lemmas.List.{set-set}
use Rattle.nk_field.proofs.Ascending.{all_from_members, members_from_all}
use Rattle.nk_store.specs.Nodes.{InRange}
use Rattle.nk_store.specs.Diagram.{IsReduced, leaf_at}
use Rattle.nk_store.specs.StoreState.{StoreState, IsStorePacket, look, Grows, AreTidy}
use Rattle.nk_apply.specs.PacketSets.{has_some_out, is_in}
use Rattle.nk_apply.specs.Unions.{AreIds}
use Rattle.nk_determ.specs.Sets.{SetsGrow, HasEachSetOnce, HasAscendingSets}
use Rattle.nk_table.specs.declared.Table.{Table}
use Rattle.nk_extract.specs.Buckets.{AreBuckets}
use Rattle.nk_extract.specs.RowsOf.{IsPrintable}
use Rattle.nk_group.specs.Groups.{groups_of, rows_after}
use Rattle.nk_group.specs.declared.switch_tags.ActingTag.{ActingTag}
use Rattle.nk_group.specs.declared.switch_tags.ClassHere.{ClassHere}
use Rattle.nk_group.specs.declared.switch_tags.SwitchClasses.{SwitchClasses}
use Rattle.nk_group.specs.declared.switch_tags.TagState.{TagState}
use Rattle.nk_group.specs.declared.switch_tags.SwitchStates.{SwitchStates}
use Rattle.nk_group.specs.Matched.{Matched}
use Rattle.nk_group.specs.States.{IsStateAtSwitch}
use Rattle.nk_group.specs.Tagged.{members_of, LeadsWith, SendsBy, IsTagTable}
use Rattle.nk_group.specs.Made.{TagTree, rows_of_trees, IsTagAt, HasLabelsBelow, IsPrintableState, ArePrintableStates, IsTreeBy, IsTableBy}
use Rattle.nk_group.specs.Classed.{class_of, acting_tag, LeadsTo, numbered_target, IsTagWithin, IsActingAt, IsClassAt, AreSwitchClasses, IsClassTreeAt, IsClassTableAt, HaveActing, HaveClasses, IsActingState, IsClassState, AreClassStates}
use Rattle.nk_group.proofs.Fronting.{acting_id}
use Rattle.nk_group.proofs.Growing.{declared_same, leads_grown, stay_grown, members_kept, sets_longer}
use Rattle.nk_group.proofs.Matching.{of_second, matched_with, matched_through}
use Rattle.nk_group.proofs.Printing.{state_printable}
use Rattle.nk_group.proofs.Tagging.{same_some, sends_leads, leads_sends}
use Rattle.nk_group.proofs.Trees.{buckets_same}

-- the first of a list of which each has something
all_first : {X : Type 0} (P : X → Type 0) (x : X) (xs : List X) → All P (x ∷ xs) → P x
all_first P x xs h = h 0 x (omega arith)

-- and the rest
all_rest : {X : Type 0} (P : X → Type 0) (x : X) (xs : List X) → All P (x ∷ xs) → All P xs
all_rest P x xs h k d lt = h (suc k) d (omega (arith, lt))

-- what holds of both holds of either
either_has : {X : Type 0} (P : X → Type 0) (b : Bool) (x y : X) → P x → P y → P (cond b x y)
either_has P true x y p q = p
either_has P false x y p q = q

-- a class's tags in the beginning have their places
pub class_places : (st : StoreState) (ss : List (List ℕ)) (states tags : List ℕ) (tag sw : ℕ) (h : ClassHere) → IsClassAt st ss states tags tag sw h → HaveActing st ss (length states) tags h
class_places st ss states tags tag sw h k = record {
  acting = λ i d lt. let a = k.acting i d lt in record { packets = a.packets; has = record { within = a.at.within; places = a.at.places } };
  other = record { within = k.other.within; places = k.other.places };
}

-- so have a switch's
pub switch_classes : (st : StoreState) (ss : List (List ℕ)) (states tags : List ℕ) (tag : ℕ) (s : SwitchClasses) → AreSwitchClasses st ss states tags tag s → HaveClasses st ss (length states) tags s
switch_classes st ss states tags tag s k i d lt = class_places st ss states tags tag s.switch (get_or s.classes i d) (k i d lt)

-- the number of a target by its tag
index_numbered : (classes : List ℕ) (table : List (Option ℕ)) (u : ℕ) → get_or (map (numbered_target classes) table) u None ≡ numbered_target classes (get_or table u None)
index_numbered classes [] u = refl
index_numbered classes (o ∷ table) zero = refl
index_numbered classes (o ∷ table) (suc u) = index_numbered classes table u

-- where a number is, a tag is
from_numbered : (classes : List ℕ) (o : Option ℕ) (c : ℕ) → numbered_target classes o ≡ Some c → (t : ℕ) × (o ≡ Some t) × (c ≡ class_of classes t)
from_numbered classes None c e = absurd cc
from_numbered classes (Some t) c e = (t, refl, same_some c (class_of classes t) (sym e))

-- the tags of a table are those that there are
pub tags_within : (count : ℕ) (ss : List (List ℕ)) (tags : List ℕ) (classes : List ℕ) (table items : List (Option ℕ)) → IsTagTable count ss tags table → length classes ≡ count → items ≡ table →
    All (IsTagWithin (length classes)) items
tags_within count ss tags classes table items is many same =
    subst (All (IsTagWithin (length classes))) (sym same) (λ k d lt. at (get_or table k d) k (default table k d lt))
  where
    default : (xs : List (Option ℕ)) (k : ℕ) (d : Option ℕ) → k < length xs → get_or xs k None ≡ get_or xs k d
    default [] k d lt = absurd (omega (arith, lt))
    default (x ∷ xs) zero d lt = refl
    default (x ∷ xs) (suc k) d lt = default xs k d (omega (arith, lt))

    at : (o : Option ℕ) (k : ℕ) → get_or table k None ≡ o → IsTagWithin (length classes) o
    at None k e = tt
    at (Some t) k e =
        ⊎_elim (λ z. omega (arith, z.1)) (λ i. omega (arith, i.1, i.3, many)) (is.only k t e)

module _ (first st : StoreState) (old ss : List (List ℕ)) (states tags classes : List ℕ) (tag : ℕ) (g : Grows first st) (grew : SetsGrow old ss) (ids : AreIds first states)
    (known : All (λ s. s < length old) tags) (differ : HasEachSetOnce ss) (ascend : HasAscendingSets ss) where
  -- the set state of a tag's states, by the sets of the beginning
  of_state : (sw t d : ℕ) → HasLabelsBelow ss (length states) tags t → IsStateAtSwitch st ss states (members_of ss tags t) sw d → IsStateAtSwitch st ss states (members_of old tags t) sw d
  of_state sw t d has k = subst (λ m. IsStateAtSwitch st ss states m sw d) (members_kept old ss tags t grew known has.within) k

  -- a tag's diagram can be printed
  tag_printable : 2 ≤ tag → AreTidy st → (sw t d : ℕ) → IsTagAt first old states tags tag sw t → HasLabelsBelow ss (length states) tags t → IsStateAtSwitch st ss states (members_of ss tags t) sw d → IsPrintable st tag sw d
  tag_printable past tidy sw t d at has k =
      state_printable st ss states (members_of old tags t) tag sw d past tidy differ ascend (of_state sw t d has k)
      (stay_grown first st states (members_of old tags t) g ids at.places tag sw at.stay)

  -- so can a class's
  acting_printable : 2 ≤ tag → AreTidy st → (sw : ℕ) (acting : List ActingTag) (other d : ℕ) → All (IsActingAt first old states tags tag sw) acting → IsTagAt first old states tags tag sw other →
      IsActingState st ss states tags tag sw acting other d → IsPrintable st tag sw d
  acting_printable past tidy sw [] other d all at k = tag_printable past tidy sw other d at k.0 k.1
  acting_printable past tidy sw (a ∷ more) other d all at k =
      let one = tag_printable past tidy sw a.tag k.0 (all_first (IsActingAt first old states tags tag sw) a more all).at k.2 k.3 in
      let rest = acting_printable past tidy sw more other k.1 (all_rest (IsActingAt first old states tags tag sw) a more all) at k.4 in
      record {
        exact = λ pk b t f n p here c m.
            either_has (λ os. Contains os (record { act = b; target = t }) → slice_index pk f ≢ n) (is_in st a.packets (slice_set pk tag 0)) (look st k.0 pk) (look st k.1 pk)
            (λ x. one.exact pk b t f n p here x m) (λ x. rest.exact pk b t f n p here x m)
            (subst (λ os. Contains os (record { act = b; target = t })) (k.5.leaf pk p.0) c);
        keeps = λ pk y t p here s.
            either_has (λ os. Contains os (record { act = s.0; target = t }) → (slice_index y 0 ≡ sw) × (slice_index y tag ≡ slice_index pk tag)) (is_in st a.packets (slice_set pk tag 0)) (look st k.0 pk) (look st k.1 pk)
            (λ x. one.keeps pk y t p here (s.0, x, s.2)) (λ x. rest.keeps pk y t p here (s.0, x, s.2))
            (subst (λ os. Contains os (record { act = s.0; target = t })) (k.5.leaf pk p.0) s.1);
        free = λ pk n p here le.
            k.5.leaf (slice_set pk tag n) (whole pk n p)
            ∙ ap (λ q. cond (is_in st a.packets q) (look st k.0 (slice_set pk tag n)) (look st k.1 (slice_set pk tag n))) (set-set pk tag n 0)
            ∙ ap (λ os. cond (is_in st a.packets (slice_set pk tag 0)) os (look st k.1 (slice_set pk tag n))) (one.free pk n p here le)
            ∙ ap (λ os. cond (is_in st a.packets (slice_set pk tag 0)) (look st k.0 pk) os) (rest.free pk n p here le)
            ∙ sym (k.5.leaf pk p.0);
      }
    where
      whole : (pk : List ℕ) (n : ℕ) → IsStorePacket st pk → length (slice_set pk tag n) ≡ 18
      whole pk n p = length-set pk tag n ∙ p.0

  -- a switch's diagrams can be printed
  pub class_switch_printable : 2 ≤ tag → AreTidy st → (s : SwitchClasses) (all : SwitchStates) → AreSwitchClasses first old states tags tag s → AreClassStates st ss states tags tag s all → ArePrintableStates st tag all
  class_switch_printable past tidy s all switch_entry k =
      all_from_members (IsPrintableState st tag all.switch) all.tag_states (λ e i.
      let h = of_second (IsClassState st ss states tags tag s.switch) s.classes all.tag_states e k.each i in
      let at = members_from_all (IsClassAt first old states tags tag s.switch) s.classes switch_entry h.0 h.1 in
      subst (λ n. IsPrintableState st tag n e) (sym k.switch) (record {
        id = acting_id st ss states tags tag s.switch h.0.acting h.0.other e.diagram h.2.state;
        printable = acting_printable past tidy s.switch h.0.acting h.0.other e.diagram at.acting at.other h.2.state;
      }))

  -- all diagrams can be printed
  pub all_class_printable : 2 ≤ tag → AreTidy st → (by_switch : List SwitchClasses) (all : List SwitchStates) → All (AreSwitchClasses first old states tags tag) by_switch →
      Matched (AreClassStates st ss states tags tag) by_switch all → All (ArePrintableStates st tag) all
  all_class_printable past tidy by_switch all each m =
      all_from_members (ArePrintableStates st tag) all (λ x i.
      let s = of_second (AreClassStates st ss states tags tag) by_switch all x m i in
      class_switch_printable past tidy s.0 x (members_from_all (AreSwitchClasses first old states tags tag) by_switch each s.0 s.1) s.2)

  -- where states lead with a tag in the later store
  leads_back : (members : List ℕ) → All (λ l. l < length states) members → (pk y : List ℕ) (t : ℕ) → LeadsWith st old states tags members pk y t ↔ LeadsWith first old states tags members pk y t
  leads_back members inside pk y zero = let r = leads_grown first st states members g ids inside pk y 0 in (r.1, r.0)
  leads_back members inside pk y (suc t) = (
    λ h. (h.0, h.1, λ l. let r = leads_grown first st states members g ids inside pk y l in (λ c. let q = (h.2 l).0 c in (q.0, r.1 q.1), λ q. (h.2 l).1 (q.0, r.0 q.1))),
    λ h. (h.0, h.1, λ l. let r = leads_grown first st states members g ids inside pk y l in (λ c. let q = (h.2 l).0 c in (q.0, r.0 q.1), λ q. (h.2 l).1 (q.0, r.1 q.1))),
  )

  -- the tag that acts is the same in both stores
  acting_same : (sw : ℕ) (acting : List ActingTag) (other : ℕ) (pk : List ℕ) → All (IsActingAt first old states tags tag sw) acting → acting_tag st tag acting other pk ≡ acting_tag first tag acting other pk
  acting_same sw [] other pk all = refl
  acting_same sw (a ∷ more) other pk all =
      ap (λ os. cond (has_some_out os) a.tag (acting_tag st tag more other pk)) (g.leaves a.packets (slice_set pk tag 0) (all_first (IsActingAt first old states tags tag sw) a more all).packets)
      ∙ ap (λ n. cond (is_in first a.packets (slice_set pk tag 0)) a.tag n) (acting_same sw more other pk (all_rest (IsActingAt first old states tags tag sw) a more all))

  module _ (by_tag : List (Option ℕ)) (is : IsTagTable (length tags) ss tags by_tag) where
    -- the numbers of targets
    abbrev table : List (Option ℕ)
    table = map (numbered_target classes) by_tag

    -- where a tag's diagram sends by them, its states lead
    one_sends : (sw t d : ℕ) → IsTagAt first old states tags tag sw t → HasLabelsBelow ss (length states) tags t → IsStateAtSwitch st ss states (members_of ss tags t) sw d →
        (pk y : List ℕ) (c : ℕ) → IsStorePacket st pk → slice_index pk 0 ≡ sw → SendsBy st table d pk y c ↔ LeadsTo first old states tags classes (members_of old tags t) pk y c
    one_sends sw t d at has k pk y c p here =
        let state = of_state sw t d has k in
        let members = members_of old tags t in (
          λ s.
              let n = from_numbered classes (get_or by_tag s.0 None) c (sym (index_numbered classes by_tag s.0) ∙ s.2) in
              (n.0, (leads_back members at.places pk y n.0).0 (sends_leads st old ss states tags members sw d by_tag differ ascend grew known (sets_longer old ss grew) is state pk y n.0 p here (s.0, s.1, n.1)), n.2),
          λ l.
              let s = leads_sends st old ss states tags members sw d by_tag differ ascend grew known (sets_longer old ss grew) is state pk y l.0 p here ((leads_back members at.places pk y l.0).1 l.1) in
              (s.0, s.1, index_numbered classes by_tag s.0 ∙ ap (numbered_target classes) s.2 ∙ ap Some (sym l.2)),
        )

    -- one leaf or the other
    either_sends : (b : Bool) (d e rest t other : ℕ) (pk y : List ℕ) (c : ℕ) → look st d pk ≡ cond b (look st e pk) (look st rest pk) →
        (SendsBy st table e pk y c ↔ LeadsTo first old states tags classes (members_of old tags t) pk y c) →
        (SendsBy st table rest pk y c ↔ LeadsTo first old states tags classes (members_of old tags other) pk y c) →
        SendsBy st table d pk y c ↔ LeadsTo first old states tags classes (members_of old tags (cond b t other)) pk y c
    either_sends true d e rest t other pk y c leaf one more = (
      λ s. one.0 (s.0, (s.1.0, subst (λ os. Contains os (record { act = s.1.0; target = s.0 })) leaf s.1.1, s.1.2), s.2),
      λ l. let s = one.1 l in (s.0, (s.1.0, subst (λ os. Contains os (record { act = s.1.0; target = s.0 })) (sym leaf) s.1.1, s.1.2), s.2),
    )
    either_sends false d e rest t other pk y c leaf one more = (
      λ s. more.0 (s.0, (s.1.0, subst (λ os. Contains os (record { act = s.1.0; target = s.0 })) leaf s.1.1, s.1.2), s.2),
      λ l. let s = more.1 l in (s.0, (s.1.0, subst (λ os. Contains os (record { act = s.1.0; target = s.0 })) (sym leaf) s.1.1, s.1.2), s.2),
    )

    -- so with a class's diagram and the tag that acts
    acting_sends : (sw : ℕ) (acting : List ActingTag) (other d : ℕ) → All (IsActingAt first old states tags tag sw) acting → IsTagAt first old states tags tag sw other →
        IsActingState st ss states tags tag sw acting other d → (pk y : List ℕ) (c : ℕ) → IsStorePacket st pk → slice_index pk 0 ≡ sw →
        SendsBy st table d pk y c ↔ LeadsTo first old states tags classes (members_of old tags (acting_tag st tag acting other pk)) pk y c
    acting_sends sw [] other d all at k pk y c p here = one_sends sw other d at k.0 k.1 pk y c p here
    acting_sends sw (a ∷ more) other d all at k pk y c p here =
        either_sends (is_in st a.packets (slice_set pk tag 0)) d k.0 k.1 a.tag (acting_tag st tag more other pk) pk y c (k.5.leaf pk p.0)
        (one_sends sw a.tag k.0 (all_first (IsActingAt first old states tags tag sw) a more all).at k.2 k.3 pk y c p here)
        (acting_sends sw more other k.1 (all_rest (IsActingAt first old states tags tag sw) a more all) at k.4 pk y c p here)

    -- the tree of a class
    class_tree : (sw : ℕ) (h : ClassHere) (x : TagState) (e : TagTree) → IsClassAt first old states tags tag sw h → IsClassState st ss states tags tag sw h x → IsTreeBy st table tag sw x e →
        IsClassTreeAt first old states tags classes tag sw h e
    class_tree sw h x e at k t = record {
      number_is = t.tag_is ∙ k.number_is;
      reduced = subst (λ m. IsReduced e.tree m 1) (declared_same first st g) t.reduced;
      tag_free = t.tag_free;
      leaves = λ pk p here.
          let q : IsStorePacket st pk = subst (λ m. InRange m pk) (sym g.maxes) p in
          subst (λ u. AreBuckets first.width tag (λ y c. LeadsTo first old states tags classes (members_of old tags u) pk y c) pk (leaf_at e.tree [] pk)) (acting_same sw h.acting h.other pk at.acting)
          (subst (λ w. AreBuckets w tag (λ y c. LeadsTo first old states tags classes (members_of old tags (acting_tag st tag h.acting h.other pk)) pk y c) pk (leaf_at e.tree [] pk)) g.width
          (buckets_same st.width tag (λ y c. SendsBy st table x.diagram pk y c) (λ y c. LeadsTo first old states tags classes (members_of old tags (acting_tag st tag h.acting h.other pk)) pk y c) pk (leaf_at e.tree [] pk)
          (λ y c. acting_sends sw h.acting h.other x.diagram at.acting at.other k.state pk y c q here)
          (t.leaves pk q here)));
    }

    -- the table of a switch
    class_table : (s : SwitchClasses) (all : SwitchStates) (t : Table) → AreSwitchClasses first old states tags tag s → AreClassStates st ss states tags tag s all → IsTableBy st table tag all t →
        IsClassTableAt first old states tags classes tag s t
    class_table s all t switch_entry k by = record {
      switch = by.switch ∙ k.switch;
      trees = by.trees;
      each =
          matched_through Both (IsTreeBy st table tag all.switch) (IsClassTreeAt first old states tags classes tag s.switch)
          (λ h x e b m. class_tree s.switch h x e b.0 b.1 (subst (λ n. IsTreeBy st table tag n x e) k.switch m)) s.classes all.tag_states by.trees
          (matched_with (IsClassAt first old states tags tag s.switch) (IsClassState st ss states tags tag s.switch) Both (λ h x a c. (a, c)) s.classes all.tag_states
          (λ h i. members_from_all (IsClassAt first old states tags tag s.switch) s.classes switch_entry h i) k.each)
          by.each;
      groups = by.groups ∙ ap (λ m. groups_of (rows_of_trees m tag by.trees)) (declared_same first st g);
      rows = by.rows ∙ ap (λ m. rows_after [] (rows_of_trees m tag by.trees)) (declared_same first st g);
    }
      where
        -- a class with its diagram
        Both : ClassHere → TagState → Type 0
        Both h x = IsClassAt first old states tags tag s.switch h × IsClassState st ss states tags tag s.switch h x

    -- a switch with its diagrams
    abbrev Of : SwitchClasses → SwitchStates → Type 0
    Of s x = AreSwitchClasses first old states tags tag s × AreClassStates st ss states tags tag s x

    -- the tables of all switches
    pub class_tables_are : (by_switch : List SwitchClasses) (all : List SwitchStates) (ts : List Table) → All (AreSwitchClasses first old states tags tag) by_switch →
        Matched (AreClassStates st ss states tags tag) by_switch all → Matched (IsTableBy st table tag) all ts → Matched (IsClassTableAt first old states tags classes tag) by_switch ts
    class_tables_are by_switch all ts each m n =
        matched_through Of (IsTableBy st table tag) (IsClassTableAt first old states tags classes tag) (λ s x t k b. class_table s x t k.0 k.1 b) by_switch all ts
        (matched_with (AreSwitchClasses first old states tags tag) (AreClassStates st ss states tags tag) Of (λ s x a k. (a, k)) by_switch all
        (λ s i. members_from_all (AreSwitchClasses first old states tags tag) by_switch each s i) m) n
