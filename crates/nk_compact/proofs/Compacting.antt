-- A prepared policy's tag sets in a store and in sets that have grown: what is asked of them for classes and merged tables.
use Rattle.std.proofs.Common.{◌≡◌, ℕ, zero, suc, ◌+◌, ◌<◌, ◌≤◌, ◌↔◌, true, List, [], ◌∷◌, length, get_or, refl, sym, ap, subst, ◌∙◌, arith, append-nil, inl, inr}
use Rattle.std.specs.Prelude.{All, Contains, slice_index, slice_index_or}
use Rattle.std.proofs.lemmas.List.{get_or_default}
use Rattle.std.proofs.lemmas.Bool.Decides.{leb_tells}
use Rattle.nk_field.specs.declared.packet.Packet.{Packet}
use Rattle.nk_field.specs.Packet.{FieldTable}
use Rattle.nk_field.proofs.Lists.{In, in_from_contains, contains_from_in, from_mapped}
use Rattle.nk_field.proofs.Ascending.{all_from_members, members_from_all}
use Rattle.nk_topo.specs.Topology.{Topology}
use Rattle.nk_policy.specs.Policy.{Policy, dups_of}
use Rattle.nk_policy.specs.After.{has_dup}
use Rattle.nk_policy.specs.Distinct.{HasDistinct}
use Rattle.nk_policy.specs.Labels.{IsTagSet}
use Rattle.nk_policy.specs.Literals.{Literal, HoldsLiteral}
use Rattle.nk_policy.specs.Ranges.{IsInRange}
use Rattle.nk_policy.specs.Tags.{AreTags}
use Rattle.nk_policy.proofs.LinkStructure.{holds_first, holds_second}
use Rattle.nk_policy.proofs.Numbering.{number_within, numbered_distinct}
use Rattle.nk_names.specs.Accepted.{IsStartPacket}
use Rattle.nk_store.specs.Nodes.{InRange}
use Rattle.nk_store.specs.StoreState.{StoreState, IsId, IsWhole, Grows, IsOver, HasFields, AreTidy, IsStorePacket as IsPacketOf}
use Rattle.nk_store.proofs.InRange.{packet_in_range, over_grown}
use Rattle.nk_store.proofs.Stores.{grows_same, grows_on}
use Rattle.nk_apply.specs.PacketSets.{has_some_out, is_in}
use Rattle.nk_determ.specs.Automaton.{IsAutomaton}
use Rattle.nk_determ.specs.InOrder.{AreNumbers}
use Rattle.nk_determ.specs.Levels.{AreLevels, InLevel}
use Rattle.nk_determ.specs.Pairs.{AreStates, EachPair, AreLabelsBelow, IsPair, Named, Under}
use Rattle.nk_determ.specs.Sets.{SetsGrow, HasAscendingSets}
use Rattle.nk_determ.proofs.Naming.{named_within}
use Rattle.nk_runs.specs.Labels.{IsAmong}
use Rattle.nk_runs.proofs.Stands.{stands, are_states}
use Rattle.nk_group.specs.Tagged.{set_of_tag}
use Rattle.nk_group.proofs.Growing.{set_kept, known_kept, tag_set_kept}
use Rattle.nk_merge.specs.Alike.{labels_after, AreAlike, AreTagsAlike}
use Rattle.nk_merge.specs.Classes.{AreClasses, AreFirsts}
use Rattle.nk_compile.specs.declared.prepared.Prepared.{Prepared}
use Rattle.nk_compile.specs.MetUnder.{IsMetUnder}
use Rattle.nk_compile.specs.Preparing.{IsPrepared}
use Rattle.nk_compile.specs.Ready.{sets_of, IsReady}
use Rattle.nk_compile.proofs.Levelled.{among_start, start_among, auto_then, tag_set_too, prepared_known, prepared_tags, prepared_ends, prepared_entries}
use Rattle.nk_compile.proofs.Results.{set_contained}
use Rattle.nk_compile.proofs.TagSets.{literal_of}
use Rattle.nk_compact.specs.Mergeable.{IsMetPackets, IsMergeable}
use Rattle.nk_compact.specs.MergedTable.{AreTagClasses}
use Rattle.nk_compact.specs.MetPackets.{HaveIds, AreMet}
use Rattle.nk_compact.specs.Told.{first_member_set, IsBase}
use Rattle.nk_compact.proofs.AlikeTags.{AreDups, tag_classes}
use Rattle.nk_compact.proofs.MetUnder.{level_of, under_of}
use Rattle.nk_compact.proofs.Distinguishing.{alike_then, firsts_differ}

-- what holds of each entry holds of each in another form
each_weaker : (P Q : ℕ × ℕ → Type 0) → ((e : ℕ × ℕ) → P e → Q e) → (xs : List (ℕ × ℕ)) → EachPair P xs → EachPair Q xs
each_weaker P Q h [] k = tt
each_weaker P Q h (x ∷ xs) k = (h x k.0, each_weaker P Q h xs k.1)

-- what stands under a set is of an entry that names it
under_named : (st : StoreState) (ps : List (ℕ × ℕ)) (s : ℕ) (x : Packet) → Under st ps s x → Named ps s
under_named st [] s x h = h
under_named st (q ∷ ps) s x (inl h) = inl h.0
under_named st (q ∷ ps) s x (inr h) = inr (under_named st ps s x h)

-- a value past the end of a list is 0
index_past : (xs : List ℕ) (i : ℕ) → length xs ≤ i → slice_index xs i ≡ 0
index_past [] i le = refl
index_past (x ∷ xs) zero le = absurd (omega (arith, le))
index_past (x ∷ xs) (suc i) le = index_past xs i (omega (arith, le))

-- classes are at most as many as there are first members
pub classes_few : (classes firsts : List ℕ) (most : ℕ) → AreFirsts classes firsts → length firsts ≤ most → (i : ℕ) → slice_index classes i ≤ most
classes_few classes firsts most k few i = elim (leb_tells (suc i) (length classes)) [
  | inl inside ↦ let le = k.all i (let lt = inside.1 in omega (arith, lt)) in omega (arith, le, few)
  | inr past ↦ let z = index_past classes i (let le = past.1 in omega (arith, le)) in omega (arith, z)
]

-- the first members are tags
pub firsts_in : (classes firsts : List ℕ) (count : ℕ) → AreFirsts classes firsts → length classes ≡ count → All (λ i. i < count) firsts
firsts_in classes firsts count k many i d lt = subst (λ n. n < count) (get_or_default firsts i 0 d lt) (subst (λ n. slice_index firsts i < n) many (k.member i lt).0)

-- the first members of two classes are not alike, also where the store and the sets have grown
pub classes_differ : (st new : StoreState) (ss more : List (List ℕ)) (states tags classes firsts : List ℕ) → IsBase st ss new more states tags firsts → AreClasses (AreTagsAlike st states ss tags) (length tags) classes → AreFirsts classes firsts →
    (i j : ℕ) → i < j → j < length firsts → AreAlike new states (first_member_set more tags firsts i) (first_member_set more tags firsts j) → ⊥
classes_differ st new ss more states tags classes firsts base c fm i j lt inside k =
    let li : i < length firsts = omega (arith, lt, inside) in
    let then = alike_then st ss new more states tags firsts base i j li inside k in
    let many = c.one_each in
    let a : slice_index firsts i < length tags = subst (λ n. slice_index firsts i < n) many (fm.member i li).0 in
    let b : slice_index firsts j < length tags = subst (λ n. slice_index firsts j < n) many (fm.member j inside).0 in
    firsts_differ classes firsts fm i j lt inside ((c.same (slice_index firsts i) (slice_index firsts j) a b).1 then)

module _ (fields : FieldTable) (topo : Topology) (tag : ℕ) (p : Policy) (b : Prepared) (k : IsPrepared fields topo tag p b) (small : 1 + dups_of p ≤ 4294967296) (tags : List ℕ) (numbers : AreNumbers b.sets b.levels.levels tags) where
  pub distinct : HasDistinct p
  distinct = numbered_distinct p 1 k.begun.clear.numbered

  -- the tags' sets are known
  pub known : All (λ s. s < length b.sets) tags
  known = prepared_known fields topo tag p b k tags numbers

  -- and are the tag sets
  pub tags_are : AreTags p (IsStartPacket fields topo) (sets_of b.sets tags)
  tags_are = prepared_tags fields topo tag p b k tags numbers

  tag_set : (i : ℕ) → i < length tags → IsTagSet p (IsStartPacket fields topo) (set_of_tag b.sets tags i)
  tag_set i lt = (tags_are.exactly (set_of_tag b.sets tags i)).0 (set_contained b.sets tags i lt)

  -- their labels are first dups of literals
  literal : (i : ℕ) → i < length tags → (l : ℕ) → Contains (set_of_tag b.sets tags i) l → (j : Literal) × HoldsLiteral p j × (j.mark ≡ l)
  literal i lt = literal_of topo k.begun.clear.topology.links p distinct k.begun.clear.dups_in_links k.begun.clear.links_declared (IsStartPacket fields topo) (set_of_tag b.sets tags i) (tag_set i lt)

  -- a dup is a place of a state
  dup_place : (l : ℕ) → has_dup p l ≡ true → l < 1 + dups_of p
  dup_place l h = (number_within p 1 l (ap (λ q. has_dup q l) k.begun.clear.numbered ∙ h)).1

  -- the labels after them are dups
  dups_after : (i : ℕ) → i < length tags → AreDups p (set_of_tag b.sets tags i)
  dups_after i lt l c =
      let m = from_mapped (λ n. n + 1) (set_of_tag b.sets tags i) l (in_from_contains (labels_after (set_of_tag b.sets tags i)) l c) in
      let j = literal i lt m.0 (contains_from_in (set_of_tag b.sets tags i) m.0 m.1) in
      subst (λ n. has_dup p n ≡ true) (ap (λ n. n + 1) j.2 ∙ sym m.2) (holds_second p j.0 j.1)

  -- they are small
  pub labels_small : All (λ s. All (λ l. l + 1 < 18446744073709551616) (slice_index_or b.sets s [])) tags
  labels_small i d lt =
      subst (λ s. All (λ l. l + 1 < 18446744073709551616) (slice_index_or b.sets s [])) (get_or_default tags i 0 d lt)
      (all_from_members (λ l. l + 1 < 18446744073709551616) (set_of_tag b.sets tags i) (λ l m.
      let j = literal i lt l (contains_from_in (set_of_tag b.sets tags i) l m) in
      let lt = dup_place l (subst (λ n. has_dup p n ≡ true) j.2 (holds_first p j.0 j.1)) in
      omega (arith, lt, small)))

  -- the packets of levels are diagrams of the store
  pub level_ids : All (HaveIds b.store) b.levels.levels
  level_ids i d lt =
      subst (HaveIds b.store) (get_or_default b.levels.levels i [] d lt)
      (each_weaker (IsPair b.store b.sets (length b.states)) (λ e. IsId b.store e.1) (λ e q. q.packets.id) (get_or b.levels.levels i []) (k.levelled.are.pairs i lt).each)

  -- and their sets are known
  pub level_sets : All (λ l. All (λ (e : ℕ × ℕ). e.0 < length b.sets) l) b.levels.levels
  level_sets i d lt =
      subst (λ l. All (λ (e : ℕ × ℕ). e.0 < length b.sets) l) (get_or_default b.levels.levels i [] d lt) (prepared_entries fields topo tag p b k i lt).0

  -- the packets of levels under the labels after a tag set are met under it
  met_is : (i : ℕ) → i < length tags → (x : Packet) → IsPacketOf b.store x → ((j : ℕ) × InLevel b.store b.sets b.levels.levels j (labels_after (set_of_tag b.sets tags i), x)) ↔ IsMetUnder p (IsStartPacket fields topo) (set_of_tag b.sets tags i) x
  met_is i lt x r =
      let lv = k.levelled in
      let first = lv.first in
      let auto = auto_then fields topo tag p k.before b.states b.store b.sets b.levels.levels b.levels.broken k.begun.clear k.begun.over k.begun.automaton lv in
      let to = among_start fields topo tag p k.before b.states b.store b.sets b.levels.levels b.levels.broken k.begun.clear k.begun.over k.begun.automaton lv in
      let back = start_among fields topo tag p k.before b.states b.store b.sets b.levels.levels b.levels.broken k.begun.clear k.begun.over k.begun.automaton lv in
      let levels = subst (AreLevels lv.first b.store b.sets b.states lv.set lv.start lv.bad b.levels.levels) k.whole lv.are in
      let s = set_of_tag b.sets tags i in
      let good : IsPacketOf first x = subst (λ m. InRange m x) lv.grows.maxes r in (
        λ h.
            let lt' = named_within b.levels.levels h.0 h.1.0 (under_named b.store (slice_index_or b.levels.levels h.0 []) h.1.0 x h.1.2) in
            let u = under_of topo k.begun.clear.topology.links p distinct k.begun.clear.dups_in_links k.begun.clear.links_declared first b.store b.sets b.states lv.set lv.start lv.bad b.levels.levels auto lv.tidy lv.set_is levels
            s (tag_set_too p (IsStartPacket fields topo) (IsAmong first lv.start) back to s (tag_set i lt)) x good h.0 lt' h.1 in
            (u.0, u.1, u.2, to u.0 u.3, u.4, u.5, u.6, u.7),
        λ u.
            level_of topo k.begun.clear.topology.links p distinct k.begun.clear.dups_in_links k.begun.clear.links_declared first b.store b.sets b.states lv.set lv.start lv.bad b.levels.levels auto lv.tidy lv.set_is levels
            s x (u.0, u.1, u.2, back u.0 u.3, u.4, u.5, u.6, u.7),
      )

  module _ (st : StoreState) (ss : List (List ℕ)) (g : Grows b.store st) (s : SetsGrow b.sets ss) where
    -- the automaton's states there
    pub auto_there : IsAutomaton st b.states 1 p
    auto_there = stands k.before st b.states 1 p k.begun.automaton (grows_on k.before k.levelled.first st k.levelled.grew (grows_on k.levelled.first b.store st k.levelled.grows g))

    pub states_there : AreStates st b.states
    states_there = are_states st b.states p auto_there

    pub over_there : IsOver fields st
    over_there = over_grown fields k.before st k.begun.over (grows_on k.before k.levelled.first st k.levelled.grew (grows_on k.levelled.first b.store st k.levelled.grows g))

    -- the tags' sets stay
    pub set_there_is : (i : ℕ) → i < length tags → set_of_tag ss tags i ≡ set_of_tag b.sets tags i
    set_there_is i lt = tag_set_kept b.sets ss tags i s known lt

    pub known_there : All (λ n. n < length ss) tags
    known_there = known_kept b.sets ss tags s known

    pub sets_there : sets_of ss tags ≡ sets_of b.sets tags
    sets_there = by tags (λ n i. set_kept b.sets ss n s (members_from_all (λ m. m < length b.sets) tags known n i))
      where
        by : (ts : List ℕ) → ((n : ℕ) → In ts n → get_or ss n [] ≡ get_or b.sets n []) → sets_of ss ts ≡ sets_of b.sets ts
        by [] h = refl
        by (t ∷ ts) h = ap (λ x. x ∷ sets_of ss ts) (h t (inl refl)) ∙ ap (λ l. get_or b.sets t [] ∷ l) (by ts (λ n i. h n (inr i)))

    -- the labels after them are dups there too
    pub dups_there : (i : ℕ) → i < length tags → AreDups p (set_of_tag ss tags i)
    dups_there i lt = subst (AreDups p) (sym (set_there_is i lt)) (dups_after i lt)

    -- and places of states
    pub places_there : All (λ n. AreLabelsBelow (length b.states) (labels_after (slice_index_or ss n []))) tags
    places_there i d lt =
        subst (λ n. AreLabelsBelow (length b.states) (labels_after (slice_index_or ss n []))) (get_or_default tags i 0 d lt)
        (all_from_members (λ l. l < length b.states) (labels_after (set_of_tag ss tags i)) (λ l m.
        let c = contains_from_in (labels_after (set_of_tag ss tags i)) l m in
        let lt' = dup_place l (dups_there i lt l c) in
        let n = k.begun.automaton.count in
        omega (arith, lt', n)))

    -- all that tables are made of
    pub ready_there : HasAscendingSets ss → HasFields st → IsReady 0 fields topo p st ss b.states tags
    ready_there ascend has = record {
      over = over_there;
      has = has;
      automaton = auto_there;
      ascend = ascend;
      known = known_there;
      sets = sets_of b.sets tags;
      numbered = sets_there;
      in_order = tags_are;
    }

    -- what classes are made by is a base
    pub base_there : (firsts : List ℕ) → All (λ i. i < length tags) firsts → IsBase st ss st ss b.states tags firsts
    base_there firsts within = record {
      grows = grows_same st;
      sets = ([], sym (append-nil ss));
      states_are = states_there;
      known = known_there;
      places = places_there;
      within = within;
    }

    -- the classes in the words of policies
    pub classes_there : (classes : List ℕ) → AreTidy st → AreClasses (AreTagsAlike st b.states ss tags) (length tags) classes → AreTagClasses fields p (sets_of b.sets tags) classes
    classes_there classes tidy c =
        subst (λ l. AreTagClasses fields p l classes) sets_there (tag_classes fields p distinct st b.states over_there auto_there tidy ss tags classes [] dups_there c)

    -- what is met in a store before is met there
    pub met_there : (mid : StoreState) (d i : ℕ) → Grows b.store mid → Grows mid st → i < length tags → AreMet b.store b.sets b.levels.levels (labels_after (set_of_tag b.sets tags i)) mid d →
        IsMetPackets fields topo p (set_of_tag ss tags i) st d
    met_there mid d i early late lt m = record {
      id = late.ids d m.id;
      met = λ x packet.
          let whole : IsWhole x = packet.places in
          let same : is_in st d x ≡ is_in mid d x = ap has_some_out (late.leaves d x m.id) in
          let r : IsPacketOf b.store x = subst (λ q. InRange q x) g.maxes (packet_in_range fields st x over_there packet) in
          let e = m.met x whole in
          let u = met_is i lt x r in
          subst (λ l. (is_in st d x ≡ true) ↔ IsMetUnder p (IsStartPacket fields topo) l x) (sym (set_there_is i lt))
          (λ h. u.0 (e.0 (sym same ∙ h)), λ h. same ∙ e.1 (u.1 h));
    }

    -- so the merged tables can be made
    pub mergeable_there : IsInRange p fields → HasAscendingSets ss → HasFields st → (classes firsts met : List ℕ) → AreTagClasses fields p (sets_of b.sets tags) classes → AreFirsts classes firsts → length met ≡ length tags →
        ((i : ℕ) → i < length tags → IsMetPackets fields topo p (set_of_tag ss tags i) st (slice_index met i)) → IsMergeable fields topo tag p st ss b.states tags classes firsts met
    mergeable_there in_range ascend has classes firsts met are fm count each = record {
      clear = k.begun.clear;
      in_range = in_range;
      ready = ready_there ascend has;
      ends = prepared_ends fields topo tag p b k;
      classes_are = subst (λ l. AreTagClasses fields p l classes) (sym sets_there) are;
      firsts_are = fm;
      met_count = count;
      met_are = each;
    }
