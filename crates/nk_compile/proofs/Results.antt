-- The tables that are made of an automaton's states are the printed ones: where the states of a tag lead with a tag is a result
-- of that tag's states.
use Rattle.std.proofs.Common.{◌≡◌, ℕ, zero, suc, ◌+◌, ◌<◌, ◌≤◌, ◌↔◌, true, ⊎_elim, inl, inr, Some, List, [], ◌∷◌, length, get_or, take, refl, sym, ap, subst, ◌∙◌, arith}
use Rattle.std.specs.Prelude.{All, map, Contains, slice_get}
use Rattle.std.specs.List.Sorted.{IsStrictlyIncreasing}
use Rattle.nk_field.specs.Packet.{FieldTable}
use Rattle.nk_field.specs.declared.packet.Packet.{Packet}
use Rattle.nk_field.proofs.Lists.{In, in_from_contains, contains_from_in, from_mapped, in_mapped}
use Rattle.nk_field.proofs.Ascending.{all_from_members, members_from_all}
use Rattle.nk_topo.specs.Topology.{Topology}
use Rattle.nk_policy.specs.Policy.{Policy}
use Rattle.nk_policy.specs.Meaning.{Gives}
use Rattle.nk_policy.specs.Progress.{RecordsAt}
use Rattle.nk_policy.specs.After.{after, has_dup}
use Rattle.nk_policy.specs.PositionSets.{at_position}
use Rattle.nk_policy.specs.Distinct.{HasDistinct}
use Rattle.nk_policy.proofs.Numbering.{number_within, numbered_distinct}
use Rattle.nk_policy.proofs.DupsOfRuns.{rest_dups}
use Rattle.nk_policy.proofs.Splitting.{holds_dup}
use Rattle.nk_policy.proofs.LinkStructure.{holds_second}
use Rattle.nk_store.specs.Diagram.{IsReduced, leaf_at}
use Rattle.nk_store.specs.StoreState.{StoreState, IsStorePacket as IsPacketOf}
use Rattle.nk_store.proofs.InRange.{packet_in_range}
use Rattle.nk_determ.specs.States.{StateLeads}
use Rattle.nk_extract.specs.Buckets.{AreBuckets}
use Rattle.nk_group.specs.Groups.{groups_of, rows_after}
use Rattle.nk_group.specs.declared.switch_tags.SwitchTags.{SwitchTags}
use Rattle.nk_group.specs.Tagged.{set_of_tag, members_of, LeadsWith}
use Rattle.nk_group.specs.Made.{TagTree, rows_of_trees, IsTagTree, IsTableAt, IsTagAt}
use Rattle.nk_table.specs.declared.Table.{Table}
use Rattle.nk_compile.specs.PrintedTable.{IsOfTag, StateRecords, IsResult, IsTreeOfTag}
use Rattle.nk_compile.specs.WholeTable.{HasRowsAt, IsSwitchTable}
use Rattle.nk_compile.specs.Ready.{sets_of, IsClear, IsReady}
use Rattle.nk_compile.proofs.ProgramFits.{set_up}
use Rattle.nk_compile.proofs.Reached.{same_some}
use Rattle.nk_compile.proofs.StatesOfPositions.{at_later, position_state, IsTagged, members_off, states_stay}

-- the set at a place
pub set_there : (ss : List (List ℕ)) (tags : List ℕ) (t : ℕ) → t < length tags → slice_get (sets_of ss tags) t ≡ Some (set_of_tag ss tags t)
set_there ss [] t lt = absurd (omega (arith, lt))
set_there ss (s ∷ tags) zero lt = refl
set_there ss (s ∷ tags) (suc t) lt = set_there ss tags t (omega (arith, lt))

-- a place with a set is one of them
pub set_within : (ss : List (List ℕ)) (tags : List ℕ) (t : ℕ) (labels : List ℕ) → slice_get (sets_of ss tags) t ≡ Some labels → (t < length tags) × (set_of_tag ss tags t ≡ labels)
set_within ss [] t labels e = absurd cc
set_within ss (s ∷ tags) zero labels e = (omega arith, same_some (get_or ss s []) labels e)
set_within ss (s ∷ tags) (suc t) labels e = let r = set_within ss tags t labels e in (omega (arith, r.0), r.1)

-- a place's set is one of the sets
pub set_contained : (ss : List (List ℕ)) (tags : List ℕ) (t : ℕ) → t < length tags → Contains (sets_of ss tags) (set_of_tag ss tags t)
set_contained ss tags t lt = contains_from_in _ _ (there tags t lt)
  where
    there : (is : List ℕ) (i : ℕ) → i < length is → In (sets_of ss is) (get_or ss (get_or is i 0) [])
    there [] i l = absurd (omega (arith, l))
    there (x ∷ is) zero l = inl refl
    there (x ∷ is) (suc i) l = inr (there is i (omega (arith, l)))

module _ (first : ℕ) (fields : FieldTable) (topo : Topology) (tag : ℕ) (p : Policy) (st : StoreState) (ss : List (List ℕ)) (states tags : List ℕ) (clear : IsClear fields topo tag p) (ready : IsReady first fields topo p st ss states tags)
    (tagged : (i : ℕ) → i < length tags → IsTagged p ss tags i) where
  distinct : HasDistinct p
  distinct = numbered_distinct p 1 clear.numbered

  past : 2 ≤ tag
  past = (clear.table.tag_past_port tag clear.tag_is).0

  -- a tag that there is has its literals
  pub tagged_at : (t : ℕ) → t ≤ length tags → (i : ℕ) → t ≡ suc i → IsTagged p ss tags i
  tagged_at t le i e = tagged i (omega (arith, le, e))

  -- the number of a dup is a place of a state
  pub dup_place : (l : ℕ) → has_dup p l ≡ true → (1 ≤ l) × (l < length states)
  dup_place l h =
      let w = number_within p 1 l (ap (λ q. has_dup q l) clear.numbered ∙ h) in
      (w.0, let c = ready.automaton.count in omega (arith, w.1, c))

  -- the positions of a tag are places of states
  pub member_place : (t : ℕ) → t ≤ length tags → (l : ℕ) → Contains (members_of ss tags t) l → l < length states
  member_place zero le l c =
      ⊎_elim (λ e. let n = ready.automaton.count in omega (arith, e, n)) (λ i. absurd i) (in_from_contains (0 ∷ []) l c)
  member_place (suc i) le l c =
      let m = from_mapped (λ n. n + 1) (set_of_tag ss tags i) l (in_from_contains _ l c) in
      let k = (tagged i (omega (arith, le))).literal m.0 (contains_from_in _ _ m.1) in
      let w = dup_place (k.0.mark + 1) (holds_second p k.0 k.1) in
      let e : k.0.mark ≡ m.0 = k.2 in
      let f : l ≡ m.0 + 1 = m.2 in
      omega (arith, w.1, e, f)

  -- so a tag's states can be put into the table of a switch
  pub tag_at : (sw t : ℕ) → t ≤ length tags → IsTagAt st ss states tags tag sw t
  tag_at sw t le = record {
    within = le;
    places = all_from_members (λ l. l < length states) (members_of ss tags t) (λ l i. member_place t le l (contains_from_in _ _ i));
    stay = states_stay p tag past distinct clear.tag_free clear.dups_in_links clear.switch_in_links st states (members_of ss tags t) ready.automaton
        (member_place t le)
        (members_off p tag past distinct clear.tag_free clear.dups_in_links clear.switch_in_links ss tags t (tagged_at t le)) sw;
  }

  -- a member of a tag is one of its states
  state_of_member : (t : ℕ) → t ≤ length tags → (l : ℕ) → Contains (members_of ss tags t) l → IsOfTag p (sets_of ss tags) t (at_position p l)
  state_of_member zero le l c =
      ⊎_elim (λ e. ap (at_position p) e) (λ i. absurd i) (in_from_contains (0 ∷ []) l c)
  state_of_member (suc i) le l c =
      let m = from_mapped (λ n. n + 1) (set_of_tag ss tags i) l (in_from_contains _ l c) in
      (set_of_tag ss tags i, m.0, set_there ss tags i (omega (arith, le)), contains_from_in _ _ m.1, ap (at_position p) m.2 ∙ at_later p m.0)

  -- and each state is that of a member
  member_of_state : (t : ℕ) (s : Policy) → IsOfTag p (sets_of ss tags) t s → (l : ℕ) × Contains (members_of ss tags t) l × (at_position p l ≡ s)
  member_of_state zero s e = (0, contains_from_in (0 ∷ []) 0 (inl refl), sym e)
  member_of_state (suc i) s h =
      let w = set_within ss tags i h.0 h.2 in
      let c : Contains (set_of_tag ss tags i) h.1 = subst (λ x. Contains x h.1) (sym w.1) h.3 in
      (h.1 + 1, contains_from_in _ _ (in_mapped (λ n. n + 1) (set_of_tag ss tags i) h.1 (in_from_contains _ _ c)), at_later p h.1 ∙ sym h.4)

  module _ (t : ℕ) (le : t ≤ length tags) (pk : Packet) (r : IsPacketOf st pk) where
    -- they end where a policy of the tag does
    ends_are : (y : Packet) → StateLeads st states (members_of ss tags t) pk y 0 ↔ IsResult p (sets_of ss tags) t pk y 0
    ends_are y = (
      λ s. (at_position p s.0, state_of_member t le s.0 s.1, ((position_state st states p ready.automaton s.0 (member_place t le s.0 s.1)).ends pk y r).0 s.2),
      λ h.
          let m = member_of_state t h.0 h.1 in
          (m.0, m.1, ((position_state st states p ready.automaton m.0 (member_place t le m.0 m.1)).ends pk y r).1 (subst (λ q. Gives q pk [] y) (sym m.2) h.2)),
    )

    -- and record where one does
    records_are : (y : Packet) (l : ℕ) → 1 ≤ l → StateLeads st states (members_of ss tags t) pk y l ↔ StateRecords p (sets_of ss tags) t pk y l
    records_are y l one = (
      λ s. (at_position p s.0, state_of_member t le s.0 s.1, ((position_state st states p ready.automaton s.0 (member_place t le s.0 s.1)).records pk y l r one).0 s.2),
      λ h.
          let m = member_of_state t h.0 h.1 in
          (m.0, m.1, ((position_state st states p ready.automaton m.0 (member_place t le m.0 m.1)).records pk y l r one).1 (subst (λ q. RecordsAt q pk [] y l) (sym m.2) h.2)),
    )

    -- what a state records has a number from 1 on
    from_one : (y : Packet) (l : ℕ) → StateRecords p (sets_of ss tags) t pk y l → 1 ≤ l
    from_one y l h =
        let m = member_of_state t h.0 h.1 in
        (dup_place l (held m.0 (subst (λ q. RecordsAt q pk [] y l) (sym m.2) h.2))).0
      where
        held : (k : ℕ) → RecordsAt (at_position p k) pk [] y l → has_dup p l ≡ true
        held zero c = holds_dup p pk [] y l c
        held (suc k) c = rest_dups p (suc k) l (holds_dup (after p (suc k)) pk [] y l c)

    -- where states lead with a tag are the results
    pub results_are : (y : Packet) (t' : ℕ) → LeadsWith st ss states tags (members_of ss tags t) pk y t' ↔ IsResult p (sets_of ss tags) t pk y t'
    results_are y zero = ends_are y
    results_are y (suc i) = (
      λ h. (
        set_of_tag ss tags i,
        set_there ss tags i h.0,
        h.1,
        (
          ready.ascend (get_or tags i 0),
          λ l. (
            λ c. let q = (h.2 l).0 c in (records_are y l (positive l q.0)).0 q.1,
            λ q. let one = from_one y l q in (h.2 l).1 (below l one, (records_are y l one).1 q),
          ),
        ),
      ),
      λ h.
          let w = set_within ss tags i h.0 h.1 in (
            w.0,
            (λ e. h.2 (sym w.1 ∙ e)),
            λ l. (
              λ c. let q = (h.3.1 l).0 (subst (λ x. Contains x l) w.1 c) in let one = from_one y l q in (below l one, (records_are y l one).1 q),
              λ q. subst (λ x. Contains x l) (sym w.1) ((h.3.1 l).1 ((records_are y l (positive l q.0)).0 q.1)),
            ),
          ),
    )
      where
        positive : (l : ℕ) → 0 < l → 1 ≤ l
        positive l lt = omega (arith, lt)

        below : (l : ℕ) → 1 ≤ l → 0 < l
        below l one = omega (arith, one)

  -- the store's largest values of declared fields are theirs
  pub declared_are : take st.width st.maxes ≡ fields.maxima
  declared_are = ap (λ n. take n st.maxes) ready.over.width ∙ (set_up fields st tag clear.table ready.over clear.tag_is).front

  -- the tree of a tag is that of its states
  tree_is : (sw : ℕ) (e : TagTree) → e.tag ≤ length tags → IsTagTree st ss states tags tag sw e → IsTreeOfTag fields tag p (sets_of ss tags) e.tag sw e.tree
  tree_is sw e le k = record {
    reduced = subst (λ m. IsReduced e.tree m 1) declared_are k.reduced;
    tag_free = k.tag_free;
    leaves = λ pk packet here.
        let r : IsPacketOf st pk = packet_in_range fields st pk ready.over packet in
        let buckets : AreBuckets (length fields.maxima) tag (λ y t. LeadsWith st ss states tags (members_of ss tags e.tag) pk y t) pk (leaf_at e.tree [] pk) =
        subst (λ n. AreBuckets n tag (λ y t. LeadsWith st ss states tags (members_of ss tags e.tag) pk y t) pk (leaf_at e.tree [] pk)) ready.over.width (k.leaves pk r here) in
        record {
          exactly = λ b. (
            λ c. let h = (buckets.exactly b).0 c in (h.0, h.1, (results_are e.tag le pk r h.0 h.1).0 h.2, h.3),
            λ h. (buckets.exactly b).1 (h.0, h.1, (results_are e.tag le pk r h.0 h.1).1 h.2, h.3),
          );
          in_order = buckets.in_order;
        };
  }

  -- the table of a switch is the printed one
  pub switch_table_is : (s : SwitchTags) (t : Table) → IsStrictlyIncreasing s.tags → ((n : ℕ) → Contains s.tags n ↔ HasRowsAt p (sets_of ss tags) s.switch n) → All (λ n. n ≤ length tags) s.tags →
      IsTableAt st ss states tags tag s t → IsSwitchTable fields tag p (sets_of ss tags) t
  switch_table_is s t ascend exactly within k = record {
    trees = k.trees;
    ascending = subst IsStrictlyIncreasing (sym k.tags_are) ascend;
    exactly = λ n. subst (λ sw. Contains (map (λ (e : TagTree). e.tag) k.trees) n ↔ HasRowsAt p (sets_of ss tags) sw n) (sym k.switch)
        (subst (λ l. Contains l n ↔ HasRowsAt p (sets_of ss tags) s.switch n) (sym k.tags_are) (exactly n));
    each = all_from_members (λ (e : TagTree). IsTreeOfTag fields tag p (sets_of ss tags) e.tag t.switch e.tree) k.trees (λ e i.
        let le = members_from_all (λ n. n ≤ length tags) s.tags within e.tag (subst (λ l. In l e.tag) k.tags_are (in_mapped (λ (x : TagTree). x.tag) k.trees e i)) in
        subst (λ sw. IsTreeOfTag fields tag p (sets_of ss tags) e.tag sw e.tree) (sym k.switch) (tree_is s.switch e le (members_from_all (IsTagTree st ss states tags tag s.switch) k.trees k.each e i)));
    groups = k.groups ∙ ap (λ m. groups_of (rows_of_trees m tag k.trees)) declared_are;
    rows = k.rows ∙ ap (λ m. rows_after [] (rows_of_trees m tag k.trees)) declared_are;
  }
