-- The classes of tag sets number the tags so that the merged table carries the policy: at a packet that is met under a member of a
-- class the member that acts is met too, and alike members give the same histories.
use Rattle.std.proofs.Common.{◌≡◌, ℕ, zero, suc, ◌+◌, ◌<◌, ⊎_elim, Some, List, [], ◌∷◌, length, refl, sym, ap, subst, ◌∙◌, arith}
use Rattle.std.specs.Prelude.{All, Contains, map, slice_get, slice_index, slice_index_or}
use Rattle.std.proofs.lemmas.Option.{slice_get_within}
use Rattle.nk_field.specs.declared.packet.Packet.{Packet}
use Rattle.nk_field.specs.Packet.{FieldTable, IsFieldTable, erased}
use Rattle.nk_field.proofs.Lists.{In, in_from_contains, from_mapped}
use Rattle.nk_field.proofs.Ascending.{members_from_all}
use Rattle.nk_topo.specs.Topology.{Topology, SwitchPorts, AreLinks}
use Rattle.nk_policy.specs.Policy.{Policy}
use Rattle.nk_policy.specs.Meaning.{Gives}
use Rattle.nk_policy.specs.After.{after}
use Rattle.nk_policy.specs.Distinct.{HasDistinct}
use Rattle.nk_policy.specs.Ranges.{IsInRange}
use Rattle.nk_policy.proofs.Numbering.{numbered_distinct}
use Rattle.nk_names.specs.declared.Program.{Program}
use Rattle.nk_names.specs.Accepted.{IsStartPacket, IsCompilable}
use Rattle.nk_names.specs.Named.{policy_named}
use Rattle.nk_names.specs.ProgramValue.{IsLet, IsProgram}
use Rattle.nk_names.proofs.Named.{let_named}
use Rattle.nk_store.specs.Diagram.{leaf_at}
use Rattle.nk_table.specs.declared.Tables.{Tables}
use Rattle.nk_table.specs.declared.Table.{Table}
use Rattle.nk_group.specs.Classed.{class_of}
use Rattle.nk_compile.specs.Carries.{Carries}
use Rattle.nk_compile.specs.WholeTable.{HasRowsAt, TagTree}
use Rattle.nk_compile.proofs.ActingTags.{GivesAs, Acts, Numbering}
use Rattle.nk_compile.proofs.Carried.{Leaving, leaving_by}
use Rattle.nk_compile.proofs.Emitted.{acts_for}
use Rattle.nk_compile.proofs.Reached.{Setting, Under, come, erases, same_some}
use Rattle.nk_compile.proofs.RowsFor.{table_for, sent_by_leaf}
use Rattle.nk_compile.proofs.TagPlaces.{tags_stand}
use Rattle.nk_compact.specs.MergedTable.{GivesAfter, AreSetsAlike, AreTagClasses, IsOfClass, ActsFor, IsClassTree, HasClassRowsAt, IsClassTable, IsMergedTable}

-- what stands at a place is what the list has there
pub get_index : (xs : List ℕ) (i : ℕ) → i < length xs → slice_get xs i ≡ Some (slice_index xs i)
get_index [] i lt = absurd (omega (arith, lt))
get_index (x ∷ xs) zero lt = refl
get_index (x ∷ xs) (suc i) lt = get_index xs i (omega (arith, lt))

-- and the other way
pub index_get : (xs : List ℕ) (i c : ℕ) → slice_get xs i ≡ Some c → slice_index xs i ≡ c
index_get [] i c e = absurd cc
index_get (x ∷ xs) zero c e = same_some x c e
index_get (x ∷ xs) (suc i) c e = index_get xs i c e

-- likewise of sets
pub set_get : (xs : List (List ℕ)) (i : ℕ) (s : List ℕ) → slice_get xs i ≡ Some s → slice_index_or xs i [] ≡ s
set_get [] i s e = absurd cc
set_get (x ∷ xs) zero s e = same_some x s e
set_get (x ∷ xs) (suc i) s e = set_get xs i s e

-- where a tag of the class has rows, the class has
class_rows :
    (p : Policy) (tags : List (List ℕ)) (classes : List ℕ) (sw i c : ℕ) → IsOfClass classes c i → 0 < c
    → HasRowsAt p tags sw (suc i) → HasClassRowsAt p tags classes sw c
class_rows p tags classes sw i zero m lt h = absurd (omega (arith, lt))
class_rows p tags classes sw i (suc c) m lt h = (i, m, h)

module _ (t : Tables) (p : Policy) (tag : ℕ) (tags : List (List ℕ)) (classes : List ℕ) (g : Setting t p tag tags) (are : AreTagClasses t.fields p tags classes) where
  -- shorter names
  abbrev Start : Packet → Type 0
  Start = IsStartPacket t.fields t.topo

  -- a place with a tag set has a class
  place_class :
      (i : ℕ) (labels : List ℕ) → slice_get tags i ≡ Some labels
      → IsOfClass classes (slice_index classes i) i × (0 < slice_index classes i)
  place_class i labels get =
      let within = slice_get_within tags i labels get in
      let many = are.one_each in
      let lt : i < length classes = omega (arith, within, many) in
      (get_index classes i lt, let one = are.from_one i within in omega (arith, one))

  -- no tag but 0 has the class 0
  never_zero : (tg : ℕ) (x : Packet) → Under t p tags (suc tg) x → class_of classes (suc tg) ≡ 0 → ⊥
  never_zero tg x under e = let lt = (place_class tg under.0 under.1).1 in omega (arith, e, lt)

  -- what acts for a class of a tag under which a packet is met is a tag of the class under which it is met
  acting_under :
      (c tg : ℕ) (x : Packet) → Under t p tags tg x → class_of classes tg ≡ c → (t' : ℕ)
      → ActsFor p Start tags classes c x t' → Under t p tags t' x × (class_of classes t' ≡ c)
  acting_under zero zero x under e t' h = (subst (λ n. Under t p tags n x) (sym h) under, ap (class_of classes) h)
  acting_under zero (suc i) x under e t' h = absurd (never_zero i x under e)
  acting_under (suc c) zero x under e t' h = absurd (omega (arith, e))
  acting_under (suc c) (suc i) x under e zero h = absurd h
  acting_under (suc c) (suc i) x under e (suc j) h =
      ⊎_elim
      (λ first.
      let m = first.0 in
      ((m.1, m.2, m.3), index_get classes j (suc c) m.0))
      (λ none.
      let m = place_class i under.0 under.1 in
      absurd (none.0 i (subst (λ n. IsOfClass classes n i) e m.0, under.0, under.1, under.2)))
      h

  -- alike tags
  alike_tags :
      (a b : ℕ) (x : Packet) → class_of classes a ≡ class_of classes b → Under t p tags a x → Under t p tags b x
      → (w : List Packet) (last : Packet) → GivesAs p tags a x w last → GivesAs p tags b x w last
  alike_tags zero zero x e under under' w last h = h
  alike_tags zero (suc j) x e under under' w last h = absurd (never_zero j x under' (sym e))
  alike_tags (suc i) zero x e under under' w last h = absurd (never_zero i x under e)
  alike_tags (suc i) (suc j) x e under under' w last h =
      let packet = (come t p tag tags g (suc i) x under).reached.at.packet in
      let of = h.1 in
      let member : Contains under.0 of.1 = subst (λ ls. Contains ls of.1) (same_some of.0 under.0 (sym of.2 ∙ under.1)) of.3 in
      let following : GivesAfter p under.0 x w last = (of.1, member, subst (λ s. Gives s x w last) of.4 h.2) in
      let same = (are.same i j (slice_get_within tags i under.0 under.1) (slice_get_within tags j under'.0 under'.1)).0 e in
      let alike : AreSetsAlike t.fields p under.0 under'.0 = subst (λ s. AreSetsAlike t.fields p under.0 s) (set_get tags j under'.0 under'.1) (subst (λ s. AreSetsAlike t.fields p s (slice_index_or tags j [])) (set_get tags i under.0 under.1) same) in
      let other = (alike x w last packet).0 following in
      (after p (other.0 + 1), (under'.0, other.0, under'.1, other.1, refl), other.2)

  module _ (switches : map (λ (s : Table). s.switch) t.tables ≡ map (λ (s : SwitchPorts). s.switch) t.topo.switches) (each : All (IsClassTable t.fields tag Start p tags classes) t.tables) where
    -- where a packet is met under a tag, a tag acts for its class
    acts : (tg : ℕ) (x : Packet) → Under t p tags tg x → Acts t p tag tags (class_of classes) (class_of classes tg) x
    acts tg x under =
        let a = (come t p tag tags g tg x under).reached.at in
        let f = table_for t.tables (slice_index x 0) (subst (λ l. In l (slice_index x 0)) (sym switches) a.here) in
        let table : Table = f.0 in
        let st : IsClassTable t.fields tag Start p tags classes table = members_from_all (IsClassTable t.fields tag Start p tags classes) t.tables each table f.1 in
        let c = class_of classes tg in
        let has_rows : HasClassRowsAt p tags classes table.switch c = subst (λ w. HasClassRowsAt p tags classes w c) (sym f.2) (rows_at tg under a.rows) in
        let found = from_mapped (λ (e : TagTree). e.tag) st.trees c (in_from_contains (map (λ (e : TagTree). e.tag) st.trees) c ((st.exactly c).1 has_rows)) in
        let e : TagTree = found.0 in
        let is_tree : IsClassTree t.fields tag Start p tags classes e.tag table.switch e.tree = members_from_all (λ (q : TagTree). IsClassTree t.fields tag Start p tags classes q.tag table.switch q.tree) st.trees st.each e found.1 in
        let leaf = is_tree.leaves x a.packet (sym f.2) in
        let own : ActsFor p Start tags classes c x leaf.0 = subst (λ q. ActsFor p Start tags classes c q leaf.0) (erases t p tag tags g x ∙ a.zero_tag) (subst (λ n. ActsFor p Start tags classes n (erased t.fields x) leaf.0) (sym found.2) leaf.1) in
        let there = acting_under c tg x under refl leaf.0 own in
        let at = (come t p tag tags g leaf.0 x there.0).reached.at in
        acts_for t p tag tags g (class_of classes) c leaf.0 x at
        record {
          buckets = leaf_at e.tree [] x;
          list = leaf.2;
          sent_is = sent_by_leaf t p tag tags g c leaf.0 x at table f.3 f.4
              record { trees = st.trees; ascending = st.ascending; groups = st.groups; rows = st.rows; own = e; listed = found.1; number_is = sym found.2; reduced = is_tree.reduced; tag_free = is_tree.tag_free };
        }
        there.0
        there.1
      where
        rows_at : (n : ℕ) → Under t p tags n x → HasRowsAt p tags (slice_index x 0) n → HasClassRowsAt p tags classes (slice_index x 0) (class_of classes n)
        rows_at zero u h = tt
        rows_at (suc i) u h =
            let m = place_class i u.0 u.1 in
            class_rows p tags classes (slice_index x 0) i (slice_index classes i) m.0 m.1 h

    -- so classes number the tags
    pub class_numbering : Numbering t p tag tags (class_of classes)
    class_numbering = record { zero_is = refl; acts = acts; alike = alike_tags }

-- what is asked of fields, topology, policy and tables
abbrev Asked : Policy → List (List ℕ) → List ℕ → Tables → FieldTable → Topology → Type 0
Asked p tags classes t fields topo =
    IsFieldTable fields
    × AreLinks topo
    × HasDistinct p
    × IsInRange p fields
    × IsCompilable fields topo p
    × IsMergedTable fields topo (IsStartPacket fields topo) p tags classes t

-- over the tables' own fields and topology
leave_here : (p : Policy) (tags : List (List ℕ)) (classes : List ℕ) (t : Tables) → Asked p tags classes t t.fields t.topo → Leaving p t t.fields t.topo
leave_here p tags classes t a =
    let table : IsMergedTable t.fields t.topo (IsStartPacket t.fields t.topo) p tags classes t = a.5 in
    let g : Setting t p table.tag tags =
    record {
      fields_ok = a.0;
      links_ok = a.1;
      distinct = a.2;
      in_range = a.3;
      compilable = a.4;
      tag_is = table.tag_declared;
      stand = tags_stand p (IsStartPacket t.fields t.topo) tags table.in_order;
    } in
    leaving_by t p table.tag tags g (class_of classes) (class_numbering t p table.tag tags classes g table.are_classes table.switches table.each)

-- over equal ones
leave_over :
    (p : Policy) (tags : List (List ℕ)) (classes : List ℕ) (t : Tables) (fields : FieldTable) (topo : Topology) → t.fields ≡ fields → t.topo ≡ topo
    → Asked p tags classes t fields topo → Leaving p t fields topo
leave_over p tags classes t fields topo e f =
    subst
    (λ i. Asked p tags classes t i topo → Leaving p t i topo)
    e
    (subst (λ o. Asked p tags classes t t.fields o → Leaving p t t.fields o) f (leave_here p tags classes t))

-- the merged table of a compilable policy carries it
pub merged_carries :
    (program : Program) (p : Policy) (tags : List (List ℕ)) (classes : List ℕ) (t : Tables) → IsFieldTable program.fields → AreLinks program.topo
    → HasDistinct p → IsInRange p program.fields → IsCompilable program.fields program.topo p
    → IsMergedTable program.fields program.topo (IsStartPacket program.fields program.topo) p tags classes t → Carries program p t
merged_carries program p tags classes t fields_ok links_ok distinct in_range compilable table =
    let h = leave_over p tags classes t program.fields program.topo table.same_fields table.same_topology (fields_ok, links_ok, distinct, in_range, compilable, table) in
    record {
      same_fields = table.same_fields;
      same_topology = table.same_topology;
      once = h.leave_once;
      exactly = h.leave_exactly;
      untagged = h.leave_untagged;
    }

-- so does that of a program's policy
pub named_merged_carries :
    (program : Program) (name : List ℕ) (p : Policy) (tags : List (List ℕ)) (classes : List ℕ) (t : Tables)
    → IsProgram program.fields program.topo program.lets → policy_named program name ≡ Some p
    → IsCompilable program.fields program.topo p
    → IsMergedTable program.fields program.topo (IsStartPacket program.fields program.topo) p tags classes t → Carries program p t
named_merged_carries program name p tags classes t ok named compilable table =
    let is : IsLet program.fields p = let_named program name p ok named in
    merged_carries program p tags classes t ok.table ok.topology.links (numbered_distinct p 1 is.numbered) is.in_range compilable table
