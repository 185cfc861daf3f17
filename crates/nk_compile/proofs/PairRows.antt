-- The tables of an old and a new policy, the new one's tags numbered after the old one's, can be planned.
use Rattle.std.proofs.Common.{◌≡◌, ◌≢◌, ℕ, zero, suc, ◌+◌, ◌<◌, ◌≤◌, ◌⊎◌, Bool, true, false, cond, inl, inr, ⊎_elim, Some, List, [], ◌∷◌, length, refl, sym, ap, subst, ◌∙◌, arith}
use Rattle.std.specs.Prelude.{◌==◌, map, slice_index, All, Contains}
use Rattle.std.proofs.lemmas.Bool.Decides.{nat_tests}
use Rattle.std.proofs.lemmas.Option.{slice_get_within}
use Rattle.nk_field.specs.Packet.{FieldTable}
use Rattle.nk_field.proofs.Lists.{In, in_from_contains, contains_from_in, in_mapped, from_joined}
use Rattle.nk_field.proofs.Ascending.{all_from_members, members_from_all}
use Rattle.nk_prefix.specs.Prefix.{digits_of}
use Rattle.nk_topo.specs.Topology.{Topology, numbers_of}
use Rattle.nk_policy.specs.Policy.{Policy}
use Rattle.nk_names.specs.Accepted.{IsStartPacket}
use Rattle.nk_table.specs.declared.Group.{Group}
use Rattle.nk_table.specs.declared.Row.{Row}
use Rattle.nk_table.specs.declared.Table.{Table}
use Rattle.nk_table.specs.declared.Tables.{Tables}
use Rattle.nk_table.specs.Rules.{rows_of, groups_at_switch}
use Rattle.nk_extract.specs.RuleTree.{rows_for}
use Rattle.nk_group.specs.Groups as grouping
use Rattle.nk_update.specs.Plans.{pair_of, place_of, tag_digits, asked_of, HasOldTag, HasNewTag, NamesOneOf, AreNumberedFrom, NumbersInOrder, HasRowsWhereDeclared, IsPlannable}
use Rattle.nk_compile.specs.Counted.{HasTagSets}
use Rattle.nk_compile.specs.NumberedAfter.{tags_after, IsTableAfter}
use Rattle.nk_compile.specs.PrintedTable.{IsTreeOfTag}
use Rattle.nk_compile.specs.WholeTable.{HasRowsAt, TagTree, rows_of_trees, IsSwitchTable, IsTableOf}
use Rattle.nk_compile.proofs.TagsNumberedAfter.{from_after, after_none}
use Rattle.nk_compile.proofs.FewTags.{tags_fit}
use Rattle.nk_compile.proofs.PairTags.{at_most_these, declared_place}
use Rattle.nk_compile.proofs.PrintedRows.{plain_asks, plain_of, groups_in_order, rows_name_groups}

-- ---- the rows and groups of a switch among tables

-- what holds of no rows and groups, and of each table's, holds of each switch's
at_switch :
    (P : List Row → List Group → Type 0) (ts : List Table) → P [] [] → ((u : Table) → In ts u → P u.rows u.groups) → (sw : ℕ)
    → P (rows_of ts sw) (groups_at_switch ts sw)
at_switch P [] none each sw = none
at_switch P (u ∷ us) none each sw = by (u.switch == sw) (each u (inl refl)) (at_switch P us none (λ v i. each v (inr i)) sw)
  where
    by : (b : Bool) → P u.rows u.groups → P (rows_of us sw) (groups_at_switch us sw) → P (cond b u.rows (rows_of us sw)) (cond b u.groups (groups_at_switch us sw))
    by true here later = here
    by false here later = later

-- numbers that pass the test are equal
same_from : (m n : ℕ) → m == n ≡ true → m ≡ n
same_from m n h = grind (arith, nat_tests, h)

-- a switch without a table has no rows
no_rows : (ts : List Table) (sw : ℕ) → (In (map (λ (u : Table). u.switch) ts) sw → ⊥) → rows_of ts sw ≡ []
no_rows [] sw h = refl
no_rows (u ∷ us) sw h = by (u.switch == sw) refl (no_rows us sw (λ i. h (inr i)))
  where
    by : (b : Bool) → u.switch == sw ≡ b → rows_of us sw ≡ [] → cond b u.rows (rows_of us sw) ≡ []
    by true e later = absurd (h (inl (sym (same_from u.switch sw e))))
    by false e later = later

-- ---- the rows of a printed table

-- groups are numbered in order, and rows name none but these
abbrev InOrder : List Row → List Group → Type 0
InOrder rs gs = AreNumberedFrom 1 gs × All (λ (r : Row). NamesOneOf (length gs) r.target) rs

module _ (first : ℕ) (fields : FieldTable) (topo : Topology) (Start : List ℕ → Type 0) (p : Policy) (t : Tables) (table : IsTableAfter first fields topo Start p t) where
  abbrev tags : List (List ℕ)
  tags = tags_after first table.tags

  -- a tag has rows where it is 0, or one of the policy's own
  own_tag : (sw v : ℕ) → HasRowsAt p tags sw v → (v ≡ 0) ⊎ ((first < v) × (v ≤ first + length table.tags))
  own_tag sw zero h = inl refl
  own_tag sw (suc i) h =
      let some : h.0 ≢ [] = λ e. in_from_contains [] h.1 (subst (λ s. Contains s h.1) e h.3) in
      let b = from_after first table.tags i h.0 some h.2 in
      let inside : b.0 < length table.tags = slice_get_within table.tags b.0 h.0 b.2 in
      let place : i ≡ first + b.0 = b.1 in
      inr (omega (arith, place), omega (arith, place, inside))

  -- the value that a row matches the tag with
  abbrev Asks : Row → Type 0
  Asks r =
      (v : ℕ) × (asked_of (digits_of (slice_index fields.maxima table.tag)) table.tag r.matches ≡ Some v)
      × ((v ≡ 0) ⊎ ((first < v) × (v ≤ first + length table.tags)))

  -- so it is with each row of a switch's table
  row_asks : (u : Table) → IsSwitchTable fields table.tag p tags u → (r : Row) → In u.rows r → Asks r
  row_asks u st r i =
      let ps = rows_of_trees fields.maxima table.tag st.trees in
      let k = plain_of [] ps r (subst (λ l. In l r) st.rows i) in
      let e = from_joined (λ (q : TagTree). rows_for fields.maxima table.tag q.tag q.tree) st.trees k.0 k.1 in
      let tree : IsTreeOfTag fields table.tag p tags e.0.tag u.switch e.0.tree = members_from_all (λ (q : TagTree). IsTreeOfTag fields table.tag p tags q.tag u.switch q.tree) st.trees st.each e.0 e.1 in
      let at : HasRowsAt p tags u.switch e.0.tag = (st.exactly e.0.tag).0 (contains_from_in (map (λ (q : TagTree). q.tag) st.trees) e.0.tag (in_mapped (λ (q : TagTree). q.tag) st.trees e.0 e.1)) in (
        e.0.tag,
        ap (λ ms. asked_of (digits_of (slice_index fields.maxima table.tag)) table.tag ms) k.2 ∙ plain_asks fields.maxima table.tag e.0.tag e.0.tree tree.tag_free k.0 e.2,
        own_tag u.switch e.0.tag at,
      )

  -- and with each row of a switch
  pub rows_ask : (sw : ℕ) (r : Row) → In (rows_of t.tables sw) r → Asks r
  rows_ask sw =
      at_switch (λ rs gs. (r : Row) → In rs r → Asks r) t.tables (λ r i. absurd i)
      (λ u i. row_asks u (members_from_all (IsSwitchTable fields table.tag p tags) t.tables table.each u i)) sw

  -- groups are numbered in order, and rows name none but these
  pub numbers_in_order : NumbersInOrder t
  numbers_in_order = record { groups = λ sw. (both sw).0; named = λ sw. (both sw).1 }
    where
      of_table : (u : Table) → IsSwitchTable fields table.tag p tags u → InOrder u.rows u.groups
      of_table u st =
          let ps = rows_of_trees fields.maxima table.tag st.trees in
          subst (λ rs. InOrder rs u.groups) (sym st.rows)
          (subst (λ gs. InOrder (grouping.rows_after [] ps) gs) (sym st.groups) (
            groups_in_order ps,
            all_from_members (λ (r : Row). NamesOneOf (length (grouping.groups_of ps)) r.target) (grouping.rows_after [] ps) (rows_name_groups ps),
          ))

      both : (sw : ℕ) → InOrder (rows_of t.tables sw) (groups_at_switch t.tables sw)
      both sw =
          at_switch InOrder t.tables (tt, all_from_members (λ (r : Row). NamesOneOf 0 r.target) [] (λ r i. absurd i))
          (λ u i. of_table u (members_from_all (IsSwitchTable fields table.tag p tags) t.tables table.each u i)) sw

  -- none but declared switches have rows
  pub rows_where_declared : HasRowsWhereDeclared t
  rows_where_declared sw h =
      no_rows t.tables sw (λ i.
      h (contains_from_in (numbers_of t.topo) sw
      (subst (λ o. In (numbers_of o) sw) (sym table.same_topology) (subst (λ l. In l sw) table.switches i))))

pub pair_plannable :
    (fields : FieldTable) (topo : Topology) (p q : Policy) (o n : Tables) (k : ℕ)
    → HasTagSets fields topo p k
    → IsTableOf fields topo (IsStartPacket fields topo) p o → IsTableAfter k fields topo (IsStartPacket fields topo) q n
    → IsPlannable (pair_of o n k)
pair_plannable fields topo p q o n k counted old new = record {
  fields = new.same_fields ∙ sym old.same_fields;
  topo = new.same_topology ∙ sym old.same_topology;
  tag = ap (λ (i : FieldTable). i.tag) old.same_fields ∙ old.tag_declared ∙ ap (λ m. Some m) (sym (declared_place fields o old.tag old.same_fields old.tag_declared));
  old_rows = λ sw. all_from_members (HasOldTag (pair_of o n k)) (rows_of o.tables sw) (λ r i.
      let a = rows_ask 0 fields topo (IsStartPacket fields topo) p o old_after sw r i in
      (a.0, asks old_after.tag (declared_place fields o old_after.tag old.same_fields old_after.tag_declared) r a.0 a.1, ⊎_elim (λ e. omega (arith, e)) (λ h. let high = h.1 in let le = fit in omega (arith, high, le)) a.2));
  new_rows = λ sw. all_from_members (HasNewTag (pair_of o n k)) (rows_of n.tables sw) (λ r i.
      let a = rows_ask k fields topo (IsStartPacket fields topo) q n new sw r i in
      (a.0, asks new.tag (declared_place fields o new.tag old.same_fields new.tag_declared) r a.0 a.1, ⊎_elim (λ e. inl e) (λ h. inr h.0) a.2));
  old_numbers = numbers_in_order 0 fields topo (IsStartPacket fields topo) p o old_after;
  new_numbers = numbers_in_order k fields topo (IsStartPacket fields topo) q n new;
  old_switches = rows_where_declared 0 fields topo (IsStartPacket fields topo) p o old_after;
  new_switches = rows_where_declared k fields topo (IsStartPacket fields topo) q n new;
}
  where
    old_after : IsTableAfter 0 fields topo (IsStartPacket fields topo) p o
    old_after = after_none fields topo (IsStartPacket fields topo) p o old

    fit : length old_after.tags ≤ k
    fit = tags_fit p (IsStartPacket fields topo) old_after.tags k old_after.in_order (at_most_these fields topo p k counted)

    -- in the words of plans
    asks :
        (tag : ℕ) → place_of o.fields.tag ≡ tag → (r : Row) (v : ℕ)
        → asked_of (digits_of (slice_index fields.maxima tag)) tag r.matches ≡ Some v
        → asked_of (tag_digits o (place_of o.fields.tag)) (place_of o.fields.tag) r.matches ≡ Some v
    asks tag is r v e =
        subst (λ f. asked_of (tag_digits o f) f r.matches ≡ Some v) (sym is)
        (subst (λ (i : FieldTable). asked_of (digits_of (slice_index i.maxima tag)) tag r.matches ≡ Some v) (sym old.same_fields) e)
