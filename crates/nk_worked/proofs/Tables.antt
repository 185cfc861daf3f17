-- The two tables are those that are printed for the policy.
use Rattle.std.proofs.Common.{◌≡◌, ◌≢◌, ℕ, ◌<◌, ◌≤◌, zero, suc, true, false, inl, inr, ⊎_elim, Some, [], ◌∷◌, codes, refl, sym, ap, subst, ◌∙◌, arith}
use Rattle.std.specs.Prelude.{◌↔◌, Contains, All, AllPairs}
use Rattle.std.specs.List.Sorted.{IsStrictlyIncreasing}
use Rattle.nk_field.specs.Packet.{IsFieldTable}
use Rattle.nk_field.proofs.FieldTables.{distinct_with}
use Rattle.nk_field.proofs.Lists.{in_from_contains, contains_from_in}
use Rattle.nk_field.proofs.Ascending.{all_from_members, increasing_from}
use Rattle.nk_topo.specs.Topology.{Link, AreLinks, is_port, link_from}
use Rattle.nk_policy.specs.Distinct.{HasDistinct}
use Rattle.nk_policy.specs.Ranges.{IsInRange}
use Rattle.nk_names.specs.Accepted.{IsStartPacket}
use Rattle.nk_store.specs.Diagram.{leaf}
use Rattle.nk_table.specs.Worked.{one_link}
use Rattle.nk_compile.specs.PrintedTable.{IsTreeOfTag}
use Rattle.nk_compile.specs.WholeTable.{HasRowsAt, TagTree, IsSwitchTable, IsTableOf, link_end}
use Rattle.nk_worked.specs.TwoSwitches.{dst_and_tag, over_one_link, one_set, first_table, second_table, two_tables}
use Rattle.nk_worked.specs.TheirTable.{IsPrintedThere}
use Rattle.nk_worked.proofs.States.{only_one, there, one_ascends, is_the_set}
use Rattle.nk_worked.proofs.Trees.{first_tree, second_tree, first_tree_is, empty_tree_is, second_tree_is}
use Rattle.nk_worked.proofs.TagSet.{compilable, are_tags}

-- what holds of one element holds of each of a list of one, and so with two
pub all_of_one : {X : Type 0} (P : X → Type 0) (x : X) → P x → All P (x ∷ [])
all_of_one P x h = all_from_members P (x ∷ []) (λ y i. ⊎_elim (λ e. subst P (sym e) h) (λ n. absurd n) i)

pub all_of_two : {X : Type 0} (P : X → Type 0) (x y : X) → P x → P y → All P (x ∷ y ∷ [])
all_of_two P x y h k =
    all_from_members P (x ∷ y ∷ []) (λ z i. ⊎_elim (λ e. subst P (sym e) h) (λ j. ⊎_elim (λ e. subst P (sym e) k) (λ n. absurd n) j) i)

-- the link of tag 1 doesn't end at switch 1
not_there : (n : ℕ) → n ≡ 1 → Some 2 ≡ Some n → ⊥
not_there n one e = let two : 2 ≡ n = cc in omega (arith, one, two)

-- a tag above 0 with rows at a switch is tag 1, and its link ends there
rows_of_one : (sw t : ℕ) → HasRowsAt over_one_link one_set sw (suc t) → (t ≡ 0) × (Some 2 ≡ Some sw)
rows_of_one sw t h =
    let s = is_the_set t h.0 h.2 in
    let l : h.1 ≡ 1 = only_one 1 h.1 (subst (λ ls. Contains ls h.1) s.1 h.3) in
    (s.0, subst (λ k. link_end over_one_link k ≡ Some sw) l h.4)

-- switch 1 has rows of tag 0 alone
at_first : (t : ℕ) → Contains (0 ∷ []) t ↔ HasRowsAt over_one_link one_set 1 t
at_first zero = (λ c. tt, λ h. there 0)
at_first (suc t) = (
  λ c. let e : suc t ≡ 0 = only_one 0 (suc t) c in absurd (omega (arith, e)),
  λ h. absurd (not_there 1 refl (rows_of_one 1 t h).1),
)

pub first_is : IsSwitchTable dst_and_tag 3 over_one_link one_set first_table
first_is = record {
  trees = record { tag = 0; tree = first_tree } ∷ [];
  ascending = one_ascends 0;
  exactly = at_first;
  each = all_of_one (λ (e : TagTree). IsTreeOfTag dst_and_tag 3 over_one_link one_set e.tag 1 e.tree) (record { tag = 0; tree = first_tree }) first_tree_is;
  groups = refl;
  rows = refl;
}

-- 0 and 1 ascend
two_ascend : IsStrictlyIncreasing (0 ∷ 1 ∷ [])
two_ascend =
    increasing_from (0 ∷ 1 ∷ []) (λ y i. ⊎_elim (λ e. omega (arith, e)) (λ n. absurd n) i, (λ y i. absurd i, tt))

-- tag 1 has rows at switch 2
one_has_rows : HasRowsAt over_one_link one_set 2 1
one_has_rows = (1 ∷ [], 1, refl, there 1, refl)

-- switch 2 has rows of tag 0, of which none is printed, and of tag 1
at_second : (t : ℕ) → Contains (0 ∷ 1 ∷ []) t ↔ HasRowsAt over_one_link one_set 2 t
at_second zero = (λ c. tt, λ h. contains_from_in (0 ∷ 1 ∷ []) 0 (inl refl))
at_second (suc t) = (
  λ c. ⊎_elim
      (λ e. absurd (omega (arith, e)))
      (λ r. ⊎_elim (λ e. subst (λ k. HasRowsAt over_one_link one_set 2 k) (sym e) one_has_rows) (λ n. absurd n) r)
      (in_from_contains (0 ∷ 1 ∷ []) (suc t) c),
  λ h. contains_from_in (0 ∷ 1 ∷ []) (suc t) (inr (inl (ap suc (rows_of_one 2 t h).0))),
)

pub second_is : IsSwitchTable dst_and_tag 3 over_one_link one_set second_table
second_is = record {
  trees = record { tag = 0; tree = leaf [] } ∷ record { tag = 1; tree = second_tree } ∷ [];
  ascending = two_ascend;
  exactly = at_second;
  each = all_of_two (λ (e : TagTree). IsTreeOfTag dst_and_tag 3 over_one_link one_set e.tag 2 e.tree)
      (record { tag = 0; tree = leaf [] }) (record { tag = 1; tree = second_tree }) empty_tree_is second_tree_is;
  groups = refl;
  rows = refl;
}

pub table_is : IsTableOf dst_and_tag one_link (IsStartPacket dst_and_tag one_link) over_one_link two_tables
table_is = record {
  tag = 3;
  tags = one_set;
  tag_declared = refl;
  in_order = are_tags;
  same_fields = refl;
  same_topology = refl;
  switches = refl;
  each = all_of_two (IsSwitchTable dst_and_tag 3 over_one_link one_set) first_table second_table first_is second_is;
}

-- one name is distinct
one_name : AllPairs (λ a b. a ≢ b) (codes "sw" ∷ [])
one_name i j d lt less = absurd (omega (arith, lt, less))

-- and so are the four
names_differ : AllPairs (λ a b. a ≢ b) (codes "sw" ∷ codes "pt" ∷ codes "dst" ∷ codes "vlan" ∷ [])
names_differ =
    distinct_with (codes "sw" ∷ codes "pt" ∷ codes "dst" ∷ []) (codes "vlan")
    (distinct_with (codes "sw" ∷ codes "pt" ∷ []) (codes "dst") (distinct_with (codes "sw" ∷ []) (codes "pt") one_name refl) refl)
    refl

-- the tag is a field after the port
tag_place : (f : ℕ) → Some 3 ≡ Some f → (2 ≤ f) × (f < 4)
tag_place f e = let s : 3 ≡ f = cc in (omega (arith, s), omega (arith, s))

pub fields_are : IsFieldTable dst_and_tag
fields_are = record {
  few = omega arith;
  named = refl;
  built_in_names = refl;
  built_in_maxima = refl;
  distinct = names_differ;
  tag_past_port = tag_place;
}

-- the link
abbrev pub the_link : Link
the_link = record { from_switch = 1; from_port = 2; to_switch = 2; to_port = 1 }

pub links_are : AreLinks one_link
links_are = record {
  one = λ l c. subst (λ (k : Link). link_from one_link k.from_switch k.from_port ≡ Some (k.to_switch, k.to_port)) (sym (only_one the_link l c)) refl;
  declared = λ l c. subst (λ (k : Link). is_port one_link k.to_switch k.to_port ≡ true) (sym (only_one the_link l c)) refl;
  from_port = λ l c. subst (λ (k : Link). is_port one_link k.from_switch k.from_port ≡ true) (sym (only_one the_link l c)) refl;
  one_to = λ k l c d e f. only_one the_link k c ∙ sym (only_one the_link l d);
}

-- a test that fails doesn't pass
false_not_true : false ≡ true → ⊥
false_not_true e = cc

-- no two of its dups have one number
distinct : HasDistinct over_one_link
distinct = (tt, (tt, (tt, (tt, (tt, tt, λ l h. absurd (false_not_true h)), λ l h. absurd (false_not_true h)), λ l h. refl), λ l h. refl), λ l h. refl)

-- its assignments are in range
pub in_range : IsInRange over_one_link dst_and_tag
in_range = (tt, (tt, (omega arith, ((omega arith, omega arith), (omega arith, tt)))))

pub printed : IsPrintedThere
printed = record {
  fields = fields_are;
  links = links_are;
  distinct = distinct;
  in_range = in_range;
  compilable = compilable;
  one_tag = are_tags;
  table = table_is;
}
