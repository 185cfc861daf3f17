-- The small virtual policy has all that the laws ask.
use Rattle.std.proofs.Common.{◌≡◌, ◌≢◌, ℕ, zero, suc, ◌≤◌, ◌<◌, ⊎_elim, Some, List, [], ◌∷◌, codes, length, refl, sym, ap, subst, ◌∙◌, arith}
use Rattle.std.specs.Prelude.{AllPairs, replicate, slice_index, slice_set}
use Rattle.nk_field.specs.declared.packet.Packet.{Packet}
use Rattle.nk_field.specs.Packet.{IsFieldTable, built_in, with_field}
use Rattle.nk_field.proofs.FieldTables.{distinct_with, with_field_is}
use Rattle.nk_field.proofs.Ascending.{all_from_members}
use Rattle.nk_policy.specs.Policy.{link}
use Rattle.nk_policy.specs.Meaning.{way_of, Gives}
use Rattle.nk_virtual.specs.Fabrics.{moved_along, IsCarried, IsVirtual}
use Rattle.nk_virtual.specs.Worked.{by_switch_two, one_to_three, across_virtual, dst_and_vlan, untagged, HasAllThatIsAsked}
use Rattle.nk_virtual.proofs.Literals.{plain, crosses, crossed, moved_to}

-- one name is distinct
one_name : AllPairs (λ a b. a ≢ b) (codes "sw" ∷ [])
one_name i j d lt less = absurd (omega (arith, lt, less))

-- the switch and the port
built_in_is : IsFieldTable built_in
built_in_is = record {
  few = omega arith;
  named = refl;
  built_in_names = refl;
  built_in_maxima = refl;
  distinct = distinct_with (codes "sw" ∷ []) (codes "pt") one_name refl;
  tag_past_port = λ f e. absurd cc;
}

-- the tag is a field after the port
tag_place : (f : ℕ) → Some 3 ≡ Some f → (2 ≤ f) × (f < 4)
tag_place f e = let s : 3 ≡ f = cc in (omega (arith, s), omega (arith, s))

fields_are : IsFieldTable dst_and_vlan
fields_are =
    let dst = with_field_is built_in (codes "dst") 3 built_in_is refl (omega arith) in
    let both = with_field_is (with_field built_in (codes "dst") 3) (codes "vlan") 7 dst refl (omega arith) in
    record {
      few = both.few;
      named = both.named;
      built_in_names = both.built_in_names;
      built_in_maxima = both.built_in_maxima;
      distinct = both.distinct;
      tag_past_port = tag_place;
    }

-- a list of zeros has 0 everywhere
zeros : (n f : ℕ) → slice_index (replicate n 0) f ≡ 0
zeros zero f = refl
zeros (suc n) zero = refl
zeros (suc n) (suc f) = zeros n f

-- the packet is in range
within : (f : ℕ) → slice_index (untagged 1 1) f ≤ slice_index dst_and_vlan.maxima f
within (suc (suc (suc (suc f)))) =
    let none : slice_index (untagged 1 1) (suc (suc (suc (suc f)))) ≡ 0 = zeros 14 f in
    omega (arith, none)
within f = omega arith

-- where a packet is on its way: at 1:2, 2:1, 2:2 and 3:1
abbrev first : Packet → Packet
first x = slice_set x 1 2

abbrev second : Packet → Packet
second x = moved_to 2 1 (first x)

abbrev third : Packet → Packet
third x = slice_set (second x) 1 2

abbrev fourth : Packet → Packet
fourth x = moved_to 3 1 (third x)

-- the fabric ends at the fourth alone
ends_there : (x : Packet) (w : List Packet) (y : Packet) → Gives by_switch_two x w y → y ≡ fourth x
ends_there x w y g =
    let a = g.5 in
    let b = a.5 in
    let c = b.5 in
    let near : a.2 ≡ moved_to 2 1 g.2 = (crossed 1 2 2 1 1 g.2 a.0 a.2 a.4).3 in
    let far : c.2 ≡ moved_to 3 1 b.2 = (crossed 2 2 3 1 3 b.2 c.0 c.2 c.4).3 in
    c.5.1
    ∙ far
    ∙ ap (moved_to 3 1) b.4.1
    ∙ ap (λ z. moved_to 3 1 (slice_set z 1 2)) near
    ∙ ap (λ z. moved_to 3 1 (slice_set (moved_to 2 1 z) 1 2)) g.4.1

-- which is the packet moved
fourth_is : (x : Packet) → length x ≡ 18 → fourth x ≡ moved_along one_to_three x
fourth_is [] e = absurd (omega (arith, e))
fourth_is (sw ∷ []) e = absurd (omega (arith, e))
fourth_is (sw ∷ pt ∷ r) e = refl

-- and it comes there from the start
comes : (x : Packet) → length x ≡ 18 → slice_index x 0 ≡ 1
    → (w : List Packet) × (y : Packet) × Gives by_switch_two x w y
comes [] e at = absurd (omega (arith, e))
comes (sw ∷ []) e at = absurd (omega (arith, e))
comes (sw ∷ pt ∷ r) e at =
    let x : Packet = sw ∷ pt ∷ r in
    let near : way_of (link 1 2 2 1 1) plain (first x) (first x ∷ second x ∷ []) (second x) = crosses 1 2 2 1 1 (first x) at refl in
    let far : way_of (link 2 2 3 1 3) plain (third x) (third x ∷ fourth x ∷ []) (fourth x) = crosses 2 2 3 1 3 (third x) refl refl in
    let rest : List Packet = third x ∷ fourth x ∷ [] in
    let all : List Packet = first x ∷ second x ∷ rest in (
      all,
      fourth x,
      (
        [],
        all,
        first x,
        refl,
        (refl, refl),
        (
          first x ∷ second x ∷ [],
          rest,
          second x,
          refl,
          near,
          ([], rest, third x, refl, (refl, refl), (rest, [], fourth x, refl, far, (refl, refl))),
        ),
      ),
    )

carried : IsCarried dst_and_vlan one_to_three
carried = record {
  on_target = λ x w last packet without at g. ends_there x w last g ∙ fourth_is x packet.places;
  carried = λ x packet without at. comes x packet.places at.0;
}

over_fabric : IsVirtual dst_and_vlan (one_to_three ∷ []) across_virtual
over_fabric = record {
  tag = 3;
  tag_declared = refl;
  tag_free = refl;
  in_range = ((omega arith, omega arith), (omega arith, tt));
  dups_in_links = refl;
  links_virtual = refl;
  links_carried =
      all_from_members (IsCarried dst_and_vlan) (one_to_three ∷ [])
      (λ k i. ⊎_elim (λ e. subst (λ j. IsCarried dst_and_vlan j) (sym e) carried) (λ n. absurd n) i);
}

-- the virtual policy's history
given : Gives across_virtual (untagged 1 1) (untagged 1 1 ∷ untagged 3 1 ∷ []) (untagged 3 2)
given = (
  untagged 1 1 ∷ untagged 3 1 ∷ [],
  [],
  untagged 3 1,
  refl,
  crosses 1 1 3 1 1 (untagged 1 1) refl refl,
  ([], [], untagged 3 2, refl, (refl, refl), (refl, refl)),
)

pub all_is_there : HasAllThatIsAsked
all_is_there = record {
  fields = fields_are;
  over_fabric = over_fabric;
  packet = record { places = refl; within = within };
  without_tag = refl;
  given = given;
}
