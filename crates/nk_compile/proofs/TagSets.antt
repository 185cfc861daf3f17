-- Each tag set has the first dups of literals that all lead along one link, and is not empty.
use Rattle.std.proofs.Common.{◌≡◌, ℕ, false, List, [], ◌∷◌, ◌++◌, Some, sym, ap, ◌∙◌}
use Rattle.std.specs.Prelude.{Contains, slice_index}
use Rattle.nk_field.specs.declared.packet.Packet.{Packet}
use Rattle.nk_topo.specs.Topology.{Topology, AreLinks, link_from}
use Rattle.nk_policy.specs.Policy.{Policy}
use Rattle.nk_policy.specs.Distinct.{HasDistinct}
use Rattle.nk_policy.specs.Leaves.{has_leaf, is_dup}
use Rattle.nk_policy.specs.Labels.{IsLabelSet, IsTagSet}
use Rattle.nk_policy.specs.Literals.{Literal, HoldsLiteral, IsAtSource}
use Rattle.nk_policy.proofs.ListParts.{last_is}
use Rattle.nk_policy.proofs.Parity.{odd_at}
use Rattle.nk_names.specs.Accepted.{is_link_outside}
use Rattle.nk_names.proofs.Declared.{link_at_source}
use Rattle.nk_compile.specs.WholeTable.{link_end}
use Rattle.nk_compile.proofs.LinkEnds.{end_of_literal}
use Rattle.nk_compile.proofs.Reached.{same_some}

module _ (topo : Topology) (links : AreLinks topo) (p : Policy) (distinct : HasDistinct p) (no_dup : has_leaf is_dup p ≡ false)
    (declared : has_leaf (is_link_outside topo.links) p ≡ false) (Start : Packet → Type 0) (s : List ℕ) (tag_set : IsTagSet p Start s) where
  set_is : IsLabelSet p tag_set.0 tag_set.1 s
  set_is = tag_set.5

  -- where a member's literal records
  source : (l : ℕ) → Contains s l → (k : Literal) × HoldsLiteral p k × (k.mark ≡ l) × ((front : List Packet) × (x : Packet) × (tag_set.1 ≡ front ++ x ∷ []) × IsAtSource k x)
  source l c = odd_at p distinct no_dup tag_set.2 tag_set.0 tag_set.1 l tag_set.4 ((set_is.1.1 l).0 c)

  -- each member is the first dup of a literal
  pub literal_of : (l : ℕ) → Contains s l → (k : Literal) × HoldsLiteral p k × (k.mark ≡ l)
  literal_of l c = let k = source l c in (k.0, k.1, k.2)

  -- it ends where its literal does
  ends_at : (l : ℕ) (c : Contains s l) → link_end p l ≡ Some ((source l c).0.to_switch)
  ends_at l c = let k = source l c in ap (link_end p) (sym k.2) ∙ end_of_literal p distinct k.0 k.1

  -- all members end at one switch
  pub one_end : (l m : ℕ) → Contains s l → Contains s m → link_end p l ≡ link_end p m
  one_end l m c d =
      let a = source l c in
      let b = source m d in
      let x = (last_is a.3.0 a.3.1 b.3.0 b.3.1 (sym a.3.2 ∙ b.3.2)).1 in
      let to_a = link_at_source topo links p declared a.0 a.1 a.3.1 a.3.3 in
      let to_b = link_at_source topo links p declared b.0 b.1 b.3.1 b.3.3 in
      let same : (a.0.to_switch, a.0.to_port) ≡ (b.0.to_switch, b.0.to_port) =
      same_some (a.0.to_switch, a.0.to_port) (b.0.to_switch, b.0.to_port) (sym to_a ∙ ap (λ (z : Packet). link_from topo (slice_index z 0) (slice_index z 1)) x ∙ to_b) in
      ends_at l c ∙ ap (λ (q : ℕ × ℕ). Some q.0) same ∙ sym (ends_at m d)
