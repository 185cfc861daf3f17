-- The copies that cross links by the tables of an old and a new policy, the new one's tags numbered after the old one's, have
-- tags of their own.
use Rattle.std.proofs.Common.{◌≡◌, ℕ, suc, ◌+◌, ◌<◌, ◌≤◌, Some, List, length, sym, ap, subst, ◌∙◌, arith}
use Rattle.std.specs.Prelude.{All, slice_index}
use Rattle.nk_field.specs.Packet.{FieldTable, IsFieldTable, IsPacket, IsUntagged}
use Rattle.nk_field.proofs.Ascending.{all_from_members, members_from_all}
use Rattle.nk_topo.specs.Topology.{Topology, AreLinks, IsLocated}
use Rattle.nk_policy.specs.Policy.{Policy}
use Rattle.nk_policy.specs.Distinct.{HasDistinct}
use Rattle.nk_policy.specs.Ranges.{IsInRange}
use Rattle.nk_policy.specs.Labels.{IsTagSet, AtMost}
use Rattle.nk_names.specs.Accepted.{IsStartPacket, IsCompilable}
use Rattle.nk_table.specs.declared.Tables.{Tables}
use Rattle.nk_table.specs.Hops.{Copy, waiting}
use Rattle.nk_update.specs.Plans.{pair_of, place_of}
use Rattle.nk_update.specs.Tags.{IsEntering, HaveTheirTags}
use Rattle.nk_compile.specs.Counted.{HasTagSets}
use Rattle.nk_compile.specs.NumberedAfter.{IsTableAfter}
use Rattle.nk_compile.specs.WholeTable.{IsTableOf}
use Rattle.nk_compile.proofs.TagsNumberedAfter.{after_none}
use Rattle.nk_compile.proofs.Printed.{Asked, crossing_tags}

-- a policy has at most as many tag sets as there are
pub at_most_these : (fields : FieldTable) (topo : Topology) (p : Policy) (k : ℕ) → HasTagSets fields topo p k → AtMost k (IsTagSet p (IsStartPacket fields topo))
at_most_these fields topo p k h = let many : k ≡ length h.0 = h.2 in (h.0, omega (arith, many), λ s i. (h.1.exactly s).1 i)

-- where packets enter the tables they start
entering_starts : (fields : FieldTable) (topo : Topology) (t : Tables) → t.fields ≡ fields → t.topo ≡ topo → (pk : List ℕ) → IsEntering t pk → IsStartPacket fields topo pk
entering_starts fields topo t e f pk h = record {
  packet = subst (λ i. IsPacket i pk) e h.packet;
  located = subst (λ o. IsLocated o pk) f h.located;
  untagged = subst (λ i. IsUntagged i pk) e h.untagged;
}

-- the place of the tag that is declared
pub declared_place : (fields : FieldTable) (t : Tables) (tag : ℕ) → t.fields ≡ fields → fields.tag ≡ Some tag → place_of t.fields.tag ≡ tag
declared_place fields t tag e d = ap place_of (ap (λ (i : FieldTable). i.tag) e ∙ d)

-- a weaker property of all
weaker : (P Q : Copy → Type 0) (cs : List Copy) → All P cs → ((c : Copy) → P c → Q c) → All Q cs
weaker P Q cs h f = all_from_members Q cs (λ c i. f c (members_from_all P cs h c i))

pub pair_tags :
    (fields : FieldTable) (topo : Topology) (p q : Policy) (o n : Tables) (k : ℕ) → IsFieldTable fields → AreLinks topo
    → HasDistinct p → IsInRange p fields → IsCompilable fields topo p
    → HasDistinct q → IsInRange q fields → IsCompilable fields topo q
    → HasTagSets fields topo p k
    → IsTableOf fields topo (IsStartPacket fields topo) p o → IsTableAfter k fields topo (IsStartPacket fields topo) q n
    → HaveTheirTags (pair_of o n k)
pair_tags fields topo p q o n k fields_ok links_ok p_distinct p_range p_compilable q_distinct q_range q_compilable counted old new = record {
  old = λ j pk enters.
      weaker
      (λ (c : Copy). (0 < slice_index c.packet tag) × (slice_index c.packet tag ≤ 0 + k))
      (λ (c : Copy). (1 ≤ slice_index c.packet tag) × (slice_index c.packet tag ≤ k))
      (waiting o (suc j) pk)
      (crossing_tags 0 p o fields topo old_asked tag k declared (at_most_these fields topo p k counted) j pk (starts pk enters))
      (λ c h. let low = h.0 in let high = h.1 in (omega (arith, low), omega (arith, high)));
  new = λ j pk enters.
      weaker
      (λ (c : Copy). (k < slice_index c.packet tag) × (slice_index c.packet tag ≤ k + length new.tags))
      (λ (c : Copy). k < slice_index c.packet tag)
      (waiting n (suc j) pk)
      (crossing_tags k q n fields topo new_asked tag (length new.tags) declared new_sets j pk (starts pk enters))
      (λ c h. h.0);
}
  where
    tag : ℕ
    tag = place_of o.fields.tag

    declared : fields.tag ≡ Some tag
    declared = old.tag_declared ∙ ap (λ m. Some m) (sym (declared_place fields o old.tag old.same_fields old.tag_declared))

    starts : (pk : List ℕ) → IsEntering o pk → IsStartPacket fields topo pk
    starts pk h = entering_starts fields topo o old.same_fields old.same_topology pk h

    old_asked : Asked 0 p o fields topo
    old_asked = (fields_ok, links_ok, p_distinct, p_range, p_compilable, after_none fields topo (IsStartPacket fields topo) p o old)

    new_asked : Asked k q n fields topo
    new_asked = (fields_ok, links_ok, q_distinct, q_range, q_compilable, new)

    new_sets : AtMost (length new.tags) (IsTagSet q (IsStartPacket fields topo))
    new_sets = (new.tags, omega arith, λ s i. (new.in_order.exactly s).1 i)
