-- The fields of a program in a store, and where packets start as a test.
use Rattle.std.proofs.Common.{◌≡◌, ℕ, ◌≤◌, ◌<◌, Bool, true, false, not, ◌&&◌, List, refl, sym, ap, subst, ◌∙◌, arith, length, take, Some, get_or-set_same}
use Rattle.std.specs.Prelude.{◌==◌, slice_index, slice_set}
use Rattle.std.proofs.lemmas.List.{set-get_or}
use Rattle.std.proofs.lemmas.Bool.Decides.{nat_tests}
use Rattle.nk_field.specs.Packet.{FieldTable, IsFieldTable, IsPacket, without}
use Rattle.nk_topo.specs.Topology.{Topology, is_port}
use Rattle.nk_names.specs.Accepted.{IsStartPacket}
use Rattle.nk_store.specs.Nodes.{InRange}
use Rattle.nk_compile.specs.Edges.{is_start}

-- both parts of a conjunction that holds
both_hold : (a b : Bool) → a && b ≡ true → (a ≡ true) × (b ≡ true)
both_hold true b e = (refl, e)
both_hold false b e = cc

-- a test and its negation don't both hold
pub not_both : (b : Bool) → not b ≡ true → b ≡ true → ⊥
not_both true h e = cc
not_both false h e = cc

-- a program's fields and the highest values of a store for them
pub record IsSetUp (fields : FieldTable) (maxes : List ℕ) (tag : ℕ) : Type 0 where
  pub same : (f : ℕ) → slice_index maxes f ≡ slice_index fields.maxima f
  pub front : take (length fields.maxima) maxes ≡ fields.maxima
  pub table : IsFieldTable fields
  pub tag_is : fields.tag ≡ Some tag

module _ (fields : FieldTable) (topo : Topology) (tag : ℕ) (maxes : List ℕ) (setup : IsSetUp fields maxes tag) where
  -- a packet in the store's ranges is one of the fields
  packet_of : (pk : List ℕ) → InRange maxes pk → IsPacket fields pk
  packet_of pk r = record { places = r.0; within = λ f. subst (λ n. slice_index pk f ≤ n) (setup.same f) (r.1 f) }

  -- where packets start, as a test
  pub start_of : (pk : List ℕ) → InRange maxes pk → is_start topo tag pk ≡ true → IsStartPacket fields topo pk
  start_of pk r e =
      let both = both_hold (slice_index pk tag == 0) (is_port topo (slice_index pk 0) (slice_index pk 1)) e in
      let zero : slice_index pk tag ≡ 0 = grind (arith, nat_tests, both.0) in
      record {
        packet = packet_of pk r;
        located = both.1;
        untagged = subst (λ o. without o pk ≡ pk) (sym setup.tag_is) (ap (λ n. slice_set pk tag n) (sym zero) ∙ set-get_or pk tag 0);
      }

  pub test_of : (pk : List ℕ) → IsStartPacket fields topo pk → is_start topo tag pk ≡ true
  test_of pk s =
      let place = setup.table.tag_past_port tag setup.tag_is in
      let long : tag < length pk = omega (arith, place.1, setup.table.few, s.packet.places) in
      let unchanged : slice_set pk tag 0 ≡ pk = subst (λ o. without o pk ≡ pk) setup.tag_is s.untagged in
      let zero : slice_index pk tag ≡ 0 = ap (λ l. slice_index l tag) (sym unchanged) ∙ get_or-set_same pk tag 0 0 long in
      let test_holds : (slice_index pk tag == 0) ≡ true = grind (arith, nat_tests, zero) in
      ap (λ b. b && is_port topo (slice_index pk 0) (slice_index pk 1)) test_holds ∙ s.located
