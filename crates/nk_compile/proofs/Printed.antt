-- The printed table of a compilable policy carries it, whatever tags its own are numbered after.
use Rattle.std.proofs.Common.{◌≡◌, ℕ, suc, ◌+◌, ◌<◌, ◌≤◌, Some, List, length, sym, subst, ◌∙◌, arith}
use Rattle.std.specs.Prelude.{All, slice_index}
use Rattle.std.proofs.lemmas.Option.{slice_get_within}
use Rattle.nk_field.specs.Packet.{FieldTable, IsFieldTable}
use Rattle.nk_field.proofs.Ascending.{all_from_members}
use Rattle.nk_topo.specs.Topology.{Topology, AreLinks}
use Rattle.nk_policy.specs.Policy.{Policy}
use Rattle.nk_policy.specs.Distinct.{HasDistinct}
use Rattle.nk_policy.specs.Ranges.{IsInRange}
use Rattle.nk_policy.specs.Labels.{IsTagSet, AtMost}
use Rattle.nk_policy.proofs.Numbering.{numbered_distinct}
use Rattle.nk_names.specs.declared.Program.{Program}
use Rattle.nk_names.specs.Accepted.{IsStartPacket, IsCompilable, IsAccepted}
use Rattle.nk_names.specs.Named.{policy_named}
use Rattle.nk_names.specs.ProgramValue.{IsLet, IsProgram}
use Rattle.nk_names.proofs.Named.{let_named}
use Rattle.nk_table.specs.declared.Tables.{Tables}
use Rattle.nk_table.specs.Hops.{Copy, waiting}
use Rattle.nk_compile.specs.NumberedAfter.{tags_after, IsTableAfter}
use Rattle.nk_compile.specs.WholeTable.{IsTableOf}
use Rattle.nk_compile.specs.Carries.{Carries}
use Rattle.nk_compile.proofs.TagsNumberedAfter.{from_after, stand_after, after_none}
use Rattle.nk_compile.proofs.FewTags.{tags_fit}
use Rattle.nk_compile.proofs.Reached.{Setting, same_some}
use Rattle.nk_compile.proofs.TagPlaces.{tags_stand}
use Rattle.nk_compile.proofs.RowsFor.{own_numbering}
use Rattle.nk_compile.proofs.Carried.{Leaving, leaving_by}
use Rattle.nk_compile.proofs.WaitingCopies.{crossed_number}

-- what is asked of fields, topology, policy and tables, whose tags are numbered after the first ones
abbrev pub Asked : ℕ → Policy → Tables → FieldTable → Topology → Type 0
Asked first p t fields topo =
    IsFieldTable fields
    × AreLinks topo
    × HasDistinct p
    × IsInRange p fields
    × IsCompilable fields topo p
    × IsTableAfter first fields topo (IsStartPacket fields topo) p t

-- from each start, after each number of crossings
record Facts (first : ℕ) (p : Policy) (t : Tables) (fields : FieldTable) (topo : Topology) : Type 0 where
  leave : Leaving p t fields topo
  cross_tagged :
      (tag most : ℕ) → fields.tag ≡ Some tag → AtMost most (IsTagSet p (IsStartPacket fields topo)) → (k : ℕ) (pk : List ℕ)
      → IsStartPacket fields topo pk
      → All (λ (c : Copy). (first < slice_index c.packet tag) × (slice_index c.packet tag ≤ first + most)) (waiting t (suc k) pk)

module _ (first : ℕ) (p : Policy) (t : Tables) (a : Asked first p t t.fields t.topo) where
  table : IsTableAfter first t.fields t.topo (IsStartPacket t.fields t.topo) p t
  table = a.5

  setting : Setting t p table.tag (tags_after first table.tags)
  setting = record {
    fields_ok = a.0;
    links_ok = a.1;
    distinct = a.2;
    in_range = a.3;
    compilable = a.4;
    tag_is = table.tag_declared;
    stand = stand_after first p (IsStartPacket t.fields t.topo) table.tags (tags_stand p (IsStartPacket t.fields t.topo) table.tags table.in_order);
  }

  -- over the tables' own fields and topology
  here : Facts first p t t.fields t.topo
  here =
      let tags = tags_after first table.tags in
      let g = setting in
      let num = own_numbering t p table.tag tags g table.switches table.each in
      record {
        leave = leaving_by t p table.tag tags g (λ n. n) num;
        cross_tagged = λ tag most declared few k pk start.
            all_from_members (λ (c : Copy). (first < slice_index c.packet tag) × (slice_index c.packet tag ≤ first + most)) (waiting t (suc k) pk) (λ c i.
            let d = crossed_number t p table.tag tags g (λ n. n) num pk start k c i in
            let b = from_after first table.tags d.0 d.1 d.3 d.2 in
            let fit = tags_fit p (IsStartPacket t.fields t.topo) table.tags most table.in_order few in
            let inside : b.0 < length table.tags = slice_get_within table.tags b.0 d.1 b.2 in
            let same : tag ≡ table.tag = same_some tag table.tag (sym declared ∙ table.tag_declared) in
            let value : slice_index c.packet table.tag ≡ suc d.0 = d.4 in
            let place : d.0 ≡ first + b.0 = b.1 in
            subst (λ f. (first < slice_index c.packet f) × (slice_index c.packet f ≤ first + most)) (sym same)
            (omega (arith, value, place), omega (arith, value, place, inside, fit)));
      }

-- over equal ones
facts :
    (first : ℕ) (p : Policy) (t : Tables) (fields : FieldTable) (topo : Topology) → t.fields ≡ fields → t.topo ≡ topo
    → Asked first p t fields topo → Facts first p t fields topo
facts first p t fields topo e f =
    subst
    (λ i. Asked first p t i topo → Facts first p t i topo)
    e
    (subst (λ o. Asked first p t t.fields o → Facts first p t t.fields o) f (here first p t))

-- the copies that have crossed a link have the policy's own tags
pub crossing_tags :
    (first : ℕ) (p : Policy) (t : Tables) (fields : FieldTable) (topo : Topology) → Asked first p t fields topo
    → (tag most : ℕ) → fields.tag ≡ Some tag → AtMost most (IsTagSet p (IsStartPacket fields topo)) → (k : ℕ) (pk : List ℕ)
    → IsStartPacket fields topo pk
    → All (λ (c : Copy). (first < slice_index c.packet tag) × (slice_index c.packet tag ≤ first + most)) (waiting t (suc k) pk)
crossing_tags first p t fields topo a =
    let printed : IsTableAfter first fields topo (IsStartPacket fields topo) p t = a.5 in
    (facts first p t fields topo printed.same_fields printed.same_topology a).cross_tagged

-- over a program
pub after_carries :
    (program : Program) (first : ℕ) (p : Policy) (t : Tables) → IsFieldTable program.fields → AreLinks program.topo
    → HasDistinct p → IsInRange p program.fields → IsCompilable program.fields program.topo p
    → IsTableAfter first program.fields program.topo (IsStartPacket program.fields program.topo) p t → Carries program p t
after_carries program first p t fields_ok links_ok distinct in_range compilable table =
    let h = (facts first p t program.fields program.topo table.same_fields table.same_topology (fields_ok, links_ok, distinct, in_range, compilable, table)).leave in
    record {
      same_fields = table.same_fields;
      same_topology = table.same_topology;
      once = h.leave_once;
      exactly = h.leave_exactly;
      untagged = h.leave_untagged;
    }

-- where no tags stand before
pub printed_carries :
    (program : Program) (p : Policy) (t : Tables) → IsFieldTable program.fields → AreLinks program.topo
    → HasDistinct p → IsInRange p program.fields → IsCompilable program.fields program.topo p
    → IsTableOf program.fields program.topo (IsStartPacket program.fields program.topo) p t → Carries program p t
printed_carries program p t fields_ok links_ok distinct in_range compilable table =
    after_carries program 0 p t fields_ok links_ok distinct in_range compilable
    (after_none program.fields program.topo (IsStartPacket program.fields program.topo) p t table)

-- of a program's policy that is accepted
pub accepted_after_carries :
    (program : Program) (name : List ℕ) (first : ℕ) (p : Policy) (t : Tables)
    → IsProgram program.fields program.topo program.lets → policy_named program name ≡ Some p → IsAccepted program p
    → IsTableAfter first program.fields program.topo (IsStartPacket program.fields program.topo) p t → Carries program p t
accepted_after_carries program name first p t ok named accepted table =
    let is : IsLet program.fields p = let_named program name p ok named in
    after_carries program first p t ok.table ok.topology.links (numbered_distinct p 1 is.numbered) is.in_range accepted.0 table

pub accepted_carries :
    (program : Program) (name : List ℕ) (p : Policy) (t : Tables)
    → IsProgram program.fields program.topo program.lets → policy_named program name ≡ Some p → IsAccepted program p
    → IsTableOf program.fields program.topo (IsStartPacket program.fields program.topo) p t → Carries program p t
accepted_carries program name p t ok named accepted table =
    accepted_after_carries program name 0 p t ok named accepted
    (after_none program.fields program.topo (IsStartPacket program.fields program.topo) p t table)
