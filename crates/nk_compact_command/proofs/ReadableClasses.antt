-- The tables that compacting a name gives can be read back from their text.
use Rattle.std.proofs.Common.{◌≡◌, ℕ, zero, suc, ◌≤◌, Some, List, [], ap, subst, arith}
use Rattle.std.specs.Prelude.{map, slice_index}
use Rattle.nk_field.specs.declared.packet.Packet.{Packet}
use Rattle.nk_field.specs.Packet.{FieldTable, IsFieldTable}
use Rattle.nk_field.proofs.Lists.{in_mapped, contains_from_in}
use Rattle.nk_field.proofs.Ascending.{members_from_all}
use Rattle.nk_topo.specs.Topology.{Topology}
use Rattle.nk_policy.specs.Policy.{Policy}
use Rattle.nk_policy.specs.Ranges.{IsInRange}
use Rattle.nk_names.specs.declared.Program.{Program}
use Rattle.nk_names.specs.Accepted.{IsStartPacket, most_tags}
use Rattle.nk_names.specs.ProgramValue.{IsProgram}
use Rattle.nk_names.specs.ReadBack.{IsWritable}
use Rattle.nk_store.specs.Diagram.{Diagram, leaf_at}
use Rattle.nk_table.specs.declared.Bucket.{Bucket}
use Rattle.nk_table.specs.declared.Table.{Table}
use Rattle.nk_table.specs.declared.Tables.{Tables}
use Rattle.nk_group.specs.Classed.{class_of}
use Rattle.nk_compile.specs.WholeTable.{TagTree}
use Rattle.nk_compact.specs.declared.compact.Compact.{Compact}
use Rattle.nk_compact.specs.Compacted.{IsCompacted}
use Rattle.nk_compact.specs.MergedTable.{IsClassTree, IsClassTable, HasClassRowsAt, IsMergedTable}
use Rattle.nk_compact.proofs.Merging.{index_get}
use Rattle.nk_compile_commands.proofs.ResultBuckets.{numbered_ok}
use Rattle.nk_compile_commands.proofs.SoundRows.{IsSoundTree}
use Rattle.nk_compile_commands.proofs.Readable.{IsSoundTable, AreSoundTables, named_in_range, sound_in_order, sound_printable}
use Rattle.nk_compact_command.specs.TextTables.{CompactsInOrder, CompactsPrintable}

module _ (fields : FieldTable) (tag : ℕ) (Start : Packet → Type 0) (p : Policy) (tags : List (List ℕ)) (classes : List ℕ) (table : IsFieldTable fields) (is : fields.tag ≡ Some tag) (range : IsInRange p fields) (few : (i : ℕ) → slice_index classes i ≤ slice_index fields.maxima tag) where
  -- each tag's number is one of the tag's values
  number_low : (t : ℕ) → class_of classes t ≤ slice_index fields.maxima tag
  number_low zero = omega arith
  number_low (suc t) = few t

  tree_sound : (c sw : ℕ) (d : Diagram (List Bucket)) → IsClassTree fields tag Start p tags classes c sw d → IsSoundTree fields tag sw d
  tree_sound c sw d tree = record {
    reduced = tree.reduced;
    tag_free = tree.tag_free;
    leaves = λ pk ok at b i.
        let l = tree.leaves pk ok at in
        let r = (l.2.exactly b).0 (contains_from_in (leaf_at d [] pk) b i) in
        numbered_ok (class_of classes) fields tag p tags l.0 pk b table is range (λ t' low. number_low t') ok r.0 r.1 r.2 r.3;
  }

  class_low : (sw c : ℕ) → HasClassRowsAt p tags classes sw c → c ≤ slice_index fields.maxima tag
  class_low sw zero h = omega arith
  class_low sw (suc c) h = subst (λ n. n ≤ slice_index fields.maxima tag) (index_get classes h.0 (suc c) h.1) (few h.0)

  table_sound : (u : Table) → IsClassTable fields tag Start p tags classes u → IsSoundTable fields tag u
  table_sound u st = record {
    trees = st.trees;
    each = λ e i.
        let at : HasClassRowsAt p tags classes u.switch e.tag = (st.exactly e.tag).0 (contains_from_in (map (λ (q : TagTree). q.tag) st.trees) e.tag (in_mapped (λ (q : TagTree). q.tag) st.trees e i)) in
        record {
          low = class_low u.switch e.tag at;
          tree = tree_sound e.tag u.switch e.tree (members_from_all (λ (q : TagTree). IsClassTree fields tag Start p tags classes q.tag u.switch q.tree) st.trees st.each e i);
        };
    groups = st.groups;
    rows = st.rows;
  }

-- merged tables whose classes are values of the tag
pub merged_sound :
    (fields : FieldTable) (topo : Topology) (Start : Packet → Type 0) (p : Policy) (tags : List (List ℕ)) (classes : List ℕ) (t : Tables)
    → IsFieldTable fields → IsInRange p fields
    → (merged : IsMergedTable fields topo Start p tags classes t)
    → ((i : ℕ) → slice_index classes i ≤ slice_index fields.maxima merged.tag) → AreSoundTables fields topo t
merged_sound fields topo Start p tags classes t table range merged few = record {
  tag = merged.tag;
  tag_declared = merged.tag_declared;
  same_fields = merged.same_fields;
  same_topology = merged.same_topology;
  switches = merged.switches;
  each = λ u i. table_sound fields merged.tag Start p tags classes table merged.tag_declared range few u
      (members_from_all (IsClassTable fields merged.tag Start p tags classes) t.tables merged.each u i);
}

-- what compacting a name gives
compacted_sound :
    (program : Program) (name : List ℕ) (c : Compact) → IsProgram program.fields program.topo program.lets → IsWritable program.fields
    → IsCompacted program name c → AreSoundTables program.fields program.topo c.tables
compacted_sound program name c ok writable made =
    let fields = program.fields in
    let of = made.2 in
    let most : most_tags fields fields.tag ≡ slice_index fields.maxima of.merged.tag = ap (most_tags fields) of.merged.tag_declared in
    merged_sound fields program.topo (IsStartPacket fields program.topo) made.0 of.tags of.classes c.tables writable.table (named_in_range program name made.0 ok made.1) of.merged
    (λ i. subst (λ n. slice_index of.classes i ≤ n) most (of.few i))

pub compacts_in_order : CompactsInOrder
compacts_in_order program name c ok writable declarable made =
    sound_in_order program.fields program.topo c.tables writable declarable (compacted_sound program name c ok writable made)

pub compacts_printable : CompactsPrintable
compacts_printable program name c ok writable declarable made few =
    sound_printable program.fields program.topo c.tables writable declarable (compacted_sound program name c ok writable made) ok.topology few
