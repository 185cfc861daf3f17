-- The tables that compiling a name gives can be read back from their text.
use Rattle.std.proofs.Common.{◌≡◌, ℕ, zero, suc, ◌≤◌, Option, Some, List, [], length, sym, ap, subst, ◌∙◌, arith}
use Rattle.std.specs.Prelude.{All, AllPairs, is_some, map, slice_index}
use Rattle.std.proofs.lemmas.Option.{slice_get_within}
use Rattle.nk_field.specs.Act.{AscendsFrom}
use Rattle.nk_field.specs.Packet.{FieldTable, IsFieldTable}
use Rattle.nk_field.proofs.Lists.{In, in_mapped, from_mapped, from_joined, contains_from_in}
use Rattle.nk_field.proofs.Ascending.{all_from_members, members_from_all}
use Rattle.nk_lex.specs.Lex.{largest}
use Rattle.nk_lex.specs.Spelling.{IsName}
use Rattle.nk_topo.specs.Topology.{Topology, SwitchPorts, IsTopology, numbers_of}
use Rattle.nk_policy.specs.Policy.{Policy}
use Rattle.nk_policy.specs.Ranges.{IsInRange}
use Rattle.nk_names.specs.declared.Program.{Program}
use Rattle.nk_names.specs.Accepted.{IsStartPacket, IsAccepted, most_tags}
use Rattle.nk_names.specs.Named.{policy_named}
use Rattle.nk_names.specs.ProgramValue.{IsProgram}
use Rattle.nk_names.specs.ReadBack.{IsWritable}
use Rattle.nk_names.specs.Topologies.{IsDeclarable}
use Rattle.nk_store.specs.Diagram.{Diagram, leaf_at}
use Rattle.nk_table.specs.declared.Bucket.{Bucket}
use Rattle.nk_table.specs.declared.Group.{Group}
use Rattle.nk_table.specs.declared.Plain.{Plain}
use Rattle.nk_table.specs.declared.Row.{Row}
use Rattle.nk_table.specs.declared.Table.{Table}
use Rattle.nk_table.specs.declared.Tables.{Tables}
use Rattle.nk_tabtext.specs.InOrder.{MatchesAscend, IsTargetInOrder, IsTableInOrder, AreInOrder}
use Rattle.nk_tabtext.specs.ReadBack.{IsPrintableGroup, IsPrintableRow, ArePrintableTables, IsPrintableTable as IsTextTable}
use Rattle.nk_extract.specs.RuleTree.{rows_for}
use Rattle.nk_group.specs.Groups.{rows_after, groups_of}
use Rattle.nk_compile.specs.PrintedTable.{IsTreeOfTag}
use Rattle.nk_compile.specs.WholeTable.{HasRowsAt, TagTree, rows_of_trees, IsSwitchTable, IsTableOf}
use Rattle.nk_compile_commands.specs.TextTables.{HasFewGroups, CompilesInOrder, CompilesPrintable, PoliciesInOrder, PoliciesPrintable}
use Rattle.nk_compile.proofs.FewTags.{tags_fit}
use Rattle.nk_compile.proofs.ProgramFits.{fronts}
use Rattle.nk_names.proofs.Named.{let_named}
use Rattle.nk_compile_commands.proofs.ResultBuckets.{buckets_ok}
use Rattle.nk_compile_commands.proofs.SoundRows.{IsSoundRow, IsSoundTree, sound_row}
use Rattle.nk_tabtext.proofs.InOrder.{buckets_in_order, matches_in_order, targets_in_order}
use Rattle.nk_compile_commands.proofs.TableGroups.{Below, group_buckets_ok, groups_ok, groups_ascend, rows_ok}

-- a tag with rows is one of the tags
tag_low : (p : Policy) (tags : List (List ℕ)) (sw t : ℕ) → HasRowsAt p tags sw t → t ≤ length tags
tag_low p tags sw zero h = omega arith
tag_low p tags sw (suc t) h = let lt = slice_get_within tags t h.0 h.2 in omega (arith, lt)

-- a tree whose rows a text can write, with a tag in range
pub record IsSoundAt (fields : FieldTable) (tag sw : ℕ) (e : TagTree) : Type 0 where
  pub low : e.tag ≤ slice_index fields.maxima tag
  pub tree : IsSoundTree fields tag sw e.tree

-- a table of the rows of such trees
pub record IsSoundTable (fields : FieldTable) (tag : ℕ) (u : Table) : Type 0 where
  pub trees : List TagTree
  pub each : (e : TagTree) → In trees e → IsSoundAt fields tag u.switch e
  pub groups : u.groups ≡ groups_of (rows_of_trees fields.maxima tag trees)
  pub rows : u.rows ≡ rows_after [] (rows_of_trees fields.maxima tag trees)

module _ (fields : FieldTable) (tag : ℕ) (table : IsFieldTable fields) (is : fields.tag ≡ Some tag) (u : Table) (st : IsSoundTable fields tag u) (le : u.switch ≤ 65535) where
  abbrev ps : List Plain
  ps = rows_of_trees fields.maxima tag st.trees

  -- the rows of a switch
  rows_sound : (r : Plain) → In ps r → IsSoundRow fields r
  rows_sound r i =
      let e = from_joined (λ (q : TagTree). rows_for fields.maxima tag q.tag q.tree) st.trees r i in
      let at = st.each e.0 e.1 in
      let most = (fronts fields.maxima 65535 65535 table.built_in_maxima).0 in
      sound_row fields tag table is e.0.tag u.switch e.0.tree at.tree at.low (subst (λ n. u.switch ≤ n) (sym most) le) r e.2

  -- the table of a switch
  pub table_ok : length u.groups ≤ largest → IsTextTable fields u
  table_ok few =
      record {
        groups = subst (λ gs. All (IsPrintableGroup fields) gs) (sym st.groups)
            (all_from_members (IsPrintableGroup fields) (groups_of ps) (groups_ok fields ps rows_sound (subst (λ (gs : List Group). length gs ≤ largest) st.groups few)));
        ascend = subst (λ gs. AllPairs Below gs) (sym st.groups) (groups_ascend ps);
        rows = subst (λ gs. All (IsPrintableRow fields gs) u.rows) (sym st.groups)
            (subst (λ rs. All (IsPrintableRow fields (groups_of ps)) rs) (sym st.rows)
            (all_from_members (IsPrintableRow fields (groups_of ps)) (rows_after [] ps) (rows_ok fields ps rows_sound)));
      }

  -- it is in order, however many groups it has
  pub table_in_order : IsTableInOrder u
  table_in_order =
      let rows = all_from_members (IsPrintableRow fields (groups_of ps)) (rows_after [] ps) (rows_ok fields ps rows_sound) in
      record {
        groups = subst (λ gs. AllPairs Below gs) (sym st.groups) (groups_ascend ps);
        buckets = subst (λ gs. All (λ (g : Group). All (λ b. AscendsFrom 2 b.sets) g.buckets) gs) (sym st.groups)
            (all_from_members (λ (g : Group). All (λ b. AscendsFrom 2 b.sets) g.buckets) (groups_of ps) (λ g i. buckets_in_order fields g.buckets (group_buckets_ok fields ps rows_sound g i)));
        matches = subst (λ rs. All (λ (r : Row). MatchesAscend 1 r.matches) rs) (sym st.rows) (matches_in_order fields (groups_of ps) (rows_after [] ps) rows);
        targets = subst (λ rs. All (λ (r : Row). IsTargetInOrder r.target) rs) (sym st.rows) (targets_in_order fields (groups_of ps) (rows_after [] ps) rows);
      }

-- a table's switch is declared
switch_low :
    (topo : Topology) (ts : List Table) → map (λ (u : Table). u.switch) ts ≡ map (λ (s : SwitchPorts). s.switch) topo.switches
    → IsDeclarable topo → (u : Table) → In ts u → u.switch ≤ 65535
switch_low topo ts same declarable u i =
    let s = from_mapped (λ (s : SwitchPorts). s.switch) topo.switches u.switch (subst (λ l. In l u.switch) same (in_mapped (λ (v : Table). v.switch) ts u i)) in
    subst (λ n. n ≤ 65535) (sym s.2) (members_from_all (λ (r : SwitchPorts). r.switch ≤ 65535) topo.switches declarable.switches s.0 s.1)

-- a named policy of a program sets fields to values in range
pub named_in_range :
    (program : Program) (name : List ℕ) (p : Policy) → IsProgram program.fields program.topo program.lets
    → policy_named program name ≡ Some p → IsInRange p program.fields
named_in_range program name p ok named = (let_named program name p ok named).in_range

-- an accepted policy has no more tags than the tag has values
tags_few :
    (program : Program) (p : Policy) (t : Tables) → IsAccepted program p
    → (printed : IsTableOf program.fields program.topo (IsStartPacket program.fields program.topo) p t)
    → length printed.tags ≤ slice_index program.fields.maxima printed.tag
tags_few program p t accepted printed =
    let fields = program.fields in
    let most : most_tags fields fields.tag ≡ slice_index fields.maxima printed.tag = ap (most_tags fields) printed.tag_declared in
    subst (λ n. length printed.tags ≤ n) most (tags_fit p (IsStartPacket fields program.topo) printed.tags (most_tags fields fields.tag) printed.in_order accepted.1)

-- ---- such tables, over the fields and the topology of a text

-- tables over a program's fields and topology, one for each switch, each of rows that a text can write
pub record AreSoundTables (fields : FieldTable) (topo : Topology) (t : Tables) : Type 0 where
  pub tag : ℕ
  pub tag_declared : fields.tag ≡ Some tag
  pub same_fields : t.fields ≡ fields
  pub same_topology : t.topo ≡ topo
  pub switches : map (λ (u : Table). u.switch) t.tables ≡ map (λ (s : SwitchPorts). s.switch) topo.switches
  pub each : (u : Table) → In t.tables u → IsSoundTable fields tag u

module _ (fields : FieldTable) (topo : Topology) (t : Tables) (writable : IsWritable fields) (declarable : IsDeclarable topo) (sound : AreSoundTables fields topo t) where
  low : (u : Table) → In t.tables u → u.switch ≤ 65535
  low = switch_low topo t.tables sound.switches declarable

  pub sound_printable : IsTopology topo → HasFewGroups t → ArePrintableTables t
  sound_printable is few =
      let same = sym sound.same_fields in
      let same_topo = sym sound.same_topology in
      record {
        fields = subst IsFieldTable same writable.table;
        maxima = subst (λ (f : FieldTable). All (λ m. m ≤ largest) f.maxima) same writable.maxima;
        names = subst (λ (f : FieldTable). All IsName f.names) same writable.names;
        tag = ap (λ (f : FieldTable). is_some f.tag) sound.same_fields ∙ ap (λ (o : Option ℕ). is_some o) sound.tag_declared;
        topology = subst IsTopology same_topo is;
        switches = subst (λ (o : Topology). All (λ s. s.switch ≤ 65535) o.switches) same_topo declarable.switches;
        ports = subst (λ (o : Topology). All (λ s. All (λ q. q ≤ 65535) s.ports) o.switches) same_topo declarable.ports;
        some = subst (λ (o : Topology). All (λ s. 1 ≤ length s.ports) o.switches) same_topo declarable.some;
        each = sound.switches ∙ ap numbers_of same_topo;
        tables = subst (λ f. All (IsTextTable f) t.tables) same
            (all_from_members (IsTextTable fields) t.tables (λ u i.
            table_ok fields sound.tag writable.table sound.tag_declared u (sound.each u i) (low u i)
            (members_from_all (λ (v : Table). length v.groups ≤ largest) t.tables few u i)));
      }

  pub sound_in_order : AreInOrder t
  sound_in_order =
      all_from_members IsTableInOrder t.tables (λ u i. table_in_order fields sound.tag writable.table sound.tag_declared u (sound.each u i) (low u i))

-- ---- what compiling gives

module _ (fields : FieldTable) (tag : ℕ) (p : Policy) (tags : List (List ℕ)) (table : IsFieldTable fields) (is : fields.tag ≡ Some tag) (range : IsInRange p fields) (many : length tags ≤ slice_index fields.maxima tag) where
  tree_sound : (t sw : ℕ) (d : Diagram (List Bucket)) → IsTreeOfTag fields tag p tags t sw d → IsSoundTree fields tag sw d
  tree_sound t sw d tree = record {
    reduced = tree.reduced;
    tag_free = tree.tag_free;
    leaves = λ pk ok at b i. buckets_ok fields tag p tags t pk (leaf_at d [] pk) table is range many ok (tree.leaves pk ok at) b i;
  }

  table_sound : (u : Table) → IsSwitchTable fields tag p tags u → IsSoundTable fields tag u
  table_sound u st = record {
    trees = st.trees;
    each = λ e i.
        let at : HasRowsAt p tags u.switch e.tag = (st.exactly e.tag).0 (contains_from_in (map (λ (q : TagTree). q.tag) st.trees) e.tag (in_mapped (λ (q : TagTree). q.tag) st.trees e i)) in
        let few = tag_low p tags u.switch e.tag at in
        record {
          low = omega (arith, few, many);
          tree = tree_sound e.tag u.switch e.tree (members_from_all (λ (q : TagTree). IsTreeOfTag fields tag p tags q.tag u.switch q.tree) st.trees st.each e i);
        };
    groups = st.groups;
    rows = st.rows;
  }

accepted_sound :
    (program : Program) (p : Policy) (t : Tables) → IsWritable program.fields → IsInRange p program.fields → IsAccepted program p
    → IsTableOf program.fields program.topo (IsStartPacket program.fields program.topo) p t → AreSoundTables program.fields program.topo t
accepted_sound program p t writable range accepted printed =
    let fields = program.fields in
    let many = tags_few program p t accepted printed in
    record {
      tag = printed.tag;
      tag_declared = printed.tag_declared;
      same_fields = printed.same_fields;
      same_topology = printed.same_topology;
      switches = printed.switches;
      each = λ u i. table_sound fields printed.tag p printed.tags writable.table printed.tag_declared range many u
          (members_from_all (IsSwitchTable fields printed.tag p printed.tags) t.tables printed.each u i);
    }

pub policies_in_order : PoliciesInOrder
policies_in_order program p t ok writable declarable range compiled =
    sound_in_order program.fields program.topo t writable declarable (accepted_sound program p t writable range compiled.0 compiled.1)

pub policies_printable : PoliciesPrintable
policies_printable program p t ok writable declarable range compiled few =
    sound_printable program.fields program.topo t writable declarable (accepted_sound program p t writable range compiled.0 compiled.1) ok.topology few

-- so it is with the policy of a name
pub compiles_in_order : CompilesInOrder
compiles_in_order program name t ok writable declarable compiled =
    policies_in_order program compiled.0 t ok writable declarable (named_in_range program name compiled.0 ok compiled.1) (compiled.2, compiled.3, compiled.4)

pub compiles_printable : CompilesPrintable
compiles_printable program name t ok writable declarable compiled few =
    policies_printable program compiled.0 t ok writable declarable (named_in_range program name compiled.0 ok compiled.1) (compiled.2, compiled.3, compiled.4) few
