-- The whole printed table: one table for each switch, with the rows of tag 0 and of each tag whose link ends there.
use Rattle.std.specs.Prelude.{◌≡◌, ℕ, zero, suc, ◌↔◌, ◌==◌, if◌then◌else◌, Option, Some, None, List, [], map, slice_get, Contains, All}
use Rattle.std.specs.List.Sorted.{IsStrictlyIncreasing}
use Rattle.nk_field.specs.Packet.{FieldTable}
use Rattle.nk_topo.specs.Topology.{Topology}
use Rattle.nk_policy.specs.Policy.{Policy, Policies, test, range, assign, sum_of, seq_of, not_of, star_of, dup, link, no_part, part}
use Rattle.nk_table.specs.declared.Table.{Table}
use Rattle.nk_table.specs.declared.Tables.{Tables}
use Rattle.nk_group.specs.Groups.{groups_of, rows_after}
pub use Rattle.nk_group.specs.Made.{TagTree, rows_of_trees}
use Rattle.nk_policy.specs.Tags.{AreTags}
use Rattle.nk_compile.specs.PrintedTable.{IsTreeOfTag}

abbrev pub first_number : Option ℕ → Option ℕ → Option ℕ
first_number None o = o
first_number (Some n) o = Some n

-- where the link literal with this mark ends
abbrev mutual
  pub link_end : Policy → ℕ → Option ℕ
  link_end (test f n) l = None
  link_end (range f lo hi) l = None
  link_end (assign f n) l = None
  link_end (sum_of ps) l = link_end_among ps l
  link_end (seq_of ps) l = link_end_among ps l
  link_end (not_of p) l = link_end p l
  link_end (star_of p) l = link_end p l
  link_end (dup k) l = None
  link_end (link a m b n k) l = if k == l then Some b else None

  pub link_end_among : Policies → ℕ → Option ℕ
  link_end_among no_part l = None
  link_end_among (part p ps) l = first_number (link_end p l) (link_end_among ps l)

-- tag 0 has rows at each switch, another tag where its links end
abbrev pub HasRowsAt : Policy → List (List ℕ) → ℕ → ℕ → Type 0
HasRowsAt p tags sw zero = Unit {0}
HasRowsAt p tags sw (suc t) =
    (labels : List ℕ) × (l : ℕ) × (slice_get tags t ≡ Some labels) × Contains labels l × (link_end p l ≡ Some sw)

-- the table of a switch: the rows of its tags' trees, ascending by tag, and the groups of these rows
pub record IsSwitchTable (fields : FieldTable) (tag : ℕ) (p : Policy) (tags : List (List ℕ)) (table : Table) : Type 0 where
  pub trees : List TagTree
  pub ascending : IsStrictlyIncreasing (map (λ e. e.tag) trees)
  pub exactly : (t : ℕ) → Contains (map (λ e. e.tag) trees) t ↔ HasRowsAt p tags table.switch t
  pub each : All (λ e. IsTreeOfTag fields tag p tags e.tag table.switch e.tree) trees
  pub groups : table.groups ≡ groups_of (rows_of_trees fields.maxima tag trees)
  pub rows : table.rows ≡ rows_after [] (rows_of_trees fields.maxima tag trees)

-- the tables that are printed for a policy whose packets start where Start holds
pub record IsTableOf (fields : FieldTable) (topo : Topology) (Start : List ℕ → Type 0) (p : Policy) (t : Tables) : Type 0 where
  pub tag : ℕ
  pub tags : List (List ℕ)
  pub tag_declared : fields.tag ≡ Some tag
  pub in_order : AreTags p Start tags
  pub same_fields : t.fields ≡ fields
  pub same_topology : t.topo ≡ topo
  pub switches : map (λ s. s.switch) t.tables ≡ map (λ s. s.switch) topo.switches
  pub each : All (IsSwitchTable fields tag p tags) t.tables
