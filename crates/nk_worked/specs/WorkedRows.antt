-- A tree of bucket lists whose rows have a drop row and a group that two rows share: fields sw, pt, dst (0 to 3) and the tag
-- vlan (0 to 7). From port 1 and from port 3 a packet goes back and out of port 9, at port 2 it is dropped, elsewhere it goes
-- back.
use Rattle.std.specs.Prelude.{◌≡◌, ℕ, ◌≤◌, Some, List, [], ◌∷◌, length, filter}
use Rattle.nk_store.specs.Diagram.{Diagram, leaf, case, no_branch, branch}
use Rattle.nk_store.specs.Nodes.{InRange}
use Rattle.nk_table.specs.declared.Bucket.{Bucket}
use Rattle.nk_table.specs.declared.Group.{Group}
use Rattle.nk_table.specs.declared.Plain.{Plain}
use Rattle.nk_table.specs.declared.Row.{Row}
use Rattle.nk_table.specs.declared.Target.TheVariants as target
use Rattle.nk_table.specs.declared.Exit.TheVariants.{Back, Port}
use Rattle.nk_table.specs.Rules.{agrees, highest, buckets_of_row}
use Rattle.nk_table.specs.Worked.{packet, row}
use Rattle.nk_extract.specs.Example.{plain}
use Rattle.nk_extract.specs.RuleTree.{rows_for}
use Rattle.nk_extract.specs.Chosen.{IsRowTree, IsTagged, matching}
use Rattle.nk_group.specs.Groups.{groups_of, rows_after}
use Rattle.nk_worked.specs.TwoSwitches.{dst_and_tag, tagged}

-- back alone, and back and out of port 9
abbrev pub back_alone : List Bucket
back_alone = tagged 0 Back ∷ []

abbrev pub back_and_out : List Bucket
back_and_out = tagged 0 Back ∷ tagged 0 (Port 9) ∷ []

abbrev pub by_port : Diagram (List Bucket)
by_port =
    case 1 (
    branch 0 (leaf back_alone) (
    branch 1 (leaf back_and_out) (
    branch 2 (leaf []) (
    branch 3 (leaf back_and_out) (
    branch 65535 (leaf back_alone) no_branch)))))

-- the rows with their whole bucket lists: those of ports 1, 2 and 3, and the one of every other port
abbrev pub port_rows : List Plain
port_rows =
    plain 2 ((1, 1, 16) ∷ (3, 0, 3) ∷ []) back_and_out
    ∷ plain 2 ((1, 2, 16) ∷ (3, 0, 3) ∷ []) []
    ∷ plain 2 ((1, 3, 16) ∷ (3, 0, 3) ∷ []) back_and_out
    ∷ plain 0 ((3, 0, 3) ∷ []) back_alone
    ∷ []

-- the row that drops
abbrev pub drop_row : Row
drop_row = row 2 ((1, 2, 16) ∷ (3, 0, 3) ∷ []) target.Discard

-- the rows with their groups
abbrev pub grouped_rows : List Row
grouped_rows =
    row 2 ((1, 1, 16) ∷ (3, 0, 3) ∷ []) (target.Group 1)
    ∷ drop_row
    ∷ row 2 ((1, 3, 16) ∷ (3, 0, 3) ∷ []) (target.Group 1)
    ∷ row 0 ((3, 0, 3) ∷ []) (target.Bucket (tagged 0 Back))
    ∷ []

abbrev pub one_group : List Group
one_group = record { number = 1; buckets = back_and_out } ∷ []

-- the row that acts on a packet, and the buckets of its target
abbrev pub acting : List ℕ → List Bucket
acting pk = buckets_of_row one_group (highest [] (filter (agrees dst_and_tag.maxima pk) grouped_rows))

-- The tree is one that the laws on rows are about. Its rows are these, with these groups. The row that drops is the one that
-- acts at port 2, though the last row matches there too; the group's two buckets act at ports 1 and 3.
pub record HasDropRowAndGroup : Type 0 where
  pub tree : IsRowTree dst_and_tag.maxima 3 by_port
  pub few : length dst_and_tag.maxima ≤ 18
  pub in_range : InRange dst_and_tag.maxima (packet 1 2 3 0)
  pub at_two : IsTagged dst_and_tag.maxima 3 0 (packet 1 2 3 0)
  pub rows : rows_for dst_and_tag.maxima 3 0 by_port ≡ port_rows
  pub groups : groups_of port_rows ≡ one_group
  pub grouped : rows_after [] port_rows ≡ grouped_rows
  pub match_two : matching dst_and_tag.maxima port_rows (packet 1 2 3 0) ≡ plain 2 ((1, 2, 16) ∷ (3, 0, 3) ∷ []) [] ∷ plain 0 ((3, 0, 3) ∷ []) back_alone ∷ []
  pub drops : highest [] (filter (agrees dst_and_tag.maxima (packet 1 2 3 0)) grouped_rows) ≡ Some drop_row
  pub copies : (acting (packet 1 1 3 0) ≡ back_and_out) × (acting (packet 1 3 3 0) ≡ back_and_out)
  pub goes_back : acting (packet 1 4 3 0) ≡ back_alone
