-- Tables that a text can write ascend.
use Rattle.std.proofs.Common.{List}
use Rattle.std.specs.Prelude.{All}
use Rattle.nk_field.specs.Packet.{FieldTable}
use Rattle.nk_field.specs.Act.{AscendsFrom}
use Rattle.nk_field.proofs.Ascending.{all_from_members, members_from_all}
use Rattle.nk_table.specs.declared.Bucket.{Bucket}
use Rattle.nk_table.specs.declared.Group.{Group}
use Rattle.nk_table.specs.declared.Row.{Row}
use Rattle.nk_table.specs.declared.Table.{Table}
use Rattle.nk_table.specs.declared.Target.{Target}
use Rattle.nk_table.specs.declared.Target.TheVariants as does
use Rattle.nk_tabtext.specs.InOrder.{MatchesAscend, IsTargetInOrder, IsTableInOrder}
use Rattle.nk_tabtext.specs.ReadBack.{IsPrintableBucket, IsPrintableGroup, IsPrintableTarget, IsPrintableRow, IsPrintableTable}

pub target_in_order : (fields : FieldTable) (groups : List Group) (target : Target) → IsPrintableTarget fields groups target → IsTargetInOrder target
target_in_order fields groups (does.Bucket b) h = h.ascend
target_in_order fields groups (does.Group n) h = tt
target_in_order fields groups does.Discard h = tt

-- the rows of a text
pub matches_in_order : (fields : FieldTable) (groups : List Group) (rows : List Row) → All (IsPrintableRow fields groups) rows →
    All (λ r. MatchesAscend 1 r.matches) rows
matches_in_order fields groups rows h =
    all_from_members (λ (r : Row). MatchesAscend 1 r.matches) rows (λ r i. (members_from_all (IsPrintableRow fields groups) rows h r i).ascend)

pub targets_in_order : (fields : FieldTable) (groups : List Group) (rows : List Row) → All (IsPrintableRow fields groups) rows →
    All (λ r. IsTargetInOrder r.target) rows
targets_in_order fields groups rows h =
    all_from_members (λ (r : Row). IsTargetInOrder r.target) rows
    (λ r i. target_in_order fields groups r.target (members_from_all (IsPrintableRow fields groups) rows h r i).target)

-- a bucket list
pub buckets_in_order : (fields : FieldTable) (bs : List Bucket) → All (IsPrintableBucket fields) bs → All (λ b. AscendsFrom 2 b.sets) bs
buckets_in_order fields bs h =
    all_from_members (λ (b : Bucket). AscendsFrom 2 b.sets) bs (λ b i. (members_from_all (IsPrintableBucket fields) bs h b i).ascend)

table_in_order : (fields : FieldTable) (t : Table) → IsPrintableTable fields t → IsTableInOrder t
table_in_order fields t h = record {
  groups = h.ascend;
  buckets = all_from_members (λ (g : Group). All (λ b. AscendsFrom 2 b.sets) g.buckets) t.groups
      (λ g i. buckets_in_order fields g.buckets (members_from_all (IsPrintableGroup fields) t.groups h.groups g i).buckets);
  matches = matches_in_order fields t.groups t.rows h.rows;
  targets = targets_in_order fields t.groups t.rows h.rows;
}
