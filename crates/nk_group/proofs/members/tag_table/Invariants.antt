use Rattle.std.proofs.Common.{◌≡◌, ◌+◌, length}
use Rattle.nk_group.specs.Tagged.{IsTagTable}
use Rattle.nk_group.proofs.members.tag_table.Given as goal

-- the tags so far stand in the table
abbrev pub invariant-loop-s : goal.invariant-loop-s
invariant-loop-s l = record {
  tag : l.tag ≡ l.s-index;
  len : length l.table ≡ length l.ss + 1;
  is : IsTagTable l.s-index l.ss l.tags l.table;
}
