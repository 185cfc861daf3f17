use Rattle.std.proofs.Common.{◌≡◌, ◌≤◌, length}
use Rattle.nk_store.specs.StoreState.{Grows}
use Rattle.nk_determ.specs.Sets.{SetsGrow}
use Rattle.nk_merge.specs.Alike.{AreTagsAlike}
use Rattle.nk_merge.specs.Classes.{AreClasses, AreFirsts}
use Rattle.nk_merge.specs.Seen.{AreSeenDiagrams}
use Rattle.nk_merge.specs.DisjointCopies.{IsDisjointCopy}
use Rattle.nk_merge.proofs.classes.put_classes.Given as goal

-- the tags so far have their classes
abbrev pub invariant-loop-i : goal.invariant-loop-i
invariant-loop-i l = record {
  grows : Grows l.fn.st l.st;
  sets : SetsGrow l.fn.ss l.ss;
  disjoint : IsDisjointCopy l.st l.states l.disjoint;
  rows : l.disjoint.rows ≡ l.fn.disjoint.rows;
  classes : AreClasses (AreTagsAlike l.fn.st l.states l.fn.ss l.tags) l.i l.all.numbers;
  firsts : AreFirsts l.all.numbers l.all.firsts;
  few : length l.all.firsts ≤ l.i;
  seen : AreSeenDiagrams l.st l.states l.ss l.tags l.all.firsts l.seen.entries;
}
