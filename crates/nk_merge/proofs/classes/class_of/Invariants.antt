use Rattle.std.proofs.Common.{◌≡◌, ◌<◌, ℕ, [], get_or}
use Rattle.std.specs.Prelude.{slice_index}
use Rattle.nk_store.specs.StoreState.{Grows}
use Rattle.nk_determ.specs.Sets.{SetsGrow}
use Rattle.nk_merge.specs.Alike.{labels_after, tag_set, AreAlike}
use Rattle.nk_merge.specs.DisjointCopies.{IsDisjointCopy}
use Rattle.nk_merge.proofs.classes.class_of.Given as goal

-- the tag is alike none of the first tags so far
abbrev pub invariant-loop-c : goal.invariant-loop-c
invariant-loop-c l = record {
  grows : Grows l.fn.st l.st;
  sets : SetsGrow l.fn.ss l.ss;
  disjoint : IsDisjointCopy l.st l.states l.disjoint;
  rows : l.disjoint.rows ≡ l.fn.disjoint.rows;
  none : (b : ℕ) → b < l.c → AreAlike l.fn.st l.states (labels_after (tag_set l.fn.ss l.tags (slice_index l.firsts b))) (labels_after (get_or l.fn.ss l.s [])) → ⊥;
}
