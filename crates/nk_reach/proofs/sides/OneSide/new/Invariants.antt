use Rattle.nk_store.specs.StoreState.{Grows}
use Rattle.nk_reach.specs.Sides.{AreSideFinals, AreFinalsOfSide}
use Rattle.nk_reach.proofs.sides.OneSide.new.Given as goal

abbrev pub invariant-loop-l : goal.invariant-loop-l
invariant-loop-l l = record {
  grows : Grows l.fn.st l.st;
  marked : AreSideFinals l.fn.st l.states l.left l.right l.bound l.l l.st l.ends;
  of_left : AreFinalsOfSide l.st 1 l.marks.left.entries;
  of_right : AreFinalsOfSide l.st 2 l.marks.right.entries;
}
