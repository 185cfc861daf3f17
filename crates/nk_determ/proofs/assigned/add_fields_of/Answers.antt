use Rattle.std.proofs.Common.{subst, arith}
use Rattle.std.specs.List.{Contains}
use Rattle.nk_determ.proofs.Collected.{among_on}
use Rattle.nk_determ.proofs.AssignedFields.{field_more}
use Rattle.nk_determ.proofs.assigned.add_fields_of.Goals as goal

pub loop-s-preserved : goal.loop-s-preserved
loop-s-preserved c = record {
  more = among_on _ _ _ c.loop-s.invariant.more c.add_once.ensures.more;
  has = field_more c.args.sets.now c.loop-s.s-index c.s-item.result c.loop-s.found c.add_once.new.found (omega (arith, c.loop-s-test.true)) c.s-item.is c.loop-s.invariant.has c.add_once.ensures.more
      (subst (Contains c.add_once.new.found) c.place.ensures.is c.in_ok-add_once.ensures.ok);
}
