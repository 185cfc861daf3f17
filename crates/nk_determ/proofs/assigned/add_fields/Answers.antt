use Rattle.std.proofs.Common.{ℕ, List, subst, arith}
use Rattle.nk_store.specs.declared.node.Out.{Out}
use Rattle.nk_determ.specs.Unchanged.{act_fields, AreAmong}
use Rattle.nk_determ.proofs.Collected.{among_on, element_more, elements_all}
use Rattle.nk_determ.proofs.assigned.add_fields.Goals as goal

pub loop-o-preserved : goal.loop-o-preserved
loop-o-preserved c = record {
  more = among_on _ _ _ c.loop-o.invariant.more c.add_fields_of.ensures.more;
  has = element_more (λ (o : Out). act_fields o.act) c.args.outs.now c.loop-o.o-index c.o-item.result c.loop-o.found c.add_fields_of.new.found (omega (arith, c.loop-o-test.true)) c.o-item.is c.loop-o.invariant.has c.add_fields_of.ensures.more
      (subst (λ (g : List (ℕ × ℕ)). AreAmong (act_fields g) c.add_fields_of.new.found) c.as_slice.ensures c.in_ok-add_fields_of.ensures.ok);
}

pub returns-clause-ok : goal.returns-clause-ok
returns-clause-ok c = elements_all (λ (o : Out). act_fields o.act) c.args.outs.now c.loop-o.o-index c.loop-o.found (omega (arith, c.loop-o-test.false)) c.loop-o.invariant.has
