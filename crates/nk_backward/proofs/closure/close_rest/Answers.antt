use Rattle.nk_backward.proofs.Tracing.{outs_suit_on}
use Rattle.nk_backward.proofs.Gaining.{sets_on}
use Rattle.nk_backward.proofs.Preceding.{predecessors_on, known_on}
use Rattle.nk_backward.proofs.Taking.{closure_before}
use Rattle.nk_backward.proofs.closure.close_rest.Goals as goal

pub returns-in-Some-clause-pre : goal.returns-in-Some-clause-pre
returns-in-Some-clause-pre c = known_on c.args.st.now c.close_by.new.st c.args.ts.now c.args.pre.now c.close_by.ensures.grows c.requires.suits_store c.requires.pre

pub close_by-requires-2-clause-back : goal.close_by-requires-2-clause-back
close_by-requires-2-clause-back c = sets_on c.args.st.now c.predecessors_of.new.st c.args.back.now c.predecessors_of.ensures.grows c.requires.back

pub returns-clause-ok : goal.returns-clause-ok
returns-clause-ok c = closure_before c.args.st.now c.predecessors_of.new.st c.close_by-2.new.st c.args.ts.now c.args.back.now c.close_by-2.new.back c.predecessors_of.ensures.grows c.requires.suits_store c.requires.back c.in_ok-close_by-2.ensures.ok

pub returns-clause-pre : goal.returns-clause-pre
returns-clause-pre c =
    predecessors_on c.predecessors_of.new.st c.close_by-2.new.st c.args.ts.now c.in_ok-made.made.places c.in_ok-made.made.into.entries c.close_by-2.ensures.grows (outs_suit_on c.args.st.now c.predecessors_of.new.st c.args.ts.now c.predecessors_of.ensures.grows c.requires.suits_store) c.in_ok-made.ensures.ok
