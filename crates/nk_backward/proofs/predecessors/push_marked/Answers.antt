use Rattle.std.proofs.Common.{arith}
use Rattle.nk_backward.proofs.Marking.{marked_end, marked_some}
use Rattle.nk_backward.proofs.predecessors.push_marked.Goals as goal

pub returns-then-q-eq0-clause-ok : goal.returns-then-q-eq0-clause-ok
returns-then-q-eq0-clause-ok c = marked_end c.args.st.now c.args.q.now c.args.n c.args.all.now c.requires.ids c.if-q-eq0.true

pub returns-clause-ok : goal.returns-clause-ok
returns-clause-ok c =
    marked_some c.args.st.now c.image.new.st c.marked.new.st c.at_packets.new.st c.args.q.now c.args.n c.from_target.result c.in_ok-made.made c.in_ok-mark.mark c.in_ok-d.d c.args.all.now c.push.new.self c.image.ensures.grows c.marked.ensures.grows c.at_packets.ensures.grows
    c.requires.suits_store.suits c.requires.ids (omega (arith, c.from_target.ensures, c.if-q-eq0.false)) c.in_ok-made.ensures.ok c.in_ok-mark.ensures.ok c.in_ok-d.ensures.ok c.in_ok-push.ensures.ok
