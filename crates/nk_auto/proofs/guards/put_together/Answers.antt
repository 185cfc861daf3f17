use Rattle.nk_auto.proofs.Guarding.{guarded_continued}
use Rattle.nk_auto.proofs.guards.put_together.Goals as goal

pub returns-clause-ok : goal.returns-clause-ok
returns-clause-ok c = λ p k h.
    guarded_continued c.args.st.now c.at_packets.new.st c.args.following.guard c.args.following.rest c.in_ok-d.d k p c.at_packets.ensures.grows c.in_ok-d.ensures.ok h
