use Rattle.std.proofs.Common.{arith}
use Rattle.nk_sets.specs.PacketSets.{IsSet}
use Rattle.nk_sets.proofs.SetLemmas.{set_grows}
use Rattle.nk_goal.proofs.Growing.{each_weaker}
use Rattle.nk_reach.proofs.Sending.{sent_empty, sent_add}
use Rattle.nk_reach.proofs.follow.send.Goals as goal

pub returns-then-is_empty-clause-ok : goal.returns-then-is_empty-clause-ok
returns-then-is_empty-clause-ok c =
    sent_empty c.args.st.now c.image.new.st c.args.o.now c.args.p c.in_ok-y.y c.args.raw.now c.requires.raw c.requires.once c.image.ensures.grows c.in_ok-y.ensures.ok (c.is_empty.ensures.yes c.if-is_empty.true)

pub add-requires-clause-pairs : goal.add-requires-clause-pairs
add-requires-clause-pairs c =
    each_weaker (λ p. IsSet c.args.st.now p.1) (λ p. IsSet c.image.new.st p.1) c.args.raw.now (λ p q. set_grows c.args.st.now c.image.new.st p.1 c.image.ensures.grows q) c.requires.raw

pub returns-clause-ok : goal.returns-clause-ok
returns-clause-ok c =
    sent_add c.args.st.now c.image.new.st c.add.new.st c.args.o.now c.args.p c.in_ok-y.y c.from_target-t.result c.args.raw.now c.add.new.self c.requires.raw c.image.ensures.grows c.in_ok-y.ensures.ok
    (c.is_empty.ensures.no c.if-is_empty.false) (omega (arith, c.from_target-t.ensures, c.if-o-eq0.false)) c.in_ok-add.ensures.ok
