use Rattle.std.proofs.Common.{[], get_or}
use Rattle.nk_store.proofs.Stores.{grows_on}
use Rattle.nk_sets.specs.PacketSets.{IsSet}
use Rattle.nk_sets.proofs.SetLemmas.{set_grows}
use Rattle.nk_goal.proofs.Growing.{each_weaker}
use Rattle.nk_reach.proofs.Sending.{followed_of}
use Rattle.nk_reach.proofs.follow.follow_pair.Goals as goal

pub send_all-requires-clause-raw : goal.send_all-requires-clause-raw
send_all-requires-clause-raw c =
    each_weaker (λ p. IsSet c.args.st.now p.1) (λ p. IsSet c.packets_by_out.new.st p.1) c.args.raw.now
    (λ p q. set_grows c.args.st.now c.packets_by_out.new.st p.1 (grows_on _ _ _ c.local_state.ensures.grows c.packets_by_out.ensures.grows) q) c.requires.raw

pub returns-clause-ok : goal.returns-clause-ok
returns-clause-ok c =
    followed_of c.args.st.now c.local_state.new.st c.packets_by_out.new.st c.send_all.new.st c.local_state.new.ss c.args.states.now (get_or c.args.ss.now c.args.s []) c.args.x c.in_ok-d.d c.in_ok-outs.outs
    c.args.raw.now c.send_all.new.raw c.requires.states c.requires.places c.requires.raw c.local_state.ensures.grows c.packets_by_out.ensures.grows
    c.in_ok-d.ensures.ok c.in_ok-outs.ensures.ok c.in_ok-send_all.ensures.ok
