use Rattle.std.proofs.Common.{length, sym, subst}
use Rattle.nk_sets.specs.PacketSets.{IsSet}
use Rattle.nk_sets.proofs.SetLemmas.{set_grows}
use Rattle.nk_determ.specs.Pairs.{Once}
use Rattle.nk_goal.specs.Entries.{HaveSets}
use Rattle.nk_reach.specs.Rounds.{IsRaw}
use Rattle.nk_goal.proofs.Growing.{packets_of, each_weaker}
use Rattle.nk_reach.proofs.Nexts.{next_of_raw}
use Rattle.nk_reach.proofs.rounds.next_level.Goals as goal

pub fresh-requires-clause-visited : goal.fresh-requires-clause-visited
fresh-requires-clause-visited c =
    each_weaker (λ p. IsSet c.args.st.now p.1) (λ p. IsSet c.follow_level.new.st p.1) c.args.visited.now (λ p q. set_grows c.args.st.now c.follow_level.new.st p.1 c.follow_level.ensures.grows q)
    (packets_of c.args.st.now c.args.ss.now (length c.args.states.now) c.args.visited.now c.requires.visited.each)

pub fresh-requires-clause-raw : goal.fresh-requires-clause-raw
fresh-requires-clause-raw c =
    subst (HaveSets c.follow_level.new.st) (sym c.into_list-raw.ensures)
    (packets_of c.follow_level.new.st c.follow_level.new.ss (length c.args.states.now) c.in_ok-found.found c.in_ok-found.ensures.ok.pairs.each)

pub fresh-requires-clause-apart : goal.fresh-requires-clause-apart
fresh-requires-clause-apart c = subst Once (sym c.into_list-raw.ensures) c.in_ok-found.ensures.ok.pairs.once

pub returns-clause-ok : goal.returns-clause-ok
returns-clause-ok c =
    next_of_raw c.args.st.now c.follow_level.new.st c.fresh.new.st c.args.ss.now c.follow_level.new.ss c.args.states.now c.args.visited.now c.args.last.now c.into_list-raw.result c.in_ok-level.level
    (subst (IsRaw c.args.st.now c.args.ss.now c.args.states.now c.args.last.now c.follow_level.new.st c.follow_level.new.ss) (sym c.into_list-raw.ensures) c.in_ok-found.ensures.ok)
    c.in_ok-level.ensures.ok c.follow_level.ensures.grows c.follow_level.ensures.sets c.requires.visited
