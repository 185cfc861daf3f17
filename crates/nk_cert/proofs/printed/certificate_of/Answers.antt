use Rattle.std.proofs.Common.{List, ℕ, [], ◌<◌, get_or, length, sym, subst}
use Rattle.std.specs.Prelude.{All}
use Rattle.nk_sets.specs.PacketSets.{IsSet}
use Rattle.nk_sets.proofs.SetLemmas.{set_grows}
use Rattle.nk_goal.proofs.Growing.{each_weaker}
use Rattle.nk_cert.specs.FromLevels.{HaveRows}
use Rattle.nk_cert.specs.Values.{row_values, certificate_value}
use Rattle.nk_cert.specs.Later.{IsRowBy}
use Rattle.nk_cert.proofs.Making.{later_known, later_of_old, none_on, certificate_made}
use Rattle.nk_cert.proofs.printed.certificate_of.Goals as goal

pub later_packets-requires : goal.later_packets-requires
later_packets-requires c = λ i lt.
    each_weaker (λ p. IsSet c.args.st.now p.1) (λ p. IsSet c.empty.new.st p.1) (get_or c.args.lv.now.levels i [])
    (λ p k. set_grows c.args.st.now c.empty.new.st p.1 c.empty.ensures.grows k) (c.requires.packets i lt)

pub set_rows-requires-clause-sets : goal.set_rows-requires-clause-sets
set_rows-requires-clause-sets c =
    subst (λ (l : List ℕ). All (λ s. s < length c.args.ss.now) l) (sym c.as_slice.ensures)
    (later_known c.args.ss.now c.args.lv.now.levels c.in_ok-sets.sets c.requires.entries c.in_ok-sets.ensures)

pub set_rows-requires-clause-packets : goal.set_rows-requires-clause-packets
set_rows-requires-clause-packets c = c.in_ok-visited.ensures.ok.packets

pub set_rows-requires-clause-none : goal.set_rows-requires-clause-none
set_rows-requires-clause-none c =
    set_grows c.empty.new.st c.later_packets.new.st c.in_ok-none.none c.later_packets.ensures.grows (record { id = c.in_ok-none.ensures.ok.id; predicate = c.in_ok-none.ensures.predicate })

pub returns-clause-ok : goal.returns-clause-ok
returns-clause-ok c =
    certificate_made c.args.st.now c.later_packets.new.st c.args.ss.now c.args.lv.now.levels c.in_ok-visited.visited c.in_ok-none.none
    (later_of_old c.args.st.now c.empty.new.st c.later_packets.new.st c.args.lv.now.levels c.in_ok-visited.visited c.empty.ensures.grows c.requires.packets c.in_ok-visited.ensures.ok)
    (none_on c.empty.new.st c.later_packets.new.st c.in_ok-none.none c.later_packets.ensures.grows c.in_ok-none.ensures.ok)
    c.in_ok-sets.sets (certificate_value (record { start = c.everything.result; rows = c.in_ok-rows.rows })) c.in_ok-sets.ensures c.everything.ensures
    (subst (λ (l : List ℕ). HaveRows (IsRowBy c.later_packets.new.st c.args.ss.now c.in_ok-visited.visited c.in_ok-none.none) l (row_values c.in_ok-rows.rows)) c.as_slice.ensures c.in_ok-rows.ensures)
