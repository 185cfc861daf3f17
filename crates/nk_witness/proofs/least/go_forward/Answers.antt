use Rattle.std.proofs.Common.{◌≡◌, ◌-◌, ℕ, List, [], length, get_or, ◌∙◌, arith}
use Rattle.nk_store.proofs.Stores.{grows_on}
use Rattle.nk_determ.proofs.Interned.{sets_on}
use Rattle.nk_determ.specs.Pairs.{AreLabelsBelow}
use Rattle.nk_sets.proofs.Kept.{packet_on, packet_back}
use Rattle.nk_goal.proofs.Growing.{states_grow}
use Rattle.nk_witness.proofs.Backing.{backs_on}
use Rattle.nk_witness.proofs.Forwards.{start_sets, start_held, start_first, start_forward, round_here, round_next, round_under, round_ahead, round_on, end_known, end_places, end_bad, end_breaks, end_least, end_left}
use Rattle.nk_witness.proofs.least.go_forward.Goals as goal

pub least_under-requires-clause-back : goal.least_under-requires-clause-back
least_under-requires-clause-back g c =
    start_sets c.in_ok-made.made c.requires.levels c.len-last.ensures c.in_ok-made.ensures.count c.at-whole.ensures c.backs_of.ensures.grows c.backs_of.ensures.sets c.in_ok-made.ensures.differ c.in_ok-made.ensures.ok

pub least_under-requires-clause-some : goal.least_under-requires-clause-some
least_under-requires-clause-some g c =
    start_held c.in_ok-made.made c.requires.levels c.len-last.ensures c.in_ok-made.ensures.count c.at-whole.ensures c.backs_of.ensures.grows c.backs_of.ensures.sets c.in_ok-made.ensures.differ c.in_ok-made.ensures.ok c.start_set-set.ensures c.requires.broken

pub loop-i-init : goal.loop-i-init
loop-i-init g c = record {
  grows = c.backs_of.ensures.grows;
  sets = c.backs_of.ensures.sets;
  fits = c.in_ok-made.ensures.fits;
  backs = c.in_ok-made.ensures.ok;
  forward = start_forward c.in_ok-made.made c.requires.levels c.len-last.ensures c.in_ok-made.ensures.count c.at-whole.ensures c.backs_of.ensures.grows c.backs_of.ensures.sets c.in_ok-made.ensures.differ c.in_ok-made.ensures.ok c.start_set-set.ensures c.in_ok-start.ensures c.new-records.ensures;
}

pub next_packet-requires-clause-states : goal.next_packet-requires-clause-states
next_packet-requires-clause-states g c =
    states_grow c.args.st.now c.loop-i.st c.args.states.now c.loop-i.invariant.grows c.requires.states

pub next_packet-requires-clause-here : goal.next_packet-requires-clause-here
next_packet-requires-clause-here g c =
    round_here c.in_ok-made.made c.requires.states c.requires.levels c.len-last.ensures c.in_ok-made.ensures.count c.loop-i-test.true c.at-here.ensures c.at-next.ensures c.loop-i.invariant.grows c.loop-i.invariant.backs c.loop-i.invariant.forward

pub next_packet-requires-clause-next : goal.next_packet-requires-clause-next
next_packet-requires-clause-next g c =
    round_next c.in_ok-made.made c.requires.states c.requires.levels c.len-last.ensures c.in_ok-made.ensures.count c.loop-i-test.true c.at-here.ensures c.at-next.ensures c.loop-i.invariant.grows c.loop-i.invariant.backs c.loop-i.invariant.forward

pub next_packet-requires-clause-packet : goal.next_packet-requires-clause-packet
next_packet-requires-clause-packet g c =
    packet_on c.args.st.now c.loop-i.st c.loop-i.x c.loop-i.invariant.grows c.loop-i.invariant.forward.packet

pub next_packet-requires-clause-under : goal.next_packet-requires-clause-under
next_packet-requires-clause-under g c =
    round_under c.in_ok-made.made c.requires.states c.requires.levels c.len-last.ensures c.in_ok-made.ensures.count c.loop-i-test.true c.at-here.ensures c.at-next.ensures c.loop-i.invariant.grows c.loop-i.invariant.backs c.loop-i.invariant.forward

pub next_packet-requires-clause-ahead : goal.next_packet-requires-clause-ahead
next_packet-requires-clause-ahead g c =
    round_ahead c.in_ok-made.made c.requires.states c.requires.levels c.len-last.ensures c.in_ok-made.ensures.count c.loop-i-test.true c.at-here.ensures c.at-next.ensures c.loop-i.invariant.grows c.loop-i.invariant.backs c.loop-i.invariant.forward

pub returns-in_err-step-clause-sets : goal.returns-in_err-step-clause-sets
returns-in_err-step-clause-sets g c =
    sets_on c.args.ss.now c.loop-i.ss c.next_packet.new.ss c.loop-i.invariant.sets c.next_packet.ensures.sets

pub returns-in_err-push-clause-sets : goal.returns-in_err-push-clause-sets
returns-in_err-push-clause-sets g c =
    sets_on c.args.ss.now c.loop-i.ss c.next_packet.new.ss c.loop-i.invariant.sets c.next_packet.ensures.sets

pub loop-i-preserved : goal.loop-i-preserved
loop-i-preserved g c = record {
  grows = grows_on _ _ _ c.loop-i.invariant.grows c.next_packet.ensures.grows;
  sets = sets_on c.args.ss.now c.loop-i.ss c.next_packet.new.ss c.loop-i.invariant.sets c.next_packet.ensures.sets;
  fits = g.met.G.Goal.fits_on c.backs_of.new.g c.loop-i.st c.next_packet.new.st c.loop-i.invariant.fits c.next_packet.ensures.grows;
  backs =
      let ls : List (List (ℕ × ℕ)) = c.args.l.now.levels in
      backs_on c.args.st.now c.loop-i.st c.next_packet.new.st c.args.ss.now c.loop-i.ss c.next_packet.new.ss c.args.states.now (g.G.Goal.violations_of c.args.g.now c.args.st.now) ls (length ls - 1) (length ls) c.in_ok-made.made c.next_packet.ensures.grows c.next_packet.ensures.sets c.loop-i.invariant.backs;
  forward = round_on c.in_ok-made.made c.requires.states c.requires.levels c.len-last.ensures c.in_ok-made.ensures.count c.loop-i-test.true c.at-here.ensures c.at-next.ensures c.loop-i.invariant.grows c.loop-i.invariant.backs c.loop-i.invariant.forward
      c.next_packet.ensures.grows c.next_packet.ensures.sets c.in_ok-step.ensures.ok c.in_ok-push.ensures.ok;
}

pub last_packet-requires-clause-set : goal.last_packet-requires-clause-set
last_packet-requires-clause-set g c =
    let last : c.loop-i.i ≡ length c.args.l.now.levels - 1 = omega (arith, c.requires.levels.some, c.len-last.ensures, c.loop-i-test.false, c.loop-i.auto.i-end) in
    (end_known c.in_ok-made.made c.requires.levels last c.loop-i.invariant.backs c.loop-i.invariant.forward).0

pub last_packet-requires-clause-places : goal.last_packet-requires-clause-places
last_packet-requires-clause-places g c =
    let last : c.loop-i.i ≡ length c.args.l.now.levels - 1 = omega (arith, c.requires.levels.some, c.len-last.ensures, c.loop-i-test.false, c.loop-i.auto.i-end) in
    end_places c.in_ok-made.made c.requires.levels last c.loop-i.invariant.backs c.loop-i.invariant.forward (omega (arith, c.requires.labels, c.in_ok-made.ensures.labels))

pub last_packet-requires-clause-packet : goal.last_packet-requires-clause-packet
last_packet-requires-clause-packet g c =
    packet_on c.args.st.now c.loop-i.st c.loop-i.x c.loop-i.invariant.grows c.loop-i.invariant.forward.packet

pub last_packet-requires-clause-bad : goal.last_packet-requires-clause-bad
last_packet-requires-clause-bad g c =
    let last : c.loop-i.i ≡ length c.args.l.now.levels - 1 = omega (arith, c.requires.levels.some, c.len-last.ensures, c.loop-i-test.false, c.loop-i.auto.i-end) in
    let members : List ℕ = get_or c.loop-i.ss c.loop-i.s [] in
    let places : AreLabelsBelow (g.G.Goal.labels c.args.g.now) members = end_places c.in_ok-made.made c.requires.levels last c.loop-i.invariant.backs c.loop-i.invariant.forward c.requires.labels in
    let same : g.G.Goal.violations_of c.backs_of.new.g c.loop-i.st members c.loop-i.x ≡ g.G.Goal.violations_of c.args.g.now c.args.st.now members c.loop-i.x =
    c.in_ok-made.ensures.same c.loop-i.st members c.loop-i.x ∙ g.met.G.Goal.violations_grow c.args.g.now c.args.st.now c.loop-i.st members c.loop-i.x c.requires.fits c.loop-i.invariant.grows places in
    end_bad c.in_ok-made.made c.requires.levels last c.loop-i.invariant.backs c.loop-i.invariant.forward same

pub returns-clause-breaks : goal.returns-clause-breaks
returns-clause-breaks g c =
    let last : c.loop-i.i ≡ length c.args.l.now.levels - 1 = omega (arith, c.requires.levels.some, c.len-last.ensures, c.loop-i-test.false, c.loop-i.auto.i-end) in
    let members : List ℕ = get_or c.loop-i.ss c.loop-i.s [] in
    let places : AreLabelsBelow (g.G.Goal.labels c.args.g.now) members = end_places c.in_ok-made.made c.requires.levels last c.loop-i.invariant.backs c.loop-i.invariant.forward c.requires.labels in
    let same : g.G.Goal.violations_of c.backs_of.new.g c.loop-i.st members c.loop-i.x ≡ g.G.Goal.violations_of c.args.g.now c.args.st.now members c.loop-i.x =
    c.in_ok-made.ensures.same c.loop-i.st members c.loop-i.x ∙ g.met.G.Goal.violations_grow c.args.g.now c.args.st.now c.loop-i.st members c.loop-i.x c.requires.fits c.loop-i.invariant.grows places in
    let one = start_first c.in_ok-made.made c.requires.levels c.len-last.ensures c.in_ok-made.ensures.count c.at-whole.ensures c.backs_of.ensures.grows c.backs_of.ensures.sets c.in_ok-made.ensures.differ c.in_ok-made.ensures.ok c.start_set-set.ensures c.in_ok-start.ensures in
    let best = c.in_ok-end.ensures.ok in
    end_breaks c.in_ok-made.made c.requires.levels last c.loop-i.invariant.backs c.loop-i.invariant.forward one same best c.side_of.ensures.left c.side_of.ensures.right
    (g.met.G.Goal.sided c.backs_of.new.g c.loop-i.st members c.loop-i.x best.out c.loop-i.invariant.fits c.loop-i.invariant.forward.packet.0 best.among)

pub returns-clause-least : goal.returns-clause-least
returns-clause-least g c =
    let last : c.loop-i.i ≡ length c.args.l.now.levels - 1 = omega (arith, c.requires.levels.some, c.len-last.ensures, c.loop-i-test.false, c.loop-i.auto.i-end) in
    let members : List ℕ = get_or c.loop-i.ss c.loop-i.s [] in
    let places : AreLabelsBelow (g.G.Goal.labels c.args.g.now) members = end_places c.in_ok-made.made c.requires.levels last c.loop-i.invariant.backs c.loop-i.invariant.forward c.requires.labels in
    let same : g.G.Goal.violations_of c.backs_of.new.g c.loop-i.st members c.loop-i.x ≡ g.G.Goal.violations_of c.args.g.now c.args.st.now members c.loop-i.x =
    c.in_ok-made.ensures.same c.loop-i.st members c.loop-i.x ∙ g.met.G.Goal.violations_grow c.args.g.now c.args.st.now c.loop-i.st members c.loop-i.x c.requires.fits c.loop-i.invariant.grows places in
    let one = start_first c.in_ok-made.made c.requires.levels c.len-last.ensures c.in_ok-made.ensures.count c.at-whole.ensures c.backs_of.ensures.grows c.backs_of.ensures.sets c.in_ok-made.ensures.differ c.in_ok-made.ensures.ok c.start_set-set.ensures c.in_ok-start.ensures in
    end_least c.in_ok-made.made c.requires.levels last c.loop-i.invariant.backs c.loop-i.invariant.forward one same c.in_ok-end.ensures.ok

pub returns-clause-left : goal.returns-clause-left
returns-clause-left g c = λ w.
    let last : c.loop-i.i ≡ length c.args.l.now.levels - 1 = omega (arith, c.requires.levels.some, c.len-last.ensures, c.loop-i-test.false, c.loop-i.auto.i-end) in
    let members : List ℕ = get_or c.loop-i.ss c.loop-i.s [] in
    let places : AreLabelsBelow (g.G.Goal.labels c.args.g.now) members = end_places c.in_ok-made.made c.requires.levels last c.loop-i.invariant.backs c.loop-i.invariant.forward c.requires.labels in
    let same : g.G.Goal.violations_of c.backs_of.new.g c.loop-i.st members c.loop-i.x ≡ g.G.Goal.violations_of c.args.g.now c.args.st.now members c.loop-i.x =
    c.in_ok-made.ensures.same c.loop-i.st members c.loop-i.x ∙ g.met.G.Goal.violations_grow c.args.g.now c.args.st.now c.loop-i.st members c.loop-i.x c.requires.fits c.loop-i.invariant.grows places in
    let one = start_first c.in_ok-made.made c.requires.levels c.len-last.ensures c.in_ok-made.ensures.count c.at-whole.ensures c.backs_of.ensures.grows c.backs_of.ensures.sets c.in_ok-made.ensures.differ c.in_ok-made.ensures.ok c.start_set-set.ensures c.in_ok-start.ensures in
    c.side_of.ensures.left (end_left c.in_ok-made.made c.requires.levels last c.loop-i.invariant.backs c.loop-i.invariant.forward one same c.in_ok-end.ensures.ok w)

pub returns-clause-range : goal.returns-clause-range
returns-clause-range g c =
    packet_back c.args.st.now c.loop-i.st c.in_ok-end.end.packet c.loop-i.invariant.grows c.in_ok-end.ensures.range
