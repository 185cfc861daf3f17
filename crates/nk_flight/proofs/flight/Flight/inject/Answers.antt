use Rattle.std.proofs.Common.{◌≡◌, ◌∙◌, ap, length, ◌+◌, [], ◌∷◌, ◌++◌}
use Rattle.nk_flight.specs.Flights.{injected}
use Rattle.nk_flight.specs.Trails.{first_hop, state_of_trails, IsSound}
use Rattle.nk_flight.proofs.Reached.{injected_sound}
use Rattle.nk_flight.proofs.flight.Flight.inject.Goals as goal
use Rattle.nk_flight.proofs.flight.Flight.inject.Goals.{After-unwrap}

-- the fields are those after the injection
is_injected : (c : After-unwrap)
    → (state_of_trails c.self.inside.tables c.push.new.self.items c.put_after.new.hops c.put_after.new.flying c.self.inside.left.items
    ≡ injected c.args.p.now (state_of_trails c.self.inside.tables c.self.inside.packets.items c.self.inside.hops c.self.inside.flying c.self.inside.left.items))
    × IsSound c.self.inside.tables c.push.new.self.items c.put_after.new.hops c.put_after.new.flying c.self.inside.left.items
is_injected c =
    let inside = c.self.inside in
    let pk = c.args.p.now in
    let packets : c.push.new.self.items ≡ inside.packets.items ++ pk ∷ [] =
    (rw c.unwrap.ensures at c.push.ensures.items) ∙ ap (λ l. l ++ pk ∷ []) c.in_ok-reserve.ensures.items in
    let hops : c.put_after.new.hops ≡ inside.hops ++ first_hop (length inside.packets.items + 1) pk ∷ [] =
    c.in_ok-put_after.ensures.hops
    ∙ (λ j. inside.hops ++ (c.first_hop-first.ensures ∙ ap (λ n. first_hop (n + 1) pk) (c.len.ensures ∙ inside.packets.ok.0)) j ∷ []) in
    let flying : c.put_after.new.flying ≡ inside.flying ++ length inside.hops ∷ [] = c.in_ok-put_after.ensures.flying in
    injected_sound inside.tables inside.packets.items c.push.new.self.items inside.hops c.put_after.new.hops inside.flying c.put_after.new.flying
    inside.left.items pk packets hops flying c.self.invariant.0

pub invariant_of-self-2 : goal.invariant_of-self-2
invariant_of-self-2 c = ((is_injected c).1, c.self.invariant.1)

pub returns-clause-ok : goal.returns-clause-ok
returns-clause-ok c = (is_injected c).0 ∙ ap (injected c.args.p.now) c.self.view_is
