use Rattle.std.proofs.Common.{◌≡◌, ◌≤◌, arith, ◌∙◌, ap, None, length, ◌+◌, [], ◌∷◌, ◌++◌}
use Rattle.nk_flight.specs.Flights.{injected}
use Rattle.nk_flight.specs.Trails.{first_hop}
use Rattle.nk_flight.specs.Updates.{UpdateValue, is_old_tag, state_in}
use Rattle.nk_flight.specs.Held.{update_at, IsUpdateHeld}
use Rattle.nk_flight.proofs.Counting.{one_if}
use Rattle.nk_flight.proofs.Holding.{injected_held, few_tagged, one_most}
use Rattle.nk_flight.proofs.updating.UpdateFlight.inject.Goals as goal
use Rattle.nk_flight.proofs.updating.UpdateFlight.inject.Goals.{After-unwrap-2}

-- copies with an old tag are no more than hops
pub counted-self-inside-requires : goal.counted-self-inside-requires
counted-self-inside-requires c =
    let inside = c.self.inside in
    let few = few_tagged inside.stages inside.progress inside.packets.items inside.hops inside.flying inside.versions.items inside.tagged c.self.invariant in
    let most = one_most c.is_old.result in
    let less : inside.tagged + one_if c.is_old.result ≤ 18446744073709551615 = omega (arith, few, most, c.len-held.ensures.is, c.len-held.ensures.few) in
    less

-- the fields are those after the injection
is_injected : (c : After-unwrap-2)
    → (state_in (update_at c.self.inside.stages c.self.inside.progress c.push-2.new.self.items c.put_after.new.hops c.put_after.new.flying c.self.inside.left.items c.push.new.self.items)
    ≡ (let u = state_in (update_at c.self.inside.stages c.self.inside.progress c.self.inside.packets.items c.self.inside.hops c.self.inside.flying c.self.inside.left.items c.self.inside.versions.items) in
    record u { flight = injected c.args.p.now u.flight }))
    × IsUpdateHeld c.self.inside.stages c.self.inside.progress c.push-2.new.self.items c.put_after.new.hops c.put_after.new.flying c.push.new.self.items c.counted-self-inside.result
is_injected c =
    let inside = c.self.inside in
    let pk = c.args.p.now in
    let packets : c.push-2.new.self.items ≡ inside.packets.items ++ pk ∷ [] =
    (rw c.unwrap-2.ensures at c.push-2.ensures.items) ∙ ap (λ l. l ++ pk ∷ []) c.in_ok-reserve.ensures.items in
    let versions : c.push.new.self.items ≡ inside.versions.items ++ None ∷ [] =
    (rw c.unwrap.ensures at c.push.ensures.items) ∙ ap (λ l. l ++ None ∷ []) c.in_ok-reserve-2.ensures.items in
    let hops : c.put_after.new.hops ≡ inside.hops ++ first_hop (length inside.packets.items + 1) pk ∷ [] =
    c.in_ok-put_after.ensures.hops
    ∙ (λ j. inside.hops ++ (c.first_hop-first.ensures ∙ ap (λ n. first_hop (n + 1) pk) (c.len.ensures ∙ inside.packets.ok.0)) j ∷ []) in
    let flying : c.put_after.new.flying ≡ inside.flying ++ length inside.hops ∷ [] = c.in_ok-put_after.ensures.flying in
    let more : c.counted-self-inside.result ≡ inside.tagged + one_if (is_old_tag inside.stages pk) =
    c.counted-self-inside.ensures ∙ ap (λ b. inside.tagged + one_if b) c.is_old.ensures in
    injected_held inside.stages inside.progress inside.packets.items c.push-2.new.self.items inside.hops c.put_after.new.hops inside.flying c.put_after.new.flying
    inside.left.items inside.versions.items c.push.new.self.items inside.tagged c.counted-self-inside.result pk packets hops flying versions more c.self.invariant

pub invariant_of-self-2 : goal.invariant_of-self-2
invariant_of-self-2 c = (is_injected c).1

pub returns-clause-ok : goal.returns-clause-ok
returns-clause-ok c = (
  ap (λ (u : UpdateValue). u.stages) c.self.view_is,
  (is_injected c).0 ∙ ap (λ (u : UpdateValue). record (state_in u) { flight = injected c.args.p.now u.flight }) c.self.view_is,
)
