use Rattle.std.proofs.Common.{◌≡◌, ◌∙◌, ap, sym, subst, true, Contains}
use Rattle.nk_update.proofs.Lookup.{both_passed}
use Rattle.nk_flight.specs.Updates.{UpdateValue, may_plan, planned, may_go_on, state_in, done_by}
use Rattle.nk_topo.specs.Topology.{is_switch}
use Rattle.nk_flight.specs.Held.{update_at}
use Rattle.nk_flight.proofs.Counting.{among_numbers}
use Rattle.nk_flight.proofs.Holding.{planned_held}
use Rattle.nk_flight.proofs.updating.UpdateFlight.plan_step.Goals as goal

pub add_one-requires-clause-there : goal.add_one-requires-clause-there
add_one-requires-clause-there c =
    let inside = c.self.inside in
    let sw = c.args.switch in
    let u = update_at inside.stages inside.progress inside.packets.items inside.hops inside.flying inside.left.items inside.versions.items in
    let may : may_plan inside.stages (state_in u) sw ≡ true = ap (λ (v : UpdateValue). may_plan v.stages (state_in v) sw) c.self.view_is ∙ c.requires in
    let both = both_passed (is_switch inside.stages.before.topo sw) (may_go_on inside.stages (state_in u) (done_by inside.progress.done sw)) may in
    subst (λ l. Contains l sw) (sym c.self.invariant.switches) (among_numbers inside.stages.before.topo.switches sw both.0)

pub returns : goal.returns
returns c =
    let inside = c.self.inside in
    let sw = c.args.switch in
    let u = update_at inside.stages inside.progress inside.packets.items inside.hops inside.flying inside.left.items inside.versions.items in
    let may : may_plan inside.stages (state_in u) sw ≡ true = ap (λ (v : UpdateValue). may_plan v.stages (state_in v) sw) c.self.view_is ∙ c.requires in (
      ap (λ (v : UpdateValue). v.stages) c.self.view_is,
      planned_held inside.stages inside.progress c.add_one.new.self inside.packets.items inside.hops inside.flying inside.left.items inside.versions.items sw c.add_one.ensures.counts may
          ∙ ap (λ (v : UpdateValue). planned v.stages sw (state_in v)) c.self.view_is,
    )
