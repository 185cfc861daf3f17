use Rattle.std.proofs.Common.{◌≡◌, ◌∙◌, ap, sym, true}
use Rattle.std.specs.Prelude.{nat_le}
use Rattle.std.specs.List.{list_all}
use Rattle.nk_topo.specs.Topology.{is_switch}
use Rattle.nk_flight.specs.Updates.{UpdateValue, done_by, all_have_done, may_plan, state_in}
use Rattle.nk_flight.specs.Held.{update_at}
use Rattle.nk_flight.proofs.Holding.{may_remove}
use Rattle.nk_flight.proofs.updating.UpdateFlight.may_plan.Goals as goal

pub returns-then-all_twice : goal.returns-then-all_twice
returns-then-all_twice c =
    let inside = c.self.inside in
    let sw = c.args.switch in
    let u = update_at inside.stages inside.progress inside.packets.items inside.hops inside.flying inside.left.items inside.versions.items in
    let declared : is_switch inside.stages.before.topo sw ≡ true = cc in
    let two : done_by inside.progress.done sw ≡ 2 = cc in
    let all : all_have_done inside.stages 2 (done_by inside.progress.done) ≡ true =
    ap (list_all (λ n. nat_le 2 (done_by inside.progress.done n))) (sym c.self.invariant.switches) ∙ sym c.all_twice.ensures ∙ c.if-all_twice.true in
    may_remove inside.stages (state_in u) sw inside.tagged declared two all c.self.invariant.old_copies
    ∙ ap (λ (v : UpdateValue). may_plan v.stages (state_in v) sw) c.self.view_is
