use Rattle.std.proofs.Common.{◌≡◌, ◌∙◌, ◌+◌, ap, arith}
use Rattle.std.specs.List.{flat_map}
use Rattle.nk_table.specs.Rules.{sent_for}
use Rattle.nk_flight.specs.declared.hops.Hop.{Hop}
use Rattle.nk_flight.specs.Flights.{left_leaving}
use Rattle.nk_flight.specs.Trails.{hop_at, copy_at}
use Rattle.nk_flight.proofs.Steps.{left_is}
use Rattle.nk_flight.proofs.Trails.{few_crossings}
use Rattle.nk_flight.proofs.hops.handle.Goals as goal

pub cross-requires : goal.cross-requires
cross-requires c =
    let few = few_crossings c.args.hops.now c.requires.hops (c.args.place + 1) c.args.place (omega arith) c.requires.there in
    let same : c.at-hop.result.crossings ≡ (hop_at c.args.hops.now c.args.place).crossings = ap (λ (h : Hop). h.crossings) c.at-hop.ensures in
    omega (arith, few, same, c.requires.there, c.len-held.ensures.few)

pub returns-clause-left : goal.returns-clause-left
returns-clause-left c =
    let t = c.args.t.now in
    let f = copy_at t.fields c.args.hops.now (hop_at c.args.hops.now c.args.place) in
    c.in_ok-left.ensures
    ∙ ap (flat_map (left_leaving t f)) (c.as_slice-2.ensures.value ∙ c.in_ok-sent.ensures ∙ ap (λ (h : Hop). sent_for t h.packet) c.at-hop.ensures)
    ∙ left_is t f
