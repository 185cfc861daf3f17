use Rattle.std.proofs.Common.{◌∙◌, ap, sym, take}
use Rattle.std.proofs.lemmas.List.{take-map}
use Rattle.nk_flight.specs.HopLists.{hop_held, hops_held}
use Rattle.nk_flight.proofs.hop_list.HopList.truncate.Goals as goal

pub returns : goal.returns
returns c =
    ap (hops_held c.self.inside.packets) c.truncate.ensures.items
    ∙ sym (take-map (hop_held c.self.inside.packets) c.args.count c.self.inside.hops.items)
    ∙ ap (take c.args.count) c.self.view_is
