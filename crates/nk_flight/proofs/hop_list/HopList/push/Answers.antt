use Rattle.std.proofs.Common.{◌++◌, ◌∷◌, [], ◌∙◌, ap, sym, subst, length}
use Rattle.std.specs.Prelude.{All}
use Rattle.nk_flight.specs.HopLists.{hops_held, IsHeldAmong}
use Rattle.nk_flight.proofs.HopLists.{hops_stay, twice_stay, twice_among, pushed, err_anyway}
use Rattle.nk_flight.proofs.hop_list.HopList.push.Goals as goal

pub returns-in_err-before-clause-err : goal.returns-in_err-before-clause-err
returns-in_err-before-clause-err c =
    let more = c.place_of.ensures.more in
    err_anyway c.from_residual.result _
    (hops_stay c.self.inside.packets c.place_of.new.self more.0 c.self.inside.hops.items more.1 c.self.invariant ∙ c.self.view_is)

pub returns-in_err-packet-clause-err : goal.returns-in_err-packet-clause-err
returns-in_err-packet-clause-err c =
    let more = c.place_of.ensures.more in
    let rest = c.place_of-2.ensures.more in
    err_anyway c.from_residual-in_err-packet.result _
    (twice_stay c.self.inside.packets c.place_of.new.self c.place_of-2.new.self more.0 rest.0 more.1 rest.1 c.self.inside.hops.items c.self.invariant ∙ c.self.view_is)

pub invariant_of-self-in_err-push : goal.invariant_of-self-in_err-push
invariant_of-self-in_err-push c =
    let more = c.place_of.ensures.more in
    let rest = c.place_of-2.ensures.more in
    subst (All (IsHeldAmong (length c.place_of-2.new.self))) (sym c.in_err-push.ensures.items)
    (twice_among c.self.inside.packets c.place_of.new.self c.place_of-2.new.self more.0 rest.0 more.1 rest.1 c.self.inside.hops.items c.self.invariant)

pub returns-in_err-push-clause-err : goal.returns-in_err-push-clause-err
returns-in_err-push-clause-err c =
    let more = c.place_of.ensures.more in
    let rest = c.place_of-2.ensures.more in
    err_anyway c.from_residual-in_err-push.result _
    (ap (hops_held c.place_of-2.new.self) c.in_err-push.ensures.items
    ∙ twice_stay c.self.inside.packets c.place_of.new.self c.place_of-2.new.self more.0 rest.0 more.1 rest.1 c.self.inside.hops.items c.self.invariant
    ∙ c.self.view_is)

pub invariant_of-self-2 : goal.invariant_of-self-2
invariant_of-self-2 c =
    let more = c.place_of.ensures.more in
    let rest = c.place_of-2.ensures.more in
    (pushed c.self.inside.packets c.place_of.new.self c.place_of-2.new.self more.0 rest.0 more.1 rest.1 c.self.inside.hops.items c.push.new.self.items c.args.hop.now
    c.in_ok-before.before c.in_ok-packet.packet c.in_ok-before.ensures.place c.in_ok-packet.ensures.place c.self.invariant c.in_ok-push.ensures.items).1

pub returns-clause-ok : goal.returns-clause-ok
returns-clause-ok c =
    let more = c.place_of.ensures.more in
    let rest = c.place_of-2.ensures.more in
    (pushed c.self.inside.packets c.place_of.new.self c.place_of-2.new.self more.0 rest.0 more.1 rest.1 c.self.inside.hops.items c.push.new.self.items c.args.hop.now
    c.in_ok-before.before c.in_ok-packet.packet c.in_ok-before.ensures.place c.in_ok-packet.ensures.place c.self.invariant c.in_ok-push.ensures.items).0
    ∙ ap (λ l. l ++ c.args.hop.now ∷ []) c.self.view_is
