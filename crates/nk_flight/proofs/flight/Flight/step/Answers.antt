use Rattle.std.proofs.Common.{◌≡◌, ◌∙◌, ap, sym, subst, length, ◌<◌, ◌++◌, List, Some}
use Rattle.std.specs.Prelude.{remove, slice_get, slice_index_or}
use Rattle.std.specs.List.{flat_map, range_with_len}
use Rattle.std.proofs.lemmas.List.{get_or_default, length-map}
use Rattle.std.proofs.lemmas.List.Edits.{remove-append_left}
use Rattle.nk_table.specs.Rules.{sent_for}
use Rattle.nk_flight.specs.declared.hops.Hop.{Hop}
use Rattle.nk_flight.specs.Flights.{FlightState, stepped, left_next}
use Rattle.nk_flight.specs.Trails.{hop_at, hop_of, copy_at, copies_at, state_of_trails, IsSound}
use Rattle.nk_flight.proofs.Reached.{got_at, stepped_sound}
use Rattle.nk_flight.proofs.flight.Flight.step.Goals as goal
use Rattle.nk_flight.proofs.flight.Flight.step.Goals.{After-drop-all-3}

-- the fields are those after the step
is_stepped : (c : After-drop-all-3)
    → (state_of_trails c.self.inside.tables c.self.inside.packets.items c.put_after.new.hops c.take.new.self c.append.new.self.items
    ≡ stepped c.args.i (state_of_trails c.self.inside.tables c.self.inside.packets.items c.self.inside.hops c.self.inside.flying c.self.inside.left.items))
    × IsSound c.self.inside.tables c.self.inside.packets.items c.put_after.new.hops c.take.new.self c.append.new.self.items
is_stepped c =
    let inside = c.self.inside in
    let t = inside.tables in
    let hs = inside.hops in
    let places = inside.flying in
    let i = c.args.i in
    let p = c.at-place.result in
    let next = c.in_ok-all.all.next.items in
    let whole : i < length (copies_at t.fields hs places) =
    subst (λ (s : FlightState). i < length s.flying) (sym c.self.view_is) c.requires in
    let lt : i < length places = subst (λ n. i < n) (length-map places (λ j. copy_at t.fields hs (hop_at hs j))) whole in
    let held : p ≡ slice_index_or places i p = c.at-place.ensures ∙ get_or_default places i 0 p lt in
    let here : slice_get places i ≡ Some p = got_at places i p lt held in
    let there : p < length hs = subst (λ j. j < length hs) (sym held) (c.self.invariant.0.there i p lt) in
    let made : next ≡ flat_map (hop_of t p (hop_at hs p)) (sent_for t (hop_at hs p).packet) = c.in_ok-all.ensures.next in
    let put : c.as_slice.result.now ≡ next = c.as_slice.ensures.value in
    let grown : c.put_after.new.hops ≡ hs ++ next = c.in_ok-put_after.ensures.hops ∙ ap (λ l. hs ++ l) put in
    let flying : c.take.new.self ≡ remove places i ++ range_with_len (length hs) (length next) =
    c.take.ensures
    ∙ ap (λ l. remove l i) (c.in_ok-put_after.ensures.flying ∙ ap (λ (l : List Hop). places ++ range_with_len (length hs) (length l)) put)
    ∙ remove-append_left places (range_with_len (length hs) (length next)) i lt in
    let gone : c.append.new.self.items ≡ inside.left.items ++ left_next t (copy_at t.fields hs (hop_at hs p)) =
    (rw c.unwrap.ensures at c.append.ensures.items)
    ∙ (λ j. c.in_ok-reserve.ensures.items j ++ c.in_ok-all.ensures.left j) in
    stepped_sound t inside.packets.items hs c.put_after.new.hops next places c.take.new.self inside.left.items c.append.new.self.items i p
    c.self.invariant.0 here there made grown flying gone

pub invariant_of-self-2 : goal.invariant_of-self-2
invariant_of-self-2 c = ((is_stepped c).1, c.self.invariant.1)

pub returns-clause-ok : goal.returns-clause-ok
returns-clause-ok c = (is_stepped c).0 ∙ ap (stepped c.args.i) c.self.view_is
