use Rattle.std.proofs.Common.{◌<◌, length, sym, subst}
use Rattle.nk_store.proofs.Stores.{grows_same}
use Rattle.nk_sets.proofs.OutEntries.{entry_at, is_set_at}
use Rattle.nk_sets.specs.Outs.{AllSuitStore}
use Rattle.nk_backward.specs.declared.transitions.Transitions.{Transitions}
use Rattle.nk_backward.specs.Closures.{IsTakenOut}
use Rattle.nk_backward.proofs.Tracing.{at_place}
use Rattle.nk_backward.proofs.Gaining.{found_nothing}
use Rattle.nk_backward.proofs.Taking.{taken_none, taken_one, place_within}
use Rattle.nk_backward.proofs.closure.take_out.Goals as goal

pub returns-in_default-clause-ok : goal.returns-in_default-clause-ok
returns-in_default-clause-ok c =
    found_nothing c.args.st.now c.args.st.now (IsTakenOut c.args.st.now c.args.ts.now c.args.places.now c.args.q.now) c.args.found.now (grows_same c.args.st.now) c.requires.found
    (λ i z w m. absurd (taken_none c.args.st.now c.args.ts.now c.args.places.now c.args.q.now i z (c.place_of.ensures.none c.in_default.is) m))

pub at-t-requires : goal.at-t-requires
at-t-requires c = (place_within c.args.ts.now c.args.places.now c.args.q.now c.in-Some.place c.requires.places c.in-Some.ensures.some).0

pub at-o-requires : goal.at-o-requires
at-o-requires c =
    let w = place_within c.args.ts.now c.args.places.now c.args.q.now c.in-Some.place c.requires.places c.in-Some.ensures.some in
    subst (λ (t : Transitions). c.in-Some.place.1 < length t.outs) (sym (at_place c.args.ts.now c.in-Some.place.0 c.at-t.result.now w.0 c.at-t.ensures)) w.1

pub preimage_by_out-requires-clause-from : goal.preimage_by_out-requires-clause-from
preimage_by_out-requires-clause-from c =
    let w = place_within c.args.ts.now c.args.places.now c.args.q.now c.in-Some.place c.requires.places c.in-Some.ensures.some in
    let t_is = at_place c.args.ts.now c.in-Some.place.0 c.at-t.result.now w.0 c.at-t.ensures in
    let l : c.in-Some.place.1 < length c.at-t.result.now.outs = subst (λ (t : Transitions). c.in-Some.place.1 < length t.outs) (sym t_is) w.1 in
    is_set_at c.args.st.now c.at-t.result.now.outs c.in-Some.place.1 c.at-o.result.now (subst (λ (t : Transitions). AllSuitStore c.args.st.now t.outs) (sym t_is) (c.requires.suits_store c.in-Some.place.0 w.0)) l c.at-o.ensures

pub returns-clause-ok : goal.returns-clause-ok
returns-clause-ok c =
    let w = place_within c.args.ts.now c.args.places.now c.args.q.now c.in-Some.place c.requires.places c.in-Some.ensures.some in
    let t_is = at_place c.args.ts.now c.in-Some.place.0 c.at-t.result.now w.0 c.at-t.ensures in
    let l : c.in-Some.place.1 < length c.at-t.result.now.outs = subst (λ (t : Transitions). c.in-Some.place.1 < length t.outs) (sym t_is) w.1 in
    taken_one c.args.st.now c.preimage_by_out.new.st c.args.ts.now c.args.places.now c.args.q.now c.in-Some.place c.at-t.result.now c.at-o.result.now c.in_ok-led.led c.args.found.now c.push.new.self
    c.preimage_by_out.ensures.grows c.requires.found c.in-Some.ensures.some t_is (entry_at c.at-t.result.now.outs c.in-Some.place.1 c.at-o.result.now l c.at-o.ensures) c.in_ok-led.ensures.ok c.in_ok-push.ensures.ok
