use Rattle.std.proofs.Common.{◌<◌, ◌+◌, ◌∙◌, ℕ, List, ◌∷◌, sym, subst, ap, arith, drop, get_or, get_or-set_other}
use Rattle.std.proofs.lemmas.List.{drop_all}
use Rattle.nk_store.specs.StoreState.{IsChild}
use Rattle.nk_sets.specs.PacketSets.{IsLeastPacket}
use Rattle.nk_store.proofs.Children.{rest_is, item_has}
use Rattle.nk_sets.proofs.LeastPackets.{Reached, reached_more, reached_all, least_part}
use Rattle.nk_sets.proofs.least_packets.+lowest.Goals as goal

pub lowest_part-lowest-requires : goal.lowest_part-lowest-requires
lowest_part-lowest-requires t c =
    let p = c.loop-end-item.result in
    let below : p.1 < c.args.s = item_has (λ k. k < c.args.s) c.args.parts.now c.loop-end.end-index p c.loop-end-test.true c.loop-end-item.is c.requires.below in
    let child : IsChild c.args.st.now c.args.f p.1 = item_has (IsChild c.args.st.now c.args.f) c.args.parts.now c.loop-end.end-index p c.loop-end-test.true c.loop-end-item.is c.requires.parts_ok.children in
    (omega (arith, below, c.decreases), child.id)

pub lowest_part-overflow_cast-from : goal.lowest_part-overflow_cast-from
lowest_part-overflow_cast-from t c =
    let here : Reached c.args.st.now c.args.s c.args.f c.args.parts.now c.loop-end.from (c.loop-end-item.result ∷ drop (c.loop-end.end-index + 1) c.args.parts.now) =
    subst (Reached c.args.st.now c.args.s c.args.f c.args.parts.now c.loop-end.from) (rest_is c.args.parts.now c.loop-end.end-index c.loop-end-item.result c.loop-end-test.true c.loop-end-item.is) c.loop-end.invariant in
    omega (arith, here.rise.0, here.rise.1, c.max-most.ensures, c.max-most.type_inv)

pub lowest_part-returns-in-Some-clause-some : goal.lowest_part-returns-in-Some-clause-some
lowest_part-returns-in-Some-clause-some t c =
    subst (IsLeastPacket c.args.st.now c.args.s) (sym c.with_value.ensures)
    (least_part c.args.st.now c.args.s c.args.f c.args.parts.now c.loop-end.from c.loop-end-item.result (drop (c.loop-end.end-index + 1) c.args.parts.now) c.in-Some.pk c.requires c.laws-laws.ensures.still
    (subst (Reached c.args.st.now c.args.s c.args.f c.args.parts.now c.loop-end.from) (rest_is c.args.parts.now c.loop-end.end-index c.loop-end-item.result c.loop-end-test.true c.loop-end-item.is) c.loop-end.invariant)
    c.in-Some.ensures.some c.in-Some.ensures.zeros)

pub lowest_part-returns-in-Some-clause-zeros : goal.lowest_part-returns-in-Some-clause-zeros
lowest_part-returns-in-Some-clause-zeros t c = λ k less.
    let p = c.loop-end-item.result in
    let child : IsChild c.args.st.now c.args.f p.1 = item_has (IsChild c.args.st.now c.args.f) c.args.parts.now c.loop-end.end-index p c.loop-end-test.true c.loop-end-item.is c.requires.parts_ok.children in
    let later = child.later in
    let root_field_is = c.requires.root_field_is in
    ap (λ (l : List ℕ). get_or l k 0) c.with_value.ensures
    ∙ get_or-set_other c.in-Some.pk c.args.f k c.loop-end.from 0 (λ e. omega (arith, e, less, root_field_is))
    ∙ c.in-Some.ensures.zeros k (omega (arith, less, root_field_is, later))

pub lowest_part-loop-end-preserved : goal.lowest_part-loop-end-preserved
lowest_part-loop-end-preserved t c =
    reached_more c.args.st.now c.args.s c.args.f c.args.parts.now c.loop-end.from c.loop-end-item.result (drop (c.loop-end.end-index + 1) c.args.parts.now)
    (subst (Reached c.args.st.now c.args.s c.args.f c.args.parts.now c.loop-end.from) (rest_is c.args.parts.now c.loop-end.end-index c.loop-end-item.result c.loop-end-test.true c.loop-end-item.is) c.loop-end.invariant)
    c.in_default.ensures.none

pub lowest_part-returns-clause-none : goal.lowest_part-returns-clause-none
lowest_part-returns-clause-none t c =
    reached_all c.args.st.now c.args.s c.args.f c.args.parts.now c.loop-end.from c.requires
    (subst (Reached c.args.st.now c.args.s c.args.f c.args.parts.now c.loop-end.from) (drop_all c.loop-end.end-index c.args.parts.now c.loop-end-test.false) c.loop-end.invariant)
