use Rattle.std.proofs.Common.{◌≡◌, ◌∙◌, [], length, sym, ap, subst}
use Rattle.nk_store.proofs.Stores.{grows_same}
use Rattle.nk_backward.proofs.Listing.{empty_list}
use Rattle.nk_backward.proofs.Tracing.{outs_suit_on}
use Rattle.nk_backward.proofs.Preceding.{predecessors_on}
use Rattle.nk_backward.proofs.Taking.{IsPart, part_start, part_next, part_last}
use Rattle.nk_backward.proofs.Missing.{missing_falls}
use Rattle.nk_backward.proofs.closure.take_all_back.Goals as goal

pub passes-init : goal.passes-init
passes-init c = part_start c.args.st.now c.args.ts.now c.args.back.now c.args.all (grows_same c.args.st.now) c.requires.back c.requires.once c.requires.suits_store c.requires.frontier

pub pass_back-requires-clause-suits_store : goal.pass_back-requires-clause-suits_store
pass_back-requires-clause-suits_store c = outs_suit_on c.args.st.now c.passes.st c.args.ts.now c.passes.invariant.grows c.requires.suits_store

pub pass_back-requires-clause-pre : goal.pass_back-requires-clause-pre
pass_back-requires-clause-pre c = predecessors_on c.args.st.now c.passes.st c.args.ts.now c.args.pre.now.places c.args.pre.now.into.entries c.passes.invariant.grows c.requires.suits_store c.requires.pre

pub returns-then-len-eq0-clause-ok : goal.returns-then-len-eq0-clause-ok
returns-then-len-eq0-clause-ok c =
    let none : c.in_ok-next.next ≡ [] = empty_list c.in_ok-next.next (sym c.len.ensures ∙ c.if-len-eq0.true) in
    let next = part_next c.args.st.now c.passes.st c.pass_back.new.st c.args.ts.now c.args.back.now c.passes.back c.passes.frontier c.pass_back.new.back c.in_ok-next.next c.requires.suits_store c.passes.invariant c.pass_back.ensures.grows c.in_ok-next.ensures.ok in
    part_last c.args.st.now c.pass_back.new.st c.args.ts.now c.args.back.now c.pass_back.new.back c.requires.suits_store
    (subst (λ ps. IsPart c.args.st.now c.args.ts.now c.args.back.now c.pass_back.new.st c.pass_back.new.back ps) none next)

pub passes-smaller : goal.passes-smaller
passes-smaller c =
    missing_falls c.args.st.now.maxes c.passes.st c.pass_back.new.st c.args.ts.now c.passes.frontier c.passes.back c.pass_back.new.back c.in_ok-next.next (sym c.passes.invariant.grows.maxes) c.in_ok-next.ensures.ok
    (λ e. c.if-len-eq0.false (c.len.ensures ∙ ap (λ ps. length ps) e))

pub passes-preserved : goal.passes-preserved
passes-preserved c =
    part_next c.args.st.now c.passes.st c.pass_back.new.st c.args.ts.now c.args.back.now c.passes.back c.passes.frontier c.pass_back.new.back c.in_ok-next.next c.requires.suits_store c.passes.invariant c.pass_back.ensures.grows c.in_ok-next.ensures.ok
