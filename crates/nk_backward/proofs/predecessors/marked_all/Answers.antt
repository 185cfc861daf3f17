use Rattle.std.proofs.Common.{◌≡◌, ◌<◌, ℕ, length, sym, ◌∙◌, ap, subst, arith}
use Rattle.nk_store.proofs.Stores.{grows_on, grows_same}
use Rattle.std.proofs.lemmas.List.{get_or_default}
use Rattle.nk_sets.proofs.OutEntries.{suits_on}
use Rattle.nk_sets.specs.Outs.{SuitsStore}
use Rattle.nk_sets.specs.declared.outs.OutPackets.{OutPackets}
use Rattle.nk_backward.specs.declared.transitions.Transitions.{Transitions}
use Rattle.nk_backward.specs.Predecessors.{out_at, place_at, AreMarked}
use Rattle.nk_backward.proofs.Tracing.{at_place}
use Rattle.nk_backward.proofs.Marking.{place_here, out_here, marked_start, marked_push}
use Rattle.nk_backward.proofs.predecessors.marked_all.Goals as goal

pub loop-n-init : goal.loop-n-init
loop-n-init c = record {
  grows = grows_same c.args.st.now;
  made = subst (λ ds. AreMarked c.args.st.now c.args.ts.now c.args.places.now 0 c.args.st.now ds) (sym c.new-all.ensures) (marked_start c.args.st.now c.args.ts.now c.args.places.now);
}

pub at-t-requires : goal.at-t-requires
at-t-requires c =
    let l : c.loop-n.n < length c.args.places.now = omega (arith, c.loop-n-test.true, c.len-n-end.ensures) in
    (place_here c.args.ts.now c.args.places.now c.loop-n.n c.at-place.result.now c.requires.places l c.at-place.ensures).0

pub at-q-requires : goal.at-q-requires
at-q-requires c =
    let l : c.loop-n.n < length c.args.places.now = omega (arith, c.loop-n-test.true, c.len-n-end.ensures) in
    let w = place_here c.args.ts.now c.args.places.now c.loop-n.n c.at-place.result.now c.requires.places l c.at-place.ensures in
    subst (λ (t : Transitions). c.at-place.result.now.1 < length t.outs) (sym (at_place c.args.ts.now c.at-place.result.now.0 c.at-t.result.now w.0 c.at-t.ensures)) w.1

pub push_marked-requires-clause-suits_store : goal.push_marked-requires-clause-suits_store
push_marked-requires-clause-suits_store c =
    let l : c.loop-n.n < length c.args.places.now = omega (arith, c.loop-n-test.true, c.len-n-end.ensures) in
    let w = place_here c.args.ts.now c.args.places.now c.loop-n.n c.at-place.result.now c.requires.places l c.at-place.ensures in
    let is = out_here c.args.ts.now c.at-place.result.now c.at-t.result.now c.at-q.result.now w.0 w.1 c.at-t.ensures c.at-q.ensures in
    suits_on c.args.st.now c.loop-n.st c.at-q.result.now c.loop-n.invariant.grows (subst (λ (q : OutPackets). SuitsStore c.args.st.now q) (sym is) (c.requires.suits_store c.at-place.result.now.0 w.0 c.at-place.result.now.1 w.1))

pub loop-n-preserved : goal.loop-n-preserved
loop-n-preserved c =
    let l : c.loop-n.n < length c.args.places.now = omega (arith, c.loop-n-test.true, c.len-n-end.ensures) in
    let w = place_here c.args.ts.now c.args.places.now c.loop-n.n c.at-place.result.now c.requires.places l c.at-place.ensures in
    let is = out_here c.args.ts.now c.at-place.result.now c.at-t.result.now c.at-q.result.now w.0 w.1 c.at-t.ensures c.at-q.ensures in
    let at : c.at-place.result.now ≡ place_at c.args.places.now c.loop-n.n = c.at-place.ensures ∙ get_or_default c.args.places.now c.loop-n.n c.at-place.result.now (0, 0) l in
    record {
      grows = grows_on _ _ _ c.loop-n.invariant.grows c.push_marked.ensures.grows;
      made = marked_push c.args.st.now c.loop-n.st c.push_marked.new.st c.args.ts.now c.args.places.now c.loop-n.n c.at-q.result.now c.loop-n.all c.push_marked.new.all c.loop-n.invariant.grows c.requires.suits_store c.requires.places l
          (is ∙ ap (λ (p : ℕ × ℕ). out_at c.args.ts.now p) at) c.loop-n.invariant.made c.in_ok-push_marked.ensures.ok;
    }

pub returns-clause-ok : goal.returns-clause-ok
returns-clause-ok c =
    let e : c.loop-n.n ≡ length c.args.places.now = omega (arith, c.loop-n-test.false, c.len-n-end.ensures, c.loop-n.auto.n-end) in
    subst (λ (k : ℕ). AreMarked c.args.st.now c.args.ts.now c.args.places.now k c.loop-n.st c.loop-n.all) e c.loop-n.invariant.made
