use Rattle.std.proofs.Common.{◌+◌, ◌∙◌, sym, subst, ap}
use Rattle.std.proofs.lemmas.Result.{IfOk-weaker}
use Rattle.nk_store.proofs.Stores.{grows_on}
use Rattle.nk_store.specs.Nodes.{child_at}
use Rattle.nk_store.specs.StoreState.{look}
use Rattle.nk_algebra.specs.Choices.{AreChoices}
use Rattle.nk_apply.specs.Seqs.{seq_leaf}
use Rattle.nk_apply.proofs.Turned.{set_within}
use Rattle.nk_algebra.proofs.Chosen.{Serving, value_leaf, value_push, value_choices, value_all, value_made}
use Rattle.nk_apply.proofs.Sequences.{seq_made}
use Rattle.nk_apply.proofs.Shorts.{leaves_grown}
use Rattle.nk_algebra.proofs.seqs.+seq.Goals as goal

pub seq_case-returns-clause-ok : goal.seq_case-returns-clause-ok
seq_case-returns-clause-ok t c = IfOk-weaker c.choose.result _ _
    (λ d h. value_made (λ pk x. seq_leaf x (look c.args.st.now c.args.b) pk) c.args.st.now c.seq_parts.new.st c.choose.new.st c.args.f c.args.a d c.in_ok-parts.parts c.requires.split c.in_ok-parts.ensures.ok h) c.choose.ensures.ok

pub seq_parts-returns-then-end-max-clause-parts : goal.seq_parts-returns-then-end-max-clause-parts
seq_parts-returns-then-end-max-clause-parts t c =
    let all = value_push (λ pk x. seq_leaf x (look c.args.st.now c.args.b) pk) c.args.st.now c.loop-parts.st c.sequence.new.st c.args.f c.args.a c.loop-parts.from c.loop-parts.parts c.part_near-end.result c.in_ok-made.made
    c.loop-parts.invariant.made c.loop-parts.invariant.grows c.sequence.ensures.grows c.requires.left c.requires.split c.part_near-end.ensures
    (seq_made c.args.st.now c.loop-parts.st c.sequence.new.st c.args.b c.part_near-end.result.1 c.in_ok-made.made c.loop-parts.invariant.grows c.requires.right c.in_ok-made.ensures.ok) in
    subst (AreChoices c.sequence.new.st c.args.f) (sym c.in_ok-push.ensures.ok)
    (value_choices (value_leaf (λ pk x. seq_leaf x (look c.args.st.now c.args.b) pk) c.args.st.now c.args.f c.args.a) c.args.st.now c.sequence.new.st c.args.f c.part_near-end.result.0 _ (grows_on _ _ _ c.loop-parts.invariant.grows c.sequence.ensures.grows) all c.requires.field (c.if-end-max.true ∙ c.max-max.ensures))

pub seq_parts-returns-then-end-max-clause-ok : goal.seq_parts-returns-then-end-max-clause-ok
seq_parts-returns-then-end-max-clause-ok t c = λ v pk w.
    let all = value_push (λ pk x. seq_leaf x (look c.args.st.now c.args.b) pk) c.args.st.now c.loop-parts.st c.sequence.new.st c.args.f c.args.a c.loop-parts.from c.loop-parts.parts c.part_near-end.result c.in_ok-made.made
    c.loop-parts.invariant.made c.loop-parts.invariant.grows c.sequence.ensures.grows c.requires.left c.requires.split c.part_near-end.ensures
    (seq_made c.args.st.now c.loop-parts.st c.sequence.new.st c.args.b c.part_near-end.result.1 c.in_ok-made.made c.loop-parts.invariant.grows c.requires.right c.in_ok-made.ensures.ok) in
    ap (λ ps. look c.sequence.new.st (child_at 0 ps v) pk) c.in_ok-push.ensures.ok
    ∙ value_all (λ pk x. seq_leaf x (look c.args.st.now c.args.b) pk) c.args.st.now c.sequence.new.st c.args.f c.args.a c.part_near-end.result.0 _ all c.requires.split (c.if-end-max.true ∙ c.max-max.ensures) v pk w

pub seq_parts-loop-parts-preserved : goal.seq_parts-loop-parts-preserved
seq_parts-loop-parts-preserved t c =
    let all = value_push (λ pk x. seq_leaf x (look c.args.st.now c.args.b) pk) c.args.st.now c.loop-parts.st c.sequence.new.st c.args.f c.args.a c.loop-parts.from c.loop-parts.parts c.part_near-end.result c.in_ok-made.made
    c.loop-parts.invariant.made c.loop-parts.invariant.grows c.sequence.ensures.grows c.requires.left c.requires.split c.part_near-end.ensures
    (seq_made c.args.st.now c.loop-parts.st c.sequence.new.st c.args.b c.part_near-end.result.1 c.in_ok-made.made c.loop-parts.invariant.grows c.requires.right c.in_ok-made.ensures.ok) in
    record {
      grows = grows_on _ _ _ c.loop-parts.invariant.grows c.sequence.ensures.grows;
      within = set_within c.args.st.now c.loop-parts.st c.args.f c.args.a c.loop-parts.from c.max-max.result c.part_near-end.result c.part_near-end.ensures c.loop-parts.invariant.grows c.max-max.ensures c.if-end-max.false;
      made = subst (Serving (value_leaf (λ pk x. seq_leaf x (look c.args.st.now c.args.b) pk) c.args.st.now c.args.f c.args.a) c.sequence.new.st c.args.f (c.part_near-end.result.0 + 1)) (sym c.in_ok-push.ensures.ok) all;
    }

pub sequence-returns-in_err-keep-clause-grows : goal.sequence-returns-in_err-keep-clause-grows
sequence-returns-in_err-keep-clause-grows t c = grows_on _ _ _ c.sequence_anew.ensures.grows c.keep.ensures.grows

pub sequence-returns-clause-grows : goal.sequence-returns-clause-grows
sequence-returns-clause-grows t c = grows_on _ _ _ c.sequence_anew.ensures.grows c.keep.ensures.grows

pub sequence-returns-clause-ok : goal.sequence-returns-clause-ok
sequence-returns-clause-ok t c = leaves_grown _ _ c.in_ok-d.d _ c.keep.ensures.grows c.in_ok-d.ensures.ok

pub seq_case-returns-clause-grows : goal.seq_case-returns-clause-grows
seq_case-returns-clause-grows t c = grows_on _ _ _ c.seq_parts.ensures.grows c.choose.ensures.grows

pub seq_parts-returns-in_err-made-clause-grows : goal.seq_parts-returns-in_err-made-clause-grows
seq_parts-returns-in_err-made-clause-grows t c = grows_on _ _ _ c.loop-parts.invariant.grows c.sequence.ensures.grows

pub seq_parts-returns-in_err-push-clause-grows : goal.seq_parts-returns-in_err-push-clause-grows
seq_parts-returns-in_err-push-clause-grows t c = grows_on _ _ _ c.loop-parts.invariant.grows c.sequence.ensures.grows

pub seq_parts-returns-then-end-max-clause-grows : goal.seq_parts-returns-then-end-max-clause-grows
seq_parts-returns-then-end-max-clause-grows t c = grows_on _ _ _ c.loop-parts.invariant.grows c.sequence.ensures.grows
