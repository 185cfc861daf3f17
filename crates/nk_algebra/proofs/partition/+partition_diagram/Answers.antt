use Rattle.std.proofs.Common.{◌≡◌, ◌+◌, ◌∙◌, sym, subst, ap, arith}
use Rattle.std.proofs.lemmas.Bool.Decides.{nat_tests}
use Rattle.std.proofs.lemmas.Result.{IfOk-weaker}
use Rattle.nk_store.specs.Nodes.{child_at}
use Rattle.nk_store.specs.StoreState.{look}
use Rattle.nk_store.proofs.Stores.{grows_on}
use Rattle.nk_algebra.specs.Choices.{AreChoices}
use Rattle.nk_apply.proofs.Built.{end_within}
use Rattle.nk_algebra.proofs.Chosen.{Serving, value_choices, value_leaf, value_push, value_all, value_made}
use Rattle.nk_apply.specs.Seqs.{seq_leaf}
use Rattle.nk_apply.proofs.Sequences.{seq_made}
use Rattle.nk_apply.proofs.Turned.{set_within}
use Rattle.nk_algebra.proofs.Reaches.{ending_made}
use Rattle.nk_algebra.proofs.Splits.{kept_leaf, kept_push, kept_all, kept_made, kept_whole, partition_made, moved_made, split_first}
use Rattle.nk_algebra.proofs.partition.+partition_diagram.Goals as goal

pub seq_partition-returns-clause-ok : goal.seq_partition-returns-clause-ok
seq_partition-returns-clause-ok t c = IfOk-weaker c.union_later.result _ _
    (λ d h. partition_made c.args.st.now c.keeping.new.st c.seq_kept.new.st c.seq_moved.new.st c.union_later.new.st c.args.f c.args.a c.args.b c.in_ok-kept.kept c.in_ok-right.right c.in_ok-left.left d
    c.requires.left c.requires.right c.keeping.ensures.grows c.seq_kept.ensures.grows c.seq_moved.ensures.grows
    c.in_ok-kept.ensures.ok c.in_ok-right.ensures.ok c.in_ok-left.ensures.ok h) c.union_later.ensures.ok

pub seq_partition-returns-then-eq-clause-ok : goal.seq_partition-returns-then-eq-clause-ok
seq_partition-returns-then-eq-clause-ok t c =
    let same : c.in_ok-kept.kept ≡ c.args.a = grind (arith, nat_tests, c.eq.ensures, c.if-eq.true) in
    kept_whole c.args.st.now c.keeping.new.st c.seq_kept.new.st c.args.a c.args.b c.in_ok-kept.kept c.in_ok-right.right
    c.requires.left c.requires.right c.keeping.ensures.grows same c.in_ok-right.ensures.ok

pub seq_partition-returns-then-eq-clause-grows : goal.seq_partition-returns-then-eq-clause-grows
seq_partition-returns-then-eq-clause-grows t c = grows_on _ _ _ c.keeping.ensures.grows c.seq_kept.ensures.grows

pub seq_kept-returns-clause-ok : goal.seq_kept-returns-clause-ok
seq_kept-returns-clause-ok t c = IfOk-weaker c.choose.result _ _
    (λ d h. kept_made c.args.st.now c.kept_parts.new.st c.choose.new.st c.args.f c.args.a c.args.b d c.in_ok-parts.parts
    (split_first c.args.st.now c.args.f c.args.a c.requires.left c.laws.ensures.nodes c.requires.first c.requires.field)
    (split_first c.args.st.now c.args.f c.args.b c.requires.right c.laws.ensures.nodes c.requires.second c.requires.field)
    c.requires.keep c.in_ok-parts.ensures.ok h) c.choose.ensures.ok

pub kept_parts-returns-then-end-max-clause-parts : goal.kept_parts-returns-then-end-max-clause-parts
kept_parts-returns-then-end-max-clause-parts t c =
    let left = split_first c.args.st.now c.args.f c.args.a c.requires.left c.laws.ensures.nodes c.requires.first c.requires.field in
    let right = split_first c.args.st.now c.args.f c.args.b c.requires.right c.laws.ensures.nodes c.requires.second c.requires.field in
    let all = kept_push c.args.st.now c.loop-parts.st c.seq_leaves.new.st c.args.f c.args.a c.args.b c.loop-parts.from c.loop-parts.parts c.part_near-end_a.result c.part_near-end_b.result c.in_ok-made.made c.min-end.result
    c.loop-parts.invariant.made c.loop-parts.invariant.grows c.seq_leaves.ensures.grows c.requires.left c.requires.right left right c.part_near-end_a.ensures c.part_near-end_b.ensures c.min-end.ensures c.in_ok-made.ensures.ok in
    subst (AreChoices c.seq_leaves.new.st c.args.f) (sym c.in_ok-push.ensures.ok)
    (value_choices (kept_leaf c.args.st.now c.args.f c.args.a c.args.b) c.args.st.now c.seq_leaves.new.st c.args.f c.min-end.result _ (grows_on _ _ _ c.loop-parts.invariant.grows c.seq_leaves.ensures.grows) all c.requires.field (c.if-end-max.true ∙ c.max-max.ensures))

pub kept_parts-returns-then-end-max-clause-ok : goal.kept_parts-returns-then-end-max-clause-ok
kept_parts-returns-then-end-max-clause-ok t c = λ v pk w.
    let left = split_first c.args.st.now c.args.f c.args.a c.requires.left c.laws.ensures.nodes c.requires.first c.requires.field in
    let right = split_first c.args.st.now c.args.f c.args.b c.requires.right c.laws.ensures.nodes c.requires.second c.requires.field in
    let all = kept_push c.args.st.now c.loop-parts.st c.seq_leaves.new.st c.args.f c.args.a c.args.b c.loop-parts.from c.loop-parts.parts c.part_near-end_a.result c.part_near-end_b.result c.in_ok-made.made c.min-end.result
    c.loop-parts.invariant.made c.loop-parts.invariant.grows c.seq_leaves.ensures.grows c.requires.left c.requires.right left right c.part_near-end_a.ensures c.part_near-end_b.ensures c.min-end.ensures c.in_ok-made.ensures.ok in
    ap (λ ps. look c.seq_leaves.new.st (child_at 0 ps v) pk) c.in_ok-push.ensures.ok
    ∙ kept_all c.args.st.now c.seq_leaves.new.st c.args.f c.args.a c.args.b c.min-end.result _ all left right (c.if-end-max.true ∙ c.max-max.ensures) v pk w

pub kept_parts-loop-parts-preserved : goal.kept_parts-loop-parts-preserved
kept_parts-loop-parts-preserved t c =
    let left = split_first c.args.st.now c.args.f c.args.a c.requires.left c.laws.ensures.nodes c.requires.first c.requires.field in
    let right = split_first c.args.st.now c.args.f c.args.b c.requires.right c.laws.ensures.nodes c.requires.second c.requires.field in
    let all = kept_push c.args.st.now c.loop-parts.st c.seq_leaves.new.st c.args.f c.args.a c.args.b c.loop-parts.from c.loop-parts.parts c.part_near-end_a.result c.part_near-end_b.result c.in_ok-made.made c.min-end.result
    c.loop-parts.invariant.made c.loop-parts.invariant.grows c.seq_leaves.ensures.grows c.requires.left c.requires.right left right c.part_near-end_a.ensures c.part_near-end_b.ensures c.min-end.ensures c.in_ok-made.ensures.ok in
    record {
      grows = grows_on _ _ _ c.loop-parts.invariant.grows c.seq_leaves.ensures.grows;
      within = end_within c.args.st.now c.loop-parts.st c.args.f c.args.a c.loop-parts.from c.min-end.result c.max-max.result c.part_near-end_a.result c.part_near-end_b.result c.part_near-end_a.ensures c.min-end.ensures c.loop-parts.invariant.grows c.max-max.ensures c.if-end-max.false;
      made = subst (Serving (kept_leaf c.args.st.now c.args.f c.args.a c.args.b) c.seq_leaves.new.st c.args.f (c.min-end.result + 1)) (sym c.in_ok-push.ensures.ok) all;
    }

pub seq_moved-returns-clause-ok : goal.seq_moved-returns-clause-ok
seq_moved-returns-clause-ok t c =
    let s1 = c.map_leaves.new.st in
    let split = split_first s1 c.args.f c.in_ok-moved.moved c.in_ok-moved.ensures.ok.id c.laws.ensures.nodes (omega (arith, c.requires.first, c.in_ok-moved.ensures.later)) c.requires.field in
    IfOk-weaker c.choose.result _ _
    (λ d h. moved_made c.args.st.now s1 c.choose.new.st c.args.f c.args.a c.args.b c.in_ok-moved.moved d c.requires.right
    c.map_leaves.ensures.grows c.in_ok-moved.ensures.ok
    (value_made (λ pk x. seq_leaf x (look s1 c.args.b) pk) s1 c.moved_parts.new.st c.choose.new.st c.args.f c.in_ok-moved.moved d c.in_ok-parts.parts split c.in_ok-parts.ensures.ok h)) c.choose.ensures.ok

pub moved_parts-returns-then-end-max-clause-parts : goal.moved_parts-returns-then-end-max-clause-parts
moved_parts-returns-then-end-max-clause-parts t c =
    let split = split_first c.args.st.now c.args.f c.args.a c.requires.left c.laws.ensures.nodes c.requires.first c.requires.field in
    let all = value_push (λ pk x. seq_leaf x (look c.args.st.now c.args.b) pk) c.args.st.now c.loop-parts.st c.seq_to_values.new.st c.args.f c.args.a c.loop-parts.from c.loop-parts.parts c.part_near-end.result c.in_ok-made.made
    c.loop-parts.invariant.made c.loop-parts.invariant.grows c.seq_to_values.ensures.grows c.requires.left split c.part_near-end.ensures
    (seq_made c.args.st.now c.loop-parts.st c.seq_to_values.new.st c.args.b c.part_near-end.result.1 c.in_ok-made.made c.loop-parts.invariant.grows c.requires.right c.in_ok-made.ensures.ok) in
    subst (AreChoices c.seq_to_values.new.st c.args.f) (sym c.in_ok-push.ensures.ok)
    (value_choices (value_leaf (λ pk x. seq_leaf x (look c.args.st.now c.args.b) pk) c.args.st.now c.args.f c.args.a) c.args.st.now c.seq_to_values.new.st c.args.f c.part_near-end.result.0 _ (grows_on _ _ _ c.loop-parts.invariant.grows c.seq_to_values.ensures.grows) all c.requires.field (c.if-end-max.true ∙ c.max-max.ensures))

pub moved_parts-returns-then-end-max-clause-ok : goal.moved_parts-returns-then-end-max-clause-ok
moved_parts-returns-then-end-max-clause-ok t c = λ v pk w.
    let split = split_first c.args.st.now c.args.f c.args.a c.requires.left c.laws.ensures.nodes c.requires.first c.requires.field in
    let all = value_push (λ pk x. seq_leaf x (look c.args.st.now c.args.b) pk) c.args.st.now c.loop-parts.st c.seq_to_values.new.st c.args.f c.args.a c.loop-parts.from c.loop-parts.parts c.part_near-end.result c.in_ok-made.made
    c.loop-parts.invariant.made c.loop-parts.invariant.grows c.seq_to_values.ensures.grows c.requires.left split c.part_near-end.ensures
    (seq_made c.args.st.now c.loop-parts.st c.seq_to_values.new.st c.args.b c.part_near-end.result.1 c.in_ok-made.made c.loop-parts.invariant.grows c.requires.right c.in_ok-made.ensures.ok) in
    ap (λ ps. look c.seq_to_values.new.st (child_at 0 ps v) pk) c.in_ok-push.ensures.ok
    ∙ value_all (λ pk x. seq_leaf x (look c.args.st.now c.args.b) pk) c.args.st.now c.seq_to_values.new.st c.args.f c.args.a c.part_near-end.result.0 _ all split (c.if-end-max.true ∙ c.max-max.ensures) v pk w

pub moved_parts-loop-parts-preserved : goal.moved_parts-loop-parts-preserved
moved_parts-loop-parts-preserved t c =
    let split = split_first c.args.st.now c.args.f c.args.a c.requires.left c.laws.ensures.nodes c.requires.first c.requires.field in
    let all = value_push (λ pk x. seq_leaf x (look c.args.st.now c.args.b) pk) c.args.st.now c.loop-parts.st c.seq_to_values.new.st c.args.f c.args.a c.loop-parts.from c.loop-parts.parts c.part_near-end.result c.in_ok-made.made
    c.loop-parts.invariant.made c.loop-parts.invariant.grows c.seq_to_values.ensures.grows c.requires.left split c.part_near-end.ensures
    (seq_made c.args.st.now c.loop-parts.st c.seq_to_values.new.st c.args.b c.part_near-end.result.1 c.in_ok-made.made c.loop-parts.invariant.grows c.requires.right c.in_ok-made.ensures.ok) in
    record {
      grows = grows_on _ _ _ c.loop-parts.invariant.grows c.seq_to_values.ensures.grows;
      within = set_within c.args.st.now c.loop-parts.st c.args.f c.args.a c.loop-parts.from c.max-max.result c.part_near-end.result c.part_near-end.ensures c.loop-parts.invariant.grows c.max-max.ensures c.if-end-max.false;
      made = subst (Serving (value_leaf (λ pk x. seq_leaf x (look c.args.st.now c.args.b) pk) c.args.st.now c.args.f c.args.a) c.seq_to_values.new.st c.args.f (c.part_near-end.result.0 + 1)) (sym c.in_ok-push.ensures.ok) all;
    }

pub seq_at_value-returns-clause-ok : goal.seq_at_value-returns-clause-ok
seq_at_value-returns-clause-ok t c = IfOk-weaker c.union_later.result _ _
    (λ d h. ending_made c.args.st.now c.ending.new.st c.seq_leaves.new.st c.ending-2.new.st c.seq_by_values.new.st c.union_later.new.st c.args.f c.args.a c.args.b c.min-from.result c.part_at-end.result c.in_ok-here.here c.in_ok-one.one c.in_ok-rest.rest c.in_ok-others.others d
    c.requires.field c.requires.left c.requires.right
    (split_first c.args.st.now c.args.f c.args.b c.requires.right c.laws.ensures.nodes c.requires.second c.requires.field) c.part_at-end.ensures
    c.ending.ensures.grows c.seq_leaves.ensures.grows c.ending-2.ensures.grows c.seq_by_values.ensures.grows
    c.in_ok-here.ensures.ok c.in_ok-one.ensures.ok c.in_ok-rest.ensures.ok c.in_ok-others.ensures.ok h) c.union_later.ensures.ok

pub seq_partition-returns-in_err-right-clause-grows : goal.seq_partition-returns-in_err-right-clause-grows
seq_partition-returns-in_err-right-clause-grows t c = grows_on _ _ _ c.keeping.ensures.grows c.seq_kept.ensures.grows

pub seq_partition-returns-in_err-left-clause-grows : goal.seq_partition-returns-in_err-left-clause-grows
seq_partition-returns-in_err-left-clause-grows t c = grows_on _ _ _ (grows_on _ _ _ c.keeping.ensures.grows c.seq_kept.ensures.grows) c.seq_moved.ensures.grows

pub seq_partition-returns-clause-grows : goal.seq_partition-returns-clause-grows
seq_partition-returns-clause-grows t c = grows_on _ _ _ (grows_on _ _ _ (grows_on _ _ _ c.keeping.ensures.grows c.seq_kept.ensures.grows) c.seq_moved.ensures.grows) c.union_later.ensures.grows

pub seq_kept-returns-clause-grows : goal.seq_kept-returns-clause-grows
seq_kept-returns-clause-grows t c = grows_on _ _ _ c.kept_parts.ensures.grows c.choose.ensures.grows

pub kept_parts-returns-in_err-made-clause-grows : goal.kept_parts-returns-in_err-made-clause-grows
kept_parts-returns-in_err-made-clause-grows t c = grows_on _ _ _ c.loop-parts.invariant.grows c.seq_leaves.ensures.grows

pub kept_parts-returns-in_err-push-clause-grows : goal.kept_parts-returns-in_err-push-clause-grows
kept_parts-returns-in_err-push-clause-grows t c = grows_on _ _ _ c.loop-parts.invariant.grows c.seq_leaves.ensures.grows

pub kept_parts-returns-then-end-max-clause-grows : goal.kept_parts-returns-then-end-max-clause-grows
kept_parts-returns-then-end-max-clause-grows t c = grows_on _ _ _ c.loop-parts.invariant.grows c.seq_leaves.ensures.grows

pub seq_moved-returns-in_err-parts-clause-grows : goal.seq_moved-returns-in_err-parts-clause-grows
seq_moved-returns-in_err-parts-clause-grows t c = grows_on _ _ _ c.map_leaves.ensures.grows c.moved_parts.ensures.grows

pub seq_moved-returns-clause-grows : goal.seq_moved-returns-clause-grows
seq_moved-returns-clause-grows t c = grows_on _ _ _ (grows_on _ _ _ c.map_leaves.ensures.grows c.moved_parts.ensures.grows) c.choose.ensures.grows

pub moved_parts-returns-in_err-made-clause-grows : goal.moved_parts-returns-in_err-made-clause-grows
moved_parts-returns-in_err-made-clause-grows t c = grows_on _ _ _ c.loop-parts.invariant.grows c.seq_to_values.ensures.grows

pub moved_parts-returns-in_err-push-clause-grows : goal.moved_parts-returns-in_err-push-clause-grows
moved_parts-returns-in_err-push-clause-grows t c = grows_on _ _ _ c.loop-parts.invariant.grows c.seq_to_values.ensures.grows

pub moved_parts-returns-then-end-max-clause-grows : goal.moved_parts-returns-then-end-max-clause-grows
moved_parts-returns-then-end-max-clause-grows t c = grows_on _ _ _ c.loop-parts.invariant.grows c.seq_to_values.ensures.grows

pub seq_at_value-returns-in_err-one-clause-grows : goal.seq_at_value-returns-in_err-one-clause-grows
seq_at_value-returns-in_err-one-clause-grows t c = grows_on _ _ _ c.ending.ensures.grows c.seq_leaves.ensures.grows

pub seq_at_value-returns-in_err-rest-clause-grows : goal.seq_at_value-returns-in_err-rest-clause-grows
seq_at_value-returns-in_err-rest-clause-grows t c = grows_on _ _ _ (grows_on _ _ _ c.ending.ensures.grows c.seq_leaves.ensures.grows) c.ending-2.ensures.grows

pub seq_at_value-returns-in_err-others-clause-grows : goal.seq_at_value-returns-in_err-others-clause-grows
seq_at_value-returns-in_err-others-clause-grows t c = grows_on _ _ _ (grows_on _ _ _ (grows_on _ _ _ c.ending.ensures.grows c.seq_leaves.ensures.grows) c.ending-2.ensures.grows) c.seq_by_values.ensures.grows

pub seq_at_value-returns-clause-grows : goal.seq_at_value-returns-clause-grows
seq_at_value-returns-clause-grows t c = grows_on _ _ _ (grows_on _ _ _ (grows_on _ _ _ (grows_on _ _ _ c.ending.ensures.grows c.seq_leaves.ensures.grows) c.ending-2.ensures.grows) c.seq_by_values.ensures.grows) c.union_later.ensures.grows
