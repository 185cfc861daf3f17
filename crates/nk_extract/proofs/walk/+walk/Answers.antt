use Rattle.std.proofs.Common.{arith, refl, ◌≡◌, ◌<◌, ◌≤◌, ◌∙◌, subst, sym, ap, ◌+◌, ℕ, [], ◌∷◌, ◌++◌, length, drop, get_or, not, ◌||◌, List, false}
use Rattle.std.specs.List.{flat_map}
use Rattle.nk_prefix.specs.Blocks.{blocks_of}
use Rattle.nk_store.specs.Nodes.{Each, Rises}
use Rattle.nk_store.specs.StoreState.{IsId, node_of, IsNodeOf, IsCase, IsChild}
use Rattle.nk_store.proofs.Looks.{joined_some}
use Rattle.nk_store.specs.declared.node.Node.TheVariants.{Case}
use Rattle.std.proofs.lemmas.List.{drop_all}
use Rattle.nk_extract.specs.Ways.{ways, span_rows, rows_following, bucket_list, node_ways, is_empty_leaf}
use Rattle.nk_store.proofs.Children.{rest_is, else_has, each_of, each_drop}
use Rattle.nk_extract.proofs.Walks.{ways_leaf, ways_case, on_ok, case_returns, parts_on, blocks_on, blocks_done, rest_at, span_one, span_all}
use Rattle.nk_extract.proofs.walk.+walk.Goals as goal

pub walk-returns-in-Leaf-clause-rows : goal.walk-returns-in-Leaf-clause-rows
walk-returns-in-Leaf-clause-rows g t c =
    on_ok c.leaf_row.result _ _
    (subst (λ rows. g.S.RowSink.puts c.args.sink.now rows c.leaf_row.new.sink)
    (ap (λ ms. rows_following c.args.frame.now.width c.args.frame.now.tag ms c.args.shown (record { matches = []; buckets = bucket_list c.args.frame.now.tag.0 c.as_slice.result.now; shown = false } ∷ [])) c.as_slice-in-Leaf.ensures.value
    ∙ ap (λ l. rows_following c.args.frame.now.width c.args.frame.now.tag c.args.matches.now.items c.args.shown l)
    (ap (λ outs. record { matches = []; buckets = bucket_list c.args.frame.now.tag.0 outs; shown = false } ∷ []) c.as_slice.ensures ∙ sym (ways_leaf c.args.frame.now.tag.0 c.args.st.now c.args.d c.in-Leaf.outs c.requires.id (sym c.view.ensures.node ∙ c.in-Leaf.is)))))
    c.leaf_row.ensures

case_is : (g : _) (t : ℕ) (c : goal.walk-After-walk_case g t) → IsCase c.args.st.now c.args.d c.in-Case.f c.in-Case.parts
case_is g t c = subst (IsNodeOf c.args.st.now c.args.d) c.in-Case.is c.view.ensures.means

pub walk-returns-in-Case-clause-rows : goal.walk-returns-in-Case-clause-rows
walk-returns-in-Case-clause-rows g t c =
    on_ok c.walk_case.result _ _
    (subst (λ rows. g.S.RowSink.puts c.args.sink.now rows c.walk_case.new.sink)
    (ap (λ l. rows_following c.args.frame.now.width c.args.frame.now.tag c.args.matches.now.items c.args.shown l)
    (ap (λ ps. node_ways c.args.st.now.maxes c.args.frame.now.tag.0 (Case c.in-Case.f ps) (λ k. is_empty_leaf (node_of c.args.st.now k)) (ways c.args.frame.now.tag.0 c.args.st.now)) c.as_slice-in-Case.ensures
    ∙ sym (ways_case c.args.frame.now.tag.0 c.args.st.now c.args.d c.in-Case.f c.in-Case.parts c.requires.id (sym c.view.ensures.node ∙ c.in-Case.is) (joined_some c.in-Case.parts (case_is g t c).joined) (case_is g t c).below))))
    c.walk_case.ensures.rows

pub walk_case-drops-requires : goal.walk_case-drops-requires
walk_case-drops-requires g t c = subst (IsId c.args.st.now) (sym c.in_ok-other.ensures)
    (else_has (IsId c.args.st.now) c.args.parts.now (joined_some c.args.parts.now c.requires.case.joined) (each_of (IsChild c.args.st.now c.args.f) (IsId c.args.st.now) c.args.parts.now (λ k l. l.id) c.requires.case.parts_ok.children))

item_has : (P : ℕ → Type 0) (ps : List (ℕ × ℕ)) (i : ℕ) (p : ℕ × ℕ) → i < length ps → p ≡ get_or ps i p → Each P ps → P p.1
item_has P ps i p h e each = (subst (Each P) (rest_is ps i p h e) (each_drop P ps i each)).0

pub walk_case-walk_span-requires : goal.walk_case-walk_span-requires
walk_case-walk_span-requires g t c κs within =
    let ps = c.args.parts.now in
    let i = c.loop-end.end-index in
    let p = c.loop-end-item.result in
    let below : p.1 < c.args.d = item_has (λ k. k < c.args.d) ps i p c.loop-end-test.true c.loop-end-item.is c.requires.case.below in
    let child : IsChild c.args.st.now c.args.f p.1 = item_has (IsChild c.args.st.now c.args.f) ps i p c.loop-end-test.true c.loop-end-item.is c.requires.case.parts_ok.children in
    let rise : Rises c.max-max.result c.loop-end.from (p ∷ drop (i + 1) ps) = subst (Rises c.max-max.result c.loop-end.from) (rest_is ps i p c.loop-end-test.true c.loop-end-item.is) c.loop-end.invariant.rise in
    let high : p.0 ≤ c.max-max.result = rise.1 in
    (omega (arith, below, c.decreases), (within, (child.id, (c.requires.bits, high))))

pub walk_case-walk-requires : goal.walk_case-walk-requires
walk_case-walk-requires g t c κs within =
    let some = joined_some c.args.parts.now c.requires.case.joined in
    let below : c.in_ok-other.other < c.args.d = subst (λ k. k < c.args.d) (sym c.in_ok-other.ensures) (else_has (λ k. k < c.args.d) c.args.parts.now some c.requires.case.below) in
    let id : IsId c.args.st.now c.in_ok-other.other = subst (IsId c.args.st.now) (sym c.in_ok-other.ensures) (else_has (IsId c.args.st.now) c.args.parts.now some (each_of (IsChild c.args.st.now c.args.f) (IsId c.args.st.now) c.args.parts.now (λ k l. l.id) c.requires.case.parts_ok.children)) in
    (omega (arith, below, c.decreases), (within, (id, c.requires.bits)))

pub walk_case-returns-clause-rows : goal.walk_case-returns-clause-rows
walk_case-returns-clause-rows g t c =
    let so = c.loop-end.invariant.made in
    on_ok c.walk.result _ _
    (λ h. subst (λ rows. g.S.RowSink.puts c.args.sink.now rows c.walk.new.sink)
    (case_returns c.args.frame.now.width c.args.frame.now.tag c.args.matches.now.items c.args.shown c.args.st.now.maxes c.max-max.result c.args.f c.args.parts.now (λ k. is_empty_leaf (node_of c.args.st.now k)) (ways c.args.frame.now.tag.0 c.args.st.now) [] so.0 _ c.in_ok-other.other c.printed-after_block.result (drop c.loop-end.end-index c.args.parts.now) c.loop-end.from
    c.max-max.ensures
    c.in_ok-other.ensures
    (c.printed-after_block.ensures ∙ ap (λ b. not b || c.args.shown) c.drops.ensures.is)
    (drop_all c.loop-end.end-index c.args.parts.now c.loop-end-test.false)
    so.2
    (ap (λ ms. so.0 ++ rows_following c.args.frame.now.width c.args.frame.now.tag ms c.args.shown (ways c.args.frame.now.tag.0 c.args.st.now c.in_ok-other.other)) c.loop-end.invariant.same))
    (g.met.S.RowSink.more_rows c.args.sink.now c.loop-end.sink c.walk.new.sink so.0 _ so.1 h))
    c.walk.ensures.rows

pub walk_case-loop-end-init : goal.walk_case-loop-end-init
walk_case-loop-end-init g t c = record {
  same = refl;
  rise = subst (λ m. Rises m 0 c.args.parts.now) (sym c.max-max.ensures) c.requires.case.parts_ok.rise;
  made = ([], g.met.S.RowSink.no_rows c.args.sink.now, refl);
}

pub walk_case-loop-end-preserved : goal.walk_case-loop-end-preserved
walk_case-loop-end-preserved g t c =
    let so = c.loop-end.invariant.made in
    let ps = c.args.parts.now in
    let i = c.loop-end.end-index in
    let p = c.loop-end-item.result in
    let rest : drop i ps ≡ p ∷ drop (i + 1) ps = rest_is ps i p c.loop-end-test.true c.loop-end-item.is in
    let rise : Rises c.max-max.result c.loop-end.from (p ∷ drop (i + 1) ps) = subst (Rises c.max-max.result c.loop-end.from) rest c.loop-end.invariant.rise in
    record {
      same = c.in_ok-walk_span.ensures.matches ∙ c.loop-end.invariant.same;
      rise = rise.2;
      made = (
        _,
        g.met.S.RowSink.more_rows c.args.sink.now c.loop-end.sink c.walk_span.new.sink so.0 _ so.1
            (subst (λ ms. g.S.RowSink.puts c.loop-end.sink (span_rows c.args.frame.now.width c.args.frame.now.tag ms c.max-max.result c.args.f c.printed-after_block.result c.in_ok-other.other (ways c.args.frame.now.tag.0 c.args.st.now) (record { first = c.loop-end.from; last = p.0; child = p.1 })) c.walk_span.new.sink)
            c.loop-end.invariant.same c.in_ok-walk_span.ensures.rows),
        parts_on c.args.frame.now.width c.args.frame.now.tag c.args.matches.now.items c.max-max.result c.args.f c.printed-after_block.result c.in_ok-other.other (ways c.args.frame.now.tag.0 c.args.st.now) so.0 _ p (drop i ps) (drop (i + 1) ps) c.loop-end.from rest so.2,
      );
    }

pub walk_span-returns-then-first-last-clause-rows : goal.walk_span-returns-then-first-last-clause-rows
walk_span-returns-then-first-last-clause-rows g t c =
    let a = c.args in
    on_ok c.walk_block.result _ _
    (subst (λ rows. g.S.RowSink.puts a.sink.now rows c.walk_block.new.sink)
    (span_one a.frame.now.width a.frame.now.tag a.matches.now.items a.choice.max a.choice.field a.choice.shown a.choice.other (ways a.frame.now.tag.0 a.st.now) (record { first = a.span.first; last = a.span.last; child = a.span.child }) (a.span.first, c.digits_of.result)
    (sym c.eq.ensures ∙ c.if-eq.false)
    (ap (λ n. blocks_of a.span.first n a.choice.max) (sym c.if-first-last.true)
    ∙ c.blocks_are_aligned.ensures.single a.span.first a.choice.max (subst (λ n. n ≤ a.choice.max) (sym c.if-first-last.true) c.requires.within)
    ∙ ap (λ n. (a.span.first, n) ∷ []) (sym c.digits_of.ensures.is))))
    c.walk_block.ensures.rows

pub walk_span-returns-clause-rows : goal.walk_span-returns-clause-rows
walk_span-returns-clause-rows g t c =
    let a = c.args in
    on_ok c.walk_blocks.result _ _
    (subst (λ rows. g.S.RowSink.puts a.sink.now rows c.walk_blocks.new.sink)
    (ap (flat_map (λ b. rows_following a.frame.now.width a.frame.now.tag (a.matches.now.items ++ (a.choice.field, b.0, b.1) ∷ []) a.choice.shown (ways a.frame.now.tag.0 a.st.now a.span.child))) (c.as_slice.ensures.value ∙ c.in_ok-all.ensures)
    ∙ span_all a.frame.now.width a.frame.now.tag a.matches.now.items a.choice.max a.choice.field a.choice.shown a.choice.other (ways a.frame.now.tag.0 a.st.now) (record { first = a.span.first; last = a.span.last; child = a.span.child })
    (sym c.eq.ensures ∙ c.if-eq.false)))
    c.walk_blocks.ensures.rows

pub walk_blocks-loop-value-init : goal.walk_blocks-loop-value-init
walk_blocks-loop-value-init g t c = record {
  same = refl;
  made = ([], g.met.S.RowSink.no_rows c.args.sink.now, refl);
}

pub walk_blocks-loop-value-preserved : goal.walk_blocks-loop-value-preserved
walk_blocks-loop-value-preserved g t c =
    let so = c.loop-value.invariant.made in
    let bs = c.args.blocks.now in
    let i = c.loop-value.value-index in
    let b = get_or bs i (0, 0) in
    let w = ways c.args.frame.now.tag.0 c.args.st.now c.args.child in
    record {
      same = c.in_ok-walk_block.ensures.matches ∙ c.loop-value.invariant.same;
      made = (
        _,
        g.met.S.RowSink.more_rows c.args.sink.now c.loop-value.sink c.walk_block.new.sink so.0 _ so.1
            (subst (λ ms. g.S.RowSink.puts c.loop-value.sink (rows_following c.args.frame.now.width c.args.frame.now.tag (ms ++ (c.args.choice.now.field, b.0, b.1) ∷ []) c.args.choice.now.shown w) c.walk_block.new.sink)
            c.loop-value.invariant.same c.in_ok-walk_block.ensures.rows),
        blocks_on (λ x. rows_following c.args.frame.now.width c.args.frame.now.tag (c.args.matches.now.items ++ (c.args.choice.now.field, x.0, x.1) ∷ []) c.args.choice.now.shown w) so.0 _ b (drop i bs) (drop (i + 1) bs) (rest_at bs i (0, 0) c.loop-value-test.true) so.2,
      );
    }

pub walk_blocks-returns-clause-rows : goal.walk_blocks-returns-clause-rows
walk_blocks-returns-clause-rows g t c =
    let so = c.loop-value.invariant.made in
    let w = ways c.args.frame.now.tag.0 c.args.st.now c.args.child in
    subst (λ rows. g.S.RowSink.puts c.args.sink.now rows c.loop-value.sink)
    (blocks_done (λ x. rows_following c.args.frame.now.width c.args.frame.now.tag (c.args.matches.now.items ++ (c.args.choice.now.field, x.0, x.1) ∷ []) c.args.choice.now.shown w) so.0 _ (drop c.loop-value.value-index c.args.blocks.now)
    (drop_all c.loop-value.value-index c.args.blocks.now c.loop-value-test.false) so.2)
    so.1
