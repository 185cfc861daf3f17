use Rattle.std.proofs.Common.{◌∙◌, ◌++◌, [], refl, sym}
use Rattle.nk_store.proofs.Stores.{grows_on, grows_same}
use Rattle.nk_group.proofs.Growing.{printable_grown, all_at}
use Rattle.nk_group.specs.Made.{IsPrintableState}
use Rattle.nk_group.proofs.Trees.{rows_more}
use Rattle.nk_group.proofs.tables.switch_rows.Goals as goal

pub loop-state-init : goal.loop-state-init
loop-state-init g c = record {
  grows = grows_same c.args.st.now;
  made = ([], g.met.S.RowSink.no_rows c.args.sink.now, λ tag is. ([], tt, refl));
}

pub tag_rows-requires-clause-printable : goal.tag_rows-requires-clause-printable
tag_rows-requires-clause-printable g c = λ tag is.
    printable_grown c.args.st.now c.loop-state.st tag c.args.s.now.switch c.state-item.result c.loop-state.invariant.grows
    (all_at (IsPrintableState c.args.st.now tag c.args.s.now.switch) c.args.s.now.tag_states c.as_slice-state-items.result.now c.loop-state.state-index c.state-item.result (c.requires.printable tag (sym c.loop-state.invariant.grows.tag ∙ is)) c.as_slice-state-items.ensures c.loop-state-test.true c.state-item.is)

pub loop-state-preserved : goal.loop-state-preserved
loop-state-preserved g c =
    let so = c.loop-state.invariant.made in
    let put = c.in_ok-tag_rows.ensures.rows in record {
      grows = grows_on _ _ _ c.loop-state.invariant.grows c.tag_rows.ensures.grows;
      made = (
        so.0 ++ put.0,
        g.met.S.RowSink.more_rows c.args.sink.now c.loop-state.sink c.tag_rows.new.sink so.0 put.0 so.1 put.1,
        λ tag is.
            rows_more c.args.st.now c.loop-state.st c.args.table.now tag c.args.s.now.switch c.loop-state.invariant.grows c.as_slice-state-items.result.now c.loop-state.state-index
            c.state-item.result so.0 put.0 (so.0 ++ put.0) c.loop-state-test.true c.state-item.is refl
            (all_at (IsPrintableState c.args.st.now tag c.args.s.now.switch) c.args.s.now.tag_states c.as_slice-state-items.result.now c.loop-state.state-index c.state-item.result (c.requires.printable tag is) c.as_slice-state-items.ensures c.loop-state-test.true c.state-item.is)
            (put.2 tag (c.loop-state.invariant.grows.tag ∙ is)) (so.2 tag is),
      );
    }
