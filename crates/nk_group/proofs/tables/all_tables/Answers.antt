use Rattle.std.proofs.Common.{◌∙◌, ◌++◌, ◌∷◌, [], refl, sym}
use Rattle.nk_store.proofs.Stores.{grows_on, grows_same}
use Rattle.nk_group.specs.Made.{ArePrintableStates}
use Rattle.nk_group.proofs.Growing.{all_at}
use Rattle.nk_group.proofs.Trees.{tables_more, printables_grown}
use Rattle.nk_group.proofs.tables.all_tables.Goals as goal

pub loop-s-init : goal.loop-s-init
loop-s-init g c = record {
  grows = grows_same c.args.st.now;
  made = ([], g.met.S.TableSink.none c.args.sink.now, λ tag is. tt);
}

pub switch_table-requires-clause-printable : goal.switch_table-requires-clause-printable
switch_table-requires-clause-printable g c = λ tag is.
    printables_grown c.args.st.now c.loop-s.st tag c.s-item.result c.loop-s.invariant.grows
    (all_at (ArePrintableStates c.args.st.now tag) c.args.all.now c.args.all.now c.loop-s.s-index c.s-item.result (c.requires.printable tag (sym c.loop-s.invariant.grows.tag ∙ is)) refl c.loop-s-test.true c.s-item.is)

pub loop-s-preserved : goal.loop-s-preserved
loop-s-preserved g c =
    let so = c.loop-s.invariant.made in
    let one = c.in_ok-switch_table.ensures.table in record {
      grows = grows_on _ _ _ c.loop-s.invariant.grows c.switch_table.ensures.grows;
      made = (
        so.0 ++ one.0 ∷ [],
        g.met.S.TableSink.joined c.args.sink.now c.loop-s.sink c.switch_table.new.sink so.0 (one.0 ∷ []) so.1 one.1,
        λ tag is.
            tables_more c.args.st.now c.loop-s.st c.args.table.now tag c.args.all.now c.loop-s.s-index c.s-item.result one.0 so.0 _ c.loop-s.invariant.grows
            c.loop-s-test.true c.s-item.is refl
            (all_at (ArePrintableStates c.args.st.now tag) c.args.all.now c.args.all.now c.loop-s.s-index c.s-item.result (c.requires.printable tag is) refl c.loop-s-test.true c.s-item.is)
            (one.2 tag (c.loop-s.invariant.grows.tag ∙ is)) (so.2 tag is),
      );
    }
