use Rattle.nk_grammar.specs.Tree.{tree_of as written_of}
use Rattle.nk_names.specs.ProgramOf.{row_policy}
use Rattle.nk_certtext.specs.InMemory.{rows_in}
use Rattle.nk_certtext.proofs.RowsRead.{finished_predicates, made_next}
use Rattle.nk_certtext.proofs.reading.read_cert.Goals as goal

pub loop-row-preserved : goal.loop-row-preserved
loop-row-preserved c =
    let r = c.row-item.result in
    made_next c.args.program.now.fields c.as_slice-row-items.result.now c.loop-row.row-index r (rows_in c.loop-row.rows) (rows_in c.add.new.self)
    c.loop-row-test.true c.row-item.is c.loop-row.invariant
    (c.in_ok-add.ensures.ok (row_policy c.args.program.now.fields (written_of r.pred) r.line) c.resolve-predicate.ensures.policy)

pub returns-clause-predicates : goal.returns-clause-predicates
returns-clause-predicates c =
    finished_predicates c.args.program.now.fields _ (rows_in c.loop-row.rows) c.finish.result c.loop-row.invariant c.finish.ensures
