use Rattle.std.proofs.Common.{[], refl, ap}
use Rattle.std.proofs.lemmas.Result.{on_ok_weaker}
use Rattle.nk_group.specs.Groups.{groups_of, rows_after}
use Rattle.nk_group.specs.TableOf.{grouped_table}
use Rattle.nk_group.proofs.tables.switch_table.Goals as goal

pub returns-clause-table : goal.returns-clause-table
returns-clause-table g c =
    let put = c.in_ok-switch_rows.ensures.rows in
    let table = grouped_table c.args.s.now.switch put.0 in
    on_ok_weaker c.end.result
    (λ taken. (
      table,
      taken,
      λ tag is.
          let by = put.2 tag is in record {
            switch = refl;
            trees = by.0;
            each = by.1;
            groups = ap groups_of by.2;
            rows = ap (rows_after []) by.2;
          },
    ))
    (c.end.ensures c.args.sink.now c.begin.new.self c.args.s.now.switch put.0 c.in_ok-begin.ensures put.1)
