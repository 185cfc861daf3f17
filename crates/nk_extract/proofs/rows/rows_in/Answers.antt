use Rattle.std.proofs.Common.{◌∙◌, ap, arith, [], false}
use Rattle.std.proofs.lemmas.Result.{on_ok_weaker}
use Rattle.nk_extract.specs.Ways.{ways, rows_following}
use Rattle.nk_extract.proofs.TableRows.{table_rows}
use Rattle.nk_extract.proofs.rows.rows_in.Goals as goal

pub returns : goal.returns
returns g c =
    let tag = c.args.frame.now.tag in
    on_ok_weaker c.walk.result
    (λ put. (
      _,
      put,
      table_rows c.args.st.now c.args.frame.now.width tag.0 c.args.switch c.args.d tag.1 tag.2 _ c.laws-laws.ensures.fields.places c.laws-laws.ensures.sound c.requires.id c.requires.frame c.requires.printable (omega (arith, c.ranges.switch.fits))
          c.requires.digits
          (ap (λ ms. rows_following c.args.frame.now.width tag ms false (ways tag.0 c.args.st.now c.root.result)) c.new-matches.ensures.items
          ∙ ap (λ r. rows_following c.args.frame.now.width tag [] false (ways tag.0 c.args.st.now r)) c.root.ensures.is),
    ))
    c.walk.ensures.rows
