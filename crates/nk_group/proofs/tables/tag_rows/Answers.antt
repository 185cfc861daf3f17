use Rattle.std.proofs.Common.{◌∙◌}
use Rattle.std.proofs.lemmas.Result.{on_ok_weaker}
use Rattle.nk_group.proofs.Trees.{retarget_printable, tree_of_rows, frame_grown}
use Rattle.nk_group.proofs.tables.tag_rows.Goals as goal

pub retarget-requires : goal.retarget-requires
retarget-requires g c = (c.requires.printable c.requires.frame.0 c.requires.frame.1).id

pub rows_to-requires-clause-frame : goal.rows_to-requires-clause-frame
rows_to-requires-clause-frame g c =
    let tag = c.requires.frame.0 in
    let is = c.requires.frame.1 in (
      tag,
      c.retarget.ensures.grows.tag ∙ is,
      frame_grown c.args.st.now c.retarget.new.st tag c.retarget.ensures.grows c.requires.frame.2,
      retarget_printable c.args.st.now c.retarget.new.st c.args.table.now c.args.state.diagram c.in_ok-d.d c.retarget.ensures.grows c.in_ok-d.ensures.ok tag c.args.sw
          (c.requires.printable tag is).printable c.requires.frame.2.past_port,
    )

pub returns-clause-rows : goal.returns-clause-rows
returns-clause-rows g c =
    on_ok_weaker c.rows_to.result
    (λ put. (
      put.0,
      put.1,
      λ tag is.
          tree_of_rows c.args.st.now c.retarget.new.st c.args.table.now c.args.state.diagram c.in_ok-d.d c.retarget.ensures.grows c.in_ok-d.ensures.ok tag c.args.sw c.args.state.tag put.0
          (put.2 tag (c.retarget.ensures.grows.tag ∙ is)),
    ))
    c.rows_to.ensures
