use Rattle.std.proofs.Common.{◌++◌, ◌∷◌, refl, ap, ◌∙◌}
use Rattle.nk_tabtext.specs.Remembered.{row_end_text}
use Rattle.nk_tabtext.specs.Text.{target_text}
use Rattle.nk_tabtext.proofs.Remembering.{line_is}
use Rattle.nk_tabtext.proofs.Rowing.{known_by, row_put}
use Rattle.nk_tabtext.proofs.writer.TableWriter.put_row.Goals as goal

-- what is remembered is that of the row now, so the text is the row's
pub returns : goal.returns
returns c = λ fields topo tables sw rows w.
    let told = c.tell_matches.ensures in
    let v = c.tell_matches.new.self in
    let fs = v.fields.now in
    let some = known_by fields topo tables sw rows c.args.self.now v w told.fields told.last in
    let matches = c.in_ok-set.ensures some.ms some.matches in
    row_put fields topo tables sw rows _ c.args.self.now v _ w told.fields told.start told.prefixes told.text refl refl refl
    (record { ms = _; matches = matches; bucket = c.in_ok-put_end.ensures.last some.bucket })
    (c.in_ok-put_end.ensures.text some.bucket
    ∙ ap (λ l. l ++ row_end_text (target_text fs c.args.target.now)) c.in_ok-row_front.ensures
    ∙ line_is fs c.args.priority (c.args.before.now ++ c.args.between ∷ c.args.after.now) c.args.target.now c.set.new.self
    v.text.items c.as_slice.result.now c.as_slice.ensures.value matches)
