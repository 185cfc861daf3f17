use Rattle.std.proofs.Common.{◌++◌}
use Rattle.nk_tabtext.specs.Remembered.{match_where, those}
use Rattle.nk_tabtext.specs.Text.{is_tag}
use Rattle.nk_tabtext.proofs.Remembering.{parts_put}
use Rattle.nk_tabtext.proofs.last_matches.LastMatches.put_parted.Goals as goal

pub returns : goal.returns
returns c = λ row b.
    let fs = c.args.fs.now in
    let before = those fs c.args.tag c.args.before.now in
    let between = match_where (is_tag fs c.args.between.now.0) c.args.tag c.args.between.now in
    parts_put fs c.args.tag row c.args.before.now c.args.after.now c.args.between.now _ _
    (c.in_ok-end.ensures (row ++ before ++ between) (c.in_ok-middle.ensures (row ++ before) (c.in_ok-first.ensures row b)))
