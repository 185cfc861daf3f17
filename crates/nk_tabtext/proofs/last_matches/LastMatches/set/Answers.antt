use Rattle.std.proofs.Common.{[], ◌∷◌, ◌++◌, true}
use Rattle.nk_tabtext.specs.Remembered.{as_printed, those}
use Rattle.nk_tabtext.proofs.Remembering.{begins, row_alone}
use Rattle.nk_tabtext.proofs.last_matches.LastMatches.set.Goals as goal

-- the tag's matches, then the other ones, and what the last row had more is forgotten
pub returns : goal.returns
returns c = λ ms r.
    let fs = c.args.fs.now in
    let all = c.args.before.now ++ c.args.between.now ∷ c.args.after.now in
    let tagged = c.in_ok-tagged.ensures [] (begins fs ms c.args.self.now r) in
    let both = c.in_ok-end.ensures (those fs true all) tagged in
    row_alone fs (as_printed fs all) _ _ c.cut.new.self both (c.cut.ensures fs)
