use Rattle.std.proofs.Common.{arith}
use Rattle.nk_tabtext.proofs.Remembering.{cut_at, nothing_cut}
use Rattle.nk_tabtext.proofs.last_matches.LastMatches.cut.Goals as goal

-- nothing stands there
pub returns-then-count-place : goal.returns-then-count-place
returns-then-count-place c = λ fs ms r.
    nothing_cut fs ms c.args.place c.len-count.result c.args.self.now r (omega (arith, c.len-count.ensures, c.args.self.now.matches.ok)) c.if-count-place.true

-- the first match there knows how long the text is before it
pub returns : goal.returns
returns c = λ fs ms r.
    cut_at fs ms c.args.place c.len-count.result c.index.result.now c.args.self.now _ r
    (omega (arith, c.len-count.ensures, c.args.self.now.matches.ok)) c.if-count-place.false c.index.ensures c.truncate-2.ensures.items c.truncate.ensures.items
