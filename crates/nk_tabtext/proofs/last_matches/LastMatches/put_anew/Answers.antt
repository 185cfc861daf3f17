use Rattle.std.proofs.Common.{arith}
use Rattle.nk_tabtext.proofs.Remembering.{row_alone, whole}
use Rattle.nk_tabtext.proofs.last_matches.LastMatches.put_anew.Goals as goal

pub returns : goal.returns
returns c = λ row b.
    whole c.args.fs.now _ _ c.print.new.self
    (c.in_ok-print.ensures row (row_alone c.args.fs.now row c.args.place c.args.self.now c.cut.new.self b (c.cut.ensures c.args.fs.now)))
    (omega (arith, c.len.ensures, c.print.new.self.matches.ok))
