use Rattle.std.proofs.Common.{arith}
use Rattle.nk_tabtext.proofs.Remembering.{one_more}
use Rattle.nk_tabtext.proofs.last_matches.LastMatches.print.Goals as goal

pub returns : goal.returns
returns c = λ ms r.
    one_more c.args.fs.now ms c.args.m.now c.len-start.result c.args.self.now _ r (omega (arith, c.len-start.ensures, c.args.self.now.text.ok))
    c.in_ok-push.ensures.items c.in_ok-one_match.ensures
