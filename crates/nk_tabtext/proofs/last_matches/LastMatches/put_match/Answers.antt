use Rattle.std.proofs.Common.{arith, sym, ◌∙◌}
use Rattle.nk_tabtext.proofs.Remembering.{goes_on, same_match}
use Rattle.nk_tabtext.proofs.last_matches.LastMatches.put_match.Goals as goal

-- the match stands there
pub returns-then-are_same : goal.returns-then-are_same
returns-then-are_same c = λ row b.
    goes_on c.args.fs.now row c.args.m.now c.args.place c.len-count.result c.index.result.now c.args.self.now b
    (omega (arith, c.len-count.ensures, c.args.self.now.matches.ok)) c.if-place-count.true c.index.ensures
    (same_match c.index.result.now.matched c.args.m.now (sym c.are_same.ensures ∙ c.if-are_same.true))
