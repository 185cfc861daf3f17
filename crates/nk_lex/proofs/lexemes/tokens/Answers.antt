use Rattle.std.proofs.Common.{drop}
use Rattle.nk_lex.specs.Lex.{scan}
use Rattle.nk_lex.proofs.Names.{front_is_utf8}
use Rattle.nk_lex.proofs.Standing.{front_is_small}
use Rattle.nk_lex.proofs.Steps.{kept}
use Rattle.nk_lex.proofs.lexemes.tokens.Goals as goal

pub lexemes-preserved : goal.lexemes-preserved
lexemes-preserved c =
    let read = c.in_ok-len.ensures.ok in
    rw (read.2, c.line_past-line.ensures)
    (kept c.args.text.now c.lexemes.at c.in_ok-len.len c.lexemes.line read.0 c.lexemes.tokens.items
    c.lexemes-test.true c.lexemes.invariant c.in_ok-len.ensures.fits read.1)

pub returns-clause-small : goal.returns-clause-small
returns-clause-small c =
    front_is_small c.args.text.now c.lexemes.tokens.items
    (scan (drop c.lexemes.at c.args.text.now) 0 c.lexemes.line c.lexemes.at) c.lexemes.invariant.rest

pub returns-clause-texts : goal.returns-clause-texts
returns-clause-texts c =
    front_is_utf8 c.args.text.now c.lexemes.tokens.items
    (scan (drop c.lexemes.at c.args.text.now) 0 c.lexemes.line c.lexemes.at) c.lexemes.invariant.rest
