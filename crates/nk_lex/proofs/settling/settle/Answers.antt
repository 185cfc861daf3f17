use Rattle.std.proofs.Common.{◌+◌, ◌-◌, drop, take, length, sym, arith}
use Rattle.std.proofs.lemmas.List.{take_rest, length-drop}
use Rattle.nk_lex.specs.Pieces.{settle}
use Rattle.nk_lex.proofs.Loops.{fails_is, going_on, left_at_end, left_at_fault, opened_fits, opened_next, opened_wants, stop_fits, stop_next, stop_wants, token_wants}
use Rattle.nk_lex.proofs.settling.settle.Goals as goal

pub lexemes-preserved : goal.lexemes-preserved
lexemes-preserved c =
    let read = c.in-Ok.ensures.ok in
    rw (read.2, c.line_past-here.ensures)
    (going_on c.args.bytes.now c.args.at c.args.line c.args.before.items c.lexemes.from c.lexemes.here c.lexemes.tokens.items
    c.in-Ok.len read.0 c.lexemes.invariant (sym c.in-Some.ensures.whole) c.in-Ok.ensures.fits read.1)

pub returns-in-Err-clause-next : goal.returns-in-Err-clause-next
returns-in-Err-clause-next c =
    stop_next c.stop.result c.args.before.items c.put_front.new.tokens.items (settle c.args.bytes.now 0 c.args.line c.args.at) c.in-Err.error
    (λ f. rw c.in-Err.ensures.kept
    (left_at_fault c.args.bytes.now c.args.at c.args.line c.args.before.items c.lexemes.from c.lexemes.here c.lexemes.tokens.items
    c.in-Err.error c.lexemes.invariant (sym c.in-Some.ensures.whole) (fails_is c.in-Err.error _ f c.in-Err.ensures.err)))
    c.stop.ensures.fault c.stop.ensures.tokens c.stop.ensures.pending c.stop.ensures.held

pub returns-in-Err-clause-fits : goal.returns-in-Err-clause-fits
returns-in-Err-clause-fits c =
    stop_fits c.stop.result c.lexemes.here (c.args.at + length c.args.bytes.now) c.in-Err.error
    (omega (arith, c.lexemes.invariant.lines, c.lexemes.invariant.within))
    c.stop.ensures.line c.stop.ensures.pending c.stop.ensures.held

pub returns-in-Err-clause-quiet : goal.returns-in-Err-clause-quiet
returns-in-Err-clause-quiet c =
    stop_wants c.stop.result c.in-Err.error
    (λ e. token_wants c.args.bytes.now c.args.at c.args.line c.args.before.items c.lexemes.from c.lexemes.here c.lexemes.tokens.items
    c.lexemes.invariant (sym c.in-Some.ensures.whole) (c.in-Err.ensures.token e))
    c.stop.ensures.err

pub returns-clause-next : goal.returns-clause-next
returns-clause-next c =
    opened_next c.opened.result c.args.before.items c.lexemes.tokens.items (settle c.args.bytes.now 0 c.args.line c.args.at)
    c.lexemes.here (c.args.at + c.lexemes.from) _
    (left_at_end c.args.bytes.now c.args.at c.args.line c.args.before.items c.lexemes.from c.lexemes.here c.lexemes.tokens.items
    c.lexemes.invariant (sym c.in_default.ensures.whole))
    c.opened.ensures.tokens c.opened.ensures.line c.opened.ensures.pending c.opened.ensures.held

pub returns-clause-fits : goal.returns-clause-fits
returns-clause-fits c =
    opened_fits c.opened.result c.lexemes.here (c.args.at + c.lexemes.from) (c.args.at + length c.args.bytes.now)
    (take (length c.args.bytes.now - c.lexemes.from) (drop c.lexemes.from c.args.bytes.now))
    (omega (arith, c.lexemes.invariant.lines))
    (rw take_rest (omega (arith, c.lexemes.invariant.within, length-drop c.lexemes.from c.args.bytes.now)))
    c.opened.ensures.line c.opened.ensures.pending c.opened.ensures.held

pub returns-clause-quiet : goal.returns-clause-quiet
returns-clause-quiet c =
    opened_wants c.opened.result c.args.before.items c.lexemes.tokens.items (settle c.args.bytes.now 0 c.args.line c.args.at)
    c.lexemes.here (c.args.at + c.lexemes.from) _
    (left_at_end c.args.bytes.now c.args.at c.args.line c.args.before.items c.lexemes.from c.lexemes.here c.lexemes.tokens.items
    c.lexemes.invariant (sym c.in_default.ensures.whole))
    c.opened.ensures.quiet
