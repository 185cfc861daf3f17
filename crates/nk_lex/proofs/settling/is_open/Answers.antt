use Rattle.std.proofs.Common.{sym, ◌∙◌, ap}
use Rattle.nk_lex.proofs.Open.{alone_open, open_by, open_front}
use Rattle.nk_lex.proofs.settling.is_open.Goals as goal

pub returns-in-Blank : goal.returns-in-Blank
returns-in-Blank c =
    ap (open_front c.args.first c.args.rest.now) (sym c.in-Blank.is)
    ∙ open_by c.args.first c.args.rest.now c.args.front c.requires (sym c.is_white.ensures ∙ c.if-is_white.false)

pub returns-in-Name : goal.returns-in-Name
returns-in-Name c =
    ap (open_front c.args.first c.args.rest.now) (sym c.in-Name.is)
    ∙ open_by c.args.first c.args.rest.now c.args.front c.requires (sym c.is_white.ensures ∙ c.if-is_white.false)

pub returns-in-Number : goal.returns-in-Number
returns-in-Number c =
    ap (open_front c.args.first c.args.rest.now) (sym c.in-Number.is)
    ∙ open_by c.args.first c.args.rest.now c.args.front c.requires (sym c.is_white.ensures ∙ c.if-is_white.false)

pub returns-then-begins_longer : goal.returns-then-begins_longer
returns-then-begins_longer c =
    c.is_empty.ensures ∙ alone_open c.args.first c.args.rest.now (sym c.begins_longer.ensures ∙ c.if-begins_longer.true)
    ∙ ap (open_front c.args.first c.args.rest.now) (sym c.in-Symbol.is)
    ∙ open_by c.args.first c.args.rest.now c.args.front c.requires (sym c.is_white.ensures ∙ c.if-is_white.false)

pub returns-then-begins_longer-2 : goal.returns-then-begins_longer-2
returns-then-begins_longer-2 c =
    c.is_empty-then-begins_longer-2.ensures
    ∙ alone_open c.args.first c.args.rest.now (sym c.begins_longer-in-Bad.ensures ∙ c.if-begins_longer-2.true)
    ∙ ap (open_front c.args.first c.args.rest.now) (sym c.in-Bad.is)
    ∙ open_by c.args.first c.args.rest.now c.args.front c.requires (sym c.is_white.ensures ∙ c.if-is_white.false)
