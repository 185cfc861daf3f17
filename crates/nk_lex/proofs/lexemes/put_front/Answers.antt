use Rattle.std.proofs.Common.{Some, length, refl, take, sym, ◌∙◌, subst}
use Rattle.nk_lex.specs.Kinds.{kind_of_name}
use Rattle.nk_lex.specs.Lex.{FitsIn, token}
use Rattle.nk_lex.proofs.Names.{a_name_is_text}
use Rattle.nk_lex.proofs.ReadLexemes.{name_read, number_read, symbol_read}
use Rattle.nk_lex.proofs.lexemes.put_front.Goals as goal

pub put_word-requires-clause-text : goal.put_word-requires-clause-text
put_word-requires-clause-text c =
    a_name_is_text c.args.bytes.now c.in-Name.len c.requires.some (sym c.in-Name.is ∙ c.requires.front)

pub returns-in_ok-put_word-in-Name-clause-ok : goal.returns-in_ok-put_word-in-Name-clause-ok
returns-in_ok-put_word-in-Name-clause-ok c =
    let bytes = c.args.bytes.now in
    let name = take c.in-Name.len bytes in
    let t = token (kind_of_name name) c.args.at (length name) c.args.line 0 name in
    (Some t, name_read bytes c.in-Name.len c.args.line c.args.at t c.requires.some (subst (λ f. FitsIn f (length bytes)) c.in-Name.is c.requires.fits).1 (sym c.in-Name.is ∙ c.requires.front) refl, c.in_ok-put_word-in-Name.ensures.ok)

pub returns-in_ok-put_number-in-Number-clause-ok : goal.returns-in_ok-put_number-in-Number-clause-ok
returns-in_ok-put_number-in-Number-clause-ok c =
    let bytes = c.args.bytes.now in
    let put = c.in_ok-put_number-in-Number.ensures.ok in
    (Some put.0, number_read bytes c.in-Number.len c.args.line c.args.at put.0 c.requires.some (subst (λ f. FitsIn f (length bytes)) c.in-Number.is c.requires.fits).1 (sym c.in-Number.is ∙ c.requires.front) put.1, put.2)

pub returns-in_ok-push-in-Symbol-clause-ok : goal.returns-in_ok-push-in-Symbol-clause-ok
returns-in_ok-push-in-Symbol-clause-ok c =
    (Some c.plain.result, symbol_read c.args.bytes.now c.in-Symbol.len c.args.line c.args.at c.in-Symbol.kind c.plain.result c.requires.some (sym c.in-Symbol.is ∙ c.requires.front) c.plain.ensures, c.in_ok-push-in-Symbol.ensures.ok)
