use Rattle.std.proofs.Common.{◌≡◌, arith, subst, take, ◌∙◌}
use Rattle.std.proofs.lemmas.List.{take_all}
use Rattle.nk_lex.specs.Lex.{tokens_of}
use Rattle.nk_tabtext.specs.Progress.{IsTaken}
use Rattle.nk_tabtext.proofs.Printable.{lexed_ok}
use Rattle.nk_tabtext.proofs.reading.read_tables.Goals as goal

pub returns-clause-printable : goal.returns-clause-printable
returns-clause-printable c =
    let ts = c.in_ok-tokens.tokens.items in
    let whole : take c.loop-token.token-index c.as_slice-token-items.result.now ≡ ts =
    take_all c.loop-token.token-index c.as_slice-token-items.result.now (omega arith) ∙ c.as_slice-token-items.ensures.value in
    c.end.ensures.printable c.args.text.now ts (lexed_ok (tokens_of c.args.text.now) ts c.in_ok-tokens.ensures)
    (subst (λ l. IsTaken l c.loop-token.reader) whole c.loop-token.invariant)
