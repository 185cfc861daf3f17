use Rattle.std.proofs.Common.{sym, subst}
use Rattle.nk_grammar.specs.TextProgress.{IsTextRead}
use Rattle.nk_input.proofs.program_tokens.ProgramTokens.take_token.Goals as goal

pub returns-then-taken : goal.returns-then-taken
returns-then-taken c = λ ts h. record {
  declarations = h.declarations;
  read = c.in_ok-taken.ensures.taken ts h.declarations h.read c.if-taken.true;
  said = h.said;
}

pub returns-else-taken : goal.returns-else-taken
returns-else-taken c = λ ts h. c.take_other.ensures ts (record {
  declarations = h.declarations;
  read = subst (IsTextRead ts h.declarations) (sym (c.in_ok-taken.ensures.others c.if-taken.false)) h.read;
  said = h.said;
})
