-- A program's text whose tokens are taken one by one.
use Rattle.std.specs.Prelude.{List}
use Rattle.nk_lex.specs.declared.token.Token.{Token}
use Rattle.nk_grammar.specs.File.{Declaration}
use Rattle.nk_grammar.specs.TextProgress.{IsTextRead}
use Rattle.nk_names.specs.Declaring.{IsDeclared}
use Rattle.nk_input.specs.declared.program_tokens.ProgramTokens.{ProgramTokens}

-- these are the tokens so far: they completed some declarations, which say what is known
pub record AreTaken (ts : List Token) (t : ProgramTokens) : Type 0 where
  pub declarations : List Declaration
  pub read : IsTextRead ts declarations t.grammar
  pub said : IsDeclared declarations t.program
