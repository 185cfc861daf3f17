use Rattle.std.proofs.Common.{◌++◌, List, take}
use Rattle.nk_lex.specs.declared.token.Token.{Token}
use Rattle.nk_input.proofs.pieces.take_all.Given as goal

-- the tokens so far were taken
abbrev pub invariant-loop-token : goal.invariant-loop-token
invariant-loop-token g l = (before : List Token) → g.R.TokenReader.has_taken l.fn.reader before
    → g.R.TokenReader.has_taken l.reader (before ++ take l.token-index l.tokens)
