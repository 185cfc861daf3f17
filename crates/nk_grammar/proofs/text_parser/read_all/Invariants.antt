use Rattle.std.proofs.Common.{take}
use Rattle.std.specs.Prelude.{map}
use Rattle.nk_grammar.specs.File.{declaration_of}
use Rattle.nk_grammar.specs.TextProgress.{IsTextRead}
use Rattle.nk_grammar.proofs.text_parser.read_all.Given as goal

-- the tokens so far are read
abbrev pub invariant-loop-token : goal.invariant-loop-token
invariant-loop-token l = IsTextRead (take l.token-index l.tokens) (map declaration_of l.decls.items) l.reader
