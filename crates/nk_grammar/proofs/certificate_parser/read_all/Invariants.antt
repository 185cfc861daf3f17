use Rattle.std.proofs.Common.{take}
use Rattle.std.specs.Prelude.{map}
use Rattle.nk_grammar.specs.Certified.{row_value}
use Rattle.nk_grammar.specs.CertifiedProgress.{IsRead}
use Rattle.nk_grammar.specs.File.{declaration_of}
use Rattle.nk_grammar.proofs.certificate_parser.read_all.Given as goal

-- the tokens so far are read
abbrev pub invariant-loop-token : goal.invariant-loop-token
invariant-loop-token l =
    IsRead (take l.token-index l.tokens) (map declaration_of l.decls.items) (map row_value l.rows.items) l.reader
