use Rattle.nk_grammar.proofs.TextReading.{ends_as_whole, written_at_end}
use Rattle.nk_grammar.proofs.text_parser.TextParser.end.Goals as goal

pub returns-clause-read : goal.returns-clause-read
returns-clause-read c = λ ts ds h. ends_as_whole ts ds c.args.self c.last.result h c.last.ensures

pub returns-clause-written : goal.returns-clause-written
returns-clause-written c = λ ts ds h v. written_at_end ts ds c.last.result (ends_as_whole ts ds c.args.self c.last.result h c.last.ensures) v
