use Rattle.nk_grammar.specs.FileReader.{declaration_done}
use Rattle.nk_grammar.proofs.TextReading.{on_each, one_more_read}
use Rattle.nk_grammar.proofs.text_parser.TextParser.take.Goals as goal

pub returns-clause-tokens : goal.returns-clause-tokens
returns-clause-tokens c = λ ts ds h.
    on_each c.put.result (λ o g. one_more_read ts ds (declaration_done o) c.args.self.now c.put.new.self c.args.token.now g h)
    c.put.ensures.taken
