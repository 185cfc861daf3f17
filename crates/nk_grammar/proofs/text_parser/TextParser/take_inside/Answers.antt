use Rattle.std.proofs.Common.{[], ◌∷◌, ◌++◌, append-nil, subst}
use Rattle.nk_grammar.specs.TextProgress.{IsTextRead}
use Rattle.nk_grammar.proofs.TextReading.{on_each, one_more_read}
use Rattle.nk_grammar.proofs.text_parser.TextParser.take_inside.Goals as goal

pub returns-clause-taken : goal.returns-clause-taken
returns-clause-taken c = λ ts ds h.
    on_each c.put_inside.result (λ taken g is. subst (λ es. IsTextRead (ts ++ c.args.token.now ∷ []) es c.put_inside.new.self) (append-nil ds)
    (one_more_read ts ds [] c.args.self.now c.put_inside.new.self c.args.token.now (g is) h))
    c.put_inside.ensures.taken
