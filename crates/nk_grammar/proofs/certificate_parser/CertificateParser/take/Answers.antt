use Rattle.std.proofs.Common.{[], ◌∷◌, ◌++◌}
use Rattle.nk_grammar.specs.CertifiedProgress.{declarations_by, rows_by}
use Rattle.nk_grammar.proofs.Completing.{completes_written, part_written}
use Rattle.nk_grammar.proofs.Progress.{on_ok, one_more_read}
use Rattle.nk_grammar.proofs.Stopping.{unmended}
use Rattle.nk_grammar.proofs.certificate_parser.CertificateParser.take.Goals as goal

pub returns-clause-tokens : goal.returns-clause-tokens
returns-clause-tokens c = λ ts ds rs h.
    on_ok c.put.result (λ o e. one_more_read ts ds (declarations_by o) rs (rows_by o) c.args.self.now c.put.new.self c.args.token.now e h)
    c.put.ensures.taken

pub returns-clause-written : goal.returns-clause-written
returns-clause-written c = λ ts ds rs h v.
    on_ok c.put.result (λ o e. part_written (ts ++ c.args.token.now ∷ []) ds rs c.put.new.self o v
    (one_more_read ts ds (declarations_by o) rs (rows_by o) c.args.self.now c.put.new.self c.args.token.now e h))
    c.put.ensures.taken

pub returns-clause-start : goal.returns-clause-start
returns-clause-start c = λ ts ds rs h.
    on_ok c.put.result (λ o e. (completes_written (ts ++ c.args.token.now ∷ []) (ds ++ declarations_by o) (rs ++ rows_by o) c.put.new.self
    (one_more_read ts ds (declarations_by o) rs (rows_by o) c.args.self.now c.put.new.self c.args.token.now e h)).0)
    c.put.ensures.taken

pub returns-clause-unmended : goal.returns-clause-unmended
returns-clause-unmended c = λ ts ds rs h n. c.put.ensures.stopped (unmended ts ds rs c.args.self.now h n)
