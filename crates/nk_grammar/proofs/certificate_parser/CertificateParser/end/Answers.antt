use Rattle.nk_grammar.proofs.Progress.{ends_as_whole}
use Rattle.nk_grammar.proofs.WrittenRows.{last_row_begins, last_row_written}
use Rattle.nk_grammar.proofs.certificate_parser.CertificateParser.end.Goals as goal

pub returns-clause-read : goal.returns-clause-read
returns-clause-read c = λ ts ds rs h. ends_as_whole ts ds rs c.args.self c.last_row.result h c.last_row.ensures

pub returns-clause-written : goal.returns-clause-written
returns-clause-written c = λ ts ds rs h v.
    last_row_written ts ds rs c.last_row.result v (ends_as_whole ts ds rs c.args.self c.last_row.result h c.last_row.ensures)

pub returns-clause-start : goal.returns-clause-start
returns-clause-start c = λ ts ds rs h.
    last_row_begins ts ds rs c.last_row.result (ends_as_whole ts ds rs c.args.self c.last_row.result h c.last_row.ensures)
