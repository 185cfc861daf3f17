use Rattle.std.proofs.Common.{ap, subst, ◌∙◌}
use Rattle.nk_tabgrammar.specs.Machine.{TableParseReturns}
use Rattle.nk_tabtext.specs.Progress.{tables_of_progress}
use Rattle.nk_tabtext.proofs.Printable.{of_tokens}
use Rattle.nk_tabtext.proofs.Whole.{reads_as_whole}
use Rattle.nk_tabtext.proofs.reading.TableReader.end.Goals as goal

pub returns-clause-tables : goal.returns-clause-tables
returns-clause-tables c = λ ts h.
    subst (λ r. TableParseReturns (λ t. t) c.known_at_end.result r) (ap tables_of_progress h ∙ reads_as_whole ts) c.known_at_end.ensures

pub returns-clause-printable : goal.returns-clause-printable
returns-clause-printable c = λ text ts cut h.
    of_tokens text ts c.known_at_end.result cut
    (subst (λ r. TableParseReturns (λ t. t) c.known_at_end.result r) (ap tables_of_progress h ∙ reads_as_whole ts) c.known_at_end.ensures)
