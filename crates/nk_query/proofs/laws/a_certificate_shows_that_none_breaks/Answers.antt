use Rattle.nk_query.proofs.Beside.{certificate_shows}
use Rattle.nk_query.proofs.Named.{named_fit}
use Rattle.nk_query.proofs.laws.a_certificate_shows_that_none_breaks.Goals as goal

pub returns-clause-fit : goal.returns-clause-fit
returns-clause-fit c = λ fields x predicates fit cert is. certificate_shows fields x predicates fit cert is

pub returns-clause-named : goal.returns-clause-named
returns-clause-named c = λ program asked x ok named cert is.
    certificate_shows program.fields x named.can.predicates (named_fit program asked x ok named.names named.can) cert is
