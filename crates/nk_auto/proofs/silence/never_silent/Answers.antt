use Rattle.nk_auto.proofs.Silences.{dup_silent, link_silent}
use Rattle.nk_auto.proofs.silence.never_silent.Goals as goal

pub returns-clause-dup : goal.returns-clause-dup
returns-clause-dup c = λ l. dup_silent c.empty.new.st c.in_ok-d.d l c.in_ok-d.ensures.ok

pub returns-clause-link : goal.returns-clause-link
returns-clause-link c = λ a m b n l. link_silent c.empty.new.st c.in_ok-d.d a m b n l c.in_ok-d.ensures.ok
