use Rattle.std.proofs.Common.{sym, subst}
use Rattle.nk_tabtext.specs.Progress.{IsStopped}
use Rattle.nk_tabtext.proofs.Stopping.{stops_with_texts}
use Rattle.nk_tabtext.proofs.reading.TableReader.take.Goals as goal

pub returns-clause-unmended : goal.returns-clause-unmended
returns-clause-unmended c = λ ts h n. c.put.ensures.stopped (subst IsStopped (sym h) ((stops_with_texts ts).1 n))
