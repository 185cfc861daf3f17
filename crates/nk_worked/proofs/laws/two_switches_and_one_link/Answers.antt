use Rattle.nk_worked.proofs.Tables.{printed}
use Rattle.nk_worked.proofs.Program.{accepted}
use Rattle.nk_worked.proofs.Leaving.{leaves}
use Rattle.nk_worked.proofs.Text.{printed_so}
use Rattle.nk_worked.proofs.laws.two_switches_and_one_link.Goals as goal

pub returns-clause-compilable : goal.returns-clause-compilable
returns-clause-compilable c = printed

pub returns-clause-accepted : goal.returns-clause-accepted
returns-clause-accepted c = accepted

pub returns-clause-leaves : goal.returns-clause-leaves
returns-clause-leaves c = leaves

pub returns-clause-text : goal.returns-clause-text
returns-clause-text c = printed_so
