use Rattle.nk_lex.proofs.Stays.{faults_stay}
use Rattle.nk_lex.proofs.piece_laws.a_fault_stays.Goals as goal

pub returns : goal.returns
returns c = faults_stay
