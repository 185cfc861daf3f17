use Rattle.nk_names.proofs.Beside.{says_declared}
use Rattle.nk_names.proofs.laws.programs_declare_as_texts_do.Goals as goal

pub returns : goal.returns
returns c = says_declared
