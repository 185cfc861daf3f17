use Rattle.nk_tabtext.proofs.Alike.{declares_alike}
use Rattle.nk_tabtext.proofs.laws.table_texts_declare_as_programs_do.Goals as goal

pub returns : goal.returns
returns c = declares_alike
