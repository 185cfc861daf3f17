use Rattle.nk_names.proofs.Writable.{declares_writable}
use Rattle.nk_names.proofs.laws.declared_fields_are_writable.Goals as goal

pub returns : goal.returns
returns c = declares_writable c.fields_of_texts_have_names.ensures
