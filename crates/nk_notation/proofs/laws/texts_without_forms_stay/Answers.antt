use Rattle.nk_notation.proofs.Kept.{text_kept}
use Rattle.nk_notation.proofs.laws.texts_without_forms_stay.Goals as goal

pub returns : goal.returns
returns c = text_kept
