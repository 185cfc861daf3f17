use Rattle.nk_grammar.proofs.FieldsOfTexts.{declares_fields}
use Rattle.nk_grammar.proofs.laws.fields_of_texts_have_names.Goals as goal

pub returns : goal.returns
returns c = declares_fields c.a_name_is_one.ensures c.values_are_small.ensures
