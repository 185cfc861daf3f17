use Rattle.nk_query.proofs.laws.one_thing_is_answered.Goals as goal

pub returns : goal.returns
returns c = λ fields x found none least. none found.start found.records found.last least.0.0 least.0.1
