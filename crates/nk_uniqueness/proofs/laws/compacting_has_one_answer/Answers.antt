use Rattle.nk_compact.proofs.CompactReasons.{never_refused_compact, one_compact_refusal}
use Rattle.nk_uniqueness.proofs.OneCompact.{one_compacted}
use Rattle.nk_uniqueness.proofs.laws.compacting_has_one_answer.Goals as goal

pub returns-clause-tables : goal.returns-clause-tables
returns-clause-tables c = λ program other name a b same there h k. one_compacted program other same name a b there h k

pub returns-clause-accepted : goal.returns-clause-accepted
returns-clause-accepted c = λ program other name r same h k. never_refused_compact program other same name r h k

pub returns-clause-refused : goal.returns-clause-refused
returns-clause-refused c = λ program other name r s same h k. one_compact_refusal program other same name r s h k
