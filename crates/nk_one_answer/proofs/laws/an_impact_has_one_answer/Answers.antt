use Rattle.nk_change_impact.specs.Ends.{names_in}
use Rattle.nk_one_answer.proofs.OneImpact.{one_impact_answer, one_impact_fixed, one_pair}
use Rattle.nk_one_answer.proofs.laws.an_impact_has_one_answer.Goals as goal

pub returns-clause-policies : goal.returns-clause-policies
returns-clause-policies c = one_pair

pub returns-clause-words : goal.returns-clause-words
returns-clause-words c = λ words bytes a b h k. one_impact_answer c.declared_fields_are_writable.ensures (names_in words) bytes a b h k

pub returns-clause-runs : goal.returns-clause-runs
returns-clause-runs c = λ words source other bytes a b s o h k.
    one_impact_fixed c.declared_fields_are_writable.ensures (names_in words) source other bytes a b s o h k
