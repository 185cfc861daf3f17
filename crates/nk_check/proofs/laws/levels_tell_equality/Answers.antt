use Rattle.std.specs.Prelude.{true, false}
use Rattle.nk_cert.proofs.Levels.{same_by_levels, differ_by_levels}
use Rattle.nk_check.proofs.laws.levels_tell_equality.Goals as goal

pub returns-clause-same : goal.returns-clause-same
returns-clause-same c = λ fields p q states left right first old new ss set start bad ls lv.
    same_by_levels fields p q states left right first old new ss set start bad ls false lv lv.levels

pub returns-clause-differ : goal.returns-clause-differ
returns-clause-differ c = λ fields p q states left right first old new ss set start bad ls lv.
    differ_by_levels fields p q states left right first old new ss set start bad ls true lv lv.levels
