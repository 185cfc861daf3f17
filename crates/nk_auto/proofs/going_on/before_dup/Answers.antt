use Rattle.std.proofs.Common.{subst}
use Rattle.nk_policy.specs.Policy.{dup}
use Rattle.nk_auto.specs.Continued.{IsContinued}
use Rattle.nk_auto.proofs.Going.{dup_continued}
use Rattle.nk_auto.proofs.going_on.before_dup.Goals as goal

pub returns-clause-ok : goal.returns-clause-ok
returns-clause-ok c =
    subst (λ x. IsContinued c.recorded.new.st c.in_ok-d.d (dup x) c.args.next) c.from.ensures
    (dup_continued c.recorded.new.st c.in_ok-d.d c.from.result c.args.next c.in_ok-d.ensures.ok (c.recorded.ensures.grows.ids c.args.next c.requires))
