use Rattle.std.proofs.Common.{◌≡◌, true}
use Rattle.nk_runs.proofs.Ends.{none_ends, some_ends}
use Rattle.nk_runs.proofs.Breaking.{is_alert, is_right}
use Rattle.nk_runs.proofs.laws.ends_are_met.Goals as goal

pub returns-clause-none : goal.returns-clause-none
returns-clause-none c = λ old new ss states set start bad ls p wrong a d tidy from made levels h.
    none_ends old new ss states set start bad ls p (λ y. wrong y ≡ true) a d tidy from (is_alert old states (λ y. wrong y ≡ true) bad made) levels h

pub returns-clause-some : goal.returns-clause-some
returns-clause-some c = λ old new ss states set start bad ls p wrong a d tidy from made levels.
    some_ends old new ss states set start bad ls p (λ y. wrong y ≡ true) a d tidy from (is_right old states (λ y. wrong y ≡ true) bad made) levels
