use Rattle.std.proofs.Common.{◌≡◌, true}
use Rattle.nk_runs.proofs.Breaking.{breaks_given}
use Rattle.nk_runs.proofs.laws.wrong_ends_break.Goals as goal

pub returns : goal.returns
returns c = λ st states start bad p wrong a d tidy made f.
    breaks_given st states (λ y. wrong y ≡ true) bad made start p a d tidy f
