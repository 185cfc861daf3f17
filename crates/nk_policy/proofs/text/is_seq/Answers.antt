use Rattle.nk_policy.proofs.TextSteps.{seq_has_part}
use Rattle.nk_policy.proofs.text.is_seq.Goals as goal

pub returns-in-Seq : goal.returns-in-Seq
returns-in-Seq c = seq_has_part _ c.in-Seq.ps _ _ c.in-Seq.is c.as_slice.ensures c.is_empty.ensures
