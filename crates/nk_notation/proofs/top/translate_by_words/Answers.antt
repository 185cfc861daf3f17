use Rattle.nk_notation.proofs.Endings.{caused, tells_faults, tells_read, tells_usage, tells_write}
use Rattle.nk_notation.proofs.Succeeding.{succeeds}
use Rattle.nk_notation.proofs.top.translate_by_words.Goals as goal

-- all of them follow from how the run ends
pub returns-clause-causes : goal.returns-clause-causes
returns-clause-causes g c = caused _ _ _ _ _ c.translate_words.ensures.answers

pub returns-clause-faults : goal.returns-clause-faults
returns-clause-faults g c = tells_faults _ _ _ _ _ c.translate_words.ensures.answers

pub returns-clause-read_faults : goal.returns-clause-read_faults
returns-clause-read_faults g c = tells_read _ _ _ _ _ c.translate_words.ensures.answers

pub returns-clause-write_faults : goal.returns-clause-write_faults
returns-clause-write_faults g c = tells_write _ _ _ _ _ c.translate_words.ensures.answers

pub returns-clause-usage : goal.returns-clause-usage
returns-clause-usage g c = tells_usage _ _ _ _ _ c.translate_words.ensures.answers

pub returns-clause-succeeds : goal.returns-clause-succeeds
returns-clause-succeeds g c = succeeds _ _ _ _ _ c.translate_words.ensures.answers
