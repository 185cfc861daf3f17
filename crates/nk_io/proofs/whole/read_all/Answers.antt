use Rattle.std.proofs.Common.{rules}
use Rattle.nk_io.proofs.Pieces.{more_given, within_given}
use Rattle.nk_io.proofs.whole.read_all.Goals as goal

-- more than the limit was given
pub returns-then-count-limit-clause-cause : goal.returns-then-count-limit-clause-cause
returns-then-count-limit-clause-cause g c = (
  search rules,
  more_given _ _ _ _ c.read.new.into c.in_ok-count.count _
      (search rules) (search rules) c.pieces.invariant.read (search rules),
)

-- what was given before memory ran out
pub returns-then-is_err-clause-cause : goal.returns-then-is_err-clause-cause
returns-then-is_err-clause-cause g c = (
  search rules,
  within_given _ _ _ _ c.read.new.into c.in_ok-count.count _
      (search rules) (search rules) c.pieces.invariant.read (search rules),
)
