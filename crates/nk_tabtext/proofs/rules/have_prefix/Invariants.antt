use Rattle.std.proofs.Common.{◌≡◌, drop}
use Rattle.nk_tabtext.specs.Text.{have_prefix}
use Rattle.nk_tabtext.proofs.rules.have_prefix.Given as goal

-- none of the rows so far has a prefix
abbrev pub invariant-loop-row : goal.invariant-loop-row
invariant-loop-row l = have_prefix l.fs (drop l.row-index l.rows) ≡ have_prefix l.fs l.rows
