use Rattle.std.proofs.Common.{◌+◌}
use Rattle.nk_prefix.specs.Prefix.{digits_of}
use Rattle.nk_prefix.specs.Blocks.{end_of}
use Rattle.nk_prefix.proofs.Covers.{counted_once, in_interval, has_block, alone, apart}
use Rattle.nk_prefix.proofs.laws.blocks_cover.Goals as goal

pub returns-clause-count : goal.returns-clause-count
returns-clause-count c = counted_once

pub returns-clause-within : goal.returns-clause-within
returns-clause-within c = in_interval

pub returns-clause-found : goal.returns-clause-found
returns-clause-found c = has_block

pub returns-clause-alone : goal.returns-clause-alone
returns-clause-alone c = λ lo hi max n. alone (digits_of max) (end_of lo hi max) max (end_of lo hi max + 1) lo n

pub returns-clause-apart : goal.returns-clause-apart
returns-clause-apart c = apart
