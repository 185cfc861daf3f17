use Rattle.std.proofs.Common.{[]}
use Rattle.nk_tabtext.proofs.last_row.LastRow.new.Goals as goal

pub returns : goal.returns
returns c = λ fs. record { ms = []; matches = c.new-matches.ensures fs; bucket = c.new-bucket.ensures fs }
