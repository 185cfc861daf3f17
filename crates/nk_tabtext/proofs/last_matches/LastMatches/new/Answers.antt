use Rattle.nk_tabtext.proofs.Remembering.{none_yet}
use Rattle.nk_tabtext.proofs.last_matches.LastMatches.new.Goals as goal

pub returns : goal.returns
returns c = λ fs. none_yet fs _ c.new-matches.ensures.items c.new-text.ensures.items
