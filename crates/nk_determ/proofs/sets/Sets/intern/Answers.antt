use Rattle.nk_determ.proofs.Interned.{stored_set}
use Rattle.nk_determ.proofs.sets.Sets.intern.Goals as goal

pub returns-clause-ok : goal.returns-clause-ok
returns-clause-ok c = let s = c.in_ok-place.ensures.stored in stored_set c.intern.new.self c.in_ok-place.place s.0 c.args.labels s.1 s.2
