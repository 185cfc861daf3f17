use Rattle.nk_notation.proofs.Cuts.{held_after}
use Rattle.nk_notation.proofs.cutter.Cutter.hold.Goals as goal

-- one more byte of a word is held, unless memory ran out
pub invariant_of-self : goal.invariant_of-self
invariant_of-self g c = record {
  holds = held_after _ _ _ _ _ c.requires.word c.args.self.now.holds c.push.ensures.items c.requires.room c.requires.run;
}
