use Rattle.std.proofs.Common.{[]}
use Rattle.nk_notation.specs.Translation.{nothing}
use Rattle.nk_notation.proofs.Cuts.{last_stopped, last_word, open_word}
use Rattle.nk_notation.proofs.cutter.Cutter.end_with_word.Goals as goal

pub returns-in-Ok : goal.returns-in-Ok
returns-in-Ok g c =
    last_word _ (g.N.Notation.made c.args.self.now.notation) (g.N.Notation.made c.end_word.new.self.notation) c.args.self.now.held.items nothing _ _ _
    (open_word _ _ c.requires.word c.args.self.now.holds) (c.in-Ok.ensures.word []) c.end.ensures

pub returns-in-Err : goal.returns-in-Err
returns-in-Err g c =
    last_stopped (Unit {0}) _ (g.N.Notation.made c.args.self.now.notation) c.args.self.now.held.items _ nothing _ _
    (open_word _ _ c.requires.word c.args.self.now.holds) (c.in-Err.ensures.word [])
