use Rattle.std.proofs.Common.{ap, ◌++◌, ◌∷◌, [], ◌∙◌}
use Rattle.nk_notation.proofs.Cuts.{begun, nothing_held}
use Rattle.nk_notation.proofs.cutter.Cutter.begin_word.Goals as goal

-- the first byte of a word is held
pub invariant_of-self : goal.invariant_of-self
invariant_of-self g c = record {
  holds = begun _ c.args.byte
      (c.in-Ok.ensures.items ∙ ap (λ l. l ++ c.args.byte ∷ []) (nothing_held _ _ c.requires.between c.args.self.now.holds)) c.requires.begins;
}
