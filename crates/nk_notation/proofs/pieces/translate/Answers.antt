use Rattle.nk_notation.specs.Cutting.{lexemes_left}
use Rattle.nk_notation.specs.Lexemes.{lexemes_of}
use Rattle.nk_notation.proofs.SoFar.{ends_as, made_as}
use Rattle.nk_notation.proofs.pieces.translate.Goals as goal

pub returns : goal.returns
returns g c =
    let cutter = c.new-cutter.result in
    ends_as
    (λ text. g.N.Notation.made cutter.notation (lexemes_left cutter.state cutter.held.items text))
    (λ text. g.N.Notation.made c.args.notation (lexemes_of text)) _ _ c.translate_by.result
    (made_as g.N.Notation.made cutter.notation c.args.notation cutter.state cutter.held.items c.new-cutter.ensures.notation c.new-cutter.ensures.left)
    c.translate_by.ensures
