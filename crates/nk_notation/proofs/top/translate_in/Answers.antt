use Rattle.std.proofs.Common.{ap}
use Rattle.nk_notation.specs.Answer.{inward_text}
use Rattle.nk_notation.specs.Inward.{inward}
use Rattle.nk_notation.specs.Lexemes.{lexemes_of}
use Rattle.nk_notation.proofs.SoFar.{ends_as}
use Rattle.nk_notation.proofs.top.translate_in.Goals as goal

pub returns : goal.returns
returns g c = record {
  ending = c.translate-ending.result;
  ends = ends_as (λ text. inward c.new.result (lexemes_of text)) inward_text _ _ c.translate-ending.result
      (λ text. ap (λ r. inward r (lexemes_of text)) c.new.ensures) c.translate-ending.ensures;
  tells = c.tell.ensures;
}
