use Rattle.std.proofs.Common.{ap, map, ◌∙◌}
use Rattle.nk_notation.specs.Answer.{outward_text}
use Rattle.nk_notation.specs.Lexemes.{lexemes_of}
use Rattle.nk_notation.specs.Outward.{named_form, outward}
use Rattle.nk_notation.specs.declared.context.TextKind.TheVariants as kind
use Rattle.nk_notation.proofs.SoFar.{ends_as}
use Rattle.nk_notation.proofs.top.translate_out.Goals as goal

pub returns : goal.returns
returns g c = record {
  ending = c.translate-ending.result;
  ends = ends_as (λ text. outward (map named_form c.new.result.fields.items) c.new.result.kind c.new.result.spot (lexemes_of text))
      (outward_text (map named_form c.args.fields.items)) _ _ c.translate-ending.result
      (λ text.
      ap (λ f. outward (map named_form f.items) c.new.result.kind c.new.result.spot (lexemes_of text)) c.new.ensures.fields
      ∙ ap (λ k. outward (map named_form c.args.fields.items) k c.new.result.spot (lexemes_of text)) c.new.ensures.kind
      ∙ ap (λ s. outward (map named_form c.args.fields.items) kind.Unknown s (lexemes_of text)) c.new.ensures.spot)
      c.translate-ending.ensures;
  tells = c.tell.ensures;
}
