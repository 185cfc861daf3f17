use Rattle.std.proofs.Common.{◌++◌, refl, sym, ap, ◌∙◌}
use Rattle.std.proofs.lemmas.List.{append-nil}
use Rattle.nk_tabtext.specs.Written.{head_text}
use Rattle.nk_tabtext.proofs.writer.TableWriter.new.Goals as goal

pub returns : goal.returns
returns c = record {
  same_fields = refl;
  prefixes = refl;
  text = c.in_ok-head.ensures
      ∙ ap (λ l. l ++ head_text 1 c.args.fields.now c.args.topo.now) c.new-text.ensures.items
      ∙ sym (append-nil (head_text 1 c.args.fields.now c.args.topo.now));
  last = c.new-last.ensures c.args.fields.now;
}
