use Rattle.std.proofs.Common.{[], ◌∷◌, ◌++◌, ap, subst, ◌∙◌}
use Rattle.nk_group.specs.Groups.{numbered, rows_after, lists_after}
use Rattle.nk_tabtext.specs.Written.{HasWritten, IsWriting}
use Rattle.nk_compile_commands.proofs.text_sink.TextSinkTableSink.end.Goals as goal

pub returns : goal.returns
returns c = λ s t sw rows begun put fields topo before w.
    subst (λ gs. HasWritten fields topo (before ++ record { switch = sw; groups = gs; rows = rows_after [] rows } ∷ []) c.end_table.new.self)
    (c.as_slice.ensures.value ∙ c.in_ok-groups.ensures ∙ ap (λ l. numbered 1 l.keys) c.replace-lists.ensures.value ∙ ap (λ ls. numbered 1 ls) (put.lists ∙ ap (λ ls. lists_after ls rows) begun.0))
    (c.in_ok-end_table.ensures fields topo before sw (rows_after [] rows)
    (subst (λ ls. IsWriting fields topo before sw (rows_after ls rows) c.args.self.now.writer) begun.0
    (put.text fields topo before sw [] (begun.1 fields topo before w))))
