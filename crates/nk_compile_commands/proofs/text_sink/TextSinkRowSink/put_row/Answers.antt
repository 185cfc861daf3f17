use Rattle.std.proofs.Common.{[], ◌∷◌, ◌++◌, subst}
use Rattle.nk_tabtext.specs.Written.{IsWriting}
use Rattle.nk_compile_commands.proofs.text_sink.TextSinkRowSink.put_row.Goals as goal

pub returns : goal.returns
returns c = record {
  text = λ fields topo tables sw before w.
      subst (λ t. IsWriting fields topo tables sw (before ++ record { priority = c.args.priority; matches = c.args.before.now ++ c.args.tag ∷ c.args.after.now; target = t } ∷ []) c.put_row.new.self)
      c.in_ok-target.ensures.target
      (c.in_ok-put_row.ensures fields topo tables sw before w);
  lists = c.in_ok-target.ensures.lists;
}
