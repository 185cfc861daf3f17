use Rattle.std.proofs.Common.{◌∙◌, arith}
use Rattle.nk_words.proofs.Leaves.{more_leaf}
use Rattle.nk_words.proofs.words.leaf.Goals as goal

pub loop-argument-preserved : goal.loop-argument-preserved
loop-argument-preserved c = record {
  app = c.in_ok-command.ensures.app
      ∙ more_leaf c.args.name.now c.args.arguments.now c.loop-argument.argument-index _ _ (omega arith) c.loop-argument.invariant.app;
  local = c.in_ok-command.ensures.local ∙ c.loop-argument.invariant.local;
}
