use Rattle.std.proofs.Common.{◌∙◌, arith}
use Rattle.clap.specs.Simple.{app_of}
use Rattle.nk_words.proofs.Leaves.{more_leaves}
use Rattle.nk_words.proofs.words.with_leaves.Goals as goal

pub loop-leaf-preserved : goal.loop-leaf-preserved
loop-leaf-preserved c = c.in_ok-app.ensures
    ∙ more_leaves c.args.leaves.now c.loop-leaf.leaf-index _ (app_of c.args.command) (app_of c.loop-leaf.app) (omega arith) c.loop-leaf.invariant
