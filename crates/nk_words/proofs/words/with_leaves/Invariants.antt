use Rattle.std.proofs.Common.{◌≡◌, take, fold}
use Rattle.clap.specs.Simple.{app_of}
use Rattle.nk_words.specs.App.{with_leaf}
use Rattle.nk_words.proofs.words.with_leaves.Given as goal

abbrev pub invariant-loop-leaf : goal.invariant-loop-leaf
invariant-loop-leaf l = app_of l.app ≡ fold with_leaf (app_of l.fn.command) (take l.leaf-index l.leaves)
