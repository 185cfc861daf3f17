use Rattle.std.proofs.Common.{◌≡◌, map, take, false}
use Rattle.clap.specs.declared.builder.command.Command.TheViews.{out-Command as fields_of}
use Rattle.clap.specs.Simple.{app_of}
use Rattle.nk_words.specs.App.{leaf_app}
use Rattle.nk_words.proofs.words.leaf.Given as goal

abbrev pub invariant-loop-argument : goal.invariant-loop-argument
invariant-loop-argument l = record {
  app : app_of l.command ≡ leaf_app l.name (map (λ a. a.now) (take l.argument-index l.arguments));
  local : (fields_of l.command).has_globals ≡ false;
}
