use Rattle.nk_policy.specs.Tree.{tree_of}
use Rattle.nk_auto.proofs.OfParts.{silent_aimed}
use Rattle.nk_auto.proofs.by_parts.state_of_part.Goals as goal

pub with_legs-requires : goal.with_legs-requires
with_legs-requires c = silent_aimed c.silent.new.st c.in_ok-free.free (tree_of c.args.part.now.free) c.in_ok-free.ensures.ok
