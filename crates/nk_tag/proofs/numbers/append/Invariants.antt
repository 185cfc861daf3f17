use Rattle.std.proofs.Common.{◌≡◌, take}
use Rattle.std.specs.Prelude.{map, nat_eq}
use Rattle.indexmap.specs.IndexSet.{insert_all}
use Rattle.nk_tag.proofs.numbers.append.Given as goal

abbrev pub invariant-loop-set : goal.invariant-loop-set
invariant-loop-set l = l.all.keys ≡ insert_all nat_eq l.fn.all.keys (map (λ x. x.1) (take l.set-index l.sets))
