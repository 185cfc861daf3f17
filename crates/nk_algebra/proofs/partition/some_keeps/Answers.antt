use Rattle.std.proofs.Common.{arith}
use Rattle.nk_store.specs.StoreState.{IsId}
use Rattle.nk_algebra.proofs.Chosen.{each_place}
use Rattle.nk_algebra.proofs.partition.some_keeps.Goals as goal

pub part_keeps-requires : goal.part_keeps-requires
part_keeps-requires c = each_place (IsId c.args.st.now) c.args.parts.now c.loop-i.i _ c.requires (omega (arith, c.loop-i-test.true))
