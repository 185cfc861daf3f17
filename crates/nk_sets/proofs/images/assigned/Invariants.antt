use Rattle.std.proofs.Common.{take}
use Rattle.std.specs.Prelude.{◌&&◌}
use Rattle.nk_store.specs.StoreState.{Grows}
use Rattle.nk_sets.specs.PacketSets.{is_in, IsPacketSetOf}
use Rattle.nk_sets.specs.Images.{are_assigned}
use Rattle.nk_sets.proofs.images.assigned.Given as goal

abbrev pub invariant-loop-f : goal.invariant-loop-f
invariant-loop-f l = record {
  grows : Grows l.fn.st l.st;
  kept : IsPacketSetOf l.st l.kept (λ pk. are_assigned l.fn.st.maxes (take l.f-index l.f-items) pk && is_in l.fn.st l.fn.s pk);
}
