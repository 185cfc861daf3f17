use Rattle.std.proofs.Common.{◌+◌, refl, sym, ◌∙◌, arith}
use Rattle.nk_sim.proofs.Finding.{room_kept}
use Rattle.nk_sim.proofs.finder.make_room.Goals as goal

pub returns-clause-kept : goal.returns-clause-kept
returns-clause-kept c =
    let old = c.args.places.now in
    let new = c.resize.new.self in
    room_kept old.items new.items old.len (c.from-at.result + 1) old.ok.0 (omega arith) (sym new.ok.0 ∙ c.in_ok-resize.ensures.len)
    c.in_ok-resize.ensures.by_index.0 (λ k d. c.in_ok-resize.ensures.by_index.1 k d refl)
