use Rattle.std.proofs.Common.{◌≡◌, ◌+◌, ◌-◌, ℕ, ap, ◌∙◌, drop, arith}
use Rattle.nk_sim.specs.Emitted.{table_of}
use Rattle.nk_sim.proofs.Finding.{found_first}
use Rattle.nk_sim.proofs.finder.places_of.Goals as goal

pub loop-i-preserved : goal.loop-i-preserved
loop-i-preserved c =
    let ts = c.args.tables.now in
    let i : ℕ = c.loop-i.i - 1 in
    let e : c.loop-i.i ≡ i + 1 = omega arith in
    record {
      within = omega arith;
      found = found_first c.loop-i.places.items c.set_place.new.places.items ts i c.index-tables-i.result (omega arith) c.in_ok-set_place.ensures
          (λ sw. c.loop-i.invariant.found sw ∙ ap (λ n. table_of (drop n ts) sw) e);
    }
