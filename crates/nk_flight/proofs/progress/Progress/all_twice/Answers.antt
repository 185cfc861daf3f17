use Rattle.std.proofs.Common.{ℕ, Bool, ◌∙◌, ap}
use Rattle.std.specs.Prelude.{◌==◌, nat_le}
use Rattle.nk_flight.specs.Updates.{done_by}
use Rattle.nk_flight.specs.Progresses.{ProgressState}
use Rattle.std.specs.List.{list_all}
use Rattle.nk_flight.proofs.Counting.{all_counted}
use Rattle.nk_flight.proofs.progress.Progress.all_twice.Goals as goal

pub returns : goal.returns
returns c =
    let inside = c.self.inside in
    let switches = inside.switches.items in
    let test : ℕ → Bool = λ sw. nat_le 2 (done_by inside.done.items sw) in
    (λ j. c.self.invariant.twos j == (c.len.ensures ∙ inside.switches.ok.0) j)
    ∙ all_counted test switches
    ∙ ap (λ (p : ProgressState). list_all (λ sw. nat_le 2 (done_by p.done sw)) p.switches) c.self.view_is
