use Rattle.std.proofs.Common.{◌∙◌, refl, ap}
use Rattle.nk_flight.specs.Updates.{done_by}
use Rattle.nk_flight.proofs.Counting.{fresh_progress, none_at}
use Rattle.nk_flight.proofs.progress.Progress.new.Goals as goal

pub invariant_of-result : goal.invariant_of-result
invariant_of-result c =
    fresh_progress 65536 c.args.topo.now.switches c.in_ok-switches.switches.items c.in_ok-done.done.items refl c.switches.ensures.is.switches
    (c.in_ok-switches.ensures.items ∙ c.switches.ensures.numbers) (c.in_ok-done.ensures.items_if_clones_equal (λ y same. same))

pub returns-clause-switches : goal.returns-clause-switches
returns-clause-switches c = c.in_ok-switches.ensures.items ∙ c.switches.ensures.numbers

pub returns-clause-none : goal.returns-clause-none
returns-clause-none c = λ sw. ap (λ l. done_by l sw) (c.in_ok-done.ensures.items_if_clones_equal (λ y same. same)) ∙ none_at 65536 sw
