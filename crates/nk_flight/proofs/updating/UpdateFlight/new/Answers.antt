use Rattle.std.proofs.Common.{◌≡◌, ℕ, zero, suc, ◌∙◌, ap, refl, None, []}
use Rattle.nk_flight.specs.Flights.{state_of}
use Rattle.nk_flight.specs.Trails.{copies_at}
use Rattle.nk_flight.specs.Updates.{at_the_start, version_by}
use Rattle.nk_flight.proofs.updating.UpdateFlight.new.Goals as goal

-- no version is known
no_versions : (n : ℕ) → version_by [] n ≡ None
no_versions zero = refl
no_versions (suc n) = refl

pub returns-clause-state : goal.returns-clause-state
returns-clause-state c =
    let g = c.in_ok-stages.stages in
    (λ j. record {
      flight = state_of g.before (c.new-4.ensures.items j) (copies_at g.before.fields (c.in_ok-hops.ensures j) (c.new-5.ensures j)) (c.new-6.ensures.items j);
      done = λ sw. c.in_ok-progress.ensures.none sw j;
      versions = λ n. (ap (λ l. version_by l n) c.new-7.ensures.items ∙ no_versions n) j;
    })
    ∙ ap at_the_start c.in_ok-stages.ensures
