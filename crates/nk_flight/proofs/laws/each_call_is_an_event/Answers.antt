use Rattle.std.proofs.Common.{◌≡◌, ◌∙◌, ap, sym, refl, List, [], ◌∷◌, ◌++◌}
use Rattle.nk_flight.specs.Updates.{Stages, UpdateState, UpdateEvent, after_update, after_updates, state_in, at_the_start}
use Rattle.nk_flight.proofs.laws.each_call_is_an_event.Goals as goal

-- the last event
updates_more : (g : Stages) (es : List UpdateEvent) (e : UpdateEvent) (s : UpdateState) → after_updates g (es ++ e ∷ []) s ≡ after_update g e (after_updates g es s)
updates_more g [] e s = refl
updates_more g (d ∷ es) e s = updates_more g es e (after_update g d s)

pub returns : goal.returns
returns c = λ g es e old new same is becomes. (
  becomes.0 ∙ same,
  becomes.1
      ∙ ap (λ h. after_update h e (state_in old)) same
      ∙ ap (after_update g e) is
      ∙ sym (updates_more g es e (at_the_start g)),
)
