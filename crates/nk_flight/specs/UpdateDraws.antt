-- Updates that are drawn: in each turn the next draw says what happens.
use Rattle.std.specs.Prelude.{◌≡◌, ℕ, zero, suc, ◌%◌, ◌==◌, ◌⊎◌, List, [], ◌∷◌, ◌++◌, length, map, filter, slice_index_or, All, Contains}
use Rattle.std.specs.List.{range_with_len}
use Rattle.nk_flight.specs.Draws.{draw}
use Rattle.nk_flight.specs.Updates.{Stages, UpdateState, UpdateEvent, inject, move, plan, after_update, switches_in, may_plan}

-- the switches that may do their next plan step, in the order of the declared ones
abbrev pub those_that_may : Stages → UpdateState → List ℕ
those_that_may g s = filter (may_plan g s) (switches_in g)

-- What can happen in a turn: the packet comes in; one of the copies in flight is handled; one of the switches that may does its
-- next plan step.
abbrev pub actions : Stages → List ℕ → UpdateState → List UpdateEvent
actions g pk s = inject pk ∷ (map move (range_with_len 0 (length s.flight.flying)) ++ map plan (those_that_may g s))

-- the action that a draw takes: that at the place which is the draw modulo their number, counted from 0
abbrev pub action_at : ℕ → Stages → List ℕ → UpdateState → UpdateEvent
action_at x g pk s = slice_index_or (actions g pk s) (x % length (actions g pk s)) (inject pk)

abbrev pub turned : ℕ → Stages → List ℕ → UpdateState → UpdateState
turned x g pk s = after_update g (action_at x g pk s) s

-- after so many turns by draws from a seed
abbrev pub after_turns : Stages → (seed turns : ℕ) → List ℕ → UpdateState → UpdateState
after_turns g seed zero pk s = s
after_turns g seed (suc n) pk s = turned (draw seed (suc n)) g pk (after_turns g seed n pk s)

-- the events that so many draws take, the first one first
abbrev pub drawn_events : Stages → (seed turns : ℕ) → List ℕ → UpdateState → List UpdateEvent
drawn_events g seed zero pk s = []
drawn_events g seed (suc n) pk s = drawn_events g seed n pk s ++ action_at (draw seed (suc n)) g pk (after_turns g seed n pk s) ∷ []

-- some switch has done just so many plan steps, and each switch so many or one more
pub record IsStage (g : Stages) (s : UpdateState) (n : ℕ) : Type 0 where
  pub first : (sw : ℕ) × Contains (switches_in g) sw × (s.done sw ≡ n)
  pub each : All (λ sw. (s.done sw ≡ n) ⊎ (s.done sw ≡ suc n)) (switches_in g)

-- the switches that have done just so many
abbrev pub at_stage : Stages → UpdateState → ℕ → List ℕ
at_stage g s n = filter (λ sw. s.done sw == n) (switches_in g)

-- Where there are switches, they are at one stage, and those that may do their next plan step are those that have done just so
-- many, or none.
abbrev pub MayAtOneStage : Stages → UpdateState → Type 0
MayAtOneStage g s = (switches_in g ≡ [])
    ⊎ ((n : ℕ) × IsStage g s n × ((those_that_may g s ≡ at_stage g s n) ⊎ (those_that_may g s ≡ [])))

-- The switches that wait for the step of the present stage: those that have done just so many; none where there are no switches.
abbrev pub Wait : Stages → UpdateState → List ℕ → Type 0
Wait g s waiting = (n : ℕ) × ((switches_in g ≡ []) ⊎ IsStage g s n) × (waiting ≡ at_stage g s n)
