-- An update worked by hand. The old tables send what enters at 1:1 over the link and out at 2:2, the new ones send it back.
use Rattle.std.specs.Prelude.{◌≡◌, ℕ, Some, None, List, [], ◌∷◌}
use Rattle.nk_table.specs.Worked.{packet}
use Rattle.nk_update.specs.Steps.{plan_of}
use Rattle.nk_update.specs.Worked.{worked_pair}
use Rattle.nk_flight.specs.declared.copies.Left.{Left}
use Rattle.nk_flight.specs.declared.versions.Version.TheVariants.{Old, New}
use Rattle.nk_flight.specs.Updates.{Stages, stages_of, UpdateEvent, inject, move, plan, UpdateState, at_the_start, after_updates}

-- its tables
abbrev pub worked_stages : Stages
worked_stages = stages_of (plan_of worked_pair)

-- the packet that enters
abbrev pub entering : List ℕ
entering = packet 1 1 3 0

-- the history of the old tables, and that of the new ones
abbrev pub left_old : ℕ → Left
left_old n = record { number = n; history = record { records = packet 1 2 3 0 ∷ packet 2 1 3 0 ∷ []; last = packet 2 2 3 0 } }

abbrev pub left_new : ℕ → Left
left_new n = record { number = n; history = record { records = []; last = packet 1 1 3 0 } }

abbrev pub worked_state : List UpdateEvent → UpdateState
worked_state es = after_updates worked_stages es (at_the_start worked_stages)

-- two packets come in and cross before the second plan steps; a third comes when all plan steps are done
abbrev pub all_of_it : List UpdateEvent
all_of_it =
    plan 1 ∷ inject entering ∷ inject entering ∷ move 0 ∷ move 0 ∷ plan 2 ∷ move 0 ∷ move 0
    ∷ plan 2 ∷ plan 1 ∷ plan 1 ∷ plan 2 ∷ inject entering ∷ move 0 ∷ []

-- The first two go by the old tables, the third by the new ones, nothing is left in flight and each switch has done three.
abbrev pub UpdatesAll : Type 0
UpdatesAll =
    ((worked_state all_of_it).flight.left ≡ left_old 1 ∷ left_old 2 ∷ left_new 3 ∷ [])
    × ((worked_state all_of_it).flight.flying ≡ [])
    × ((worked_state all_of_it).versions 1 ≡ Some Old)
    × ((worked_state all_of_it).versions 2 ≡ Some Old)
    × ((worked_state all_of_it).versions 3 ≡ Some New)
    × ((worked_state all_of_it).versions 4 ≡ None)
    × ((worked_state all_of_it).done 1 ≡ 3)
    × ((worked_state all_of_it).done 2 ≡ 3)

-- an injection that waits while its switch does the second plan step goes by the new tables
abbrev pub waits : List UpdateEvent
waits = inject entering ∷ plan 1 ∷ plan 2 ∷ plan 1 ∷ move 0 ∷ []

-- one that crossed before holds up the third plan steps, and goes on by the old tables
abbrev pub crosses : List UpdateEvent
crosses = inject entering ∷ move 0 ∷ plan 1 ∷ plan 2 ∷ plan 1 ∷ plan 2 ∷ plan 1 ∷ []

-- The second plan step waits for the first at every switch, and the third for old copies.
abbrev pub PlanStepsWait : Type 0
PlanStepsWait =
    ((worked_state (plan 1 ∷ plan 1 ∷ [])).done 1 ≡ 1)
    × ((worked_state (plan 1 ∷ plan 3 ∷ [])).done 3 ≡ 0)
    × ((worked_state waits).flight.left ≡ left_new 1 ∷ [])
    × ((worked_state crosses).done 1 ≡ 2)
    × ((worked_state crosses).flight.left ≡ [])
    × ((after_updates worked_stages (move 0 ∷ plan 1 ∷ []) (worked_state crosses)).flight.left ≡ left_old 1 ∷ [])
    × ((after_updates worked_stages (move 0 ∷ plan 1 ∷ []) (worked_state crosses)).done 1 ≡ 3)
