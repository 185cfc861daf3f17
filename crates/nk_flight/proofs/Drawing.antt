-- A drawn update is an update: the events that draws take lead to it; and where the packet enters, each that comes in does.
use Rattle.std.proofs.Common.{◌≡◌, ◌∙◌, ℕ, zero, suc, refl, sym, ap, List, [], ◌∷◌, ◌++◌, length}
use Rattle.std.specs.Prelude.{◌%◌, map, slice_index_or}
use Rattle.std.specs.List.{range_with_len}
use Rattle.nk_table.specs.declared.Tables.{Tables}
use Rattle.nk_update.specs.Tags.{IsEntering}
use Rattle.nk_flight.specs.Draws.{draw}
use Rattle.nk_flight.specs.Updates.{Stages, UpdateState, UpdateEvent, inject, move, plan, after_update, after_updates, AreEntering}
use Rattle.nk_flight.specs.UpdateDraws.{those_that_may, actions, action_at, after_turns, drawn_events}

-- the last event
updates_more : (g : Stages) (es : List UpdateEvent) (e : UpdateEvent) (s : UpdateState) → after_updates g (es ++ e ∷ []) s ≡ after_update g e (after_updates g es s)
updates_more g [] e s = refl
updates_more g (d ∷ es) e s = updates_more g es e (after_update g d s)

pub turns_are_updates : (g : Stages) (seed turns : ℕ) (pk : List ℕ) (s : UpdateState) → after_turns g seed turns pk s ≡ after_updates g (drawn_events g seed turns pk s) s
turns_are_updates g seed zero pk s = refl
turns_are_updates g seed (suc n) pk s =
    let before = after_turns g seed n pk s in
    let e = action_at (draw seed (suc n)) g pk before in
    ap (after_update g e) (turns_are_updates g seed n pk s) ∙ sym (updates_more g (drawn_events g seed n pk s) e s)

module _ (t : Tables) where
  both_enter : (es fs : List UpdateEvent) → AreEntering t es → AreEntering t fs → AreEntering t (es ++ fs)
  both_enter [] fs a b = b
  both_enter (inject pk ∷ es) fs a b = (a.0, both_enter es fs a.1 b)
  both_enter (move i ∷ es) fs a b = both_enter es fs a b
  both_enter (plan sw ∷ es) fs a b = both_enter es fs a b

  moves_enter : (ns : List ℕ) → AreEntering t (map move ns)
  moves_enter [] = tt
  moves_enter (n ∷ ns) = moves_enter ns

  plans_enter : (ns : List ℕ) → AreEntering t (map plan ns)
  plans_enter [] = tt
  plans_enter (n ∷ ns) = plans_enter ns

  one_enters : (es : List UpdateEvent) (k : ℕ) (d : UpdateEvent) → AreEntering t es → AreEntering t (d ∷ []) → AreEntering t (slice_index_or es k d ∷ [])
  one_enters [] k d a b = b
  one_enters (inject pk ∷ es) zero d a b = (a.0, tt)
  one_enters (move i ∷ es) zero d a b = tt
  one_enters (plan sw ∷ es) zero d a b = tt
  one_enters (inject pk ∷ es) (suc k) d a b = one_enters es k d a.1 b
  one_enters (move i ∷ es) (suc k) d a b = one_enters es k d a b
  one_enters (plan sw ∷ es) (suc k) d a b = one_enters es k d a b

  action_enters : (g : Stages) (x : ℕ) (pk : List ℕ) (s : UpdateState) → IsEntering t pk → AreEntering t (action_at x g pk s ∷ [])
  action_enters g x pk s enters =
      let moves = map move (range_with_len 0 (length s.flight.flying)) in
      let plans = map plan (those_that_may g s) in
      let rest = both_enter moves plans (moves_enter (range_with_len 0 (length s.flight.flying))) (plans_enter (those_that_may g s)) in
      one_enters (actions g pk s) (x % length (actions g pk s)) (inject pk) (enters, rest) (enters, tt)

  pub turns_enter : (g : Stages) (seed turns : ℕ) (pk : List ℕ) (s : UpdateState) → IsEntering t pk → AreEntering t (drawn_events g seed turns pk s)
  turns_enter g seed zero pk s enters = tt
  turns_enter g seed (suc n) pk s enters =
      let before = after_turns g seed n pk s in
      both_enter (drawn_events g seed n pk s) (action_at (draw seed (suc n)) g pk before ∷ []) (turns_enter g seed n pk s enters)
      (action_enters g (draw seed (suc n)) pk before enters)
