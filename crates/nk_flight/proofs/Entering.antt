-- The packets that have come in are those that events injected: so all of them enter exactly where each that is injected does.
use Rattle.std.proofs.Common.{◌≡◌, ℕ, Bool, true, false, Option, Some, None, refl, sym, subst, List, [], ◌∷◌, ◌++◌}
use Rattle.std.specs.Prelude.{slice_get, remove, if◌then◌else◌, All}
use Rattle.std.proofs.lemmas.List.Elements.{All-nil, All-cons, All-head, All-tail, All-append}
use Rattle.nk_table.specs.declared.Tables.{Tables}
use Rattle.nk_update.specs.Tags.{IsEntering}
use Rattle.nk_flight.specs.declared.copies.Flying.{Flying}
use Rattle.nk_flight.specs.Updates.{Stages, UpdateState, UpdateEvent, inject, move, plan, at_the_start, handled_there, moved, planned, one_more_event, may_plan, after_update, after_updates, AreEntering}

all_first : (P : List ℕ → Type 0) (xs ys : List (List ℕ)) → All P (xs ++ ys) → All P xs
all_first P [] ys a = All-nil P
all_first P (x ∷ xs) ys a = All-cons P x xs (All-head P x (xs ++ ys) a) (all_first P xs ys (All-tail P x (xs ++ ys) a))

all_last : (P : List ℕ → Type 0) (xs ys : List (List ℕ)) → All P (xs ++ ys) → All P ys
all_last P [] ys a = a
all_last P (x ∷ xs) ys a = all_last P xs ys (All-tail P x (xs ++ ys) a)

module _ (g : Stages) where
  pub moved_packets : (i : ℕ) (s : UpdateState) → (moved g i s).flight.packets ≡ s.flight.packets
  moved_packets i s = by (slice_get s.flight.flying i)
    where
      by : (o : Option Flying) → (handled_there g s o (remove s.flight.flying i)).flight.packets ≡ s.flight.packets
      by None = refl
      by (Some f) = refl

  pub planned_packets : (sw : ℕ) (s : UpdateState) → (planned g sw s).flight.packets ≡ s.flight.packets
  planned_packets sw s = by (may_plan g s sw)
    where
      by : (b : Bool) → (if b then record s { done = one_more_event sw s.done } else s).flight.packets ≡ s.flight.packets
      by true = refl
      by false = refl

module _ (t : Tables) (g : Stages) where
  all_enter : (es : List UpdateEvent) (s : UpdateState) → AreEntering t es → All (IsEntering t) s.flight.packets → All (IsEntering t) (after_updates g es s).flight.packets
  all_enter [] s a h = h
  all_enter (inject pk ∷ es) s a h = all_enter es (after_update g (inject pk) s) a.1 (All-append (IsEntering t) s.flight.packets (pk ∷ []) h (All-cons (IsEntering t) pk [] a.0 (All-nil (IsEntering t))))
  all_enter (move i ∷ es) s a h = all_enter es (after_update g (move i) s) a (subst (λ pks. All (IsEntering t) pks) (sym (moved_packets g i s)) h)
  all_enter (plan sw ∷ es) s a h = all_enter es (after_update g (plan sw) s) a (subst (λ pks. All (IsEntering t) pks) (sym (planned_packets g sw s)) h)

  kept : (es : List UpdateEvent) (s : UpdateState) → All (IsEntering t) (after_updates g es s).flight.packets → All (IsEntering t) s.flight.packets
  kept [] s h = h
  kept (inject pk ∷ es) s h = all_first (IsEntering t) s.flight.packets (pk ∷ []) (kept es (after_update g (inject pk) s) h)
  kept (move i ∷ es) s h = subst (λ pks. All (IsEntering t) pks) (moved_packets g i s) (kept es (after_update g (move i) s) h)
  kept (plan sw ∷ es) s h = subst (λ pks. All (IsEntering t) pks) (planned_packets g sw s) (kept es (after_update g (plan sw) s) h)

  each_entered : (es : List UpdateEvent) (s : UpdateState) → All (IsEntering t) (after_updates g es s).flight.packets → AreEntering t es
  each_entered [] s h = tt
  each_entered (inject pk ∷ es) s h =
      (All-head (IsEntering t) pk [] (all_last (IsEntering t) s.flight.packets (pk ∷ []) (kept es (after_update g (inject pk) s) h)), each_entered es (after_update g (inject pk) s) h)
  each_entered (move i ∷ es) s h = each_entered es (after_update g (move i) s) h
  each_entered (plan sw ∷ es) s h = each_entered es (after_update g (plan sw) s) h

  pub entered : (es : List UpdateEvent) → AreEntering t es → All (IsEntering t) (after_updates g es (at_the_start g)).flight.packets
  entered es a = all_enter es (at_the_start g) a (All-nil (IsEntering t))

  pub were_entering : (es : List UpdateEvent) → All (IsEntering t) (after_updates g es (at_the_start g)).flight.packets → AreEntering t es
  were_entering es h = each_entered es (at_the_start g) h
