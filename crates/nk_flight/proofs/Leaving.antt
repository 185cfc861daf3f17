-- Each history that has left is of an injection that has come in, and that has a version.
use Rattle.std.proofs.Common.{◌≡◌, ℕ, ◌+◌, ◌≤◌, Bool, true, false, inl, inr, ⊎_elim, List, [], ◌∷◌, ◌++◌, length, length-append, refl, sym, ap, subst, arith}
use Rattle.std.specs.Prelude.{◌==◌, if◌then◌else◌, Some, remove}
use Rattle.nk_field.proofs.Lists.{In, in_left, in_right, in_either, from_mapped}
use Rattle.nk_field.proofs.Ascending.{all_from_members}
use Rattle.nk_table.specs.Hops.{next_of, left_of}
use Rattle.nk_flight.specs.declared.copies.Flying.{Flying}
use Rattle.nk_flight.specs.declared.copies.Left.{Left}
use Rattle.nk_flight.specs.declared.versions.Version.{Version}
use Rattle.nk_flight.specs.Flights.{copy_flying, flying_as, left_as, flying_next, left_next}
use Rattle.nk_flight.specs.Updates.{Stages, UpdateState, stage_after, at_the_start, may_plan, one_more_event, planned, noted, noting, steps_at, handled_there, moved, UpdateEvent, inject, move, plan, after_update, after_updates, HasVersion, HaveVersions}
use Rattle.nk_flight.specs.UpdateDraws.{after_turns, drawn_events}
use Rattle.nk_flight.proofs.Drawing.{turns_are_updates}
use Rattle.nk_flight.proofs.Schedules.{split_at}

-- the injection of this number has come in
abbrev IsGiven : UpdateState → ℕ → Type 0
IsGiven s n = (1 ≤ n) × (n ≤ length s.flight.packets)

-- each copy is of one that has come in, and each history of one that has a version as well
record Holds (s : UpdateState) : Type 0 where
  copies : (f : Flying) → In s.flight.flying f → IsGiven s f.number
  histories : (l : Left) → In s.flight.left l → HasVersion s l.number

module _ (g : Stages) where
  -- a packet comes in
  injected_holds : (s : UpdateState) (pk : List ℕ) → Holds s → Holds (after_update g (inject pk) s)
  injected_holds s pk h =
      let longer = length-append s.flight.packets (pk ∷ []) in
      record {
        copies = λ f i.
            ⊎_elim
            (λ a. let was = h.copies f a in (was.0, omega (arith, longer, was.1)))
            (λ b.
            ⊎_elim
            (λ e. let number = ap (λ (x : Flying). x.number) e in (omega (arith, number), omega (arith, longer, number)))
            (λ none. absurd none)
            b)
            (in_either s.flight.flying (record { number = length s.flight.packets + 1; records = []; packet = pk } ∷ []) f i);
        histories = λ l i. let was = h.histories l i in (was.0, omega (arith, longer, was.1), was.2);
      }

  module _ (s : UpdateState) (h : Holds s) (f : Flying) (there : In s.flight.flying f) where
    abbrev version : Version
    version = noted (s.versions f.number) (steps_at s f)

    -- a version that is noted stays one, and this injection has one
    still : (n : ℕ) → ((v : Version) × (s.versions n ≡ Some v)) → (v : Version) × (noting f.number version s.versions n ≡ Some v)
    still n w = by (n == f.number)
      where
        by : (b : Bool) → (v : Version) × ((if b then Some version else s.versions n) ≡ Some v)
        by true = (version, refl)
        by false = w

    this : (v : Version) × (noting f.number version s.versions f.number ≡ Some v)
    this = by (f.number == f.number) (search arith)
      where
        by : (b : Bool) → b ≡ true → (v : Version) × ((if b then Some version else s.versions f.number) ≡ Some v)
        by true e = (version, refl)
        by false e = absurd cc

    -- the copy is handled
    handled_holds : (others : List Flying) → ((c : Flying) → In others c → In s.flight.flying c) → Holds (handled_there g s (Some f) others)
    handled_holds others among =
        let t = stage_after g (steps_at s f) in
        let given = h.copies f there in
        record {
          copies = λ c i.
              ⊎_elim
              (λ a. h.copies c (among c a))
              (λ b.
              let m = from_mapped (flying_as f.number) (next_of t (copy_flying f)) c b in
              subst (λ n. IsGiven s n) (sym (ap (λ (x : Flying). x.number) m.2)) given)
              (in_either others (flying_next t f) c i);
          histories = λ l i.
              ⊎_elim
              (λ a. let was = h.histories l a in (was.0, was.1, still l.number was.2))
              (λ b.
              let m = from_mapped (left_as f.number) (left_of t (copy_flying f)) l b in
              subst (λ n. HasVersion (handled_there g s (Some f) others) n) (sym (ap (λ (x : Left). x.number) m.2)) (given.0, given.1, this))
              (in_either s.flight.left (left_next t f) l i);
        }

  moved_holds : (s : UpdateState) (i : ℕ) → Holds s → Holds (moved g i s)
  moved_holds s i h =
      ⊎_elim
      (λ e. subst (λ o. Holds (handled_there g s o (remove s.flight.flying i))) (sym e) h)
      (λ r.
      let A = r.0 in
      let f = r.1 in
      let B = r.2 in
      subst (λ o. Holds (handled_there g s o (remove s.flight.flying i))) (sym r.3)
      (subst (λ l. Holds (handled_there g s (Some f) l)) (sym r.5)
      (handled_holds s h f (subst (λ l. In l f) (sym r.4) (in_right A (f ∷ B) f (inl refl))) (A ++ B)
      (λ c j.
      subst (λ l. In l c) (sym r.4)
      (⊎_elim (λ a. in_left A (f ∷ B) c a) (λ b. in_right A (f ∷ B) c (inr b)) (in_either A B c j))))))
      (split_at s.flight.flying i)

  planned_holds : (s : UpdateState) (sw : ℕ) → Holds s → Holds (planned g sw s)
  planned_holds s sw h = by (may_plan g s sw)
    where
      by : (b : Bool) → Holds (if b then record s { done = one_more_event sw s.done } else s)
      by true = record { copies = h.copies; histories = h.histories }
      by false = h

  event_holds : (e : UpdateEvent) (s : UpdateState) → Holds s → Holds (after_update g e s)
  event_holds (inject pk) s h = injected_holds s pk h
  event_holds (move i) s h = moved_holds s i h
  event_holds (plan sw) s h = planned_holds s sw h

  events_hold : (es : List UpdateEvent) (s : UpdateState) → Holds s → Holds (after_updates g es s)
  events_hold [] s h = h
  events_hold (e ∷ es) s h = events_hold es (after_update g e s) (event_holds e s h)

  pub have_versions : (es : List UpdateEvent) → HaveVersions (after_updates g es (at_the_start g))
  have_versions es =
      let s = after_updates g es (at_the_start g) in
      let h = events_hold es (at_the_start g) (record { copies = λ f i. absurd i; histories = λ l i. absurd i }) in
      all_from_members (λ (l : Left). HasVersion s l.number) s.flight.left h.histories

  -- so it is in turns
  pub turns_have_versions : (seed turns : ℕ) (pk : List ℕ) → HaveVersions (after_turns g seed turns pk (at_the_start g))
  turns_have_versions seed turns pk =
      subst HaveVersions (sym (turns_are_updates g seed turns pk (at_the_start g)))
      (have_versions (drawn_events g seed turns pk (at_the_start g)))
