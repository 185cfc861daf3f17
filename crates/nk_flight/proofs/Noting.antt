-- What follows for each injection, and how versions come about.
use Rattle.std.proofs.Common.{◌≡◌, ℕ, ◌+◌, Bool, true, false, Option, Some, None, List, [], ◌∷◌, ◌++◌, refl, sym, ap, subst, ◌∙◌}
use Rattle.std.specs.Prelude.{◌==◌, nat_le, if◌then◌else◌, remove, slice_get, slice_index}
use Rattle.std.specs.List.{flat_map}
use Rattle.std.specs.List.Sorted.{IsPermutation}
use Rattle.std.proofs.lemmas.List.Sorted.{IsPermutation-map}
use Rattle.nk_field.proofs.Lists.{map_joined, map_over_joined}
use Rattle.nk_table.specs.declared.Tables.{Tables}
use Rattle.nk_table.specs.Hops.{Copy, left_after}
use Rattle.nk_update.specs.Plans.{Pair, IsPlannable}
use Rattle.nk_update.specs.Tags.{HaveTheirTags}
use Rattle.nk_update.proofs.Lookup.{true_eq, eq_true, eq_false}
use Rattle.nk_flight.specs.declared.copies.Flying.{Flying}
use Rattle.nk_flight.specs.declared.versions.Version.{Version}
use Rattle.nk_flight.specs.declared.versions.Version.TheVariants.{Old, New}
use Rattle.nk_flight.specs.Flights.{FlightState}
use Rattle.nk_flight.specs.Owed.{flying_from, left_from, with_crossings, owed_by, erased_copy}
use Rattle.nk_flight.specs.Once.{all_erased, IsEachOnce, LeaveOnce}
use Rattle.nk_flight.specs.Updates.{Stages, tables_by, UpdateState, at_the_start, may_plan, one_more_event, noted, steps_at, handled_there, moved, planned, UpdateEvent, inject, move, plan, HandlesNoneOf, after_update, after_updates, AreEntering, left_or_owed_by, ByVersion}
use Rattle.nk_flight.proofs.Once.{each_once}
use Rattle.nk_flight.proofs.Mixture.{staged, no_mixture}

-- what has left and what is owed by some tables, with tags set to 0
parts : (t : Tables) (s : FlightState) (n k : ℕ)
    → all_erased t (left_or_owed_by t s n k) ≡ all_erased t (with_crossings k (left_from n s.left)) ++ flat_map (λ c. all_erased t (owed_by t k c)) (flying_from n s.flying)
parts t s n k =
    let gone = with_crossings k (left_from n s.left) in
    let copies = flying_from n s.flying in
    map_joined (erased_copy t) gone (flat_map (owed_by t k) copies)
    ∙ ap (λ l. all_erased t gone ++ l) (map_over_joined (erased_copy t) (owed_by t k) copies)

-- where no history of k crossings leaves its version's tables twice
pub each_by_version : (p : Pair) → IsPlannable p → HaveTheirTags p → (es : List UpdateEvent) → AreEntering p.old es → (i : ℕ) (pk : List ℕ)
    → slice_get (after_updates (staged p) es (at_the_start (staged p))).flight.packets i ≡ Some pk
    → (v : Version) → (after_updates (staged p) es (at_the_start (staged p))).versions (i + 1) ≡ Some v → (k : ℕ) (these : List Copy) → LeaveOnce (tables_by p v) k pk these
    → IsEachOnce (tables_by p v) k these (all_erased (tables_by p v) (with_crossings k (left_from (i + 1) (after_updates (staged p) es (at_the_start (staged p))).flight.left)))
    (flying_from (i + 1) (after_updates (staged p) es (at_the_start (staged p))).flight.flying)
each_by_version p ok tags es a i pk e v is k these l =
    let s = after_updates (staged p) es (at_the_start (staged p)) in
    let t = tables_by p v in
    let counts : ByVersion p s.flight (i + 1) pk (Some v) = subst (ByVersion p s.flight (i + 1) pk) is (no_mixture p ok tags es a i pk e) in
    each_once t k pk these (all_erased t (with_crossings k (left_from (i + 1) s.flight.left))) (flying_from (i + 1) s.flight.flying)
    (subst (IsPermutation (all_erased t (left_after t k pk))) (parts t s.flight (i + 1) k)
    (IsPermutation-map (erased_copy t) (left_after t k pk) (left_or_owed_by t s.flight (i + 1) k) (counts k)))
    l

module _ (g : Stages) where
  -- a noted version stays when a copy is handled
  handled_keeps_it : (s : UpdateState) (o : Option Flying) (others : List Flying) (n : ℕ) (v : Version) → s.versions n ≡ Some v → (handled_there g s o others).versions n ≡ Some v
  handled_keeps_it s None others n v e = e
  handled_keeps_it s (Some f) others n v e = by (n == f.number) refl
    where
      by : (b : Bool) → n == f.number ≡ b → (if b then Some (noted (s.versions f.number) (steps_at s f)) else s.versions n) ≡ Some v
      by true is = ap (λ o. Some (noted o (steps_at s f))) (ap s.versions (sym (true_eq n f.number is)) ∙ e)
      by false is = e

  -- and when a plan step is done
  planned_keeps_it : (s : UpdateState) (sw n : ℕ) (v : Version) → s.versions n ≡ Some v → (planned g sw s).versions n ≡ Some v
  planned_keeps_it s sw n v e = by (may_plan g s sw)
    where
      by : (b : Bool) → (if b then record s { done = one_more_event sw s.done } else s).versions n ≡ Some v
      by true = e
      by false = e

  -- so whatever happens
  pub version_stays : (es : List UpdateEvent) (s : UpdateState) (n : ℕ) (v : Version) → s.versions n ≡ Some v → (after_updates g es s).versions n ≡ Some v
  version_stays [] s n v e = e
  version_stays (inject pk ∷ es) s n v e = version_stays es (after_update g (inject pk) s) n v e
  version_stays (move i ∷ es) s n v e = version_stays es (after_update g (move i) s) n v (handled_keeps_it s (slice_get s.flight.flying i) (remove s.flight.flying i) n v e)
  version_stays (plan sw ∷ es) s n v e = version_stays es (after_update g (plan sw) s) n v (planned_keeps_it s sw n v e)

  -- what handles no copy of an injection notes nothing of it
  pub unhandled : (e : UpdateEvent) (s : UpdateState) (n : ℕ) → HandlesNoneOf n s e → (after_update g e s).versions n ≡ s.versions n
  unhandled (inject pk) s n none = refl
  unhandled (plan sw) s n none = by (may_plan g s sw)
    where
      by : (b : Bool) → (if b then record s { done = one_more_event sw s.done } else s).versions n ≡ s.versions n
      by true = refl
      by false = refl
  unhandled (move i) s n none = by (slice_get s.flight.flying i) refl
    where
      by : (o : Option Flying) → slice_get s.flight.flying i ≡ o → (handled_there g s o (remove s.flight.flying i)).versions n ≡ s.versions n
      by None e = refl
      by (Some f) e = ap (λ b. if b then Some (noted (s.versions f.number) (steps_at s f)) else s.versions n) (eq_false n f.number (λ same. none f e (sym same)))

  -- the first step decides
  pub first_decides : (s : UpdateState) (i : ℕ) (f : Flying) → slice_get s.flight.flying i ≡ Some f → s.versions f.number ≡ None
      → (moved g i s).versions f.number ≡ Some (if nat_le (s.done (slice_index f.packet 0)) 1 then Old else New)
  first_decides s i f e none =
      ap (λ o. (handled_there g s o (remove s.flight.flying i)).versions f.number) e
      ∙ ap (λ b. if b then Some (noted (s.versions f.number) (steps_at s f)) else s.versions f.number) (eq_true f.number f.number refl)
      ∙ ap (λ o. Some (noted o (steps_at s f))) none
