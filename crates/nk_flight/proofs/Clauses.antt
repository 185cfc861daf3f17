-- The laws of flights, in the words of their clauses.
use Rattle.std.proofs.Common.{◌≡◌, ℕ, ◌+◌, Bool, true, false, cond, inl, inr, ⊎_elim, Some, List, [], ◌∷◌, ◌++◌, refl, sym, ap, subst, ◌∙◌}
use Rattle.std.specs.Prelude.{◌==◌, filter, slice_get}
use Rattle.std.specs.List.{flat_map}
use Rattle.std.specs.List.Sorted.{IsPermutation}
use Rattle.std.proofs.lemmas.List.Sorted.{IsPermutation-map}
use Rattle.nk_field.proofs.Lists.{In, in_mapped, from_mapped, map_joined, map_over_joined, NoDup}
use Rattle.nk_table.specs.declared.Tables.{Tables}
use Rattle.nk_table.specs.Hops.{Copy, left_after}
use Rattle.nk_flight.specs.Flights.{FlightState, Event, nothing_in_flight, after_events}
use Rattle.nk_flight.specs.Owed.{flying_from, left_from, crossings, with_crossings, owed_by, left_or_owed, erased_copy}
use Rattle.nk_flight.specs.Once.{IsWithoutDoubles, all_erased, IsEachOnce, LeaveOnce}
use Rattle.nk_flight.proofs.Owing.{eq_true}
use Rattle.nk_flight.proofs.Schedules.{every_order, events_tables}
use Rattle.nk_flight.proofs.Once.{each_once, no_dup_from_doubles, doubles_from_no_dup}

-- with tags set to 0, what leaves after k crossings is what has left or is owed, in another order
pub every_order_erased : (t : Tables) (es : List Event) (i k : ℕ) (pk : List ℕ) → slice_get (after_events es (nothing_in_flight t)).packets i ≡ Some pk
    → IsPermutation (all_erased t (left_after t k pk)) (all_erased t (left_or_owed (after_events es (nothing_in_flight t)) (i + 1) k))
every_order_erased t es i k pk e =
    IsPermutation-map (erased_copy t) (left_after t k pk) (left_or_owed (after_events es (nothing_in_flight t)) (i + 1) k) (every_order t es i k pk e)

-- what has left and what is owed, with tags set to 0
parts : (t : Tables) (s : FlightState) (n k : ℕ) → s.tables ≡ t
    → all_erased t (left_or_owed s n k) ≡ all_erased t (with_crossings k (left_from n s.left)) ++ flat_map (λ c. all_erased t (owed_by t k c)) (flying_from n s.flying)
parts t s n k e =
    let gone = with_crossings k (left_from n s.left) in
    let copies = flying_from n s.flying in
    ap (λ u. all_erased t (gone ++ flat_map (owed_by u k) copies)) e
    ∙ map_joined (erased_copy t) gone (flat_map (owed_by t k) copies)
    ∙ ap (λ l. all_erased t gone ++ l) (map_over_joined (erased_copy t) (owed_by t k) copies)

-- where no history of k crossings leaves twice
pub once_in_flight : (t : Tables) (es : List Event) (i k : ℕ) (pk : List ℕ) (these : List Copy) → slice_get (after_events es (nothing_in_flight t)).packets i ≡ Some pk
    → LeaveOnce t k pk these
    → IsEachOnce t k these (all_erased t (with_crossings k (left_from (i + 1) (after_events es (nothing_in_flight t)).left))) (flying_from (i + 1) (after_events es (nothing_in_flight t)).flying)
once_in_flight t es i k pk these e l =
    let s = after_events es (nothing_in_flight t) in
    each_once t k pk these (all_erased t (with_crossings k (left_from (i + 1) s.left))) (flying_from (i + 1) s.flying)
    (subst (IsPermutation (all_erased t (left_after t k pk))) (parts t s (i + 1) k (events_tables es (nothing_in_flight t))) (every_order_erased t es i k pk e))
    l

-- what passes a test stands among what is kept
pub in_kept : (p : Copy → Bool) (cs : List Copy) (c : Copy) → In cs c → p c ≡ true → In (filter p cs) c
in_kept p [] c i e = absurd i
in_kept p (d ∷ ds) c i e =
    ⊎_elim
    (λ same. subst (λ b. In (cond b (d ∷ filter p ds) (filter p ds)) c) (sym (ap p (sym same) ∙ e)) (inl same))
    (λ later. put (p d) (in_kept p ds c later e))
    i
  where
    put : (b : Bool) → In (filter p ds) c → In (cond b (d ∷ filter p ds) (filter p ds)) c
    put true j = inr j
    put false j = j

module _ (t : Tables) where
  -- one history more or not
  put_no_dup : (b : Bool) (c : Copy) (cs : List Copy) → NoDup (all_erased t (cond b (c ∷ cs) cs)) → NoDup (all_erased t cs)
  put_no_dup true c cs a = a.1
  put_no_dup false c cs a = a

  -- histories of which those of each number of crossings have no doubles have none
  pub all_no_dup : (hs : List Copy) → ((k : ℕ) → NoDup (all_erased t (with_crossings k hs))) → NoDup (all_erased t hs)
  all_no_dup [] a = tt
  all_no_dup (h ∷ hs) a = (
    λ i.
        let m = from_mapped (erased_copy t) hs (erased_copy t h) i in
        let k = crossings h in
        let same : crossings m.0 ≡ k = sym (ap crossings m.2) in
        let kept = with_crossings k hs in
        let first : NoDup (all_erased t (h ∷ kept)) = subst (λ b. NoDup (all_erased t (cond b (h ∷ kept) kept))) (eq_true k k refl) (a k) in
        let there : In kept m.0 = in_kept (λ c. crossings c == k) hs m.0 m.1 (eq_true (crossings m.0) k same) in
        first.0 (subst (In (all_erased t kept)) (sym m.2) (in_mapped (erased_copy t) kept m.0 there)),
    all_no_dup hs (λ k. put_no_dup (crossings h == k) h (with_crossings k hs) (a k)),
  )

-- then no history has left twice, whatever it has crossed
pub none_left_twice : (t : Tables) (es : List Event) (i : ℕ) (pk : List ℕ) → slice_get (after_events es (nothing_in_flight t)).packets i ≡ Some pk
    → ((k : ℕ) → IsWithoutDoubles (all_erased t (left_after t k pk)))
    → IsWithoutDoubles (all_erased t (left_from (i + 1) (after_events es (nothing_in_flight t)).left))
none_left_twice t es i pk e once =
    let s = after_events es (nothing_in_flight t) in
    doubles_from_no_dup (all_erased t (left_from (i + 1) s.left))
    (all_no_dup t (left_from (i + 1) s.left) (λ k.
    let each = once_in_flight t es i k pk (all_erased t (left_after t k pk)) e record { once = once k; exactly = λ h. (λ c. c, λ c. c) } in
    no_dup_from_doubles (all_erased t (with_crossings k (left_from (i + 1) s.left))) each.once))
