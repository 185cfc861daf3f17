-- One event more leads on from where events have led.
use Rattle.std.proofs.Common.{◌≡◌, ℕ, zero, suc, ◌+◌, ◌<◌, ◌≤◌, Some, List, [], ◌∷◌, ◌++◌, length, get_or, refl, sym, ap, subst, ◌∙◌, inl, arith, length-append}
use Rattle.std.specs.Prelude.{All, map, remove, slice_get}
use Rattle.std.specs.List.{flat_map, range_with_len}
use Rattle.std.specs.List.Sorted.{IsPermutation}
use Rattle.std.proofs.lemmas.List.Edits.{length-remove}
use Rattle.std.proofs.lemmas.List.FromFn.{length-range_with_len}
use Rattle.std.proofs.lemmas.Option.{slice_get_within}
use Rattle.std.proofs.lemmas.List.Elements.{All-nil, All-cons, All-append, All-push}
use Rattle.nk_field.proofs.Lists.{map_joined}
use Rattle.nk_table.specs.declared.Tables.{Tables}
use Rattle.nk_table.specs.Hops.{left_after}
use Rattle.nk_table.specs.Rules.{sent_for}
use Rattle.nk_flight.specs.declared.copies.Flying.{Flying}
use Rattle.nk_flight.specs.declared.copies.Left.{Left}
use Rattle.nk_flight.specs.declared.hops.Hop.{Hop}
use Rattle.nk_flight.specs.Flights.{FlightState, Event, inject, step, nothing_in_flight, flying_next, left_next, handled, injected, stepped, after_event, after_events, IsReached}
use Rattle.nk_flight.specs.Owed.{left_or_owed}
use Rattle.nk_flight.specs.Trails.{hop_at, hop_of, first_hop, copy_at, copies_at, FollowsHop, AreHops, state_of_trails, IsSound}
use Rattle.nk_flight.proofs.Holding.{wider}
use Rattle.nk_flight.proofs.Schedules.{every_order, handled_tables}
use Rattle.nk_flight.proofs.Steps.{next_is}
use Rattle.nk_flight.proofs.Trails.{across_is, below_end, copies_more, fresh_copies, hops_more, mapped_at, next_follow, removed_all, removed_copies}

-- the last event
after_more : (es : List Event) (e : Event) (s : FlightState) → after_events (es ++ e ∷ []) s ≡ after_event e (after_events es s)
after_more [] e s = refl
after_more (d ∷ es) e s = after_more es e (after_event d s)

-- the tables stay
event_tables : (e : Event) (s : FlightState) → (after_event e s).tables ≡ s.tables
event_tables (inject pk) s = refl
event_tables (step i) s = handled_tables s (slice_get s.flying i) (remove s.flying i)

-- after an event
event_reached : (s u : FlightState) (e : Event) → IsReached s → u ≡ after_event e s → IsReached u
event_reached s u e r is = (
  r.0 ++ e ∷ [],
  is
      ∙ ap (after_event e) r.1
      ∙ sym (after_more r.0 e (nothing_in_flight s.tables))
      ∙ ap (λ t. after_events (r.0 ++ e ∷ []) (nothing_in_flight t)) (sym (ap (λ (v : FlightState). v.tables) is ∙ event_tables e s)),
)

-- an element at a place, as `slice_get` gives it
pub got_at : {X : Type 0} (xs : List X) (i : ℕ) (x : X) → i < length xs → x ≡ get_or xs i x → slice_get xs i ≡ Some x
got_at [] i x lt e = absurd (omega (arith, lt))
got_at (y ∷ ys) zero x lt e = ap Some (sym e)
got_at (y ∷ ys) (suc i) x lt e =
    let less : i < length ys = omega (arith, lt) in
    got_at ys i x less e

-- the flight after an injection
pub injected_sound : (t : Tables) (pks qks : List (List ℕ)) (hs gs : List Hop) (places qlaces : List ℕ) (ls : List Left) (pk : List ℕ)
    → qks ≡ pks ++ pk ∷ [] → gs ≡ hs ++ first_hop (length pks + 1) pk ∷ [] → qlaces ≡ places ++ length hs ∷ []
    → IsSound t pks hs places ls
    → (state_of_trails t qks gs qlaces ls ≡ injected pk (state_of_trails t pks hs places ls)) × IsSound t qks gs qlaces ls
injected_sound t pks qks hs gs places qlaces ls pk p h f s =
    let hop : Hop = first_hop (length pks + 1) pk in
    let more : List Hop = hop ∷ [] in
    let all : All (FollowsHop hs (length hs)) more = All-cons (FollowsHop hs (length hs)) hop [] (inl refl) (All-nil (FollowsHop hs (length hs))) in
    let fresh = fresh_copies t.fields hs more s.hops all in
    let copies : copies_at t.fields (hs ++ more) (places ++ length hs ∷ []) ≡ copies_at t.fields hs places ++ copy_at t.fields hs hop ∷ [] =
    map_joined (λ i. copy_at t.fields (hs ++ more) (hop_at (hs ++ more) i)) places (length hs ∷ [])
    ∙ (λ j. copies_more t.fields hs more s.hops places s.there j ++ fresh j) in
    let is : state_of_trails t qks gs qlaces ls ≡ injected pk (state_of_trails t pks hs places ls) =
    (λ j. state_of_trails t (p j) (h j) (f j) ls) ∙ (λ j. record { tables = t; packets = pks ++ pk ∷ []; flying = copies j; left = ls }) in
    let longer : length (hs ++ more) ≡ length hs + 1 = omega (arith, length-append hs more) in
    let within : length hs < length (hs ++ more) = omega (arith, longer) in (
      is,
      record {
        hops = subst AreHops (sym h) (hops_more hs more s.hops all);
        there =
            subst (λ l. All (λ i. i < length l) qlaces) (sym h)
            (subst (All (λ i. i < length (hs ++ more))) (sym f)
            (All-push (λ i. i < length (hs ++ more)) places (length hs) (wider hs more places s.there) within));
        few =
            let held : length qlaces ≡ length places + 1 = ap length f ∙ length-append places (length hs ∷ []) in
            let all : length gs ≡ length hs + 1 = ap length h ∙ longer in
            omega (arith, held, all, s.few);
        reached = event_reached (state_of_trails t pks hs places ls) (state_of_trails t qks gs qlaces ls) (inject pk) s.reached is;
      },
    )

-- the flight after the copy at a place was handled
pub stepped_sound : (t : Tables) (pks : List (List ℕ)) (hs gs next : List Hop) (places qlaces : List ℕ) (ls ms : List Left) (i p : ℕ)
    → IsSound t pks hs places ls → slice_get places i ≡ Some p → p < length hs
    → next ≡ flat_map (hop_of t p (hop_at hs p)) (sent_for t (hop_at hs p).packet)
    → gs ≡ hs ++ next → qlaces ≡ remove places i ++ range_with_len (length hs) (length next)
    → ms ≡ ls ++ left_next t (copy_at t.fields hs (hop_at hs p))
    → (state_of_trails t pks gs qlaces ms ≡ stepped i (state_of_trails t pks hs places ls)) × IsSound t pks gs qlaces ms
stepped_sound t pks hs gs next places qlaces ls ms i p s here lt made h f m =
    let F = t.fields in
    let at : ℕ → Flying = λ j. copy_at F hs (hop_at hs j) in
    let all : All (FollowsHop hs (length hs)) next =
    subst (All (FollowsHop hs (length hs))) (sym made) (next_follow t hs p (sent_for t (hop_at hs p).packet) lt) in
    let kept = removed_all (λ j. j < length hs) places i s.there in
    let old : copies_at F (hs ++ next) (remove places i) ≡ remove (copies_at F hs places) i =
    copies_more F hs next s.hops (remove places i) kept ∙ removed_copies at places i in
    let new : copies_at F (hs ++ next) (range_with_len (length hs) (length next)) ≡ flying_next t (at p) =
    fresh_copies F hs next s.hops all
    ∙ ap (map (copy_at F hs)) made
    ∙ across_is t hs p (sent_for t (hop_at hs p).packet)
    ∙ next_is t (at p) in
    let copies : copies_at F (hs ++ next) (remove places i ++ range_with_len (length hs) (length next)) ≡ remove (copies_at F hs places) i ++ flying_next t (at p) =
    map_joined (λ j. copy_at F (hs ++ next) (hop_at (hs ++ next) j)) (remove places i) (range_with_len (length hs) (length next))
    ∙ (λ j. old j ++ new j) in
    let is : state_of_trails t pks gs qlaces ms ≡ stepped i (state_of_trails t pks hs places ls) =
    (λ j. state_of_trails t pks (h j) (f j) (m j))
    ∙ (λ j. record { tables = t; packets = pks; flying = copies j; left = ls ++ left_next t (at p) })
    ∙ ap (λ o. handled (state_of_trails t pks hs places ls) o (remove (copies_at F hs places) i)) (sym (mapped_at at places i p here)) in
    let most : length hs + length next ≤ length (hs ++ next) = omega (arith, length-append hs next) in (
      is,
      record {
        hops = subst AreHops (sym h) (hops_more hs next s.hops all);
        there =
            subst (λ l. All (λ j. j < length l) qlaces) (sym h)
            (subst (All (λ j. j < length (hs ++ next))) (sym f)
            (All-append (λ j. j < length (hs ++ next)) (remove places i) (range_with_len (length hs) (length next))
            (wider hs next (remove places i) kept)
            (below_end (length hs) (length next) (length (hs ++ next)) most)));
        few =
            let fewer = length-remove places i (slice_get_within places i p here) in
            let held : length qlaces ≡ length (remove places i) + length next =
            ap length f
            ∙ length-append (remove places i) (range_with_len (length hs) (length next))
            ∙ ap (λ n. length (remove places i) + n) (length-range_with_len (length hs) (length next)) in
            let all : length gs ≡ length hs + length next = ap length h ∙ length-append hs next in
            omega (arith, fewer, held, all, s.few);
        reached = event_reached (state_of_trails t pks hs places ls) (state_of_trails t pks gs qlaces ms) (step i) s.reached is;
      },
    )

-- for each injection and any number of crossings
pub reached_counts : (s : FlightState) → IsReached s → (i k : ℕ) (pk : List ℕ) → slice_get s.packets i ≡ Some pk
    → IsPermutation (left_after s.tables k pk) (left_or_owed s (i + 1) k)
reached_counts s r i k pk e =
    subst (λ v. IsPermutation (left_after s.tables k pk) (left_or_owed v (i + 1) k)) (sym r.1)
    (every_order s.tables r.0 i k pk (ap (λ (v : FlightState). slice_get v.packets i) (sym r.1) ∙ e))
