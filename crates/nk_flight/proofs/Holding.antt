-- One event more of an update, as it is held.
use Rattle.std.proofs.Common.{◌≡◌, ◌≢◌, ℕ, zero, suc, ◌+◌, ◌-◌, ◌<◌, ◌≤◌, ◌&&◌, Bool, true, false, Option, Some, None, List, [], ◌∷◌, ◌++◌, length, refl, sym, ap, subst, ◌∙◌, inl, arith, length-append, length-set, get_or-set_same, get_or-set_other}
use Rattle.std.specs.Prelude.{◌==◌, not, if◌then◌else◌, All, map, remove, slice_get, slice_index, slice_index_or, slice_set}
use Rattle.std.specs.List.{flat_map, range_with_len, list_all}
use Rattle.std.proofs.lemmas.List.{length-map}
use Rattle.std.proofs.lemmas.List.Edits.{length-remove}
use Rattle.std.proofs.lemmas.List.FromFn.{length-range_with_len}
use Rattle.std.proofs.lemmas.Option.{slice_get_within}
use Rattle.std.proofs.lemmas.List.Elements.{All-nil, All-cons, All-append, All-push, All-weaker}
use Rattle.nk_field.proofs.Lists.{map_joined}
use Rattle.nk_topo.specs.Topology.{link_from, is_switch}
use Rattle.nk_table.specs.declared.Tables.{Tables}
use Rattle.nk_table.specs.Rules.{sent_for}
use Rattle.nk_update.proofs.Lookup.{true_eq, eq_false, false_eq}
use Rattle.nk_flight.specs.declared.copies.Flying.{Flying}
use Rattle.nk_flight.specs.declared.copies.Left.{Left}
use Rattle.nk_flight.specs.declared.hops.Hop.{Hop}
use Rattle.nk_flight.specs.declared.versions.Version.{Version}
use Rattle.nk_flight.specs.Flights.{flying_next, left_next, injected, state_of}
use Rattle.nk_flight.specs.Trails.{hop_at, hop_of, hop_over, first_hop, copy_at, copies_at, FollowsHop, AreHops}
use Rattle.nk_flight.specs.Updates.{Stages, stage_after, is_old_tag, has_old_tag, noted, noting, moved, handled_there, done_by, version_by, state_in, UpdateState, all_have_done, may_plan, may_go_on, one_more_event, planned}
use Rattle.nk_flight.specs.Progresses.{ProgressState, how_many}
use Rattle.nk_flight.specs.Held.{update_at, IsUpdateHeld}
use Rattle.nk_flight.proofs.Counting.{one_if, many_most, many_push, many_joined, many_mapped, many_removed, none_counted}
use Rattle.nk_flight.proofs.Steps.{next_is}
use Rattle.nk_flight.proofs.Trails.{across_is, below_end, copies_more, fresh_copies, hops_more, mapped_at, next_follow, removed_all, removed_copies}

-- places of hops stay such where more hops are held
pub wider : (hs more : List Hop) (places : List ℕ) → All (λ i. i < length hs) places → All (λ i. i < length (hs ++ more)) places
wider hs more places all =
    All-weaker (λ i. i < length hs) (λ i. i < length (hs ++ more)) (λ i lt. omega (arith, lt, length-append hs more)) places all

-- a version that isn't known changes nothing
at_end_none : (vs : List (Option Version)) (n : ℕ) → slice_index_or (vs ++ None ∷ []) n None ≡ slice_index_or vs n None
at_end_none [] zero = refl
at_end_none [] (suc n) = refl
at_end_none (v ∷ vs) zero = refl
at_end_none (v ∷ vs) (suc n) = at_end_none vs n

pub no_version : (vs : List (Option Version)) (n : ℕ) → version_by (vs ++ None ∷ []) n ≡ version_by vs n
no_version vs zero = refl
no_version vs (suc n) = at_end_none vs n

-- a version that is noted
pub version_noted : (vs : List (Option Version)) (number : ℕ) (v : Version) → 1 ≤ number → number ≤ length vs → (n : ℕ)
    → version_by (slice_set vs (number - 1) (Some v)) n ≡ noting number v (version_by vs) n
version_noted vs number v low high zero =
    let other : 0 ≢ number = λ q. omega (arith, q, low) in
    sym (ap (λ b. if b then Some v else None) (eq_false 0 number other))
version_noted vs number v low high (suc m) = by (suc m == number) refl
  where
    by : (b : Bool) → suc m == number ≡ b → slice_index_or (slice_set vs (number - 1) (Some v)) m None ≡ (if b then Some v else slice_index_or vs m None)
    by true e =
        let same = true_eq (suc m) number e in
        let at : m ≡ number - 1 = omega (arith, same) in
        let within : number - 1 < length vs = omega (arith, low, high) in
        ap (λ j. slice_index_or (slice_set vs (number - 1) (Some v)) j None) at ∙ get_or-set_same vs (number - 1) (Some v) None within
    by false e =
        let ne = false_eq (suc m) number e in
        let other : m ≢ number - 1 = λ q. ne (omega (arith, q, low)) in
        get_or-set_other vs (number - 1) m (Some v) None other

-- the hops over links have the number of the copy's
over_numbered : (P : ℕ → Type 0) (p : ℕ) (h : Hop) (y : List ℕ) (o : Option (ℕ × ℕ)) → P h.number → All (λ (k : Hop). P k.number) (hop_over p h y o)
over_numbered P p h y None n = All-nil (λ (k : Hop). P k.number)
over_numbered P p h y (Some to) n = one (hop_over p h y (Some to)) n
  where
    one : (ks : List Hop) → P h.number → All (λ (k : Hop). P k.number) (hop_over p h y (Some to))
    one ks n = λ i d lt. subst (λ (k : Hop). P k.number) (sym (first i d lt)) n
      where
        first : (i : ℕ) (d : Hop) → i < 1 → slice_index_or (hop_over p h y (Some to)) i d ≡ slice_index_or (hop_over p h y (Some to)) 0 d
        first zero d lt = refl
        first (suc i) d lt = absurd (omega (arith, lt))

numbered : (P : ℕ → Type 0) (t : Tables) (p : ℕ) (h : Hop) (sent : List (List ℕ)) → P h.number → All (λ (k : Hop). P k.number) (flat_map (hop_of t p h) sent)
numbered P t p h [] n = All-nil (λ (k : Hop). P k.number)
numbered P t p h (y ∷ ys) n =
    All-append (λ (k : Hop). P k.number) (hop_of t p h y) (flat_map (hop_of t p h) ys)
    (over_numbered P p h y (link_from t.topo (slice_index y 0) (slice_index y 1)) n)
    (numbered P t p h ys n)

-- the update after an injection
pub injected_held : (g : Stages) (progress : ProgressState) (pks qks : List (List ℕ)) (hs gs : List Hop) (places qlaces : List ℕ) (ls : List Left) (vs ws : List (Option Version)) (tagged more : ℕ) (pk : List ℕ)
    → qks ≡ pks ++ pk ∷ [] → gs ≡ hs ++ first_hop (length pks + 1) pk ∷ [] → qlaces ≡ places ++ length hs ∷ [] → ws ≡ vs ++ None ∷ [] → more ≡ tagged + one_if (is_old_tag g pk)
    → IsUpdateHeld g progress pks hs places vs tagged
    → (state_in (update_at g progress qks gs qlaces ls ws) ≡ (let u = state_in (update_at g progress pks hs places ls vs) in record u { flight = injected pk u.flight }))
    × IsUpdateHeld g progress qks gs qlaces ws more
injected_held g progress pks qks hs gs places qlaces ls vs ws tagged more pk p h f w m s =
    let F = g.before.fields in
    let hop : Hop = first_hop (length pks + 1) pk in
    let next : List Hop = hop ∷ [] in
    let all : All (FollowsHop hs (length hs)) next = All-cons (FollowsHop hs (length hs)) hop [] (inl refl) (All-nil (FollowsHop hs (length hs))) in
    let fresh = fresh_copies F hs next s.hops all in
    let copies : copies_at F (hs ++ next) (places ++ length hs ∷ []) ≡ copies_at F hs places ++ copy_at F hs hop ∷ [] =
    map_joined (λ i. copy_at F (hs ++ next) (hop_at (hs ++ next) i)) places (length hs ∷ [])
    ∙ (λ j. copies_more F hs next s.hops places s.there j ++ fresh j) in
    let held : copies_at F gs qlaces ≡ copies_at F hs places ++ copy_at F hs hop ∷ [] = (λ j. copies_at F (h j) (f j)) ∙ copies in
    let longer : length (hs ++ next) ≡ length hs + 1 = omega (arith, length-append hs next) in
    let within : length hs < length (hs ++ next) = omega (arith, longer) in
    let count : length qks ≡ length pks + 1 = ap length p ∙ length-append pks (pk ∷ []) in (
      λ j. record {
        flight = state_of g.before (p j) (held j) ls;
        done = done_by progress.done;
        versions = λ n. (ap (λ l. version_by l n) w ∙ no_version vs n) j;
      },
      record {
        switches = s.switches;
        hops = subst AreHops (sym h) (hops_more hs next s.hops all);
        numbered =
            let Q : Hop → Type 0 = λ k. (1 ≤ k.number) × (k.number ≤ length qks) in
            let was : All Q hs = All-weaker (λ (k : Hop). (1 ≤ k.number) × (k.number ≤ length pks)) Q (λ k r. (r.0, omega (arith, r.1, count))) hs s.numbered in
            let low : 1 ≤ length pks + 1 = omega arith in
            let high : length pks + 1 ≤ length qks = omega (arith, count) in
            subst (All Q) (sym h) (All-push Q hs hop was (low, high));
        there =
            subst (λ l. All (λ i. i < length l) qlaces) (sym h)
            (subst (All (λ i. i < length (hs ++ next))) (sym f)
            (All-push (λ i. i < length (hs ++ next)) places (length hs) (wider hs next places s.there) within));
        few =
            let places_then : length qlaces ≡ length places + 1 = ap length f ∙ length-append places (length hs ∷ []) in
            let hops_then : length gs ≡ length hs + 1 = ap length h ∙ longer in
            omega (arith, places_then, hops_then, s.few);
        versions =
            let versions_then : length ws ≡ length vs + 1 = ap length w ∙ length-append vs (None ∷ []) in
            omega (arith, versions_then, count, s.versions);
        old_copies =
            m
            ∙ ap (λ n. n + one_if (is_old_tag g pk)) s.old_copies
            ∙ sym (ap (how_many (has_old_tag g)) held ∙ many_push (has_old_tag g) (copies_at F hs places) (copy_at F hs hop));
      },
    )

-- the update after the copy at a place was handled
pub moved_held : (g : Stages) (progress : ProgressState) (t : Tables) (pks : List (List ℕ)) (hs gs next : List Hop) (places qlaces : List ℕ) (ls ms : List Left) (vs ws : List (Option Version)) (tagged more fewer : ℕ) (i p : ℕ)
    → t.fields ≡ g.before.fields → t ≡ stage_after g (done_by progress.done (slice_index (hop_at hs p).packet 0))
    → IsUpdateHeld g progress pks hs places vs tagged → slice_get places i ≡ Some p → p < length hs
    → next ≡ flat_map (hop_of t p (hop_at hs p)) (sent_for t (hop_at hs p).packet)
    → gs ≡ hs ++ next → qlaces ≡ remove places i ++ range_with_len (length hs) (length next)
    → ms ≡ ls ++ left_next t (copy_at g.before.fields hs (hop_at hs p))
    → ws ≡ slice_set vs ((hop_at hs p).number - 1) (Some (noted (version_by vs (hop_at hs p).number) (done_by progress.done (slice_index (hop_at hs p).packet 0))))
    → fewer + one_if (is_old_tag g (hop_at hs p).packet) ≡ tagged → more ≡ fewer + how_many (λ (h : Hop). is_old_tag g h.packet) next
    → (state_in (update_at g progress pks gs qlaces ms ws) ≡ moved g i (state_in (update_at g progress pks hs places ls vs)))
    × IsUpdateHeld g progress pks gs qlaces ws more
moved_held g progress t pks hs gs next places qlaces ls ms vs ws tagged more fewer i p frame stage s here lt made h f m w less grown =
    let F = g.before.fields in
    let at : ℕ → Flying = λ j. copy_at F hs (hop_at hs j) in
    let steps = done_by progress.done (slice_index (hop_at hs p).packet 0) in
    let number = (hop_at hs p).number in
    let v = noted (version_by vs number) steps in
    let all : All (FollowsHop hs (length hs)) next =
    subst (All (FollowsHop hs (length hs))) (sym made) (next_follow t hs p (sent_for t (hop_at hs p).packet) lt) in
    let kept = removed_all (λ j. j < length hs) places i s.there in
    let old : copies_at F (hs ++ next) (remove places i) ≡ remove (copies_at F hs places) i =
    copies_more F hs next s.hops (remove places i) kept ∙ removed_copies at places i in
    let mapped : map (copy_at F hs) next ≡ flying_next t (at p) =
    subst (λ G. map (copy_at G hs) next ≡ flying_next t (copy_at G hs (hop_at hs p))) frame
    (ap (map (copy_at t.fields hs)) made ∙ across_is t hs p (sent_for t (hop_at hs p).packet) ∙ next_is t (copy_at t.fields hs (hop_at hs p))) in
    let new : copies_at F (hs ++ next) (range_with_len (length hs) (length next)) ≡ map (copy_at F hs) next = fresh_copies F hs next s.hops all in
    let copies : copies_at F (hs ++ next) (remove places i ++ range_with_len (length hs) (length next)) ≡ remove (copies_at F hs places) i ++ map (copy_at F hs) next =
    map_joined (λ j. copy_at F (hs ++ next) (hop_at (hs ++ next) j)) (remove places i) (range_with_len (length hs) (length next))
    ∙ (λ j. old j ++ new j) in
    let held : copies_at F gs qlaces ≡ remove (copies_at F hs places) i ++ map (copy_at F hs) next = (λ j. copies_at F (h j) (f j)) ∙ copies in
    let got : slice_get (copies_at F hs places) i ≡ Some (at p) = mapped_at at places i p here in
    let known = members p lt in
    let flying_then = held ∙ ap (λ l. remove (copies_at F hs places) i ++ l) (mapped ∙ ap (λ u. flying_next u (at p)) stage) in
    let left_then = m ∙ ap (λ u. ls ++ left_next u (at p)) stage in
    let u = state_in (update_at g progress pks hs places ls vs) in
    let most : length hs + length next ≤ length (hs ++ next) = omega (arith, length-append hs next) in (
      (λ j. record {
        flight = state_of g.before pks (flying_then j) (left_then j);
        done = done_by progress.done;
        versions = λ n. (ap (λ l. version_by l n) w ∙ version_noted vs number v known.0 known.1 n) j;
      })
          ∙ ap (λ o. handled_there g u o (remove (copies_at F hs places) i)) (sym got),
      record {
        switches = s.switches;
        hops = subst AreHops (sym h) (hops_more hs next s.hops all);
        numbered =
            let Q : ℕ → Type 0 = λ n. (1 ≤ n) × (n ≤ length pks) in
            subst (All (λ (k : Hop). Q k.number)) (sym h)
            (All-append (λ (k : Hop). Q k.number) hs next s.numbered
            (subst (All (λ (k : Hop). Q k.number)) (sym made) (numbered Q t p (hop_at hs p) (sent_for t (hop_at hs p).packet) (given p lt))));
        there =
            subst (λ l. All (λ j. j < length l) qlaces) (sym h)
            (subst (All (λ j. j < length (hs ++ next))) (sym f)
            (All-append (λ j. j < length (hs ++ next)) (remove places i) (range_with_len (length hs) (length next))
            (wider hs next (remove places i) kept)
            (below_end (length hs) (length next) (length (hs ++ next)) most)));
        few =
            let one_out = length-remove places i (slice_get_within places i p here) in
            let places_then : length qlaces ≡ length (remove places i) + length next =
            ap length f
            ∙ length-append (remove places i) (range_with_len (length hs) (length next))
            ∙ ap (λ n. length (remove places i) + n) (length-range_with_len (length hs) (length next)) in
            let hops_then : length gs ≡ length hs + length next = ap length h ∙ length-append hs next in
            omega (arith, one_out, places_then, hops_then, s.few);
        versions = ap length w ∙ length-set vs (number - 1) (Some v) ∙ s.versions;
        old_copies =
            let out = many_removed (has_old_tag g) (copies_at F hs places) i (at p) got in
            let both = ap (how_many (has_old_tag g)) held ∙ many_joined (has_old_tag g) (remove (copies_at F hs places) i) (map (copy_at F hs) next) in
            let those = many_mapped (has_old_tag g) (copy_at F hs) next in
            omega (arith, out, both, those, less, grown, s.old_copies);
      },
    )
  where
    given : (j : ℕ) → j < length hs → (1 ≤ (hop_at hs j).number) × ((hop_at hs j).number ≤ length pks)
    given j lt = s.numbered j record { number = 0; crossings = 0; earlier = 0; before = []; packet = [] } lt

    members : (j : ℕ) → j < length hs → (1 ≤ (hop_at hs j).number) × ((hop_at hs j).number ≤ length vs)
    members j lt = let r = given j lt in (r.0, subst (λ n. (hop_at hs j).number ≤ n) (sym s.versions) r.1)

-- the third plan step waits for the copies with an old tag
pub may_remove : (g : Stages) (s : UpdateState) (sw tagged : ℕ) → is_switch g.before.topo sw ≡ true → s.done sw ≡ 2 → all_have_done g 2 s.done ≡ true
    → tagged ≡ how_many (has_old_tag g) s.flight.flying → (tagged == 0) ≡ may_plan g s sw
may_remove g s sw tagged declared two all is =
    ap (λ n. n == 0) is
    ∙ none_counted (has_old_tag g) s.flight.flying
    ∙ sym (ap (λ n. may_go_on g s n) two ∙ ap (λ b. b && list_all (λ f. not (has_old_tag g f)) s.flight.flying) all)
    ∙ sym (ap (λ b. b && may_go_on g s (s.done sw)) declared)

-- the update after a plan step that the switch may do
pub planned_held : (g : Stages) (progress later : ProgressState) (pks : List (List ℕ)) (hs : List Hop) (places : List ℕ) (ls : List Left) (vs : List (Option Version)) (sw : ℕ)
    → ((n : ℕ) → done_by later.done n ≡ one_more_event sw (done_by progress.done) n)
    → may_plan g (state_in (update_at g progress pks hs places ls vs)) sw ≡ true
    → state_in (update_at g later pks hs places ls vs) ≡ planned g sw (state_in (update_at g progress pks hs places ls vs))
planned_held g progress later pks hs places ls vs sw more may =
    let u = state_in (update_at g progress pks hs places ls vs) in
    (λ j. record u { done = λ n. more n j }) ∙ sym (ap (λ b. if b then record u { done = one_more_event sw u.done } else u) may)

-- copies with an old tag are no more than hops
pub few_tagged : (g : Stages) (progress : ProgressState) (pks : List (List ℕ)) (hs : List Hop) (places : List ℕ) (vs : List (Option Version)) (tagged : ℕ)
    → IsUpdateHeld g progress pks hs places vs tagged → tagged ≤ length hs
few_tagged g progress pks hs places vs tagged s =
    let copies = copies_at g.before.fields hs places in
    let most : how_many (has_old_tag g) copies ≤ length copies = many_most (has_old_tag g) copies in
    let count : length copies ≡ length places = length-map places (λ i. copy_at g.before.fields hs (hop_at hs i)) in
    omega (arith, s.old_copies, most, count, s.few)

-- one or none is at most one
pub one_most : (b : Bool) → one_if b ≤ 1
one_most true = omega arith
one_most false = omega arith

-- where a copy with an old tag is handled there is one
pub old_one : (g : Stages) (progress : ProgressState) (pks : List (List ℕ)) (hs : List Hop) (places : List ℕ) (vs : List (Option Version)) (tagged i p : ℕ)
    → IsUpdateHeld g progress pks hs places vs tagged → slice_get places i ≡ Some p → (b : Bool) → b ≡ is_old_tag g (hop_at hs p).packet → b ≡ true → 1 ≤ tagged
old_one g progress pks hs places vs tagged i p s here b is t =
    let at : ℕ → Flying = λ j. copy_at g.before.fields hs (hop_at hs j) in
    let copies = copies_at g.before.fields hs places in
    let out : how_many (has_old_tag g) (remove copies i) + one_if (has_old_tag g (at p)) ≡ how_many (has_old_tag g) copies =
    many_removed (has_old_tag g) copies i (at p) (mapped_at at places i p here) in
    let one : one_if (has_old_tag g (at p)) ≡ 1 = ap one_if (sym is ∙ t) in
    omega (arith, out, one, s.old_copies)

-- one less, or not
pub less_then : (b : Bool) (tagged fewer : ℕ) → fewer ≡ (if b then tagged - 1 else tagged) → (b ≡ true → 1 ≤ tagged) → fewer + one_if b ≡ tagged
less_then true tagged fewer e h = let low = h refl in omega (arith, e, low)
less_then false tagged fewer e h = omega (arith, e)
