-- Trails of hops: more hops after them leave them as they are, and the hops that a copy leads to are those of its next copies.
use Rattle.std.proofs.Common.{◌≡◌, ◌<◌, ◌≤◌, ◌+◌, ◌-◌, ◌⊎◌, ℕ, zero, suc, Option, None, Some, List, [], ◌∷◌, ◌++◌, length, take, drop, refl, sym, ap, subst, ◌∙◌, inl, inr, ⊎_elim, arith, length-append}
use Rattle.std.specs.Prelude.{map, All, remove, slice_index, slice_get}
use Rattle.std.specs.List.{flat_map, range_with_len}
use Rattle.std.proofs.lemmas.List.{get_or_append_left, get_or-append_right, get_or-append-add, take-map, drop-map}
use Rattle.std.proofs.lemmas.List.Elements.{All-nil, All-cons, All-head, All-tail, All-append, All-take, All-drop}
use Rattle.nk_field.specs.Packet.{FieldTable, erased}
use Rattle.nk_field.proofs.Lists.{map_joined}
use Rattle.nk_topo.specs.Topology.{link_from}
use Rattle.nk_table.specs.declared.Tables.{Tables}
use Rattle.nk_table.specs.Hops.{moved_to, crossing}
use Rattle.nk_flight.specs.declared.hops.Hop.{Hop}
use Rattle.nk_flight.specs.Flights.{flying_as, flying_across}
use Rattle.nk_flight.specs.Trails.{hop_at, records_at, copy_at, copies_at, hop_over, hop_of, FollowsHop, AreHops}

-- what goes on from one of the first n hops goes on from one of the first m, also where more hops stand after
pub follows_on : (hs more : List Hop) (n m : ℕ) (h : Hop) → n ≤ length hs → n ≤ m → FollowsHop hs n h → FollowsHop (hs ++ more) m h
follows_on hs more n m h there less f =
    ⊎_elim
    (λ e. inl e)
    (λ r.
    let within : h.earlier < length hs = omega (arith, r.0, there) in
    let lower : h.earlier < m = omega (arith, r.0, less) in
    inr (lower, r.1 ∙ ap (λ (e : Hop). suc e.crossings) (sym (get_or_append_left hs more _ h.earlier within))))
    f

-- what goes on from one of the first n hops goes on from one of the first m
pub follows_wider : (hs : List Hop) (n m : ℕ) (h : Hop) → n ≤ m → FollowsHop hs n h → FollowsHop hs m h
follows_wider hs n m h less f =
    ⊎_elim
    (λ e. inl e)
    (λ r. let lower : h.earlier < m = omega (arith, r.0, less) in inr (lower, r.1))
    f

-- what was recorded stays where more hops are held after
pub trail_more : (fields : FieldTable) (hs more : List Hop) → AreHops hs → (k : ℕ) (h : Hop) → k ≡ h.crossings → FollowsHop hs (length hs) h
    → records_at fields (hs ++ more) k h ≡ records_at fields hs k h
trail_more fields hs more are zero h e f = refl
trail_more fields hs more are (suc k) h e f =
    ⊎_elim
    (λ none. absurd (clash k (e ∙ none)))
    (λ r.
    let same : hop_at (hs ++ more) h.earlier ≡ hop_at hs h.earlier = get_or_append_left hs more _ h.earlier r.0 in
    let less : h.earlier ≤ length hs = omega (arith, r.0) in
    let count : k ≡ (hop_at hs h.earlier).crossings = inside k (hop_at hs h.earlier).crossings (e ∙ r.1) in
    let rest = trail_more fields hs more are k (hop_at hs h.earlier) count
    (follows_wider hs h.earlier (length hs) (hop_at hs h.earlier) less (are h.earlier r.0)) in
    ap (λ l. l ++ erased fields h.before ∷ erased fields h.packet ∷ [])
    (ap (λ (d : Hop). records_at fields (hs ++ more) k d) same ∙ rest))
    f
  where
    clash : (n : ℕ) → suc n ≡ 0 → ⊥
    clash n q = cc

    inside : (m n : ℕ) → suc m ≡ suc n → m ≡ n
    inside m n q = omega (arith, q)

-- and so does a copy
pub copy_more : (fields : FieldTable) (hs more : List Hop) → AreHops hs → (h : Hop) → FollowsHop hs (length hs) h
    → copy_at fields (hs ++ more) h ≡ copy_at fields hs h
copy_more fields hs more are h f =
    λ i. record { number = h.number; records = trail_more fields hs more are h.crossings h refl f i; packet = h.packet }

-- a hop that is held goes on from one of those that are held
pub held_follows : (hs : List Hop) → AreHops hs → (i : ℕ) → i < length hs → FollowsHop hs (length hs) (hop_at hs i)
held_follows hs are i lt =
    let less : i ≤ length hs = omega (arith, lt) in
    follows_wider hs i (length hs) (hop_at hs i) less (are i lt)

-- and so do all copies
pub copies_more : (fields : FieldTable) (hs more : List Hop) → AreHops hs → (places : List ℕ) → All (λ i. i < length hs) places
    → copies_at fields (hs ++ more) places ≡ copies_at fields hs places
copies_more fields hs more are [] there = refl
copies_more fields hs more are (i ∷ places) there =
    let lt = All-head (λ j. j < length hs) i places there in
    let same : copy_at fields (hs ++ more) (hop_at (hs ++ more) i) ≡ copy_at fields hs (hop_at hs i) =
    ap (copy_at fields (hs ++ more)) (get_or_append_left hs more _ i lt) ∙ copy_more fields hs more are (hop_at hs i) (held_follows hs are i lt) in
    let rest = copies_more fields hs more are places (All-tail (λ j. j < length hs) i places there) in
    λ j. same j ∷ rest j

-- hops that go on from held ones may stand after them
pub hops_more : (hs more : List Hop) → AreHops hs → All (FollowsHop hs (length hs)) more → AreHops (hs ++ more)
hops_more hs more are all =
    λ i lt.
    ⊎_elim
    (λ here.
    let less : i ≤ length hs = omega (arith, here) in
    subst (FollowsHop (hs ++ more) i) (sym (get_or_append_left hs more _ i here))
    (follows_on hs more i i (hop_at hs i) less (omega arith) (are i here)))
    (λ following.
    let within : i - length hs < length more = omega (arith, lt, following, length-append hs more) in
    subst (FollowsHop (hs ++ more) i) (sym (get_or-append_right hs more (length hs) i _ refl following))
    (follows_on hs more (length hs) i (hop_at more (i - length hs)) (omega arith) following (all (i - length hs) _ within)))
    (sides i (length hs))
  where
    sides : (m n : ℕ) → (m < n) ⊎ (n ≤ m)
    sides m n = grind arith

-- a hop has crossed at most as many links as hops stand before it
pub few_crossings : (hs : List Hop) → AreHops hs → (n i : ℕ) → i < n → i < length hs → (hop_at hs i).crossings ≤ i
few_crossings hs are zero i lt there = absurd (omega (arith, lt))
few_crossings hs are (suc n) i lt there =
    ⊎_elim
    (λ none. omega (arith, none))
    (λ r.
    let lower : (hop_at hs i).earlier < n = omega (arith, r.0, lt) in
    let within : (hop_at hs i).earlier < length hs = omega (arith, r.0, there) in
    let fewer = few_crossings hs are n (hop_at hs i).earlier lower within in
    omega (arith, r.0, r.1, fewer))
    (are i there)

-- the hop over a link goes on from the copy's
over_follows : (hs : List Hop) (p : ℕ) (y : List ℕ) (o : Option (ℕ × ℕ)) → p < length hs
    → All (FollowsHop hs (length hs)) (hop_over p (hop_at hs p) y o)
over_follows hs p y None lt = All-nil (FollowsHop hs (length hs))
over_follows hs p y (Some to) lt =
    All-cons (FollowsHop hs (length hs)) record { number = (hop_at hs p).number; crossings = suc (hop_at hs p).crossings; earlier = p; before = y; packet = moved_to to y } []
    (inr (lt, refl)) (All-nil (FollowsHop hs (length hs)))

-- and so do those over all links
pub next_follow : (t : Tables) (hs : List Hop) (p : ℕ) (sent : List (List ℕ)) → p < length hs
    → All (FollowsHop hs (length hs)) (flat_map (hop_of t p (hop_at hs p)) sent)
next_follow t hs p [] lt = All-nil (FollowsHop hs (length hs))
next_follow t hs p (y ∷ ys) lt =
    All-append (FollowsHop hs (length hs)) (hop_of t p (hop_at hs p) y) (flat_map (hop_of t p (hop_at hs p)) ys)
    (over_follows hs p y (link_from t.topo (slice_index y 0) (slice_index y 1)) lt)
    (next_follow t hs p ys lt)

-- the copies after links are those of the hops over them
pub across_is : (t : Tables) (hs : List Hop) (p : ℕ) (sent : List (List ℕ))
    → map (copy_at t.fields hs) (flat_map (hop_of t p (hop_at hs p)) sent) ≡ flat_map (flying_across t (copy_at t.fields hs (hop_at hs p))) sent
across_is t hs p [] = refl
across_is t hs p (y ∷ ys) =
    map_joined (copy_at t.fields hs) (hop_of t p (hop_at hs p) y) (flat_map (hop_of t p (hop_at hs p)) ys)
    ∙ (λ j. one (link_from t.topo (slice_index y 0) (slice_index y 1)) j ++ across_is t hs p ys j)
  where
    one : (o : Option (ℕ × ℕ)) → map (copy_at t.fields hs) (hop_over p (hop_at hs p) y o) ≡ map (flying_as (hop_at hs p).number) (crossing t (records_at t.fields hs (hop_at hs p).crossings (hop_at hs p)) y o)
    one None = refl
    one (Some to) = refl

-- the copies at the places of hops that stand after those that were held
fresh : (fields : FieldTable) (hs more : List Hop) → AreHops hs → (a : ℕ) (xs : List Hop) → ((i : ℕ) → i < length xs → hop_at (hs ++ more) (a + i) ≡ hop_at xs i)
    → All (FollowsHop hs (length hs)) xs → copies_at fields (hs ++ more) (range_with_len a (length xs)) ≡ map (copy_at fields hs) xs
fresh fields hs more are a [] at all = refl
fresh fields hs more are a (x ∷ xs) at all =
    let first : 0 < suc (length xs) = omega arith in
    let here : hop_at (hs ++ more) a ≡ x = ap (hop_at (hs ++ more)) (omega arith) ∙ at 0 first in
    let one : copy_at fields (hs ++ more) (hop_at (hs ++ more) a) ≡ copy_at fields hs x =
    ap (copy_at fields (hs ++ more)) here ∙ copy_more fields hs more are x (All-head (FollowsHop hs (length hs)) x xs all) in
    let rest = fresh fields hs more are (a + 1) xs
    (λ i lt. let less : suc i < suc (length xs) = omega (arith, lt) in let moved : (a + 1) + i ≡ a + suc i = omega arith in ap (hop_at (hs ++ more)) moved ∙ at (suc i) less)
    (All-tail (FollowsHop hs (length hs)) x xs all) in
    λ j. one j ∷ rest j

-- their places
pub fresh_copies : (fields : FieldTable) (hs next : List Hop) → AreHops hs → All (FollowsHop hs (length hs)) next
    → copies_at fields (hs ++ next) (range_with_len (length hs) (length next)) ≡ map (copy_at fields hs) next
fresh_copies fields hs next are all =
    fresh fields hs next are (length hs) next (λ i lt. get_or-append-add hs next i _) all

-- one place more
pub range_more : (a n : ℕ) → range_with_len a (n + 1) ≡ range_with_len a n ++ (a + n) ∷ []
range_more a zero = let same : a ≡ a + 0 = omega arith in ap (λ (k : ℕ). k ∷ []) same
range_more a (suc n) =
    let count : suc n + 1 ≡ suc (n + 1) = omega arith in
    let last : (a + 1) + n ≡ a + suc n = omega arith in
    ap (range_with_len a) count ∙ ap (λ l. a ∷ l) (range_more (a + 1) n ∙ ap (λ (k : ℕ). range_with_len (a + 1) n ++ k ∷ []) last)

-- places from one on stand below the last
pub below_end : (a n m : ℕ) → a + n ≤ m → All (λ i. i < m) (range_with_len a n)
below_end a zero m le = All-nil (λ i. i < m)
below_end a (suc n) m le =
    let lt : a < m = omega (arith, le) in
    let less : (a + 1) + n ≤ m = omega (arith, le) in
    All-cons (λ i. i < m) a (range_with_len (a + 1) n) lt (below_end (a + 1) n m less)

-- one place fewer
pub removed_all : (P : ℕ → Type 0) (xs : List ℕ) (i : ℕ) → All P xs → All P (remove xs i)
removed_all P xs i all = All-append P (take i xs) (drop (suc i) xs) (All-take P i xs all) (All-drop P (suc i) xs all)

-- one copy fewer
pub removed_copies : {X Y : Type 0} (f : X → Y) (xs : List X) (i : ℕ) → map f (remove xs i) ≡ remove (map f xs) i
removed_copies f xs i =
    map_joined f (take i xs) (drop (suc i) xs) ∙ (λ j. sym (take-map f i xs) j ++ sym (drop-map f (suc i) xs) j)

-- what is made of an element, if there is one
abbrev image : {X Y : Type 0} → (X → Y) → Option X → Option Y
image f None = None
image f (Some x) = Some (f x)

-- the copy at a place of the copies
got_mapped : {X Y : Type 0} (f : X → Y) (xs : List X) (i : ℕ) → slice_get (map f xs) i ≡ image f (slice_get xs i)
got_mapped f [] i = refl
got_mapped f (x ∷ xs) zero = refl
got_mapped f (x ∷ xs) (suc i) = got_mapped f xs i

-- where there is one
pub mapped_at : {X Y : Type 0} (f : X → Y) (xs : List X) (i : ℕ) (x : X) → slice_get xs i ≡ Some x → slice_get (map f xs) i ≡ Some (f x)
mapped_at f xs i x e = got_mapped f xs i ∙ ap (image f) e
