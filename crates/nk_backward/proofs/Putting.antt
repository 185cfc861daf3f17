-- Packets found under sets, in another order and put together by their sets.
use Rattle.std.proofs.Common.{◌≡◌, ℕ, zero, suc, ◌<◌, ◌≤◌, ◌+◌, ◌-◌, true, inl, inr, refl, sym, ◌∙◌, ap, subst, arith, List, [], ◌∷◌, length, get_or}
use Rattle.std.specs.List.Sorted.{IsPermutation}
use Rattle.std.proofs.lemmas.Bool.Decides.{eqb_tells, leb_tells}
use Rattle.std.proofs.lemmas.List.Sorted.{Contains-permutation, IsPermutation-sym}
use Rattle.nk_store.specs.StoreState.{StoreState, IsStorePacket, HasLeaves, look, Grows}
use Rattle.nk_apply.specs.Predicates.{IsPredicate}
use Rattle.nk_apply.specs.Unions.{unions}
use Rattle.nk_sets.specs.PacketSets.{has_some_out, is_in, IsSet}
use Rattle.nk_sets.proofs.SetLemmas.{merged_out}
use Rattle.nk_sets.proofs.Kept.{Has, has_on, has_back, get_or_same}
use Rattle.nk_determ.specs.Pairs.{Under, Once, EachPair}
use Rattle.nk_goal.specs.Entries.{HaveSets}
use Rattle.nk_goal.proofs.Adding.{either_true, left_true, right_true}
use Rattle.nk_goal.proofs.Places.{each_at, under_at, entry_of}
use Rattle.nk_backward.specs.Predecessors.{diagram_at, HaveDiagrams, IsRunOfSet}
use Rattle.nk_backward.specs.Closures.{AreFound, IsGained}
use Rattle.nk_backward.proofs.Gaining.{gained_then, gained_as, gained_before}

-- the packet stands under the set in one of these entries
abbrev pub StandsBetween : StoreState → List (ℕ × ℕ) → ℕ → ℕ → ℕ → List ℕ → Type 0
StandsBetween st ds from to i z = (j : ℕ) × (from ≤ j) × (j < to) × ((diagram_at ds j).0 ≡ i) × Has st (diagram_at ds j).1 z

-- an entry's is a set of packets
pub set_here : (st : StoreState) (ds : List (ℕ × ℕ)) (k : ℕ) → HaveSets st ds → k < length ds → IsSet st (diagram_at ds k).1
set_here st ds k sets l = each_at (λ p. IsSet st p.1) ds k (diagram_at ds k) sets l (get_or_same ds k (0, 0) (diagram_at ds k) l)

-- sets of packets are diagrams
pub sets_are : (st : StoreState) (ds : List (ℕ × ℕ)) → HaveSets st ds → HaveDiagrams st ds
sets_are st ds sets k l = (set_here st ds k sets l).id

-- what holds at each place holds of each entry
pub each_place : (P : ℕ × ℕ → Type 0) (ds : List (ℕ × ℕ)) → ((k : ℕ) → k < length ds → P (diagram_at ds k)) → EachPair P ds
each_place P [] f = tt
each_place P (d ∷ ds) f = (f zero (omega arith), each_place P ds (λ k l. f (suc k) (omega (arith, l))))

-- sets of packets in another order are sets of packets
pub sets_moved : (st : StoreState) (ds all : List (ℕ × ℕ)) → IsPermutation ds all → HaveSets st ds → HaveSets st all
sets_moved st ds all moved sets = each_place (λ p. IsSet st p.1) all (λ k l.
    let c = Contains-permutation all ds (diagram_at all k) (IsPermutation-sym ds all moved) (k, l, get_or_same all k (diagram_at all k) (0, 0) l) in
    let e : diagram_at ds c.0 ≡ diagram_at all k = get_or_same ds c.0 (0, 0) (diagram_at all k) c.1 ∙ c.2 in
    subst (λ (p : ℕ × ℕ). IsSet st p.1) e (set_here st ds c.0 sets c.1))

-- a packet under a set in one of all entries
pub between_under : (st : StoreState) (ds : List (ℕ × ℕ)) (to i : ℕ) (z : List ℕ) → to ≡ length ds → StandsBetween st ds 0 to i z → Under st ds i z
between_under st ds to i z all s =
    let l : s.0 < length ds = let m = s.2 in omega (arith, m, all) in
    subst (λ (j : ℕ). Under st ds j z) s.3 (under_at st ds s.0 (diagram_at ds s.0) z l (get_or_same ds s.0 (0, 0) (diagram_at ds s.0) l) s.4)

-- what stands under a set stands in one of all entries
pub under_between : (st : StoreState) (ds : List (ℕ × ℕ)) (to i : ℕ) (z : List ℕ) → to ≡ length ds → Under st ds i z → StandsBetween st ds 0 to i z
under_between st ds to i z all u =
    let e = entry_of st ds i z u in
    (e.0, omega arith, let l = e.1 in omega (arith, l, all), e.2 (0, 0), e.3 (0, 0))

-- what stands under a set stands there in another order
pub under_moved : (st : StoreState) (ds all : List (ℕ × ℕ)) (i : ℕ) (z : List ℕ) → IsPermutation ds all → Under st ds i z → Under st all i z
under_moved st ds all i z moved u =
    let s = entry_of st ds i z u in
    let c = Contains-permutation ds all (diagram_at ds s.0) moved (s.0, s.1, get_or_same ds s.0 (diagram_at ds s.0) (0, 0) s.1) in
    let e : diagram_at ds s.0 ≡ diagram_at all c.0 = sym (get_or_same all c.0 (0, 0) (diagram_at ds s.0) c.1 ∙ c.2) in
    between_under st all (length all) i z refl (c.0, omega arith, c.1, subst (λ (p : ℕ × ℕ). p.0 ≡ i) e (s.2 (0, 0)), subst (λ (p : ℕ × ℕ). Has st p.1 z) e (s.3 (0, 0)))

-- a packet of all sets is one of a set's
pub in_some : (st : StoreState) (ds : List ℕ) (from n : ℕ) (z : List ℕ) → has_some_out (unions st ds from n z) ≡ true → (i : ℕ) × (from ≤ i) × (i < from + n) × Has st (get_or ds i 0) z
in_some st ds from zero z h = absurd cc
in_some st ds from (suc n) z h = elim (either_true (is_in st (get_or ds from 0) z) (has_some_out (unions st ds (from + 1) n z)) (sym (merged_out (look st (get_or ds from 0) z) (unions st ds (from + 1) n z)) ∙ h)) [
  | inl here ↦ (from, omega arith, omega arith, here)
  | inr later ↦ let r = in_some st ds (from + 1) n z later in (r.0, omega (arith, r.1), omega (arith, r.2), r.3)
]

-- a packet of a set is one of all
pub some_in : (st : StoreState) (ds : List ℕ) (from n i : ℕ) (z : List ℕ) → from ≤ i → i < from + n → Has st (get_or ds i 0) z → has_some_out (unions st ds from n z) ≡ true
some_in st ds from zero i z l m h = absurd (omega (arith, l, m))
some_in st ds from (suc n) i z l m h = merged_out (look st (get_or ds from 0) z) (unions st ds (from + 1) n z) ∙ elim (eqb_tells i from) [
  | inl same ↦ left_true (is_in st (get_or ds from 0) z) (has_some_out (unions st ds (from + 1) n z)) (subst (λ (j : ℕ). Has st (get_or ds j 0) z) same.1 h)
  | inr other ↦ right_true (is_in st (get_or ds from 0) z) (has_some_out (unions st ds (from + 1) n z)) (some_in st ds (from + 1) n i z (omega (arith, l, other.1)) (omega (arith, m)) h)
]

-- the sets of a run together are a set
pub run_set : (st mid : StoreState) (ds : List (ℕ × ℕ)) (from to : ℕ) (run : List ℕ) (y : ℕ) → HaveSets st ds → IsRunOfSet ds from to run → HasLeaves mid y (λ pk. unions st run 0 (length run) pk) → (((k : ℕ) → k < length run → IsPredicate st (get_or run k 0)) → IsPredicate mid y) → IsSet mid y
run_set st mid ds from to run y sets r h p = record {
  id = h.id;
  predicate = p (λ k l. subst (IsPredicate st) (sym (r.items k l)) (set_here st ds (from + k) sets (omega (arith, l, r.count, r.within))).predicate);
}

-- what a run has together stands in its entries
pub run_between : (a st mid : StoreState) (ds : List (ℕ × ℕ)) (from to s y : ℕ) (run : List ℕ) → Grows a st → Grows st mid → HaveSets a ds → s ≡ (diagram_at ds from).0 → IsRunOfSet ds from to run → HasLeaves mid y (λ pk. unions st run 0 (length run) pk) →
    (i : ℕ) (z : List ℕ) → IsStorePacket st z → (i ≡ s) × (is_in mid y z ≡ true) → StandsBetween a ds from to i z
run_between a st mid ds from to s y run g1 g2 sets set r h i z w c =
    let u = in_some st run 0 (length run) z (ap has_some_out (sym (h.leaf z w.0)) ∙ c.1) in
    let l : u.0 < length run = omega (arith, u.2) in
    let k : ℕ = from + u.0 in
    let within : k < to = omega (arith, l, r.count) in
    let has : Has st (diagram_at ds k).1 z = subst (λ (f : ℕ). Has st f z) (r.items u.0 l) u.3 in
    (k, omega arith, within, r.one k (omega arith) within ∙ sym set ∙ sym c.0, has_back a st (diagram_at ds k).1 z g1 (set_here a ds k sets (omega (arith, within, r.within))).id has)

-- what stands in its entries a run has together
pub between_run : (a st mid : StoreState) (ds : List (ℕ × ℕ)) (from to s y : ℕ) (run : List ℕ) → Grows a st → Grows st mid → HaveSets a ds → s ≡ (diagram_at ds from).0 → IsRunOfSet ds from to run → HasLeaves mid y (λ pk. unions st run 0 (length run) pk) →
    (i : ℕ) (z : List ℕ) → IsStorePacket st z → StandsBetween a ds from to i z → (i ≡ s) × (is_in mid y z ≡ true)
between_run a st mid ds from to s y run g1 g2 sets set r h i z w c =
    let i' : ℕ = c.0 - from in
    let at : from + i' ≡ c.0 = let m = c.1 in omega (arith, m) in
    let l : i' < length run = let m = c.1 in let n = c.2 in omega (arith, m, n, r.count) in
    let is : get_or run i' 0 ≡ (diagram_at ds c.0).1 = r.items i' l ∙ ap (λ (j : ℕ). (diagram_at ds j).1) at in
    let has : Has st (diagram_at ds c.0).1 z = has_on a st (diagram_at ds c.0).1 z g1 (set_here a ds c.0 sets (let n = c.2 in omega (arith, n, r.within))).id c.4 in
    (sym c.3 ∙ r.one c.0 c.1 c.2 ∙ sym set, ap has_some_out (h.leaf z w.0) ∙ some_in st run 0 (length run) i' z (omega arith) (omega (arith, l)) (subst (λ (f : ℕ). Has st f z) (sym is) has))

-- one run more
pub put_run : (a st mid new : StoreState) (ds : List (ℕ × ℕ)) (from to s y : ℕ) (run : List ℕ) (old before back next all more : List (ℕ × ℕ)) → Grows a st → Grows st mid → HaveSets a ds → s ≡ (diagram_at ds from).0 → IsRunOfSet ds from to run → HasLeaves mid y (λ pk. unions st run 0 (length run) pk) →
    IsGained a (StandsBetween a ds 0 from) old before st back next → IsGained mid (λ i z. (i ≡ s) × (is_in mid y z ≡ true)) back next new all more → IsGained a (StandsBetween a ds 0 to) old before new all more
put_run a st mid new ds from to s y run old before back next all more g1 g2 sets set r h was one =
    gained_then a st new (StandsBetween a ds 0 from) (StandsBetween a ds from to) (StandsBetween a ds 0 to) old before back next all more g1 was
    (gained_before st mid new (λ i z. (i ≡ s) × (is_in mid y z ≡ true)) (StandsBetween a ds from to) back next all more g2 was.packets was.once was.next_packets was.next_once one
    (run_between a st mid ds from to s y run g1 g2 sets set r h) (between_run a st mid ds from to s y run g1 g2 sets set r h))
    (λ i z w c. elim (leb_tells from c.0) [
      | inl up ↦ inr (c.0, up.1, c.2, c.3, c.4)
      | inr down ↦ inl (c.0, omega arith, down.1, c.3, c.4)
    ])
    (λ i z w c. (c.0, omega arith, let m = c.2 in omega (arith, m, r.later), c.3, c.4))
    (λ i z w c. (c.0, omega arith, c.2, c.3, c.4))

-- all runs
pub put_whole : (a new : StoreState) (ds : List (ℕ × ℕ)) (to : ℕ) (old before all more : List (ℕ × ℕ)) → to ≡ length ds → IsGained a (StandsBetween a ds 0 to) old before new all more → IsGained a (Under a ds) old before new all more
put_whole a new ds to old before all more is m = gained_as a new (StandsBetween a ds 0 to) (Under a ds) old before all more m (λ i z w s. between_under a ds to i z is s) (λ i z w u. under_between a ds to i z is u)

-- what was found, in another order, is what came
pub found_gained : (a st new : StoreState) (Comes : ℕ → List ℕ → Type 0) (found ordered back before all next : List (ℕ × ℕ)) → Grows a st → HaveSets a back → Once back → HaveSets a before → Once before → AreFound a Comes [] st found → IsPermutation found ordered →
    IsGained st (Under st ordered) back before new all next → IsGained a Comes back before new all next
found_gained a st new Comes found ordered back before all next g sets once before_sets before_once f moved m =
    gained_before a st new (Under st ordered) Comes back before all next g sets once before_sets before_once m
    (λ i z w u. elim (f.from i z w (under_moved st ordered found i z (IsPermutation-sym found ordered moved) u)) [ inl none ↦ absurd none | inr c ↦ c ])
    (λ i z w c. under_moved st found ordered i z moved (f.every i z w c))
