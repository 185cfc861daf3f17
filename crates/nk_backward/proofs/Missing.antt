-- How many packets, of those in range, are not under the sets of the transitions: a number that falls with each pass.
use Rattle.std.proofs.Common.{◌≡◌, ℕ, zero, suc, ◌<◌, ◌≤◌, ◌+◌, ◌⊎◌, ◌||◌, Bool, true, false, inl, inr, refl, sym, ◌∙◌, ap, subst, arith, List, [], ◌∷◌, ◌++◌, length, get_or, cond, eqb}
use Rattle.std.proofs.lemmas.Bool.Decides.{eqb_tells}
use Rattle.nk_store.specs.StoreState.{StoreState, IsStorePacket}
use Rattle.nk_store.specs.Nodes.{InRange}
use Rattle.nk_apply.proofs.Members.{Has as Among}
use Rattle.nk_sets.specs.PacketSets.{is_in}
use Rattle.nk_determ.specs.Pairs.{Under}
use Rattle.nk_goal.proofs.Everything.{before, spread, up_to, packets_from, among_packets}
use Rattle.nk_backward.specs.declared.transitions.Transitions.{Transitions}
use Rattle.nk_backward.specs.Transitions.{transitions_at}
use Rattle.nk_backward.specs.Closures.{IsLedInto, IsGained}

-- whether the packet stands under the set
abbrev pub is_under : StoreState → List (ℕ × ℕ) → ℕ → List ℕ → Bool
is_under st [] i z = false
is_under st (p ∷ ps) i z = cond (eqb p.0 i) (is_in st p.1 z || is_under st ps i z) (is_under st ps i z)

-- one of two tests
either : (a b : Bool) → a ≡ true → (a || b) ≡ true
either true b e = refl
either false b e = absurd cc

-- the other of two tests
other_one : (a b : Bool) → b ≡ true → (a || b) ≡ true
other_one true b e = refl
other_one false b e = e

-- a packet under the set passes the test
pub under_passes : (st : StoreState) (ps : List (ℕ × ℕ)) (i : ℕ) (z : List ℕ) → Under st ps i z → is_under st ps i z ≡ true
under_passes st [] i z u = absurd u
under_passes st (p ∷ ps) i z u = elim (eqb_tells p.0 i) [
  | inl same ↦ ap (λ b. cond b (is_in st p.1 z || is_under st ps i z) (is_under st ps i z)) same.0 ∙ elim u [
    | inl here ↦ either (is_in st p.1 z) (is_under st ps i z) here.1
    | inr later ↦ other_one (is_in st p.1 z) (is_under st ps i z) (under_passes st ps i z later)
  ]
  | inr other ↦ ap (λ b. cond b (is_in st p.1 z || is_under st ps i z) (is_under st ps i z)) other.0 ∙ elim u [
    | inl here ↦ absurd (other.1 here.0)
    | inr later ↦ under_passes st ps i z later
  ]
]

-- a packet that passes the test stands under the set
pub passes_under : (st : StoreState) (ps : List (ℕ × ℕ)) (i : ℕ) (z : List ℕ) → is_under st ps i z ≡ true → Under st ps i z
passes_under st [] i z e = absurd cc
passes_under st (p ∷ ps) i z e = elim (eqb_tells p.0 i) [
  | inl same ↦
      let q : (is_in st p.1 z || is_under st ps i z) ≡ true = sym (ap (λ b. cond b (is_in st p.1 z || is_under st ps i z) (is_under st ps i z)) same.0) ∙ e in
      by same.1 (is_in st p.1 z) refl q (λ e. passes_under st ps i z e)
  | inr other ↦ inr (passes_under st ps i z (sym (ap (λ b. cond b (is_in st p.1 z || is_under st ps i z) (is_under st ps i z)) other.0) ∙ e))
]
  where
    by : p.0 ≡ i → (b : Bool) → is_in st p.1 z ≡ b → (b || is_under st ps i z) ≡ true → (is_under st ps i z ≡ true → Under st ps i z) → Under st (p ∷ ps) i z
    by s true h q rest = inl (s, h)
    by s false h q rest = inr (rest q)

-- how many of the packets are not under the set
abbrev pub missing_at : StoreState → List (ℕ × ℕ) → ℕ → List (List ℕ) → ℕ
missing_at st ps i [] = 0
missing_at st ps i (z ∷ zs) = cond (is_under st ps i z) 0 1 + missing_at st ps i zs

-- how many of the packets are not under the set of each transition, in all
abbrev pub missing_in : StoreState → List (ℕ × ℕ) → List Transitions → List (List ℕ) → ℕ
missing_in st ps [] zs = 0
missing_in st ps (t ∷ ts) zs = missing_at st ps t.source zs + missing_in st ps ts zs

-- all packets in range
pub all_packets : List ℕ → List (List ℕ)
all_packets maxes = packets_from maxes 0 18

-- how many of all packets are not under the sets of the transitions
pub missing : List ℕ → StoreState → List (ℕ × ℕ) → List Transitions → ℕ
missing maxes st ps ts = missing_in st ps ts (all_packets maxes)

-- a list that has a number before it
before_has : (v : ℕ) (ls : List (List ℕ)) (l : List ℕ) → Among (before v ls) l → (m : List ℕ) × (v ∷ m ≡ l) × Among ls m
before_has v [] l h = absurd h
before_has v (k ∷ ks) l h = elim h [
  | inl e ↦ (k, e, inl refl)
  | inr later ↦ let w = before_has v ks l later in (w.0, w.1, inr w.2)
]

-- an item of two lists together is one of either
among_append : (xs ys : List (List ℕ)) (a : List ℕ) → Among (xs ++ ys) a → Among xs a ⊎ Among ys a
among_append [] ys a m = inr m
among_append (x ∷ xs) ys a m = elim m [
  | inl e ↦ inl (inl e)
  | inr k ↦ elim (among_append xs ys a k) [ inl l ↦ inl (inr l) | inr r ↦ inr r ]
]

-- a list that has one of the numbers before it
spread_has : (vs : List ℕ) (ls : List (List ℕ)) (l : List ℕ) → Among (spread vs ls) l → (v : ℕ) × (m : List ℕ) × (v ∷ m ≡ l) × Among vs v × Among ls m
spread_has [] ls l h = absurd h
spread_has (w ∷ ws) ls l h = elim (among_append (before w ls) (spread ws ls) l h) [
  | inl here ↦ let r = before_has w ls l here in (w, r.0, r.1, inl refl, r.2)
  | inr later ↦ let r = spread_has ws ls l later in (r.0, r.1, r.2, inr r.3, r.4)
]

-- a number up to n
up_to_has : (n v : ℕ) → Among (up_to n) v → v ≤ n
up_to_has zero v m = elim m [ inl e ↦ omega (arith, e) | inr k ↦ absurd k ]
up_to_has (suc n) v m = elim m [ inl e ↦ omega (arith, e) | inr k ↦ omega (arith, up_to_has n v k) ]

-- the values of a list of so many values in range, from the field k on
values_in_range : (maxes : List ℕ) (c k : ℕ) (pk : List ℕ) → Among (packets_from maxes k c) pk → (length pk ≡ c) × ((j : ℕ) → get_or pk j 0 ≤ get_or maxes (k + j) 0)
values_in_range maxes zero k pk m = elim m [
  | inl e ↦ subst (λ (l : List ℕ). (length l ≡ 0) × ((j : ℕ) → get_or l j 0 ≤ get_or maxes (k + j) 0)) e (refl, λ j. omega arith)
  | inr n ↦ absurd n
]
values_in_range maxes (suc c) k pk m =
    let s = spread_has (up_to (get_or maxes k 0)) (packets_from maxes (suc k) c) pk m in
    let rest = values_in_range maxes c (suc k) s.1 s.4 in
    subst (λ (l : List ℕ). (length l ≡ suc c) × ((j : ℕ) → get_or l j 0 ≤ get_or maxes (k + j) 0)) s.2
    (omega (arith, rest.0), bound s.0 s.1 (up_to_has (get_or maxes k 0) s.0 s.3) rest.1)
  where
    bound : (v : ℕ) (l : List ℕ) → v ≤ get_or maxes k 0 → ((j : ℕ) → get_or l j 0 ≤ get_or maxes (suc k + j) 0) → (j : ℕ) → get_or (v ∷ l) j 0 ≤ get_or maxes (k + j) 0
    bound v l first later zero = let z : k ≡ k + 0 = omega arith in subst (λ i. v ≤ get_or maxes i 0) z first
    bound v l first later (suc j) = let z : suc k + j ≡ k + suc j = omega arith in subst (λ i. get_or l j 0 ≤ get_or maxes i 0) z (later j)

-- each of all packets is in range
all_in_range : (st : StoreState) (maxes z : List ℕ) → maxes ≡ st.maxes → Among (all_packets maxes) z → IsStorePacket st z
unfolding all_packets
all_in_range st maxes z e m =
    let v = values_in_range maxes 18 0 z m in
    subst (λ (b : List ℕ). InRange b z) e (v.0, λ j. let q : 0 + j ≡ j = omega arith in subst (λ i. get_or z j 0 ≤ get_or maxes i 0) q (v.1 j))

-- each packet in range is one of them
in_range_all : (st : StoreState) (maxes z : List ℕ) → maxes ≡ st.maxes → IsStorePacket st z → Among (all_packets maxes) z
unfolding all_packets
in_range_all st maxes z e w =
    let r : InRange maxes z = subst (λ (b : List ℕ). InRange b z) (sym e) w in
    among_packets maxes 18 0 z r.0 (λ j. let q : j ≡ 0 + j = omega arith in subst (λ i. get_or z j 0 ≤ get_or maxes i 0) q (r.1 j))

-- what counts once that was counted before
step : (x y : Bool) → (x ≡ true → y ≡ true) → cond y 0 1 ≤ cond x 0 1
step true true f = omega arith
step true false f = let z : false ≡ true = f refl in absurd cc
step false true f = omega arith
step false false f = omega arith

-- what counts no more
less_step : (x y : Bool) → y ≡ true → (x ≡ true → ⊥) → cond y 0 1 < cond x 0 1
less_step true y e n = absurd (n refl)
less_step false true e n = omega arith
less_step false false e n = absurd cc

-- no more are missing
fewer_at : (a b : StoreState) (old new : List (ℕ × ℕ)) (i : ℕ) (zs : List (List ℕ)) → ((z : List ℕ) → Among zs z → is_under a old i z ≡ true → is_under b new i z ≡ true) → missing_at b new i zs ≤ missing_at a old i zs
fewer_at a b old new i [] f = omega arith
fewer_at a b old new i (z ∷ zs) f =
    let rest = fewer_at a b old new i zs (λ y m e. f y (inr m) e) in
    let one = step (is_under a old i z) (is_under b new i z) (f z (inl refl)) in
    omega (arith, rest, one)

-- fewer are missing where one came
less_at : (a b : StoreState) (old new : List (ℕ × ℕ)) (i : ℕ) (zs : List (List ℕ)) → ((z : List ℕ) → Among zs z → is_under a old i z ≡ true → is_under b new i z ≡ true) → (y : List ℕ) → Among zs y → is_under b new i y ≡ true → (is_under a old i y ≡ true → ⊥) → missing_at b new i zs < missing_at a old i zs
less_at a b old new i [] f y m e n = absurd m
less_at a b old new i (z ∷ zs) f y m e n = elim m [
  | inl same ↦
      let rest = fewer_at a b old new i zs (λ x k h. f x (inr k) h) in
      let one = less_step (is_under a old i z) (is_under b new i z) (subst (λ (x : List ℕ). is_under b new i x ≡ true) (sym same) e) (λ h. n (subst (λ (x : List ℕ). is_under a old i x ≡ true) same h)) in
      omega (arith, rest, one)
  | inr later ↦
      let rest = less_at a b old new i zs (λ x k h. f x (inr k) h) y later e n in
      let one = step (is_under a old i z) (is_under b new i z) (f z (inl refl)) in
      omega (arith, rest, one)
]

-- no more are missing of all transitions
fewer_in : (a b : StoreState) (old new : List (ℕ × ℕ)) (ts : List Transitions) (zs : List (List ℕ)) → ((i : ℕ) (z : List ℕ) → Among zs z → is_under a old i z ≡ true → is_under b new i z ≡ true) → missing_in b new ts zs ≤ missing_in a old ts zs
fewer_in a b old new [] zs f = omega arith
fewer_in a b old new (t ∷ ts) zs f = omega (arith, fewer_at a b old new t.source zs (f t.source), fewer_in a b old new ts zs f)

-- where one came under the set of one of them
less_in : (a b : StoreState) (old new : List (ℕ × ℕ)) (ts : List Transitions) (zs : List (List ℕ)) → ((i : ℕ) (z : List ℕ) → Among zs z → is_under a old i z ≡ true → is_under b new i z ≡ true) →
    (k : ℕ) (y : List ℕ) → k < length ts → Among zs y → is_under b new (transitions_at ts k).source y ≡ true → (is_under a old (transitions_at ts k).source y ≡ true → ⊥) → missing_in b new ts zs < missing_in a old ts zs
less_in a b old new [] zs f k y l m e n = absurd (omega (arith, l))
less_in a b old new (t ∷ ts) zs f zero y l m e n = omega (arith, less_at a b old new t.source zs (f t.source) y m e n, fewer_in a b old new ts zs f)
less_in a b old new (t ∷ ts) zs f (suc k) y l m e n =
    omega (arith, fewer_at a b old new t.source zs (f t.source), less_in a b old new ts zs f k y (omega (arith, l)) m e n)

-- a pass in which packets came leaves fewer missing
pub missing_falls : (maxes : List ℕ) (a b : StoreState) (ts : List Transitions) (frontier old all next : List (ℕ × ℕ)) → maxes ≡ a.maxes → IsGained a (IsLedInto a ts frontier) old [] b all next → (next ≡ [] → ⊥) → missing maxes b all ts < missing maxes a old ts
unfolding missing
missing_falls maxes a b ts frontier old all next e m more = elim m.some [
  | inl none ↦ absurd (more none)
  | inr f ↦
      let i : ℕ = f.0 in
      let y : List ℕ = f.1 in
      let came : IsLedInto a ts frontier i y = elim (m.from i y f.2 f.3) [ inl was ↦ absurd (f.4 was) | inr c ↦ c ] in
      let k : ℕ = came.2.0 in
      let source : i ≡ (transitions_at ts k).source = sym came.2.3 in
      less_in a b old all ts (all_packets maxes) (λ j z n h. under_passes b all j z (m.kept j z (all_in_range a maxes z e n) (passes_under a old j z h)))
      k y came.2.2 (in_range_all a maxes y e f.2) (under_passes b all (transitions_at ts k).source y (subst (λ j. Under b all j y) source f.3))
      (λ h. f.4 (subst (λ j. Under a old j y) (sym source) (passes_under a old (transitions_at ts k).source y h)))
]
