-- How many pass a test, and how that changes.
use Rattle.std.proofs.Common.{◌≡◌, ◌≢◌, ℕ, zero, suc, ◌+◌, ◌<◌, ◌≤◌, ◌&&◌, ◌||◌, Bool, true, false, true≢false, cond, inl, inr, ⊎_elim, List, [], ◌∷◌, ◌++◌, length, refl, sym, ap, subst, ◌∙◌, arith, length-append, length-set, get_or-set_same, get_or-set_other}
use Rattle.std.specs.Prelude.{◌==◌, nat_le, not, if◌then◌else◌, map, filter, remove, slice_get, slice_index, slice_set, Some, Contains, All, AllPairs, replicate}
use Rattle.std.specs.List.{list_all, list_any}
use Rattle.std.proofs.lemmas.List.{length-replicate}
use Rattle.std.proofs.lemmas.List.Elements.{All-replicate, All-set, filter-append}
use Rattle.nk_field.specs.Lists.{IsWithoutDoubles}
use Rattle.nk_field.proofs.Lists.{In, from_mapped, in_from_contains, contains_from_in}
use Rattle.nk_topo.specs.Topology.{SwitchPorts}
use Rattle.nk_topo.proofs.Members.{InOrder, order_from_pairs}
use Rattle.nk_update.proofs.Lookup.{true_or_false, le_true, le_false, eq_true, eq_false, true_eq, false_eq}
use Rattle.nk_flight.specs.Progresses.{how_many, have_done, IsProgress}
use Rattle.nk_flight.specs.Updates.{done_by, one_more_event}

-- one, or none
abbrev pub one_if : Bool → ℕ
one_if b = if b then 1 else 0

-- no more pass than there are
pub many_most : {X : Type 0} (test : X → Bool) (xs : List X) → how_many test xs ≤ length xs
many_most test [] = omega arith
many_most test (x ∷ xs) = by (test x) (many_most test xs)
  where
    by : (b : Bool) → how_many test xs ≤ length xs → length (cond b (x ∷ filter test xs) (filter test xs)) ≤ length (x ∷ xs)
    by true r = omega (arith, r)
    by false r = omega (arith, r)

-- numbers that go on by one are the same where the others are
next_test : (a b : ℕ) → (suc a == suc b) ≡ (a == b)
next_test a b =
    ⊎_elim
    (λ e. let same : suc a ≡ suc b = omega (arith, true_eq a b e) in eq_true (suc a) (suc b) same ∙ sym e)
    (λ e. let ne = false_eq a b e in let other : suc a ≢ suc b = λ f. ne (omega (arith, f)) in eq_false (suc a) (suc b) other ∙ sym e)
    (true_or_false (a == b))

-- all pass where as many pass as there are
pub all_counted : {X : Type 0} (test : X → Bool) (xs : List X) → (how_many test xs == length xs) ≡ list_all test xs
all_counted test [] = refl
all_counted test (x ∷ xs) = by (test x) (all_counted test xs) (many_most test xs)
  where
    by : (b : Bool) → (how_many test xs == length xs) ≡ list_all test xs → how_many test xs ≤ length xs
        → (length (cond b (x ∷ filter test xs) (filter test xs)) == suc (length xs)) ≡ (b && list_all test xs)
    by true r m = next_test (how_many test xs) (length xs) ∙ r
    by false r m = let other : how_many test xs ≢ suc (length xs) = λ q. omega (arith, q, m) in eq_false (how_many test xs) (suc (length xs)) other

-- none passes where the count is 0
pub none_counted : {X : Type 0} (test : X → Bool) (xs : List X) → (how_many test xs == 0) ≡ list_all (λ x. not (test x)) xs
none_counted test [] = refl
none_counted test (x ∷ xs) = by (test x) (none_counted test xs)
  where
    by : (b : Bool) → (how_many test xs == 0) ≡ list_all (λ y. not (test y)) xs
        → (length (cond b (x ∷ filter test xs) (filter test xs)) == 0) ≡ (not b && list_all (λ y. not (test y)) xs)
    by true r = let other : suc (how_many test xs) ≢ 0 = λ q. omega (arith, q) in eq_false (suc (how_many test xs)) 0 other
    by false r = r

-- one element
many_one : {X : Type 0} (test : X → Bool) (x : X) (b : Bool) → length (cond b (x ∷ []) []) ≡ one_if b
many_one test x true = refl
many_one test x false = refl

-- one more at the end
pub many_push : {X : Type 0} (test : X → Bool) (xs : List X) (x : X) → how_many test (xs ++ x ∷ []) ≡ how_many test xs + one_if (test x)
many_push test xs x =
    ap length (filter-append test xs (x ∷ []))
    ∙ length-append (filter test xs) (filter test (x ∷ []))
    ∙ ap (λ n. how_many test xs + n) (many_one test x (test x))

-- of two lists
pub many_joined : {X : Type 0} (test : X → Bool) (xs ys : List X) → how_many test (xs ++ ys) ≡ how_many test xs + how_many test ys
many_joined test xs ys = ap length (filter-append test xs ys) ∙ length-append (filter test xs) (filter test ys)

-- of images
pub many_mapped : {X Y : Type 0} (test : Y → Bool) (f : X → Y) (xs : List X) → how_many test (map f xs) ≡ how_many (λ x. test (f x)) xs
many_mapped test f [] = refl
many_mapped test f (x ∷ xs) = by (test (f x)) (many_mapped test f xs)
  where
    by : (b : Bool) → how_many test (map f xs) ≡ how_many (λ y. test (f y)) xs
        → length (cond b (f x ∷ filter test (map f xs)) (filter test (map f xs))) ≡ length (cond b (x ∷ filter (λ y. test (f y)) xs) (filter (λ y. test (f y)) xs))
    by true r = ap suc r
    by false r = r

-- with one taken out
pub many_removed : {X : Type 0} (test : X → Bool) (xs : List X) (i : ℕ) (x : X) → slice_get xs i ≡ Some x
    → how_many test (remove xs i) + one_if (test x) ≡ how_many test xs
many_removed test [] i x e = absurd (gone e)
  where
    gone : slice_get [] i ≡ Some x → ⊥
    gone q = cc
many_removed test (y ∷ ys) zero x e = by (test x) ∙ ap (λ z. how_many test (z ∷ ys)) (sym (same_one e))
  where
    same_one : Some y ≡ Some x → y ≡ x
    same_one q = cc

    by : (b : Bool) → how_many test ys + one_if b ≡ length (cond b (x ∷ filter test ys) (filter test ys))
    by true = omega arith
    by false = omega arith
many_removed test (y ∷ ys) (suc i) x e = by (test y) (many_removed test ys i x e)
  where
    by : (b : Bool) → how_many test (remove ys i) + one_if (test x) ≡ how_many test ys
        → length (cond b (y ∷ filter test (remove ys i)) (filter test (remove ys i))) + one_if (test x) ≡ length (cond b (y ∷ filter test ys) (filter test ys))
    by true r = omega (arith, r)
    by false r = r

-- tests that agree count the same
many_same : {X : Type 0} (p q : X → Bool) (xs : List X) → ((x : X) → In xs x → p x ≡ q x) → how_many p xs ≡ how_many q xs
many_same p q [] h = refl
many_same p q (x ∷ xs) h = ap (λ b. length (cond b (x ∷ filter p xs) (filter p xs))) (h x (inl refl)) ∙ by (q x) (many_same p q xs (λ y i. h y (inr i)))
  where
    by : (b : Bool) → how_many p xs ≡ how_many q xs → length (cond b (x ∷ filter p xs) (filter p xs)) ≡ length (cond b (x ∷ filter q xs) (filter q xs))
    by true r = ap suc r
    by false r = r

-- two tests that differ at one element at most, which stands once
one_changed : (p q : ℕ → Bool) (sw : ℕ) → ((n : ℕ) → n ≢ sw → q n ≡ p n) → (ns : List ℕ) → IsWithoutDoubles ns → In ns sw
    → how_many q ns + one_if (p sw) ≡ how_many p ns + one_if (q sw)
one_changed p q sw others [] d i = absurd i
one_changed p q sw others (n ∷ ns) d i =
    ⊎_elim
    (λ e.
    let same : n ≡ sw = true_eq n sw e in
    let rest : how_many q ns ≡ how_many p ns = many_same q p ns (λ m j. others m (λ r. d.0 (contained m (r ∙ sym same) j))) in
    subst (λ m. length (cond (q m) (n ∷ filter q ns) (filter q ns)) + one_if (p sw) ≡ length (cond (p m) (n ∷ filter p ns) (filter p ns)) + one_if (q sw)) (sym same)
    (here (q sw) (p sw) rest))
    (λ e.
    let other = false_eq n sw e in
    let there : In ns sw = ⊎_elim (λ s. absurd (other (sym s))) (λ j. j) i in
    ap (λ b. length (cond b (n ∷ filter q ns) (filter q ns)) + one_if (p sw)) (others n other)
    ∙ later (p n) (one_changed p q sw others ns d.1 there))
    (true_or_false (n == sw))
  where
    contained : (m : ℕ) → m ≡ n → In ns m → Contains ns n
    contained m e j = subst (Contains ns) e (contains_from_in ns m j)

    here : (b c : Bool) → how_many q ns ≡ how_many p ns
        → length (cond b (n ∷ filter q ns) (filter q ns)) + one_if c ≡ length (cond c (n ∷ filter p ns) (filter p ns)) + one_if b
    here true true r = omega (arith, r)
    here true false r = omega (arith, r)
    here false true r = omega (arith, r)
    here false false r = omega (arith, r)

    later : (b : Bool) → how_many q ns + one_if (p sw) ≡ how_many p ns + one_if (q sw)
        → length (cond b (n ∷ filter q ns) (filter q ns)) + one_if (p sw) ≡ length (cond b (n ∷ filter p ns) (filter p ns)) + one_if (q sw)
    later true r = omega (arith, r)
    later false r = r

-- one step more passes a limit where it is the step of that limit
passes_one : (s : ℕ) → one_if (nat_le 1 (s + 1)) ≡ one_if (nat_le 1 s) + one_if (s == 0)
passes_one zero = refl
passes_one (suc s) =
    let a : 1 ≤ suc s + 1 = omega arith in
    let b : 1 ≤ suc s = omega arith in
    let c : suc s ≢ 0 = λ q. omega (arith, q) in
    ap one_if (le_true 1 (suc s + 1) a) ∙ sym (λ i. one_if (le_true 1 (suc s) b i) + one_if (eq_false (suc s) 0 c i))

passes_two : (s : ℕ) → one_if (nat_le 2 (s + 1)) ≡ one_if (nat_le 2 s) + one_if (s == 1)
passes_two zero = refl
passes_two (suc zero) = refl
passes_two (suc (suc s)) =
    let a : 2 ≤ suc (suc s) + 1 = omega arith in
    let b : 2 ≤ suc (suc s) = omega arith in
    let c : suc (suc s) ≢ 1 = λ q. omega (arith, q) in
    ap one_if (le_true 2 (suc (suc s) + 1) a) ∙ sym (λ i. one_if (le_true 2 (suc (suc s)) b i) + one_if (eq_false (suc (suc s)) 1 c i))

module _ (counts ns : List ℕ) (sw : ℕ) (room : length counts ≡ 65536) (small : sw < 65536) (distinct : IsWithoutDoubles ns) (there : Contains ns sw) where
  abbrev then_counts : List ℕ
  then_counts = slice_set counts sw (slice_index counts sw + 1)

  within : sw < length counts
  within = omega (arith, room, small)

  pub counted_here : done_by then_counts sw ≡ slice_index counts sw + 1
  counted_here = get_or-set_same counts sw (slice_index counts sw + 1) 0 within

  pub counted_elsewhere : (n : ℕ) → n ≢ sw → done_by then_counts n ≡ done_by counts n
  counted_elsewhere n ne = get_or-set_other counts sw n (slice_index counts sw + 1) 0 ne

  changed : (k : ℕ) → have_done k (done_by then_counts) ns + one_if (nat_le k (slice_index counts sw)) ≡ have_done k (done_by counts) ns + one_if (nat_le k (slice_index counts sw + 1))
  changed k =
      one_changed (λ n. nat_le k (done_by counts n)) (λ n. nat_le k (done_by then_counts n)) sw (λ n ne. ap (nat_le k) (counted_elsewhere n ne)) ns distinct (in_from_contains ns sw there)
      ∙ ap (λ d. have_done k (done_by counts) ns + one_if (nat_le k d)) counted_here

  -- how many have done one step, and two
  pub once_then : have_done 1 (done_by counts) ns + one_if (slice_index counts sw == 0) ≡ have_done 1 (done_by then_counts) ns
  once_then = omega (arith, changed 1, passes_one (slice_index counts sw))

  pub twice_then : have_done 2 (done_by counts) ns + one_if (slice_index counts sw == 1) ≡ have_done 2 (done_by then_counts) ns
  twice_then = omega (arith, changed 2, passes_two (slice_index counts sw))

  pub once_few : (once s most : ℕ) → once ≡ have_done 1 (done_by counts) ns → s ≡ slice_index counts sw → length ns ≤ most → once + one_if (s == 0) ≤ most
  once_few once s most a e l =
      let now : have_done 1 (done_by then_counts) ns ≤ length ns = many_most (λ n. nat_le 1 (done_by then_counts n)) ns in
      subst (λ d. once + one_if (d == 0) ≤ most) (sym e) (omega (arith, a, once_then, now, l))

  pub twice_few : (twice s most : ℕ) → twice ≡ have_done 2 (done_by counts) ns → s ≡ slice_index counts sw → length ns ≤ most → twice + one_if (s == 1) ≤ most
  twice_few twice s most a e l =
      let now : have_done 2 (done_by then_counts) ns ≤ length ns = many_most (λ n. nat_le 2 (done_by then_counts n)) ns in
      subst (λ d. twice + one_if (d == 1) ≤ most) (sym e) (omega (arith, a, twice_then, now, l))

  -- one step more of a switch
  pub progress_then : (once twice s ones twos : ℕ) → All (λ d. d ≤ 3) counts → s < 3 → once ≡ have_done 1 (done_by counts) ns → twice ≡ have_done 2 (done_by counts) ns
      → s ≡ slice_index counts sw → ones ≡ once + one_if (s == 0) → twos ≡ twice + one_if (s == 1) → IsProgress ns (slice_set counts sw (s + 1)) ones twos
  progress_then once twice s ones twos m less a b e f g =
      subst (λ d. IsProgress ns (slice_set counts sw (d + 1)) ones twos) (sym e)
      record {
        distinct = distinct;
        room = length-set counts sw (slice_index counts sw + 1) ∙ room;
        most =
            let few : slice_index counts sw + 1 ≤ 3 = omega (arith, less, e) in
            All-set (λ d. d ≤ 3) counts sw (slice_index counts sw + 1) few m;
        ones = f ∙ (λ j. a j + one_if (e j == 0)) ∙ once_then;
        twos = g ∙ (λ j. b j + one_if (e j == 1)) ∙ twice_then;
      }

  -- by number
  pub one_more_then : (s : ℕ) → s ≡ slice_index counts sw → (n : ℕ) → done_by (slice_set counts sw (s + 1)) n ≡ one_more_event sw (done_by counts) n
  one_more_then s e n = ap (λ d. done_by (slice_set counts sw (d + 1)) n) e ∙ by (n == sw) refl
    where
      by : (b : Bool) → n == sw ≡ b → done_by then_counts n ≡ (if b then done_by counts n + 1 else done_by counts n)
      by true q = let same = true_eq n sw q in ap (done_by then_counts) same ∙ counted_here ∙ ap (λ m. slice_index counts m + 1) (sym same)
      by false q = counted_elsewhere n (false_eq n sw q)

-- a declared switch is one of the topology's numbers
pub among_numbers : (ss : List SwitchPorts) (sw : ℕ) → list_any (λ s. s.switch == sw) ss ≡ true → Contains (map (λ s. s.switch) ss) sw
among_numbers ss sw e = contains_from_in (map (λ s. s.switch) ss) sw (by ss e)
  where
    by : (us : List SwitchPorts) → list_any (λ s. s.switch == sw) us ≡ true → In (map (λ s. s.switch) us) sw
    by [] q = absurd (true≢false (sym q))
    by (u ∷ us) q = at (u.switch == sw) refl q (by us)
      where
        at : (b : Bool) → u.switch == sw ≡ b → (b || list_any (λ s. s.switch == sw) us) ≡ true → (list_any (λ s. s.switch == sw) us ≡ true → In (map (λ s. s.switch) us) sw)
            → In (map (λ s. s.switch) (u ∷ us)) sw
        at true f r later = inl (sym (true_eq u.switch sw f))
        at false f r later = inr (later r)

-- no switch of a topology stands twice
pub numbers_distinct : (ss : List SwitchPorts) → AllPairs (λ r s. r.switch < s.switch) ss → IsWithoutDoubles (map (λ s. s.switch) ss)
numbers_distinct ss h = by ss (order_from_pairs (λ (r : SwitchPorts) s. r.switch < s.switch) ss h)
  where
    by : (us : List SwitchPorts) → InOrder (λ (r : SwitchPorts) s. r.switch < s.switch) us → IsWithoutDoubles (map (λ s. s.switch) us)
    by [] o = tt
    by (u ∷ us) o = (
      λ c.
          let m = from_mapped (λ (s : SwitchPorts). s.switch) us u.switch (in_from_contains (map (λ (s : SwitchPorts). s.switch) us) u.switch c) in
          let lt = o.0 m.0 m.1 in
          let same : u.switch ≡ m.0.switch = m.2 in
          omega (arith, lt, same),
      by us o.1,
    )

-- none is counted where none passes
many_none : {X : Type 0} (test : X → Bool) (xs : List X) → ((x : X) → test x ≡ false) → how_many test xs ≡ 0
many_none test [] h = refl
many_none test (x ∷ xs) h = ap (λ b. length (cond b (x ∷ filter test xs) (filter test xs))) (h x) ∙ many_none test xs h

-- where no step is done
pub none_at : (n i : ℕ) → slice_index (replicate n 0) i ≡ 0
none_at zero i = refl
none_at (suc n) zero = refl
none_at (suc n) (suc i) = none_at n i

pub none_done : (n k : ℕ) (ns : List ℕ) → have_done (suc k) (done_by (replicate n 0)) ns ≡ 0
none_done n k ns = many_none (λ sw. nat_le (suc k) (done_by (replicate n 0) sw)) ns (λ sw. ap (nat_le (suc k)) (none_at n sw) ∙ le_false (suc k) 0 (omega arith))

pub fresh_progress : (n : ℕ) (ss : List SwitchPorts) (switches counts : List ℕ) → n ≡ 65536 → AllPairs (λ r s. r.switch < s.switch) ss
    → switches ≡ map (λ s. s.switch) ss → counts ≡ replicate n 0 → IsProgress switches counts 0 0
fresh_progress n ss switches counts many order e f = record {
  distinct = subst IsWithoutDoubles (sym e) (numbers_distinct ss order);
  room = ap length f ∙ length-replicate n 0 ∙ many;
  most = subst (All (λ d. d ≤ 3)) (sym f) (All-replicate (λ d. d ≤ 3) n 0 (omega arith));
  ones = sym (ap (λ l. have_done 1 (done_by l) switches) f ∙ none_done n 0 switches);
  twos = sym (ap (λ l. have_done 2 (done_by l) switches) f ∙ none_done n 1 switches);
}
