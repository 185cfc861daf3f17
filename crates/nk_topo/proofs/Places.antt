-- Places in ascending lists: how many elements come before a number or a port, and where a number stands.
use Rattle.std.proofs.Common.{◌≡◌, ◌≢◌, ℕ, zero, suc, ◌+◌, ◌<◌, ◌≤◌, ◌⊎◌, inl, inr, ⊎_elim, Bool, true, false, not, cond, List, [], ◌∷◌, length, get_or, refl, ap, sym, subst, arith, None, Some}
use Rattle.std.specs.Prelude.{◌==◌, nat_lt, IsTrue, map, position, AllPairs}
use Rattle.std.specs.List.{prefix_len, position_or_len}
use Rattle.std.specs.List.Sorted.{IsPartitionPoint, IsPartitionedBy}
use Rattle.std.proofs.lemmas.List.{get_or-map, length-map}
use Rattle.std.proofs.lemmas.List.Sums.{prefix_len_is, prefix_len_passes, prefix_len_stops}
use Rattle.std.proofs.lemmas.Bool.Decides.{nat_tests, leb_tells}
use Rattle.nk_topo.specs.Topology.{Link, starts_below}

-- a place with what passes before it and what fails from it on is how many pass from the front
pub prefix_of_point : {X : Type 0} (p : X → Bool) (xs : List X) (i : ℕ) (d : X) → i ≤ length xs →
    IsPartitionPoint (λ x. p x ≡ true) (λ x. p x ≡ false) xs i → i ≡ prefix_len p xs
prefix_of_point p xs i d le h =
    sym (prefix_len_is p xs i d le (λ k lt. h.0 k d (omega arith) lt) (λ lt. h.1 i d (omega arith) lt))

-- as many images pass from the front as elements whose images pass
pub prefix_len-map : {X Y : Type 0} (f : X → Y) (p : Y → Bool) (xs : List X) →
    prefix_len p (map f xs) ≡ prefix_len (λ x. p (f x)) xs
prefix_len-map f p [] = refl
prefix_len-map f p (x ∷ xs) = ap (λ n. cond (p (f x)) (1 + n) 0) (prefix_len-map f p xs)

-- the one place or a lower one
equal_or_less : (a b : ℕ) → a ≤ b → (a ≡ b) ⊎ (a < b)
equal_or_less zero zero le = inl refl
equal_or_less zero (suc b) le = inr (omega arith)
equal_or_less (suc a) zero le = absurd (omega (arith, le))
equal_or_less (suc a) (suc b) le =
    let less : a ≤ b = omega (arith, le) in
    ⊎_elim (λ e. inl (ap suc e)) (λ m. inr (omega (arith, m))) (equal_or_less a b less)

-- where each element passes whenever a later one does, those that pass stand in front
parted : {X : Type 0} (p : X → Bool) (R : X → X → Type 0) → ((x y : X) → R x y → p y ≡ true → p x ≡ true) →
    (xs : List X) → AllPairs R xs → IsPartitionedBy p xs
parted p R step xs up i j d le lt passes =
    ⊎_elim
    (λ e. subst (λ k. p (get_or xs k d) ≡ true) (sym e) passes)
    (λ less. step (get_or xs i d) (get_or xs j d) (up i j d less lt) passes)
    (equal_or_less i j le)

-- a number below one that is below n is below n
below_number : (n p q : ℕ) → p < q → nat_lt q n ≡ true → nat_lt p n ≡ true
below_number n p q less below = grind (arith, nat_tests)

-- the numbers below n stand before the others
pub numbers_parted : (xs : List ℕ) (n : ℕ) → AllPairs (λ p q. p < q) xs → IsPartitionedBy (λ m. nat_lt m n) xs
numbers_parted xs n up = parted (λ m. nat_lt m n) (λ p q. p < q) (below_number n) xs up

-- a link that begins below one that begins below a port begins below it
below_port : (sw pt : ℕ) (k l : Link) → IsTrue (starts_below l.from_switch l.from_port k) →
    starts_below sw pt l ≡ true → starts_below sw pt k ≡ true
below_port sw pt k l first second = grind (arith, nat_tests)

-- the links that begin below a port stand before the others
pub links_parted : (ls : List Link) (sw pt : ℕ) →
    AllPairs (λ k l. IsTrue (starts_below l.from_switch l.from_port k)) ls → IsPartitionedBy (starts_below sw pt) ls
links_parted ls sw pt up =
    parted (starts_below sw pt) (λ k l. IsTrue (starts_below l.from_switch l.from_port k)) (below_port sw pt) ls up

-- and so do elements whose images do
pub partition_from_images : {X Y : Type 0} (f : X → Y) (p : Y → Bool) (xs : List X) →
    IsPartitionedBy p (map f xs) → IsPartitionedBy (λ x. p (f x)) xs
partition_from_images f p xs h i j d le lt passes =
    let within : i < length xs = omega arith in
    let bound : j < length (map f xs) = simp length-map lt in
    let image_i = get_or-map f xs i d (f d) within in
    let image_j = get_or-map f xs j d (f d) lt in
    subst (λ y. p y ≡ true) image_i (h i j (f d) le bound (subst (λ y. p y ≡ true) (sym image_j) passes))

-- a number found at its place among ascending ones
pub position_found : (xs : List ℕ) (n i : ℕ) → AllPairs (λ p q. p < q) xs → i ≡ prefix_len (λ m. nat_lt m n) xs →
    i < length xs → get_or xs i 0 ≡ n → position (λ m. m == n) xs ≡ Some i
position_found xs n i up e lt at =
    let first : position_or_len (λ m. m == n) xs ≡ i =
    prefix_len_is (λ m. not (m == n)) xs i 0 (omega arith)
    (λ k less. let r = up k i 0 less lt in grind (arith, nat_tests, r, at))
    (λ _. grind (arith, nat_tests, at)) in
    rw first (grind (arith, nat_tests))

-- no number from the place on is n, where the one at the place isn't
not_from : (xs : List ℕ) (n i k : ℕ) → AllPairs (λ p q. p < q) xs → i ≡ prefix_len (λ m. nat_lt m n) xs →
    (i < length xs → get_or xs i 0 ≢ n) → i ≤ k → k < length xs → not (get_or xs k 0 == n) ≡ true
not_from xs n i k up e other le lt =
    let within : prefix_len (λ m. nat_lt m n) xs < length xs = omega arith in
    let stop : nat_lt (get_or xs i 0) n ≡ false =
    subst (λ j. nat_lt (get_or xs j 0) n ≡ false) (sym e) (prefix_len_stops (λ m. nat_lt m n) xs 0 within) in
    let differs = other (omega arith) in
    ⊎_elim
    (λ same. subst (λ j. not (get_or xs j 0 == n) ≡ true) same (grind (arith, nat_tests, stop, differs)))
    (λ less. let r = up i k 0 less lt in grind (arith, nat_tests, stop, differs, r))
    (equal_or_less i k le)

-- a number that isn't at its place is nowhere
pub position_missed : (xs : List ℕ) (n i : ℕ) → AllPairs (λ p q. p < q) xs → i ≡ prefix_len (λ m. nat_lt m n) xs →
    (i < length xs → get_or xs i 0 ≢ n) → position (λ m. m == n) xs ≡ None
position_missed xs n i up e other =
    let none : position_or_len (λ m. m == n) xs ≡ length xs =
    prefix_len_is (λ m. not (m == n)) xs (length xs) 0 (omega arith)
    (λ k less.
    ⊎_elim
    (λ from. not_from xs n i k up e other from.1 less)
    (λ front.
    let within : k < prefix_len (λ m. nat_lt m n) xs = omega (arith, front.1) in
    let below = prefix_len_passes (λ m. nat_lt m n) xs k 0 within in
    grind (arith, nat_tests, below))
    (leb_tells i k))
    (λ more. absurd (omega (arith, more))) in
    rw none (grind (arith, nat_tests))
