-- Virtual links by their ends, and the one that stands for a literal.
use Rattle.std.proofs.Common.{◌≡◌, ℕ, zero, suc, ◌+◌, ◌<◌, ◌≤◌, Bool, true, false, cond, ◌&&◌, ◌||◌, List, [], ◌∷◌, ◌++◌, length, get_or, take, None, Some, min, refl, sym, ap, subst, ◌∙◌, arith, ⊎_elim}
use Rattle.std.specs.Prelude.{◌==◌, not, nat_lt, map, position, AllPairs, if◌then◌else◌}
use Rattle.std.specs.List.{list_any, position_or_len}
use Rattle.std.proofs.lemmas.Bool.{cases_Bool}
use Rattle.std.proofs.lemmas.Bool.Decides.{nat_tests}
use Rattle.std.proofs.lemmas.List.{get_or-map, length-map, map-append}
use Rattle.std.proofs.lemmas.Grind.{take_at_read}
use Rattle.std.proofs.lemmas.List.Quantifiers.{position-Some}
use Rattle.std.proofs.lemmas.List.Sums.{fails_before_first}
use Rattle.indexmap.specs.IndexSet.{insert_key}
use Rattle.nk_topo.specs.Inside.{link_of}
use Rattle.nk_policy.specs.Policy.{link}
use Rattle.nk_names.specs.ProgramValue.{VirtualLink, HaveOneSource}
use Rattle.nk_virtual.specs.Physical.{has_ends, through_fabric, link_through}
use Rattle.nk_virtual.specs.Sizes.{size_within, fabric_size}
use Rattle.nk_virtual.proofs.Literals.{if_true, if_false, ends_are}

-- the test by four numbers in memory
abbrev pub same_ends : ℕ × ℕ × ℕ × ℕ → ℕ × ℕ × ℕ × ℕ → Bool
same_ends e k = (e.0 == k.0) && (e.1 == k.1) && (e.2 == k.2) && (e.3 == k.3)

-- equality of numbers tells the same either way
turned : (a b : ℕ) → (a == b) ≡ (b == a)
turned a b = grind arith

-- it is the test by a link's ends
is_test : (e k : ℕ × ℕ × ℕ × ℕ) → same_ends e k ≡ has_ends e.0 e.1 e.2 e.3 (link_of k)
is_test e k = λ i. turned e.0 k.0 i && turned e.1 k.1 i && turned e.2 k.2 i && turned e.3 k.3 i

first_alike : (e : ℕ × ℕ × ℕ × ℕ) (ks : List (ℕ × ℕ × ℕ × ℕ))
    → position_or_len (same_ends e) ks ≡ position_or_len (has_ends e.0 e.1 e.2 e.3) (map link_of ks)
first_alike e [] = refl
first_alike e (k ∷ ks) = λ i. cond (not (is_test e k i)) (1 + first_alike e ks i) 0

-- so a place is found by either
pub placed_alike : (e : ℕ × ℕ × ℕ × ℕ) (ks : List (ℕ × ℕ × ℕ × ℕ))
    → position (same_ends e) ks ≡ position (has_ends e.0 e.1 e.2 e.3) (map link_of ks)
placed_alike e ks = λ i.
    cond (nat_lt (first_alike e ks i) (sym (length-map ks link_of) i)) (Some (first_alike e ks i)) None

any_alike : (e : ℕ × ℕ × ℕ × ℕ) (ks : List (ℕ × ℕ × ℕ × ℕ))
    → list_any (same_ends e) ks ≡ list_any (has_ends e.0 e.1 e.2 e.3) (map link_of ks)
any_alike e [] = refl
any_alike e (k ∷ ks) = λ i. is_test e k i || any_alike e ks i

-- ---- what stands for a literal

-- the link at the first place that passes
stands_at : (links : List VirtualLink) (i : ℕ) (d : VirtualLink) (a m b n l : ℕ)
    → i < length (map (λ k. k.ends) links)
    → has_ends a m b n (get_or (map (λ k. k.ends) links) i d.ends) ≡ true
    → ((k : ℕ) → k < i → has_ends a m b n (get_or (map (λ j. j.ends) links) k d.ends) ≡ false)
    → link_through links a m b n l ≡ through_fabric (get_or links i d)
stands_at [] i d a m b n l lt t f = absurd (omega (arith, lt))
stands_at (k ∷ links) zero d a m b n l lt t f = if_true (has_ends a m b n k.ends) (through_fabric k) (link_through links a m b n l) t
stands_at (k ∷ links) (suc i) d a m b n l lt t f =
    let positive : 0 < suc i = omega arith in
    let less : i < length (map (λ j. j.ends) links) = omega (arith, lt) in
    if_false (has_ends a m b n k.ends) (through_fabric k) (link_through links a m b n l) (f 0 positive)
    ∙ stands_at links i d a m b n l less t (λ j g. let h : suc j < suc i = omega (arith, g) in f (suc j) h)

-- none where none passes
stands_itself : (links : List VirtualLink) (d : VirtualLink) (a m b n l : ℕ)
    → ((k : ℕ) → k < length (map (λ j. j.ends) links) → has_ends a m b n (get_or (map (λ j. j.ends) links) k d.ends) ≡ false)
    → link_through links a m b n l ≡ link a m b n l
stands_itself [] d a m b n l f = refl
stands_itself (k ∷ links) d a m b n l f =
    let positive : 0 < length (map (λ j. j.ends) (k ∷ links)) = omega arith in
    if_false (has_ends a m b n k.ends) (through_fabric k) (link_through links a m b n l) (f 0 positive)
    ∙ stands_itself links d a m b n l (λ j g. let h : suc j < length (map (λ i. i.ends) (k ∷ links)) = omega (arith, g) in f (suc j) h)

-- where a place is found, the fabric of the link there
pub through_found : (links : List VirtualLink) (i : ℕ) (d : VirtualLink) (a m b n l : ℕ)
    → position (has_ends a m b n) (map (λ k. k.ends) links) ≡ Some i
    → link_through links a m b n l ≡ through_fabric (get_or links i d)
through_found links i d a m b n l h =
    let p = position-Some (has_ends a m b n) (map (λ k. k.ends) links) i d.ends h in
    stands_at links i d a m b n l p.0 p.1 p.2

-- a place that isn't found isn't within
past : (t : Bool) (i : ℕ) → cond t (Some i) None ≡ None → t ≡ false
past true i h = absurd cc
past false i h = refl

-- where none is found, the literal itself
pub through_nothing : (links : List VirtualLink) (a m b n l : ℕ)
    → position (has_ends a m b n) (map (λ k. k.ends) links) ≡ None → link_through links a m b n l ≡ link a m b n l
through_nothing [] a m b n l h = refl
through_nothing (d ∷ links) a m b n l h =
    let test = has_ends a m b n in
    let all = map (λ k. k.ends) (d ∷ links) in
    let out : nat_lt (position_or_len test all) (length all) ≡ false = past _ _ h in
    let le : length all ≤ position_or_len test all = grind (arith, nat_tests, out) in
    stands_itself (d ∷ links) d a m b n l
    (λ k lt. let first : k < position_or_len test all = omega (arith, lt, le) in fails_before_first test all k d.ends first)

-- ---- how many elements stand for a literal

-- the fabric with the tests in front of it
with_tests : (k : VirtualLink) → min (fabric_size k + 3) 18446744073709551615 ≡ size_within (through_fabric k)
with_tests k = omega arith

-- the size at the place that is found, and three
pub sized_found : (links : List VirtualLink) (sizes : List ℕ) (i a m b n l : ℕ)
    → sizes ≡ map fabric_size links → position (has_ends a m b n) (map (λ k. k.ends) links) ≡ Some i
    → min (get_or sizes i 0 + 3) 18446744073709551615 ≡ size_within (link_through links a m b n l)
sized_found [] sizes i a m b n l e h = absurd cc
sized_found (d ∷ links) sizes i a m b n l e h =
    let p = position-Some (has_ends a m b n) (map (λ k. k.ends) (d ∷ links)) i d.ends h in
    let within : i < length (d ∷ links) = subst (λ j. i < j) (length-map (d ∷ links) (λ k. k.ends)) p.0 in
    ap (λ s. min (get_or s i 0 + 3) 18446744073709551615) e
    ∙ ap (λ s. min (s + 3) 18446744073709551615) (get_or-map fabric_size (d ∷ links) i d 0 within)
    ∙ with_tests (get_or (d ∷ links) i d)
    ∙ ap size_within (sym (through_found (d ∷ links) i d a m b n l h))

-- ---- ends that are listed one by one

-- no link before the place begins where the link does
none_before : (links : List VirtualLink) (i : ℕ) (k : VirtualLink)
    → ((j : ℕ) → j < i → j < length links → HaveOneSource (get_or links j k) k → ⊥)
    → list_any (has_ends k.ends.from_switch k.ends.from_port k.ends.to_switch k.ends.to_port) (map (λ j. j.ends) (take i links)) ≡ false
none_before [] zero k h = refl
none_before [] (suc i) k h = refl
none_before (l ∷ links) zero k h = refl
none_before (l ∷ links) (suc i) k h =
    let test = has_ends k.ends.from_switch k.ends.from_port k.ends.to_switch k.ends.to_port in
    let rest = none_before links i k (λ j lt less.
    let lt' : suc j < suc i = omega (arith, lt) in
    let less' : suc j < length (l ∷ links) = omega (arith, less) in
    h (suc j) lt' less') in
    let positive : 0 < suc i = omega arith in
    let some : 0 < length (l ∷ links) = omega arith in
    ⊎_elim
    (λ t. let e = ends_are l.ends k.ends.from_switch k.ends.from_port k.ends.to_switch k.ends.to_port t in absurd (h 0 positive some (e.0, e.1)))
    (λ f. ap (λ b. b || list_any test (map (λ j. j.ends) (take i links))) f ∙ rest)
    (cases_Bool (test l.ends))

-- one more, after those before it
pub listed_more : (links : List VirtualLink) (i : ℕ) (k : VirtualLink) (e : ℕ × ℕ × ℕ × ℕ) (keys keys' : List (ℕ × ℕ × ℕ × ℕ))
    → AllPairs (λ j l. HaveOneSource j l → ⊥) links → i < length links → k ≡ get_or links i k → link_of e ≡ k.ends
    → keys' ≡ insert_key same_ends keys e
    → map link_of keys ≡ map (λ j. j.ends) (take i links)
    → map link_of keys' ≡ map (λ j. j.ends) (take (i + 1) links)
listed_more links i k e keys keys' apart lt is own put inv =
    let new : list_any (same_ends e) keys ≡ false =
    any_alike e keys
    ∙ ap (list_any (has_ends e.0 e.1 e.2 e.3)) inv
    ∙ ap (λ o. list_any (has_ends o.from_switch o.from_port o.to_switch o.to_port) (map (λ j. j.ends) (take i links))) own
    ∙ none_before links i k (λ j g less h. apart j i k g lt (subst (λ x. HaveOneSource (get_or links j k) x) is h)) in
    let last : keys' ≡ keys ++ e ∷ [] = put ∙ ap (λ b. if b then keys else keys ++ e ∷ []) new in
    let next : take (i + 1) links ≡ take i links ++ k ∷ [] =
    (take_at_read links i k lt).1 ∙ ap (λ x. take i links ++ x ∷ []) (sym is) in
    ap (map link_of) last
    ∙ map-append link_of keys (e ∷ [])
    ∙ ap (λ l. l ++ link_of e ∷ []) inv
    ∙ ap (λ o. map (λ j. j.ends) (take i links) ++ o ∷ []) own
    ∙ sym (map-append (λ j. j.ends) (take i links) (k ∷ []))
    ∙ ap (map (λ j. j.ends)) (sym next)
