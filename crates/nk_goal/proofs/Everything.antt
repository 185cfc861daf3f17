-- All sets of labels at all packets, as one list that is never computed.
use Rattle.std.proofs.Common.{◌≡◌, ℕ, suc, zero, ◌<◌, ◌≤◌, ◌+◌, inl, inr, refl, sym, ap, subst, arith, List, [], ◌∷◌, ◌++◌, length, get_or}
use Rattle.std.proofs.lemmas.Bool.Decides.{eqb_tells}
use Rattle.std.specs.List.Sorted.{IsStrictlyIncreasing}
use Rattle.nk_apply.proofs.Members.{Has as Among}
use Rattle.nk_apply.proofs.Members.{has_contains}
use Rattle.nk_determ.specs.Pairs.{Node, AreLabelsBelow}
use Rattle.nk_goal.proofs.Growing.{place_of}
use Rattle.nk_sets.proofs.Rising.{RisesFrom, rises_from}

-- an item of the first list is one of both together
pub among_left : {A : Type 0} (xs ys : List A) (a : A) → Among xs a → Among (xs ++ ys) a
among_left [] ys a m = absurd m
among_left (x ∷ xs) ys a m = elim m [ inl e ↦ inl e | inr k ↦ inr (among_left xs ys a k) ]

-- an item of the second list is one of both together
pub among_right : {A : Type 0} (xs ys : List A) (a : A) → Among ys a → Among (xs ++ ys) a
among_right [] ys a m = m
among_right (x ∷ xs) ys a m = inr (among_right xs ys a m)

-- each list with one number before it
abbrev pub before : ℕ → List (List ℕ) → List (List ℕ)
before v [] = []
before v (l ∷ ls) = (v ∷ l) ∷ before v ls

-- a list with the number before it is among them
pub among_before : (v : ℕ) (ls : List (List ℕ)) (l : List ℕ) → Among ls l → Among (before v ls) (v ∷ l)
among_before v [] l m = absurd m
among_before v (k ∷ ks) l m = elim m [ inl e ↦ inl (ap (λ t. v ∷ t) e) | inr n ↦ inr (among_before v ks l n) ]

-- each of the numbers before each list
abbrev pub spread : List ℕ → List (List ℕ) → List (List ℕ)
spread [] ls = []
spread (v ∷ vs) ls = before v ls ++ spread vs ls

-- a number before a list is among them
pub among_spread : (vs : List ℕ) (ls : List (List ℕ)) (v : ℕ) (l : List ℕ) → Among vs v → Among ls l → Among (spread vs ls) (v ∷ l)
among_spread [] ls v l m n = absurd m
among_spread (w ∷ ws) ls v l m n = elim m [
  | inl e ↦ among_left (before w ls) (spread ws ls) (v ∷ l) (subst (λ u. Among (before w ls) (u ∷ l)) e (among_before w ls l n))
  | inr k ↦ among_right (before w ls) (spread ws ls) (v ∷ l) (among_spread ws ls v l k n)
]

-- the numbers up to n
abbrev pub up_to : ℕ → List ℕ
up_to zero = 0 ∷ []
up_to (suc n) = suc n ∷ up_to n

-- a number up to n is among them
pub among_up_to : (n v : ℕ) → v ≤ n → Among (up_to n) v
among_up_to zero v l = inl (omega (arith, l))
among_up_to (suc n) v l = elim (eqb_tells v (suc n)) [
  | inl same ↦ inl (sym same.1)
  | inr other ↦ inr (among_up_to n v (omega (arith, l, other.1)))
]

-- all rising lists of the numbers from low on, so many of them
abbrev pub rising : ℕ → ℕ → List (List ℕ)
rising low zero = [] ∷ []
rising low (suc c) = rising (low + 1) c ++ before low (rising (low + 1) c)

-- a rising list in these bounds is among them
pub among_rising : (c low : ℕ) (s : List ℕ) → RisesFrom low s → ((l : ℕ) → Among s l → l < low + c) → Among (rising low c) s
among_rising zero low [] r b = inl refl
among_rising zero low (x ∷ xs) r b = absurd (omega (arith, r.0, b x (inl refl)))
among_rising (suc c) low [] r b = among_left (rising (low + 1) c) (before low (rising (low + 1) c)) [] (among_rising c (low + 1) [] tt (λ l m. absurd m))
among_rising (suc c) low (x ∷ xs) r b = elim (eqb_tells x low) [
  | inl same ↦
      let rest : Among (rising (low + 1) c) xs = among_rising c (low + 1) xs (subst (λ k. RisesFrom (k + 1) xs) same.1 r.1) (λ l m. omega (arith, b l (inr m))) in
      among_right (rising (low + 1) c) (before low (rising (low + 1) c)) (x ∷ xs) (subst (λ k. Among (before low (rising (low + 1) c)) (k ∷ xs)) (sym same.1) (among_before low (rising (low + 1) c) xs rest))
  | inr other ↦
      among_left (rising (low + 1) c) (before low (rising (low + 1) c)) (x ∷ xs) (among_rising c (low + 1) (x ∷ xs) (omega (arith, r.0, other.1), r.1) (λ l m. omega (arith, b l m)))
]

-- all lists of so many values in range, from the field k on
abbrev pub packets_from : List ℕ → ℕ → ℕ → List (List ℕ)
packets_from maxes k zero = [] ∷ []
packets_from maxes k (suc c) = spread (up_to (get_or maxes k 0)) (packets_from maxes (suc k) c)

-- a packet in range is among them
pub among_packets : (maxes : List ℕ) (c k : ℕ) (pk : List ℕ) → length pk ≡ c → ((j : ℕ) → get_or pk j 0 ≤ get_or maxes (k + j) 0) → Among (packets_from maxes k c) pk
among_packets maxes zero k [] e b = inl refl
among_packets maxes zero k (x ∷ xs) e b = absurd (omega (arith, e))
among_packets maxes (suc c) k [] e b = absurd (omega (arith, e))
among_packets maxes (suc c) k (x ∷ xs) e b =
    among_spread (up_to (get_or maxes k 0)) (packets_from maxes (suc k) c) x xs
    (among_up_to (get_or maxes k 0) x (let z : k + 0 ≡ k = omega arith in subst (λ i. x ≤ get_or maxes i 0) z (b zero)))
    (among_packets maxes c (suc k) xs (omega (arith, e)) (λ j. let z : k + suc j ≡ suc k + j = omega arith in subst (λ i. get_or xs j 0 ≤ get_or maxes i 0) z (b (suc j))))

-- one set at each packet
abbrev pub at_each : List ℕ → List (List ℕ) → List Node
at_each s [] = []
at_each s (x ∷ xs) = (s, x) ∷ at_each s xs

-- the set at a packet is among them
pub among_at : (s : List ℕ) (xs : List (List ℕ)) (x : List ℕ) → Among xs x → Among (at_each s xs) (s, x)
among_at s [] x m = absurd m
among_at s (y ∷ ys) x m = elim m [ inl e ↦ inl (ap (λ (z : List ℕ). (s, z)) e) | inr k ↦ inr (among_at s ys x k) ]

-- each set at each packet
abbrev pub crossed : List (List ℕ) → List (List ℕ) → List Node
crossed [] xs = []
crossed (s ∷ ss) xs = at_each s xs ++ crossed ss xs

-- a set at a packet is among them
pub among_crossed : (ss xs : List (List ℕ)) (s x : List ℕ) → Among ss s → Among xs x → Among (crossed ss xs) (s, x)
among_crossed [] xs s x m n = absurd m
among_crossed (t ∷ ts) xs s x m n = elim m [
  | inl e ↦ among_left (at_each t xs) (crossed ts xs) (s, x) (subst (λ u. Among (at_each t xs) (u, x)) e (among_at t xs x n))
  | inr k ↦ among_right (at_each t xs) (crossed ts xs) (s, x) (among_crossed ts xs s x k n)
]

-- all sets of labels below so many, at all packets in range
pub all_nodes : List ℕ → ℕ → List Node
all_nodes maxes r = crossed (rising 0 r) (packets_from maxes 0 18)

-- a set whose labels rise and have places, at a packet in range, is one of them
pub among_nodes : (maxes : List ℕ) (r : ℕ) (n : Node) → IsStrictlyIncreasing n.0 → AreLabelsBelow r n.0 → length n.1 ≡ 18 → ((k : ℕ) → get_or n.1 k 0 ≤ get_or maxes k 0) → Among (all_nodes maxes r) n
unfolding all_nodes
among_nodes maxes r n rise places whole within =
    among_crossed (rising 0 r) (packets_from maxes 0 18) n.0 n.1
    (among_rising r 0 n.0 (rises_from n.0 rise) (λ l m. omega (arith, place_of r n.0 l places (has_contains n.0 l m))))
    (among_packets maxes 18 0 n.1 whole (λ j. let z : 0 + j ≡ j = omega arith in subst (λ i. get_or n.1 j 0 ≤ get_or maxes i 0) (sym z) (within j)))
