-- What the order by which histories are sorted says: of histories with as many records and packets of one length, the
-- one that isn't less is the same or comes later.
use Rattle.std.proofs.Common.{◌≡◌, ◌<◌, ◌≤◌, ℕ, suc, false, List, [], ◌∷◌, ◌++◌, ◌⊎◌, inl, inr, length, refl, sym, ◌∙◌, arith}
use Rattle.std.specs.Prelude.{All, AllPairs, slice_index_or}
use Rattle.std.specs.Ordering.{nat_cmp, ordering_then, MatchOrdering, is_lt}
use Rattle.std.specs.Cmp.{IsTotalOrder}
use Rattle.std.specs.Cmp.Lexicographic.{slice_cmp}
use Rattle.std.specs.List.Sorted.{IsSorted}
use Rattle.std.specs.declared.cmp.Ordering.{Ordering}
use Rattle.std.specs.declared.cmp.Ordering.TheVariants.{Less, Equal, Greater}
use Rattle.std.proofs.lemmas.Cmp.{ranked, then_total, on_total, lists_total, nat_list_cmp_total}
use Rattle.std.proofs.lemmas.List.Elements.{All-head, All-tail, All-append}
use Rattle.std.proofs.lemmas.List.Kept.{AllPairs-cons}
use Rattle.std.proofs.lemmas.List.Sorted.{sorted_far, ranks_by}
use Rattle.nk_field.specs.declared.history.History.{History}
use Rattle.nk_field.specs.Order.{Precedes, AllPrecede, IsLess}
use Rattle.nk_sim.specs.Flights.{HaveOneLength}
use Rattle.nk_sim.specs.Traces.{AreOrderedFrom, found}
use Rattle.nk_sim.proofs.Sizes.{Long, IsHistorySized}

-- two lists of numbers of one length: the same, or the first precedes, where the order isn't Greater
pub numbers_ranked : (xs ys : List ℕ) → length xs ≡ length ys
    → MatchOrdering (slice_cmp nat_cmp xs ys) (Precedes xs ys) (xs ≡ ys) (Precedes ys xs)
numbers_ranked [] [] e = refl
numbers_ranked [] (y ∷ ys) e = absurd (omega arith)
numbers_ranked (x ∷ xs) [] e = absurd (omega arith)
numbers_ranked (x ∷ xs) (y ∷ ys) e =
    by_first (nat_cmp x y) (slice_cmp nat_cmp xs ys) (ranked x y (nat_cmp x y) refl) (numbers_ranked xs ys (omega arith))
  where
    by_first : (o r : Ordering) → MatchOrdering o (x < y) (x ≡ y) (y < x) → MatchOrdering r (Precedes xs ys) (xs ≡ ys) (Precedes ys xs)
        → MatchOrdering (ordering_then o r) (Precedes (x ∷ xs) (y ∷ ys)) (x ∷ xs ≡ y ∷ ys) (Precedes (y ∷ ys) (x ∷ xs))
    by_first Less r h k = inl h
    by_first Greater r h k = inl h
    by_first Equal Less h k = inr (h, k)
    by_first Equal Equal h k = λ i. h i ∷ k i
    by_first Equal Greater h k = inr (sym h, k)

-- two lists of as many packets, all of one length: the same, or the first precedes, where the order isn't Greater
pub packets_ranked : (n : ℕ) (ps qs : List (List ℕ)) → length ps ≡ length qs → All (Long n) ps → All (Long n) qs
    → MatchOrdering (slice_cmp (slice_cmp nat_cmp) ps qs) (AllPrecede ps qs) (ps ≡ qs) (AllPrecede qs ps)
packets_ranked n [] [] e a b = refl
packets_ranked n [] (q ∷ qs) e a b = absurd (omega arith)
packets_ranked n (p ∷ ps) [] e a b = absurd (omega arith)
packets_ranked n (p ∷ ps) (q ∷ qs) e a b =
    by_first (slice_cmp nat_cmp p q) (slice_cmp (slice_cmp nat_cmp) ps qs)
    (numbers_ranked p q (All-head (Long n) p ps a ∙ sym (All-head (Long n) q qs b)))
    (packets_ranked n ps qs (omega arith) (All-tail (Long n) p ps a) (All-tail (Long n) q qs b))
  where
    by_first : (o r : Ordering) → MatchOrdering o (Precedes p q) (p ≡ q) (Precedes q p) → MatchOrdering r (AllPrecede ps qs) (ps ≡ qs) (AllPrecede qs ps)
        → MatchOrdering (ordering_then o r) (AllPrecede (p ∷ ps) (q ∷ qs)) (p ∷ ps ≡ q ∷ qs) (AllPrecede (q ∷ qs) (p ∷ ps))
    by_first Less r h k = inl h
    by_first Greater r h k = inl h
    by_first Equal Less h k = inr (h, k)
    by_first Equal Equal h k = λ i. h i ∷ k i
    by_first Equal Greater h k = inr (sym h, k)

-- how histories compare
abbrev pub history_cmp : History → History → Ordering
history_cmp g h = ordering_then (slice_cmp (slice_cmp nat_cmp) g.records h.records) (slice_cmp nat_cmp g.last h.last)

pub history_cmp_total : IsTotalOrder history_cmp
history_cmp_total = then_total (on_total (λ (h : History). h.records) (lists_total nat_list_cmp_total)) (on_total (λ (h : History). h.last) nat_list_cmp_total)

-- two histories of the same sizes: the same, or the first is less, where the order isn't Greater
pub histories_ranked : (pk : List ℕ) (n m : ℕ) (g h : History) → IsHistorySized n m g → IsHistorySized n m h
    → MatchOrdering (history_cmp g h) (IsLess (found pk g) (found pk h)) (g ≡ h) (IsLess (found pk h) (found pk g))
histories_ranked pk n m g h a b =
    by_records (slice_cmp (slice_cmp nat_cmp) g.records h.records) (slice_cmp nat_cmp g.last h.last)
    (packets_ranked n g.records h.records (a.0 ∙ sym b.0) a.1 b.1) (numbers_ranked g.last h.last (a.2 ∙ sym b.2))
  where
    by_records : (o r : Ordering) → MatchOrdering o (AllPrecede g.records h.records) (g.records ≡ h.records) (AllPrecede h.records g.records)
        → MatchOrdering r (Precedes g.last h.last) (g.last ≡ h.last) (Precedes h.last g.last)
        → MatchOrdering (ordering_then o r) (IsLess (found pk g) (found pk h)) (g ≡ h) (IsLess (found pk h) (found pk g))
    by_records Less r p q = inr (a.0 ∙ sym b.0, inr (refl, inl p))
    by_records Greater r p q = inr (b.0 ∙ sym a.0, inr (refl, inl p))
    by_records Equal Less p q = inr (a.0 ∙ sym b.0, inr (refl, inr (p, q)))
    by_records Equal Equal p q = λ i. record { records = p i; last = q i }
    by_records Equal Greater p q = inr (b.0 ∙ sym a.0, inr (refl, inr (sym p, q)))

-- sorted histories are in order
pub sorted_in_order : (hs : List History) → IsSorted history_cmp hs → HaveOneLength hs → (pk : List ℕ) → AreOrderedFrom pk hs
sorted_in_order hs up alike pk = λ i j d lt less.
    let g : History = slice_index_or hs i d in
    let h : History = slice_index_or hs j d in
    let le : i ≤ j = omega (arith, lt) in
    let within : i < length hs = omega (arith, lt, less) in
    by_order g h (history_cmp h g)
    (histories_ranked pk alike.0 alike.1 h g (alike.2 j d less) (alike.2 i d within))
    (sorted_far (λ x y. is_lt (history_cmp x y)) (ranks_by history_cmp_total (λ x. x)) hs up i j d le less)
  where
    by_order : (g h : History) (o : Ordering) → MatchOrdering o (IsLess (found pk h) (found pk g)) (h ≡ g) (IsLess (found pk g) (found pk h))
        → is_lt o ≡ false → (g ≡ h) ⊎ IsLess (found pk g) (found pk h)
    by_order g h Less p e = absurd cc
    by_order g h Equal p e = inl (sym p)
    by_order g h Greater p e = inr p

-- lists in order, each element of the first before each of the second
pairs_joined : {X : Type 0} (R : X → X → Type 0) (xs ys : List X) → AllPairs R xs → AllPairs R ys → All (λ x. All (R x) ys) xs → AllPairs R (xs ++ ys)
pairs_joined R [] ys a b h = b
pairs_joined R (x ∷ xs) ys a b h =
    AllPairs-cons R x (xs ++ ys)
    (All-append (R x) xs ys
    (λ i d lt. let first : 0 < suc i = omega arith in let within : suc i < length (x ∷ xs) = omega (arith, lt) in a 0 (suc i) d first within)
    (All-head (λ x. All (R x) ys) x xs h))
    (pairs_joined R xs ys
    (λ i j d lt less. let up : suc i < suc j = omega (arith, lt) in let within : suc j < length (x ∷ xs) = omega (arith, less) in a (suc i) (suc j) d up within)
    b (All-tail (λ x. All (R x) ys) x xs h))

-- histories in order, and then others in order that have more records
pub in_order_joined : (pk : List ℕ) (gs hs : List History) → AreOrderedFrom pk gs → AreOrderedFrom pk hs
    → ((i : ℕ) (d : History) → i < length gs → (j : ℕ) (e : History) → j < length hs → length (slice_index_or gs i d).records < length (slice_index_or hs j e).records)
    → AreOrderedFrom pk (gs ++ hs)
in_order_joined pk gs hs a b more =
    pairs_joined (λ (g h : History). (g ≡ h) ⊎ IsLess (found pk g) (found pk h)) gs hs a b (λ i d lt j e less. inr (inl (more i d lt j e less)))
