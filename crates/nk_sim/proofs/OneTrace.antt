-- A packet has one trace: two lists in order with the same histories, each as often, are the same.
use Rattle.std.proofs.Common.{◌≡◌, ◌<◌, ◌+◌, ℕ, suc, List, [], ◌∷◌, ◌⊎◌, inl, inr, ⊎_elim, length, refl, sym, ap, subst, ◌∙◌, arith}
use Rattle.std.specs.Prelude.{Bool, true, false, sum_by}
use Rattle.std.specs.Ordering.{nat_cmp, ordering_then, MatchOrdering, is_eq}
use Rattle.std.specs.Cmp.Lexicographic.{slice_cmp}
use Rattle.std.specs.declared.cmp.Ordering.{Ordering}
use Rattle.std.specs.declared.cmp.Ordering.TheVariants.{Less, Equal, Greater}
use Rattle.std.proofs.lemmas.Cmp.{ranked, tied_itself}
use Rattle.std.proofs.lemmas.List.Sorted.{sum_by-IsPermutation}
use Rattle.std.proofs.lemmas.List.Sums.{sum_by-cons}
use Rattle.nk_field.specs.declared.history.History.{History}
use Rattle.nk_field.specs.Order.{Found, Precedes, AllPrecede, IsLess}
use Rattle.nk_field.proofs.Lists.{In, contains_from_in}
use Rattle.nk_table.specs.declared.Tables.{Tables}
use Rattle.nk_sim.specs.declared.tracing.Traced.{Traced}
use Rattle.nk_sim.specs.Traces.{AreOrderedFrom, IsTrace, found, histories_before}
use Rattle.nk_sim.proofs.Orders.{history_cmp, history_cmp_total}

-- two things in order by their first parts, then by the others, are so one way alone
lex_once : {A : Type 0} (P : A → A → Type 0) → ((x y : A) → P x y → P y x → ⊥) → (x y : A) {U V : Type 0} → (U → V → ⊥)
    → P x y ⊎ ((x ≡ y) × U) → P y x ⊎ ((y ≡ x) × V) → ⊥
lex_once P once x y rest h k =
    ⊎_elim
    (λ p. ⊎_elim (λ q. once x y p q) (λ f. let self = subst (P x) f.0 p in once x x self self) k)
    (λ e. ⊎_elim (λ q. let self = subst (P y) e.0 q in once y y self self) (λ f. rest e.1 f.1) k)
    h

numbers_once : (m n : ℕ) → m < n → n < m → ⊥
numbers_once m n lt gt = omega (arith, lt, gt)

precedes_once : (xs ys : List ℕ) → Precedes xs ys → Precedes ys xs → ⊥
precedes_once [] ys h k = h
precedes_once (x ∷ xs) [] h k = h
precedes_once (x ∷ xs) (y ∷ ys) h k = lex_once (λ m n. m < n) numbers_once x y (precedes_once xs ys) h k

packets_once : (xs ys : List (List ℕ)) → AllPrecede xs ys → AllPrecede ys xs → ⊥
packets_once [] ys h k = h
packets_once (x ∷ xs) [] h k = h
packets_once (x ∷ xs) (y ∷ ys) h k = lex_once Precedes precedes_once x y (packets_once xs ys) h k

less_once : (a b : Found) → IsLess a b → IsLess b a → ⊥
less_once a b =
    lex_once (λ m n. m < n) numbers_once (length a.records) (length b.records)
    (lex_once Precedes precedes_once a.start b.start (lex_once AllPrecede packets_once a.records b.records (precedes_once a.last b.last)))

-- what compares as equal is the same
same_lists : {X : Type 0} (R : X → X → Ordering) → ((x y : X) → R x y ≡ Equal → x ≡ y) → (xs ys : List X) → slice_cmp R xs ys ≡ Equal → xs ≡ ys
same_lists R same [] [] e = refl
same_lists R same [] (y ∷ ys) e = absurd cc
same_lists R same (x ∷ xs) [] e = absurd cc
same_lists R same (x ∷ xs) (y ∷ ys) e = by (R x y) refl e (same_lists R same xs ys)
  where
    by : (o : Ordering) → R x y ≡ o → ordering_then o (slice_cmp R xs ys) ≡ Equal → (slice_cmp R xs ys ≡ Equal → xs ≡ ys) → x ∷ xs ≡ y ∷ ys
    by Less f h rest = absurd cc
    by Equal f h rest = λ i. same x y f i ∷ rest h i
    by Greater f h rest = absurd cc

same_numbers : (x y : ℕ) → nat_cmp x y ≡ Equal → x ≡ y
same_numbers x y e = subst (λ o. MatchOrdering o (x < y) (x ≡ y) (y < x)) e (ranked x y (nat_cmp x y) refl)

same_packets : (p q : List ℕ) → slice_cmp nat_cmp p q ≡ Equal → p ≡ q
same_packets = same_lists nat_cmp same_numbers

same_histories : (g h : History) → history_cmp g h ≡ Equal → g ≡ h
same_histories g h e = by (slice_cmp (slice_cmp nat_cmp) g.records h.records) refl e
  where
    by : (o : Ordering) → slice_cmp (slice_cmp nat_cmp) g.records h.records ≡ o → ordering_then o (slice_cmp nat_cmp g.last h.last) ≡ Equal → g ≡ h
    by Less f k = absurd cc
    by Equal f k = λ i. record {
      records = same_lists (slice_cmp nat_cmp) same_packets g.records h.records f i;
      last = same_packets g.last h.last k i;
    }
    by Greater f k = absurd cc

-- how often a history stands in a list
abbrev one_if : Bool → ℕ
one_if true = 1
one_if false = 0

abbrev once_at : History → History → ℕ
once_at x y = one_if (is_eq (history_cmp x y))

abbrev times : History → List History → ℕ
times x hs = sum_by (once_at x) hs

-- one that stands there so often is a member
member : (x : History) (hs : List History) → 0 < times x hs → In hs x
member x [] h = absurd (omega (arith, h))
member x (y ∷ ys) h = by (history_cmp x y) refl (subst (λ n. 0 < n) (sum_by-cons (once_at x) y ys) h) (member x ys)
  where
    by : (o : Ordering) → history_cmp x y ≡ o → 0 < one_if (is_eq o) + times x ys → (0 < times x ys → In ys x) → In (y ∷ ys) x
    by Less f k rest = inr (rest (omega (arith, k)))
    by Equal f k rest = inl (same_histories x y f)
    by Greater f k rest = inr (rest (omega (arith, k)))

-- it stands there once more in front
once_more : (x : History) (hs : List History) → times x (x ∷ hs) ≡ 1 + times x hs
once_more x hs = sum_by-cons (once_at x) x hs ∙ ap (λ o. one_if (is_eq o) + times x hs) (tied_itself history_cmp_total x)

module _ (pk : List ℕ) where
  -- the first one is each member, or comes before it
  first_of_all : (b a : History) (bs : List History) → AreOrderedFrom pk (b ∷ bs) → In (b ∷ bs) a → (b ≡ a) ⊎ IsLess (found pk b) (found pk a)
  first_of_all b a bs up i =
      ⊎_elim (λ e. inl (sym e)) (λ r.
      let c = contains_from_in bs a r in
      let lt : 0 < suc c.0 = omega arith in
      let within : suc c.0 < length (b ∷ bs) = omega (arith, c.1) in
      subst (λ (h : History). (b ≡ h) ⊎ IsLess (found pk b) (found pk h)) c.2 (up 0 (suc c.0) a lt within)) i

  -- those after it are in order
  after_in_order : (b : History) (bs : List History) → AreOrderedFrom pk (b ∷ bs) → AreOrderedFrom pk bs
  after_in_order b bs up = λ i j d lt less.
      let more : suc i < suc j = omega (arith, lt) in
      let within : suc j < length (b ∷ bs) = omega (arith, less) in
      up (suc i) (suc j) d more within

  -- lists in order with each history as often are the same
  pub one_order : (xs ys : List History) → AreOrderedFrom pk xs → AreOrderedFrom pk ys → ((x : History) → times x xs ≡ times x ys) → xs ≡ ys
  one_order [] [] up vp e = refl
  one_order [] (b ∷ bs) up vp e = absurd (omega (arith, e b, once_more b bs))
  one_order (a ∷ as') [] up vp e = absurd (omega (arith, e a, once_more a as'))
  one_order (a ∷ as') (b ∷ bs) up vp e =
      let there : 0 < times a (b ∷ bs) = omega (arith, e a, once_more a as') in
      let back : 0 < times b (a ∷ as') = omega (arith, e b, once_more b bs) in
      let same : a ≡ b =
      ⊎_elim (λ p. sym p) (λ p. ⊎_elim (λ q. q) (λ q. absurd (less_once (found pk b) (found pk a) p q))
      (first_of_all a b as' up (member b (a ∷ as') back))) (first_of_all b a bs vp (member a (b ∷ bs) there)) in
      let rest = one_order as' bs (after_in_order a as' up) (after_in_order b bs vp) (λ x.
      let h : once_at x a + times x as' ≡ once_at x a + times x bs =
      sym (sum_by-cons (once_at x) a as') ∙ e x ∙ sum_by-cons (once_at x) b bs ∙ ap (λ z. once_at x z + times x bs) (sym same) in
      omega (arith, h)) in
      λ i. same i ∷ rest i

-- so two traces are the same
pub one_trace : (t : Tables) (hops : ℕ) (pk : List ℕ) (a b : Traced) → IsTrace t hops pk a → IsTrace t hops pk b → a ≡ b
one_trace t hops pk a b h k =
    let all = histories_before t (hops + 1) pk in
    let same = one_order pk a.histories b.histories h.ordered k.ordered (λ x.
    sum_by-IsPermutation (once_at x) all a.histories h.all ∙ sym (sum_by-IsPermutation (once_at x) all b.histories k.all)) in
    λ i. record { histories = same i; flying = (h.flying ∙ sym k.flying) i }
