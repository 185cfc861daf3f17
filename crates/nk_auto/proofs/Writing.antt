-- The states of a policy's dups, as its diagrams are put together.
use Rattle.std.proofs.Common.{◌≡◌, ◌≢◌, ℕ, zero, suc, ◌+◌, ◌-◌, ◌<◌, ◌≤◌, inl, inr, ⊎_elim, Bool, true, false, List, [], ◌∷◌, length, refl, sym, ap, subst, ◌∙◌, arith, length-set, get_or-set_other, get_or-set_same}
use Rattle.std.specs.Prelude.{slice_index, slice_set, ◌==◌, ◌||◌, if◌then◌else◌}
use Rattle.std.proofs.lemmas.Bool.Decides.{leb_tells}
use Rattle.nk_policy.specs.Policy.{Policy, Policies, test, range, assign, sum_of, seq_of, not_of, star_of, dup, link, no_part, part, is_predicate, dups_of}
use Rattle.nk_policy.specs.After.{id_policy, drop_policy, has_dup, some_has_dup, after, after_some, after_all, after_dup, after_link}
use Rattle.nk_policy.proofs.Tests.{false_true, or_cases, both_false, same_number, same_from, next_number}
use Rattle.nk_store.specs.StoreState.{StoreState, IsId, Grows}
use Rattle.nk_auto.specs.Complements.{NegatesPredicates, AllNegatePredicates}
use Rattle.nk_auto.specs.Continued.{IsContinued, AreStatesOfDups, AreWritten, IsPut}
use Rattle.nk_auto.proofs.Going.{continued_grow, unit_continued, cons_continued}
use Rattle.nk_auto.proofs.Ways.{predicate_holds_none, no_dup}

-- states stay states in a store that grew
pub states_grow : (old new : StoreState) (states : List ℕ) (base : ℕ) (p : Policy) (k : ℕ) → Grows old new →
    AreStatesOfDups old states base p k → AreStatesOfDups new states base p k
states_grow old new states base p k g h fit l from place has = continued_grow old new (slice_index states (l - base)) (after p l) k g (h fit l from place has)

-- so do states that were written
pub written_grow : (old new : StoreState) (states later : List ℕ) (base : ℕ) (p : Policy) (k : ℕ) → Grows old new →
    AreWritten old states later base p k → AreWritten new states later base p k
written_grow old new states later base p k g h =
    record { count = h.count; states = states_grow old new later base p k g h.states; others = h.others }

-- the states of a policy without dups are any
none_written : (st : StoreState) (states : List ℕ) (base : ℕ) (p : Policy) (k : ℕ) →
    (NegatesPredicates p → (l : ℕ) → has_dup p l ≡ true → ⊥) → AreWritten st states states base p k
none_written st states base p k none =
    record { count = refl; states = λ fit l from place has. absurd (none fit l has); others = λ l from has. refl }

-- no part has none
pub unit_written : (st : StoreState) (states : List ℕ) (base k : ℕ) → AreWritten st states states base (seq_of no_part) k
unit_written st states base k = none_written st states base (seq_of no_part) k (λ fit l has. false_true has)

pub test_written : (st : StoreState) (states : List ℕ) (base f n k : ℕ) → AreWritten st states states base (test f n) k
test_written st states base f n k = none_written st states base (test f n) k (λ fit l has. false_true has)

pub range_written : (st : StoreState) (states : List ℕ) (base f lo hi k : ℕ) → AreWritten st states states base (range f lo hi) k
range_written st states base f lo hi k = none_written st states base (range f lo hi) k (λ fit l has. false_true has)

pub set_written : (st : StoreState) (states : List ℕ) (base f n k : ℕ) → AreWritten st states states base (assign f n) k
set_written st states base f n k = none_written st states base (assign f n) k (λ fit l has. false_true has)

pub not_written : (st : StoreState) (states : List ℕ) (base : ℕ) (p : Policy) (k : ℕ) → AreWritten st states states base (not_of p) k
not_written st states base p k = none_written st states base (not_of p) k (λ fit l has. predicate_holds_none p l fit.0 has)

pub predicate_written : (st : StoreState) (states : List ℕ) (base : ℕ) (p : Policy) (k : ℕ) → is_predicate p ≡ true →
    AreWritten st states states base p k
predicate_written st states base p k h = none_written st states base p k (λ fit l has. predicate_holds_none p l h has)

-- a policy of which no dup is counted leaves the states
pub dupless_written : (st : StoreState) (states : List ℕ) (base : ℕ) (p : Policy) (k : ℕ) → dups_of p ≡ 0 →
    AreWritten st states states base p k
dupless_written st states base p k none =
    none_written st states base p k (λ fit l has. false_true (sym (no_dup p l none) ∙ has))

-- nothing is written past the end
pub set_past : (xs : List ℕ) (i d : ℕ) → length xs ≤ i → slice_set xs i d ≡ xs
set_past [] i d le = refl
set_past (x ∷ xs) zero d le = absurd (omega arith)
set_past (x ∷ xs) (suc i) d le = ap (λ ys. x ∷ ys) (set_past xs i d (omega arith))

-- as many states as before
put_count : (states later : List ℕ) (base l d : ℕ) → IsPut states later base l d → length later ≡ length states
put_count states later base l d put = elim (leb_tells base l) [
  | inl from ↦ ap length (put.from from.1) ∙ length-set states (l - base) d
  | inr before ↦ ap length (put.before before.1)
]

-- the state that was written
put_here : (states later : List ℕ) (base l d : ℕ) → IsPut states later base l d → base ≤ l → l < base + length states →
    slice_index later (l - base) ≡ d
put_here states later base l d put from within =
    ap (λ r. slice_index r (l - base)) (put.from from) ∙ get_or-set_same states (l - base) d 0 (omega (arith, from, within))

-- a state of another dup
put_there : (states later : List ℕ) (base l m d : ℕ) → IsPut states later base l d → base ≤ m → (m ≡ l → ⊥) →
    slice_index later (m - base) ≡ slice_index states (m - base)
put_there states later base l m d put from_m other = elim (leb_tells base l) [
  | inl from ↦
      let apart : (m - base) ≢ (l - base) = λ s. other (omega (arith, s, from.1, from_m)) in
      ap (λ r. slice_index r (m - base)) (put.from from.1) ∙ get_or-set_other states (l - base) (m - base) d 0 apart
  | inr before ↦ ap (λ r. slice_index r (m - base)) (put.before before.1)
]

-- the state of a dup
pub dup_written : (st : StoreState) (states later : List ℕ) (base l k : ℕ) → IsPut states later base l k → IsId st k →
    AreWritten st states later base (dup l) k
dup_written st states later base l k put ik = record {
  count = put_count states later base l k put;
  states = λ fit m from place has.
      let same : m ≡ l = same_from m l has in
      let within : l < base + length states = omega (arith, place, same, put_count states later base l k put) in
      let state : slice_index later (l - base) ≡ k = put_here states later base l k put (omega (arith, from, same)) within in
      subst (λ n. IsContinued st (slice_index later (n - base)) (after (dup l) n) k) (sym same)
      (subst (λ d. IsContinued st d (after (dup l) l) k) (sym state)
      (subst (λ c. IsContinued st k (if c then id_policy else drop_policy) k) (sym (same_number l)) (unit_continued st k ik)));
  others = λ m from has. put_there states later base l m k put from (λ s. false_true (sym has ∙ ap (λ n. n == l) s ∙ same_number l));
}

-- what is left of a link literal after its first dup
after_first : (st : StoreState) (b n l d k : ℕ) →
    IsContinued st d (seq_of (part (assign 0 b) (part (assign 1 n) (part (dup (l + 1)) no_part)))) k →
    IsContinued st d (after_link b n l l) k
after_first st b n l d k moved =
    let rest = part (assign 0 b) (part (assign 1 n) (part (dup (l + 1)) no_part)) in
    subst (λ c. IsContinued st d (if c then seq_of (part (if c then id_policy else drop_policy) rest) else (if l == (l + 1) then seq_of (part (after_dup (l + 1) l) no_part) else drop_policy)) k) (sym (same_number l))
    (cons_continued st d d k id_policy rest (unit_continued st d moved.id) moved)

-- and after its second one
after_second : (st : StoreState) (b n l k : ℕ) → IsId st k → IsContinued st k (after_link b n l (l + 1)) k
after_second st b n l k ik =
    let rest = part (assign 0 b) (part (assign 1 n) (part (dup (l + 1)) no_part)) in
    subst (λ c. IsContinued st k (if c then seq_of (part (after_dup l (l + 1)) rest) else (if (l + 1) == (l + 1) then seq_of (part (after_dup (l + 1) (l + 1)) no_part) else drop_policy)) k) (sym (next_number l))
    (subst (λ c. IsContinued st k (if c then seq_of (part (if c then id_policy else drop_policy) no_part) else drop_policy) k) (sym (same_number (l + 1)))
    (cons_continued st k k k id_policy no_part (unit_continued st k ik) (unit_continued st k ik)))

-- the states of a link literal's two dups
pub link_written : (st : StoreState) (states mid later : List ℕ) (base a m b n l d k : ℕ) → IsPut states mid base (l + 1) k →
    IsPut mid later base l d → IsId st k →
    IsContinued st d (seq_of (part (assign 0 b) (part (assign 1 n) (part (dup (l + 1)) no_part)))) k →
    AreWritten st states later base (link a m b n l) k
link_written st states mid later base a m b n l d k e f ik moved = record {
  count = put_count mid later base l d f ∙ put_count states mid base (l + 1) k e;
  states = λ fit x from place has.
      ⊎_elim
      (λ h. at_first x from place (same_from x l h))
      (λ h. at_second x from place (same_from x (l + 1) h))
      (or_cases (x == l) (x == (l + 1)) has);
  others = λ x from has.
      let none = both_false (x == l) (x == (l + 1)) has in
      put_there mid later base l x d f from (λ s. false_true (sym none.0 ∙ ap (λ i. i == l) s ∙ same_number l))
      ∙ put_there states mid base (l + 1) x k e from (λ s. false_true (sym none.1 ∙ ap (λ i. i == (l + 1)) s ∙ same_number (l + 1)));
}
  where
    at_first : (x : ℕ) → base ≤ x → x < base + length later → x ≡ l →
        IsContinued st (slice_index later (x - base)) (after_link b n l x) k
    at_first x from place same =
        let within : l < base + length mid = omega (arith, place, same, put_count mid later base l d f) in
        let state : slice_index later (l - base) ≡ d = put_here mid later base l d f (omega (arith, from, same)) within in
        subst (λ i. IsContinued st (slice_index later (i - base)) (after_link b n l i) k) (sym same)
        (subst (λ i. IsContinued st i (after_link b n l l) k) (sym state) (after_first st b n l d k moved))

    at_second : (x : ℕ) → base ≤ x → x < base + length later → x ≡ l + 1 →
        IsContinued st (slice_index later (x - base)) (after_link b n l x) k
    at_second x from place same =
        let within : l + 1 < base + length states = omega (arith, place, same, put_count mid later base l d f, put_count states mid base (l + 1) k e) in
        let state : slice_index later ((l + 1) - base) ≡ k =
        put_there mid later base l (l + 1) d f (omega (arith, from, same)) (λ s. omega (arith, s))
        ∙ put_here states mid base (l + 1) k e (omega (arith, from, same)) within in
        subst (λ i. IsContinued st (slice_index later (i - base)) (after_link b n l i) k) (sym same)
        (subst (λ i. IsContinued st i (after_link b n l (l + 1)) k) (sym state) (after_second st b n l k ik))

-- the states of a star, by those of its body, which goes on as the star
pub star_written : (st : StoreState) (states later : List ℕ) (base again k : ℕ) (p : Policy) →
    AreWritten st states later base p again → IsContinued st again (star_of p) k →
    AreWritten st states later base (star_of p) k
star_written st states later base again k p h loops = record {
  count = h.count;
  states = λ fit l from place has.
      cons_continued st (slice_index later (l - base)) again k (after p l) (part (star_of p) no_part) (h.states fit l from place has)
      (cons_continued st again k k (star_of p) no_part loops (unit_continued st k loops.next));
  others = h.others;
}

-- one more part in front of a sequence
pub seq_written : (st new : StoreState) (states mid later : List ℕ) (base rest k : ℕ) (p : Policy) (ps : Policies) → Grows st new →
    AreWritten st states mid base (seq_of ps) k → IsContinued st rest (seq_of ps) k → AreWritten new mid later base p rest →
    AreWritten new states later base (seq_of (part p ps)) k
seq_written st new states mid later base rest k p ps g following onward h = record {
  count = h.count ∙ following.count;
  states = λ fit l from place has. by fit l from place has (has_dup p l) refl;
  others = λ l from has.
      let none = both_false (has_dup p l) (some_has_dup ps l) has in
      h.others l from none.0 ∙ following.others l from none.1;
}
  where
    by : AllNegatePredicates (part p ps) → (l : ℕ) → base ≤ l → l < base + length later → has_dup p l || some_has_dup ps l ≡ true → (c : Bool) →
        has_dup p l ≡ c → IsContinued new (slice_index later (l - base)) (after_all (part p ps) l) k
    by fit l from place has true e =
        subst (λ c. IsContinued new (slice_index later (l - base)) (if c then seq_of (part (after p l) ps) else after_all ps l) k) (sym e)
        (cons_continued new (slice_index later (l - base)) rest k (after p l) ps (h.states fit.0 l from place e) (continued_grow st new rest (seq_of ps) k g onward))
    by fit l from place has false e =
        let in_rest : some_has_dup ps l ≡ true = ap (λ c. c || some_has_dup ps l) (sym e) ∙ has in
        subst (λ c. IsContinued new (slice_index later (l - base)) (if c then seq_of (part (after p l) ps) else after_all ps l) k) (sym e)
        (subst (λ d. IsContinued new d (after_all ps l) k) (sym (h.others l from e))
        (continued_grow st new (slice_index mid (l - base)) (after_all ps l) k g (following.states fit.1 l from (omega (arith, place, h.count)) in_rest)))

-- one more part in front of a sum
pub sum_written : (st new : StoreState) (states mid later : List ℕ) (base k : ℕ) (p : Policy) (ps : Policies) → Grows st new →
    AreWritten st states mid base (sum_of ps) k → AreWritten new mid later base p k →
    AreWritten new states later base (sum_of (part p ps)) k
sum_written st new states mid later base k p ps g following h = record {
  count = h.count ∙ following.count;
  states = λ fit l from place has. by fit l from place has (has_dup p l) refl;
  others = λ l from has.
      let none = both_false (has_dup p l) (some_has_dup ps l) has in
      h.others l from none.0 ∙ following.others l from none.1;
}
  where
    by : AllNegatePredicates (part p ps) → (l : ℕ) → base ≤ l → l < base + length later → has_dup p l || some_has_dup ps l ≡ true → (c : Bool) →
        has_dup p l ≡ c → IsContinued new (slice_index later (l - base)) (after_some (part p ps) l) k
    by fit l from place has true e =
        subst (λ c. IsContinued new (slice_index later (l - base)) (if c then after p l else after_some ps l) k) (sym e)
        (h.states fit.0 l from place e)
    by fit l from place has false e =
        let in_rest : some_has_dup ps l ≡ true = ap (λ c. c || some_has_dup ps l) (sym e) ∙ has in
        subst (λ c. IsContinued new (slice_index later (l - base)) (if c then after p l else after_some ps l) k) (sym e)
        (subst (λ d. IsContinued new d (after_some ps l) k) (sym (h.others l from e))
        (continued_grow st new (slice_index mid (l - base)) (after_some ps l) k g (following.states fit.1 l from (omega (arith, place, h.count)) in_rest)))
