-- The states of a policy's automaton, from the diagrams that were written.
use Rattle.std.proofs.Common.{◌≡◌, ◌≢◌, ℕ, zero, suc, ◌+◌, ◌-◌, ◌<◌, ◌≤◌, ◌⊎◌, inl, inr, ⊎_elim, Bool, true, false, List, [], ◌∷◌, length, refl, sym, ap, subst, ◌∙◌, arith, length-set, get_or-set_other, get_or-set_same}
use Rattle.std.specs.Prelude.{slice_index, slice_set, Contains, ◌==◌, if◌then◌else◌}
use Rattle.std.specs.List.{range_with_len}
use Rattle.std.proofs.lemmas.List.FromFn.{length-range_with_len, get_or-range_with_len}
use Rattle.nk_policy.specs.Policy.{Policy, Policies, assign, sum_of, seq_of, star_of, dup, link, no_part, part, dups_of, numbers_of, marked_from}
use Rattle.nk_policy.specs.Meaning.{Gives}
use Rattle.nk_policy.specs.Progress.{RecordsAt}
use Rattle.nk_policy.specs.After.{id_policy, drop_policy, has_dup, after, after_some, after_all, after_dup}
use Rattle.nk_policy.proofs.DupsOfRuns.{rest_dups}
use Rattle.nk_policy.proofs.Kept
use Rattle.nk_policy.proofs.Numbering.{number_within}
use Rattle.nk_policy.proofs.Remade.{numbers_are, marked_numbers}
use Rattle.nk_policy.proofs.Splitting.{holds_dup}
use Rattle.nk_policy.proofs.Tests.{false_where}
use Rattle.nk_store.specs.Nodes.{InRange}
use Rattle.nk_store.specs.StoreState.{StoreState, IsWhole, IsStorePacket, HasLeaves}
use Rattle.nk_store.proofs.Same.{set_in_range}
use Rattle.nk_apply.specs.Seqs.{no_out}
use Rattle.nk_apply.proofs.Members.{Has, contains_has}
use Rattle.nk_auto.specs.Automaton.{IsState, IsAutomaton}
use Rattle.nk_auto.specs.Complements.{NegatesPredicates, AllNegatePredicates}
use Rattle.nk_auto.specs.Continued.{IsFit, GoesOn, IsContinued, AreWritten}
use Rattle.nk_auto.specs.Plain.{Sends}
use Rattle.nk_auto.proofs.Sending.{out_of}
use Rattle.nk_auto.proofs.Silences.{out_sends, kept_out}
use Rattle.nk_auto.proofs.Ways.{gives_in_range}

-- a choice of two whose complements are of predicates
choice_negates : (c : Bool) (p q : Policy) → NegatesPredicates p → NegatesPredicates q → NegatesPredicates (if c then p else q)
choice_negates true p q a b = a
choice_negates false p q a b = b

-- what is left of a dup
dup_negates : (k l : ℕ) → NegatesPredicates (after_dup k l)
dup_negates k l = choice_negates (l == k) id_policy drop_policy tt tt

mutual
  -- the complements of what is left are of predicates too
  after_negates : (p : Policy) (l : ℕ) → NegatesPredicates p → NegatesPredicates (after p l)
  after_negates (sum_of ps) l h = after_some_negates ps l h
  after_negates (seq_of ps) l h = after_all_negates ps l h
  after_negates (star_of p) l h = (after_negates p l h, (h, tt))
  after_negates (dup k) l h = dup_negates k l
  after_negates (link a m b n k) l h =
      choice_negates
      (l == k)
      (seq_of (part (after_dup k l) (part (assign 0 b) (part (assign 1 n) (part (dup (k + 1)) no_part)))))
      (if l == (k + 1) then seq_of (part (after_dup (k + 1) l) no_part) else drop_policy)
      (dup_negates k l, (tt, (tt, (tt, tt))))
      (choice_negates (l == (k + 1)) (seq_of (part (after_dup (k + 1) l) no_part)) drop_policy (dup_negates (k + 1) l, tt) tt)
  after_negates p l h = tt

  -- of a sum
  after_some_negates : (ps : Policies) (l : ℕ) → AllNegatePredicates ps → NegatesPredicates (after_some ps l)
  after_some_negates no_part l h = tt
  after_some_negates (part p ps) l h =
      choice_negates (has_dup p l) (after p l) (after_some ps l) (after_negates p l h.0) (after_some_negates ps l h.1)

  -- of a sequence
  after_all_negates : (ps : Policies) (l : ℕ) → AllNegatePredicates ps → NegatesPredicates (after_all ps l)
  after_all_negates no_part l h = tt
  after_all_negates (part p ps) l h =
      choice_negates (has_dup p l) (seq_of (part (after p l) ps)) (after_all ps l) (after_negates p l h.0, h.1) (after_all_negates ps l h.1)

-- what is left of a fit policy is fit
pub after_fit : (maxes : List ℕ) (p : Policy) (l : ℕ) → IsFit maxes p → IsFit maxes (after p l)
after_fit maxes p l fit = (
  after_negates p l fit.0,
  Kept.after_assigns (λ f n. n ≤ slice_index maxes f) (λ x. InRange maxes x) (λ x f n le r. set_in_range maxes x f n r le) p l fit.1,
)

-- a diagram that passes each packet sends it as it is, to target 0
passes : (st : StoreState) (e : ℕ) (z y : List ℕ) (t : ℕ) → HasLeaves st e (λ pk. no_out ∷ []) → IsWhole z → Sends st e z y t →
    (t ≡ 0) × (y ≡ z)
passes st e z y t h w s =
    let m : Has (no_out ∷ []) (out_of s.0 t) = subst (λ os. Has os (out_of s.0 t)) (h.leaf z w) (contains_has _ _ s.1) in
    kept_out s.0 t z y (⊎_elim (λ k. k) (λ n. absurd n) m) s.2

-- what a policy does before the diagram that passes each packet: it ends, or it records
pub goes_to : (st : StoreState) (e : ℕ) (p : Policy) (pk y : List ℕ) (t : ℕ) → HasLeaves st e (λ pk. no_out ∷ []) → IsFit st.maxes p →
    IsStorePacket st pk → GoesOn st p e pk y t → ((t ≡ 0) × Gives p pk [] y) ⊎ RecordsAt p pk [] y t
goes_to st e p pk y t h fit pk_in s =
    ⊎_elim
    (λ g.
    let q = passes st e g.0 y t h (gives_in_range st.maxes p fit.1 pk g.0 g.1 pk_in).0 g.2 in
    inl (q.0, subst (λ x. Gives p pk [] x) (sym q.1) g.1))
    (λ r. inr r)
    s

-- a policy that has no dup 0, continued by the diagram that passes each packet, is a state
pub state_is : (st : StoreState) (d e : ℕ) (p : Policy) → HasLeaves st e (λ pk. no_out ∷ []) → IsFit st.maxes p →
    has_dup p 0 ≡ false → IsContinued st d p e → IsState st d p
state_is st d e p h fit none c = record {
  id = c.id;
  ends = λ pk y pk_in. (
    λ s. ⊎_elim (λ g. g.1) (λ r. absurd (no_record pk y r)) (goes_to st e p pk y 0 h fit pk_in ((c.sends fit pk y 0 pk_in).0 s)),
    λ g.
        let passed : Sends st e y y 0 = out_sends st e (λ q. no_out ∷ []) y [] 0 h (gives_in_range st.maxes p fit.1 pk y g pk_in).0 (inl refl) in
        (c.sends fit pk y 0 pk_in).1 (inl (y, g, passed)),
  );
  records = λ pk y l pk_in from. (
    λ s. ⊎_elim (λ g. absurd (omega (arith, g.0, from))) (λ r. r) (goes_to st e p pk y l h fit pk_in ((c.sends fit pk y l pk_in).0 s)),
    λ r. (c.sends fit pk y l pk_in).1 (inr r),
  );
}
  where
    no_record : (pk y : List ℕ) → RecordsAt p pk [] y 0 → ⊥
    no_record pk y r = let e : false ≡ true = sym none ∙ holds_dup p pk [] y 0 r in cc

-- a policy that is numbered from first on has the dups from there on
pub label_within : (p : Policy) (first l : ℕ) → marked_from p first ≡ p → has_dup p l ≡ true →
    (first ≤ l) × (l < first + dups_of p)
label_within p first l e has = number_within p first l (ap (λ q. has_dup q l) e ∙ has)

-- each of them
label_held : (p : Policy) (first i : ℕ) → marked_from p first ≡ p → i < dups_of p → has_dup p (first + i) ≡ true
label_held p first i e lt =
    let listed : numbers_of p ≡ range_with_len first (dups_of p) = ap numbers_of (sym e) ∙ marked_numbers p first in
    let here : Contains (range_with_len first (dups_of p)) (first + i) =
    (i, subst (λ n. i < n) (sym (length-range_with_len first (dups_of p))) lt, get_or-range_with_len first (dups_of p) i (first + i) lt) in
    (numbers_are p (first + i)).0 (subst (λ ns. Contains ns (first + i)) (sym listed) here)

-- a policy and what is left of it have no dup 0 where numbers begin later
pub no_zero : (p q : Policy) (first : ℕ) → 1 ≤ first → marked_from p first ≡ p → (has_dup q 0 ≡ true → has_dup p 0 ≡ true) →
    has_dup q 0 ≡ false
no_zero p q first from e rest = false_where (has_dup q 0) (λ h. let w = label_within p first 0 e (rest h) in omega (arith, w.0, from))

-- where a state's outs lead
state_leads : (st : StoreState) (d : ℕ) (p q : Policy) (first : ℕ) → marked_from p first ≡ p →
    ((l : ℕ) → has_dup q l ≡ true → has_dup p l ≡ true) → IsState st d q → (pk y : List ℕ) (t : ℕ) → IsStorePacket st pk →
    Sends st d pk y t → (t ≡ 0) ⊎ ((first ≤ t) × (t < first + dups_of p))
state_leads st d p q first numbered rest h pk y zero pk_in s = inl refl
state_leads st d p q first numbered rest h pk y (suc t) pk_in s =
    inr (label_within p first (suc t) numbered (rest (suc t) (holds_dup q pk [] y (suc t) ((h.records pk y (suc t) pk_in (omega arith)).0 s))))

-- the states of the start and of what is left after each dup are the automaton
pub states_are : (st : StoreState) (all : List ℕ) (first : ℕ) (p : Policy) → marked_from p first ≡ p → length all ≡ 1 + dups_of p →
    IsState st (slice_index all 0) p →
    ((i : ℕ) → i < dups_of p → IsState st (slice_index all (1 + i)) (after p (first + i))) → IsAutomaton st all first p
states_are st all first p numbered many begun rest = record {
  count = many;
  labels = λ i lt. label_held p first i numbered lt;
  start = begun;
  rest = rest;
  targets = λ i pk y t lt pk_in s. place i lt pk y t pk_in s;
}
  where
    place : (i : ℕ) → i < length all → (pk y : List ℕ) (t : ℕ) → IsStorePacket st pk → Sends st (slice_index all i) pk y t →
        (t ≡ 0) ⊎ ((first ≤ t) × (t < first + dups_of p))
    place zero lt pk y t pk_in s = state_leads st (slice_index all 0) p p first numbered (λ l k. k) begun pk y t pk_in s
    place (suc i) lt pk y t pk_in s =
        let within : i < dups_of p = omega (arith, lt, many) in
        let same : suc i ≡ 1 + i = omega arith in
        state_leads st (slice_index all (1 + i)) p (after p (first + i)) first numbered (λ l k. rest_dups p (first + i) l k) (rest i within) pk y t pk_in
        (subst (λ n. Sends st (slice_index all n) pk y t) same s)

-- they and the start are the automaton
pub automaton_is : (st : StoreState) (blank states all : List ℕ) (first start e : ℕ) (p : Policy) → 1 ≤ first →
    marked_from p first ≡ p → length blank ≡ dups_of p + 1 → AreWritten st blank states (first - 1) p e →
    IsContinued st start p e → HasLeaves st e (λ pk. no_out ∷ []) → all ≡ slice_set states 0 start → IsFit st.maxes p →
    IsAutomaton st all first p
automaton_is st blank states all first start e p from numbered many written begun h put fit =
    states_are st all first p numbered length_is
    (subst (λ d. IsState st d p) (sym first_is) (state_is st start e p h fit (no_zero p p first from numbered (λ k. k)) begun))
    (λ i lt. state_is st (slice_index all (1 + i)) e (after p (first + i)) h (after_fit st.maxes p (first + i) fit) (no_zero p (after p (first + i)) first from numbered (λ k. rest_dups p (first + i) 0 k)) (state i lt))
  where
    length_is : length all ≡ 1 + dups_of p
    length_is = ap length put ∙ length-set states 0 start ∙ written.count ∙ many ∙ omega arith

    first_is : slice_index all 0 ≡ start
    first_is = ap (λ r. slice_index r 0) put ∙ get_or-set_same states 0 start 0 (omega (arith, written.count, many))

    state : (i : ℕ) → i < dups_of p → IsContinued st (slice_index all (1 + i)) (after p (first + i)) e
    state i lt =
        let has = label_held p first i numbered lt in
        let at : (first + i) - (first - 1) ≡ 1 + i = omega (arith, from) in
        let apart : (1 + i) ≢ 0 = λ s. omega (arith, s) in
        let kept : slice_index all (1 + i) ≡ slice_index states (1 + i) = ap (λ r. slice_index r (1 + i)) put ∙ get_or-set_other states 0 (1 + i) start 0 apart in
        subst (λ d. IsContinued st d (after p (first + i)) e) (ap (λ n. slice_index states n) at ∙ sym kept)
        (written.states fit.0 (first + i) (omega (arith, from)) (omega (arith, from, lt, many, written.count)) has)
