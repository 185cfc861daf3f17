-- Runs without a record, and first records, of policies that are put together.
use Rattle.std.proofs.Common.{◌≡◌, ℕ, suc, ◌≤◌, ◌⊎◌, inl, inr, ⊎_elim, true, false, List, [], ◌∷◌, refl, sym, ap, subst, ◌∙◌, arith}
use Rattle.std.specs.Prelude.{slice_index, ◌||◌}
use Rattle.std.proofs.lemmas.List.Elements.{All-contains, Contains-push}
use Rattle.nk_policy.specs.Policy.{Policy, Policies, sum_of, seq_of, not_of, star_of, dup, link, no_part, part, is_predicate, are_predicates, dups_of, dups_of_all}
use Rattle.nk_policy.specs.Meaning.{Gives, way_of, rounds}
use Rattle.nk_policy.specs.Progress.{Marked, numbered, RecordsAt, SomeRecordsAt, AllRecordAt}
use Rattle.nk_policy.specs.After.{has_dup, some_has_dup}
use Rattle.nk_policy.proofs.DupsOfRuns.{front_dups}
use Rattle.nk_policy.proofs.Kept
use Rattle.nk_policy.proofs.ListParts.{map_empty, none_left, none_right}
use Rattle.nk_policy.proofs.Marks.{ways_agree}
use Rattle.nk_policy.proofs.Tests.{false_true, both_true, or_cases}
use Rattle.nk_store.specs.Nodes.{InRange}
use Rattle.nk_store.proofs.Same.{set_in_range}
use Rattle.nk_auto.specs.Plain.{AssignsWithin}

-- a packet that a run records, without its number
abbrev plain : List ℕ × ℕ → List ℕ
plain r = r.0

-- a run without a record has no numbers to forget
pub gives_run : (p : Policy) (pk y : List ℕ) → Gives p pk [] y → way_of p numbered pk [] y
gives_run p pk y g =
    let r = (ways_agree plain numbered p pk y).1 [] g in
    subst (λ v. way_of p numbered pk v y) (map_empty plain r.0 r.1) r.2

-- and is one of the policy's
pub run_gives : (p : Policy) (pk y : List ℕ) → way_of p numbered pk [] y → Gives p pk [] y
run_gives p pk y r = (ways_agree plain numbered p pk y).0 [] r

-- a run of a policy in range ends in range
pub run_in_range : (maxes : List ℕ) (p : Policy) → AssignsWithin maxes p → (pk : List ℕ) (w : Marked) (y : List ℕ) →
    way_of p numbered pk w y → InRange maxes pk → InRange maxes y
run_in_range maxes p within =
    Kept.ways_keep (λ f n. n ≤ slice_index maxes f) (λ x. InRange maxes x) (λ x f n le r. set_in_range maxes x f n r le) p within

-- and so does one without a record
pub gives_in_range : (maxes : List ℕ) (p : Policy) → AssignsWithin maxes p → (pk y : List ℕ) → Gives p pk [] y →
    InRange maxes pk → InRange maxes y
gives_in_range maxes p within pk y g = run_in_range maxes p within pk [] y (gives_run p pk y g)

-- a sequence ends where its parts after the first end from where the first one ends
pub gives_cons : (p : Policy) (ps : Policies) (pk y : List ℕ) → Gives (seq_of (part p ps)) pk [] y →
    (z : List ℕ) × Gives p pk [] z × Gives (seq_of ps) z [] y
gives_cons p ps pk y g = (
  g.2,
  subst (λ w. Gives p pk w g.2) (none_left g.0 g.1 g.3) g.4,
  subst (λ w. Gives (seq_of ps) g.2 w y) (none_right g.0 g.1 g.3) g.5,
)

-- and there it ends
pub cons_gives : (p : Policy) (ps : Policies) (pk z y : List ℕ) → Gives p pk [] z → Gives (seq_of ps) z [] y →
    Gives (seq_of (part p ps)) pk [] y
cons_gives p ps pk z y a b = ([], [], z, refl, a, b)

-- a sequence records first what its first part does, or what the parts after it do from where that one ends
pub records_cons : (p : Policy) (ps : Policies) (pk y : List ℕ) (t : ℕ) → AllRecordAt (part p ps) pk [] y t →
    RecordsAt p pk [] y t ⊎ ((z : List ℕ) × Gives p pk [] z × AllRecordAt ps z [] y t)
records_cons p ps pk y t r =
    ⊎_elim
    (λ a. inl a)
    (λ b. inr (
      b.2,
      run_gives p pk b.2 (subst (λ w. way_of p numbered pk w b.2) (none_left b.0 b.1 b.3) b.4),
      subst (λ w. AllRecordAt ps b.2 w y t) (none_right b.0 b.1 b.3) b.5,
    ))
    r

-- and that it records
pub cons_records : (p : Policy) (ps : Policies) (pk z y : List ℕ) (t : ℕ) → Gives p pk [] z → AllRecordAt ps z [] y t →
    AllRecordAt (part p ps) pk [] y t
cons_records p ps pk z y t a b = inr ([], [], z, refl, gives_run p pk z a, b)

-- a round that records nothing, and then more of them
pub gives_round : (p : Policy) (n : ℕ) (pk y : List ℕ) → rounds (suc n) (way_of p (λ l x. x)) pk [] y →
    (z : List ℕ) × Gives p pk [] z × rounds n (way_of p (λ l x. x)) z [] y
gives_round p n pk y g = (
  g.2,
  subst (λ w. Gives p pk w g.2) (none_left g.0 g.1 g.3) g.4,
  subst (λ w. rounds n (way_of p (λ l x. x)) g.2 w y) (none_right g.0 g.1 g.3) g.5,
)

-- a star records first what its body does after some rounds without a record
pub records_star : (p : Policy) (pk y : List ℕ) (t : ℕ) → RecordsAt (star_of p) pk [] y t →
    (z : List ℕ) × Gives (star_of p) pk [] z × RecordsAt p z [] y t
records_star p pk y t r =
    ⊎_elim
    (λ a. absurd a)
    (λ b. (
      b.2,
      run_gives (star_of p) pk b.2 (r.0, subst (λ w. rounds r.0 (way_of p numbered) pk w b.2) (none_left b.0 b.1 b.3) b.4),
      subst (λ w. RecordsAt p b.2 w y t) (none_right b.0 b.1 b.3) b.5,
    ))
    r.1

-- and that it records
pub star_records : (p : Policy) (pk z y : List ℕ) (t : ℕ) → Gives (star_of p) pk [] z → RecordsAt p z [] y t →
    RecordsAt (star_of p) pk [] y t
star_records p pk z y t g r =
    let w = gives_run (star_of p) pk z g in
    (w.0, inr ([], [], z, refl, w.1, r))

mutual
  -- a predicate has no dup
  pub predicate_holds_none : (p : Policy) (l : ℕ) → is_predicate p ≡ true → has_dup p l ≡ true → ⊥
  predicate_holds_none (sum_of ps) l h k = predicates_hold_none ps l h k
  predicate_holds_none (seq_of ps) l h k = predicates_hold_none ps l h k
  predicate_holds_none (not_of p) l h k = predicate_holds_none p l h k
  predicate_holds_none p l h k = cc

  -- nor do several
  predicates_hold_none : (ps : Policies) (l : ℕ) → are_predicates ps ≡ true → some_has_dup ps l ≡ true → ⊥
  predicates_hold_none no_part l h k = cc
  predicates_hold_none (part p ps) l h k =
      let b = both_true (is_predicate p) (are_predicates ps) h in
      ⊎_elim
      (λ e. predicate_holds_none p l b.0 e)
      (λ e. predicates_hold_none ps l b.1 e)
      (or_cases (has_dup p l) (some_has_dup ps l) k)

mutual
  -- a predicate records nothing
  pub predicate_records_none : (p : Policy) → is_predicate p ≡ true → (pk : List ℕ) (u : Marked) (x : List ℕ)
      (l : ℕ) → RecordsAt p pk u x l → ⊥
  predicate_records_none (sum_of ps) h pk u x l r = predicates_record_none ps h pk u x l r
  predicate_records_none (seq_of ps) h pk u x l r = predicates_never_record ps h pk u x l r
  predicate_records_none (star_of p) h pk u x l r = cc
  predicate_records_none (dup k) h pk u x l r = cc
  predicate_records_none (link a m b n k) h pk u x l r = cc
  predicate_records_none p h pk u x l r = absurd r

  -- nor does one of several
  predicates_record_none : (ps : Policies) → are_predicates ps ≡ true → (pk : List ℕ) (u : Marked) (x : List ℕ)
      (l : ℕ) → SomeRecordsAt ps pk u x l → ⊥
  predicates_record_none no_part h pk u x l r = absurd r
  predicates_record_none (part p ps) h pk u x l r =
      let b = both_true (is_predicate p) (are_predicates ps) h in
      ⊎_elim (λ s. predicate_records_none p b.0 pk u x l s) (λ s. predicates_record_none ps b.1 pk u x l s) r

  -- nor do several in turn
  predicates_never_record : (ps : Policies) → are_predicates ps ≡ true → (pk : List ℕ) (u : Marked) (x : List ℕ)
      (l : ℕ) → AllRecordAt ps pk u x l → ⊥
  predicates_never_record no_part h pk u x l r = absurd r
  predicates_never_record (part p ps) h pk u x l r =
      let b = both_true (is_predicate p) (are_predicates ps) h in
      ⊎_elim (λ s. predicate_records_none p b.0 pk u x l s) (λ s. predicates_never_record ps b.1 s.2 s.1 x l s.5) r

-- a policy of which no dup is counted holds none
mutual
  pub no_dup : (p : Policy) (l : ℕ) → dups_of p ≡ 0 → has_dup p l ≡ false
  no_dup (sum_of ps) l none = no_dup_among ps l none
  no_dup (seq_of ps) l none = no_dup_among ps l none
  no_dup (not_of p) l none = no_dup p l none
  no_dup (star_of p) l none = no_dup p l none
  no_dup (dup k) l none = absurd (omega (arith, none))
  no_dup (link a m b n k) l none = absurd (omega (arith, none))
  no_dup p l none = refl

  no_dup_among : (ps : Policies) (l : ℕ) → dups_of_all ps ≡ 0 → some_has_dup ps l ≡ false
  no_dup_among no_part l none = refl
  no_dup_among (part p ps) l none =
      ap (λ c. c || some_has_dup ps l) (no_dup p l (omega (arith, none))) ∙ no_dup_among ps l (omega (arith, none))

-- and records nothing
pub dupless_records_none : (p : Policy) → dups_of p ≡ 0 → (pk y : List ℕ) (l : ℕ) → RecordsAt p pk [] y l → ⊥
dupless_records_none p none pk y l r =
    let held = All-contains (λ q. has_dup p q.1 ≡ true) ((y, l) ∷ []) (y, l) (front_dups p pk [] y l r) (Contains-push [] (y, l)) in
    false_true (sym (no_dup p l none) ∙ held)
