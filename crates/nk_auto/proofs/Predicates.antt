-- What a predicate does: it keeps the packet, records nothing and assigns nothing.
use Rattle.std.proofs.Common.{◌≡◌, ℕ, Bool, true, false, ◌&&◌, ⊎_elim, List, [], ◌++◌, refl, ap, ◌∙◌}
use Rattle.nk_policy.specs.Policy.{Policy, Policies, test, range, sum_of, seq_of, not_of, no_part, part, is_predicate, are_predicates}
use Rattle.nk_policy.specs.Meaning.{way_of, some_way_of, way_of_all}
use Rattle.nk_policy.specs.Ranges.{AssignsOnly, AllAssignOnly}

-- both parts of a conjunction that holds
both_hold : (a b : Bool) → a && b ≡ true → (a ≡ true) × (b ≡ true)
both_hold true b e = (refl, e)
both_hold false b e = cc

module _ {A : Type 0} (mark : ℕ → List ℕ → A) where
  mutual
    -- a predicate keeps the packet and records nothing
    pub predicate_keeps : (p : Policy) → is_predicate p ≡ true → (pk : List ℕ) (w : List A) (y : List ℕ) →
        way_of p mark pk w y → (w ≡ []) × (y ≡ pk)
    predicate_keeps (test f n) h pk w y r = (r.1, r.2)
    predicate_keeps (range f lo hi) h pk w y r = (r.2, r.3)
    predicate_keeps (sum_of ps) h pk w y r = some_predicate_keeps ps h pk w y r
    predicate_keeps (seq_of ps) h pk w y r = predicates_keep ps h pk w y r
    predicate_keeps (not_of p) h pk w y r = r.0
    predicate_keeps p h pk w y r = cc

    -- so does a sum of predicates
    some_predicate_keeps : (ps : Policies) → are_predicates ps ≡ true →
        (pk : List ℕ) (w : List A) (y : List ℕ) →
        some_way_of ps mark pk w y → (w ≡ []) × (y ≡ pk)
    some_predicate_keeps no_part h pk w y r = absurd r
    some_predicate_keeps (part p ps) h pk w y r =
        let b = both_hold (is_predicate p) (are_predicates ps) h in
        ⊎_elim (λ s. predicate_keeps p b.0 pk w y s) (λ s. some_predicate_keeps ps b.1 pk w y s) r

    -- so does a sequence of predicates
    predicates_keep : (ps : Policies) → are_predicates ps ≡ true → (pk : List ℕ) (w : List A) (y : List ℕ) →
        way_of_all ps mark pk w y → (w ≡ []) × (y ≡ pk)
    predicates_keep no_part h pk w y r = r
    predicates_keep (part p ps) h pk w y r =
        let b = both_hold (is_predicate p) (are_predicates ps) h in
        let first = predicate_keeps p b.0 pk r.0 r.2 r.4 in
        let rest = predicates_keep ps b.1 r.2 r.1 y r.5 in
        (r.3 ∙ ap (λ u. u ++ r.1) first.0 ∙ rest.0, rest.1 ∙ first.1)

mutual
  -- a predicate assigns nothing
  pub predicate_assigns : (Allowed : ℕ → ℕ → Type 0) (p : Policy) → is_predicate p ≡ true →
      AssignsOnly Allowed p
  predicate_assigns Allowed (test f n) h = tt
  predicate_assigns Allowed (range f lo hi) h = tt
  predicate_assigns Allowed (sum_of ps) h = predicates_assign Allowed ps h
  predicate_assigns Allowed (seq_of ps) h = predicates_assign Allowed ps h
  predicate_assigns Allowed (not_of p) h = tt
  predicate_assigns Allowed p h = cc

  -- nor do several predicates
  predicates_assign : (Allowed : ℕ → ℕ → Type 0) (ps : Policies) → are_predicates ps ≡ true →
      AllAssignOnly Allowed ps
  predicates_assign Allowed no_part h = tt
  predicates_assign Allowed (part p ps) h =
      let b = both_hold (is_predicate p) (are_predicates ps) h in
      (predicate_assigns Allowed p b.0, predicates_assign Allowed ps b.1)
