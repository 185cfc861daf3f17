-- A predicate keeps the packet and records nothing.
use Rattle.std.proofs.Common.{◌≡◌, ℕ, true, ⊎_elim, List, [], ◌++◌, ap, ◌∙◌}
use Rattle.nk_field.specs.declared.packet.Packet.{Packet}
use Rattle.nk_policy.specs.Policy.{Policy, Policies, test, range, sum_of, seq_of, not_of, no_part, part, is_predicate, are_predicates}
use Rattle.nk_policy.specs.Meaning.{way_of, some_way_of, way_of_all}
use Rattle.nk_policy.proofs.Tests.{both_true}

module _ {A : Type 0} (mark : ℕ → Packet → A) where
  mutual
    -- a predicate
    pub predicate_keeps : (p : Policy) → is_predicate p ≡ true
        → (pk : Packet) (w : List A) (y : Packet) → way_of p mark pk w y → (w ≡ []) × (y ≡ pk)
    predicate_keeps (test f n) h pk w y r = (r.1, r.2)
    predicate_keeps (range f lo hi) h pk w y r = (r.2, r.3)
    predicate_keeps (sum_of ps) h pk w y r = some_predicate_keeps ps h pk w y r
    predicate_keeps (seq_of ps) h pk w y r = predicates_keep ps h pk w y r
    predicate_keeps (not_of p) h pk w y r = r.0
    predicate_keeps p h pk w y r = cc

    -- a sum of predicates
    pub some_predicate_keeps : (ps : Policies) → are_predicates ps ≡ true
        → (pk : Packet) (w : List A) (y : Packet) → some_way_of ps mark pk w y → (w ≡ []) × (y ≡ pk)
    some_predicate_keeps no_part h pk w y r = absurd r
    some_predicate_keeps (part p ps) h pk w y r =
        let b = both_true (is_predicate p) (are_predicates ps) h in
        ⊎_elim (λ s. predicate_keeps p b.0 pk w y s) (λ s. some_predicate_keeps ps b.1 pk w y s) r

    -- a sequence of predicates
    pub predicates_keep : (ps : Policies) → are_predicates ps ≡ true
        → (pk : Packet) (w : List A) (y : Packet) → way_of_all ps mark pk w y → (w ≡ []) × (y ≡ pk)
    predicates_keep no_part h pk w y r = r
    predicates_keep (part p ps) h pk w y r =
        let b = both_true (is_predicate p) (are_predicates ps) h in
        let first = predicate_keeps p b.0 pk r.0 r.2 r.4 in
        let rest = predicates_keep ps b.1 r.2 r.1 y r.5 in
        (r.3 ∙ ap (λ u. u ++ r.1) first.0 ∙ rest.0, rest.1 ∙ first.1)
