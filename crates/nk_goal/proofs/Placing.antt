-- Places of entries: where a set's entry stands, after packets were put under a set.
use Rattle.std.proofs.Common.{◌≡◌, inl, inr, ℕ, ◌+◌, ◌<◌, cond, Option, Some, None, IfSome, List, [], ◌∷◌, ◌++◌, length, get_or, suc, zero, refl, sym, ap, subst, ◌∙◌, arith, rules, eqb}
use Rattle.std.specs.Prelude.{slice_set}
use Rattle.std.specs.List.{position_from}
use Rattle.std.specs.Map.{lookup}
use Rattle.std.proofs.lemmas.Bool.Decides.{eqb_tells}
use Rattle.nk_goal.specs.Entries.{with_packets}

-- what is found is one thing
some_is : (i k : ℕ) → Some i ≡ Some k → i ≡ k
some_is i k h = cc

-- what is found at a place
pub record IsFoundAt (t : ℕ) (ps : List (ℕ × ℕ)) (j : ℕ) : Type 0 where
  pub within : j < length ps
  pub found : (d : ℕ × ℕ) → lookup (eqb t) ps ≡ Some (get_or ps j d).1
  pub put : (v : ℕ) → slice_set ps j (t, v) ≡ with_packets ps t v
  pub stay : (v q i : ℕ) → position_from (λ p. eqb q p.0) i (with_packets ps t v) ≡ position_from (λ p. eqb q p.0) i ps

-- a set that is found has its entry there
pub found_at : (t : ℕ) (ps : List (ℕ × ℕ)) (i k : ℕ) → position_from (λ p. eqb t p.0) i ps ≡ Some k → (j : ℕ) × (k ≡ i + j) × IsFoundAt t ps j
found_at t [] i k h = absurd cc
found_at t (p ∷ ps) i k h = elim (eqb_tells t p.0) [
  | inl same ↦
      let here : Some i ≡ Some k = sym (ap (λ b. cond b (Some i) (position_from (λ q. eqb t q.0) (i + 1) ps)) same.0) ∙ h in (
        zero,
        omega (arith, some_is i k here),
        record {
          within = omega arith;
          found = λ d. ap (λ b. cond b (Some p.1) (lookup (eqb t) ps)) same.0;
          put = λ v. ap (λ (x : ℕ). (x, v) ∷ ps) same.1 ∙ sym (ap (λ b. cond b ((p.0, v) ∷ ps) (p ∷ with_packets ps t v)) same.0);
          stay = λ v q n. ap (λ b. position_from (λ r. eqb q r.0) n (cond b ((p.0, v) ∷ ps) (p ∷ with_packets ps t v))) same.0;
        },
      )
  | inr other ↦
      let w = found_at t ps (i + 1) k (sym (ap (λ b. cond b (Some i) (position_from (λ q. eqb t q.0) (i + 1) ps)) other.0) ∙ h) in (
        suc w.0,
        omega (arith, w.1),
        record {
          within = omega (arith, w.2.within);
          found = λ d. ap (λ b. cond b (Some p.1) (lookup (eqb t) ps)) other.0 ∙ w.2.found d;
          put = λ v. ap (λ (l : List (ℕ × ℕ)). p ∷ l) (w.2.put v) ∙ sym (ap (λ b. cond b ((p.0, v) ∷ ps) (p ∷ with_packets ps t v)) other.0);
          stay = λ v q n.
              ap (λ b. position_from (λ r. eqb q r.0) n (cond b ((p.0, v) ∷ ps) (p ∷ with_packets ps t v))) other.0
              ∙ ap (λ o. cond (eqb q p.0) (Some n) o) (w.2.stay v q (n + 1));
        },
      )
]

-- the same, where places count from the front
pub found_here : (t : ℕ) (ps : List (ℕ × ℕ)) (k : ℕ) → position_from (λ p. eqb t p.0) 0 ps ≡ Some k → IsFoundAt t ps k
found_here t ps k h = let w = found_at t ps 0 k h in subst (IsFoundAt t ps) (omega (arith, w.1)) w.2

-- a place that is found is one of the list
pub found_within : (t : ℕ) (ps : List (ℕ × ℕ)) (o : Option ℕ) → o ≡ position_from (λ p. eqb t p.0) 0 ps → IfSome o (λ k. k < length ps)
found_within t ps None h = search rules
found_within t ps (Some k) h = let lt : k < length ps = (found_here t ps k (sym h)).within in search rules

-- a set that isn't found has no packets
pub no_packets : (t : ℕ) (ps : List (ℕ × ℕ)) (i : ℕ) → position_from (λ p. eqb t p.0) i ps ≡ None → lookup (eqb t) ps ≡ None
no_packets t [] i h = refl
no_packets t (p ∷ ps) i h = elim (eqb_tells t p.0) [
  | inl same ↦
      let z : Some i ≡ None = sym (ap (λ b. cond b (Some i) (position_from (λ q. eqb t q.0) (i + 1) ps)) same.0) ∙ h in absurd cc
  | inr other ↦
      ap (λ b. cond b (Some p.1) (lookup (eqb t) ps)) other.0
      ∙ no_packets t ps (i + 1) (sym (ap (λ b. cond b (Some i) (position_from (λ q. eqb t q.0) (i + 1) ps)) other.0) ∙ h)
]

-- its packets come last
pub put_last : (t v : ℕ) (ps : List (ℕ × ℕ)) (i : ℕ) → position_from (λ p. eqb t p.0) i ps ≡ None → ps ++ (t, v) ∷ [] ≡ with_packets ps t v
put_last t v [] i h = refl
put_last t v (p ∷ ps) i h = elim (eqb_tells t p.0) [
  | inl same ↦
      let z : Some i ≡ None = sym (ap (λ b. cond b (Some i) (position_from (λ q. eqb t q.0) (i + 1) ps)) same.0) ∙ h in absurd cc
  | inr other ↦
      ap (λ (l : List (ℕ × ℕ)). p ∷ l) (put_last t v ps (i + 1) (sym (ap (λ b. cond b (Some i) (position_from (λ q. eqb t q.0) (i + 1) ps)) other.0) ∙ h))
      ∙ sym (ap (λ b. cond b ((p.0, v) ∷ ps) (p ∷ with_packets ps t v)) other.0)
]

-- the places after an entry of a new set
pub placed_last : (t v q : ℕ) (ps : List (ℕ × ℕ)) (i : ℕ) → position_from (λ p. eqb t p.0) i ps ≡ None
    → position_from (λ p. eqb q p.0) i (ps ++ (t, v) ∷ []) ≡ cond (eqb t q) (Some (i + length ps)) (position_from (λ p. eqb q p.0) i ps)
placed_last t v q [] i h = elim (eqb_tells t q) [
  | inl same ↦ elim (eqb_tells q t) [
    | inl back ↦ ap (λ b. cond b (Some i) None) back.0 ∙ ap Some (omega arith) ∙ sym (ap (λ b. cond b (Some (i + 0)) None) same.0)
    | inr unlike ↦ absurd (unlike.1 (sym same.1))
  ]
  | inr other ↦ elim (eqb_tells q t) [
    | inl back ↦ absurd (other.1 (sym back.1))
    | inr unlike ↦ ap (λ b. cond b (Some i) None) unlike.0 ∙ sym (ap (λ b. cond b (Some (i + 0)) None) other.0)
  ]
]
placed_last t v q (p ∷ ps) i h = elim (eqb_tells t p.0) [
  | inl found ↦
      let z : Some i ≡ None = sym (ap (λ b. cond b (Some i) (position_from (λ r. eqb t r.0) (i + 1) ps)) found.0) ∙ h in absurd cc
  | inr missing ↦
      let later = placed_last t v q ps (i + 1) (sym (ap (λ b. cond b (Some i) (position_from (λ r. eqb t r.0) (i + 1) ps)) missing.0) ∙ h) in
      let count : (i + 1) + length ps ≡ i + suc (length ps) = omega arith in
      elim (eqb_tells q p.0) [
        | inl here ↦ elim (eqb_tells t q) [
          | inl same ↦ absurd (missing.1 (same.1 ∙ here.1))
          | inr other ↦
              ap (λ b. cond b (Some i) (position_from (λ r. eqb q r.0) (i + 1) (ps ++ (t, v) ∷ []))) here.0
              ∙ sym (ap (λ b. cond b (Some i) (position_from (λ r. eqb q r.0) (i + 1) ps)) here.0)
              ∙ sym (ap (λ b. cond b (Some (i + suc (length ps))) (cond (eqb q p.0) (Some i) (position_from (λ r. eqb q r.0) (i + 1) ps))) other.0)
        ]
        | inr there ↦
            ap (λ b. cond b (Some i) (position_from (λ r. eqb q r.0) (i + 1) (ps ++ (t, v) ∷ []))) there.0
            ∙ later
            ∙ ap (λ n. cond (eqb t q) (Some n) (position_from (λ r. eqb q r.0) (i + 1) ps)) count
            ∙ sym (ap (λ b. cond (eqb t q) (Some (i + suc (length ps))) (cond b (Some i) (position_from (λ r. eqb q r.0) (i + 1) ps))) there.0)
      ]
]

-- the same, where places count from the front
pub placed_new : (t v q : ℕ) (ps : List (ℕ × ℕ)) → position_from (λ p. eqb t p.0) 0 ps ≡ None
    → position_from (λ p. eqb q p.0) 0 (ps ++ (t, v) ∷ []) ≡ cond (eqb t q) (Some (length ps)) (position_from (λ p. eqb q p.0) 0 ps)
placed_new t v q ps h = placed_last t v q ps 0 h ∙ ap (λ n. cond (eqb t q) (Some n) (position_from (λ p. eqb q p.0) 0 ps)) (omega arith)

-- the packets of the entry at a place that is found
pub packets_at_place : (t : ℕ) (ps qs : List (ℕ × ℕ)) (k : ℕ) (x : ℕ × ℕ) → ps ≡ qs → position_from (λ p. eqb t p.0) 0 qs ≡ Some k → x ≡ get_or ps k x → lookup (eqb t) qs ≡ Some x.1
packets_at_place t ps qs k x same h is = (found_here t qs k h).found x ∙ sym (ap (λ (y : ℕ × ℕ). Some y.1) (is ∙ ap (λ l. get_or l k x) same))
