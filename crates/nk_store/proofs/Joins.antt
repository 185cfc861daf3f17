-- Joining neighbours changes no child.
use Rattle.std.proofs.Common.{◌≡◌, ◌≢◌, ℕ, zero, suc, ◌+◌, ◌-◌, ◌<◌, nat_eq, true, false, cond, leb, eqb, List, [], ◌∷◌, length, refl, sym, ◌∙◌, ap, subst, arith, get_or, inl, inr}
use Rattle.std.proofs.lemmas.Bool.Decides.{nat_tests, eqb_tells, leb_tells}
use Rattle.std.proofs.lemmas.List.{get_or_default}
use Rattle.nk_store.specs.Nodes.{child_at, Rises, Each, Differ, Joined, joined}
use Rattle.nk_store.proofs.Same.{child-first, child-rest}

-- a part whose neighbour has the same child is dropped
pub joined-drop : (p q : ℕ × ℕ) (ps : List (ℕ × ℕ)) → p.1 ≡ q.1 → joined (p ∷ q ∷ ps) ≡ joined (q ∷ ps)
joined-drop p q ps e = let t : eqb p.1 q.1 ≡ true = grind (arith, nat_tests) in rw t refl

-- a part whose neighbour has another child is kept
pub joined-keep : (p q : ℕ × ℕ) (ps : List (ℕ × ℕ)) → p.1 ≢ q.1 → joined (p ∷ q ∷ ps) ≡ p ∷ joined (q ∷ ps)
joined-keep p q ps n = let t : eqb p.1 q.1 ≡ false = grind (arith, nat_tests) in rw t refl

-- joining leaves the child of each value
pub joined_child : (high low d : ℕ) (ps : List (ℕ × ℕ)) (v : ℕ) → Rises high low ps →
    child_at d (joined ps) v ≡ child_at d ps v
joined_child high low d [] v r = refl
joined_child high low d (p ∷ []) v r = refl
joined_child high low d (p ∷ q ∷ ps) v r =
    elim (eqb_tells p.1 q.1) [
      | inl same ↦ ap (λ ks. child_at d ks v) (joined-drop p q ps same.1) ∙ joined_child high (p.0 + 1) d (q ∷ ps) v r.2 ∙
          elim (leb_tells v p.0) [
            | inl under ↦ child-first d q ps v (omega (arith, under.1, r.2.0)) ∙ sym same.1 ∙ sym (child-first d p (q ∷ ps) v under.1)
            | inr out ↦ sym (child-rest d p (q ∷ ps) v out.1)
          ]
      | inr other ↦ ap (λ ks. child_at d ks v) (joined-keep p q ps other.1) ∙
          elim (leb_tells v p.0) [
            | inl under ↦ child-first d p (joined (q ∷ ps)) v under.1 ∙ sym (child-first d p (q ∷ ps) v under.1)
            | inr out ↦ child-rest d p (joined (q ∷ ps)) v out.1 ∙ joined_child high (p.0 + 1) p.1 (q ∷ ps) v r.2 ∙ sym (child-rest d p (q ∷ ps) v out.1)
          ]
    ]

-- joining leaves the ends rising to the same highest value
pub joined_rises : (high low : ℕ) (ps : List (ℕ × ℕ)) → Rises high low ps → Rises high low (joined ps)
joined_rises high low [] r = r
joined_rises high low (p ∷ []) r = r
joined_rises high low (p ∷ q ∷ ps) r =
    elim (eqb_tells p.1 q.1) [
      | inl same ↦ subst (Rises high low) (sym (joined-drop p q ps same.1)) (joined_rises high low (q ∷ ps) (omega (arith, r.0, r.2.0), r.2.1, r.2.2))
      | inr other ↦ subst (Rises high low) (sym (joined-keep p q ps other.1)) (r.0, r.1, joined_rises high (p.0 + 1) (q ∷ ps) r.2)
    ]

-- what holds of each child holds of those that are left
pub joined_each : (P : ℕ → Type 0) (ps : List (ℕ × ℕ)) → Each P ps → Each P (joined ps)
joined_each P [] e = e
joined_each P (p ∷ []) e = e
joined_each P (p ∷ q ∷ ps) e =
    elim (eqb_tells p.1 q.1) [
      | inl same ↦ subst (Each P) (sym (joined-drop p q ps same.1)) (joined_each P (q ∷ ps) e.1)
      | inr other ↦ subst (Each P) (sym (joined-keep p q ps other.1)) (e.0, joined_each P (q ∷ ps) e.1)
    ]

-- no two neighbours are alike, and the first child stays
pub joined_differ : (c : ℕ) (q : ℕ × ℕ) (ps : List (ℕ × ℕ)) → c ≢ q.1 → Differ c (joined (q ∷ ps))
joined_differ c q [] n = (λ e. n (sym e), tt)
joined_differ c q (p ∷ ps) n =
    elim (eqb_tells q.1 p.1) [
      | inl same ↦ subst (Differ c) (sym (joined-drop q p ps same.1)) (joined_differ c p ps (λ e. n (e ∙ sym same.1)))
      | inr other ↦ subst (Differ c) (sym (joined-keep q p ps other.1)) (λ e. n (sym e), joined_differ q.1 p ps other.1)
    ]

-- two parts or more that differ from their neighbours are a choice
pub differ_joined : (c : ℕ) (ps : List (ℕ × ℕ)) → Differ c ps → 1 < length ps → Joined ps
differ_joined c [] d l = absurd (omega arith)
differ_joined c (p ∷ ps) d l = (omega arith, d.1)

-- two parts or more that stay are a choice
pub joined_joined : (p : ℕ × ℕ) (ps : List (ℕ × ℕ)) → 1 < length (joined (p ∷ ps)) → Joined (joined (p ∷ ps))
joined_joined p ps l = differ_joined (p.1 + 1) (joined (p ∷ ps)) (joined_differ (p.1 + 1) p ps (λ e. omega arith)) l

-- of a part and more, some part is left
pub joined_some : (p : ℕ × ℕ) (ps : List (ℕ × ℕ)) → 0 < length (joined (p ∷ ps))
joined_some p [] = omega arith
joined_some p (q ∷ ps) =
    elim (eqb_tells p.1 q.1) [
      | inl same ↦ subst (λ ks. 0 < length ks) (sym (joined-drop p q ps same.1)) (joined_some q ps)
      | inr other ↦ subst (λ ks. 0 < length ks) (sym (joined-keep p q ps other.1)) (omega arith)
    ]

-- where there is a single part, its child is the child at each value
pub single_child : (d v : ℕ) (ps : List (ℕ × ℕ)) (q : ℕ × ℕ) → length ps ≡ 1 → q ≡ get_or ps 0 q →
    child_at d ps v ≡ q.1
single_child d v [] q l e = absurd (omega arith)
single_child d v (p ∷ []) q l e = elim (leb v p.0) as (λ b. cond b p.1 p.1 ≡ q.1) [ true ↦ ap (λ r. r.1) (sym e) | false ↦ ap (λ r. r.1) (sym e) ]
single_child d v (p ∷ r ∷ ps) q l e = absurd (omega arith)

-- neighbours among the first i parts have different children
abbrev pub IsApart : List (ℕ × ℕ) → ℕ → Type 0
IsApart ps i = (d : ℕ × ℕ) (k : ℕ) → suc k < i → suc k < length ps → (get_or ps k d).1 ≢ (get_or ps (suc k) d).1

-- with one part more whose neighbour has another child
pub apart_next : (ps : List (ℕ × ℕ)) (i : ℕ) (x y : ℕ × ℕ) → 0 < i → i < length ps →
    nat_eq (get_or ps (i - 1) x).1 (get_or ps i y).1 ≡ false → IsApart ps i → IsApart ps (i + 1)
apart_next ps zero x y p l t h = absurd (omega arith)
apart_next ps (suc j) x y p l t h = λ d k a b.
    elim (eqb_tells k j) [
      | inl same ↦ λ e.
          let left : get_or ps j x ≡ get_or ps k d = get_or_default ps j x d (omega (arith, l)) ∙ ap (λ n. get_or ps n d) (sym same.1) in
          let right : get_or ps (suc j) y ≡ get_or ps (suc k) d = get_or_default ps (suc j) y d l ∙ ap (λ n. get_or ps (suc n) d) (sym same.1) in
          let both : (get_or ps j x).1 ≡ (get_or ps (suc j) y).1 = ap (λ p. p.1) left ∙ e ∙ sym (ap (λ p. p.1) right) in
          absurd (grind (arith, nat_tests, t, both))
      | inr other ↦ h d k (omega (arith, other.1, a)) b
    ]

-- parts whose neighbours have different children stay as they are
pub apart_joined : (ps : List (ℕ × ℕ)) → IsApart ps (length ps) → joined ps ≡ ps
apart_joined [] h = refl
apart_joined (p ∷ []) h = refl
apart_joined (p ∷ q ∷ ps) h =
    joined-keep p q ps (h p 0 (omega arith) (omega arith)) ∙
    ap (λ rest. p ∷ rest) (apart_joined (q ∷ ps) (λ d k a b. h d (suc k) (omega (arith, a)) (omega (arith, b))))
