-- Exact acts that keep a field assign it nowhere, so they are exact whatever its value.
use Rattle.std.proofs.Common.{◌≡◌, ◌≢◌, ℕ, ◌+◌, List, [], ◌∷◌, inl, inr, refl, sym, ap, subst, ◌∙◌, arith, length-set, get_or-set_same, get_or-set_other}
use Rattle.std.specs.Prelude.{slice_index, slice_set}
use Rattle.std.proofs.lemmas.List.{set_comm}
use Rattle.nk_field.specs.Act.{applied}
use Rattle.nk_store.specs.Leaves.{IsActFrom}
use Rattle.nk_store.specs.StoreState.{IsWhole}
use Rattle.nk_apply.proofs.Members.{Has}
use Rattle.nk_determ.specs.Exact.{IsExact}
use Rattle.nk_determ.proofs.Laws.{applied_keeps}

-- no assignment of the field
abbrev pub Misses : ℕ → List (ℕ × ℕ) → Type 0
Misses f [] = Unit {0}
Misses f (s ∷ ss) = (s.0 ≢ f) × Misses f ss

-- an act that misses the field may be made before or after it is set
pub applied_set : (f : ℕ) (g : List (ℕ × ℕ)) (pk : List ℕ) (v : ℕ) → Misses f g → applied g (slice_set pk f v) ≡ slice_set (applied g pk) f v
applied_set f [] pk v a = refl
applied_set f (s ∷ ss) pk v a =
    let ne : f ≢ s.0 = λ e. a.0 (sym e) in
    ap (λ p. applied ss p) (set_comm pk f s.0 v s.1 ne) ∙ applied_set f ss (slice_set pk s.0 s.1) v a.1

-- an assignment that stands in an exact act changes the packet
pub changes_there : (pk : List ℕ) (g : List (ℕ × ℕ)) (f n : ℕ) → IsExact pk g → Has g (f, n) → slice_index pk f ≢ n
changes_there pk [] f n e h = absurd h
changes_there pk (s ∷ ss) f n e (inl is) = subst (λ (q : ℕ × ℕ). slice_index pk q.0 ≢ q.1) is e.0
changes_there pk (s ∷ ss) f n e (inr h) = changes_there pk ss f n e.1 h

-- what an act assigns is there in the end
value_there : (maxes pk : List ℕ) (low : ℕ) (g : List (ℕ × ℕ)) (s : ℕ × ℕ) → IsWhole pk → IsActFrom maxes low g → Has g s →
    slice_index (applied g pk) s.0 ≡ s.1
value_there maxes pk low [] s w a h = absurd h
value_there maxes pk low (t ∷ ts) s w a (inl is) =
    subst (λ (q : ℕ × ℕ). slice_index (applied (t ∷ ts) pk) q.0 ≡ q.1) is
    (applied_keeps maxes (t.0 + 1) t.0 ts (slice_set pk t.0 t.1) a.3 (omega arith) ∙ get_or-set_same pk t.0 t.1 0 (omega (arith, a.1, w)))
value_there maxes pk low (t ∷ ts) s w a (inr h) =
    value_there maxes (slice_set pk t.0 t.1) (t.0 + 1) ts s (length-set pk t.0 t.1 ∙ w) a.3 h

-- an act of which no assignment is of the field misses it
all_miss : (f : ℕ) (g : List (ℕ × ℕ)) → ((s : ℕ × ℕ) → Has g s → s.0 ≡ f → ⊥) → Misses f g
all_miss f [] h = tt
all_miss f (s ∷ ss) h = (h s (inl refl), all_miss f ss (λ t k. h t (inr k)))

-- so does an exact act that keeps it
pub keeping_misses : (maxes pk : List ℕ) (f : ℕ) (g : List (ℕ × ℕ)) → IsWhole pk → IsActFrom maxes 0 g → IsExact pk g →
    slice_index (applied g pk) f ≡ slice_index pk f → Misses f g
keeping_misses maxes pk f g w a exact keeps =
    all_miss f g (λ s h same.
    let kept : slice_index (applied g pk) s.0 ≡ slice_index pk s.0 =
    subst (λ k. slice_index (applied g pk) k ≡ slice_index pk k) (sym same) keeps in
    changes_there pk g s.0 s.1 exact h (sym kept ∙ value_there maxes pk 0 g s w a h))

-- an act that misses a field is exact whatever its value
pub exact_stays : (pk : List ℕ) (f v : ℕ) (g : List (ℕ × ℕ)) → Misses f g → IsExact pk g → IsExact (slice_set pk f v) g
exact_stays pk f v [] m e = tt
exact_stays pk f v (s ∷ ss) m e = (λ k. e.0 (sym (get_or-set_other pk f s.0 v 0 m.0) ∙ k), exact_stays pk f v ss m.1 e.1)
