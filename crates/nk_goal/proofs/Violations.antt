-- Violations at the packets of a level.
use Rattle.std.proofs.Common.{◌≡◌, ℕ, ◌<◌, ◌+◌, true, false, inl, inr, refl, sym, ◌∙◌, ap, subst, arith, List, [], ◌∷◌, length, get_or}
use Rattle.nk_store.specs.declared.node.Out.{Out}
use Rattle.nk_store.specs.StoreState.{StoreState, IsId, IsWhole, IsStorePacket, look, Grows, HasLeaves}
use Rattle.nk_apply.specs.Leaves.{guarded}
use Rattle.nk_sets.specs.PacketSets.{has_some_out, is_in, IsSet}
use Rattle.nk_sets.proofs.Kept.{get_or_same, packet_on, packet_back, has_on, has_back}
use Rattle.nk_goal.specs.Goals.{MeetsViolation, MeetsNoViolation, PairHasViolation, PairHasNoViolation}
use Rattle.std.proofs.lemmas.Bool.Decides.{eqb_tells}
use Rattle.nk_goal.proofs.Places.{under_at, entry_of}

-- where a guard lets pass and nothing is left, nothing was there
no_out_of : (xs ys : List Out) → has_some_out xs ≡ true → has_some_out (guarded xs ys) ≡ false → ys ≡ []
no_out_of [] ys h n = cc
no_out_of (x ∷ xs) [] h n = refl
no_out_of (x ∷ xs) (y ∷ ys) h n = cc

-- where something is left after a guard, it lets pass and something was there
outs_of_both : (xs ys : List Out) → has_some_out (guarded xs ys) ≡ true → (has_some_out xs ≡ true) × (ys ≡ [] → ⊥)
outs_of_both [] ys h = cc
outs_of_both (x ∷ xs) [] h = cc
outs_of_both (x ∷ xs) (y ∷ ys) h = (refl, λ e. cc)

-- where the packets have no violation as a diagram, none of them has one
pub no_violation_at : (st mid new : StoreState) (x b met : ℕ) (F : List ℕ → List Out) → Grows st mid → IsSet st x → HasLeaves mid b F → HasLeaves new met (λ pk. guarded (look mid x pk) (look mid b pk)) → ((pk : List ℕ) → IsWhole pk → is_in new met pk ≡ false) → PairHasNoViolation st x F
no_violation_at st mid new x b met F g ps gb gm none pk p h =
    sym (gb.leaf pk p.0)
    ∙ no_out_of (look mid x pk) (look mid b pk) (has_on st mid x pk g ps.id h) (sym (ap has_some_out (gm.leaf pk p.0)) ∙ none pk p.0)

-- where something is bad as a diagram, one of the packets has a violation
pub some_violation : (st mid new : StoreState) (x b met : ℕ) (F : List ℕ → List Out) → Grows st mid → IsSet st x → HasLeaves mid b F → Grows mid new → HasLeaves new met (λ pk. guarded (look mid x pk) (look mid b pk)) → ((pk : List ℕ) × IsStorePacket new pk × (is_in new met pk ≡ true)) → PairHasViolation st x F
some_violation st mid new x b met F g ps gb h gm found =
    let pk : List ℕ = found.0 in
    let p : IsStorePacket st pk = packet_back st mid pk g (packet_back mid new pk h found.1) in
    let both = outs_of_both (look mid x pk) (look mid b pk) (sym (ap has_some_out (gm.leaf pk p.0)) ∙ found.2) in
    (pk, p, has_back st mid x pk g ps.id both.0, λ none. both.1 (gb.leaf pk p.0 ∙ none))

-- no violation, in the store and with the goal of the beginning
pub none_back : (a b : StoreState) (x : ℕ) (F H : List ℕ → List Out) → Grows a b → IsId a x → ((pk : List ℕ) → H pk ≡ F pk) → PairHasNoViolation b x H → PairHasNoViolation a x F
none_back a b x F H g i same none pk p h = sym (same pk) ∙ none pk (packet_on a b pk g p) (has_on a b x pk g i h)

-- an entry with a violation is one of the level
pub violations_back : (a b : StoreState) (ss : List (List ℕ)) (ps : List (ℕ × ℕ)) (k : ℕ) (p : ℕ × ℕ) (bad : List ℕ → List ℕ → List Out) (H : List ℕ → List Out) → Grows a b → IsId a p.1 → ((pk : List ℕ) → H pk ≡ bad (get_or ss p.0 []) pk) → k < length ps → p ≡ get_or ps k p → PairHasViolation b p.1 H → MeetsViolation a ss ps bad
violations_back a b ss ps k p bad H g i same l is found =
    ((get_or ss p.0 [], found.0), packet_back a b found.0 g found.1, (p.0, refl, under_at a ps k p found.0 l is (has_back a b p.1 found.0 g i found.2)), λ e. found.3 (same found.0 ∙ e))

-- where no entry has a violation, none is met
pub none_of : (st : StoreState) (ss : List (List ℕ)) (ps : List (ℕ × ℕ)) (bad : List ℕ → List ℕ → List Out) → ((k : ℕ) → k < length ps → (d : ℕ × ℕ) → PairHasNoViolation st (get_or ps k d).1 (bad (get_or ss (get_or ps k d).0 []))) → MeetsNoViolation st ss ps bad
none_of st ss ps bad none n p w =
    let e = entry_of st ps w.0 n.1 w.2 in
    let d : ℕ × ℕ = (0, 0) in
    ap (λ s. bad s n.1) (sym (ap (λ i. get_or ss i []) (e.2 d) ∙ w.1)) ∙ none e.0 e.1 d n.1 p (e.3 d)

-- one entry more has no violation
pub none_more : (st : StoreState) (ss : List (List ℕ)) (ps : List (ℕ × ℕ)) (i : ℕ) (p : ℕ × ℕ) (bad : List ℕ → List ℕ → List Out) → i < length ps → p ≡ get_or ps i p → ((k : ℕ) → k < i → (d : ℕ × ℕ) → PairHasNoViolation st (get_or ps k d).1 (bad (get_or ss (get_or ps k d).0 []))) → PairHasNoViolation st p.1 (bad (get_or ss p.0 [])) → (k : ℕ) → k < i + 1 → (d : ℕ × ℕ) → PairHasNoViolation st (get_or ps k d).1 (bad (get_or ss (get_or ps k d).0 []))
none_more st ss ps i p bad l is was now k m d =
    elim (eqb_tells k i) [
      | inl same ↦ subst (λ (q : ℕ × ℕ). PairHasNoViolation st q.1 (bad (get_or ss q.0 []))) (is ∙ get_or_same ps i p d l ∙ ap (λ j. get_or ps j d) (sym same.1)) now
      | inr other ↦ was k (omega (arith, m, other.1)) d
    ]
