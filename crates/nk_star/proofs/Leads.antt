-- From packet to packet by steps of a diagram, and by acts that its copies make.
use Rattle.std.proofs.Common.{◌≡◌, ℕ, zero, suc, ◌+◌, List, [], ◌∷◌, refl, sym, ◌∙◌, ap, subst, set, ◌↔◌, Contains}
use Rattle.nk_field.specs.Act.{applied, act_then, AscendsFrom}
use Rattle.nk_field.proofs.Thens.{then_applied}
use Rattle.nk_store.specs.declared.node.Out.{Out}
use Rattle.nk_store.specs.Leaves.{Every, Suits, IsActFrom}
use Rattle.nk_store.specs.Nodes.{InRange}
use Rattle.nk_store.specs.StoreState.{StoreState, IsId, IsWhole, IsStorePacket, look, Grows, AreTidy}
use Rattle.nk_store.proofs.Same.{set_in_range}
use Rattle.nk_apply.specs.Predicates.{HasOnlyFinals}
use Rattle.nk_algebra.proofs.Acts.{then_acts}
use Rattle.nk_apply.proofs.Members.{contains_has, every_has}
use Rattle.nk_star.specs.Steps.{Steps, IsLastRound}
use Rattle.nk_star.specs.Leading.{Makes, Leads}
use Rattle.nk_star.proofs.Rounds.{last_steps}

-- one step more at the end
leads_more : (D : List ℕ → List Out) (n : ℕ) (pk x y : List ℕ) → Leads D n pk x → Makes D x y → Leads D (suc n) pk y
leads_more D zero pk x y l m = (y, subst (λ z. Makes D z y) l m, refl)
leads_more D (suc n) pk x y l m = (l.0, l.1, leads_more D n l.0 x y l.2 m)

-- the last step apart
leads_last : (D : List ℕ → List Out) (n : ℕ) (pk y : List ℕ) → Leads D (suc n) pk y →
    (x : List ℕ) × Leads D n pk x × Makes D x y
leads_last D zero pk y l = (pk, refl, subst (λ z. Makes D pk z) (sym l.2) l.1)
leads_last D (suc n) pk y l = let r = leads_last D n l.0 y l.2 in (r.0, (l.0, l.1, r.1), r.2)

-- an act in range ascends
ascends : (maxes : List ℕ) (low : ℕ) (g : List (ℕ × ℕ)) → IsActFrom maxes low g → AscendsFrom low g
ascends maxes low [] a = tt
ascends maxes low (s ∷ ss) a = (a.0, ascends maxes (s.0 + 1) ss a.3)

-- the outs at each packet are in range
abbrev pub AllSuit : List ℕ → (List ℕ → List Out) → Type 0
AllSuit maxes D = (pk : List ℕ) → Every (Suits maxes) (D pk)

-- an act of the diagram is in range
out_range : (maxes : List ℕ) (D : List ℕ → List Out) (pk : List ℕ) (g : List (ℕ × ℕ)) → AllSuit maxes D →
    Contains (D pk) (record { act = g; target = 0 }) → IsActFrom maxes 0 g
out_range maxes D pk g suits c =
    every_has (Suits maxes) (D pk) (record { act = g; target = 0 }) (suits pk) (contains_has (D pk) (record { act = g; target = 0 }) c)

-- what copies make is in range
pub steps_range : (maxes : List ℕ) (D : List ℕ → List Out) (n : ℕ) (pk : List ℕ) (g : List (ℕ × ℕ)) → AllSuit maxes D →
    Steps D n pk g → IsActFrom maxes 0 g
steps_range maxes D zero pk g suits s = subst (IsActFrom maxes 0) (sym s) tt
steps_range maxes D (suc n) pk g suits s =
    subst (IsActFrom maxes 0) (sym s.4)
    (then_acts maxes s.0 0 s.1 (steps_range maxes D n pk s.0 suits s.2) (out_range maxes D (applied s.0 pk) s.1 suits s.3))

-- acts of the copies, one after another, on a packet
steps_applied : (maxes : List ℕ) (D : List ℕ → List Out) (n : ℕ) (pk : List ℕ) (h k : List (ℕ × ℕ)) → AllSuit maxes D →
    Steps D n pk h → Contains (D (applied h pk)) (record { act = k; target = 0 }) →
    applied (act_then h k) pk ≡ applied k (applied h pk)
steps_applied maxes D n pk h k suits s c =
    then_applied h 0 k pk (ascends maxes 0 h (steps_range maxes D n pk h suits s)) (ascends maxes 0 k (out_range maxes D (applied h pk) k suits c))

-- what n copies make of the packet, n steps lead to
steps_lead : (maxes : List ℕ) (D : List ℕ → List Out) (n : ℕ) (pk : List ℕ) (g : List (ℕ × ℕ)) → AllSuit maxes D →
    Steps D n pk g → Leads D n pk (applied g pk)
steps_lead maxes D zero pk g suits s = ap (λ h. applied h pk) s
steps_lead maxes D (suc n) pk g suits s =
    leads_more D n pk (applied s.0 pk) (applied g pk) (steps_lead maxes D n pk s.0 suits s.2)
    (s.1, s.3, ap (λ h. applied h pk) s.4 ∙ steps_applied maxes D n pk s.0 s.1 suits s.2 s.3)

-- where n steps lead, n copies make of the packet
lead_steps : (maxes : List ℕ) (D : List ℕ → List Out) (n : ℕ) (pk y : List ℕ) → AllSuit maxes D → Leads D n pk y →
    (g : List (ℕ × ℕ)) × Steps D n pk g × (y ≡ applied g pk)
lead_steps maxes D zero pk y suits l = ([], refl, l)
lead_steps maxes D (suc n) pk y suits l =
    let r = leads_last D n pk y l in
    let before = lead_steps maxes D n pk r.0 suits r.1 in
    let h = before.0 in
    let k = r.2.0 in
    let c : Contains (D (applied h pk)) (record { act = k; target = 0 }) = subst (λ z. Contains (D z) (record { act = k; target = 0 })) before.2 r.2.1 in
    (act_then h k, (h, k, before.1, c, refl), r.2.2 ∙ ap (λ z. applied k z) before.2 ∙ sym (steps_applied maxes D n pk h k suits before.1 c))

-- the outs of a diagram in an earlier store suit the highest values
pub suits_before : (old st : StoreState) (d : ℕ) → Grows old st → IsId old d → AreTidy st → AllSuit st.maxes (look old d)
suits_before old st d g id tidy = λ p. subst (Every (Suits st.maxes)) (g.leaves d p id) ((tidy d).suits p)

-- the last round makes of a packet what steps lead to
pub last_leads : (old st : StoreState) (d r : ℕ) → Grows old st → IsId old d → AreTidy st → HasOnlyFinals (look old d) →
    IsLastRound st r (look old d) → (pk y : List ℕ) → IsWhole pk →
    Makes (look st r) pk y ↔ ((n : ℕ) × Leads (look old d) n pk y)
last_leads old st d r grown id tidy z last pk y w = (
  λ m.
      let s = (last_steps st r (look old d) z last pk m.0 w).0 m.1 in
      (s.0, subst (Leads (look old d) s.0 pk) (sym m.2) (steps_lead st.maxes (look old d) s.0 pk m.0 (suits_before old st d grown id tidy) s.1)),
  λ l.
      let s = lead_steps st.maxes (look old d) l.0 pk y (suits_before old st d grown id tidy) l.1 in
      (s.0, (last_steps st r (look old d) z last pk s.0 w).1 (l.0, s.1), s.2),
)

-- an act in range leads from packets of the fields to packets of the fields
applied_in_range : (maxes : List ℕ) (low : ℕ) (g : List (ℕ × ℕ)) (x : List ℕ) → IsActFrom maxes low g →
    InRange maxes x → InRange maxes (applied g x)
applied_in_range maxes low [] x act r = r
applied_in_range maxes low (s ∷ ss) x act r =
    applied_in_range maxes (s.0 + 1) ss (set x s.0 s.1) act.3 (set_in_range maxes x s.0 s.1 r act.2)

-- what a diagram makes of a packet of the fields is one too
pub made_in_range : (st : StoreState) → AreTidy st → (d : ℕ) (pk y : List ℕ) → IsStorePacket st pk → Makes (look st d) pk y →
    IsStorePacket st y
made_in_range st tidy d pk y p m =
    subst (InRange st.maxes) (sym m.2)
    (applied_in_range st.maxes 0 m.0 pk (out_range st.maxes (look st d) pk m.0 (λ q. (tidy d).suits q) m.1) p)
