-- States cut to the packets of a set do there what the states do.
use Rattle.std.proofs.Common.{◌≡◌, ℕ, ◌<◌, true, refl, sym, ◌∙◌, ap, subst, arith, List, [], ◌∷◌, length, get_or, Contains}
use Rattle.nk_store.specs.declared.node.Out.{Out}
use Rattle.nk_store.specs.StoreState.{StoreState, IsId, IsWhole, IsStorePacket, look, Grows, HasLeaves}
use Rattle.nk_apply.specs.Leaves.{guarded}
use Rattle.nk_sets.specs.PacketSets.{has_some_out}
use Rattle.nk_sets.specs.Outs.{sent_to}
use Rattle.nk_sets.proofs.Kept.{Has}
use Rattle.nk_determ.specs.Sets.{HasAscendingSets}
use Rattle.nk_determ.specs.Exact.{Sends}
use Rattle.nk_determ.specs.States.{HaveEach, SomeLeads, StateLeads, AreLedTo}
use Rattle.nk_determ.proofs.StatesAt.{at_state, from_state}
use Rattle.nk_determ.specs.Pairs.{IsStep}

-- what the states of labels have at the packets of x alone
abbrev pub cut_each : StoreState → List ℕ → List ℕ → ℕ → ℕ → List ℕ → List Out
cut_each st states labels x k pk = guarded (look st x pk) (look st (get_or states (get_or labels k 0) 0) pk)

-- a state is cut in a store that grew
pub cut_before : (old st new : StoreState) (states labels : List ℕ) (k state x d : ℕ) → Grows old st → IsId old state → IsId old x → state ≡ get_or states (get_or labels k 0) 0 →
    HasLeaves new d (λ pk. guarded (look st x pk) (look st state pk)) → HasLeaves new d (cut_each old states labels x k)
cut_before old st new states labels k state x d g id ix is one = record {
  id = one.id;
  leaf = λ pk w.
      one.leaf pk w ∙ ap (λ os. guarded os (look st state pk)) (g.leaves x pk ix) ∙ ap (λ os. guarded (look old x pk) os) (g.leaves state pk id)
      ∙ ap (λ j. guarded (look old x pk) (look old j pk)) is;
}

-- a guard that has an out leaves what it guards
pub guard_in : (xs ys : List Out) (o : Out) → has_some_out xs ≡ true → Contains ys o → Contains (guarded xs ys) o
guard_in [] ys o h c = absurd cc
guard_in (x ∷ xs) ys o h c = c

-- what a guard leaves it guards, and it has an out
pub guard_out : (xs ys : List Out) (o : Out) → Contains (guarded xs ys) o → (has_some_out xs ≡ true) × Contains ys o
guard_out [] ys o c = absurd (omega (arith, c.1))
guard_out (x ∷ xs) ys o c = (refl, c)

module _ (old new : StoreState) (states labels cut : List ℕ) (x : ℕ) (same : length cut ≡ length labels) (all : HaveEach new cut (cut_each old states labels x) (length cut)) (z : List ℕ) (w : IsWhole z) where
  -- the leaf of a cut state
  cut_leaf : (k : ℕ) → k < length labels → look new (get_or cut k 0) z ≡ cut_each old states labels x k z
  cut_leaf k lt = (all k (omega (arith, lt, same))).leaf z w

  -- what the cut states lead to
  pub cut_leads : (y : List ℕ) (t : ℕ) → SomeLeads new cut z y t → Has old x z × StateLeads old states labels z y t
  cut_leads y t s =
      let r = at_state states labels cut same (λ d. Sends new d z y t) (λ d. Has old x z × Sends old d z y t) (λ k lt q.
      let state = get_or states (get_or labels k 0) 0 in
      let g = guard_out (look old x z) (look old state z) (sent_to q.0 t) (subst (λ (os : List Out). Contains os (sent_to q.0 t)) (cut_leaf k lt) q.1) in
      (g.0, (q.0, g.1, q.2))) s in
      (r.2.0, (r.0, r.1, r.2.1))

  -- what the states lead to at these packets the cut states lead to
  pub leads_cut : (y : List ℕ) (t : ℕ) → Has old x z → StateLeads old states labels z y t → SomeLeads new cut z y t
  leads_cut y t h s =
      from_state states labels cut same (λ d. Sends new d z y t) (λ d. Sends old d z y t) (λ k lt q.
      let state = get_or states (get_or labels k 0) 0 in
      (q.0, subst (λ (os : List Out). Contains os (sent_to q.0 t)) (sym (cut_leaf k lt)) (guard_in (look old x z) (look old state z) (sent_to q.0 t) h q.1), q.2)) s

  -- a set with a member that is led to holds what the states record at the packets
  pub led_step : (nss : List (List ℕ)) (y : List ℕ) (i : ℕ) → HasAscendingSets nss → IsStorePacket old y → AreLedTo nss new cut z y i → Has old x z × IsStep old states (labels, z) (get_or nss i [], y)
  led_step nss y i asc py led =
      let one = some_member (get_or nss i []) led.some in
      let has : Has old x z = (cut_leads y one.0 ((led.every one.0).0 one.1).1).0 in (
        has,
        record {
          packet = py;
          some = led.some;
          ascend = asc i;
          every = λ l. (
            λ m. let q = (led.every l).0 m in (q.0, (cut_leads y l q.1).1),
            λ q. (led.every l).1 (q.0, leads_cut y l has q.1),
          );
        },
      )
    where
      some_member : (xs : List ℕ) → (xs ≡ [] → ⊥) → (l : ℕ) × Contains xs l
      some_member [] n = absurd (n refl)
      some_member (l ∷ ls) n = (l, (0, omega arith, refl))
