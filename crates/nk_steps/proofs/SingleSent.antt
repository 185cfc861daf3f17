-- Where the steps of a diagram with one label a leaf at most lead.
use Rattle.std.proofs.Common.{◌≡◌, ℕ, ◌+◌, ◌<◌, refl, sym, ◌∙◌, ap, subst, arith, List, [], ◌∷◌, length, get_or, inl, inr}
use Rattle.std.specs.List.{Contains}
use Rattle.nk_field.specs.Act.{applied}
use Rattle.nk_store.specs.declared.node.Out.{Out}
use Rattle.nk_store.specs.StoreState.{StoreState, IsStorePacket, look}
use Rattle.nk_apply.proofs.Members.{Has, has_contains, contains_has}
use Rattle.nk_determ.specs.Exact.{Sends}
use Rattle.nk_determ.specs.Sets.{place_in}
use Rattle.nk_determ.specs.States.{SomeLeads, AreLedTo}
use Rattle.nk_determ.proofs.Interned.{sets_same, place_holds}
use Rattle.nk_sets.specs.Outs.{sent_to}
use Rattle.nk_steps.specs.Single.{single_to, IsSingle}
use Rattle.nk_steps.proofs.SingleLeaves.{stepped_has, has_stepped}

-- the only member of a list of one
only_member : (d e : ℕ) → Contains (d ∷ []) e → e ≡ d
only_member d e c = by (contains_has (d ∷ []) e c)
  where
    by : Has (d ∷ []) e → e ≡ d
    by (inl is) = sym is
    by (inr h) = absurd h

module _ (old : StoreState) (d : ℕ) where
  -- where one diagram leads
  leads_one : (pk y : List ℕ) (t : ℕ) → SomeLeads old (d ∷ []) pk y t → Sends old d pk y t
  leads_one pk y t s = subst (λ e. Sends old e pk y t) (only_member d s.0 s.1) s.2

  -- and the other way round
  one_leads : (pk y : List ℕ) (t : ℕ) → Sends old d pk y t → SomeLeads old (d ∷ []) pk y t
  one_leads pk y t s = (d, (0, omega arith, refl), s)

  module _ (new : StoreState) (sets : List (List ℕ)) (r : ℕ) (k : IsSingle old d new sets r) where
    -- the leaf of the steps
    leaf_is : (pk : List ℕ) → IsStorePacket old pk → look new r pk ≡ single_to sets (look old d pk)
    leaf_is pk p = (k.leaves sets (sets_same sets)).leaf pk p.0

    -- a step leads to the set of all labels that record the packet
    pub single_leads : (pk y : List ℕ) (i : ℕ) → IsStorePacket old pk → Sends new r pk y (i + 1) → AreLedTo sets old (d ∷ []) pk y i
    single_leads pk y i p s =
        let os : List Out = look old d pk in
        let c : Has (single_to sets os) (sent_to s.0 (i + 1)) = subst (λ (xs : List Out). Has xs (sent_to s.0 (i + 1))) (leaf_is pk p) (contains_has (look new r pk) (sent_to s.0 (i + 1)) s.1) in
        let m = stepped_has (λ o. place_in sets (o.target ∷ []) + 1) os (sent_to s.0 (i + 1)) c in
        let l : ℕ = m.0.target in
        let there : Contains os m.0 = has_contains os m.0 m.1 in
        let target : place_in sets (l ∷ []) + 1 ≡ i + 1 = ap (λ (x : Out). x.target) m.3 in
        let place : place_in sets (l ∷ []) ≡ i = omega (arith, target) in
        let act : m.0.act ≡ s.0 = ap (λ (x : Out). x.act) m.3 in
        let sent : Sends old d pk y l = (m.0.act, there, s.2 ∙ ap (λ g. applied g pk) (sym act)) in
        let at = place_holds sets (l ∷ []) ((k.single pk).there m.0 there m.2) in
        let members : get_or sets i [] ≡ l ∷ [] = ap (λ j. get_or sets j []) (sym place) ∙ at.1 in
        record {
          within = subst (λ j. j < length sets) place at.0;
          some = λ e. let n : l ∷ [] ≡ [] = sym members ∙ e in absurd cc;
          every = λ n. (
            λ c. let is : n ≡ l = only_member l n (subst (λ ls. Contains ls n) members c) in (subst (λ z. 0 < z) (sym is) m.2, subst (λ z. SomeLeads old (d ∷ []) pk y z) (sym is) (one_leads pk y l sent)),
            λ q.
                let way = leads_one pk y n q.1 in
                let is : n ≡ l = (k.single pk).one (sent_to way.0 n) m.0 way.1 there q.0 m.2 in
                subst (λ ls. Contains ls n) (sym members) (subst (λ z. Contains (l ∷ []) z) (sym is) (0, omega arith, refl)),
          );
        }

    -- what a label records a step leads to
    pub single_led : (pk y : List ℕ) (l : ℕ) → IsStorePacket old pk → 0 < l → SomeLeads old (d ∷ []) pk y l → (i : ℕ) × Sends new r pk y (i + 1)
    single_led pk y l p pos s =
        let os : List Out = look old d pk in
        let way = leads_one pk y l s in
        let made : Out = sent_to way.0 (place_in sets (l ∷ []) + 1) in
        let h : Has (single_to sets os) made = has_stepped (λ o. place_in sets (o.target ∷ []) + 1) os (sent_to way.0 l) pos (contains_has os (sent_to way.0 l) way.1) in
        (place_in sets (l ∷ []), (way.0, has_contains (look new r pk) made (subst (λ (xs : List Out). Has xs made) (sym (leaf_is pk p)) h), way.2))

  module _ (none : (pk : List ℕ) → look old d pk ≡ []) where
    -- a diagram that drops every packet sends none
    none_sends : (pk y : List ℕ) (t : ℕ) → Sends old d pk y t → ⊥
    none_sends pk y t s = contains_has [] (sent_to s.0 t) (subst (λ (xs : List Out). Contains xs (sent_to s.0 t)) (none pk) s.1)

    -- it is its own steps
    pub none_leads : (sets : List (List ℕ)) (pk y : List ℕ) (i : ℕ) → Sends old d pk y (i + 1) → AreLedTo sets old (d ∷ []) pk y i
    none_leads sets pk y i s = absurd (none_sends pk y (i + 1) s)

    pub none_led : (pk y : List ℕ) (l : ℕ) → SomeLeads old (d ∷ []) pk y l → (i : ℕ) × Sends old d pk y (i + 1)
    none_led pk y l s = absurd (none_sends pk y l (leads_one pk y l s))
