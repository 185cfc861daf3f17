-- Diagrams record together the same in a store that grew.
use Rattle.std.proofs.Common.{◌≡◌, ℕ, ◌+◌, ◌<◌, ◌↔◌, sym, ◌∙◌, ap, subst, arith, List, [], ◌∷◌, length, get_or}
use Rattle.std.specs.List.{Contains}
use Rattle.std.proofs.lemmas.List.{get_or_default}
use Rattle.nk_store.specs.declared.node.Out.{Out}
use Rattle.nk_store.specs.StoreState.{StoreState, IsStorePacket, Grows}
use Rattle.nk_apply.specs.Unions.{AreIds}
use Rattle.nk_determ.specs.Exact.{Sends}
use Rattle.nk_determ.specs.States.{SomeLeads, AreLedTo}
use Rattle.nk_sets.specs.Outs.{sent_to}
use Rattle.nk_sets.proofs.Kept.{packet_on}

-- the diagrams of one store record what those of the other do
abbrev pub RecordSame : StoreState → List ℕ → StoreState → List ℕ → Type 0
RecordSame old ds mid es = (pk y : List ℕ) (l : ℕ) → IsStorePacket old pk → 0 < l → SomeLeads mid es pk y l ↔ SomeLeads old ds pk y l

-- what a diagram at a place does one of the diagrams does
some_at : (st : StoreState) (ds : List ℕ) (pk y : List ℕ) (t k : ℕ) → k < length ds → Sends st (get_or ds k 0) pk y t → SomeLeads st ds pk y t
some_at st ds pk y t k l s = (get_or ds k 0, (k, l, get_or_default ds k (get_or ds k 0) 0 l), s)

-- and the other way round
at_some : (st : StoreState) (ds : List ℕ) (pk y : List ℕ) (t : ℕ) → SomeLeads st ds pk y t → (k : ℕ) × (k < length ds) × Sends st (get_or ds k 0) pk y t
at_some st ds pk y t s =
    let k = s.1.0 in
    let is : s.0 ≡ get_or ds k 0 = sym s.1.2 ∙ get_or_default ds k s.0 0 s.1.1 in
    (k, s.1.1, subst (λ d. Sends st d pk y t) is s.2)

-- diagrams record the same in a store that grew
pub grown_same : (old mid : StoreState) (ds : List ℕ) → Grows old mid → AreIds old ds → RecordSame old ds mid ds
grown_same old mid ds g ids pk y l p pos = (
  λ s. let r = at_some mid ds pk y l s in some_at old ds pk y l r.0 r.1 (r.2.0, subst (λ (os : List Out). Contains os (sent_to r.2.0 l)) (g.leaves (get_or ds r.0 0) pk (ids r.0 r.1)) r.2.1, r.2.2),
  λ s. let r = at_some old ds pk y l s in some_at mid ds pk y l r.0 r.1 (r.2.0, subst (λ (os : List Out). Contains os (sent_to r.2.0 l)) (sym (g.leaves (get_or ds r.0 0) pk (ids r.0 r.1))) r.2.1, r.2.2),
)

module _ (old mid new : StoreState) (ds es : List ℕ) (g : Grows old mid) (same : RecordSame old ds mid es) (sets : List (List ℕ)) (r : ℕ) where
  -- what the steps lead to the diagrams lead to
  pub leads_same : ((pk y : List ℕ) (i : ℕ) → IsStorePacket mid pk → Sends new r pk y (i + 1) → AreLedTo sets mid es pk y i) →
      (pk y : List ℕ) (i : ℕ) → IsStorePacket old pk → Sends new r pk y (i + 1) → AreLedTo sets old ds pk y i
  leads_same leads pk y i p s =
      let to = leads pk y i (packet_on old mid pk g p) s in
      record {
        within = to.within;
        some = to.some;
        every = λ l. (
          λ c. let q = (to.every l).0 c in (q.0, (same pk y l p q.0).0 q.1),
          λ q. (to.every l).1 (q.0, (same pk y l p q.0).1 q.1),
        );
      }

  -- and what the diagrams record the steps lead to
  pub led_same : ((pk y : List ℕ) (l : ℕ) → IsStorePacket mid pk → 0 < l → SomeLeads mid es pk y l → (i : ℕ) × Sends new r pk y (i + 1)) →
      (pk y : List ℕ) (l : ℕ) → IsStorePacket old pk → 0 < l → SomeLeads old ds pk y l → (i : ℕ) × Sends new r pk y (i + 1)
  led_same led pk y l p pos s = led pk y l (packet_on old mid pk g p) pos ((same pk y l p pos).1 s)

-- the list of one diagram
pub list_of_one : (ds : List ℕ) (d e : ℕ) → length ds ≡ 1 → d ≡ get_or ds 0 e → d ∷ [] ≡ ds
list_of_one [] d e l is = absurd (omega (arith, l))
list_of_one (x ∷ []) d e l is = ap (λ z. z ∷ []) is
list_of_one (x ∷ y ∷ ds) d e l is = absurd (omega (arith, l))
