-- Predicates that stand side by side in a sequence, as one guard before the diagram of what is after them.
use Rattle.std.specs.Prelude.{◌≡◌, ℕ, ◌↔◌, true, List, []}
use Rattle.nk_policy.specs.Policy.{Policy}
use Rattle.nk_policy.specs.Progress.{RecordsAt}
use Rattle.nk_policy.specs.After.{has_dup}
use Rattle.nk_store.specs.StoreState.{StoreState, IsId, IsStorePacket}
use Rattle.nk_apply.specs.Predicates.{IsPredicate}
use Rattle.nk_auto.specs.Complements.{NegatesPredicates}
use Rattle.nk_auto.specs.Plain.{Sends}
use Rattle.nk_auto.specs.Continued.{IsFit, GoesOn}

-- the policy never records, and where complements are of predicates it has no dup
pub record NeverRecords (p : Policy) : Type 0 where
  pub never : (pk y : List ℕ) (t : ℕ) → RecordsAt p pk [] y t → ⊥
  pub dupless : NegatesPredicates p → (l : ℕ) → has_dup p l ≡ true → ⊥

-- the guard lets the packet pass, and the rest sends it on
abbrev pub PassesOn : (st : StoreState) (guard rest : ℕ) (pk y : List ℕ) (t : ℕ) → Type 0
PassesOn st guard rest pk y t = Sends st guard pk pk 0 × Sends st rest pk y t

-- the policy, continued by the diagram k, does what the rest does with the packets that the guard lets pass
pub record IsGuarded (st : StoreState) (guard rest : ℕ) (p : Policy) (k : ℕ) : Type 0 where
  pub guard_id : IsId st guard
  pub rest_id : IsId st rest
  pub next : IsId st k
  pub predicate : IsPredicate st guard
  pub sends : IsFit st.maxes p → (pk y : List ℕ) (t : ℕ) → IsStorePacket st pk →
      PassesOn st guard rest pk y t ↔ GoesOn st p k pk y t
