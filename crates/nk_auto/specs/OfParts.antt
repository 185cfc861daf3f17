-- The diagrams of a policy's parts (Foster et al., POPL 2015: the observation and the derivatives of a policy, as one state).
use Rattle.std.specs.Prelude.{◌≡◌, ℕ, ◌≤◌, ◌↔◌, ◌⊎◌, List, [], ◌∷◌, All, map}
use Rattle.nk_field.specs.Packet.{FieldTable}
use Rattle.nk_policy.specs.declared.policy.Pol.{Pol}
use Rattle.nk_policy.specs.Policy.{Policy, numbers_of, marked_from}
use Rattle.nk_policy.specs.Tree.{tree_of}
use Rattle.nk_policy.specs.Meaning.{Gives}
use Rattle.nk_policy.specs.After.{after}
use Rattle.nk_policy.specs.Ranges.{IsOverFields}
use Rattle.nk_store.specs.StoreState.{StoreState, IsId, IsStorePacket}
use Rattle.nk_store.specs.StoreState.{IsOver as IsStoreOver}
use Rattle.nk_deriv.specs.declared.values.Part.{Part}
use Rattle.nk_deriv.specs.declared.values.Parts.{Parts}
use Rattle.nk_deriv.specs.Part.{LegsGive, IsPartOfDerivative, IsWithin}
use Rattle.nk_auto.specs.Plain.{Sends}
use Rattle.nk_auto.specs.Continued.{IsFit}

-- the diagram of a policy's runs without a record, all to one target
pub record IsAimed (st : StoreState) (d : ℕ) (p : Policy) (target : ℕ) : Type 0 where
  pub id : IsId st d
  pub sends : IsFit st.maxes p → (pk y : List ℕ) (t : ℕ) → IsStorePacket st pk →
      Sends st d pk y t ↔ ((t ≡ target) × Gives p pk [] y)

-- a leg's policy is fit
abbrev pub IsFitLeg : List ℕ → Pol × ℕ → Type 0
IsFitLeg maxes leg = IsFit maxes (tree_of leg.0)

-- the diagram of a free policy and legs: to target 0 it sends to where the free policy ends without a record, and to
-- target l to where some leg of label l does
pub record IsOfPart (st : StoreState) (d : ℕ) (free : Policy) (legs : List (Pol × ℕ)) : Type 0 where
  pub id : IsId st d
  pub sends : IsFit st.maxes free → All (IsFitLeg st.maxes) legs → (pk y : List ℕ) (t : ℕ) → IsStorePacket st pk →
      Sends st d pk y t ↔ (((t ≡ 0) × Gives free pk [] y) ⊎ LegsGive legs pk y t)

-- the diagrams of the parts after labels, in order
abbrev pub AreOfParts : StoreState → List ℕ → List (ℕ × Part) → Type 0
AreOfParts st [] [] = Unit {0}
AreOfParts st [] (e ∷ es) = ⊥
AreOfParts st (d ∷ ds) [] = ⊥
AreOfParts st (d ∷ ds) (e ∷ es) = IsOfPart st d (tree_of e.1.free) e.1.legs × AreOfParts st ds es

-- the parts are those of the policy: what is answered for it by `nk_deriv::derivatives::parts`
pub record ArePolicyParts (parts : Parts) (p : Policy) : Type 0 where
  pub first : IsPartOfDerivative parts.first p
  pub labels : map (λ e. e.0) parts.after ≡ numbers_of p
  pub after : All (λ e. IsPartOfDerivative e.1 (after p e.0)) parts.after
  pub within : All (λ e. IsWithin p e.1) parts.after

-- the dups of the policy are numbered from first on, and its tests, ranges and assignments are of the store's fields, to values
-- in range
pub record IsDrawable (st : StoreState) (p : Policy) (first : ℕ) : Type 0 where
  pub from : 1 ≤ first
  pub numbered : marked_from p first ≡ p
  pub fields : FieldTable
  pub store_over : IsStoreOver fields st
  pub over : IsOverFields fields p
