-- A policy, or what is left of it after a dup, as it is seen up to its first record (Foster et al., POPL 2015: the
-- observation of a policy and its derivatives): where it ends without a record, and what it records first.
use Rattle.std.specs.Prelude.{◌≡◌, ℕ, ◌⊎◌, ◌↔◌, true, List, [], ◌∷◌, All}
use Rattle.nk_field.specs.declared.packet.Packet.{Packet}
use Rattle.nk_field.specs.Packet.{FieldTable}
use Rattle.nk_policy.specs.declared.policy.Pol.{Pol}
use Rattle.nk_policy.specs.Policy.{Policy, Policies, test, range, assign, sum_of, seq_of, not_of, star_of, dup, link, no_part, part, is_predicate}
pub use Rattle.nk_policy.specs.Complements.{NegatesPredicates, AllNegatePredicates}
use Rattle.nk_policy.specs.Tree.{tree_of}
use Rattle.nk_policy.specs.Meaning.{Gives}
use Rattle.nk_policy.specs.Progress.{RecordsAt}
use Rattle.nk_policy.specs.After.{has_dup}
use Rattle.nk_policy.specs.Ranges.{IsOverFields}
use Rattle.nk_deriv.specs.declared.values.Part.{Part}

-- no dup and no link literal, and each complement is of a predicate
abbrev mutual
  pub IsDupFree : Policy → Type 0
  IsDupFree (test f n) = Unit {0}
  IsDupFree (range f lo hi) = Unit {0}
  IsDupFree (assign f n) = Unit {0}
  IsDupFree (sum_of ps) = AllDupFree ps
  IsDupFree (seq_of ps) = AllDupFree ps
  IsDupFree (not_of p) = (is_predicate p ≡ true) × IsDupFree p
  IsDupFree (star_of p) = IsDupFree p
  IsDupFree (dup l) = ⊥
  IsDupFree (link a m b n l) = ⊥

  -- no part has a dup or a link literal, and each complement in the parts is of a predicate
  pub AllDupFree : Policies → Type 0
  AllDupFree no_part = Unit {0}
  AllDupFree (part p ps) = IsDupFree p × AllDupFree ps

-- q is dup-free, and over all fields that p is over
pub record IsBuiltOf (p q : Policy) : Type 0 where
  pub dup_free : IsDupFree q
  pub over : (fields : FieldTable) → IsOverFields fields p → IsOverFields fields q

-- the policy of the leg is made of p, and its label is one of p's dups
abbrev pub IsLegOf : Policy → Pol × ℕ → Type 0
IsLegOf p leg = IsBuiltOf p (tree_of leg.0) × (has_dup p leg.1 ≡ true)

-- all that a part has is made of p
pub record IsWithin (p : Policy) (part : Part) : Type 0 where
  pub free : IsBuiltOf p (tree_of part.free)
  pub legs : All (IsLegOf p) part.legs

-- some leg of label l ends at y
abbrev pub LegsGive : List (Pol × ℕ) → Packet → Packet → ℕ → Type 0
LegsGive [] pk y l = ⊥
LegsGive (leg ∷ legs) pk y l = ((leg.1 ≡ l) × Gives (tree_of leg.0) pk [] y) ⊎ LegsGive legs pk y l

-- The part is that of the state s: the policy s ends at x without a record exactly where the part's free policy does,
-- and it records next, first of all, y at its dup l exactly where some leg of label l ends at y.
pub record IsPartOfDerivative (part : Part) (s : Policy) : Type 0 where
  pub ends : (pk x : Packet) → Gives (tree_of part.free) pk [] x ↔ Gives s pk [] x
  pub records : (pk y : Packet) (l : ℕ) → LegsGive part.legs pk y l ↔ RecordsAt s pk [] y l
  pub within : IsWithin s part
