-- The packets from which either side alone has a history, as sets of a store.
use Rattle.std.specs.Prelude.{◌≡◌, ◌⊎◌, ℕ, true, false, List, [], ◌∷◌}
use Rattle.nk_policy.specs.Tree.{tree_of}
use Rattle.nk_store.specs.declared.node.Out.{Out}
use Rattle.nk_store.specs.StoreState.{StoreState, IsWhole, IsStorePacket, Grows, AreTidy}
use Rattle.nk_sets.specs.PacketSets.{is_in}
use Rattle.nk_sets.specs.PolicyOf.{IsPolicyOf}
use Rattle.nk_cert.specs.Levelled.{HasEach, IsOneSided}
use Rattle.nk_backward.specs.CounterexampleStarts.{AreCounterexampleStarts}
use Rattle.nk_difference.specs.declared.predicates.Difference.{Difference}
use Rattle.nk_difference.specs.declared.predicates.Difference.TheVariants.{Same, Differs}

-- From all packets, in a store that has grown since `first`: the packets that start a history which ends where the left side alone
-- ends, and those that start one which ends where the right side alone does.
pub record AreStartsOfSides (first : StoreState) (states : List ℕ) (left right bound : ℕ) (new : StoreState) (of_left of_right : ℕ) : Type 0 where
  pub old : StoreState
  pub begun : Grows first old
  pub grown : Grows old new
  pub tidy : AreTidy old
  pub start : ℕ
  pub start_is : HasEach old start
  pub bad : List ℕ → List ℕ → List Out
  pub sided : IsOneSided first states left right bound bad
  pub left_starts : AreCounterexampleStarts old states (0 ∷ []) start bad 0 new of_left
  pub right_starts : AreCounterexampleStarts old states (0 ∷ []) start bad 1 new of_right

-- both sets are empty; or these are the predicates of the two, of which one has a packet
abbrev pub IsDifferenceIn : StoreState → ℕ → ℕ → Difference → Type 0
IsDifferenceIn st left right Same = (pk : List ℕ) → IsWhole pk → (is_in st left pk ≡ false) × (is_in st right pk ≡ false)
IsDifferenceIn st left right (Differs a b) =
    IsPolicyOf st left (tree_of a) × IsPolicyOf st right (tree_of b) × ((pk : List ℕ) × IsStorePacket st pk × ((is_in st left pk ≡ true) ⊎ (is_in st right pk ≡ true)))
