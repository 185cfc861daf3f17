-- Ends that are not to be, as finals of the sets at which they are met.
use Rattle.std.specs.Prelude.{◌≡◌, ◌↔◌, ℕ, Bool, true, List, length}
use Rattle.nk_field.specs.declared.packet.Packet.{Packet}
use Rattle.nk_policy.specs.Policy.{Policy}
use Rattle.nk_policy.specs.Meaning.{Gives}
use Rattle.nk_store.specs.declared.node.Out.{Out}
use Rattle.nk_store.specs.StoreState.{StoreState, IsStorePacket}
use Rattle.nk_determ.specs.States.{StateLeads}
use Rattle.nk_determ.specs.Pairs.{AreLabelsBelow}
use Rattle.nk_determ.specs.Counterexamples.{MakesWithTarget}

-- of sets of places among the states: the violations make, with target 0, exactly the packets at which members' states end and
-- that the test finds wrong
abbrev pub AreWrongEnds : StoreState → List ℕ → (Packet → Bool) → (List ℕ → List ℕ → List Out) → Type 0
AreWrongEnds st states wrong bad =
    (set x y : List ℕ) (target : ℕ) → AreLabelsBelow (length states) set → IsStorePacket st x
    → MakesWithTarget (bad set x) x y target ↔ ((target ≡ 0) × StateLeads st states set x y 0 × (wrong y ≡ true))

-- from some start packet the policy has a history that ends wrongly
abbrev pub HasWrongEnd : Policy → (Packet → Type 0) → (Packet → Bool) → Type 0
HasWrongEnd p Start wrong = (pk : Packet) × (w : List Packet) × (y : Packet) × Start pk × Gives p pk w y × (wrong y ≡ true)
