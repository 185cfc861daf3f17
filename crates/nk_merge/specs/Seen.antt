-- Tags whose states are one diagram, without a comparison.
use Rattle.std.specs.Prelude.{◌≡◌, ℕ, ◌<◌, ◌↔◌, nat_eq, Some, List, length, slice_index}
use Rattle.std.specs.Map.{lookup}
use Rattle.nk_store.specs.StoreState.{StoreState, IsId, IsStorePacket}
use Rattle.nk_determ.specs.Exact.{Sends}
use Rattle.nk_determ.specs.States.{StateLeads}
use Rattle.nk_determ.specs.Pairs.{AreLabelsBelow}
use Rattle.nk_merge.specs.Alike.{AreAlike, labels_after, tag_set}

-- the diagram sends where the state of one of the labels does
pub record DoesTogether (st : StoreState) (states set : List ℕ) (d : ℕ) : Type 0 where
  pub id : IsId st d
  pub sends : (pk y : List ℕ) (t : ℕ) → IsStorePacket st pk → Sends st d pk y t ↔ StateLeads st states set pk y t

-- each set whose states do together what the diagram does is alike the first tag of the class at that place
pub record IsSeenAt (st : StoreState) (states : List ℕ) (ss : List (List ℕ)) (tags firsts : List ℕ) (d c : ℕ) : Type 0 where
  pub id : IsId st d
  pub class : c < length firsts
  pub alike : (set : List ℕ) → AreLabelsBelow (length states) set → DoesTogether st states set d → AreAlike st states (labels_after (tag_set ss tags (slice_index firsts c))) set

-- so it is with each entry
abbrev pub AreSeenDiagrams : StoreState → List ℕ → List (List ℕ) → List ℕ → List ℕ → List (ℕ × ℕ) → Type 0
AreSeenDiagrams st states ss tags firsts entries = (d c : ℕ) → lookup (nat_eq d) entries ≡ Some c → IsSeenAt st states ss tags firsts d c
