-- Packets and sets of packets as stores grow.
use Rattle.std.proofs.Common.{◌≡◌, ℕ, suc, zero, ◌<◌, true, refl, sym, ◌∙◌, ap, subst, arith, List, [], ◌∷◌, length, get_or}
use Rattle.nk_store.specs.StoreState.{StoreState, IsId, IsStorePacket, Grows}
use Rattle.nk_store.specs.Nodes.{InRange}
use Rattle.nk_sets.specs.PacketSets.{has_some_out, is_in}

-- the packet is in the set
abbrev pub Has : StoreState → ℕ → List ℕ → Type 0
Has st s x = is_in st s x ≡ true

-- a packet stays one as the store grows
pub packet_on : (a b : StoreState) (x : List ℕ) → Grows a b → IsStorePacket a x → IsStorePacket b x
packet_on a b x g p = subst (λ m. InRange m x) (sym g.maxes) p

-- a packet of the grown store is one of the old store
pub packet_back : (a b : StoreState) (x : List ℕ) → Grows a b → IsStorePacket b x → IsStorePacket a x
packet_back a b x g p = subst (λ m. InRange m x) g.maxes p

-- a set of packets stays as it is
pub has_on : (a b : StoreState) (s : ℕ) (x : List ℕ) → Grows a b → IsId a s → Has a s x → Has b s x
has_on a b s x g i h = ap has_some_out (g.leaves s x i) ∙ h

-- a packet in the set in the grown store was in it
pub has_back : (a b : StoreState) (s : ℕ) (x : List ℕ) → Grows a b → IsId a s → Has b s x → Has a s x
has_back a b s x g i h = ap has_some_out (sym (g.leaves s x i)) ∙ h

-- within the list the default doesn't matter
pub get_or_same : {A : Type 0} (xs : List A) (k : ℕ) (a b : A) → k < length xs → get_or xs k a ≡ get_or xs k b
get_or_same [] k a b l = absurd (omega (arith, l))
get_or_same (x ∷ xs) zero a b l = refl
get_or_same (x ∷ xs) (suc k) a b l = get_or_same xs k a b (omega (arith, l))
