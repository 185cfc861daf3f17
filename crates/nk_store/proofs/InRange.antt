-- Packets in range for a store, and for the fields that it is over.
use Rattle.std.proofs.Common.{◌≡◌, ℕ, zero, suc, ◌-◌, ◌≤◌, List, [], ◌∷◌, ◌++◌, length, replicate, refl, sym, ◌∙◌, ap, subst, get_or}
use Rattle.nk_field.specs.Packet.{FieldTable, IsPacket as IsPacketOf}
use Rattle.nk_store.specs.StoreState.{StoreState, IsOver, IsStorePacket, Grows}

-- each value of a list of zeros, and past it
zero_value : (n k : ℕ) → ◌≡◌ {A = ℕ} (get_or (replicate n 0) k 0) 0
zero_value zero k = refl
zero_value (suc n) zero = refl
zero_value (suc n) (suc k) = zero_value n k

-- zeros after a list change no value of it
padded_value : (xs : List ℕ) (n k : ℕ) → get_or (xs ++ replicate n 0) k 0 ≡ get_or xs k 0
padded_value [] n k = zero_value n k
padded_value (x ∷ xs) n zero = refl
padded_value (x ∷ xs) n (suc k) = padded_value xs n k

-- the store has the largest value of each field, as the fields have it
pub same_value : (fields : FieldTable) (st : StoreState) (k : ℕ) → IsOver fields st →
    get_or st.maxes k 0 ≡ get_or fields.maxima k 0
same_value fields st k o = ap (λ ms. get_or ms k 0) o.maxes ∙ padded_value fields.maxima (18 - length fields.maxima) k

-- a packet of the fields is in range for the store
pub packet_in_range : (fields : FieldTable) (st : StoreState) (pk : List ℕ) → IsOver fields st →
    IsPacketOf fields pk → IsStorePacket st pk
packet_in_range fields st pk o h =
    (h.places, λ k. subst (λ m. get_or pk k 0 ≤ m) (sym (same_value fields st k o)) (h.within k))

-- and the other way round
pub packet_of_fields : (fields : FieldTable) (st : StoreState) (pk : List ℕ) → IsOver fields st → IsStorePacket st pk →
    IsPacketOf fields pk
packet_of_fields fields st pk o h =
    record { places = h.0; within = λ k. subst (λ m. get_or pk k 0 ≤ m) (same_value fields st k o) (h.1 k) }

-- a store that grew is over the same fields
pub over_grown : (fields : FieldTable) (old new : StoreState) → IsOver fields old → Grows old new →
    IsOver fields new
over_grown fields old new o g = record { maxes = g.maxes ∙ o.maxes; width = g.width ∙ o.width; tag = g.tag ∙ o.tag }
