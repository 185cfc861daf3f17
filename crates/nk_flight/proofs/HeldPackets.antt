-- Packets as they are held: what a hasher is given of them, and what stands at a place.
use Rattle.std.proofs.Common.{◌≡◌, ℕ, ◌+◌, ◌<◌, true, nat_eq, List, [], ◌∷◌, length, slice_index, slice_get, Some, sym, ap, ◌∙◌, arith}
use Rattle.std.specs.Prelude.{map}
use Rattle.std.specs.List.{range_with_len, fold}
use Rattle.std.specs.Hash.{HashWrites, u64, fed_then}
use Rattle.std.specs.Cmp.Lexicographic.{pointwise}
use Rattle.std.proofs.lemmas.List.FromFn.{map-range_with_len_more}
use Rattle.std.proofs.lemmas.Option.{get_or_from_slice_get, slice_get_cases}
use Rattle.nk_flight.specs.HeldPackets.{value_fed, packet_same}
use Rattle.nk_flight.specs.HopLists.{packet_at}

-- what a hasher is given of a packet's first n values
abbrev pub first_fed : List ℕ → ℕ → HashWrites
first_fed p n = map (value_fed p) (range_with_len 0 n)

-- one value more is given
pub one_more_fed : {S : Type 0} (write : S → List ℕ → S) (p : List ℕ) (s t u : S) (n v : ℕ) → t ≡ fold write s (first_fed p n) → v ≡ slice_index p n
    → u ≡ fold write t (u64 v) → u ≡ fold write s (first_fed p (n + 1))
one_more_fed write p s t u n v before is now =
    fed_then write s t u (first_fed p n) (value_fed p n ∷ []) before (now ∙ ap (λ k. fold write t (u64 k)) is)
    ∙ ap (fold write s) (sym (map-range_with_len_more (value_fed p) 0 n n (omega arith)))

-- what is found is within the list
inside : (pks : List (List ℕ)) (i : ℕ) (k : List ℕ) → slice_get pks i ≡ Some k → i < length pks
inside pks i k e = grind (arith, slice_get_cases pks i, e)

-- a packet that equals the packet at a place is the packet at the place
pub stored_packet : (pks : List (List ℕ)) (i : ℕ) (k p : List ℕ) → slice_get pks i ≡ Some k → pointwise nat_eq p k ≡ true → (i < length pks) × (packet_at pks i ≡ p)
stored_packet pks i k p at same = (inside pks i k at, get_or_from_slice_get pks i k [] at ∙ sym (packet_same p k same))
