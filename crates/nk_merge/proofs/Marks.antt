-- Labels marked again, the marks of the sides, and what is decided of labels.
use Rattle.std.proofs.Common.{◌≡◌, ℕ, zero, suc, ◌+◌, ◌<◌, true, ◌⊎◌, inl, inr, ⊎_elim, List, [], ◌∷◌, refl, ap, subst, arith}
use Rattle.std.specs.Prelude.{map, Contains, slice_index}
use Rattle.nk_field.proofs.Lists.{in_from_contains, contains_from_in, in_left, in_right, in_either, in_mapped, from_mapped, in_decided, numbers_decided, Decided}
use Rattle.nk_store.specs.StoreState.{StoreState, IsStorePacket, HasLeaves}
use Rattle.nk_apply.specs.Seqs.{no_out}
use Rattle.nk_sets.specs.PacketSets.{has_some_out, is_in}
use Rattle.nk_determ.specs.Exact.{Sends}
use Rattle.nk_determ.specs.States.{StateLeads}
use Rattle.nk_reach.specs.Sides.{label_side, EndsAt}
use Rattle.nk_runs.proofs.Listings.{both_decided, either_decided, decided_for, above_zero, some_decided, sends_decided}
use Rattle.nk_merge.specs.Alike.{labels_after}
use Rattle.nk_merge.specs.DisjointCopies.{again}
use Rattle.nk_merge.specs.Joined.{both_sets}

-- a label that is marked again is raised
pub again_is : (n l : ℕ) → 0 < l → again n l ≡ l + n
again_is n zero lt = absurd (omega (arith, lt))
again_is n (suc l) lt = refl

-- what is no label has none marked again
pub again_some : (n l : ℕ) → 0 < again n l → 0 < l
again_some n zero lt = lt
again_some n (suc l) lt = omega arith

-- and a label has one
pub some_again : (n l : ℕ) → 0 < l → 0 < again n l
some_again n zero lt = lt
some_again n (suc l) lt = omega arith

-- labels marked again are one where they were
pub again_one : (n k l : ℕ) → again n k ≡ again n l → k ≡ l
again_one n zero zero e = refl
again_one n zero (suc l) e = absurd (omega (arith, e))
again_one n (suc k) zero e = absurd (omega (arith, e))
again_one n (suc k) (suc l) e = omega (arith, e)

-- whether the states at some labels send a packet to a target
pub leads_decided : (st : StoreState) (states s x y : List ℕ) (t : ℕ) → Decided (StateLeads st states s x y t)
leads_decided st states s x y t =
    decided_for
    (λ h. (h.0, contains_from_in s h.0 h.1, h.2))
    (λ h. (h.0, in_from_contains s h.0 h.1, h.2))
    (some_decided (λ l. Sends st (slice_index states l) x y t) (λ l. sends_decided st (slice_index states l) x y t) s)

-- whether a side ends at a packet
pub ends_decided : (st : StoreState) (states : List ℕ) (d bound k : ℕ) (s x y : List ℕ) → Decided (EndsAt st states d bound k s x y)
ends_decided st states d bound k s x y =
    either_decided
    (both_decided
    (decided_for (λ i. contains_from_in s 0 i) (λ c. in_from_contains s 0 c) (in_decided numbers_decided s 0))
    (sends_decided st d x y 0))
    (decided_for (λ h. (h.0, contains_from_in s h.0 h.1, h.2.0, h.2.1.0, h.2.1.1)) (λ h. (h.0, in_from_contains s h.0 h.1, (h.2, (h.3, h.4))))
    (some_decided (λ l. (0 < l) × ((label_side bound l ≡ k) × Sends st (slice_index states l) x y 0))
    (λ l. both_decided (above_zero l) (both_decided (numbers_decided (label_side bound l) k) (sends_decided st (slice_index states l) x y 0)))
    s))

-- a label of both sets is one of the first set, or one of the second that is marked again
pub from_both : (n : ℕ) (s t : List ℕ) (l : ℕ) → Contains (both_sets n s t) l → Contains s l ⊎ ((k : ℕ) × Contains t k × (l ≡ again n k))
from_both n s t l c =
    ⊎_elim
    (λ i. inl (contains_from_in s l i))
    (λ i. let m = from_mapped (again n) t l i in inr (m.0, contains_from_in t m.0 m.1, m.2))
    (in_either s (map (again n) t) l (in_from_contains (both_sets n s t) l c))

pub first_of_both : (n : ℕ) (s t : List ℕ) (l : ℕ) → Contains s l → Contains (both_sets n s t) l
first_of_both n s t l c = contains_from_in (both_sets n s t) l (in_left s (map (again n) t) l (in_from_contains s l c))

pub second_of_both : (n : ℕ) (s t : List ℕ) (k : ℕ) → Contains t k → Contains (both_sets n s t) (again n k)
second_of_both n s t k c =
    contains_from_in (both_sets n s t) (again n k) (in_right s (map (again n) t) (again n k) (in_mapped (again n) t k (in_from_contains t k c)))

-- a label after others is above 0
pub following_some : (s : List ℕ) (l : ℕ) → Contains (labels_after s) l → 0 < l
following_some s l c = let m = from_mapped (λ k. k + 1) s l (in_from_contains (labels_after s) l c) in omega (arith, m.2)

-- the empty list has no element
pub none_in : {X : Type 0} (xs : List X) (x : X) → xs ≡ [] → Contains xs x → ⊥
none_in xs x e c = in_from_contains [] x (subst (λ z. Contains z x) e c)

-- the diagram that passes each packet has all packets
pub everywhere : (st : StoreState) (d : ℕ) (pk : List ℕ) → HasLeaves st d (λ x. no_out ∷ []) → IsStorePacket st pk → is_in st d pk ≡ true
everywhere st d pk h r = ap has_some_out (h.leaf pk r.0)
