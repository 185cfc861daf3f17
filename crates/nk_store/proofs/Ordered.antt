-- Outs put in order, each once.
use Rattle.std.proofs.Common.{◌≡◌, sym, subst, List, [], ◌∷◌, refl, zero, suc, ℕ, ◌+◌, ◌<◌, length, arith, get_or, Contains}
use Rattle.std.specs.declared.cmp.Ordering.TheVariants.{Less}
use Rattle.std.specs.Cmp.{decided}
use Rattle.std.specs.List.{AllByRecursion, dedup}
use Rattle.std.specs.List.Sorted.{IsPermutation, IsSorted, IsStrictlySortedBy}
use Rattle.std.proofs.lemmas.List.Kept.{Contains-dedup, Contains-from_dedup, IsStrictlySortedBy-dedup}
use Rattle.std.proofs.lemmas.List.Sorted.{Contains-permutation, IsPermutation-sym}
use Rattle.std.proofs.lemmas.Map.Keys.{sorted_from_all_adjacent}
use Rattle.nk_store.specs.declared.node.Out.{Out}
use Rattle.nk_store.specs.contracts.node.OutOrd.TheImpl.Laws.{total-law, matches_eq-law}
use Rattle.nk_store.specs.contracts.node.OutPartialEq.TheImpl as out_impl
use Rattle.nk_store.specs.Leaves.{out_cmp, Every, Strict, AreOrdered}
use Rattle.nk_store.proofs.NodeEq.{out_decides}

-- what holds by recursion of each out holds of each
every_out : (P : Out → Type 0) (xs : List Out) → AllByRecursion P xs → Every P xs
every_out P [] h = tt
every_out P (x ∷ xs) h = (h.0, every_out P xs h.1)

-- a list in strict order ascends strictly
strict_list : (xs : List Out) → IsStrictlySortedBy out_cmp xs → Strict xs
unfolding IsStrictlySortedBy
strict_list [] h = tt
strict_list (x ∷ xs) h = (every_out (λ y. out_cmp x y ≡ Less) xs h.0, strict_list xs h.1)

-- outs each before the next one are in strict order
pub strict_from_neighbours : (xs : List Out)
    → ((k : ℕ) (d : Out) → k + 1 < length xs → out_cmp (get_or xs k d) (get_or xs (k + 1) d) ≡ Less) → Strict xs
strict_from_neighbours [] h = tt
strict_from_neighbours (x ∷ xs) h = strict_list (x ∷ xs) (sorted_from_all_adjacent total-law (x ∷ xs) x (λ k l. h k x l))

-- what holds of each out holds of a member
pub every_member : (P : Out → Type 0) (xs : List Out) (o : Out) → Every P xs → Contains xs o → P o
every_member P xs o e h = at xs e h.0 h.1 h.2
  where
    at : (ys : List Out) → Every P ys → (k : ℕ) → k < length ys → get_or ys k o ≡ o → P o
    at [] e k l is = absurd (omega arith)
    at (y ∷ ys) e zero l is = subst P is e.0
    at (y ∷ ys) e (suc k) l is = at ys e.1 k (omega arith) is

-- the first of some outs is a member
first_member : (x : Out) (xs : List Out) → Contains (x ∷ xs) x
first_member x xs = (0, omega arith, refl)

-- a member stays one after another out
later_member : (x o : Out) (xs : List Out) → Contains xs o → Contains (x ∷ xs) o
later_member x o xs h = (suc h.0, omega (arith, h.1), h.2)

-- what holds of each member holds of each out
pub every_from : (P : Out → Type 0) (xs : List Out) → ((o : Out) → Contains xs o → P o) → Every P xs
every_from P [] h = tt
every_from P (x ∷ xs) h = (h x (first_member x xs), every_from P xs (λ o c. h o (later_member x o xs c)))

-- what holds of each out holds of each once they are in order
pub every_ordered : (P : Out → Type 0) (outs r : List Out) → AreOrdered outs r → Every P outs → Every P r
every_ordered P outs r k e = every_from P r (λ o h. every_member P outs o e ((k.members o).0 h))

-- outs that were sorted and whose doubles were dropped are in order, each once
pub ordered : (outs all r : List Out) → IsPermutation outs all → IsSorted out_cmp all →
    r ≡ dedup out_impl.ghosts.eq all → AreOrdered outs r
ordered outs all r moved rising is =
    subst (AreOrdered outs) (sym is) (record {
      sorted = strict_list _ (IsStrictlySortedBy-dedup total-law matches_eq-law all rising);
      members = λ o. (
        λ h. Contains-permutation _ _ o (IsPermutation-sym _ _ moved) (Contains-from_dedup _ all o h),
        λ h. Contains-dedup (decided out_impl.ghosts.eq out_decides) (λ x y e. (out_decides x y).0 e) all o (Contains-permutation _ _ o moved h),
      );
    })
