-- Diagrams put together in any order and number.
use Rattle.std.proofs.Common.{◌≡◌, ℕ, zero, suc, ◌<◌, ◌≤◌, ◌+◌, ◌↔◌, inl, inr, sym, ◌∙◌, subst, arith, List, length, get_or, Contains}
use Rattle.std.proofs.lemmas.Bool.Decides.{eqb_tells}
use Rattle.nk_store.specs.declared.node.Out.{Out}
use Rattle.nk_store.specs.Leaves.{Strict}
use Rattle.nk_store.specs.StoreState.{StoreState, IsId, look, AreTidy}
use Rattle.nk_apply.specs.Unions.{AreIds, unions}
use Rattle.nk_apply.proofs.Sorted.{merged_strict}
use Rattle.nk_apply.proofs.Members.{Has, merged_left, merged_right, merged_has, strict_same}
use Rattle.nk_sets.proofs.Kept.{get_or_same}

-- among diagrams of the store are diagrams of the store
pub ids_alike : (st : StoreState) (xs ys : List ℕ) → ((d : ℕ) → Contains xs d → Contains ys d) → AreIds st ys → AreIds st xs
ids_alike st xs ys among ids k l =
    let d = get_or xs k 0 in
    let c = among d (k, l, get_or_same xs k d 0 l) in
    subst (IsId st) (get_or_same ys c.0 0 d c.1 ∙ c.2) (ids c.0 c.1)

-- many leaves together ascend strictly
unions_strict : (st : StoreState) (ds : List ℕ) (from n : ℕ) (pk : List ℕ) → AreTidy st → Strict (unions st ds from n pk)
unions_strict st ds from zero pk tidy = tt
unions_strict st ds from (suc n) pk tidy = merged_strict (look st (get_or ds from 0) pk) (unions st ds (from + 1) n pk) ((tidy (get_or ds from 0)).sorted pk) (unions_strict st ds (from + 1) n pk tidy)

-- an out of many together is one of some of them
some_has : (st : StoreState) (ds : List ℕ) (from n : ℕ) (pk : List ℕ) (o : Out) → Has (unions st ds from n pk) o → (k : ℕ) × (k < from + n) × Has (look st (get_or ds k 0) pk) o
some_has st ds from zero pk o h = absurd h
some_has st ds from (suc n) pk o h = elim (merged_has o (look st (get_or ds from 0) pk) (unions st ds (from + 1) n pk) h) [
  | inl here ↦ (from, omega arith, here)
  | inr later ↦ let w = some_has st ds (from + 1) n pk o later in (w.0, omega (arith, w.1), w.2)
]

-- an out of one of them is one of all together
has_some : (st : StoreState) (ds : List ℕ) (from n : ℕ) (pk : List ℕ) (o : Out) (k : ℕ) → from ≤ k → k < from + n → Has (look st (get_or ds k 0) pk) o → Has (unions st ds from n pk) o
has_some st ds from zero pk o k a b h = absurd (omega (arith, a, b))
has_some st ds from (suc n) pk o k a b h = elim (eqb_tells from k) [
  | inl same ↦ merged_left o (look st (get_or ds from 0) pk) (unions st ds (from + 1) n pk) (subst (λ j. Has (look st (get_or ds j 0) pk) o) (sym same.1) h)
  | inr other ↦ merged_right o (look st (get_or ds from 0) pk) (unions st ds (from + 1) n pk) (has_some st ds (from + 1) n pk o k (omega (arith, a, other.1)) (omega (arith, b)) h)
]

-- an out of some together is one of those among which they are
among_has : (st : StoreState) (xs ys : List ℕ) (pk : List ℕ) (o : Out) → ((d : ℕ) → Contains xs d → Contains ys d) → Has (unions st xs 0 (length xs) pk) o → Has (unions st ys 0 (length ys) pk) o
among_has st xs ys pk o among h =
    let w = some_has st xs 0 (length xs) pk o h in
    let l : w.0 < length xs = omega (arith, w.1) in
    let d = get_or xs w.0 0 in
    let c = among d (w.0, l, get_or_same xs w.0 d 0 l) in
    has_some st ys 0 (length ys) pk o c.0 (omega arith) (omega (arith, c.1)) (subst (λ e. Has (look st e pk) o) (sym (get_or_same ys c.0 0 d c.1 ∙ c.2)) w.2)

-- lists of the same diagrams have the same leaves together
pub unions_alike : (st : StoreState) (xs ys : List ℕ) (pk : List ℕ) → AreTidy st → ((d : ℕ) → Contains xs d ↔ Contains ys d) → unions st xs 0 (length xs) pk ≡ unions st ys 0 (length ys) pk
unions_alike st xs ys pk tidy same =
    strict_same (unions st xs 0 (length xs) pk) (unions st ys 0 (length ys) pk) (unions_strict st xs 0 (length xs) pk tidy) (unions_strict st ys 0 (length ys) pk tidy)
    (λ o h. among_has st xs ys pk o (λ d. (same d).0) h) (λ o h. among_has st ys xs pk o (λ d. (same d).1) h)
