-- The ends of states in a set, of one state more and of many states together.
use Rattle.std.proofs.Common.{◌≡◌, ℕ, suc, ◌+◌, ◌<◌, cond, eqb, inl, inr, ⊎_elim, Option, Some, None, List, [], ◌∷◌, ◌++◌, length, get_or, refl, sym, ap, subst, ◌∙◌, arith}
use Rattle.std.specs.Prelude.{All, map}
use Rattle.std.specs.Map.{lookup}
use Rattle.std.proofs.lemmas.List.{get_or-map, length-map, get_or_default, get_or_append_left}
use Rattle.std.proofs.Math.Seq.{get_or-append_seam}
use Rattle.std.proofs.lemmas.Bool.Decides.{eqb_tells, leb_tells}
use Rattle.nk_field.proofs.Lists.{In}
use Rattle.nk_store.specs.declared.node.Out.{Out}
use Rattle.nk_store.specs.StoreState.{StoreState, IsId, IsWhole, look, Grows}
use Rattle.nk_apply.specs.Leaves.{merged}
use Rattle.nk_apply.specs.Unions.{AreIds, unions}
use Rattle.nk_apply.proofs.Members.{Has, merged_left, merged_right, merged_has}
use Rattle.nk_compile.specs.WrongEnds.{end_leaf, wrong_leaf, IsEndOf, AreEndsOf, HaveEndsOf, end_on}

-- and so does a table of them
pub table_on : (old new : StoreState) (set : ℕ) (entries : List (ℕ × ℕ)) → Grows old new → IsId old set → AreEndsOf old set entries → AreEndsOf new set entries
table_on old new set entries g id are state r e = end_on old new set g id state r (are state r e)

-- with one more state
pub table_put : (st : StoreState) (set state r : ℕ) (old new : List (ℕ × ℕ)) → AreEndsOf st set old → IsEndOf st set state r →
    ((q : ℕ) → lookup (eqb q) new ≡ cond (eqb state q) (Some r) (lookup (eqb q) old)) → AreEndsOf st set new
table_put st set state r old new are one put q z e =
    elim (eqb_tells state q) [
      | inl same ↦
          let is : Some r ≡ Some z = sym (put q ∙ ap (λ b. cond b (Some r) (lookup (eqb q) old)) same.0) ∙ e in
          let z_is : r ≡ z = ap (value_or r) is in
          subst (λ k. IsEndOf st set k z) same.1 (subst (IsEndOf st set state) z_is one)
      | inr other ↦ are q z (sym (put q ∙ ap (λ b. cond b (Some r) (lookup (eqb q) old)) other.0) ∙ e)
    ]
  where
    value_or : ℕ → Option ℕ → ℕ
    value_or d None = d
    value_or d (Some x) = x

-- the states up to a place have their diagrams
abbrev pub HaveSoFar : StoreState → ℕ → List ℕ → List ℕ → ℕ → Type 0
HaveSoFar st set states ends n = (l : ℕ) → l < n → IsEndOf st set (get_or states l 0) (get_or ends l 0)

-- one more
pub ends_more : (old new : StoreState) (set i d state : ℕ) (states ends more : List ℕ) → Grows old new → IsId old set → length ends ≡ i → more ≡ ends ++ d ∷ [] → i < length states → state ≡ get_or states i state →
    IsEndOf new set state d → HaveSoFar old set states ends i → HaveSoFar new set states more (i + 1)
ends_more old new set i d state states ends more g id len is lt at one all l below = elim (leb_tells i l) [
  | inr before ↦
      subst (IsEndOf new set (get_or states l 0)) (sym (ap (λ xs. get_or xs l 0) is ∙ get_or_append_left ends (d ∷ []) 0 l (omega (arith, before.1, len))))
      (end_on old new set g id (get_or states l 0) (get_or ends l 0) (all l before.1))
  | inl here ↦
      let same : i ≡ l = omega (arith, here.1, below) in
      let last : get_or more l 0 ≡ d = ap (λ xs. get_or xs l 0) is ∙ ap (λ j. get_or (ends ++ d ∷ []) j 0) (sym (len ∙ same)) ∙ get_or-append_seam ends d [] 0 in
      let read : state ≡ get_or states l 0 = at ∙ get_or_default states i state 0 lt ∙ ap (λ j. get_or states j 0) same in
      subst (λ q. IsEndOf new set q (get_or more l 0)) read (subst (IsEndOf new set state) (sym last) one)
]

-- the diagrams from a place on have the ends of these states
from_place : (st : StoreState) (set : ℕ) (states ends pk ds : List ℕ) (from : ℕ) (ls : List ℕ) → HaveEndsOf st set states ends → IsWhole pk → All (λ l. l < length states) ls →
    ((k : ℕ) → k < length ls → get_or ds (from + k) 0 ≡ get_or ends (get_or ls k 0) 0) → unions st ds from (length ls) pk ≡ wrong_leaf st set states ls pk
from_place st set states ends pk ds from [] k w inside h = refl
from_place st set states ends pk ds from (l ∷ ls) k w inside h =
    let zero_is : from ≡ from + 0 = omega arith in
    let here : l < length states = inside 0 0 (omega arith) in
    let rest : All (λ n. n < length states) ls = λ j d lt. inside (suc j) d (omega (arith, lt)) in
    let first : get_or ds from 0 ≡ get_or ends l 0 = ap (λ i. get_or ds i 0) zero_is ∙ h 0 (omega arith) in
    let others : unions st ds (from + 1) (length ls) pk ≡ wrong_leaf st set states ls pk =
    from_place st set states ends pk ds (from + 1) ls k w rest (λ j lt. let e : (from + 1) + j ≡ from + suc j = omega arith in ap (λ i. get_or ds i 0) e ∙ h (suc j) (omega (arith, lt))) in
    ap (λ x. merged x (unions st ds (from + 1) (length ls) pk)) (ap (λ d. look st d pk) first ∙ (k.each l here).leaf pk w)
    ∙ ap (merged (end_leaf st set (get_or states l 0) pk)) others

-- the diagrams at places, together
pub picked_is : (st : StoreState) (set : ℕ) (states ends places pk ds : List ℕ) → HaveEndsOf st set states ends → IsWhole pk → All (λ l. l < length states) places →
    ds ≡ map (λ l. get_or ends l 0) places → unions st ds 0 (length ds) pk ≡ wrong_leaf st set states places pk
picked_is st set states ends places pk ds k w inside e =
    let many : length ds ≡ length places = ap length e ∙ length-map places (λ l. get_or ends l 0) in
    ap (λ n. unions st ds 0 n pk) many
    ∙ from_place st set states ends pk ds 0 places k w inside
    (λ j lt. let z : 0 + j ≡ j = omega arith in ap (λ i. get_or ds i 0) z ∙ ap (λ l. get_or l j 0) e ∙ get_or-map (λ l. get_or ends l 0) places j 0 0 lt)

-- they are diagrams
pub picked_ids : (st : StoreState) (set : ℕ) (states ends places ds : List ℕ) → HaveEndsOf st set states ends → All (λ l. l < length states) places →
    ds ≡ map (λ l. get_or ends l 0) places → AreIds st ds
picked_ids st set states ends places ds k inside e j lt =
    let within : j < length places = let m = ap length e ∙ length-map places (λ l. get_or ends l 0) in omega (arith, lt, m) in
    subst (IsId st) (sym (ap (λ l. get_or l j 0) e ∙ get_or-map (λ l. get_or ends l 0) places j 0 0 within)) (k.each (get_or places j 0) (inside j 0 within)).id

-- what they have together one of them has
pub of_wrong : (st : StoreState) (set : ℕ) (states places pk : List ℕ) (o : Out) → Has (wrong_leaf st set states places pk) o → (l : ℕ) × In places l × Has (end_leaf st set (get_or states l 0) pk) o
of_wrong st set states [] pk o h = absurd h
of_wrong st set states (l ∷ ls) pk o h =
    ⊎_elim
    (λ a. (l, inl refl, a))
    (λ b. let r = of_wrong st set states ls pk o b in (r.0, inr r.1, r.2))
    (merged_has o (end_leaf st set (get_or states l 0) pk) (wrong_leaf st set states ls pk) h)

-- and what one has they have
pub in_wrong : (st : StoreState) (set : ℕ) (states places pk : List ℕ) (o : Out) (l : ℕ) → In places l → Has (end_leaf st set (get_or states l 0) pk) o → Has (wrong_leaf st set states places pk) o
in_wrong st set states [] pk o l i h = absurd i
in_wrong st set states (m ∷ ms) pk o l (inl e) h =
    merged_left o (end_leaf st set (get_or states m 0) pk) (wrong_leaf st set states ms pk) (subst (λ n. Has (end_leaf st set (get_or states n 0) pk) o) e h)
in_wrong st set states (m ∷ ms) pk o l (inr i) h =
    merged_right o (end_leaf st set (get_or states m 0) pk) (wrong_leaf st set states ms pk) (in_wrong st set states ms pk o l i h)
