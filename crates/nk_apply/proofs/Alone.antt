-- Many diagrams together of which all but one drop each packet.
use Rattle.std.proofs.Common.{◌≡◌, ℕ, ◌+◌, ◌<◌, List, length, sym, ◌∙◌, ap, subst, arith, get_or}
use Rattle.nk_store.specs.StoreState.{StoreState, IsId, look, HasLeaves, AreTidy}
use Rattle.nk_apply.specs.Leaves.{merged}
use Rattle.nk_apply.specs.Unions.{AreIds, unions}
use Rattle.nk_apply.proofs.Unite.{unions_halves}
use Rattle.nk_apply.proofs.Weaves.{merged-nil}

-- the leaves of one diagram more
one_more : (st : StoreState) (ds : List ℕ) (i : ℕ) (pk : List ℕ) → AreTidy st →
    unions st ds 0 (i + 1) pk ≡ merged (unions st ds 0 i pk) (look st (get_or ds i 0) pk)
one_more st ds i pk t =
    let at : 0 + i ≡ i = omega arith in
    sym (unions_halves st ds 0 i 1 pk t)
    ∙ ap (λ l. merged (unions st ds 0 i pk) l) (merged-nil (look st (get_or ds (0 + i) 0) pk) ∙ ap (λ k. look st (get_or ds k 0) pk) at)

-- the first diagram is all of the first one
pub first_alone : (st : StoreState) (ds : List ℕ) (a : ℕ) → AreIds st ds → 0 < length ds → a ≡ get_or ds 0 0 →
    HasLeaves st a (λ pk. unions st ds 0 1 pk)
first_alone st ds a ids some e = record {
  id = subst (IsId st) (sym e) (ids 0 some);
  leaf = λ pk w. ap (λ k. look st k pk) e ∙ sym (merged-nil (look st (get_or ds 0 0) pk));
}

-- the first ones together with one diagram more are one more of the first ones
pub next_alone : (st : StoreState) (ds : List ℕ) (i a b r : ℕ) → AreTidy st → HasLeaves st a (λ pk. unions st ds 0 i pk) →
    b ≡ get_or ds i 0 → HasLeaves st r (λ pk. merged (look st a pk) (look st b pk)) →
    HasLeaves st r (λ pk. unions st ds 0 (i + 1) pk)
next_alone st ds i a b r t g e h = record {
  id = h.id;
  leaf = λ pk w.
      h.leaf pk w
      ∙ ap (λ x. merged x (look st b pk)) (g.leaf pk w)
      ∙ ap (λ k. merged (unions st ds 0 i pk) (look st k pk)) e
      ∙ sym (one_more st ds i pk t);
}
