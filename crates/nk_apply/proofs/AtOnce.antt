-- Many leaves together at once: their outs, one leaf's after the other's, in order.
use Rattle.std.proofs.Common.{◌≡◌, ℕ, zero, suc, ◌+◌, ◌<◌, ◌≤◌, List, [], ◌∷◌, ◌++◌, length, refl, sym, ◌∙◌, ap, subst, arith, get_or, drop, take}
use Rattle.std.specs.Prelude.{OnOk}
use Rattle.std.specs.declared.result.Result.{Result}
use Rattle.std.specs.declared.result.Result.TheVariants.{Ok, Err}
use Rattle.std.proofs.lemmas.List.{drop_more, drop_all, take_more, flat_map_more}
use Rattle.nk_store.specs.declared.node.Node.{Node}
use Rattle.nk_store.specs.declared.node.Node.TheVariants.{Leaf, Case}
use Rattle.nk_store.specs.declared.node.Out.{Out}
use Rattle.nk_store.specs.Leaves.{Every, Suits, AreOrdered}
use Rattle.nk_store.specs.StoreState.{StoreState, node_of, look, root_field, HasLeaves, IsNodeOf, AreTidy}
use Rattle.nk_apply.specs.Seqs.{node_outs, outs_of}
use Rattle.nk_apply.specs.Unions.{AreIds, AreFrom, outs_in_turn, unions}
use Rattle.nk_apply.proofs.Gathers.{ordered_more, same_order, every_unordered}
use Rattle.nk_apply.proofs.PartSums.{AreNodes}
use Rattle.nk_apply.proofs.Sorted.{merged_every}

-- a diagram that tests no field has its outs at each packet
pub leaf_outs : (st : StoreState) (d : ℕ) (n : Node) → n ≡ node_of st d → IsNodeOf st d n → 18 ≤ root_field st d → (pk : List ℕ) →
    look st d pk ≡ outs_of st d
unfolding outs_of
leaf_outs st d (Leaf outs) e k l pk = k.leaf pk ∙ ap node_outs e
leaf_outs st d (Case f ps) e k l pk = absurd (omega (arith, l, k.root_field_is, k.parts_ok.field))

-- each of many diagrams that test no field has its outs at each packet
many_outs : (st : StoreState) (ds : List ℕ) (k : ℕ) (pk : List ℕ) → AreNodes st → AreIds st ds → AreFrom st 18 ds →
    k < length ds → look st (get_or ds k 0) pk ≡ outs_of st (get_or ds k 0)
many_outs st ds k pk nodes ids first l =
    leaf_outs st (get_or ds k 0) (node_of st (get_or ds k 0)) refl (nodes (get_or ds k 0) (ids k l)) (first k l) pk

-- the outs of leaves from a place on, one leaf's after the other's, come in order to the leaves together
turn_ordered : (st : StoreState) (ds : List ℕ) (pk : List ℕ) (from n : ℕ) → AreNodes st → AreTidy st → AreIds st ds →
    AreFrom st 18 ds → from + n ≡ length ds → AreOrdered (outs_in_turn st (drop from ds)) (unions st ds from n pk)
turn_ordered st ds pk from zero nodes tidy ids first l =
    subst (λ xs. AreOrdered (outs_in_turn st xs) []) (sym (drop_all from ds (omega (arith, l))))
    (record { sorted = tt; members = λ o. (λ c. c, λ c. c) })
turn_ordered st ds pk from (suc n) nodes tidy ids first l =
    let d = get_or ds from 0 in
    let is : look st d pk ≡ outs_of st d = many_outs st ds from pk nodes ids first (omega (arith, l)) in
    subst (λ xs. AreOrdered (outs_in_turn st xs) (unions st ds from (suc n) pk)) (sym (drop_more ds from 0 (omega (arith, l))))
    (subst (λ os. AreOrdered (os ++ outs_in_turn st (drop (from + 1) ds)) (unions st ds from (suc n) pk)) is
    (ordered_more (look st d pk) (outs_in_turn st (drop (from + 1) ds)) (unions st ds (from + 1) n pk) ((tidy d).sorted pk)
    (turn_ordered st ds pk (from + 1) n nodes tidy ids first (omega (arith, l)))))

-- outs that suit, after the outs of leaves that suit
many_suit : (st : StoreState) (ds : List ℕ) (pk : List ℕ) (from n : ℕ) → AreTidy st → Every (Suits st.maxes) (unions st ds from n pk)
many_suit st ds pk from zero tidy = tt
many_suit st ds pk from (suc n) tidy =
    merged_every (Suits st.maxes) (look st (get_or ds from 0) pk) (unions st ds (from + 1) n pk) ((tidy (get_or ds from 0)).suits pk) (many_suit st ds pk (from + 1) n tidy)

-- the outs of leaves suit the highest values
pub turn_suits : (st : StoreState) (ds : List ℕ) (outs : List Out) → AreNodes st → AreTidy st → AreIds st ds → AreFrom st 18 ds →
    outs ≡ outs_in_turn st ds → Every (Suits st.maxes) outs
turn_suits st ds outs nodes tidy ids first is =
    subst (Every (Suits st.maxes)) (sym is)
    (every_unordered (Suits st.maxes) (outs_in_turn st ds) (unions st ds 0 (length ds) []) (turn_ordered st ds [] 0 (length ds) nodes tidy ids first (omega arith)) (many_suit st ds [] 0 (length ds) tidy))

-- the leaf with these outs in order is all leaves together
pub turn_leaf : (st new : StoreState) (ds : List ℕ) (outs r : List Out) (d : ℕ) → AreNodes st → AreTidy st → AreIds st ds →
    AreFrom st 18 ds → outs ≡ outs_in_turn st ds → AreOrdered outs r → HasLeaves new d (λ pk. r) →
    HasLeaves new d (λ pk. unions st ds 0 (length ds) pk)
turn_leaf st new ds outs r d nodes tidy ids first is a h = record {
  id = h.id;
  leaf = λ pk w.
      h.leaf pk w
      ∙ same_order (outs_in_turn st ds) r (unions st ds 0 (length ds) pk) (subst (λ os. AreOrdered os r) is a) (turn_ordered st ds pk 0 (length ds) nodes tidy ids first (omega arith));
}

-- the outs of one leaf more
pub turn_more : (st : StoreState) (ds : List ℕ) (i d : ℕ) (so_far before : List Out) → i < length ds → d ≡ get_or ds i 0 →
    before ≡ outs_in_turn st (take i ds) → so_far ≡ before ++ outs_of st d → so_far ≡ outs_in_turn st (take (i + 1) ds)
turn_more st ds i d so_far before l is e more =
    more ∙ ap (λ os. os ++ outs_of st d) e ∙ flat_map_more (outs_of st) [] (take i ds) d
    ∙ ap (λ k. outs_in_turn st (take i ds ++ k ∷ [])) is ∙ ap (λ xs. outs_in_turn st xs) (sym (take_more ds i 0 l))

-- what follows where there is no error follows from what is known there
pub on_weaker : {T E : Type 0} (r : Result T E) (P Q : Type 0) → (P → Q) → OnOk r P → OnOk r Q
on_weaker (Ok t) P Q f p = f p
on_weaker (Err e) P Q f p = tt
