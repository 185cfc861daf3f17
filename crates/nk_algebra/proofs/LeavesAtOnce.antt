-- One leaf, then another one, at once: all outs, put in order.
use Rattle.std.proofs.Common.{◌≡◌, ℕ, zero, suc, ◌+◌, ◌-◌, ◌<◌, List, [], ◌∷◌, ◌++◌, map, refl, sym, ◌∙◌, ap, subst, arith, get_or, ◌⊎◌, inl, inr}
use Rattle.std.proofs.lemmas.List.{append_assoc}
use Rattle.nk_field.specs.Act.{applied}
use Rattle.nk_store.specs.declared.node.Out.{Out}
use Rattle.nk_store.specs.Leaves.{Every, Suits, AreOrdered, IsActFrom}
use Rattle.nk_store.specs.StoreState.{StoreState, IsId, node_of, look, root_field, Grows, HasLeaves, AreTidy}
use Rattle.nk_apply.specs.Leaves.{merged}
use Rattle.nk_apply.specs.Seqs.{prefixed, out_after, outs_of, no_out, out_made, outs_made}
use Rattle.nk_apply.specs.Unions.{in_turn, over_places}
use Rattle.nk_algebra.proofs.Acts.{prefixed_suits}
use Rattle.nk_apply.proofs.AtOnce.{leaf_outs}
use Rattle.nk_apply.proofs.Gathers.{same_order, every_unordered, has_front, has_back, has_either, prefixed_ordered}
use Rattle.nk_apply.proofs.Members.{Has, merged_left, merged_right, merged_has, has_contains, contains_has}
use Rattle.nk_apply.proofs.PartSums.{AreNodes}
use Rattle.nk_apply.proofs.Sorted.{merged_strict}

-- a diagram that tests no field tests none in a store that grew
pub leaf_still : (old new : StoreState) (d : ℕ) → Grows old new → IsId old d → root_field old d ≡ 18 → root_field new d ≡ 18
leaf_still old new d g i e = g.root_fields d i ∙ e

-- outs in front of others come in order to both leaves together
ordered_both : (xs ys r s : List Out) → AreOrdered xs r → AreOrdered ys s → AreOrdered (xs ++ ys) (merged r s)
ordered_both xs ys r s a b = record {
  sorted = merged_strict r s a.sorted b.sorted;
  members = λ o. (
    λ c. has_contains (xs ++ ys) o (there o (merged_has o r s (contains_has (merged r s) o c))),
    λ c. has_contains (merged r s) o (back o (has_either xs ys o (contains_has (xs ++ ys) o c))),
  );
}
  where
    there : (o : Out) → Has r o ⊎ Has s o → Has (xs ++ ys) o
    there o (inl h) = has_front xs ys o (contains_has xs o ((a.members o).0 (has_contains r o h)))
    there o (inr h) = has_back xs ys o (contains_has ys o ((b.members o).0 (has_contains s o h)))

    back : (o : Out) → Has xs o ⊎ Has ys o → Has (merged r s) o
    back o (inl h) = merged_left o r s (contains_has r o ((a.members o).1 (has_contains xs o h)))
    back o (inr h) = merged_right o r s (contains_has s o ((b.members o).1 (has_contains ys o h)))

-- what is made of places, one's after the other's, comes in order to what is made of them as one list
turn_ordered : (F G : ℕ → List Out) (from n : ℕ) → ((k : ℕ) → AreOrdered (F k) (G k)) →
    AreOrdered (in_turn F from n) (over_places G from n)
turn_ordered F G from zero h = record { sorted = tt; members = λ o. (λ c. c, λ c. c) }
turn_ordered F G from (suc n) h =
    ordered_both (F from) (in_turn F (from + 1) n) (G from) (over_places G (from + 1) n) (h from) (turn_ordered F G (from + 1) n h)

-- what holds of each out of two lists holds of each of one after the other
every_both : (P : Out → Type 0) (xs ys : List Out) → Every P xs → Every P ys → Every P (xs ++ ys)
every_both P [] ys a b = b
every_both P (x ∷ xs) ys a b = (a.0, every_both P xs ys a.1 b)

-- what holds of each out that is made of a place holds of all in turn
turn_every : (P : Out → Type 0) (F : ℕ → List Out) (from n : ℕ) → ((k : ℕ) → Every P (F k)) → Every P (in_turn F from n)
turn_every P F from zero h = tt
turn_every P F from (suc n) h = every_both P (F from) (in_turn F (from + 1) n) (h from) (turn_every P F (from + 1) n h)

-- the act at a place of outs that suit is in range, and past them nothing is assigned
act_suits : (maxes : List ℕ) (outs : List Out) (k : ℕ) → Every (Suits maxes) outs → IsActFrom maxes 0 (get_or outs k no_out).act
act_suits maxes [] k e = tt
act_suits maxes (o ∷ os) zero e = e.0
act_suits maxes (o ∷ os) (suc k) e = act_suits maxes os k e.1

-- outs after an act come in order to the leaf that puts them after it
made_ordered : (firsts seconds : List Out) (B : List ℕ → List Out) (pk : List ℕ) (k : ℕ) → ((q : List ℕ) → B q ≡ seconds) →
    AreOrdered (outs_made firsts seconds k) (out_made firsts B pk k)
made_ordered firsts seconds B pk k is =
    let g = (get_or firsts k no_out).act in
    subst (λ os. AreOrdered (outs_made firsts seconds k) (prefixed g os)) (sym (is (applied g pk))) (prefixed_ordered g seconds (map (out_after g) seconds) refl)

-- and suit the highest values where both do
made_suits : (maxes : List ℕ) (firsts seconds : List Out) (k : ℕ) → Every (Suits maxes) firsts → Every (Suits maxes) seconds →
    Every (Suits maxes) (outs_made firsts seconds k)
made_suits maxes firsts seconds k u v =
    let g = (get_or firsts k no_out).act in
    every_unordered (Suits maxes) (map (out_after g) seconds) (prefixed g seconds) (prefixed_ordered g seconds (map (out_after g) seconds) refl) (prefixed_suits maxes g seconds (act_suits maxes firsts k u) v)

-- the outs of a leaf suit the highest values
leaf_suits : (st : StoreState) (d : ℕ) → AreNodes st → AreTidy st → IsId st d → root_field st d ≡ 18 → Every (Suits st.maxes) (outs_of st d)
leaf_suits st d nodes tidy i e =
    subst (Every (Suits st.maxes)) (leaf_outs st d (node_of st d) refl (nodes d i) (omega (arith, e)) []) ((tidy d).suits [])

-- all outs of two leaves suit the highest values
pub both_suit : (st : StoreState) (a b from n : ℕ) (outs : List Out) → AreNodes st → AreTidy st → IsId st a → IsId st b →
    root_field st a ≡ 18 → root_field st b ≡ 18 → outs ≡ in_turn (outs_made (outs_of st a) (outs_of st b)) from n → Every (Suits st.maxes) outs
both_suit st a b from n outs nodes tidy ia ib la lb is =
    subst (Every (Suits st.maxes)) (sym is)
    (turn_every (Suits st.maxes) (outs_made (outs_of st a) (outs_of st b)) from n
    (λ k. made_suits st.maxes (outs_of st a) (outs_of st b) k (leaf_suits st a nodes tidy ia la) (leaf_suits st b nodes tidy ib lb)))

-- the leaf with all of them in order is what the second leaf makes of the first one's outs
pub both_leaf : (st new : StoreState) (a b from n : ℕ) (outs r : List Out) (d : ℕ) → AreNodes st → IsId st b → root_field st b ≡ 18 →
    outs ≡ in_turn (outs_made (outs_of st a) (outs_of st b)) from n → AreOrdered outs r → HasLeaves new d (λ pk. r) →
    HasLeaves new d (λ pk. over_places (out_made (outs_of st a) (look st b) pk) from n)
both_leaf st new a b from n outs r d nodes ib lb is o h = record {
  id = h.id;
  leaf = λ pk w.
      h.leaf pk w
      ∙ same_order outs r (over_places (out_made (outs_of st a) (look st b) pk) from n) o
      (subst (λ os. AreOrdered os (over_places (out_made (outs_of st a) (look st b) pk) from n)) (sym is)
      (turn_ordered (outs_made (outs_of st a) (outs_of st b)) (out_made (outs_of st a) (look st b) pk) from n
      (λ k. made_ordered (outs_of st a) (outs_of st b) (look st b) pk k (leaf_outs st b (node_of st b) refl (nodes b ib) (omega (arith, lb))))));
}

-- the outs that are made of two lists, by the leaves that those are
pub made_of_leaves : (xs firsts ys seconds outs : List Out) (from n : ℕ) → xs ≡ firsts → ys ≡ seconds → outs ≡ in_turn (outs_made xs ys) from n →
    outs ≡ in_turn (outs_made firsts seconds) from n
made_of_leaves xs firsts ys seconds outs from n a b is =
    is ∙ ap (λ zs. in_turn (outs_made zs ys) from n) a ∙ ap (λ zs. in_turn (outs_made firsts zs) from n) b

-- the outs of one place more
pub turn_more : (F : ℕ → List Out) (i to : ℕ) (before more all : List Out) → i < to → before ++ in_turn F i (to - i) ≡ all →
    more ≡ before ++ F i → more ++ in_turn F (i + 1) (to - (i + 1)) ≡ all
turn_more F i to before more all l e is =
    let n : to - i ≡ suc (to - (i + 1)) = omega (arith, l) in
    ap (λ os. os ++ in_turn F (i + 1) (to - (i + 1))) is
    ∙ append_assoc before (F i) (in_turn F (i + 1) (to - (i + 1)))
    ∙ ap (λ m. before ++ in_turn F i m) (sym n) ∙ e
