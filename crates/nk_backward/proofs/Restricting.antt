-- The violations of one side at some packets alone.
use Rattle.std.proofs.Common.{◌≡◌, ℕ, ◌&&◌, true, inl, inr, refl, sym, ◌∙◌, ap, subst, List, [], ◌∷◌, ◌++◌, length, get_or}
use Rattle.nk_store.specs.declared.node.Out.{Out}
use Rattle.nk_store.specs.StoreState.{StoreState, IsId, IsStorePacket, HasLeaves, look, Grows}
use Rattle.nk_store.proofs.Stores.{grows_on}
use Rattle.nk_apply.specs.Leaves.{guarded}
use Rattle.nk_apply.specs.Predicates.{IsPass, IsPredicate}
use Rattle.nk_apply.proofs.Predicates.{pass_guarded}
use Rattle.nk_sets.specs.PacketSets.{has_some_out, is_in, IsSet}
use Rattle.nk_sets.proofs.SetLemmas.{guarded_out, both_pass, pass_both}
use Rattle.nk_sets.proofs.Kept.{Has, packet_on}
use Rattle.nk_determ.specs.Pairs.{Under, IsPair}
use Rattle.nk_goal.specs.Entries.{IsAdded}
use Rattle.nk_goal.proofs.Growing.{under_on, under_back}
use Rattle.nk_goal.proofs.Adding.{under_append, under_left, under_right, named_left, named_right}
use Rattle.nk_witness.specs.Backs.{AreViolationsSoFar}
use Rattle.nk_witness.specs.declared.found.Side.{Side}
use Rattle.nk_backward.specs.CounterexampleStarts.{of_side}

-- nothing is left where there is no packet
guarded_none : (os : List Out) → guarded os [] ≡ []
guarded_none [] = refl
guarded_none (o ∷ os) = refl

-- at the packets of a set a side has the same violations, whichever there are elsewhere
side_there : (side : Side) (p v : List Out) → guarded (of_side side (guarded p v)) p ≡ guarded (of_side side v) p
side_there side [] v = guarded_none (of_side side (guarded [] v)) ∙ sym (guarded_none (of_side side v))
side_there side (o ∷ p) v = refl

-- restricted, taken of one side, and put into the set
pub side_leaves : (st s1 s2 s3 new : StoreState) (side : Side) (F : List ℕ → List Out) (x all there own r : ℕ) → IsId st x → Grows st s1 → Grows s1 s2 → Grows s2 s3 → HasLeaves s1 all F → HasLeaves s2 there (λ pk. guarded (look s1 x pk) (look s1 all pk)) → HasLeaves s3 own (λ pk. of_side side (look s2 there pk)) →
    HasLeaves new r (λ pk. guarded (look s3 own pk) (look s3 x pk)) → HasLeaves new r (λ pk. guarded (of_side side (F pk)) (look st x pk))
side_leaves st s1 s2 s3 new side F x all there own r i g1 g2 g3 ha ht ho hr = record {
  id = hr.id;
  leaf = λ pk w.
      let x1 : look s1 x pk ≡ look st x pk = g1.leaves x pk i in
      let x3 : look s3 x pk ≡ look st x pk = (grows_on st s1 s3 g1 (grows_on s1 s2 s3 g2 g3)).leaves x pk i in
      let t : look s2 there pk ≡ guarded (look st x pk) (F pk) = ht.leaf pk w ∙ ap (λ p. guarded p (look s1 all pk)) x1 ∙ ap (guarded (look st x pk)) (ha.leaf pk w) in
      let o : look s3 own pk ≡ of_side side (guarded (look st x pk) (F pk)) = ho.leaf pk w ∙ ap (of_side side) t in
      hr.leaf pk w ∙ ap (guarded (look s3 own pk)) x3 ∙ ap (λ v. guarded v (look st x pk)) o ∙ side_there side (look st x pk) (F pk);
}

-- the packets of a set at which something has an out are a set
pub restricted_set : (st new : StoreState) (x r : ℕ) (F : List ℕ → List Out) → IsPredicate st x → HasLeaves new r (λ pk. guarded (F pk) (look st x pk)) → IsSet new r
restricted_set st new x r F p h = record {
  id = h.id;
  predicate = λ pk w. subst IsPass (sym (h.leaf pk w)) (pass_guarded (F pk) (look st x pk) (p pk w));
}

-- a leaf with an out is not empty
out_some : (os : List Out) → has_some_out os ≡ true → os ≡ [] → ⊥
out_some [] e z = absurd cc
out_some (o ∷ os) e z = absurd cc

-- a leaf that is not empty has an out
some_out : (os : List Out) → (os ≡ [] → ⊥) → has_some_out os ≡ true
some_out [] n = absurd (n refl)
some_out (o ∷ os) n = refl

-- one entry more
pub restricted_push : (a st s2 new : StoreState) (ss : List (List ℕ)) (states : ℕ) (bad : List ℕ → List ℕ → List Out) (F : List ℕ → List Out) (done back more : List (ℕ × ℕ)) (p : ℕ × ℕ) (r : ℕ) → AreViolationsSoFar a ss bad done st back → Grows a st → Grows st s2 → HasLeaves s2 r (λ pk. guarded (F pk) (look st p.1 pk)) →
    ((pk : List ℕ) → F pk ≡ bad (get_or ss p.0 []) pk) → IsPair a ss states p → IsAdded s2 back p.0 r new more → AreViolationsSoFar a ss bad (done ++ p ∷ []) new more
restricted_push a st s2 new ss states bad F done back more p r so g0 g2 leaves same pair add = record {
  from = λ i z w u. elim (add.either i z (on z w) u) [
    | inl old ↦ let was = so.from i z w (under_back st s2 back i z g2 so.packets old) in (under_left a done (p ∷ []) i z was.0, was.1)
    | inr here ↦
        let two = both_pass (has_some_out (bad (get_or ss p.0 []) z)) (is_in a p.1 z) (sym (key z w.0) ∙ here.1) in (
          under_right a done (p ∷ []) i z (inl (sym here.0, two.1)),
          λ e. out_some (bad (get_or ss p.0 []) z) two.0 (ap (λ j. bad (get_or ss j []) z) (sym here.0) ∙ e),
        )
  ];
  every = λ i z w u b. elim (under_append a done (p ∷ []) i z u) [
    | inl old ↦ add.old i z (on z w) (under_on st s2 back i z g2 so.packets (so.every i z w old b))
    | inr last ↦ elim last [
      | inl here ↦
          let some : has_some_out (bad (get_or ss p.0 []) z) ≡ true = some_out (bad (get_or ss p.0 []) z) (λ e. b (ap (λ j. bad (get_or ss j []) z) (sym here.0) ∙ e)) in
          let has : Has s2 r z = key z w.0 ∙ pass_both (has_some_out (bad (get_or ss p.0 []) z)) (is_in a p.1 z) some here.1 in
          subst (λ j. Under new more j z) here.0 (add.more z (on z w) has)
      | inr none ↦ absurd none
    ]
  ];
  named = λ i n. elim (add.named i n) [
    | inl old ↦ named_left done (p ∷ []) i (so.named i old)
    | inr here ↦ named_right done (p ∷ []) i (inl (sym here))
  ];
  packets = add.packets;
  once = add.once;
}
  where
    on : (z : List ℕ) → IsStorePacket a z → IsStorePacket s2 z
    on z w = packet_on a s2 z (grows_on a st s2 g0 g2) w

    leaf : (z : List ℕ) → length z ≡ 18 → look s2 r z ≡ guarded (bad (get_or ss p.0 []) z) (look a p.1 z)
    leaf z w = leaves.leaf z w ∙ ap (λ v. guarded v (look st p.1 z)) (same z) ∙ ap (guarded (bad (get_or ss p.0 []) z)) (g0.leaves p.1 z pair.packets.id)

    key : (z : List ℕ) → length z ≡ 18 → is_in s2 r z ≡ has_some_out (bad (get_or ss p.0 []) z) && is_in a p.1 z
    key z w = ap has_some_out (leaf z w) ∙ guarded_out (bad (get_or ss p.0 []) z) (look a p.1 z)
