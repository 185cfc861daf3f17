-- The difference of two policies by the sets of packets from which either side alone has a history.
use Rattle.std.proofs.Common.{◌≡◌, ℕ, ◌+◌, true, false, inl, inr, List, [], ◌∷◌, refl, sym, ◌∙◌, ap, subst}
use Rattle.std.specs.Prelude.{◌↔◌}
use Rattle.nk_field.specs.declared.packet.Packet.{Packet}
use Rattle.nk_field.specs.Packet.{FieldTable, IsPacket}
use Rattle.nk_field.specs.Order.{Found}
use Rattle.nk_policy.specs.Policy.{Policy, marked_from, dups_of}
use Rattle.nk_policy.specs.Meaning.{Way, Gives}
use Rattle.nk_policy.specs.Tree.{tree_of}
use Rattle.nk_policy.proofs.Remade.{marked_ways}
use Rattle.nk_store.specs.StoreState.{StoreState, IsOver, IsStorePacket, Grows}
use Rattle.nk_store.proofs.InRange.{packet_in_range, packet_of_fields, over_grown}
use Rattle.nk_sets.specs.PacketSets.{is_in}
use Rattle.nk_sets.specs.PolicyOf.{IsPolicyOf}
use Rattle.nk_runs.proofs.Stands.{are_states}
use Rattle.nk_cert.specs.Equality.{AreSame, on_left, on_right, HasOneAlone}
use Rattle.nk_cert.specs.Together.{either_of}
use Rattle.nk_cert.specs.Levelled.{IsAutomatonOfBoth, IsOneSided}
use Rattle.nk_cert.proofs.CertRows.{both_stand}
use Rattle.nk_cert.proofs.Sided.{one_sided_on}
use Rattle.nk_cert.proofs.Breaking.{left_breaks, right_breaks}
use Rattle.nk_difference.specs.Alone.{HasAlone, IsTreeOfAlone, IsPredicateOfAlone}
use Rattle.nk_difference.specs.Difference.{SomeDiffers, AreTheirPredicates, IsDifferenceOf}
use Rattle.nk_difference.specs.Guarded.{outside}
use Rattle.nk_difference.specs.Sides.{AreStartsOfSides, IsDifferenceIn}
use Rattle.nk_difference.specs.declared.predicates.Difference.{Difference}
use Rattle.nk_difference.specs.declared.predicates.Difference.TheVariants.{Same, Differs}
use Rattle.nk_difference.proofs.Trees.{predicate_is}
use Rattle.nk_difference.proofs.Deciding.{left_has, right_has}
use Rattle.nk_difference.proofs.Outside.{outside_gives, not_left, not_right}

module _ (fields : FieldTable) (first new : StoreState) (states : List ℕ) (left right bound of_left of_right : ℕ) (p q : Policy) (a : IsAutomatonOfBoth fields first states left right p q) (is : bound ≡ 1 + dups_of p)
    (k : AreStartsOfSides first states left right bound new of_left of_right) where
  here : IsAutomatonOfBoth fields k.old states left right p q
  here = both_stand fields first k.old states left right p q a k.begun k.tidy

  sided : IsOneSided k.old states left right (1 + dups_of p) k.bad
  sided =
      let states_are = are_states first states (either_of p q) a.states_are in
      subst (λ b. IsOneSided k.old states left right b k.bad) is
      (one_sided_on first k.old states left right bound k.bad k.begun a.left_start.id a.right_start.id states_are.ids k.sided)

  over_new : IsOver fields new
  over_new = over_grown fields k.old new here.over k.grown

  left_exactly : (x : Packet) → IsPacket fields x → (is_in new of_left x ≡ true) ↔ HasAlone p q x
  left_exactly x ok =
      let w : IsStorePacket k.old x = packet_in_range fields k.old x here.over ok in
      let e = k.left_starts.exactly x w in (
        λ m.
            let b = e.0 m in
            let f : Found = b.0 in
            let h = (left_breaks fields k.old states left right p q here k.bad sided k.start f).0 b.2 in
            subst (λ (y : Packet). HasAlone p q y) b.1 (f.records, f.last, h.1, h.2),
        λ h.
            let f : Found = record { start = x; records = h.0; last = h.1 } in
            e.1 (f, refl, (left_breaks fields k.old states left right p q here k.bad sided k.start f).1 ((w, k.start_is x w), h.2, h.3)),
      )

  right_exactly : (x : Packet) → IsPacket fields x → (is_in new of_right x ≡ true) ↔ HasAlone q p x
  right_exactly x ok =
      let w : IsStorePacket k.old x = packet_in_range fields k.old x here.over ok in
      let e = k.right_starts.exactly x w in (
        λ m.
            let b = e.0 m in
            let f : Found = b.0 in
            let h = (right_breaks fields k.old states left right p q here k.bad sided k.start f).0 b.2 in
            subst (λ (y : Packet). HasAlone q p y) b.1 (f.records, f.last, h.1, h.2),
        λ h.
            let f : Found = record { start = x; records = h.0; last = h.1 } in
            e.1 (f, refl, (right_breaks fields k.old states left right p q here k.bad sided k.start f).1 ((w, k.start_is x w), h.2, h.3)),
      )

  -- a test that holds doesn't fail
  clash : (s : ℕ) (x : Packet) → is_in new s x ≡ true → is_in new s x ≡ false → ⊥
  clash s x t f = absurd cc

  -- without a packet both policies do the same
  pub same_of : ((x : Packet) → IsStorePacket new x → (is_in new of_left x ≡ false) × (is_in new of_right x ≡ false)) → AreSame fields p q
  same_of none x ok w y =
      let n = none x (packet_in_range fields new x over_new ok) in
      let r : IsStorePacket k.old x = packet_in_range fields k.old x here.over ok in (
        λ g. right_has fields k.old states left right p q here x r (λ h. clash of_left x ((left_exactly x ok).1 h) n.0) w y g,
        λ g. left_has fields k.old states left right p q here x r (λ h. clash of_right x ((right_exactly x ok).1 h) n.1) w y g,
      )

  left_predicate : (l : Policy) → IsPolicyOf new of_left l → IsPredicateOfAlone fields p q l
  left_predicate l m = predicate_is fields new of_left p q l over_new k.left_starts.packets m left_exactly

  right_predicate : (r : Policy) → IsPolicyOf new of_right r → IsPredicateOfAlone fields q p r
  right_predicate r m = predicate_is fields new of_right q p r over_new k.right_starts.packets m right_exactly

  -- at the packets that neither predicate keeps both policies do the same
  outside_same : (l r : Policy) → IsPredicateOfAlone fields p q l → IsPredicateOfAlone fields q p r → AreSame fields (outside l r p) (outside l r q)
  outside_same l r of_l of_r x ok w y =
      let range : IsStorePacket k.old x = packet_in_range fields k.old x here.over ok in (
        outside_gives l r p q x (λ out v z g. right_has fields k.old states left right p q here x range (λ h. not_left l r x out ((of_l.keeps x ok).1 h)) v z g) w y,
        outside_gives l r q p x (λ out v z g. left_has fields k.old states left right p q here x range (λ h. not_right l r x out ((of_r.keeps x ok).1 h)) v z g) w y,
      )

  -- the sets' predicates, or none
  pub difference_is : (d : Difference) → IsDifferenceIn new of_left of_right d → IsDifferenceOf fields p q d
  difference_is Same none = same_of (λ x r. none x r.0)
  difference_is (Differs l r) m = record {
    left_is = left_predicate (tree_of l) m.0;
    right_is = right_predicate (tree_of r) m.1;
    same_outside = outside_same (tree_of l) (tree_of r) (left_predicate (tree_of l) m.0) (right_predicate (tree_of r) m.1);
    some =
        let x : Packet = m.2.0 in
        let ok : IsPacket fields x = packet_of_fields fields new x over_new m.2.1 in
        (x, ok, elim m.2.2 [ inl h ↦ inl ((left_exactly x ok).0 h) | inr h ↦ inr ((right_exactly x ok).0 h) ]);
  }

-- a policy that is numbered anew gives the same histories
module _ (fields : FieldTable) (p q : Policy) (n : ℕ) where
  renumbered : (pk : Packet) (w : List Packet) (y : Packet) → Gives (marked_from q n) pk w y ↔ Gives q pk w y
  renumbered pk w y = (
    λ r. subst (λ (R : Way Packet). R pk w y) (marked_ways (λ x. x) q n) r,
    λ r. subst (λ (R : Way Packet). R pk w y) (sym (marked_ways (λ x. x) q n)) r,
  )

  left_alone : (x : Packet) → HasAlone p (marked_from q n) x ↔ HasAlone p q x
  left_alone x = (
    λ h. (h.0, h.1, h.2, λ g. h.3 ((renumbered x h.0 h.1).1 g)),
    λ h. (h.0, h.1, h.2, λ g. h.3 ((renumbered x h.0 h.1).0 g)),
  )

  right_alone : (x : Packet) → HasAlone (marked_from q n) p x ↔ HasAlone q p x
  right_alone x = (
    λ h. (h.0, h.1, (renumbered x h.0 h.1).0 h.2, h.3),
    λ h. (h.0, h.1, (renumbered x h.0 h.1).1 h.2, h.3),
  )

-- the printed predicate of packets that are the same
alike : (fields : FieldTable) (p q r s predicate : Policy) → ((x : Packet) → HasAlone p q x ↔ HasAlone r s x) → IsPredicateOfAlone fields p q predicate → IsPredicateOfAlone fields r s predicate
alike fields p q r s predicate e k = record {
  keeps = λ x ok. let m = k.keeps x ok in (λ h. (e x).0 (m.0 h), λ h. m.1 ((e x).1 h));
  tree = k.tree;
  tree_is = record {
    reduced = k.tree_is.reduced;
    passes = k.tree_is.passes;
    packets = λ x ok. let m = k.tree_is.packets x ok in (λ h. (e x).0 (m.0 h), λ h. m.1 ((e x).1 h));
  };
  printed = k.printed;
}

-- so the difference is that of the policies as they are declared
pub difference_as_declared : (fields : FieldTable) (p q : Policy) (n : ℕ) (d : Difference) → IsDifferenceOf fields p (marked_from q n) d → IsDifferenceOf fields p q d
difference_as_declared fields p q n Same h = λ pk ok w y.
    let e = h pk ok w y in
    let k = renumbered fields p q n pk w y in
    (λ g. k.0 (e.0 g), λ g. e.1 (k.1 g))
difference_as_declared fields p q n (Differs l r) h = record {
  left_is = alike fields p (marked_from q n) p q (tree_of l) (left_alone fields p q n) h.left_is;
  right_is = alike fields (marked_from q n) p q p (tree_of r) (right_alone fields p q n) h.right_is;
  same_outside = λ pk ok w y.
      let e = h.same_outside pk ok w y in
      let a : Policy = tree_of l in
      let b : Policy = tree_of r in (
        λ g. outside_gives a b (marked_from q n) q pk (λ out v z m. (renumbered fields p q n pk v z).0 m) w y (e.0 g),
        λ g. e.1 (outside_gives a b q (marked_from q n) pk (λ out v z m. (renumbered fields p q n pk v z).1 m) w y g),
      );
  some = (h.some.0, h.some.1, elim h.some.2 [ inl m ↦ inl ((left_alone fields p q n h.some.0).0 m) | inr m ↦ inr ((right_alone fields p q n h.some.0).0 m) ]);
}

-- policies that differ on some packet
pub some_alone : (fields : FieldTable) (p q : Policy) → SomeDiffers fields p q → HasOneAlone fields p q
some_alone fields p q s = elim s.2 [
  | inl h ↦ (on_left, record { start = s.0; records = h.0; last = h.1 }, (s.1, h.2, h.3))
  | inr h ↦ (on_right, record { start = s.0; records = h.0; last = h.1 }, (s.1, h.2, h.3))
]

-- are not the same
pub not_same : (fields : FieldTable) (p q : Policy) → SomeDiffers fields p q → AreSame fields p q → ⊥
not_same fields p q s same = elim s.2 [
  | inl h ↦ h.3 ((same s.0 s.1 h.0 h.1).0 h.2)
  | inr h ↦ h.3 ((same s.0 s.1 h.0 h.1).1 h.2)
]
