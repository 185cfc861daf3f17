-- The printed predicate of a set of packets that one policy alone has histories from.
use Rattle.std.proofs.Common.{◌≡◌, ℕ, ◌+◌, true, List, [], sym, ◌∙◌, subst}
use Rattle.std.specs.Prelude.{◌↔◌, slice_index}
use Rattle.nk_field.specs.Packet.{FieldTable, IsPacket}
use Rattle.nk_policy.specs.Policy.{Policy}
use Rattle.nk_store.specs.StoreState.{StoreState, IsOver, look}
use Rattle.nk_store.specs.Diagram.{Diagram, Branches, leaf, case, no_branch, branch, leaf_at, IsReduced, AreReduced, EndsRight}
use Rattle.nk_store.proofs.InRange.{packet_in_range, same_value}
use Rattle.nk_apply.specs.Predicates.{IsPass}
use Rattle.nk_sets.specs.PacketSets.{is_in, IsSet}
use Rattle.nk_sets.specs.PolicyOf.{IsPolicyOf}
use Rattle.nk_sets.specs.Trees.{set_tree}
use Rattle.nk_cert.proofs.Printing.{has_some, is_some}
use Rattle.nk_difference.specs.Alone.{HasAlone, IsTreeOfAlone, IsPredicateOfAlone}

-- a tree that is reduced over some largest values is so over equal ones
module _ {L : Type 0} (xs ys : List ℕ) (same : (f : ℕ) → slice_index xs f ≡ slice_index ys f) where
  mutual
    reduced_for : (d : Diagram L) (low : ℕ) → IsReduced d xs low → IsReduced d ys low
    reduced_for (leaf a) low r = tt
    reduced_for (case f bs) low r = (r.0, r.1, branches_for bs f r.2)

    branches_for : (bs : Branches L) (f : ℕ) → AreReduced bs xs f → AreReduced bs ys f
    branches_for no_branch f r = tt
    branches_for (branch end d bs) f r =
        (subst (λ m. EndsRight m end bs) (same f) r.0, reduced_for d (f + 1) r.1, r.2, branches_for bs f r.3)

-- the predicate that is printed for a set of exactly these packets
pub predicate_is : (fields : FieldTable) (st : StoreState) (s : ℕ) (p q predicate : Policy) → IsOver fields st → IsSet st s → IsPolicyOf st s predicate → ((x : List ℕ) → IsPacket fields x → (is_in st s x ≡ true) ↔ HasAlone p q x) → IsPredicateOfAlone fields p q predicate
predicate_is fields st s p q predicate over set made exactly = record {
  keeps = λ x ok.
      let k = made.keeps x (packet_in_range fields st x over ok) in
      let e = exactly x ok in
      (λ h. e.0 (k.0 h), λ h. k.1 (e.1 h));
  tree = set_tree st s;
  tree_is = record {
    reduced = reduced_for st.maxes fields.maxima (λ f. same_value fields st f over) (set_tree st s) 0 made.reduced;
    passes = λ x ok. let r = packet_in_range fields st x over ok in subst IsPass (sym (made.leaves x r)) (set.predicate x r.0);
    packets = λ x ok.
        let is : leaf_at (set_tree st s) [] x ≡ look st s x = made.leaves x (packet_in_range fields st x over ok) in
        let e = exactly x ok in (
          λ h. e.0 (has_some (look st s x) (λ n. h (is ∙ n))),
          λ h n. is_some (look st s x) (e.1 h) (sym is ∙ n),
        );
  };
  printed = made.is;
}
