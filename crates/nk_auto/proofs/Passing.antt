-- A diagram that ends, and then another one; itself, where that one passes each packet.
use Rattle.std.proofs.Common.{◌≡◌, ℕ, inl, inr, List, [], ◌∷◌, refl, sym, ◌∙◌, ap, subst}
use Rattle.nk_field.specs.Act.{applied, act_then}
use Rattle.nk_store.specs.declared.node.Out.{Out}
use Rattle.nk_store.specs.Leaves.{Every, Strict}
use Rattle.nk_store.specs.StoreState.{StoreState, IsId, IsWhole, look, Grows, HasLeaves, AreTidy}
use Rattle.nk_apply.specs.Predicates.{HasOnlyFinals}
use Rattle.nk_apply.specs.Seqs.{out_after, prefixed, seq_leaf, no_out}
use Rattle.nk_apply.proofs.Members.{Has, every_has, strict_same, gathered_strict, seq_leaf_is, seq_leaf_has, has_seq_leaf}
use Rattle.nk_apply.proofs.Predicates.{whole_applied}
use Rattle.nk_apply.proofs.Sequences.{same_looks}
use Rattle.nk_apply.proofs.Sorted.{prefixed_strict}
use Rattle.nk_auto.proofs.Sending.{out_of}

-- no assignments after an act leave it
then_nothing : (g : List (ℕ × ℕ)) → act_then g [] ≡ g
then_nothing [] = refl
then_nothing (s ∷ ss) = refl

-- an out that ends, and then the packet as it is, is that out
passed_on : (o : Out) → o.target ≡ 0 → out_after o.act no_out ≡ o
passed_on o ends = ap (λ g. out_of g 0) (then_nothing o.act) ∙ ap (λ t. out_of o.act t) (sym ends)

-- what is made of each out ascends strictly
sequence_strict : (os : List Out) (B : List ℕ → List Out) (pk : List ℕ) → Strict (seq_leaf os B pk)
sequence_strict os B pk =
    subst Strict (sym (seq_leaf_is os B pk))
    (gathered_strict (λ o. prefixed o.act (B (applied o.act pk))) os (λ o. prefixed_strict o.act (B (applied o.act pk))))

-- outs that end, and then each packet as it is, are those outs
all_passed_on : (os : List Out) (B : List ℕ → List Out) (pk : List ℕ) → IsWhole pk → Strict os →
    Every (λ o. o.target ≡ 0) os → ((x : List ℕ) → IsWhole x → B x ≡ no_out ∷ []) → seq_leaf os B pk ≡ os
all_passed_on os B pk w sorted ends passes =
    strict_same (seq_leaf os B pk) os (sequence_strict os B pk) sorted
    (λ o h.
    let r = has_seq_leaf os B pk o h in
    let is = passed (applied r.0.act pk) (whole_applied r.0.act pk w) r.1 r.3 in
    subst (λ x. Has os x) (sym (kept r.0 r.2) ∙ ap (λ q. out_after r.0.act q) is ∙ r.4) r.2)
    (λ o h.
    let passing = subst (λ xs. Has xs no_out) (sym (passes (applied o.act pk) (whole_applied o.act pk w))) (inl refl) in
    subst (λ x. Has (seq_leaf os B pk) x) (kept o h) (seq_leaf_has os B pk o no_out h passing))
  where
    kept : (o : Out) → Has os o → out_after o.act no_out ≡ o
    kept o h = passed_on o (every_has (λ x. x.target ≡ 0) os o ends h)

    only : (q : Out) → Has (no_out ∷ []) q → no_out ≡ q
    only q (inl e) = e
    only q (inr h) = absurd h

    passed : (x : List ℕ) → IsWhole x → (q : Out) → Has (B x) q → no_out ≡ q
    passed x wx q h = only q (subst (λ xs. Has xs q) (passes x wx) h)

-- a diagram that ends is itself and then one that passes each packet
pub ended_itself : (st new : StoreState) (d next passing : ℕ) → AreTidy new → Grows st new → IsId st d → IsId st next →
    HasOnlyFinals (look st d) → HasLeaves new passing (λ pk. no_out ∷ []) → next ≡ passing →
    HasLeaves new d (λ pk. seq_leaf (look st d pk) (look st next) pk)
ended_itself st new d next passing tidy g id ik ends h same = record {
  id = g.ids d id;
  leaf = λ pk w.
      let sorted = subst Strict (g.leaves d pk id) ((tidy d).sorted pk) in
      g.leaves d pk id
      ∙ sym (all_passed_on (look st d pk) (look st next) pk w sorted (ends pk w) (λ x whole. sym (g.leaves next x ik) ∙ ap (λ n. look new n x) same ∙ h.leaf x whole));
}

-- a sequence, by the leaves of a store that grew since
pub sequence_before : (st mid new : StoreState) (d next r : ℕ) → Grows st mid → IsId st d → IsId st next →
    HasLeaves new r (λ pk. seq_leaf (look mid d pk) (look mid next) pk) →
    HasLeaves new r (λ pk. seq_leaf (look st d pk) (look st next) pk)
sequence_before st mid new d next r g id ik h = record {
  id = h.id;
  leaf = λ pk w.
      h.leaf pk w
      ∙ ap (λ os. seq_leaf os (look mid next) pk) (g.leaves d pk id)
      ∙ ap (λ B. seq_leaf (look st d pk) B pk) (same_looks st mid next g ik);
}
