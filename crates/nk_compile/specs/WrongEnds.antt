-- The ends of an automaton's states that are not to be: those in a set of packets.
use Rattle.std.specs.Prelude.{◌≡◌, ℕ, ◌<◌, ◌⊎◌, nat_eq, Some, List, [], ◌∷◌, length, slice_index, All, Contains, refl}
use Rattle.std.proofs.Common.{inl, inr, ⊎_elim, sym, ap, subst, ◌∙◌}
use Rattle.std.specs.Map.{lookup}
use Rattle.nk_store.specs.declared.node.Out.{Out}
use Rattle.nk_field.specs.Act.{applied}
use Rattle.nk_field.proofs.Lists.{In}
use Rattle.nk_field.proofs.Ascending.{members_from_all}
use Rattle.nk_store.specs.StoreState.{StoreState, IsId, IsWhole, look, Grows}
use Rattle.nk_apply.specs.Leaves.{merged}
use Rattle.nk_apply.specs.Seqs.{seq_leaf}
use Rattle.nk_apply.specs.Predicates.{IsPass}
use Rattle.nk_apply.proofs.Members.{Has, contains_has, merged_has, has_seq_leaf}
use Rattle.nk_apply.proofs.Predicates.{whole_applied}
use Rattle.nk_sets.specs.PacketSets.{IsSet}
use Rattle.nk_sets.proofs.SetLemmas.{set_grows}
use Rattle.nk_determ.specs.Targets.{retargeted}

-- a state's ends, each followed by what is made of it by the set: where it is in the set, it stays
abbrev pub end_leaf : StoreState → ℕ → ℕ → List ℕ → List Out
end_leaf st set state pk = seq_leaf (retargeted (Some 0 ∷ []) (look st state pk)) (look st set) pk

-- the ends in the set of the states at these places
abbrev pub wrong_leaf : StoreState → ℕ → List ℕ → List ℕ → List ℕ → List Out
wrong_leaf st set states [] pk = []
wrong_leaf st set states (l ∷ ls) pk = merged (end_leaf st set (slice_index states l) pk) (wrong_leaf st set states ls pk)

-- r has the ends of the state in the set
pub record IsEndOf (st : StoreState) (set state r : ℕ) : Type 0 where
  pub state_id : IsId st state
  pub set_id : IsId st set
  pub id : IsId st r
  pub leaf : (pk : List ℕ) → IsWhole pk → look st r pk ≡ end_leaf st set state pk

-- each entry leads from a state to the diagram of its ends in the set
abbrev pub AreEndsOf : StoreState → ℕ → List (ℕ × ℕ) → Type 0
AreEndsOf st set entries = (state r : ℕ) → lookup (nat_eq state) entries ≡ Some r → IsEndOf st set state r

-- each state has its diagram
pub record HaveEndsOf (st : StoreState) (set : ℕ) (states ends : List ℕ) : Type 0 where
  pub packets : IsSet st set
  pub count : length ends ≡ length states
  pub each : (l : ℕ) → l < length states → IsEndOf st set (slice_index states l) (slice_index ends l)

module _ (old new : StoreState) (set : ℕ) (g : Grows old new) (set_id : IsId old set) where
  -- the ends of a state stay while the store grows
  leaf_on : (state : ℕ) (pk : List ℕ) → IsId old state → end_leaf new set state pk ≡ end_leaf old set state pk
  leaf_on state pk id =
      ap (λ (B : List ℕ → List Out). seq_leaf (retargeted (Some 0 ∷ []) (look new state pk)) B pk) (λ i x. g.leaves set x set_id i)
      ∙ ap (λ os. seq_leaf (retargeted (Some 0 ∷ []) os) (look old set) pk) (g.leaves state pk id)

  -- so does their diagram
  pub end_on : (state r : ℕ) → IsEndOf old set state r → IsEndOf new set state r
  end_on state r k = record {
    state_id = g.ids state k.state_id;
    set_id = g.ids set k.set_id;
    id = g.ids r k.id;
    leaf = λ pk w. g.leaves r pk k.id ∙ k.leaf pk w ∙ sym (leaf_on state pk k.state_id);
  }

-- all states keep their diagrams
pub ends_on : (old new : StoreState) (set : ℕ) (states ends : List ℕ) → HaveEndsOf old set states ends → Grows old new → HaveEndsOf new set states ends
ends_on old new set states ends k g = record {
  packets = set_grows old new set g k.packets;
  count = k.count;
  each = λ l lt. end_on old new set g k.packets.id (slice_index states l) (slice_index ends l) (k.each l lt);
}

-- and all states together have the same ends
wrong_same : (old new : StoreState) (set : ℕ) (states ends places pk : List ℕ) → HaveEndsOf old set states ends → Grows old new → ((l : ℕ) → In places l → l < length states) →
    wrong_leaf new set states places pk ≡ wrong_leaf old set states places pk
wrong_same old new set states ends [] pk k g inside = refl
wrong_same old new set states ends (l ∷ ls) pk k g inside =
    ap (λ x. merged x (wrong_leaf new set states ls pk)) (leaf_on old new set g k.packets.id (slice_index states l) pk (k.each l (inside l (inl refl))).state_id)
    ∙ ap (merged (end_leaf old set (slice_index states l) pk)) (wrong_same old new set states ends ls pk k g (λ n i. inside n (inr i)))

pub wrong_on : (old new : StoreState) (set : ℕ) (states ends places pk : List ℕ) → HaveEndsOf old set states ends → Grows old new → All (λ l. l < length states) places →
    wrong_leaf new set states places pk ≡ wrong_leaf old set states places pk
wrong_on old new set states ends places pk k g inside = wrong_same old new set states ends places pk k g (members_from_all (λ l. l < length states) places inside)

-- what passes has target 0
pass_sided : (outs : List Out) (o : Out) → IsPass outs → Has outs o → o.target ≡ 0
pass_sided [] o p h = absurd h
pass_sided (x ∷ xs) o p (inl e) = sym (ap (λ (q : Out). q.target) e) ∙ ap (λ (q : Out). q.target) p.0
pass_sided (x ∷ xs) o p (inr h) = absurd (subst (λ zs. Has zs o) p.1 h)

-- so has each end of a state in a set of packets
end_sided : (st : StoreState) (set state : ℕ) (pk : List ℕ) (o : Out) → IsSet st set → IsWhole pk → Has (end_leaf st set state pk) o → o.target ≡ 0
end_sided st set state pk o packets whole h =
    let s = has_seq_leaf (retargeted (Some 0 ∷ []) (look st state pk)) (look st set) pk o h in
    let passed = pass_sided (look st set (applied s.0.act pk)) s.1 (packets.predicate (applied s.0.act pk) (whole_applied s.0.act pk whole)) s.3 in
    sym (ap (λ (q : Out). q.target) s.4) ∙ passed

-- and each of all states together
states_sided : (st : StoreState) (set : ℕ) (states places pk : List ℕ) (o : Out) → IsSet st set → IsWhole pk → Has (wrong_leaf st set states places pk) o → o.target ≡ 0
states_sided st set states [] pk o packets whole h = absurd h
states_sided st set states (l ∷ ls) pk o packets whole h =
    ⊎_elim
    (λ a. end_sided st set (slice_index states l) pk o packets whole a)
    (λ b. states_sided st set states ls pk o packets whole b)
    (merged_has o (end_leaf st set (slice_index states l) pk) (wrong_leaf st set states ls pk) h)

-- they are of the only side
pub wrong_sided : (st : StoreState) (set : ℕ) (states ends places pk : List ℕ) (o : Out) → HaveEndsOf st set states ends → IsWhole pk → Contains (wrong_leaf st set states places pk) o →
    (o.target ≡ 0) ⊎ (o.target ≡ 1)
wrong_sided st set states ends places pk o k whole c = inl (states_sided st set states places pk o k.packets whole (contains_has (wrong_leaf st set states places pk) o c))
