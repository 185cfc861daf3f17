-- An accepted policy has no reason to be refused, and no policy has two.
use Rattle.std.proofs.Common.{◌≡◌, ℕ, ◌⊎◌, inl, inr, ⊎_elim, Bool, false, List, refl, sym, ap, ◌∙◌}
use Rattle.std.specs.Prelude.{Option, option_map, Some, None, if◌then◌else◌}
use Rattle.nk_field.specs.declared.packet.Packet.{Packet}
use Rattle.nk_field.specs.declared.history.History.{History}
use Rattle.nk_field.specs.Order.{Found, IsLeast}
use Rattle.nk_field.specs.Packet.{FieldTable}
use Rattle.nk_topo.specs.Topology.{Topology}
use Rattle.nk_policy.specs.Policy.{Policy}
use Rattle.nk_policy.specs.Leaves.{has_leaf, is_on_field, is_dup, is_switch_assignment}
use Rattle.nk_policy.specs.Labels.{IsTagSet, AtMost}
use Rattle.nk_names.specs.declared.Program.{Program}
use Rattle.nk_names.specs.Named.{policy_named}
use Rattle.nk_names.specs.Accepted.{IsStartPacket, IsCompilable, is_link_outside, most_tags}
use Rattle.nk_compile.specs.declared.refusal.Refusal.{Refusal}
use Rattle.nk_compile.specs.declared.refusal.Refusal.TheVariants.{NoPolicy, Static, OffEdge, TooManyTags}
use Rattle.nk_compile.specs.OffEdge.{EndsOffEdge, EndsOnEdges}
use Rattle.nk_static.specs.declared.faults.StaticFault.TheVariants.{TagUsed, LooseDup, SwitchSet, NoSuchLink}
use Rattle.nk_compile.specs.Refusals.{static_refusal_for, static_refusal, found_from, IsReason, IsRefused}
use Rattle.nk_compile.proofs.Orders.{one_least}
use Rattle.nk_compile.proofs.TooMany.{never_more}

-- equal options have equal values, and none is no value
reason_is : (r s : Refusal) → Some r ≡ Some s → r ≡ s
reason_is r s e = cc

pub none_some : {A : Type 0} (a : A) → None ≡ Some a → ⊥
none_some a e = cc

-- where no test passes nothing is seen
none_of : (a b c d : Bool) → a ≡ false → b ≡ false → c ≡ false → d ≡ false
    → ◌≡◌ {A = Option Refusal} (option_map Static (if a then Some TagUsed else if b then Some LooseDup else if c then Some SwitchSet else if d then Some NoSuchLink else None)) None
none_of false false false false e f g h = refl
none_of a b c d e f g h = absurd cc

-- nothing is seen of a compilable policy
pub unseen : (fields : FieldTable) (topo : Topology) (p : Policy) → IsCompilable fields topo p → static_refusal fields topo p ≡ None
unseen fields topo p c =
    ap (λ o. static_refusal_for o topo p) c.tag_declared
    ∙ none_of (has_leaf (is_on_field c.tag) p) (has_leaf is_dup p) (has_leaf is_switch_assignment p) (has_leaf (is_link_outside topo.links) p) c.tag_free c.dups_in_links c.switch_in_links c.links_declared

module _ (fields : FieldTable) (topo : Topology) (p : Policy) where
  -- the three kinds of reason: what is seen, a history off each edge port, too many tag sets
  abbrev pub IsOff : Refusal → Type 0
  IsOff r =
      (start : Packet) × (history : History) × (r ≡ OffEdge start history) × (static_refusal fields topo p ≡ None) × IsLeast (EndsOffEdge fields topo p) (found_from start history)

  abbrev pub IsTooMany : Refusal → Type 0
  IsTooMany r =
      (found : ℕ) × (r ≡ TooManyTags found) × IsReason fields topo p (TooManyTags found)

  kind_of : (r : Refusal) → IsReason fields topo p r → (static_refusal fields topo p ≡ Some r) ⊎ (IsOff r ⊎ IsTooMany r)
  kind_of (OffEdge start history) h = inr (inl (start, history, refl, h.0, h.1))
  kind_of (TooManyTags found) h = inr (inr (found, refl, h))
  kind_of r h = inl h

  -- an accepted policy has none
  pub no_reason : (r : Refusal) → IsCompilable fields topo p → AtMost (most_tags fields fields.tag) (IsTagSet p (IsStartPacket fields topo)) → IsReason fields topo p r → ⊥
  no_reason r c few h =
      ⊎_elim
      (λ s. none_some r (sym (unseen fields topo p c) ∙ s))
      (λ o.
      ⊎_elim
      (λ off. let w = off.4.0 in w.off (c.ends_on_edges off.0 off.1.records off.1.last w.starts w.gives))
      (λ many. never_more (IsTagSet p (IsStartPacket fields topo)) (most_tags fields fields.tag) many.0 few many.2.2 many.2.3)
      o)
      (kind_of r h)

  -- what ends off each edge port doesn't end on edges
  off_on : (f : Found) → EndsOffEdge fields topo p f → EndsOnEdges fields topo p → ⊥
  off_on f off on = off.off (on f.start f.records f.last off.starts off.gives)

  same_off : (r s : Refusal) → IsOff r → IsOff s → r ≡ s
  same_off r s h k =
      let e = one_least (EndsOffEdge fields topo p) (found_from h.0 h.1) (found_from k.0 k.1) h.4 k.4 in
      h.2 ∙ ap (λ (f : Found). OffEdge f.start record { records = f.records; last = f.last }) e ∙ sym k.2

  same_many : (r s : Refusal) → IsTooMany r → IsTooMany s → r ≡ s
  same_many r s h k = h.1 ∙ ap TooManyTags (h.2.2 ∙ sym k.2.2) ∙ sym k.1

  -- no two reasons
  pub one_reason : (r s : Refusal) → IsReason fields topo p r → IsReason fields topo p s → r ≡ s
  one_reason r s h k = by (kind_of r h) (kind_of s k)
    where
      by : (static_refusal fields topo p ≡ Some r) ⊎ (IsOff r ⊎ IsTooMany r) → (static_refusal fields topo p ≡ Some s) ⊎ (IsOff s ⊎ IsTooMany s) → r ≡ s
      by (inl a) (inl b) = reason_is r s (sym a ∙ b)
      by (inl a) (inr (inl b)) = absurd (none_some r (sym b.3 ∙ a))
      by (inl a) (inr (inr b)) = absurd (none_some r (sym b.2.0 ∙ a))
      by (inr (inl a)) (inl b) = absurd (none_some s (sym a.3 ∙ b))
      by (inr (inl a)) (inr (inl b)) = same_off r s a b
      by (inr (inl a)) (inr (inr b)) = absurd (off_on (found_from a.0 a.1) a.4.0 b.2.1)
      by (inr (inr a)) (inl b) = absurd (none_some s (sym a.2.0 ∙ b))
      by (inr (inr a)) (inr (inl b)) = absurd (off_on (found_from b.0 b.1) b.4.0 a.2.1)
      by (inr (inr a)) (inr (inr b)) = same_many r s a b

-- why a name is refused: it has no policy, or its policy has a reason
abbrev pub HasReason : Program → List ℕ → Refusal → Type 0
HasReason program name r = (p : Policy) × (policy_named program name ≡ Some p) × IsReason program.fields program.topo p r

pub why : (program : Program) (name : List ℕ) (r : Refusal) → IsRefused program name r → ((r ≡ NoPolicy) × (policy_named program name ≡ None)) ⊎ HasReason program name r
why program name NoPolicy h = inl (refl, h)
why program name r h = inr h
