-- Two accepted policies whose tags fit together have no reason to be refused, and no two policies have two.
use Rattle.std.proofs.Common.{◌≡◌, ℕ, ◌⊎◌, inl, inr, ⊎_elim, refl, sym, ap, ◌∙◌, arith}
use Rattle.nk_field.specs.Packet.{FieldTable}
use Rattle.nk_topo.specs.Topology.{Topology}
use Rattle.nk_policy.specs.Policy.{Policy}
use Rattle.nk_policy.specs.Labels.{IsTagSet, AtMost}
use Rattle.nk_names.specs.Accepted.{IsStartPacket, IsCompilable, most_tags}
use Rattle.nk_compile.specs.declared.refusal.Refusal.{Refusal}
use Rattle.nk_compile.specs.declared.refusal.Refusal.TheVariants.{NoPolicy, NoTag, OffEdge, TooManyTags}
use Rattle.nk_compile.specs.PairAnswers.{FitTogether, IsUnopposed, IsPairReason}
use Rattle.nk_compile.specs.Refusals.{static_refusal_for, found_from, IsReason}
use Rattle.nk_compile.proofs.PairTags.{at_most_these}
use Rattle.nk_compile.proofs.Reasons.{none_some, no_reason, one_reason}
use Rattle.nk_compile.proofs.TooMany.{least_fits_most}

-- too many tags is no early reason
abbrev pub IsEarly : Refusal → Type 0
IsEarly r = (found : ℕ) → r ≡ TooManyTags found → ⊥

module _ (fields : FieldTable) (topo : Topology) (p q : Policy) where
  -- what stands against the old policy, or against the new one, or the tags of both together
  abbrev OfOld : Refusal → Type 0
  OfOld r = IsReason fields topo p r × IsEarly r

  abbrev OfNew : Refusal → Type 0
  OfNew r = IsUnopposed fields topo p × IsReason fields topo q r × IsEarly r

  abbrev OfBoth : Refusal → Type 0
  OfBoth r = (found : ℕ) × (r ≡ TooManyTags found) × IsPairReason fields topo p q (TooManyTags found)

  early : (r : Refusal) → IsEarly r → IsReason fields topo p r ⊎ (IsUnopposed fields topo p × IsReason fields topo q r) → OfOld r ⊎ (OfNew r ⊎ OfBoth r)
  early r e h = ⊎_elim (λ a. inl (a, e)) (λ b. inr (inl (b.0, b.1, e))) h

  pair_kind : (r : Refusal) → IsPairReason fields topo p q r → OfOld r ⊎ (OfNew r ⊎ OfBoth r)
  pair_kind NoPolicy h = absurd h
  pair_kind NoTag h = inl (ap (λ o. static_refusal_for o topo p) h, λ found e. cc)
  pair_kind (TooManyTags found) h = inr (inr (found, refl, h))
  pair_kind r h = early r (λ found e. cc) h

-- nothing early stands against a policy that is unopposed
pub none_early : (fields : FieldTable) (topo : Topology) (p : Policy) (r : Refusal) → IsUnopposed fields topo p → IsReason fields topo p r → IsEarly r → ⊥
none_early fields topo p (OffEdge start history) clear h e =
    let off = h.1.0 in
    let f = found_from start history in
    off.off (clear.1 f.start f.records f.last off.starts off.gives)
none_early fields topo p (TooManyTags found) clear h e = e found refl
none_early fields topo p r clear h e = none_some r (sym clear.0 ∙ h)

-- no two reasons
pub one_pair_reason : (fields : FieldTable) (topo : Topology) (p q : Policy) (r s : Refusal) → IsPairReason fields topo p q r → IsPairReason fields topo p q s → r ≡ s
one_pair_reason fields topo p q r s h k = by (pair_kind fields topo p q r h) (pair_kind fields topo p q s k)
  where
    by : OfOld fields topo p q r ⊎ (OfNew fields topo p q r ⊎ OfBoth fields topo p q r) → OfOld fields topo p q s ⊎ (OfNew fields topo p q s ⊎ OfBoth fields topo p q s) → r ≡ s
    by (inl a) (inl b) = one_reason fields topo p r s a.0 b.0
    by (inl a) (inr (inl b)) = absurd (none_early fields topo p r b.0 a.0 a.1)
    by (inl a) (inr (inr b)) = absurd (none_early fields topo p r b.2.0 a.0 a.1)
    by (inr (inl a)) (inl b) = absurd (none_early fields topo p s a.0 b.0 b.1)
    by (inr (inl a)) (inr (inl b)) = one_reason fields topo q r s a.1 b.1
    by (inr (inl a)) (inr (inr b)) = absurd (none_early fields topo q r b.2.1 a.1 a.2)
    by (inr (inr a)) (inl b) = absurd (none_early fields topo p s a.2.0 b.0 b.1)
    by (inr (inr a)) (inr (inl b)) = absurd (none_early fields topo q s a.2.1 b.1 b.2)
    by (inr (inr a)) (inr (inr b)) = a.1 ∙ ap TooManyTags (a.2.2 ∙ sym b.2.2) ∙ sym b.1

-- two accepted policies whose tags fit together have none
pub no_pair_reason : (fields : FieldTable) (topo : Topology) (p q : Policy) (r : Refusal) → IsCompilable fields topo p → AtMost (most_tags fields fields.tag) (IsTagSet p (IsStartPacket fields topo))
    → IsCompilable fields topo q → AtMost (most_tags fields fields.tag) (IsTagSet q (IsStartPacket fields topo)) → FitTogether fields topo p q → IsPairReason fields topo p q r → ⊥
no_pair_reason fields topo p q r p_ok p_few q_ok q_few fit h =
    ⊎_elim
    (λ a. no_reason fields topo p r p_ok p_few a.0)
    (λ o.
    ⊎_elim
    (λ b. no_reason fields topo q r q_ok q_few b.1)
    (λ c.
    let old = least_fits_most (IsTagSet p (IsStartPacket fields topo)) fit.0 c.2.3.0 (at_most_these fields topo p fit.0 fit.2) c.2.3.2 in
    let new = least_fits_most (IsTagSet q (IsStartPacket fields topo)) fit.1 c.2.3.1 (at_most_these fields topo q fit.1 fit.3) c.2.3.3 in
    let sum = c.2.3.4 in
    let found = c.2.2 in
    let le = fit.4 in
    omega (arith, old, new, sum, found, le))
    o)
    (pair_kind fields topo p q r h)
