-- A policy that is compacted has no reason to be refused by the number of classes, and no policy has two.
use Rattle.std.proofs.Common.{◌≡◌, ℕ, ◌≤◌, ◌⊎◌, inl, inr, ⊎_elim, List, sym, ap, subst, ◌∙◌, refl, length, arith}
use Rattle.std.specs.Prelude.{Some, None, slice_index}
use Rattle.nk_field.specs.Packet.{FieldTable}
use Rattle.nk_topo.specs.Topology.{Topology}
use Rattle.nk_policy.specs.Policy.{Policy}
use Rattle.nk_policy.specs.Tags.{AreTags}
use Rattle.nk_names.specs.declared.Program.{Program}
use Rattle.nk_names.specs.ProgramOf.{program_by}
use Rattle.nk_names.specs.Accepted.{IsStartPacket, IsCompilable, most_tags}
use Rattle.nk_names.specs.Named.{policy_named}
use Rattle.nk_names.proofs.Alike.{fields_alike, topo_alike, named_alike, one_policy}
use Rattle.nk_merge.proofs.Numbering.{numbers_fixed}
use Rattle.nk_compile.specs.declared.refusal.Refusal.{Refusal}
use Rattle.nk_compile.specs.declared.refusal.Refusal.TheVariants.{NoPolicy, TooManyTags}
use Rattle.nk_compile.specs.PairAnswers.{IsUnopposed}
use Rattle.nk_compile.specs.Refusals.{IsReason}
use Rattle.nk_compile.proofs.OneTagList.{one_tag_list}
use Rattle.nk_compile.proofs.PairReasons.{IsEarly, none_early}
use Rattle.nk_compile.proofs.ReasonByName.{alike}
use Rattle.nk_compile.proofs.Reasons.{none_some, one_reason, unseen}
use Rattle.nk_compact.specs.Compacted.{AcceptsCompact, HasFewClasses, HaveTagClasses, IsCompactReason, IsCompactRefused}
use Rattle.nk_compact.specs.MergedTable.{ArePlacesAlike, AreTagClasses}
use Rattle.nk_compact.proofs.Merging.{index_get}

-- the classes of tag sets in order are one list
pub one_classes :
    (fields : FieldTable) (topo : Topology) (p : Policy) (xs ys : List (List ℕ)) (a b : List ℕ) → AreTags p (IsStartPacket fields topo) xs → AreTags p (IsStartPacket fields topo) ys
    → AreTagClasses fields p xs a → AreTagClasses fields p ys b → a ≡ b
one_classes fields topo p xs ys a b h k c d =
    let same = one_tag_list p (IsStartPacket fields topo) xs ys h k in
    numbers_fixed (ArePlacesAlike fields p ys) (length ys) a b (subst (λ ts. AreTagClasses fields p ts a) same c) d

module _ (fields : FieldTable) (topo : Topology) (p : Policy) where
  -- so many classes are no more than few
  few_many : (found : ℕ) → HasFewClasses fields topo p → HaveTagClasses fields topo p found → found ≤ most_tags fields fields.tag
  few_many found few many =
      let c = many.4 in
      let same = one_classes fields topo p many.0 few.0 many.1 few.1 many.2 few.2 many.3 few.3 in
      let at : slice_index few.1 c.0 ≡ found = ap (λ cs. slice_index cs c.0) (sym same) ∙ index_get many.1 c.0 found c.1 in
      subst (λ n. n ≤ most_tags fields fields.tag) at (few.4 c.0)

  -- nothing stands against a compilable policy but perhaps the number of its tags
  unopposed : IsCompilable fields topo p → IsUnopposed fields topo p
  unopposed c = (unseen fields topo p c, c.ends_on_edges)

  abbrev Early : Refusal → Type 0
  Early r = IsReason fields topo p r × IsEarly r

  abbrev Late : Refusal → Type 0
  Late r = (found : ℕ) × (r ≡ TooManyTags found) × IsCompactReason fields topo p (TooManyTags found)

  kind : (r : Refusal) → IsCompactReason fields topo p r → Early r ⊎ Late r
  kind (TooManyTags found) h = inr (found, refl, h)
  kind r h = inl (h, λ found e. cc)

  pub no_compact_reason : (r : Refusal) → IsCompilable fields topo p → HasFewClasses fields topo p → IsCompactReason fields topo p r → ⊥
  no_compact_reason r c few h =
      ⊎_elim
      (λ e. none_early fields topo p r (unopposed c) e.0 e.1)
      (λ l. let le = few_many l.0 few l.2.3 in omega (arith, le, l.2.2))
      (kind r h)

  pub one_compact_reason : (r s : Refusal) → IsCompactReason fields topo p r → IsCompactReason fields topo p s → r ≡ s
  one_compact_reason r s h k = by (kind r h) (kind s k)
    where
      by : Early r ⊎ Late r → Early s ⊎ Late s → r ≡ s
      by (inl a) (inl b) = one_reason fields topo p r s a.0 b.0
      by (inl a) (inr b) = absurd (none_early fields topo p r (b.2.0, b.2.1) a.0 a.1)
      by (inr a) (inl b) = absurd (none_early fields topo p s (a.2.0, a.2.1) b.0 b.1)
      by (inr a) (inr b) = a.1 ∙ ap TooManyTags (a.2.2 ∙ sym b.2.2) ∙ sym b.1

-- ---- by name, for programs that say the same

abbrev HasCompactReason : Program → List ℕ → Refusal → Type 0
HasCompactReason program name r = (p : Policy) × (policy_named program name ≡ Some p) × IsCompactReason program.fields program.topo p r

why_compact : (program : Program) (name : List ℕ) (r : Refusal) → IsCompactRefused program name r → ((r ≡ NoPolicy) × (policy_named program name ≡ None)) ⊎ HasCompactReason program name r
why_compact program name NoPolicy h = inl (refl, h)
why_compact program name r h = inr h

module _ (program other : Program) (same : program_by program ≡ program_by other) (name : List ℕ) where
  -- a reason of the other program's policy is one of this program's policy
  moved : (r : Refusal) (v w : Policy) → policy_named program name ≡ Some v → policy_named other name ≡ Some w → IsCompactReason other.fields other.topo w r → IsCompactReason program.fields program.topo v r
  moved r v w h k c =
      alike (λ f u p. IsCompactReason f u p r) other.fields program.fields other.topo program.topo w v (sym (fields_alike program other same)) (sym (topo_alike program other same)) (sym (one_policy program other same name v w h k)) c

  -- a name whose policy can be compacted isn't refused
  pub never_refused_compact : (r : Refusal) → AcceptsCompact program name → IsCompactRefused other name r → ⊥
  never_refused_compact r a h =
      ⊎_elim
      (λ n. none_some a.0 (sym n.1 ∙ sym (named_alike program other same name) ∙ a.1))
      (λ w. no_compact_reason program.fields program.topo a.0 r a.2 a.3 (moved r a.0 w.0 a.1 w.1 w.2))
      (why_compact other name r h)

  -- and is refused for one reason alone
  pub one_compact_refusal : (r s : Refusal) → IsCompactRefused program name r → IsCompactRefused other name s → r ≡ s
  one_compact_refusal r s h k =
      ⊎_elim
      (λ n.
      ⊎_elim
      (λ m. n.0 ∙ sym m.0)
      (λ w. absurd (none_some w.0 (sym n.1 ∙ named_alike program other same name ∙ w.1)))
      (why_compact other name s k))
      (λ v.
      ⊎_elim
      (λ m. absurd (none_some v.0 (sym m.1 ∙ sym (named_alike program other same name) ∙ v.1)))
      (λ w. one_compact_reason program.fields program.topo v.0 r s v.2 (moved s v.0 w.0 v.1 w.1 w.2))
      (why_compact other name s k))
      (why_compact program name r h)
