-- What is answered to a name is one, for programs that say the same.
use Rattle.std.proofs.Common.{◌≡◌, ℕ, ◌⊎◌, inl, inr, ⊎_elim, List, refl, sym, ap, subst, ◌∙◌}
use Rattle.std.specs.Prelude.{Some, None, AllPairs}
use Rattle.nk_field.specs.Packet.{FieldTable}
use Rattle.nk_topo.specs.Topology.{Topology}
use Rattle.nk_policy.specs.Policy.{Policy, marked_from}
use Rattle.nk_names.specs.declared.Program.{Program}
use Rattle.nk_names.specs.Named.{policy_named}
use Rattle.nk_names.specs.ProgramOf.{DeclaredProgram, program_by}
use Rattle.nk_names.specs.ProgramValue.{VirtualLink, HaveOneSource}
use Rattle.nk_names.proofs.Alike.{fields_alike, topo_alike, named_alike, one_policy}
use Rattle.nk_virtual.specs.Answers.{IsPhysical}
use Rattle.nk_virtual.specs.Physical.{physical}
use Rattle.nk_virtual.specs.Reasons.{IsReasonAgainst, IsVirtualReason}
use Rattle.nk_virtual.specs.declared.refusal.VirtualRefusal.{VirtualRefusal}
use Rattle.nk_virtual.specs.declared.refusal.VirtualRefusal.TheVariants.{NoPolicy}
use Rattle.nk_virtual.proofs.OneReason.{none_some, one_against, none_against}

-- why a name is refused: it has no policy, or there is a reason against its policy
abbrev HasReason : Program → List ℕ → VirtualRefusal → Type 0
HasReason program name r =
    (p : Policy) × (policy_named program name ≡ Some p) × IsReasonAgainst program.fields program.topo program.virtuals p r

why : (program : Program) (name : List ℕ) (r : VirtualRefusal) → IsVirtualReason program name r
    → ((r ≡ NoPolicy) × (policy_named program name ≡ None)) ⊎ HasReason program name r
why program name NoPolicy h = inl (refl, h)
why program name r h = inr h

-- a reason against the same policy over the same virtual links
against_alike : (f g : FieldTable) (t u : Topology) (k l : List VirtualLink) (p q : Policy) (r : VirtualRefusal) → f ≡ g → t ≡ u → k ≡ l → p ≡ q
    → IsReasonAgainst f t k p r → IsReasonAgainst g u l q r
against_alike f g t u k l p q r ef et ek ep h =
    subst (λ x. IsReasonAgainst g u l x r) ep
    (subst (λ x. IsReasonAgainst g u x p r) ek (subst (λ x. IsReasonAgainst g x k p r) et (subst (λ x. IsReasonAgainst x t k p r) ef h)))

module _ (program other : Program) (same : program_by program ≡ program_by other) (name : List ℕ) where
  virtuals_alike : program.virtuals ≡ other.virtuals
  virtuals_alike = ap (λ (s : DeclaredProgram). s.virtuals) same

  -- the reason against the other program's policy is one against this one's
  moved : (r : VirtualRefusal) (p q : Policy) → policy_named program name ≡ Some p → policy_named other name ≡ Some q
      → IsReasonAgainst other.fields other.topo other.virtuals q r → IsReasonAgainst program.fields program.topo program.virtuals p r
  moved r p q e f h =
      against_alike other.fields program.fields other.topo program.topo other.virtuals program.virtuals q p r (sym (fields_alike program other same)) (sym (topo_alike program other same)) (sym virtuals_alike) (sym (one_policy program other same name p q e f)) h

  -- there is one reason
  pub one_reason : AllPairs (λ k l. ¬ (HaveOneSource k l)) program.virtuals
      → (r s : VirtualRefusal) → IsVirtualReason program name r → IsVirtualReason other name s → r ≡ s
  one_reason apart r s h j =
      ⊎_elim
      (λ n.
      ⊎_elim
      (λ m. n.0 ∙ sym m.0)
      (λ w. absurd (none_some w.0 (sym n.1 ∙ named_alike program other same name ∙ w.1)))
      (why other name s j))
      (λ v.
      ⊎_elim
      (λ m. absurd (none_some v.0 (sym m.1 ∙ sym (named_alike program other same name) ∙ v.1)))
      (λ w. one_against program.fields program.topo program.virtuals v.0 apart r s v.2 (moved s v.0 w.0 v.1 w.1 w.2))
      (why other name s j))
      (why program name r h)

  -- and none beside a physical policy
  pub no_reason : (q : Policy) (r : VirtualRefusal) → IsPhysical program name q → IsVirtualReason other name r → ⊥
  no_reason q r is h =
      ⊎_elim
      (λ m. none_some is.policy (sym m.1 ∙ sym (named_alike program other same name) ∙ is.named))
      (λ w.
      none_against program.fields program.topo program.virtuals is.policy is.tag q r is.tag_declared is.is (moved r is.policy w.0 is.named w.1 w.2))
      (why other name r h)

  -- of which there is one
  pub one_physical : (q s : Policy) → IsPhysical program name q → IsPhysical other name s → q ≡ s
  one_physical q s is also =
      is.is.built.numbered
      ∙ ap (λ p. marked_from (physical program.virtuals p) 1) (one_policy program other same name is.policy also.policy is.named also.named)
      ∙ ap (λ l. marked_from (physical l also.policy) 1) virtuals_alike
      ∙ sym also.is.built.numbered
