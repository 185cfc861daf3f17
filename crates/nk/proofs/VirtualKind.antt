-- A virtual policy is compiled exactly where it can be: no refusal is another answer.
use Rattle.std.proofs.Common.{◌≡◌, ℕ, List, ⊎_elim, inl, inr, sym, ap, subst, ◌∙◌}
use Rattle.std.specs.Prelude.{Some}
use Rattle.nk_field.specs.Packet.{FieldTable}
use Rattle.nk_topo.specs.Topology.{Topology}
use Rattle.nk_policy.specs.Policy.{Policy, marked_from}
use Rattle.nk_names.specs.declared.Program.{Program}
use Rattle.nk_names.specs.Accepted.{IsAccepted}
use Rattle.nk_names.specs.Named.{policy_named}
use Rattle.nk_names.specs.ProgramOf.{DeclaredProgram, program_by}
use Rattle.nk_names.specs.ProgramValue.{VirtualLink}
use Rattle.nk_names.proofs.Alike.{fields_alike, topo_alike, named_alike, one_policy}
use Rattle.nk_compile.specs.Refusals.{IsReason}
use Rattle.nk_compile.proofs.Reasons.{no_reason}
use Rattle.nk_compile.proofs.ReasonByName.{alike}
use Rattle.nk_virtual.specs.Physical.{physical}
use Rattle.nk_virtual.specs.Reasons.{IsLaterFlaw, IsReasonAgainst, IsVirtualReason}
use Rattle.nk_virtual.specs.declared.refusal.VirtualRefusal.{VirtualRefusal}
use Rattle.nk_virtual.specs.declared.refusal.VirtualRefusal.TheVariants.{NoPolicy, NoTag, Static, OffTarget, NotCarried, TooLarge}
use Rattle.nk_virtual.proofs.OneReason.{none_some, number_is, no_first, none_over}
use Rattle.nk_reply.specs.Outcome.{Outcome, done, differs, text_refused, policy_refused}
use Rattle.nk_input.specs.ProgramText.{Declares}
use Rattle.nk.specs.Succeeding.{AcceptsVirtual}
use Rattle.nk_virtual_command.specs.Virtualizing.{LacksPhysical, IsPhysicalRefusal, IsVirtualizeAnswer}
use Rattle.nk.proofs.ByKind.{Kind}
use Rattle.nk_input.proofs.OneText.{declares_once, no_fault}

-- what holds over the same fields, topology, virtual links and policy
over_links : (P : FieldTable → Topology → List VirtualLink → Policy → Type 0) (f g : FieldTable) (t u : Topology) (k l : List VirtualLink) (p q : Policy)
    → f ≡ g → t ≡ u → k ≡ l → p ≡ q → P f t k p → P g u l q
over_links P f g t u k l p q e d c s h =
    subst (λ z. P g u l z) s (subst (λ z. P g u z p) c (subst (λ z. P g z k p) d (subst (λ z. P z t k p) e h)))

module _ (name bytes : List ℕ) (d : AcceptsVirtual name bytes) where
  -- nothing is wrong with its virtual links or its policy
  never_later : (r : VirtualRefusal) (tag : ℕ) → d.program.fields.tag ≡ Some tag
      → IsLaterFlaw d.program.fields d.program.topo d.program.virtuals tag d.policy r → ⊥
  never_later r tag e h = by (subst (λ t. IsLaterFlaw d.program.fields d.program.topo d.program.virtuals t d.policy r) (number_is tag d.tag (sym e ∙ d.tag_declared)) h)
    where
      by : IsLaterFlaw d.program.fields d.program.topo d.program.virtuals d.tag d.policy r → ⊥
      by (inl a) = no_first d.program.fields d.program.topo d.tag d.program.virtuals r d.usable a
      by (inr a) = none_over d.program.virtuals d.tag d.policy r d.plain d.small a.1

  -- so there is no reason against it
  none_against : (r : VirtualRefusal) → IsReasonAgainst d.program.fields d.program.topo d.program.virtuals d.policy r → ⊥
  none_against NoPolicy h = h
  none_against NoTag h = none_some d.tag (sym h ∙ d.tag_declared)
  none_against (Static static_kind) h = never_later (Static static_kind) h.0 h.1 h.2
  none_against (OffTarget switch port start history) h = never_later (OffTarget switch port start history) h.0 h.1 h.2
  none_against (NotCarried switch port start) h = never_later (NotCarried switch port start) h.0 h.1 h.2
  none_against TooLarge h = never_later TooLarge h.0 h.1 h.2

  module _ (other : Program) (same : program_by d.program ≡ program_by other) where
    virtuals_alike : d.program.virtuals ≡ other.virtuals
    virtuals_alike = ap (λ (s : DeclaredProgram). s.virtuals) same

    -- nor in a program that says the same
    none_in : (r : VirtualRefusal) (q : Policy) → policy_named other name ≡ Some q
        → IsReasonAgainst other.fields other.topo other.virtuals q r → ⊥
    none_in r q named h =
        none_against r
        (over_links (λ f t k p. IsReasonAgainst f t k p r) other.fields d.program.fields other.topo d.program.topo other.virtuals d.program.virtuals q d.policy
        (sym (fields_alike d.program other same)) (sym (topo_alike d.program other same)) (sym virtuals_alike)
        (sym (one_policy d.program other same name d.policy q d.named named)) h)

    never_unphysical : (r : VirtualRefusal) → IsVirtualReason other name r → ⊥
    never_unphysical NoPolicy h = none_some d.policy (sym h ∙ sym (named_alike d.program other same name) ∙ d.named)
    never_unphysical NoTag h = none_in NoTag h.0 h.1 h.2
    never_unphysical (Static static_kind) h = none_in (Static static_kind) h.0 h.1 h.2
    never_unphysical (OffTarget switch port start history) h = none_in (OffTarget switch port start history) h.0 h.1 h.2
    never_unphysical (NotCarried switch port start) h = none_in (NotCarried switch port start) h.0 h.1 h.2
    never_unphysical TooLarge h = none_in TooLarge h.0 h.1 h.2

  -- the text is refused for no reason of either kind
  never_lacking : (s : DeclaredProgram) (t : List ℕ) → Declares bytes s → LacksPhysical s name t → ⊥
  never_lacking s t declared l =
      never_unphysical l.program (declares_once bytes (program_by d.program) s d.declared declared ∙ sym l.says) l.reason l.refused

  never_refused : (s : DeclaredProgram) (t : List ℕ) → Declares bytes s → IsPhysicalRefusal s name t → ⊥
  never_refused s t declared r =
      let same : program_by d.program ≡ program_by r.program = declares_once bytes (program_by d.program) s d.declared declared ∙ sym r.says in
      let q = marked_from (physical d.program.virtuals d.policy) 1 in
      let policy : r.policy ≡ q =
      r.physical.is.built.numbered
      ∙ ap (λ k. marked_from (physical k r.physical.policy) 1) (sym (virtuals_alike r.program same))
      ∙ ap (λ p. marked_from (physical d.program.virtuals p) 1) (sym (one_policy d.program r.program same name d.policy r.physical.policy d.named r.physical.named)) in
      no_reason d.program.fields d.program.topo q r.reason d.accepted.0 d.accepted.1
      (alike (λ f u p. IsReason f u p r.reason) r.program.fields d.program.fields r.program.topo d.program.topo r.policy q
      (sym (fields_alike d.program r.program same)) (sym (topo_alike d.program r.program same)) policy r.refused)

pub virtual_kind : (name bytes : List ℕ) (o : Outcome) → IsVirtualizeAnswer name bytes o → Kind o (AcceptsVirtual name bytes) ⊥
virtual_kind name bytes (text_refused t) h = (λ d. no_fault bytes (program_by d.program) t d.declared h, λ x. x)
virtual_kind name bytes (done t) h =
    let made = h.2 in
    let is = made.physical.is in (
      record {
        program = made.program;
        declared = subst (Declares bytes) (sym made.says) h.1;
        policy = made.physical.policy;
        named = made.physical.named;
        tag = made.physical.tag;
        tag_declared = made.physical.tag_declared;
        usable = is.usable;
        plain = is.plain;
        small = is.built.small;
        accepted = subst (IsAccepted made.program) is.built.numbered made.compiled.0;
      },
      λ x. x,
    )
virtual_kind name bytes (differs t) h = absurd h.2
virtual_kind name bytes (policy_refused t) h =
    (λ d. ⊎_elim (λ l. never_lacking name bytes d h.0 t h.1 l) (λ r. never_refused name bytes d h.0 t h.1 r) h.2, λ x. x)
