-- The reason to refuse a name, for programs that say the same.
use Rattle.std.proofs.Common.{◌≡◌, ℕ, ⊎_elim, List, sym, subst, ◌∙◌}
use Rattle.nk_field.specs.Packet.{FieldTable}
use Rattle.nk_topo.specs.Topology.{Topology}
use Rattle.nk_policy.specs.Policy.{Policy}
use Rattle.nk_names.specs.declared.Program.{Program}
use Rattle.nk_names.specs.ProgramOf.{program_by}
use Rattle.nk_names.proofs.Alike.{fields_alike, topo_alike, named_alike, one_policy}
use Rattle.nk_compile.specs.declared.refusal.Refusal.{Refusal}
use Rattle.nk_compile.specs.Refusals.{IsReason, IsRefused}
use Rattle.nk_compile.specs.Headline.{IsAcceptedByName}
use Rattle.nk_compile.proofs.Reasons.{none_some, no_reason, one_reason, why}

-- what holds over the same fields, topology and policy
pub alike : (P : FieldTable → Topology → Policy → Type 0) (f g : FieldTable) (t u : Topology) (p q : Policy) → f ≡ g → t ≡ u → p ≡ q → P f t p → P g u q
alike P f g t u p q e d s h = subst (λ z. P g u z) s (subst (λ z. P g z p) d (subst (λ z. P z t p) e h))

module _ (program other : Program) (same : program_by program ≡ program_by other) (name : List ℕ) where
  -- a name that is accepted isn't refused
  pub never_refused : (r : Refusal) → IsAcceptedByName program name → IsRefused other name r → ⊥
  never_refused r a h =
      ⊎_elim
      (λ n. none_some a.0 (sym n.1 ∙ sym (named_alike program other same name) ∙ a.1))
      (λ w.
      no_reason program.fields program.topo a.0 r a.2.0 a.2.1
      (alike (λ f u p. IsReason f u p r) other.fields program.fields other.topo program.topo w.0 a.0 (sym (fields_alike program other same)) (sym (topo_alike program other same)) (sym (one_policy program other same name a.0 w.0 a.1 w.1)) w.2))
      (why other name r h)

  -- and is refused for one reason alone
  pub one_refusal : (r s : Refusal) → IsRefused program name r → IsRefused other name s → r ≡ s
  one_refusal r s h k =
      ⊎_elim
      (λ n.
      ⊎_elim
      (λ m. n.0 ∙ sym m.0)
      (λ w. absurd (none_some w.0 (sym n.1 ∙ named_alike program other same name ∙ w.1)))
      (why other name s k))
      (λ v.
      ⊎_elim
      (λ m. absurd (none_some v.0 (sym m.1 ∙ sym (named_alike program other same name) ∙ v.1)))
      (λ w.
      one_reason program.fields program.topo v.0 r s v.2
      (alike (λ f u p. IsReason f u p s) other.fields program.fields other.topo program.topo w.0 v.0 (sym (fields_alike program other same)) (sym (topo_alike program other same)) (sym (one_policy program other same name v.0 w.0 v.1 w.1)) w.2))
      (why other name s k))
      (why program name r h)
