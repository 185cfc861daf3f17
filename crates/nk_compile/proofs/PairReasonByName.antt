-- The reason to refuse two names for an update, for programs that say the same.
use Rattle.std.proofs.Common.{◌≡◌, ◌⊎◌, inl, inr, ⊎_elim, Some, None, List, ℕ, refl, sym, subst, ◌∙◌}
use Rattle.nk_policy.specs.Policy.{Policy}
use Rattle.nk_names.specs.declared.Program.{Program}
use Rattle.nk_names.specs.Accepted.{IsAccepted}
use Rattle.nk_names.specs.Named.{policy_named}
use Rattle.nk_names.specs.ProgramOf.{program_by}
use Rattle.nk_names.proofs.Alike.{fields_alike, topo_alike, named_alike, one_policy}
use Rattle.nk_compile.specs.declared.refusal.Refusal.{Refusal}
use Rattle.nk_compile.specs.declared.refusal.Refusal.TheVariants.{NoPolicy}
use Rattle.nk_compile.specs.PairAnswers.{FitTogether, IsPairReason, IsPairRefused}
use Rattle.nk_compile.proofs.Reasons.{none_some}
use Rattle.nk_compile.proofs.ReasonByName.{alike}
use Rattle.nk_compile.proofs.PairReasons.{one_pair_reason, no_pair_reason}

-- a refusal of two names: one has no policy, or their policies have a reason
abbrev HavePairReason : Program → List ℕ → List ℕ → Refusal → Type 0
HavePairReason program old new r =
    (p : Policy) × (q : Policy) × (policy_named program old ≡ Some p) × (policy_named program new ≡ Some q) × IsPairReason program.fields program.topo p q r

why_pair : (program : Program) (old new : List ℕ) (r : Refusal) → IsPairRefused program old new r
    → ((r ≡ NoPolicy) × ((policy_named program old ≡ None) ⊎ (policy_named program new ≡ None))) ⊎ HavePairReason program old new r
why_pair program old new NoPolicy h = inl (refl, h)
why_pair program old new r h = inr h

module _ (program other : Program) (same : program_by program ≡ program_by other) (old new : List ℕ) where
  -- two policies are not none
  named : (p q : Policy) → policy_named program old ≡ Some p → policy_named program new ≡ Some q
      → (policy_named other old ≡ None) ⊎ (policy_named other new ≡ None) → ⊥
  named p q e f n =
      ⊎_elim
      (λ a. none_some p (sym a ∙ sym (named_alike program other same old) ∙ e))
      (λ b. none_some q (sym b ∙ sym (named_alike program other same new) ∙ f))
      n

  -- the reason in the other program is one in this
  reason_here : (p q : Policy) (r : Refusal) → policy_named program old ≡ Some p → policy_named program new ≡ Some q → HavePairReason other old new r
      → IsPairReason program.fields program.topo p q r
  reason_here p q r e f w =
      subst (λ z. IsPairReason program.fields program.topo z q r) (sym (one_policy program other same old p w.0 e w.2))
      (alike (λ g u z. IsPairReason g u w.0 z r) other.fields program.fields other.topo program.topo w.1 q (sym (fields_alike program other same)) (sym (topo_alike program other same)) (sym (one_policy program other same new q w.1 f w.3)) w.4)

  -- two accepted policies whose tags fit together aren't refused
  pub fitting_never_refused : (p q : Policy) (r : Refusal) → policy_named program old ≡ Some p → policy_named program new ≡ Some q
      → IsAccepted program p → IsAccepted program q → FitTogether program.fields program.topo p q → IsPairRefused other old new r → ⊥
  fitting_never_refused p q r e f a b fit k =
      ⊎_elim
      (λ n. named p q e f n.1)
      (λ w. no_pair_reason program.fields program.topo p q r a.0 a.1 b.0 b.1 fit (reason_here p q r e f w))
      (why_pair other old new r k)

  -- and names are refused for one reason alone
  pub one_pair_refusal : (r s : Refusal) → IsPairRefused program old new r → IsPairRefused other old new s → r ≡ s
  one_pair_refusal r s h k =
      ⊎_elim
      (λ n.
      ⊎_elim
      (λ m. n.0 ∙ sym m.0)
      (λ w.
      absurd
      (⊎_elim
      (λ x. none_some w.0 (sym x ∙ named_alike program other same old ∙ w.2))
      (λ x. none_some w.1 (sym x ∙ named_alike program other same new ∙ w.3))
      n.1))
      (why_pair other old new s k))
      (λ v.
      ⊎_elim
      (λ m. absurd (named v.0 v.1 v.2 v.3 m.1))
      (λ w. one_pair_reason program.fields program.topo v.0 v.1 r s v.4 (reason_here v.0 v.1 s v.2 v.3 w))
      (why_pair other old new s k))
      (why_pair program old new r h)
