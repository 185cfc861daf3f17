-- Programs that say the same give a name the same policy.
use Rattle.std.proofs.Common.{◌≡◌, ℕ, List, sym, ap, ◌∙◌}
use Rattle.std.specs.Prelude.{Some}
use Rattle.nk_policy.specs.Policy.{Policy}
use Rattle.nk_names.specs.declared.Program.{Program}
use Rattle.nk_names.specs.Named.{policy_named}
use Rattle.nk_names.specs.Meant.{policy_among}
use Rattle.nk_names.specs.ProgramOf.{DeclaredProgram, program_by}

policy_is : (p q : Policy) → Some p ≡ Some q → p ≡ q
policy_is p q e = cc

module _ (program other : Program) (same : program_by program ≡ program_by other) where
  pub fields_alike : program.fields ≡ other.fields
  fields_alike = ap (λ (s : DeclaredProgram). s.fields) same

  pub topo_alike : program.topo ≡ other.topo
  topo_alike = ap (λ (s : DeclaredProgram). s.topo) same

  pub named_alike : (name : List ℕ) → policy_named program name ≡ policy_named other name
  named_alike name = ap (λ (s : DeclaredProgram). policy_among s.lets name) same

  -- the policy of a name is one
  pub one_policy : (name : List ℕ) (p q : Policy) → policy_named program name ≡ Some p → policy_named other name ≡ Some q → p ≡ q
  one_policy name p q e f = policy_is p q (sym e ∙ named_alike name ∙ f)
