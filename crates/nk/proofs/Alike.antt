-- What is said of the policies of names, over programs that say the same.
use Rattle.std.proofs.Common.{◌≡◌, ℕ, ◌⊎◌, ⊎_elim, List, sym, subst, ◌∙◌}
use Rattle.std.specs.Prelude.{Option, Some, None}
use Rattle.nk_field.specs.Packet.{FieldTable}
use Rattle.nk_policy.specs.Policy.{Policy}
use Rattle.nk_names.specs.declared.Program.{Program}
use Rattle.nk_names.specs.Named.{policy_named}
use Rattle.nk_names.specs.ProgramOf.{program_by}
use Rattle.nk_query.specs.Asked.{Asked, Question}
use Rattle.nk_query.specs.Answers.{IsNamedQuestion, IsHindranceByName}
use Rattle.nk_query.specs.declared.error.QueryError.{QueryError}
use Rattle.nk_query.specs.declared.error.QueryError.TheVariants as query
use Rattle.nk_names.proofs.Alike.{fields_alike, named_alike, one_policy}
use Rattle.nk_query.proofs.OneQuestion.{no_cause, one_question}
use Rattle.nk_verify_commands.specs.Comparing.{AreNamed}
use Rattle.nk_verify_commands.specs.Messages.{TellsQuery}

some_none : {X : Type 0} (x : X) → ◌≡◌ {A = Option X} None (Some x) → ⊥
some_none x e = cc

module _ (program other : Program) (same : program_by program ≡ program_by other) where
  -- two names have their policies in each
  pub of_named : (P : FieldTable → Policy → Policy → Type 0) (left right : List ℕ) (p q r s : Policy)
      → AreNamed program left right p q → AreNamed other left right r s → P program.fields p q → P other.fields r s
  of_named P left right p q r s h k x =
      subst (λ z. P other.fields r z) (one_policy program other same right q s h.right_is k.right_is)
      (subst (λ z. P other.fields z q) (one_policy program other same left p r h.left_is k.left_is)
      (subst (λ f. P f p q) (fields_alike program other same) x))

  -- or in none
  pub never_lacking : (left right : List ℕ) (p q : Policy) → AreNamed program left right p q
      → (policy_named other left ≡ None) ⊎ (policy_named other right ≡ None) → ⊥
  never_lacking left right p q h l =
      ⊎_elim
      (λ n. some_none p (sym n ∙ sym (named_alike program other same left) ∙ h.left_is))
      (λ n. some_none q (sym n ∙ sym (named_alike program other same right) ∙ h.right_is))
      l

  -- a query's names have their question in each
  pub of_question : (P : FieldTable → Question → Type 0) (asked : Asked) (x y : Question)
      → IsNamedQuestion program asked x → IsNamedQuestion other asked y → P program.fields x → P other.fields y
  of_question P asked x y h k z =
      subst (λ q. P other.fields q) (one_question program other same asked x y h.names k.names)
      (subst (λ f. P f x) (fields_alike program other same) z)

  -- or a cause that there is none is told
  told_cause : (cause : QueryError) (text : List ℕ) → cause ≡ query.NoMemory → TellsQuery cause text → ⊥
  told_cause cause text e t = subst (λ c. TellsQuery c text) e t

  pub never_caused : (asked : Asked) (x : Question) (cause : QueryError) (text : List ℕ)
      → IsNamedQuestion program asked x → IsHindranceByName other asked cause → TellsQuery cause text → ⊥
  never_caused asked x cause text h c t = told_cause cause text (no_cause program other same asked x cause h c) t
