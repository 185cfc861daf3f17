-- What a status stands for: an answer shows it, and of any bytes at most one status has it.
use Rattle.std.proofs.Common.{◌≡◌, ⊎_elim, ℕ, List, refl, sym, subst, ◌∙◌}
use Rattle.std.specs.Prelude.{Option, Some, None}
use Rattle.nk_field.specs.Packet.{FieldTable}
use Rattle.nk_policy.specs.Policy.{Policy}
use Rattle.nk_names.specs.ProgramOf.{program_by}
use Rattle.nk_names.proofs.Alike.{named_alike}
use Rattle.nk_cert.specs.Equality.{AreSame}
use Rattle.nk_difference.proofs.BothSides.{not_same}
use Rattle.nk_input.specs.ProgramText.{Declares}
use Rattle.nk_input.proofs.OneText.{declares_once, no_fault}
use Rattle.nk_reply.specs.declared.status.Status.{Status}
use Rattle.nk_reply.specs.declared.status.Status.TheVariants.{Done, Differs, Text, Refused}
use Rattle.nk_reply.specs.Answer.{answer_of}
use Rattle.nk_reply.specs.Outcome.{Outcome, done, differs, text_refused, policy_refused}
use Rattle.nk_change_impact.specs.Impact.{IsImpactAnswer}
use Rattle.nk_change_impact.specs.Succeeding.{HaveBothPolicies, LackPolicy, StandsFor}
use Rattle.nk_change_impact.proofs.Texts.{policies_alike}

some_none : {X : Type 0} (x : X) → ◌≡◌ {A = Option X} None (Some x) → ⊥
some_none x e = cc

module _ (left right bytes : List ℕ) where
  abbrev Same : Type 0
  Same = HaveBothPolicies left right bytes AreSame

  abbrev Other : Type 0
  Other = HaveBothPolicies left right bytes (λ fields p q. ¬ AreSame fields p q)

  -- an answer shows what its status stands for
  pub stands : (o : Outcome) → IsImpactAnswer left right bytes o → StandsFor (answer_of o).status left right bytes
  stands (done t) h = record { said = h.0; declared = h.1; named = h.2.named; holds = h.2.same }
  stands (differs t) h =
      let k = h.2 in
      record {
        said = h.0;
        declared = h.1;
        named = k.named;
        holds = not_same k.named.program.fields k.named.left_policy k.named.right_policy k.predicates.some;
      }
  stands (text_refused t) h = (t, h)
  stands (policy_refused t) h =
      let k = h.2 in
      record { program = k.program; declared = subst (Declares bytes) (sym k.says) h.1; lacks = k.lacks }

  not_both : Same → Other → ⊥
  not_both d x = x.holds (policies_alike bytes left right d.said x.said d.declared x.declared d.named x.named AreSame d.holds)

  -- two names have policies, or one of them has none
  never_lacking : (P : FieldTable → Policy → Policy → Type 0) → HaveBothPolicies left right bytes P → LackPolicy left right bytes → ⊥
  never_lacking P d l =
      ⊎_elim
      (λ n. some_none d.named.left_policy (sym n ∙ sym (named_alike d.named.program l.program same left) ∙ d.named.left_is))
      (λ n. some_none d.named.right_policy (sym n ∙ sym (named_alike d.named.program l.program same right) ∙ d.named.right_is))
      l.lacks
    where
      same : program_by d.named.program ≡ program_by l.program
      same = d.named.says ∙ declares_once bytes d.said (program_by l.program) d.declared l.declared

  pub one_standing : (s t : Status) → StandsFor s left right bytes → StandsFor t left right bytes → s ≡ t
  one_standing Done Done h k = refl
  one_standing Done Differs h k = absurd (not_both h k)
  one_standing Done Text h k = absurd (no_fault bytes h.said k.0 h.declared k.1)
  one_standing Done Refused h k = absurd (never_lacking AreSame h k)
  one_standing Differs Done h k = absurd (not_both k h)
  one_standing Differs Differs h k = refl
  one_standing Differs Text h k = absurd (no_fault bytes h.said k.0 h.declared k.1)
  one_standing Differs Refused h k = absurd (never_lacking (λ fields p q. ¬ AreSame fields p q) h k)
  one_standing Text Done h k = absurd (no_fault bytes k.said h.0 k.declared h.1)
  one_standing Text Differs h k = absurd (no_fault bytes k.said h.0 k.declared h.1)
  one_standing Text Text h k = refl
  one_standing Text Refused h k = absurd (no_fault bytes (program_by k.program) h.0 k.declared h.1)
  one_standing Refused Done h k = absurd (never_lacking AreSame k h)
  one_standing Refused Differs h k = absurd (never_lacking (λ fields p q. ¬ AreSame fields p q) k h)
  one_standing Refused Text h k = absurd (no_fault bytes (program_by h.program) k.0 h.declared k.1)
  one_standing Refused Refused h k = refl
  one_standing Done t h k = absurd k
  one_standing Differs t h k = absurd k
  one_standing Text t h k = absurd k
  one_standing Refused t h k = absurd k
  one_standing s t h k = absurd h
