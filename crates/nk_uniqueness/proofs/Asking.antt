-- The question of a query's names is one, and so is what is told of it.
use Rattle.std.proofs.Common.{◌≡◌, ◌+◌, ◌⊎◌, inl, inr, refl, sym, ap, subst, ◌∙◌}
use Rattle.std.specs.Prelude.{Ok}
use Rattle.nk_field.specs.Order.{Found}
use Rattle.nk_field.specs.Packet.{FieldTable, IsFieldTable}
use Rattle.nk_policy.specs.After.{drop_policy}
use Rattle.nk_policy.specs.Policy.{marked_from, dups_of}
use Rattle.nk_names.specs.declared.Program.{Program}
use Rattle.nk_names.specs.ProgramOf.{program_by}
use Rattle.nk_cert.specs.Certificates.{CertificateValue}
use Rattle.nk_cert.specs.Verdicts.{Finding, IsFinding}
use Rattle.nk_query.specs.Asked.{Asked, Question, NamesQuestion, NoneBreaks, IsBreaking, IsLeastBreak, rest_are_predicates}
use Rattle.nk_query.specs.Answers.{IsHindranceByName, IsAsked, asked_policy}
use Rattle.nk_query.specs.declared.error.QueryError.{QueryError}
use Rattle.nk_query.specs.declared.error.QueryError.TheVariants.{NoMemory, NoPolicy, NotAPredicate, TooLarge}
use Rattle.nk_query.specs.declared.query.Answer.{Answer}
use Rattle.nk_query.specs.declared.query.Answer.TheVariants.{Holds, Breaks}
use Rattle.nk_query.proofs.OneQuestion.{true_false, one_question, never_lacks}
use Rattle.nk_uniqueness.specs.Queried.{Queried, holding, breaking, queried_by, IsToldOf, IsToldOfNamed, IsFoundOfNamed}
use Rattle.nk_names.proofs.Alike.{fields_alike}
use Rattle.nk_uniqueness.proofs.Comparing.{OnePrinted, OneFinding}
use Rattle.nk_compile.proofs.Orders.{one_least}

module _ (program other : Program) (same : program_by program ≡ program_by other) where
  -- what is told of the question of these names is told of this one
  told_of : (asked : Asked) (x y : Question) (a : Queried) → NamesQuestion program asked x → NamesQuestion other asked y
      → IsToldOf other.fields y a → IsToldOf program.fields x a
  told_of asked x y a h k t =
      subst (λ z. IsToldOf program.fields z a) (sym (one_question program other same asked x y h k))
      (subst (λ f. IsToldOf f y a) (sym (fields_alike program other same)) t)

-- a question breaks or not
no_break : (fields : FieldTable) (x : Question) (f : Found) → NoneBreaks fields x → IsLeastBreak fields x f → ⊥
no_break fields x f none least = none f.start f.records f.last least.0.0 least.0.1

-- what is told of a question is one
pub one_told_of : OnePrinted → (fields : FieldTable) (x : Question) → IsFieldTable fields → (a b : Queried)
    → IsToldOf fields x a → IsToldOf fields x b → a ≡ b
one_told_of law fields x table (holding c) (holding d) h k =
    ap holding (law fields (asked_policy x) (marked_from drop_policy (1 + dups_of (asked_policy x))) table c d h.1.printed k.1.printed)
one_told_of law fields x table (holding c) (breaking g) h k = absurd (no_break fields x g h.0 k)
one_told_of law fields x table (breaking f) (holding d) h k = absurd (no_break fields x f k.0 h)
one_told_of law fields x table (breaking f) (breaking g) h k = ap breaking (one_least (IsBreaking fields x) f g h k)

-- what asking in memory answers is told of its names
told_of_asked : (program : Program) (asked : Asked) (a : Answer) → IsAsked program asked (Ok a) → IsToldOfNamed program asked (queried_by a)
told_of_asked program asked (Holds c) h = h
told_of_asked program asked (Breaks f) h = (h.0, h.1, h.2.0)

module _ (program other : Program) (same : program_by program ≡ program_by other) where
  -- of a question that is named a cause holds in each program that says the same
  not_predicates : (asked : Asked) → IsHindranceByName program asked NotAPredicate → IsHindranceByName other asked TooLarge → ⊥
  not_predicates asked h k =
      let e = one_question program other same asked h.0 k.0 h.1 k.1 in
      true_false (sym k.2.0 ∙ sym (ap rest_are_predicates e) ∙ h.2)

  -- besides running out of memory there is one cause
  pub one_cause : (asked : Asked) (a b : QueryError) → IsHindranceByName program asked a → IsHindranceByName other asked b
      → (a ≡ NoMemory) ⊎ ((b ≡ NoMemory) ⊎ (a ≡ b))
  one_cause asked NoMemory b h k = inl refl
  one_cause asked NoPolicy NoMemory h k = inr (inl refl)
  one_cause asked NoPolicy NoPolicy h k = inr (inr refl)
  one_cause asked NoPolicy NotAPredicate h k = absurd (never_lacks other program (sym same) asked k.0 k.1 h)
  one_cause asked NoPolicy TooLarge h k = absurd (never_lacks other program (sym same) asked k.0 k.1 h)
  one_cause asked NotAPredicate NoMemory h k = inr (inl refl)
  one_cause asked NotAPredicate NoPolicy h k = absurd (never_lacks program other same asked h.0 h.1 k)
  one_cause asked NotAPredicate NotAPredicate h k = inr (inr refl)
  one_cause asked NotAPredicate TooLarge h k = absurd (not_predicates asked h k)
  one_cause asked TooLarge NoMemory h k = inr (inl refl)
  one_cause asked TooLarge NoPolicy h k = absurd (never_lacks program other same asked h.0 h.1 k)
  one_cause asked TooLarge NotAPredicate h k = absurd (larger k h)
    where
      larger : IsHindranceByName other asked NotAPredicate → IsHindranceByName program asked TooLarge → ⊥
      larger n l =
          let e = one_question program other same asked l.0 n.0 l.1 n.1 in
          true_false (sym l.2.0 ∙ ap rest_are_predicates e ∙ n.2)
  one_cause asked TooLarge TooLarge h k = inr (inr refl)

  pub one_told_of_named : OnePrinted → IsFieldTable program.fields → (asked : Asked) (a b : Queried)
      → IsToldOfNamed program asked a → IsToldOfNamed other asked b → a ≡ b
  one_told_of_named law table asked a b h k =
      one_told_of law program.fields h.0 table a b h.2 (told_of program other same asked h.0 k.0 b h.1.names k.1.names k.2)

  pub one_found_of_named : OneFinding → (asked : Asked) (c : CertificateValue) (v w : Finding)
      → IsFoundOfNamed program asked c v → IsFoundOfNamed other asked c w → v ≡ w
  one_found_of_named law asked c v w h k =
      let e = one_question program other same asked h.0 k.0 h.1.names k.1.names in
      law program.fields (asked_policy h.0) drop_policy c v w h.2
      (subst (λ z. IsFinding program.fields (asked_policy z) drop_policy c w) (sym e)
      (subst (λ f. IsFinding f (asked_policy k.0) drop_policy c w) (sym (fields_alike program other same)) k.2))

  -- so is what asking answers
  pub one_asked : OnePrinted → IsFieldTable program.fields → (asked : Asked) (a b : Answer)
      → IsAsked program asked (Ok a) → IsAsked other asked (Ok b) → queried_by a ≡ queried_by b
  one_asked law table asked a b h k =
      one_told_of_named law table asked (queried_by a) (queried_by b) (told_of_asked program asked a h) (told_of_asked other asked b k)
