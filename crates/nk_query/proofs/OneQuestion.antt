-- The question of a query's names is one, and what keeps it from being asked.
use Rattle.std.proofs.Common.{◌≡◌, ℕ, ◌≤◌, ◌<◌, ⊎_elim, Bool, true, false, List, refl, sym, ap, subst, ◌∙◌, arith}
use Rattle.std.specs.Prelude.{Some, None}
use Rattle.nk_policy.specs.Policy.{Policy, size_of}
use Rattle.nk_names.specs.declared.Program.{Program}
use Rattle.nk_names.specs.Named.{policy_named}
use Rattle.nk_names.specs.ProgramOf.{program_by}
use Rattle.nk_names.proofs.Alike.{named_alike, one_policy}
use Rattle.nk_query.specs.Asked.{Asked, apart, waypoint, Question, apart_of, waypoint_of, NamesQuestion, LacksName, rest_are_predicates, question_policy}
use Rattle.nk_query.specs.Answers.{IsNamedQuestion, IsHindranceByName}
use Rattle.nk_query.specs.declared.error.QueryError.{QueryError}
use Rattle.nk_query.specs.declared.error.QueryError.TheVariants.{NoMemory, NoPolicy, NotAPredicate, TooLarge}

none_some : {A : Type 0} (a : A) → None ≡ Some a → ⊥
none_some a e = cc

pub true_false : ◌≡◌ {A = Bool} true false → ⊥
true_false e = cc

module _ (program other : Program) (same : program_by program ≡ program_by other) where
  -- a name has a policy, or none
  named_not : (name : List ℕ) (p : Policy) → policy_named program name ≡ Some p → policy_named other name ≡ None → ⊥
  named_not name p e n = none_some p (sym n ∙ sym (named_alike program other same name) ∙ e)

  pub one_question : (asked : Asked) (x y : Question) → NamesQuestion program asked x → NamesQuestion other asked y → x ≡ y
  one_question (apart name from target) (apart_of p a b) (apart_of q c d) h k =
      let whole = one_policy program other same name p q h.0 k.0 in
      let first = one_policy program other same from a c h.1 k.1 in
      let last = one_policy program other same target b d h.2 k.2 in
      λ i. apart_of (whole i) (first i) (last i)
  one_question (apart name from target) (apart_of p a b) (waypoint_of q c m d) h k = absurd k
  one_question (apart name from target) (waypoint_of p a m b) y h k = absurd h
  one_question (waypoint name from middle target) (waypoint_of p a m b) (waypoint_of q c n d) h k =
      let whole = one_policy program other same name p q h.0 k.0 in
      let first = one_policy program other same from a c h.1 k.1 in
      let middles = one_policy program other same middle m n h.2 k.2 in
      let last = one_policy program other same target b d h.3 k.3 in
      λ i. waypoint_of (whole i) (first i) (middles i) (last i)
  one_question (waypoint name from middle target) (waypoint_of p a m b) (apart_of q c d) h k = absurd k
  one_question (waypoint name from middle target) (apart_of p a b) y h k = absurd h

  -- a question's names have policies
  pub never_lacks : (asked : Asked) (x : Question) → NamesQuestion program asked x → LacksName other asked → ⊥
  never_lacks (apart name from target) (apart_of p a b) h l =
      ⊎_elim (named_not name p h.0) (λ r. ⊎_elim (named_not from a h.1) (named_not target b h.2) r) l
  never_lacks (apart name from target) (waypoint_of p a m b) h l = h
  never_lacks (waypoint name from middle target) (waypoint_of p a m b) h l =
      ⊎_elim
      (named_not name p h.0)
      (λ r. ⊎_elim (named_not from a h.1) (λ s. ⊎_elim (named_not middle m h.2) (named_not target b h.3) s) r)
      l
  never_lacks (waypoint name from middle target) (apart_of p a b) h l = h

  -- a question that can be made is asked unless memory runs out
  pub no_cause : (asked : Asked) (x : Question) (cause : QueryError) → IsNamedQuestion program asked x → IsHindranceByName other asked cause → cause ≡ NoMemory
  no_cause asked x NoMemory h c = refl
  no_cause asked x NoPolicy h c = absurd (never_lacks asked x h.names c)
  no_cause asked x NotAPredicate h c =
      let e = one_question asked x c.0 h.names c.1 in
      absurd (true_false (sym h.can.predicates ∙ ap rest_are_predicates e ∙ c.2))
  no_cause asked x TooLarge h c =
      let e = one_question asked x c.0 h.names c.1 in
      let small : size_of (question_policy x) ≤ 1048576 = h.can.small in
      let large : 1048576 < size_of (question_policy x) = subst (λ y. 1048576 < size_of (question_policy y)) (sym e) c.2.1 in
      absurd (omega (arith, small, large))
