-- Which outcome of a job is the answer to its text.
use Rattle.std.proofs.Common.{◌≡◌, ℕ, List, inl, inr, sym, subst}
use Rattle.std.specs.Prelude.{codes}
use Rattle.nk_verify_commands.specs.Comparing.{IsEqualAnswer}
use Rattle.nk_compile_commands.specs.Compiling.{IsCompileAnswer}
use Rattle.nk.specs.Generating.{IsCounted, IsJobOver, IsNotDone, OrThen}
use Rattle.nk_reply.specs.Outcome.{Outcome, done, differs, text_refused, policy_refused}
use Rattle.nk.specs.Succeeding.{AcceptsNamed, HasJob, GiveSame}
use Rattle.nk.proofs.ByKind.{Kind, compile_kind, equal_kind, not_both}

module _ (bytes : List ℕ) where
  abbrev pub Whole : Type 0
  Whole = HasJob bytes GiveSame

  abbrev pub Apart : Type 0
  Apart = HasJob bytes (λ program p q. ¬ GiveSame program p q)

  not_both_jobs : Whole → Apart → ⊥
  not_both_jobs d x = not_both (codes "go") (codes "same") bytes d.compared x.compared

  -- a name that isn't accepted ends the job
  unaccepted : (name : List ℕ) (o : Outcome) → (Whole → AcceptsNamed name bytes) → (Apart → AcceptsNamed name bytes)
      → IsNotDone o → Kind o (AcceptsNamed name bytes) ⊥ → Kind o Whole Apart
  unaccepted name (done t) f g other k = absurd other
  unaccepted name (differs t) f g other k = absurd k.0
  unaccepted name (text_refused t) f g other k = (λ d. k.0 (f d), λ x. k.0 (g x))
  unaccepted name (policy_refused t) f g other k = (λ d. k.0 (f d), λ x. k.0 (g x))

  -- of two accepted names the comparison decides
  compared : (go : AcceptsNamed (codes "go") bytes) (cast : AcceptsNamed (codes "cast") bytes) (o : Outcome)
      → IsNotDone o → IsEqualAnswer (codes "go") (codes "same") bytes o → Kind o Whole Apart
  compared go cast (done t) other h = absurd other
  compared go cast (differs t) other h =
      let k = equal_kind (codes "go") (codes "same") bytes (differs t) h in (
        record { go = go; cast = cast; compared = k.0 },
        λ d. k.1 d.compared,
      )
  compared go cast (text_refused t) other h =
      let k = equal_kind (codes "go") (codes "same") bytes (text_refused t) h in
      (λ d. k.0 d.compared, λ x. k.1 x.compared)
  compared go cast (policy_refused t) other h =
      let k = equal_kind (codes "go") (codes "same") bytes (policy_refused t) h in
      (λ d. k.0 d.compared, λ x. k.1 x.compared)

  -- or both give the same, and the job is done
  counted : (go : AcceptsNamed (codes "go") bytes) (cast : AcceptsNamed (codes "cast") bytes) (t x : List ℕ) (o : Outcome)
      → IsEqualAnswer (codes "go") (codes "same") bytes (done t) → o ≡ done x → Kind o Whole Apart
  counted go cast t x o h e =
      let k = equal_kind (codes "go") (codes "same") bytes (done t) h in
      let d : Whole = record { go = go; cast = cast; compared = k.0 } in
      subst (λ z. Kind z Whole Apart) (sym e) (d, not_both_jobs d)

  third : (go : AcceptsNamed (codes "go") bytes) (cast : AcceptsNamed (codes "cast") bytes) (g c : List ℕ) (o : Outcome)
      → OrThen (IsEqualAnswer (codes "go") (codes "same") bytes) (λ t. IsCounted bytes g c t) o → Kind o Whole Apart
  third go cast g c o (inl h) = compared go cast o h.0 h.1
  third go cast g c o (inr h) = counted go cast h.0 _ o h.1 h.2.told

  second : (go : AcceptsNamed (codes "go") bytes) (g : List ℕ) (o : Outcome)
      → OrThen (IsCompileAnswer (codes "cast") bytes) (λ c. OrThen (IsEqualAnswer (codes "go") (codes "same") bytes) (λ t. IsCounted bytes g c t)) o
      → Kind o Whole Apart
  second go g o (inl h) = unaccepted (codes "cast") o (λ d. d.cast) (λ x. x.cast) h.0 (compile_kind (codes "cast") bytes o h.1)
  second go g o (inr h) = third go (compile_kind (codes "cast") bytes (done h.0) h.1).0 g h.0 o h.2

  pub job_kind : (o : Outcome) → IsJobOver bytes o → Kind o Whole Apart
  job_kind o (inl h) = unaccepted (codes "go") o (λ d. d.go) (λ x. x.go) h.0 (compile_kind (codes "go") bytes o h.1)
  job_kind o (inr h) = second (compile_kind (codes "go") bytes (done h.0) h.1).0 h.0 o h.2
