-- How a run ends, exactly by what the bytes are.
use Rattle.std.proofs.Common.{◌≡◌, ◌≤◌, ℕ, List, length, inl, inr, sym, ap, subst, ◌∙◌, MatchBool}
use Rattle.std.proofs.lemmas.Bool.{le-ltb}
use Rattle.std.specs.Prelude.{Some}
use Rattle.nk_io.specs.Reading.{IsAllOf}
use Rattle.nk_reply.specs.declared.status.Status.{Status}
use Rattle.nk_reply.specs.Answer.{Answer, answer_of, limit, too_long}
use Rattle.nk_reply.specs.Meant.{IsAnswerBy}
use Rattle.nk_reply.specs.Outcome.{Outcome}
use Rattle.nk_reply.specs.Use.{Use}
use Rattle.nk_change_impact.specs.Impact.{IsImpactAnswer}
use Rattle.nk_change_impact.specs.Ends.{Names, Ends, IsImpactFixedBy}
use Rattle.nk_change_impact.specs.Succeeding.{IsImpactStatus, Succeeds}
use Rattle.nk_change_impact.proofs.Endings.{complete}
use Rattle.nk_change_impact.proofs.Standing.{stands, one_standing}

-- the status of an outcome is exact
exact : (left right bytes : List ℕ) (o : Outcome) → IsImpactAnswer left right bytes o → IsImpactStatus left right bytes (answer_of o).status
exact left right bytes o h =
    let shown = stands left right bytes o h in
    record { stands = inr shown; comes = λ t k. inl (one_standing left right bytes (answer_of o).status t shown k) }

-- what is answered to these bytes
outcome_of_bytes : (names : Names) (source : Use) (bytes : List ℕ) (a : Answer) → source.old ≡ Some bytes → length bytes ≤ limit
    → IsImpactFixedBy (Some names) source a → (o : Outcome) × IsImpactAnswer names.0 names.1 bytes o × (a ≡ answer_of o)
outcome_of_bytes names source bytes a old fits f =
    let same : f.bytes ≡ bytes = subst (λ o. IsAllOf o f.bytes) old f.left in
    let at = subst (λ b. IsAnswerBy (IsImpactAnswer names.0 names.1) b a) same f.answer in
    subst (λ b. MatchBool b (a ≡ too_long) ((o : Outcome) × IsImpactAnswer names.0 names.1 bytes o × (a ≡ answer_of o)))
    (le-ltb limit (length bytes) fits) at

pub succeeds : (words : List (List ℕ)) (source out err : Use) (s : Status) → Ends words source out err s → Succeeds words source out err s
succeeds words source out err s ends names bytes given old fits read out_quiet err_quiet = elim (complete words source out err s ends read out_quiet err_quiet) [
  | inl none ↦ record { stands = inl none; comes = λ t k. inr none }
  | inr fixed ↦
      let o = outcome_of_bytes names source bytes fixed.answer old fits (subst (λ n. IsImpactFixedBy n source fixed.answer) given fixed.fixed) in
      subst (IsImpactStatus names.0 names.1 bytes) (sym (ap (λ (x : Answer). x.status) o.2) ∙ sym fixed.status) (exact names.0 names.1 bytes o.0 o.1)
]
