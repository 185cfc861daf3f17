-- Questions beside `drop`: where both give the same no history breaks the query, and what one alone gives breaks it.
use Rattle.std.proofs.Common.{◌≡◌, ◌&&◌, true, List, refl, subst}
use Rattle.std.specs.Prelude.{◌↔◌}
use Rattle.nk_field.specs.declared.packet.Packet.{Packet}
use Rattle.nk_field.specs.Packet.{FieldTable}
use Rattle.nk_field.specs.Order.{Found}
use Rattle.nk_policy.specs.Policy.{Policy, is_predicate}
use Rattle.nk_policy.specs.Meaning.{Gives}
use Rattle.nk_policy.specs.After.{drop_policy}
use Rattle.nk_policy.proofs.Tests.{both_true}
use Rattle.nk_names.proofs.Good.{over_in_range}
use Rattle.nk_cert.specs.Equality.{Side, on_left, on_right, AreSame, IsOfOneAlone, IsLeastDifference}
use Rattle.nk_cert.specs.Together.{AreNumbered}
use Rattle.nk_cert.specs.Certificates.{CertificateValue, IsCertificate}
use Rattle.nk_cert.specs.Verdicts.{Finding, IsFinding}
use Rattle.nk_check.proofs.Soundness.{shows_equality}
use Rattle.nk_cert.proofs.Together.{sides_of}
use Rattle.nk_cert.specs.Comparison.{IsRelated}
use Rattle.nk_query.specs.Asked.{Question, apart_of, waypoint_of, rest_are_predicates, question_policy, BreaksQuestion, NoneBreaks, IsBreaking, IsLeastBreak}
use Rattle.nk_query.specs.Answers.{asked_policy, IsFitFor, IsJudgedFor}
use Rattle.nk_query.proofs.Breaking.{numbered_gives, apart_breaks, waypoint_breaks}

-- a question, its dups numbered, has exactly the histories that break
pub question_breaks : (x : Question) → rest_are_predicates x ≡ true → (pk : Packet) (w : List Packet) (last : Packet)
    → Gives (asked_policy x) pk w last ↔ BreaksQuestion x pk w last
question_breaks (apart_of p from target) h pk w last =
    let b = both_true (is_predicate from) (is_predicate target) h in
    numbered_gives (question_policy (apart_of p from target)) 1 _ pk w last (apart_breaks p from target b.0 b.1 pk w last)
question_breaks (waypoint_of p from middle target) h pk w last =
    let b = both_true (is_predicate from && is_predicate middle) (is_predicate target) h in
    let c = both_true (is_predicate from) (is_predicate middle) b.0 in
    numbered_gives (question_policy (waypoint_of p from middle target)) 1 _ pk w last (waypoint_breaks p from middle target c.0 b.1 pk w last)

module _ (fields : FieldTable) (x : Question) (predicates : rest_are_predicates x ≡ true) where
  -- where it gives the same as `drop` none breaks
  pub none_breaks : AreSame fields (asked_policy x) drop_policy → NoneBreaks fields x
  none_breaks same pk w last ok b = (same pk ok w last).0 ((question_breaks x predicates pk w last).1 b)

  -- what one of both alone gives breaks
  alone_breaks : (side : Side) (f : Found) → IsOfOneAlone fields (asked_policy x) drop_policy side f → IsBreaking fields x f
  alone_breaks on_left f h = (h.0, (question_breaks x predicates f.start f.records f.last).0 h.1)
  alone_breaks on_right f h = absurd h.1

  -- what breaks the question alone gives
  breaks_alone : (f : Found) → IsBreaking fields x f → IsOfOneAlone fields (asked_policy x) drop_policy on_left f
  breaks_alone f h = (h.0, (question_breaks x predicates f.start f.records f.last).1 h.1, λ d. d)

  -- `drop` has none, so it is the question's
  left_alone : (side : Side) (f : Found) → IsOfOneAlone fields (asked_policy x) drop_policy side f → side ≡ on_left
  left_alone on_left f h = refl
  left_alone on_right f h = absurd h.1

  -- so the least difference is the least that breaks
  pub least_break : (side : Side) (f : Found) → IsLeastDifference fields (asked_policy x) drop_policy side f → IsLeastBreak fields x f
  least_break side f d = (alone_breaks side f d.0, λ g h. d.1.1 g (on_left, breaks_alone g h))

  -- whoever made it, a certificate for the question and `drop` shows that none breaks
  pub certificate_shows : IsFitFor fields (asked_policy x) → (c : CertificateValue) → IsCertificate fields (asked_policy x) drop_policy c → NoneBreaks fields x
  certificate_shows fit c is =
      let numbered : AreNumbered (asked_policy x) drop_policy = record { left = fit.numbered; right = refl } in
      none_breaks (shows_equality fields (asked_policy x) drop_policy (sides_of (asked_policy x) drop_policy numbered) (over_in_range fields (asked_policy x) fit.over) tt c is)

  module _ (q d : Policy) (question : q ≡ asked_policy x) (nothing : d ≡ drop_policy) where
    -- a policy that is the question, related to `drop`
    pub holds_by : (c : CertificateValue) → IsRelated fields q d c → NoneBreaks fields x × IsRelated fields (asked_policy x) drop_policy c
    holds_by c related =
        let here = subst (λ e. IsRelated fields (asked_policy x) e c) nothing (subst (λ p. IsRelated fields p d c) question related) in
        (none_breaks here.same, here)

    -- the least difference of the two
    pub breaks_by : (side : Side) (f : Found) → IsLeastDifference fields q d side f → IsLeastBreak fields x f × (side ≡ on_left)
    breaks_by side f least =
        let here = subst (λ e. IsLeastDifference fields (asked_policy x) e side f) nothing (subst (λ p. IsLeastDifference fields p d side f) question least) in
        (least_break side f here, left_alone side f here.0)

    -- what is found of a certificate for the two
    pub judged_by : IsFitFor fields q → (c : CertificateValue) (v : Finding) → IsFinding fields q d c v → IsJudgedFor fields x c v
    judged_by fit c v found =
        let here = subst (λ e. IsFinding fields (asked_policy x) e c v) nothing (subst (λ p. IsFinding fields p d c v) question found) in
        record {
          finds = here;
          shows = λ is. certificate_shows (subst (IsFitFor fields) question fit) c (subst (λ w. IsFinding fields (asked_policy x) drop_policy c w) is here);
        }
