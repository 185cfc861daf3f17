-- What the rows of a certificate are judged by, in the store as it is when they are.
use Rattle.std.proofs.Common.{◌≡◌, ℕ, ◌+◌, List, length, subst}
use Rattle.nk_field.specs.Packet.{FieldTable}
use Rattle.nk_policy.specs.Policy.{Policy, dups_of}
use Rattle.nk_store.specs.StoreState.{StoreState, IsStorePacket, Grows, AreTidy}
use Rattle.nk_store.proofs.Stores.{grows_on}
use Rattle.nk_apply.specs.Unions.{AreIds}
use Rattle.nk_determ.specs.Sets.{HasAscendingSets}
use Rattle.nk_determ.specs.Pairs.{AreLabelsBelow, ArePairs}
use Rattle.nk_reach.specs.Sides.{alone, ends_of, AreSideFinals, AreOneSided, IsPropertyOfEnds, property_grows}
use Rattle.nk_goal.proofs.Growing.{states_grow}
use Rattle.nk_runs.proofs.Stands.{are_states}
use Rattle.nk_cert.specs.declared.certificate.Verdict.{Verdict}
use Rattle.nk_cert.specs.Together.{either_of}
use Rattle.nk_cert.specs.Certificates.{CertificateValue}
use Rattle.nk_cert.specs.Verdicts.{IsFinding}
use Rattle.nk_cert.specs.Levelled.{IsAutomatonOfBoth, IsOneSided}
use Rattle.nk_cert.specs.Values.{finding_of}
use Rattle.nk_check.specs.Judged.{CanJudge, IsJudge, IsJudged}
use Rattle.nk_cert.proofs.CertRows.{both_stand, goal_is_one_sided}
use Rattle.nk_cert.proofs.Sided.{one_sided_on}
use Rattle.nk_check.proofs.Finding.{found}

module _ (fields : FieldTable) (first made now : StoreState) (states : List ℕ) (left right : ℕ) (p q : Policy) (a : IsAutomatonOfBoth fields first states left right p q) (bound : ℕ) (is : bound ≡ 1 + dups_of p) (ends : List ℕ) (g1 : Grows first made) (g2 : Grows made now) (ids : AreIds made ends) (marked : AreSideFinals first states left right bound (length states) made ends) where
  -- states and ends are at hand
  pub can_judge : (ss : List (List ℕ)) (pairs table : List (ℕ × ℕ)) → ArePairs now ss (length states) pairs → IsPropertyOfEnds made ends table → CanJudge now ss states pairs ends table
  can_judge ss pairs table t goal =
      let g = grows_on first made now g1 g2 in
      let r = are_states first states (either_of p q) a.states_are in
      record {
        states_are = states_grow first now states g r;
        told_are = t;
        goal = property_grows made now ends table goal g2;
        labels = marked.count;
      }

  -- what is judged of all rows is what is found of the certificate
  pub found_by : ((set pk : List ℕ) → AreLabelsBelow (length states) set → IsStorePacket first pk → AreOneSided first states left right bound set pk (alone (ends_of made ends set pk)))
      → AreTidy now → (ss : List (List ℕ)) → HasAscendingSets ss → (c : CertificateValue) (start : ℕ × ℕ) (entries told : List (ℕ × ℕ)) → IsJudge now ss (length states) c start entries told
      → (v : Verdict) → IsJudged now ss states (λ set pk. alone (ends_of now ends set pk)) told start c.rows entries v → IsFinding fields p q c (finding_of v)
  found_by sided tidy ss ascend c start entries told j v judged =
      let g = grows_on first made now g1 g2 in
      let bad = λ (set pk : List ℕ). alone (ends_of now ends set pk) in
      let goal = goal_is_one_sided first made now states left right bound ends ids marked.count g1 g2 sided in
      let here = one_sided_on first now states left right bound bad g a.left_start.id a.right_start.id (are_states first states (either_of p q) a.states_are).ids goal in
      let there = subst (λ b. IsOneSided now states left right b bad) is here in
      found fields now states left right p q (both_stand fields first now states left right p q a g tidy) bad there ss ascend c start entries told j.start_is j.later j.all v judged
