-- What levels of two policies say of them.
use Rattle.std.proofs.Common.{◌≡◌, ℕ, ◌+◌, Bool, true, false, List, [], ◌∷◌, refl, sym, ap, subst, ◌∙◌, get_or}
use Rattle.std.specs.Prelude.{◌↔◌, slice_index_or}
use Rattle.nk_field.specs.declared.packet.Packet.{Packet}
use Rattle.nk_field.specs.Packet.{FieldTable}
use Rattle.nk_field.specs.Order.{Found, IsLeast}
use Rattle.nk_policy.specs.Policy.{Policy, marked_from, dups_of}
use Rattle.nk_policy.specs.Ranges.{IsInRange}
use Rattle.nk_policy.specs.Meaning.{Way, Gives}
use Rattle.nk_policy.proofs.Remade.{marked_ways, marked_again}
use Rattle.nk_store.specs.declared.node.Out.{Out}
use Rattle.nk_store.specs.StoreState.{StoreState, Grows, AreTidy}
use Rattle.nk_store.proofs.Stores.{grows_on}
use Rattle.nk_sets.specs.PacketSets.{is_in}
use Rattle.nk_sets.proofs.Kept.{has_on}
use Rattle.nk_determ.specs.Sets.{HasEachSetOnce}
use Rattle.nk_determ.specs.Pairs.{AreStates}
use Rattle.nk_determ.specs.Levels.{AreLevels}
use Rattle.nk_reach.specs.Sides.{alone, ends_of}
use Rattle.nk_determ.specs.Counterexamples.{IsCounterexampleWithTarget, IsCounterexample}
use Rattle.nk_goal.proofs.Growing.{states_grow}
use Rattle.nk_runs.proofs.Stands.{packet_back, are_states}
use Rattle.nk_witness.specs.Finds.{first_set, first_packets, found_of, target_of as witness_target}
use Rattle.nk_witness.specs.declared.found.Side.{Side}
use Rattle.nk_witness.specs.declared.found.Side.TheVariants.{Left, Right}
use Rattle.nk_witness.proofs.Settling.{levels_now}
use Rattle.nk_cert.specs.Equality.{on_left, on_right, AreSame, IsOfOneAlone, IsLeastDifference}
use Rattle.nk_cert.specs.Equality.{Side as SideOfBoth}
use Rattle.nk_cert.specs.Together.{either_of}
use Rattle.nk_cert.specs.Levelled.{IsAutomatonOfBoth, HasEach, AreLevelsOfBoth, AreSideLevels, target_of_side}
use Rattle.nk_cert.specs.Certificates.{CertificateValue, IsCertificate}
use Rattle.nk_cert.specs.FromLevels.{IsCertificateOf}
use Rattle.nk_cert.specs.Printed.{IsPrinted}
use Rattle.nk_cert.specs.Values.{certificate_value}
use Rattle.nk_cert.proofs.FromLevels.{is_printed}
use Rattle.nk_cert.proofs.Printing.{is_certificate}
use Rattle.nk_cert.proofs.Together.{sides_of}
use Rattle.nk_cert.proofs.Levels.{same_by_levels}
use Rattle.nk_cert.proofs.CertRows.{both_stand}
use Rattle.nk_cert.proofs.Sided.{levels_of_policies, goal_now}
use Rattle.nk_cert.proofs.Breaking.{least_difference}
use Rattle.nk_cert.specs.Comparison.{whose, IsRelated, IsComparison}
use Rattle.nk_cert.specs.declared.compared.Compared.{Compared}
use Rattle.nk_cert.specs.declared.compared.Compared.TheVariants.{Related, Broken}

-- both tell a side by one number
same_target : (side : Side) → witness_target side ≡ target_of_side (whose side)
same_target Left = refl
same_target Right = refl

-- what the goal finds bad in a store
abbrev pub violations_in : StoreState → List ℕ → List ℕ → List ℕ → List Out
violations_in st ends set pk = alone (ends_of st ends set pk)

module _ (first : StoreState) (states : List ℕ) (left right bound : ℕ) (new : StoreState) (ss : List (List ℕ)) (ends : List ℕ) (ls : List (List (ℕ × ℕ))) (broken : Bool) (states_are : AreStates first states)
    (lv : AreSideLevels first states left right bound new ss ends ls broken) where
  -- the levels begin with the start at all packets
  set_first : first_set ls ≡ lv.set
  set_first = ap (λ (v : List (ℕ × ℕ)). (get_or v 0 (0, 0)).0) lv.levels.start_is

  packets_first : first_packets ls ≡ lv.start
  packets_first = ap (λ (v : List (ℕ × ℕ)). (get_or v 0 (0, 0)).1) lv.levels.start_is

  start_alone : slice_index_or ss (first_set ls) [] ≡ 0 ∷ []
  start_alone = ap (λ s. slice_index_or ss s []) set_first ∙ lv.set_is

  each_first : HasEach new (first_packets ls)
  each_first pk r =
      subst (λ s. is_in new s pk ≡ true) (sym packets_first)
      (has_on lv.old new lv.start pk lv.grown lv.start_id (lv.start_is pk (packet_back lv.old new pk lv.grown r)))

  -- they are levels of the store as it is now
  pub levels_here : AreLevels new new ss states (first_set ls) (first_packets ls) (λ set pk. violations_in new ends set pk) ls broken
  levels_here =
      let begun = states_grow first lv.old states lv.begun states_are in
      let made : AreLevels new new ss states lv.set lv.start (λ set pk. violations_in new ends set pk) ls broken =
      levels_now lv.old new ss states lv.set lv.start lv.bad (λ set pk. violations_in new ends set pk) ls broken lv.grown begun lv.start_id (λ n places. lv.read n.0 n.1 places) lv.levels in
      subst (λ (v : ℕ). AreLevels new new ss states v (first_packets ls) (λ set pk. violations_in new ends set pk) ls broken) (sym set_first)
      (subst (λ (v : ℕ). AreLevels new new ss states lv.set v (λ set pk. violations_in new ends set pk) ls broken) (sym packets_first) made)

module _ (fields : FieldTable) (first : StoreState) (states : List ℕ) (left right bound : ℕ) (p q : Policy) (a : IsAutomatonOfBoth fields first states left right p q) (is : bound ≡ 1 + dups_of p)
    (new : StoreState) (ss : List (List ℕ)) (ends : List ℕ) (ls : List (List (ℕ × ℕ))) (broken : Bool) (lv : AreSideLevels first states left right bound new ss ends ls broken) where
  -- without an end of one side alone both do the same, and what is made of the levels is the printed certificate
  pub related_is :
      broken ≡ false → HasEachSetOnce ss → IsInRange p fields → IsInRange q fields → (final : StoreState) → Grows new final
      → (c : CertificateValue) → IsCertificateOf new final ss ls c → IsRelated fields p q c
  related_is e differ rp rq final grew c made =
      let levels = levels_of_policies fields first states left right bound p q a is new ss ends ls broken lv in
      let both = subst (λ b. AreLevelsOfBoth fields p q states left right first lv.old new ss lv.set lv.start lv.bad ls b) e levels in
      let same : AreSame fields p q = same_by_levels fields p q states left right first lv.old new ss lv.set lv.start lv.bad ls false both both.levels in
      let printed : IsPrinted fields p q c = is_printed fields p q states left right first lv.old new final ss lv.set lv.start lv.bad ls both differ lv.grown grew c made in
      let shows : IsCertificate fields p q c = is_certificate fields p q (sides_of p q a.numbered) rp rq same c printed in
      record {
        same = same;
        printed = subst (λ r. IsPrinted fields p r c) (sym a.numbered.right) printed;
        shows = subst (λ r. IsCertificate fields p r c) (sym a.numbered.right) shows;
      }

  -- and what is least of all that break the goal is the least difference
  pub difference_is : AreTidy new → (side : Side) (f : Found)
      → IsCounterexampleWithTarget new states (slice_index_or ss (first_set ls) []) (first_packets ls) (λ set pk. violations_in new ends set pk) (witness_target side) f
      → IsLeast (λ g. IsCounterexample new states (slice_index_or ss (first_set ls) []) (first_packets ls) (λ set pk. violations_in new ends set pk) g) f
      → IsLeastDifference fields p q (whose side) f
  difference_is tidy side f breaks least =
      let states_are = are_states first states (either_of p q) a.states_are in
      let alone_set = start_alone first states left right bound new ss ends ls broken states_are lv in
      let here = both_stand fields first new states left right p q a (grows_on first lv.old new lv.begun lv.grown) tidy in
      least_difference fields new states left right p q here (λ set pk. violations_in new ends set pk)
      (goal_now fields first states left right bound p q a is new ss ends ls broken lv) (first_packets ls)
      (each_first first states left right bound new ss ends ls broken states_are lv) (whose side) f
      (subst (λ t. IsCounterexampleWithTarget new states (0 ∷ []) (first_packets ls) (λ set pk. violations_in new ends set pk) t f) (same_target side)
      (subst (λ s. IsCounterexampleWithTarget new states s (first_packets ls) (λ set pk. violations_in new ends set pk) (witness_target side) f) alone_set breaks))
      (subst (λ s. IsLeast (λ g. IsCounterexample new states s (first_packets ls) (λ set pk. violations_in new ends set pk) g) f) alone_set least)

-- the levels, where the states are given as a slice
module _ (new : StoreState) (ss : List (List ℕ)) (ends : List ℕ) (ls : List (List (ℕ × ℕ))) (slice states : List ℕ) (same : slice ≡ states) where
  pub levels_at : (broken : Bool) → AreLevels new new ss states (first_set ls) (first_packets ls) (λ set pk. violations_in new ends set pk) ls broken
      → AreLevels new new ss slice (first_set ls) (first_packets ls) (λ set pk. violations_in new ends set pk) ls broken
  levels_at broken h =
      subst (λ r. AreLevels new new ss r (first_set ls) (first_packets ls) (λ set pk. violations_in new ends set pk) ls broken) (sym same) h

  pub break_at : (t : ℕ) (f : Found) → IsCounterexampleWithTarget new slice (slice_index_or ss (first_set ls) []) (first_packets ls) (λ set pk. violations_in new ends set pk) t f
      → IsCounterexampleWithTarget new states (slice_index_or ss (first_set ls) []) (first_packets ls) (λ set pk. violations_in new ends set pk) t f
  break_at t f h =
      subst (λ r. IsCounterexampleWithTarget new r (slice_index_or ss (first_set ls) []) (first_packets ls) (λ set pk. violations_in new ends set pk) t f) same h

  pub least_at : (f : Found) → IsLeast (λ g. IsCounterexample new slice (slice_index_or ss (first_set ls) []) (first_packets ls) (λ set pk. violations_in new ends set pk) g) f
      → IsLeast (λ g. IsCounterexample new states (slice_index_or ss (first_set ls) []) (first_packets ls) (λ set pk. violations_in new ends set pk) g) f
  least_at f h =
      subst (λ r. IsLeast (λ g. IsCounterexample new r (slice_index_or ss (first_set ls) []) (first_packets ls) (λ set pk. violations_in new ends set pk) g) f) same h

-- a policy that is numbered from a number on is the same numbered so once more
pub right_numbered : (q r : Policy) (n m : ℕ) → r ≡ marked_from q n → n ≡ m → marked_from r m ≡ r
right_numbered q r n m e same =
    ap (λ k. marked_from r k) (sym same) ∙ ap (λ z. marked_from z n) e ∙ marked_again q n n ∙ sym e

-- a policy that is numbered anew gives the same histories
module _ (fields : FieldTable) (p q : Policy) (n : ℕ) where
  renumbered : (pk : Packet) (w : List Packet) (y : Packet) → Gives (marked_from q n) pk w y ↔ Gives q pk w y
  renumbered pk w y = (
    λ r. subst (λ (R : Way Packet). R pk w y) (marked_ways (λ x. x) q n) r,
    λ r. subst (λ (R : Way Packet). R pk w y) (sym (marked_ways (λ x. x) q n)) r,
  )

  alone_of : (side : SideOfBoth) (f : Found) → IsOfOneAlone fields p (marked_from q n) side f ↔ IsOfOneAlone fields p q side f
  alone_of on_left f = (
    λ h. (h.0, h.1, λ g. h.2 ((renumbered f.start f.records f.last).1 g)),
    λ h. (h.0, h.1, λ g. h.2 ((renumbered f.start f.records f.last).0 g)),
  )
  alone_of on_right f = (
    λ h. (h.0, (renumbered f.start f.records f.last).0 h.1, h.2),
    λ h. (h.0, (renumbered f.start f.records f.last).1 h.1, h.2),
  )

  -- the certificate of the one is that of the other
  related_as_declared : (c : CertificateValue) → IsRelated fields p (marked_from q n) c → IsRelated fields p q c
  related_as_declared c h = record {
    same = λ pk ok w y.
        let e = h.same pk ok w y in
        let k = renumbered pk w y in
        (λ g. k.0 (e.0 g), λ g. e.1 (k.1 g));
    printed = subst (λ r. IsPrinted fields p r c) (marked_again q n (1 + dups_of p)) h.printed;
    shows = subst (λ r. IsCertificate fields p r c) (marked_again q n (1 + dups_of p)) h.shows;
  }

  -- so the comparison is that of the policies as they are declared
  pub as_declared : (r : Compared) → IsComparison fields p (marked_from q n) r → IsComparison fields p q r
  as_declared (Related c) h = related_as_declared (certificate_value c) h
  as_declared (Broken f) h = (
    (alone_of (whose f.side) (found_of f)).0 h.0,
    (
      (h.1.0.0, (alone_of h.1.0.0 (found_of f)).0 h.1.0.1),
      λ g one. h.1.1 g (one.0, (alone_of one.0 g).1 one.1),
    ),
  )
