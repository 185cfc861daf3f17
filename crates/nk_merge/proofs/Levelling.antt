-- The levels of two sets together, in the store as it is once they are made, and what they say in the store before.
use Rattle.std.proofs.Common.{◌≡◌, ℕ, Bool, true, false, List, [], length, get_or, sym, ap, subst, ◌∙◌}
use Rattle.std.specs.Prelude.{slice_index_or}
use Rattle.nk_field.specs.Order.{Found, IsLeast}
use Rattle.nk_store.specs.StoreState.{StoreState, IsId, IsStorePacket, Grows, AreTidy}
use Rattle.nk_sets.specs.PacketSets.{is_in}
use Rattle.nk_sets.proofs.Kept.{packet_back, has_on}
use Rattle.nk_determ.specs.Pairs.{AreLabelsBelow, AreStates}
use Rattle.nk_determ.specs.Counterexamples.{IsCounterexampleWithTarget, IsCounterexample}
use Rattle.nk_determ.specs.Levels.{AreLevels}
use Rattle.nk_reach.specs.Sides.{alone, ends_of, ends_same}
use Rattle.nk_witness.specs.Finds.{first_set, first_packets, target_of}
use Rattle.nk_witness.specs.declared.found.Side.{Side}
use Rattle.nk_witness.proofs.Settling.{levels_now}
use Rattle.nk_merge.specs.Alike.{labels_after, AreAlike}
use Rattle.nk_merge.specs.Distinguish.{IsLeastOfOne}
use Rattle.nk_merge.specs.Joined.{both_sets, AreLevelsOfTwo}
use Rattle.nk_merge.specs.DisjointCopies.{label_count, IsDisjointCopy}
use Rattle.nk_merge.specs.declared.disjoint_copy.DisjointCopy.{DisjointCopy}
use Rattle.nk_merge.proofs.Marks.{following_some}
use Rattle.nk_merge.proofs.Copies.{rows_are}
use Rattle.nk_merge.proofs.Ends.{whole_places}
use Rattle.nk_merge.proofs.Growing.{alike_on, alike_back, least_back}
use Rattle.nk_merge.proofs.Telling.{violations_in, tell_same, tell_distinguished, least_is}

-- the rows are states of an automaton
pub rows_stand : (st : StoreState) (states : List ℕ) (disjoint : DisjointCopy) (given : List ℕ) → given ≡ disjoint.rows → IsDisjointCopy st states disjoint → AreTidy st → AreStates st given
rows_stand st states disjoint given e k tidy = subst (λ r. AreStates st r) (sym e) (rows_are st states disjoint.rows k.rows k.states_are tidy)

-- both sets together are places among the rows
pub both_have_places : (st : StoreState) (states : List ℕ) (disjoint : DisjointCopy) (xs ys given set : List ℕ) → given ≡ disjoint.rows → IsDisjointCopy st states disjoint → AreTidy st
    → AreLabelsBelow (length states) (labels_after xs) → AreLabelsBelow (length states) (labels_after ys)
    → set ≡ both_sets (label_count states) (labels_after xs) (labels_after ys) → AreLabelsBelow (length given) set
both_have_places st states disjoint xs ys given set e k tidy sp tp is =
    subst (λ s. AreLabelsBelow (length given) s) (sym is)
    (subst (λ r. AreLabelsBelow (length r) (both_sets (label_count states) (labels_after xs) (labels_after ys))) (sym e)
    (whole_places st states disjoint.rows k.rows k.states_are tidy (labels_after xs) (labels_after ys) sp tp (following_some xs) (following_some ys)))

-- levels that begin with both sets at all packets are levels of both
pub two_levels : (old new : StoreState) (ss : List (List ℕ)) (states s t : List ℕ) (disjoint made : DisjointCopy) (given : List ℕ) (set start : ℕ) (ls : List (List (ℕ × ℕ))) (broken : Bool)
    → Grows old new → AreTidy old → AreTidy new → IsDisjointCopy old states disjoint → given ≡ disjoint.rows → made.rows ≡ disjoint.rows
    → ((st : StoreState) (set pk : List ℕ) → alone (ends_of st made.goal.ends set pk) ≡ alone (ends_of st disjoint.goal.ends set pk))
    → slice_index_or ss set [] ≡ both_sets (label_count states) s t
    → IsId old start → ((pk : List ℕ) → IsStorePacket old pk → is_in old start pk ≡ true)
    → AreLevels old new ss given set start (λ set pk. violations_in old disjoint set pk) ls broken
    → AreLevelsOfTwo new ss states s t made ls broken
two_levels old new ss states s t disjoint made given set start ls broken g tidy later k e rows same is id each levels = record {
  tidy = later;
  set_is = ap (λ z. slice_index_or ss z []) first ∙ is;
  start_is = λ pk r. subst (λ z. is_in new z pk ≡ true) (sym packets) (has_on old new start pk g id (each pk (packet_back old new pk g r)));
  levels =
      subst (λ (v : ℕ). AreLevels new new ss made.rows v (first_packets ls) (λ set pk. violations_in new made set pk) ls broken) (sym first)
      (subst (λ (v : ℕ). AreLevels new new ss made.rows set v (λ set pk. violations_in new made set pk) ls broken) (sym packets)
      (subst (λ (r : List ℕ). AreLevels new new ss r set start (λ set pk. violations_in new made set pk) ls broken) (e ∙ sym rows) now));
}
  where
    first : first_set ls ≡ set
    first = ap (λ (v : List (ℕ × ℕ)). (get_or v 0 (0, 0)).0) levels.start_is

    packets : first_packets ls ≡ start
    packets = ap (λ (v : List (ℕ × ℕ)). (get_or v 0 (0, 0)).1) levels.start_is

    now : AreLevels new new ss given set start (λ set pk. violations_in new made set pk) ls broken
    now =
        levels_now old new ss given set start (λ set pk. violations_in old disjoint set pk) (λ set pk. violations_in new made set pk) ls broken g (rows_stand old states disjoint given e k tidy) id
        (λ n places.
        let there : AreLabelsBelow (length disjoint.goal.ends) n.0 = subst (λ m. AreLabelsBelow m n.0) (ap length e ∙ sym k.labels) places in
        same new n.0 n.1 ∙ ap alone (ends_same old new disjoint.goal.ends n.0 n.1 g k.fits.ids there))
        levels

module _ (old new : StoreState) (ss : List (List ℕ)) (states xs ys : List ℕ) (disjoint made : DisjointCopy) (ls : List (List (ℕ × ℕ))) (broken : Bool)
    (g : Grows old new) (k : IsDisjointCopy old states disjoint) (l : IsDisjointCopy new states made)
    (sp : AreLabelsBelow (length states) (labels_after xs)) (tp : AreLabelsBelow (length states) (labels_after ys))
    (lv : AreLevelsOfTwo new ss states (labels_after xs) (labels_after ys) made ls broken) where
  -- what the levels say holds of the store before
  pub same_before : broken ≡ false → AreAlike old states (labels_after xs) (labels_after ys)
  same_before e =
      alike_back old new states g k.states_are (labels_after xs) (labels_after ys) sp tp
      (tell_same new ss states (labels_after xs) (labels_after ys) made ls broken l sp tp (following_some xs) (following_some ys) lv e)

  pub apart_before : broken ≡ true → AreAlike old states (labels_after xs) (labels_after ys) → ⊥
  apart_before e alike =
      tell_distinguished new ss states (labels_after xs) (labels_after ys) made ls broken l sp tp (following_some xs) (following_some ys) lv e
      (alike_on old new states g k.states_are (labels_after xs) (labels_after ys) sp tp alike)

  pub least_before : (given : List ℕ) → given ≡ made.rows → (side : Side) (f : Found)
      → IsCounterexampleWithTarget new given (slice_index_or ss (first_set ls) []) (first_packets ls) (λ set pk. violations_in new made set pk) (target_of side) f
      → IsLeast (IsCounterexample new given (slice_index_or ss (first_set ls) []) (first_packets ls) (λ set pk. violations_in new made set pk)) f
      → IsLeastOfOne old states (labels_after xs) (labels_after ys) side f
  least_before given e side f b least =
      least_back old new states g k.states_are (labels_after xs) (labels_after ys) sp tp side f
      (least_is new ss states (labels_after xs) (labels_after ys) made ls broken l sp tp (following_some xs) (following_some ys) lv side f
      (subst (λ r. IsCounterexampleWithTarget new r (both_sets (label_count states) (labels_after xs) (labels_after ys)) (first_packets ls) (λ set pk. violations_in new made set pk) (target_of side) f) e
      (subst (λ s. IsCounterexampleWithTarget new given s (first_packets ls) (λ set pk. violations_in new made set pk) (target_of side) f) lv.set_is b))
      (subst (λ r. IsLeast (IsCounterexample new r (both_sets (label_count states) (labels_after xs) (labels_after ys)) (first_packets ls) (λ set pk. violations_in new made set pk)) f) e
      (subst (λ s. IsLeast (IsCounterexample new given s (first_packets ls) (λ set pk. violations_in new made set pk)) f) lv.set_is least)))
