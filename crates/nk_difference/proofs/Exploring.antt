-- The packets that start a history of one side alone, by the levels of all that is met.
use Rattle.std.proofs.Common.{◌≡◌, ℕ, true, false, List, [], ◌∷◌, length, refl, sym, ◌∙◌, ap, subst, get_or}
use Rattle.nk_store.specs.declared.node.Out.{Out}
use Rattle.nk_store.specs.StoreState.{StoreState, IsId, IsStorePacket, Grows, AreTidy}
use Rattle.nk_store.proofs.Stores.{grows_on}
use Rattle.nk_apply.specs.Unions.{AreIds}
use Rattle.nk_determ.specs.Pairs.{AreStates, AreLabelsBelow}
use Rattle.nk_determ.specs.Levels.{AreLevels}
use Rattle.nk_sets.proofs.Kept.{packet_back, has_on}
use Rattle.nk_reach.specs.Sides.{alone, ends_of, AreOneSided}
use Rattle.nk_witness.specs.Finds.{first_set, first_packets}
use Rattle.nk_witness.proofs.Settling.{levels_now}
use Rattle.nk_cert.specs.Levelled.{HasEach}
use Rattle.nk_cert.proofs.CertRows.{goal_is_one_sided}
use Rattle.nk_backward.specs.CounterexampleStarts.{AreCounterexampleStarts}
use Rattle.nk_difference.specs.Sides.{AreStartsOfSides}

-- no violation
abbrev pub nothing : List ℕ → List ℕ → List Out
nothing s pk = []

-- the levels of all that is met, said in the store as it is after them, from the set and the packets of the first one
pub levels_here : (old st : StoreState) (ss : List (List ℕ)) (states : List ℕ) (set start : ℕ) (ls : List (List (ℕ × ℕ))) → Grows old st → AreStates old states → IsId old start → AreLevels old st ss states set start nothing ls false →
    AreLevels st st ss states (first_set ls) (first_packets ls) nothing ls false
levels_here old st ss states set start ls g states_ok id k =
    let made : AreLevels st st ss states set start nothing ls false = levels_now old st ss states set start nothing nothing ls false g states_ok id (λ n p. refl) k in
    let set_is : set ≡ first_set ls = sym (ap (λ (v : List (ℕ × ℕ)). (get_or v 0 (0, 0)).0) k.start_is) in
    let start_is : start ≡ first_packets ls = sym (ap (λ (v : List (ℕ × ℕ)). (get_or v 0 (0, 0)).1) k.start_is) in
    subst (λ (x : ℕ). AreLevels st st ss states (first_set ls) x nothing ls false) start_is (subst (λ (s : ℕ). AreLevels st st ss states s start nothing ls false) set_is made)

-- from all packets
pub starts_of_sides_are : (first made mid old new : StoreState) (states : List ℕ) (left right bound set start : ℕ) (ss : List (List ℕ)) (ends : List ℕ) (ls : List (List (ℕ × ℕ))) (of_left of_right : ℕ) → Grows first made → Grows made mid → Grows mid old → Grows old new → AreTidy old →
    get_or ss set [] ≡ 0 ∷ [] → IsId mid start → HasEach mid start → AreLevels mid old ss states set start nothing ls false → AreIds made ends → length ends ≡ length states →
    ((s pk : List ℕ) → AreLabelsBelow (length states) s → IsStorePacket first pk → AreOneSided first states left right bound s pk (alone (ends_of made ends s pk))) →
    AreCounterexampleStarts old states (get_or ss (first_set ls) []) (first_packets ls) (λ s pk. alone (ends_of old ends s pk)) 0 new of_left →
    AreCounterexampleStarts old states (get_or ss (first_set ls) []) (first_packets ls) (λ s pk. alone (ends_of old ends s pk)) 1 new of_right → AreStartsOfSides first states left right bound new of_left of_right
starts_of_sides_are first made mid old new states left right bound set start ss ends ls of_left of_right g1 g2 g3 g4 tidy alone_set id each k ids count sided on_left on_right = record {
  old = old;
  begun = grows_on first made old g1 (grows_on made mid old g2 g3);
  grown = g4;
  tidy = tidy;
  start = start;
  start_is = λ pk r. has_on mid old start pk g3 id (each pk (packet_back mid old pk g3 r));
  bad = λ s pk. alone (ends_of old ends s pk);
  sided = goal_is_one_sided first made old states left right bound ends ids count g1 (grows_on made mid old g2 g3) sided;
  left_starts = from_all 0 of_left on_left;
  right_starts = from_all 1 of_right on_right;
}
  where
    set_is : first_set ls ≡ set
    set_is = ap (λ (v : List (ℕ × ℕ)). (get_or v 0 (0, 0)).0) k.start_is

    start_is : first_packets ls ≡ start
    start_is = ap (λ (v : List (ℕ × ℕ)). (get_or v 0 (0, 0)).1) k.start_is

    from_all : (t r : ℕ) → AreCounterexampleStarts old states (get_or ss (first_set ls) []) (first_packets ls) (λ s pk. alone (ends_of old ends s pk)) t new r → AreCounterexampleStarts old states (0 ∷ []) start (λ s pk. alone (ends_of old ends s pk)) t new r
    from_all t r h =
        subst (λ (x : ℕ). AreCounterexampleStarts old states (0 ∷ []) x (λ s pk. alone (ends_of old ends s pk)) t new r) start_is
        (subst (λ (s : List ℕ). AreCounterexampleStarts old states s (first_packets ls) (λ s pk. alone (ends_of old ends s pk)) t new r) (ap (λ i. get_or ss i []) set_is ∙ alone_set) h)
