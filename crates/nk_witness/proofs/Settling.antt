-- Levels from a store of the beginning are levels from the store that it has grown to.
use Rattle.std.proofs.Common.{◌≡◌, ℕ, suc, zero, ◌<◌, ◌-◌, Bool, sym, ◌∙◌, ap, subst, arith, List, [], length, get_or}
use Rattle.nk_store.specs.declared.node.Out.{Out}
use Rattle.nk_store.specs.StoreState.{StoreState, IsId, IsStorePacket, Grows}
use Rattle.nk_determ.specs.Reach.{Reach}
use Rattle.nk_determ.specs.Pairs.{Node, AreStates, AreLabelsBelow, ArePairs, IsStart, IsStep}
use Rattle.nk_determ.specs.Levels.{At, IsViolation, InLevel, AreLevels}
use Rattle.nk_witness.proofs.Stable.{levels_on}
use Rattle.nk_sets.proofs.Kept.{packet_on, packet_back, has_on, has_back}
use Rattle.nk_goal.proofs.Growing.{step_on, step_back, step_places, within_places}
use Rattle.nk_witness.specs.Finds.{first_set, first_packets}
use Rattle.nk_witness.specs.Laws.{LevelsStay}

-- what is reached in a store is reached in one that has grown from it
reach_later : (old st : StoreState) (states set : List ℕ) (start i : ℕ) (n : Node) → Grows old st → AreStates old states → IsId old start → AreLabelsBelow (length states) set → Reach (IsStart old set start) (IsStep old states) i n →
    Reach (IsStart st set start) (IsStep st states) i n × AreLabelsBelow (length states) n.0 × IsStorePacket old n.1
reach_later old st states set start zero n g k d p r =
    (record { set_is = r.set_is; packet = packet_on old st n.1 g r.packet; has = has_on old st start n.1 g d r.has }, subst (AreLabelsBelow (length states)) (sym r.set_is) p, r.packet)
reach_later old st states set start (suc i) n g k d p r =
    let m : Node = r.0 in
    let w = reach_later old st states set start i m g k d p r.1 in
    ((m, w.0, step_on old st states m n g k w.1 r.2), step_places old states m n k w.1 w.2 r.2, r.2.packet)

-- what is reached in a store that has grown was reached before
reach_earlier : (old st : StoreState) (states set : List ℕ) (start i : ℕ) (n : Node) → Grows old st → AreStates old states → IsId old start → AreLabelsBelow (length states) set → Reach (IsStart st set start) (IsStep st states) i n →
    Reach (IsStart old set start) (IsStep old states) i n × AreLabelsBelow (length states) n.0 × IsStorePacket old n.1
reach_earlier old st states set start zero n g k d p r =
    let q : IsStorePacket old n.1 = packet_back old st n.1 g r.packet in
    (record { set_is = r.set_is; packet = q; has = has_back old st start n.1 g d r.has }, subst (AreLabelsBelow (length states)) (sym r.set_is) p, q)
reach_earlier old st states set start (suc i) n g k d p r =
    let m : Node = r.0 in
    let w = reach_earlier old st states set start i m g k d p r.1 in
    let s : IsStep old states m n = step_back old st states m n g k w.1 r.2 in
    ((m, w.0, s), step_places old states m n k w.1 w.2 s, s.packet)

-- the levels, with everything said in the later store
pub levels_now : (old st : StoreState) (ss : List (List ℕ)) (states : List ℕ) (set start : ℕ) (bad now : List ℕ → List ℕ → List Out) (ls : List (List (ℕ × ℕ))) (broken : Bool) → Grows old st → AreStates old states → IsId old start →
    ((n : Node) → AreLabelsBelow (length states) n.0 → now n.0 n.1 ≡ bad n.0 n.1) → AreLevels old st ss states set start bad ls broken → AreLevels st st ss states set start now ls broken
levels_now old st ss states set start bad now ls broken g states_ok d same k = record {
  exact = record {
    sound = λ i n l w v. (later i n (k.exact.sound i n l (packet_back old st n.1 g w) v)).0;
    first = λ i j n l w v m r. k.exact.first i j n l (packet_back old st n.1 g w) v m (earlier j n r).0;
    full = λ i n l r none. k.exact.full i n l (earlier i n r).0 (λ j m q. none j m (later j n q).0);
  };
  some = k.some;
  start_is = k.start_is;
  pairs = k.pairs;
  shape = k.shape;
  goal = λ i n l w v b. k.goal i n l (packet_back old st n.1 g w) v (was i n (omega (arith, l)) v b);
  broken_at = λ e. let w = k.broken_at e in (w.0, packet_on old st w.0.1 g w.1, w.2, λ z. w.3 (sym (at (length ls - 1) w.0 last w.2) ∙ z));
  not_broken = λ e n w v b. k.not_broken e n (packet_back old st n.1 g w) v (was (length ls - 1) n last v b);
  complete = λ e i n a. k.complete e i n (earlier i n a).0;
}
  where
    last : length ls - 1 < length ls
    last = let s = k.some in omega (arith, s)

    first_places : AreLabelsBelow (length states) (get_or ss set [])
    first_places = (subst (ArePairs st ss (length states)) k.start_is (k.pairs 0 k.some)).each.0.places

    later : (i : ℕ) (n : Node) → At old states (get_or ss set []) start i n → At st states (get_or ss set []) start i n × AreLabelsBelow (length states) n.0 × IsStorePacket old n.1
    later i n r = reach_later old st states (get_or ss set []) start i n g states_ok d first_places r

    earlier : (i : ℕ) (n : Node) → At st states (get_or ss set []) start i n → At old states (get_or ss set []) start i n × AreLabelsBelow (length states) n.0 × IsStorePacket old n.1
    earlier i n r = reach_earlier old st states (get_or ss set []) start i n g states_ok d first_places r

    at : (i : ℕ) (n : Node) → i < length ls → InLevel st ss ls i n → now n.0 n.1 ≡ bad n.0 n.1
    at i n l v = same n (within_places st ss (length states) (get_or ls i []) n (k.pairs i l) v)

    was : (i : ℕ) (n : Node) → i < length ls → InLevel st ss ls i n → IsViolation now n → IsViolation bad n
    was i n l v b = λ z. b (at i n l v ∙ z)

-- levels that were made earlier are levels as the store and the sets have grown since
pub settled : LevelsStay
settled old mid st ss nss states set start bad now ls broken k g g2 s states_ok d same =
    let a : first_set ls ≡ set = ap (λ (v : List (ℕ × ℕ)). (get_or v 0 (0, 0)).0) k.start_is in
    let b : first_packets ls ≡ start = ap (λ (v : List (ℕ × ℕ)). (get_or v 0 (0, 0)).1) k.start_is in
    let made : AreLevels st st nss states set start now ls broken = levels_now old st nss states set start bad now ls broken g states_ok d same (levels_on old mid st ss nss states set start bad ls broken g2 s k) in
    (a, b, subst (λ (v : ℕ). AreLevels st st nss states v (first_packets ls) now ls broken) (sym a) (subst (λ (v : ℕ). AreLevels st st nss states set v now ls broken) (sym b) made))
