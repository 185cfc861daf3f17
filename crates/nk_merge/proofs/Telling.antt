-- What levels of two sets of labels together say of them.
use Rattle.std.proofs.Common.{◌≡◌, ℕ, zero, suc, ◌+◌, ◌-◌, ◌<◌, Bool, true, false, ⊎_elim, List, [], ◌∷◌, ◌++◌, length, refl, sym, ap, subst, arith}
use Rattle.std.specs.Prelude.{◌↔◌, Contains, slice_index}
use Rattle.nk_field.specs.Act.{applied}
use Rattle.nk_field.specs.Order.{Found, IsLeast}
use Rattle.nk_field.proofs.Lists.{numbers_decided, stable}
use Rattle.nk_store.specs.declared.node.Out.{Out}
use Rattle.nk_store.specs.StoreState.{StoreState, IsStorePacket}
use Rattle.nk_determ.specs.Pairs.{Node, AreLabelsBelow, IsStart, IsStep}
use Rattle.nk_determ.specs.Counterexamples.{Walks, MakesWithTarget, IsCounterexampleWithTarget, IsCounterexample}
use Rattle.nk_determ.specs.Levels.{At, InLevel, IsViolation}
use Rattle.nk_reach.specs.Sides.{alone, alone_sided, ends_of, EndsAt, AreOneSided}
use Rattle.nk_witness.specs.Finds.{first_packets, target_of}
use Rattle.nk_witness.specs.declared.found.Side.{Side}
use Rattle.nk_witness.specs.declared.found.Side.TheVariants.{Left, Right}
use Rattle.nk_witness.proofs.Walking.{reach_walk}
use Rattle.nk_merge.specs.Alike.{SetGives, AreAlike}
use Rattle.nk_merge.specs.Distinguish.{IsOfFirst, IsOfOne, IsLeastOfOne}
use Rattle.nk_merge.specs.Joined.{both_sets, AreLevelsOfTwo}
use Rattle.nk_merge.specs.DisjointCopies.{label_count, IsDisjointCopy}
use Rattle.nk_merge.specs.declared.disjoint_copy.DisjointCopy.{DisjointCopy}
use Rattle.nk_runs.proofs.Listings.{empty_from, first_of_some}
use Rattle.nk_merge.proofs.Marks.{ends_decided, none_in}
use Rattle.nk_merge.proofs.Runs.{walk_more, walk_places}
use Rattle.nk_merge.proofs.Copies.{rows_are}
use Rattle.nk_merge.proofs.Ends.{whole_places, first_walked, second_walked, left_ends, right_ends}

-- what is bad of a set at a packet
abbrev pub violations_in : StoreState → DisjointCopy → List ℕ → List ℕ → List Out
violations_in st disjoint set pk = alone (ends_of st disjoint.goal.ends set pk)

module _ (st : StoreState) (ss : List (List ℕ)) (states s t : List ℕ) (disjoint : DisjointCopy) (ls : List (List (ℕ × ℕ))) (broken : Bool) (tw : IsDisjointCopy st states disjoint)
    (sp : AreLabelsBelow (length states) s) (tp : AreLabelsBelow (length states) t)
    (sa : (l : ℕ) → Contains s l → 0 < l) (ta : (l : ℕ) → Contains t l → 0 < l)
    (lv : AreLevelsOfTwo st ss states s t disjoint ls broken) where
  -- both sets together, and the packets that start
  abbrev both : List ℕ
  both = both_sets (label_count states) s t

  abbrev start : ℕ
  start = slice_index states 0

  -- what is met is walked to
  at_walk : (i : ℕ) (n : Node) → At st disjoint.rows both (first_packets ls) i n
      → (x : List ℕ) × (w : List (List ℕ)) × IsStorePacket st x × Walks (IsStep st disjoint.rows) (both, x) w n
  at_walk zero n h = (n.1, [], h.packet, ap (λ (z : List ℕ). (z, n.1)) (sym h.set_is))
  at_walk (suc i) n h =
      let b = at_walk i h.0 h.1 in
      (b.0, b.1 ++ n.1 ∷ [], b.2, walk_more (IsStep st disjoint.rows) b.1 (both, b.0) h.0 n b.3 h.2)

  -- the packets that start are all packets
  starts : (x : List ℕ) → IsStorePacket st x → IsStart st both (first_packets ls) (both, x)
  starts x r = record { set_is = refl; packet = r; has = lv.start_is x r }

  -- what is walked to is met
  walk_at : (x : List ℕ) (w : List (List ℕ)) (n : Node) → IsStorePacket st x → Walks (IsStep st disjoint.rows) (both, x) w n
      → At st disjoint.rows both (first_packets ls) (length w) n
  walk_at x w n r h =
      reach_walk (IsStart st both (first_packets ls)) (IsStep st disjoint.rows) 0 (length w) (both, x) n w (starts x r) h (omega arith)

  module _ (x : List ℕ) (w : List (List ℕ)) (n : Node) (r : IsStorePacket st x) (walk : Walks (IsStep st disjoint.rows) (both, x) w n) where
    there : AreLabelsBelow (length disjoint.rows) n.0 × IsStorePacket st n.1
    there =
        walk_places st disjoint.rows (rows_are st states disjoint.rows tw.rows tw.states_are lv.tidy) w both x n
        (whole_places st states disjoint.rows tw.rows tw.states_are lv.tidy s t sp tp sa ta) r walk

    -- what is bad there is what one side alone ends with
    sided : AreOneSided st disjoint.rows start start (length states) n.0 n.1 (violations_in st disjoint n.0 n.1)
    sided = tw.sides n.0 n.1 there.0 there.1

    left : (y : List ℕ) → EndsAt st disjoint.rows start (length states) 1 n.0 n.1 y ↔ SetGives st states s x w y
    left y = left_ends st states disjoint.rows tw.rows tw.states_are lv.tidy s t sp tp sa ta x w n r walk start y

    right : (y : List ℕ) → EndsAt st disjoint.rows start (length states) 2 n.0 n.1 y ↔ SetGives st states t x w y
    right y = right_ends st states disjoint.rows tw.rows tw.states_are lv.tidy s t sp tp sa ta x w n r walk start y

    -- a final with target 0 makes what the first set gives alone, and one with target 1 what the second set does
    made_left : (y : List ℕ) → MakesWithTarget (violations_in st disjoint n.0 n.1) n.1 y 0 ↔ (SetGives st states s x w y × (SetGives st states t x w y → ⊥))
    made_left y = (
      λ m. let h = (sided.left_alone y).0 m in ((left y).0 h.0, λ g. h.1 ((right y).1 g)),
      λ h. (sided.left_alone y).1 ((left y).1 h.0, λ e. h.1 ((right y).0 e)),
    )

    made_right : (y : List ℕ) → MakesWithTarget (violations_in st disjoint n.0 n.1) n.1 y 1 ↔ (SetGives st states t x w y × (SetGives st states s x w y → ⊥))
    made_right y = (
      λ m. let h = (sided.right_alone y).0 m in ((right y).0 h.0, λ g. h.1 ((left y).1 g)),
      λ h. (sided.right_alone y).1 ((right y).1 h.0, λ e. h.1 ((left y).0 e)),
    )

    -- whether a set gives a history that is walked is decided
    first_stable : (y : List ℕ) → ((SetGives st states s x w y → ⊥) → ⊥) → SetGives st states s x w y
    first_stable y denied = (left y).0 (stable (ends_decided st disjoint.rows start (length states) 1 n.0 n.1 y) (λ other. denied (λ g. other ((left y).1 g))))

    second_stable : (y : List ℕ) → ((SetGives st states t x w y → ⊥) → ⊥) → SetGives st states t x w y
    second_stable y denied = (right y).0 (stable (ends_decided st disjoint.rows start (length states) 2 n.0 n.1 y) (λ other. denied (λ g. other ((right y).1 g))))

  -- levels that aren't broken have no violation at any level
  never_violation : broken ≡ false → (j : ℕ) (n : Node) → j < length ls → IsStorePacket st n.1 → InLevel st ss ls j n → IsViolation (violations_in st disjoint) n → ⊥
  never_violation e j n lt good level b =
      ⊎_elim
      (λ last.
      let is : j ≡ length ls - 1 = omega (arith, last) in
      lv.levels.not_broken e n good (subst (λ k. InLevel st ss ls k n) is level) b)
      (λ not. let before : j + 1 < length ls = omega (arith, lt, not) in lv.levels.goal j n before good level b)
      (numbers_decided (j + 1) (length ls))

  -- so there is none where a walk leads
  no_violation_at : broken ≡ false → (x : List ℕ) (w : List (List ℕ)) (n : Node) → IsStorePacket st x → Walks (IsStep st disjoint.rows) (both, x) w n
      → violations_in st disjoint n.0 n.1 ≡ []
  no_violation_at e x w n r walk =
      let at = subst (λ k. At st disjoint.rows k (first_packets ls) (length w) n) (sym lv.set_is) (walk_at x w n r walk) in
      let c = lv.levels.complete e (length w) n at in
      empty_from (violations_in st disjoint n.0 n.1) (never_violation e c.0 n c.2 (there x w n r walk).1 c.3)

  -- and both sets give the same
  pub tell_same : broken ≡ false → AreAlike st states s t
  tell_same e x r w y = (λ g. forth g, λ g. back g)
    where
      forth : SetGives st states s x w y → SetGives st states t x w y
      forth g =
          let walk = first_walked st states disjoint.rows tw.rows tw.states_are lv.tidy s t sp tp sa ta x w y r g in
          second_stable x w walk.0 r walk.1 y (λ other.
          let m = (made_left x w walk.0 r walk.1 y).1 (g, other) in
          none_in (violations_in st disjoint walk.0.0 walk.0.1) (record { act = m.0; target = 0 }) (no_violation_at e x w walk.0 r walk.1) m.1)

      back : SetGives st states t x w y → SetGives st states s x w y
      back g =
          let walk = second_walked st states disjoint.rows tw.rows tw.states_are lv.tidy s t sp tp sa ta x w y r g in
          first_stable x w walk.0 r walk.1 y (λ other.
          let m = (made_right x w walk.0 r walk.1 y).1 (g, other) in
          none_in (violations_in st disjoint walk.0.0 walk.0.1) (record { act = m.0; target = 1 }) (no_violation_at e x w walk.0 r walk.1) m.1)

  -- broken levels have met a history of one set alone
  pub tell_distinguished : broken ≡ true → AreAlike st states s t → ⊥
  tell_distinguished e alike =
      let b = lv.levels.broken_at e in
      let n = b.0 in
      let some = lv.levels.some in
      let lt : length ls - 1 < length ls = omega (arith, some) in
      let at = subst (λ k. At st disjoint.rows k (first_packets ls) (length ls - 1) n) lv.set_is (lv.levels.exact.sound (length ls - 1) n lt b.1 b.2) in
      let walk = at_walk (length ls - 1) n at in
      let o = first_of_some (violations_in st disjoint n.0 n.1) b.3 in
      let y = applied o.0.act n.1 in
      ⊎_elim
      (λ is.
      let m : MakesWithTarget (violations_in st disjoint n.0 n.1) n.1 y 0 = (o.0.act, subst (λ k. Contains (violations_in st disjoint n.0 n.1) (record { act = o.0.act; target = k })) is o.1, refl) in
      let h = (made_left walk.0 walk.1 n walk.2 walk.3 y).0 m in
      h.1 ((alike walk.0 walk.2 walk.1 y).0 h.0))
      (λ is.
      let m : MakesWithTarget (violations_in st disjoint n.0 n.1) n.1 y 1 = (o.0.act, subst (λ k. Contains (violations_in st disjoint n.0 n.1) (record { act = o.0.act; target = k })) is o.1, refl) in
      let h = (made_right walk.0 walk.1 n walk.2 walk.3 y).0 m in
      h.1 ((alike walk.0 walk.2 walk.1 y).1 h.0))
      (alone_sided (ends_of st disjoint.goal.ends n.0 n.1) o.0 o.1)

  -- histories that break the goal with target 0 are those of the first set alone
  left_is : (f : Found) → IsCounterexampleWithTarget st disjoint.rows both (first_packets ls) (violations_in st disjoint) 0 f ↔ IsOfFirst st states s t f
  left_is f = (
    λ b.
        let r = b.starts.packet in
        let h = (made_left f.start f.records b.end r b.walk f.last).0 b.makes in
        (r, h.0, h.1),
    λ h.
        let walk = first_walked st states disjoint.rows tw.rows tw.states_are lv.tidy s t sp tp sa ta f.start f.records f.last h.0 h.1 in
        record {
          starts = starts f.start h.0;
          end = walk.0;
          walk = walk.1;
          makes = (made_left f.start f.records walk.0 h.0 walk.1 f.last).1 (h.1, h.2);
        },
  )

  -- and those with target 1 are the second set's
  right_is : (f : Found) → IsCounterexampleWithTarget st disjoint.rows both (first_packets ls) (violations_in st disjoint) 1 f ↔ IsOfFirst st states t s f
  right_is f = (
    λ b.
        let r = b.starts.packet in
        let h = (made_right f.start f.records b.end r b.walk f.last).0 b.makes in
        (r, h.0, h.1),
    λ h.
        let walk = second_walked st states disjoint.rows tw.rows tw.states_are lv.tidy s t sp tp sa ta f.start f.records f.last h.0 h.1 in
        record {
          starts = starts f.start h.0;
          end = walk.0;
          walk = walk.1;
          makes = (made_right f.start f.records walk.0 h.0 walk.1 f.last).1 (h.1, h.2);
        },
  )

  -- by the side
  break_is : (side : Side) (f : Found) → IsCounterexampleWithTarget st disjoint.rows both (first_packets ls) (violations_in st disjoint) (target_of side) f ↔ IsOfOne st states s t side f
  break_is Left f = left_is f
  break_is Right f = right_is f

  -- so the least one that breaks the goal is the least one of one set alone
  pub least_is : (side : Side) (f : Found) → IsCounterexampleWithTarget st disjoint.rows both (first_packets ls) (violations_in st disjoint) (target_of side) f
      → IsLeast (IsCounterexample st disjoint.rows both (first_packets ls) (violations_in st disjoint)) f → IsLeastOfOne st states s t side f
  least_is side f b least =
      let one = (break_is side f).0 b in
      (one, ((side, one), λ g h. least.1 g (target_of h.0, (break_is h.0 g).1 h.1)))
