-- What sets of labels give, and states with each label twice, stay as the store grows.
use Rattle.std.proofs.Common.{◌≡◌, ℕ, ⊎_elim, inl, inr, List, [], ◌∷◌, length, get_or, sym, ap, subst, ◌∙◌}
use Rattle.std.specs.Prelude.{slice_index}
use Rattle.nk_field.specs.Order.{Found}
use Rattle.nk_store.specs.declared.node.Out.{Out}
use Rattle.nk_store.specs.StoreState.{StoreState, IsId, IsStorePacket, Grows}
use Rattle.nk_apply.specs.Unions.{AreIds}
use Rattle.nk_determ.specs.Pairs.{Node, AreLabelsBelow, AreStates, IsStep}
use Rattle.nk_determ.specs.Counterexamples.{Walks}
use Rattle.nk_reach.specs.Sides.{alone, ends_of, ends_same, property_grows, EndsAt, AreOneSided, IsPropertyOfEnds}
use Rattle.nk_witness.specs.declared.found.Side.{Side}
use Rattle.nk_witness.specs.declared.found.Side.TheVariants.{Left, Right}
use Rattle.nk_sets.proofs.Kept.{packet_on, packet_back}
use Rattle.nk_goal.proofs.Growing.{place_of, sends_on, sends_back, leads_on, leads_back, states_grow, step_on, step_back, step_places}
use Rattle.nk_merge.specs.Alike.{SetGives, AreAlike}
use Rattle.nk_merge.specs.Distinguish.{IsOfFirst, IsOfOne, IsLeastOfOne}
use Rattle.nk_merge.specs.DisjointCopies.{again, label_count, AreDisjointCopies, IsDisjointCopy}
use Rattle.nk_merge.specs.declared.disjoint_copy.DisjointCopy.{DisjointCopy}
use Rattle.nk_merge.proofs.Runs.{walk_places}
use Rattle.nk_merge.proofs.Copies.{twice_within}

module _ (a b : StoreState) (states : List ℕ) (g : Grows a b) (ok : AreStates a states) where
  -- a walk stays one
  walk_on : (w : List (List ℕ)) (m n : Node) → AreLabelsBelow (length states) m.0 → IsStorePacket a m.1 → Walks (IsStep a states) m w n
      → Walks (IsStep b states) m w n
  walk_on [] m n p r h = h
  walk_on (z ∷ w) m n p r h =
      (h.0, step_on a b states m (h.0, z) g ok p h.1, walk_on w (h.0, z) n (step_places a states m (h.0, z) ok p r h.1) h.1.packet h.2)

  -- and was one before
  walk_back : (w : List (List ℕ)) (m n : Node) → AreLabelsBelow (length states) m.0 → IsStorePacket a m.1 → Walks (IsStep b states) m w n
      → Walks (IsStep a states) m w n
  walk_back [] m n p r h = h
  walk_back (z ∷ w) m n p r h =
      let s = step_back a b states m (h.0, z) g ok p h.1 in
      (h.0, s, walk_back w (h.0, z) n (step_places a states m (h.0, z) ok p r s) s.packet h.2)

  -- so a set gives what it gave
  pub gives_on : (set x : List ℕ) (w : List (List ℕ)) (y : List ℕ) → AreLabelsBelow (length states) set → IsStorePacket a x
      → SetGives a states set x w y → SetGives b states set x w y
  gives_on set x w y p r h =
      (h.0, walk_on w (set, x) h.0 p r h.1, leads_on a b states h.0.0 h.0.1 y 0 g ok (walk_places a states ok w set x h.0 p r h.1).0 h.2)

  pub gives_back : (set x : List ℕ) (w : List (List ℕ)) (y : List ℕ) → AreLabelsBelow (length states) set → IsStorePacket a x
      → SetGives b states set x w y → SetGives a states set x w y
  gives_back set x w y p r h =
      let walk = walk_back w (set, x) h.0 p r h.1 in
      (h.0, walk, leads_back a b states h.0.0 h.0.1 y 0 g ok (walk_places a states ok w set x h.0 p r walk).0 h.2)

  -- two sets are alike exactly where they were
  module _ (s t : List ℕ) (sp : AreLabelsBelow (length states) s) (tp : AreLabelsBelow (length states) t) where
    pub alike_on : AreAlike a states s t → AreAlike b states s t
    alike_on h x r w y =
        let q = packet_back a b x g r in
        let e = h x q w y in (
          λ k. gives_on t x w y tp q (e.0 (gives_back s x w y sp q k)),
          λ k. gives_on s x w y sp q (e.1 (gives_back t x w y tp q k)),
        )

    pub alike_back : AreAlike b states s t → AreAlike a states s t
    alike_back h x r w y =
        let e = h x (packet_on a b x g r) w y in (
          λ k. gives_back t x w y tp r (e.0 (gives_on s x w y sp r k)),
          λ k. gives_back s x w y sp r (e.1 (gives_on t x w y tp r k)),
        )

    -- a history of the first set alone was one, and stays one
    pub first_back : (f : Found) → IsOfFirst b states s t f → IsOfFirst a states s t f
    first_back f h =
        let r = packet_back a b f.start g h.0 in
        (r, gives_back s f.start f.records f.last sp r h.1, λ k. h.2 (gives_on t f.start f.records f.last tp r k))

    pub first_on : (f : Found) → IsOfFirst a states s t f → IsOfFirst b states s t f
    first_on f h =
        (packet_on a b f.start g h.0, gives_on s f.start f.records f.last sp h.0 h.1, λ k. h.2 (gives_back t f.start f.records f.last tp h.0 k))

  -- and so is one of either set
  module _ (s t : List ℕ) (sp : AreLabelsBelow (length states) s) (tp : AreLabelsBelow (length states) t) where
    one_back : (side : Side) (f : Found) → IsOfOne b states s t side f → IsOfOne a states s t side f
    one_back Left f h = first_back s t sp tp f h
    one_back Right f h = first_back t s tp sp f h

    one_on : (side : Side) (f : Found) → IsOfOne a states s t side f → IsOfOne b states s t side f
    one_on Left f h = first_on s t sp tp f h
    one_on Right f h = first_on t s tp sp f h

    -- the least one was the least
    pub least_back : (side : Side) (f : Found) → IsLeastOfOne b states s t side f → IsLeastOfOne a states s t side f
    least_back side f h = (one_back side f h.0, ((side, one_back side f h.0), λ k e. h.1.1 k (e.0, one_on e.0 k e.1)))

module _ (a b : StoreState) (states : List ℕ) (d bound k : ℕ) (g : Grows a b) (id : IsId a d) (ids : AreIds a states) (set pk : List ℕ) (places : AreLabelsBelow (length states) set) (y : List ℕ) where
  -- a side ends where it did
  ends_on : EndsAt a states d bound k set pk y → EndsAt b states d bound k set pk y
  ends_on e =
      ⊎_elim
      (λ h. inl (h.0, sends_on a b d pk y 0 g id h.1))
      (λ h. inr (h.0, h.1, h.2, h.3, sends_on a b (get_or states h.0 0) pk y 0 g (ids h.0 (place_of (length states) set h.0 places h.1)) h.4))
      e

  ends_back : EndsAt b states d bound k set pk y → EndsAt a states d bound k set pk y
  ends_back e =
      ⊎_elim
      (λ h. inl (h.0, sends_back a b d pk y 0 g id h.1))
      (λ h. inr (h.0, h.1, h.2, h.3, sends_back a b (get_or states h.0 0) pk y 0 g (ids h.0 (place_of (length states) set h.0 places h.1)) h.4))
      e

-- ends of one side alone stay so
pub one_sided_on : (a b : StoreState) (states : List ℕ) (d bound : ℕ) (set pk : List ℕ) (outs : List Out) → Grows a b → IsId a d → AreIds a states
    → AreLabelsBelow (length states) set → AreOneSided a states d d bound set pk outs → AreOneSided b states d d bound set pk outs
one_sided_on a b states d bound set pk outs g id ids places h = record {
  left_alone = λ y. (
    λ m. let w = (h.left_alone y).0 m in (ends_on a b states d bound 1 g id ids set pk places y w.0, λ e. w.1 (ends_back a b states d bound 2 g id ids set pk places y e)),
    λ w. (h.left_alone y).1 (ends_back a b states d bound 1 g id ids set pk places y w.0, λ e. w.1 (ends_on a b states d bound 2 g id ids set pk places y e)),
  );
  right_alone = λ y. (
    λ m. let w = (h.right_alone y).0 m in (ends_on a b states d bound 2 g id ids set pk places y w.0, λ e. w.1 (ends_back a b states d bound 1 g id ids set pk places y e)),
    λ w. (h.right_alone y).1 (ends_back a b states d bound 2 g id ids set pk places y w.0, λ e. w.1 (ends_on a b states d bound 1 g id ids set pk places y e)),
  );
}

-- states with each label twice stay so
pub rows_on : (a b : StoreState) (states rows : List ℕ) → Grows a b → AreStates a states → AreDisjointCopies a states rows → AreDisjointCopies b states rows
rows_on a b states rows g ok k = record {
  some = k.some;
  count = k.count;
  ids = λ i lt. g.ids (get_or rows i 0) (k.ids i lt);
  once = k.once;
  disjoint = λ l pk y t some lt r.
      let e = k.disjoint l pk y t some lt (packet_back a b pk g r) in
      let mine = k.ids (again (label_count states) l) (twice_within a states rows k l some lt) in (
        λ s.
            let h = e.0 (sends_back a b (get_or rows (again (label_count states) l) 0) pk y t g mine s) in
            (h.0, sends_on a b (get_or states l 0) pk y h.0 g (ok.ids l lt) h.1, h.2),
        λ h. sends_on a b (get_or rows (again (label_count states) l) 0) pk y t g mine (e.1 (h.0, sends_back a b (get_or states l 0) pk y h.0 g (ok.ids l lt) h.1, h.2)),
      );
}

pub disjoint_on : (a b : StoreState) (states : List ℕ) (t : DisjointCopy) → Grows a b → IsDisjointCopy a states t → IsDisjointCopy b states t
disjoint_on a b states t g k = record {
  states_are = states_grow a b states g k.states_are;
  few = k.few;
  rows = rows_on a b states t.rows g k.states_are k.rows;
  fits = property_grows a b t.goal.ends t.goal.seen.entries k.fits g;
  labels = k.labels;
  sides = λ set pk places range.
      subst (λ outs. AreOneSided b t.rows (slice_index states 0) (slice_index states 0) (length states) set pk outs)
      (sym (ap alone (ends_same a b t.goal.ends set pk g k.fits.ids (subst (λ n. AreLabelsBelow n set) (sym k.labels) places))))
      (one_sided_on a b t.rows (slice_index states 0) (length states) set pk (alone (ends_of a t.goal.ends set pk)) g
      (k.states_are.ids 0 k.rows.some) k.rows.ids places (k.sides set pk places (packet_back a b pk g range)));
}

-- and with a goal that tells the same
pub twice_with : (b : StoreState) (states : List ℕ) (t new : DisjointCopy) → IsDisjointCopy b states t → new.rows ≡ t.rows
    → IsPropertyOfEnds b new.goal.ends new.goal.seen.entries → length new.goal.ends ≡ length t.goal.ends
    → ((st : StoreState) (set pk : List ℕ) → alone (ends_of st new.goal.ends set pk) ≡ alone (ends_of st t.goal.ends set pk))
    → IsDisjointCopy b states new
twice_with b states t new k rows fits labels same = record {
  states_are = k.states_are;
  few = k.few;
  rows = subst (λ r. AreDisjointCopies b states r) (sym rows) k.rows;
  fits = fits;
  labels = labels ∙ k.labels ∙ ap length (sym rows);
  sides = λ set pk places range.
      subst (λ r. AreOneSided b r (slice_index states 0) (slice_index states 0) (length states) set pk (alone (ends_of b new.goal.ends set pk))) (sym rows)
      (subst (λ outs. AreOneSided b t.rows (slice_index states 0) (slice_index states 0) (length states) set pk outs) (sym (same b set pk))
      (k.sides set pk (subst (λ r. AreLabelsBelow (length r) set) rows places) range));
}
