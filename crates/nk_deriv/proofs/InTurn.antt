-- States in turn: the loop over their parts, and the part of what comes next after them.
use Rattle.std.proofs.Common.{◌≡◌, ℕ, suc, ◌+◌, ◌<◌, ◌≤◌, true, ◌⊎◌, inl, inr, ⊎_elim, ◌↔◌, List, [], ◌∷◌, All, length, get_or, drop, drop-cons, add-one, refl, sym, ap, subst, ◌∙◌}
use Rattle.std.proofs.lemmas.List.{drop_all}
use Rattle.std.proofs.lemmas.List.Elements.{All-nil, All-head, All-tail}
use Rattle.nk_field.specs.declared.packet.Packet.{Packet}
use Rattle.nk_policy.specs.declared.policy.Pol.{Pol}
use Rattle.nk_policy.specs.Policy.{Policy}
use Rattle.nk_policy.specs.Tree.{tree_of}
use Rattle.nk_policy.specs.Meaning.{Gives}
use Rattle.nk_policy.specs.After.{id_policy}
use Rattle.nk_deriv.specs.declared.values.Part.{Part}
use Rattle.nk_deriv.specs.Part.{IsBuiltOf, IsLegOf, IsWithin, LegsGive}
use Rattle.nk_deriv.specs.Turns.{is_drop, IsTurn, ArePutAfter, AllEnd, AllRecord, AreInTurn, IsSequencedBefore}
use Rattle.nk_deriv.proofs.Silent.{none_ends}
use Rattle.nk_deriv.proofs.Steps.{drop_ends, made_id}

-- the free policy so far, and then the states that are left, come to all states
pub record IsTurning (old legs : List (Pol × ℕ)) (free : Policy) (left all : List Part) : Type 0 where
  pub ends : (pk x : Packet) → ((z : Packet) × Gives free pk [] z × AllEnd left z x) ↔ AllEnd all pk x
  pub records : (pk y : Packet) (l : ℕ)
      → (LegsGive legs pk y l ⊎ ((z : Packet) × Gives free pk [] z × AllRecord left z y l))
      ↔ (LegsGive old pk y l ⊎ AllRecord all pk y l)
  pub within : (s : Policy) → All (IsLegOf s) old → All (IsWithin s) all
      → IsBuiltOf s free × All (IsLegOf s) legs × All (IsWithin s) left

-- at first all states are left
pub turning_none : (old : List (Pol × ℕ)) (free : Policy) (all : List Part) → free ≡ id_policy
    → IsTurning old old free all all
turning_none old free all e =
    let here : IsTurning old old id_policy all all = record {
      ends = λ pk x. (
        λ g. subst (λ z. AllEnd all z x) ((none_ends pk g.0).0 g.1) g.2,
        λ g. (pk, (none_ends pk pk).1 refl, g),
      );
      records = λ pk y l. (
        λ g. ⊎_elim (λ a. inl a) (λ b. inr (subst (λ z. AllRecord all z y l) ((none_ends pk b.0).0 b.1) b.2)) g,
        λ g. ⊎_elim (λ a. inl a) (λ b. inr (pk, (none_ends pk pk).1 refl, b)) g,
      );
      within = λ s o w. (made_id s, o, w);
    } in
    subst (λ f. IsTurning old old f all all) (sym e) here

-- one more state
pub turning_more : (old legs legs' : List (Pol × ℕ)) (free free' : Policy) (state : Part) (left all : List Part)
    → ArePutAfter legs legs' free state.legs → IsTurn free' free (tree_of state.free)
    → IsTurning old legs free (state ∷ left) all → IsTurning old legs' free' left all
turning_more old legs legs' free free' state left all put turn inv = record {
  ends = λ pk x. (
    λ g.
        let t = (turn.ends pk g.0).0 g.1 in
        (inv.ends pk x).0 (t.0, t.1, (g.0, t.2, g.2)),
    λ g.
        let t = (inv.ends pk x).1 g in
        let u = t.2 in
        (u.0, (turn.ends pk u.0).1 (t.0, t.1, u.1), u.2),
  );
  records = λ pk y l. (
    λ g.
        (inv.records pk y l).0
        (⊎_elim
        (λ a.
        ⊎_elim
        (λ b. inl b)
        (λ b. inr (b.0, b.1, inl b.2))
        ((put.records pk y l).0 a))
        (λ a.
        let t = (turn.ends pk a.0).0 a.1 in
        inr (t.0, t.1, inr (a.0, t.2, a.2)))
        g),
    λ g.
        ⊎_elim
        (λ a. inl ((put.records pk y l).1 (inl a)))
        (λ a.
        ⊎_elim
        (λ b. inl ((put.records pk y l).1 (inr (a.0, a.1, b))))
        (λ b. inr (b.0, (turn.ends pk b.0).1 (a.0, a.1, b.1), b.2))
        a.2)
        ((inv.records pk y l).1 g),
  );
  within = λ s o w.
      let h = inv.within s o w in
      let here = All-head (IsWithin s) state left h.2 in
      (turn.within s h.0 here.free, put.within s h.1 h.0 here.legs, All-tail (IsWithin s) state left h.2);
}

-- what is left begins with the state at the place
pub state_is : (xs : List Part) (i : ℕ) (q : Part) → i < length xs → q ≡ get_or xs i q
    → drop i xs ≡ q ∷ drop (i + 1) xs
state_is xs i q lt is = rw add-one (drop-cons xs i q lt ∙ ap (λ x. x ∷ drop (suc i) xs) (sym is))

-- the loop's fact after one more state, which stands at the place in the list
pub turning_next : (old legs legs' : List (Pol × ℕ)) (free free' : Policy) (state : Part) (all : List Part) (i : ℕ)
    → i < length all → state ≡ get_or all i state
    → ArePutAfter legs legs' free state.legs → IsTurn free' free (tree_of state.free)
    → IsTurning old legs free (drop i all) all → IsTurning old legs' free' (drop (i + 1) all) all
turning_next old legs legs' free free' state all i lt is put turn inv =
    turning_more old legs legs' free free' state (drop (i + 1) all) all put turn
    (subst (λ left. IsTurning old legs free left all) (state_is all i state lt is) inv)

-- where no state is left
pub turning_done : (old legs : List (Pol × ℕ)) (free : Policy) (all : List Part) (i : ℕ) → length all ≤ i
    → IsTurning old legs free (drop i all) all → AreInTurn old legs free all
turning_done old legs free all i le h =
    let inv : IsTurning old legs free [] all = subst (λ left. IsTurning old legs free left all) (drop_all i all le) h in
    record {
      ends = λ pk x. (
        λ g. (inv.ends pk x).0 (x, g, refl),
        λ g.
            let t = (inv.ends pk x).1 g in
            subst (λ z. Gives free pk [] z) (sym t.2) t.1,
      );
      records = λ pk y l. (
        λ g. (inv.records pk y l).0 (inl g),
        λ g. ⊎_elim (λ a. a) (λ b. absurd b.2) ((inv.records pk y l).1 g),
      );
      within = λ s o w. let t = inv.within s o w in (t.0, t.1);
    }

-- where the free policy drops each packet
pub turning_drop : (old legs : List (Pol × ℕ)) (free : Policy) (left all : List Part) → is_drop free ≡ true
    → IsTurning old legs free left all → AreInTurn old legs free all
turning_drop old legs free left all h inv = record {
  ends = λ pk x. (
    λ g. absurd (drop_ends free h pk x g),
    λ g. let t = (inv.ends pk x).1 g in absurd (drop_ends free h pk t.0 t.1),
  );
  records = λ pk y l. (
    λ g. (inv.records pk y l).0 (inl g),
    λ g. ⊎_elim (λ a. a) (λ b. absurd (drop_ends free h pk b.0 b.1)) ((inv.records pk y l).1 g),
  );
  within = λ s o w. let t = inv.within s o w in (t.0, t.1);
}

-- states in turn, and then the next part
pub continued_is : (r next : Part) (states : List Part) (legs : List (Pol × ℕ)) (free : Policy)
    → AreInTurn [] legs free states → ArePutAfter legs r.legs free next.legs
    → IsTurn (tree_of r.free) free (tree_of next.free) → IsSequencedBefore r states next
continued_is r next states legs free turns put turn = record {
  ends = λ pk x. (
    λ g.
        let t = (turn.ends pk x).0 g in
        (t.0, (turns.ends pk t.0).0 t.1, t.2),
    λ g. (turn.ends pk x).1 (g.0, (turns.ends pk g.0).1 g.1, g.2),
  );
  records = λ pk y l. (
    λ g.
        ⊎_elim
        (λ a. ⊎_elim (λ b. absurd b) (λ b. inl b) ((turns.records pk y l).0 a))
        (λ a. inr (a.0, (turns.ends pk a.0).0 a.1, a.2))
        ((put.records pk y l).0 g),
    λ g.
        (put.records pk y l).1
        (⊎_elim
        (λ a. inl ((turns.records pk y l).1 (inr a)))
        (λ a. inr (a.0, (turns.ends pk a.0).1 a.1, a.2))
        g),
  );
  within = λ s w n.
      let t = turns.within s (All-nil (IsLegOf s)) w in
      record { free = turn.within s t.0 n.free; legs = put.within s t.1 t.0 n.legs };
}
