-- What the ends of one side alone mean.
use Rattle.std.proofs.Common.{◌≡◌, ℕ, zero, suc, ◌<◌, ◌⊎◌, Bool, true, false, cond, eqb, inl, inr, refl, sym, ◌∙◌, ap, subst, arith, List, [], ◌∷◌, length, get_or, Contains, Some}
use Rattle.std.specs.Prelude.{◌||◌, nat_lt}
use Rattle.std.specs.List.{list_any}
use Rattle.std.proofs.lemmas.Bool.Decides.{eqb_tells}
use Rattle.nk_field.specs.Act.{applied}
use Rattle.nk_store.specs.declared.node.Out.{Out}
use Rattle.nk_store.specs.contracts.node.OutPartialEq.TheImpl.{ghosts}
use Rattle.nk_store.specs.Leaves.{Suits, IsActFrom}
use Rattle.nk_store.specs.StoreState.{StoreState, IsStorePacket, look, AreTidy}
use Rattle.nk_store.proofs.NodeEq.{out_decides}
use Rattle.nk_apply.specs.Leaves.{merged}
use Rattle.nk_apply.proofs.Members.{Has, has_contains, contains_has, every_has, merged_left, merged_right, merged_has, gathered_has, has_gathered}
use Rattle.nk_determ.specs.Exact.{exact, exact_out, split_leaf, IsExact, Sends}
use Rattle.nk_determ.specs.Targets.{out_by_table, retargeted}
use Rattle.nk_determ.proofs.Exacts.{exact_acts}
use Rattle.nk_determ.proofs.Laws.{exact_applied, exact_changes, exact_one}
use Rattle.nk_determ.specs.Pairs.{AreLabelsBelow}
use Rattle.nk_reach.specs.Sides.{twin, alone_out, alone, ends_of, finals_of_side, label_side, AreSideFinals, EndsAt, AreOneSided}
use Rattle.nk_goal.proofs.Growing.{place_of}
use Rattle.nk_reach.proofs.SideLabels.{mark_by}

-- the out with this act and target
abbrev pub to : List (ℕ × ℕ) → ℕ → Out
to g t = record { act = g; target = t }

-- the one item of a list
pub only : {X : Type 0} {x y : X} → Has (x ∷ []) y → x ≡ y
only (inl e) = e
only (inr k) = absurd k

-- a marked out is a final, made exact
pub marked_has : (mark : ℕ) (os : List Out) (o : Out) → Has (retargeted (Some mark ∷ []) os) o → (o.target ≡ mark) × Has os (to o.act 0)
marked_has mark os o h =
    let w = has_gathered (out_by_table (Some mark ∷ [])) os o h in
    by w.0 w.1 w.2
  where
    by : (p : Out) → Has os p → Has (out_by_table (Some mark ∷ []) p) o → (o.target ≡ mark) × Has os (to o.act 0)
    by p m k = at p.target refl
      where
        at : (t : ℕ) → p.target ≡ t → (o.target ≡ mark) × Has os (to o.act 0)
        at zero e =
            let q : Has (to p.act mark ∷ []) o = subst (λ (t : ℕ). Has (out_by_table (Some mark ∷ []) (to p.act t)) o) e k in
            let is : to p.act mark ≡ o = only q in
            (ap (λ (x : Out). x.target) (sym is), subst (λ (x : Out). Has os x) (ap (λ t. to p.act t) e ∙ ap (λ (x : Out). to x.act 0) is) m)
        at (suc t) e = let q : ⊥ = subst (λ (t : ℕ). Has (out_by_table (Some mark ∷ []) (to p.act t)) o) e k in absurd q

-- a final, made exact, is marked
pub has_marked : (mark : ℕ) (os : List Out) (g : List (ℕ × ℕ)) → Has os (to g 0) → Has (retargeted (Some mark ∷ []) os) (to g mark)
has_marked mark os g h = gathered_has (out_by_table (Some mark ∷ [])) os (to g 0) (to g mark) h (inl refl)

-- what is known of a marked end
record IsExactEnd (st : StoreState) (d : ℕ) (pk : List ℕ) (g : List (ℕ × ℕ)) : Type 0 where
  act : IsActFrom st.maxes 0 g
  exact_act : IsExact pk g
  sends : Sends st d pk (applied g pk) 0

-- a marked end is one
end_of : (st : StoreState) (d mark : ℕ) (pk : List ℕ) (o : Out) → AreTidy st → IsStorePacket st pk → Has (finals_of_side st d mark pk) o → (o.target ≡ mark) × IsExactEnd st d pk o.act
end_of st d mark pk o tidy p h =
    let m = marked_has mark (split_leaf st.maxes pk (look st d pk)) o h in
    let w = has_gathered (λ x. exact_out st.maxes pk x ∷ []) (look st d pk) (to o.act 0) m.1 in
    let q : Out = w.0 in
    let is : exact_out st.maxes pk q ≡ to o.act 0 = only w.2 in
    let act : exact st.maxes pk q.act ≡ o.act = ap (λ (x : Out). x.act) is in
    let zero_is : q.target ≡ 0 = ap (λ (x : Out). x.target) is in
    let suits : IsActFrom st.maxes 0 q.act = every_has (Suits st.maxes) (look st d pk) q ((tidy d).suits pk) w.1 in (
      m.0,
      record {
        act = subst (IsActFrom st.maxes 0) act (exact_acts st.maxes pk 0 q.act suits);
        exact_act = subst (IsExact pk) act (exact_changes st.maxes pk q.act p);
        sends = (
          q.act,
          has_contains (look st d pk) (to q.act 0) (subst (λ (x : Out). Has (look st d pk) x) (ap (λ t. to q.act t) zero_is) w.1),
          ap (λ a. applied a pk) (sym act) ∙ exact_applied st.maxes pk pk 0 q.act p p.0 suits (λ j l. refl),
        );
      },
    )

-- what a diagram ends with is marked
end_in : (st : StoreState) (d mark : ℕ) (pk y : List ℕ) → AreTidy st → IsStorePacket st pk → Sends st d pk y 0 → (g : List (ℕ × ℕ)) × Has (finals_of_side st d mark pk) (to g mark) × (y ≡ applied g pk)
end_in st d mark pk y tidy p s =
    let o : Out = to s.0 0 in
    let h : Has (look st d pk) o = contains_has (look st d pk) o s.1 in
    let made : Has (split_leaf st.maxes pk (look st d pk)) (to (exact st.maxes pk s.0) 0) = gathered_has (λ x. exact_out st.maxes pk x ∷ []) (look st d pk) o (exact_out st.maxes pk o) h (inl refl) in (
      exact st.maxes pk s.0,
      has_marked mark (split_leaf st.maxes pk (look st d pk)) (exact st.maxes pk s.0) made,
      s.2 ∙ sym (exact_applied st.maxes pk pk 0 s.0 p p.0 (every_has (Suits st.maxes) (look st d pk) o ((tidy d).suits pk) h) (λ j l. refl)),
    )

-- an end of a set is one of a member
has_ends : (st : StoreState) (ends set pk : List ℕ) (o : Out) → Has (ends_of st ends set pk) o → (l : ℕ) × Has set l × Has (look st (get_or ends l 0) pk) o
has_ends st ends [] pk o h = absurd h
has_ends st ends (l ∷ ls) pk o h = elim (merged_has o (look st (get_or ends l 0) pk) (ends_of st ends ls pk) h) [
  | inl here ↦ (l, inl refl, here)
  | inr later ↦ let w = has_ends st ends ls pk o later in (w.0, inr w.1, w.2)
]

-- an end of a member is one of the set
ends_has : (st : StoreState) (ends set pk : List ℕ) (o : Out) (l : ℕ) → Has set l → Has (look st (get_or ends l 0) pk) o → Has (ends_of st ends set pk) o
ends_has st ends [] pk o l m h = absurd m
ends_has st ends (k ∷ ks) pk o l m h = elim m [
  | inl e ↦ merged_left o (look st (get_or ends k 0) pk) (ends_of st ends ks pk) (subst (λ j. Has (look st (get_or ends j 0) pk) o) (sym e) h)
  | inr later ↦ merged_right o (look st (get_or ends k 0) pk) (ends_of st ends ks pk) (ends_has st ends ks pk o l later h)
]

-- a member is found
has_any : (os : List Out) (o : Out) → Has os o → list_any (λ p. ghosts.eq p o) os ≡ true
has_any [] o h = absurd h
has_any (x ∷ xs) o h = elim h [
  | inl e ↦ ap (λ b. b || list_any (λ p. ghosts.eq p o) xs) ((out_decides x o).1 e)
  | inr later ↦ by (ghosts.eq x o) (has_any xs o later)
]
  where
    by : (b : Bool) → list_any (λ p. ghosts.eq p o) xs ≡ true → (b || list_any (λ p. ghosts.eq p o) xs) ≡ true
    by true e = refl
    by false e = e

-- what is found is a member
any_has : (os : List Out) (o : Out) → list_any (λ p. ghosts.eq p o) os ≡ true → Has os o
any_has [] o e = absurd cc
any_has (x ∷ xs) o e = by (ghosts.eq x o) refl (any_has xs o) e
  where
    by : (b : Bool) → ghosts.eq x o ≡ b → (list_any (λ p. ghosts.eq p o) xs ≡ true → Has xs o) → (b || list_any (λ p. ghosts.eq p o) xs) ≡ true → Has (x ∷ xs) o
    by true is rest e = inl ((out_decides x o).0 is)
    by false is rest e = inr (rest e)

-- the side that a mark tells
abbrev side_of : ℕ → ℕ
side_of t = cond (eqb t 1) 0 1

-- an end that one side alone has is an end, and the other side has it not
has_alone : (os : List Out) (o : Out) → Has (alone os) o → (p : Out) × Has os p × (Has os (twin p) → ⊥) × (to p.act (cond (eqb p.target 1) 0 1) ≡ o)
has_alone os o h =
    let w = has_gathered (alone_out os) os o h in
    let p : Out = w.0 in
    by p w.1 (list_any (λ q. ghosts.eq q (twin p)) os) refl w.2
  where
    by : (p : Out) → Has os p → (b : Bool) → list_any (λ q. ghosts.eq q (twin p)) os ≡ b → Has (alone_out os p) o → (p : Out) × Has os p × (Has os (twin p) → ⊥) × (to p.act (cond (eqb p.target 1) 0 1) ≡ o)
    by p m true e k = let q : ⊥ = subst (λ b. Has (cond b [] (to p.act (cond (eqb p.target 1) 0 1) ∷ [])) o) e k in absurd q
    by p m false e k =
        let q : Has (to p.act (cond (eqb p.target 1) 0 1) ∷ []) o = subst (λ b. Has (cond b [] (to p.act (cond (eqb p.target 1) 0 1) ∷ [])) o) e k in
        (p, m, λ t. let z : false ≡ true = sym e ∙ has_any os (twin p) t in absurd cc, only q)

-- an end that the other side has not is one side's alone
alone_has : (os : List Out) (p : Out) → Has os p → (Has os (twin p) → ⊥) → Has (alone os) (to p.act (cond (eqb p.target 1) 0 1))
alone_has os p m n = gathered_has (alone_out os) os p (to p.act (cond (eqb p.target 1) 0 1)) m (by (list_any (λ q. ghosts.eq q (twin p)) os) refl)
  where
    by : (b : Bool) → list_any (λ q. ghosts.eq q (twin p)) os ≡ b → Has (alone_out os p) (to p.act (cond (eqb p.target 1) 0 1))
    by true e = absurd (n (any_has os (twin p) e))
    by false e = subst (λ b. Has (cond b [] (to p.act (cond (eqb p.target 1) 0 1) ∷ [])) (to p.act (cond (eqb p.target 1) 0 1))) (sym e) (inl refl)

module _ (a new : StoreState) (states : List ℕ) (left right bound : ℕ) (ends set pk : List ℕ) (tidy : AreTidy a) (marks : AreSideFinals a states left right bound (length states) new ends) (places : AreLabelsBelow (length states) set) (p : IsStorePacket a pk) where
  -- what is known of an end of the set
  record IsEnd (o : Out) : Type 0 where
    act : IsActFrom a.maxes 0 o.act
    exact_act : IsExact pk o.act
    side :
        ((o.target ≡ 1) × EndsAt a states left bound 1 set pk (applied o.act pk))
        ⊎ ((o.target ≡ 2) × EndsAt a states right bound 2 set pk (applied o.act pk))

  mark_either : (l : ℕ) → (label_side bound l ≡ 1) ⊎ (label_side bound l ≡ 2)
  mark_either l = by (nat_lt l bound)
    where
      by : (b : Bool) → (mark_by b ≡ 1) ⊎ (mark_by b ≡ 2)
      by true = inl refl
      by false = inr refl

  is_end : (o : Out) → Has (ends_of new ends set pk) o → IsEnd o
  is_end o h =
      let w = has_ends new ends set pk o h in
      let l : ℕ = w.0 in
      let c : Contains set l = has_contains set l w.1 in
      let within : l < length states = place_of (length states) set l places c in
      elim (eqb_tells l 0) [
        | inl none ↦
            let at : Has (merged (finals_of_side a left 1 pk) (finals_of_side a right 2 pk)) o = subst (λ os. Has os o) ((marks.start (omega (arith, within))).leaf pk p.0) (subst (λ j. Has (look new (get_or ends j 0) pk) o) none.1 w.2) in
            let zero_in : Contains set 0 = subst (λ j. Contains set j) none.1 c in
            elim (merged_has o (finals_of_side a left 1 pk) (finals_of_side a right 2 pk) at) [
              | inl x ↦ let e = end_of a left 1 pk o tidy p x in record { act = e.1.act; exact_act = e.1.exact_act; side = inl (e.0, inl (zero_in, e.1.sends)) }
              | inr x ↦ let e = end_of a right 2 pk o tidy p x in record { act = e.1.act; exact_act = e.1.exact_act; side = inr (e.0, inl (zero_in, e.1.sends)) }
            ]
        | inr some ↦
            let pos : 0 < l = omega (arith, some.1) in
            let e = end_of a (get_or states l 0) (label_side bound l) pk o tidy p (subst (λ os. Has os o) ((marks.rest l pos within).leaf pk p.0) w.2) in
            record {
              act = e.1.act;
              exact_act = e.1.exact_act;
              side = elim (mark_either l) [
                | inl one ↦ inl (e.0 ∙ one, inr (l, c, pos, one, e.1.sends))
                | inr two ↦ inr (e.0 ∙ two, inr (l, c, pos, two, e.1.sends))
              ];
            }
      ]

  -- what a state ends with is an end with its mark
  state_among : (m : ℕ) (y : List ℕ) → ((l : ℕ) × Contains set l × (0 < l) × (label_side bound l ≡ m) × Sends a (get_or states l 0) pk y 0) → (g : List (ℕ × ℕ)) × Has (ends_of new ends set pk) (to g m) × (y ≡ applied g pk)
  state_among m y z =
      let l : ℕ = z.0 in
      let s = end_in a (get_or states l 0) m pk y tidy p z.4 in
      let within : l < length states = place_of (length states) set l places z.1 in
      let at : Has (finals_of_side a (get_or states l 0) (label_side bound l) pk) (to s.0 m) = subst (λ k. Has (finals_of_side a (get_or states l 0) k pk) (to s.0 m)) (sym z.3) s.1 in
      (s.0, ends_has new ends set pk (to s.0 m) l (contains_has set l z.1) (subst (λ os. Has os (to s.0 m)) (sym ((marks.rest l z.2 within).leaf pk p.0)) at), s.2)

  -- what the left side ends with is an end with mark 1
  left_in : (y : List ℕ) → EndsAt a states left bound 1 set pk y → (g : List (ℕ × ℕ)) × Has (ends_of new ends set pk) (to g 1) × (y ≡ applied g pk)
  left_in y e = elim e [
    | inl z ↦
        let s = end_in a left 1 pk y tidy p z.1 in
        let some : 0 < length states = omega (arith, place_of (length states) set 0 places z.0) in
        (s.0, ends_has new ends set pk (to s.0 1) 0 (contains_has set 0 z.0) (subst (λ os. Has os (to s.0 1)) (sym ((marks.start some).leaf pk p.0)) (merged_left (to s.0 1) (finals_of_side a left 1 pk) (finals_of_side a right 2 pk) s.1)), s.2)
    | inr z ↦ state_among 1 y z
  ]

  -- what the right side ends with is an end with mark 2
  right_in : (y : List ℕ) → EndsAt a states right bound 2 set pk y → (g : List (ℕ × ℕ)) × Has (ends_of new ends set pk) (to g 2) × (y ≡ applied g pk)
  right_in y e = elim e [
    | inl z ↦
        let s = end_in a right 2 pk y tidy p z.1 in
        let some : 0 < length states = omega (arith, place_of (length states) set 0 places z.0) in
        (s.0, ends_has new ends set pk (to s.0 2) 0 (contains_has set 0 z.0) (subst (λ os. Has os (to s.0 2)) (sym ((marks.start some).leaf pk p.0)) (merged_right (to s.0 2) (finals_of_side a left 1 pk) (finals_of_side a right 2 pk) s.1)), s.2)
    | inr z ↦ state_among 2 y z
  ]

  -- the side of an end by its mark
  left_side : (g : List (ℕ × ℕ)) → Has (ends_of new ends set pk) (to g 1) → EndsAt a states left bound 1 set pk (applied g pk)
  left_side g h = elim (is_end (to g 1) h).side [ inl s ↦ s.1 | inr s ↦ absurd (omega (arith, s.0)) ]

  right_side : (g : List (ℕ × ℕ)) → Has (ends_of new ends set pk) (to g 2) → EndsAt a states right bound 2 set pk (applied g pk)
  right_side g h = elim (is_end (to g 2) h).side [ inl s ↦ absurd (omega (arith, s.0)) | inr s ↦ s.1 ]

  -- ends that make one packet have one act
  same_act : (g h : List (ℕ × ℕ)) (t u : ℕ) → Has (ends_of new ends set pk) (to g t) → Has (ends_of new ends set pk) (to h u) → applied g pk ≡ applied h pk → g ≡ h
  same_act g h t u x y e =
      let m = is_end (to g t) x in
      let n = is_end (to h u) y in
      exact_one a.maxes pk 0 g h p.0 m.act n.act m.exact_act n.exact_act e

  -- the ends of one side alone are what that side alone ends with
  pub one_sided : AreOneSided a states left right bound set pk (alone (ends_of new ends set pk))
  one_sided = record {
    left_alone = λ y. (
      λ m.
          let w = has_alone (ends_of new ends set pk) (to m.0 0) (contains_has (alone (ends_of new ends set pk)) (to m.0 0) m.1) in
          let q : Out = w.0 in
          let act : q.act ≡ m.0 = ap (λ (x : Out). x.act) w.3 in
          let mark : q.target ≡ 1 = first q.target (ap (λ (x : Out). x.target) w.3) in
          let here : Has (ends_of new ends set pk) (to m.0 1) = subst (λ (x : Out). Has (ends_of new ends set pk) x) (ap (λ t. to q.act t) mark ∙ ap (λ g. to g 1) act) w.1 in
          let not_there : Has (ends_of new ends set pk) (to m.0 2) → ⊥ = λ t. w.2 (subst (λ (x : Out). Has (ends_of new ends set pk) x) (sym (ap (λ k. to q.act (cond (eqb k 1) 2 1)) mark ∙ ap (λ g. to g 2) act)) t) in
          (subst (EndsAt a states left bound 1 set pk) (sym m.2) (left_side m.0 here), λ r. let s = right_in y r in not_there (subst (λ g. Has (ends_of new ends set pk) (to g 2)) (sym (same_act m.0 s.0 1 2 here s.1 (sym m.2 ∙ s.2))) s.1)),
      λ e.
          let s = left_in y e.0 in
          let c : Has (alone (ends_of new ends set pk)) (to s.0 0) = alone_has (ends_of new ends set pk) (to s.0 1) s.1 (λ t. e.1 (subst (EndsAt a states right bound 2 set pk) (sym s.2) (right_side s.0 t))) in
          (s.0, has_contains (alone (ends_of new ends set pk)) (to s.0 0) c, s.2),
    );
    right_alone = λ y. (
      λ m.
          let w = has_alone (ends_of new ends set pk) (to m.0 1) (contains_has (alone (ends_of new ends set pk)) (to m.0 1) m.1) in
          let q : Out = w.0 in
          let act : q.act ≡ m.0 = ap (λ (x : Out). x.act) w.3 in
          let mark : q.target ≡ 2 = second q w.1 (ap (λ (x : Out). x.target) w.3) in
          let here : Has (ends_of new ends set pk) (to m.0 2) = subst (λ (x : Out). Has (ends_of new ends set pk) x) (ap (λ t. to q.act t) mark ∙ ap (λ g. to g 2) act) w.1 in
          let not_there : Has (ends_of new ends set pk) (to m.0 1) → ⊥ = λ t. w.2 (subst (λ (x : Out). Has (ends_of new ends set pk) x) (sym (ap (λ k. to q.act (cond (eqb k 1) 2 1)) mark ∙ ap (λ g. to g 1) act)) t) in
          (subst (EndsAt a states right bound 2 set pk) (sym m.2) (right_side m.0 here), λ r. let s = left_in y r in not_there (subst (λ g. Has (ends_of new ends set pk) (to g 1)) (sym (same_act m.0 s.0 2 1 here s.1 (sym m.2 ∙ s.2))) s.1)),
      λ e.
          let s = right_in y e.0 in
          let c : Has (alone (ends_of new ends set pk)) (to s.0 1) = alone_has (ends_of new ends set pk) (to s.0 2) s.1 (λ t. e.1 (subst (EndsAt a states left bound 1 set pk) (sym s.2) (left_side s.0 t))) in
          (s.0, has_contains (alone (ends_of new ends set pk)) (to s.0 1) c, s.2),
    );
  }
    where
      first : (t : ℕ) → side_of t ≡ 0 → t ≡ 1
      first t e = elim (eqb_tells t 1) [
        | inl same ↦ same.1
        | inr other ↦ let z : side_of t ≡ 1 = ap (λ b. cond b 0 1) other.0 in absurd (omega (arith, z, e))
      ]

      second : (q : Out) → Has (ends_of new ends set pk) q → side_of q.target ≡ 1 → q.target ≡ 2
      second q h e = elim (is_end q h).side [
        | inl s ↦ let z : side_of q.target ≡ 0 = ap (λ t. side_of t) s.0 in absurd (omega (arith, z, e))
        | inr s ↦ s.0
      ]
