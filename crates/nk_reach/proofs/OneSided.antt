-- What one side alone ends at, and that it stays so as the store grows.
use Rattle.std.proofs.Common.{◌≡◌, ℕ, suc, ◌<◌, ◌+◌, Bool, true, false, cond, eqb, inl, inr, refl, sym, ◌∙◌, ap, subst, arith, List, [], ◌∷◌, ◌++◌, length, length-append, get_or, map, Option, None, Some}
use Rattle.std.specs.List.{flat_map}
use Rattle.std.specs.Map.{lookup}
use Rattle.std.proofs.lemmas.List.{append_assoc, get_or-map, get_or_append_left}
use Rattle.std.proofs.lemmas.Bool.Decides.{eqb_tells}
use Rattle.nk_determ.specs.Exact.{split_leaf}
use Rattle.nk_determ.specs.Targets.{retargeted}
use Rattle.nk_store.specs.declared.node.Out.{Out}
use Rattle.nk_store.specs.Leaves.{Every, Strict, Suits, AreOrdered}
use Rattle.nk_store.specs.StoreState.{StoreState, IsId, look, Grows, HasLeaves}
use Rattle.nk_apply.specs.Leaves.{merged}
use Rattle.nk_apply.specs.Unions.{AreIds, unions}
use Rattle.nk_apply.proofs.Shorts.{leaves_grown}
use Rattle.nk_apply.proofs.Members.{gathered_every}
use Rattle.nk_apply.proofs.Gathers.{flat_ordered}
use Rattle.nk_determ.specs.Pairs.{AreLabelsBelow}
use Rattle.nk_reach.specs.Sides.{alone_out, alone, ends_of, IsAloneOf, AreAloneOf, IsPropertyOfEnds, alone_on, finals_of_side, IsFinalsOfSide, AreFinalsOfSide, label_side, AreSideFinals}

-- as many diagrams as labels
count_map : (ends set : List ℕ) → length (map (λ l. get_or ends l 0) set) ≡ length set
count_map ends [] = refl
count_map ends (l ∷ ls) = ap suc (count_map ends ls)

-- the diagrams of labels that have places
pub labels_ids : (a : StoreState) (ends set : List ℕ) → AreIds a ends → AreLabelsBelow (length ends) set → AreIds a (map (λ l. get_or ends l 0) set)
labels_ids a ends set k p i l =
    let m : i < length set = omega (arith, l, count_map ends set) in
    subst (IsId a) (sym (get_or-map (λ (j : ℕ). get_or ends j 0) set i 0 0 m)) (k (get_or set i 0) (p i 0 m))

-- what stands after a list
following : (xs ys : List ℕ) (y : ℕ) → get_or (xs ++ y ∷ ys) (length xs) 0 ≡ y
following [] ys y = refl
following (x ∷ xs) ys y = following xs ys y

-- the diagrams of labels together are their ends
unions_after : (st : StoreState) (ends before set pk : List ℕ) → unions st (map (λ l. get_or ends l 0) (before ++ set)) (length before) (length set) pk ≡ ends_of st ends set pk
unions_after st ends before [] pk = refl
unions_after st ends before (l ∷ ls) pk =
    let f = λ (j : ℕ). get_or ends j 0 in
    let m : length before < length (before ++ l ∷ ls) = omega (arith, length-append before (l ∷ ls)) in
    let here : get_or (map f (before ++ l ∷ ls)) (length before) 0 ≡ get_or ends l 0 = get_or-map f (before ++ l ∷ ls) (length before) 0 0 m ∙ ap f (following before ls l) in
    let count : length before + 1 ≡ length (before ++ l ∷ []) = omega (arith, length-append before (l ∷ [])) in
    let rest : unions st (map f (before ++ l ∷ ls)) (length before + 1) (length ls) pk ≡ ends_of st ends ls pk =
    ap (λ k. unions st (map f (before ++ l ∷ ls)) k (length ls) pk) count
    ∙ ap (λ (xs : List ℕ). unions st (map f xs) (length (before ++ l ∷ [])) (length ls) pk) (sym (append_assoc before (l ∷ []) ls))
    ∙ unions_after st ends (before ++ l ∷ []) ls pk in
    ap (λ d. merged (look st d pk) (unions st (map f (before ++ l ∷ ls)) (length before + 1) (length ls) pk)) here
    ∙ ap (λ xs. merged (look st (get_or ends l 0) pk) xs) rest

-- at most one out ascends strictly
cond_strict : (b : Bool) (o : Out) → Strict (cond b [] (o ∷ []))
cond_strict true o = tt
cond_strict false o = (tt, tt)

-- at most one out suits
cond_suits : (maxes : List ℕ) (b : Bool) (o : Out) → Suits maxes o → Every (Suits maxes) (cond b [] (o ∷ []))
cond_suits maxes true o s = tt
cond_suits maxes false o s = (s, tt)

-- the ends of one side alone, one after the other, come in order to them
pub alone_ordered : (os all : List Out) → all ≡ flat_map (alone_out os) os → AreOrdered all (alone os)
alone_ordered os all e = subst (λ xs. AreOrdered xs (alone os)) (sym e) (flat_ordered (alone_out os) os (λ o. cond_strict _ _))

-- they suit the highest values
pub alone_suits : (maxes : List ℕ) (os : List Out) → Every (Suits maxes) os → Every (Suits maxes) (alone os)
alone_suits maxes os e = gathered_every (Suits maxes) (Suits maxes) (alone_out os) os (λ o k. cond_suits maxes _ _ k) e

-- the diagram of the ends of one side alone
pub alone_leaves : (st s1 s2 : StoreState) (ends set ds : List ℕ) (e d : ℕ) → ds ≡ map (λ l. get_or ends l 0) set → HasLeaves s1 e (λ pk. unions st ds 0 (length ds) pk) → HasLeaves s2 d (λ pk. alone (look s1 e pk)) → HasLeaves s2 d (λ pk. alone (ends_of st ends set pk))
alone_leaves st s1 s2 ends set ds e d is h k = record {
  id = k.id;
  leaf = λ pk w.
      let n : length ds ≡ length set = ap (λ (xs : List ℕ). length xs) is ∙ count_map ends set in
      k.leaf pk w ∙ ap alone (h.leaf pk w ∙ ap (λ xs. unions st xs 0 (length ds) pk) is ∙ ap (λ m. unions st (map (λ l. get_or ends l 0) set) 0 m pk) n ∙ unions_after st ends [] set pk);
}

-- what is marked stays so as the store grows
pub marked_same : (a b : StoreState) (d mark : ℕ) (pk : List ℕ) → Grows a b → IsId a d → finals_of_side b d mark pk ≡ finals_of_side a d mark pk
marked_same a b d mark pk g i =
    ap (λ (ms : List ℕ). retargeted (Some mark ∷ []) (split_leaf ms pk (look b d pk))) g.maxes ∙ ap (λ os. retargeted (Some mark ∷ []) (split_leaf a.maxes pk os)) (g.leaves d pk i)

-- both starts marked
pub starts_of : (st s1 s2 s3 : StoreState) (left right a b r : ℕ) → IsId st right → Grows st s1 → Grows s1 s2 → HasLeaves s1 a (λ pk. finals_of_side st left 1 pk) → HasLeaves s2 b (λ pk. finals_of_side s1 right 2 pk) → HasLeaves s3 r (λ pk. merged (look s2 a pk) (look s2 b pk)) → HasLeaves s3 r (λ pk. merged (finals_of_side st left 1 pk) (finals_of_side st right 2 pk))
starts_of st s1 s2 s3 left right a b r i g h ka kb k = record {
  id = k.id;
  leaf = λ pk w. k.leaf pk w ∙ ap (λ xs. merged xs (look s2 b pk)) (h.leaves a pk ka.id ∙ ka.leaf pk w) ∙ ap (merged (finals_of_side st left 1 pk)) (kb.leaf pk w ∙ marked_same st s1 right 2 pk g i);
}

-- one label more
pub marks_push : (a st new : StoreState) (states : List ℕ) (left right bound n d : ℕ) (ends : List ℕ) → AreIds a states → IsId a left → IsId a right → n < length states → Grows a st → Grows st new → AreSideFinals a states left right bound n st ends →
    (n ≡ 0 → HasLeaves new d (λ pk. merged (finals_of_side st left 1 pk) (finals_of_side st right 2 pk))) → (0 < n → HasLeaves new d (λ pk. finals_of_side st (get_or states n 0) (label_side bound n) pk)) → AreSideFinals a states left right bound (n + 1) new (ends ++ d ∷ [])
marks_push a st new states left right bound n d ends ids il ir l g h m first next = record {
  count = omega (arith, m.count, length-append ends (d ∷ []));
  start = λ z. elim (eqb_tells n 0) [
    | inl none ↦ subst (λ (k : ℕ). HasLeaves new k (λ pk. merged (finals_of_side a left 1 pk) (finals_of_side a right 2 pk))) (sym (at_new 0 (sym none.1)))
        (let k = first none.1 in record { id = k.id; leaf = λ pk w. k.leaf pk w ∙ ap (λ xs. merged xs (finals_of_side st right 2 pk)) (marked_same a st left 1 pk g il) ∙ ap (merged (finals_of_side a left 1 pk)) (marked_same a st right 2 pk g ir) })
    | inr some ↦
        let p : 0 < n = omega (arith, some.1) in
        subst (λ (k : ℕ). HasLeaves new k (λ pk. merged (finals_of_side a left 1 pk) (finals_of_side a right 2 pk))) (sym (at_old 0 p)) (leaves_grown st new (get_or ends 0 0) (λ pk. merged (finals_of_side a left 1 pk) (finals_of_side a right 2 pk)) h (m.start p))
  ];
  rest = λ i p q. elim (eqb_tells i n) [
    | inl same ↦
        let k = next (omega (arith, p, same.1)) in
        subst (λ j. HasLeaves new (get_or (ends ++ d ∷ []) j 0) (λ pk. finals_of_side a (get_or states j 0) (label_side bound j) pk)) (sym same.1)
        (subst (λ (c : ℕ). HasLeaves new c (λ pk. finals_of_side a (get_or states n 0) (label_side bound n) pk)) (sym (at_new n refl))
        (record { id = k.id; leaf = λ pk w. k.leaf pk w ∙ marked_same a st (get_or states n 0) (label_side bound n) pk g (ids n l) }))
    | inr other ↦
        let q' : i < n = omega (arith, q, other.1) in
        subst (λ (c : ℕ). HasLeaves new c (λ pk. finals_of_side a (get_or states i 0) (label_side bound i) pk)) (sym (at_old i q')) (leaves_grown st new (get_or ends i 0) (λ pk. finals_of_side a (get_or states i 0) (label_side bound i) pk) h (m.rest i p q'))
  ];
}
  where
    at_old : (i : ℕ) → i < n → get_or (ends ++ d ∷ []) i 0 ≡ get_or ends i 0
    at_old i p = get_or_append_left ends (d ∷ []) 0 i (omega (arith, p, m.count))

    at_new : (i : ℕ) → i ≡ n → get_or (ends ++ d ∷ []) i 0 ≡ d
    at_new i e = ap (λ j. get_or (ends ++ d ∷ []) j 0) (e ∙ sym m.count) ∙ following ends [] d

-- marked ends are diagrams of the store
pub marks_ids : (a st : StoreState) (states : List ℕ) (left right bound n : ℕ) (ends : List ℕ) → AreSideFinals a states left right bound n st ends → AreIds st ends
marks_ids a st states left right bound n ends m i l = elim (eqb_tells i 0) [
  | inl none ↦ subst (λ j. IsId st (get_or ends j 0)) (sym none.1) (m.start (omega (arith, l, m.count))).id
  | inr some ↦ (m.rest i (omega (arith, some.1)) (omega (arith, l, m.count))).id
]

-- a table with one more entry, each with the property
pub table_put : (P : ℕ → ℕ → Type 0) (key r : ℕ) (old new : List (ℕ × ℕ)) → ((q z : ℕ) → lookup (eqb q) old ≡ Some z → P q z) → P key r →
    ((q : ℕ) → lookup (eqb q) new ≡ cond (eqb key q) (Some r) (lookup (eqb q) old)) → (q z : ℕ) → lookup (eqb q) new ≡ Some z → P q z
table_put P key r old new are one put q z e =
    elim (eqb_tells key q) [
      | inl same ↦
          let is : Some r ≡ Some z = sym (put q ∙ ap (λ b. cond b (Some r) (lookup (eqb q) old)) same.0) ∙ e in
          let z_is : r ≡ z = ap (value_or r) is in
          subst (λ k. P k z) same.1 (subst (P key) z_is one)
      | inr other ↦ are q z (sym (put q ∙ ap (λ b. cond b (Some r) (lookup (eqb q) old)) other.0) ∙ e)
    ]
  where
    value_or : ℕ → Option ℕ → ℕ
    value_or d None = d
    value_or d (Some x) = x

-- no table is nothing of the kind
no_entry : (P : ℕ → ℕ → Type 0) (table : List (ℕ × ℕ)) → table ≡ [] → (q z : ℕ) → lookup (eqb q) table ≡ Some z → P q z
no_entry P table is q z e = absurd (subst (λ o. Lacks o) (sym (ap (λ t. lookup (eqb q) t) is) ∙ e) tt)
  where
    Lacks : Option ℕ → Type 0
    Lacks None = Unit {0}
    Lacks (Some x) = ⊥

-- what one side alone has of some ends, while the store grows
pub alones_on : (old new : StoreState) (table : List (ℕ × ℕ)) → Grows old new → AreAloneOf old table → AreAloneOf new table
alones_on old new table g are d r e = alone_on old new d r g (are d r e)

-- and of one more
pub alones_put : (old new : StoreState) (d r : ℕ) (before after : List (ℕ × ℕ)) → Grows old new → IsId old d → AreAloneOf old before → HasLeaves new r (λ pk. alone (look old d pk)) →
    ((q : ℕ) → lookup (eqb q) after ≡ cond (eqb d q) (Some r) (lookup (eqb q) before)) → AreAloneOf new after
alones_put old new d r before after g i are k put =
    table_put (IsAloneOf new) d r before after (alones_on old new before g are)
    (record { ends_id = g.ids d i; leaves = record { id = k.id; leaf = λ pk w. k.leaf pk w ∙ sym (ap alone (g.leaves d pk i)) } }) put

-- the goal at its start
pub goal_new : (st : StoreState) (ends : List ℕ) (table : List (ℕ × ℕ)) → AreIds st ends → table ≡ [] → IsPropertyOfEnds st ends table
goal_new st ends table ids is = record { ids = ids; made = no_entry (IsAloneOf st) table is }

-- marked states stay so while the store grows
pub marks_on : (old new : StoreState) (mark : ℕ) (table : List (ℕ × ℕ)) → Grows old new → AreFinalsOfSide old mark table → AreFinalsOfSide new mark table
marks_on old new mark table g are state r e =
    let k = are state r e in
    record {
      state_id = g.ids state k.state_id;
      leaves = record {
        id = g.ids r k.leaves.id;
        leaf = λ pk w. g.leaves r pk k.leaves.id ∙ k.leaves.leaf pk w ∙ sym (marked_same old new state mark pk g k.state_id);
      };
    }

-- one state more
pub marks_put : (old new : StoreState) (mark state r : ℕ) (before after : List (ℕ × ℕ)) → Grows old new → IsId old state → AreFinalsOfSide old mark before → HasLeaves new r (λ pk. finals_of_side old state mark pk) →
    ((q : ℕ) → lookup (eqb q) after ≡ cond (eqb state q) (Some r) (lookup (eqb q) before)) → AreFinalsOfSide new mark after
marks_put old new mark state r before after g i are k put =
    table_put (IsFinalsOfSide new mark) state r before after (marks_on old new mark before g are)
    (record { state_id = g.ids state i; leaves = record { id = k.id; leaf = λ pk w. k.leaf pk w ∙ sym (marked_same old new state mark pk g i) } }) put
