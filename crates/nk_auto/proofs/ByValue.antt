-- Choices by the value of one field.
use Rattle.std.proofs.Common.{◌≡◌, ℕ, ◌+◌, ◌<◌, ◌≤◌, ◌⊎◌, min, inl, inr, ⊎_elim, Bool, true, false, cond, get_or, List, [], ◌∷◌, ◌++◌, length, take, refl, sym, ap, subst, ◌∙◌, arith}
use Rattle.std.specs.Prelude.{slice_index, ◌||◌}
use Rattle.std.specs.List.{Contains}
use Rattle.std.specs.List.Sorted.{IsPermutation}
use Rattle.std.proofs.lemmas.Bool.Decides.{leb_tells}
use Rattle.std.proofs.lemmas.List.{take_more}
use Rattle.std.proofs.lemmas.List.Elements.{Contains-push, Contains-append_left, Contains-push_cases}
use Rattle.std.proofs.lemmas.List.Sorted.{Contains-permutation, IsPermutation-sym}
use Rattle.nk_policy.specs.Policy.{Policy, Policies, sum_of, seq_of, part}
use Rattle.nk_policy.specs.Meaning.{Gives}
use Rattle.nk_policy.proofs.Tests.{or_left, false_true}
use Rattle.nk_store.specs.declared.node.Out.{Out}
use Rattle.nk_store.specs.Leaves.{Every}
use Rattle.nk_store.specs.Nodes.{child_at}
use Rattle.nk_store.specs.StoreState.{StoreState, IsWhole, look, Grows, HasLeaves, IsChild}
use Rattle.nk_store.proofs.Stores.{grows_same}
use Rattle.nk_apply.specs.Unions.{HaveParts}
use Rattle.nk_apply.proofs.Built.{Built, built_push, built_parts, built_leaf, child_grows}
use Rattle.nk_apply.proofs.Members.{Has, contains_has, has_contains}
use Rattle.nk_auto.specs.Plain.{Sends}
use Rattle.nk_auto.specs.Continued.{IsFit, IsSilent}
use Rattle.nk_auto.specs.Values.{is_between, KeepsWhere, IsConstant, gap}
use Rattle.nk_auto.specs.ByValue.{arm_leaf, IsArm, AreChildDiagrams, AreArms, HaveOwnValues}
use Rattle.nk_auto.proofs.OneOut.{clipped}
use Rattle.nk_auto.proofs.Sending.{out_of, sends_on, sends_back}
use Rattle.nk_auto.proofs.Silences.{every_same, fit_before, packet_before}
use Rattle.nk_auto.proofs.Tested.{built_same, built_gap, constant_child, before, following, between}
use Rattle.nk_auto.proofs.Ways.{gives_cons, cons_gives}

abbrev pub Arm : Type 0
Arm = (ℕ × ℕ) × ℕ

-- a test and what is after it
pub arm_child : (st : StoreState) (f d : ℕ) (ends : ℕ × ℕ) (p : Policy) (ps : Policies) → KeepsWhere f (ends ∷ []) p →
    IsSilent st d (seq_of ps) → IsChild st f d → IsArm st f (ends, d) (seq_of (part p ps))
arm_child st f d ends p ps keeps a child = record {
  child = child;
  ends = a.ends;
  sends = λ fit pk y t r.
      let held = is_between (slice_index pk f) ends in
      let rest : IsFit st.maxes (seq_of ps) = (fit.0.1, fit.1.1) in (
        λ s.
            let k = (a.sends rest pk y t r).0 s.1 in
            (k.0, cons_gives p ps pk pk y ((keeps pk pk).1 (or_left held false s.0, refl)) k.1),
        λ s.
            let k = gives_cons p ps pk y s.1 in
            let first = (keeps pk k.0).0 k.1 in
            (sym (or_false held) ∙ first.0, (a.sends rest pk y t r).1 (s.0, subst (λ z. Gives (seq_of ps) z [] y) first.1 k.2)),
      );
}
  where
    or_false : (b : Bool) → b || false ≡ b
    or_false true = refl
    or_false false = refl

-- arms stay so in a store that grew
pub arms_grow : (old new : StoreState) (f : ℕ) (xs : List Arm) (p : Policy) → Grows old new → AreArms old f xs p → AreArms new f xs p
arms_grow old new f xs p g h = record {
  children = λ x c. child_grows old new f x.1 g (h.children x c);
  ends = λ x c pk w. every_same (λ o. o.target ≡ 0) _ _ (g.leaves x.1 pk (h.children x c).id) (h.ends x c pk w);
  sends = λ fit pk y t r.
      let both = h.sends (fit_before old new p g fit) pk y t (packet_before old new pk g r) in (
        λ s. both.0 (s.0, s.1, s.2, sends_back old new s.0.1 pk y t g (h.children s.0 s.1).id s.3),
        λ s. let k = both.1 s in (k.0, k.1, k.2, sends_on old new k.0.1 pk y t g (h.children k.0 k.1).id k.3),
      );
}

-- one part more
pub arms_more : (st : StoreState) (f : ℕ) (x : Arm) (xs more : List Arm) (p : Policy) (ps : Policies) → more ≡ xs ++ x ∷ [] →
    IsArm st f x p → AreArms st f xs (sum_of ps) → AreArms st f more (sum_of (part p ps))
arms_more st f x xs more p ps pushed one a = subst (λ l. AreArms st f l (sum_of (part p ps))) (sym pushed) both
  where
    both : AreArms st f (xs ++ x ∷ []) (sum_of (part p ps))
    both = record {
      children = λ z c. ⊎_elim (λ k. a.children z k) (λ e. subst (λ u. IsChild st f u.1) e one.child) (Contains-push_cases xs x z c);
      ends = λ z c pk w.
          ⊎_elim
          (λ k. a.ends z k pk w)
          (λ e. subst (λ (u : Arm). Every (λ o. o.target ≡ 0) (look st u.1 pk)) e (one.ends pk w))
          (Contains-push_cases xs x z c);
      sends = λ fit pk y t r. (
        λ s.
            ⊎_elim
            (λ k. let g = (a.sends (fit.0.1, fit.1.1) pk y t r).0 (s.0, k, s.2, s.3) in (g.0, inr g.1))
            (λ e.
            let here = subst (λ (u : Arm). (is_between (slice_index pk f) u.0 ≡ true) × Sends st u.1 pk y t) (sym e) (s.2, s.3) in
            let g = (one.sends (fit.0.0, fit.1.0) pk y t r).0 here in
            (g.0, inl g.1))
            (Contains-push_cases xs x s.0 s.1),
        λ s.
            ⊎_elim
            (λ g. let k = (one.sends (fit.0.0, fit.1.0) pk y t r).1 (s.0, g) in (x, Contains-push xs x, k.0, k.1))
            (λ g. let k = (a.sends (fit.0.1, fit.1.1) pk y t r).1 (s.0, g) in (k.0, Contains-append_left xs (x ∷ []) k.0 k.1, k.2, k.3))
            s.1,
      );
    }

-- arms in another order are arms of the policy too
pub arms_moved : (st : StoreState) (f : ℕ) (xs ys : List Arm) (p : Policy) → IsPermutation xs ys → AreArms st f xs p → AreArms st f ys p
arms_moved st f xs ys p moved a =
    let back = λ (x : Arm) (c : Contains ys x). Contains-permutation ys xs x (IsPermutation-sym xs ys moved) c in
    record {
      children = λ x c. a.children x (back x c);
      ends = λ x c. a.ends x (back x c);
      sends = λ fit pk y t r. (
        λ s. (a.sends fit pk y t r).0 (s.0, back s.0 s.1, s.2, s.3),
        λ s. let k = (a.sends fit pk y t r).1 s in (k.0, Contains-permutation xs ys k.0 moved k.1, k.2, k.3),
      );
    }

-- the intervals end below from
abbrev pub AreBelow : ℕ → List Arm → Type 0
AreBelow from vs = (v : ℕ) → from ≤ v → (u : Arm) → Has vs u → is_between v u.0 ≡ false

-- a value in none has nothing
none_leaf : (st : StoreState) (vs : List Arm) (v : ℕ) (pk : List ℕ) → ((u : Arm) → Has vs u → is_between v u.0 ≡ false) →
    arm_leaf st vs v pk ≡ []
none_leaf st [] v pk none = refl
none_leaf st (u ∷ us) v pk none =
    ap (λ b. cond b (look st u.1 pk) (arm_leaf st us v pk)) (none u (inl refl)) ∙ none_leaf st us v pk (λ z h. none z (inr h))

-- what isn't in one more interval has what it had
other_leaf : (st : StoreState) (vs : List Arm) (x : Arm) (v : ℕ) (pk : List ℕ) → is_between v x.0 ≡ false →
    arm_leaf st (vs ++ x ∷ []) v pk ≡ arm_leaf st vs v pk
other_leaf st [] x v pk e = ap (λ b. cond b (look st x.1 pk) []) e
other_leaf st (u ∷ us) x v pk e = ap (λ l. cond (is_between v u.0) (look st u.1 pk) l) (other_leaf st us x v pk e)

-- what is in it and in no other has its diagram's leaf
this_leaf : (st : StoreState) (vs : List Arm) (x : Arm) (v : ℕ) (pk : List ℕ) → ((u : Arm) → Has vs u → is_between v u.0 ≡ false) →
    is_between v x.0 ≡ true → arm_leaf st (vs ++ x ∷ []) v pk ≡ look st x.1 pk
this_leaf st [] x v pk none e = ap (λ b. cond b (look st x.1 pk) []) e
this_leaf st (u ∷ us) x v pk none e =
    ap (λ b. cond b (look st u.1 pk) (arm_leaf st (us ++ x ∷ []) v pk)) (none u (inl refl)) ∙ this_leaf st us x v pk (λ z h. none z (inr h)) e

-- where an interval holds the value, its diagram's outs are the leaf's, if it is alone; and each out is some diagram's
out_of_arm : (st : StoreState) (xs : List Arm) (v : ℕ) (pk : List ℕ) (o : Out) → Has (arm_leaf st xs v pk) o →
    (x : Arm) × Has xs x × (is_between v x.0 ≡ true) × Has (look st x.1 pk) o
out_of_arm st [] v pk o h = absurd h
out_of_arm st (x ∷ xs) v pk o h = by (is_between v x.0) refl (λ k. out_of_arm st xs v pk o k) h
  where
    by : (b : Bool) → is_between v x.0 ≡ b →
        (Has (arm_leaf st xs v pk) o → (z : Arm) × Has xs z × (is_between v z.0 ≡ true) × Has (look st z.1 pk) o) →
        Has (cond b (look st x.1 pk) (arm_leaf st xs v pk)) o →
        (z : Arm) × Has (x ∷ xs) z × (is_between v z.0 ≡ true) × Has (look st z.1 pk) o
    by true e rest k = (x, inl refl, e, k)
    by false e rest k = let r = rest k in (r.0, inr r.1, r.2, r.3)

-- the leaf ends where all diagrams do
leaf_ends : (st : StoreState) (xs : List Arm) (v : ℕ) (pk : List ℕ) → ((x : Arm) → Has xs x → Every (λ o. o.target ≡ 0) (look st x.1 pk)) →
    Every (λ o. o.target ≡ 0) (arm_leaf st xs v pk)
leaf_ends st [] v pk h = tt
leaf_ends st (x ∷ xs) v pk h = by (is_between v x.0) (h x (inl refl)) (leaf_ends st xs v pk (λ z k. h z (inr k)))
  where
    by : (b : Bool) → Every (λ o. o.target ≡ 0) (look st x.1 pk) → Every (λ o. o.target ≡ 0) (arm_leaf st xs v pk) →
        Every (λ o. o.target ≡ 0) (cond b (look st x.1 pk) (arm_leaf st xs v pk))
    by true here rest = here
    by false here rest = rest

-- a member is one of those before or the one at the end
has_either : (vs : List Arm) (x u : Arm) → Has (vs ++ x ∷ []) u → (Has vs u) ⊎ (x ≡ u)
has_either [] x u (inl e) = inr e
has_either [] x u (inr h) = absurd h
has_either (z ∷ vs) x u (inl e) = inl (inl e)
has_either (z ∷ vs) x u (inr h) = ⊎_elim (λ k. inl (inr k)) (λ k. inr k) (has_either vs x u h)

below_more : (from : ℕ) (x : Arm) (vs : List Arm) → from ≤ x.0.1 → AreBelow from vs → AreBelow (x.0.1 + 1) (vs ++ x ∷ [])
below_more from x vs le below v l u h =
    ⊎_elim
    (λ k. below v (omega (arith, l, le)) u k)
    (λ e. subst (λ (z : Arm). is_between v z.0 ≡ false) e (following v x.0 (omega (arith, l))))
    (has_either vs x u h)

-- a value in an interval isn't below its first
first_end : (v : ℕ) (ends : ℕ × ℕ) → is_between v ends ≡ true → ends.0 ≤ v
first_end v ends h = elim (leb_tells ends.0 v) [
  | inl some ↦ some.1
  | inr none ↦ absurd (false_true (sym (before v ends (omega (arith, none.1))) ∙ h))
]

-- each interval is alone, one more after the others too
alone_more : (st : StoreState) (from : ℕ) (x : Arm) (vs : List Arm) → from ≤ x.0.0 → AreBelow from vs → HaveOwnValues st vs →
    HaveOwnValues st (vs ++ x ∷ [])
alone_more st from x vs le below alone z c v pk held =
    ⊎_elim old_one new_one (Contains-push_cases vs x z c)
  where
    old_one : Contains vs z → arm_leaf st (vs ++ x ∷ []) v pk ≡ look st z.1 pk
    old_one k = elim (leb_tells from v) [
      | inl far ↦ absurd (false_true (sym (below v far.1 z (contains_has vs z k)) ∙ held))
      | inr near ↦ other_leaf st vs x v pk (before v x.0 (omega (arith, near.1, le))) ∙ alone z k v pk held
    ]

    new_one : x ≡ z → arm_leaf st (vs ++ x ∷ []) v pk ≡ look st z.1 pk
    new_one e =
        let here : is_between v x.0 ≡ true = subst (λ (u : Arm). is_between v u.0 ≡ true) (sym e) held in
        let l : x.0.0 ≤ v = first_end v x.0 here in
        this_leaf st vs x v pk (λ u h. below v (omega (arith, l, le)) u h) here ∙ ap (λ (u : Arm). look st u.1 pk) e

-- the leaf of each value
abbrev pub by_arm : StoreState → List Arm → ℕ → List ℕ → List Out
by_arm st vs v pk = arm_leaf st vs v pk

-- the first intervals with the one at the next place
take_next : (xs : List Arm) (i : ℕ) (x : Arm) → i < length xs → x ≡ get_or xs i x → take (i + 1) xs ≡ take i xs ++ x ∷ []
take_next xs i x l is = take_more xs i x l ∙ ap (λ e. take i xs ++ e ∷ []) (sym is)

-- parts up to one interval more
arm_built : (st : StoreState) (f from outside : ℕ) (x : Arm) (ps : List (ℕ × ℕ)) (xs : List Arm) → f < 18 → from ≤ x.0.0 → x.0.0 ≤ x.0.1 →
    IsChild st f x.1 → IsConstant st outside [] → AreBelow from xs → Built (by_arm st xs) st f from ps →
    Built (by_arm st (xs ++ x ∷ [])) st f (x.0.1 + 1) ((ps ++ gap from x.0.0 outside) ++ (x.0.1, x.1) ∷ [])
arm_built st f from outside x ps xs h le rise child o below b =
    let R = by_arm st (xs ++ x ∷ []) in
    let first : Built R st f from ps = built_same (by_arm st xs) R st f from ps (λ v pk l. sym (other_leaf st xs x v pk (before v x.0 (omega (arith, l, le))))) b in
    let gapped : Built R st f x.0.0 (ps ++ gap from x.0.0 outside) =
    built_gap R st f from x.0.0 outside ps first le (constant_child st f outside [] h o)
    (λ v pk w l m. o.leaves.leaf pk w ∙ sym (other_leaf st xs x v pk (before v x.0 m) ∙ none_leaf st xs v pk (below v l))) in
    built_push R st st f x.0.0 (ps ++ gap from x.0.0 outside) x.1 x.0.1 gapped (grows_same st) rise child
    (λ v pk w l m. sym (this_leaf st xs x v pk (below v (omega (arith, l, le))) (between v x.0.0 x.0.1 l m)))

-- what is put for the interval at a place
pub arm_step : (st : StoreState) (f from i outside : ℕ) (x : Arm) (arms : List Arm) (ps mid more : List (ℕ × ℕ)) → f < 18 → i < length arms →
    x ≡ get_or arms i x → from ≤ x.0.0 → x.0.0 ≤ x.0.1 → AreChildDiagrams st f arms → IsConstant st outside [] →
    AreBelow from (take i arms) → mid ≡ ps ++ gap from x.0.0 outside → more ≡ mid ++ (x.0.1, x.1) ∷ [] →
    Built (by_arm st (take i arms)) st f from ps → Built (by_arm st (take (i + 1) arms)) st f (x.0.1 + 1) more
arm_step st f from i outside x arms ps mid more h l is le rise children o below first second b =
    let put : more ≡ (ps ++ gap from x.0.0 outside) ++ (x.0.1, x.1) ∷ [] = second ∙ ap (λ qs. qs ++ (x.0.1, x.1) ∷ []) first in
    let child : IsChild st f x.1 = children x (i, l, sym is) in
    subst (λ vs. Built (by_arm st vs) st f (x.0.1 + 1) more) (sym (take_next arms i x l is))
    (subst (λ qs. Built (by_arm st (take i arms ++ x ∷ [])) st f (x.0.1 + 1) qs) (sym put) (arm_built st f from outside x ps (take i arms) h le rise child o below b))

-- the intervals up to the place end below the next one
pub below_step : (from i : ℕ) (x : Arm) (arms : List Arm) → i < length arms → x ≡ get_or arms i x → from ≤ x.0.1 →
    AreBelow from (take i arms) → AreBelow (x.0.1 + 1) (take (i + 1) arms)
below_step from i x arms l is le below =
    subst (AreBelow (x.0.1 + 1)) (sym (take_next arms i x l is)) (below_more from x (take i arms) le below)

-- and each of them is alone
pub alone_step : (st : StoreState) (from i : ℕ) (x : Arm) (arms : List Arm) → i < length arms → x ≡ get_or arms i x → from ≤ x.0.0 →
    AreBelow from (take i arms) → HaveOwnValues st (take i arms) → HaveOwnValues st (take (i + 1) arms)
alone_step st from i x arms l is le below alone =
    subst (HaveOwnValues st) (sym (take_next arms i x l is)) (alone_more st from x (take i arms) le below alone)

-- parts up to the field's largest value
pub rest_built : (st : StoreState) (f from most outside : ℕ) (xs : List Arm) (ps : List (ℕ × ℕ)) → f < 18 → from ≤ most →
    IsConstant st outside [] → AreBelow from xs → Built (by_arm st xs) st f from ps →
    Built (by_arm st xs) st f (most + 1) (ps ++ (most, outside) ∷ [])
rest_built st f from most outside xs ps h le o below b =
    built_push (by_arm st xs) st st f from ps outside most b (grows_same st) le (constant_child st f outside [] h o)
    (λ v pk w l m. o.leaves.leaf pk w ∙ sym (none_leaf st xs v pk (below v l)))

-- parts for all values of the field
pub arms_parts : (st : StoreState) (f most : ℕ) (xs : List Arm) (ps : List (ℕ × ℕ)) → f < 18 → most ≡ slice_index st.maxes f →
    Built (by_arm st xs) st f (most + 1) ps → HaveParts st f (λ v pk. arm_leaf st xs (min v (slice_index st.maxes f)) pk) ps
arms_parts st f most xs ps h is b =
    let R = λ (v : ℕ) (pk : List ℕ). arm_leaf st xs (min v (slice_index st.maxes f)) pk in
    let clip : Built R st f (most + 1) ps =
    built_same (by_arm st xs) R st f (most + 1) ps (λ v pk l. let e : v ≡ min v (slice_index st.maxes f) = omega (arith, l, is) in ap (λ w. arm_leaf st xs w pk) e) b in
    record {
      parts = built_parts R st f most ps clip h is;
      leaf = built_leaf R st f most ps clip
          (λ v pk l. let e : min v (slice_index st.maxes f) ≡ min most (slice_index st.maxes f) = omega (arith, l, is) in ap (λ w. arm_leaf st xs w pk) e);
    }

-- the node of these parts is the diagram of each policy that has these arms
pub choice_silent : (old st new : StoreState) (f r : ℕ) (xs : List Arm) (ps : List (ℕ × ℕ)) (p : Policy) → Grows old st → Grows st new →
    AreArms old f xs p → HaveOwnValues st xs → HaveParts st f (λ v pk. arm_leaf st xs (min v (slice_index st.maxes f)) pk) ps →
    HasLeaves new r (λ pk. look st (child_at 0 ps (slice_index pk f)) pk) → IsSilent new r p
choice_silent old st new f r xs ps p g0 g a0 alone parts h = record {
  id = h.id;
  ends = λ pk w. every_same (λ o. o.target ≡ 0) _ _ (leaf pk w) (leaf_ends st xs _ pk (λ x k. a.ends x (has_contains xs x k) pk w));
  sends = λ fit pk y t range.
      let before_in = packet_before st new pk g range in
      let v_is : min (slice_index pk f) (slice_index st.maxes f) ≡ slice_index pk f = clipped st.maxes pk f before_in in
      let here : look new r pk ≡ arm_leaf st xs (slice_index pk f) pk = leaf pk range.0 ∙ ap (λ w. arm_leaf st xs w pk) v_is in
      let both = a.sends (fit_before st new p g fit) pk y t before_in in (
        λ s.
            let m : Has (arm_leaf st xs (slice_index pk f) pk) (out_of s.0 t) = subst (λ os. Has os (out_of s.0 t)) here (contains_has _ _ s.1) in
            let k = out_of_arm st xs (slice_index pk f) pk (out_of s.0 t) m in
            both.0 (k.0, has_contains xs k.0 k.1, k.2, (s.0, has_contains _ _ k.3, s.2)),
        λ s.
            let k = both.1 s in
            let sent = k.3 in
            let m : Has (look new r pk) (out_of sent.0 t) = subst (λ os. Has os (out_of sent.0 t)) (sym (here ∙ alone k.0 k.1 (slice_index pk f) pk k.2)) (contains_has _ _ sent.1) in
            (sent.0, has_contains _ _ m, sent.2),
      );
}
  where
    a : AreArms st f xs p
    a = arms_grow old st f xs p g0 a0

    leaf : (pk : List ℕ) → IsWhole pk → look new r pk ≡ arm_leaf st xs (min (slice_index pk f) (slice_index st.maxes f)) pk
    leaf pk w = h.leaf pk w ∙ parts.leaf (slice_index pk f) pk w
