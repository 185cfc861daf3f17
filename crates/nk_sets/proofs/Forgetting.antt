-- A field forgotten, part by part.
use Rattle.std.proofs.Common.{◌≡◌, ℕ, zero, suc, ◌+◌, ◌<◌, ◌≤◌, Bool, true, false, cond, leb, eqb, List, [], ◌∷◌, ◌++◌, Some, None, Option, length, drop, refl, sym, ap, subst, ◌∙◌, arith, get_or, set, get_or-set_other, inl, inr}
use Rattle.std.specs.Prelude.{◌||◌, map}
use Rattle.std.specs.Map.{lookup}
use Rattle.std.proofs.lemmas.Bool.Decides.{eqb_tells}
use Rattle.nk_store.specs.Nodes.{child_at, Rises, Each}
use Rattle.nk_store.specs.StoreState.{StoreState, IsId, look, root_field, IsWhole, Grows, HasLeaves, IsChild, AreParts, IsCase, IsStill, IsReduced}
use Rattle.nk_store.proofs.Looks.{each_child, joined_some}
use Rattle.nk_store.proofs.Same.{child-first, child-rest}
use Rattle.nk_apply.specs.Seqs.{no_out}
use Rattle.nk_apply.specs.Leaves.{merged}
use Rattle.nk_apply.specs.Unions.{AreIds, unions}
use Rattle.nk_apply.proofs.Predicates.{whole_set, pass_all}
use Rattle.nk_sets.specs.PacketSets.{has_some_out, is_in, IsSet}
use Rattle.nk_sets.specs.Forgets.{some_value, is_in_for_some, forgotten, IsForgotten, AreForgotten}
use Rattle.nk_sets.proofs.Cases.{look_at, case_sets, later_by}
use Rattle.nk_store.proofs.Children.{rest_is}
use Rattle.nk_sets.proofs.SetLemmas.{set_grows, both_true, pass_is, merged_out}

-- tests that agree on each value
pub some_same : (P Q : ℕ → Bool) (n : ℕ) → ((v : ℕ) → P v ≡ Q v) → some_value P n ≡ some_value Q n
some_same P Q zero e = e 0
some_same P Q (suc n) e = ap (λ b. b || some_value P n) (e (suc n)) ∙ ap (λ b. Q (suc n) || b) (some_same P Q n e)

-- a test that is one for all values
pub some_one : (b : Bool) (n : ℕ) → some_value (λ v. b) n ≡ b
some_one true zero = refl
some_one true (suc n) = refl
some_one false zero = refl
some_one false (suc n) = some_one false n

-- the value that passes
pub some_found : (P : ℕ → Bool) (n : ℕ) → some_value P n ≡ true → (v : ℕ) × (v ≤ n) × (P v ≡ true)
some_found P zero e = (0, omega arith, e)
some_found P (suc n) e = by (P (suc n)) refl (some_found P n) e
  where
    by :
        (b : Bool) → P (suc n) ≡ b → (some_value P n ≡ true → (v : ℕ) × (v ≤ n) × (P v ≡ true))
        → b || some_value P n ≡ true → (v : ℕ) × (v ≤ suc n) × (P v ≡ true)
    by true is ih t = (suc n, omega arith, is)
    by false is ih t = let r = ih t in (r.0, omega (arith, r.1), r.2)

-- a value that passes is some
pub found_some : (P : ℕ → Bool) (n v : ℕ) → v ≤ n → P v ≡ true → some_value P n ≡ true
found_some P zero v h e = let z : v ≡ 0 = omega (arith, h) in subst (λ k. P k ≡ true) z e
found_some P (suc n) v h e = elim (eqb_tells v (suc n)) [
  | inl same ↦ ap (λ b. b || some_value P n) (subst (λ k. P k ≡ true) same.1 e)
  | inr other ↦ let ne = other.1 in by (P (suc n)) (found_some P n v (omega (arith, h, ne)) e)
]
  where
    by : (b : Bool) → some_value P n ≡ true → b || some_value P n ≡ true
    by true t = refl
    by false t = t

-- what the field's being forgotten gives stays in a store that grew
pub forgotten_grows :
    (old new : StoreState) (f s : ℕ) (pk : List ℕ) → Grows old new → IsId old s
    → forgotten new f s pk ≡ forgotten old f s pk
forgotten_grows old new f s pk g i =
    ap (λ b. cond b (no_out ∷ []) [])
    (ap (λ ms. some_value (λ v. is_in new s (set pk f v)) (get_or ms f 0)) g.maxes
    ∙ some_same (λ v. is_in new s (set pk f v)) (λ v. is_in old s (set pk f v)) (get_or old.maxes f 0) (λ v. ap has_some_out (g.leaves s (set pk f v) i)))

-- a set with the field forgotten is one in a store that grew
pub forgot_grows : (old new : StoreState) (f s r : ℕ) → Grows old new → IsForgotten old f s r → IsForgotten new f s r
forgot_grows old new f s r g k = record {
  set = set_grows old new s g k.set;
  leaves = record {
    id = g.ids r k.leaves.id;
    leaf = λ pk w. g.leaves r pk k.leaves.id ∙ k.leaves.leaf pk w ∙ sym (forgotten_grows old new f s pk g k.set.id);
  };
  later = let a = g.root_fields s k.set.id in let b = g.root_fields r k.leaves.id in let l = k.later in omega (arith, a, b, l);
}

-- and so is a table of them
pub entries_grow : (old new : StoreState) (f : ℕ) (entries : List (ℕ × ℕ)) → Grows old new → AreForgotten old f entries → AreForgotten new f entries
entries_grow old new f entries g are s r e = forgot_grows old new f s r g (are s r e)

-- a table with one more entry
pub entries_put :
    (st : StoreState) (f s r : ℕ) (old new : List (ℕ × ℕ)) → AreForgotten st f old → IsForgotten st f s r
    → ((q : ℕ) → lookup (eqb q) new ≡ cond (eqb s q) (Some r) (lookup (eqb q) old)) → AreForgotten st f new
entries_put st f s r old new are one put q z e =
    elim (eqb_tells s q) [
      | inl same ↦
          let is : Some r ≡ Some z = sym (put q ∙ ap (λ b. cond b (Some r) (lookup (eqb q) old)) same.0) ∙ e in
          let z_is : r ≡ z = ap (value_or r) is in
          subst (λ k. IsForgotten st f k z) same.1 (subst (IsForgotten st f s) z_is one)
      | inr other ↦ are q z (sym (put q ∙ ap (λ b. cond b (Some r) (lookup (eqb q) old)) other.0) ∙ e)
    ]
  where
    value_or : ℕ → Option ℕ → ℕ
    value_or d None = d
    value_or d (Some x) = x

-- a set that does not depend on the field stays as it is
pub stays :
    (st : StoreState) (f s : ℕ) → IsSet st s → IsStill st s → f < root_field st s → IsForgotten st f s s
stays st f s set_s still h = record {
  set = set_s;
  leaves = record {
    id = set_s.id;
    leaf = λ pk w.
        pass_is (look st s pk) (set_s.predicate pk w)
        ∙ ap (λ b. cond b (no_out ∷ []) [])
        (sym (some_one (is_in st s pk) (get_or st.maxes f 0))
        ∙ some_same (λ v. is_in st s pk) (λ v. is_in st s (set pk f v)) (get_or st.maxes f 0) (λ v. ap has_some_out (sym (still.leaf f v pk h))));
  };
  later = omega arith;
}

-- the parts that were made of the first parts, before the rest
abbrev pub Made : StoreState → ℕ → List (ℕ × ℕ) → List (ℕ × ℕ) → List (ℕ × ℕ) → Type 0
Made st f ps [] rest = ps ≡ rest
Made st f [] (q ∷ qs) rest = ⊥
Made st f (p ∷ ps) (q ∷ qs) rest = (q.0 ≡ p.0) × IsForgotten st f p.1 q.1 × Made st f ps qs rest

-- one part more
pub made_push :
    (st : StoreState) (f : ℕ) (ps qs : List (ℕ × ℕ)) (p : ℕ × ℕ) (rest : List (ℕ × ℕ)) (q : ℕ × ℕ)
    → Made st f ps qs (p ∷ rest) → q.0 ≡ p.0 → IsForgotten st f p.1 q.1
    → Made st f ps (qs ++ q ∷ []) rest
made_push st f ps [] p rest q m e k = subst (λ l. Made st f l (q ∷ []) rest) (sym m) (e, k, refl)
made_push st f [] (r ∷ qs) p rest q m e k = m
made_push st f (o ∷ ps) (r ∷ qs) p rest q m e k = (m.0, m.1, made_push st f ps qs p rest q m.2 e k)

-- the parts that were made stay so in a store that grew
pub made_grows :
    (old new : StoreState) (f : ℕ) (ps qs rest : List (ℕ × ℕ)) → Grows old new → Made old f ps qs rest
    → Made new f ps qs rest
made_grows old new f ps [] rest g m = m
made_grows old new f [] (q ∷ qs) rest g m = m
made_grows old new f (p ∷ ps) (q ∷ qs) rest g m = (m.0, forgot_grows old new f p.1 q.1 g m.1, made_grows old new f ps qs rest g m.2)

-- they rise as the parts do
made_rise :
    (st : StoreState) (f high low : ℕ) (ps qs : List (ℕ × ℕ)) → Made st f ps qs [] → Rises high low ps → Rises high low qs
made_rise st f high low ps [] m r = subst (Rises high low) m r
made_rise st f high low [] (q ∷ qs) m r = absurd m
made_rise st f high low (p ∷ ps) (q ∷ qs) m r =
    let e = m.0 in (
      omega (arith, e, r.0),
      omega (arith, e, r.1),
      made_rise st f high (q.0 + 1) ps qs m.2 (subst (λ k. Rises high (k + 1) ps) (sym e) r.2),
    )

-- their children test later fields
made_children :
    (st : StoreState) (f g : ℕ) (ps qs : List (ℕ × ℕ)) → Made st f ps qs [] → Each (IsChild st g) ps
    → Each (IsChild st g) qs
made_children st f g ps [] m e = tt
made_children st f g [] (q ∷ qs) m e = absurd m
made_children st f g (p ∷ ps) (q ∷ qs) m e =
    let a = e.0.later in let b = m.1.later in (
      record { id = m.1.leaves.id; later = omega (arith, a, b) },
      made_children st f g ps qs m.2 e.1,
    )

-- the child at a value is made of the part's child there
made_child :
    (st : StoreState) (f d e v : ℕ) (ps qs : List (ℕ × ℕ)) → IsForgotten st f d e → Made st f ps qs []
    → IsForgotten st f (child_at d ps v) (child_at e qs v)
made_child st f d e v ps [] k m = subst (λ l. IsForgotten st f (child_at d l v) e) (sym m) k
made_child st f d e v [] (q ∷ qs) k m = absurd m
made_child st f d e v (p ∷ ps) (q ∷ qs) k m =
    subst (λ n. IsForgotten st f (child_at d (p ∷ ps) v) (cond (leb v n) q.1 (child_at q.1 qs v))) (sym m.0)
    (by (leb v p.0) m.1 (made_child st f p.1 q.1 v ps qs m.1 m.2))
  where
    by :
        (b : Bool) → IsForgotten st f p.1 q.1 → IsForgotten st f (child_at p.1 ps v) (child_at q.1 qs v)
        → IsForgotten st f (cond b p.1 (child_at p.1 ps v)) (cond b q.1 (child_at q.1 qs v))
    by true a c = a
    by false a c = c

-- with a part there is a child at each value
made_at :
    (st : StoreState) (f v : ℕ) (ps qs : List (ℕ × ℕ)) → 0 < length ps → Made st f ps qs []
    → IsForgotten st f (child_at 0 ps v) (child_at 0 qs v)
made_at st f v ps [] h m = absurd (omega (arith, h, ap length m))
made_at st f v [] (q ∷ qs) h m = absurd m
made_at st f v (p ∷ ps) (q ∷ qs) h m = made_child st f p.1 q.1 v (p ∷ ps) (q ∷ qs) m.1 m

-- the parts that were made are those of a node
pub made_parts :
    (old st : StoreState) (f s g : ℕ) (ps qs : List (ℕ × ℕ)) → Grows old st → IsCase old s g ps
    → Made st f ps qs [] → AreParts st g qs
made_parts old st f s g ps qs grows c m = record {
  field = c.parts_ok.field;
  rise = made_rise st f (get_or st.maxes g 0) 0 ps qs m (subst (λ ms. Rises (get_or ms g 0) 0 ps) (sym grows.maxes) c.parts_ok.rise);
  children = made_children st f g ps qs m (grown ps c.parts_ok.children);
}
  where
    grown : (ps : List (ℕ × ℕ)) → Each (IsChild old g) ps → Each (IsChild st g) ps
    grown [] e = tt
    grown (p ∷ ps) e = (
      record { id = grows.ids p.1 e.0.id; later = subst (λ t. g < t) (sym (grows.root_fields p.1 e.0.id)) e.0.later },
      grown ps e.1,
    )

-- a set that tests an earlier field, made of its parts with the field forgotten
pub parts_forgotten :
    (old st new : StoreState) (s g f d : ℕ) (ps qs : List (ℕ × ℕ)) → Grows old st → Grows st new → IsSet old s
    → IsCase old s g ps → g < f → Made st f ps qs []
    → HasLeaves new d (λ pk. look st (child_at 0 qs (get_or pk g 0)) pk) → g ≤ root_field new d
    → IsForgotten new f s d
parts_forgotten old st new s g f d ps qs a b set_s c before m h later = record {
  set = set_grows st new s b (set_grows old st s a set_s);
  leaves = record {
    id = h.id;
    leaf = λ pk w.
        let v = get_or pk g 0 in
        let k = made_at st f v ps qs (joined_some ps c.joined) m in
        let child : IsChild old g (child_at 0 ps v) = each_child (IsChild old g) 0 ps v (joined_some ps c.joined) c.parts_ok.children in
        h.leaf pk w ∙ k.leaves.leaf pk w
        ∙ ap (λ b. cond b (no_out ∷ []) [])
        (ap (λ ms. some_value (λ n. is_in st (child_at 0 ps v) (set pk f n)) (get_or ms f 0)) (sym b.maxes)
        ∙ some_same (λ n. is_in st (child_at 0 ps v) (set pk f n)) (λ n. is_in new s (set pk f n)) (get_or new.maxes f 0)
        (λ n. ap has_some_out
        (a.leaves (child_at 0 ps v) (set pk f n) child.id
        ∙ ap (λ j. look old (child_at 0 ps j) (set pk f n)) (sym (get_or-set_other pk f g n 0 (λ e. omega (arith, e, before))))
        ∙ sym (c.leaf (set pk f n))
        ∙ sym (a.leaves s (set pk f n) set_s.id)
        ∙ sym (b.leaves s (set pk f n) (a.ids s set_s.id)))));
  };
  later =
      let t = b.root_fields s (a.ids s set_s.id) in let u = a.root_fields s set_s.id in let k = c.root_field_is in omega (arith, t, u, k, later);
}

-- one part more in a loop over the parts
pub made_more :
    (st new : StoreState) (f i : ℕ) (ps qs more : List (ℕ × ℕ)) (p : ℕ × ℕ) (r : ℕ) → Grows st new
    → Made st f ps qs (drop i ps) → i < length ps → p ≡ get_or ps i p → IsForgotten new f p.1 r
    → more ≡ qs ++ (p.0, r) ∷ [] → Made new f ps more (drop (i + 1) ps)
made_more st new f i ps qs more p r g m h e k pushed =
    subst (λ l. Made new f ps l (drop (i + 1) ps)) (sym pushed)
    (made_push new f ps qs p (drop (i + 1) ps) (p.0, r) (made_grows st new f ps qs (p ∷ drop (i + 1) ps) g (subst (Made st f ps qs) (rest_is ps i p h e) m)) refl k)

-- each child of parts stands at a value
kid_at :
    (high from d : ℕ) (ps : List (ℕ × ℕ)) (k : ℕ) → Rises high from ps → k < length (map (λ p. p.1) ps)
    → (v : ℕ) × (from ≤ v) × (v ≤ high) × (child_at d ps v ≡ get_or (map (λ p. p.1) ps) k 0)
kid_at high from d [] k r h = absurd (omega (arith, h))
kid_at high from d (p ∷ ps) zero r h = (p.0, r.0, r.1, child-first d p ps p.0 (omega arith))
kid_at high from d (p ∷ ps) (suc k) r h =
    let later = kid_at high (p.0 + 1) p.1 ps k r.2 (omega (arith, h)) in (
      later.0,
      omega (arith, r.0, later.1),
      later.2,
      child-rest d p ps later.0 (omega (arith, later.1)) ∙ later.3,
    )

-- the child at a value is one of the parts' children
child_kid :
    (d v : ℕ) (ps : List (ℕ × ℕ)) → 0 < length ps
    → (k : ℕ) × (k < length (map (λ p. p.1) ps)) × (child_at d ps v ≡ get_or (map (λ p. p.1) ps) k 0)
child_kid d v [] h = absurd (omega (arith, h))
child_kid d v (p ∷ []) h = by (leb v p.0)
  where
    by : (b : Bool) → (k : ℕ) × (k < length (map (λ q. q.1) (p ∷ []))) × (cond b p.1 p.1 ≡ get_or (map (λ q. q.1) (p ∷ [])) k 0)
    by true = (0, omega arith, refl)
    by false = (0, omega arith, refl)
child_kid d v (p ∷ q ∷ ps) h = by (leb v p.0) (child_kid p.1 v (q ∷ ps) (omega arith))
  where
    by :
        (b : Bool)
        → ((k : ℕ) × (k < length (map (λ q. q.1) (q ∷ ps))) × (child_at p.1 (q ∷ ps) v ≡ get_or (map (λ q. q.1) (q ∷ ps)) k 0))
        → (k : ℕ) × (k < length (map (λ q. q.1) (p ∷ q ∷ ps))) × (cond b p.1 (child_at p.1 (q ∷ ps) v) ≡ get_or (map (λ q. q.1) (p ∷ q ∷ ps)) k 0)
    by true r = (0, omega arith, refl)
    by false r = (suc r.0, omega (arith, r.1), r.2)

-- a packet of some of the sets is in one of them
unions_found :
    (st : StoreState) (ds : List ℕ) (from n : ℕ) (pk : List ℕ) → has_some_out (unions st ds from n pk) ≡ true
    → (k : ℕ) × (from ≤ k) × (k < from + n) × (is_in st (get_or ds k 0) pk ≡ true)
unions_found st ds from zero pk e = absurd cc
unions_found st ds from (suc n) pk e =
    by (is_in st (get_or ds from 0) pk) refl (unions_found st ds (from + 1) n pk) (sym (merged_out (look st (get_or ds from 0) pk) (unions st ds (from + 1) n pk)) ∙ e)
  where
    by :
        (b : Bool) → is_in st (get_or ds from 0) pk ≡ b
        → (has_some_out (unions st ds (from + 1) n pk) ≡ true → (k : ℕ) × (from + 1 ≤ k) × (k < from + 1 + n) × (is_in st (get_or ds k 0) pk ≡ true))
        → b || has_some_out (unions st ds (from + 1) n pk) ≡ true
        → (k : ℕ) × (from ≤ k) × (k < from + suc n) × (is_in st (get_or ds k 0) pk ≡ true)
    by true is ih t = (from, omega arith, omega arith, is)
    by false is ih t = let r = ih t in (r.0, omega (arith, r.1), omega (arith, r.2), r.3)

-- a packet of one of the sets is in all of them together
found_unions :
    (st : StoreState) (ds : List ℕ) (from n : ℕ) (pk : List ℕ) (k : ℕ) → from ≤ k → k < from + n
    → is_in st (get_or ds k 0) pk ≡ true → has_some_out (unions st ds from n pk) ≡ true
found_unions st ds from zero pk k l h e = absurd (omega (arith, l, h))
found_unions st ds from (suc n) pk k l h e =
    merged_out (look st (get_or ds from 0) pk) (unions st ds (from + 1) n pk)
    ∙ elim (eqb_tells k from) [
      | inl same ↦ ap (λ b. b || has_some_out (unions st ds (from + 1) n pk)) (subst (λ j. is_in st (get_or ds j 0) pk ≡ true) same.1 e)
      | inr other ↦ let ne = other.1 in by (is_in st (get_or ds from 0) pk) (found_unions st ds (from + 1) n pk k (omega (arith, l, ne)) (omega (arith, h)) e)
    ]
  where
    by : (b : Bool) → has_some_out (unions st ds (from + 1) n pk) ≡ true → b || has_some_out (unions st ds (from + 1) n pk) ≡ true
    by true t = refl
    by false t = t

-- sets that have the same at two packets have the same together
unions_same :
    (st : StoreState) (ds : List ℕ) (from n : ℕ) (pk y : List ℕ)
    → ((k : ℕ) → from ≤ k → k < from + n → look st (get_or ds k 0) pk ≡ look st (get_or ds k 0) y)
    → unions st ds from n pk ≡ unions st ds from n y
unions_same st ds from zero pk y e = refl
unions_same st ds from (suc n) pk y e =
    ap (λ a. merged a (unions st ds (from + 1) n pk)) (e from (omega arith) (omega arith))
    ∙ ap (λ b. merged (look st (get_or ds from 0) y) b) (unions_same st ds (from + 1) n pk y (λ k l h. e k (omega (arith, l)) (omega (arith, h))))

module _ (st : StoreState) (s f : ℕ) (ps : List (ℕ × ℕ)) (set_s : IsSet st s) (c : IsCase st s f ps) (still : (d : ℕ) → IsId st d → IsStill st d) where
  abbrev kids : List ℕ
  kids = map (λ p. p.1) ps

  -- a child is a set that tests later fields
  record IsKid (d : ℕ) : Type 0 where
    child : IsChild st f d
    set : IsSet st d

  -- each child is
  kids_are : (k : ℕ) → k < length kids → IsKid (get_or kids k 0)
  kids_are k h =
      let at = kid_at (get_or st.maxes f 0) 0 0 ps k c.parts_ok.rise h in
      subst IsKid at.3 record {
        child = each_child (IsChild st f) 0 ps at.0 (joined_some ps c.joined) c.parts_ok.children;
        set = each_child (IsSet st) 0 ps at.0 (joined_some ps c.joined) (case_sets st s f ps set_s c still);
      }

  -- they are numbers of the store
  pub kid_ids : AreIds st kids
  kid_ids k h = (kids_are k h).child.id

  -- a packet is in one of them exactly where it is in the set for some value
  kids_have : (pk : List ℕ) → IsWhole pk → has_some_out (unions st kids 0 (length kids) pk) ≡ is_in_for_some st f s pk
  kids_have pk w =
      both_true _ _
      (λ e.
      let k = unions_found st kids 0 (length kids) pk e in
      let at = kid_at (get_or st.maxes f 0) 0 0 ps k.0 c.parts_ok.rise (omega (arith, k.2)) in
      found_some (λ v. is_in st s (set pk f v)) (get_or st.maxes f 0) at.0 at.2
      (ap has_some_out (look_at st s f at.0 ps pk c still w ∙ ap (λ d. look st d pk) at.3) ∙ k.3))
      (λ e.
      let v = some_found (λ v. is_in st s (set pk f v)) (get_or st.maxes f 0) e in
      let at = child_kid 0 v.0 ps (joined_some ps c.joined) in
      found_unions st kids 0 (length kids) pk at.0 (omega arith) (omega (arith, at.1))
      (ap has_some_out (ap (λ d. look st d pk) (sym at.2) ∙ sym (look_at st s f v.0 ps pk c still w)) ∙ v.2))

  -- all children together are the set with its field forgotten
  pub here_forgotten :
      (new : StoreState) (given : List ℕ) (d : ℕ) → Grows st new → given ≡ kids
      → HasLeaves new d (λ pk. unions st given 0 (length given) pk) → IsReduced new d
      → IsForgotten new f s d
  here_forgotten new given d g is h r =
      let all : HasLeaves new d (λ pk. unions st kids 0 (length kids) pk) = subst (λ ds. HasLeaves new d (λ pk. unions st ds 0 (length ds) pk)) is h in
      record {
        set = set_grows st new s g set_s;
        leaves = record {
          id = h.id;
          leaf = λ pk w.
              all.leaf pk w
              ∙ pass_is (unions st kids 0 (length kids) pk) (pass_all st kids pk (λ k l. (kids_are k l).set.predicate pk w))
              ∙ ap (λ b. cond b (no_out ∷ []) []) (kids_have pk w)
              ∙ sym (forgotten_grows st new f s pk g set_s.id);
        };
        later =
            let t = g.root_fields s set_s.id in
            let u = c.root_field_is in
            let l = later_by new d f r (let k = c.parts_ok.field in omega (arith, k)) (λ j v pk below w.
            all.leaf (set pk j v) (whole_set pk j v w)
            ∙ unions_same st kids 0 (length kids) (set pk j v) pk (λ k l m.
            let kid = kids_are k (omega (arith, m)) in
            let later = kid.child.later in
            (still (get_or kids k 0) kid.child.id).leaf j v pk (omega (arith, below, later)))
            ∙ sym (all.leaf pk w)) in
            omega (arith, t, u, l);
      }
