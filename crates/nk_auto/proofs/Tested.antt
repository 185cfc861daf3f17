-- Sums of tests and ranges of one field, and nodes that pass some values.
use Rattle.std.proofs.Common.{◌≡◌, ℕ, ◌+◌, ◌-◌, ◌<◌, ◌≤◌, min, inl, inr, ⊎_elim, Bool, true, false, cond, leb, get_or, List, [], ◌∷◌, ◌++◌, length, take, append-nil, refl, sym, ap, subst, ◌∙◌, arith}
use Rattle.std.specs.Prelude.{slice_index, ◌||◌}
use Rattle.std.specs.List.{list_any}
use Rattle.std.specs.List.Sorted.{IsPermutation}
use Rattle.std.proofs.lemmas.Bool.Decides.{leb_tells}
use Rattle.std.proofs.lemmas.List.{take_more}
use Rattle.std.proofs.lemmas.List.Folds.{list_any-append}
use Rattle.std.proofs.lemmas.List.Sorted.{list_any-IsPermutation}
use Rattle.nk_policy.specs.Policy.{Policy, Policies, sum_of, part}
use Rattle.nk_policy.proofs.Tests.{false_where, or_left, or_right, or_cases, both_true, both_pass, at_most_test, at_most_from}
use Rattle.nk_store.specs.declared.node.Out.{Out}
use Rattle.nk_store.specs.Nodes.{child_at, InRange}
use Rattle.nk_store.specs.StoreState.{StoreState, IsWhole, look, Grows, HasLeaves, IsChild}
use Rattle.nk_store.proofs.Stores.{grows_same}
use Rattle.nk_apply.specs.Predicates.{IsPass, IsPredicate}
use Rattle.nk_apply.specs.Seqs.{no_out}
use Rattle.nk_apply.specs.Unions.{HaveParts}
use Rattle.nk_apply.proofs.Built.{Built, built_push, built_parts, built_leaf}
use Rattle.nk_auto.specs.Plain.{Sends}
use Rattle.nk_auto.specs.Continued.{IsSilent}
use Rattle.nk_auto.specs.Values.{is_between, KeepsWhere, HaveOneMore, value_leaf, IsConstant, gap}
use Rattle.nk_auto.proofs.Grown.{leaves_grow}
use Rattle.nk_auto.proofs.OneOut.{one_of, is_one, clipped}
use Rattle.nk_auto.proofs.Sending.{out_of}
use Rattle.nk_auto.proofs.Silences.{every_same, ends_or_none, read_out, out_sends, kept_out}

or_none : (b : Bool) → b || (false || false) ≡ b
or_none true = refl
or_none false = refl

-- a value between the ends is in
pub between : (v lo hi : ℕ) → lo ≤ v → v ≤ hi → is_between v (lo, hi) ≡ true
between v lo hi l h = both_pass (leb lo v) (leb v hi) (at_most_test lo v l) (at_most_test v hi h)

-- and one that is in is between them
ends_hold : (v : ℕ) (x : ℕ × ℕ) → is_between v x ≡ true → (x.0 ≤ v) × (v ≤ x.1)
ends_hold v x h =
    let b = both_true (leb x.0 v) (leb v x.1) h in
    (at_most_from x.0 v b.0, at_most_from v x.1 b.1)

-- one below the first isn't in
pub before : (v : ℕ) (x : ℕ × ℕ) → v < x.0 → is_between v x ≡ false
before v x l = false_where (is_between v x) (λ h. let b = (ends_hold v x h).0 in omega (arith, b, l))

-- nor is one above the second
pub following : (v : ℕ) (x : ℕ × ℕ) → x.1 < v → is_between v x ≡ false
following v x l = false_where (is_between v x) (λ h. let b = (ends_hold v x h).1 in omega (arith, b, l))

-- one interval more is found
this_value : (vs : List (ℕ × ℕ)) (x : ℕ × ℕ) (v : ℕ) → is_between v x ≡ true → list_any (is_between v) (vs ++ x ∷ []) ≡ true
this_value vs x v e =
    list_any-append (is_between v) vs (x ∷ []) ∙ or_right (list_any (is_between v) vs) (is_between v x || false) (or_left (is_between v x) false e)

-- what isn't in it is found where it was
other_value : (vs : List (ℕ × ℕ)) (x : ℕ × ℕ) (v : ℕ) → is_between v x ≡ false →
    list_any (is_between v) (vs ++ x ∷ []) ≡ list_any (is_between v) vs
other_value vs x v e =
    list_any-append (is_between v) vs (x ∷ []) ∙ ap (λ b. list_any (is_between v) vs || (b || false)) e ∙ or_none (list_any (is_between v) vs)

-- one part more
pub keeps_more : (f : ℕ) (x : ℕ × ℕ) (values more : List (ℕ × ℕ)) (p : Policy) (ps : Policies) → HaveOneMore values more x →
    KeepsWhere f (x ∷ []) p → KeepsWhere f values (sum_of ps) → KeepsWhere f more (sum_of (part p ps))
keeps_more f x values more p ps put one keeps pk y = (
  λ g.
      ⊎_elim
      (λ h.
      let k = (one pk y).0 h in
      (either ∙ or_right (list_any (is_between v) values) (list_any (is_between v) (x ∷ [])) k.0, k.1))
      (λ h.
      let k = (keeps pk y).0 h in
      (either ∙ or_left (list_any (is_between v) values) (list_any (is_between v) (x ∷ [])) k.0, k.1))
      g,
  λ c.
      ⊎_elim
      (λ h. inr ((keeps pk y).1 (h, c.1)))
      (λ h. inl ((one pk y).1 (h, c.1)))
      (or_cases (list_any (is_between v) values) (list_any (is_between v) (x ∷ [])) (sym either ∙ c.0)),
)
  where
    v : ℕ
    v = slice_index pk f

    either : list_any (is_between v) more ≡ list_any (is_between v) values || list_any (is_between v) (x ∷ [])
    either = put v ∙ list_any-append (is_between v) values (x ∷ [])

-- intervals in another order keep what they kept
pub keeps_moved : (f : ℕ) (xs ys : List (ℕ × ℕ)) (p : Policy) → IsPermutation xs ys → KeepsWhere f xs p → KeepsWhere f ys p
keeps_moved f xs ys p moved keeps pk y =
    let same = list_any-IsPermutation (is_between (slice_index pk f)) xs ys moved in (
      λ g. let k = (keeps pk y).0 g in (sym same ∙ k.0, k.1),
      λ c. (keeps pk y).1 (same ∙ c.0, c.1),
    )

-- the diagram of a policy that keeps packets by the values of a field
pub values_silent : (st : StoreState) (maxes : List ℕ) (d f : ℕ) (values : List (ℕ × ℕ)) (p : Policy) → st.maxes ≡ maxes →
    HasLeaves st d (λ pk. value_leaf values (min (slice_index pk f) (slice_index maxes f))) → KeepsWhere f values p →
    IsSilent st d p
values_silent st maxes d f values p same h keeps = record {
  id = h.id;
  ends = λ pk w. every_same _ _ _ (h.leaf pk w) (ends_or_none (list_any (is_between (min (slice_index pk f) (slice_index maxes f))) values) no_out refl);
  sends = λ fit pk y t r.
      let here : InRange maxes pk = subst (λ m. InRange m pk) same r in
      let found : list_any (is_between (min (slice_index pk f) (slice_index maxes f))) values ≡ list_any (is_between (slice_index pk f)) values =
      ap (λ v. list_any (is_between v) values) (clipped maxes pk f here) in (
        λ s.
            let one = one_of (list_any (is_between (min (slice_index pk f) (slice_index maxes f))) values) no_out (out_of s.0 t) (read_out st d _ pk y t h r.0 s) in
            let kept = kept_out s.0 t pk y one.1 s.2 in
            (kept.0, (keeps pk y).1 (sym found ∙ one.0, kept.1)),
        λ s.
            let k = (keeps pk y).0 s.1 in
            let sent : Sends st d pk pk 0 = out_sends st d _ pk [] 0 h r.0 (is_one (list_any (is_between (min (slice_index pk f) (slice_index maxes f))) values) no_out (found ∙ k.0)) in
            subst (λ x. Sends st d pk x t) (sym k.1) (subst (λ u. Sends st d pk pk u) (sym s.0) sent),
      );
}

-- and it is a predicate
pub values_pass : (st : StoreState) (d : ℕ) (values : List (ℕ × ℕ)) (F : List ℕ → ℕ) → HasLeaves st d (λ pk. value_leaf values (F pk)) →
    IsPredicate st d
values_pass st d values F h = λ pk w. subst IsPass (sym (h.leaf pk w)) (one_or_none (list_any (is_between (F pk)) values))
  where
    one_or_none : (b : Bool) → IsPass (cond b (no_out ∷ []) [])
    one_or_none true = (refl, refl)
    one_or_none false = tt

-- a diagram with one leaf has it in a store that grew
pub constant_grow : (old new : StoreState) (d : ℕ) (outs : List Out) → Grows old new → IsConstant old d outs → IsConstant new d outs
constant_grow old new d outs g k = record { leaves = leaves_grow old new d _ g k.leaves; root_field_is = g.root_fields d k.leaves.id ∙ k.root_field_is }

-- it is a child of each field's nodes
pub constant_child : (st : StoreState) (f d : ℕ) (outs : List Out) → f < 18 → IsConstant st d outs → IsChild st f d
constant_child st f d outs h k = record { id = k.leaves.id; later = omega (arith, k.root_field_is, h) }

-- the first intervals with the one at the next place
take_next : (values : List (ℕ × ℕ)) (i : ℕ) (x : ℕ × ℕ) → i < length values → x ≡ get_or values i (0, 0) →
    take (i + 1) values ≡ take i values ++ x ∷ []
take_next values i x l is = take_more values i (0, 0) l ∙ ap (λ e. take i values ++ e ∷ []) (sym is)

-- parts that give what R does give what S does
pub built_same : (R S : ℕ → List ℕ → List Out) (st : StoreState) (f to : ℕ) (ps : List (ℕ × ℕ)) →
    ((v : ℕ) (pk : List ℕ) → v < to → R v pk ≡ S v pk) → Built R st f to ps → Built S st f to ps
built_same R S st f to ps same b =
    record { ends = b.ends; children = b.children; leaf = λ v pk w l. b.leaf v pk w l ∙ same v pk l }

-- a part for the values below x
pub built_gap : (R : ℕ → List ℕ → List Out) (st : StoreState) (f from x d : ℕ) (ps : List (ℕ × ℕ)) → Built R st f from ps → from ≤ x →
    IsChild st f d → ((v : ℕ) (pk : List ℕ) → IsWhole pk → from ≤ v → v < x → look st d pk ≡ R v pk) →
    Built R st f x (ps ++ gap from x d)
built_gap R st f from x d ps b le child serves = elim (leb_tells x from) [
  | inl none ↦
      let same : from ≡ x = omega (arith, none.1, le) in
      subst (λ c. Built R st f x (ps ++ cond c [] ((x - 1, d) ∷ []))) (sym none.0)
      (subst (λ l. Built R st f x l) (sym (append-nil ps)) (subst (λ n. Built R st f n ps) same b))
  | inr some ↦
      let next : (x - 1) + 1 ≡ x = omega (arith, some.1) in
      subst (λ c. Built R st f x (ps ++ cond c [] ((x - 1, d) ∷ []))) (sym some.0)
      (subst (λ n. Built R st f n (ps ++ (x - 1, d) ∷ [])) next
      (built_push R st st f from ps d (x - 1) b (grows_same st) (omega (arith, some.1)) child (λ v pk w l m. serves v pk w l (omega (arith, m, some.1)))))
]

-- the intervals end below from
abbrev pub AreBelow : ℕ → List (ℕ × ℕ) → Type 0
AreBelow from vs = (v : ℕ) → from ≤ v → list_any (is_between v) vs ≡ false

-- so does one more below the next
below_more : (from : ℕ) (x : ℕ × ℕ) (vs : List (ℕ × ℕ)) → from ≤ x.1 → AreBelow from vs → AreBelow (x.1 + 1) (vs ++ x ∷ [])
below_more from x vs le below v l = other_value vs x v (following v x (omega (arith, l))) ∙ below v (omega (arith, l, le))

-- the leaf of each value
abbrev pub by_value : List (ℕ × ℕ) → ℕ → List ℕ → List Out
by_value vs v pk = value_leaf vs v

-- parts up to one interval more
value_built : (st : StoreState) (f from inside outside : ℕ) (x : ℕ × ℕ) (vs ps : List (ℕ × ℕ)) → f < 18 → from ≤ x.0 → x.0 ≤ x.1 →
    IsConstant st inside (no_out ∷ []) → IsConstant st outside [] → AreBelow from vs → Built (by_value vs) st f from ps →
    Built (by_value (vs ++ x ∷ [])) st f (x.1 + 1) ((ps ++ gap from x.0 outside) ++ (x.1, inside) ∷ [])
value_built st f from inside outside x vs ps h le rise i o below b =
    let R = by_value (vs ++ x ∷ []) in
    let leaf : Bool → List Out = λ c. cond c (no_out ∷ []) [] in
    let first : Built R st f from ps = built_same (by_value vs) R st f from ps (λ v pk l. ap leaf (sym (other_value vs x v (before v x (omega (arith, l, le)))))) b in
    let gapped : Built R st f x.0 (ps ++ gap from x.0 outside) =
    built_gap R st f from x.0 outside ps first le (constant_child st f outside [] h o)
    (λ v pk w l m. o.leaves.leaf pk w ∙ ap leaf (sym (other_value vs x v (before v x m) ∙ below v l))) in
    built_push R st st f x.0 (ps ++ gap from x.0 outside) inside x.1 gapped (grows_same st) rise (constant_child st f inside (no_out ∷ []) h i)
    (λ v pk w l m. i.leaves.leaf pk w ∙ ap leaf (sym (this_value vs x v (between v x.0 x.1 l m))))

-- what is put for the interval at a place
pub value_step : (st : StoreState) (f from i inside outside : ℕ) (x : ℕ × ℕ) (values ps mid more : List (ℕ × ℕ)) → f < 18 → i < length values →
    x ≡ get_or values i (0, 0) → from ≤ x.0 → x.0 ≤ x.1 → IsConstant st inside (no_out ∷ []) → IsConstant st outside [] →
    AreBelow from (take i values) → mid ≡ ps ++ gap from x.0 outside → more ≡ mid ++ (x.1, inside) ∷ [] →
    Built (by_value (take i values)) st f from ps → Built (by_value (take (i + 1) values)) st f (x.1 + 1) more
value_step st f from i inside outside x values ps mid more h l is le rise a o below first second b =
    let put : more ≡ (ps ++ gap from x.0 outside) ++ (x.1, inside) ∷ [] = second ∙ ap (λ qs. qs ++ (x.1, inside) ∷ []) first in
    subst (λ vs. Built (by_value vs) st f (x.1 + 1) more) (sym (take_next values i x l is))
    (subst (λ qs. Built (by_value (take i values ++ x ∷ [])) st f (x.1 + 1) qs) (sym put) (value_built st f from inside outside x (take i values) ps h le rise a o below b))

-- the intervals up to the place end below the next one
pub below_step : (from i : ℕ) (x : ℕ × ℕ) (values : List (ℕ × ℕ)) → i < length values → x ≡ get_or values i (0, 0) → from ≤ x.1 →
    AreBelow from (take i values) → AreBelow (x.1 + 1) (take (i + 1) values)
below_step from i x values l is le below =
    subst (AreBelow (x.1 + 1)) (sym (take_next values i x l is)) (below_more from x (take i values) le below)

-- parts up to the field's largest value
pub rest_built : (st : StoreState) (f from most outside : ℕ) (vs ps : List (ℕ × ℕ)) → f < 18 → from ≤ most →
    IsConstant st outside [] → AreBelow from vs → Built (by_value vs) st f from ps →
    Built (by_value vs) st f (most + 1) (ps ++ (most, outside) ∷ [])
rest_built st f from most outside vs ps h le o below b =
    built_push (by_value vs) st st f from ps outside most b (grows_same st) le (constant_child st f outside [] h o)
    (λ v pk w l m. o.leaves.leaf pk w ∙ ap (λ c. cond c (no_out ∷ []) []) (sym (below v l)))

-- parts for all values of the field
pub values_parts : (st : StoreState) (f most : ℕ) (vs ps : List (ℕ × ℕ)) → f < 18 → most ≡ slice_index st.maxes f →
    Built (by_value vs) st f (most + 1) ps → HaveParts st f (λ v pk. value_leaf vs (min v (slice_index st.maxes f))) ps
values_parts st f most vs ps h is b =
    let R = λ (v : ℕ) (pk : List ℕ). value_leaf vs (min v (slice_index st.maxes f)) in
    let clip : Built R st f (most + 1) ps =
    built_same (by_value vs) R st f (most + 1) ps (λ v pk l. let e : v ≡ min v (slice_index st.maxes f) = omega (arith, l, is) in ap (value_leaf vs) e) b in
    record {
      parts = built_parts R st f most ps clip h is;
      leaf = built_leaf R st f most ps clip
          (λ v pk l. let e : min v (slice_index st.maxes f) ≡ min most (slice_index st.maxes f) = omega (arith, l, is) in ap (value_leaf vs) e);
    }

-- the node of these parts
pub values_case : (old st new : StoreState) (f r : ℕ) (values ps : List (ℕ × ℕ)) → Grows old st →
    HaveParts st f (λ v pk. value_leaf values (min v (slice_index st.maxes f))) ps →
    HasLeaves new r (λ pk. look st (child_at 0 ps (slice_index pk f)) pk) →
    HasLeaves new r (λ pk. value_leaf values (min (slice_index pk f) (slice_index old.maxes f)))
values_case old st new f r values ps g parts h = record {
  id = h.id;
  leaf = λ pk w.
      h.leaf pk w ∙ parts.leaf (slice_index pk f) pk w
      ∙ ap (λ ms. value_leaf values (min (slice_index pk f) (slice_index ms f))) g.maxes;
}
