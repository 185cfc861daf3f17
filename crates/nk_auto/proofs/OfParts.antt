-- Diagrams of parts: their legs one by one, the states that they are, and the automaton of those.
use Rattle.std.proofs.Common.{◌≡◌, ℕ, zero, suc, ◌+◌, ◌-◌, ◌<◌, ◌≤◌, inl, inr, ⊎_elim, true, false, List, [], ◌∷◌, ◌++◌, All, length, map, get_or, drop, refl, sym, ap, subst, ◌∙◌, arith, drop-cons, replicate}
use Rattle.std.specs.Prelude.{slice_index}
use Rattle.std.specs.List.{range_with_len}
use Rattle.std.proofs.lemmas.List.{get_or_append_left}
use Rattle.std.proofs.lemmas.List.Elements.{All-nil, All-cons, All-head, All-tail}
use Rattle.std.proofs.lemmas.List.FromFn.{length-range_with_len}
use Rattle.nk_field.specs.Act.{applied}
use Rattle.nk_field.specs.Packet.{FieldTable, IsValue}
use Rattle.nk_policy.specs.declared.policy.Pol.{Pol}
use Rattle.nk_policy.specs.Policy.{Policy, Policies, sum_of, seq_of, not_of, star_of, no_part, part, dups_of, numbers_of}
use Rattle.nk_policy.specs.Tree.{tree_of}
use Rattle.nk_policy.specs.Progress.{RecordsAt}
use Rattle.nk_policy.specs.After.{has_dup, after}
use Rattle.nk_policy.specs.Ranges.{IsOverFields}
use Rattle.nk_policy.proofs.DupsOfRuns.{rest_dups}
use Rattle.nk_policy.proofs.Remade.{marked_numbers}
use Rattle.nk_policy.proofs.Splitting.{holds_dup}
use Rattle.nk_policy.proofs.Uses.{assigns_from_uses}
use Rattle.nk_store.specs.StoreState.{StoreState, IsId, look, Grows, HasLeaves}
use Rattle.nk_store.specs.StoreState.{IsOver as IsStoreOver}
use Rattle.nk_apply.specs.Leaves.{merged, aimed, out_to}
use Rattle.nk_apply.specs.Unions.{AreIds}
use Rattle.nk_apply.proofs.Members.{Has, contains_has, has_contains, gathered_has, has_gathered}
use Rattle.nk_deriv.specs.declared.values.Part.{Part}
use Rattle.nk_deriv.specs.declared.values.Parts.{Parts}
use Rattle.nk_deriv.specs.Part.{IsDupFree, AllDupFree, IsBuiltOf, IsLegOf, IsWithin, IsPartOfDerivative}
use Rattle.nk_auto.specs.Automaton.{IsState, IsAutomaton}
use Rattle.nk_auto.specs.Complements.{NegatesPredicates, AllNegatePredicates}
use Rattle.nk_auto.specs.Continued.{IsFit, IsSilent}
use Rattle.nk_auto.specs.OfParts.{IsAimed, IsFitLeg, IsOfPart, AreOfParts, ArePolicyParts, IsDrawable}
use Rattle.nk_auto.specs.Plain.{Sends}
use Rattle.nk_auto.proofs.Sending.{out_of, sends_on, sends_back, union_sends, sends_left, sends_right}
use Rattle.nk_auto.proofs.Silences.{fit_before, packet_before}
use Rattle.nk_auto.proofs.Stating.{no_zero, states_are}

-- the runs without a record end at target 0
pub silent_aimed : (st : StoreState) (d : ℕ) (p : Policy) → IsSilent st d p → IsAimed st d p 0
silent_aimed st d p a = record { id = a.id; sends = a.sends }

-- and at any other target, once the diagram is aimed at it
pub aim_aimed : (st new : StoreState) (d r l : ℕ) (p : Policy) → Grows st new → IsSilent st d p →
    HasLeaves new r (λ pk. aimed l (look st d pk)) → IsAimed new r p l
aim_aimed st new d r l p g a h = record {
  id = h.id;
  sends = λ fit pk y t pk_in.
      let before = packet_before st new pk g pk_in in
      let fits = fit_before st new p g fit in (
        λ s.
            let m : Has (aimed l (look st d pk)) (out_of s.0 t) = subst (λ os. Has os (out_of s.0 t)) (h.leaf pk pk_in.0) (contains_has _ _ s.1) in
            let k = has_gathered (λ o. out_to l o ∷ []) (look st d pk) (out_of s.0 t) m in
            let is : out_to l k.0 ≡ out_of s.0 t = ⊎_elim (λ e. e) (λ n. absurd n) k.2 in
            let act_is : k.0.act ≡ s.0 = ap (λ o. o.act) is in
            let target_is : l ≡ t = ap (λ o. o.target) is in
            let given = (a.sends fits pk y k.0.target before).0 (k.0.act, has_contains _ _ k.1, s.2 ∙ ap (λ f. applied f pk) (sym act_is)) in
            (sym target_is, given.1),
        λ s.
            let sent = (a.sends fits pk y 0 before).1 (refl, s.1) in
            let m : Has (aimed l (look st d pk)) (out_of sent.0 l) = gathered_has (λ o. out_to l o ∷ []) (look st d pk) (out_of sent.0 0) (out_of sent.0 l) (contains_has _ _ sent.1) (inl refl) in
            subst (λ u. Sends new r pk y u) (sym s.0) (sent.0, has_contains _ _ (subst (λ os. Has os (out_of sent.0 l)) (sym (h.leaf pk pk_in.0)) m), sent.2),
      );
}

-- so do legs that fit
legs_before : (old new : StoreState) (legs : List (Pol × ℕ)) → Grows old new → All (IsFitLeg new.maxes) legs → All (IsFitLeg old.maxes) legs
legs_before old new legs g fits = subst (λ m. All (IsFitLeg m) legs) g.maxes fits

-- so does the diagram of a part
pub part_grow : (old new : StoreState) (d : ℕ) (free : Policy) (legs : List (Pol × ℕ)) → Grows old new → IsOfPart old d free legs →
    IsOfPart new d free legs
part_grow old new d free legs g h = record {
  id = g.ids d h.id;
  sends = λ fit fits pk y t r.
      let both = h.sends (fit_before old new free g fit) (legs_before old new legs g fits) pk y t (packet_before old new pk g r) in
      (λ s. both.0 (sends_back old new d pk y t g h.id s), λ s. sends_on old new d pk y t g h.id (both.1 s));
}

-- no legs yet
pub no_legs : (st : StoreState) (d : ℕ) (free : Policy) → IsAimed st d free 0 → IsOfPart st d free []
no_legs st d free a = record {
  id = a.id;
  sends = λ fit fits pk y t pk_in. (
    λ s. inl ((a.sends fit pk y t pk_in).0 s),
    λ s. ⊎_elim (λ e. (a.sends fit pk y t pk_in).1 e) (λ n. absurd n) s,
  );
}

-- one more leg
pub one_more_leg : (st new : StoreState) (a d r : ℕ) (free : Policy) (leg : Pol × ℕ) (legs : List (Pol × ℕ)) → Grows st new →
    IsAimed st a (tree_of leg.0) leg.1 → IsOfPart st d free legs →
    HasLeaves new r (λ pk. merged (look st a pk) (look st d pk)) → IsOfPart new r free (leg ∷ legs)
one_more_leg st new a d r free leg legs g one more h = record {
  id = h.id;
  sends = λ fit fits pk y t pk_in.
      let before = packet_before st new pk g pk_in in
      let first = one.sends (fit_before st new (tree_of leg.0) g (All-head (IsFitLeg new.maxes) leg legs fits)) pk y t before in
      let rest = more.sends (fit_before st new free g fit) (legs_before st new legs g (All-tail (IsFitLeg new.maxes) leg legs fits)) pk y t before in (
        λ s.
            ⊎_elim
            (λ k. let e = first.0 k in inr (inl (sym e.0, e.1)))
            (λ k. ⊎_elim (λ e. inl e) (λ e. inr (inr e)) (rest.0 k))
            (union_sends st new a d r pk y t h pk_in.0 s),
        λ s.
            ⊎_elim
            (λ e. sends_right st new a d r pk y t h pk_in.0 (rest.1 (inl e)))
            (λ e.
            ⊎_elim
            (λ f. sends_left st new a d r pk y t h pk_in.0 (first.1 (sym f.0, f.1)))
            (λ f. sends_right st new a d r pk y t h pk_in.0 (rest.1 (inr f)))
            e)
            s,
      );
}

-- the legs from the place before
pub legs_from : (legs : List (Pol × ℕ)) (i : ℕ) (leg : Pol × ℕ) → 0 < i → i ≤ length legs → leg ≡ get_or legs (i - 1) leg →
    drop (i - 1) legs ≡ leg ∷ drop i legs
legs_from legs i leg some within is =
    let back : suc (i - 1) ≡ i = omega (arith, some) in
    let lt : i - 1 < length legs = omega (arith, some, within) in
    drop-cons legs (i - 1) leg lt ∙ ap (λ x. x ∷ drop (suc (i - 1)) legs) (sym is) ∙ ap (λ n. leg ∷ drop n legs) back

-- the diagram of a part is that of the state whose part it is
pub part_state : (st : StoreState) (d : ℕ) (made : Part) (s : Policy) → IsOfPart st d (tree_of made.free) made.legs → IsPartOfDerivative made s →
    IsFit st.maxes (tree_of made.free) → All (IsFitLeg st.maxes) made.legs → has_dup s 0 ≡ false → IsState st d s
part_state st d made s h is fit fits none = record {
  id = h.id;
  ends = λ pk y pk_in.
      let both = h.sends fit fits pk y 0 pk_in in (
        λ k. ⊎_elim (λ e. (is.ends pk y).0 e.1) (λ e. absurd (no_record pk y ((is.records pk y 0).0 e))) (both.0 k),
        λ k. both.1 (inl (refl, (is.ends pk y).1 k)),
      );
  records = λ pk y l pk_in from.
      let both = h.sends fit fits pk y l pk_in in (
        λ k. ⊎_elim (λ e. absurd (omega (arith, e.0, from))) (λ e. (is.records pk y l).0 e) (both.0 k),
        λ k. both.1 (inr ((is.records pk y l).1 k)),
      );
}
  where
    no_record : (pk y : List ℕ) → RecordsAt s pk [] y 0 → ⊥
    no_record pk y r = let e : false ≡ true = sym none ∙ holds_dup s pk [] y 0 r in cc

mutual
  -- the complements of a dup-free policy are of predicates
  dup_free_negates : (p : Policy) → IsDupFree p → NegatesPredicates p
  dup_free_negates (sum_of ps) h = all_dup_free_negate ps h
  dup_free_negates (seq_of ps) h = all_dup_free_negate ps h
  dup_free_negates (not_of p) h = (h.0, dup_free_negates p h.1)
  dup_free_negates (star_of p) h = dup_free_negates p h
  dup_free_negates p h = tt

  -- so are those of the parts
  all_dup_free_negate : (ps : Policies) → AllDupFree ps → AllNegatePredicates ps
  all_dup_free_negate no_part h = tt
  all_dup_free_negate (part p ps) h = (dup_free_negates p h.0, all_dup_free_negate ps h.1)

-- a value of the fields is one of the store
value_in : (st : StoreState) (fields : FieldTable) (f n : ℕ) → IsStoreOver fields st → IsValue fields f n → n ≤ slice_index st.maxes f
value_in st fields f n over v =
    let same : slice_index st.maxes f ≡ slice_index fields.maxima f =
    ap (λ m. slice_index m f) over.maxes ∙ get_or_append_left fields.maxima (replicate (18 - length fields.maxima) 0) 0 f v.0 in
    subst (λ m. n ≤ m) (sym same) v.1

-- what is made of a policy over the store's fields is fit
made_fit : (st : StoreState) (fields : FieldTable) (p q : Policy) → IsStoreOver fields st → IsOverFields fields p → IsBuiltOf p q →
    IsFit st.maxes q
made_fit st fields p q store over m = (
  dup_free_negates q m.dup_free,
  assigns_from_uses (IsValue fields) (λ f n. n ≤ slice_index st.maxes f) (λ f n v. value_in st fields f n store v) q (m.over fields over),
)

-- so are legs
legs_fit : (st : StoreState) (fields : FieldTable) (p : Policy) (legs : List (Pol × ℕ)) → IsStoreOver fields st → IsOverFields fields p →
    All (IsLegOf p) legs → All (IsFitLeg st.maxes) legs
legs_fit st fields p [] store over h = All-nil (IsFitLeg st.maxes)
legs_fit st fields p (leg ∷ legs) store over h =
    All-cons (IsFitLeg st.maxes) leg legs
    (made_fit st fields p (tree_of leg.0) store over (All-head (IsLegOf p) leg legs h).0)
    (legs_fit st fields p legs store over (All-tail (IsLegOf p) leg legs h))

-- a part of what is made of the policy is that of a state
one_state : (st : StoreState) (fields : FieldTable) (d : ℕ) (made : Part) (p s : Policy) → IsStoreOver fields st → IsOverFields fields p →
    IsOfPart st d (tree_of made.free) made.legs → IsPartOfDerivative made s → IsWithin p made → has_dup s 0 ≡ false → IsState st d s
one_state st fields d made p s store over h is within none =
    part_state st d made s h is
    (made_fit st fields p (tree_of made.free) store over within.free)
    (legs_fit st fields p made.legs store over within.legs)
    none

-- one more diagram at the end
pub one_more_state : (st new : StoreState) (made : List ℕ) (es : List (ℕ × Part)) (d : ℕ) (e : ℕ × Part) → Grows st new →
    AreOfParts st made es → IsOfPart new d (tree_of e.1.free) e.1.legs → AreOfParts new (made ++ d ∷ []) (es ++ e ∷ [])
one_more_state st new [] [] d e g a one = (one, tt)
one_more_state st new [] (x ∷ es) d e g a one = absurd a
one_more_state st new (m ∷ made) [] d e g a one = absurd a
one_more_state st new (m ∷ made) (x ∷ es) d e g a one =
    (part_grow st new m (tree_of x.1.free) x.1.legs g a.0, one_more_state st new made es d e g a.1 one)

-- as many diagrams as parts
many_states : (st : StoreState) (made : List ℕ) (es : List (ℕ × Part)) (ls : List ℕ) → AreOfParts st made es → map (λ e. e.0) es ≡ ls →
    length made ≡ length ls
many_states st [] [] ls a is = ap length is
many_states st [] (x ∷ es) ls a is = absurd a
many_states st (m ∷ made) [] ls a is = absurd a
many_states st (m ∷ made) (x ∷ es) ls a is = ap suc (many_states st made es (map (λ e. e.0) es) a.1 refl) ∙ ap length is

-- what is left after each dup is the state of its part
each_state : (st : StoreState) (fields : FieldTable) (p : Policy) → IsStoreOver fields st → IsOverFields fields p →
    ((l : ℕ) → has_dup (after p l) 0 ≡ false) → (made : List ℕ) (es : List (ℕ × Part)) (from n : ℕ) →
    map (λ e. e.0) es ≡ range_with_len from n → AreOfParts st made es → All (λ e. IsPartOfDerivative e.1 (after p e.0)) es →
    All (λ e. IsWithin p e.1) es → (i : ℕ) → i < n → IsState st (slice_index made i) (after p (from + i))
each_state st fields p store over none made es from zero is a parts within i lt = absurd (omega (arith, lt))
each_state st fields p store over none made [] from (suc n) is a parts within i lt =
    absurd (let e : 0 ≡ suc (length (range_with_len (from + 1) n)) = ap length is in omega (arith, e))
each_state st fields p store over none [] (e ∷ es) from (suc n) is a parts within i lt = absurd a
each_state st fields p store over none (m ∷ made) (e ∷ es) from (suc n) is a parts within zero lt =
    let label : e.0 ≡ from + 0 = ap (λ l. get_or l 0 0) is ∙ omega arith in
    subst (λ l. IsState st m (after p l)) label
    (one_state st fields m e.1 p (after p e.0) store over a.0 (All-head (λ x. IsPartOfDerivative x.1 (after p x.0)) e es parts) (All-head (λ x. IsWithin p x.1) e es within) (none e.0))
each_state st fields p store over none (m ∷ made) (e ∷ es) from (suc n) is a parts within (suc i) lt =
    let next : (from + 1) + i ≡ from + suc i = omega arith in
    subst (λ l. IsState st (slice_index made i) (after p l)) next
    (each_state st fields p store over none made es (from + 1) n (ap (λ l. drop 1 l) is) a.1
    (All-tail (λ x. IsPartOfDerivative x.1 (after p x.0)) e es parts) (All-tail (λ x. IsWithin p x.1) e es within) i (omega (arith, lt)))

-- the diagrams of the parts are the automaton
pub parts_automaton : (old st : StoreState) (start : ℕ) (made all : List ℕ) (parts : Parts) (p : Policy) (first : ℕ) → Grows old st →
    all ≡ start ∷ made → IsOfPart st start (tree_of parts.first.free) parts.first.legs → AreOfParts st made parts.after →
    ArePolicyParts parts p → IsDrawable old p first → IsAutomaton st all first p
parts_automaton old st start made all parts p first g same begun rest are draw =
    subst (λ states. IsAutomaton st states first p) (sym same)
    (states_are st (start ∷ made) first p draw.numbered many
    (one_state st draw.fields start parts.first p p store draw.over begun are.first are.first.within (no_zero p p first draw.from draw.numbered (λ k. k)))
    (λ i lt.
    subst (λ d. IsState st d (after p (first + i))) (sym (following i))
    (each_state st draw.fields p store draw.over (λ l. no_zero p (after p l) first draw.from draw.numbered (λ k. rest_dups p l 0 k)) made parts.after first (dups_of p) labels rest are.after are.within i lt)))
  where
    store : IsStoreOver draw.fields st
    store = record { maxes = g.maxes ∙ draw.store_over.maxes; width = g.width ∙ draw.store_over.width; tag = g.tag ∙ draw.store_over.tag }

    labels : map (λ e. e.0) parts.after ≡ range_with_len first (dups_of p)
    labels = are.labels ∙ ap numbers_of (sym draw.numbered) ∙ marked_numbers p first

    following : (i : ℕ) → slice_index (start ∷ made) (1 + i) ≡ slice_index made i
    following i = let place : 1 + i ≡ suc i = omega arith in ap (λ n. slice_index (start ∷ made) n) place

    many : length (start ∷ made) ≡ 1 + dups_of p
    many = ap suc (many_states st made parts.after (range_with_len first (dups_of p)) rest labels ∙ length-range_with_len first (dups_of p)) ∙ omega arith

-- the diagrams of parts are of the store
made_ids : (st : StoreState) (made : List ℕ) (es : List (ℕ × Part)) → AreOfParts st made es → (k : ℕ) → k < length made →
    IsId st (slice_index made k)
made_ids st [] es a k lt = absurd (omega (arith, lt))
made_ids st (m ∷ made) [] a k lt = absurd a
made_ids st (m ∷ made) (e ∷ es) a zero lt = a.0.id
made_ids st (m ∷ made) (e ∷ es) a (suc k) lt = made_ids st made es a.1 k (omega (arith, lt))

-- so are all
pub all_ids : (st : StoreState) (start : ℕ) (made all : List ℕ) (es : List (ℕ × Part)) → all ≡ start ∷ made → IsId st start →
    AreOfParts st made es → AreIds st all
all_ids st start made all es same id a = subst (AreIds st) (sym same) ids
  where
    ids : AreIds st (start ∷ made)
    ids zero lt = id
    ids (suc k) lt = made_ids st made es a k (omega (arith, lt))
