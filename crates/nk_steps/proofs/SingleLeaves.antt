-- The steps of a leaf that has one label at most.
use Rattle.std.proofs.Common.{◌≡◌, ℕ, ◌+◌, ◌<◌, ◌||◌, ◌&&◌, Bool, true, false, cond, eqb, inl, inr, refl, sym, ◌∙◌, ap, subst, arith, List, [], ◌∷◌, ◌++◌}
use Rattle.std.proofs.lemmas.Bool.Decides.{nat_tests}
use Rattle.std.specs.List.{flat_map, list_all}
use Rattle.std.specs.Cmp.{nat_cmp_is}
use Rattle.std.specs.Ordering.{ordering_then}
use Rattle.std.specs.declared.cmp.Ordering.TheVariants.{Less, Equal}
use Rattle.nk_field.specs.contracts.act.ActOrd.TheImpl.{ghosts}
use Rattle.nk_store.specs.declared.node.Out.{Out}
use Rattle.nk_store.specs.Leaves.{out_cmp, Every, Strict, Suits}
use Rattle.nk_store.specs.StoreState.{StoreState, IsLeaf}
use Rattle.nk_apply.proofs.Members.{Has, has_contains, contains_has, every_has, every_from}
use Rattle.nk_determ.specs.Sets.{SetsGrow, holds, place_in}
use Rattle.nk_determ.proofs.Interned.{holds_grow, sets_same}
use Rattle.nk_steps.specs.Single.{step_to, single_to, IsSingleIn, AreSteps, AreLeafSteps}

-- outs with one target stay in order with another one
same_targets : (x y : Out) (t u : ℕ) → x.target ≡ y.target → t ≡ u → out_cmp x y ≡ Less → out_cmp (record { act = x.act; target = t }) (record { act = y.act; target = u }) ≡ Less
same_targets x y t u e q h = ap (λ r. ordering_then (ghosts.cmp x.act y.act) r) (sym (nat_cmp_is t u Equal q) ∙ nat_cmp_is x.target y.target Equal e) ∙ h

module _ (T : Out → ℕ) where
  -- the outs that are no finals, each to the target that T gives
  abbrev pub stepped : List Out → List Out
  stepped os = flat_map (λ o. step_to (T o) o) os

  -- each of those is made of an out that is no final
  pub stepped_has : (os : List Out) (y : Out) → Has (stepped os) y → (p : Out) × Has os p × (0 < p.target) × (record { act = p.act; target = T p } ≡ y)
  stepped_has [] y h = absurd h
  stepped_has (o ∷ os) y h = by (eqb o.target 0) refl (stepped_has os y) h
    where
      Made : List Out → Type 0
      Made xs = (p : Out) × Has xs p × (0 < p.target) × (record { act = p.act; target = T p } ≡ y)

      further : Made os → Made (o ∷ os)
      further r = (r.0, inr r.1, r.2, r.3)

      by : (b : Bool) → eqb o.target 0 ≡ b → (Has (stepped os) y → Made os) → Has (cond b [] (record { act = o.act; target = T o } ∷ []) ++ stepped os) y → Made (o ∷ os)
      by true e ih k = further (ih k)
      by false e ih (inl is) = let l : 0 < o.target = grind (arith, nat_tests, e) in (o, inl refl, l, is)
      by false e ih (inr k) = further (ih k)

  -- and each of these gives one
  pub has_stepped : (os : List Out) (p : Out) → 0 < p.target → Has os p → Has (stepped os) (record { act = p.act; target = T p })
  has_stepped [] p l h = absurd h
  has_stepped (o ∷ os) p l h = by (eqb o.target 0) refl (has_stepped os p l) h
    where
      made : Out
      made = record { act = p.act; target = T p }

      by : (b : Bool) → eqb o.target 0 ≡ b → (Has os p → Has (stepped os) made) → Has (o ∷ os) p → Has (cond b [] (record { act = o.act; target = T o } ∷ []) ++ stepped os) made
      by true e ih (inl is) = let t : o.target ≡ p.target = ap (λ (x : Out). x.target) is in let z : o.target ≡ 0 = grind (arith, nat_tests, e) in absurd (omega (arith, l, t, z))
      by true e ih (inr k) = ih k
      by false e ih (inl is) = inl (ap (λ (x : Out). record { act = x.act; target = T x }) is)
      by false e ih (inr k) = inr (ih k)

  -- they suit the highest values
  pub stepped_suits : (maxes : List ℕ) (os : List Out) → Every (Suits maxes) os → Every (Suits maxes) (stepped os)
  stepped_suits maxes os e = every_from (Suits maxes) (stepped os) (λ y h. let r = stepped_has os y h in subst (Suits maxes) r.3 (every_has (Suits maxes) os r.0 e r.1))

  -- where all are finals there is none
  pub stepped_none : (os : List Out) → ((p : Out) → Has os p → 0 < p.target → ⊥) → stepped os ≡ []
  stepped_none [] n = refl
  stepped_none (o ∷ os) n = by (eqb o.target 0) refl (stepped_none os (λ p h. n p (inr h)))
    where
      by : (b : Bool) → eqb o.target 0 ≡ b → stepped os ≡ [] → cond b [] (record { act = o.act; target = T o } ∷ []) ++ stepped os ≡ []
      by true e k = k
      by false e k = let l : 0 < o.target = grind (arith, nat_tests, e) in absurd (n o (inl refl) l)

-- targets that are the same for each out that is no final give the same steps
pub stepped_same : (T U : Out → ℕ) (os : List Out) → ((p : Out) → Has os p → 0 < p.target → T p ≡ U p) → stepped T os ≡ stepped U os
stepped_same T U [] f = refl
stepped_same T U (o ∷ os) f = by (eqb o.target 0) refl (stepped_same T U os (λ p h. f p (inr h)))
  where
    by : (b : Bool) → eqb o.target 0 ≡ b → stepped T os ≡ stepped U os →
        cond b [] (record { act = o.act; target = T o } ∷ []) ++ stepped T os ≡ cond b [] (record { act = o.act; target = U o } ∷ []) ++ stepped U os
    by true e k = k
    by false e k =
        let l : 0 < o.target = grind (arith, nat_tests, e) in
        let same : T o ≡ U o = f o (inl refl) l in
        ap (λ t. record { act = o.act; target = t } ∷ stepped T os) same ∙ ap (λ (xs : List Out). record { act = o.act; target = U o } ∷ xs) k

-- the steps of a leaf with one label ascend
stepped_strict : (T : Out → ℕ) (os : List Out) → Strict os → ((o p : Out) → Has os o → Has os p → 0 < o.target → 0 < p.target → (o.target ≡ p.target) × (T o ≡ T p)) → Strict (stepped T os)
stepped_strict T [] s one = tt
stepped_strict T (o ∷ os) s one = by (eqb o.target 0) refl (stepped_strict T os s.1 (λ a b ha hb. one a b (inr ha) (inr hb)))
  where
    first : Out
    first = record { act = o.act; target = T o }

    before : 0 < o.target → (y : Out) → Has (stepped T os) y → out_cmp first y ≡ Less
    before l y h =
        let r = stepped_has T os y h in
        let same = one o r.0 (inl refl) (inr r.1) l r.2 in
        subst (λ z. out_cmp first z ≡ Less) r.3 (same_targets o r.0 (T o) (T r.0) same.0 same.1 (every_has (λ z. out_cmp o z ≡ Less) os r.0 s.0 r.1))

    by : (b : Bool) → eqb o.target 0 ≡ b → Strict (stepped T os) → Strict (cond b [] (first ∷ []) ++ stepped T os)
    by true e k = k
    by false e k = let l : 0 < o.target = grind (arith, nat_tests, e) in (every_from (λ y. out_cmp first y ≡ Less) (stepped T os) (before l), k)

-- where each out is a final or has that label, an out that is no final has it
pub only_label : (label : ℕ) (os : List Out) → list_all (λ o. eqb o.target 0 || eqb o.target label) os ≡ true → (p : Out) → Has os p → 0 < p.target → p.target ≡ label
only_label label [] e p h l = absurd h
only_label label (o ∷ os) e p h l = by (eqb o.target 0) refl (eqb o.target label) refl e h (λ k m. only_label label os k p m l)
  where
    rest : Bool
    rest = list_all (λ q. eqb q.target 0 || eqb q.target label) os

    by : (a : Bool) → eqb o.target 0 ≡ a → (b : Bool) → eqb o.target label ≡ b → ((a || b) && rest) ≡ true → Has (o ∷ os) p → (rest ≡ true → Has os p → p.target ≡ label) → p.target ≡ label
    by true ea b eb k (inl is) go = let t : o.target ≡ p.target = ap (λ (x : Out). x.target) is in let z : o.target ≡ 0 = grind (arith, nat_tests, ea) in absurd (omega (arith, l, t, z))
    by true ea b eb k (inr m) go = go k m
    by false ea true eb k (inl is) go = let t : o.target ≡ p.target = ap (λ (x : Out). x.target) is in let z : o.target ≡ label = grind (arith, nat_tests, eb) in sym t ∙ z
    by false ea true eb k (inr m) go = go k m
    by false ea false eb k m go = cc

-- a leaf whose only label stands alone as one of the sets
pub single_in : (sets : List (List ℕ)) (label : ℕ) (os : List Out) → ((p : Out) → Has os p → 0 < p.target → p.target ≡ label) → ((p : Out) → Has os p → 0 < p.target → holds sets (label ∷ []) ≡ true) → IsSingleIn sets os
single_in sets label os only held = record {
  one = λ o p co cp lo lp. only o (contains_has os o co) lo ∙ sym (only p (contains_has os p cp) lp);
  there = λ o c l. subst (λ t. holds sets (t ∷ []) ≡ true) (sym (only o (contains_has os o c) l)) (held o (contains_has os o c) l);
}

-- it stays so among more sets
pub single_grow : (sets more : List (List ℕ)) (os : List Out) → SetsGrow sets more → IsSingleIn sets os → IsSingleIn more os
single_grow sets more os g k = record { one = k.one; there = λ o c l. holds_grow sets more (o.target ∷ []) g (k.there o c l) }

-- the steps of outs with one label, which its set stands for
pub steps_of_label : (sets : List (List ℕ)) (label t : ℕ) (os r : List Out) → list_all (λ o. eqb o.target 0 || eqb o.target label) os ≡ true → holds sets (label ∷ []) ≡ true →
    ((later : List (List ℕ)) → SetsGrow sets later → t ≡ place_in later (label ∷ []) + 1) → r ≡ flat_map (step_to t) os → AreSteps sets os r
steps_of_label sets label t os r e held target is = record {
  steps = λ later g. is ∙ stepped_same (λ _. t) (λ o. place_in later (o.target ∷ []) + 1) os (λ p h l. target later g ∙ ap (λ k. place_in later (k ∷ []) + 1) (sym (only_label label os e p h l)));
  single = single_in sets label os (only_label label os e) (λ p h l. held);
}

-- where all are finals there are no steps
pub steps_of_finals : (sets : List (List ℕ)) (label : ℕ) (os : List Out) → list_all (λ o. eqb o.target 0 || eqb o.target label) os ≡ true → label ≡ 0 → AreSteps sets os []
steps_of_finals sets label os e z = record {
  steps = λ later g. sym (stepped_none (λ o. place_in later (o.target ∷ []) + 1) os none);
  single = single_in sets label os (only_label label os e) (λ p h l. absurd (none p h l));
}
  where
    none : (p : Out) → Has os p → 0 < p.target → ⊥
    none p h l = let t : p.target ≡ label = only_label label os e p h l in omega (arith, t, z, l)

-- the steps among a leaf's outs can be made a leaf
pub leaf_steps_of : (st : StoreState) (d : ℕ) (sets : List (List ℕ)) (outs items r : List Out) → IsLeaf st d outs → items ≡ outs → AreSteps sets items r → AreLeafSteps st d sets r
leaf_steps_of st d sets outs items r leaf same k = record {
  leaf = leaf.root_field_is;
  steps = λ pk. subst (λ os. AreSteps sets os r) (sym (leaf.leaf pk ∙ sym same)) k;
  sorted = subst Strict (sym is) (stepped_strict T outs leaf.sorted one);
  suits = subst (Every (Suits st.maxes)) (sym is) (stepped_suits T st.maxes outs leaf.suits);
}
  where
    T : Out → ℕ
    T o = place_in sets (o.target ∷ []) + 1

    is : r ≡ single_to sets outs
    is = k.steps sets (sets_same sets) ∙ ap (single_to sets) same

    one : (o p : Out) → Has outs o → Has outs p → 0 < o.target → 0 < p.target → (o.target ≡ p.target) × (T o ≡ T p)
    one o p ho hp lo lp =
        let among = subst (IsSingleIn sets) same k.single in
        let e : o.target ≡ p.target = among.one o p (has_contains outs o ho) (has_contains outs p hp) lo lp in
        (e, ap (λ t. place_in sets (t ∷ []) + 1) e)
