-- One tag more at the switch where its first link ends.
use Rattle.std.proofs.Common.{◌≡◌, ℕ, zero, suc, ◌+◌, ◌<◌, ◌≤◌, true, false, inl, inr, ⊎_elim, ◌⊎◌, Option, Some, None, List, [], ◌∷◌, ◌++◌, length, get_or, set, refl, sym, ap, subst, ◌∙◌, arith}
use Rattle.std.specs.Prelude.{◌==◌, if◌then◌else◌, nat_lt, map, All, AllPairs}
use Rattle.std.specs.List.{prefix_len}
use Rattle.std.proofs.lemmas.List.Sums.{prefix_len_passes, prefix_len_stops}
use Rattle.std.proofs.lemmas.List.{get_or-map, get_or_default, length-map}
use Rattle.std.proofs.lemmas.Bool.Decides.{nat_tests}
use Rattle.nk_field.proofs.Lists.{In, in_from_contains, contains_from_in, in_either, in_left, in_right, in_mapped, numbers_decided}
use Rattle.nk_field.proofs.Ascending.{Rising, rising_from, increasing_from, members_from_all, all_from_members}
use Rattle.nk_group.specs.declared.switch_tags.SwitchTags.{SwitchTags}
use Rattle.nk_group.specs.Tagged.{set_of_tag}
use Rattle.nk_compile.specs.Comings.{first_end, ComesTo, HasComing, with_tag}
use Rattle.nk_compile.proofs.Reached.{same_some}

-- a greater number after a list that rises
rising_push : (xs : List ℕ) (z : ℕ) → Rising xs → ((y : ℕ) → In xs y → y < z) → Rising (xs ++ z ∷ [])
rising_push [] z r h = ((λ y i. absurd i), tt)
rising_push (x ∷ xs) z r h =
    ((λ y i. ⊎_elim (λ a. r.0 y a) (λ b. ⊎_elim (λ e. subst (λ n. x < n) (sym e) (h x (inl refl))) (λ n. absurd n) b) (in_either xs (z ∷ []) y i)), rising_push xs z r.1 (λ y i. h y (inr i)))

-- at the switch
tag_put : (sw tag : ℕ) (s : SwitchTags) → s.switch ≡ sw → with_tag sw tag s ≡ record { switch = s.switch; tags = s.tags ++ tag ∷ [] }
tag_put sw tag s e =
    let t : s.switch == sw ≡ true = grind (arith, nat_tests, e) in
    ap (λ b. if b then record { switch = s.switch; tags = s.tags ++ tag ∷ [] } else s) t

-- at another one
tag_not_put : (sw tag : ℕ) (s : SwitchTags) → (s.switch ≡ sw → ⊥) → with_tag sw tag s ≡ s
tag_not_put sw tag s ne =
    let t : s.switch == sw ≡ false = grind (arith, nat_tests, ne) in
    ap (λ b. if b then record { switch = s.switch; tags = s.tags ++ tag ∷ [] } else s) t

module _ (ends : List (Option ℕ)) (ss : List (List ℕ)) (tags : List ℕ) where
  -- what comes of the tags so far comes of one more
  comes_on : (i sw t : ℕ) → ComesTo ends ss tags i sw t → ComesTo ends ss tags (i + 1) sw t
  comes_on i sw zero h = tt
  comes_on i sw (suc t) h = (omega (arith, h.0), h.1)

  -- what comes of one more is that tag or came before
  comes_back : (i sw t : ℕ) → ComesTo ends ss tags (i + 1) sw t → ComesTo ends ss tags i sw t ⊎ ((t ≡ i + 1) × (first_end ends (set_of_tag ss tags i) ≡ Some sw))
  comes_back i sw zero h = inl tt
  comes_back i sw (suc t) h = elim (numbers_decided t i) [
    | inl e ↦ inr (omega (arith, e), subst (λ k. first_end ends (set_of_tag ss tags k) ≡ Some sw) e h.1)
    | inr ne ↦ inl (omega (arith, h.0, ne), h.1)
  ]

  -- a tag that comes to no such switch
  pub coming_same : (i : ℕ) (s : SwitchTags) → (first_end ends (set_of_tag ss tags i) ≡ Some s.switch → ⊥) → HasComing ends ss tags i s → HasComing ends ss tags (i + 1) s
  coming_same i s never k = record {
    ascend = k.ascend;
    within = λ j d lt. let a = k.within j d lt in omega (arith, a);
    exactly = λ t. (
      λ c. comes_on i s.switch t ((k.exactly t).0 c),
      λ h. ⊎_elim (λ b. (k.exactly t).1 b) (λ e. absurd (never e.1)) (comes_back i s.switch t h),
    );
  }

  -- a tag that comes to a switch
  pub coming_more : (i sw : ℕ) (s : SwitchTags) → first_end ends (set_of_tag ss tags i) ≡ Some sw → HasComing ends ss tags i s → HasComing ends ss tags (i + 1) (with_tag sw (i + 1) s)
  coming_more i sw s end k = by (numbers_decided s.switch sw)
    where
      longer : SwitchTags
      longer = record { switch = s.switch; tags = s.tags ++ (i + 1) ∷ [] }

      here : s.switch ≡ sw → HasComing ends ss tags (i + 1) longer
      here e = record {
        ascend = increasing_from longer.tags (rising_push s.tags (i + 1) (rising_from s.tags k.ascend) (λ y m. let a = members_from_all (λ t. t ≤ i) s.tags k.within y m in omega (arith, a)));
        within = all_from_members (λ t. t ≤ i + 1) longer.tags (λ t m.
            ⊎_elim
            (λ a. let b = members_from_all (λ t. t ≤ i) s.tags k.within t a in omega (arith, b))
            (λ b. ⊎_elim (λ z. omega (arith, z)) (λ n. absurd n) b)
            (in_either s.tags ((i + 1) ∷ []) t m));
        exactly = λ t. (
          λ c.
              ⊎_elim
              (λ a. comes_on i s.switch t ((k.exactly t).0 (contains_from_in _ _ a)))
              (λ b. ⊎_elim (λ z. last t z) (λ n. absurd n) b)
              (in_either s.tags ((i + 1) ∷ []) t (in_from_contains longer.tags t c)),
          λ h.
              contains_from_in longer.tags t
              (⊎_elim (λ b. in_left s.tags ((i + 1) ∷ []) t (in_from_contains _ _ ((k.exactly t).1 b))) (λ z. in_right s.tags ((i + 1) ∷ []) t (inl z.0)) (comes_back i s.switch t h)),
        );
      }
        where
          last : (t : ℕ) → t ≡ i + 1 → ComesTo ends ss tags (i + 1) s.switch t
          last zero z = absurd (omega (arith, z))
          last (suc t) z =
              let same : t ≡ i = omega (arith, z) in
              (omega (arith, same), subst (λ j. first_end ends (set_of_tag ss tags j) ≡ Some s.switch) (sym same) (end ∙ ap Some (sym e)))

      by : (s.switch ≡ sw) ⊎ (s.switch ≡ sw → ⊥) → HasComing ends ss tags (i + 1) (with_tag sw (i + 1) s)
      by (inl e) = subst (HasComing ends ss tags (i + 1)) (sym (tag_put sw (i + 1) s e)) (here e)
      by (inr ne) =
          subst (HasComing ends ss tags (i + 1)) (sym (tag_not_put sw (i + 1) s ne))
          (coming_same i s (λ f. ne (same_some s.switch sw (sym f ∙ end))) k)

  -- all switches with one tag more
  pub all_more : (i sw : ℕ) (all : List SwitchTags) → first_end ends (set_of_tag ss tags i) ≡ Some sw → All (HasComing ends ss tags i) all → All (HasComing ends ss tags (i + 1)) (map (with_tag sw (i + 1)) all)
  all_more i sw all end k = all_from_members (HasComing ends ss tags (i + 1)) (map (with_tag sw (i + 1)) all) (there all (λ s m. members_from_all (HasComing ends ss tags i) all k s m))
    where
      there : (xs : List SwitchTags) → ((s : SwitchTags) → In xs s → HasComing ends ss tags i s) → (s : SwitchTags) → In (map (with_tag sw (i + 1)) xs) s → HasComing ends ss tags (i + 1) s
      there [] h s m = absurd m
      there (x ∷ xs) h s (inl e) = subst (HasComing ends ss tags (i + 1)) (sym e) (coming_more i sw x end (h x (inl refl)))
      there (x ∷ xs) h s (inr m) = there xs (λ y n. h y (inr n)) s m

  -- or none
  pub all_same : (i : ℕ) (all : List SwitchTags) → first_end ends (set_of_tag ss tags i) ≡ None → All (HasComing ends ss tags i) all → All (HasComing ends ss tags (i + 1)) all
  all_same i all none k j d lt = coming_same i (get_or all j d) (λ f. let z : None ≡ Some (get_or all j d).switch = sym none ∙ f in cc) (k j d lt)

-- the switches stay
pub switches_stay : (sw tag : ℕ) (all : List SwitchTags) → map (λ (s : SwitchTags). s.switch) (map (with_tag sw tag) all) ≡ map (λ (s : SwitchTags). s.switch) all
switches_stay sw tag [] = refl
switches_stay sw tag (s ∷ all) =
    ap (λ n. n ∷ map (λ (x : SwitchTags). x.switch) (map (with_tag sw tag) all)) (by (numbers_decided s.switch sw)) ∙ ap (λ l. s.switch ∷ l) (switches_stay sw tag all)
  where
    by : (s.switch ≡ sw) ⊎ (s.switch ≡ sw → ⊥) → (with_tag sw tag s).switch ≡ s.switch
    by (inl e) = ap (λ (x : SwitchTags). x.switch) (tag_put sw tag s e)
    by (inr ne) = ap (λ (x : SwitchTags). x.switch) (tag_not_put sw tag s ne)

-- where no switch is the one, nothing is put
pub none_put : (sw tag : ℕ) (all : List SwitchTags) → ((s : SwitchTags) → In all s → s.switch ≡ sw → ⊥) → map (with_tag sw tag) all ≡ all
none_put sw tag [] h = refl
none_put sw tag (s ∷ all) h = ap (λ x. x ∷ map (with_tag sw tag) all) (tag_not_put sw tag s (h s (inl refl))) ∙ ap (λ l. s ∷ l) (none_put sw tag all (λ x i. h x (inr i)))

-- where one is, at its place
pub one_put : (sw tag place : ℕ) (all : List SwitchTags) (d : SwitchTags) → Rising (map (λ (s : SwitchTags). s.switch) all) → place < length all → (get_or all place d).switch ≡ sw →
    set all place (record { switch = (get_or all place d).switch; tags = (get_or all place d).tags ++ tag ∷ [] }) ≡ map (with_tag sw tag) all
one_put sw tag place [] d r lt e = absurd (omega (arith, lt))
one_put sw tag zero (s ∷ all) d r lt e =
    ap (λ l. record { switch = s.switch; tags = s.tags ++ tag ∷ [] } ∷ l)
    (sym (none_put sw tag all (λ x i f. let a = r.0 x.switch (in_mapped (λ (y : SwitchTags). y.switch) all x i) in omega (arith, a, e, f))))
    ∙ ap (λ x. x ∷ map (with_tag sw tag) all) (sym (tag_put sw tag s e))
one_put sw tag (suc place) (s ∷ all) d r lt e =
    let inside : place < length all = omega (arith, lt) in
    let member : In all (get_or all place d) = there all place inside in
    let a = r.0 (get_or all place d).switch (in_mapped (λ (y : SwitchTags). y.switch) all (get_or all place d) member) in
    ap (λ l. s ∷ l) (one_put sw tag place all d r.1 inside e)
    ∙ ap (λ x. x ∷ map (with_tag sw tag) all) (sym (tag_not_put sw tag s (λ f. omega (arith, a, e, f))))
  where
    there : (xs : List SwitchTags) (i : ℕ) → i < length xs → In xs (get_or xs i d)
    there [] i l = absurd (omega (arith, l))
    there (x ∷ xs) zero l = inl refl
    there (x ∷ xs) (suc i) l = inr (there xs i (omega (arith, l)))

-- a number that isn't at the place where it would stand is nowhere
pub not_there : (xs : List ℕ) (n i : ℕ) → AllPairs (λ p q. p < q) xs → i ≡ prefix_len (λ m. nat_lt m n) xs → (i < length xs → get_or xs i 0 ≡ n → ⊥) →
    (k : ℕ) → k < length xs → get_or xs k 0 ≡ n → ⊥
not_there xs n i up e other k lt at = elim (numbers_decided k i) [
  | inl same ↦ other (subst (λ j. j < length xs) same lt) (ap (λ j. get_or xs j 0) (sym same) ∙ at)
  | inr ne ↦ ⊎_elim (λ less. before less) (λ more. following more) (either k i ne)
]
  where
    either : (a b : ℕ) → (a ≡ b → ⊥) → (a < b) ⊎ (b < a)
    either zero zero never = absurd (never refl)
    either zero (suc b) never = inl (omega arith)
    either (suc a) zero never = inr (omega arith)
    either (suc a) (suc b) never = ⊎_elim (λ l. inl (omega (arith, l))) (λ l. inr (omega (arith, l))) (either a b (λ f. never (ap suc f)))

    before : k < i → ⊥
    before less =
        let within : k < prefix_len (λ m. nat_lt m n) xs = omega (arith, less, e) in
        let passes : nat_lt (get_or xs k 0) n ≡ true = prefix_len_passes (λ m. nat_lt m n) xs k 0 within in
        grind (arith, nat_tests, passes, at)

    following : i < k → ⊥
    following more =
        let r = up i k 0 more lt in
        let within : prefix_len (λ m. nat_lt m n) xs < length xs = omega (arith, more, lt, e) in
        let switch_entry : nat_lt (get_or xs i 0) n ≡ false = subst (λ j. nat_lt (get_or xs j 0) n ≡ false) (sym e) (prefix_len_stops (λ m. nat_lt m n) xs 0 within) in
        grind (arith, nat_tests, switch_entry, r, at)

-- where the switch isn't there
pub none_put_at : (sw tag : ℕ) (all : List SwitchTags) (switches : List ℕ) → map (λ (s : SwitchTags). s.switch) all ≡ switches → ((k : ℕ) → k < length switches → get_or switches k 0 ≡ sw → ⊥) →
    map (with_tag sw tag) all ≡ all
none_put_at sw tag all switches same none =
    none_put sw tag all (λ s i e.
    let c = contains_from_in (map (λ (x : SwitchTags). x.switch) all) s.switch (in_mapped (λ (x : SwitchTags). x.switch) all s i) in
    let at : get_or (map (λ (x : SwitchTags). x.switch) all) c.0 0 ≡ s.switch = get_or_default (map (λ (x : SwitchTags). x.switch) all) c.0 0 s.switch c.1 ∙ c.2 in
    none c.0 (subst (λ l. c.0 < length l) same c.1) (ap (λ l. get_or l c.0 0) (sym same) ∙ at ∙ e))

-- and where it is
pub one_put_at : (sw tag place : ℕ) (all new : List SwitchTags) (switches : List ℕ) → map (λ (s : SwitchTags). s.switch) all ≡ switches → AllPairs (λ p q. p < q) switches →
    (place < length switches) × (get_or switches place 0 ≡ sw) → ((s : SwitchTags) → new ≡ set all place (record { switch = (get_or all place s).switch; tags = (get_or all place s).tags ++ tag ∷ [] })) →
    new ≡ map (with_tag sw tag) all
one_put_at sw tag place all new switches same up found is =
    let d : SwitchTags = record { switch = 0; tags = [] } in
    let up' : AllPairs (λ p q. p < q) (map (λ (s : SwitchTags). s.switch) all) = subst (AllPairs (λ p q. p < q)) (sym same) up in
    let rises : Rising (map (λ (s : SwitchTags). s.switch) all) = rising_from (map (λ (s : SwitchTags). s.switch) all) (λ k lt. let one : k < k + 1 = omega arith in up' k (k + 1) 0 one lt) in
    let inside : place < length all = subst (λ n. place < n) (length-map all (λ (s : SwitchTags). s.switch)) (subst (λ l. place < length l) (sym same) found.0) in
    let here : (get_or all place d).switch ≡ sw = sym (get_or-map (λ (s : SwitchTags). s.switch) all place d 0 inside) ∙ ap (λ l. get_or l place 0) same ∙ found.1 in
    is d ∙ one_put sw tag place all d rises inside here
