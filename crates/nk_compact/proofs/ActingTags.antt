-- Which tags act for a class at a switch: the first of those of the class that come there at whose packets the packet is, else that of
-- the class's first member; and which classes a switch has.
use Rattle.std.proofs.Common.{◌≡◌, ◌≢◌, ℕ, zero, suc, ◌+◌, ◌<◌, ◌≤◌, ◌⊎◌, inl, inr, ⊎_elim, Bool, true, false, cond, eqb, List, [], ◌∷◌, ◌++◌, length, get_or, take, refl, sym, ap, subst, ◌∙◌, arith}
use Rattle.std.specs.Prelude.{map, slice_index, slice_set}
use Rattle.std.proofs.lemmas.List.{take_more}
use Rattle.std.proofs.lemmas.Bool.Decides.{nat_tests}
use Rattle.nk_field.proofs.Lists.{In, in_either, in_left, in_right, in_mapped, from_mapped, map_joined}
use Rattle.nk_field.proofs.Ascending.{Rising}
use Rattle.nk_store.specs.StoreState.{StoreState}
use Rattle.nk_apply.specs.PacketSets.{is_in}
use Rattle.nk_group.specs.declared.switch_tags.ActingTag.{ActingTag}
use Rattle.nk_group.specs.declared.switch_tags.ClassHere.{ClassHere}
use Rattle.nk_group.specs.Classed.{acting_tag}
use Rattle.nk_compact.specs.ClassesAtSwitches.{is_of_class, packets_of, acting_of, class_among, classes_among}

module _ (classes met : List ℕ) (c : ℕ) where
  -- of tags after others
  acting_append : (xs ys : List ℕ) → acting_of classes met c (xs ++ ys) ≡ acting_of classes met c xs ++ acting_of classes met c ys
  acting_append [] ys = refl
  acting_append (x ∷ xs) ys = by (is_of_class classes c x) (acting_append xs ys)
    where
      by : (b : Bool) → acting_of classes met c (xs ++ ys) ≡ acting_of classes met c xs ++ acting_of classes met c ys
          → cond b (record { tag = x; packets = packets_of met x } ∷ acting_of classes met c (xs ++ ys)) (acting_of classes met c (xs ++ ys))
          ≡ cond b (record { tag = x; packets = packets_of met x } ∷ acting_of classes met c xs) (acting_of classes met c xs) ++ acting_of classes met c ys
      by true e = ap (λ l. record { tag = x; packets = packets_of met x } ∷ l) e
      by false e = e

  -- one more tag
  pub acting_more : (tags : List ℕ) (i : ℕ) → i < length tags → acting_of classes met c (take (i + 1) tags) ≡ acting_of classes met c (take i tags) ++ acting_of classes met c (get_or tags i 0 ∷ [])
  acting_more tags i lt = ap (acting_of classes met c) (take_more tags i 0 lt) ∙ acting_append (take i tags) (get_or tags i 0 ∷ [])

  -- each tag that acts comes to the switch and is of the class
  pub acting_from : (tags : List ℕ) (a : ActingTag) → In (acting_of classes met c tags) a → (i : ℕ) × (a.tag ≡ suc i) × (a.packets ≡ slice_index met i) × In tags (suc i) × (slice_index classes i ≡ c)
  acting_from [] a h = absurd h
  acting_from (zero ∷ ts) a h = let r = acting_from ts a h in (r.0, r.1, r.2, inr r.3, r.4)
  acting_from (suc i ∷ ts) a h = by (eqb (slice_index classes i) c) refl h (λ k. acting_from ts a k)
    where
      by : (b : Bool) → eqb (slice_index classes i) c ≡ b → In (cond b (record { tag = suc i; packets = slice_index met i } ∷ acting_of classes met c ts) (acting_of classes met c ts)) a
          → (In (acting_of classes met c ts) a → (j : ℕ) × (a.tag ≡ suc j) × (a.packets ≡ slice_index met j) × In ts (suc j) × (slice_index classes j ≡ c))
          → (j : ℕ) × (a.tag ≡ suc j) × (a.packets ≡ slice_index met j) × In (suc i ∷ ts) (suc j) × (slice_index classes j ≡ c)
      by true e k more =
          ⊎_elim
          (λ s. (i, ap (λ (q : ActingTag). q.tag) s, ap (λ (q : ActingTag). q.packets) s, inl refl, let same : slice_index classes i ≡ c = grind (arith, nat_tests, e) in same))
          (λ s. let r = more s in (r.0, r.1, r.2, inr r.3, r.4))
          k
      by false e k more = let r = more k in (r.0, r.1, r.2, inr r.3, r.4)

  -- and each one that comes there and is of the class acts
  pub acting_some : (tags : List ℕ) (i : ℕ) → In tags (suc i) → slice_index classes i ≡ c → acting_of classes met c tags ≡ [] → ⊥
  acting_some [] i h e = λ n. h
  acting_some (zero ∷ ts) i h e = ⊎_elim (λ z. absurd cc) (λ k. acting_some ts i k e) h
  acting_some (suc j ∷ ts) i h e = by (eqb (slice_index classes j) c) refl (λ k. acting_some ts i k e)
    where
      by : (b : Bool) → eqb (slice_index classes j) c ≡ b → (In ts (suc i) → acting_of classes met c ts ≡ [] → ⊥)
          → cond b (record { tag = suc j; packets = slice_index met j } ∷ acting_of classes met c ts) (acting_of classes met c ts) ≡ [] → ⊥
      by true t more n = absurd cc
      by false t more n =
          ⊎_elim
          (λ s. let same : i ≡ j = omega (arith, s) in let other : slice_index classes j ≡ c = ap (slice_index classes) (sym same) ∙ e in grind (arith, nat_tests, t, other))
          (λ k. more k n)
          h

  module _ (st : StoreState) (tag other : ℕ) (pk : List ℕ) where
    -- the packet is met under the tag at the place
    abbrev IsMetAt : ℕ → Type 0
    IsMetAt i = is_in st (slice_index met i) (slice_set pk tag 0) ≡ true

    -- the place of a tag of the class that comes there, under which the packet is met, and it is the first
    pub record IsFirstMet (tags : List ℕ) (t : ℕ) : Type 0 where
      pub place : ℕ
      pub tag_is : t ≡ suc place
      pub comes : In tags (suc place)
      pub class_is : slice_index classes place ≡ c
      pub met_is : IsMetAt place
      pub first : (j : ℕ) → In tags (suc j) → slice_index classes j ≡ c → IsMetAt j → j < place → ⊥

    -- there is none
    abbrev pub IsNoneMet : List ℕ → Type 0
    IsNoneMet tags = (j : ℕ) → In tags (suc j) → slice_index classes j ≡ c → IsMetAt j → ⊥

    -- which of both it is
    pub acting_is : (tags : List ℕ) → Rising tags → IsFirstMet tags (acting_tag st tag (acting_of classes met c tags) other pk) ⊎ ((acting_tag st tag (acting_of classes met c tags) other pk ≡ other) × IsNoneMet tags)
    acting_is [] r = inr (refl, λ j h. absurd h)
    acting_is (zero ∷ ts) r =
        ⊎_elim
        (λ f. inl record {
          place = f.place;
          tag_is = f.tag_is;
          comes = inr f.comes;
          class_is = f.class_is;
          met_is = f.met_is;
          first = λ j h e m lt. ⊎_elim (λ z. absurd cc) (λ k. f.first j k e m lt) h;
        })
        (λ n. inr (n.0, λ j h e m. ⊎_elim (λ z. absurd cc) (λ k. n.1 j k e m) h))
        (acting_is ts r.1)
    acting_is (suc i ∷ ts) r = by (eqb (slice_index classes i) c) refl (is_in st (slice_index met i) (slice_set pk tag 0)) refl (acting_is ts r.1)
      where
        later : slice_index classes i ≢ c ⊎ (IsMetAt i → ⊥) → (t : ℕ)
            → IsFirstMet ts t ⊎ ((t ≡ other) × IsNoneMet ts) → IsFirstMet (suc i ∷ ts) t ⊎ ((t ≡ other) × IsNoneMet (suc i ∷ ts))
        later not t (inl f) = inl record {
          place = f.place;
          tag_is = f.tag_is;
          comes = inr f.comes;
          class_is = f.class_is;
          met_is = f.met_is;
          first = λ j h e m lt. ⊎_elim (λ s. let same : j ≡ i = omega (arith, s) in ⊎_elim (λ n. n (subst (λ k. slice_index classes k ≡ c) same e)) (λ n. n (subst IsMetAt same m)) not) (λ k. f.first j k e m lt) h;
        }
        later not t (inr n) = inr (n.0, λ j h e m. ⊎_elim (λ s. let same : j ≡ i = omega (arith, s) in ⊎_elim (λ q. q (subst (λ k. slice_index classes k ≡ c) same e)) (λ q. q (subst IsMetAt same m)) not) (λ k. n.1 j k e m) h)

        rest : ℕ
        rest = acting_tag st tag (acting_of classes met c ts) other pk

        by : (b : Bool) → eqb (slice_index classes i) c ≡ b → (d : Bool) → is_in st (slice_index met i) (slice_set pk tag 0) ≡ d
            → IsFirstMet ts (acting_tag st tag (acting_of classes met c ts) other pk) ⊎ ((acting_tag st tag (acting_of classes met c ts) other pk ≡ other) × IsNoneMet ts)
            → IsFirstMet (suc i ∷ ts) (acting_tag st tag (cond b (record { tag = suc i; packets = slice_index met i } ∷ acting_of classes met c ts) (acting_of classes met c ts)) other pk)
            ⊎ ((acting_tag st tag (cond b (record { tag = suc i; packets = slice_index met i } ∷ acting_of classes met c ts) (acting_of classes met c ts)) other pk ≡ other) × IsNoneMet (suc i ∷ ts))
        by false e d m more =
            let ne : slice_index classes i ≢ c = λ s. grind (arith, nat_tests, e, s) in
            later (inl ne) (acting_tag st tag (acting_of classes met c ts) other pk) more
        by true e true m more =
            inl record {
              place = i;
              tag_is = ap (λ b. cond b (suc i) (acting_tag st tag (acting_of classes met c ts) other pk)) m;
              comes = inl refl;
              class_is = let same : slice_index classes i ≡ c = grind (arith, nat_tests, e) in same;
              met_is = m;
              first = λ j h q n lt. ⊎_elim (λ s. omega (arith, s, lt)) (λ k. let up = r.0 (suc j) k in omega (arith, up, lt)) h;
            }
        by true e false m more =
            let no_more : IsMetAt i → ⊥ = λ n. never (sym m ∙ n) in
            subst
            (λ t. IsFirstMet (suc i ∷ ts) t ⊎ ((t ≡ other) × IsNoneMet (suc i ∷ ts)))
            (sym (ap (λ b. cond b (suc i) (acting_tag st tag (acting_of classes met c ts) other pk)) m))
            (later (inr no_more) (acting_tag st tag (acting_of classes met c ts) other pk) more)
          where
            never : false ≡ true → ⊥
            never z = cc

-- ---- the classes of a switch

module _ (classes met firsts tags : List ℕ) where
  -- a class of a switch is 0, or some tag acts for it
  pub record IsClassOf (h : ClassHere) : Type 0 where
    pub low : ℕ
    pub class_is : h.class ≡ suc low
    pub acting_are : h.acting ≡ acting_of classes met (suc low) tags
    pub other_is : h.other ≡ slice_index firsts low + 1
    pub some : acting_of classes met (suc low) tags ≡ [] → ⊥

  abbrev pub IsStartClass : ClassHere → Type 0
  IsStartClass h = h ≡ record { class = 0; acting = []; other = 0 }

  -- a class that some tag acts for
  one_among : (acting : List ActingTag) (c other : ℕ) (h : ClassHere) → In (class_among acting c other) h → (h ≡ record { class = c; acting = acting; other = other }) × (acting ≡ [] → ⊥)
  one_among [] c other h i = absurd i
  one_among (a ∷ more) c other h i = ⊎_elim (λ e. (e, λ n. absurd cc)) (λ n. absurd n) i

  one_there : (acting : List ActingTag) (c other : ℕ) → (acting ≡ [] → ⊥) → In (class_among acting c other) record { class = c; acting = acting; other = other }
  one_there [] c other some = absurd (some refl)
  one_there (a ∷ more) c other some = inl refl

  -- what each class of a switch is
  pub class_from : (n : ℕ) (h : ClassHere) → In (classes_among classes met firsts tags n) h → IsStartClass h ⊎ ((k : IsClassOf h) × (k.low < n))
  class_from zero h i = ⊎_elim (λ e. inl e) (λ n. absurd n) i
  class_from (suc n) h i =
      ⊎_elim
      (λ a. ⊎_elim (λ e. inl e) (λ k. inr (k.0, let lt = k.1 in omega (arith, lt))) (class_from n h a))
      (λ b.
      let o = one_among (acting_of classes met (suc n) tags) (suc n) (slice_index firsts n + 1) h b in
      inr (
        record {
          low = n;
          class_is = ap (λ (q : ClassHere). q.class) o.0;
          acting_are = ap (λ (q : ClassHere). q.acting) o.0;
          other_is = ap (λ (q : ClassHere). q.other) o.0;
          some = o.1;
        },
        omega arith,
      ))
      (in_either (classes_among classes met firsts tags n) (class_among (acting_of classes met (suc n) tags) (suc n) (slice_index firsts n + 1)) h i)

  -- class 0 is one
  pub start_there : (n : ℕ) → In (map (λ (h : ClassHere). h.class) (classes_among classes met firsts tags n)) 0
  start_there zero = inl refl
  start_there (suc n) =
      let one = class_among (acting_of classes met (suc n) tags) (suc n) (slice_index firsts n + 1) in
      subst (λ l. In l 0) (sym (map_joined (λ (h : ClassHere). h.class) (classes_among classes met firsts tags n) one))
      (in_left (map (λ (h : ClassHere). h.class) (classes_among classes met firsts tags n)) (map (λ (h : ClassHere). h.class) one) 0 (start_there n))

  -- and each that some tag acts for
  pub class_there : (n c : ℕ) → c < n → (acting_of classes met (suc c) tags ≡ [] → ⊥) → In (map (λ (h : ClassHere). h.class) (classes_among classes met firsts tags n)) (suc c)
  class_there zero c lt some = absurd (omega (arith, lt))
  class_there (suc n) c lt some =
      let one = class_among (acting_of classes met (suc n) tags) (suc n) (slice_index firsts n + 1) in
      subst (λ l. In l (suc c)) (sym (map_joined (λ (h : ClassHere). h.class) (classes_among classes met firsts tags n) one))
      (by (λ l. class_there n c l some) (either c n lt))
    where
      either : (a b : ℕ) → a < suc b → (a < b) ⊎ (a ≡ b)
      either zero zero l = inr refl
      either zero (suc b) l = inl (omega arith)
      either (suc a) zero l = absurd (omega (arith, l))
      either (suc a) (suc b) l = ⊎_elim (λ k. inl (omega (arith, k))) (λ k. inr (ap suc k)) (either a b (omega (arith, l)))

      by : (c < n → In (map (λ (h : ClassHere). h.class) (classes_among classes met firsts tags n)) (suc c)) → (c < n) ⊎ (c ≡ n) → In (map (λ (h : ClassHere). h.class) (classes_among classes met firsts tags n) ++ map (λ (h : ClassHere). h.class) (class_among (acting_of classes met (suc n) tags) (suc n) (slice_index firsts n + 1))) (suc c)
      by before (inl l) = in_left (map (λ (h : ClassHere). h.class) (classes_among classes met firsts tags n)) (map (λ (h : ClassHere). h.class) (class_among (acting_of classes met (suc n) tags) (suc n) (slice_index firsts n + 1))) (suc c) (before l)
      by before (inr e) =
          let some' = subst (λ k. acting_of classes met (suc k) tags ≡ [] → ⊥) e some in
          in_right (map (λ (h : ClassHere). h.class) (classes_among classes met firsts tags n)) (map (λ (h : ClassHere). h.class) (class_among (acting_of classes met (suc n) tags) (suc n) (slice_index firsts n + 1))) (suc c)
          (subst (In (map (λ (h : ClassHere). h.class) (class_among (acting_of classes met (suc n) tags) (suc n) (slice_index firsts n + 1)))) (ap suc (sym e))
          (in_mapped (λ (h : ClassHere). h.class) (class_among (acting_of classes met (suc n) tags) (suc n) (slice_index firsts n + 1)) record { class = suc n; acting = acting_of classes met (suc n) tags; other = slice_index firsts n + 1 }
          (one_there (acting_of classes met (suc n) tags) (suc n) (slice_index firsts n + 1) some')))

  -- their numbers are at most so many
  class_low : (n c : ℕ) → In (map (λ (h : ClassHere). h.class) (classes_among classes met firsts tags n)) c → c ≤ n
  class_low n c i =
      let m = from_mapped (λ (h : ClassHere). h.class) (classes_among classes met firsts tags n) c i in
      ⊎_elim
      (λ e. let z = ap (λ (q : ClassHere). q.class) e in omega (arith, z, m.2))
      (λ k. let lt = k.1 in let is = k.0.class_is in omega (arith, lt, is, m.2))
      (class_from n m.0 m.1)

  -- and rise
  pub classes_rise : (n : ℕ) → Rising (map (λ (h : ClassHere). h.class) (classes_among classes met firsts tags n))
  classes_rise zero = ((λ y i. absurd i), tt)
  classes_rise (suc n) =
      let one = class_among (acting_of classes met (suc n) tags) (suc n) (slice_index firsts n + 1) in
      subst Rising (sym (map_joined (λ (h : ClassHere). h.class) (classes_among classes met firsts tags n) one))
      (joined (map (λ (h : ClassHere). h.class) (classes_among classes met firsts tags n)) (acting_of classes met (suc n) tags) (classes_rise n) (λ y i. let le = class_low n y i in omega (arith, le)))
    where
      joined : (xs : List ℕ) (acting : List ActingTag) → Rising xs → ((y : ℕ) → In xs y → y < suc n)
          → Rising (xs ++ map (λ (h : ClassHere). h.class) (class_among acting (suc n) (slice_index firsts n + 1)))
      joined [] [] r h = tt
      joined [] (a ∷ more) r h = ((λ y i. absurd i), tt)
      joined (x ∷ xs) acting r h = (
        λ y i.
            ⊎_elim
            (λ a. r.0 y a)
            (λ b. last acting y b)
            (in_either xs (map (λ (h : ClassHere). h.class) (class_among acting (suc n) (slice_index firsts n + 1))) y i),
        joined xs acting r.1 (λ y i. h y (inr i)),
      )
        where
          last : (acting : List ActingTag) (y : ℕ) → In (map (λ (h : ClassHere). h.class) (class_among acting (suc n) (slice_index firsts n + 1))) y → x < y
          last [] y b = absurd b
          last (a ∷ more) y b = ⊎_elim (λ e. let lt = h x (inl refl) in omega (arith, lt, e)) (λ z. absurd z) b
