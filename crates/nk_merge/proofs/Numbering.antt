-- Classes numbered one thing after the other; and two lists of their numbers are one.
use Rattle.std.proofs.Common.{◌≡◌, ℕ, zero, suc, ◌-◌, ◌<◌, ◌≤◌, Bool, true, false, cond, eqb, ◌↔◌, ◌⊎◌, inl, inr, ⊎_elim, List, [], ◌∷◌, ◌++◌, length, get_or, refl, sym, ap, subst, ◌∙◌, arith}
use Rattle.std.specs.Prelude.{slice_index}
use Rattle.std.proofs.lemmas.Bool.Decides.{leb_tells, eqb_tells}
use Rattle.std.proofs.lemmas.List.{ext_get_or}
use Rattle.std.proofs.Math.Seq.{get_or-append_seam}
use Rattle.nk_merge.specs.Classes.{AreClasses, AreFirsts, IsEquivalence, with_first_member}

-- below the next number a number is that of a thing before, or the last one
pub last_or_before : (i j : ℕ) → j < suc i → (j < i) ⊎ (j ≡ i)
last_or_before i j lt = ⊎_elim (λ h. inr (omega (arith, lt, h.1))) (λ h. inl h.1) (leb_tells i j)

-- what stood in a list stands in the longer one, and the new one stands last
pub before : (xs : List ℕ) (y j : ℕ) → j < length xs → slice_index (xs ++ y ∷ []) j ≡ slice_index xs j
before [] y j lt = absurd (omega (arith, lt))
before (x ∷ xs) y zero lt = refl
before (x ∷ xs) y (suc j) lt = before xs y j (omega (arith, lt))

pub last_is : (xs : List ℕ) (y j : ℕ) → j ≡ length xs → slice_index (xs ++ y ∷ []) j ≡ y
last_is xs y j e = ap (λ k. get_or (xs ++ y ∷ []) k 0) e ∙ get_or-append_seam xs y [] 0

pub longer : (xs : List ℕ) (y : ℕ) → length (xs ++ y ∷ []) ≡ suc (length xs)
longer [] y = refl
longer (x ∷ xs) y = ap suc (longer xs y)

module _ (Alike : ℕ → ℕ → Type 0) (eq : IsEquivalence Alike) (i : ℕ) (numbers firsts : List ℕ) (k : AreClasses Alike i numbers) (f : AreFirsts numbers firsts) (c : ℕ) (le : c ≤ length firsts)
    (yes : c < length firsts → Alike (slice_index firsts c) i) (none : c ≡ length firsts → (b : ℕ) → b < c → Alike (slice_index firsts b) i → ⊥) where
  -- the numbers with the next one
  abbrev more : List ℕ
  more = numbers ++ suc c ∷ []

  was : (j : ℕ) → j < i → slice_index more j ≡ slice_index numbers j
  was j lt = before numbers (suc c) j (omega (arith, lt, k.one_each))

  next : slice_index more i ≡ suc c
  next = last_is numbers (suc c) i (sym k.one_each)

  -- a first member stands before the next thing
  placed : (b : ℕ) → b < length firsts → slice_index firsts b < i
  placed b lt = let w = (f.member b lt).0 in omega (arith, w, k.one_each)

  -- a thing before has the next one's number exactly where it is alike
  same_forth : (j : ℕ) → j < i → slice_index numbers j ≡ suc c → Alike j i
  same_forth j lt e =
      let top = f.all j (omega (arith, lt, k.one_each)) in
      let less : c < length firsts = omega (arith, top, e) in
      let m = f.member c less in
      let other : Alike j (slice_index firsts c) = (k.same j (slice_index firsts c) lt (placed c less)).0 (e ∙ sym m.1) in
      eq.on j (slice_index firsts c) i other (yes less)

  same_back : (j : ℕ) → j < i → Alike j i → slice_index numbers j ≡ suc c
  same_back j lt h =
      let one = k.from_one j lt in
      let top = f.all j (omega (arith, lt, k.one_each)) in
      let d : ℕ = slice_index numbers j - 1 in
      let less : d < length firsts = omega (arith, one, top) in
      let m = f.member d less in
      let is : slice_index numbers (slice_index firsts d) ≡ slice_index numbers j = omega (arith, m.1, one) in
      let mine : Alike (slice_index firsts d) j = (k.same (slice_index firsts d) j (placed d less) lt).0 is in
      let next_one : Alike (slice_index firsts d) i = eq.on (slice_index firsts d) j i mine h in
      let found : c < length firsts → slice_index numbers j ≡ suc c =
      λ within.
      let n = f.member c within in
      let both : Alike (slice_index firsts c) (slice_index firsts d) = eq.on (slice_index firsts c) i (slice_index firsts d) (yes within) (eq.back (slice_index firsts d) i next_one) in
      let one_class = (k.same (slice_index firsts c) (slice_index firsts d) (placed c within) (placed d less)).1 both in
      sym is ∙ sym one_class ∙ n.1 in
      ⊎_elim
      (λ at. found (omega (arith, at.1, less)))
      (λ lower. ⊎_elim (λ within. found within) (λ last. absurd (none last d lower.1 next_one)) (last_or_before (length firsts) c (omega (arith, le))))
      (leb_tells c d)

  -- the classes with the next thing
  pub next_classes : AreClasses Alike (suc i) (numbers ++ suc c ∷ [])
  next_classes = record {
    one_each = longer numbers (suc c) ∙ ap suc k.one_each;
    same = λ a b la lb. both a b (last_or_before i a la) (last_or_before i b lb);
    from_one = λ j lt.
        ⊎_elim
        (λ old. subst (λ n. 1 ≤ n) (sym (was j old)) (k.from_one j old))
        (λ e. let n : slice_index more j ≡ suc c = ap (slice_index more) e ∙ next in omega (arith, n))
        (last_or_before i j lt);
    in_order = λ j n lt one less.
        ⊎_elim
        (λ old.
        let h = k.in_order j n old one (subst (λ v. n < v) (was j old) less) in
        (h.0, h.1, was h.0 (omega (arith, h.1, old)) ∙ h.2))
        (λ e.
        let top : slice_index more j ≡ suc c = ap (slice_index more) e ∙ next in
        let lower : n - 1 < length firsts = omega (arith, less, top, one, le) in
        let m = f.member (n - 1) lower in
        let place = placed (n - 1) lower in
        let is : suc (n - 1) ≡ n = omega (arith, one) in
        (slice_index firsts (n - 1), omega (arith, place, e), was (slice_index firsts (n - 1)) place ∙ m.1 ∙ is))
        (last_or_before i j lt);
  }
    where
      both : (a b : ℕ) → (a < i) ⊎ (a ≡ i) → (b < i) ⊎ (b ≡ i) → (slice_index more a ≡ slice_index more b) ↔ Alike a b
      both a b (inl la) (inl lb) =
          let e = k.same a b la lb in (
            λ h. e.0 (sym (was a la) ∙ h ∙ was b lb),
            λ h. was a la ∙ e.1 h ∙ sym (was b lb),
          )
      both a b (inl la) (inr eb) =
          let n : slice_index more b ≡ suc c = ap (slice_index more) eb ∙ next in (
            λ h. subst (λ z. Alike a z) (sym eb) (same_forth a la (sym (was a la) ∙ h ∙ n)),
            λ h. was a la ∙ same_back a la (subst (λ z. Alike a z) eb h) ∙ sym n,
          )
      both a b (inr ea) (inl lb) =
          let n : slice_index more a ≡ suc c = ap (slice_index more) ea ∙ next in (
            λ h. subst (λ z. Alike z b) (sym ea) (eq.back b i (same_forth b lb (sym (was b lb) ∙ sym h ∙ n))),
            λ h. n ∙ sym (same_back b lb (eq.back i b (subst (λ z. Alike z b) ea h))) ∙ sym (was b lb),
          )
      both a b (inr ea) (inr eb) =
          let one : a ≡ b = ea ∙ sym eb in (
            λ h. subst (λ z. Alike a z) one (eq.self a),
            λ h. ap (slice_index more) one,
          )

  -- the first members with the next thing
  pub next_firsts : AreFirsts (numbers ++ suc c ∷ []) (with_first_member firsts i c)
  next_firsts = by (eqb c (length firsts)) refl (eqb_tells c (length firsts))
    where
      new : c ≡ length firsts → AreFirsts more (firsts ++ i ∷ [])
      new e = record {
        member = λ b lt.
            ⊎_elim
            (λ old.
            let m = f.member b old in
            let place = placed b old in
            let is : slice_index (firsts ++ i ∷ []) b ≡ slice_index firsts b = before firsts i b old in (
              omega (arith, is, place, k.one_each, longer numbers (suc c)),
              ap (slice_index more) is ∙ was (slice_index firsts b) place ∙ m.1,
            ))
            (λ last.
            let is : slice_index (firsts ++ i ∷ []) b ≡ i = last_is firsts i b last in (
              omega (arith, is, k.one_each, longer numbers (suc c)),
              ap (slice_index more) is ∙ next ∙ ap suc (e ∙ sym last),
            ))
            (last_or_before (length firsts) b (subst (λ n. b < n) (longer firsts i) lt));
        first = λ b j lt is less.
            ⊎_elim
            (λ old.
            let at : slice_index (firsts ++ i ∷ []) b ≡ slice_index firsts b = before firsts i b old in
            let lower : j < slice_index firsts b = subst (λ n. j < n) at less in
            let place = placed b old in
            f.first b j old (sym (was j (omega (arith, lower, place))) ∙ is) lower)
            (λ last.
            let at : slice_index (firsts ++ i ∷ []) b ≡ i = last_is firsts i b last in
            let lower : j < i = subst (λ n. j < n) at less in
            let top = f.all j (omega (arith, lower, k.one_each)) in
            omega (arith, top, sym (was j lower) ∙ is, last))
            (last_or_before (length firsts) b (subst (λ n. b < n) (longer firsts i) lt));
        all = λ j lt.
            ⊎_elim
            (λ old.
            let top = f.all j (omega (arith, old, k.one_each)) in
            omega (arith, was j old, top, longer firsts i))
            (λ last. omega (arith, ap (slice_index more) last ∙ next, e, longer firsts i))
            (last_or_before i j (omega (arith, lt, longer numbers (suc c), k.one_each)));
      }

      old : c < length firsts → AreFirsts more firsts
      old less = record {
        member = λ b lt.
            let m = f.member b lt in
            let place = placed b lt in
            (omega (arith, place, k.one_each, longer numbers (suc c)), was (slice_index firsts b) place ∙ m.1);
        first = λ b j lt is lower.
            let place = placed b lt in
            f.first b j lt (sym (was j (omega (arith, lower, place))) ∙ is) lower;
        all = λ j lt.
            ⊎_elim
            (λ here. let top = f.all j (omega (arith, here, k.one_each)) in omega (arith, was j here, top))
            (λ last. omega (arith, ap (slice_index more) last ∙ next, less))
            (last_or_before i j (omega (arith, lt, longer numbers (suc c), k.one_each)));
      }

      by : (b : Bool) → eqb c (length firsts) ≡ b → ((eqb c (length firsts) ≡ true) × (c ≡ length firsts)) ⊎ ((eqb c (length firsts) ≡ false) × (c ≡ length firsts → ⊥))
          → AreFirsts more (with_first_member firsts i c)
      by b is (inl h) = subst (λ v. AreFirsts more (cond v (firsts ++ i ∷ []) firsts)) (sym h.0) (new h.1)
      by b is (inr h) = let other = h.1 in subst (λ v. AreFirsts more (cond v (firsts ++ i ∷ []) firsts)) (sym h.0) (old (omega (arith, le, other)))

-- the numbers of classes are fixed
pub numbers_fixed : (Alike : ℕ → ℕ → Type 0) (count : ℕ) (a b : List ℕ) → AreClasses Alike count a → AreClasses Alike count b → a ≡ b
numbers_fixed Alike count a b k l = ext_get_or 0 a b (k.one_each ∙ sym l.one_each) (λ i lt. up_to (suc i) i (omega arith) (omega (arith, lt, k.one_each)))
  where
    lower : (x y : List ℕ) → AreClasses Alike count x → AreClasses Alike count y → (i : ℕ) → i < count
        → ((j : ℕ) → j < i → slice_index x j ≡ slice_index y j) → slice_index x i < slice_index y i → ⊥
    lower x y kx ky i lt before lt2 =
        let h = ky.in_order i (slice_index x i) lt (kx.from_one i lt) lt2 in
        let less : h.0 < count = omega (arith, h.1, lt) in
        let same : slice_index x h.0 ≡ slice_index x i = before h.0 h.1 ∙ h.2 in
        let alike = (kx.same h.0 i less lt).0 same in
        let one = (ky.same h.0 i less lt).1 alike in
        let e : slice_index x i ≡ slice_index y i = sym h.2 ∙ one in
        omega (arith, e, lt2)

    up_to : (n i : ℕ) → i < n → i < count → slice_index a i ≡ slice_index b i
    up_to zero i lt within = absurd (omega (arith, lt))
    up_to (suc n) i lt within =
        let so_far : (j : ℕ) → j < i → slice_index a j ≡ slice_index b j = λ j less. up_to n j (omega (arith, less, lt)) (omega (arith, less, within)) in
        ⊎_elim
        (λ p.
        ⊎_elim
        (λ q. omega (arith, p.1, q.1))
        (λ q. absurd (lower a b k l i within so_far q.1))
        (leb_tells (slice_index b i) (slice_index a i)))
        (λ p. absurd (lower b a l k i within (λ j less. sym (so_far j less)) p.1))
        (leb_tells (slice_index a i) (slice_index b i))
