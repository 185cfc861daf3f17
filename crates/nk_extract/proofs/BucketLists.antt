-- The bucket list of a leaf: its members, their order, and that it tells leaves apart.
use Rattle.std.proofs.Common.{◌≡◌, ◌≢◌, ℕ, ◌+◌, ◌<◌, ◌≤◌, Bool, true, false, cond, min, ◌⊎◌, inl, inr, ⊎_elim, List, [], ◌∷◌, ◌++◌, length, refl, sym, ap, subst, ◌∙◌, arith, append-nil}
use Rattle.std.specs.Prelude.{◌==◌, nat_lt, slice_index, Contains, AllPairs}
use Rattle.std.specs.List.{flat_map}
use Rattle.std.specs.Ordering.{ordering_then, nat_cmp}
use Rattle.std.specs.Cmp.Lexicographic.{slice_cmp}
use Rattle.std.specs.declared.cmp.Ordering.{Ordering}
use Rattle.std.specs.declared.cmp.Ordering.TheVariants.{Less, Equal, Greater}
use Rattle.std.proofs.lemmas.Bool.Decides.{nat_tests, eqb_tells}
use Rattle.std.proofs.lemmas.List.Kept.{AllPairs-cons}
use Rattle.nk_field.specs.Act.{applied, AscendsFrom, left_without}
use Rattle.nk_field.specs.Order.{IsListedBefore}
use Rattle.nk_field.proofs.Lists.{In, in_from_contains, contains_from_in, in_mapped, from_mapped}
use Rattle.nk_field.proofs.Ascending.{all_from_members}
use Rattle.nk_field.proofs.Thens.{order}
use Rattle.nk_store.specs.Leaves.{Every, Strict, IsActFrom, out_cmp}
use Rattle.nk_store.specs.declared.node.Out.{Out}
use Rattle.nk_table.specs.declared.Exit.TheVariants.{Back, Port}
use Rattle.nk_extract.specs.RuleTree.{put}
use Rattle.nk_extract.specs.Ways.{exit_of, bucket_for, bucket_list}
use Rattle.nk_extract.specs.Buckets.{bucket_of, exit_key, bucket_key, tag_of, IsBucketBefore, AreBuckets}
use Rattle.nk_extract.proofs.Acts.{ascends, Avoids, change_avoids, without_avoids, put_is, IsActAt, bucket_is}

-- what each out has, an out has
pub every_out : (P : Out → Type 0) (os : List Out) (o : Out) → Every P os → In os o → P o
every_out P [] o e i = absurd i
every_out P (x ∷ os) o e i = ⊎_elim (λ s. subst P (sym s) e.0) (λ r. every_out P os o e.1 r) i

-- and back
pub out_each : (P : Out → Type 0) (os : List Out) → ((o : Out) → In os o → P o) → Every P os
out_each P [] f = tt
out_each P (x ∷ os) f = (f x (inl refl), out_each P os (λ o i. f o (inr i)))

-- assignments written one after the other
abbrev flat : List (ℕ × ℕ) → List ℕ
flat g = flat_map (λ a. a.0 ∷ a.1 ∷ []) g

-- what makes nothing of one assignment isn't changed by putting it in
put_none :
    (F : ℕ × ℕ → List ℕ) (a : ℕ × ℕ) (h : List (ℕ × ℕ)) → F a ≡ [] → flat_map F (put a h) ≡ flat_map F h
put_none F a [] e = ap (λ l. l ++ []) e
put_none F a (b ∷ bs) e = by (nat_lt a.0 b.0) (put_none F a bs e)
  where
    by :
        (t : Bool) → flat_map F (put a bs) ≡ flat_map F bs
        → flat_map F (cond t (a ∷ b ∷ bs) (b ∷ put a bs)) ≡ F b ++ flat_map F bs
    by true h = ap (λ l. l ++ (F b ++ flat_map F bs)) e
    by false h = ap (λ l. F b ++ l) h

-- what makes nothing of all others makes what it makes of the one put in
put_one :
    (F : ℕ × ℕ → List ℕ) (tag : ℕ) (a : ℕ × ℕ) (h : List (ℕ × ℕ)) → ((b : ℕ × ℕ) → b.0 ≢ tag → F b ≡ [])
    → Avoids tag h → flat_map F (put a h) ≡ F a
put_one F tag a [] e v = append-nil (F a)
put_one F tag a (b ∷ bs) e v = by (nat_lt a.0 b.0) (put_one F tag a bs e v.2)
  where
    none : (ks : List (ℕ × ℕ)) → Avoids tag ks → flat_map F ks ≡ []
    none [] w = refl
    none (k ∷ ks) w = ap (λ l. l ++ flat_map F ks) (e k w.1) ∙ none ks w.2

    by :
        (t : Bool) → flat_map F (put a bs) ≡ F a → flat_map F (cond t (a ∷ b ∷ bs) (b ∷ put a bs)) ≡ F a
    by true h = ap (λ l. F a ++ (l ++ flat_map F bs)) (e b v.1) ∙ ap (λ l. F a ++ l) (none bs v.2) ∙ append-nil (F a)
    by false h = ap (λ l. l ++ flat_map F (put a bs)) (e b v.1) ∙ h

-- the tag's value alone, and all but the tag
abbrev the_tag : ℕ → ℕ × ℕ → List ℕ
the_tag tag a = cond (a.0 == tag) (a.1 ∷ []) []

abbrev but_tag : ℕ → ℕ × ℕ → List ℕ
but_tag tag a = cond (a.0 == tag) [] (a.0 ∷ a.1 ∷ [])

-- a number is itself
own : (n : ℕ) → (n == n) ≡ true
own n = grind (arith, nat_tests)

-- another number is not
other : (m n : ℕ) → m ≢ n → (m == n) ≡ false
other m n h = grind (arith, nat_tests, h)

-- without the tag nothing is left out
no_tag : (tag : ℕ) (h : List (ℕ × ℕ)) → Avoids tag h → flat_map (but_tag tag) h ≡ flat h
no_tag tag [] v = refl
no_tag tag (b ∷ bs) v =
    ap (λ t. cond t [] (b.0 ∷ b.1 ∷ []) ++ flat_map (but_tag tag) bs) (other b.0 tag v.1) ∙ ap (λ l. b.0 ∷ b.1 ∷ l) (no_tag tag bs v.2)

-- past the port an act sets no port
back_past : (low : ℕ) (g : List (ℕ × ℕ)) → AscendsFrom low g → 2 ≤ low → exit_of g ≡ Back
back_past low [] a h = refl
back_past low (s ∷ ss) a h =
    ap (λ b. cond b (Port (min s.1 65535)) (exit_of ss)) (let n : s.0 ≢ 1 = λ e. omega (arith, e, a.0, h) in other s.0 1 n) ∙ back_past (s.0 + 1) ss a.1 (omega (arith, a.0, h))

-- and nothing is left out without the port
stays_past : (low : ℕ) (g : List (ℕ × ℕ)) → AscendsFrom low g → 2 ≤ low → left_without 1 g ≡ g
stays_past low [] a h = refl
stays_past low (s ∷ ss) a h =
    ap (λ b. cond b (left_without 1 ss) (s ∷ left_without 1 ss)) (let n : s.0 ≢ 1 = λ e. omega (arith, e, a.0, h) in other s.0 1 n)
    ∙ ap (λ l. s ∷ l) (stays_past (s.0 + 1) ss a.1 (omega (arith, a.0, h)))

-- the port comes first, then what is left without it
port_first :
    (maxes : List ℕ) (g : List (ℕ × ℕ)) (tag : ℕ) → slice_index maxes 1 ≡ 65535 → IsActFrom maxes 0 g
    → Avoids tag g → exit_key (exit_of g) ++ flat (left_without 1 g) ≡ flat g
port_first maxes [] tag m a v = refl
port_first maxes (s ∷ ss) tag m a v =
    let rest = ascends maxes (s.0 + 1) ss a.3 in
    elim (eqb_tells s.0 1) [
      | inl one ↦
          let le : s.1 ≤ slice_index maxes 1 = subst (λ z. s.1 ≤ slice_index maxes z) one.1 a.2 in
          let clamped : min s.1 65535 ≡ s.1 = omega (arith, le, m) in
          ap (λ b. exit_key (cond b (Port (min s.1 65535)) (exit_of ss)) ++ flat (cond b (left_without 1 ss) (s ∷ left_without 1 ss))) one.0
          ∙ ap (λ n. 1 ∷ n ∷ flat (left_without 1 ss)) clamped
          ∙ ap (λ n. n ∷ s.1 ∷ flat (left_without 1 ss)) (sym one.1)
          ∙ ap (λ l. s.0 ∷ s.1 ∷ flat l) (stays_past (s.0 + 1) ss rest (omega (arith, one.1)))
      | inr more ↦
          let past : 2 ≤ s.0 = let n0 = v.0 in let n1 = more.1 in omega (arith, n0, n1) in
          ap (λ b. exit_key (cond b (Port (min s.1 65535)) (exit_of ss)) ++ flat (cond b (left_without 1 ss) (s ∷ left_without 1 ss))) more.0
          ∙ ap (λ e. exit_key e ++ flat (s ∷ left_without 1 ss)) (back_past (s.0 + 1) ss rest (omega (arith, past)))
          ∙ ap (λ l. flat (s ∷ l)) (stays_past (s.0 + 1) ss rest (omega (arith, past)))
    ]

-- an out whose act is in range and assigns neither the switch nor the tag
pub record IsPlainOut (maxes : List ℕ) (tag : ℕ) (o : Out) : Type 0 where
  pub act : IsActFrom maxes 0 o.act
  pub avoids : Avoids tag o.act

module _ (maxes : List ℕ) (tag : ℕ) (ports : slice_index maxes 1 ≡ 65535) where
  -- a bucket's key is its act written out
  key_is : (o : Out) → IsPlainOut maxes tag o → bucket_key tag (bucket_for tag o) ≡ flat o.act
  key_is o k =
      let left = without_avoids tag 1 o.act k.avoids in
      ap (λ l. exit_key (exit_of o.act) ++ l)
      (ap (flat_map (but_tag tag)) (put_is tag o.target (left_without 1 o.act) left)
      ∙ put_none (but_tag tag) (tag, o.target) (left_without 1 o.act) (ap (λ b. cond b [] (tag ∷ o.target ∷ [])) (own tag))
      ∙ no_tag tag (left_without 1 o.act) left)
      ∙ port_first maxes o.act tag ports k.act k.avoids

  -- its tag is the target
  tag_is : (o : Out) → IsPlainOut maxes tag o → tag_of tag (bucket_for tag o) ≡ o.target ∷ []
  tag_is o k =
      let left = without_avoids tag 1 o.act k.avoids in
      ap (flat_map (the_tag tag)) (put_is tag o.target (left_without 1 o.act) left)
      ∙ put_one (the_tag tag) tag (tag, o.target) (left_without 1 o.act) (λ b n. ap (λ t. cond t (b.1 ∷ []) []) (other b.0 tag n)) left
      ∙ ap (λ b. cond b (o.target ∷ []) []) (own tag)

  -- outs have one bucket if they are one
  flat_one : (xs ys : List (ℕ × ℕ)) → flat xs ≡ flat ys → xs ≡ ys
  flat_one [] [] e = refl
  flat_one [] (y ∷ ys) e = absurd cc
  flat_one (x ∷ xs) [] e = absurd cc
  flat_one (x ∷ xs) (y ∷ ys) e =
      let first : x.0 ≡ y.0 = cc in
      let second : x.1 ≡ y.1 = cc in
      let rest : flat xs ≡ flat ys = cc in
      ap (λ z. (z, x.1) ∷ xs) first ∙ ap (λ z. (y.0, z) ∷ xs) second ∙ ap (λ l. y ∷ l) (flat_one xs ys rest)

  -- outs with one bucket are one
  bucket_one :
      (o p : Out) → IsPlainOut maxes tag o → IsPlainOut maxes tag p
      → bucket_for tag o ≡ bucket_for tag p → o ≡ p
  bucket_one o p k l e =
      let acts : o.act ≡ p.act = flat_one o.act p.act (sym (key_is o k) ∙ ap (bucket_key tag) e ∙ key_is p l) in
      let tags : o.target ∷ [] ≡ p.target ∷ [] = sym (tag_is o k) ∙ ap (tag_of tag) e ∙ tag_is p l in
      let targets : o.target ≡ p.target = cc in
      ap (λ g. out_with g o.target) acts ∙ ap (λ t. out_with p.act t) targets
    where
      -- an out of an act and a target
      out_with : List (ℕ × ℕ) → ℕ → Out
      out_with g t = record { act = g; target = t }

  -- leaves with one bucket list are one
  pub list_one :
      (os ps : List Out) → Every (IsPlainOut maxes tag) os → Every (IsPlainOut maxes tag) ps
      → bucket_list tag os ≡ bucket_list tag ps → os ≡ ps
  list_one [] [] a b e = refl
  list_one [] (p ∷ ps) a b e = absurd cc
  list_one (o ∷ os) [] a b e = absurd cc
  list_one (o ∷ os) (p ∷ ps) a b e =
      let first : bucket_for tag o ≡ bucket_for tag p = cc in
      let rest : bucket_list tag os ≡ bucket_list tag ps = cc in
      ap (λ z. z ∷ os) (bucket_one o p a.0 b.0 first) ∙ ap (λ l. p ∷ l) (list_one os ps a.1 b.1 rest)

  -- the order of outs is that of their acts written out, then of their targets
  out_cmp_is :
      (x y : Out)
      → out_cmp x y ≡ ordering_then (slice_cmp (λ p q. ordering_then (nat_cmp p.0 q.0) (nat_cmp p.1 q.1)) x.act y.act) (nat_cmp x.target y.target)
  out_cmp_is x y = refl

  -- equal numbers compare as equal
  same_cmp : (m n : ℕ) → m ≡ n → nat_cmp m n ≡ Equal
  same_cmp m n h =
      ap (λ b. cond b Less (cond (m == n) Equal Greater)) (let e : nat_lt m n ≡ false = grind (arith, nat_tests, h) in e)
      ∙ ap (λ b. cond b Equal Greater) (let e : (m == n) ≡ true = grind (arith, nat_tests, h) in e)

  -- a greater number compares as greater
  more_cmp : (m n : ℕ) → n < m → nat_cmp m n ≡ Greater
  more_cmp m n h =
      ap (λ b. cond b Less (cond (m == n) Equal Greater)) (let e : nat_lt m n ≡ false = grind (arith, nat_tests, h) in e)
      ∙ ap (λ b. cond b Equal Greater) (let e : (m == n) ≡ false = grind (arith, nat_tests, h) in e)

  -- greater is not less
  not_less : Greater ≡ Less → ⊥
  not_less e = cc

  -- equal is not less
  not_equal : Equal ≡ Less → ⊥
  not_equal e = cc

  -- numbers that compare as less are in order
  lt_from : (m n : ℕ) → nat_cmp m n ≡ Less → m < n
  lt_from m n h = elim (order m n) [
    | inl less ↦ less
    | inr (inl same) ↦ absurd (not_equal (sym (same_cmp m n same) ∙ h))
    | inr (inr more) ↦ absurd (not_less (sym (more_cmp m n more) ∙ h))
  ]

  abbrev pair_cmp : ℕ × ℕ → ℕ × ℕ → Ordering
  pair_cmp p q = ordering_then (nat_cmp p.0 q.0) (nat_cmp p.1 q.1)

  -- acts in order are in dictionary order, then their targets
  listed :
      (xs ys : List (ℕ × ℕ)) (t u : ℕ) → ordering_then (slice_cmp pair_cmp xs ys) (nat_cmp t u) ≡ Less
      → IsListedBefore (flat xs) (flat ys) ⊎ ((flat xs ≡ flat ys) × (t < u))
  listed [] [] t u h = inr (refl, lt_from t u h)
  listed [] (y ∷ ys) t u h = inl tt
  listed (x ∷ xs) [] t u h = absurd (not_less h)
  listed (x ∷ xs) (y ∷ ys) t u h =
      let rest : Ordering → Ordering = λ o. ordering_then (ordering_then o (slice_cmp pair_cmp xs ys)) (nat_cmp t u) in
      elim (order x.0 y.0) [
        | inl less ↦ inl (inl less)
        | inr (inl same) ↦
            let h1 : ordering_then (ordering_then (nat_cmp x.1 y.1) (slice_cmp pair_cmp xs ys)) (nat_cmp t u) ≡ Less = sym (ap (λ o. ordering_then (ordering_then (ordering_then o (nat_cmp x.1 y.1)) (slice_cmp pair_cmp xs ys)) (nat_cmp t u)) (same_cmp x.0 y.0 same)) ∙ h in
            elim (order x.1 y.1) [
              | inl less ↦ inl (inr (same, inl less))
              | inr (inl same') ↦
                  let h2 : ordering_then (slice_cmp pair_cmp xs ys) (nat_cmp t u) ≡ Less = sym (ap (λ o. ordering_then (ordering_then o (slice_cmp pair_cmp xs ys)) (nat_cmp t u)) (same_cmp x.1 y.1 same')) ∙ h1 in
                  ⊎_elim
                  (λ l. inl (inr (same, inr (same', l))))
                  (λ r. inr (ap (λ n. n ∷ x.1 ∷ flat xs) same ∙ ap (λ n. y.0 ∷ n ∷ flat xs) same' ∙ ap (λ l. y.0 ∷ y.1 ∷ l) r.0, r.1))
                  (listed xs ys t u h2)
              | inr (inr more) ↦ absurd (not_less (sym (ap (λ o. ordering_then (ordering_then o (slice_cmp pair_cmp xs ys)) (nat_cmp t u)) (more_cmp x.1 y.1 more)) ∙ h1))
            ]
        | inr (inr more) ↦ absurd (not_less (sym (ap (λ o. ordering_then (ordering_then (ordering_then o (nat_cmp x.1 y.1)) (slice_cmp pair_cmp xs ys)) (nat_cmp t u)) (more_cmp x.0 y.0 more)) ∙ h))
      ]

  -- buckets stand as their outs do
  bucket_before :
      (o p : Out) → IsPlainOut maxes tag o → IsPlainOut maxes tag p → out_cmp o p ≡ Less
      → IsBucketBefore tag (bucket_for tag o) (bucket_for tag p)
  bucket_before o p k l h =
      ⊎_elim
      (λ b. inl (subst (λ z. IsListedBefore z (bucket_key tag (bucket_for tag p))) (sym (key_is o k)) (subst (IsListedBefore (flat o.act)) (sym (key_is p l)) b)))
      (λ r. inr (
        key_is o k ∙ r.0 ∙ sym (key_is p l),
        subst (λ z. IsListedBefore z (tag_of tag (bucket_for tag p))) (sym (tag_is o k)) (subst (IsListedBefore (o.target ∷ [])) (sym (tag_is p l)) (inl r.1)),
      ))
      (listed o.act p.act o.target p.target (sym (out_cmp_is o p) ∙ h))

  -- no bucket is out of order
  none_pairs : AllPairs (IsBucketBefore tag) []
  none_pairs i j d lt within = absurd (omega (arith, within))

  -- a leaf's buckets are in order
  pub in_order :
      (os : List Out) → Strict os → Every (IsPlainOut maxes tag) os
      → AllPairs (IsBucketBefore tag) (bucket_list tag os)
  in_order [] s k = none_pairs
  in_order (o ∷ os) s k =
      AllPairs-cons (IsBucketBefore tag) (bucket_for tag o) (bucket_list tag os)
      (all_from_members (IsBucketBefore tag (bucket_for tag o)) (bucket_list tag os) (λ b i.
      let p = from_mapped (bucket_for tag) os b i in
      subst (IsBucketBefore tag (bucket_for tag o)) (sym p.2) (bucket_before o p.0 k.0 (every_out (IsPlainOut maxes tag) os p.0 k.1 p.1) (every_out (λ y. out_cmp o y ≡ Less) os p.0 s.0 p.1))))
      (in_order os s.1 k.1)

  -- a leaf's bucket list is that of its results
  pub are_buckets : (width : ℕ) (pk : List ℕ) (os : List Out) → length pk ≡ 18 → Strict os → Every (λ o. IsActAt maxes width tag pk o.act) os → AreBuckets width tag (λ x t. (g : List (ℕ × ℕ)) × Contains os (record { act = g; target = t }) × (x ≡ applied g pk)) pk (bucket_list tag os)
  are_buckets width pk os l s k = record {
    exactly = λ b. (
      λ c.
          let p = from_mapped (bucket_for tag) os b (in_from_contains (bucket_list tag os) b c) in (
            applied p.0.act pk,
            p.0.target,
            (p.0.act, contains_from_in os p.0 p.1, refl),
            p.2 ∙ bucket_is maxes width tag pk p.0 ports l (every_out (λ o. IsActAt maxes width tag pk o.act) os p.0 k p.1),
          ),
      λ r.
          let o : Out = record { act = r.2.0; target = r.1 } in
          let i = in_from_contains os o r.2.1 in
          let is : bucket_for tag o ≡ b =
          bucket_is maxes width tag pk o ports l (every_out (λ z. IsActAt maxes width tag pk z.act) os o k i)
          ∙ ap (λ x. bucket_of width tag pk x r.1) (sym r.2.2) ∙ sym r.3 in
          contains_from_in (bucket_list tag os) b (subst (λ z. In (bucket_list tag os) z) is (in_mapped (bucket_for tag) os o i)),
    );
    in_order = in_order os s (out_each (IsPlainOut maxes tag) os (λ o i.
        let a = every_out (λ z. IsActAt maxes width tag pk z.act) os o k i in
        record { act = a.act; avoids = change_avoids (slice_index pk) tag 0 width o.act a.change }));
  }
