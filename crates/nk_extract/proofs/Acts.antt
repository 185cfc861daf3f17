-- What an act changes in a packet: the bucket of an out is that of its result.
use Rattle.std.proofs.Common.{◌≡◌, ◌≢◌, ℕ, zero, suc, ◌+◌, ◌<◌, ◌≤◌, Bool, true, false, cond, eqb, min, inl, inr, List, [], ◌∷◌, length, refl, sym, ap, subst, ◌∙◌, arith, get_or-set_other}
use Rattle.std.specs.Prelude.{◌==◌, ◌&&◌, not, nat_lt, if◌then◌else◌, map, filter, slice_index, slice_set}
use Rattle.std.proofs.lemmas.Bool.Decides.{nat_tests, eqb_tells}
use Rattle.std.proofs.lemmas.List.{length-set}
use Rattle.std.proofs.lemmas.Grind.{get_or-set_at}
use Rattle.nk_field.specs.Act.{applied, AscendsFrom, act_then, left_without}
use Rattle.nk_field.proofs.Thens.{order, lay-less, lay-more}
use Rattle.nk_store.specs.Intervals.{counted}
use Rattle.nk_store.specs.Leaves.{IsActFrom}
use Rattle.nk_store.specs.declared.node.Out.{Out}
use Rattle.nk_table.specs.declared.Bucket.{Bucket}
use Rattle.nk_table.specs.declared.Exit.{Exit}
use Rattle.nk_table.specs.declared.Exit.TheVariants.{Back, Port}
use Rattle.nk_extract.specs.RuleTree.{put}
use Rattle.nk_extract.specs.Ways.{exit_of, bucket_for}
use Rattle.nk_extract.specs.Buckets.{changes, bucket_of}

-- the value that assignments leave in a field that had d
abbrev pub value : List (ℕ × ℕ) → ℕ → ℕ → ℕ
value [] f d = d
value (s ∷ ss) f d = cond (eqb s.0 f) s.1 (value ss f d)

-- they leave a field before them all as it is
pub value_before : (low f d : ℕ) (g : List (ℕ × ℕ)) → AscendsFrom low g → f < low → value g f d ≡ d
value_before low f d [] a h = refl
value_before low f d (s ∷ ss) a h =
    let other : eqb s.0 f ≡ false = let ne : s.0 ≢ f = λ e. omega (arith, e, a.0, h) in grind (arith, nat_tests, ne) in
    ap (λ b. cond b s.1 (value ss f d)) other ∙ value_before (s.0 + 1) f d ss a.1 (omega (arith, a.0, h))

-- an act in range ascends
pub ascends : (maxes : List ℕ) (low : ℕ) (g : List (ℕ × ℕ)) → IsActFrom maxes low g → AscendsFrom low g
ascends maxes low [] a = tt
ascends maxes low (s ∷ ss) a = (a.0, ascends maxes (s.0 + 1) ss a.3)

-- a field of the changed packet has the value that the act leaves
pub applied_value :
    (maxes : List ℕ) (low : ℕ) (g : List (ℕ × ℕ)) (pk : List ℕ) (f : ℕ) → IsActFrom maxes low g
    → length pk ≡ 18 → slice_index (applied g pk) f ≡ value g f (slice_index pk f)
applied_value maxes low [] pk f a l = refl
applied_value maxes low (s ∷ ss) pk f a l =
    applied_value maxes (s.0 + 1) ss (slice_set pk s.0 s.1) f a.3 (length-set pk s.0 s.1 ∙ l)
    ∙ elim (eqb_tells s.0 f) [
      | inl same ↦
          value_before (s.0 + 1) f (slice_index (slice_set pk s.0 s.1) f) ss (ascends maxes (s.0 + 1) ss a.3) (omega (arith, same.1))
          ∙ get_or-set_at pk s.0 f s.1 0 (sym same.1) (omega (arith, l, a.1))
          ∙ sym (ap (λ b. cond b s.1 (value ss f (slice_index pk f))) same.0)
      | inr other ↦
          ap (value ss f) (get_or-set_other pk s.0 f s.1 0 (λ e. other.1 (sym e)))
          ∙ sym (ap (λ b. cond b s.1 (value ss f (slice_index pk f))) other.0)
    ]

-- assignments that change the fields' values P, of fields from low up to high, none of them the switch or the tag
abbrev pub IsChange : (ℕ → ℕ) → ℕ → ℕ → ℕ → List (ℕ × ℕ) → Type 0
IsChange P tag low high [] = Unit {0}
IsChange P tag low high (s ∷ ss) =
    (low ≤ s.0) × (s.0 < high) × (s.0 ≢ 0) × (s.0 ≢ tag) × (P s.0 ≢ s.1) × IsChange P tag (s.0 + 1) high ss

-- changes ascend
change_ascends :
    (P : ℕ → ℕ) (tag low high : ℕ) (g : List (ℕ × ℕ)) → IsChange P tag low high g → AscendsFrom low g
change_ascends P tag low high [] c = tt
change_ascends P tag low high (s ∷ ss) c = (c.0, change_ascends P tag (s.0 + 1) high ss c.5)

-- whether a field differs, of those that a bucket sets
abbrev differs : ℕ → (ℕ → ℕ) → (ℕ → ℕ) → ℕ → Bool
differs tag P X f = nat_lt 1 f && not (f == tag) && not (P f == X f)

-- a field with the same value does not differ
same_stays : (f tag p x : ℕ) → p ≡ x → nat_lt 1 f && not (f == tag) && not (p == x) ≡ false
same_stays f tag p x e = grind (arith, nat_tests, e)

-- the port is not among what a bucket sets
port_stays : (f tag p x : ℕ) → f ≡ 1 → nat_lt 1 f && not (f == tag) && not (p == x) ≡ false
port_stays f tag p x e = grind (arith, nat_tests, e)

-- another field with another value differs
other_differs :
    (f tag p x : ℕ) → 1 < f → f ≢ tag → p ≢ x → nat_lt 1 f && not (f == tag) && not (p == x) ≡ true
other_differs f tag p x h n d = grind (arith, nat_tests, h, n, d)

module _ (tag : ℕ) (P X : ℕ → ℕ) where
  -- the fields that differ, with their values
  abbrev found : List ℕ → List (ℕ × ℕ)
  found fs = map (λ f. (f, X f)) (filter (differs tag P X) fs)

  -- a field that does not differ is left out
  skip : (f : ℕ) (fs : List ℕ) → differs tag P X f ≡ false → found (f ∷ fs) ≡ found fs
  skip f fs e = ap (λ b. map (λ z. (z, X z)) (cond b (f ∷ filter (differs tag P X) fs) (filter (differs tag P X) fs))) e

  -- one that does stands with its value
  take_it : (f : ℕ) (fs : List ℕ) → differs tag P X f ≡ true → found (f ∷ fs) ≡ (f, X f) ∷ found fs
  take_it f fs e = ap (λ b. map (λ z. (z, X z)) (cond b (f ∷ filter (differs tag P X) fs) (filter (differs tag P X) fs))) e

  -- the fields that differ after an act are those that it assigns, but for the port
  pub changes_are :
      (n k : ℕ) (g : List (ℕ × ℕ)) → IsChange P tag k (k + n) g
      → ((f : ℕ) → k ≤ f → X f ≡ value g f (P f)) → found (counted k n) ≡ left_without 1 g
  changes_are zero k [] c same = refl
  changes_are zero k (s ∷ ss) c same = absurd (omega (arith, c.0, c.1))
  changes_are (suc n) k [] c same =
      skip k (counted (k + 1) n) (same_stays k tag (P k) (X k) (sym (same k (omega arith))))
      ∙ changes_are n (k + 1) [] tt (λ f h. same f (omega (arith, h)))
  changes_are (suc n) k (s ∷ ss) c same =
      let high : k + suc n ≡ k + 1 + n = omega arith in
      elim (eqb_tells s.0 k) [
        | inl here ↦
            let set : X k ≡ s.1 = same k (omega arith) ∙ ap (λ b. cond b s.1 (value ss k (P k))) here.0 in
            let rest : IsChange P tag (k + 1) (k + 1 + n) ss = subst (λ h. IsChange P tag (k + 1) h ss) high (subst (λ z. IsChange P tag (z + 1) (k + suc n) ss) here.1 c.5) in
            let same' : (f : ℕ) → k + 1 ≤ f → X f ≡ value ss f (P f) =
            λ f h. same f (omega (arith, h)) ∙ ap (λ b. cond b s.1 (value ss f (P f))) (let ne : s.0 ≢ f = λ e. omega (arith, e, here.1, h) in let w : eqb s.0 f ≡ false = grind (arith, nat_tests, ne) in w) in
            elim (eqb_tells s.0 1) [
              | inl one ↦
                  skip k (counted (k + 1) n) (port_stays k tag (P k) (X k) (sym here.1 ∙ one.1))
                  ∙ changes_are n (k + 1) ss rest same'
                  ∙ sym (ap (λ b. cond b (left_without 1 ss) (s ∷ left_without 1 ss)) one.0)
              | inr more ↦
                  let past : 1 < k = let ne0 = c.2 in let ne1 = more.1 in let e = here.1 in omega (arith, ne0, ne1, e) in
                  take_it k (counted (k + 1) n) (other_differs k tag (P k) (X k) past (λ e. c.3 (here.1 ∙ e)) (λ e. c.4 (ap P here.1 ∙ e ∙ set)))
                  ∙ ap (λ l. (k, X k) ∷ l) (changes_are n (k + 1) ss rest same')
                  ∙ ap (λ z. (z, X k) ∷ left_without 1 ss) (sym here.1)
                  ∙ ap (λ v. (s.0, v) ∷ left_without 1 ss) set
                  ∙ sym (ap (λ b. cond b (left_without 1 ss) (s ∷ left_without 1 ss)) more.0)
            ]
        | inr later ↦
            let less : k < s.0 = let ne = later.1 in omega (arith, c.0, ne) in
            let kept : X k ≡ P k = same k (omega arith) ∙ value_before s.0 k (P k) (s ∷ ss) (omega arith, change_ascends P tag (s.0 + 1) (k + suc n) ss c.5) less in
            skip k (counted (k + 1) n) (same_stays k tag (P k) (X k) (sym kept))
            ∙ changes_are n (k + 1) (s ∷ ss) (omega (arith, less), omega (arith, c.1), c.2, c.3, c.4, subst (λ h. IsChange P tag (s.0 + 1) h ss) high c.5) (λ f h. same f (omega (arith, h)))
      ]

-- no assignment of the switch or the tag
abbrev pub Avoids : ℕ → List (ℕ × ℕ) → Type 0
Avoids tag [] = Unit {0}
Avoids tag (s ∷ ss) = (s.0 ≢ 0) × (s.0 ≢ tag) × Avoids tag ss

-- changes assign neither the switch nor the tag
pub change_avoids :
    (P : ℕ → ℕ) (tag low high : ℕ) (g : List (ℕ × ℕ)) → IsChange P tag low high g → Avoids tag g
change_avoids P tag low high [] c = tt
change_avoids P tag low high (s ∷ ss) c = (c.2, c.3, change_avoids P tag (s.0 + 1) high ss c.5)

-- nor do they without a field
pub without_avoids : (tag f : ℕ) (g : List (ℕ × ℕ)) → Avoids tag g → Avoids tag (left_without f g)
without_avoids tag f [] a = tt
without_avoids tag f (s ∷ ss) a = by (eqb s.0 f) (without_avoids tag f ss a.2)
  where
    by :
        (b : Bool) → Avoids tag (left_without f ss)
        → Avoids tag (cond b (left_without f ss) (s ∷ left_without f ss))
    by true h = h
    by false h = (a.0, a.1, h)

-- the tag put among assignments of other fields is the act with the tag assigned after it
pub put_is : (tag t : ℕ) (h : List (ℕ × ℕ)) → Avoids tag h → act_then h ((tag, t) ∷ []) ≡ put (tag, t) h
put_is tag t [] a = refl
put_is tag t (s ∷ ss) a =
    elim (order tag s.0) [
      | inl before ↦
          lay-more s (tag, t) ss [] (act_then ss) before
          ∙ sym (ap (λ b. cond b ((tag, t) ∷ s ∷ ss) (s ∷ put (tag, t) ss)) (let e : nat_lt tag s.0 ≡ true = grind (arith, nat_tests, before) in e))
      | inr (inl same) ↦ absurd (a.1 (sym same))
      | inr (inr after) ↦
          lay-less s (tag, t) ss [] (act_then ss) after
          ∙ ap (λ l. s ∷ l) (put_is tag t ss a.2)
          ∙ sym (ap (λ b. cond b ((tag, t) ∷ s ∷ ss) (s ∷ put (tag, t) ss)) (let e : nat_lt tag s.0 ≡ false = grind (arith, nat_tests, after) in e))
    ]

-- an assignment of the port changes it, in the ports' range
abbrev SetsPort : ℕ → List (ℕ × ℕ) → Type 0
SetsPort p [] = Unit {0}
SetsPort p (s ∷ ss) = (s.0 ≡ 1 → (p ≢ s.1) × (s.1 ≤ 65535)) × SetsPort p ss

-- what is in range and changes sets a port in range
sets_port :
    (maxes : List ℕ) (P : ℕ → ℕ) (tag high : ℕ) (low from : ℕ) (g : List (ℕ × ℕ))
    → slice_index maxes 1 ≡ 65535 → IsActFrom maxes low g → IsChange P tag from high g
    → SetsPort (P 1) g
sets_port maxes P tag high low from [] m a c = tt
sets_port maxes P tag high low from (s ∷ ss) m a c = (
  λ e. (
    λ f. c.4 (ap P e ∙ f),
    let le : s.1 ≤ slice_index maxes 1 = subst (λ z. s.1 ≤ slice_index maxes z) e a.2 in omega (arith, le, m),
  ),
  sets_port maxes P tag high (s.0 + 1) (s.0 + 1) ss m a.3 c.5,
)

-- the exit of an act is by the port that it leaves
exit_is :
    (p x : ℕ) (g : List (ℕ × ℕ)) → x ≡ value g 1 p → SetsPort p g
    → exit_of g ≡ (if p == x then Back else Port x)
exit_is p x [] e s = sym (ap (λ b. cond b Back (Port x)) (let w : (p == x) ≡ true = grind (arith, nat_tests, e) in w))
exit_is p x (s ∷ ss) e ok =
    elim (eqb_tells s.0 1) [
      | inl one ↦
          let set : x ≡ s.1 = e ∙ ap (λ b. cond b s.1 (value ss 1 p)) one.0 in
          let both = ok.0 one.1 in
          let small = both.1 in
          let clamped : min s.1 65535 ≡ x = omega (arith, small, set) in
          let differ : p ≢ x = λ f. both.0 (f ∙ set) in
          ap (λ b. cond b (Port (min s.1 65535)) (exit_of ss)) one.0
          ∙ ap Port clamped
          ∙ sym (ap (λ b. cond b Back (Port x)) (let w : (p == x) ≡ false = grind (arith, nat_tests, differ) in w))
      | inr other ↦
          ap (λ b. cond b (Port (min s.1 65535)) (exit_of ss)) other.0
          ∙ exit_is p x ss (e ∙ ap (λ b. cond b s.1 (value ss 1 p)) other.0) ok.1
    ]

abbrev bucket_with : List (ℕ × ℕ) → Exit → Bucket
bucket_with sets exit = record { sets = sets; exit = exit }

-- an act of a leaf at a packet in range: it ascends in range, and changes what it assigns
pub record IsActAt (maxes : List ℕ) (width tag : ℕ) (pk : List ℕ) (g : List (ℕ × ℕ)) : Type 0 where
  pub act : IsActFrom maxes 0 g
  pub change : IsChange (slice_index pk) tag 0 width g

-- an out's bucket is that of its result
pub bucket_is :
    (maxes : List ℕ) (width tag : ℕ) (pk : List ℕ) (o : Out) → slice_index maxes 1 ≡ 65535
    → length pk ≡ 18 → IsActAt maxes width tag pk o.act
    → bucket_for tag o ≡ bucket_of width tag pk (applied o.act pk) o.target
bucket_is maxes width tag pk o m l a =
    let all : width ≡ 0 + width = omega arith in
    let avoids = change_avoids (slice_index pk) tag 0 width o.act a.change in
    let sets : act_then (left_without 1 o.act) ((tag, o.target) ∷ []) ≡ put (tag, o.target) (changes width tag pk (applied o.act pk)) =
    put_is tag o.target (left_without 1 o.act) (without_avoids tag 1 o.act avoids)
    ∙ ap (put (tag, o.target)) (sym (changes_are tag (slice_index pk) (slice_index (applied o.act pk)) width 0 o.act (subst (λ h. IsChange (slice_index pk) tag 0 h o.act) all a.change) (λ f h. applied_value maxes 0 o.act pk f a.act l))) in
    ap (λ s. bucket_with s (exit_of o.act)) sets
    ∙ ap (λ e. bucket_with (put (tag, o.target) (changes width tag pk (applied o.act pk))) e)
    (exit_is (slice_index pk 1) (slice_index (applied o.act pk) 1) o.act (applied_value maxes 0 o.act pk 1 a.act l) (sets_port maxes (slice_index pk) tag width 0 0 o.act m a.act a.change))
