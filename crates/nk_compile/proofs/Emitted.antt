-- Where the row for a copy has the bucket list of the tag that acts for its number, what is sent is each result of this tag once,
-- with the number of the result's tag.
use Rattle.std.proofs.Common.{◌≡◌, ℕ, ◌<◌, inl, inr, ⊎_elim, Option, Some, None, List, [], ◌∷◌, length, refl, sym, ap, subst, ◌∙◌, arith, get_or-set_same}
use Rattle.std.specs.Prelude.{◌↔◌, filter_map, AllPairs, slice_index, slice_set}
use Rattle.std.specs.List.{cons_option}
use Rattle.std.proofs.lemmas.List.{set-set}
use Rattle.nk_field.specs.declared.packet.Packet.{Packet}
use Rattle.nk_field.proofs.Lists.{In, in_from_contains, contains_from_in, NoDup}
use Rattle.nk_field.proofs.Ascending.{first_before, rest_in_order}
use Rattle.nk_policy.specs.Policy.{Policy}
use Rattle.nk_policy.proofs.Untouched.{IsZeroAt}
use Rattle.nk_table.specs.declared.Tables.{Tables}
use Rattle.nk_table.specs.declared.Bucket.{Bucket}
use Rattle.nk_table.specs.Rules.{sent_by, sent_for}
use Rattle.nk_compile.specs.PrintedTable.{IsNumberedList, IsResult}
use Rattle.nk_extract.specs.Buckets.{bucket_of, bucket_key, tag_of, IsBucketBefore}
use Rattle.nk_compile.proofs.TagPlaces.{never_before}
use Rattle.nk_compile.proofs.BucketResults.{sends}
use Rattle.nk_compile.proofs.ActingTags.{Acts}
use Rattle.nk_compile.proofs.Reached.{Setting, AtState, Under, past, result_ok}

-- the row for a copy with this number has the bucket list of a tag at its packet
pub record HasBuckets (t : Tables) (p : Policy) (tag : ℕ) (tags : List (List ℕ)) (number : ℕ → ℕ) (c tg : ℕ) (x : Packet) : Type 0 where
  pub buckets : List Bucket
  pub list : IsNumberedList number (length t.fields.maxima) tag p tags tg x buckets
  pub sent_is : sent_for t (slice_set x tag c) ≡ filter_map (sent_by (slice_set x tag c)) buckets

-- equal options have equal values
some_is : {A : Type 0} (a b : A) → Some a ≡ Some b → a ≡ b
some_is a b e = cc

-- none is not some
none_is_none : {A : Type 0} (a : A) → None ≡ Some a → ⊥
none_is_none a e = cc

-- a bucket doesn't stand before itself
never_itself : (tag : ℕ) (b : Bucket) → IsBucketBefore tag b b → ⊥
never_itself tag b h = ⊎_elim (λ e. never_before (bucket_key tag b) e) (λ r. never_before (tag_of tag b) r.1) h

-- an element with an image has it among the images
in_images :
    {X Y : Type 0} (f : X → Option Y) (xs : List X) (x : X) (y : Y) → In xs x → f x ≡ Some y
    → In (filter_map f xs) y
in_images f [] x y h e = absurd h
in_images {X} {Y} f (z ∷ zs) x y h e =
    ⊎_elim
    (λ s. first (f z) (sym (ap f s) ∙ e))
    (λ s. later (f z) (in_images f zs x y s e))
    h
  where
    first : (o : Option Y) → o ≡ Some y → In (cons_option o (filter_map f zs)) y
    first (Some w) g = inl (sym (some_is w y g))
    first None g = absurd (none_is_none y g)

    later : (o : Option Y) → In (filter_map f zs) y → In (cons_option o (filter_map f zs)) y
    later (Some w) i = inr i
    later None i = i

-- an image has an element
from_images :
    {X Y : Type 0} (f : X → Option Y) (xs : List X) (y : Y) → In (filter_map f xs) y
    → (x : X) × In xs x × (f x ≡ Some y)
from_images f [] y h = absurd h
from_images {X} {Y} f (z ∷ zs) y h = by (f z) refl (λ i. from_images f zs y i) h
  where
    by :
        (o : Option Y) → f z ≡ o → (In (filter_map f zs) y → (x : X) × In zs x × (f x ≡ Some y))
        → In (cons_option o (filter_map f zs)) y → (x : X) × In (z ∷ zs) x × (f x ≡ Some y)
    by (Some w) e g h = ⊎_elim (λ s. (z, inl refl, e ∙ ap Some (sym s))) (λ s. let r = g s in (r.0, inr r.1, r.2)) h
    by None e g h = let r = g h in (r.0, inr r.1, r.2)

-- images of elements in a strict order by a function that tells them apart are apart
no_dup_images :
    {X Y : Type 0} (R : X → X → Type 0) (f : X → Option Y) → ((x : X) → R x x → ⊥) → (xs : List X)
    → AllPairs R xs → ((x x' : X) (y : Y) → In xs x → In xs x' → f x ≡ Some y → f x' ≡ Some y → x ≡ x')
    → NoDup (filter_map f xs)
no_dup_images R f never [] h own = tt
no_dup_images {X} {Y} R f never (z ∷ zs) h own =
    by (f z) refl (no_dup_images R f never zs (rest_in_order R z zs h) (λ x x' y i j. own x x' y (inr i) (inr j)))
  where
    by : (o : Option Y) → f z ≡ o → NoDup (filter_map f zs) → NoDup (cons_option o (filter_map f zs))
    by None e a = a
    by (Some y) e a = (
      λ i.
          let r = from_images f zs y i in
          let same = own z r.0 y (inl refl) (inr r.1) e r.2 in
          never z (subst (R z) (sym same) (first_before R z zs h r.0 r.1)),
      a,
    )

module _ (t : Tables) (p : Policy) (tag : ℕ) (tags : List (List ℕ)) (g : Setting t p tag tags) (number : ℕ → ℕ) (c tg : ℕ) (x : Packet) (at : AtState t p tag tags tg x) (has : HasBuckets t p tag tags number c tg x) where
  -- the tag is a field
  within : tag < length t.fields.maxima
  within = (g.fields_ok.tag_past_port tag g.tag_is).1

  -- a result's bucket sends it
  bucket_sends :
      (z : Packet) (n : ℕ) → IsResult p tags tg x z n
      → sent_by (slice_set x tag c) (bucket_of (length t.fields.maxima) tag x z (number n)) ≡ Some (slice_set z tag (number n))
  bucket_sends z n e =
      let ok = result_ok t p tag tags g tg x at z n e in
      sends t.fields tag (past t p tag tags g) within g.fields_ok.few x z c (number n) at.packet ok.0 ok.2

  -- what is sent are the results
  pub emitted : (q : Packet) → In (sent_for t (slice_set x tag c)) q ↔ ((z : Packet) × (n : ℕ) × IsResult p tags tg x z n × (q ≡ slice_set z tag (number n)))
  emitted q = (
    λ i.
        let r = from_images (sent_by (slice_set x tag c)) has.buckets q (subst (λ l. In l q) has.sent_is i) in
        let e = (has.list.exactly r.0).0 (contains_from_in has.buckets r.0 r.1) in
        (e.0, e.1, e.2, some_is q (slice_set e.0 tag (number e.1)) (sym r.2 ∙ ap (sent_by (slice_set x tag c)) e.3 ∙ bucket_sends e.0 e.1 e.2)),
    λ e.
        let b = bucket_of (length t.fields.maxima) tag x e.0 (number e.1) in
        let i = in_from_contains has.buckets b ((has.list.exactly b).1 (e.0, e.1, e.2, refl)) in
        subst (λ l. In l q) (sym has.sent_is) (in_images (sent_by (slice_set x tag c)) has.buckets b q i (bucket_sends e.0 e.1 e.2 ∙ ap Some (sym e.3))),
  )

  -- a sent packet has one result
  one_result :
      (z z' : Packet) (n n' : ℕ) → tag < length z → IsZeroAt tag z → IsZeroAt tag z' → length z ≡ length z'
      → slice_set z tag n ≡ slice_set z' tag n' → (z ≡ z') × (n ≡ n')
  one_result z z' n n' long h h' same e =
      let long' : tag < length z' = subst (λ m. tag < m) same long in (
        sym h ∙ sym (set-set z tag n 0) ∙ ap (λ q. slice_set q tag 0) e ∙ set-set z' tag n' 0 ∙ h',
        sym (get_or-set_same z tag n 0 long) ∙ ap (λ q. slice_index q tag) e ∙ get_or-set_same z' tag n' 0 long',
      )

  -- each once
  pub emitted_no_dup : NoDup (sent_for t (slice_set x tag c))
  emitted_no_dup =
      subst
      (λ l. NoDup l)
      (sym has.sent_is)
      (no_dup_images (IsBucketBefore tag) (sent_by (slice_set x tag c)) (never_itself tag) has.buckets has.list.in_order
      (λ b b' q i i' f f'.
      let e = (has.list.exactly b).0 (contains_from_in has.buckets b i) in
      let e' = (has.list.exactly b').0 (contains_from_in has.buckets b' i') in
      let ok = result_ok t p tag tags g tg x at e.0 e.1 e.2 in
      let ok' = result_ok t p tag tags g tg x at e'.0 e'.1 e'.2 in
      let sent : slice_set e.0 tag (number e.1) ≡ slice_set e'.0 tag (number e'.1) =
      some_is (slice_set e.0 tag (number e.1)) (slice_set e'.0 tag (number e'.1))
      (sym (bucket_sends e.0 e.1 e.2) ∙ ap (sent_by (slice_set x tag c)) (sym e.3) ∙ f ∙ sym f' ∙ ap (sent_by (slice_set x tag c)) e'.3 ∙ bucket_sends e'.0 e'.1 e'.2) in
      let lt = within in
      let few = g.fields_ok.few in
      let long : tag < length e.0 = omega (arith, ok.0.places, lt, few) in
      let one = one_result e.0 e'.0 (number e.1) (number e'.1) long ok.1 ok'.1 (ok.0.places ∙ sym ok'.0.places) sent in
      e.3 ∙ ap (λ z. bucket_of (length t.fields.maxima) tag x z (number e.1)) one.0 ∙ ap (λ n. bucket_of (length t.fields.maxima) tag x e'.0 n) one.1 ∙ sym e'.3))

  -- so this tag acts for the number
  pub acts_for : Under t p tags tg x → number tg ≡ c → Acts t p tag tags number c x
  acts_for under is = record { state = tg; under = under; number_is = is; emits = emitted; apart = emitted_no_dup }
