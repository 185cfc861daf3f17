-- The runs of the policy of two switches, and what is left of it after the link.
use Rattle.std.proofs.Common.{◌≡◌, ℕ, ◌⊎◌, inl, inr, ⊎_elim, List, [], ◌∷◌, ◌++◌, refl, sym, ap, subst, ◌∙◌}
use Rattle.std.specs.Prelude.{slice_index, slice_set}
use Rattle.nk_policy.specs.Policy.{test, assign, link, no_part, part}
use Rattle.nk_policy.specs.Meaning.{Way, keep, keep_where, set_field, record_as, followed_by, way_of_all, Gives}
use Rattle.nk_policy.specs.Progress.{Marked, Front, numbered, no_dup, at_dup, within_either, RecordsAt, AllRecordAt}
use Rattle.nk_worked.specs.TwoSwitches.{over_one_link, following_link}

-- a kept packet goes on
past_keep : {A : Type 0} (rest : Way A) (pk : List ℕ) (w : List A) (y : List ℕ)
    → followed_by keep rest pk w y → rest pk w y
past_keep rest pk w y h =
    subst (λ z. rest z w y) h.4.1 (subst (λ v. rest h.2 v y) (sym (h.3 ∙ ap (λ u. u ++ h.1) h.4.0)) h.5)

-- and so where a test holds
past_test : {A : Type 0} (f n : ℕ) (rest : Way A) (pk : List ℕ) (w : List A) (y : List ℕ)
    → followed_by (keep_where f n) rest pk w y → (slice_index pk f ≡ n) × rest pk w y
past_test f n rest pk w y h = (
  h.4.0,
  subst (λ z. rest z w y) h.4.2 (subst (λ v. rest h.2 v y) (sym (h.3 ∙ ap (λ u. u ++ h.1) h.4.1)) h.5),
)

-- after an assignment the packet is another one
past_set : {A : Type 0} (f n : ℕ) (rest : Way A) (pk : List ℕ) (w : List A) (y : List ℕ)
    → followed_by (set_field f n) rest pk w y → rest (slice_set pk f n) w y
past_set f n rest pk w y h =
    subst (λ z. rest z w y) h.4.1 (subst (λ v. rest h.2 v y) (sym (h.3 ∙ ap (λ u. u ++ h.1) h.4.0)) h.5)

-- what is recorded stands first
past_record : {A : Type 0} (mark : List ℕ → A) (rest : Way A) (pk : List ℕ) (w : List A) (y : List ℕ)
    → followed_by (record_as mark) rest pk w y → (v : List A) × (w ≡ mark pk ∷ v) × rest pk v y
past_record mark rest pk w y h = (
  h.1,
  h.3 ∙ ap (λ u. u ++ h.1) h.4.0,
  subst (λ z. rest z h.1 y) h.4.1 h.5,
)

-- a run that ends where the link's does
pub linked : (pk : List ℕ) (w : List (List ℕ)) (y : List ℕ) → Gives (link 1 2 2 1 1) pk w y
    → (w ≡ pk ∷ slice_set (slice_set pk 0 2) 1 1 ∷ []) × (y ≡ slice_set (slice_set pk 0 2) 1 1)
linked pk w y h =
    let a = past_test 0 1 (followed_by (keep_where 1 2) (followed_by (record_as (λ x. x)) (followed_by (set_field 0 2) (followed_by (set_field 1 1) (followed_by (record_as (λ x. x)) keep))))) pk w y h in
    let b = past_test 1 2 (followed_by (record_as (λ x. x)) (followed_by (set_field 0 2) (followed_by (set_field 1 1) (followed_by (record_as (λ x. x)) keep)))) pk w y a.1 in
    let c = past_record (λ x. x) (followed_by (set_field 0 2) (followed_by (set_field 1 1) (followed_by (record_as (λ x. x)) keep))) pk w y b.1 in
    let d = past_set 0 2 (followed_by (set_field 1 1) (followed_by (record_as (λ x. x)) keep)) pk c.0 y c.2 in
    let e = past_set 1 1 (followed_by (record_as (λ x. x)) keep) (slice_set pk 0 2) c.0 y d in
    let f = past_record (λ x. x) keep (slice_set (slice_set pk 0 2) 1 1) c.0 y e in (
      c.1 ∙ ap (λ v. pk ∷ v) (f.1 ∙ ap (λ v. slice_set (slice_set pk 0 2) 1 1 ∷ v) f.2.0),
      f.2.1,
    )

-- the packet on the near end of the link, and on the far end
abbrev pub near : List ℕ → List ℕ
near pk = slice_set pk 1 2

abbrev pub far : List ℕ → List ℕ
far pk = slice_set (slice_set (near pk) 0 2) 1 1

-- a run of the whole policy begins at 1:1 and has the two records
pub crossed : (pk : List ℕ) (w : List (List ℕ)) (y : List ℕ) → Gives over_one_link pk w y
    → (slice_index pk 0 ≡ 1) × (slice_index pk 1 ≡ 1) × (w ≡ near pk ∷ far pk ∷ []) × (y ≡ slice_set (far pk) 1 2)
crossed pk w y h =
    let last = part (assign 1 2) no_part in
    let a = past_test 0 1 (way_of_all (part (test 1 1) (part (assign 1 2) (part (link 1 2 2 1 1) last))) (λ l x. x)) pk w y h in
    let b = past_test 1 1 (way_of_all (part (assign 1 2) (part (link 1 2 2 1 1) last)) (λ l x. x)) pk w y a.1 in
    let c = past_set 1 2 (way_of_all (part (link 1 2 2 1 1) last) (λ l x. x)) pk w y b.1 in
    let l = linked (near pk) c.0 c.2 c.4 in
    let d = past_set 1 2 keep c.2 c.1 y c.5 in (
      a.0,
      b.0,
      c.3 ∙ ap (λ u. u ++ c.1) l.0 ∙ ap (λ v. near pk ∷ far pk ∷ v) d.0,
      d.1 ∙ ap (λ z. slice_set z 1 2) l.1,
    )

-- no front before what goes on
skipped : (front rest : Front) (way : Way (List ℕ × ℕ)) (pk : List ℕ) (u : Marked) (x : List ℕ) (l : ℕ)
    → (front pk u x l → ⊥) → within_either front way rest pk u x l
    → (a : Marked) × (b : Marked) × (z : List ℕ) × (u ≡ a ++ b) × way pk a z × rest z b x l
skipped front rest way pk u x l never h = ⊎_elim (λ n. absurd (never n)) (λ r. r) h

front_past_test : (f n : ℕ) (rest : Front) (pk : List ℕ) (u : Marked) (x : List ℕ) (l : ℕ)
    → within_either no_dup (keep_where f n) rest pk u x l → (slice_index pk f ≡ n) × rest pk u x l
front_past_test f n rest pk u x l h =
    let r = skipped no_dup rest (keep_where f n) pk u x l (λ n. n) h in (
      r.4.0,
      subst (λ z. rest z u x l) r.4.2 (subst (λ v. rest r.2 v x l) (sym (r.3 ∙ ap (λ a. a ++ r.1) r.4.1)) r.5),
    )

front_past_set : (f n : ℕ) (rest : Front) (pk : List ℕ) (u : Marked) (x : List ℕ) (l : ℕ)
    → within_either no_dup (set_field f n) rest pk u x l → rest (slice_set pk f n) u x l
front_past_set f n rest pk u x l h =
    let r = skipped no_dup rest (set_field f n) pk u x l (λ n. n) h in
    subst (λ z. rest z u x l) r.4.1 (subst (λ v. rest r.2 v x l) (sym (r.3 ∙ ap (λ a. a ++ r.1) r.4.0)) r.5)

-- where a run can be: at the first dup with nothing recorded before, or at the second after the first
abbrev pub At : List ℕ → Marked → List ℕ → ℕ → Type 0
At pk u x l =
    ((u ≡ []) × (x ≡ pk) × (l ≡ 1))
    ⊎ ((u ≡ (pk, 1) ∷ []) × (x ≡ slice_set (slice_set pk 0 2) 1 1) × (l ≡ 2))

-- in the link
at_link : (pk : List ℕ) (u : Marked) (x : List ℕ) (l : ℕ) → RecordsAt (link 1 2 2 1 1) pk u x l → At pk u x l
at_link pk u x l h =
    let tail = within_either (at_dup 2) (record_as (numbered 2)) no_dup in
    let a = front_past_test 0 1 (within_either no_dup (keep_where 1 2) (within_either (at_dup 1) (record_as (numbered 1)) (within_either no_dup (set_field 0 2) (within_either no_dup (set_field 1 1) tail)))) pk u x l h in
    let b = front_past_test 1 2 (within_either (at_dup 1) (record_as (numbered 1)) (within_either no_dup (set_field 0 2) (within_either no_dup (set_field 1 1) tail))) pk u x l a.1 in
    ⊎_elim
    (λ d. inl d)
    (λ r.
    let c : within_either no_dup (set_field 0 2) (within_either no_dup (set_field 1 1) tail) pk r.1 x l = subst (λ z. within_either no_dup (set_field 0 2) (within_either no_dup (set_field 1 1) tail) z r.1 x l) r.4.1 r.5 in
    let d = front_past_set 0 2 (within_either no_dup (set_field 1 1) tail) pk r.1 x l c in
    let e = front_past_set 1 1 tail (slice_set pk 0 2) r.1 x l d in
    ⊎_elim
    (λ g. inr (r.3 ∙ ap (λ m. m ++ r.1) r.4.0 ∙ ap (λ v. (pk, 1) ∷ v) g.0, g.1, g.2))
    (λ s. absurd s.5)
    e)
    b.1

-- in the whole policy
pub at_dups : (pk : List ℕ) (u : Marked) (x : List ℕ) (l : ℕ) → RecordsAt over_one_link pk u x l
    → (slice_index pk 0 ≡ 1) × (slice_index pk 1 ≡ 1) × At (near pk) u x l
at_dups pk u x l h =
    let last = part (assign 1 2) no_part in
    let a = front_past_test 0 1 (AllRecordAt (part (test 1 1) (part (assign 1 2) (part (link 1 2 2 1 1) last)))) pk u x l h in
    let b = front_past_test 1 1 (AllRecordAt (part (assign 1 2) (part (link 1 2 2 1 1) last))) pk u x l a.1 in
    let c = front_past_set 1 2 (AllRecordAt (part (link 1 2 2 1 1) last)) pk u x l b.1 in (
      a.0,
      b.0,
      ⊎_elim (λ r. at_link (near pk) u x l r) (λ s. absurd (⊎_elim (λ n. n) (λ t. t.5) s.5)) c,
    )

-- a packet at 1:1 is recorded on the near end
pub recorded : (r : List ℕ) → RecordsAt over_one_link (1 ∷ 1 ∷ r) [] (1 ∷ 2 ∷ r) 1
recorded r =
    inr (
      [],
      [],
      1 ∷ 1 ∷ r,
      refl,
      (refl, refl, refl),
      inr (
        [],
        [],
        1 ∷ 1 ∷ r,
        refl,
        (refl, refl, refl),
        inr (
          [],
          [],
          1 ∷ 2 ∷ r,
          refl,
          (refl, refl),
          inl (
              inr (
                [],
                [],
                1 ∷ 2 ∷ r,
                refl,
                (refl, refl, refl),
                inr (
                  [],
                  [],
                  1 ∷ 2 ∷ r,
                  refl,
                  (refl, refl, refl),
                  inl (refl, refl, refl),
                ),
              )),
        ),
      ),
    )

-- after the link the packet goes to port 2
pub rest_sets : (pk : List ℕ) (w : List (List ℕ)) (y : List ℕ) → Gives following_link pk w y → (w ≡ []) × (y ≡ slice_set pk 1 2)
rest_sets pk w y h =
    let k = past_keep keep pk h.0 h.2 h.4 in
    let z : way_of_all (part (assign 1 2) no_part) (λ l x. x) pk w y = subst (λ z. way_of_all (part (assign 1 2) no_part) (λ l x. x) z w y) k.1 (subst (λ v. way_of_all (part (assign 1 2) no_part) (λ l x. x) h.2 v y) (sym (h.3 ∙ ap (λ u. u ++ h.1) k.0)) h.5) in
    past_set 1 2 keep pk w y z

pub rest_given : (pk : List ℕ) → Gives following_link pk [] (slice_set pk 1 2)
rest_given pk =
    ([], [], pk, refl, ([], [], pk, refl, (refl, refl), (refl, refl)), ([], [], slice_set pk 1 2, refl, (refl, refl), (refl, refl)))

-- and is recorded no more
pub rest_records_nothing : (pk : List ℕ) (u : Marked) (x : List ℕ) (l : ℕ) → RecordsAt following_link pk u x l → ⊥
rest_records_nothing pk u x l h =
    ⊎_elim
    (λ a. ⊎_elim (λ n. n) (λ r. r.5) a)
    (λ b. ⊎_elim (λ n. n) (λ r. r.5) b.5)
    h
