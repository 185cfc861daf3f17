-- What the two tags stand for, and where each leads from a packet.
use Rattle.std.proofs.Common.{◌≡◌, ◌≢◌, ℕ, zero, suc, ◌+◌, inl, ⊎_elim, Some, None, List, [], ◌∷◌, refl, sym, ap, subst, ◌∙◌, arith}
use Rattle.std.specs.Prelude.{slice_index, slice_set, slice_get, Contains}
use Rattle.std.specs.List.Sorted.{IsStrictlyIncreasing}
use Rattle.nk_field.proofs.Lists.{in_from_contains, contains_from_in}
use Rattle.nk_policy.specs.Policy.{Policy}
use Rattle.nk_policy.specs.After.{after}
use Rattle.nk_policy.specs.Meaning.{Gives}
use Rattle.nk_policy.specs.Progress.{RecordsAt}
use Rattle.nk_compile.specs.PrintedTable.{IsOfTag, IsResult}
use Rattle.nk_worked.specs.TwoSwitches.{over_one_link, following_link, one_set}
use Rattle.nk_worked.proofs.Crossing.{near, far, crossed, at_dups, recorded, rest_sets, rest_given, rest_records_nothing}

-- none is not some
pub none_is_none : {A : Type 0} (a : A) → None ≡ Some a → ⊥
none_is_none a e = cc

-- an empty list has no first element
pub not_empty : {A : Type 0} (a : A) (rest : List A) → [] ≡ a ∷ rest → ⊥
not_empty a rest e = cc

-- the one element of a list
pub only_one : {A : Type 0} (a b : A) → Contains (a ∷ []) b → b ≡ a
only_one a b c = ⊎_elim (λ e. e) (λ n. absurd n) (in_from_contains (a ∷ []) b c)

pub there : {A : Type 0} (a : A) → Contains (a ∷ []) a
there a = contains_from_in (a ∷ []) a (inl refl)

-- one number ascends
pub one_ascends : (n : ℕ) → IsStrictlyIncreasing (n ∷ [])
one_ascends n = λ k lt. absurd (omega (arith, lt))

-- the set of a tag above 0 is the one set
pub is_the_set : (t : ℕ) (s : List ℕ) → slice_get one_set t ≡ Some s → (t ≡ 0) × (s ≡ 1 ∷ [])
is_the_set zero s e = (refl, let q : s ≡ 1 ∷ [] = cc in q)
is_the_set (suc t) s e = absurd (none_is_none s e)

-- what is recorded first is recorded on the near end
pub first_record : (pk x : List ℕ) (l : ℕ) → RecordsAt over_one_link pk [] x l
    → (slice_index pk 0 ≡ 1) × (slice_index pk 1 ≡ 1) × (x ≡ near pk) × (l ≡ 1)
first_record pk x l h =
    let r = at_dups pk [] x l h in
    let here : (x ≡ near pk) × (l ≡ 1) = ⊎_elim (λ a. (a.1, a.2)) (λ b. absurd (not_empty (near pk, 1) [] b.0)) r.2 in (r.0, r.1, here.0, here.1)

-- from where tag 0 leads on: from 1:1 to the near end, with tag 1
pub first_result : (pk x : List ℕ) (t : ℕ) → IsResult over_one_link one_set 0 pk x t
    → (slice_index pk 0 ≡ 1) × (slice_index pk 1 ≡ 1) × (x ≡ near pk) × (t ≡ 1)
first_result pk x zero r =
    let g = crossed pk [] x (subst (λ s. Gives s pk [] x) r.1 r.2) in
    absurd (not_empty (near pk) (far pk ∷ []) g.2)
first_result pk x (suc t) r =
    let s = is_the_set t r.0 r.1 in
    let has : Contains r.0 1 = subst (λ ls. Contains ls 1) (sym s.1) (there 1) in
    let at = (r.3.1 1).0 has in
    let f = first_record pk x 1 (subst (λ q. RecordsAt q pk [] x 1) at.1 at.2) in
    (f.0, f.1, f.2, ap suc s.0)

-- it does
pub leads_over : (r : List ℕ) → IsResult over_one_link one_set 0 (1 ∷ 1 ∷ r) (1 ∷ 2 ∷ r) 1
leads_over r = (
  1 ∷ [],
  refl,
  λ e. not_empty 1 [] (sym e),
  (
    one_ascends 1,
    λ l. (
      λ c. (over_one_link, refl, subst (λ k. RecordsAt over_one_link (1 ∷ 1 ∷ r) [] (1 ∷ 2 ∷ r) k) (sym (only_one 1 l c)) (recorded r)),
      λ h. subst (λ k. Contains (1 ∷ []) k) (sym (first_record (1 ∷ 1 ∷ r) (1 ∷ 2 ∷ r) l (subst (λ q. RecordsAt q (1 ∷ 1 ∷ r) [] (1 ∷ 2 ∷ r) l) h.1 h.2)).3) (there 1),
    ),
  ),
)

-- tag 1 stands for what is left after the link
pub is_after_link : (s : Policy) → IsOfTag over_one_link one_set 1 s → s ≡ following_link
is_after_link s h =
    let g = is_the_set 0 h.0 h.2 in
    let l : h.1 ≡ 1 = only_one 1 h.1 (subst (λ ls. Contains ls h.1) g.1 h.3) in
    h.4 ∙ ap (λ k. after over_one_link (k + 1)) l

-- a list whose elements would make a falsehood is empty
none_in : (s : List ℕ) → s ≢ [] → ((l : ℕ) → Contains s l → ⊥) → ⊥
none_in [] filled never = filled refl
none_in (l ∷ ls) filled never = never l (contains_from_in (l ∷ ls) l (inl refl))

-- where tag 1 leads on: to port 2, and no tag after it
pub second_result : (pk x : List ℕ) (t : ℕ) → IsResult over_one_link one_set 1 pk x t → (x ≡ slice_set pk 1 2) × (t ≡ 0)
second_result pk x zero r = ((rest_sets pk [] x (subst (λ s. Gives s pk [] x) (is_after_link r.0 r.1) r.2)).1, refl)
second_result pk x (suc t) r =
    absurd (none_in r.0 r.2 (λ l c.
    let at = (r.3.1 l).0 c in
    rest_records_nothing pk [] x l (subst (λ q. RecordsAt q pk [] x l) (is_after_link at.0 at.1) at.2)))

-- it does
pub leads_out : (pk : List ℕ) → IsResult over_one_link one_set 1 pk (slice_set pk 1 2) 0
leads_out pk = (following_link, (1 ∷ [], 1, refl, there 1, refl), rest_given pk)
