-- What a bucket assigns ascends by field.
use Rattle.std.proofs.Common.{◌≡◌, ◌≢◌, ℕ, zero, suc, ◌+◌, ◌<◌, ◌≤◌, Bool, true, false, cond, ◌⊎◌, inl, inr, ⊎_elim, List, [], ◌∷◌, refl, sym, subst, arith}
use Rattle.std.specs.Prelude.{◌==◌, ◌&&◌, not, nat_lt, map, filter, slice_index}
use Rattle.std.proofs.lemmas.Bool.Decides.{nat_tests}
use Rattle.nk_field.specs.Act.{AscendsFrom}
use Rattle.nk_field.proofs.Lists.{In}
use Rattle.nk_store.specs.Intervals.{counted}
use Rattle.nk_extract.specs.RuleTree.{put}

-- declared fields but the tag, ascending from low on
abbrev pub Climbs : (width tag low : ℕ) → List (ℕ × ℕ) → Type 0
Climbs width tag low [] = Unit {0}
Climbs width tag low (m ∷ ms) = (low ≤ m.0) × (m.0 < width) × (m.0 ≢ tag) × Climbs width tag (m.0 + 1) ms

-- each is a declared field
pub climbs_within :
    (width tag low : ℕ) (ms : List (ℕ × ℕ)) (s : ℕ × ℕ) → Climbs width tag low ms → In ms s → s.0 < width
climbs_within width tag low [] s c i = absurd i
climbs_within width tag low (m ∷ ms) s c i =
    ⊎_elim (λ e. subst (λ (q : ℕ × ℕ). q.0 < width) (sym e) c.1) (λ r. climbs_within width tag (m.0 + 1) ms s c.3 r) i

climbs_ascend :
    (width tag low : ℕ) (ms : List (ℕ × ℕ)) → Climbs width tag low ms → AscendsFrom low ms
climbs_ascend width tag low [] c = tt
climbs_ascend width tag low (m ∷ ms) c = (c.0, climbs_ascend width tag (m.0 + 1) ms c.3)

-- ---- the tag put in by field

-- a lesser field
before_it : (a b : ℕ) → nat_lt a b ≡ true → a + 1 ≤ b
before_it a b e = grind (arith, nat_tests, e)

-- another field that isn't greater
after_it : (a b : ℕ) → b ≢ a → nat_lt a b ≡ false → b + 1 ≤ a
after_it a b n e = grind (arith, nat_tests, n, e)

-- with the tag they ascend
pub put_ascends :
    (width tag n low : ℕ) (ms : List (ℕ × ℕ)) → low ≤ tag → Climbs width tag low ms
    → AscendsFrom low (put (tag, n) ms)
put_ascends width tag n low [] le c = (le, tt)
put_ascends width tag n low (m ∷ ms) le c = by (nat_lt tag m.0) refl (λ l. put_ascends width tag n (m.0 + 1) ms l c.3)
  where
    by :
        (b : Bool) → nat_lt tag m.0 ≡ b → (m.0 + 1 ≤ tag → AscendsFrom (m.0 + 1) (put (tag, n) ms))
        → AscendsFrom low (cond b ((tag, n) ∷ m ∷ ms) (m ∷ put (tag, n) ms))
    by true e rest = (le, (before_it tag m.0 e, climbs_ascend width tag (m.0 + 1) ms c.3))
    by false e rest = (c.0, rest (after_it tag m.0 c.2 e))

-- what stands there is what was put in or stood there before
pub in_put : (a : ℕ × ℕ) (ms : List (ℕ × ℕ)) (s : ℕ × ℕ) → In (put a ms) s → (s ≡ a) ⊎ In ms s
in_put a [] s i = i
in_put a (m ∷ ms) s i = by (nat_lt a.0 m.0) i (λ r. in_put a ms s r)
  where
    by :
        (b : Bool) → In (cond b (a ∷ m ∷ ms) (m ∷ put a ms)) s → (In (put a ms) s → (s ≡ a) ⊎ In ms s)
        → (s ≡ a) ⊎ In (m ∷ ms) s
    by true i rest = i
    by false i rest = ⊎_elim (λ e. inr (inl e)) (λ r. ⊎_elim (λ e. inl e) (λ j. inr (inr j)) (rest r)) i

-- ---- the fields that a bucket assigns

-- the fields past the port but the tag in which two packets differ
abbrev pub differs : (tag : ℕ) (pk x : List ℕ) → ℕ → Bool
differs tag pk x f = nat_lt 1 f && not (f == tag) && not (slice_index pk f == slice_index x f)

past_port : (f tag : ℕ) (c : Bool) → nat_lt 1 f && not (f == tag) && c ≡ true → 2 ≤ f
past_port f tag c e = grind (arith, nat_tests, e)

no_tag : (f tag : ℕ) (c : Bool) → nat_lt 1 f && not (f == tag) && c ≡ true → f ≢ tag
no_tag f tag c e = λ same. grind (arith, nat_tests, e, same)

-- their later values
pub changes_climb :
    (width tag : ℕ) (pk x : List ℕ) (n from low : ℕ) → from + n ≤ width → (low ≤ from) ⊎ (low ≤ 2)
    → Climbs width tag low (map (λ f. (f, slice_index x f)) (filter (λ f. nat_lt 1 f && not (f == tag) && not (slice_index pk f == slice_index x f)) (counted from n)))
changes_climb width tag pk x zero from low le h = tt
changes_climb width tag pk x (suc n) from low le h =
    by (differs tag pk x from) refl (λ low k. changes_climb width tag pk x n (from + 1) low (omega (arith, le)) k)
  where
    by :
        (b : Bool) → differs tag pk x from ≡ b
        → ((low : ℕ) → (low ≤ from + 1) ⊎ (low ≤ 2) → Climbs width tag low (map (λ f. (f, slice_index x f)) (filter (differs tag pk x) (counted (from + 1) n))))
        → Climbs width tag low (map (λ f. (f, slice_index x f)) (cond b (from ∷ filter (differs tag pk x) (counted (from + 1) n)) (filter (differs tag pk x) (counted (from + 1) n))))
    by true e rest =
        let past : 2 ≤ from = past_port from tag (not (slice_index pk from == slice_index x from)) e in
        let low_is : low ≤ from = ⊎_elim (λ l. l) (λ l. omega (arith, l, past)) h in
        let within : from < width = omega (arith, le) in
        (low_is, within, no_tag from tag (not (slice_index pk from == slice_index x from)) e, rest (from + 1) (inl (omega arith)))
    by false e rest = rest low (⊎_elim (λ l. inl (omega (arith, l))) (λ l. inr l) h)
