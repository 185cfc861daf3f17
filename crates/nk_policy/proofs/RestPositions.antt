-- What is left after a dup goes on from position to position as the policy itself does.
use Rattle.std.proofs.Common.{◌≡◌, ℕ, ◌+◌, Bool, true, false, inl, inr, ⊎_elim, ◌∷◌, ◌++◌, sym, ap, subst, ◌∙◌, append_assoc, refl}
use Rattle.std.specs.Prelude.{◌==◌, if◌then◌else◌}
use Rattle.nk_field.specs.declared.packet.Packet.{Packet}
use Rattle.nk_policy.specs.Policy.{Policy, Policies, test, range, assign, sum_of, seq_of, not_of, star_of, dup, link, no_part, part}
use Rattle.nk_policy.specs.Meaning.{way_of}
use Rattle.nk_policy.specs.Progress.{Marked, numbered, RecordsAt, AllRecordAt}
use Rattle.nk_policy.specs.After.{has_dup, after, after_some, after_all}
use Rattle.nk_policy.specs.Distinct.{AreApart, HasDistinct, AllDistinct}
use Rattle.nk_policy.proofs.Splitting.{AllHoldDup, after1, after2, after3, after4, after5, apart_dups, all_hold_dup}
use Rattle.nk_policy.proofs.Again.{Again, AllAgain, SomeAgain, dup_records, distinct1, distinct2, distinct3, distinct4, distinct5, again, some_again, all_again}
use Rattle.nk_policy.proofs.Positions.{AllPass, AllGoOn, passes, goes_on, all_pass, all_go_on}
use Rattle.nk_policy.proofs.Tests.{false_true}
use Rattle.nk_policy.proofs.ListParts.{cut}

-- what a policy records past dup m it records at m, and then in what is left there; and the other way
pub record GoesBy (q : Policy) (rest : ℕ → Policy) : Type 0 where
  pub pass : (pk : Packet) (u : Marked) (x : Packet) (m : ℕ) (v : Marked) (y : Packet) (l : ℕ)
      → RecordsAt q pk (u ++ (x, m) ∷ v) y l → RecordsAt q pk u x m × RecordsAt (rest m) x v y l
  pub go : (pk : Packet) (u : Marked) (x : Packet) (m : ℕ) (v : Marked) (y : Packet) (l : ℕ)
      → RecordsAt q pk u x m → RecordsAt (rest m) x v y l → RecordsAt q pk (u ++ (x, m) ∷ v) y l

-- what records nothing does
silent_goes : (q : Policy) (rest : ℕ → Policy)
    → ((pk : Packet) (u : Marked) (x : Packet) (l : ℕ) → RecordsAt q pk u x l → ⊥)
    → GoesBy q rest
silent_goes q rest none = record {
  pass = λ pk u x m v y l r. absurd (none pk (u ++ (x, m) ∷ v) y l r);
  go = λ pk u x m v y l r s. absurd (none pk u x m r);
}

-- the rest of a sequence at dup m, where its first part holds the dup
to_first : (p : Policy) (ps : Policies) (m : ℕ) (x : Packet) (v : Marked) (y : Packet) (l : ℕ)
    → has_dup p m ≡ true → RecordsAt (seq_of (part (after p m) ps)) x v y l → RecordsAt (after_all (part p ps) m) x v y l
to_first p ps m x v y l h r =
    subst (λ c. RecordsAt (if c then seq_of (part (after p m) ps) else after_all ps m) x v y l) (sym h) r

-- where it doesn't
to_later : (p : Policy) (ps : Policies) (m : ℕ) (x : Packet) (v : Marked) (y : Packet) (l : ℕ)
    → has_dup p m ≡ false → RecordsAt (after_all ps m) x v y l → RecordsAt (after_all (part p ps) m) x v y l
to_later p ps m x v y l h r =
    subst (λ c. RecordsAt (if c then seq_of (part (after p m) ps) else after_all ps m) x v y l) (sym h) r

-- and back, where it does
from_first : (p : Policy) (ps : Policies) (m : ℕ) (x : Packet) (v : Marked) (y : Packet) (l : ℕ)
    → has_dup p m ≡ true → RecordsAt (after_all (part p ps) m) x v y l → RecordsAt (seq_of (part (after p m) ps)) x v y l
from_first p ps m x v y l h r =
    subst (λ c. RecordsAt (if c then seq_of (part (after p m) ps) else after_all ps m) x v y l) h r

-- where it doesn't
from_later : (p : Policy) (ps : Policies) (m : ℕ) (x : Packet) (v : Marked) (y : Packet) (l : ℕ)
    → has_dup p m ≡ false → RecordsAt (after_all (part p ps) m) x v y l → RecordsAt (after_all ps m) x v y l
from_later p ps m x v y l h r =
    subst (λ c. RecordsAt (if c then seq_of (part (after p m) ps) else after_all ps m) x v y l) h r

module _ (p : Policy) (ps : Policies) (k : ℕ) (apart : AreApart p ps) (one : Again p k)
    (many : AllAgain ps k) (passes : AllPass ps) (goes : AllGoOn ps)
    (a : GoesBy (after p k) (after p)) (b : GoesBy (after_all ps k) (after_all ps)) where
  -- the parts after the first one hold the dups at which they record
  holding : AllHoldDup ps
  holding = all_hold_dup ps

  -- a sequence, by a test that says whether its first part holds k
  sequence_passes : (c : Bool) (pk : Packet) (u : Marked) (x : Packet) (m : ℕ) (v : Marked) (y : Packet) (l : ℕ)
      → RecordsAt (if c then seq_of (part (after p k) ps) else after_all ps k) pk (u ++ (x, m) ∷ v) y l
      → RecordsAt (if c then seq_of (part (after p k) ps) else after_all ps k) pk u x m × RecordsAt (after_all (part p ps) m) x v y l
  sequence_passes true pk u x m v y l r =
      ⊎_elim
      (λ s.
      let g = a.pass pk u x m v y l s in
      (inl g.0, to_first p ps m x v y l (one.holds pk u x m g.0) (inl g.1)))
      (λ s.
      ⊎_elim
      (λ c.
      let g = one.splits_too pk u x m c.0 s.2 (subst (λ t. way_of (after p k) numbered pk t s.2) c.1 s.4) in
      (inl g.0, to_first p ps m x v y l (one.holds pk u x m g.0) (inr (c.0, s.1, s.2, c.2, g.1, s.5))))
      (λ c.
      let g = passes s.2 c.0 x m v y l (subst (λ t. AllRecordAt ps s.2 t y l) c.2 s.5) in
      (inr (s.0, c.0, s.2, c.1, s.4, g.0), to_later p ps m x v y l (apart m (holding s.2 c.0 x m g.0)) g.1))
      (cut s.0 s.1 u (x, m) v s.3))
      r
  sequence_passes false pk u x m v y l r =
      let g = b.pass pk u x m v y l r in
      (g.0, to_later p ps m x v y l (apart m (many.holds pk u x m g.0)) g.1)

  -- and the other way
  sequence_goes : (c : Bool) (pk : Packet) (u : Marked) (x : Packet) (m : ℕ) (v : Marked) (y : Packet) (l : ℕ)
      → RecordsAt (if c then seq_of (part (after p k) ps) else after_all ps k) pk u x m
      → RecordsAt (after_all (part p ps) m) x v y l
      → RecordsAt (if c then seq_of (part (after p k) ps) else after_all ps k) pk (u ++ (x, m) ∷ v) y l
  sequence_goes true pk u x m v y l at rest =
      ⊎_elim
      (λ s.
      ⊎_elim
      (λ t. inl (a.go pk u x m v y l s t))
      (λ t.
      inr (u ++ (x, m) ∷ t.0, t.1, t.2, ap (λ w. u ++ (x, m) ∷ w) t.3 ∙ sym (append_assoc u ((x, m) ∷ t.0) t.1), one.joins_too pk u x m t.0 t.2 s t.4, t.5))
      (from_first p ps m x v y l (one.holds pk u x m s) rest))
      (λ s.
      let later = from_later p ps m x v y l (apart m (holding s.2 s.1 x m s.5)) rest in
      inr (s.0, s.1 ++ (x, m) ∷ v, s.2, ap (λ w. w ++ (x, m) ∷ v) s.3 ∙ append_assoc s.0 s.1 ((x, m) ∷ v), s.4, goes s.2 s.1 x m v y l s.5 later))
      at
  sequence_goes false pk u x m v y l at rest =
      b.go pk u x m v y l at (from_later p ps m x v y l (apart m (many.holds pk u x m at)) rest)

  -- what is left of a sequence goes on as the sequence
  sequence_on : GoesBy (after_all (part p ps) k) (after_all (part p ps))
  sequence_on = record { pass = sequence_passes (has_dup p k); go = sequence_goes (has_dup p k) }

module _ (p : Policy) (ps : Policies) (k : ℕ) (apart : AreApart p ps) (one : Again p k)
    (many : SomeAgain ps k) (a : GoesBy (after p k) (after p))
    (b : GoesBy (after_some ps k) (after_some ps)) where
  -- a sum, by a test that says whether its first part holds k
  sum_passes : (c : Bool) (pk : Packet) (u : Marked) (x : Packet) (m : ℕ) (v : Marked) (y : Packet) (l : ℕ)
      → RecordsAt (if c then after p k else after_some ps k) pk (u ++ (x, m) ∷ v) y l
      → RecordsAt (if c then after p k else after_some ps k) pk u x m × RecordsAt (after_some (part p ps) m) x v y l
  sum_passes true pk u x m v y l r =
      let g = a.pass pk u x m v y l r in
      (g.0, subst (λ c. RecordsAt (if c then after p m else after_some ps m) x v y l) (sym (one.holds pk u x m g.0)) g.1)
  sum_passes false pk u x m v y l r =
      let g = b.pass pk u x m v y l r in
      (g.0, subst (λ c. RecordsAt (if c then after p m else after_some ps m) x v y l) (sym (apart m (many.holds pk u x m g.0))) g.1)

  -- and the other way
  sum_goes : (c : Bool) (pk : Packet) (u : Marked) (x : Packet) (m : ℕ) (v : Marked) (y : Packet) (l : ℕ)
      → RecordsAt (if c then after p k else after_some ps k) pk u x m
      → RecordsAt (after_some (part p ps) m) x v y l
      → RecordsAt (if c then after p k else after_some ps k) pk (u ++ (x, m) ∷ v) y l
  sum_goes true pk u x m v y l at rest =
      a.go pk u x m v y l at (subst (λ c. RecordsAt (if c then after p m else after_some ps m) x v y l) (one.holds pk u x m at) rest)
  sum_goes false pk u x m v y l at rest =
      b.go pk u x m v y l at (subst (λ c. RecordsAt (if c then after p m else after_some ps m) x v y l) (apart m (many.holds pk u x m at)) rest)

  -- what is left of a sum goes on as the sum
  sum_on : GoesBy (after_some (part p ps) k) (after_some (part p ps))
  sum_on = record { pass = sum_passes (has_dup p k); go = sum_goes (has_dup p k) }

module _ (p : Policy) (d : HasDistinct p) (k : ℕ) (one : Again p k)
    (a : GoesBy (after p k) (after p)) where
  -- the rest of a round and then rounds
  star_passes : (pk : Packet) (u : Marked) (x : Packet) (m : ℕ) (v : Marked) (y : Packet) (l : ℕ)
      → RecordsAt (after (star_of p) k) pk (u ++ (x, m) ∷ v) y l
      → RecordsAt (after (star_of p) k) pk u x m × RecordsAt (after (star_of p) m) x v y l
  star_passes pk u x m v y l r =
      ⊎_elim
      (λ s. let g = a.pass pk u x m v y l s in (inl g.0, inl g.1))
      (λ s.
      ⊎_elim
      (λ c.
      let g = one.splits_too pk u x m c.0 s.2 (subst (λ t. way_of (after p k) numbered pk t s.2) c.1 s.4) in
      (inl g.0, inr (c.0, s.1, s.2, c.2, g.1, s.5)))
      (λ c.
      ⊎_elim
      (λ t.
      let g = passes (star_of p) d s.2 c.0 x m v y l (subst (λ w. RecordsAt (star_of p) s.2 w y l) c.2 t) in
      (inr (s.0, c.0, s.2, c.1, s.4, inl g.0), g.1))
      (λ t. absurd t.5)
      s.5)
      (cut s.0 s.1 u (x, m) v s.3))
      r

  -- and the other way
  star_goes : (pk : Packet) (u : Marked) (x : Packet) (m : ℕ) (v : Marked) (y : Packet) (l : ℕ)
      → RecordsAt (after (star_of p) k) pk u x m
      → RecordsAt (after (star_of p) m) x v y l
      → RecordsAt (after (star_of p) k) pk (u ++ (x, m) ∷ v) y l
  star_goes pk u x m v y l at rest =
      ⊎_elim
      (λ s.
      ⊎_elim
      (λ t. inl (a.go pk u x m v y l s t))
      (λ t.
      inr (u ++ (x, m) ∷ t.0, t.1, t.2, ap (λ w. u ++ (x, m) ∷ w) t.3 ∙ sym (append_assoc u ((x, m) ∷ t.0) t.1), one.joins_too pk u x m t.0 t.2 s t.4, t.5))
      rest)
      (λ s.
      ⊎_elim
      (λ t.
      inr (s.0, s.1 ++ (x, m) ∷ v, s.2, ap (λ w. w ++ (x, m) ∷ v) s.3 ∙ append_assoc s.0 s.1 ((x, m) ∷ v), s.4, inl (goes_on (star_of p) d s.2 s.1 x m v y l t rest)))
      (λ t. absurd t.5)
      s.5)
      at

  -- what is left of a star goes on as the star
  star_on : GoesBy (after (star_of p) k) (after (star_of p))
  star_on = record { pass = star_passes; go = star_goes }

-- what is left of a test goes on as the test
test_on : (f n k : ℕ) → GoesBy (after (test f n) k) (after (test f n))
test_on f n k = silent_goes (after (test f n) k) (after (test f n)) (λ pk u x l r. r)

-- what is left of a range goes on as the range
range_on : (f lo hi k : ℕ) → GoesBy (after (range f lo hi) k) (after (range f lo hi))
range_on f lo hi k = silent_goes (after (range f lo hi) k) (after (range f lo hi)) (λ pk u x l r. r)

-- of an assignment
assign_on : (f n k : ℕ) → GoesBy (after (assign f n) k) (after (assign f n))
assign_on f n k = silent_goes (after (assign f n) k) (after (assign f n)) (λ pk u x l r. r)

-- of a dup
dup_on : (j k : ℕ) → GoesBy (after (dup j) k) (after (dup j))
dup_on j k = silent_goes (after (dup j) k) (after (dup j)) (dup_records (k == j))

-- of no part
none_on : (k : ℕ) → GoesBy (after_all no_part k) (after_all no_part)
none_on k = silent_goes (after_all no_part k) (after_all no_part) (λ pk u x l r. r)

-- one more part before those that go on
cons_on : (p : Policy) (ps : Policies) (k : ℕ) → AreApart p ps → HasDistinct p → AllDistinct ps
    → GoesBy (after p k) (after p)
    → GoesBy (after_all ps k) (after_all ps)
    → GoesBy (after_all (part p ps) k) (after_all (part p ps))
cons_on p ps k apart d ds a b =
    sequence_on p ps k apart (again p d k) (all_again ps ds k) (all_pass ps ds) (all_go_on ps ds) a b

-- of a link literal, as the sequence of its six parts
link_on : (a m b n j k : ℕ) → GoesBy (after (link a m b n j) k) (after (link a m b n j))
link_on a m b n j k =
    let g =
    cons_on (test 0 a) (after1 m b n j) k (λ l h. refl) tt (distinct1 m b n j) (test_on 0 a k)
    (cons_on (test 1 m) (after2 b n j) k (λ l h. refl) tt (distinct2 b n j) (test_on 1 m k)
    (cons_on (dup j) (after3 b n j) k (λ l h. apart_dups l j h) tt (distinct3 b n j) (dup_on j k)
    (cons_on (assign 0 b) (after4 n j) k (λ l h. refl) tt (distinct4 n j) (assign_on 0 b k)
    (cons_on (assign 1 n) (after5 j) k (λ l h. refl) tt (distinct5 j) (assign_on 1 n k)
    (cons_on (dup (j + 1)) no_part k (λ l h. absurd (false_true h)) tt tt (dup_on (j + 1) k) (none_on k)))))) in
    record { pass = g.pass; go = g.go }

mutual
  -- what is left after any dup goes on as the policy does
  pub rest_goes : (p : Policy) → HasDistinct p → (k : ℕ) → GoesBy (after p k) (after p)
  rest_goes (test f n) d k = test_on f n k
  rest_goes (range f lo hi) d k = range_on f lo hi k
  rest_goes (assign f n) d k = assign_on f n k
  rest_goes (sum_of ps) d k = let g = some_rest_goes ps d k in record { pass = g.pass; go = g.go }
  rest_goes (seq_of ps) d k = let g = all_rest_goes ps d k in record { pass = g.pass; go = g.go }
  rest_goes (not_of p) d k = silent_goes (after (not_of p) k) (after (not_of p)) (λ pk u x l r. r)
  rest_goes (star_of p) d k = star_on p d k (again p d k) (rest_goes p d k)
  rest_goes (dup l) d k = dup_on l k
  rest_goes (link a m b n l) d k = link_on a m b n l k

  -- of a sum
  some_rest_goes : (ps : Policies) → AllDistinct ps → (k : ℕ) → GoesBy (after_some ps k) (after_some ps)
  some_rest_goes no_part d k = silent_goes (after_some no_part k) (after_some no_part) (λ pk u x l r. r)
  some_rest_goes (part p ps) d k =
      sum_on p ps k d.2 (again p d.0 k) (some_again ps d.1 k) (rest_goes p d.0 k) (some_rest_goes ps d.1 k)

  -- of a sequence
  all_rest_goes : (ps : Policies) → AllDistinct ps → (k : ℕ) → GoesBy (after_all ps k) (after_all ps)
  all_rest_goes no_part d k = none_on k
  all_rest_goes (part p ps) d k = cons_on p ps k d.2 d.0 d.1 (rest_goes p d.0 k) (all_rest_goes ps d.1 k)
