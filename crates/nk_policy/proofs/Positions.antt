-- A position that is reached past another one is reached from it: what is recorded up to a dup goes on, in what is left
-- after that dup, to the later one.
use Rattle.std.proofs.Common.{◌≡◌, ℕ, zero, suc, ◌+◌, Bool, true, false, inl, inr, ⊎_elim, ◌∷◌, ◌++◌, refl, sym, ap, subst, ◌∙◌, append_assoc}
use Rattle.std.specs.Prelude.{◌==◌, if◌then◌else◌}
use Rattle.nk_field.specs.declared.packet.Packet.{Packet}
use Rattle.nk_policy.specs.Policy.{Policy, Policies, test, range, assign, sum_of, seq_of, not_of, star_of, dup, link, no_part, part}
use Rattle.nk_policy.specs.Meaning.{rounds, way_of}
use Rattle.nk_policy.specs.Progress.{Marked, numbered, RecordsAt, SomeRecordsAt, AllRecordAt}
use Rattle.nk_policy.specs.After.{id_policy, drop_policy, has_dup, after, after_some, after_all}
use Rattle.nk_policy.specs.Distinct.{AreApart, HasDistinct, AllDistinct}
use Rattle.nk_policy.proofs.Splitting.{Splits, Joins, after1, after2, after3, after4, after5, test_splits, assign_splits, dup_splits, test_joins, assign_joins, dup_joins, apart_dups, holds_dup, some_hold_dup, all_hold_dup, rounds_split, splits, joins}
use Rattle.nk_policy.proofs.Tests.{false_true}
use Rattle.nk_policy.proofs.ListParts.{no_middle, cut, in_pieces}

-- the choice of what is left, by the dup
abbrev ChosenAt : Bool → Policy → Policy → Packet → Marked → Packet → ℕ → Type 0
ChosenAt c p q x v y l = RecordsAt (if c then p else q) x v y l

-- what a policy records past dup k it records at k, and then in what is left there
abbrev pub Passes : Policy → Type 0
Passes p =
    (pk : Packet) (u : Marked) (x : Packet) (k : ℕ) (v : Marked) (y : Packet) (l : ℕ)
    → RecordsAt p pk (u ++ (x, k) ∷ v) y l
    → RecordsAt p pk u x k × RecordsAt (after p k) x v y l

-- what a sequence of parts records past dup k it records at k, and then in what is left there
abbrev pub AllPass : Policies → Type 0
AllPass ps =
    (pk : Packet) (u : Marked) (x : Packet) (k : ℕ) (v : Marked) (y : Packet) (l : ℕ)
    → AllRecordAt ps pk (u ++ (x, k) ∷ v) y l
    → AllRecordAt ps pk u x k × RecordsAt (after_all ps k) x v y l

-- and the other way
abbrev pub GoesOn : Policy → Type 0
GoesOn p =
    (pk : Packet) (u : Marked) (x : Packet) (k : ℕ) (v : Marked) (y : Packet) (l : ℕ)
    → RecordsAt p pk u x k → RecordsAt (after p k) x v y l
    → RecordsAt p pk (u ++ (x, k) ∷ v) y l

-- the other way of a sequence of parts
abbrev pub AllGoOn : Policies → Type 0
AllGoOn ps =
    (pk : Packet) (u : Marked) (x : Packet) (k : ℕ) (v : Marked) (y : Packet) (l : ℕ)
    → AllRecordAt ps pk u x k → RecordsAt (after_all ps k) x v y l
    → AllRecordAt ps pk (u ++ (x, k) ∷ v) y l

module _ (p : Policy) (ps : Policies) (apart : AreApart p ps) (split : Splits p) (join : Joins p) where
  -- the first part holds the dups at which it records
  held : (pk : Packet) (u : Marked) (x : Packet) (k : ℕ) → RecordsAt p pk u x k → has_dup p k ≡ true
  held pk u x k r = holds_dup p pk u x k r

  -- and none of those of the parts after it
  not_held : (pk : Packet) (u : Marked) (x : Packet) (k : ℕ) → AllRecordAt ps pk u x k
      → has_dup p k ≡ false
  not_held pk u x k r = apart k (all_hold_dup ps pk u x k r)

  -- one more part in front
  cons_passes : Passes p → AllPass ps → AllPass (part p ps)
  cons_passes pass passes pk u x k v y l r =
      ⊎_elim
      (λ s.
      let a = pass pk u x k v y l s in
      (inl a.0, subst (λ b. ChosenAt b (seq_of (part (after p k) ps)) (after_all ps k) x v y l) (sym (held pk u x k a.0)) (inl a.1)))
      (λ s.
      ⊎_elim
      (λ c.
      let a = split pk u x k c.0 s.2 (subst (λ t. way_of p numbered pk t s.2) c.1 s.4) in
      (inl a.0, subst (λ b. ChosenAt b (seq_of (part (after p k) ps)) (after_all ps k) x v y l) (sym (held pk u x k a.0)) (inr (c.0, s.1, s.2, c.2, a.1, s.5))))
      (λ c.
      let a = passes s.2 c.0 x k v y l (subst (λ t. AllRecordAt ps s.2 t y l) c.2 s.5) in
      (inr (s.0, c.0, s.2, c.1, s.4, a.0), subst (λ b. ChosenAt b (seq_of (part (after p k) ps)) (after_all ps k) x v y l) (sym (not_held s.2 c.0 x k a.0)) a.1))
      (cut s.0 s.1 u (x, k) v s.3))
      r

  -- and the other way
  cons_goes_on : GoesOn p → AllGoOn ps → AllGoOn (part p ps)
  cons_goes_on go goes pk u x k v y l at rest =
      ⊎_elim
      (λ s.
      let r = subst (λ b. ChosenAt b (seq_of (part (after p k) ps)) (after_all ps k) x v y l) (held pk u x k s) rest in
      ⊎_elim
      (λ a. inl (go pk u x k v y l s a))
      (λ a. inr (u ++ (x, k) ∷ a.0, a.1, a.2, ap (λ t. u ++ (x, k) ∷ t) a.3 ∙ sym (append_assoc u ((x, k) ∷ a.0) a.1), join pk u x k a.0 a.2 s a.4, a.5))
      r)
      (λ s.
      let r = subst (λ b. ChosenAt b (seq_of (part (after p k) ps)) (after_all ps k) x v y l) (not_held s.2 s.1 x k s.5) rest in
      inr (s.0, s.1 ++ (x, k) ∷ v, s.2, ap (λ t. t ++ (x, k) ∷ v) s.3 ∙ append_assoc s.0 s.1 ((x, k) ∷ v), s.4, goes s.2 s.1 x k v y l s.5 r))
      at

-- no part
none_pass : AllPass no_part
none_pass pk u x k v y l r = absurd r

-- and the other way
none_go_on : AllGoOn no_part
none_go_on pk u x k v y l r s = absurd r

-- a test
test_passes : (f n : ℕ) → Passes (test f n)
test_passes f n pk u x k v y l r = absurd r

-- a range
range_passes : (f lo hi : ℕ) → Passes (range f lo hi)
range_passes f lo hi pk u x k v y l r = absurd r

-- and the other way
test_goes_on : (f n : ℕ) → GoesOn (test f n)
test_goes_on f n pk u x k v y l r s = absurd r

-- and the other way
range_goes_on : (f lo hi : ℕ) → GoesOn (range f lo hi)
range_goes_on f lo hi pk u x k v y l r s = absurd r

-- an assignment
assign_passes : (f n : ℕ) → Passes (assign f n)
assign_passes f n pk u x k v y l r = absurd r

-- and the other way
assign_goes_on : (f n : ℕ) → GoesOn (assign f n)
assign_goes_on f n pk u x k v y l r s = absurd r

-- a dup
dup_passes : (j : ℕ) → Passes (dup j)
dup_passes j pk u x k v y l r = absurd (no_middle u (x, k) v r.0)

-- what is left of a dup records nothing
no_rest : (c : Bool) (x : Packet) (v : Marked) (y : Packet) (l : ℕ)
    → ChosenAt c id_policy drop_policy x v y l → ⊥
no_rest true x v y l r = r
no_rest false x v y l r = r

-- and the other way
dup_goes_on : (j : ℕ) → GoesOn (dup j)
dup_goes_on j pk u x k v y l r s = absurd (no_rest (k == j) x v y l s)

-- rounds and then rounds are rounds
rounds_more : (p : Policy) (n m : ℕ) (pk : Packet) (a : Marked) (z : Packet) (b : Marked) (y : Packet)
    → rounds n (way_of p numbered) pk a z → rounds m (way_of p numbered) z b y
    → (q : ℕ) × rounds q (way_of p numbered) pk (a ++ b) y
rounds_more p zero m pk a z b y r s =
    (m, subst (λ t. rounds m (way_of p numbered) pk (t ++ b) y) (sym r.0) (subst (λ w. rounds m (way_of p numbered) w b y) r.1 s))
rounds_more p (suc n) m pk a z b y r s =
    let g = rounds_more p n m r.2 r.1 z b y r.5 s in
    (suc g.0, (r.0, r.1 ++ b, r.2, ap (λ t. t ++ b) r.3 ∙ append_assoc r.0 r.1 b, r.4, g.1))

module _ (p : Policy) (d : HasDistinct p) where
  -- a star
  star_passes : Passes p → Passes (star_of p)
  star_passes pass pk u x k v y l r =
      ⊎_elim
      (λ s. absurd s)
      (λ s.
      ⊎_elim
      (λ c.
      let g = rounds_split p (splits p d) r.0 pk u x k c.0 s.2 (subst (λ t. rounds r.0 (way_of p numbered) pk t s.2) c.1 s.4) in
      let f = g.1.1 in
      let is : v ≡ f.0 ++ (f.1 ++ s.1) = c.2 ∙ ap (λ t. t ++ s.1) f.3 ∙ append_assoc f.0 f.1 s.1 in
      (g.0, inr (f.0, f.1 ++ s.1, f.2, is, f.4, inl (g.1.0, inr (f.1, s.1, s.2, refl, f.5, s.5)))))
      (λ c.
      let a = pass s.2 c.0 x k v y l (subst (λ t. RecordsAt p s.2 t y l) c.2 s.5) in
      ((r.0, inr (s.0, c.0, s.2, c.1, s.4, a.0)), inl a.1))
      (cut s.0 s.1 u (x, k) v s.3))
      r.1

  -- and the other way
  star_goes_on : GoesOn p → GoesOn (star_of p)
  star_goes_on go pk u x k v y l at rest =
      ⊎_elim
      (λ s. absurd s)
      (λ s.
      ⊎_elim
      (λ a.
      (at.0, inr (s.0, s.1 ++ (x, k) ∷ v, s.2, ap (λ t. t ++ (x, k) ∷ v) s.3 ∙ append_assoc s.0 s.1 ((x, k) ∷ v), s.4, go s.2 s.1 x k v y l s.5 a)))
      (λ a.
      ⊎_elim
      (λ b.
      ⊎_elim
      (λ c. absurd c)
      (λ c.
      let round = joins p d s.2 s.1 x k a.0 a.2 s.5 a.4 in
      let one : rounds (suc b.0) (way_of p numbered) s.2 ((s.1 ++ (x, k) ∷ a.0) ++ c.0) c.2 =
      (s.1 ++ (x, k) ∷ a.0, c.0, a.2, refl, round, c.4) in
      let all = rounds_more p at.0 (suc b.0) pk s.0 s.2 ((s.1 ++ (x, k) ∷ a.0) ++ c.0) c.2 s.4 one in
      let is_v : v ≡ a.0 ++ (c.0 ++ c.1) = a.3 ∙ ap (λ t. a.0 ++ t) c.3 in
      let is = in_pieces u v s.0 s.1 a.0 c.0 c.1 (x, k) s.3 is_v in
      (all.0, inr (s.0 ++ ((s.1 ++ (x, k) ∷ a.0) ++ c.0), c.1, c.2, is, all.1, c.5)))
      b.1)
      (λ b. absurd b.5)
      a.5)
      rest)
      at.1

-- a link literal, as the sequence of its six parts
link_passes : (a m b n j : ℕ) → Passes (link a m b n j)
link_passes a m b n j =
    cons_passes (test 0 a) (after1 m b n j) (λ l h. refl) (test_splits 0 a) (test_joins 0 a) (test_passes 0 a)
    (cons_passes (test 1 m) (after2 b n j) (λ l h. refl) (test_splits 1 m) (test_joins 1 m) (test_passes 1 m)
    (cons_passes (dup j) (after3 b n j) (λ l h. apart_dups l j h) (dup_splits j) (dup_joins j) (dup_passes j)
    (cons_passes (assign 0 b) (after4 n j) (λ l h. refl) (assign_splits 0 b) (assign_joins 0 b) (assign_passes 0 b)
    (cons_passes (assign 1 n) (after5 j) (λ l h. refl) (assign_splits 1 n) (assign_joins 1 n) (assign_passes 1 n)
    (cons_passes (dup (j + 1)) no_part (λ l h. absurd (false_true h)) (dup_splits (j + 1)) (dup_joins (j + 1)) (dup_passes (j + 1)) none_pass)))))

-- and the other way
link_goes_on : (a m b n j : ℕ) → GoesOn (link a m b n j)
link_goes_on a m b n j =
    cons_goes_on (test 0 a) (after1 m b n j) (λ l h. refl) (test_splits 0 a) (test_joins 0 a) (test_goes_on 0 a)
    (cons_goes_on (test 1 m) (after2 b n j) (λ l h. refl) (test_splits 1 m) (test_joins 1 m) (test_goes_on 1 m)
    (cons_goes_on (dup j) (after3 b n j) (λ l h. apart_dups l j h) (dup_splits j) (dup_joins j) (dup_goes_on j)
    (cons_goes_on (assign 0 b) (after4 n j) (λ l h. refl) (assign_splits 0 b) (assign_joins 0 b) (assign_goes_on 0 b)
    (cons_goes_on (assign 1 n) (after5 j) (λ l h. refl) (assign_splits 1 n) (assign_joins 1 n) (assign_goes_on 1 n)
    (cons_goes_on (dup (j + 1)) no_part (λ l h. absurd (false_true h)) (dup_splits (j + 1)) (dup_joins (j + 1)) (dup_goes_on (j + 1)) none_go_on)))))

mutual
  -- each policy whose dups differ
  pub passes : (p : Policy) → HasDistinct p → Passes p
  passes (test f n) d = test_passes f n
  passes (range f lo hi) d = range_passes f lo hi
  passes (assign f n) d = assign_passes f n
  passes (sum_of ps) d = λ pk u x k v y l r. some_pass ps d pk u x k v y l r
  passes (seq_of ps) d = λ pk u x k v y l r. all_pass ps d pk u x k v y l r
  passes (not_of p) d = λ pk u x k v y l r. absurd r
  passes (star_of p) d = star_passes p d (passes p d)
  passes (dup j) d = dup_passes j
  passes (link a m b n j) d = link_passes a m b n j

  -- a sum
  pub some_pass : (ps : Policies) → AllDistinct ps
      → (pk : Packet) (u : Marked) (x : Packet) (k : ℕ) (v : Marked) (y : Packet) (l : ℕ)
      → SomeRecordsAt ps pk (u ++ (x, k) ∷ v) y l
      → SomeRecordsAt ps pk u x k × RecordsAt (after_some ps k) x v y l
  some_pass no_part d pk u x k v y l r = absurd r
  some_pass (part p ps) d pk u x k v y l r =
      ⊎_elim
      (λ s.
      let a = passes p d.0 pk u x k v y l s in
      (inl a.0, subst (λ b. ChosenAt b (after p k) (after_some ps k) x v y l) (sym (holds_dup p pk u x k a.0)) a.1))
      (λ s.
      let a = some_pass ps d.1 pk u x k v y l s in
      (inr a.0, subst (λ b. ChosenAt b (after p k) (after_some ps k) x v y l) (sym (d.2 k (some_hold_dup ps pk u x k a.0))) a.1))
      r

  -- a sequence
  pub all_pass : (ps : Policies) → AllDistinct ps → AllPass ps
  all_pass no_part d = none_pass
  all_pass (part p ps) d = cons_passes p ps d.2 (splits p d.0) (joins p d.0) (passes p d.0) (all_pass ps d.1)

mutual
  -- and the other way
  pub goes_on : (p : Policy) → HasDistinct p → GoesOn p
  goes_on (test f n) d = test_goes_on f n
  goes_on (range f lo hi) d = range_goes_on f lo hi
  goes_on (assign f n) d = assign_goes_on f n
  goes_on (sum_of ps) d = λ pk u x k v y l r s. some_go_on ps d pk u x k v y l r s
  goes_on (seq_of ps) d = λ pk u x k v y l r s. all_go_on ps d pk u x k v y l r s
  goes_on (not_of p) d = λ pk u x k v y l r s. absurd r
  goes_on (star_of p) d = star_goes_on p d (goes_on p d)
  goes_on (dup j) d = dup_goes_on j
  goes_on (link a m b n j) d = link_goes_on a m b n j

  -- of a sum
  pub some_go_on : (ps : Policies) → AllDistinct ps
      → (pk : Packet) (u : Marked) (x : Packet) (k : ℕ) (v : Marked) (y : Packet) (l : ℕ)
      → SomeRecordsAt ps pk u x k → RecordsAt (after_some ps k) x v y l
      → SomeRecordsAt ps pk (u ++ (x, k) ∷ v) y l
  some_go_on no_part d pk u x k v y l r s = absurd r
  some_go_on (part p ps) d pk u x k v y l r rest =
      ⊎_elim
      (λ s. inl (goes_on p d.0 pk u x k v y l s (subst (λ b. ChosenAt b (after p k) (after_some ps k) x v y l) (holds_dup p pk u x k s) rest)))
      (λ s. inr (some_go_on ps d.1 pk u x k v y l s (subst (λ b. ChosenAt b (after p k) (after_some ps k) x v y l) (d.2 k (some_hold_dup ps pk u x k s)) rest)))
      r

  -- of a sequence
  pub all_go_on : (ps : Policies) → AllDistinct ps → AllGoOn ps
  all_go_on no_part d = none_go_on
  all_go_on (part p ps) d = cons_goes_on p ps d.2 (splits p d.0) (joins p d.0) (goes_on p d.0) (all_go_on ps d.1)
