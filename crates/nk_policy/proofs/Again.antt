-- What is left after a dup splits at its dups as the policy itself does.
use Rattle.std.proofs.Common.{◌≡◌, ℕ, ◌+◌, Bool, true, false, inl, inr, ⊎_elim, [], ◌∷◌, ◌++◌, refl, sym, ap, subst, ◌∙◌, append_assoc, append-nil}
use Rattle.std.specs.Prelude.{◌==◌, if◌then◌else◌}
use Rattle.nk_field.specs.declared.packet.Packet.{Packet}
use Rattle.nk_policy.specs.Policy.{Policy, Policies, test, range, assign, sum_of, seq_of, not_of, star_of, dup, link, no_part, part, link_parts}
use Rattle.nk_policy.specs.Meaning.{way_of, way_of_all}
use Rattle.nk_policy.specs.Progress.{Marked, numbered, RecordsAt}
use Rattle.nk_policy.specs.After.{id_policy, drop_policy, has_dup, some_has_dup, after, after_some, after_all}
use Rattle.nk_policy.specs.Distinct.{AreApart, HasDistinct, AllDistinct}
use Rattle.nk_policy.proofs.Splitting.{AllHoldDup, AllSplit, AllJoin, Chosen, after1, after2, after3, after4, after5, apart_dups, holds_dup, all_hold_dup, splits, all_split, joins, all_join}
use Rattle.nk_policy.proofs.Tests.{false_true, or_left, or_right, or_end}
use Rattle.nk_policy.proofs.ListParts.{no_middle, cut}

-- what is left after dup k records only dups of the policy, splits at them, and joins
pub record Again (p : Policy) (k : ℕ) : Type 0 where
  pub holds : (pk : Packet) (u : Marked) (x : Packet) (l : ℕ) → RecordsAt (after p k) pk u x l
      → has_dup p l ≡ true
  pub splits_too : (pk : Packet) (u : Marked) (x : Packet) (l : ℕ) (v : Marked) (y : Packet)
      → way_of (after p k) numbered pk (u ++ (x, l) ∷ v) y
      → RecordsAt (after p k) pk u x l × way_of (after p l) numbered x v y
  pub joins_too : (pk : Packet) (u : Marked) (x : Packet) (l : ℕ) (v : Marked) (y : Packet)
      → RecordsAt (after p k) pk u x l → way_of (after p l) numbered x v y
      → way_of (after p k) numbered pk (u ++ (x, l) ∷ v) y

-- what is left of a sequence of parts after dup k records only dups of the parts, splits at them, and joins
pub record AllAgain (ps : Policies) (k : ℕ) : Type 0 where
  pub holds : (pk : Packet) (u : Marked) (x : Packet) (l : ℕ) → RecordsAt (after_all ps k) pk u x l
      → some_has_dup ps l ≡ true
  pub splits_too : (pk : Packet) (u : Marked) (x : Packet) (l : ℕ) (v : Marked) (y : Packet)
      → way_of (after_all ps k) numbered pk (u ++ (x, l) ∷ v) y
      → RecordsAt (after_all ps k) pk u x l × way_of (after_all ps l) numbered x v y
  pub joins_too : (pk : Packet) (u : Marked) (x : Packet) (l : ℕ) (v : Marked) (y : Packet)
      → RecordsAt (after_all ps k) pk u x l → way_of (after_all ps l) numbered x v y
      → way_of (after_all ps k) numbered pk (u ++ (x, l) ∷ v) y

-- what is left of a sum of parts after dup k records only dups of the parts, splits at them, and joins
pub record SomeAgain (ps : Policies) (k : ℕ) : Type 0 where
  pub holds : (pk : Packet) (u : Marked) (x : Packet) (l : ℕ) → RecordsAt (after_some ps k) pk u x l
      → some_has_dup ps l ≡ true
  pub splits_too : (pk : Packet) (u : Marked) (x : Packet) (l : ℕ) (v : Marked) (y : Packet)
      → way_of (after_some ps k) numbered pk (u ++ (x, l) ∷ v) y
      → RecordsAt (after_some ps k) pk u x l × way_of (after_some ps l) numbered x v y
  pub joins_too : (pk : Packet) (u : Marked) (x : Packet) (l : ℕ) (v : Marked) (y : Packet)
      → RecordsAt (after_some ps k) pk u x l → way_of (after_some ps l) numbered x v y
      → way_of (after_some ps k) numbered pk (u ++ (x, l) ∷ v) y

-- the rest of a sequence at dup l, by which side holds l
rest_first : (p : Policy) (ps : Policies) (l : ℕ) (x : Packet) (v : Marked) (y : Packet)
    → has_dup p l ≡ true → way_of (seq_of (part (after p l) ps)) numbered x v y
    → way_of (after_all (part p ps) l) numbered x v y
rest_first p ps l x v y h r = subst (λ b. Chosen b (seq_of (part (after p l) ps)) (after_all ps l) x v y) (sym h) r

-- the rest of a sequence at dup l, where the first part doesn't hold l
rest_later : (p : Policy) (ps : Policies) (l : ℕ) (x : Packet) (v : Marked) (y : Packet)
    → has_dup p l ≡ false → way_of (after_all ps l) numbered x v y
    → way_of (after_all (part p ps) l) numbered x v y
rest_later p ps l x v y h r = subst (λ b. Chosen b (seq_of (part (after p l) ps)) (after_all ps l) x v y) (sym h) r

-- and back, where the first part holds it
first_rest : (p : Policy) (ps : Policies) (l : ℕ) (x : Packet) (v : Marked) (y : Packet)
    → has_dup p l ≡ true → way_of (after_all (part p ps) l) numbered x v y
    → way_of (seq_of (part (after p l) ps)) numbered x v y
first_rest p ps l x v y h r = subst (λ b. Chosen b (seq_of (part (after p l) ps)) (after_all ps l) x v y) h r

-- and back, where the parts after hold it
later_rest : (p : Policy) (ps : Policies) (l : ℕ) (x : Packet) (v : Marked) (y : Packet)
    → has_dup p l ≡ false → way_of (after_all (part p ps) l) numbered x v y
    → way_of (after_all ps l) numbered x v y
later_rest p ps l x v y h r = subst (λ b. Chosen b (seq_of (part (after p l) ps)) (after_all ps l) x v y) h r

-- what a sequence's rest is, by a test that says which side holds k
abbrev Rest : Bool → Policy → Policies → ℕ → Policy
Rest b p ps k = if b then seq_of (part (after p k) ps) else after_all ps k

module _ (p : Policy) (ps : Policies) (k : ℕ) (apart : AreApart p ps) (a : Again p k)
    (hold : AllHoldDup ps) (split : AllSplit ps) (join : AllJoin ps) (b : AllAgain ps k) where
  -- a sequence, by a test that says whether its first part holds k: its rest records only dups of the parts
  seq_holds : (c : Bool) (pk : Packet) (u : Marked) (x : Packet) (l : ℕ)
      → RecordsAt (Rest c p ps k) pk u x l → some_has_dup (part p ps) l ≡ true
  seq_holds true pk u x l r =
      ⊎_elim
      (λ s. or_left (has_dup p l) (some_has_dup ps l) (a.holds pk u x l s))
      (λ s. or_right (has_dup p l) (some_has_dup ps l) (hold s.2 s.1 x l s.5))
      r
  seq_holds false pk u x l r = or_right (has_dup p l) (some_has_dup ps l) (b.holds pk u x l r)

  -- its rest splits
  seq_splits : (c : Bool) (pk : Packet) (u : Marked) (x : Packet) (l : ℕ) (v : Marked) (y : Packet)
      → way_of (Rest c p ps k) numbered pk (u ++ (x, l) ∷ v) y
      → RecordsAt (Rest c p ps k) pk u x l × way_of (after_all (part p ps) l) numbered x v y
  seq_splits true pk u x l v y r =
      ⊎_elim
      (λ c.
      let s = a.splits_too pk u x l c.0 r.2 (subst (λ t. way_of (after p k) numbered pk t r.2) c.1 r.4) in
      (inl s.0, rest_first p ps l x v y (a.holds pk u x l s.0) (c.0, r.1, r.2, c.2, s.1, r.5)))
      (λ c.
      let s = split r.2 c.0 x l v y (subst (λ t. way_of_all ps numbered r.2 t y) c.2 r.5) in
      (inr (r.0, c.0, r.2, c.1, r.4, s.0), rest_later p ps l x v y (apart l (hold r.2 c.0 x l s.0)) s.1))
      (cut r.0 r.1 u (x, l) v r.3)
  seq_splits false pk u x l v y r =
      let s = b.splits_too pk u x l v y r in
      (s.0, rest_later p ps l x v y (apart l (b.holds pk u x l s.0)) s.1)

  -- and joins
  seq_joins : (c : Bool) (pk : Packet) (u : Marked) (x : Packet) (l : ℕ) (v : Marked) (y : Packet)
      → RecordsAt (Rest c p ps k) pk u x l → way_of (after_all (part p ps) l) numbered x v y
      → way_of (Rest c p ps k) numbered pk (u ++ (x, l) ∷ v) y
  seq_joins true pk u x l v y at rest =
      ⊎_elim
      (λ s.
      let f = first_rest p ps l x v y (a.holds pk u x l s) rest in
      (u ++ (x, l) ∷ f.0, f.1, f.2, ap (λ t. u ++ (x, l) ∷ t) f.3 ∙ sym (append_assoc u ((x, l) ∷ f.0) f.1), a.joins_too pk u x l f.0 f.2 s f.4, f.5))
      (λ s.
      let f = later_rest p ps l x v y (apart l (hold s.2 s.1 x l s.5)) rest in
      (s.0, s.1 ++ (x, l) ∷ v, s.2, ap (λ t. t ++ (x, l) ∷ v) s.3 ∙ append_assoc s.0 s.1 ((x, l) ∷ v), s.4, join s.2 s.1 x l v y s.5 f))
      at
  seq_joins false pk u x l v y at rest =
      b.joins_too pk u x l v y at (later_rest p ps l x v y (apart l (b.holds pk u x l at)) rest)

  -- so one more part in front may stand
  cons_again : AllAgain (part p ps) k
  cons_again = record {
    holds = seq_holds (has_dup p k);
    splits_too = seq_splits (has_dup p k);
    joins_too = seq_joins (has_dup p k);
  }

-- nothing is left where there was no dup
none_again : (k : ℕ) → AllAgain no_part k
none_again k = record {
  holds = λ pk u x l r. absurd r;
  splits_too = λ pk u x l v y r. absurd r;
  joins_too = λ pk u x l v y r s. absurd r;
}

-- a test
test_again : (f n k : ℕ) → Again (test f n) k
test_again f n k = record {
  holds = λ pk u x l r. absurd r;
  splits_too = λ pk u x l v y r. absurd r;
  joins_too = λ pk u x l v y r s. absurd r;
}

-- a range
range_again : (f lo hi k : ℕ) → Again (range f lo hi) k
range_again f lo hi k = record {
  holds = λ pk u x l r. absurd r;
  splits_too = λ pk u x l v y r. absurd r;
  joins_too = λ pk u x l v y r s. absurd r;
}

-- an assignment
assign_again : (f n k : ℕ) → Again (assign f n) k
assign_again f n k = record {
  holds = λ pk u x l r. absurd r;
  splits_too = λ pk u x l v y r. absurd r;
  joins_too = λ pk u x l v y r s. absurd r;
}

-- a complement
not_again : (p : Policy) (k : ℕ) → Again (not_of p) k
not_again p k = record {
  holds = λ pk u x l r. absurd r;
  splits_too = λ pk u x l v y r. absurd r;
  joins_too = λ pk u x l v y r s. absurd r;
}

-- the rest of a dup records nothing
abbrev pub RestOfDup : Bool → Policy
RestOfDup c = if c then id_policy else drop_policy

-- it records nothing, whichever it is
pub dup_records : (c : Bool) (pk : Packet) (u : Marked) (x : Packet) (l : ℕ)
    → RecordsAt (RestOfDup c) pk u x l → ⊥
dup_records true pk u x l r = r
dup_records false pk u x l r = r

-- nor has it a run with a record
dup_runs : (c : Bool) (pk : Packet) (u : Marked) (x : Packet) (l : ℕ) (v : Marked) (y : Packet)
    → way_of (RestOfDup c) numbered pk (u ++ (x, l) ∷ v) y → ⊥
dup_runs true pk u x l v y r = no_middle u (x, l) v r.0
dup_runs false pk u x l v y r = r

-- a dup
pub dup_again : (j k : ℕ) → Again (dup j) k
dup_again j k = record {
  holds = λ pk u x l r. absurd (dup_records (k == j) pk u x l r);
  splits_too = λ pk u x l v y r. absurd (dup_runs (k == j) pk u x l v y r);
  joins_too = λ pk u x l v y r s. absurd (dup_records (k == j) pk u x l r);
}

-- what a sum's rest is, by a test that says whether the first part holds k
abbrev Part : Bool → Policy → Policies → ℕ → Policy
Part c p ps k = if c then after p k else after_some ps k

module _ (p : Policy) (ps : Policies) (k : ℕ) (apart : AreApart p ps) (a : Again p k)
    (b : SomeAgain ps k) where
  -- a sum, by a test that says whether its first part holds k: its rest records only dups of the parts
  sum_holds : (c : Bool) (pk : Packet) (u : Marked) (x : Packet) (l : ℕ)
      → RecordsAt (Part c p ps k) pk u x l → some_has_dup (part p ps) l ≡ true
  sum_holds true pk u x l r = or_left (has_dup p l) (some_has_dup ps l) (a.holds pk u x l r)
  sum_holds false pk u x l r = or_right (has_dup p l) (some_has_dup ps l) (b.holds pk u x l r)

  -- its rest splits
  sum_splits : (c : Bool) (pk : Packet) (u : Marked) (x : Packet) (l : ℕ) (v : Marked) (y : Packet)
      → way_of (Part c p ps k) numbered pk (u ++ (x, l) ∷ v) y
      → RecordsAt (Part c p ps k) pk u x l × way_of (after_some (part p ps) l) numbered x v y
  sum_splits true pk u x l v y r =
      let s = a.splits_too pk u x l v y r in
      (s.0, subst (λ c. Chosen c (after p l) (after_some ps l) x v y) (sym (a.holds pk u x l s.0)) s.1)
  sum_splits false pk u x l v y r =
      let s = b.splits_too pk u x l v y r in
      (s.0, subst (λ c. Chosen c (after p l) (after_some ps l) x v y) (sym (apart l (b.holds pk u x l s.0))) s.1)

  -- and joins
  sum_joins : (c : Bool) (pk : Packet) (u : Marked) (x : Packet) (l : ℕ) (v : Marked) (y : Packet)
      → RecordsAt (Part c p ps k) pk u x l → way_of (after_some (part p ps) l) numbered x v y
      → way_of (Part c p ps k) numbered pk (u ++ (x, l) ∷ v) y
  sum_joins true pk u x l v y at rest =
      a.joins_too pk u x l v y at (subst (λ c. Chosen c (after p l) (after_some ps l) x v y) (a.holds pk u x l at) rest)
  sum_joins false pk u x l v y at rest =
      b.joins_too pk u x l v y at (subst (λ c. Chosen c (after p l) (after_some ps l) x v y) (apart l (b.holds pk u x l at)) rest)

  -- so one more part in front may stand
  cons_some_again : SomeAgain (part p ps) k
  cons_some_again = record {
    holds = sum_holds (has_dup p k);
    splits_too = sum_splits (has_dup p k);
    joins_too = sum_joins (has_dup p k);
  }

-- nothing is left of no part
none_some_again : (k : ℕ) → SomeAgain no_part k
none_some_again k = record {
  holds = λ pk u x l r. absurd r;
  splits_too = λ pk u x l v y r. absurd r;
  joins_too = λ pk u x l v y r s. absurd r;
}

module _ (p : Policy) (d : HasDistinct p) (k : ℕ) (a : Again p k) where
  -- the rest of a round and then rounds: it records only dups of the star
  star_holds : (pk : Packet) (u : Marked) (x : Packet) (l : ℕ)
      → RecordsAt (after (star_of p) k) pk u x l → has_dup (star_of p) l ≡ true
  star_holds pk u x l r =
      ⊎_elim
      (λ s. a.holds pk u x l s)
      (λ s. ⊎_elim (λ t. holds_dup (star_of p) s.2 s.1 x l t) (λ t. absurd t.5) s.5)
      r

  -- it splits
  star_splits : (pk : Packet) (u : Marked) (x : Packet) (l : ℕ) (v : Marked) (y : Packet)
      → way_of (after (star_of p) k) numbered pk (u ++ (x, l) ∷ v) y
      → RecordsAt (after (star_of p) k) pk u x l × way_of (after (star_of p) l) numbered x v y
  star_splits pk u x l v y r =
      let g = r.5 in
      ⊎_elim
      (λ c.
      let s = a.splits_too pk u x l c.0 r.2 (subst (λ t. way_of (after p k) numbered pk t r.2) c.1 r.4) in
      (inl s.0, (c.0, r.1, r.2, c.2, s.1, r.5)))
      (λ c.
      let is : g.0 ≡ c.0 ++ (x, l) ∷ v = sym (append-nil g.0) ∙ ap (λ t. g.0 ++ t) (sym g.5.0) ∙ sym g.3 ∙ c.2 in
      let run : way_of (star_of p) numbered r.2 (c.0 ++ (x, l) ∷ v) y =
      subst (λ z. way_of (star_of p) numbered r.2 (c.0 ++ (x, l) ∷ v) z) (sym g.5.1) (subst (λ t. way_of (star_of p) numbered r.2 t g.2) is g.4) in
      let s = splits (star_of p) d r.2 c.0 x l v y run in
      (inr (r.0, c.0, r.2, c.1, r.4, inl s.0), s.1))
      (cut r.0 r.1 u (x, l) v r.3)

  -- and joins
  star_joins : (pk : Packet) (u : Marked) (x : Packet) (l : ℕ) (v : Marked) (y : Packet)
      → RecordsAt (after (star_of p) k) pk u x l → way_of (after (star_of p) l) numbered x v y
      → way_of (after (star_of p) k) numbered pk (u ++ (x, l) ∷ v) y
  star_joins pk u x l v y at rest =
      ⊎_elim
      (λ s.
      let f = rest in
      (u ++ (x, l) ∷ f.0, f.1, f.2, ap (λ t. u ++ (x, l) ∷ t) f.3 ∙ sym (append_assoc u ((x, l) ∷ f.0) f.1), a.joins_too pk u x l f.0 f.2 s f.4, f.5))
      (λ s.
      ⊎_elim
      (λ t.
      let run = joins (star_of p) d s.2 s.1 x l v y t rest in
      (s.0, s.1 ++ (x, l) ∷ v, s.2, ap (λ w. w ++ (x, l) ∷ v) s.3 ∙ append_assoc s.0 s.1 ((x, l) ∷ v), s.4, (s.1 ++ (x, l) ∷ v, [], y, sym (append-nil (s.1 ++ (x, l) ∷ v)), run, (refl, refl))))
      (λ t. absurd t.5)
      s.5)
      at

  -- so a star may stand
  star_again : Again (star_of p) k
  star_again = record { holds = star_holds; splits_too = star_splits; joins_too = star_joins }

-- the last part of a link literal has dups of its own
pub distinct5 : (k : ℕ) → AllDistinct (after5 k)
distinct5 k = (tt, tt, λ l h. absurd (false_true h))

-- so have the last two parts
pub distinct4 : (n k : ℕ) → AllDistinct (after4 n k)
distinct4 n k = (tt, distinct5 k, λ l h. refl)

-- the last three
pub distinct3 : (b n k : ℕ) → AllDistinct (after3 b n k)
distinct3 b n k = (tt, distinct4 n k, λ l h. refl)

-- the last four
pub distinct2 : (b n k : ℕ) → AllDistinct (after2 b n k)
distinct2 b n k = (tt, distinct3 b n k, λ l h. apart_dups l k h)

-- and the last five
pub distinct1 : (m b n k : ℕ) → AllDistinct (after1 m b n k)
distinct1 m b n k = (tt, distinct2 b n k, λ l h. refl)

-- one more part in front of parts with dups of their own
cons_here : (p : Policy) (ps : Policies) (k : ℕ) → AreApart p ps → Again p k → AllDistinct ps
    → AllAgain ps k → AllAgain (part p ps) k
cons_here p ps k apart a d b = cons_again p ps k apart a (all_hold_dup ps) (all_split ps d) (all_join ps d) b

-- the six parts of a link literal
parts_again : (a m b n j k : ℕ) → AllAgain (link_parts a m b n j) k
parts_again a m b n j k =
    cons_here (test 0 a) (after1 m b n j) k (λ l h. refl) (test_again 0 a k) (distinct1 m b n j)
    (cons_here (test 1 m) (after2 b n j) k (λ l h. refl) (test_again 1 m k) (distinct2 b n j)
    (cons_here (dup j) (after3 b n j) k (λ l h. apart_dups l j h) (dup_again j k) (distinct3 b n j)
    (cons_here (assign 0 b) (after4 n j) k (λ l h. refl) (assign_again 0 b k) (distinct4 n j)
    (cons_here (assign 1 n) (after5 j) k (λ l h. refl) (assign_again 1 n k) (distinct5 j)
    (cons_here (dup (j + 1)) no_part k (λ l h. absurd (false_true h)) (dup_again (j + 1) k) tt (none_again k))))))

-- a link literal
link_again : (a m b n j k : ℕ) → Again (link a m b n j) k
link_again a m b n j k =
    let g = parts_again a m b n j k in
    record {
      holds = λ pk u x l r. or_end (l == j) (l == (j + 1)) (g.holds pk u x l r);
      splits_too = g.splits_too;
      joins_too = g.joins_too;
    }

mutual
  -- each policy whose dups differ
  pub again : (p : Policy) → HasDistinct p → (k : ℕ) → Again p k
  again (test f n) d k = test_again f n k
  again (range f lo hi) d k = range_again f lo hi k
  again (assign f n) d k = assign_again f n k
  again (sum_of ps) d k =
      let g = some_again ps d k in record { holds = g.holds; splits_too = g.splits_too; joins_too = g.joins_too }
  again (seq_of ps) d k =
      let g = all_again ps d k in record { holds = g.holds; splits_too = g.splits_too; joins_too = g.joins_too }
  again (not_of p) d k = not_again p k
  again (star_of p) d k = star_again p d k (again p d k)
  again (dup l) d k = dup_again l k
  again (link a m b n l) d k = link_again a m b n l k

  -- a sum of such
  pub some_again : (ps : Policies) → AllDistinct ps → (k : ℕ) → SomeAgain ps k
  some_again no_part d k = none_some_again k
  some_again (part p ps) d k = cons_some_again p ps k d.2 (again p d.0 k) (some_again ps d.1 k)

  -- a sequence of such
  pub all_again : (ps : Policies) → AllDistinct ps → (k : ℕ) → AllAgain ps k
  all_again no_part d k = none_again k
  all_again (part p ps) d k = cons_here p ps k d.2 (again p d.0 k) d.1 (all_again ps d.1 k)
