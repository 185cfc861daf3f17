-- A run that records something at a dup is a run up to that dup, and a run of what is left after it.
use Rattle.std.proofs.Common.{◌≡◌, ℕ, zero, suc, ◌+◌, Bool, true, false, inl, inr, ⊎_elim, [], ◌∷◌, ◌++◌, refl, sym, ap, subst, ◌∙◌, arith, append_assoc, append-nil}
use Rattle.std.specs.Prelude.{◌==◌, ◌||◌, if◌then◌else◌}
use Rattle.nk_policy.specs.Policy.{Policy, Policies, test, range, assign, sum_of, seq_of, not_of, star_of, dup, link, no_part, part}
use Rattle.nk_field.specs.declared.packet.Packet.{Packet}
use Rattle.nk_policy.specs.Meaning.{followed_by, rounds, way_of, some_way_of, way_of_all}
use Rattle.nk_policy.specs.Progress.{Marked, numbered, no_dup, within_either, RecordsAt, SomeRecordsAt, AllRecordAt}
use Rattle.nk_policy.specs.Distinct.{AreApart, HasDistinct, AllDistinct}
use Rattle.nk_policy.specs.After.{id_policy, drop_policy, has_dup, some_has_dup, after, after_some, after_all}
use Rattle.nk_policy.proofs.Tests.{false_true, or_left, or_right, or_end, same_test}
use Rattle.nk_policy.proofs.ListParts.{no_middle, only_middle, cut}

-- the parts of a link literal from the second on
abbrev pub after1 : ℕ → ℕ → ℕ → ℕ → Policies
after1 m b n k = part (test 1 m) (part (dup k) (part (assign 0 b) (part (assign 1 n) (part (dup (k + 1)) no_part))))

-- from the third on
abbrev pub after2 : ℕ → ℕ → ℕ → Policies
after2 b n k = part (dup k) (part (assign 0 b) (part (assign 1 n) (part (dup (k + 1)) no_part)))

-- from the fourth on
abbrev pub after3 : ℕ → ℕ → ℕ → Policies
after3 b n k = part (assign 0 b) (part (assign 1 n) (part (dup (k + 1)) no_part))

-- from the fifth on
abbrev pub after4 : ℕ → ℕ → Policies
after4 n k = part (assign 1 n) (part (dup (k + 1)) no_part)

-- the sixth
abbrev pub after5 : ℕ → Policies
after5 k = part (dup (k + 1)) no_part

-- what records at a dup holds the dup
abbrev pub HoldsDup : Policy → Type 0
HoldsDup p = (pk : Packet) (u : Marked) (x : Packet) (l : ℕ) → RecordsAt p pk u x l → has_dup p l ≡ true

-- a sequence of parts that records at a dup holds the dup
abbrev pub AllHoldDup : Policies → Type 0
AllHoldDup ps = (pk : Packet) (u : Marked) (x : Packet) (l : ℕ) → AllRecordAt ps pk u x l → some_has_dup ps l ≡ true

-- one more part in front
cons_holds : (p : Policy) (ps : Policies) → HoldsDup p → AllHoldDup ps → AllHoldDup (part p ps)
cons_holds p ps h hs pk u x l r =
    ⊎_elim
    (λ a. or_left (has_dup p l) (some_has_dup ps l) (h pk u x l a))
    (λ b. or_right (has_dup p l) (some_has_dup ps l) (hs b.2 b.1 x l b.5))
    r

-- a test
pub test_holds : (f n : ℕ) → HoldsDup (test f n)
test_holds f n pk u x l r = absurd r

-- an assignment
pub assign_holds : (f n : ℕ) → HoldsDup (assign f n)
assign_holds f n pk u x l r = absurd r

-- a dup
pub dup_holds : (k : ℕ) → HoldsDup (dup k)
dup_holds k pk u x l r = grind (arith, r.2)

-- no part
pub none_hold : AllHoldDup no_part
none_hold pk u x l r = absurd r

-- a link literal, as the sequence of its six parts
pub link_holds : (a m b n k : ℕ) → HoldsDup (link a m b n k)
link_holds a m b n k pk u x l r =
    or_end (l == k) (l == (k + 1)) (cons_holds (test 0 a) (after1 m b n k) (test_holds 0 a) (cons_holds (test 1 m) (after2 b n k) (test_holds 1 m) (cons_holds (dup k) (after3 b n k) (dup_holds k) (cons_holds (assign 0 b) (after4 n k) (assign_holds 0 b) (cons_holds (assign 1 n) (after5 k) (assign_holds 1 n) (cons_holds (dup (k + 1)) no_part (dup_holds (k + 1)) none_hold))))) pk u x l r)

mutual
  -- a policy
  pub holds_dup : (p : Policy) → HoldsDup p
  holds_dup (sum_of ps) pk u x l r = some_hold_dup ps pk u x l r
  holds_dup (seq_of ps) pk u x l r = all_hold_dup ps pk u x l r
  holds_dup (star_of p) pk u x l r =
      ⊎_elim (λ a. absurd a) (λ b. holds_dup p b.2 b.1 x l b.5) r.1
  holds_dup (dup k) pk u x l r = dup_holds k pk u x l r
  holds_dup (link a m b n k) pk u x l r = link_holds a m b n k pk u x l r
  holds_dup p pk u x l r = absurd r

  -- a sum
  pub some_hold_dup : (ps : Policies) (pk : Packet) (u : Marked) (x : Packet) (l : ℕ)
      → SomeRecordsAt ps pk u x l → some_has_dup ps l ≡ true
  some_hold_dup no_part pk u x l r = absurd r
  some_hold_dup (part p ps) pk u x l r =
      ⊎_elim
      (λ a. or_left (has_dup p l) (some_has_dup ps l) (holds_dup p pk u x l a))
      (λ b. or_right (has_dup p l) (some_has_dup ps l) (some_hold_dup ps pk u x l b))
      r

  -- a sequence
  pub all_hold_dup : (ps : Policies) → AllHoldDup ps
  all_hold_dup no_part pk u x l r = absurd r
  all_hold_dup (part p ps) pk u x l r =
      ⊎_elim
      (λ a. or_left (has_dup p l) (some_has_dup ps l) (holds_dup p pk u x l a))
      (λ b. or_right (has_dup p l) (some_has_dup ps l) (all_hold_dup ps b.2 b.1 x l b.5))
      r

-- what a policy records splits at each dup
abbrev pub Splits : Policy → Type 0
Splits p =
    (pk : Packet) (u : Marked) (x : Packet) (l : ℕ) (v : Marked) (y : Packet)
    → way_of p numbered pk (u ++ (x, l) ∷ v) y
    → RecordsAt p pk u x l × way_of (after p l) numbered x v y

-- what a sequence of parts records splits at each dup
abbrev pub AllSplit : Policies → Type 0
AllSplit ps =
    (pk : Packet) (u : Marked) (x : Packet) (l : ℕ) (v : Marked) (y : Packet)
    → way_of_all ps numbered pk (u ++ (x, l) ∷ v) y
    → AllRecordAt ps pk u x l × way_of (after_all ps l) numbered x v y

-- the choice of what is left, by the dup
abbrev pub Chosen : Bool → Policy → Policy → Packet → Marked → Packet → Type 0
Chosen c p q x v y = way_of (if c then p else q) numbered x v y

-- one more part in front
pub cons_splits : (p : Policy) (ps : Policies) → AreApart p ps → HoldsDup p → AllHoldDup ps
    → Splits p → AllSplit ps → AllSplit (part p ps)
cons_splits p ps apart h hs split splits pk u x l v y r =
    ⊎_elim
    (λ c.
    let s = split pk u x l c.0 r.2 (subst (λ a. way_of p numbered pk a r.2) c.1 r.4) in
    let held = h pk u x l s.0 in
    (inl s.0, subst (λ b. Chosen b (seq_of (part (after p l) ps)) (after_all ps l) x v y) (sym held) (c.0, r.1, r.2, c.2, s.1, r.5)))
    (λ c.
    let s = splits r.2 c.0 x l v y (subst (λ b. way_of_all ps numbered r.2 b y) c.2 r.5) in
    let held = apart l (hs r.2 c.0 x l s.0) in
    (inr (r.0, c.0, r.2, c.1, r.4, s.0), subst (λ b. Chosen b (seq_of (part (after p l) ps)) (after_all ps l) x v y) (sym held) s.1))
    (cut r.0 r.1 u (x, l) v r.3)

-- a test
pub test_splits : (f n : ℕ) → Splits (test f n)
test_splits f n pk u x l v y r = absurd (no_middle u (x, l) v r.1)

-- a range
pub range_splits : (f lo hi : ℕ) → Splits (range f lo hi)
range_splits f lo hi pk u x l v y r = absurd (no_middle u (x, l) v r.2)

-- an assignment
pub assign_splits : (f n : ℕ) → Splits (assign f n)
assign_splits f n pk u x l v y r = absurd (no_middle u (x, l) v r.0)

-- equal records have equal packets
first_is : (x : Packet) (l : ℕ) (pk : Packet) (k : ℕ) → numbered l x ≡ numbered k pk → x ≡ pk
first_is x l pk k e = ap (λ r. r.0) e

-- and equal numbers
second_is : (x : Packet) (l : ℕ) (pk : Packet) (k : ℕ) → numbered l x ≡ numbered k pk → l ≡ k
second_is x l pk k e = ap (λ r. r.1) e

-- a dup
pub dup_splits : (k : ℕ) → Splits (dup k)
dup_splits k pk u x l v y r =
    let e = only_middle u (x, l) v (pk, k) r.0 in
    let is_x = first_is x l pk k e.1 in
    let is_l = second_is x l pk k e.1 in
    ((e.0, is_x, is_l), subst (λ b. Chosen b id_policy drop_policy x v y) (sym (same_test l k is_l)) (e.2, r.1 ∙ sym is_x))

-- no part
pub none_split : AllSplit no_part
none_split pk u x l v y r = absurd (no_middle u (x, l) v r.0)

-- of rounds that record at a dup, those before, the round itself and those after
pub rounds_split : (p : Policy) → Splits p
    → (n : ℕ) (pk : Packet) (u : Marked) (x : Packet) (l : ℕ) (v : Marked) (y : Packet)
    → rounds n (way_of p numbered) pk (u ++ (x, l) ∷ v) y
    → ((j : ℕ) × within_either no_dup (rounds j (way_of p numbered)) (RecordsAt p) pk u x l) × ((i : ℕ) × followed_by (way_of (after p l) numbered) (rounds i (way_of p numbered)) x v y)
rounds_split p split zero pk u x l v y r = absurd (no_middle u (x, l) v r.0)
rounds_split p split (suc n) pk u x l v y r =
    ⊎_elim
    (λ c.
    let s = split pk u x l c.0 r.2 (subst (λ a. way_of p numbered pk a r.2) c.1 r.4) in
    ((zero, inr ([], u, pk, refl, (refl, refl), s.0)), (n, (c.0, r.1, r.2, c.2, s.1, r.5))))
    (λ c.
    let s = rounds_split p split n r.2 c.0 x l v y (subst (λ b. rounds n (way_of p numbered) r.2 b y) c.2 r.5) in
    ⊎_elim
    (λ a. absurd a)
    (λ b. ((suc s.0.0, inr (r.0 ++ b.0, b.1, b.2, c.1 ∙ ap (λ t. r.0 ++ t) b.3 ∙ sym (append_assoc r.0 b.0 b.1), (r.0, b.0, r.2, refl, r.4, b.4), b.5)), s.1))
    s.0.1)
    (cut r.0 r.1 u (x, l) v r.3)

-- the second dup of a link literal is not the first
pub apart_dups : (l k : ℕ) → (l == (k + 1)) || false ≡ true → l == k ≡ false
apart_dups l k h = grind (arith, h)

-- what is left in a star after a dup of a round
star_rest : (p : Policy) (l : ℕ) (x : Packet) (v : Marked) (y : Packet)
    → (i : ℕ) × followed_by (way_of (after p l) numbered) (rounds i (way_of p numbered)) x v y
    → way_of (after (star_of p) l) numbered x v y
star_rest p l x v y r =
    let f = r.1 in
    (f.0, f.1, f.2, f.3, f.4, (f.1, [], y, sym (append-nil f.1), (r.0, f.5), (refl, refl)))

-- a link literal, as the sequence of its six parts
link_splits : (a m b n k : ℕ) → Splits (link a m b n k)
link_splits a m b n k =
    cons_splits (test 0 a) (after1 m b n k) (λ l h. refl) (test_holds 0 a) (λ pk u x l r. all_hold_dup (after1 m b n k) pk u x l r) (test_splits 0 a)
    (cons_splits (test 1 m) (after2 b n k) (λ l h. refl) (test_holds 1 m) (λ pk u x l r. all_hold_dup (after2 b n k) pk u x l r) (test_splits 1 m)
    (cons_splits (dup k) (after3 b n k) (λ l h. apart_dups l k h) (dup_holds k) (λ pk u x l r. all_hold_dup (after3 b n k) pk u x l r) (dup_splits k)
    (cons_splits (assign 0 b) (after4 n k) (λ l h. refl) (assign_holds 0 b) (λ pk u x l r. all_hold_dup (after4 n k) pk u x l r) (assign_splits 0 b)
    (cons_splits (assign 1 n) (after5 k) (λ l h. refl) (assign_holds 1 n) (λ pk u x l r. all_hold_dup (after5 k) pk u x l r) (assign_splits 1 n)
    (cons_splits (dup (k + 1)) no_part (λ l h. absurd (false_true h)) (dup_holds (k + 1)) none_hold (dup_splits (k + 1)) none_split)))))

mutual
  -- each policy whose dups differ
  pub splits : (p : Policy) → HasDistinct p → Splits p
  splits (test f n) d = test_splits f n
  splits (range f lo hi) d = range_splits f lo hi
  splits (assign f n) d = assign_splits f n
  splits (sum_of ps) d = λ pk u x l v y r. some_split ps d pk u x l v y r
  splits (seq_of ps) d = λ pk u x l v y r. all_split ps d pk u x l v y r
  splits (not_of p) d = λ pk u x l v y r. absurd (no_middle u (x, l) v r.0.0)
  splits (star_of p) d = λ pk u x l v y r.
      let s = rounds_split p (splits p d) r.0 pk u x l v y r.1 in
      (s.0, star_rest p l x v y s.1)
  splits (dup k) d = dup_splits k
  splits (link a m b n k) d = link_splits a m b n k

  -- a sum
  pub some_split : (ps : Policies) → AllDistinct ps
      → (pk : Packet) (u : Marked) (x : Packet) (l : ℕ) (v : Marked) (y : Packet)
      → some_way_of ps numbered pk (u ++ (x, l) ∷ v) y
      → SomeRecordsAt ps pk u x l × way_of (after_some ps l) numbered x v y
  some_split no_part d pk u x l v y r = absurd r
  some_split (part p ps) d pk u x l v y r =
      ⊎_elim
      (λ a.
      let s = splits p d.0 pk u x l v y a in
      (inl s.0, subst (λ b. Chosen b (after p l) (after_some ps l) x v y) (sym (holds_dup p pk u x l s.0)) s.1))
      (λ b.
      let s = some_split ps d.1 pk u x l v y b in
      (inr s.0, subst (λ c. Chosen c (after p l) (after_some ps l) x v y) (sym (d.2 l (some_hold_dup ps pk u x l s.0))) s.1))
      r

  -- a sequence
  pub all_split : (ps : Policies) → AllDistinct ps → AllSplit ps
  all_split no_part d = none_split
  all_split (part p ps) d =
      cons_splits p ps d.2 (λ pk u x l r. holds_dup p pk u x l r) (λ pk u x l r. all_hold_dup ps pk u x l r) (splits p d.0) (all_split ps d.1)

-- and what was recorded up to a dup goes on with what is left
abbrev pub Joins : Policy → Type 0
Joins p =
    (pk : Packet) (u : Marked) (x : Packet) (l : ℕ) (v : Marked) (y : Packet) → RecordsAt p pk u x l
    → way_of (after p l) numbered x v y → way_of p numbered pk (u ++ (x, l) ∷ v) y

-- what a sequence of parts recorded up to a dup goes on with what is left
abbrev pub AllJoin : Policies → Type 0
AllJoin ps =
    (pk : Packet) (u : Marked) (x : Packet) (l : ℕ) (v : Marked) (y : Packet)
    → AllRecordAt ps pk u x l → way_of (after_all ps l) numbered x v y
    → way_of_all ps numbered pk (u ++ (x, l) ∷ v) y

-- one more part in front
pub cons_joins : (p : Policy) (ps : Policies) → AreApart p ps → HoldsDup p → AllHoldDup ps → Joins p
    → AllJoin ps → AllJoin (part p ps)
cons_joins p ps apart h hs join joins pk u x l v y at rest =
    ⊎_elim
    (λ a.
    let f = subst (λ b. Chosen b (seq_of (part (after p l) ps)) (after_all ps l) x v y) (h pk u x l a) rest in
    (u ++ (x, l) ∷ f.0, f.1, f.2, ap (λ t. u ++ (x, l) ∷ t) f.3 ∙ sym (append_assoc u ((x, l) ∷ f.0) f.1), join pk u x l f.0 f.2 a f.4, f.5))
    (λ b.
    let f = subst (λ c. Chosen c (seq_of (part (after p l) ps)) (after_all ps l) x v y) (apart l (hs b.2 b.1 x l b.5)) rest in
    (b.0, b.1 ++ (x, l) ∷ v, b.2, ap (λ t. t ++ (x, l) ∷ v) b.3 ∙ append_assoc b.0 b.1 ((x, l) ∷ v), b.4, joins b.2 b.1 x l v y b.5 f))
    at

-- a test
pub test_joins : (f n : ℕ) → Joins (test f n)
test_joins f n pk u x l v y at rest = absurd at

-- a range
pub range_joins : (f lo hi : ℕ) → Joins (range f lo hi)
range_joins f lo hi pk u x l v y at rest = absurd at

-- an assignment
pub assign_joins : (f n : ℕ) → Joins (assign f n)
assign_joins f n pk u x l v y at rest = absurd at

-- a dup
pub dup_joins : (k : ℕ) → Joins (dup k)
dup_joins k pk u x l v y at rest =
    let r = subst (λ b. Chosen b id_policy drop_policy x v y) (same_test l k at.2) rest in
    (ap (λ t. t ++ (x, l) ∷ v) at.0 ∙ ap (λ t. (x, l) ∷ t) r.0 ∙ ap (λ z. (z, l) ∷ []) at.1 ∙ ap (λ m. (pk, m) ∷ []) at.2, r.1 ∙ at.1)

-- no part
pub none_join : AllJoin no_part
none_join pk u x l v y at rest = absurd at

-- rounds, then a part of a round and what is left of it, then more rounds
rounds_join : (p : Policy) → Joins p
    → (j i : ℕ) (pk : Packet) (u : Marked) (x : Packet) (l : ℕ) (v : Marked) (y : Packet)
    → within_either no_dup (rounds j (way_of p numbered)) (RecordsAt p) pk u x l
    → followed_by (way_of (after p l) numbered) (rounds i (way_of p numbered)) x v y
    → (n : ℕ) × rounds n (way_of p numbered) pk (u ++ (x, l) ∷ v) y
rounds_join p join zero i pk u x l v y at rest =
    ⊎_elim
    (λ a. absurd a)
    (λ b.
    let here = subst (λ z. RecordsAt p z b.1 x l) b.4.1 b.5 in
    let is_u : u ≡ b.1 = b.3 ∙ ap (λ t. t ++ b.1) b.4.0 in
    (suc i, (b.1 ++ (x, l) ∷ rest.0, rest.1, rest.2, ap (λ t. t ++ (x, l) ∷ v) is_u ∙ ap (λ t. b.1 ++ (x, l) ∷ t) rest.3 ∙ sym (append_assoc b.1 ((x, l) ∷ rest.0) rest.1), join pk b.1 x l rest.0 rest.2 here rest.4, rest.5)))
    at
rounds_join p join (suc j) i pk u x l v y at rest =
    ⊎_elim
    (λ a. absurd a)
    (λ b.
    let f = b.4 in
    let r = rounds_join p join j i f.2 (f.1 ++ b.1) x l v y (inr (f.1, b.1, b.2, refl, f.5, b.5)) rest in
    let is_u : u ≡ f.0 ++ (f.1 ++ b.1) = b.3 ∙ ap (λ t. t ++ b.1) f.3 ∙ append_assoc f.0 f.1 b.1 in
    (suc r.0, (f.0, (f.1 ++ b.1) ++ (x, l) ∷ v, f.2, ap (λ t. t ++ (x, l) ∷ v) is_u ∙ append_assoc f.0 (f.1 ++ b.1) ((x, l) ∷ v), f.4, r.1)))
    at

-- what is left of a star after a dup is the rest of its round, then rounds
star_rest_is : (p : Policy) (l : ℕ) (x : Packet) (v : Marked) (y : Packet)
    → way_of (after (star_of p) l) numbered x v y
    → (i : ℕ) × followed_by (way_of (after p l) numbered) (rounds i (way_of p numbered)) x v y
star_rest_is p l x v y f =
    let g = f.5 in
    let is_v : v ≡ f.0 ++ g.0 = f.3 ∙ ap (λ t. f.0 ++ t) (g.3 ∙ ap (λ t. g.0 ++ t) g.5.0 ∙ append-nil g.0) in
    (g.4.0, (f.0, g.0, f.2, is_v, f.4, subst (λ z. rounds g.4.0 (way_of p numbered) f.2 g.0 z) (sym g.5.1) g.4.1))

-- a link literal, as the sequence of its six parts
link_joins : (a m b n k : ℕ) → Joins (link a m b n k)
link_joins a m b n k =
    cons_joins (test 0 a) (after1 m b n k) (λ l h. refl) (test_holds 0 a) (λ pk u x l r. all_hold_dup (after1 m b n k) pk u x l r) (test_joins 0 a)
    (cons_joins (test 1 m) (after2 b n k) (λ l h. refl) (test_holds 1 m) (λ pk u x l r. all_hold_dup (after2 b n k) pk u x l r) (test_joins 1 m)
    (cons_joins (dup k) (after3 b n k) (λ l h. apart_dups l k h) (dup_holds k) (λ pk u x l r. all_hold_dup (after3 b n k) pk u x l r) (dup_joins k)
    (cons_joins (assign 0 b) (after4 n k) (λ l h. refl) (assign_holds 0 b) (λ pk u x l r. all_hold_dup (after4 n k) pk u x l r) (assign_joins 0 b)
    (cons_joins (assign 1 n) (after5 k) (λ l h. refl) (assign_holds 1 n) (λ pk u x l r. all_hold_dup (after5 k) pk u x l r) (assign_joins 1 n)
    (cons_joins (dup (k + 1)) no_part (λ l h. absurd (false_true h)) (dup_holds (k + 1)) none_hold (dup_joins (k + 1)) none_join)))))

mutual
  -- each policy whose dups differ
  pub joins : (p : Policy) → HasDistinct p → Joins p
  joins (test f n) d = test_joins f n
  joins (range f lo hi) d = range_joins f lo hi
  joins (assign f n) d = assign_joins f n
  joins (sum_of ps) d = λ pk u x l v y at rest. some_join ps d pk u x l v y at rest
  joins (seq_of ps) d = λ pk u x l v y at rest. all_join ps d pk u x l v y at rest
  joins (not_of p) d = λ pk u x l v y at rest. absurd at
  joins (star_of p) d = λ pk u x l v y at rest.
      let s = star_rest_is p l x v y rest in
      rounds_join p (joins p d) at.0 s.0 pk u x l v y at.1 s.1
  joins (dup k) d = dup_joins k
  joins (link a m b n k) d = link_joins a m b n k

  -- a sum
  pub some_join : (ps : Policies) → AllDistinct ps
      → (pk : Packet) (u : Marked) (x : Packet) (l : ℕ) (v : Marked) (y : Packet)
      → SomeRecordsAt ps pk u x l → way_of (after_some ps l) numbered x v y
      → some_way_of ps numbered pk (u ++ (x, l) ∷ v) y
  some_join no_part d pk u x l v y at rest = absurd at
  some_join (part p ps) d pk u x l v y at rest =
      ⊎_elim
      (λ a. inl (joins p d.0 pk u x l v y a (subst (λ b. Chosen b (after p l) (after_some ps l) x v y) (holds_dup p pk u x l a) rest)))
      (λ b. inr (some_join ps d.1 pk u x l v y b (subst (λ c. Chosen c (after p l) (after_some ps l) x v y) (d.2 l (some_hold_dup ps pk u x l b)) rest)))
      at

  -- a sequence
  pub all_join : (ps : Policies) → AllDistinct ps → AllJoin ps
  all_join no_part d = none_join
  all_join (part p ps) d =
      cons_joins p ps d.2 (λ pk u x l r. holds_dup p pk u x l r) (λ pk u x l r. all_hold_dup ps pk u x l r) (joins p d.0) (all_join ps d.1)
