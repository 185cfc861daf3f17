-- The numbers in runs, and in what is left after a dup, are numbers of the policy's dups.
use Rattle.std.proofs.Common.{◌≡◌, ℕ, zero, suc, ◌+◌, Bool, true, false, ◌⊎◌, inl, inr, ⊎_elim, [], ◌∷◌, ◌++◌, sym, ap, subst, ◌∙◌, append_assoc}
use Rattle.std.specs.Prelude.{◌==◌, ◌||◌, if◌then◌else◌, All}
use Rattle.std.proofs.lemmas.List.Elements.{All-append, All-nil}
use Rattle.nk_field.specs.declared.packet.Packet.{Packet}
use Rattle.nk_field.proofs.Ascending.{all_from_members}
use Rattle.nk_policy.specs.Policy.{Policy, Policies, test, range, assign, sum_of, seq_of, not_of, star_of, dup, link, no_part, part, link_parts}
use Rattle.nk_policy.specs.Meaning.{Way, rounds, way_of, some_way_of, way_of_all}
use Rattle.nk_policy.specs.Progress.{Marked, numbered, RecordsAt, SomeRecordsAt, AllRecordAt}
use Rattle.nk_policy.specs.After.{id_policy, drop_policy, has_dup, some_has_dup, after_dup, after, after_some, after_all}
use Rattle.nk_policy.proofs.Splitting.{after1, after2, after3, after4, after5}
use Rattle.nk_policy.proofs.Tests.{or_left, or_right, or_end, or_cases, same_number, same_test, false_true}

-- the numbers of a list of records pass a test
abbrev Pass : (ℕ → Bool) → Marked → Type 0
Pass is v = All (λ r. is r.1 ≡ true) v

-- no records
pass_none : (is : ℕ → Bool) (v : Marked) → v ≡ [] → Pass is v
pass_none is v e = subst (λ w. Pass is w) (sym e) (All-nil (λ r. is r.1 ≡ true))

-- one record
pass_one : (is : ℕ → Bool) (x : Packet) (l : ℕ) (v : Marked) → is l ≡ true → v ≡ (x, l) ∷ [] → Pass is v
pass_one is x l v h e =
    let member : (r : Packet × ℕ) → (r ≡ (x, l)) ⊎ ⊥ → is r.1 ≡ true =
    λ r i. ⊎_elim (λ s. subst (λ k. is k ≡ true) (sym (ap (λ z. z.1) s)) h) (λ s. absurd s) i in
    subst (λ w. Pass is w) (sym e) (all_from_members (λ r. is r.1 ≡ true) ((x, l) ∷ []) member)

-- two lists joined
pass_joined : (is : ℕ → Bool) (w u v : Marked) → w ≡ u ++ v → Pass is u → Pass is v → Pass is w
pass_joined is w u v e a b = subst (λ t. Pass is t) (sym e) (All-append (λ r. is r.1 ≡ true) u v a b)

-- a weaker test
pass_more : (is more : ℕ → Bool) (v : Marked) → ((l : ℕ) → is l ≡ true → more l ≡ true) → Pass is v
    → Pass more v
pass_more is more v h p = λ k d lt. h _ (p k d lt)

-- the numbers of each run pass the test
abbrev Ways : (ℕ → Bool) → Way (Packet × ℕ) → Type 0
Ways is way = (pk : Packet) (v : Marked) (y : Packet) → way pk v y → Pass is v

-- rounds
rounds_pass : (is : ℕ → Bool) (way : Way (Packet × ℕ)) → Ways is way → (n : ℕ) → Ways is (rounds n way)
rounds_pass is way h zero pk v y r = pass_none is v r.0
rounds_pass is way h (suc n) pk v y r =
    pass_joined is v r.0 r.1 r.3 (h pk r.0 r.2 r.4) (rounds_pass is way h n r.2 r.1 y r.5)

-- a part and then the parts after it
cons_pass : (p : Policy) (ps : Policies) → Ways (has_dup p) (way_of p numbered)
    → Ways (some_has_dup ps) (way_of_all ps numbered)
    → Ways (some_has_dup (part p ps)) (way_of_all (part p ps) numbered)
cons_pass p ps a b pk v y r =
    pass_joined
    (some_has_dup (part p ps))
    v
    r.0
    r.1
    r.3
    (pass_more (has_dup p) (some_has_dup (part p ps)) r.0 (λ l h. or_left (has_dup p l) (some_has_dup ps l) h) (a pk r.0 r.2 r.4))
    (pass_more (some_has_dup ps) (some_has_dup (part p ps)) r.1 (λ l h. or_right (has_dup p l) (some_has_dup ps l) h) (b r.2 r.1 y r.5))

-- a test
test_pass : (f n : ℕ) → Ways (has_dup (test f n)) (way_of (test f n) numbered)
test_pass f n pk v y r = pass_none (has_dup (test f n)) v r.1

-- a range
range_pass : (f lo hi : ℕ) → Ways (has_dup (range f lo hi)) (way_of (range f lo hi) numbered)
range_pass f lo hi pk v y r = pass_none (has_dup (range f lo hi)) v r.2

-- an assignment
assign_pass : (f n : ℕ) → Ways (has_dup (assign f n)) (way_of (assign f n) numbered)
assign_pass f n pk v y r = pass_none (has_dup (assign f n)) v r.0

-- a dup
dup_pass : (k : ℕ) → Ways (has_dup (dup k)) (way_of (dup k) numbered)
dup_pass k pk v y r = pass_one (has_dup (dup k)) pk k v (same_number k) r.0

-- no part
none_pass : Ways (some_has_dup no_part) (way_of_all no_part numbered)
none_pass pk v y r = pass_none (some_has_dup no_part) v r.0

-- a link literal, as the sequence of its six parts
link_pass : (a m b n k : ℕ) → Ways (has_dup (link a m b n k)) (way_of (link a m b n k) numbered)
link_pass a m b n k pk v y r =
    pass_more
    (some_has_dup (link_parts a m b n k))
    (has_dup (link a m b n k))
    v
    (λ l h. or_end (l == k) (l == (k + 1)) h)
    (cons_pass (test 0 a) (after1 m b n k) (test_pass 0 a)
    (cons_pass (test 1 m) (after2 b n k) (test_pass 1 m)
    (cons_pass (dup k) (after3 b n k) (dup_pass k)
    (cons_pass (assign 0 b) (after4 n k) (assign_pass 0 b)
    (cons_pass (assign 1 n) (after5 k) (assign_pass 1 n)
    (cons_pass (dup (k + 1)) no_part (dup_pass (k + 1)) none_pass))))) pk v y r)

mutual
  -- the numbers of a run are numbers of the policy
  pub run_dups : (p : Policy) → Ways (has_dup p) (way_of p numbered)
  run_dups (test f n) = test_pass f n
  run_dups (range f lo hi) = range_pass f lo hi
  run_dups (assign f n) = assign_pass f n
  run_dups (sum_of ps) = some_run_dups ps
  run_dups (seq_of ps) = all_run_dups ps
  run_dups (not_of p) = λ pk v y r. pass_none (has_dup p) v r.0.0
  run_dups (star_of p) = λ pk v y r. rounds_pass (has_dup p) (way_of p numbered) (run_dups p) r.0 pk v y r.1
  run_dups (dup k) = dup_pass k
  run_dups (link a m b n k) = link_pass a m b n k

  -- of a sum
  some_run_dups : (ps : Policies) → Ways (some_has_dup ps) (some_way_of ps numbered)
  some_run_dups no_part = λ pk v y r. absurd r
  some_run_dups (part p ps) = λ pk v y r.
      ⊎_elim
      (λ s. pass_more (has_dup p) (some_has_dup (part p ps)) v (λ l h. or_left (has_dup p l) (some_has_dup ps l) h) (run_dups p pk v y s))
      (λ s. pass_more (some_has_dup ps) (some_has_dup (part p ps)) v (λ l h. or_right (has_dup p l) (some_has_dup ps l) h) (some_run_dups ps pk v y s))
      r

  -- of a sequence
  all_run_dups : (ps : Policies) → Ways (some_has_dup ps) (way_of_all ps numbered)
  all_run_dups no_part = none_pass
  all_run_dups (part p ps) = cons_pass p ps (run_dups p) (all_run_dups ps)

-- the numbers of a run so far pass the test
abbrev Fronts : (ℕ → Bool) → (Packet → Marked → Packet → ℕ → Type 0) → Type 0
Fronts is front = (pk : Packet) (u : Marked) (x : Packet) (l : ℕ) → front pk u x l → Pass is (u ++ (x, l) ∷ [])

-- a dup of the first part, or all of it and then a dup of the parts after it
cons_front : (p : Policy) (ps : Policies) → Ways (has_dup p) (way_of p numbered)
    → Fronts (has_dup p) (RecordsAt p)
    → Fronts (some_has_dup ps) (AllRecordAt ps)
    → Fronts (some_has_dup (part p ps)) (AllRecordAt (part p ps))
cons_front p ps way a b pk u x l r =
    ⊎_elim
    (λ s. pass_more (has_dup p) (some_has_dup (part p ps)) (u ++ (x, l) ∷ []) (λ j h. or_left (has_dup p j) (some_has_dup ps j) h) (a pk u x l s))
    (λ s.
    pass_joined
    (some_has_dup (part p ps))
    (u ++ (x, l) ∷ [])
    s.0
    (s.1 ++ (x, l) ∷ [])
    (ap (λ w. w ++ (x, l) ∷ []) s.3 ∙ append_assoc s.0 s.1 ((x, l) ∷ []))
    (pass_more (has_dup p) (some_has_dup (part p ps)) s.0 (λ j h. or_left (has_dup p j) (some_has_dup ps j) h) (way pk s.0 s.2 s.4))
    (pass_more (some_has_dup ps) (some_has_dup (part p ps)) (s.1 ++ (x, l) ∷ []) (λ j h. or_right (has_dup p j) (some_has_dup ps j) h) (b s.2 s.1 x l s.5)))
    r

-- the dup itself
dup_front : (k : ℕ) → Fronts (has_dup (dup k)) (RecordsAt (dup k))
dup_front k pk u x l r =
    pass_one (has_dup (dup k)) x l (u ++ (x, l) ∷ []) (same_test l k r.2) (ap (λ w. w ++ (x, l) ∷ []) r.0)

-- a link literal, as the sequence of its six parts
link_front : (a m b n k : ℕ) → Fronts (has_dup (link a m b n k)) (RecordsAt (link a m b n k))
link_front a m b n k pk u x l r =
    pass_more
    (some_has_dup (link_parts a m b n k))
    (has_dup (link a m b n k))
    (u ++ (x, l) ∷ [])
    (λ j h. or_end (j == k) (j == (k + 1)) h)
    (cons_front (test 0 a) (after1 m b n k) (test_pass 0 a) (λ pk u x l s. absurd s)
    (cons_front (test 1 m) (after2 b n k) (test_pass 1 m) (λ pk u x l s. absurd s)
    (cons_front (dup k) (after3 b n k) (dup_pass k) (dup_front k)
    (cons_front (assign 0 b) (after4 n k) (assign_pass 0 b) (λ pk u x l s. absurd s)
    (cons_front (assign 1 n) (after5 k) (assign_pass 1 n) (λ pk u x l s. absurd s)
    (cons_front (dup (k + 1)) no_part (dup_pass (k + 1)) (dup_front (k + 1)) (λ pk u x l s. absurd s)))))) pk u x l r)

mutual
  -- the numbers of a run so far are numbers of the policy
  pub front_dups : (p : Policy) → Fronts (has_dup p) (RecordsAt p)
  front_dups (sum_of ps) = some_front_dups ps
  front_dups (seq_of ps) = all_front_dups ps
  front_dups (star_of p) = λ pk u x l r.
      ⊎_elim
      (λ s. absurd s)
      (λ s.
      pass_joined
      (has_dup p)
      (u ++ (x, l) ∷ [])
      s.0
      (s.1 ++ (x, l) ∷ [])
      (ap (λ w. w ++ (x, l) ∷ []) s.3 ∙ append_assoc s.0 s.1 ((x, l) ∷ []))
      (rounds_pass (has_dup p) (way_of p numbered) (run_dups p) r.0 pk s.0 s.2 s.4)
      (front_dups p s.2 s.1 x l s.5))
      r.1
  front_dups (dup k) = dup_front k
  front_dups (link a m b n k) = link_front a m b n k
  front_dups p = λ pk u x l r. absurd r

  -- of a sum
  some_front_dups : (ps : Policies) → Fronts (some_has_dup ps) (SomeRecordsAt ps)
  some_front_dups no_part = λ pk u x l r. absurd r
  some_front_dups (part p ps) = λ pk u x l r.
      ⊎_elim
      (λ s. pass_more (has_dup p) (some_has_dup (part p ps)) (u ++ (x, l) ∷ []) (λ j h. or_left (has_dup p j) (some_has_dup ps j) h) (front_dups p pk u x l s))
      (λ s. pass_more (some_has_dup ps) (some_has_dup (part p ps)) (u ++ (x, l) ∷ []) (λ j h. or_right (has_dup p j) (some_has_dup ps j) h) (some_front_dups ps pk u x l s))
      r

  -- of a sequence
  all_front_dups : (ps : Policies) → Fronts (some_has_dup ps) (AllRecordAt ps)
  all_front_dups no_part = λ pk u x l r. absurd r
  all_front_dups (part p ps) = cons_front p ps (run_dups p) (front_dups p) (all_front_dups ps)

-- a dup of a choice is a dup of either side
choice_dups : (c : Bool) (p q : Policy) (l : ℕ) → has_dup (if c then p else q) l ≡ true
    → (has_dup p l ≡ true) ⊎ (has_dup q l ≡ true)
choice_dups true p q l h = inl h
choice_dups false p q l h = inr h

-- nothing is left of a dup that records
own_dups : (k j l : ℕ) → has_dup (after_dup k j) l ≡ true → ⊥
own_dups k j l h = ⊎_elim (λ s. false_true s) (λ s. false_true s) (choice_dups (j == k) id_policy drop_policy l h)

mutual
  -- the dups of what is left are dups of the policy
  pub rest_dups : (p : Policy) (k l : ℕ) → has_dup (after p k) l ≡ true → has_dup p l ≡ true
  rest_dups (sum_of ps) k l h = some_rest_dups ps k l h
  rest_dups (seq_of ps) k l h = all_rest_dups ps k l h
  rest_dups (star_of p) k l h =
      ⊎_elim (λ s. rest_dups p k l s) (λ s. s) (or_cases (has_dup (after p k) l) (has_dup p l) (or_end (has_dup (after p k) l) (has_dup p l) h))
  rest_dups (dup j) k l h = absurd (own_dups j k l h)
  rest_dups (link a m b n j) k l h =
      ⊎_elim
      (λ s.
      ⊎_elim
      (λ t. absurd (own_dups j k l t))
      (λ t. or_right (l == j) (l == (j + 1)) (⊎_elim (λ z. z) (λ z. absurd (false_true z)) (or_cases (l == (j + 1)) false t)))
      (or_cases (has_dup (after_dup j k) l) ((l == (j + 1)) || false) s))
      (λ s.
      ⊎_elim
      (λ t. ⊎_elim (λ z. absurd (own_dups (j + 1) k l z)) (λ z. absurd (false_true z)) (or_cases (has_dup (after_dup (j + 1) k) l) false t))
      (λ t. absurd (false_true t))
      (choice_dups (k == (j + 1)) (seq_of (part (after_dup (j + 1) k) no_part)) drop_policy l s))
      (choice_dups
      (k == j)
      (seq_of (part (after_dup j k) (part (assign 0 b) (part (assign 1 n) (part (dup (j + 1)) no_part)))))
      (if k == (j + 1) then seq_of (part (after_dup (j + 1) k) no_part) else drop_policy)
      l
      h)
  rest_dups p k l h = absurd (false_true h)

  -- of a sum
  some_rest_dups : (ps : Policies) (k l : ℕ) → has_dup (after_some ps k) l ≡ true
      → some_has_dup ps l ≡ true
  some_rest_dups no_part k l h = absurd (false_true h)
  some_rest_dups (part p ps) k l h =
      ⊎_elim
      (λ s. or_left (has_dup p l) (some_has_dup ps l) (rest_dups p k l s))
      (λ s. or_right (has_dup p l) (some_has_dup ps l) (some_rest_dups ps k l s))
      (choice_dups (has_dup p k) (after p k) (after_some ps k) l h)

  -- of a sequence
  all_rest_dups : (ps : Policies) (k l : ℕ) → has_dup (after_all ps k) l ≡ true
      → some_has_dup ps l ≡ true
  all_rest_dups no_part k l h = absurd (false_true h)
  all_rest_dups (part p ps) k l h =
      ⊎_elim
      (λ s.
      ⊎_elim
      (λ t. or_left (has_dup p l) (some_has_dup ps l) (rest_dups p k l t))
      (λ t. or_right (has_dup p l) (some_has_dup ps l) t)
      (or_cases (has_dup (after p k) l) (some_has_dup ps l) s))
      (λ s. or_right (has_dup p l) (some_has_dup ps l) (all_rest_dups ps k l s))
      (choice_dups (has_dup p k) (seq_of (part (after p k) ps)) (after_all ps k) l h)
