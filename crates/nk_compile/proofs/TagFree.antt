-- A field past the port that a policy neither tests, by a value or a range, nor sets makes no difference to what the policy does, and keeps its value.
use Rattle.std.proofs.Common.{◌≡◌, ◌≢◌, ℕ, zero, suc, ◌+◌, ◌≤◌, ⊎_elim, inl, inr, false, List, [], ◌∷◌, refl, sym, ap, subst, ◌∙◌, arith, get_or-set_other}
use Rattle.std.specs.Prelude.{◌==◌, map, slice_index, slice_set}
use Rattle.std.proofs.lemmas.List.{set_comm, set-set, set-get_or}
use Rattle.nk_field.specs.declared.packet.Packet.{Packet}
use Rattle.nk_field.proofs.Lists.{map_joined}
use Rattle.nk_policy.specs.Policy.{Policy, Policies, test, range, assign, sum_of, seq_of, not_of, star_of, dup, link, no_part, part}
use Rattle.nk_policy.specs.Meaning.{Way, Gives, rounds, way_of, some_way_of, way_of_all}
use Rattle.nk_policy.specs.Progress.{Marked, Front, numbered, within_either, RecordsAt, SomeRecordsAt, AllRecordAt}
use Rattle.nk_policy.specs.Leaves.{has_leaf, some_has_leaf, is_on_field}
use Rattle.nk_policy.specs.Ranges.{AssignsOnly, UsesOnly, AllUseOnly}
use Rattle.nk_policy.proofs.Kept
use Rattle.nk_policy.proofs.LabelSteps.{gives_is_runs}
use Rattle.nk_policy.proofs.Splitting.{after1, after2, after3, after4, after5}
use Rattle.nk_policy.proofs.Tests.{both_false, other_from}
use Rattle.nk_policy.proofs.Untouched.{IsOther}
use Rattle.nk_policy.proofs.Uses.{assigns_from_uses}

-- a policy that assigns other fields alone keeps a field
pub keeps_field : (f : ℕ) (p : Policy) → AssignsOnly (IsOther f) p → (pk : Packet) (w : List Packet) (y : Packet) → Gives p pk w y →
    slice_index y f ≡ slice_index pk f
keeps_field f p only pk w y g =
    let r = (gives_is_runs p pk w y).0 g in
    Kept.ways_keep (IsOther f) (λ x. slice_index x f ≡ slice_index pk f)
    (λ x k n other h. get_or-set_other x k f n 0 (λ e. other (sym e)) ∙ h) p only pk r.0 y r.2 refl

-- so does what it records
pub records_field : (f : ℕ) (p : Policy) → AssignsOnly (IsOther f) p → (pk : Packet) (u : Marked) (y : Packet) (l : ℕ) → RecordsAt p pk u y l →
    slice_index y f ≡ slice_index pk f
records_field f p only pk u y l r =
    Kept.records_keep (IsOther f) (λ x. slice_index x f ≡ slice_index pk f)
    (λ x k n other h. get_or-set_other x k f n 0 (λ e. other (sym e)) ∙ h) p only pk u y l r refl

-- a field that is set anew and then back has the value that it had
pub set_back : (pk : List ℕ) (f v : ℕ) → slice_set (slice_set pk f v) f (slice_index pk f) ≡ pk
set_back pk f v = set-set pk f v (slice_index pk f) ∙ set-get_or pk f 0

module _ (tag : ℕ) (past : 2 ≤ tag) where
  -- a field that fails the test is another one
  other : (f : ℕ) → tag == f ≡ false → f ≢ tag
  other f h = λ e. other_from tag f h (sym e)

  mutual
    -- a policy no leaf of which is on the field uses others alone
    pub uses_others : (p : Policy) → has_leaf (is_on_field tag) p ≡ false → UsesOnly (IsOther tag) p
    uses_others (test f n) h = other f h
    uses_others (range f lo hi) h = (other f h, other f h)
    uses_others (assign f n) h = other f h
    uses_others (sum_of ps) h = all_use_others ps h
    uses_others (seq_of ps) h = all_use_others ps h
    uses_others (not_of p) h = uses_others p h
    uses_others (star_of p) h = uses_others p h
    uses_others (dup l) h = tt
    uses_others (link a m b n l) h = (λ e. omega (arith, past, e), λ e. omega (arith, past, e), λ e. omega (arith, past, e), λ e. omega (arith, past, e))

    all_use_others : (ps : Policies) → some_has_leaf (is_on_field tag) ps ≡ false → AllUseOnly (IsOther tag) ps
    all_use_others no_part h = tt
    all_use_others (part p ps) h =
        let e = both_false (has_leaf (is_on_field tag) p) (some_has_leaf (is_on_field tag) ps) h in
        (uses_others p e.0, all_use_others ps e.1)

-- its assignments are of others
pub assigns_only : (tag : ℕ) (p : Policy) → UsesOnly (IsOther tag) p → AssignsOnly (IsOther tag) p
assigns_only tag p u = assigns_from_uses (IsOther tag) (IsOther tag) (λ f n h. h) p u

module _ {A : Type 0} (tag : ℕ) (mark : ℕ → Packet → A) (change : ℕ → A → A) (agree : (v l : ℕ) (x : Packet) → change v (mark l x) ≡ mark l (slice_set x tag v)) where
  -- a way goes on between packets with the field set anew, and records them so
  abbrev pub Stays : Way A → Type 0
  Stays R = (v : ℕ) (pk : Packet) (w : List A) (y : Packet) → R pk w y → R (slice_set pk tag v) (map (change v) w) (slice_set y tag v)

  -- so do rounds
  rounds_stay : (R : Way A) → Stays R → (n : ℕ) → Stays (rounds n R)
  rounds_stay R h zero v pk w y r = (ap (map (change v)) r.0, ap (λ z. slice_set z tag v) r.1)
  rounds_stay R h (suc n) v pk w y r = (
    map (change v) r.0,
    map (change v) r.1,
    slice_set r.2 tag v,
    ap (map (change v)) r.3 ∙ map_joined (change v) r.0 r.1,
    h v pk r.0 r.2 r.4,
    rounds_stay R h n v r.2 r.1 y r.5,
  )

  -- a test
  test_stays : (f n : ℕ) → f ≢ tag → Stays (way_of (test f n) mark)
  test_stays f n ne v pk w y r = (get_or-set_other pk tag f v 0 ne ∙ r.0, ap (map (change v)) r.1, ap (λ z. slice_set z tag v) r.2)

  -- a range
  range_stays : (f lo hi : ℕ) → f ≢ tag → Stays (way_of (range f lo hi) mark)
  range_stays f lo hi ne v pk w y r =
      let same : slice_index pk f ≡ slice_index (slice_set pk tag v) f = sym (get_or-set_other pk tag f v 0 ne) in (
        subst (λ n. lo ≤ n) same r.0,
        subst (λ n. n ≤ hi) same r.1,
        ap (map (change v)) r.2,
        ap (λ z. slice_set z tag v) r.3,
      )

  -- an assignment
  assign_stays : (f n : ℕ) → f ≢ tag → Stays (way_of (assign f n) mark)
  assign_stays f n ne v pk w y r = (ap (map (change v)) r.0, ap (λ z. slice_set z tag v) r.1 ∙ set_comm pk f tag n v ne)

  -- a dup
  dup_stays : (l : ℕ) → Stays (way_of (dup l) mark)
  dup_stays l v pk w y r = (ap (map (change v)) r.0 ∙ ap (λ z. z ∷ []) (agree v l pk), ap (λ z. slice_set z tag v) r.1)

  -- no part
  none_stay : Stays (way_of_all no_part mark)
  none_stay v pk w y r = (ap (map (change v)) r.0, ap (λ z. slice_set z tag v) r.1)

  -- one more part
  cons_stays : (p : Policy) (ps : Policies) → Stays (way_of p mark) → Stays (way_of_all ps mark) → Stays (way_of_all (part p ps) mark)
  cons_stays p ps a b v pk w y r = (
    map (change v) r.0,
    map (change v) r.1,
    slice_set r.2 tag v,
    ap (map (change v)) r.3 ∙ map_joined (change v) r.0 r.1,
    a v pk r.0 r.2 r.4,
    b v r.2 r.1 y r.5,
  )

  -- a link literal
  link_stays : (a m b n k : ℕ) → UsesOnly (IsOther tag) (link a m b n k) → Stays (way_of (link a m b n k) mark)
  link_stays a m b n k u =
      cons_stays (test 0 a) (after1 m b n k) (test_stays 0 a u.0)
      (cons_stays (test 1 m) (after2 b n k) (test_stays 1 m u.1)
      (cons_stays (dup k) (after3 b n k) (dup_stays k)
      (cons_stays (assign 0 b) (after4 n k) (assign_stays 0 b u.2)
      (cons_stays (assign 1 n) (after5 k) (assign_stays 1 n u.3)
      (cons_stays (dup (k + 1)) no_part (dup_stays (k + 1)) none_stay)))))

  mutual
    -- a policy that uses other fields alone does the same, whatever the value of this one
    pub way_stays : (p : Policy) → UsesOnly (IsOther tag) p → Stays (way_of p mark)
    way_stays (test f n) u v pk w y r = test_stays f n u v pk w y r
    way_stays (range f lo hi) u v pk w y r = range_stays f lo hi u.0 v pk w y r
    way_stays (assign f n) u v pk w y r = assign_stays f n u v pk w y r
    way_stays (sum_of ps) u v pk w y r = some_way_stays ps u v pk w y r
    way_stays (seq_of ps) u v pk w y r = all_way_stays ps u v pk w y r
    way_stays (not_of p) u v pk w y r = (
      (ap (map (change v)) r.0.0, ap (λ z. slice_set z tag v) r.0.1),
      λ k. r.1 (subst (λ z. way_of p mark z [] z) (set_back pk tag v) (way_stays p u (slice_index pk tag) (slice_set pk tag v) [] (slice_set pk tag v) k)),
    )
    way_stays (star_of p) u v pk w y r = (r.0, rounds_stay (way_of p mark) (way_stays p u) r.0 v pk w y r.1)
    way_stays (dup l) u v pk w y r = dup_stays l v pk w y r
    way_stays (link a m b n l) u v pk w y r = link_stays a m b n l u v pk w y r

    -- so does a sum
    some_way_stays : (ps : Policies) → AllUseOnly (IsOther tag) ps → Stays (some_way_of ps mark)
    some_way_stays no_part u v pk w y r = absurd r
    some_way_stays (part p ps) u v pk w y r = ⊎_elim (λ k. inl (way_stays p u.0 v pk w y k)) (λ k. inr (some_way_stays ps u.1 v pk w y k)) r

    -- and a sequence
    all_way_stays : (ps : Policies) → AllUseOnly (IsOther tag) ps → Stays (way_of_all ps mark)
    all_way_stays no_part u v pk w y r = none_stay v pk w y r
    all_way_stays (part p ps) u v pk w y r = cons_stays p ps (way_stays p u.0) (all_way_stays ps u.1) v pk w y r

-- the policy ends alike
pub ends_stay : (tag : ℕ) (p : Policy) → UsesOnly (IsOther tag) p → (v : ℕ) (pk y : Packet) → Gives p pk [] y → Gives p (slice_set pk tag v) [] (slice_set y tag v)
ends_stay tag p u v pk y g = way_stays tag (λ l x. x) (λ v x. slice_set x tag v) (λ v l x. refl) p u v pk [] y g

module _ (tag v : ℕ) where
  -- a record with the field set anew
  abbrev change : ℕ → Packet × ℕ → Packet × ℕ
  change n r = (slice_set r.0 tag n, r.1)

  -- what is recorded of packets with the field set anew
  abbrev RecordsStay : Front → Type 0
  RecordsStay F = (pk : Packet) (u : Marked) (x : Packet) (l : ℕ) → F pk u x l → F (slice_set pk tag v) (map (change v) u) (slice_set x tag v) l

  -- a way of a policy, with the numbers of its dups
  way_too : (p : Policy) → UsesOnly (IsOther tag) p → (pk : Packet) (w : Marked) (y : Packet) → way_of p numbered pk w y → way_of p numbered (slice_set pk tag v) (map (change v) w) (slice_set y tag v)
  way_too p u pk w y r = way_stays tag numbered change (λ n l x. refl) p u v pk w y r

  -- within one of two
  either_stays : (F G : Front) (R : Way (Packet × ℕ)) → RecordsStay F → ((pk : Packet) (w : Marked) (y : Packet) → R pk w y → R (slice_set pk tag v) (map (change v) w) (slice_set y tag v)) →
      RecordsStay G → RecordsStay (within_either F R G)
  either_stays F G R a b c pk u x l r =
      ⊎_elim
      (λ s. inl (a pk u x l s))
      (λ s. inr (map (change v) s.0, map (change v) s.1, slice_set s.2 tag v, ap (map (change v)) s.3 ∙ map_joined (change v) s.0 s.1, b pk s.0 s.2 s.4, c s.2 s.1 x l s.5))
      r

  -- one more part
  cons_records : (p : Policy) (ps : Policies) → UsesOnly (IsOther tag) p → RecordsStay (RecordsAt p) → RecordsStay (AllRecordAt ps) → RecordsStay (AllRecordAt (part p ps))
  cons_records p ps u a b = either_stays (RecordsAt p) (AllRecordAt ps) (way_of p numbered) a (way_too p u) b

  -- a dup
  dup_records : (k : ℕ) → RecordsStay (RecordsAt (dup k))
  dup_records k pk u x l r = (ap (map (change v)) r.0, ap (λ z. slice_set z tag v) r.1, r.2)

  -- a link literal
  link_records : (a m b n k : ℕ) → UsesOnly (IsOther tag) (link a m b n k) → RecordsStay (RecordsAt (link a m b n k))
  link_records a m b n k u =
      cons_records (test 0 a) (after1 m b n k) u.0 (λ pk w x l s. absurd s)
      (cons_records (test 1 m) (after2 b n k) u.1 (λ pk w x l s. absurd s)
      (cons_records (dup k) (after3 b n k) tt (dup_records k)
      (cons_records (assign 0 b) (after4 n k) u.2 (λ pk w x l s. absurd s)
      (cons_records (assign 1 n) (after5 k) u.3 (λ pk w x l s. absurd s)
      (cons_records (dup (k + 1)) no_part tt (dup_records (k + 1)) (λ pk w x l s. absurd s))))))

  mutual
    -- a policy that uses other fields alone records the same
    pub records_stay : (p : Policy) → UsesOnly (IsOther tag) p → RecordsStay (RecordsAt p)
    records_stay (test f n) u pk w x l r = absurd r
    records_stay (range f lo hi) u pk w x l r = absurd r
    records_stay (assign f n) u pk w x l r = absurd r
    records_stay (sum_of ps) u pk w x l r = some_records_stay ps u pk w x l r
    records_stay (seq_of ps) u pk w x l r = all_records_stay ps u pk w x l r
    records_stay (not_of p) u pk w x l r = absurd r
    records_stay (star_of p) u pk w x l r =
        ⊎_elim
        (λ s. absurd s)
        (λ s. (
          r.0,
          inr (
            map (change v) s.0,
            map (change v) s.1,
            slice_set s.2 tag v,
            ap (map (change v)) s.3 ∙ map_joined (change v) s.0 s.1,
            rounds_stay tag numbered change (λ n k z. refl) (way_of p numbered) (way_stays tag numbered change (λ n k z. refl) p u) r.0 v pk s.0 s.2 s.4,
            records_stay p u s.2 s.1 x l s.5,
          ),
        ))
        r.1
    records_stay (dup k) u pk w x l r = dup_records k pk w x l r
    records_stay (link a m b n k) u pk w x l r = link_records a m b n k u pk w x l r

    -- so does a sum
    some_records_stay : (ps : Policies) → AllUseOnly (IsOther tag) ps → RecordsStay (SomeRecordsAt ps)
    some_records_stay no_part u pk w x l r = absurd r
    some_records_stay (part p ps) u pk w x l r = ⊎_elim (λ k. inl (records_stay p u.0 pk w x l k)) (λ k. inr (some_records_stay ps u.1 pk w x l k)) r

    -- and a sequence
    all_records_stay : (ps : Policies) → AllUseOnly (IsOther tag) ps → RecordsStay (AllRecordAt ps)
    all_records_stay no_part u pk w x l r = absurd r
    all_records_stay (part p ps) u pk w x l r = cons_records p ps u.0 (records_stay p u.0) (all_records_stay ps u.1) pk w x l r

-- what is recorded first is alike
pub first_records_stay : (tag : ℕ) (p : Policy) → UsesOnly (IsOther tag) p → (v : ℕ) (pk x : Packet) (l : ℕ) → RecordsAt p pk [] x l → RecordsAt p (slice_set pk tag v) [] (slice_set x tag v) l
first_records_stay tag p u v pk x l r = records_stay tag v p u pk [] x l r
