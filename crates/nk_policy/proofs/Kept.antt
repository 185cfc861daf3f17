-- A property of packets that the assignments of a policy keep holds of all that its runs record and lead to.
use Rattle.std.proofs.Common.{◌≡◌, ℕ, zero, suc, ◌+◌, Bool, true, false, ⊎_elim, sym, subst}
use Rattle.std.specs.Prelude.{◌==◌, if◌then◌else◌, slice_set}
use Rattle.nk_field.specs.declared.packet.Packet.{Packet}
use Rattle.nk_policy.specs.Policy.{Policy, Policies, test, range, assign, sum_of, seq_of, not_of, star_of, dup, link, no_part, part}
use Rattle.nk_policy.specs.Meaning.{Way, rounds, way_of, some_way_of, way_of_all}
use Rattle.nk_policy.specs.Progress.{Marked, Front, numbered, within_either, RecordsAt, SomeRecordsAt, AllRecordAt}
use Rattle.nk_policy.specs.After.{id_policy, drop_policy, has_dup, after_dup, after, after_some, after_all}
use Rattle.nk_policy.specs.Ranges.{AssignsOnly, AllAssignOnly}
use Rattle.nk_policy.proofs.Splitting.{after1, after2, after3, after4, after5}

module _ (Allowed : ℕ → ℕ → Type 0) (P : Packet → Type 0)
    (set_keeps : (pk : Packet) (f n : ℕ) → Allowed f n → P pk → P (slice_set pk f n)) where
  -- a way leads from packets with the property to packets with it
  abbrev pub Keeps : Way (Packet × ℕ) → Type 0
  Keeps R = (pk : Packet) (w : Marked) (y : Packet) → R pk w y → P pk → P y

  -- an equal packet has the property
  same_keeps : (pk y : Packet) → y ≡ pk → P pk → P y
  same_keeps pk y e h = subst (λ z. P z) (sym e) h

  -- rounds keep it
  rounds_keep : (R : Way (Packet × ℕ)) → Keeps R → (n : ℕ) → Keeps (rounds n R)
  rounds_keep R a zero pk w y r h = same_keeps pk y r.1 h
  rounds_keep R a (suc n) pk w y r h = rounds_keep R a n r.2 r.1 y r.5 (a pk r.0 r.2 r.4 h)

  mutual
    -- each way of a policy keeps it
    pub ways_keep : (p : Policy) → AssignsOnly Allowed p → Keeps (way_of p numbered)
    ways_keep (test f n) q pk w y r h = same_keeps pk y r.2 h
    ways_keep (range f lo hi) q pk w y r h = same_keeps pk y r.3 h
    ways_keep (assign f n) q pk w y r h = same_keeps (slice_set pk f n) y r.1 (set_keeps pk f n q h)
    ways_keep (sum_of ps) q pk w y r h = some_ways_keep ps q pk w y r h
    ways_keep (seq_of ps) q pk w y r h = all_ways_keep ps q pk w y r h
    ways_keep (not_of p) q pk w y r h = same_keeps pk y r.0.1 h
    ways_keep (star_of p) q pk w y r h = rounds_keep (way_of p numbered) (ways_keep p q) r.0 pk w y r.1 h
    ways_keep (dup l) q pk w y r h = same_keeps pk y r.1 h
    ways_keep (link a m b n l) q pk w y r h =
        let r1 = r.5 in
        let r2 = r1.5 in
        let r3 = r2.5 in
        let r4 = r3.5 in
        let r5 = r4.5 in
        let h0 = same_keeps pk r.2 r.4.2 h in
        let h1 = same_keeps r.2 r1.2 r1.4.2 h0 in
        let h2 = same_keeps r1.2 r2.2 r2.4.1 h1 in
        let h3 = same_keeps (slice_set r2.2 0 b) r3.2 r3.4.1 (set_keeps r2.2 0 b q.0 h2) in
        let h4 = same_keeps (slice_set r3.2 1 n) r4.2 r4.4.1 (set_keeps r3.2 1 n q.1 h3) in
        let h5 = same_keeps r4.2 r5.2 r5.4.1 h4 in
        same_keeps r5.2 y r5.5.1 h5

    -- of a sum
    pub some_ways_keep : (ps : Policies) → AllAssignOnly Allowed ps → Keeps (some_way_of ps numbered)
    some_ways_keep no_part q pk w y r h = absurd r
    some_ways_keep (part p ps) q pk w y r h =
        ⊎_elim (λ s. ways_keep p q.0 pk w y s h) (λ s. some_ways_keep ps q.1 pk w y s h) r

    -- of a sequence
    pub all_ways_keep : (ps : Policies) → AllAssignOnly Allowed ps → Keeps (way_of_all ps numbered)
    all_ways_keep no_part q pk w y r h = same_keeps pk y r.1 h
    all_ways_keep (part p ps) q pk w y r h = all_ways_keep ps q.1 r.2 r.1 y r.5 (ways_keep p q.0 pk r.0 r.2 r.4 h)

  -- what is recorded has it
  abbrev pub Records : Front → Type 0
  Records F = (pk : Packet) (u : Marked) (x : Packet) (l : ℕ) → F pk u x l → P pk → P x

  -- what records within one of two has it
  either_records : (F G : Front) (R : Way (Packet × ℕ)) → Records F → Keeps R → Records G
      → Records (within_either F R G)
  either_records F G R a b c pk u x l r h =
      ⊎_elim (λ s. a pk u x l s h) (λ s. c s.2 s.1 x l s.5 (b pk s.0 s.2 s.4 h)) r

  -- of a sequence's first part and the rest
  cons_records : (p : Policy) (ps : Policies) → Records (RecordsAt p) → Keeps (way_of p numbered)
      → Records (AllRecordAt ps) → Records (AllRecordAt (part p ps))
  cons_records p ps a b c = either_records (RecordsAt p) (AllRecordAt ps) (way_of p numbered) a b c

  -- of a link literal
  link_records_keep : (a m b n k : ℕ) → AssignsOnly Allowed (link a m b n k)
      → Records (RecordsAt (link a m b n k))
  link_records_keep a m b n k q =
      cons_records (test 0 a) (after1 m b n k) (λ pk u x l s h. absurd s) (ways_keep (test 0 a) tt)
      (cons_records (test 1 m) (after2 b n k) (λ pk u x l s h. absurd s) (ways_keep (test 1 m) tt)
      (cons_records (dup k) (after3 b n k) (λ pk u x l s h. same_keeps pk x s.1 h) (ways_keep (dup k) tt)
      (cons_records (assign 0 b) (after4 n k) (λ pk u x l s h. absurd s) (ways_keep (assign 0 b) q.0)
      (cons_records (assign 1 n) (after5 k) (λ pk u x l s h. absurd s) (ways_keep (assign 1 n) q.1)
      (cons_records (dup (k + 1)) no_part (λ pk u x l s h. same_keeps pk x s.1 h) (ways_keep (dup (k + 1)) tt) (λ pk u x l s h. absurd s))))))

  mutual
    -- what a policy records has it
    pub records_keep : (p : Policy) → AssignsOnly Allowed p → Records (RecordsAt p)
    records_keep (test f n) q pk u x l r h = absurd r
    records_keep (range f lo hi) q pk u x l r h = absurd r
    records_keep (assign f n) q pk u x l r h = absurd r
    records_keep (sum_of ps) q pk u x l r h = some_records_keep ps q pk u x l r h
    records_keep (seq_of ps) q pk u x l r h = all_records_keep ps q pk u x l r h
    records_keep (not_of p) q pk u x l r h = absurd r
    records_keep (star_of p) q pk u x l r h =
        ⊎_elim
        (λ s. absurd s)
        (λ s. records_keep p q s.2 s.1 x l s.5 (rounds_keep (way_of p numbered) (ways_keep p q) r.0 pk s.0 s.2 s.4 h))
        r.1
    records_keep (dup k) q pk u x l r h = same_keeps pk x r.1 h
    records_keep (link a m b n k) q pk u x l r h =
        link_records_keep a m b n k q pk u x l r h

    -- of a sum
    pub some_records_keep : (ps : Policies) → AllAssignOnly Allowed ps → Records (SomeRecordsAt ps)
    some_records_keep no_part q pk u x l r h = absurd r
    some_records_keep (part p ps) q pk u x l r h =
        ⊎_elim (λ s. records_keep p q.0 pk u x l s h) (λ s. some_records_keep ps q.1 pk u x l s h) r

    -- of a sequence
    pub all_records_keep : (ps : Policies) → AllAssignOnly Allowed ps → Records (AllRecordAt ps)
    all_records_keep no_part q pk u x l r h = absurd r
    all_records_keep (part p ps) q pk u x l r h =
        ⊎_elim
        (λ s. records_keep p q.0 pk u x l s h)
        (λ s. all_records_keep ps q.1 s.2 s.1 x l s.5 (ways_keep p q.0 pk s.0 s.2 s.4 h))
        r

  -- what is left after a dup assigns only what is allowed
  dup_assigns : (c : Bool) → AssignsOnly Allowed (if c then id_policy else drop_policy)
  dup_assigns true = tt
  dup_assigns false = tt

  -- a choice of two that assign only what is allowed
  part_assigns : (c : Bool) (p r : Policy) → AssignsOnly Allowed p → AssignsOnly Allowed r
      → AssignsOnly Allowed (if c then p else r)
  part_assigns true p r a b = a
  part_assigns false p r a b = b

  mutual
    -- of a policy
    pub after_assigns : (p : Policy) (k : ℕ) → AssignsOnly Allowed p → AssignsOnly Allowed (after p k)
    after_assigns (sum_of ps) k q = after_some_assigns ps k q
    after_assigns (seq_of ps) k q = after_all_assigns ps k q
    after_assigns (star_of p) k q = (after_assigns p k q, (q, tt))
    after_assigns (dup l) k q = dup_assigns (k == l)
    after_assigns (link a m b n l) k q =
        part_assigns
        (k == l)
        (seq_of (part (after_dup l k) (part (assign 0 b) (part (assign 1 n) (part (dup (l + 1)) no_part)))))
        (if k == (l + 1) then seq_of (part (after_dup (l + 1) k) no_part) else drop_policy)
        (dup_assigns (k == l), (q.0, (q.1, (tt, tt))))
        (part_assigns (k == (l + 1)) (seq_of (part (after_dup (l + 1) k) no_part)) drop_policy (dup_assigns (k == (l + 1)), tt) tt)
    after_assigns p k q = tt

    -- of a sum
    pub after_some_assigns : (ps : Policies) (k : ℕ) → AllAssignOnly Allowed ps
        → AssignsOnly Allowed (after_some ps k)
    after_some_assigns no_part k q = tt
    after_some_assigns (part p ps) k q =
        part_assigns (has_dup p k) (after p k) (after_some ps k) (after_assigns p k q.0) (after_some_assigns ps k q.1)

    -- of a sequence
    pub after_all_assigns : (ps : Policies) (k : ℕ) → AllAssignOnly Allowed ps
        → AssignsOnly Allowed (after_all ps k)
    after_all_assigns no_part k q = tt
    after_all_assigns (part p ps) k q =
        part_assigns (has_dup p k) (seq_of (part (after p k) ps)) (after_all ps k) (after_assigns p k q.0, q.1) (after_all_assigns ps k q.1)
