-- How far a run of a policy has come: the positions of its dups, as the states of a NetKAT automaton
-- (Foster et al., POPL 2015: one state for each occurrence of dup).
use Rattle.std.specs.Prelude.{◌≡◌, ℕ, ◌+◌, ◌⊎◌, List, [], ◌++◌}
use Rattle.nk_policy.specs.Policy.{Policy, Policies, test, range, assign, sum_of, seq_of, not_of, star_of, dup, link, no_part, part}
use Rattle.nk_field.specs.declared.packet.Packet.{Packet}
use Rattle.nk_policy.specs.Meaning.{Way, keep_where, set_field, record_as, rounds, way_of}

-- recorded packets, each with the number of its dup
abbrev pub Marked : Type 0
Marked = List (Packet × ℕ)

-- a packet beside the number of the dup that records it
abbrev pub numbered : ℕ → Packet → Packet × ℕ
numbered l x = (x, l)

-- From a packet, what a run has recorded before, then the packet that it records last and the number of that dup.
abbrev pub Front : Type 1
Front = Packet → Marked → Packet → ℕ → Type 0

-- no dup at all
abbrev pub no_dup : Front
no_dup pk u x l = ⊥

-- the dup with number k itself
abbrev pub at_dup : ℕ → Front
at_dup k pk u x l = (u ≡ []) × (x ≡ pk) × (l ≡ k)

-- a dup of the first, or all of a way and then a dup of the second
abbrev pub within_either : Front → Way (Packet × ℕ) → Front → Front
within_either front way rest pk u x l =
    front pk u x l
    ⊎ ((a : Marked) × (b : Marked) × (z : Packet) × (u ≡ a ++ b) × way pk a z × rest z b x l)

-- some run of the policy from pk has recorded u and then, by its last step, x at the dup with number l
abbrev mutual
  pub RecordsAt : Policy → Front
  RecordsAt (test f n) pk u x l = ⊥
  RecordsAt (range f lo hi) pk u x l = ⊥
  RecordsAt (assign f n) pk u x l = ⊥
  RecordsAt (sum_of ps) pk u x l = SomeRecordsAt ps pk u x l
  RecordsAt (seq_of ps) pk u x l = AllRecordAt ps pk u x l
  RecordsAt (not_of p) pk u x l = ⊥
  RecordsAt (star_of p) pk u x l = (n : ℕ) × within_either no_dup (rounds n (way_of p numbered)) (RecordsAt p) pk u x l
  RecordsAt (dup k) pk u x l = at_dup k pk u x l
  RecordsAt (link a m b n k) pk u x l =
      within_either
      no_dup
      (keep_where 0 a)
      (within_either
      no_dup
      (keep_where 1 m)
      (within_either
      (at_dup k)
      (record_as (numbered k))
      (within_either
      no_dup
      (set_field 0 b)
      (within_either
      no_dup
      (set_field 1 n)
      (within_either (at_dup (k + 1)) (record_as (numbered (k + 1))) no_dup)))))
      pk
      u
      x
      l

  -- one of the parts
  pub SomeRecordsAt : Policies → Front
  SomeRecordsAt no_part pk u x l = ⊥
  SomeRecordsAt (part p ps) pk u x l = RecordsAt p pk u x l ⊎ SomeRecordsAt ps pk u x l

  -- the parts in turn
  pub AllRecordAt : Policies → Front
  AllRecordAt no_part pk u x l = ⊥
  AllRecordAt (part p ps) pk u x l = within_either (RecordsAt p) (way_of p numbered) (AllRecordAt ps) pk u x l
