-- The policies that are compared of a fabric can be: they are over the fields, numbered, of few dups, and their complements
-- are of predicates.
use Rattle.std.proofs.Common.{◌≡◌, ℕ, ◌+◌, ◌<◌, ◌≤◌, zero, suc, true, Option, None, Some, List, [], ◌∷◌, length, take, refl, sym, ap, ◌∙◌, arith, length-take}
use Rattle.std.specs.Prelude.{slice_index}
use Rattle.std.proofs.lemmas.List.{get_or-take}
use Rattle.nk_field.specs.declared.packet.Packet.{Packet}
use Rattle.nk_field.specs.Packet.{FieldTable, IsPacket, IsValue}
use Rattle.nk_policy.specs.Policy.{Policy, Policies, sum_of, seq_of, not_of, star_of, dup, link, no_part, part, is_predicate, are_predicates, dups_of, dups_of_all, marked_from}
use Rattle.nk_policy.specs.Ranges.{UsesOnly, AllUseOnly, IsOverFields}
use Rattle.nk_policy.specs.Complements.{NegatesPredicates, AllNegatePredicates}
use Rattle.nk_policy.specs.After.{drop_policy}
use Rattle.nk_policy.proofs.Remade.{dupless_marked}
use Rattle.nk_names.proofs.Good.{few_dups, over_in_range}
use Rattle.nk_names.proofs.Predicates.{no_dups}
use Rattle.nk_names.specs.ProgramValue.{VirtualLink}
use Rattle.nk_virtual.specs.Fabrics.{moved_along}
use Rattle.nk_virtual.specs.Endings.{without_records, all_without_records}
use Rattle.nk_virtual.specs.Questions.{tag_tests, at_entry, from_entry, move, ends_or_move, tests_from, only, elsewhere}
use Rattle.nk_virtual.specs.Carriage.{IsAskable, AreComparable}
use Rattle.nk_virtual.proofs.Entries.{move_way}
use Rattle.nk_virtual.proofs.Only.{ends_in_range}

module _ (Allowed : ℕ → ℕ → Type 0) where
  mutual
    -- without its dups a policy has the tests and assignments that it had
    pub bare_uses : (p : Policy) → UsesOnly Allowed p → UsesOnly Allowed (without_records p)
    bare_uses (sum_of ps) u = all_bare_use ps u
    bare_uses (seq_of ps) u = all_bare_use ps u
    bare_uses (star_of p) u = bare_uses p u
    bare_uses (dup l) u = tt
    bare_uses (link a m b n l) u = (u.0, (u.1, (u.2, (u.3, tt))))
    bare_uses p u = u

    -- its parts
    all_bare_use : (ps : Policies) → AllUseOnly Allowed ps → AllUseOnly Allowed (all_without_records ps)
    all_bare_use no_part u = tt
    all_bare_use (part p ps) u = (bare_uses p u.0, all_bare_use ps u.1)

mutual
  -- its complements stay over predicates
  pub bare_negates : (p : Policy) → NegatesPredicates p → NegatesPredicates (without_records p)
  bare_negates (sum_of ps) h = all_bare_negate ps h
  bare_negates (seq_of ps) h = all_bare_negate ps h
  bare_negates (not_of p) h = h
  bare_negates (star_of p) h = bare_negates p h
  bare_negates (link a m b n l) h = (tt, (tt, (tt, (tt, tt))))
  bare_negates p h = tt

  -- those of its parts
  all_bare_negate : (ps : Policies) → AllNegatePredicates ps → AllNegatePredicates (all_without_records ps)
  all_bare_negate no_part h = tt
  all_bare_negate (part p ps) h = (bare_negates p h.0, all_bare_negate ps h.1)

mutual
  -- and it has no dup
  pub bare_dups : (p : Policy) → NegatesPredicates p → dups_of (without_records p) ≡ 0
  bare_dups (sum_of ps) h = all_bare_dups ps h
  bare_dups (seq_of ps) h = all_bare_dups ps h
  bare_dups (not_of p) h = no_dups p h.0
  bare_dups (star_of p) h = bare_dups p h
  bare_dups p h = refl

  -- nor have its parts
  all_bare_dups : (ps : Policies) → AllNegatePredicates ps → dups_of_all (all_without_records ps) ≡ 0
  all_bare_dups no_part h = refl
  all_bare_dups (part p ps) h = omega (arith, bare_dups p h.0, all_bare_dups ps h.1)

-- tests for the values of a packet are a predicate
tests_are : (f : ℕ) (ms : List ℕ) (x : Packet) → are_predicates (tests_from f ms x) ≡ true
tests_are f [] x = refl
tests_are f (m ∷ ms) x = tests_are (f + 1) ms x

-- without complements
tests_negate : (f : ℕ) (ms : List ℕ) (x : Packet) → AllNegatePredicates (tests_from f ms x)
tests_negate f [] x = tt
tests_negate f (m ∷ ms) x = (tt, tests_negate (f + 1) ms x)

-- the test for tag 0 has none either
tag_negates : (tag : Option ℕ) → AllNegatePredicates (tag_tests tag)
tag_negates None = tt
tag_negates (Some tag) = (tt, tt)

-- nor a dup
tag_dups : (tag : Option ℕ) → dups_of_all (tag_tests tag) ≡ 0
tag_dups None = refl
tag_dups (Some tag) = refl

module _ (fields : FieldTable) where
  -- tests for values in range
  tests_use : (x : Packet) → IsPacket fields x → (f : ℕ) (ms : List ℕ) → f + length ms ≡ length fields.maxima
      → AllUseOnly (IsValue fields) (tests_from f ms x)
  tests_use x h f [] e = tt
  tests_use x h f (m ∷ ms) e = ((omega (arith, e), h.within f), tests_use x h (f + 1) ms (omega (arith, e)))

  -- of one packet in range
  only_over : (x : Packet) → IsPacket fields x → IsOverFields fields (only fields x)
  only_over x h = tests_use x h 0 fields.maxima (omega arith)

  only_is : (x : Packet) → is_predicate (only fields x) ≡ true
  only_is x = tests_are 0 fields.maxima x

  only_negates : (x : Packet) → NegatesPredicates (only fields x)
  only_negates x = tests_negate 0 fields.maxima x

module _ (fields : FieldTable) (k : VirtualLink) (askable : IsAskable fields k) where
  -- the switch and the port are fields with numbers up to 65,535
  place : (f n : ℕ) → f < 2 → n ≤ 65535 → IsValue fields f n
  place f n lt small =
      let table = askable.table in
      let two : length (take 2 fields.maxima) ≡ 2 = ap length table.built_in_maxima in
      let some : 2 ≤ length fields.maxima = omega (arith, sym (length-take 2 fields.maxima) ∙ two) in
      let is : slice_index fields.maxima f ≡ 65535 =
      sym (get_or-take 2 fields.maxima f 0 lt) ∙ ap (λ l. slice_index l f) table.built_in_maxima ∙ both f lt in
      (omega (arith, lt, some), omega (arith, is, small))
    where
      both : (i : ℕ) → i < 2 → slice_index (65535 ∷ 65535 ∷ []) i ≡ 65535
      both zero lt = refl
      both (suc zero) lt = refl
      both (suc (suc i)) lt = absurd (omega (arith, lt))

  -- so is the tag with 0
  tag_over : (tag : Option ℕ) → fields.tag ≡ tag → AllUseOnly (IsValue fields) (tag_tests tag)
  tag_over None e = tt
  tag_over (Some tag) e = (((askable.table.tag_past_port tag e).1, omega arith), tt)

  entry_over : IsOverFields fields (at_entry fields.tag k)
  entry_over = (
    place 0 k.ends.from_switch (omega arith) askable.from_switch,
    (place 1 k.ends.from_port (omega arith) askable.from_port, tag_over fields.tag refl),
  )

  move_over : IsOverFields fields (move k)
  move_over = (
    place 0 k.ends.to_switch (omega arith) askable.to_switch,
    (place 1 k.ends.to_port (omega arith) askable.to_port, tt),
  )

  -- a policy from the entry alone
  from_over : (p : Policy) → IsOverFields fields p → IsOverFields fields (from_entry fields.tag k p)
  from_over p h = (entry_over, (h, tt))

  from_negates : (p : Policy) → NegatesPredicates p → NegatesPredicates (from_entry fields.tag k p)
  from_negates p h = ((tt, (tt, tag_negates fields.tag)), (h, tt))

  from_dups : (p : Policy) → dups_of p ≡ 0 → dups_of (from_entry fields.tag k p) ≡ 0
  from_dups p h = omega (arith, h, tag_dups fields.tag)

  -- two such policies without dups
  from_both : (p q : Policy) → IsOverFields fields p → IsOverFields fields q → NegatesPredicates p → NegatesPredicates q
      → dups_of p ≡ 0 → dups_of q ≡ 0 → AreComparable fields (from_entry fields.tag k p) (from_entry fields.tag k q)
  from_both p q po qo pn qn pd qd = record {
    numbered = dupless_marked (from_entry fields.tag k p) 1 (from_dups p pd);
    few = omega (arith, from_dups p pd, from_dups q qd);
    left_complements = from_negates p pn;
    right_complements = from_negates q qn;
    left_over = from_over p po;
    right_over = from_over q qo;
  }

  -- the fabric's ends with that of the move, beside the move
  pub either_and_move : AreComparable fields (from_entry fields.tag k (ends_or_move k)) (from_entry fields.tag k (move k))
  either_and_move =
      let bare = bare_dups k.fabric askable.fabric.complements in
      from_both (ends_or_move k) (move k)
      (bare_uses (IsValue fields) k.fabric askable.fabric.over, (move_over, tt))
      move_over
      (bare_negates k.fabric askable.fabric.complements, ((tt, (tt, tt)), tt))
      (tt, (tt, tt))
      (omega (arith, bare))
      refl

  -- the fabric's ends, beside the move
  pub ends_and_move : AreComparable fields (from_entry fields.tag k (without_records k.fabric)) (from_entry fields.tag k (move k))
  ends_and_move =
      from_both (without_records k.fabric) (move k)
      (bare_uses (IsValue fields) k.fabric askable.fabric.over)
      move_over
      (bare_negates k.fabric askable.fabric.complements)
      (tt, (tt, tt))
      (bare_dups k.fabric askable.fabric.complements)
      refl

  -- the moved packet is in range
  pub moved_in_range : (x : Packet) → IsPacket fields x → IsPacket fields (moved_along k x)
  moved_in_range x h =
      ends_in_range fields (move k) (over_in_range fields (move k) move_over) x [] (moved_along k x)
      ((move_way k x [] (moved_along k x)).1 (refl, refl))
      h

  -- the fabric's histories from a packet in range that end elsewhere, beside none
  pub elsewhere_and_none : (x : Packet) → IsPacket fields x → AreComparable fields (elsewhere fields k x) drop_policy
  elsewhere_and_none x h =
      let first = only fields x in
      let last = only fields (moved_along k x) in
      let first_dups : dups_of first ≡ 0 = no_dups first (only_is fields x) in
      let last_dups : dups_of last ≡ 0 = no_dups last (only_is fields (moved_along k x)) in
      let few : dups_of k.fabric ≤ 2097152 = omega (arith, few_dups k.fabric, askable.fabric.small) in
      record {
        numbered =
            ap (λ d. seq_of (part (marked_from first 1) (part (marked_from k.fabric (1 + d)) (part (not_of (marked_from last ((1 + d) + dups_of k.fabric))) no_part)))) first_dups
            ∙ ap (λ q. seq_of (part q (part (marked_from k.fabric 1) (part (not_of (marked_from last (1 + dups_of k.fabric))) no_part)))) (dupless_marked first 1 first_dups)
            ∙ ap (λ q. seq_of (part first (part q (part (not_of (marked_from last (1 + dups_of k.fabric))) no_part)))) askable.fabric.numbered
            ∙ ap (λ q. seq_of (part first (part k.fabric (part (not_of q) no_part)))) (dupless_marked last (1 + dups_of k.fabric) last_dups);
        few = omega (arith, first_dups, last_dups, few);
        left_complements = (only_negates fields x, (askable.fabric.complements, ((only_is fields (moved_along k x), only_negates fields (moved_along k x)), tt)));
        right_complements = tt;
        left_over = (only_over fields x h, (askable.fabric.over, (only_over fields (moved_along k x) (moved_in_range x h), tt)));
        right_over = tt;
      }
