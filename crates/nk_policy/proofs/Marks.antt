-- Recorded packets written down in another form: the ways of a policy are the same.
use Rattle.std.proofs.Common.{◌≡◌, ℕ, zero, suc, ◌+◌, inl, inr, ⊎_elim, List, [], ◌∷◌, ◌++◌, refl, sym, ap, subst, ◌∙◌}
use Rattle.std.specs.Prelude.{map}
use Rattle.nk_field.specs.declared.packet.Packet.{Packet}
use Rattle.nk_policy.specs.Policy.{Policy, Policies, test, range, assign, sum_of, seq_of, not_of, star_of, dup, link, no_part, part}
use Rattle.nk_policy.specs.Meaning.{Way, keep, keep_where, keep_within, set_field, record_as, followed_by, rounds, way_of, some_way_of, way_of_all}
use Rattle.nk_field.proofs.Lists.{map_joined}
use Rattle.nk_policy.proofs.ListParts.{map_empty}

module _ {A B : Type 0} (f : A → B) where
  -- the second way records what the first does, in the other form
  abbrev pub Agree : Way A → Way B → Type 0
  Agree R S =
      (pk : Packet) (y : Packet)
      → ((v : List A) → R pk v y → S pk (map f v) y) × ((w : List B) → S pk w y → (v : List A) × (map f v ≡ w) × R pk v y)

  -- keeping the packet
  keep_agrees : Agree keep keep
  keep_agrees pk y = (λ v r. (ap (map f) r.0, r.1), λ w r. ([], sym r.0, (refl, r.1)))

  -- a test
  keep_where_agrees : (g n : ℕ) → Agree (keep_where g n) (keep_where g n)
  keep_where_agrees g n pk y = (λ v r. (r.0, ap (map f) r.1, r.2), λ w r. ([], sym r.1, (r.0, refl, r.2)))

  -- a range
  keep_within_agrees : (g lo hi : ℕ) → Agree (keep_within g lo hi) (keep_within g lo hi)
  keep_within_agrees g lo hi pk y = (
    λ v r. (r.0, r.1, ap (map f) r.2, r.3),
    λ w r. ([], sym r.2, (r.0, r.1, refl, r.3)),
  )

  -- an assignment
  set_agrees : (g n : ℕ) → Agree (set_field g n) (set_field g n)
  set_agrees g n pk y = (λ v r. (ap (map f) r.0, r.1), λ w r. ([], sym r.0, (refl, r.1)))

  -- a record
  record_agrees : (mark : Packet → A) → Agree (record_as mark) (record_as (λ x. f (mark x)))
  record_agrees mark pk y = (λ v r. (ap (map f) r.0, r.1), λ w r. (mark pk ∷ [], sym r.0, (refl, r.1)))

  -- two ways in turn
  followed_agree : (R R' : Way A) (S S' : Way B) → Agree R S → Agree R' S'
      → Agree (followed_by R R') (followed_by S S')
  followed_agree R R' S S' a b pk y = (
    λ v r. (map f r.0, map f r.1, r.2, ap (map f) r.3 ∙ map_joined f r.0 r.1, (a pk r.2).0 r.0 r.4, (b r.2 y).0 r.1 r.5),
    λ w r.
        let s = (a pk r.2).1 r.0 r.4 in
        let t = (b r.2 y).1 r.1 r.5 in
        (s.0 ++ t.0, map_joined f s.0 t.0 ∙ ap (λ l. l ++ map f t.0) s.1 ∙ ap (λ l. r.0 ++ l) t.1 ∙ sym r.3, (s.0, t.0, r.2, refl, s.2, t.2)),
  )

  -- rounds
  rounds_agree : (R : Way A) (S : Way B) → Agree R S → (n : ℕ) → Agree (rounds n R) (rounds n S)
  rounds_agree R S a zero = keep_agrees
  rounds_agree R S a (suc n) = followed_agree R (rounds n R) S (rounds n S) a (rounds_agree R S a n)

  module _ (mark : ℕ → Packet → A) where
    -- the marks in the other form
    abbrev pub marked_too : ℕ → Packet → B
    marked_too l x = f (mark l x)

    mutual
      -- a policy
      pub ways_agree : (p : Policy) → Agree (way_of p mark) (way_of p marked_too)
      ways_agree (test g n) = keep_where_agrees g n
      ways_agree (range g lo hi) = keep_within_agrees g lo hi
      ways_agree (assign g n) = set_agrees g n
      ways_agree (sum_of ps) = some_ways_agree ps
      ways_agree (seq_of ps) = all_ways_agree ps
      ways_agree (not_of p) = λ pk y. (
        λ v r. (
          (ap (map f) r.0.0, r.0.1),
          λ s.
              let t = (ways_agree p pk pk).1 [] s in
              r.1 (subst (λ l. way_of p mark pk l pk) (map_empty f t.0 t.1) t.2),
        ),
        λ w r. ([], sym r.0.0, ((refl, r.0.1), λ s. r.1 ((ways_agree p pk pk).0 [] s))),
      )
      ways_agree (star_of p) = λ pk y. (
        λ v r. (r.0, (rounds_agree (way_of p mark) (way_of p marked_too) (ways_agree p) r.0 pk y).0 v r.1),
        λ w r.
            let s = (rounds_agree (way_of p mark) (way_of p marked_too) (ways_agree p) r.0 pk y).1 w r.1 in
            (s.0, s.1, (r.0, s.2)),
      )
      ways_agree (dup l) = record_agrees (mark l)
      ways_agree (link a m b n l) =
          followed_agree _ _ _ _ (keep_where_agrees 0 a) (followed_agree _ _ _ _ (keep_where_agrees 1 m) (followed_agree _ _ _ _ (record_agrees (mark l)) (followed_agree _ _ _ _ (set_agrees 0 b) (followed_agree _ _ _ _ (set_agrees 1 n) (followed_agree _ _ _ _ (record_agrees (mark (l + 1))) keep_agrees)))))

      -- a sum
      pub some_ways_agree : (ps : Policies) → Agree (some_way_of ps mark) (some_way_of ps marked_too)
      some_ways_agree no_part = λ pk y. (λ v r. absurd r, λ w r. absurd r)
      some_ways_agree (part p ps) = λ pk y. (
        λ v r. ⊎_elim (λ s. inl ((ways_agree p pk y).0 v s)) (λ s. inr ((some_ways_agree ps pk y).0 v s)) r,
        λ w r.
            ⊎_elim
            (λ s. let t = (ways_agree p pk y).1 w s in (t.0, t.1, inl t.2))
            (λ s. let t = (some_ways_agree ps pk y).1 w s in (t.0, t.1, inr t.2))
            r,
      )

      -- a sequence
      pub all_ways_agree : (ps : Policies) → Agree (way_of_all ps mark) (way_of_all ps marked_too)
      all_ways_agree no_part = keep_agrees
      all_ways_agree (part p ps) =
          followed_agree (way_of p mark) (way_of_all ps mark) (way_of p marked_too) (way_of_all ps marked_too) (ways_agree p) (all_ways_agree ps)
