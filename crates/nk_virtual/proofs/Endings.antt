-- A policy without its dups records nothing and ends where the policy does.
use Rattle.std.proofs.Common.{◌≡◌, ℕ, zero, suc, ◌+◌, inl, inr, ⊎_elim, List, [], ◌∷◌, ◌++◌, refl, ap, subst, ◌∙◌}
use Rattle.std.specs.Prelude.{◌↔◌}
use Rattle.nk_field.specs.declared.packet.Packet.{Packet}
use Rattle.nk_policy.specs.Policy.{Policy, Policies, test, range, assign, sum_of, seq_of, not_of, star_of, dup, link, no_part, part}
use Rattle.nk_policy.specs.Meaning.{Way, keep, keep_where, keep_within, set_field, record_as, followed_by, rounds, way_of, some_way_of, way_of_all}
use Rattle.nk_virtual.specs.Endings.{without_records, all_without_records, move_alone}
use Rattle.nk_virtual.proofs.Literals.{plain}

-- the first way records nothing, and ends where the second does
abbrev pub Ends : Way Packet → Way Packet → Type 0
Ends R S = (pk : Packet) (w : List Packet) (y : Packet) → R pk w y ↔ ((w ≡ []) × ((u : List Packet) × S pk u y))

-- two ways in turn
followed_ends : (R S R' S' : Way Packet) → Ends R S → Ends R' S' → Ends (followed_by R R') (followed_by S S')
followed_ends R S R' S' a b pk w y = (
  λ r.
      let f = (a pk r.0 r.2).0 r.4 in
      let g = (b r.2 r.1 y).0 r.5 in
      let e : w ≡ [] = r.3 ∙ ap (λ t. t ++ r.1) f.0 ∙ g.0 in
      (e, (f.1.0 ++ g.1.0, (f.1.0, g.1.0, r.2, refl, f.1.1, g.1.1))),
  λ h.
      let s = h.1.1 in
      ([], w, s.2, refl, (a pk [] s.2).1 (refl, (s.0, s.4)), (b s.2 w y).1 (h.0, (s.1, s.5))),
)

-- a record in front that is left out
skipped_ends : (l : ℕ) (R S : Way Packet) → Ends R S → Ends R (followed_by (record_as (plain l)) S)
skipped_ends l R S a pk w y = (
  λ r. let f = (a pk w y).0 r in (f.0, (pk ∷ f.1.0, (pk ∷ [], f.1.0, pk, refl, (refl, refl), f.1.1))),
  λ h.
      let s = h.1.1 in
      let t : S pk s.1 y = subst (λ z. S z s.1 y) s.4.1 s.5 in
      (a pk w y).1 (h.0, (s.1, t)),
)

-- nothing
keep_ends : Ends keep keep
keep_ends pk w y = (λ r. (r.0, ([], (refl, r.1))), λ h. (h.0, h.1.1.1))

-- a test
test_ends : (f n : ℕ) → Ends (keep_where f n) (keep_where f n)
test_ends f n pk w y = (λ r. (r.1, ([], (r.0, refl, r.2))), λ h. (h.1.1.0, h.0, h.1.1.2))

-- a range
range_ends : (f low high : ℕ) → Ends (keep_within f low high) (keep_within f low high)
range_ends f low high pk w y = (λ r. (r.2, ([], (r.0, r.1, refl, r.3))), λ h. (h.1.1.0, h.1.1.1, h.0, h.1.1.3))

-- an assignment
set_ends : (f n : ℕ) → Ends (set_field f n) (set_field f n)
set_ends f n pk w y = (λ r. (r.0, ([], (refl, r.1))), λ h. (h.0, h.1.1.1))

-- a dup
dup_ends : (l : ℕ) → Ends keep (record_as (plain l))
dup_ends l pk w y = (λ r. (r.0, (pk ∷ [], (refl, r.1))), λ h. (h.0, h.1.1.1))

-- rounds
rounds_end : (R S : Way Packet) → Ends R S → (n : ℕ) → Ends (rounds n R) (rounds n S)
rounds_end R S a zero = keep_ends
rounds_end R S a (suc n) = followed_ends R S (rounds n R) (rounds n S) a (rounds_end R S a n)

-- a link literal
link_ends : (a m b n l : ℕ) → Ends (way_of (move_alone a m b n) plain) (way_of (link a m b n l) plain)
link_ends a m b n l =
    followed_ends _ _ _ _ (test_ends 0 a)
    (followed_ends _ _ _ _ (test_ends 1 m)
    (skipped_ends l _ _
    (followed_ends _ _ _ _ (set_ends 0 b)
    (followed_ends _ _ _ _ (set_ends 1 n)
    (skipped_ends (l + 1) _ _ keep_ends)))))

mutual
  -- a policy
  pub same_ends : (p : Policy) → Ends (way_of (without_records p) plain) (way_of p plain)
  same_ends (test f n) = test_ends f n
  same_ends (range f low high) = range_ends f low high
  same_ends (assign f n) = set_ends f n
  same_ends (sum_of ps) = some_same_ends ps
  same_ends (seq_of ps) = all_same_ends ps
  same_ends (not_of p) = λ pk w y. (
    λ r. (r.0.0, ([], ((refl, r.0.1), r.1))),
    λ h. ((h.0, h.1.1.0.1), h.1.1.1),
  )
  same_ends (star_of p) = λ pk w y. (
    λ r.
        let f = (rounds_end (way_of (without_records p) plain) (way_of p plain) (same_ends p) r.0 pk w y).0 r.1 in
        (f.0, (f.1.0, (r.0, f.1.1))),
    λ h. (
      h.1.1.0,
      (rounds_end (way_of (without_records p) plain) (way_of p plain) (same_ends p) h.1.1.0 pk w y).1 (h.0, (h.1.0, h.1.1.1)),
    ),
  )
  same_ends (dup l) = dup_ends l
  same_ends (link a m b n l) = link_ends a m b n l

  -- a sum
  some_same_ends : (ps : Policies) → Ends (some_way_of (all_without_records ps) plain) (some_way_of ps plain)
  some_same_ends no_part = λ pk w y. (λ r. absurd r, λ h. absurd h.1.1)
  some_same_ends (part p ps) = λ pk w y. (
    λ r.
        ⊎_elim
        (λ s. let f = (same_ends p pk w y).0 s in (f.0, (f.1.0, inl f.1.1)))
        (λ s. let f = (some_same_ends ps pk w y).0 s in (f.0, (f.1.0, inr f.1.1)))
        r,
    λ h.
        ⊎_elim
        (λ s. inl ((same_ends p pk w y).1 (h.0, (h.1.0, s))))
        (λ s. inr ((some_same_ends ps pk w y).1 (h.0, (h.1.0, s))))
        h.1.1,
  )

  -- a sequence
  all_same_ends : (ps : Policies) → Ends (way_of_all (all_without_records ps) plain) (way_of_all ps plain)
  all_same_ends no_part = keep_ends
  all_same_ends (part p ps) =
      followed_ends
      (way_of (without_records p) plain)
      (way_of p plain)
      (way_of_all (all_without_records ps) plain)
      (way_of_all ps plain)
      (same_ends p)
      (all_same_ends ps)
