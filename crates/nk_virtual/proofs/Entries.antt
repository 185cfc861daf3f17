-- The histories of the policies that are compared of a fabric: those from packets that enter, and those of the move.
use Rattle.std.proofs.Common.{◌≡◌, ℕ, ⊎_elim, None, Some, Option, List, [], ◌++◌, length, refl, sym, ap, subst, ◌∙◌, get_or-set_same}
use Rattle.std.specs.Prelude.{◌↔◌, slice_index, slice_set}
use Rattle.std.proofs.lemmas.Bool.{cases_lt}
use Rattle.std.proofs.lemmas.List.{append-nil, get_or_past, set-get_or}
use Rattle.nk_field.specs.declared.packet.Packet.{Packet}
use Rattle.nk_field.specs.Packet.{without}
use Rattle.nk_policy.specs.Policy.{Policy, test, part}
use Rattle.nk_policy.specs.Meaning.{Way, keep, keep_where, set_field, followed_by, way_of, way_of_all, Gives}
use Rattle.nk_names.specs.ProgramValue.{VirtualLink}
use Rattle.nk_virtual.specs.Fabrics.{IsAtStartOf, moved_along}
use Rattle.nk_virtual.specs.Questions.{tag_tests, at_entry, from_entry, move}
use Rattle.nk_virtual.proofs.Literals.{plain}

-- after a test
pub test_first : (f n : ℕ) (R : Way Packet) (z : Packet) (w : List Packet) (y : Packet)
    → followed_by (keep_where f n) R z w y ↔ ((slice_index z f ≡ n) × R z w y)
test_first f n R z w y = (
  λ r. (
    r.4.0,
    subst (λ x. R x w y) r.4.2 (subst (λ v. R r.2 v y) (sym (r.3 ∙ ap (λ u. u ++ r.1) r.4.1)) r.5),
  ),
  λ h. ([], w, z, refl, (h.0, refl, refl), h.1),
)

-- after an assignment
pub set_first : (f n : ℕ) (R : Way Packet) (z : Packet) (w : List Packet) (y : Packet)
    → followed_by (set_field f n) R z w y ↔ R (slice_set z f n) w y
set_first f n R z w y = (
  λ r. subst (λ x. R x w y) r.4.1 (subst (λ v. R r.2 v y) (sym (r.3 ∙ ap (λ u. u ++ r.1) r.4.0)) r.5),
  λ h. ([], w, slice_set z f n, refl, (refl, refl), h),
)

-- with nothing after
pub last_alone : (R : Way Packet) (z : Packet) (w : List Packet) (y : Packet) → followed_by R keep z w y ↔ R z w y
last_alone R z w y = (
  λ r.
      let e : w ≡ r.0 = r.3 ∙ ap (λ t. r.0 ++ t) r.5.0 ∙ append-nil r.0 in
      subst (λ t. R z w t) (sym r.5.1) (subst (λ t. R z t r.2) (sym e) r.4),
  λ h. (w, [], y, sym (append-nil w), h, (refl, refl)),
)

-- a field that is 0 is as it would be set to 0
pub zero_set : (f : ℕ) (z : Packet) → (slice_index z f ≡ 0) ↔ (slice_set z f 0 ≡ z)
zero_set f z = (
  λ e. subst (λ v. slice_set z f v ≡ z) e (set-get_or z f 0),
  λ e.
      ⊎_elim
      (λ lt. ap (λ x. slice_index x f) (sym e) ∙ get_or-set_same z f 0 0 lt)
      (λ past. get_or_past z f 0 past)
      (cases_lt f (length z)),
)

-- the test for tag 0 keeps the packets without a tag
tag_way : (tag : Option ℕ) (z : Packet) (w : List Packet) (y : Packet)
    → way_of_all (tag_tests tag) plain z w y ↔ ((without tag z ≡ z) × keep z w y)
tag_way None z w y = (λ r. (refl, r), λ h. h.1)
tag_way (Some tag) z w y =
    let t = test_first tag 0 keep z w y in (
      λ r. let h = t.0 r in ((zero_set tag z).0 h.0, h.1),
      λ h. t.1 ((zero_set tag z).1 h.0, h.1),
    )

module _ (tag : Option ℕ) (k : VirtualLink) where
  -- the entry keeps the packets without a tag at the start
  entry_way : (z : Packet) (w : List Packet) (y : Packet)
      → way_of (at_entry tag k) plain z w y ↔ (IsAtStartOf k z × (without tag z ≡ z) × keep z w y)
  entry_way z w y =
      let first = test_first 0 k.ends.from_switch (way_of_all (part (test 1 k.ends.from_port) (tag_tests tag)) plain) z w y in
      let second = test_first 1 k.ends.from_port (way_of_all (tag_tests tag) plain) z w y in
      let third = tag_way tag z w y in (
        λ r. let a = first.0 r in let b = second.0 a.1 in let c = third.0 b.1 in ((a.0, b.0), c.0, c.1),
        λ h. first.1 (h.0.0, second.1 (h.0.1, third.1 (h.1, h.2))),
      )

  -- a policy from there alone
  pub entered : (p : Policy) (z : Packet) (w : List Packet) (y : Packet)
      → Gives (from_entry tag k p) z w y ↔ (IsAtStartOf k z × (without tag z ≡ z) × Gives p z w y)
  entered p z w y = (
    λ r.
        let a = (entry_way z r.0 r.2).0 r.4 in
        let b = (last_alone (way_of p plain) r.2 r.1 y).0 r.5 in
        let e : w ≡ r.1 = r.3 ∙ ap (λ t. t ++ r.1) a.2.0 in
        (a.0, a.1, subst (λ x. way_of p plain x w y) a.2.1 (subst (λ v. way_of p plain r.2 v y) (sym e) b)),
    λ h. (
      [],
      w,
      z,
      refl,
      (entry_way z [] z).1 (h.0, h.1, (refl, refl)),
      (last_alone (way_of p plain) z w y).1 h.2,
    ),
  )

-- the move records nothing and moves the packet
pub move_way : (k : VirtualLink) (z : Packet) (w : List Packet) (y : Packet)
    → Gives (move k) z w y ↔ ((w ≡ []) × (y ≡ moved_along k z))
move_way k z w y =
    let second = set_first 1 k.ends.to_port keep (slice_set z 0 k.ends.to_switch) w y in
    let first = set_first 0 k.ends.to_switch (followed_by (set_field 1 k.ends.to_port) keep) z w y in
    (λ r. second.0 (first.0 r), λ h. first.1 (second.1 h))
