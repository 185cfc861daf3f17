-- The small certificate is one; the short one fails in its first row, where a record leads to no row.
use Rattle.std.proofs.Common.{◌≡◌, ℕ, ◌⊎◌, inl, inr, ⊎_elim, List, [], ◌∷◌, refl, sym, ap, subst, ◌∙◌}
use Rattle.std.specs.Prelude.{◌↔◌, Contains}
use Rattle.nk_field.specs.declared.packet.Packet.{Packet}
use Rattle.nk_field.specs.Packet.{FieldTable, IsPacket}
use Rattle.nk_field.proofs.Lists.{in_from_contains, contains_from_in}
use Rattle.nk_field.proofs.Ascending.{all_from_members}
use Rattle.nk_policy.specs.Policy.{dup}
use Rattle.nk_policy.specs.Meaning.{Gives}
use Rattle.nk_policy.specs.Progress.{RecordsAt}
use Rattle.nk_policy.specs.After.{after, id_policy}
use Rattle.nk_policy.proofs.Tests.{same_test, same_from}
use Rattle.nk_cert.specs.Certificates.{at_start, at_dups, CertRow, later_row, certificate_rows, SomeEndsAt, RecordsNext, MeetsAll, MeetsFinals, IsCertificate}
use Rattle.nk_cert.specs.Verdicts.{hop_part, FailsFirst}
use Rattle.nk_check.specs.Worked.{left_policy, right_policy, small, short}
use Rattle.nk_cert.proofs.Printing.{row_cases}

-- both positions
abbrev both : List ℕ
both = 2 ∷ 1 ∷ []

two_in : Contains both 2
two_in = contains_from_in both 2 (inl refl)

one_in : Contains both 1
one_in = contains_from_in both 1 (inr (inl refl))

-- a dup doesn't end without a record
not_silent : (k : ℕ) (pk y : Packet) → Gives (dup k) pk [] y → ⊥
not_silent k pk y h = let e = h.0 in cc

-- what a start records
start_next : (pk x : Packet) (l : ℕ) → RecordsNext left_policy right_policy at_start pk x l → (x ≡ pk) × ((l ≡ 1) ⊎ (l ≡ 2))
start_next pk x l r =
    ⊎_elim
    (λ e. let a = subst (λ s. RecordsAt s pk [] x l) e r.2 in (a.1, inl a.2))
    (λ e. let a = subst (λ s. RecordsAt s pk [] x l) e r.2 in (a.1, inr a.2))
    r.1

next_start : (pk x : Packet) (l : ℕ) → x ≡ pk → (l ≡ 1) ⊎ (l ≡ 2) → RecordsNext left_policy right_policy at_start pk x l
next_start pk x l e n =
    ⊎_elim (λ is. (dup 1, inl refl, (refl, e, is))) (λ is. (dup 2, inr refl, (refl, e, is))) n

-- after its dup each policy ends where it is
left_following : (pk y : Packet) → SomeEndsAt left_policy (at_dups (2 ∷ 1 ∷ [])) pk y ↔ (y ≡ pk)
left_following pk y = (
  λ e.
      let m = e.1 in
      let is : m.0 ≡ 1 = same_from m.0 1 m.2 in
      let s_is : e.0 ≡ after (dup 1) 1 = m.3 ∙ ap (λ l. after (dup 1) l) is in
      let g : Gives id_policy pk [] y = subst (λ s. Gives s pk [] y) s_is e.2 in
      g.1,
  λ is. (after (dup 1) 1, (1, one_in, refl, refl), (refl, is)),
)

right_after : (pk y : Packet) → SomeEndsAt right_policy (at_dups (2 ∷ 1 ∷ [])) pk y ↔ (y ≡ pk)
right_after pk y = (
  λ e.
      let m = e.1 in
      let is : m.0 ≡ 2 = same_from m.0 2 m.2 in
      let s_is : e.0 ≡ after (dup 2) 2 = m.3 ∙ ap (λ l. after (dup 2) l) is in
      let g : Gives id_policy pk [] y = subst (λ s. Gives s pk [] y) s_is e.2 in
      g.1,
  λ is. (after (dup 2) 2, (2, two_in, refl, refl), (refl, is)),
)

-- and records nothing more
none_following : (pk x : Packet) (l : ℕ) → RecordsNext left_policy right_policy (at_dups (2 ∷ 1 ∷ [])) pk x l → ⊥
none_following pk x l r =
    ⊎_elim
    (λ m.
    let s_is : r.0 ≡ after (dup 1) 1 = m.3 ∙ ap (λ k. after (dup 1) k) (same_from m.0 1 m.2) in
    let no_more : RecordsAt id_policy pk [] x l = subst (λ s. RecordsAt s pk [] x l) s_is r.2 in
    no_more)
    (λ m.
    let s_is : r.0 ≡ after (dup 2) 2 = m.3 ∙ ap (λ k. after (dup 2) k) (same_from m.0 2 m.2) in
    let no_more : RecordsAt id_policy pk [] x l = subst (λ s. RecordsAt s pk [] x l) s_is r.2 in
    no_more)
    r.1

-- neither policy ends at its start
start_finals : (fields : FieldTable) → MeetsFinals fields left_policy right_policy (record { row_position = at_start; predicate = id_policy })
start_finals fields pk ok here y = (
  λ e. absurd (not_silent 1 pk y (subst (λ s. Gives s pk [] y) e.1 e.2)),
  λ e. absurd (not_silent 2 pk y (subst (λ s. Gives s pk [] y) e.1 e.2)),
)

pub small_is_one : (fields : FieldTable) → IsCertificate fields left_policy right_policy small
small_is_one fields row i =
    row_cases (λ z. MeetsAll fields left_policy right_policy (certificate_rows small) z) small
    (record {
      position = tt;
      start = λ pk ok. (refl, refl);
      finals = start_finals fields;
      hop = λ pk x l ok here r.
          let n = start_next pk x l r in (
            both,
            id_policy,
            contains_from_in (certificate_rows small) (later_row both id_policy) (inr (inl refl)),
            λ k. (
              λ c.
                  next_start pk x k n.0
                  (⊎_elim (λ e. inr e) (λ j. ⊎_elim (λ e. inl e) (λ z. absurd z) j) (in_from_contains both k c)),
              λ m.
                  let w = start_next pk x k m in
                  ⊎_elim
                  (λ e. subst (λ z. Contains both z) (sym e) one_in)
                  (λ e. subst (λ z. Contains both z) (sym e) two_in)
                  w.1,
            ),
            (refl, refl),
          );
    })
    (λ r j.
    subst (λ z. MeetsAll fields left_policy right_policy (certificate_rows small) (later_row z.positions z.predicate))
    (sym (⊎_elim (λ e. e) (λ z. absurd z) (in_from_contains small.rows r j)))
    (record {
      position = λ l c.
          ⊎_elim
          (λ e. inr (same_test l 2 e))
          (λ k. ⊎_elim (λ e. inl (same_test l 1 e)) (λ z. absurd z) k)
          (in_from_contains both l c);
      start = tt;
      finals = λ pk ok here y. (λ e. (right_after pk y).1 ((left_following pk y).0 e), λ e. (left_following pk y).1 ((right_after pk y).0 e));
      hop = λ pk x l ok here n. absurd (none_following pk x l n);
    }))
    row i

pub short_fails : (fields : FieldTable) (pk : Packet) → IsPacket fields pk → FailsFirst fields left_policy right_policy (certificate_rows short) 1 hop_part
short_fails fields pk ok = record {
  before = [];
  row = record { row_position = at_start; predicate = id_policy };
  later = [];
  is = refl;
  number = refl;
  met = all_from_members (λ z. MeetsAll fields left_policy right_policy (certificate_rows short) z) [] (λ z i. absurd i);
  fails = (
    tt,
    λ x good. (refl, refl),
    start_finals fields,
    λ hop.
        let r = hop pk pk 1 ok (refl, refl) (next_start pk pk 1 refl (inl refl)) in
        ⊎_elim
        (λ e. let f : at_dups r.0 ≡ at_start = ap (λ (w : CertRow). w.row_position) e in cc)
        (λ z. z)
        (in_from_contains (certificate_rows short) (later_row r.0 r.1) r.2),
  );
}
