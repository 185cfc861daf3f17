-- Where all dups stand in link literals, odd lists of records end at first dups and even ones at second dups, and each
-- history has an even number of records.
use Rattle.std.proofs.Common.{◌≡◌, ℕ, zero, suc, ◌+◌, ◌*◌, ◌<◌, true, false, ⊎_elim, List, [], ◌∷◌, ◌++◌, length, refl, sym, ap, subst, ◌∙◌, arith, length-append}
use Rattle.std.specs.Prelude.{◌==◌, map}
use Rattle.nk_field.specs.declared.packet.Packet.{Packet}
use Rattle.nk_policy.specs.Policy.{Policy, Policies, test, range, assign, sum_of, seq_of, not_of, star_of, dup, link, no_part, part}
use Rattle.nk_policy.specs.Meaning.{Gives, Runs}
use Rattle.nk_policy.specs.Progress.{Marked, RecordsAt}
use Rattle.nk_policy.specs.After.{has_dup, some_has_dup, after}
use Rattle.nk_policy.specs.Distinct.{HasDistinct}
use Rattle.nk_policy.specs.Labels.{HasRecorded}
use Rattle.nk_policy.specs.Leaves.{has_leaf, is_dup}
use Rattle.nk_policy.specs.Literals.{Literal, HoldsLiteral, IsAtSource}
use Rattle.nk_policy.proofs.LabelSteps.{packet_of, at_first, at_next, gives_from, rest_gives_from, gives_is_runs}
use Rattle.nk_policy.proofs.LinkStructure.{at_sources, on_link, off_link_at_sources}
use Rattle.nk_policy.proofs.Tests.{false_true, or_cases, same_from}
use Rattle.nk_policy.proofs.ListParts.{last_of_list}

-- a number above all dups of the policy
abbrev mutual
  -- of one policy
  pub bound_of : Policy → ℕ
  bound_of (test f n) = 0
  bound_of (range f lo hi) = 0
  bound_of (assign f n) = 0
  bound_of (sum_of ps) = bound_of_all ps
  bound_of (seq_of ps) = bound_of_all ps
  bound_of (not_of p) = bound_of p
  bound_of (star_of p) = bound_of p
  bound_of (dup l) = l + 1
  bound_of (link a m b n l) = l + 2

  -- of its parts
  pub bound_of_all : Policies → ℕ
  bound_of_all no_part = 0
  bound_of_all (part p ps) = bound_of p + bound_of_all ps

mutual
  -- each dup is below it
  pub dups_below : (p : Policy) (l : ℕ) → has_dup p l ≡ true → l < bound_of p
  dups_below (sum_of ps) l h = all_dups_below ps l h
  dups_below (seq_of ps) l h = all_dups_below ps l h
  dups_below (not_of p) l h = dups_below p l h
  dups_below (star_of p) l h = dups_below p l h
  dups_below (dup k) l h = let e = same_from l k h in omega (arith, e)
  dups_below (link a m b n k) l h =
      ⊎_elim
      (λ s. let e = same_from l k s in omega (arith, e))
      (λ s. let e = same_from l (k + 1) s in omega (arith, e))
      (or_cases (l == k) (l == (k + 1)) h)
  dups_below p l h = absurd (false_true h)

  -- each dup of the parts is
  pub all_dups_below : (ps : Policies) (l : ℕ) → some_has_dup ps l ≡ true → l < bound_of_all ps
  all_dups_below no_part l h = absurd (false_true h)
  all_dups_below (part p ps) l h =
      ⊎_elim
      (λ s. let b = dups_below p l s in omega (arith, b))
      (λ s. let b = all_dups_below ps l s in omega (arith, b))
      (or_cases (has_dup p l) (some_has_dup ps l) h)

-- a run whose packets are none has no record
pub no_records : (v : Marked) → map packet_of v ≡ [] → v ≡ []
no_records [] e = refl
no_records (r ∷ v) e = cc

module _ (p : Policy) (i : HasDistinct p) (d : has_leaf is_dup p ≡ false) where
  -- what an odd list of so many records says of where a run is
  abbrev OddAt : ℕ → Type 0
  OddAt n =
      (pk : Packet) (u : List Packet) (l : ℕ) → length u ≡ 2 * n + 1 → HasRecorded p pk u l
      → (k : Literal) × HoldsLiteral p k × (k.mark ≡ l) × ((front : List Packet) × (x : Packet) × (u ≡ front ++ x ∷ []) × IsAtSource k x)

  -- and what an even list says then
  even_from : (n : ℕ) → OddAt n → (pk : Packet) (u : List Packet) (l : ℕ) → length u ≡ 2 * n + 2
      → HasRecorded p pk u l → (k : Literal) × HoldsLiteral p k × (k.mark + 1 ≡ l)
  even_from n odds pk [] l e at = absurd (omega (arith, e))
  even_from n odds pk (a ∷ []) l e at = absurd (omega (arith, e))
  even_from n odds pk (a ∷ b ∷ u) l e at =
      let c = last_of_list b u in
      let f = last_of_list a c.0 in
      let whole : a ∷ b ∷ u ≡ (f.0 ++ f.1 ∷ []) ++ c.1 ∷ [] = ap (λ z. a ∷ z) c.2 ∙ ap (λ z. z ++ c.1 ∷ []) f.2 in
      let g = (at_next p i pk f.0 f.1 c.1 l).0 (subst (λ z. HasRecorded p pk z l) whole at) in
      let size : length (f.0 ++ f.1 ∷ []) ≡ 2 * n + 1 = omega (arith, e, ap length whole, length-append (f.0 ++ f.1 ∷ []) (c.1 ∷ [])) in
      let odd = odds pk (f.0 ++ f.1 ∷ []) g.0 size g.1 in
      let t = (on_link p i odd.0 odd.1).only f.1 c.1 l (subst (λ q. RecordsAt (after p q) f.1 [] c.1 l) (sym odd.2) g.2) in
      (odd.0, odd.1, sym t.0)

  -- so it is for each odd list
  pub odd_at : (n : ℕ) → OddAt n
  odd_at n pk [] l e at = absurd (omega (arith, e))
  odd_at zero pk (a ∷ []) l e at =
      let r = (at_sources p d).at_source pk a l ((at_first p i pk a l).0 at) in
      (r.0, r.1, r.3, ([], a, refl, r.2))
  odd_at (suc n) pk (a ∷ []) l e at = absurd (omega (arith, e))
  odd_at zero pk (a ∷ b ∷ u) l e at = absurd (omega (arith, e))
  odd_at (suc n) pk (a ∷ b ∷ u) l e at =
      let c = last_of_list b u in
      let f = last_of_list a c.0 in
      let whole : a ∷ b ∷ u ≡ (f.0 ++ f.1 ∷ []) ++ c.1 ∷ [] = ap (λ z. a ∷ z) c.2 ∙ ap (λ z. z ++ c.1 ∷ []) f.2 in
      let g = (at_next p i pk f.0 f.1 c.1 l).0 (subst (λ z. HasRecorded p pk z l) whole at) in
      let size : length (f.0 ++ f.1 ∷ []) ≡ 2 * n + 2 = omega (arith, e, ap length whole, length-append (f.0 ++ f.1 ∷ []) (c.1 ∷ [])) in
      let even = even_from n (odd_at n) pk (f.0 ++ f.1 ∷ []) g.0 size g.1 in
      let t = (off_link_at_sources p i d even.0 even.1).at_source f.1 c.1 l (subst (λ q. RecordsAt (after p q) f.1 [] c.1 l) (sym even.2) g.2) in
      (t.0, t.1, t.3, (f.0 ++ f.1 ∷ [], c.1, whole, t.2))

  -- and for each even list
  pub even_at : (n : ℕ) (pk : Packet) (u : List Packet) (l : ℕ) → length u ≡ 2 * n + 2
      → HasRecorded p pk u l → (k : Literal) × HoldsLiteral p k × (k.mark + 1 ≡ l)
  even_at n = even_from n (odd_at n)

  -- a history after an even list of records has an even number of them
  rest_even : (w : List Packet) (k : Literal) → HoldsLiteral p k → (x z : Packet)
      → Gives (after p (k.mark + 1)) x w z → (n : ℕ) × (length w ≡ 2 * n)
  rest_even [] k h x z g = (0, refl)
  rest_even (y ∷ []) k h x z g =
      let f = (rest_gives_from p i (k.mark + 1) x y [] z).0 g in
      let t = (off_link_at_sources p i d k h).at_source x y f.0 f.1 in
      let r = (gives_is_runs (after p t.0.mark) y [] z).0 (subst (λ q. Gives (after p q) y [] z) (sym t.3) f.2) in
      absurd ((on_link p i t.0 t.1).silent y z (subst (λ v. Runs (after p t.0.mark) y v z) (no_records r.0 r.1) r.2))
  rest_even (y ∷ y' ∷ w) k h x z g =
      let f = (rest_gives_from p i (k.mark + 1) x y (y' ∷ w) z).0 g in
      let t = (off_link_at_sources p i d k h).at_source x y f.0 f.1 in
      let f' = (rest_gives_from p i t.0.mark y y' w z).0 (subst (λ q. Gives (after p q) y (y' ∷ w) z) (sym t.3) f.2) in
      let o = (on_link p i t.0 t.1).only y y' f'.0 f'.1 in
      let r = rest_even w t.0 t.1 y' z (subst (λ q. Gives (after p q) y' w z) o.0 f'.2) in
      (suc r.0, omega (arith, r.1))

  -- and so has each history
  pub histories_even : (pk : Packet) (w : List Packet) (z : Packet) → Gives p pk w z
      → (n : ℕ) × (length w ≡ 2 * n)
  histories_even pk [] z g = (0, refl)
  histories_even pk (y ∷ []) z g =
      let f = (gives_from p i pk y [] z).0 g in
      let t = (at_sources p d).at_source pk y f.0 f.1 in
      let r = (gives_is_runs (after p t.0.mark) y [] z).0 (subst (λ q. Gives (after p q) y [] z) (sym t.3) f.2) in
      absurd ((on_link p i t.0 t.1).silent y z (subst (λ v. Runs (after p t.0.mark) y v z) (no_records r.0 r.1) r.2))
  histories_even pk (y ∷ y' ∷ w) z g =
      let f = (gives_from p i pk y (y' ∷ w) z).0 g in
      let t = (at_sources p d).at_source pk y f.0 f.1 in
      let f' = (rest_gives_from p i t.0.mark y y' w z).0 (subst (λ q. Gives (after p q) y (y' ∷ w) z) (sym t.3) f.2) in
      let o = (on_link p i t.0 t.1).only y y' f'.0 f'.1 in
      let r = rest_even w t.0 t.1 y' z (subst (λ q. Gives (after p q) y' w z) o.0 f'.2) in
      (suc r.0, omega (arith, r.1))
