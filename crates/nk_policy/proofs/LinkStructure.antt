-- Policies all of whose dups stand in link literals: runs record at the source of a link and then at its target, in turn.
use Rattle.std.proofs.Common.{◌≡◌, ℕ, zero, suc, ◌+◌, Bool, true, false, inl, inr, ⊎_elim, [], refl, sym, ap, subst, ◌∙◌, get_or-set_other}
use Rattle.std.specs.Prelude.{◌==◌, ◌||◌, if◌then◌else◌, slice_index, slice_set}
use Rattle.nk_field.specs.declared.packet.Packet.{Packet}
use Rattle.nk_policy.specs.Policy.{Policy, Policies, test, range, assign, sum_of, seq_of, not_of, star_of, dup, link, no_part, part}
use Rattle.nk_policy.specs.Meaning.{rounds, way_of}
use Rattle.nk_policy.specs.Progress.{Marked, numbered, RecordsAt}
use Rattle.nk_policy.specs.After.{id_policy, drop_policy, has_dup, some_has_dup, after, after_some, after_all}
use Rattle.nk_policy.specs.Distinct.{HasDistinct, AllDistinct}
use Rattle.nk_policy.specs.Leaves.{has_leaf, some_has_leaf, is_dup, is_switch_assignment}
use Rattle.nk_policy.specs.Literals.{Literal, HoldsLiteral, SomeHoldsLiteral, IsAtSource}
use Rattle.nk_policy.specs.Crossings.{IsBetween, IsOnLink, RecordsAtSources}
use Rattle.nk_policy.proofs.Tests.{false_true, or_left, or_right, both_false, same_number, next_number, other_from}
use Rattle.nk_policy.proofs.ListParts.{not_none, none_left, none_right}

-- a held literal's two dups are dups of the policy
mutual
  -- the first dup
  pub holds_first : (p : Policy) (k : Literal) → HoldsLiteral p k → has_dup p k.mark ≡ true
  holds_first (sum_of ps) k h = some_hold_first ps k h
  holds_first (seq_of ps) k h = some_hold_first ps k h
  holds_first (star_of p) k h = holds_first p k h
  holds_first (link a m b n l) k h =
      subst (λ j. (j == l) || (j == (l + 1)) ≡ true) (sym (ap (λ (i : Literal). i.mark) h)) (or_left (l == l) (l == (l + 1)) (same_number l))
  holds_first p k h = absurd h

  -- the first dup, among parts
  pub some_hold_first : (ps : Policies) (k : Literal) → SomeHoldsLiteral ps k
      → some_has_dup ps k.mark ≡ true
  some_hold_first no_part k h = absurd h
  some_hold_first (part p ps) k h =
      ⊎_elim
      (λ a. or_left (has_dup p k.mark) (some_has_dup ps k.mark) (holds_first p k a))
      (λ b. or_right (has_dup p k.mark) (some_has_dup ps k.mark) (some_hold_first ps k b))
      h

mutual
  -- the second dup
  pub holds_second : (p : Policy) (k : Literal) → HoldsLiteral p k → has_dup p (k.mark + 1) ≡ true
  holds_second (sum_of ps) k h = some_hold_second ps k h
  holds_second (seq_of ps) k h = some_hold_second ps k h
  holds_second (star_of p) k h = holds_second p k h
  holds_second (link a m b n l) k h =
      subst (λ j. ((j + 1) == l) || ((j + 1) == (l + 1)) ≡ true) (sym (ap (λ (i : Literal). i.mark) h)) (or_right ((l + 1) == l) ((l + 1) == (l + 1)) (same_number (l + 1)))
  holds_second p k h = absurd h

  -- the second dup, among parts
  pub some_hold_second : (ps : Policies) (k : Literal) → SomeHoldsLiteral ps k
      → some_has_dup ps (k.mark + 1) ≡ true
  some_hold_second no_part k h = absurd h
  some_hold_second (part p ps) k h =
      ⊎_elim
      (λ a. or_left (has_dup p (k.mark + 1)) (some_has_dup ps (k.mark + 1)) (holds_second p k a))
      (λ b. or_right (has_dup p (k.mark + 1)) (some_has_dup ps (k.mark + 1)) (some_hold_second ps k b))
      h

-- a way with no record, by an equation
silent_way : (p : Policy) (y z : Packet) (u : Marked) → u ≡ [] → way_of p numbered y u z
    → way_of p numbered y [] z
silent_way p y z u e r = subst (λ v. way_of p numbered y v z) e r

-- a link records first where it begins
link_start : (a m b n k : ℕ) (y x : Packet) (l : ℕ) → RecordsAt (link a m b n k) y [] x l
    → (slice_index y 0 ≡ a) × (slice_index y 1 ≡ m) × (x ≡ y) × (l ≡ k)
link_start a m b n k y x l r =
    ⊎_elim
    (λ s. absurd s)
    (λ s.
    ⊎_elim
    (λ t. absurd t)
    (λ t.
    ⊎_elim
    (λ v. (
      s.4.0,
      ap (λ q. slice_index q 1) (sym s.4.2) ∙ t.4.0,
      v.1 ∙ t.4.2 ∙ s.4.2,
      v.2,
    ))
    (λ v. absurd (not_none v.0 (t.2, k) (none_left v.0 v.1 (sym (none_right t.0 t.1 (sym (none_right s.0 s.1 s.3) ∙ t.3)) ∙ v.3)) v.4.0))
    t.5)
    s.5)
    r

-- and never ends without a record
link_silent : (a m b n k : ℕ) (y z : Packet) → way_of (link a m b n k) numbered y [] z → ⊥
link_silent a m b n k y z r =
    let s = r.5 in
    let t = s.5 in
    not_none t.0 (s.2, k) (none_left t.0 t.1 (sym (none_right s.0 s.1 (sym (none_right r.0 r.1 r.3) ∙ s.3)) ∙ t.3)) t.4.0

-- what is left of a literal after its first dup
on_parts : (a m b n k : ℕ)
    → IsOnLink record { from_switch = a; from_port = m; to_switch = b; to_port = n; mark = k } (seq_of (part id_policy (part (assign 0 b) (part (assign 1 n) (part (dup (k + 1)) no_part)))))
on_parts a m b n k = record {
  silent = λ y z r.
      let s = r.5 in
      let t = s.5 in
      let v = t.5 in
      let r1 = none_right r.0 r.1 r.3 in
      let s1 = none_right s.0 s.1 (sym r1 ∙ s.3) in
      let t1 = none_right t.0 t.1 (sym s1 ∙ t.3) in
      not_none v.0 (t.2, k + 1) (none_left v.0 v.1 (sym t1 ∙ v.3)) v.4.0;
  only = λ y x l r.
      ⊎_elim
      (λ s. absurd s)
      (λ s.
      ⊎_elim
      (λ t. absurd t)
      (λ t.
      ⊎_elim
      (λ v. absurd v)
      (λ v.
      ⊎_elim
      (λ w. (
        w.2,
        w.1 ∙ v.4.1 ∙ ap (λ q. slice_set q 1 n) (t.4.1 ∙ ap (λ q. slice_set q 0 b) s.4.1),
      ))
      (λ w. absurd w.5)
      v.5)
      t.5)
      s.5)
      r;
  there = λ y.
      inr ([], [], y, refl, (refl, refl), inr ([], [], slice_set y 0 b, refl, (refl, refl), inr ([], [], slice_set (slice_set y 0 b) 1 n, refl, (refl, refl), inl (refl, refl, refl))));
}

-- and the parts after it don't matter
on_link_first : (k : Literal) (p : Policy) (ps : Policies) → IsOnLink k p
    → IsOnLink k (seq_of (part p ps))
on_link_first k p ps b = record {
  silent = λ y z r. b.silent y r.2 (silent_way p y r.2 r.0 (none_left r.0 r.1 r.3) r.4);
  only = λ y x l r.
      ⊎_elim
      (λ s. b.only y x l s)
      (λ s. absurd (b.silent y s.2 (silent_way p y s.2 s.0 (none_left s.0 s.1 s.3) s.4)))
      r;
  there = λ y. inl (b.there y);
}

-- after the first dup of a literal a policy is on its link
mutual
  -- of a policy
  pub on_link : (p : Policy) → HasDistinct p → (k : Literal) → HoldsLiteral p k
      → IsOnLink k (after p k.mark)
  on_link (sum_of ps) d k h = some_on_link ps d k h
  on_link (seq_of ps) d k h = all_on_link ps d k h
  on_link (star_of p) d k h = on_link_first k (after p k.mark) (part (star_of p) no_part) (on_link p d k h)
  on_link (link a m b n l) d k h =
      subst
      (λ (i : Literal). IsOnLink i (after (link a m b n l) i.mark))
      (sym h)
      (subst
      (λ c. IsOnLink record { from_switch = a; from_port = m; to_switch = b; to_port = n; mark = l } (if c then seq_of (part (if c then id_policy else drop_policy) (part (assign 0 b) (part (assign 1 n) (part (dup (l + 1)) no_part)))) else (if l == (l + 1) then seq_of (part (if l == (l + 1) then id_policy else drop_policy) no_part) else drop_policy)))
      (sym (same_number l))
      (on_parts a m b n l))
  on_link p d k h = absurd h

  -- of a sum
  pub some_on_link : (ps : Policies) → AllDistinct ps → (k : Literal) → SomeHoldsLiteral ps k
      → IsOnLink k (after_some ps k.mark)
  some_on_link no_part d k h = absurd h
  some_on_link (part p ps) d k h =
      ⊎_elim
      (λ a. subst (λ c. IsOnLink k (if c then after p k.mark else after_some ps k.mark)) (sym (holds_first p k a)) (on_link p d.0 k a))
      (λ b. subst (λ c. IsOnLink k (if c then after p k.mark else after_some ps k.mark)) (sym (d.2 k.mark (some_hold_first ps k b))) (some_on_link ps d.1 k b))
      h

  -- of a sequence
  pub all_on_link : (ps : Policies) → AllDistinct ps → (k : Literal) → SomeHoldsLiteral ps k
      → IsOnLink k (after_all ps k.mark)
  all_on_link no_part d k h = absurd h
  all_on_link (part p ps) d k h =
      ⊎_elim
      (λ a. subst (λ c. IsOnLink k (if c then seq_of (part (after p k.mark) ps) else after_all ps k.mark)) (sym (holds_first p k a)) (on_link_first k (after p k.mark) ps (on_link p d.0 k a)))
      (λ b. subst (λ c. IsOnLink k (if c then seq_of (part (after p k.mark) ps) else after_all ps k.mark)) (sym (d.2 k.mark (some_hold_first ps k b))) (all_on_link ps d.1 k b))
      h

-- What records next does so at the source of one of these literals, by its first dup, at a packet near to the one where
-- it began; and what ends does so near to it.
record NearBetween (Near : Packet → Packet → Type 0) (Held : Literal → Type 0) (q : Policy) : Type 0 where
  records : (y x : Packet) (l : ℕ) → RecordsAt q y [] x l
      → (k : Literal) × Held k × IsAtSource k x × (k.mark ≡ l) × Near y x
  ends : (y z : Packet) → way_of q numbered y [] z → Near y z

-- any way to be near that each packet is to itself, that two steps keep, and so does each assignment outside links that
-- fails a test
module _ (Near : Packet → Packet → Type 0) (same : (y : Packet) → Near y y)
    (trans : (y x z : Packet) → Near y x → Near x z → Near y z) (is : Policy → Bool)
    (keeps : (f n : ℕ) (y : Packet) → is (assign f n) ≡ false → Near y (slice_set y f n)) where
  -- an equal packet is near
  equal : (y z : Packet) → z ≡ y → Near y z
  equal y z e = subst (Near y) (sym e) (same y)

  -- what holds between links for some literals does for more
  widen : (H H' : Literal → Type 0) (q : Policy) → ((k : Literal) → H k → H' k)
      → NearBetween Near H q → NearBetween Near H' q
  widen H H' q more b = record {
    records = λ y x l r. let s = b.records y x l r in (s.0, more s.0 s.1, s.2, s.3, s.4);
    ends = b.ends;
  }

  -- a sequence of two that are between links
  cons_between : (H : Literal → Type 0) (p : Policy) (ps : Policies) → NearBetween Near H p
      → NearBetween Near H (seq_of ps) → NearBetween Near H (seq_of (part p ps))
  cons_between H p ps b c = record {
    records = λ y x l r.
        ⊎_elim
        (λ s. b.records y x l s)
        (λ s.
        let here = b.ends y s.2 (silent_way p y s.2 s.0 (none_left s.0 s.1 s.3) s.4) in
        let t = c.records s.2 x l (subst (λ v. RecordsAt (seq_of ps) s.2 v x l) (none_right s.0 s.1 s.3) s.5) in
        (t.0, t.1, t.2, t.3, trans y s.2 x here t.4))
        r;
    ends = λ y z r.
        trans
        y
        r.2
        z
        (b.ends y r.2 (silent_way p y r.2 r.0 (none_left r.0 r.1 r.3) r.4))
        (c.ends r.2 z (silent_way (seq_of ps) r.2 z r.1 (none_right r.0 r.1 r.3) r.5));
  }

  -- the empty sequence is between links
  none_between : (H : Literal → Type 0) → NearBetween Near H (seq_of no_part)
  none_between H = record { records = λ y x l r. absurd r; ends = λ y z r. equal y z r.1 }

  -- the empty sum is
  drop_between : (H : Literal → Type 0) → NearBetween Near H (sum_of no_part)
  drop_between H = record { records = λ y x l r. absurd r; ends = λ y z r. absurd r }

  -- a sum of two is
  either_between : (H : Literal → Type 0) (p : Policy) (ps : Policies) → NearBetween Near H p
      → NearBetween Near H (sum_of ps) → NearBetween Near H (sum_of (part p ps))
  either_between H p ps b c = record {
    records = λ y x l r. ⊎_elim (λ s. b.records y x l s) (λ s. c.records y x l s) r;
    ends = λ y z r. ⊎_elim (λ s. b.ends y z s) (λ s. c.ends y z s) r;
  }

  -- silent rounds stay near
  rounds_end : (H : Literal → Type 0) (p : Policy) → NearBetween Near H p
      → (n : ℕ) (y z : Packet) (v : Marked) → v ≡ [] → rounds n (way_of p numbered) y v z → Near y z
  rounds_end H p b zero y z v e r = equal y z r.1
  rounds_end H p b (suc n) y z v e r =
      let f = sym e ∙ r.3 in
      trans
      y
      r.2
      z
      (b.ends y r.2 (silent_way p y r.2 r.0 (none_left r.0 r.1 f) r.4))
      (rounds_end H p b n r.2 z r.1 (none_right r.0 r.1 f) r.5)

  -- a star is
  star_between : (H : Literal → Type 0) (p : Policy) → NearBetween Near H p
      → NearBetween Near H (star_of p)
  star_between H p b = record {
    records = λ y x l r.
        ⊎_elim
        (λ s. absurd s)
        (λ s.
        let here = rounds_end H p b r.0 y s.2 s.0 (none_left s.0 s.1 s.3) s.4 in
        let t = b.records s.2 x l (subst (λ v. RecordsAt p s.2 v x l) (none_right s.0 s.1 s.3) s.5) in
        (t.0, t.1, t.2, t.3, trans y s.2 x here t.4))
        r.1;
    ends = λ y z r. rounds_end H p b r.0 y z [] refl r.1;
  }

  -- a link literal is
  link_between : (a m b n k : ℕ) → NearBetween Near (HoldsLiteral (link a m b n k)) (link a m b n k)
  link_between a m b n k = record {
    records = λ y x l r.
        let s = link_start a m b n k y x l r in (
          record { from_switch = a; from_port = m; to_switch = b; to_port = n; mark = k },
          refl,
          (ap (λ q. slice_index q 0) s.2 ∙ s.0, ap (λ q. slice_index q 1) s.2 ∙ s.1),
          sym s.3,
          equal y x s.2,
        );
    ends = λ y z r. absurd (link_silent a m b n k y z r);
  }

  -- the policy itself is between links
  mutual
    -- each policy without loose dups and switch assignments is
    near_between : (p : Policy) → has_leaf is_dup p ≡ false → has_leaf is p ≡ false
        → NearBetween Near (HoldsLiteral p) p
    near_between (test f n) d s = record { records = λ y x l r. absurd r; ends = λ y z r. equal y z r.2 }
    near_between (range f lo hi) d s = record { records = λ y x l r. absurd r; ends = λ y z r. equal y z r.3 }
    near_between (assign f n) d s = record {
      records = λ y x l r. absurd r;
      ends = λ y z r. subst (Near y) (sym r.1) (keeps f n y s);
    }
    near_between (sum_of ps) d s = some_near_between ps d s
    near_between (seq_of ps) d s = all_near_between ps d s
    near_between (not_of p) d s = record { records = λ y x l r. absurd r; ends = λ y z r. equal y z r.0.1 }
    near_between (star_of p) d s = star_between (HoldsLiteral p) p (near_between p d s)
    near_between (dup l) d s = absurd (false_true (sym d))
    near_between (link a m b n k) d s = link_between a m b n k

    -- as a sum
    some_near_between : (ps : Policies) → some_has_leaf is_dup ps ≡ false
        → some_has_leaf is ps ≡ false → NearBetween Near (SomeHoldsLiteral ps) (sum_of ps)
    some_near_between no_part d s = drop_between (SomeHoldsLiteral no_part)
    some_near_between (part p ps) d s =
        let d' = both_false (has_leaf is_dup p) (some_has_leaf is_dup ps) d in
        let s' = both_false (has_leaf is p) (some_has_leaf is ps) s in
        either_between
        (SomeHoldsLiteral (part p ps))
        p
        ps
        (widen (HoldsLiteral p) (SomeHoldsLiteral (part p ps)) p (λ k h. inl h) (near_between p d'.0 s'.0))
        (widen (SomeHoldsLiteral ps) (SomeHoldsLiteral (part p ps)) (sum_of ps) (λ k h. inr h) (some_near_between ps d'.1 s'.1))

    -- as a sequence
    all_near_between : (ps : Policies) → some_has_leaf is_dup ps ≡ false
        → some_has_leaf is ps ≡ false → NearBetween Near (SomeHoldsLiteral ps) (seq_of ps)
    all_near_between no_part d s = none_between (SomeHoldsLiteral no_part)
    all_near_between (part p ps) d s =
        let d' = both_false (has_leaf is_dup p) (some_has_leaf is_dup ps) d in
        let s' = both_false (has_leaf is p) (some_has_leaf is ps) s in
        cons_between
        (SomeHoldsLiteral (part p ps))
        p
        ps
        (widen (HoldsLiteral p) (SomeHoldsLiteral (part p ps)) p (λ k h. inl h) (near_between p d'.0 s'.0))
        (widen (SomeHoldsLiteral ps) (SomeHoldsLiteral (part p ps)) (seq_of ps) (λ k h. inr h) (all_near_between ps d'.1 s'.1))

  -- what is left of a literal after its second dup
  second_parts : (H : Literal → Type 0) (c : Bool)
      → NearBetween Near H (if c then seq_of (part (if c then id_policy else drop_policy) no_part) else drop_policy)
  second_parts H true = cons_between H id_policy no_part (none_between H) (none_between H)
  second_parts H false = drop_between H

  -- after the second dup of a literal a policy is between links
  mutual
    -- of a policy
    near_off_link : (p : Policy) → HasDistinct p → has_leaf is_dup p ≡ false → has_leaf is p ≡ false
        → (k : Literal) → HoldsLiteral p k
        → NearBetween Near (HoldsLiteral p) (after p (k.mark + 1))
    near_off_link (sum_of ps) i d s k h = some_near_off_link ps i d s k h
    near_off_link (seq_of ps) i d s k h = all_near_off_link ps i d s k h
    near_off_link (star_of p) i d s k h =
        cons_between
        (HoldsLiteral p)
        (after p (k.mark + 1))
        (part (star_of p) no_part)
        (near_off_link p i d s k h)
        (cons_between (HoldsLiteral p) (star_of p) no_part (star_between (HoldsLiteral p) p (near_between p d s)) (none_between (HoldsLiteral p)))
    near_off_link (link a m b n l) i d s k h =
        subst
        (λ (j : Literal). NearBetween Near (HoldsLiteral (link a m b n l)) (after (link a m b n l) (j.mark + 1)))
        (sym h)
        (subst
        (λ c. NearBetween Near (HoldsLiteral (link a m b n l)) (if c then seq_of (part (if c then id_policy else drop_policy) (part (assign 0 b) (part (assign 1 n) (part (dup (l + 1)) no_part)))) else (if (l + 1) == (l + 1) then seq_of (part (if (l + 1) == (l + 1) then id_policy else drop_policy) no_part) else drop_policy)))
        (sym (next_number l))
        (second_parts (HoldsLiteral (link a m b n l)) ((l + 1) == (l + 1))))
    near_off_link p i d s k h = absurd h

    -- of a sum
    some_near_off_link : (ps : Policies) → AllDistinct ps → some_has_leaf is_dup ps ≡ false
        → some_has_leaf is ps ≡ false → (k : Literal) → SomeHoldsLiteral ps k
        → NearBetween Near (SomeHoldsLiteral ps) (after_some ps (k.mark + 1))
    some_near_off_link no_part i d s k h = absurd h
    some_near_off_link (part p ps) i d s k h =
        let d' = both_false (has_leaf is_dup p) (some_has_leaf is_dup ps) d in
        let s' = both_false (has_leaf is p) (some_has_leaf is ps) s in
        ⊎_elim
        (λ a.
        subst
        (λ c. NearBetween Near (SomeHoldsLiteral (part p ps)) (if c then after p (k.mark + 1) else after_some ps (k.mark + 1)))
        (sym (holds_second p k a))
        (widen (HoldsLiteral p) (SomeHoldsLiteral (part p ps)) (after p (k.mark + 1)) (λ j e. inl e) (near_off_link p i.0 d'.0 s'.0 k a)))
        (λ b.
        subst
        (λ c. NearBetween Near (SomeHoldsLiteral (part p ps)) (if c then after p (k.mark + 1) else after_some ps (k.mark + 1)))
        (sym (i.2 (k.mark + 1) (some_hold_second ps k b)))
        (widen (SomeHoldsLiteral ps) (SomeHoldsLiteral (part p ps)) (after_some ps (k.mark + 1)) (λ j e. inr e) (some_near_off_link ps i.1 d'.1 s'.1 k b)))
        h

    -- of a sequence
    all_near_off_link : (ps : Policies) → AllDistinct ps → some_has_leaf is_dup ps ≡ false
        → some_has_leaf is ps ≡ false → (k : Literal) → SomeHoldsLiteral ps k
        → NearBetween Near (SomeHoldsLiteral ps) (after_all ps (k.mark + 1))
    all_near_off_link no_part i d s k h = absurd h
    all_near_off_link (part p ps) i d s k h =
        let d' = both_false (has_leaf is_dup p) (some_has_leaf is_dup ps) d in
        let s' = both_false (has_leaf is p) (some_has_leaf is ps) s in
        ⊎_elim
        (λ a.
        subst
        (λ c. NearBetween Near (SomeHoldsLiteral (part p ps)) (if c then seq_of (part (after p (k.mark + 1)) ps) else after_all ps (k.mark + 1)))
        (sym (holds_second p k a))
        (cons_between
        (SomeHoldsLiteral (part p ps))
        (after p (k.mark + 1))
        ps
        (widen (HoldsLiteral p) (SomeHoldsLiteral (part p ps)) (after p (k.mark + 1)) (λ j e. inl e) (near_off_link p i.0 d'.0 s'.0 k a))
        (widen (SomeHoldsLiteral ps) (SomeHoldsLiteral (part p ps)) (seq_of ps) (λ j e. inr e) (all_near_between ps d'.1 s'.1))))
        (λ b.
        subst
        (λ c. NearBetween Near (SomeHoldsLiteral (part p ps)) (if c then seq_of (part (after p (k.mark + 1)) ps) else after_all ps (k.mark + 1)))
        (sym (i.2 (k.mark + 1) (some_hold_second ps k b)))
        (widen (SomeHoldsLiteral ps) (SomeHoldsLiteral (part p ps)) (after_all ps (k.mark + 1)) (λ j e. inr e) (all_near_off_link ps i.1 d'.1 s'.1 k b)))
        h

-- at the same switch
abbrev AtSwitch : Packet → Packet → Type 0
AtSwitch y x = slice_index x 0 ≡ slice_index y 0

-- an assignment of another field than the switch keeps it
switch_kept : (f n : ℕ) (y : Packet) → is_switch_assignment (assign f n) ≡ false
    → AtSwitch y (slice_set y f n)
switch_kept f n y h = get_or-set_other y f 0 n 0 (λ e. other_from f 0 h (sym e))

-- near in the sense of the switch is between links
to_between : (H : Literal → Type 0) (q : Policy) → NearBetween AtSwitch H q → IsBetween H q
to_between H q b = record { records = b.records; ends = b.ends }

-- a policy without loose dups and switch assignments is between links
pub between : (p : Policy) → has_leaf is_dup p ≡ false → has_leaf is_switch_assignment p ≡ false
    → IsBetween (HoldsLiteral p) p
between p d s =
    to_between (HoldsLiteral p) p (near_between AtSwitch (λ y. refl) (λ y x z a b. b ∙ a) is_switch_assignment switch_kept p d s)

-- so is what is left of it after the second dup of a literal
pub off_link : (p : Policy) → HasDistinct p → has_leaf is_dup p ≡ false
    → has_leaf is_switch_assignment p ≡ false → (k : Literal) → HoldsLiteral p k
    → IsBetween (HoldsLiteral p) (after p (k.mark + 1))
off_link p i d s k h =
    to_between (HoldsLiteral p) (after p (k.mark + 1)) (near_off_link AtSwitch (λ y. refl) (λ y x z a b. b ∙ a) is_switch_assignment switch_kept p i d s k h)

-- no leaf passes the test that nothing passes
mutual
  -- of a policy
  none_passes : (p : Policy) → has_leaf (λ q. false) p ≡ false
  none_passes (sum_of ps) = none_of_parts ps
  none_passes (seq_of ps) = none_of_parts ps
  none_passes (not_of p) = none_passes p
  none_passes (star_of p) = none_passes p
  none_passes p = refl

  -- of its parts
  none_of_parts : (ps : Policies) → some_has_leaf (λ q. false) ps ≡ false
  none_of_parts no_part = refl
  none_of_parts (part p ps) = ap (λ c. c || some_has_leaf (λ q. false) ps) (none_passes p) ∙ none_of_parts ps

-- any two packets
abbrev Anywhere : Packet → Packet → Type 0
Anywhere y x = Unit {0}

-- near in no sense records at sources alone
to_at_sources : (H : Literal → Type 0) (q : Policy) → NearBetween Anywhere H q → RecordsAtSources H q
to_at_sources H q b = record { at_source = λ y x l r. let s = b.records y x l r in (s.0, s.1, s.2, s.3) }

-- a policy without loose dups records first at the source of a link
pub at_sources : (p : Policy) → has_leaf is_dup p ≡ false → RecordsAtSources (HoldsLiteral p) p
at_sources p d =
    to_at_sources (HoldsLiteral p) p (near_between Anywhere (λ y. tt) (λ y x z a b. tt) (λ q. false) (λ f n y h. tt) p d (none_passes p))

-- and so does what is left of it after the second dup of a literal
pub off_link_at_sources : (p : Policy) → HasDistinct p → has_leaf is_dup p ≡ false → (k : Literal)
    → HoldsLiteral p k → RecordsAtSources (HoldsLiteral p) (after p (k.mark + 1))
off_link_at_sources p i d k h =
    to_at_sources (HoldsLiteral p) (after p (k.mark + 1)) (near_off_link Anywhere (λ y. tt) (λ y x z a b. tt) (λ q. false) (λ f n y e. tt) p i d (none_passes p) k h)
