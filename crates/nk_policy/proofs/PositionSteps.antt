-- Sets of positions, set by set, for one policy and for two.
use Rattle.std.proofs.Common.{◌≡◌, ℕ, zero, suc, ◌+◌, Bool, true, false, inl, inr, ⊎_elim, List, [], ◌∷◌, ◌++◌, refl, sym, subst, ◌∙◌, append_assoc, append-nil}
use Rattle.std.specs.Prelude.{◌==◌, if◌then◌else◌, ◌↔◌, Contains}
use Rattle.nk_field.specs.declared.packet.Packet.{Packet}
use Rattle.nk_field.proofs.Lists.{in_from_contains, contains_from_in}
use Rattle.nk_field.proofs.Ascending.{rising_from, increasing_from, one_list}
use Rattle.nk_policy.specs.Policy.{Policy, Policies, assign, sum_of, seq_of, star_of, dup, link, no_part, part}
use Rattle.nk_policy.specs.Meaning.{Gives, way_of}
use Rattle.nk_policy.specs.Progress.{numbered, RecordsAt}
use Rattle.nk_policy.specs.After.{id_policy, drop_policy, has_dup, some_has_dup, after_dup, after, after_some, after_all}
use Rattle.nk_policy.specs.Labels.{HasRecorded, HasExactly}
use Rattle.nk_policy.specs.PositionSets.{at_position, IsPosition, last_from, IsOwn, IsRecordedNext, IsNextOfEither, IsPositionOfEither, StepsTo, IsNumbered, AreSides}
use Rattle.nk_policy.proofs.Splitting.{holds_dup}
use Rattle.nk_policy.proofs.LabelSteps.{at_first, at_next, gives_at}
use Rattle.nk_policy.proofs.Tests.{false_true, both_false}
use Rattle.nk_policy.proofs.ListParts.{last_of_list}

-- the last of records with a last one is that
last_from_is : (pk : Packet) (u : List Packet) (x : Packet) → last_from pk (u ++ x ∷ []) ≡ x
last_from_is pk [] x = refl
last_from_is pk (y ∷ u) x = last_from_is y u x

-- records with a last one are some
position_at : (p : Policy) (pk : Packet) (u : List Packet) (x : Packet) (l : ℕ)
    → IsPosition p pk (u ++ x ∷ []) l ≡ HasRecorded p pk (u ++ x ∷ []) l
position_at p pk [] x l = refl
position_at p pk (y ∷ u) x l = refl

-- two ways to say the same
swap : {A B : Type 0} → A ↔ B → B ↔ A
swap e = (e.1, e.0)

-- one after the other
chain : {A B C : Type 0} → A ↔ B → B ↔ C → A ↔ C
chain e f = (λ a. f.0 (e.0 a), λ c. e.1 (f.1 c))

-- at a dup's position what is left is the rest after the dup
at_dup_position : (p : Policy) → has_dup p 0 ≡ false → (l : ℕ) → has_dup p l ≡ true
    → at_position p l ≡ after p l
at_dup_position p none zero h = absurd (false_true (sym none ∙ h))
at_dup_position p none (suc l) h = refl

-- a position after a record is the number of one of the policy's dups
position_held : (p : Policy) (pk : Packet) (u : List Packet) (l : ℕ) → HasRecorded p pk u l
    → has_dup p l ≡ true
position_held p pk u l h = holds_dup p pk h.0 h.1 l h.3

module _ (p : Policy) (n : IsNumbered p) where
  -- what is left after a dup that a run has come to, as what is left at the position
  pub there : (pk : Packet) (u : List Packet) (l : ℕ) → HasRecorded p pk u l → at_position p l ≡ after p l
  there pk u l h = at_dup_position p n.from_one l (position_held p pk u l h)

  -- one more record after records with a last one
  after_more : (pk : Packet) (v : List Packet) (x y : Packet) (l' : ℕ)
      → IsPosition p pk ((v ++ x ∷ []) ++ y ∷ []) l' ↔ ((l : ℕ) × IsPosition p pk (v ++ x ∷ []) l × RecordsAt (at_position p l) x [] y l')
  after_more pk v x y l' = (
    λ h.
        let s = (at_next p n.distinct pk v x y l').0 (subst (λ (A : Type 0). A) (position_at p pk (v ++ x ∷ []) y l') h) in
        (s.0, subst (λ (A : Type 0). A) (sym (position_at p pk v x s.0)) s.1, subst (λ q. RecordsAt q x [] y l') (sym (there pk (v ++ x ∷ []) s.0 s.1)) s.2),
    λ h.
        let at = subst (λ (A : Type 0). A) (position_at p pk v x h.0) h.1 in
        let s = (at_next p n.distinct pk v x y l').1 (h.0, at, subst (λ q. RecordsAt q x [] y l') (there pk (v ++ x ∷ []) h.0 at) h.2) in
        subst (λ (A : Type 0). A) (sym (position_at p pk (v ++ x ∷ []) y l')) s,
  )

  -- the positions after one more record are those that the positions before record next
  pub one_more_record : (pk : Packet) (u : List Packet) (y : Packet) (l' : ℕ)
      → IsPosition p pk (u ++ y ∷ []) l' ↔ ((l : ℕ) × IsPosition p pk u l × RecordsAt (at_position p l) (last_from pk u) [] y l')
  one_more_record pk [] y l' =
      let first = at_first p n.distinct pk y l' in
      (λ h. (0, refl, first.0 h), λ h. first.1 (subst (λ l. RecordsAt (at_position p l) pk [] y l') h.1 h.2))
  one_more_record pk (a ∷ u) y l' =
      let s = last_of_list a u in
      let goal : List Packet → Packet → Type 0 =
      λ w x. IsPosition p pk (w ++ y ∷ []) l' ↔ ((l : ℕ) × IsPosition p pk w l × RecordsAt (at_position p l) x [] y l') in
      let here : goal (s.0 ++ s.1 ∷ []) (last_from pk (s.0 ++ s.1 ∷ [])) =
      subst (goal (s.0 ++ s.1 ∷ [])) (sym (last_from_is pk s.0 s.1)) (after_more pk s.0 s.1 y l') in
      subst (λ w. goal w (last_from pk w)) (sym s.2) here

  -- the end, from records with a last one
  ends_more : (pk : Packet) (v : List Packet) (x z : Packet)
      → Gives p pk (v ++ x ∷ []) z ↔ ((l : ℕ) × IsPosition p pk (v ++ x ∷ []) l × Gives (at_position p l) x [] z)
  ends_more pk v x z = (
    λ g.
        let s = (gives_at p n.distinct pk v x z).0 g in
        (s.0, subst (λ (A : Type 0). A) (sym (position_at p pk v x s.0)) s.1, subst (λ q. Gives q x [] z) (sym (there pk (v ++ x ∷ []) s.0 s.1)) s.2),
    λ h.
        let at = subst (λ (A : Type 0). A) (position_at p pk v x h.0) h.1 in
        (gives_at p n.distinct pk v x z).1 (h.0, at, subst (λ q. Gives q x [] z) (there pk (v ++ x ∷ []) h.0 at) h.2),
  )

  -- a history is a position and an end there without a record
  pub gives_from_position : (pk : Packet) (u : List Packet) (z : Packet)
      → Gives p pk u z ↔ ((l : ℕ) × IsPosition p pk u l × Gives (at_position p l) (last_from pk u) [] z)
  gives_from_position pk [] z = (λ g. (0, refl, g), λ h. subst (λ l. Gives (at_position p l) pk [] z) h.1 h.2)
  gives_from_position pk (a ∷ u) z =
      let s = last_of_list a u in
      let goal : List Packet → Packet → Type 0 =
      λ w x. Gives p pk w z ↔ ((l : ℕ) × IsPosition p pk w l × Gives (at_position p l) x [] z) in
      let here : goal (s.0 ++ s.1 ∷ []) (last_from pk (s.0 ++ s.1 ∷ [])) =
      subst (goal (s.0 ++ s.1 ∷ [])) (sym (last_from_is pk s.0 s.1)) (ends_more pk s.0 s.1 z) in
      subst (λ w. goal w (last_from pk w)) (sym s.2) here

-- an exact set of one fact is that of an equivalent one
exact_by : (P Q : ℕ → Type 0) (s : List ℕ) → ((l : ℕ) → P l ↔ Q l) → HasExactly P s → HasExactly Q s
exact_by P Q s e h = (h.0, λ l. chain (h.1 l) (e l))

-- there is one exact set
pub one_set : (P : ℕ → Type 0) (s t : List ℕ) → HasExactly P s → HasExactly P t → s ≡ t
one_set P s t a b =
    one_list
    s
    t
    (rising_from s a.0)
    (rising_from t b.0)
    (λ l i. in_from_contains t l ((b.1 l).1 ((a.1 l).0 (contains_from_in s l i))))
    (λ l i. in_from_contains s l ((a.1 l).1 ((b.1 l).0 (contains_from_in t l i))))

-- the set of position 0 alone
pub start_set : HasExactly (λ l. l ≡ 0) (0 ∷ [])
start_set = (
  increasing_from (0 ∷ []) ((λ y i. absurd i), tt),
  λ l. (
    λ c. ⊎_elim (λ e. e) (λ i. absurd i) (in_from_contains (0 ∷ []) l c),
    λ e. contains_from_in (0 ∷ []) l (inl e),
  ),
)

-- facts on records of which the set after one more record is got from the set before
module _ (P : List Packet → ℕ → Type 0) (pk : Packet) (Next : List ℕ → Packet → Packet → ℕ → Type 0)
    (step : (u : List Packet) (y : Packet) (s : List ℕ) → HasExactly (P u) s → (l' : ℕ) → P (u ++ y ∷ []) l' ↔ Next s (last_from pk u) y l')
  where
    -- the next set
    pub set_follows : (u : List Packet) (y : Packet) (s next : List ℕ) → HasExactly (P u) s
        → HasExactly (P (u ++ y ∷ [])) next ↔ HasExactly (Next s (last_from pk u) y) next
    set_follows u y s next h = (
      λ a. exact_by (P (u ++ y ∷ [])) (Next s (last_from pk u) y) next (step u y s h) a,
      λ a. exact_by (Next s (last_from pk u) y) (P (u ++ y ∷ [])) next (λ l. swap (step u y s h l)) a,
    )

    -- steps from a set of the records so far lead to the set of all
    steps_lead : (u v : List Packet) (s t : List ℕ) → HasExactly (P u) s
        → StepsTo Next s (last_from pk u) v t → HasExactly (P (u ++ v)) t
    steps_lead u [] s t h r =
        subst (λ w. HasExactly (P w) t) (sym (append-nil u)) (subst (λ z. HasExactly (P u) z) r h)
    steps_lead u (y ∷ v) s t h r =
        let more = (set_follows u y s r.0 h).1 r.1 in
        let rest = subst (λ x. StepsTo Next r.0 x v t) (sym (last_from_is pk u y)) r.2 in
        subst (λ w. HasExactly (P w) t) (append_assoc u (y ∷ []) v) (steps_lead (u ++ y ∷ []) v r.0 t more rest)

    -- so the set of records is the one to which the steps from the start lead
    pub set_by_steps : HasExactly (P []) (0 ∷ []) → (u : List Packet) (s t : List ℕ)
        → StepsTo Next (0 ∷ []) pk u t → HasExactly (P u) s ↔ (s ≡ t)
    set_by_steps first u s t r =
        let all = steps_lead [] u (0 ∷ []) t first r in
        (λ h. one_set (P u) s t h all, λ e. subst (λ z. HasExactly (P u) z) (sym e) all)

module _ (p : Policy) (n : IsNumbered p) (pk : Packet) where
  -- one policy's next set is that of what its members record next
  pub next_of_one : (u : List Packet) (y : Packet) (s : List ℕ) → HasExactly (IsPosition p pk u) s
      → (l' : ℕ) → IsPosition p pk (u ++ y ∷ []) l' ↔ IsRecordedNext p s (last_from pk u) y l'
  next_of_one u y s h l' =
      let e = one_more_record p n pk u y l' in (
        λ i. let a = e.0 i in (a.0, (h.1 a.0).1 a.1, a.2),
        λ a. e.1 (a.0, (h.1 a.0).0 a.1, a.2),
      )

  -- a history ends where a member of the set of its records ends without a record
  pub gives_from_member : (u : List Packet) (z : Packet) (s : List ℕ)
      → HasExactly (IsPosition p pk u) s
      → Gives p pk u z ↔ ((l : ℕ) × Contains s l × Gives (at_position p l) (last_from pk u) [] z)
  gives_from_member u z s h =
      let e = gives_from_position p n pk u z in (
        λ g. let a = e.0 g in (a.0, (h.1 a.0).1 a.1, a.2),
        λ a. e.1 (a.0, (h.1 a.0).0 a.1, a.2),
      )

-- a policy that records nothing and never ends
record Nothing (q : Policy) : Type 0 where
  no_way : (pk : Packet) (w : List (Packet × ℕ)) (y : Packet) → way_of q numbered pk w y → ⊥
  no_record : (pk : Packet) (u : List (Packet × ℕ)) (x : Packet) (l : ℕ) → RecordsAt q pk u x l → ⊥

-- the dropping policy
drop_nothing : Nothing drop_policy
drop_nothing = record { no_way = λ pk w y r. r; no_record = λ pk u x l r. r }

-- a choice whose test fails
choose_nothing : (c : Bool) (p q : Policy) → c ≡ false → Nothing q → Nothing (if c then p else q)
choose_nothing true p q h b = cc
choose_nothing false p q h b = b

-- a sequence whose first part is so
first_nothing : (p : Policy) (ps : Policies) → Nothing p → Nothing (seq_of (part p ps))
first_nothing p ps a = record {
  no_way = λ pk w y r. a.no_way pk r.0 r.2 r.4;
  no_record = λ pk u x l r. ⊎_elim (λ s. a.no_record pk u x l s) (λ s. a.no_way pk s.0 s.2 s.4) r;
}

mutual
  -- nothing is left after a dup that the policy hasn't
  nothing_left : (p : Policy) (k : ℕ) → has_dup p k ≡ false → Nothing (after p k)
  nothing_left (sum_of ps) k h = nothing_of_some ps k h
  nothing_left (seq_of ps) k h = nothing_of_all ps k h
  nothing_left (star_of p) k h = first_nothing (after p k) (part (star_of p) no_part) (nothing_left p k h)
  nothing_left (dup j) k h = choose_nothing (k == j) id_policy drop_policy h drop_nothing
  nothing_left (link a m b n j) k h =
      let b' = both_false (k == j) (k == (j + 1)) h in
      choose_nothing
      (k == j)
      (seq_of (part (after_dup j k) (part (assign 0 b) (part (assign 1 n) (part (dup (j + 1)) no_part)))))
      (if k == (j + 1) then seq_of (part (after_dup (j + 1) k) no_part) else drop_policy)
      b'.0
      (choose_nothing (k == (j + 1)) (seq_of (part (after_dup (j + 1) k) no_part)) drop_policy b'.1 drop_nothing)
  nothing_left p k h = drop_nothing

  -- of a sum
  nothing_of_some : (ps : Policies) (k : ℕ) → some_has_dup ps k ≡ false → Nothing (after_some ps k)
  nothing_of_some no_part k h = drop_nothing
  nothing_of_some (part p ps) k h =
      let b = both_false (has_dup p k) (some_has_dup ps k) h in
      choose_nothing (has_dup p k) (after p k) (after_some ps k) b.0 (nothing_of_some ps k b.1)

  -- of a sequence
  nothing_of_all : (ps : Policies) (k : ℕ) → some_has_dup ps k ≡ false → Nothing (after_all ps k)
  nothing_of_all no_part k h = drop_nothing
  nothing_of_all (part p ps) k h =
      let b = both_false (has_dup p k) (some_has_dup ps k) h in
      choose_nothing (has_dup p k) (seq_of (part (after p k) ps)) (after_all ps k) b.0 (nothing_of_all ps k b.1)

-- a position at which the policy records something is one of its own
own_by_record : (p : Policy) (l : ℕ) (pk : Packet) (u : List (Packet × ℕ)) (x : Packet) (l' : ℕ)
    → RecordsAt (at_position p l) pk u x l' → IsOwn p l
own_by_record p zero pk u x l' r = inl refl
own_by_record p (suc l) pk u x l' r = inr (held (has_dup p (suc l)) refl)
  where
    held : (c : Bool) → has_dup p (suc l) ≡ c → has_dup p (suc l) ≡ true
    held true e = e
    held false e = absurd ((nothing_left p (suc l) e).no_record pk u x l' r)

module _ (p q : Policy) (n : IsNumbered p) (m : IsNumbered q)
    (apart : (l : ℕ) → has_dup p l ≡ true → has_dup q l ≡ true → ⊥) (pk : Packet) where
  -- where the other policy is at one of this one's own positions, this one is there too
  own_of_other : (u : List Packet) (l : ℕ) → IsPosition q pk u l → IsOwn p l → IsPosition p pk u l
  own_of_other [] l at own = at
  own_of_other (y ∷ u) l at own =
      let held = position_held q pk (y ∷ u) l at in
      ⊎_elim
      (λ e. absurd (false_true (sym m.from_one ∙ subst (λ k. has_dup q k ≡ true) e held)))
      (λ h. absurd (apart l h held))
      own

  -- a position is one of the policy's own
  position_own : (u : List Packet) (l : ℕ) → IsPosition p pk u l → IsOwn p l
  position_own [] l at = inl at
  position_own (y ∷ u) l at = inr (position_held p pk (y ∷ u) l at)

  -- the members of the common set that are this policy's own are its positions
  pub own_members : (u : List Packet) (s : List ℕ) → HasExactly (IsPositionOfEither p q pk u) s
      → (l : ℕ) → (Contains s l × IsOwn p l) ↔ IsPosition p pk u l
  own_members u s h l = (
    λ c. ⊎_elim (λ a. a) (λ b. own_of_other u l b c.1) ((h.1 l).0 c.0),
    λ a. ((h.1 l).1 (inl a), position_own u l a),
  )

  -- what this policy's own members record next are its positions after one more record
  next_of_own : (u : List Packet) (y : Packet) (s : List ℕ)
      → HasExactly (IsPositionOfEither p q pk u) s → (l' : ℕ)
      → IsPosition p pk (u ++ y ∷ []) l' ↔ IsRecordedNext p s (last_from pk u) y l'
  next_of_own u y s h l' =
      let e = one_more_record p n pk u y l' in (
        λ i. let a = e.0 i in (a.0, (h.1 a.0).1 (inl a.1), a.2),
        λ a.
            let own = own_by_record p a.0 (last_from pk u) [] y l' a.2 in
            e.1 (a.0, (own_members u s h a.0).0 (a.1, own), a.2),
      )

  -- a history of this policy ends where one of its own members ends without a record
  pub gives_from_own : (u : List Packet) (z : Packet) (s : List ℕ)
      → HasExactly (IsPositionOfEither p q pk u) s
      → Gives p pk u z ↔ ((l : ℕ) × Contains s l × IsOwn p l × Gives (at_position p l) (last_from pk u) [] z)
  gives_from_own u z s h =
      let e = gives_from_position p n pk u z in (
        λ g. let a = e.0 g in let c = (own_members u s h a.0).1 a.1 in (a.0, c.0, c.1, a.2),
        λ a. e.1 (a.0, (own_members u s h a.0).0 (a.1, a.2), a.3),
      )

-- one of two, in the other order
other_way : (p q : Policy) (pk : Packet) (u : List Packet) (s : List ℕ)
    → HasExactly (IsPositionOfEither p q pk u) s → HasExactly (IsPositionOfEither q p pk u) s
other_way p q pk u s h =
    exact_by (IsPositionOfEither p q pk u) (IsPositionOfEither q p pk u) s (λ l. (λ a. ⊎_elim (λ i. inr i) (λ i. inl i) a, λ a. ⊎_elim (λ i. inr i) (λ i. inl i) a)) h

module _ (p q : Policy) (sides : AreSides p q) (pk : Packet) where
  -- the common next set is that of what its members record next, on either side
  pub next_of_two : (u : List Packet) (y : Packet) (s : List ℕ)
      → HasExactly (IsPositionOfEither p q pk u) s → (l' : ℕ)
      → IsPositionOfEither p q pk (u ++ y ∷ []) l' ↔ IsNextOfEither p q s (last_from pk u) y l'
  next_of_two u y s h l' =
      let a = next_of_own p q sides.left sides.right sides.apart pk u y s h l' in
      let b = next_of_own q p sides.right sides.left (λ l g k. sides.apart l k g) pk u y s (other_way p q pk u s h) l' in (
        λ i. ⊎_elim (λ j. inl (a.0 j)) (λ j. inr (b.0 j)) i,
        λ i. ⊎_elim (λ j. inl (a.1 j)) (λ j. inr (b.1 j)) i,
      )

  -- the common set before any record is position 0
  pub start_of_two : HasExactly (IsPositionOfEither p q pk []) (0 ∷ [])
  start_of_two =
      exact_by (λ l. l ≡ 0) (IsPositionOfEither p q pk []) (0 ∷ []) (λ l. (λ e. inl e, λ i. ⊎_elim (λ e. e) (λ e. e) i)) start_set

  -- the left side's members
  pub left_members : (u : List Packet) (s : List ℕ) → HasExactly (IsPositionOfEither p q pk u) s
      → (l : ℕ) → (Contains s l × IsOwn p l) ↔ IsPosition p pk u l
  left_members u s h l = own_members p q sides.left sides.right sides.apart pk u s h l

  -- the right side's members
  pub right_members : (u : List Packet) (s : List ℕ) → HasExactly (IsPositionOfEither p q pk u) s
      → (l : ℕ) → (Contains s l × IsOwn q l) ↔ IsPosition q pk u l
  right_members u s h l =
      own_members q p sides.right sides.left (λ k g i. sides.apart k i g) pk u s (other_way p q pk u s h) l

  -- the left side's histories
  pub left_gives : (u : List Packet) (z : Packet) (s : List ℕ)
      → HasExactly (IsPositionOfEither p q pk u) s
      → Gives p pk u z ↔ ((l : ℕ) × Contains s l × IsOwn p l × Gives (at_position p l) (last_from pk u) [] z)
  left_gives u z s h = gives_from_own p q sides.left sides.right sides.apart pk u z s h

  -- the right side's histories
  pub right_gives : (u : List Packet) (z : Packet) (s : List ℕ)
      → HasExactly (IsPositionOfEither p q pk u) s
      → Gives q pk u z ↔ ((l : ℕ) × Contains s l × IsOwn q l × Gives (at_position q l) (last_from pk u) [] z)
  right_gives u z s h =
      gives_from_own q p sides.right sides.left (λ k g i. sides.apart k i g) pk u z s (other_way p q pk u s h)
