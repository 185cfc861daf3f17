-- One step of levels over an automaton is one more record of runs.
use Rattle.std.proofs.Common.{◌≡◌, ℕ, zero, suc, ◌+◌, ◌-◌, ◌<◌, ◌≤◌, Bool, true, false, inl, inr, ⊎_elim, List, [], ◌∷◌, ◌++◌, length, length-append, refl, sym, ap, subst, ◌∙◌, arith}
use Rattle.std.specs.Prelude.{◌↔◌, Contains, slice_index}
use Rattle.nk_field.specs.declared.packet.Packet.{Packet}
use Rattle.nk_field.proofs.Lists.{in_from_contains, contains_from_in, Decided}
use Rattle.nk_policy.specs.Policy.{Policy, dups_of}
use Rattle.nk_policy.specs.Progress.{RecordsAt}
use Rattle.nk_policy.specs.After.{has_dup, after}
use Rattle.nk_policy.specs.Distinct.{HasDistinct}
use Rattle.nk_policy.specs.Labels.{HasRecorded, HasExactly, IsLabelSet}
use Rattle.nk_policy.proofs.LabelSteps.{at_first, at_next, sets_follow}
use Rattle.nk_policy.proofs.ListParts.{last_of_list}
use Rattle.nk_policy.proofs.Tests.{false_true}
use Rattle.nk_store.specs.StoreState.{StoreState, IsStorePacket, AreTidy}
use Rattle.nk_determ.specs.Exact.{Sends}
use Rattle.nk_determ.specs.States.{StateLeads}
use Rattle.nk_determ.specs.Automaton.{IsState, IsAutomaton}
use Rattle.nk_determ.proofs.Sending.{sent_in_range}
use Rattle.nk_determ.specs.Pairs.{IsStep}
use Rattle.nk_runs.proofs.Numbers.{dup_within, record_dup, rest_record_dup, at_dup}
use Rattle.nk_runs.proofs.Listings.{all_listed, some_decided, sends_decided}

-- a list that isn't empty has a member
pub some_member : (s : List ℕ) → (s ≡ [] → ⊥) → (l : ℕ) × Contains s l
some_member [] some = absurd (some refl)
some_member (l ∷ s) some = let lt : 0 < length (l ∷ s) = omega arith in (l, (0, lt, refl))

-- the empty list has none
pub no_member : (s : List ℕ) (l : ℕ) → s ≡ [] → Contains s l → ⊥
no_member s l e c = in_from_contains [] l (subst (λ z. Contains z l) e c)

-- the only member of a list of one
pub only_member : (l k : ℕ) → Contains (k ∷ []) l → l ≡ k
only_member l k c = ⊎_elim (λ e. e) (λ i. absurd i) (in_from_contains (k ∷ []) l c)

-- all labels after some records, and that the last packet is in range where there are any
pub record Known (st : StoreState) (p : Policy) (pk : Packet) (u : List Packet) (x : Packet) : Type 0 where
  pub set : List ℕ
  pub exactly : HasExactly (HasRecorded p pk (u ++ x ∷ [])) set
  pub range : (l : ℕ) → HasRecorded p pk (u ++ x ∷ []) l → IsStorePacket st x

-- what is decided of one is decided of the other
decided_by : {P Q : Type 0} → P ↔ Q → Decided P → Decided Q
decided_by e k = ⊎_elim (λ h. inl (e.0 h)) (λ no. inr (λ h. no (e.1 h))) k

module _ (st : StoreState) (states : List ℕ) (p : Policy) (a : IsAutomaton st states 1 p) (d : HasDistinct p) (tidy : AreTidy st) where
  -- the state of a dup
  pub state_of_dup : (l : ℕ) → has_dup p l ≡ true → IsState st (slice_index states l) (after p l)
  state_of_dup l h =
      let b = dup_within p a.labels l h in
      let lt : l - 1 < dups_of p = omega (arith, b.0, b.1) in
      let e : 1 + (l - 1) ≡ l = omega (arith, b.0) in
      subst (λ k. IsState st (slice_index states k) (after p k)) e (a.rest (l - 1) lt)

  -- a dup has a label above 0
  above : (l : ℕ) → has_dup p l ≡ true → 1 ≤ l
  above l h = (dup_within p a.labels l h).0

  -- a step to the labels that R holds of
  step_is : (s : List ℕ) (x y : Packet) (t : List ℕ) (R : ℕ → Type 0)
      → ((l : ℕ) → ((0 < l) × StateLeads st states s x y l) ↔ R l) → ((l : ℕ) → R l → IsStorePacket st y)
      → IsStep st states (s, x) (t, y) ↔ ((t ≡ [] → ⊥) × HasExactly R t)
  step_is s x y t R both range = (
    λ h. (h.some, (h.ascend, λ l. (λ c. (both l).0 ((h.every l).0 c), λ r. (h.every l).1 ((both l).1 r)))),
    λ h. record {
      packet = let m = some_member t h.0 in range m.0 ((h.1.1 m.0).0 m.1);
      some = h.0;
      ascend = h.1.0;
      every = λ l. (λ c. (both l).1 ((h.1.1 l).0 c), λ r. (h.1.1 l).1 ((both l).0 r));
    },
  )

  -- what the start records
  pub start_leads : (pk y : Packet) → IsStorePacket st pk → (l : ℕ)
      → ((0 < l) × StateLeads st states (0 ∷ []) pk y l) ↔ RecordsAt p pk [] y l
  start_leads pk y r l = (
    λ h.
        let lead = h.1 in
        let e = only_member lead.0 0 lead.1 in
        (a.start.records pk y l r h.0).0 (subst (λ k. Sends st (slice_index states k) pk y l) e lead.2),
    λ h.
        let lt : 1 ≤ l = above l (record_dup p pk [] y l h) in
        let place : 0 < 1 = omega arith in
        (lt, (0, (0, place, refl), (a.start.records pk y l r lt).1 h)),
  )

  -- what the members of a set of dups record
  pub members_lead : (s : List ℕ) (x y : Packet) → ((l : ℕ) → Contains s l → has_dup p l ≡ true) → IsStorePacket st x → (l' : ℕ)
      → ((0 < l') × StateLeads st states s x y l') ↔ ((l : ℕ) × Contains s l × RecordsAt (after p l) x [] y l')
  members_lead s x y dups r l' = (
    λ h.
        let lead = h.1 in
        (lead.0, lead.1, ((state_of_dup lead.0 (dups lead.0 lead.1)).records x y l' r h.0).0 lead.2),
    λ h.
        let lt : 1 ≤ l' = above l' (rest_record_dup p h.0 x y l' h.2) in
        (lt, (h.0, h.1, ((state_of_dup h.0 (dups h.0 h.1)).records x y l' r lt).1 h.2)),
  )

  -- a packet that is led to is in range
  pub led_in_range : (s : List ℕ) (x y : Packet) (l : ℕ) → IsStorePacket st x → StateLeads st states s x y l → IsStorePacket st y
  led_in_range s x y l r h = sent_in_range st (slice_index states h.0) x y l tidy r h.2

  -- the first step
  pub begins : (pk y : Packet) (t : List ℕ) → IsStorePacket st pk
      → IsStep st states (0 ∷ [], pk) (t, y) ↔ IsLabelSet p pk (y ∷ []) t
  begins pk y t r =
      let i = step_is (0 ∷ []) pk y t (λ l. RecordsAt p pk [] y l) (start_leads pk y r)
      (λ l h. led_in_range (0 ∷ []) pk y l r ((start_leads pk y r l).1 h).1) in (
        λ h. let e = i.0 h in (e.0, (e.1.0, λ l. (λ c. (at_first p d pk y l).1 ((e.1.1 l).0 c), λ q. (e.1.1 l).1 ((at_first p d pk y l).0 q)))),
        λ h. i.1 (h.0, (h.1.0, λ l. (λ c. (at_first p d pk y l).0 ((h.1.1 l).0 c), λ q. (h.1.1 l).1 ((at_first p d pk y l).1 q)))),
      )

  -- the members of a label set are dups
  pub members_are_dups : (pk : Packet) (u : List Packet) (s : List ℕ) → HasExactly (HasRecorded p pk u) s
      → (l : ℕ) → Contains s l → has_dup p l ≡ true
  members_are_dups pk u s h l c = at_dup p pk u l ((h.1 l).0 c)

  -- each further step
  pub follows : (pk : Packet) (u : List Packet) (x y : Packet) (s t : List ℕ) → IsStorePacket st x
      → HasExactly (HasRecorded p pk (u ++ x ∷ [])) s
      → IsStep st states (s, x) (t, y) ↔ IsLabelSet p pk ((u ++ x ∷ []) ++ y ∷ []) t
  follows pk u x y s t r h =
      let dups = members_are_dups pk (u ++ x ∷ []) s h in
      let lead = members_lead s x y dups r in
      let i = step_is s x y t (λ l'. (l : ℕ) × Contains s l × RecordsAt (after p l) x [] y l') lead
      (λ l q. led_in_range s x y l r ((lead l).1 q).1) in
      let f = sets_follow p d pk u x y s t h in
      (λ k. let e = i.0 k in (e.0, f.1 e.1), λ k. i.1 (k.0, f.0 k.1))

  -- from deciding each label
  from_decided : (pk : Packet) (u : List Packet) (x : Packet) → ((l : ℕ) → Decided (HasRecorded p pk (u ++ x ∷ []) l))
      → ((l : ℕ) → HasRecorded p pk (u ++ x ∷ []) l → IsStorePacket st x) → Known st p pk u x
  from_decided pk u x decided range =
      let all = all_listed (λ l. HasRecorded p pk (u ++ x ∷ []) l) decided (1 + dups_of p)
      (λ l h. let b = dup_within p a.labels l (at_dup p pk (u ++ x ∷ []) l h) in omega (arith, b.1)) in
      record { set = all.0; exactly = all.1; range = range }

  -- whether a state records the packet at a label
  state_decided : (q : Policy) (i : ℕ) (pk y : Packet) (l : ℕ) → IsState st (slice_index states i) q → IsStorePacket st pk
      → (RecordsAt q pk [] y l → 1 ≤ l) → Decided (RecordsAt q pk [] y l)
  state_decided q i pk y zero s r low = inr (λ h. let le = low h in omega (arith, le))
  state_decided q i pk y (suc l) s r low =
      let le : 1 ≤ suc l = omega arith in
      decided_by (s.records pk y (suc l) r le) (sends_decided st (slice_index states i) pk y (suc l))

  first_known : (pk y : Packet) → IsStorePacket st pk → Known st p pk [] y
  first_known pk y r = from_decided pk [] y
      (λ l. let e = at_first p d pk y l in
      decided_by (e.1, e.0) (state_decided p 0 pk y l a.start r (λ h. above l (record_dup p pk [] y l h))))
      (λ l h. led_in_range (0 ∷ []) pk y l r ((start_leads pk y r l).1 ((at_first p d pk y l).0 h)).1)

  next_known : (pk : Packet) (u : List Packet) (x y : Packet) → Known st p pk u x → Known st p pk (u ++ x ∷ []) y
  next_known pk u x y k = from_decided pk (u ++ x ∷ []) y (λ l. decided l) range
    where
      dups : (l : ℕ) → Contains k.set l → has_dup p l ≡ true
      dups = members_are_dups pk (u ++ x ∷ []) k.set k.exactly

      range : (l : ℕ) → HasRecorded p pk ((u ++ x ∷ []) ++ y ∷ []) l → IsStorePacket st y
      range l h =
          let b = (at_next p d pk u x y l).0 h in
          let r = k.range b.0 b.1 in
          led_in_range k.set x y l r ((members_lead k.set x y dups r l).1 (b.0, (k.exactly.1 b.0).1 b.1, b.2)).1

      -- whether a dup records the packet at the label, from a packet in range
      by_dup : IsStorePacket st x → (l' l : ℕ) (b : Bool) → has_dup p l ≡ b
          → Decided ((has_dup p l ≡ true) × RecordsAt (after p l) x [] y l')
      by_dup r l' l true e =
          decided_by ((λ q. (e, q)), (λ q. q.1))
          (state_decided (after p l) l x y l' (state_of_dup l e) r (λ h. above l' (rest_record_dup p l x y l' h)))
      by_dup r l' l false e = inr (λ q. false_true (sym e ∙ q.0))

      -- whether some member does
      by_set : (l' : ℕ) (s : List ℕ) → k.set ≡ s → Decided (HasRecorded p pk ((u ++ x ∷ []) ++ y ∷ []) l')
      by_set l' [] e =
          inr (λ h. let b = (at_next p d pk u x y l').0 h in no_member k.set b.0 e ((k.exactly.1 b.0).1 b.1))
      by_set l' (m ∷ s) e =
          let place : 0 < length (m ∷ s) = omega arith in
          let one : Contains k.set m = subst (λ z. Contains z m) (sym e) (0, place, refl) in
          let r : IsStorePacket st x = k.range m ((k.exactly.1 m).0 one) in
          decided_by (
            (λ h. (at_next p d pk u x y l').1 (h.0, (k.exactly.1 h.0).0 (contains_from_in k.set h.0 h.1), h.2.1)),
            (λ h.
                let b = (at_next p d pk u x y l').0 h in
                let c = (k.exactly.1 b.0).1 b.1 in
                (b.0, in_from_contains k.set b.0 c, (dups b.0 c, b.2))),
          )
          (some_decided (λ l. (has_dup p l ≡ true) × RecordsAt (after p l) x [] y l') (λ l. by_dup r l' l (has_dup p l) refl) k.set)

      decided : (l : ℕ) → Decided (HasRecorded p pk ((u ++ x ∷ []) ++ y ∷ []) l)
      decided l = by_set l k.set refl

  -- all labels after any records from a packet in range
  pub known : (n : ℕ) (pk : Packet) (u : List Packet) (x : Packet) → length u ≡ n → IsStorePacket st pk → Known st p pk u x
  known zero pk [] x e r = first_known pk x r
  known zero pk (b ∷ u) x e r = absurd (omega (arith, e))
  known (suc n) pk [] x e r = absurd (omega (arith, e))
  known (suc n) pk (b ∷ u) x e r =
      let c = last_of_list b u in
      let many : length c.0 ≡ n = omega (arith, e, ap length c.2, length-append c.0 (c.1 ∷ [])) in
      subst (λ z. Known st p pk z x) (sym c.2) (next_known pk c.0 c.1 x (known n pk c.0 c.1 many r))
