-- Walks along an automaton's set states are runs, and what a policy gives are the ends of members where they lead.
use Rattle.std.proofs.Common.{◌≡◌, ℕ, zero, suc, ◌<◌, Bool, true, false, List, [], ◌∷◌, ◌++◌, length, append_assoc, append-nil, refl, sym, ap, subst, ◌∙◌, arith}
use Rattle.std.specs.Prelude.{◌↔◌, slice_index}
use Rattle.nk_field.specs.declared.packet.Packet.{Packet}
use Rattle.nk_field.proofs.Lists.{contains_from_in}
use Rattle.nk_field.proofs.Ascending.{all_from_members}
use Rattle.nk_policy.specs.Policy.{Policy}
use Rattle.nk_policy.specs.Meaning.{Gives}
use Rattle.nk_policy.specs.After.{has_dup}
use Rattle.nk_policy.specs.Distinct.{HasDistinct}
use Rattle.nk_policy.specs.Labels.{HasRecorded, IsLabelSet}
use Rattle.nk_policy.specs.PositionSets.{at_position, IsPosition, last_from, IsNumbered}
use Rattle.nk_policy.proofs.LabelSteps.{at_next}
use Rattle.nk_policy.proofs.ListParts.{last_of_list}
use Rattle.nk_policy.proofs.PositionSteps.{gives_from_position, one_set, start_set}
use Rattle.nk_store.specs.StoreState.{StoreState, IsStorePacket, AreTidy}
use Rattle.nk_determ.specs.States.{StateLeads}
use Rattle.nk_determ.specs.Automaton.{IsState, IsAutomaton}
use Rattle.nk_determ.specs.Pairs.{Node, AreLabelsBelow, IsStep}
use Rattle.nk_determ.specs.Counterexamples.{Walks}
use Rattle.nk_runs.specs.Walked.{IsMetAfter}
use Rattle.nk_runs.proofs.Numbers.{dup_within, at_dup}
use Rattle.nk_runs.proofs.Steps.{Known, some_member, no_member, begins, follows, known, state_of_dup}

-- what a walk leads to from a packet in range is in range
pub walk_in_range : (st : StoreState) (states : List ℕ) (u : List Packet) (m n : Node) → IsStorePacket st m.1
    → Walks (IsStep st states) m u n → IsStorePacket st n.1
walk_in_range st states [] m n r w = subst (λ (k : Node). IsStorePacket st k.1) w r
walk_in_range st states (y ∷ u) m n r w = walk_in_range st states u (w.0, y) n w.1.packet w.2

-- where no dup has the number 0, label 0 is the start alone
no_zero : (p : Policy) (b : Bool) → has_dup p 0 ≡ b → ((l : ℕ) → has_dup p l ≡ true → 0 < l) → has_dup p 0 ≡ false
no_zero p true e low = absurd (let lt = low 0 e in omega (arith, lt))
no_zero p false e low = e

module _ (st : StoreState) (states : List ℕ) (p : Policy) (a : IsAutomaton st states 1 p) (d : HasDistinct p) (tidy : AreTidy st) where
  -- the dups are numbered from 1 on
  numbered : IsNumbered p
  numbered = record {
    distinct = d;
    from_one = no_zero p (has_dup p 0) refl (λ l h. (dup_within p a.labels l h).0);
  }

  -- a run was somewhere at each of its records
  at_front : (u g : List Packet) (pk y : Packet) (l : ℕ) → HasRecorded p pk ((g ++ y ∷ []) ++ u) l
      → (k : ℕ) × HasRecorded p pk (g ++ y ∷ []) k
  at_front [] g pk y l h = (l, subst (λ v. HasRecorded p pk v l) (append-nil (g ++ y ∷ [])) h)
  at_front (z ∷ u) g pk y l h =
      let b = at_front u (g ++ y ∷ []) pk z l (subst (λ v. HasRecorded p pk v l) (sym (append_assoc (g ++ y ∷ []) (z ∷ []) u)) h) in
      let c = (at_next p d pk g y z b.0).0 b.1 in
      (c.0, c.1)

  -- so there is a label set after that record, and its packet is in range
  front_set : (u g : List Packet) (pk y : Packet) (s : List ℕ) → IsStorePacket st pk → IsLabelSet p pk ((g ++ y ∷ []) ++ u) s
      → (t : List ℕ) × IsLabelSet p pk (g ++ y ∷ []) t × IsStorePacket st y
  front_set u g pk y s r h =
      let k : Known st p pk g y = known st states p a d tidy (length g) pk g y refl r in
      let one = some_member s h.0 in
      let front = at_front u g pk y one.0 ((h.1.1 one.0).0 one.1) in
      let there = (k.exactly.1 front.0).1 front.1 in
      (k.set, ((λ none. no_member k.set front.0 none there), k.exactly), k.range front.0 front.1)

  -- a walk from a label set leads to one
  walk_on : (u f : List Packet) (pk x : Packet) (s : List ℕ) (n : Node) → IsStorePacket st x → IsLabelSet p pk (f ++ x ∷ []) s
      → Walks (IsStep st states) (s, x) u n → IsLabelSet p pk ((f ++ x ∷ []) ++ u) n.0 × (n.1 ≡ last_from x u)
  walk_on [] f pk x s n r h w = (
    subst (λ v. IsLabelSet p pk v n.0) (sym (append-nil (f ++ x ∷ [])))
        (subst (λ z. IsLabelSet p pk (f ++ x ∷ []) z) (ap (λ (m : Node). m.0) w) h),
    sym (ap (λ (m : Node). m.1) w),
  )
  walk_on (y ∷ u) f pk x s n r h w =
      let b = (follows st states p a d tidy pk f x y s w.0 r h.1).0 w.1 in
      let k = walk_on u (f ++ x ∷ []) pk y w.0 n w.1.packet b w.2 in
      (subst (λ v. IsLabelSet p pk v n.0) (append_assoc (f ++ x ∷ []) (y ∷ []) u) k.0, k.1)

  -- and each label set after more records is walked to
  walk_to : (u f : List Packet) (pk x : Packet) (s : List ℕ) (n : Node) → IsStorePacket st pk → IsStorePacket st x
      → IsLabelSet p pk (f ++ x ∷ []) s → IsLabelSet p pk ((f ++ x ∷ []) ++ u) n.0 → n.1 ≡ last_from x u
      → Walks (IsStep st states) (s, x) u n
  walk_to [] f pk x s n b r h k e =
      let whole = subst (λ v. IsLabelSet p pk v n.0) (append-nil (f ++ x ∷ [])) k in
      let same : s ≡ n.0 = one_set (HasRecorded p pk (f ++ x ∷ [])) s n.0 h.1 whole.1 in
      let with_packet : List ℕ → Node = λ z. (z, x) in
      let with_set : Packet → Node = λ z. (n.0, z) in
      ap with_packet same ∙ ap with_set (sym e)
  walk_to (y ∷ u) f pk x s n b r h k e =
      let long = subst (λ v. IsLabelSet p pk v n.0) (sym (append_assoc (f ++ x ∷ []) (y ∷ []) u)) k in
      let t = front_set u (f ++ x ∷ []) pk y n.0 b long in
      (t.0, (follows st states p a d tidy pk f x y s t.0 r h.1).1 t.1, walk_to u (f ++ x ∷ []) pk y t.0 n b t.2 t.1 long e)

  -- walks from the start are runs, both ways
  pub walks_met : (pk : Packet) (u : List Packet) (n : Node) → IsStorePacket st pk
      → Walks (IsStep st states) (0 ∷ [], pk) u n ↔ IsMetAfter p pk u n
  walks_met pk [] n r =
      let begun : IsMetAfter p pk [] (0 ∷ [], pk) = (((λ e. cc), start_set), refl) in
      let with_packet : List ℕ → Node = λ z. (z, pk) in
      let with_set : Packet → Node = λ z. (n.0, z) in (
        λ w. subst (λ m. IsMetAfter p pk [] m) w begun,
        λ h. ap with_packet (one_set (λ l. l ≡ 0) (0 ∷ []) n.0 start_set h.0.1) ∙ ap with_set (sym h.1),
      )
  walks_met pk (x ∷ u) n r = (
    λ w. walk_on u [] pk x w.0 n w.1.packet ((begins st states p a d tidy pk x w.0 r).0 w.1) w.2,
    λ h.
        let t = front_set u [] pk x n.0 r h.0 in
        (t.0, (begins st states p a d tidy pk x t.0 r).1 t.1, walk_to u [] pk x t.0 n r t.2 t.1 h.0 h.1),
  )

  -- a position of runs is the start or a dup of the policy, and its state is what is left there
  position_state : (pk : Packet) (u : List Packet) (l : ℕ) → IsPosition p pk u l
      → IsState st (slice_index states l) (at_position p l) × (l < length states)
  position_state pk [] zero h = (a.start, omega (arith, a.count))
  position_state pk [] (suc l) h = absurd (omega (arith, h))
  position_state pk (y ∷ u) zero h = let b = (dup_within p a.labels 0 (at_dup p pk (y ∷ u) 0 h)).0 in absurd (omega (arith, b))
  position_state pk (y ∷ u) (suc l) h =
      let dup = at_dup p pk (y ∷ u) (suc l) h in
      let b = (dup_within p a.labels (suc l) dup).1 in
      (state_of_dup st states p a d tidy (suc l) dup, omega (arith, b, a.count))

  -- where a walk leads the members are places among the states
  pub walk_places : (pk : Packet) (u : List Packet) (n : Node) → IsMetAfter p pk u n → AreLabelsBelow (length states) n.0
  walk_places pk u n m =
      all_from_members (λ l. l < length states) n.0
      (λ l i. (position_state pk u l ((m.0.1.1 l).0 (contains_from_in n.0 l i))).1)

  -- the histories with these records are the ends of members where the walk leads
  pub ends_given : (pk : Packet) (u : List Packet) (n : Node) (last : Packet) → IsStorePacket st pk
      → Walks (IsStep st states) (0 ∷ [], pk) u n → Gives p pk u last ↔ StateLeads st states n.0 n.1 last 0
  ends_given pk u n last r w =
      let m = (walks_met pk u n r).0 w in
      let range = walk_in_range st states u (0 ∷ [], pk) n r w in
      let whole = gives_from_position p numbered pk u last in (
        λ g.
            let h = whole.0 g in
            let end = subst (λ z. Gives (at_position p h.0) z [] last) (sym m.1) h.2 in
            (h.0, (m.0.1.1 h.0).1 h.1, ((position_state pk u h.0 h.1).0.ends n.1 last range).1 end),
        λ h.
            let at = (m.0.1.1 h.0).0 h.1 in
            let end = ((position_state pk u h.0 at).0.ends n.1 last range).0 h.2 in
            whole.1 (h.0, at, subst (λ z. Gives (at_position p h.0) z [] last) m.1 end),
      )

  -- and each history's records are walked
  pub given_walked : (pk : Packet) (u : List Packet) (last : Packet) → IsStorePacket st pk → Gives p pk u last
      → (n : Node) × Walks (IsStep st states) (0 ∷ [], pk) u n
  given_walked pk [] last r g = ((0 ∷ [], pk), refl)
  given_walked pk (x ∷ u) last r g =
      let h = (gives_from_position p numbered pk (x ∷ u) last).0 g in
      let s = all_at pk x u r h.0 h.1 in
      let n : Node = (s.0, last_from pk (x ∷ u)) in
      (n, (walks_met pk (x ∷ u) n r).1 (s.1, refl))
    where
      -- a label set after records after which a run is somewhere
      all_at : (pk x : Packet) (u : List Packet) → IsStorePacket st pk → (l : ℕ) → HasRecorded p pk (x ∷ u) l
          → (s : List ℕ) × IsLabelSet p pk (x ∷ u) s
      all_at pk x u r l h =
          let c = last_of_list x u in
          let k : Known st p pk c.0 c.1 = known st states p a d tidy (length c.0) pk c.0 c.1 refl r in
          let at = subst (λ v. HasRecorded p pk v l) c.2 h in
          let there = (k.exactly.1 l).1 at in
          let labels : IsLabelSet p pk (c.0 ++ c.1 ∷ []) k.set = ((λ none. no_member k.set l none there), k.exactly) in
          (k.set, subst (λ v. IsLabelSet p pk v k.set) (sym c.2) labels)
