-- The packets that levels have under the labels after a tag set are those that are met under the tag set.
use Rattle.std.proofs.Common.{◌≡◌, ◌≢◌, ℕ, zero, suc, ◌+◌, ◌*◌, ◌<◌, ◌≤◌, ◌↔◌, ◌⊎◌, inl, inr, ⊎_elim, Some, false, List, [], ◌∷◌, ◌++◌, length, refl, sym, ap, subst, ◌∙◌, arith, length-append}
use Rattle.std.specs.Prelude.{Contains, slice_index, slice_index_or}
use Rattle.nk_field.specs.declared.packet.Packet.{Packet}
use Rattle.nk_field.proofs.Lists.{In, in_from_contains, contains_from_in, in_mapped, from_mapped}
use Rattle.nk_field.proofs.Ascending.{rising_from, increasing_from}
use Rattle.nk_topo.specs.Topology.{Topology, AreLinks, link_from}
use Rattle.nk_policy.specs.Policy.{Policy}
use Rattle.nk_policy.specs.Progress.{RecordsAt}
use Rattle.nk_policy.specs.After.{after}
use Rattle.nk_policy.specs.Distinct.{HasDistinct}
use Rattle.nk_policy.specs.Leaves.{has_leaf, is_dup}
use Rattle.nk_policy.specs.Literals.{Literal, HoldsLiteral, IsAtSource, moved_by}
use Rattle.nk_policy.specs.Labels.{HasRecorded, HasExactly, IsLabelSet, IsTagSet}
use Rattle.nk_policy.proofs.LabelSteps.{at_next}
use Rattle.nk_policy.proofs.LinkStructure.{holds_first, on_link, off_link_at_sources}
use Rattle.nk_policy.proofs.ListParts.{last_is, last_of_list}
use Rattle.nk_policy.proofs.Parity.{bound_of, dups_below, odd_at}
use Rattle.nk_names.specs.Accepted.{is_link_outside}
use Rattle.nk_names.proofs.Declared.{link_at_source}
use Rattle.nk_store.specs.declared.node.Out.{Out}
use Rattle.nk_store.specs.StoreState.{StoreState, IsStorePacket, AreTidy}
use Rattle.nk_table.specs.Hops.{moved_to}
use Rattle.nk_determ.specs.Automaton.{IsAutomaton}
use Rattle.nk_determ.specs.Levels.{At, InLevel, AreLevels}
use Rattle.nk_runs.specs.Labels.{IsAmong}
use Rattle.nk_runs.proofs.Labelled.{met_labels, labels_met}
use Rattle.nk_merge.specs.Alike.{labels_after}
use Rattle.nk_compile.specs.MetUnder.{IsMetUnder}
use Rattle.nk_compile.proofs.Reached.{same_some}
use Rattle.nk_compile.proofs.TagSets.{literal_of}
use Rattle.nk_compact.proofs.MetSets.{rising_raised}

-- a list that isn't empty has a member
some_label : (s : List ℕ) → s ≢ [] → (l : ℕ) × Contains s l
some_label [] h = absurd (h refl)
some_label (l ∷ s) h = (l, contains_from_in (l ∷ s) l (inl refl))

-- a number is even or odd
halves : (i : ℕ) → ((k : ℕ) × (i ≡ 2 * k)) ⊎ ((k : ℕ) × (i ≡ 2 * k + 1))
halves zero = inl (0, refl)
halves (suc i) = by (halves i)
  where
    by : ((k : ℕ) × (i ≡ 2 * k)) ⊎ ((k : ℕ) × (i ≡ 2 * k + 1)) → ((k : ℕ) × (suc i ≡ 2 * k)) ⊎ ((k : ℕ) × (suc i ≡ 2 * k + 1))
    by (inl r) = inr (r.0, omega (arith, r.1))
    by (inr r) = inl (r.0 + 1, omega (arith, r.1))

-- a label stands after one of a set exactly where it is one more than it
after_has : (s : List ℕ) (l : ℕ) → Contains s l ↔ Contains (labels_after s) (l + 1)
after_has s l = (
  λ c. contains_from_in (labels_after s) (l + 1) (in_mapped (λ n. n + 1) s l (in_from_contains s l c)),
  λ c.
      let m = from_mapped (λ n. n + 1) s (l + 1) (in_from_contains (labels_after s) (l + 1) c) in
      let same : m.0 ≡ l = omega (arith, m.2) in
      contains_from_in s l (subst (λ n. In s n) same m.1),
)

module _ (topo : Topology) (links : AreLinks topo) (p : Policy) (distinct : HasDistinct p) (no_dup : has_leaf is_dup p ≡ false) (declared : has_leaf (is_link_outside topo.links) p ≡ false) where
  -- the second dup of a literal isn't the first of another one: else the dups after it would go on without end
  climbs : (n : ℕ) (j k : Literal) → HoldsLiteral p j → HoldsLiteral p k → k.mark ≡ j.mark + 1 → bound_of p ≤ k.mark + n → ⊥
  climbs zero j k hj hk e most = let lt = dups_below p k.mark (holds_first p k hk) in omega (arith, lt, most)
  climbs (suc n) j k hj hk e most =
      let y : Packet = [] in
      let there = (on_link p distinct k hk).there y in
      let s = (off_link_at_sources p distinct no_dup j hj).at_source y (moved_by k y) (k.mark + 1)
      (subst (λ q. RecordsAt (after p q) y [] (moved_by k y) (k.mark + 1)) e there) in
      climbs n k s.0 hk s.1 s.3 (omega (arith, most, s.3))

  module _ (pk : Packet) (n : ℕ) (front : List Packet) (z : Packet) (odd : length (front ++ z ∷ []) ≡ 2 * n + 1) where
    -- where a run is after an odd list of records
    source : (l : ℕ) → HasRecorded p pk (front ++ z ∷ []) l
        → (i : Literal) × HoldsLiteral p i × (i.mark ≡ l) × (link_from topo (slice_index z 0) (slice_index z 1) ≡ Some (i.to_switch, i.to_port))
    source l a =
        let q = odd_at p distinct no_dup n pk (front ++ z ∷ []) l odd a in
        let e = (last_is front z q.3.0 q.3.1 q.3.2).1 in
        let here = subst (λ y. IsAtSource q.0 y) (sym e) q.3.3 in
        (q.0, q.1, q.2, link_at_source topo links p declared q.0 q.1 z here)

    module _ (x : Packet) (l0 : ℕ) (at : HasRecorded p pk ((front ++ z ∷ []) ++ x ∷ []) l0) where
      -- each label at which it is leads to x, at the label after it
      crossed : (l : ℕ) → HasRecorded p pk (front ++ z ∷ []) l → HasRecorded p pk ((front ++ z ∷ []) ++ x ∷ []) (l + 1)
      crossed l a =
          let c = (at_next p distinct pk front z x l0).0 at in
          let k = source c.0 c.1 in
          let i = source l a in
          let x_is = ((on_link p distinct k.0 k.1).only z x l0 (subst (λ j. RecordsAt (after p j) z [] x l0) (sym k.2) c.2)).1 in
          let e : (i.0.to_switch, i.0.to_port) ≡ (k.0.to_switch, k.0.to_port) = same_some (i.0.to_switch, i.0.to_port) (k.0.to_switch, k.0.to_port) (sym i.3 ∙ k.3) in
          let x_of : moved_by i.0 z ≡ x = ap (λ o. moved_to o z) e ∙ sym x_is in
          let there = subst (λ y. RecordsAt (after p i.0.mark) z [] y (i.0.mark + 1)) x_of ((on_link p distinct i.0 i.1).there z) in
          (at_next p distinct pk front z x (l + 1)).1 (l, a, subst (λ j. RecordsAt (after p j) z [] x (j + 1)) i.2 there)

      -- and it is at no other label there
      came : (l' : ℕ) → HasRecorded p pk ((front ++ z ∷ []) ++ x ∷ []) l' → (l : ℕ) × HasRecorded p pk (front ++ z ∷ []) l × (l' ≡ l + 1)
      came l' a =
          let c = (at_next p distinct pk front z x l').0 a in
          let k = source c.0 c.1 in
          (c.0, c.1, ((on_link p distinct k.0 k.1).only z x l' (subst (λ j. RecordsAt (after p j) z [] x l') (sym k.2) c.2)).0 ∙ ap (λ j. j + 1) k.2)

      -- so the label sets are one after the other
      set_on : (s : List ℕ) → IsLabelSet p pk (front ++ z ∷ []) s → IsLabelSet p pk ((front ++ z ∷ []) ++ x ∷ []) (labels_after s)
      set_on s h = (
        λ e. let m = some_label s h.0 in let c = (after_has s m.0).0 m.1 in in_from_contains [] (m.0 + 1) (subst (λ q. Contains q (m.0 + 1)) e c),
        (
          increasing_from (labels_after s) (rising_raised s (rising_from s h.1.0)),
          λ l'. (
            λ c.
                let m = from_mapped (λ n. n + 1) s l' (in_from_contains (labels_after s) l' c) in
                subst (λ n. HasRecorded p pk ((front ++ z ∷ []) ++ x ∷ []) n) (sym m.2) (crossed m.0 ((h.1.1 m.0).0 (contains_from_in s m.0 m.1))),
            λ a.
                let m = came l' a in
                subst (λ n. Contains (labels_after s) n) (sym m.2) ((after_has s m.0).0 ((h.1.1 m.0).1 m.1)),
          ),
        ),
      )

      -- and back
      set_back : (s : List ℕ) → s ≢ [] → HasExactly (λ l. Contains s l) s → IsLabelSet p pk ((front ++ z ∷ []) ++ x ∷ []) (labels_after s) → IsLabelSet p pk (front ++ z ∷ []) s
      set_back s some rise h = (
        some,
        (
          rise.0,
          λ l. (
            λ c.
                let m = came (l + 1) ((h.1.1 (l + 1)).0 ((after_has s l).0 c)) in
                let same : m.0 ≡ l = omega (arith, m.2) in
                subst (λ n. HasRecorded p pk (front ++ z ∷ []) n) same m.1,
            λ a. (after_has s l).1 ((h.1.1 (l + 1)).1 (crossed l a)),
          ),
        ),
      )

  module _ (old new : StoreState) (ss : List (List ℕ)) (states : List ℕ) (set start : ℕ) (bad : List ℕ → List ℕ → List Out) (ls : List (List (ℕ × ℕ))) (a : IsAutomaton old states 1 p) (tidy : AreTidy old) (from : slice_index_or ss set [] ≡ 0 ∷ [])
      (levels : AreLevels old new ss states set start bad ls false) where
    -- a shorter name
    abbrev Start : Packet → Type 0
    Start = IsAmong old start

    -- what is met under a tag set some level has under the labels after it
    pub level_of : (s : List ℕ) (x : Packet) → IsMetUnder p Start s x → (j : ℕ) × InLevel new ss ls j (labels_after s, x)
    level_of s x h = by h.1 h.4 h.5 h.7
      where
        by : (u : List Packet) → length u ≡ 2 * h.2 + 1 → IsLabelSet p h.0 u s → HasRecorded p h.0 (u ++ x ∷ []) h.6 → (j : ℕ) × InLevel new ss ls j (labels_after s, x)
        by [] odd set at = absurd (omega (arith, odd))
        by (y ∷ u) odd set at =
            let c = last_of_list y u in
            let odd' : length (c.0 ++ c.1 ∷ []) ≡ 2 * h.2 + 1 = sym (ap length c.2) ∙ odd in
            let set' = subst (λ v. IsLabelSet p h.0 v s) c.2 set in
            let at' = subst (λ v. HasRecorded p h.0 (v ++ x ∷ []) h.6) c.2 at in
            let label = set_on h.0 h.2 c.0 c.1 odd' x h.6 at' s set' in
            let met = labels_met old states start p a distinct tidy (suc (length (c.0 ++ c.1 ∷ []))) (labels_after s, x) (h.0, c.0 ++ c.1 ∷ [], h.3, refl, label) in
            let l = levels.complete refl (suc (length (c.0 ++ c.1 ∷ []))) (labels_after s, x) (subst (λ q. At old states q start (suc (length (c.0 ++ c.1 ∷ []))) (labels_after s, x)) (sym from) met) in
            (l.0, l.3)

    -- and the other way
    pub under_of : (s : List ℕ) → IsTagSet p Start s → (x : Packet) → IsStorePacket old x → (j : ℕ) → j < length ls → InLevel new ss ls j (labels_after s, x) → IsMetUnder p Start s x
    under_of s tag_set x good j lt h =
        by j (subst (λ q. At old states q start j (labels_after s, x)) from (levels.exact.sound j (labels_after s, x) lt good h))
      where
        set_is : IsLabelSet p tag_set.0 tag_set.1 s
        set_is = tag_set.5

        first : (l : ℕ) → Contains s l → (k : Literal) × HoldsLiteral p k × (k.mark ≡ l)
        first = literal_of topo links p distinct no_dup declared Start s tag_set

        odd_never : (pk : Packet) (u : List Packet) (k : ℕ) → length u ≡ 2 * k + 1 → IsLabelSet p pk u (labels_after s) → ⊥
        odd_never pk u k odd label =
            let m = some_label s set_is.0 in
            let c = (after_has s m.0).0 m.1 in
            let q = odd_at p distinct no_dup k pk u (m.0 + 1) odd ((label.1.1 (m.0 + 1)).0 c) in
            let f = first m.0 m.1 in
            climbs (bound_of p) f.0 q.0 f.1 q.1 (q.2 ∙ ap (λ n. n + 1) (sym f.2)) (omega arith)

        even : (pk : Packet) → Start pk → (v : List Packet) (k : ℕ) → length v ≡ 2 * k + 1 → IsLabelSet p pk (v ++ x ∷ []) (labels_after s) → IsMetUnder p Start s x
        even pk start_pk [] k odd label = absurd (omega (arith, odd))
        even pk start_pk (y ∷ v) k odd label =
            let c = last_of_list y v in
            let odd' : length (c.0 ++ c.1 ∷ []) ≡ 2 * k + 1 = sym (ap length c.2) ∙ odd in
            let label' = subst (λ w. IsLabelSet p pk (w ++ x ∷ []) (labels_after s)) c.2 label in
            let m = some_label s set_is.0 in
            let at = (label'.1.1 (m.0 + 1)).0 ((after_has s m.0).0 m.1) in
            let back = set_back pk k c.0 c.1 odd' x (m.0 + 1) at s set_is.0 (set_is.1.0, λ l. (λ q. q, λ q. q)) label' in
            (pk, c.0 ++ c.1 ∷ [], k, start_pk, odd', back, m.0 + 1, at)

        by : (i : ℕ) → At old states (0 ∷ []) start i (labels_after s, x) → IsMetUnder p Start s x
        by zero h =
            let m = some_label s set_is.0 in
            let c = (after_has s m.0).0 m.1 in
            absurd (⊎_elim (λ e. let z : m.0 + 1 ≡ 0 = e in omega (arith, z)) (λ n. n) (in_from_contains (0 ∷ []) (m.0 + 1) (subst (λ q. Contains q (m.0 + 1)) h.set_is c)))
        by (suc i) h =
            let l = met_labels old states start p a distinct tidy (suc i) (labels_after s, x) h in
            ⊎_elim
            (λ k. absurd (odd_never l.0 (l.1 ++ x ∷ []) k.0 (omega (arith, l.3, k.1, length-append l.1 (x ∷ []))) l.4))
            (λ k. even l.0 l.2 l.1 k.0 (l.3 ∙ k.1) l.4)
            (halves i)
