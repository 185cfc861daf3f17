-- The sets at odd levels are the tag sets, and their numbers are in the tag sets' order.
use Rattle.std.proofs.Common.{◌≡◌, ℕ, zero, suc, ◌+◌, ◌*◌, ◌<◌, ◌≤◌, ◌⊎◌, false, inl, inr, ⊎_elim, List, [], ◌∷◌, ◌++◌, length, length-append, refl, sym, ap, subst, ◌∙◌, arith}
use Rattle.std.specs.Prelude.{◌↔◌, Contains, map, slice_index_or}
use Rattle.std.proofs.lemmas.List.Elements.{All-map, All-weaker}
use Rattle.nk_field.specs.declared.packet.Packet.{Packet}
use Rattle.nk_field.proofs.Lists.{In, in_from_contains, contains_from_in, in_mapped, from_mapped}
use Rattle.nk_field.proofs.Ascending.{members_from_all}
use Rattle.nk_policy.specs.Policy.{Policy}
use Rattle.nk_policy.specs.Progress.{RecordsAt}
use Rattle.nk_policy.specs.After.{after}
use Rattle.nk_policy.specs.Distinct.{HasDistinct}
use Rattle.nk_policy.specs.Leaves.{has_leaf, is_dup}
use Rattle.nk_policy.specs.Literals.{Literal, HoldsLiteral, moved_by}
use Rattle.nk_policy.specs.Labels.{IsLabelSet, IsTagSet, IsWithoutDoubles, AtLeast}
use Rattle.nk_policy.specs.Tags.{IsShortest, IsTagBefore, AreTags}
use Rattle.nk_policy.proofs.ListParts.{last_of_list}
use Rattle.nk_policy.proofs.LinkStructure.{holds_first, on_link, off_link_at_sources}
use Rattle.nk_policy.proofs.Parity.{bound_of, dups_below, odd_at, even_at}
use Rattle.nk_store.specs.declared.node.Out.{Out}
use Rattle.nk_store.specs.StoreState.{StoreState, IsStorePacket, Grows, AreTidy}
use Rattle.nk_determ.specs.Sets.{HasEachSetOnce}
use Rattle.nk_determ.specs.Automaton.{IsAutomaton}
use Rattle.nk_determ.specs.Pairs.{Node, Named, Under, EachPair, IsPair}
use Rattle.nk_determ.specs.Levels.{At, InLevel, IsFilled, AreLevels}
use Rattle.nk_determ.specs.InOrder.{odd_level, IsAtOdd, IsFirstNaming, IsNumberedBefore, AreNumbers}
use Rattle.nk_determ.proofs.Naming.{named_within, named_entry, pairs_mapped}
use Rattle.nk_runs.specs.Labels.{IsAmong, members}
use Rattle.nk_runs.proofs.Numbers.{dup_within, at_dup}
use Rattle.nk_runs.proofs.Stands.{packet_back}
use Rattle.nk_runs.proofs.Steps.{some_member}
use Rattle.nk_runs.proofs.Labelled.{met_in_range, met_labels, labels_met}

-- the second dup of a literal isn't the first of another one: else the dups after it would go on without end
climbs : (p : Policy) → HasDistinct p → has_leaf is_dup p ≡ false → (n : ℕ) (j k : Literal)
    → HoldsLiteral p j → HoldsLiteral p k → k.mark ≡ j.mark + 1 → bound_of p ≤ k.mark + n → ⊥
climbs p d loose zero j k hj hk e most = let lt = dups_below p k.mark (holds_first p k hk) in omega (arith, lt, most)
climbs p d loose (suc n) j k hj hk e most =
    let y : Packet = [] in
    let there = (on_link p d k hk).there y in
    let s = (off_link_at_sources p d loose j hj).at_source y (moved_by k y) (k.mark + 1)
    (subst (λ q. RecordsAt (after p q) y [] (moved_by k y) (k.mark + 1)) e there) in
    climbs p d loose n k s.0 hk s.1 s.3 (omega (arith, most, s.3))

-- so no set is after an odd number of records and after an even one
pub odd_or_even : (p : Policy) → HasDistinct p → has_leaf is_dup p ≡ false → (s : List ℕ) (m n : ℕ) (pk qk : Packet) (u v : List Packet)
    → length u ≡ 2 * m + 1 → IsLabelSet p pk u s → length v ≡ 2 * n + 2 → IsLabelSet p qk v s → ⊥
odd_or_even p d loose s m n pk qk u v odd a even b =
    let l = some_member s a.0 in
    let k = odd_at p d loose m pk u l.0 odd ((a.1.1 l.0).0 l.1) in
    let j = even_at p d loose n qk v l.0 even ((b.1.1 l.0).0 l.1) in
    climbs p d loose (bound_of p) j.0 k.0 j.1 k.1 (k.2 ∙ sym j.2) (omega arith)

-- a number is even or odd
halves : (i : ℕ) → ((k : ℕ) × (i ≡ 2 * k)) ⊎ ((k : ℕ) × (i ≡ 2 * k + 1))
halves zero = inl (0, refl)
halves (suc i) = by (halves i)
  where
    by : ((k : ℕ) × (i ≡ 2 * k)) ⊎ ((k : ℕ) × (i ≡ 2 * k + 1)) → ((k : ℕ) × (suc i ≡ 2 * k)) ⊎ ((k : ℕ) × (suc i ≡ 2 * k + 1))
    by (inl r) = inr (r.0, omega (arith, r.1))
    by (inr r) = inl (r.0 + 1, omega (arith, r.1))

-- what stands under a set is of an entry that names it
pub under_named : (st : StoreState) (ps : List (ℕ × ℕ)) (s : ℕ) (x : Packet) → Under st ps s x → Named ps s
under_named st [] s x h = h
under_named st (q ∷ ps) s x (inl h) = inl h.0
under_named st (q ∷ ps) s x (inr h) = inr (under_named st ps s x h)

-- under a set that is named stands a packet, where all entries have some
pub named_filled : (st : StoreState) (ps : List (ℕ × ℕ)) (s : ℕ) → Named ps s → EachPair (λ q. IsFilled st q.1) ps
    → (x : Packet) × IsStorePacket st x × Under st ps s x
named_filled st [] s h e = absurd h
named_filled st (q ∷ ps) s (inl is) e = (e.0.0, e.0.1, inl (is, e.0.2))
named_filled st (q ∷ ps) s (inr h) e = let r = named_filled st ps s h e.1 in (r.0, r.1, inr r.2)

-- there are as many images
count_mapped : {X Y : Type 0} (f : X → Y) (xs : List X) → length (map f xs) ≡ length xs
count_mapped f [] = refl
count_mapped f (x ∷ xs) = ap suc (count_mapped f xs)

-- images without doubles
mapped_once : {X Y : Type 0} (f : X → Y) (xs : List X) → ((x y : X) → In xs x → In xs y → f x ≡ f y → x ≡ y)
    → IsWithoutDoubles xs → IsWithoutDoubles (map f xs)
mapped_once f [] own w = tt
mapped_once f (x ∷ xs) own w = (
  λ c.
      let m = from_mapped f xs (f x) (in_from_contains (map f xs) (f x) c) in
      w.0 (contains_from_in xs x (subst (λ z. In xs z) (sym (own x m.0 (inl refl) (inr m.1) m.2)) m.1)),
  mapped_once f xs (λ y z i j. own y z (inr i) (inr j)) w.1,
)

module _ (old new : StoreState) (ss : List (List ℕ)) (states : List ℕ) (set start : ℕ) (bad : List ℕ → List ℕ → List Out) (ls : List (List (ℕ × ℕ))) (p : Policy) (a : IsAutomaton old states 1 p) (d : HasDistinct p) (tidy : AreTidy old) (from : slice_index_or ss set [] ≡ 0 ∷ []) (levels : AreLevels old new ss states set start bad ls false) where
  -- a shorter name
  abbrev Start : Packet → Type 0
  Start = IsAmong old start

  -- where a set is met, from the start set
  pub sound : (i : ℕ) (n : Node) → i < length ls → IsStorePacket old n.1 → InLevel new ss ls i n → At old states (0 ∷ []) start i n
  sound i n lt good h = subst (λ s. At old states s start i n) from (levels.exact.sound i n lt good h)

  -- and each level that has it
  pub complete : (i : ℕ) (n : Node) → At old states (0 ∷ []) start i n
      → (j : ℕ) × (j ≤ i) × (j < length ls) × InLevel new ss ls j n
  complete i n h = levels.complete refl i n (subst (λ s. At old states s start i n) (sym from) h)

  -- the records after a set that is met after the start
  records_at : (i : ℕ) (n : Node) → At old states (0 ∷ []) start (suc i) n
      → (pk : Packet) × (u : List Packet) × Start pk × (length u ≡ suc i) × IsLabelSet p pk u n.0
  records_at i n h =
      let l = met_labels old states start p a d tidy (suc i) n h in
      let many : length (l.1 ++ n.1 ∷ []) ≡ suc i = omega (arith, l.3, length-append l.1 (n.1 ∷ [])) in
      (l.0, l.1 ++ n.1 ∷ [], l.2, many, l.4)

  -- the set of some records is met
  at_records : (i : ℕ) (pk : Packet) (u : List Packet) (s : List ℕ) → Start pk → length u ≡ suc i → IsLabelSet p pk u s
      → (x : Packet) × At old states (0 ∷ []) start (suc i) (s, x)
  at_records i pk [] s h e l = absurd (omega (arith, e))
  at_records i pk (b ∷ u) s h e l =
      let c = last_of_list b u in
      let many : length c.0 ≡ i = omega (arith, e, ap length c.2, length-append c.0 (c.1 ∷ [])) in
      (c.1, labels_met old states start p a d tidy (suc i) (s, c.1) (pk, c.0, h, many, subst (λ v. IsLabelSet p pk v s) c.2 l))

  -- the records of a set at an odd level
  odd_records : Grows old new → (s j : ℕ) → Named (odd_level ls j) s
      → (pk : Packet) × (u : List Packet) × Start pk × (length u ≡ 2 * j + 1) × IsLabelSet p pk u (members ss s)
  odd_records grown s j h =
      let lt = named_within ls (2 * j + 1) s h in
      let later : 1 ≤ 2 * j + 1 = omega arith in
      let f = named_filled new (odd_level ls j) s h (levels.shape (2 * j + 1) later lt).filled in
      let n : Node = (members ss s, f.0) in
      let at = sound (2 * j + 1) n lt (packet_back old new f.0 grown f.1) (s, refl, f.2) in
      let e : 2 * j + 1 ≡ suc (2 * j) = omega arith in
      let r = records_at (2 * j) n (subst (λ i. At old states (0 ∷ []) start i n) e at) in
      (r.0, r.1, r.2, r.3 ∙ sym e, r.4)

  -- a set at an odd level is a tag set
  pub odd_is_tag : Grows old new → (s : ℕ) → IsAtOdd ls s → IsTagSet p Start (members ss s)
  odd_is_tag grown s h = let r = odd_records grown s h.0 h.1 in (r.0, r.1, h.0, r.2, r.3, r.4)

  -- a set that is named is known
  pub named_known : (i s : ℕ) → Named (slice_index_or ls i []) s → s < length ss
  named_known i s h =
      let each = (levels.pairs i (named_within ls i s h)).each in
      let q = named_entry (IsPair new ss (length states)) (slice_index_or ls i []) s h each in
      subst (λ k. k < length ss) q.2 q.1.known

  -- the numbers of two sets with the same members
  one_number : HasEachSetOnce ss → (i j s t : ℕ) → Named (slice_index_or ls i []) s → Named (slice_index_or ls j []) t
      → members ss s ≡ members ss t → s ≡ t
  one_number differ i j s t hs ht e = differ s t (named_known i s hs) (named_known j t ht) e

  -- at least so many tag sets
  pub many_tags : HasEachSetOnce ss → Grows old new → (least : ℕ) → AtLeast least (IsAtOdd ls) → AtLeast least (IsTagSet p Start)
  many_tags differ grown least h = (
    map (members ss) h.0,
    count_mapped (members ss) h.0 ∙ h.1,
    mapped_once (members ss) h.0 (λ s t i j e.
        let hs = members_from_all (IsAtOdd ls) h.0 h.3 s i in
        let ht = members_from_all (IsAtOdd ls) h.0 h.3 t j in
        one_number differ (2 * hs.0 + 1) (2 * ht.0 + 1) s t hs.1 ht.1 e) h.2,
    All-map (IsTagSet p Start) (members ss) h.0
        (All-weaker (IsAtOdd ls) (λ s. IsTagSet p Start (members ss s)) (λ s o. odd_is_tag grown s o) h.0 h.3),
  )

  module _ (loose : has_leaf is_dup p ≡ false) where
    -- a label set after an odd number of records is at no even level
    not_even : (m : ℕ) (pk : Packet) (u : List Packet) (s : List ℕ) (x : Packet) → length u ≡ 2 * m + 1 → IsLabelSet p pk u s
        → (k : ℕ) → At old states (0 ∷ []) start (2 * k) (s, x) → ⊥
    not_even m pk u s x e l zero h =
        let one = some_member s l.0 in
        let is : one.0 ≡ 0 = ⊎_elim (λ z. z) (λ z. absurd z) (in_from_contains (0 ∷ []) one.0 (subst (λ z. Contains z one.0) h.set_is one.1)) in
        let dup = at_dup p pk u one.0 ((l.1.1 one.0).0 one.1) in
        let b = dup_within p a.labels one.0 dup in
        omega (arith, b.0, is)
    not_even m pk u s x e l (suc k) h =
        let f : 2 * suc k ≡ suc (2 * k + 1) = omega arith in
        let r = records_at (2 * k + 1) (s, x) (subst (λ i. At old states (0 ∷ []) start i (s, x)) f h) in
        odd_or_even p d loose s m k pk r.0 u r.1 e l (omega (arith, r.3)) r.4

    -- a tag set is at an odd level, with at most so many records
    pub tag_named : (m : ℕ) (pk : Packet) (u : List Packet) (s : List ℕ) → Start pk → length u ≡ 2 * m + 1 → IsLabelSet p pk u s
        → (i : ℕ) × (k : ℕ) × (k ≤ m) × Named (odd_level ls k) i × (members ss i ≡ s)
    tag_named m pk u s h e l =
        let e' : length u ≡ suc (2 * m) = omega (arith, e) in
        let at = at_records (2 * m) pk u s h e' l in
        let c = complete (suc (2 * m)) (s, at.0) at.1 in
        by at.0 (met_in_range old states start p a d tidy (suc (2 * m)) (s, at.0) at.1) c.0 c.1 c.2 c.3 (halves c.0)
      where
        by : (x : Packet) → IsStorePacket old x → (j : ℕ) → j ≤ suc (2 * m) → j < length ls → InLevel new ss ls j (s, x)
            → ((k : ℕ) × (j ≡ 2 * k)) ⊎ ((k : ℕ) × (j ≡ 2 * k + 1))
            → (i : ℕ) × (k : ℕ) × (k ≤ m) × Named (odd_level ls k) i × (members ss i ≡ s)
        by x good j le lt level (inl even) = absurd (not_even m pk u s x e l even.0 (subst (λ i. At old states (0 ∷ []) start i (s, x)) even.1 (sound j (s, x) lt good level)))
        by x good j le lt level (inr odd) =
            let named : Named (slice_index_or ls j []) level.0 = under_named new (slice_index_or ls j []) level.0 x level.2 in
            (level.0, odd.0, omega (arith, le, odd.1), subst (λ i. Named (slice_index_or ls i []) level.0) odd.1 named, level.1)

    -- the sets at odd levels are the tag sets
    pub tags_are_odd : Grows old new → (s : List ℕ) → IsTagSet p Start s ↔ ((i : ℕ) × IsAtOdd ls i × (members ss i ≡ s))
    tags_are_odd grown s = (
      λ t. let r = tag_named t.2 t.0 t.1 s t.3 t.4 t.5 in (r.0, (r.1, r.3), r.4),
      λ h. subst (λ z. IsTagSet p Start z) h.2 (odd_is_tag grown h.0 h.1),
    )

    -- the first odd level of a set has the least number of records
    shortest : HasEachSetOnce ss → Grows old new → (s j : ℕ) → IsFirstNaming ls s j → IsShortest p Start (members ss s) (2 * j + 1)
    shortest differ grown s j f =
        let r = odd_records grown s j f.named in (
          (r.0, r.1, j, r.2, r.3, r.4, r.3),
          λ pk u m h e l less.
              let t = tag_named m pk u (members ss s) h e l in
              let same = one_number differ (2 * t.1 + 1) (2 * j + 1) t.0 s t.3 f.named t.4 in
              f.first t.1 (omega (arith, t.2, e, less)) (subst (λ z. Named (odd_level ls t.1) z) same t.3),
        )

    -- the numbers' order is that of tags
    tag_before : HasEachSetOnce ss → Grows old new → (s t : ℕ) → IsNumberedBefore ss ls s t
        → IsTagBefore p Start (members ss s) (members ss t)
    tag_before differ grown s t h = (
      2 * h.0 + 1,
      2 * h.1 + 1,
      shortest differ grown s h.0 h.2,
      shortest differ grown t h.1 h.3,
      ⊎_elim (λ lt. inl (omega (arith, lt))) (λ e. inr (ap (λ k. 2 * k + 1) e.0, e.1)) h.4,
    )

    -- the members of the numbers are the tags
    pub are_tags : HasEachSetOnce ss → Grows old new → (r : List ℕ) → AreNumbers ss ls r → AreTags p Start (map (members ss) r)
    are_tags differ grown r numbers = record {
      exactly = λ s. (
        λ c.
            let m = from_mapped (members ss) r s (in_from_contains (map (members ss) r) s c) in
            subst (λ z. IsTagSet p Start z) (sym m.2)
            (odd_is_tag grown m.0 ((numbers.exactly m.0).0 (contains_from_in r m.0 m.1))),
        λ t.
            let o = (tags_are_odd grown s).0 t in
            let i = in_from_contains r o.0 ((numbers.exactly o.0).1 o.1) in
            contains_from_in (map (members ss) r) s (subst (λ z. In (map (members ss) r) z) o.2 (in_mapped (members ss) r o.0 i)),
      );
      in_order = pairs_mapped (IsNumberedBefore ss ls) (IsTagBefore p Start) (members ss) (tag_before differ grown) r numbers.in_order;
    }
