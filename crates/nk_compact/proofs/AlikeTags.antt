-- What states of tag sets give is what is left of the policy after them: their classes and what tells these apart, in the words of
-- policies.
use Rattle.std.proofs.Common.{◌≡◌, ℕ, zero, suc, ◌+◌, ◌<◌, ◌≤◌, ◌↔◌, ◌⊎◌, inl, inr, ⊎_elim, Bool, true, false, Some, List, [], ◌∷◌, ◌++◌, length, get_or, refl, sym, ap, subst, ◌∙◌, arith}
use Rattle.std.specs.Prelude.{AllPairs, Contains, map, slice_index, slice_index_or, ltb, cond}
use Rattle.std.proofs.lemmas.Option.{slice_get_within}
use Rattle.std.proofs.lemmas.List.{length-map, get_or-map}
use Rattle.std.proofs.lemmas.List.Kept.{AllPairs-cons}
use Rattle.std.proofs.lemmas.Bool.Decides.{nat_tests}
use Rattle.nk_field.specs.declared.packet.Packet.{Packet}
use Rattle.nk_field.specs.Order.{Found}
use Rattle.nk_field.specs.Packet.{FieldTable, IsPacket}
use Rattle.nk_field.proofs.Lists.{In, in_from_contains, contains_from_in, in_mapped, from_mapped, in_either, in_left, in_right}
use Rattle.nk_field.proofs.Ascending.{all_from_members}
use Rattle.nk_policy.specs.Policy.{Policy}
use Rattle.nk_policy.specs.Meaning.{Gives}
use Rattle.nk_policy.specs.After.{has_dup, after}
use Rattle.nk_policy.specs.Distinct.{HasDistinct}
use Rattle.nk_store.specs.StoreState.{StoreState, AreTidy, IsOver}
use Rattle.nk_store.proofs.InRange.{packet_in_range, packet_of_fields}
use Rattle.nk_determ.specs.Automaton.{IsAutomaton}
use Rattle.nk_witness.specs.declared.found.Side.{Side}
use Rattle.nk_witness.specs.declared.found.Side.TheVariants.{Left, Right}
use Rattle.nk_group.specs.Matched.{Matched}
use Rattle.nk_group.specs.Tagged.{set_of_tag}
use Rattle.nk_group.proofs.Matching.{of_second, matched_maps}
use Rattle.nk_merge.specs.Alike.{SetGives, AreAlike, AreTagsAlike, labels_after}
use Rattle.nk_merge.specs.Distinguish.{IsOfFirst, IsOfOne, IsLeastOfOne}
use Rattle.nk_merge.specs.Classes.{AreClasses, AreFirsts}
use Rattle.nk_merge.specs.SumsAfter.{sum_after}
use Rattle.nk_merge.proofs.Policies.{set_gives}
use Rattle.nk_compile.specs.Ready.{sets_of}
use Rattle.nk_compile.specs.Refusals.{found_from}
use Rattle.nk_compile.proofs.Results.{set_there}
use Rattle.nk_compact.specs.declared.compact.DistinguishingHistory.{DistinguishingHistory}
use Rattle.nk_compact.specs.Compacted.{IsOfFirstSetAlone, IsLeastAlone, IsClass, IsFirstSet, IsDistinguishingHistory, classes_distinguished, AreDistinguishingHistories}
use Rattle.nk_compact.specs.MergedTable.{GivesAfter, AreSetsAlike, AreTagClasses, IsOfClass}
use Rattle.nk_compact.specs.Told.{number_on_side, IsDistinguished, pairs_after, first_pairs, AreDistinguished}
use Rattle.nk_compact.proofs.Merging.{get_index, index_get}

-- what is left after the labels of a set, as a sum
sum_following : (p : Policy) (s : List ℕ) (x : Packet) (w : List Packet) (y : Packet) → Gives (sum_after p (labels_after s)) x w y ↔ GivesAfter p s x w y
sum_following p s x w y = (λ g. let h = from s g in (h.0, contains_from_in s h.0 h.1, h.2), λ h. there s h.0 (in_from_contains s h.0 h.1) h.2)
  where
    from : (ls : List ℕ) → Gives (sum_after p (labels_after ls)) x w y → (l : ℕ) × In ls l × Gives (after p (l + 1)) x w y
    from [] g = absurd g
    from (l ∷ ls) g = ⊎_elim (λ a. (l, inl refl, a)) (λ b. let h = from ls b in (h.0, inr h.1, h.2)) g

    there : (ls : List ℕ) (l : ℕ) → In ls l → Gives (after p (l + 1)) x w y → Gives (sum_after p (labels_after ls)) x w y
    there [] l i g = absurd i
    there (k ∷ ls) l i g = ⊎_elim (λ e. inl (subst (λ n. Gives (after p (n + 1)) x w y) e g)) (λ m. inr (there ls l m g)) i

-- the labels after a set are dups of the policy
abbrev pub AreDups : Policy → List ℕ → Type 0
AreDups p s = (l : ℕ) → Contains (labels_after s) l → has_dup p l ≡ true

module _ (fields : FieldTable) (p : Policy) (distinct : HasDistinct p) (st : StoreState) (states : List ℕ) (over : IsOver fields st) (auto : IsAutomaton st states 1 p) (tidy : AreTidy st) where
  -- what a set's states give
  gives_is : (s : List ℕ) → AreDups p s → (x : Packet) (w : List Packet) (y : Packet) → IsPacket fields x → SetGives st states (labels_after s) x w y ↔ GivesAfter p s x w y
  gives_is s dups x w y packet =
      let e = set_gives p distinct st states auto tidy (labels_after s) dups x w y (packet_in_range fields st x over packet) in
      let f = sum_following p s x w y in
      (λ g. f.0 (e.0 g), λ g. e.1 (f.1 g))

  -- two sets are alike
  pub alike_is : (s t : List ℕ) → AreDups p s → AreDups p t → AreAlike st states (labels_after s) (labels_after t) ↔ AreSetsAlike fields p s t
  alike_is s t sd td = (
    λ h x w y packet.
        let a = gives_is s sd x w y packet in
        let b = gives_is t td x w y packet in
        let e = h x (packet_in_range fields st x over packet) w y in
        (λ g. b.0 (e.0 (a.1 g)), λ g. a.0 (e.1 (b.1 g))),
    λ h x r w y.
        let packet = packet_of_fields fields st x over r in
        let a = gives_is s sd x w y packet in
        let b = gives_is t td x w y packet in
        let e = h x w y packet in
        (λ g. b.1 (e.0 (a.0 g)), λ g. a.1 (e.1 (b.0 g))),
  )

  -- a history of the first set alone
  first_is : (s t : List ℕ) → AreDups p s → AreDups p t → (f : Found) → IsOfFirst st states (labels_after s) (labels_after t) f ↔ IsOfFirstSetAlone fields p s t f
  first_is s t sd td f = (
    λ h.
        let packet = packet_of_fields fields st f.start over h.0 in
        (packet, (gives_is s sd f.start f.records f.last packet).0 h.1, λ g. h.2 ((gives_is t td f.start f.records f.last packet).1 g)),
    λ h. (packet_in_range fields st f.start over h.0, (gives_is s sd f.start f.records f.last h.0).1 h.1, λ g. h.2 ((gives_is t td f.start f.records f.last h.0).0 g)),
  )

  -- of one of both
  one_from : (s t : List ℕ) → AreDups p s → AreDups p t → (f : Found) → IsOfFirstSetAlone fields p s t f ⊎ IsOfFirstSetAlone fields p t s f → (k : Side) × IsOfOne st states (labels_after s) (labels_after t) k f
  one_from s t sd td f (inl h) = (Left, (first_is s t sd td f).1 h)
  one_from s t sd td f (inr h) = (Right, (first_is t s td sd f).1 h)

  -- the least one
  least_is : (s t : List ℕ) → AreDups p s → AreDups p t → (side : Side) (f : Found) (first second alone : ℕ) → alone ≡ number_on_side side first second → IsLeastOfOne st states (labels_after s) (labels_after t) side f →
      ((alone ≡ first) × IsLeastAlone fields p s t f) ⊎ ((alone ≡ second) × IsLeastAlone fields p t s f)
  least_is s t sd td Left f first second alone is h =
      let own = (first_is s t sd td f).0 h.0 in
      inl (is, (own, (inl own, λ g k. h.1.1 g (one_from s t sd td g k))))
  least_is s t sd td Right f first second alone is h =
      let own = (first_is t s td sd f).0 h.0 in
      inr (is, (own, (inl own, λ g k. h.1.1 g (one_from s t sd td g (⊎_elim (λ a. inr a) (λ b. inl b) k)))))

  module _ (ss : List (List ℕ)) (tags classes firsts : List ℕ) (dups : (i : ℕ) → i < length tags → AreDups p (set_of_tag ss tags i)) where
    -- the set at a place
    set_here : (i : ℕ) → i < length tags → slice_index_or (sets_of ss tags) i [] ≡ set_of_tag ss tags i
    set_here i lt = get_or-map (λ s. get_or ss s []) tags i 0 [] lt

    -- the classes are those of the tag sets
    pub tag_classes : AreClasses (AreTagsAlike st states ss tags) (length tags) classes → AreTagClasses fields p (sets_of ss tags) classes
    tag_classes k =
        let many : length (sets_of ss tags) ≡ length tags = length-map tags (λ s. get_or ss s []) in
        record {
          one_each = k.one_each ∙ sym many;
          same = λ i j li lj.
              let a = subst (λ n. i < n) many li in
              let b = subst (λ n. j < n) many lj in
              let e = alike_is (set_of_tag ss tags i) (set_of_tag ss tags j) (dups i a) (dups j b) in
              let f = k.same i j a b in (
                λ h. subst (λ s. AreSetsAlike fields p (slice_index_or (sets_of ss tags) i []) s) (sym (set_here j b))
                    (subst (λ s. AreSetsAlike fields p s (set_of_tag ss tags j)) (sym (set_here i a)) (e.0 (f.0 h))),
                λ h. f.1 (e.1 (subst (λ s. AreSetsAlike fields p (set_of_tag ss tags i) s) (set_here j b)
                    (subst (λ s. AreSetsAlike fields p s (slice_index_or (sets_of ss tags) j [])) (set_here i a) h))),
              );
          from_one = λ i li. k.from_one i (subst (λ n. i < n) many li);
          in_order = λ i c li. k.in_order i c (subst (λ n. i < n) many li);
        }

    module _ (count : length classes ≡ length tags) (from_one : (i : ℕ) → i < length tags → 1 ≤ slice_index classes i) (fm : AreFirsts classes firsts) where
      -- the set of the first member of a class
      first_set_is : (c : ℕ) → c < length firsts → (n : ℕ) → n ≡ suc c → IsFirstSet (sets_of ss tags) classes n (set_of_tag ss tags (slice_index firsts c))
      first_set_is c lt n is =
          let m = fm.member c lt in (
            slice_index firsts c,
            (get_index classes (slice_index firsts c) m.0 ∙ ap Some (m.1 ∙ sym is), λ j less q. fm.first c j lt (index_get classes j n q ∙ is) less),
            set_there ss tags (slice_index firsts c) (subst (λ k. slice_index firsts c < k) count m.0),
          )

      -- what is told of two classes tells them apart
      told_is : (i j : ℕ) → i < length firsts → j < length firsts → (a : DistinguishingHistory) → IsDistinguished st states ss tags firsts i j a → IsDistinguishingHistory fields p (sets_of ss tags) classes a
      told_is i j li lj a k =
          let inside : (c : ℕ) → c < length firsts → slice_index firsts c < length tags = λ c lt. subst (λ n. slice_index firsts c < n) count (fm.member c lt).0 in
          record {
            s = set_of_tag ss tags (slice_index firsts i);
            t = set_of_tag ss tags (slice_index firsts j);
            of_first = first_set_is i li a.first k.first_is;
            of_second = first_set_is j lj a.second k.second_is;
            least = least_is (set_of_tag ss tags (slice_index firsts i)) (set_of_tag ss tags (slice_index firsts j)) (dups (slice_index firsts i) (inside i li)) (dups (slice_index firsts j) (inside j lj)) k.side (found_from a.start a.history) a.first a.second a.alone k.alone_is k.least;
          }

      -- a class is one of so many
      class_is : (n : ℕ) → IsClass classes n ↔ ((c : ℕ) × (c < length firsts) × (n ≡ suc c))
      class_is zero = (
        λ h. let lt = within h.0 zero h.1 in let one = from_one h.0 (subst (λ k. h.0 < k) count lt) in absurd (omega (arith, one, index_get classes h.0 zero h.1)),
        λ h. absurd (omega (arith, h.2)),
      )
        where
          within : (i n : ℕ) → IsOfClass classes n i → i < length classes
          within i n e = slice_get_within classes i n e
      class_is (suc c) = (
        λ h. let lt = slice_get_within classes h.0 (suc c) h.1 in let le = fm.all h.0 lt in (c, omega (arith, le, index_get classes h.0 (suc c) h.1), refl),
        λ h.
            let e : c ≡ h.0 = omega (arith, h.2) in
            let m = fm.member c (subst (λ k. k < length firsts) (sym e) h.1) in
            (slice_index firsts c, get_index classes (slice_index firsts c) m.0 ∙ ap Some m.1),
      )

-- ---- pairs in order

-- the first pair comes before the second
abbrev IsBefore : ℕ × ℕ → ℕ × ℕ → Type 0
IsBefore a b = (a.0 < b.0) ⊎ ((a.0 ≡ b.0) × (a.1 < b.1))

-- each element comes before all that stand after it
abbrev InTurn : List (ℕ × ℕ) → Type 0
InTurn [] = Unit {0}
InTurn (q ∷ qs) = ((r : ℕ × ℕ) → In qs r → IsBefore q r) × InTurn qs

-- lists in turn, one after the other
turn_append : (xs ys : List (ℕ × ℕ)) → InTurn xs → InTurn ys → ((x y : ℕ × ℕ) → In xs x → In ys y → IsBefore x y) → InTurn (xs ++ ys)
turn_append [] ys a b h = b
turn_append (x ∷ xs) ys a b h = (λ r i. ⊎_elim (λ l. a.0 r l) (λ m. h x r (inl refl) m) (in_either xs ys r i), turn_append xs ys a.1 b (λ q r i j. h q r (inr i) j))

-- one place of a row
abbrev spot : ℕ → ℕ → List (ℕ × ℕ)
spot i j = cond (ltb i j) ((i, j) ∷ []) []

spot_from : (i j : ℕ) (q : ℕ × ℕ) → In (spot i j) q → (q ≡ (i, j)) × (i < j)
spot_from i j q h = by (ltb i j) refl h
  where
    by : (t : Bool) → ltb i j ≡ t → In (cond t ((i, j) ∷ []) []) q → (q ≡ (i, j)) × (i < j)
    by true e k = let lt : i < j = grind (arith, nat_tests, e) in ⊎_elim (λ x. (x, lt)) (λ n. absurd n) k
    by false e k = absurd k

spot_there : (i j : ℕ) → i < j → In {X = ℕ × ℕ} (spot i j) (i, j)
spot_there i j lt = let less : ltb i j ≡ true = grind (arith, nat_tests, lt) in subst (λ t. In {X = ℕ × ℕ} (cond t ((i, j) ∷ []) []) (i, j)) (sym less) (inl refl)

spot_turn : (i j : ℕ) → InTurn (spot i j)
spot_turn i j = by (ltb i j)
  where
    by : (t : Bool) → InTurn (cond t ((i, j) ∷ []) [])
    by true = ((λ r k. absurd k), tt)
    by false = tt

-- a row has the places after i
row_from : (i n : ℕ) (q : ℕ × ℕ) → In (pairs_after i n) q → (q.0 ≡ i) × (i < q.1) × (q.1 < n)
row_from i zero q h = absurd h
row_from i (suc n) q h =
    ⊎_elim
    (λ a. let r = row_from i n q a in (r.0, r.1, let lt = r.2 in omega (arith, lt)))
    (λ b. let s = spot_from i n q b in (ap (λ (k : ℕ × ℕ). k.0) s.0, let e = ap (λ (k : ℕ × ℕ). k.1) s.0 in omega (arith, e, s.1), let e = ap (λ (k : ℕ × ℕ). k.1) s.0 in omega (arith, e)))
    (in_either (pairs_after i n) (spot i n) q h)

row_there : (i n j : ℕ) → i < j → j < n → In {X = ℕ × ℕ} (pairs_after i n) (i, j)
row_there i zero j a b = absurd (omega (arith, b))
row_there i (suc n) j a b = by (row_there i n j a) (either j n b)
  where
    either : (k m : ℕ) → k < suc m → (k < m) ⊎ (k ≡ m)
    either zero zero l = inr refl
    either zero (suc m) l = inl (omega arith)
    either (suc k) zero l = absurd (omega (arith, l))
    either (suc k) (suc m) l = ⊎_elim (λ x. inl (omega (arith, x))) (λ x. inr (ap suc x)) (either k m (omega (arith, l)))

    by : (j < n → In {X = ℕ × ℕ} (pairs_after i n) (i, j)) → (j < n) ⊎ (j ≡ n) → In {X = ℕ × ℕ} (pairs_after i n ++ spot i n) (i, j)
    by f (inl l) = in_left (pairs_after i n) (spot i n) (i, j) (f l)
    by f (inr e) = in_right (pairs_after i n) (spot i n) (i, j) (subst (λ m. In {X = ℕ × ℕ} (spot i m) (i, j)) e (spot_there i j a))

row_turn : (i n : ℕ) → InTurn (pairs_after i n)
row_turn i zero = tt
row_turn i (suc n) =
    turn_append (pairs_after i n) (spot i n) (row_turn i n) (spot_turn i n) (λ x y a b.
    let r = row_from i n x a in
    let s = spot_from i n y b in
    inr (r.0 ∙ sym (ap (λ (k : ℕ × ℕ). k.0) s.0), let e = ap (λ (k : ℕ × ℕ). k.1) s.0 in omega (arith, e, r.2)))

-- and all rows
rows_from : (n m : ℕ) (q : ℕ × ℕ) → In (first_pairs n m) q → (q.0 < m) × (q.0 < q.1) × (q.1 < n)
rows_from n zero q h = absurd h
rows_from n (suc m) q h =
    ⊎_elim
    (λ a. let r = rows_from n m q a in (let lt = r.0 in omega (arith, lt), r.1, r.2))
    (λ b. let r = row_from m n q b in (let e = r.0 in omega (arith, e), omega (arith, r.0, r.1), r.2))
    (in_either (first_pairs n m) (pairs_after m n) q h)

rows_there : (n m i j : ℕ) → i < m → i < j → j < n → In {X = ℕ × ℕ} (first_pairs n m) (i, j)
rows_there n zero i j a b c = absurd (omega (arith, a))
rows_there n (suc m) i j a b c = by (λ l. rows_there n m i j l b c) (either i m a)
  where
    either : (k m : ℕ) → k < suc m → (k < m) ⊎ (k ≡ m)
    either zero zero l = inr refl
    either zero (suc m) l = inl (omega arith)
    either (suc k) zero l = absurd (omega (arith, l))
    either (suc k) (suc m) l = ⊎_elim (λ x. inl (omega (arith, x))) (λ x. inr (ap suc x)) (either k m (omega (arith, l)))

    by : (i < m → In {X = ℕ × ℕ} (first_pairs n m) (i, j)) → (i < m) ⊎ (i ≡ m) → In {X = ℕ × ℕ} (first_pairs n m ++ pairs_after m n) (i, j)
    by f (inl l) = in_left (first_pairs n m) (pairs_after m n) (i, j) (f l)
    by f (inr e) = in_right (first_pairs n m) (pairs_after m n) (i, j) (subst (λ k. In {X = ℕ × ℕ} (pairs_after k n) (i, j)) e (row_there i n j b c))

rows_turn : (n m : ℕ) → InTurn (first_pairs n m)
rows_turn n zero = tt
rows_turn n (suc m) =
    turn_append (first_pairs n m) (pairs_after m n) (rows_turn n m) (row_turn m n) (λ x y a b.
    let r = rows_from n m x a in
    let s = row_from m n y b in
    inl (let lt = r.0 in let e = s.0 in omega (arith, lt, e)))

-- what is told in order is in order
told_turn : (P : ℕ × ℕ → DistinguishingHistory → Type 0) → ((q : ℕ × ℕ) (a : DistinguishingHistory) → P q a → (a.first ≡ suc q.0) × (a.second ≡ suc q.1)) → (qs : List (ℕ × ℕ)) (all : List DistinguishingHistory) → InTurn qs → Matched P qs all →
    AllPairs (λ (a b : DistinguishingHistory). (a.first < b.first) ⊎ ((a.first ≡ b.first) × (a.second < b.second))) all
told_turn P h [] [] t m = λ i j d lt less. absurd (omega (arith, less))
told_turn P h [] (a ∷ more) t m = absurd m
told_turn P h (q ∷ qs) [] t m = absurd m
told_turn P h (q ∷ qs) (a ∷ more) t m =
    AllPairs-cons (λ (a b : DistinguishingHistory). (a.first < b.first) ⊎ ((a.first ≡ b.first) × (a.second < b.second))) a more
    (all_from_members (λ (b : DistinguishingHistory). (a.first < b.first) ⊎ ((a.first ≡ b.first) × (a.second < b.second))) more (λ b i.
    let s = of_second P qs more b m.1 i in
    let e = h q a m.0 in
    let f = h s.0 b s.2 in
    ⊎_elim
    (λ lt. inl (omega (arith, lt, e.0, f.0)))
    (λ k. inr (e.0 ∙ ap suc k.0 ∙ sym f.0, let lt = k.1 in omega (arith, lt, e.1, f.1)))
    (t.0 s.0 s.1)))
    (told_turn P h qs more t.1 m.1)

-- both numbers one more
abbrev raised : ℕ × ℕ → ℕ × ℕ
raised q = (suc q.0, suc q.1)

module _ (fields : FieldTable) (p : Policy) (distinct : HasDistinct p) (st : StoreState) (states : List ℕ) (over : IsOver fields st) (auto : IsAutomaton st states 1 p) (tidy : AreTidy st)
    (ss : List (List ℕ)) (tags classes firsts : List ℕ) (dups : (i : ℕ) → i < length tags → AreDups p (set_of_tag ss tags i))
    (count : length classes ≡ length tags) (from_one : (i : ℕ) → i < length tags → 1 ≤ slice_index classes i) (fm : AreFirsts classes firsts) where
  -- what is told of any two classes in turn tells any two apart
  pub told_all : (aparts : List DistinguishingHistory) → AreDistinguished st states ss tags firsts (first_pairs (length firsts) (length firsts)) aparts → AreDistinguishingHistories fields p (sets_of ss tags) classes aparts
  told_all aparts k =
      let n = length firsts in
      let numbers : map classes_distinguished aparts ≡ map raised (first_pairs n n) =
      matched_maps (λ (q : ℕ × ℕ) (a : DistinguishingHistory). IsDistinguished st states ss tags firsts q.0 q.1 a) raised classes_distinguished (λ q a t. ap (λ x. (x, a.second)) t.first_is ∙ ap (λ y. (suc q.0, y)) t.second_is) (first_pairs n n) aparts k in
      record {
        exactly = λ i j. (
          λ c.
              let m = from_mapped raised (first_pairs n n) (i, j) (in_from_contains (map raised (first_pairs n n)) (i, j) (subst (λ (l : List (ℕ × ℕ)). Contains l (i, j)) numbers c)) in
              let r = rows_from n n m.0 m.1 in
              let a : i ≡ suc m.0.0 = ap (λ (k : ℕ × ℕ). k.0) m.2 in
              let b : j ≡ suc m.0.1 = ap (λ (k : ℕ × ℕ). k.1) m.2 in
              let lt = r.1 in (
                omega (arith, a, b, lt),
                (class_is fields p distinct st states over auto tidy ss tags classes firsts dups count from_one fm i).1 (m.0.0, r.0, a),
                (class_is fields p distinct st states over auto tidy ss tags classes firsts dups count from_one fm j).1 (m.0.1, r.2, b),
              ),
          λ h.
              let a = (class_is fields p distinct st states over auto tidy ss tags classes firsts dups count from_one fm i).0 h.1 in
              let b = (class_is fields p distinct st states over auto tidy ss tags classes firsts dups count from_one fm j).0 h.2 in
              let lt : a.0 < b.0 = let l = h.0 in omega (arith, l, a.2, b.2) in
              let there = in_mapped raised (first_pairs n n) (a.0, b.0) (rows_there n n a.0 b.0 a.1 lt b.1) in
              let same : (suc a.0, suc b.0) ≡ (i, j) = ap (λ x. (x, suc b.0)) (sym a.2) ∙ ap (λ y. (i, y)) (sym b.2) in
              subst (λ (l : List (ℕ × ℕ)). Contains l (i, j)) (sym numbers) (contains_from_in (map raised (first_pairs n n)) (i, j) (subst (λ (q : ℕ × ℕ). In (map raised (first_pairs n n)) q) same there)),
        );
        in_order = told_turn (λ (q : ℕ × ℕ) (a : DistinguishingHistory). IsDistinguished st states ss tags firsts q.0 q.1 a) (λ q a t. (t.first_is, t.second_is)) (first_pairs n n) aparts (rows_turn n n) k;
        each = all_from_members (IsDistinguishingHistory fields p (sets_of ss tags) classes) aparts (λ a i.
            let s = of_second (λ (q : ℕ × ℕ) (a : DistinguishingHistory). IsDistinguished st states ss tags firsts q.0 q.1 a) (first_pairs n n) aparts a k i in
            let r = rows_from n n s.0 s.1 in
            told_is fields p distinct st states over auto tidy ss tags classes firsts dups count from_one fm s.0.0 s.0.1 r.0 r.2 a s.2);
      }
