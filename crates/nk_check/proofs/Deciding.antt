-- Where an automaton of both policies is there, whether a row of predicates meets its parts is decided.
use Rattle.std.proofs.Common.{◌≡◌, ℕ, zero, suc, ◌+◌, ◌<◌, ◌≤◌, true, ◌⊎◌, inl, inr, ⊎_elim, List, [], ◌∷◌, ◌++◌, length, refl, sym, ap, subst, ◌∙◌, arith}
use Rattle.std.specs.Prelude.{◌↔◌, Contains, slice_index}
use Rattle.std.proofs.lemmas.Bool.Decides.{leb_tells}
use Rattle.nk_field.specs.declared.packet.Packet.{Packet}
use Rattle.nk_field.specs.Packet.{FieldTable, IsPacket as IsPacketOf}
use Rattle.nk_field.proofs.Lists.{In, in_from_contains, contains_from_in, in_decided, numbers_decided, Decided}
use Rattle.nk_policy.specs.Policy.{Policy, Policies, test, range, sum_of, seq_of, not_of, no_part, part, dups_of, is_predicate, are_predicates}
use Rattle.nk_policy.specs.Meaning.{way_of, some_way_of, way_of_all}
use Rattle.nk_policy.proofs.ListParts.{none_left, none_right}
use Rattle.nk_policy.proofs.Predicates.{predicate_keeps}
use Rattle.nk_policy.proofs.Tests.{both_true}
use Rattle.nk_store.specs.Nodes.{InRange}
use Rattle.nk_store.specs.StoreState.{StoreState, IsStorePacket}
use Rattle.nk_store.proofs.InRange.{packet_in_range, packet_of_fields}
use Rattle.nk_determ.specs.Exact.{Sends}
use Rattle.nk_determ.specs.States.{StateLeads}
use Rattle.nk_auto.proofs.Sending.{sent_in_range}
use Rattle.nk_reach.specs.Sides.{EndsAt}
use Rattle.nk_goal.proofs.Growing.{place_of}
use Rattle.nk_runs.proofs.Listings.{some_decided, sends_decided}
use Rattle.nk_runs.proofs.Stands.{are_states}
use Rattle.nk_cert.specs.Together.{either_of}
use Rattle.nk_cert.specs.Certificates.{RowPosition, at_start, at_dups, CertRow, later_row, Holds, SomeEndsAt, RecordsNext, HasMembers, MeetsPosition, MeetsStart, MeetsFinals, MeetsHop, HasAllPackets}
use Rattle.nk_cert.specs.Verdicts.{ArePartsDecided}
use Rattle.nk_cert.specs.Levelled.{IsAutomatonOfBoth}
use Rattle.nk_cert.specs.Checked.{labels_at, IsSetAt}
use Rattle.nk_check.proofs.Findings.{each_decided}
use Rattle.nk_cert.proofs.Levels.{ends_decided, both_decided, decided_for, above_zero}
use Rattle.nk_cert.proofs.CertRows.{places, left_there, right_there, next_is}

-- an implication of decided facts
implies_decided : {P Q : Type 0} → Decided P → Decided Q → Decided (P → Q)
implies_decided d (inl y) = inl (λ x. y)
implies_decided (inl x) (inr other) = inr (λ h. other (h x))
implies_decided (inr never) (inr other) = inl (λ x. absurd (never x))

-- an order of numbers
order_decided : (m n : ℕ) → Decided (m ≤ n)
order_decided m n = elim (leb_tells m n) [
  | inl less ↦ inl less.1
  | inr more ↦ let h = more.1 in inr (λ less. omega (arith, h, less))
]

-- a fact of each number below a bound
below_decided : (P : ℕ → Type 0) (n : ℕ) → ((v : ℕ) → v < n → Decided (P v)) → Decided ((v : ℕ) → v < n → P v)
below_decided P zero d = inl (λ v lt. absurd (omega (arith, lt)))
below_decided P (suc n) d = by (below_decided P n (λ v lt. d v (omega (arith, lt)))) (d n (omega arith))
  where
    by : Decided ((v : ℕ) → v < n → P v) → Decided (P n) → Decided ((v : ℕ) → v < suc n → P v)
    by (inr other) k = inr (λ h. other (λ v lt. h v (omega (arith, lt))))
    by (inl all) (inr other) = inr (λ h. other (h n (omega arith)))
    by (inl all) (inl last) =
        inl (λ v lt.
        ⊎_elim
        (λ e. subst P (sym e) last)
        (λ less. all v (omega (arith, less, lt)))
        (numbers_decided v n))

-- the largest values after the first
abbrev rest_of : List ℕ → List ℕ
rest_of [] = []
rest_of (x ∷ xs) = xs

rest_value : (xs : List ℕ) (k : ℕ) → slice_index (rest_of xs) k ≡ slice_index xs (suc k)
rest_value [] k = refl
rest_value (x ∷ xs) k = refl

-- each value of the list is at most the one beside it
abbrev IsWithin : List ℕ → List ℕ → Type 0
IsWithin maxes pk = (k : ℕ) → slice_index pk k ≤ slice_index maxes k

-- one value more
one_more : (maxes : List ℕ) (v : ℕ) (pk : List ℕ) → v < suc (slice_index maxes 0) → IsWithin (rest_of maxes) pk → IsWithin maxes (v ∷ pk)
one_more maxes v pk lt within zero = omega (arith, lt)
one_more maxes v pk lt within (suc k) = subst (λ m. slice_index pk k ≤ m) (rest_value maxes k) (within k)

none_more : (maxes : List ℕ) → IsWithin maxes []
none_more maxes k = omega arith

-- a fact of each list of n values in range
lists_decided_in : (n : ℕ) (maxes : List ℕ) (P : List ℕ → Type 0) → ((pk : List ℕ) → length pk ≡ n → IsWithin maxes pk → Decided (P pk))
    → Decided ((pk : List ℕ) → length pk ≡ n → IsWithin maxes pk → P pk)
lists_decided_in zero maxes P d =
    ⊎_elim
    (λ h. inl (λ pk e within. none pk e h))
    (λ other. inr (λ h. other (h [] refl (none_more maxes))))
    (d [] refl (none_more maxes))
  where
    none : (pk : List ℕ) → length pk ≡ 0 → P [] → P pk
    none [] e h = h
    none (v ∷ pk) e h = absurd (omega (arith, e))
lists_decided_in (suc n) maxes P d =
    ⊎_elim
    (λ h. inl (λ pk e within. some h pk e within))
    (λ other. inr (λ h. other (λ v lt pk e within. h (v ∷ pk) (ap suc e) (one_more maxes v pk lt within))))
    (below_decided
    (λ v. (pk : List ℕ) → length pk ≡ n → IsWithin (rest_of maxes) pk → P (v ∷ pk))
    (suc (slice_index maxes 0))
    (λ v lt. lists_decided_in n (rest_of maxes) (λ pk. P (v ∷ pk)) (λ pk e within. d (v ∷ pk) (ap suc e) (one_more maxes v pk lt within))))
  where
    some : ((v : ℕ) → v < suc (slice_index maxes 0) → (pk : List ℕ) → length pk ≡ n → IsWithin (rest_of maxes) pk → P (v ∷ pk))
        → (pk : List ℕ) → length pk ≡ suc n → IsWithin maxes pk → P pk
    some h [] e within = absurd (omega (arith, e))
    some h (v ∷ pk) e within =
        let first = within 0 in
        h v (omega (arith, first)) pk (omega (arith, e)) (λ k. subst (λ m. slice_index pk k ≤ m) (sym (rest_value maxes k)) (within (suc k)))

-- a fact of each packet in range
packets_decided : (maxes : List ℕ) (P : List ℕ → Type 0) → ((pk : List ℕ) → InRange maxes pk → Decided (P pk))
    → Decided ((pk : List ℕ) → InRange maxes pk → P pk)
packets_decided maxes P d =
    decided_for (λ h pk r. h pk r.0 r.1) (λ h pk e within. h pk (e, within)) (lists_decided_in 18 maxes P (λ pk e within. d pk (e, within)))

-- whether a predicate keeps a packet
module _ {A : Type 0} (mark : ℕ → Packet → A) where
  mutual
    keeps_decided : (p : Policy) → is_predicate p ≡ true → (pk : Packet) → Decided (way_of p mark pk [] pk)
    keeps_decided (test f n) h pk =
        decided_for (λ e. (e, refl, refl)) (λ k. k.0) (numbers_decided (slice_index pk f) n)
    keeps_decided (range f lo hi) h pk =
        decided_for
        (λ e. (e.0, e.1, refl, refl))
        (λ k. (k.0, k.1))
        (both_decided (order_decided lo (slice_index pk f)) (order_decided (slice_index pk f) hi))
    keeps_decided (sum_of ps) h pk = some_keeps_decided ps h pk
    keeps_decided (seq_of ps) h pk = all_keep_decided ps h pk
    keeps_decided (not_of p) h pk =
        decided_for (λ other. ((refl, refl), other)) (λ k. k.1) (opposite (keeps_decided p h pk))
      where
        opposite : Decided (way_of p mark pk [] pk) → Decided (way_of p mark pk [] pk → ⊥)
        opposite (inl k) = inr (λ other. other k)
        opposite (inr other) = inl other
    keeps_decided p h pk = absurd cc

    some_keeps_decided : (ps : Policies) → are_predicates ps ≡ true → (pk : Packet) → Decided (some_way_of ps mark pk [] pk)
    some_keeps_decided no_part h pk = inr (λ k. k)
    some_keeps_decided (part p ps) h pk =
        let b = both_true (is_predicate p) (are_predicates ps) h in
        either (keeps_decided p b.0 pk) (some_keeps_decided ps b.1 pk)
      where
        either : Decided (way_of p mark pk [] pk) → Decided (some_way_of ps mark pk [] pk)
            → Decided (way_of p mark pk [] pk ⊎ some_way_of ps mark pk [] pk)
        either (inl k) d = inl (inl k)
        either (inr other) (inl k) = inl (inr k)
        either (inr other) (inr never) = inr (λ h. ⊎_elim (λ k. other k) (λ k. never k) h)

    all_keep_decided : (ps : Policies) → are_predicates ps ≡ true → (pk : Packet) → Decided (way_of_all ps mark pk [] pk)
    all_keep_decided no_part h pk = inl (refl, refl)
    all_keep_decided (part p ps) h pk =
        let b = both_true (is_predicate p) (are_predicates ps) h in
        decided_for (λ k. ([], [], pk, refl, k.0, k.1)) (λ k. apart b.0 k.0 k.1 k.2 k.3 k.4 k.5)
        (both_decided (keeps_decided p b.0 pk) (all_keep_decided ps b.1 pk))
      where
        apart : is_predicate p ≡ true → (u v : List A) (x : Packet) → [] ≡ u ++ v → way_of p mark pk u x → way_of_all ps mark x v pk
            → way_of p mark pk [] pk × way_of_all ps mark pk [] pk
        apart i u v x e k l =
            let eu = none_left u v e in
            let ev = none_right u v e in
            let is = (predicate_keeps mark p i pk u x k).1 in
            let k' = subst (λ z. way_of p mark pk z x) eu k in
            let l' = subst (λ z. way_of_all ps mark x z pk) ev l in
            (subst (λ z. way_of p mark pk [] z) is k', subst (λ z. way_of_all ps mark z [] pk) is l')

pub holds_decided : (p : Policy) → is_predicate p ≡ true → (pk : Packet) → Decided (Holds p pk)
holds_decided p h pk = keeps_decided (λ l x. x) p h pk

module _ (fields : FieldTable) (st : StoreState) (states : List ℕ) (left right : ℕ) (p q : Policy) (a : IsAutomatonOfBoth fields st states left right p q) where
  -- a fact of each packet of the fields
  of_fields : (P : List ℕ → Type 0) → ((pk : List ℕ) → IsPacketOf fields pk → Decided (P pk)) → Decided ((pk : List ℕ) → IsPacketOf fields pk → P pk)
  of_fields P d =
      decided_for
      (λ h pk ok. h pk (packet_in_range fields st pk a.over ok))
      (λ h pk r. h pk (packet_of_fields fields st pk a.over r))
      (packets_decided st.maxes P (λ pk r. d pk (packet_of_fields fields st pk a.over r)))

  start_decided : (row : CertRow) → is_predicate row.predicate ≡ true → Decided (MeetsStart fields p q row)
  start_decided row h = by row.row_position
    where
      by : (row_position : RowPosition) → Decided (HasAllPackets fields row_position row.predicate)
      by at_start = of_fields (λ pk. Holds row.predicate pk) (λ pk ok. holds_decided row.predicate h pk)
      by (at_dups positions) = inl tt

  module _ (row : CertRow) (h : is_predicate row.predicate ≡ true) (ok : MeetsPosition fields p q row) where
    self : IsSetAt row.row_position (labels_at row.row_position)
    self l = (λ c. c, λ c. c)

    -- the ends of both sides, by the states
    left_is : (pk y : Packet) → IsStorePacket st pk → EndsAt st states left (1 + dups_of p) 1 (labels_at row.row_position) pk y ↔ SomeEndsAt p row.row_position pk y
    left_is pk y r = left_there fields st states left right p q a row.row_position ok (labels_at row.row_position) self pk y r

    right_is : (pk y : Packet) → IsStorePacket st pk → EndsAt st states right (1 + dups_of p) 2 (labels_at row.row_position) pk y ↔ SomeEndsAt q row.row_position pk y
    right_is pk y r = right_there fields st states left right p q a row.row_position ok (labels_at row.row_position) self pk y r

    -- whether both sides end at y
    alike_decided : (pk : Packet) → IsStorePacket st pk → (y : Packet) → Decided (SomeEndsAt p row.row_position pk y ↔ SomeEndsAt q row.row_position pk y)
    alike_decided pk r y =
        let l = left_is pk y r in
        let m = right_is pk y r in
        let dl = decided_for l.0 l.1 (ends_decided st states left (1 + dups_of p) 1 (labels_at row.row_position) pk y) in
        let dm = decided_for m.0 m.1 (ends_decided st states right (1 + dups_of p) 2 (labels_at row.row_position) pk y) in
        both_decided (implies_decided dl dm) (implies_decided dm dl)

    -- what a side ends at is in range
    side_range : (d k : ℕ) (pk y : Packet) → IsStorePacket st pk → EndsAt st states d (1 + dups_of p) k (labels_at row.row_position) pk y → IsStorePacket st y
    side_range d k pk y r e =
        ⊎_elim
        (λ z. sent_in_range st d pk y 0 a.tidy r z.1)
        (λ z. sent_in_range st (slice_index states z.0) pk y 0 a.tidy r z.4)
        e

    finals_decided : Decided (MeetsFinals fields p q row)
    finals_decided = of_fields
        (λ pk. Holds row.predicate pk → (y : Packet) → SomeEndsAt p row.row_position pk y ↔ SomeEndsAt q row.row_position pk y)
        (λ pk good.
        let r = packet_in_range fields st pk a.over good in
        decided_for
        (λ f k y. (
          λ e. (f k y (side_range left 1 pk y r ((left_is pk y r).1 e))).0 e,
          λ e. (f k y (side_range right 2 pk y r ((right_is pk y r).1 e))).1 e,
        ))
        (λ f k y within. f k y)
        (implies_decided (holds_decided row.predicate h pk)
        (packets_decided st.maxes (λ y. SomeEndsAt p row.row_position pk y ↔ SomeEndsAt q row.row_position pk y) (λ y within. alike_decided pk r y))))

    -- what is recorded next, by the states
    next_for : (pk x : Packet) (l : ℕ) → IsStorePacket st pk → RecordsNext p q row.row_position pk x l ↔ ((0 < l) × StateLeads st states (labels_at row.row_position) pk x l)
    next_for pk x l r = next_is fields st states left right p q a row.row_position ok (labels_at row.row_position) self pk x l r

    next_decided : (pk x : Packet) (l : ℕ) → IsStorePacket st pk → Decided (RecordsNext p q row.row_position pk x l)
    next_decided pk x l r =
        let n = next_for pk x l r in
        decided_for n.1 n.0
        (both_decided (above_zero l)
        (decided_for (λ k. (k.0, contains_from_in (labels_at row.row_position) k.0 k.1, k.2)) (λ k. (k.0, in_from_contains (labels_at row.row_position) k.0 k.1, k.2))
        (some_decided (λ j. Sends st (slice_index states j) pk x l) (λ j. sends_decided st (slice_index states j) pk x l) (labels_at row.row_position))))

    next_range : (pk x : Packet) (l : ℕ) → IsStorePacket st pk → RecordsNext p q row.row_position pk x l → IsStorePacket st x
    next_range pk x l r n =
        let k = ((next_for pk x l r).0 n).1 in sent_in_range st (slice_index states k.0) pk x l a.tidy r k.2

    next_below : (pk x : Packet) (l : ℕ) → IsStorePacket st pk → RecordsNext p q row.row_position pk x l → l < length states
    next_below pk x l r n =
        let k = ((next_for pk x l r).0 n).1 in
        let at = places fields st states left right p q a row.row_position ok (labels_at row.row_position) self in
        (are_states st states (either_of p q) a.states_are).targets k.0 pk x l (place_of (length states) (labels_at row.row_position) k.0 at k.1) r k.2

    -- whether a list has exactly the numbers with which x is recorded next
    members_decided : (pk x : Packet) → IsStorePacket st pk → (positions : List ℕ) → Decided (HasMembers (RecordsNext p q row.row_position pk x) positions)
    members_decided pk x r positions =
        decided_for
        (λ k l. (λ c. k.0 l (in_from_contains positions l c), λ n. k.1 l (next_below pk x l r n) n))
        (λ k. ((λ l i. (k l).0 (contains_from_in positions l i)), λ l lt n. (k l).1 n))
        (both_decided
        (each_decided (λ l. RecordsNext p q row.row_position pk x l) (λ l. next_decided pk x l r) positions)
        (below_decided (λ l. RecordsNext p q row.row_position pk x l → Contains positions l) (length states) (λ l lt.
        implies_decided (next_decided pk x l r)
        (decided_for (λ i. contains_from_in positions l i) (λ c. in_from_contains positions l c) (in_decided numbers_decided positions l)))))

    -- whether some of these rows has them, and the packet
    leads_decided : (pk x : Packet) → IsStorePacket st pk → (rs : List CertRow) → ((z : CertRow) → In rs z → is_predicate z.predicate ≡ true)
        → Decided ((positions : List ℕ) × (predicate : Policy) × In rs (later_row positions predicate) × HasMembers (RecordsNext p q row.row_position pk x) positions × Holds predicate x)
    leads_decided pk x r [] all = inr (λ k. k.2)
    leads_decided pk x r (z ∷ rs) all =
        by z.row_position refl (leads_decided pk x r rs (λ w i. all w (inr i)))
      where
        by : (row_position : RowPosition) → z.row_position ≡ row_position
            → Decided ((positions : List ℕ) × (predicate : Policy) × In rs (later_row positions predicate) × HasMembers (RecordsNext p q row.row_position pk x) positions × Holds predicate x)
            → Decided ((positions : List ℕ) × (predicate : Policy) × In (z ∷ rs) (later_row positions predicate) × HasMembers (RecordsNext p q row.row_position pk x) positions × Holds predicate x)
        by row_position e (inl k) = inl (k.0, k.1, inr k.2, k.3, k.4)
        by at_start e (inr never) =
            inr (λ k.
            ⊎_elim
            (λ is. let f : at_dups k.0 ≡ at_start = ap (λ (w : CertRow). w.row_position) is ∙ e in cc)
            (λ i. never (k.0, k.1, i, k.3, k.4))
            k.2)
        by (at_dups ps) e (inr never) =
            ⊎_elim
            (λ k. inl (ps, z.predicate, inl (ap (λ (w : RowPosition). record { row_position = w; predicate = z.predicate }) (sym e)), k.0, k.1))
            (λ other.
            inr (λ k.
            ⊎_elim
            (λ is.
            let f : at_dups k.0 ≡ at_dups ps = ap (λ (w : CertRow). w.row_position) is ∙ e in
            let same : k.0 ≡ ps = ap labels_at f in
            let pred : k.1 ≡ z.predicate = ap (λ (w : CertRow). w.predicate) is in
            other (subst (λ s. HasMembers (RecordsNext p q row.row_position pk x) s) same k.3, subst (λ s. Holds s x) pred k.4))
            (λ i. never (k.0, k.1, i, k.3, k.4))
            k.2))
            (both_decided (members_decided pk x r ps) (holds_decided z.predicate (all z (inl refl)) x))

    hop_decided : (all : List CertRow) → ((z : CertRow) → Contains all z → is_predicate z.predicate ≡ true) → Decided (MeetsHop fields p q all row)
    hop_decided all preds =
        decided_for
        (λ f pk x l good here n.
        let r = packet_in_range fields st pk a.over good in
        let k = f pk good here x (next_range pk x l r n) l (next_below pk x l r n) n in
        (k.0, k.1, contains_from_in all (later_row k.0 k.1) k.2, k.3, k.4))
        (λ f pk good here x within l lt n.
        let k = f pk x l good here n in (k.0, k.1, in_from_contains all (later_row k.0 k.1) k.2, k.3, k.4))
        (of_fields
        (λ pk. Holds row.predicate pk → (x : Packet) → IsStorePacket st x → (l : ℕ) → l < length states → RecordsNext p q row.row_position pk x l
        → (positions : List ℕ) × (predicate : Policy) × In all (later_row positions predicate) × HasMembers (RecordsNext p q row.row_position pk x) positions × Holds predicate x)
        (λ pk good.
        let r = packet_in_range fields st pk a.over good in
        implies_decided (holds_decided row.predicate h pk)
        (packets_decided st.maxes
        (λ x. (l : ℕ) → l < length states → RecordsNext p q row.row_position pk x l
        → (positions : List ℕ) × (predicate : Policy) × In all (later_row positions predicate) × HasMembers (RecordsNext p q row.row_position pk x) positions × Holds predicate x)
        (λ x within.
        below_decided
        (λ l. RecordsNext p q row.row_position pk x l
        → (positions : List ℕ) × (predicate : Policy) × In all (later_row positions predicate) × HasMembers (RecordsNext p q row.row_position pk x) positions × Holds predicate x)
        (length states)
        (λ l lt.
        implies_decided (next_decided pk x l r)
        (leads_decided pk x r all (λ z i. preds z (contains_from_in all z i))))))))

  -- so the parts of each row of predicates are decided
  pub parts_decided : (all : List CertRow) → ((z : CertRow) → Contains all z → is_predicate z.predicate ≡ true)
      → (row : CertRow) → Contains all row → ArePartsDecided fields p q all row
  parts_decided all preds row i = record {
    start = start_decided row (preds row i);
    finals = λ ok. finals_decided row (preds row i) ok;
    hop = λ ok. hop_decided row (preds row i) ok all preds;
  }
