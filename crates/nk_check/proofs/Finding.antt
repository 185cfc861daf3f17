-- What is found of a certificate by its rows' sets of labels and of packets is what is found of it by the definition.
use Rattle.std.proofs.Common.{◌≡◌, ℕ, suc, zero, ◌+◌, ◌<◌, ◌≤◌, true, inl, inr, ⊎_elim, List, [], ◌∷◌, ◌++◌, length, get_or, map, take, drop, Some, None, refl, sym, ap, subst, ◌∙◌, arith}
use Rattle.std.specs.Prelude.{◌↔◌, Contains}
use Rattle.std.proofs.lemmas.Bool.{cases_lt}
use Rattle.nk_field.specs.Packet.{FieldTable}
use Rattle.nk_field.proofs.Lists.{In, in_from_contains, contains_from_in, Decided}
use Rattle.nk_field.proofs.Ascending.{all_from_members}
use Rattle.nk_policy.specs.Policy.{Policy, dups_of}
use Rattle.nk_store.specs.declared.node.Out.{Out}
use Rattle.nk_store.specs.StoreState.{StoreState, IsStorePacket}
use Rattle.nk_store.proofs.InRange.{packet_in_range, packet_of_fields}
use Rattle.nk_determ.specs.Sets.{HasAscendingSets}
use Rattle.nk_sets.specs.PacketSets.{is_in}
use Rattle.nk_sets.proofs.Kept.{get_or_same}
use Rattle.nk_sets.proofs.Rising.{rising_one}
use Rattle.nk_determ.specs.Pairs.{AreLabelsBelow}
use Rattle.nk_goal.specs.Goals.{PairHasViolation, PairHasNoViolation}
use Rattle.nk_goal.proofs.Places.{under_at, entry_of}
use Rattle.nk_goal.proofs.Growing.{place_of, step_places}
use Rattle.nk_runs.proofs.Stands.{are_states}
use Rattle.nk_cert.specs.declared.certificate.CertPart.{CertPart}
use Rattle.nk_cert.specs.declared.certificate.CertPart.TheVariants.{Position, Start, Finals, Hop}
use Rattle.nk_cert.specs.declared.certificate.Verdict.{Verdict}
use Rattle.nk_cert.specs.declared.certificate.Verdict.TheVariants.{Valid, Invalid}
use Rattle.nk_cert.specs.Together.{either_of}
use Rattle.nk_cert.specs.Certificates.{at_start, at_dups, RowValue, CertificateValue, CertRow, later_row, certificate_rows, Holds, IsRowPositionOf, HasAllPackets, MeetsPosition, MeetsStart, MeetsFinals, MeetsHop, MeetsAll}
use Rattle.nk_cert.specs.Verdicts.{FailsIn, FailsFirst, IsFinding}
use Rattle.nk_cert.specs.Levelled.{IsAutomatonOfBoth, IsOneSided, HasEach}
use Rattle.nk_cert.specs.Checked.{labels_at, IsSetAt, HasNoViolation, StepsLeadToRows}
use Rattle.nk_cert.specs.Values.{row_part, finding_of}
use Rattle.nk_check.specs.Judged.{AreLabels, IsStartEntryOf, AreEntriesOf, AreTold, row_at, entry_at, StepsStay, SomeStepLeaves, IsRowJudged, IsStartJudged, IsLaterFailure, IsJudged}
use Rattle.nk_cert.proofs.CertRows.{position_is, finals_is, hop_is}
use Rattle.nk_check.proofs.Findings.{each_decided}

-- a later row of a certificate
abbrev later_of : RowValue → CertRow
later_of r = later_row r.positions r.predicate

-- the start row
abbrev start_row : CertificateValue → CertRow
start_row c = record { row_position = at_start; predicate = c.start }

-- each position is a label, or one is none
labels_decided : (n : ℕ) (positions : List ℕ) → Decided (AreLabels n positions)
labels_decided n positions =
    ⊎_elim
    (λ h. inl (λ l c. h l (in_from_contains positions l c)))
    (λ other. inr (λ h. other (λ l i. h l (contains_from_in positions l i))))
    (each_decided (λ l. (1 ≤ l) × (l < n)) within positions)
  where
    within : (l : ℕ) → Decided ((1 ≤ l) × (l < n))
    within l =
        ⊎_elim
        (λ low. inr (λ h. omega (arith, low, h.0)))
        (λ some. ⊎_elim (λ below. inl (some, below)) (λ high. inr (λ h. omega (arith, high, h.1))) (cases_lt l n))
        (cases_lt l 1)

-- the place of a row among the later ones
placed : (rows : List RowValue) (row : CertRow) → In (map later_of rows) row → (k : ℕ) × (k < length rows) × (row ≡ later_of (row_at rows k))
placed [] row i = absurd i
placed (r ∷ rs) row (inl e) = (zero, omega arith, e)
placed (r ∷ rs) row (inr i) = let k = placed rs row i in (suc k.0, omega (arith, k.1), k.2)

-- the row at a place is one of them
in_rows : (rows : List RowValue) (k : ℕ) → k < length rows → In (map later_of rows) (later_of (row_at rows k))
in_rows [] k lt = absurd (omega (arith, lt))
in_rows (r ∷ rs) zero lt = inl refl
in_rows (r ∷ rs) (suc k) lt = inr (in_rows rs k (omega (arith, lt)))

-- the place of a row among the first ones
placed_before : (rows : List RowValue) (n : ℕ) (row : CertRow) → n ≤ length rows → In (map later_of (take n rows)) row
    → (k : ℕ) × (k < n) × (row ≡ later_of (row_at rows k))
placed_before rows zero row le i = absurd i
placed_before [] (suc n) row le i = absurd (omega (arith, le))
placed_before (r ∷ rs) (suc n) row le (inl e) = (zero, omega arith, e)
placed_before (r ∷ rs) (suc n) row le (inr i) = let k = placed_before rs n row (omega (arith, le)) i in (suc k.0, omega (arith, k.1), k.2)

-- the rows before a place, the one there, and those after it
split_at : (rows : List RowValue) (k : ℕ) → k < length rows
    → map later_of rows ≡ map later_of (take k rows) ++ later_of (row_at rows k) ∷ map later_of (drop (suc k) rows)
split_at [] k lt = absurd (omega (arith, lt))
split_at (r ∷ rs) zero lt = refl
split_at (r ∷ rs) (suc k) lt = ap (λ l. later_of r ∷ l) (split_at rs k (omega (arith, lt)))

-- there are as many before it
count_before : (rows : List RowValue) (k : ℕ) → k < length rows → length (map later_of (take k rows)) ≡ k
count_before rows zero lt = refl
count_before [] (suc k) lt = absurd (omega (arith, lt))
count_before (r ∷ rs) (suc k) lt = ap suc (count_before rs k (omega (arith, lt)))

module _ (fields : FieldTable) (st : StoreState) (states : List ℕ) (left right : ℕ) (p q : Policy) (a : IsAutomatonOfBoth fields st states left right p q) (bad : List ℕ → List ℕ → List Out) (goal : IsOneSided st states left right (1 + dups_of p) bad) (ss : List (List ℕ)) (ascend : HasAscendingSets ss) (c : CertificateValue) (start : ℕ × ℕ) (entries told : List (ℕ × ℕ)) (s : IsStartEntryOf st ss (length states) c.start start) (es : AreEntriesOf st ss (length states) c.rows entries) (t : AreTold st ss (length states) entries told) where
  -- all dups have labels
  label_is : (positions : List ℕ) → AreLabels (length states) positions ↔ IsRowPositionOf p q (at_dups positions)
  label_is positions =
      let is = position_is fields st states left right p q a positions in (
        λ are. is.1 (λ l m. let w = are l m in (w.0, omega (arith, w.1, a.states_are.count))),
        λ row_position l m. let w = is.0 row_position l m in (w.0, omega (arith, w.1, a.states_are.count)),
      )

  -- a row, its set of labels and its packets
  module _ (row : CertRow) (set : List ℕ) (x : ℕ) (ok : MeetsPosition fields p q row) (begun : MeetsStart fields p q row) (same : IsSetAt row.row_position set) (places : AreLabelsBelow (length states) set) (keeps : (pk : List ℕ) → IsStorePacket st pk → Holds row.predicate pk ↔ (is_in st x pk ≡ true)) where
    -- no violation at its packets
    no_violation : PairHasNoViolation st x (bad set) → HasNoViolation st bad row set
    no_violation none pk range holds = none pk range ((keeps pk range).0 holds)

    -- where steps lead to rows they stay
    steps_stay : StepsLeadToRows st states (certificate_rows c) row set → StepsStay st ss states bad told set x
    steps_stay h pk n range has step =
        let r = h pk n.1 n.0 range ((keeps pk range).1 has) step in
        let k = placed c.rows (later_row r.0 r.1) (later_in (later_row r.0 r.1) r.0 refl (in_from_contains (certificate_rows c) (later_row r.0 r.1) r.2)) in
        let positions : (row_at c.rows k.0).positions ≡ r.0 = sym (ap (λ (z : CertRow). labels_at z.row_position) k.2) in
        let predicate : (row_at c.rows k.0).predicate ≡ r.1 = sym (ap (λ (z : CertRow). z.predicate) k.2) in
        let entry = es.each k.0 k.1 in
        let inside = step_places st states (set, pk) n (are_states st states (either_of p q) a.states_are) places range step in
        let to_next : (l : ℕ) → Contains (row_at c.rows k.0).positions l → Contains n.0 l = λ l m. (r.3 l).0 (subst (λ z. Contains z l) positions m) in
        let from_next : (l : ℕ) → Contains n.0 l → Contains (row_at c.rows k.0).positions l = λ l m. subst (λ z. Contains z l) (sym positions) ((r.3 l).1 m) in
        let are : AreLabels (length states) (row_at c.rows k.0).positions =
        λ l m. let above = ((step.every l).0 (to_next l m)).0 in (omega (arith, above), place_of (length states) n.0 l inside (to_next l m)) in
        let one = rising_one (get_or ss (entry_at entries k.0).0 []) n.0 (ascend (entry_at entries k.0).0) step.ascend
        (λ l m. to_next l ((entry.members are l).0 m)) (λ l m. (entry.members are l).1 (from_next l m)) in
        let here = (entry.keeps are n.1 step.packet).0 (subst (λ z. Holds z n.1) (sym predicate) r.4) in
        let lt : k.0 < length entries = omega (arith, k.1, es.count) in
        let under = under_at st entries k.0 (entry_at entries k.0) n.1 lt (get_or_same entries k.0 (0, 0) (entry_at entries k.0) lt) here in
        ((entry_at entries k.0).0, one, t.every (entry_at entries k.0).0 n.1 step.packet under)
      where
        later_in : (z : CertRow) (positions : List ℕ) → z.row_position ≡ at_dups positions → In (certificate_rows c) z → In (map later_of c.rows) z
        later_in z positions is (inl e) = let f : at_start ≡ at_dups positions = sym (ap (λ (y : CertRow). y.row_position) e) ∙ is in absurd cc
        later_in z positions is (inr i) = i

    -- where steps stay they lead to rows
    steps_lead : StepsStay st ss states bad told set x → StepsLeadToRows st states (certificate_rows c) row set
    steps_lead stay pk y next range holds step =
        let w = stay pk (next, y) range ((keeps pk range).0 holds) step in
        let k = entry_of st entries w.0 y (t.from w.0 y step.packet w.2) in
        let lt : k.0 < length c.rows = omega (arith, k.1, es.count) in
        let entry = es.each k.0 lt in
        let members : get_or ss (entry_at entries k.0).0 [] ≡ next = ap (λ i. get_or ss i []) (k.2 (0, 0)) ∙ w.1 in
        ⊎_elim
        (λ are. (
          (row_at c.rows k.0).positions,
          (row_at c.rows k.0).predicate,
          contains_from_in (certificate_rows c) (later_of (row_at c.rows k.0)) (inr (in_rows c.rows k.0 lt)),
          λ l. (
            λ m. subst (λ z. Contains z l) members ((entry.members are l).1 m),
            λ m. (entry.members are l).0 (subst (λ z. Contains z l) (sym members) m),
          ),
          (entry.keeps are y step.packet).1 (k.3 (0, 0)),
        ))
        (λ other. absurd (entry.none other y step.packet (k.3 (0, 0))))
        (labels_decided (length states) (row_at c.rows k.0).positions)

    -- finals and hop
    finals_met : PairHasNoViolation st x (bad set) → MeetsFinals fields p q row
    finals_met none = (finals_is fields st states left right p q a bad goal row ok set same).1 (no_violation none)

    row_meets : PairHasNoViolation st x (bad set) → StepsStay st ss states bad told set x → MeetsAll fields p q (certificate_rows c) row
    row_meets none stay = record {
      position = ok;
      start = begun;
      finals = finals_met none;
      hop = (hop_is fields st states left right p q a (certificate_rows c) row ok set same).1 (steps_lead stay);
    }

    row_ends : PairHasViolation st x (bad set) → MeetsFinals fields p q row → ⊥
    row_ends m f =
        m.3 ((finals_is fields st states left right p q a bad goal row ok set same).0 f m.0 m.1 ((keeps m.0 m.1).1 m.2))

    row_leaves : SomeStepLeaves st ss states bad told set x → MeetsHop fields p q (certificate_rows c) row → ⊥
    row_leaves m h =
        m.5 (steps_stay ((hop_is fields st states left right p q a (certificate_rows c) row ok set same).0 h) m.0 m.1 m.2 m.3 m.4)

  -- the start row is judged by its entry
  start_same : IsSetAt at_start (get_or ss start.0 [])
  start_same = subst (IsSetAt at_start) (sym s.members) (λ l. (λ m. m, λ m. m))

  start_has : HasEach st start.1 → HasAllPackets fields at_start c.start
  start_has each pk good = let range = packet_in_range fields st pk a.over good in (s.packets.keeps pk range).1 (each pk range)

  start_lacks : (HasEach st start.1 → ⊥) → HasAllPackets fields at_start c.start → ⊥
  start_lacks other has = other (λ pk range. (s.packets.keeps pk range).0 (has pk (packet_of_fields fields st pk a.over range)))

  start_meets : IsStartJudged st ss states bad told start None → MeetsAll fields p q (certificate_rows c) (start_row c)
  start_meets j =
      row_meets (start_row c) (get_or ss start.0 []) start.1 tt (start_has j.0) start_same s.pair.places s.packets.keeps j.1.0 j.1.1

  start_fails : (k : CertPart) → IsStartJudged st ss states bad told start (Some k)
      → FailsIn fields p q (certificate_rows c) (start_row c) (row_part k)
  start_fails Position j = absurd j
  start_fails Start j = (tt, start_lacks j)
  start_fails Finals j = (
    tt,
    start_has j.0,
    row_ends (start_row c) (get_or ss start.0 []) start.1 tt (start_has j.0) start_same s.pair.places s.packets.keeps j.1,
  )
  start_fails Hop j = (
    tt,
    start_has j.0,
    finals_met (start_row c) (get_or ss start.0 []) start.1 tt (start_has j.0) start_same s.pair.places s.packets.keeps j.1.0,
    row_leaves (start_row c) (get_or ss start.0 []) start.1 tt (start_has j.0) start_same s.pair.places s.packets.keeps j.1.1,
  )

  -- a later row is judged by its entry
  later_meets : (k : ℕ) → k < length c.rows → IsRowJudged st ss states bad told (row_at c.rows k).positions (entry_at entries k) None
      → MeetsAll fields p q (certificate_rows c) (later_of (row_at c.rows k))
  later_meets k lt j =
      let e = es.each k lt in
      row_meets (later_of (row_at c.rows k)) (get_or ss (entry_at entries k).0 []) (entry_at entries k).1 ((label_is (row_at c.rows k).positions).0 j.0) tt (e.members j.0) e.pair.places (e.keeps j.0) j.1.0 j.1.1

  later_fails : (k : ℕ) → k < length c.rows → (in_part : CertPart) → IsRowJudged st ss states bad told (row_at c.rows k).positions (entry_at entries k) (Some in_part)
      → FailsIn fields p q (certificate_rows c) (later_of (row_at c.rows k)) (row_part in_part)
  later_fails k lt Position j = λ row_position. j ((label_is (row_at c.rows k).positions).1 row_position)
  later_fails k lt Start j = absurd j
  later_fails k lt Finals j =
      let e = es.each k lt in
      let ok = (label_is (row_at c.rows k).positions).0 j.0 in (
        ok,
        tt,
        row_ends (later_of (row_at c.rows k)) (get_or ss (entry_at entries k).0 []) (entry_at entries k).1 ok tt (e.members j.0) e.pair.places (e.keeps j.0) j.1,
      )
  later_fails k lt Hop j =
      let e = es.each k lt in
      let ok = (label_is (row_at c.rows k).positions).0 j.0 in (
        ok,
        tt,
        finals_met (later_of (row_at c.rows k)) (get_or ss (entry_at entries k).0 []) (entry_at entries k).1 ok tt (e.members j.0) e.pair.places (e.keeps j.0) j.1.0,
        row_leaves (later_of (row_at c.rows k)) (get_or ss (entry_at entries k).0 []) (entry_at entries k).1 ok tt (e.members j.0) e.pair.places (e.keeps j.0) j.1.1,
      )

  -- a later row fails first
  later_first : (k n : ℕ) (in_part : CertPart) → n ≡ k + 2 → IsLaterFailure st ss states bad told start c.rows entries k in_part
      → FailsFirst fields p q (certificate_rows c) n (row_part in_part)
  later_first k n in_part is f = record {
    before = start_row c ∷ map later_of (take k c.rows);
    row = later_of (row_at c.rows k);
    later = map later_of (drop (suc k) c.rows);
    is = ap (λ l. start_row c ∷ l) (split_at c.rows k f.within);
    number = omega (arith, count_before c.rows k f.within, is);
    met = all_from_members (λ r. MeetsAll fields p q (certificate_rows c) r) (start_row c ∷ map later_of (take k c.rows)) met;
    fails = later_fails k f.within in_part f.fails;
  }
    where
      met : (r : CertRow) → In (start_row c ∷ map later_of (take k c.rows)) r → MeetsAll fields p q (certificate_rows c) r
      met r (inl e) = subst (λ z. MeetsAll fields p q (certificate_rows c) z) (sym e) (start_meets f.first)
      met r (inr i) =
          let w = placed_before c.rows k r (omega (arith, f.within)) i in
          subst (λ z. MeetsAll fields p q (certificate_rows c) z) (sym w.2) (later_meets w.0 (omega (arith, w.1, f.within)) (f.before w.0 w.1))

  -- what is found
  pub found : (v : Verdict) → IsJudged st ss states bad told start c.rows entries v → IsFinding fields p q c (finding_of v)
  found Valid j = λ row m. each row (in_from_contains (certificate_rows c) row m)
    where
      each : (row : CertRow) → In (certificate_rows c) row → MeetsAll fields p q (certificate_rows c) row
      each row (inl e) = subst (λ z. MeetsAll fields p q (certificate_rows c) z) (sym e) (start_meets j.0)
      each row (inr i) =
          let w = placed c.rows row i in
          subst (λ z. MeetsAll fields p q (certificate_rows c) z) (sym w.2) (later_meets w.0 w.1 (j.1 w.0 w.1))
  found (Invalid n in_part) (inl j) = record {
    before = [];
    row = start_row c;
    later = map later_of c.rows;
    is = refl;
    number = sym j.0;
    met = λ k d lt. absurd (omega (arith, lt));
    fails = start_fails in_part j.1;
  }
  found (Invalid n in_part) (inr j) = later_first j.0 n in_part j.1 j.2
