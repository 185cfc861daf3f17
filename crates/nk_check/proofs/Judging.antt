-- What one row is judged to be, and as store and sets grow.
use Rattle.std.proofs.Common.{◌≡◌, ℕ, ◌+◌, ◌<◌, true, inl, inr, ⊎_elim, List, [], ◌∷◌, length, get_or, Option, Some, None, refl, sym, ap, subst, ◌∙◌, arith}
use Rattle.std.proofs.lemmas.Bool.Decides.{eqb_tells}
use Rattle.nk_store.specs.declared.node.Out.{Out}
use Rattle.nk_store.specs.StoreState.{StoreState, Grows}
use Rattle.nk_sets.specs.PacketSets.{is_in}
use Rattle.nk_sets.proofs.Kept.{packet_on, packet_back, has_on, has_back}
use Rattle.nk_apply.specs.Unions.{AreIds}
use Rattle.nk_determ.specs.Sets.{SetsGrow}
use Rattle.nk_determ.specs.Pairs.{Node, Under, Within, AreStates, AreLabelsBelow, IsPair, ArePairs, IsStep}
use Rattle.nk_goal.specs.Goals.{PairHasViolation, PairHasNoViolation, MeetsViolation, MeetsNoViolation}
use Rattle.nk_reach.specs.Rounds.{IsNextLevel}
use Rattle.nk_reach.specs.Sides.{alone, ends_of, ends_same, IsPropertyOfEnds, property_grows}
use Rattle.nk_goal.proofs.Growing.{sets_refl, sets_same, packets_of, pairs_on, within_on, within_back, within_or_not, states_grow, step_on, step_back}
use Rattle.nk_goal.proofs.Violations.{none_back}
use Rattle.nk_reach.proofs.Round.{first_node}
use Rattle.nk_cert.specs.declared.certificate.CertPart.{CertPart}
use Rattle.nk_cert.specs.declared.certificate.CertPart.TheVariants.{Position, Start, Finals, Hop}
use Rattle.nk_cert.specs.Certificates.{RowValue}
use Rattle.nk_cert.specs.Levelled.{HasEach}
use Rattle.nk_check.specs.Judged.{CanJudge, AreLabels, IsSetJudged, IsRowJudged, IsStartJudged, StepsStay, SomeStepLeaves, AreMet, row_at, entry_at}

-- one entry is a level
pub one_level : (st : StoreState) (ss : List (List ℕ)) (n : ℕ) (e : ℕ × ℕ) (l : List (ℕ × ℕ)) → l ≡ e ∷ [] → IsPair st ss n e → ArePairs st ss n l
one_level st ss n e l is k = subst (ArePairs st ss n) (sym is) (record { each = (k, tt); once = (λ z. z, tt) })

-- what is at hand stays at hand
pub can_judge_on : (a b : StoreState) (ss nss : List (List ℕ)) (states : List ℕ) (told : List (ℕ × ℕ)) (ends : List ℕ) (table : List (ℕ × ℕ)) → Grows a b → SetsGrow ss nss
    → CanJudge a ss states told ends table → CanJudge b nss states told ends table
can_judge_on a b ss nss states told ends table g h k = record {
  states_are = states_grow a b states g k.states_are;
  told_are = pairs_on a b ss nss (length states) told g h k.told_are;
  goal = property_grows a b ends table k.goal g;
  labels = k.labels;
}

-- after a look at ends and steps
pub can_judge_after : (a b : StoreState) (ss nss : List (List ℕ)) (states : List ℕ) (told : List (ℕ × ℕ)) (ends new_ends : List ℕ) (table new_table : List (ℕ × ℕ)) → Grows a b
    → SetsGrow ss nss → CanJudge a ss states told ends table → IsPropertyOfEnds b new_ends new_table → length new_ends ≡ length ends
    → CanJudge b nss states told new_ends new_table
can_judge_after a b ss nss states told ends new_ends table new_table g h k goal count = record {
  states_are = states_grow a b states g k.states_are;
  told_are = pairs_on a b ss nss (length states) told g h k.told_are;
  goal = goal;
  labels = count ∙ k.labels;
}

-- what one side alone ends with stays the same
pub ends_stay : (a b : StoreState) (ends states set pk : List ℕ) → Grows a b → AreIds a ends → length ends ≡ length states → AreLabelsBelow (length states) set
    → alone (ends_of b ends set pk) ≡ alone (ends_of a ends set pk)
ends_stay a b ends states set pk g ids count places =
    ap alone (ends_same a b ends set pk g ids (subst (λ n. AreLabelsBelow n set) (sym count) places))

module _ (st : StoreState) (ss : List (List ℕ)) (states : List ℕ) (bad : List ℕ → List ℕ → List Out) (told : List (ℕ × ℕ)) (e : ℕ × ℕ) (l : List (ℕ × ℕ)) (is : l ≡ e ∷ []) where
  -- the packets of one entry
  among : (n : Node) → Within st ss l n → (get_or ss e.0 [] ≡ n.0) × (is_in st e.1 n.1 ≡ true)
  among n w =
      ⊎_elim
      (λ here. (ap (λ i. get_or ss i []) here.0 ∙ w.1, here.1))
      (λ z. absurd z)
      (subst (λ ps. Under st ps w.0 n.1) is w.2)

  within_one : (pk : List ℕ) → is_in st e.1 pk ≡ true → Within st ss l (get_or ss e.0 [], pk)
  within_one pk has = (e.0, refl, subst (λ ps. Under st ps e.0 pk) (sym is) (inl (refl, has)))

  -- a violation of one entry
  pub one_violation : MeetsViolation st ss l bad → PairHasViolation st e.1 (bad (get_or ss e.0 []))
  one_violation m =
      let a = among m.0 m.2 in (m.0.1, m.1, a.1, λ none. m.3 (subst (λ s. bad s m.0.1 ≡ []) a.0 none))

  pub no_violation_at : MeetsNoViolation st ss l bad → PairHasNoViolation st e.1 (bad (get_or ss e.0 []))
  no_violation_at m pk range has = m (get_or ss e.0 [], pk) range (within_one pk has)

-- the steps of one entry, and those that lead elsewhere
module _ (st mid new : StoreState) (ss nss : List (List ℕ)) (states : List ℕ) (bad : List ℕ → List ℕ → List Out) (told : List (ℕ × ℕ)) (e : ℕ × ℕ) (l level : List (ℕ × ℕ)) (is : l ≡ e ∷ []) (g : Grows st mid) (g2 : Grows mid new) (r : AreStates st states) (t : ArePairs st ss (length states) told) (k : IsPair st ss (length states) e) (next : IsNextLevel mid ss states told l new nss level) where
  -- where there is a level, some step leads elsewhere
  pub one_leaves : 0 < length level → SomeStepLeaves st ss states bad told (get_or ss e.0 []) e.1
  one_leaves some =
      let n = first_node new nss level some (packets_of new nss (length states) level next.pairs.each) next.filled in
      let range = packet_back mid new n.0.1 g2 n.1 in
      let m = next.from n.0 range n.2 in
      let a = among mid ss states bad told e l is m.0 m.2 in
      let step = subst (λ s. IsStep mid states (s, m.0.1) n.0) (sym a.0) m.3 in (
        m.0.1,
        n.0,
        packet_back st mid m.0.1 g m.1,
        has_back st mid e.1 m.0.1 g k.packets.id a.1,
        step_back st mid states (get_or ss e.0 [], m.0.1) n.0 g r k.places step,
        λ w. next.fresh n.0 range n.2 (within_on st mid ss ss (length states) told n.0 g (sets_refl ss) t w),
      )

  -- where there is none, all steps stay
  pub all_stay : length level ≡ 0 → StepsStay st ss states bad told (get_or ss e.0 []) e.1
  all_stay none pk n range has step =
      let grown = step_on st mid states (get_or ss e.0 [], pk) n g r k.places step in
      ⊎_elim
      (λ w. within_back st mid ss ss (length states) told n g (sets_refl ss) t w)
      (λ other.
      let made = next.every (get_or ss e.0 [], pk) n (packet_on st mid pk g range)
      (within_one mid ss states bad told e l is pk (has_on st mid e.1 pk g k.packets.id has)) grown other in
      absurd (nowhere level none n made))
      (within_or_not mid ss told n)
    where
      nowhere : (ps : List (ℕ × ℕ)) → length ps ≡ 0 → (n : Node) → Within new nss ps n → ⊥
      nowhere [] q n w = w.2
      nowhere (p ∷ ps) q n w = absurd cc

-- what was judged in a store that grew, with more sets and with the goal as it is then
module _ (a b : StoreState) (ss nss : List (List ℕ)) (states : List ℕ) (bad now : List ℕ → List ℕ → List Out) (told : List (ℕ × ℕ)) (e : ℕ × ℕ) (g : Grows a b) (h : SetsGrow ss nss) (r : AreStates a states) (t : ArePairs a ss (length states) told) (k : IsPair a ss (length states) e) (same : (pk : List ℕ) → now (get_or ss e.0 []) pk ≡ bad (get_or ss e.0 []) pk) where
  -- the set has the members that it had
  set_same : get_or nss e.0 [] ≡ get_or ss e.0 []
  set_same = sets_same ss nss e.0 h k.known

  none_before : PairHasNoViolation b e.1 (now (get_or nss e.0 [])) → PairHasNoViolation a e.1 (bad (get_or ss e.0 []))
  none_before n =
      none_back a b e.1 (bad (get_or ss e.0 [])) (now (get_or ss e.0 [])) g k.packets.id same
      (subst (λ s. PairHasNoViolation b e.1 (now s)) set_same n)

  violation_before : PairHasViolation b e.1 (now (get_or nss e.0 [])) → PairHasViolation a e.1 (bad (get_or ss e.0 []))
  violation_before n =
      let m = subst (λ s. PairHasViolation b e.1 (now s)) set_same n in
      (m.0, packet_back a b m.0 g m.1, has_back a b e.1 m.0 g k.packets.id m.2, λ none. m.3 (same m.0 ∙ none))

  stay_before : StepsStay b nss states now told (get_or nss e.0 []) e.1 → StepsStay a ss states bad told (get_or ss e.0 []) e.1
  stay_before stay pk n range has step =
      let w = stay pk n (packet_on a b pk g range) (has_on a b e.1 pk g k.packets.id has)
      (subst (λ s. IsStep b states (s, pk) n) (sym set_same) (step_on a b states (get_or ss e.0 [], pk) n g r k.places step)) in
      within_back a b ss nss (length states) told n g h t w

  leaves_before : SomeStepLeaves b nss states now told (get_or nss e.0 []) e.1 → SomeStepLeaves a ss states bad told (get_or ss e.0 []) e.1
  leaves_before m = (
    m.0,
    m.1,
    packet_back a b m.0 g m.2,
    has_back a b e.1 m.0 g k.packets.id m.3,
    step_back a b states (get_or ss e.0 [], m.0) m.1 g r k.places (subst (λ s. IsStep b states (s, m.0) m.1) set_same m.4),
    λ w. m.5 (within_on a b ss nss (length states) told m.1 g h t w),
  )

  pub set_judged_before : (o : Option CertPart) → IsSetJudged b nss states now told e o → IsSetJudged a ss states bad told e o
  set_judged_before None j = (none_before j.0, stay_before j.1)
  set_judged_before (Some Position) j = j
  set_judged_before (Some Start) j = j
  set_judged_before (Some Finals) j = violation_before j
  set_judged_before (Some Hop) j = (none_before j.0, leaves_before j.1)

  pub row_judged_before : (positions : List ℕ) (o : Option CertPart) → IsRowJudged b nss states now told positions e o → IsRowJudged a ss states bad told positions e o
  row_judged_before positions None j = (j.0, (none_before j.1.0, stay_before j.1.1))
  row_judged_before positions (Some Position) j = j
  row_judged_before positions (Some Start) j = j
  row_judged_before positions (Some Finals) j = (j.0, violation_before j.1)
  row_judged_before positions (Some Hop) j = (j.0, (none_before j.1.0, leaves_before j.1.1))

module _ (st : StoreState) (ss : List (List ℕ)) (states : List ℕ) (bad : List ℕ → List ℕ → List Out) (told : List (ℕ × ℕ)) where
  -- a row with labels is judged as its set is
  pub row_by_set : (positions : List ℕ) (e : ℕ × ℕ) (o : Option CertPart) → AreLabels (length states) positions → IsSetJudged st ss states bad told e o
      → IsRowJudged st ss states bad told positions e o
  row_by_set positions e (Some Position) are j = absurd j
  row_by_set positions e (Some Start) are j = j
  row_by_set positions e o are j = (are, j)

  -- the start row with all packets is judged as its set is
  pub start_by_set : (e : ℕ × ℕ) (o : Option CertPart) → HasEach st e.1 → IsSetJudged st ss states bad told e o → IsStartJudged st ss states bad told e o
  start_by_set e (Some Position) each j = j
  start_by_set e (Some Start) each j = absurd j
  start_by_set e o each j = (each, j)

  -- no row meets all parts before the first one
  pub none_met : (later : List RowValue) (entries : List (ℕ × ℕ)) → AreMet st ss states bad told later entries 0
  none_met later entries j lt = absurd (omega (arith, lt))

  -- one row more
  pub one_met_more : (later : List RowValue) (entries : List (ℕ × ℕ)) (i : ℕ) → AreMet st ss states bad told later entries i
      → IsRowJudged st ss states bad told (row_at later i).positions (entry_at entries i) None → AreMet st ss states bad told later entries (i + 1)
  one_met_more later entries i met now j lt = elim (eqb_tells j i) [
    | inl same ↦ subst (λ k. IsRowJudged st ss states bad told (row_at later k).positions (entry_at entries k) None) (sym same.1) now
    | inr other ↦ met j (omega (arith, lt, other.1))
  ]

-- a row that was judged later, by what was at hand at first
pub row_before : (a b : StoreState) (ss nss : List (List ℕ)) (states : List ℕ) (told : List (ℕ × ℕ)) (ends new_ends : List ℕ) (table : List (ℕ × ℕ)) (e : ℕ × ℕ) → Grows a b → SetsGrow ss nss
    → CanJudge a ss states told ends table → IsPair a ss (length states) e
    → ((set pk : List ℕ) → alone (ends_of b new_ends set pk) ≡ alone (ends_of b ends set pk)) → (positions : List ℕ) (o : Option CertPart)
    → IsRowJudged b nss states (λ set pk. alone (ends_of b new_ends set pk)) told positions e o → IsRowJudged a ss states (λ set pk. alone (ends_of a ends set pk)) told positions e o
row_before a b ss nss states told ends new_ends table e g h can k same positions o j =
    row_judged_before a b ss nss states (λ set pk. alone (ends_of a ends set pk)) (λ set pk. alone (ends_of b new_ends set pk)) told e g h can.states_are can.told_are k
    (λ pk. same (get_or ss e.0 []) pk ∙ ends_stay a b ends states (get_or ss e.0 []) pk g can.goal.ids can.labels k.places) positions o j
