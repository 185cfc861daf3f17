-- What a certificate's rows are judged by, as sets of labels and of packets on the automaton of both policies.
use Rattle.std.specs.Prelude.{◌≡◌, ℕ, ◌+◌, ◌<◌, ◌≤◌, ◌⊎◌, ◌↔◌, true, List, [], ◌∷◌, Option, Some, None, length, slice_index_or, Contains}
use Rattle.nk_policy.specs.Policy.{Policy}
use Rattle.nk_policy.specs.After.{id_policy}
use Rattle.nk_store.specs.declared.node.Out.{Out}
use Rattle.nk_store.specs.StoreState.{StoreState, IsStorePacket}
use Rattle.nk_sets.specs.PacketSets.{is_in, IsSet}
use Rattle.nk_determ.specs.Pairs.{Node, Under, Within, AreStates, IsPair, ArePairs, IsStep}
use Rattle.nk_goal.specs.Goals.{PairHasViolation, PairHasNoViolation}
use Rattle.nk_reach.specs.Sides.{IsPropertyOfEnds}
use Rattle.nk_cert.specs.declared.certificate.CertPart.{CertPart}
use Rattle.nk_cert.specs.declared.certificate.CertPart.TheVariants.{Position, Start, Finals, Hop}
use Rattle.nk_cert.specs.declared.certificate.Verdict.{Verdict}
use Rattle.nk_cert.specs.declared.certificate.Verdict.TheVariants.{Valid, Invalid}
use Rattle.nk_cert.specs.Certificates.{at_dups, RowValue, CertificateValue, Holds}
use Rattle.nk_cert.specs.Levelled.{HasEach}
use Rattle.nk_cert.specs.Checked.{IsSetAt}

-- what is at hand while rows are judged: states, entries, a diagram of marked ends for each state, and the
-- table of what one side alone has of ends
pub record CanJudge (st : StoreState) (ss : List (List ℕ)) (states : List ℕ) (told : List (ℕ × ℕ)) (ends : List ℕ) (table : List (ℕ × ℕ)) : Type 0 where
  pub states_are : AreStates st states
  pub told_are : ArePairs st ss (length states) told
  pub goal : IsPropertyOfEnds st ends table
  pub labels : length ends ≡ length states

-- d has exactly the packets that the predicate keeps
pub record IsPacketsOf (st : StoreState) (predicate : Policy) (d : ℕ) : Type 0 where
  pub set : IsSet st d
  pub keeps : (pk : List ℕ) → IsStorePacket st pk → Holds predicate pk ↔ (is_in st d pk ≡ true)

-- each position is a label above 0 among so many
abbrev pub AreLabels : ℕ → List ℕ → Type 0
AreLabels n positions = (l : ℕ) → Contains positions l → (1 ≤ l) × (l < n)

-- The entry of a row: its set of labels and its packets. A row with a position that is no label, to which no step leads, has
-- no packets here.
pub record IsEntryOf (st : StoreState) (ss : List (List ℕ)) (n : ℕ) (row : RowValue) (e : ℕ × ℕ) : Type 0 where
  pub pair : IsPair st ss n e
  pub members : AreLabels n row.positions → IsSetAt (at_dups row.positions) (slice_index_or ss e.0 [])
  pub keeps : AreLabels n row.positions → (pk : List ℕ) → IsStorePacket st pk → Holds row.predicate pk ↔ (is_in st e.1 pk ≡ true)
  pub none : (AreLabels n row.positions → ⊥) → (pk : List ℕ) → IsStorePacket st pk → is_in st e.1 pk ≡ true → ⊥

-- the row at a place; without one, it has no position
abbrev pub row_at : List RowValue → ℕ → RowValue
row_at rows k = slice_index_or rows k (record { positions = []; predicate = id_policy })

-- the entry at a place
abbrev pub entry_at : List (ℕ × ℕ) → ℕ → ℕ × ℕ
entry_at entries k = slice_index_or entries k (0, 0)

-- the rows' entries, in their order
pub record AreEntriesOf (st : StoreState) (ss : List (List ℕ)) (n : ℕ) (rows : List RowValue) (entries : List (ℕ × ℕ)) : Type 0 where
  pub count : length entries ≡ length rows
  pub each : (k : ℕ) → k < length rows → IsEntryOf st ss n (row_at rows k) (entry_at entries k)

-- the start row's entry: the set of the start alone, and the row's packets
pub record IsStartEntryOf (st : StoreState) (ss : List (List ℕ)) (n : ℕ) (predicate : Policy) (e : ℕ × ℕ) : Type 0 where
  pub pair : IsPair st ss n e
  pub members : slice_index_or ss e.0 [] ≡ 0 ∷ []
  pub packets : IsPacketsOf st predicate e.1

-- the packets of all these entries by their sets, an entry for each set
pub record AreTold (st : StoreState) (ss : List (List ℕ)) (n : ℕ) (entries told : List (ℕ × ℕ)) : Type 0 where
  pub pairs : ArePairs st ss n told
  pub from : (i : ℕ) (x : List ℕ) → IsStorePacket st x → Under st told i x → Under st entries i x
  pub every : (i : ℕ) (x : List ℕ) → IsStorePacket st x → Under st entries i x → Under st told i x

-- the entries of a certificate's rows, and their packets by their sets
pub record IsJudge (st : StoreState) (ss : List (List ℕ)) (n : ℕ) (c : CertificateValue) (start : ℕ × ℕ) (entries told : List (ℕ × ℕ)) : Type 0 where
  pub start_is : IsStartEntryOf st ss n c.start start
  pub later : AreEntriesOf st ss n c.rows entries
  pub all : AreTold st ss n entries told

-- For the states of an automaton, with these violations, where rows have packets under sets.
module _ (st : StoreState) (ss : List (List ℕ)) (states : List ℕ) (bad : List ℕ → List ℕ → List Out) (told : List (ℕ × ℕ)) where
  -- each step of the set from one of these packets leads to a packet that stands under a set
  abbrev pub StepsStay : List ℕ → ℕ → Type 0
  StepsStay set x =
      (pk : List ℕ) (n : Node) → IsStorePacket st pk → is_in st x pk ≡ true → IsStep st states (set, pk) n → Within st ss told n

  -- some step of it leads elsewhere
  abbrev pub SomeStepLeaves : List ℕ → ℕ → Type 0
  SomeStepLeaves set x =
      (pk : List ℕ) × (n : Node) × IsStorePacket st pk × (is_in st x pk ≡ true) × IsStep st states (set, pk) n × (Within st ss told n → ⊥)

  -- whether the set at these packets has no violation and no step that leads elsewhere, or which of the two it has
  abbrev pub IsSetJudged : ℕ × ℕ → Option CertPart → Type 0
  IsSetJudged e None = PairHasNoViolation st e.1 (bad (slice_index_or ss e.0 [])) × StepsStay (slice_index_or ss e.0 []) e.1
  IsSetJudged e (Some Position) = ⊥
  IsSetJudged e (Some Start) = ⊥
  IsSetJudged e (Some Finals) = PairHasViolation st e.1 (bad (slice_index_or ss e.0 []))
  IsSetJudged e (Some Hop) =
      PairHasNoViolation st e.1 (bad (slice_index_or ss e.0 [])) × SomeStepLeaves (slice_index_or ss e.0 []) e.1

  -- the first part that a later row with this entry fails, if one
  abbrev pub IsRowJudged : List ℕ → ℕ × ℕ → Option CertPart → Type 0
  IsRowJudged positions e None = AreLabels (length states) positions × IsSetJudged e None
  IsRowJudged positions e (Some Position) = AreLabels (length states) positions → ⊥
  IsRowJudged positions e (Some Start) = ⊥
  IsRowJudged positions e (Some Finals) = AreLabels (length states) positions × IsSetJudged e (Some Finals)
  IsRowJudged positions e (Some Hop) = AreLabels (length states) positions × IsSetJudged e (Some Hop)

  -- the first part that the start row with this entry fails, if one
  abbrev pub IsStartJudged : ℕ × ℕ → Option CertPart → Type 0
  IsStartJudged e None = HasEach st e.1 × IsSetJudged e None
  IsStartJudged e (Some Position) = ⊥
  IsStartJudged e (Some Start) = HasEach st e.1 → ⊥
  IsStartJudged e (Some Finals) = HasEach st e.1 × IsSetJudged e (Some Finals)
  IsStartJudged e (Some Hop) = HasEach st e.1 × IsSetJudged e (Some Hop)

  -- the first k of these later rows meet all parts
  abbrev pub AreMet : List RowValue → List (ℕ × ℕ) → ℕ → Type 0
  AreMet later entries k = (j : ℕ) → j < k → IsRowJudged (row_at later j).positions (entry_at entries j) None

  -- the later row at place k fails first, in this part
  pub record IsLaterFailure (start : ℕ × ℕ) (later : List RowValue) (entries : List (ℕ × ℕ)) (k : ℕ) (in_part : CertPart) : Type 0 where
    pub within : k < length later
    pub first : IsStartJudged start None
    pub before : AreMet later entries k
    pub fails : IsRowJudged (row_at later k).positions (entry_at entries k) (Some in_part)

  -- what is found of all rows
  abbrev pub IsJudged : ℕ × ℕ → List RowValue → List (ℕ × ℕ) → Verdict → Type 0
  IsJudged start later entries Valid = IsStartJudged start None × AreMet later entries (length later)
  IsJudged start later entries (Invalid n in_part) =
      ((n ≡ 1) × IsStartJudged start (Some in_part))
      ⊎ ((k : ℕ) × (n ≡ k + 2) × IsLaterFailure start later entries k in_part)
