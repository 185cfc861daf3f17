-- What holds of whole texts.
use Rattle.std.specs.Prelude.{◌≡◌, ◌<◌, ◌≤◌, ◌*◌, ◌^◌, ◌↔◌, All, ℕ, List, [], ◌∷◌, ◌++◌, Some, None, length, ⊤}
use Rattle.nk_field.specs.declared.history.History.{History}
use Rattle.nk_field.specs.declared.packet.Packet.{Packet}
use Rattle.nk_field.specs.Order.{Found}
use Rattle.nk_field.specs.Packet.{FieldTable, IsPacket}
use Rattle.nk_cert.specs.Certificates.{CertificateValue}
use Rattle.nk_cert.specs.Equality.{Side}
use Rattle.nk_certtext.specs.ReadBack.{IsPrintableCertificate}
use Rattle.nk_certtext.specs.Text.{cert_bytes}
use Rattle.nk_declare.specs.Kept.{IsWritable}
use Rattle.nk_gen.specs.Text.{generated}
use Rattle.nk_policy.specs.Policy.{Policy}
use Rattle.nk_policy.specs.Ranges.{IsOverFields}
use Rattle.nk_policy.specs.Text.{pol_bytes}
use Rattle.nk_table.specs.declared.Tables.{Tables}
use Rattle.nk_tabtext.specs.ReadBack.{ArePrintableTables}
use Rattle.nk_tabtext.specs.Text.{table_bytes}
use Rattle.nk_reply.specs.Messages.{way_lines}
use Rattle.nk_sim.specs.declared.tracing.Traced.{Traced}
use Rattle.nk_flight.specs.Flights.{FlightState}
use Rattle.nk_flight.specs.Updates.{Stages, UpdateState, steps_done, switches_in}
use Rattle.nk_trace_commands.specs.Flying.{flown_text}
use Rattle.nk_trace_commands.specs.Tracing.{traced_text}
use Rattle.nk_compile.specs.declared.refusal.Refusal.{Refusal}
use Rattle.nk_compile.specs.declared.refusal.Refusal.TheVariants as refusal
use Rattle.nk_compile_commands.specs.Messages.{refusal_line}
use Rattle.nk_compile_commands.specs.Updating.{updated_text}
use Rattle.nk_virtual.specs.declared.refusal.VirtualRefusal.{VirtualRefusal}
use Rattle.nk_virtual.specs.declared.refusal.VirtualRefusal.TheVariants as unphysical
use Rattle.nk_virtual_command.specs.Messages.{unphysical_line}
use Rattle.nk_verify_commands.specs.Asking.{broken_lines}
use Rattle.nk_verify_commands.specs.Comparing.{difference_lines}
use Rattle.nk_change_impact.specs.Impact.{impact_lines}
use Rattle.nk_compact.specs.declared.compact.DistinguishingHistory.{DistinguishingHistory}
use Rattle.nk_compact.specs.declared.compact.Compact.{Compact}
use Rattle.nk_compact_command.specs.Compacting.{compact_bytes}
use Rattle.nk_lex.specs.declared.ident.Ident.{Ident}
use Rattle.nk_lex.specs.Lex.{largest}
use Rattle.nk_grammar.specs.Certified.{WrittenRow}
use Rattle.nk_grammar.specs.CertifiedText.{AreRowsOn, lexemes_of_certificate}
use Rattle.nk_grammar.specs.Grammar.{Pol}
use Rattle.nk_grammar.specs.Text.{IsPolOn, IsWordOn, lexemes_of_let}
use Rattle.nk_lex.specs.Spelling.{IsName, Lexeme, text_of}
use Rattle.nk_notation.specs.Answer.{inward_text, outward_text}
use Rattle.nk_notation.specs.Outward.{NamedForms}
use Rattle.nk_notation.specs.Words.{direction_of, outwards}
use Rattle.nk_notation_laws.specs.PlainLexemes.{ArePlain}

-- `in` makes these bytes of the text, and refuses nothing in it
abbrev pub BecomesByIn : (text bytes : List ℕ) → Type 0
BecomesByIn text bytes = inward_text text ≡ record { bytes = bytes; fault = None }

-- `in` leaves the text as it is
abbrev pub IsLeftByIn : List ℕ → Type 0
IsLeftByIn text = BecomesByIn text text

-- what `in` makes of a text in which it refuses nothing, it leaves as it is
abbrev pub InIsIdempotent : Type 0
InIsIdempotent = (text : List ℕ) → (inward_text text).fault ≡ None → IsLeftByIn (inward_text text).bytes

-- `out` refuses nothing
abbrev pub OutRefusesNothing : Type 0
OutRefusesNothing = (fields : NamedForms) (text : List ℕ) → (outward_text fields text).fault ≡ None

-- Whatever fields the words of a command line name: `in` gives a text back from what `out` made of it, exactly where `in` leaves the
-- text itself as it is.
abbrev pub InGivesBack : Type 0
InGivesBack = (words : List (List ℕ)) (fields : NamedForms) → direction_of words ≡ Some (outwards fields) → (text : List ℕ)
    → IsLeftByIn text ↔ BecomesByIn (outward_text fields text).bytes text

-- a text that lexemes of nk make with plain numbers is left as it is
abbrev pub PlainTextsAreLeft : Type 0
PlainTextsAreLeft = (xs : List Lexeme) → ArePlain xs → IsLeftByIn (text_of xs)

-- the text of a `let` of a policy is left as it is
abbrev pub PoliciesAreLeft : Type 0
PoliciesAreLeft = (w : Ident) (p : Pol) → IsWordOn 1 w → IsPolOn 1 p → IsLeftByIn (text_of (lexemes_of_let w p))

-- so is the text of a certificate
abbrev pub CertificatesAreLeft : Type 0
CertificatesAreLeft = (p : Pol) (ws : List WrittenRow) → IsPolOn 2 p → AreRowsOn 3 ws → IsLeftByIn (text_of (lexemes_of_certificate p ws))

-- So are the lines of a history and of the packet that it starts at. The names of the fields are names, and their largest values are
-- numbers that nk reads.
abbrev pub HistoriesAreLeft : Type 0
HistoriesAreLeft = (fields : FieldTable) → All IsName fields.names → All (λ m. m ≤ largest) fields.maxima
    → (start : Packet) (h : History) → IsPacket fields start → All (IsPacket fields) (h.records ++ h.last ∷ []) → IsLeftByIn (way_lines fields start h)

-- so is the text of tables
abbrev pub TablesAreLeft : Type 0
TablesAreLeft = (t : Tables) → ArePrintableTables t → IsLeftByIn (table_bytes t)

-- so are the text of a policy and the text of a certificate, as they are printed
abbrev pub PrintedPoliciesAreLeft : Type 0
PrintedPoliciesAreLeft = (fields : FieldTable) → IsWritable fields → (p : Policy) → IsOverFields fields p → IsLeftByIn (pol_bytes fields p)

abbrev pub PrintedCertificatesAreLeft : Type 0
PrintedCertificatesAreLeft = (fields : FieldTable) → IsWritable fields → (c : CertificateValue) → IsPrintableCertificate fields c → IsLeftByIn (cert_bytes fields c)

-- so is the text of each program that is generated: no other program is printed
abbrev pub PrintedProgramsAreLeft : Type 0
PrintedProgramsAreLeft = (size seed : ℕ) → size ≤ 1000 → IsLeftByIn (generated size seed)

-- a number that nk counts to
abbrev pub IsCount : ℕ → Type 0
IsCount n = n < 2 ^ 64

-- the packets of a history have values in range
abbrev pub IsHistory : FieldTable → History → Type 0
IsHistory fields h = All (IsPacket fields) (h.records ++ h.last ∷ [])

-- so are the histories with which a packet leaves, and how many leave and how many copies would go on
abbrev pub TracesAreLeft : Type 0
TracesAreLeft = (fields : FieldTable) → IsWritable fields → (traced : Traced) → All (IsHistory fields) traced.histories
    → IsCount (length traced.histories) → IsCount traced.flying → IsLeftByIn (traced_text fields traced)

-- so are the histories that have left in a flight, and how many have left and how many copies are in flight
abbrev pub FlightsAreLeft : Type 0
FlightsAreLeft = (fields : FieldTable) → IsWritable fields → (s : FlightState) → All (λ l. IsHistory fields l.history) s.left
    → IsCount (length s.left) → IsCount (length s.flying) → IsLeftByIn (flown_text fields s)

-- so are the histories that have left while new tables take the old ones' place, each with the number and the version of its
-- injection, the counts, and how many plan steps are done
abbrev pub UpdatesAreLeft : Type 0
UpdatesAreLeft = (fields : FieldTable) → IsWritable fields → (g : Stages) (s : UpdateState)
    → All (λ l. IsCount l.number × IsHistory fields l.history) s.flight.left → IsCount (length s.flight.left) → IsCount (length s.flight.flying)
    → IsCount (steps_done g s) → IsCount (3 * length (switches_in g)) → IsLeftByIn (updated_text fields g s)

-- the start packet and the history have values in range
abbrev pub IsFoundOver : FieldTable → Found → Type 0
IsFoundOver fields f = IsPacket fields f.start × IsHistory fields (record { records = f.records; last = f.last })

-- so is the answer that tells which of two policies alone has a history
abbrev pub DifferencesAreLeft : Type 0
DifferencesAreLeft = (fields : FieldTable) → IsWritable fields → (side : Side) (f : Found) → IsFoundOver fields f → IsLeftByIn (difference_lines fields side f)

-- so is the answer that tells a history by which a query is broken
abbrev pub BrokenQueriesAreLeft : Type 0
BrokenQueriesAreLeft = (fields : FieldTable) → IsWritable fields → (f : Found) → IsFoundOver fields f → IsLeftByIn (broken_lines fields f)

-- so are two predicates, each as a policy with a name
abbrev pub ImpactsAreLeft : Type 0
ImpactsAreLeft = (fields : FieldTable) → IsWritable fields → (left right : Policy) → IsOverFields fields left → IsOverFields fields right
    → IsLeftByIn (impact_lines fields left right)

-- the numbers are counts, and the start packet and the history have values in range
pub record IsDistinguishingOver (fields : FieldTable) (a : DistinguishingHistory) : Type 0 where
  pub first : IsCount a.first
  pub second : IsCount a.second
  pub alone : IsCount a.alone
  pub start : IsPacket fields a.start
  pub history : IsHistory fields a.history

-- so is the text of merged tables and of what tells their tags apart
abbrev pub CompactsAreLeft : Type 0
CompactsAreLeft = (fields : FieldTable) → IsWritable fields → (c : Compact) → ArePrintableTables c.tables → All (IsDistinguishingOver fields) c.aparts
    → IsLeftByIn (compact_bytes fields c)

-- the packets that a refusal tells have values in range, and its number is a count
abbrev pub IsRefusalOver : FieldTable → Refusal → Type 0
IsRefusalOver fields (refusal.OffEdge start h) = IsPacket fields start × IsHistory fields h
IsRefusalOver fields (refusal.TooManyTags found) = IsCount found
IsRefusalOver fields r = ⊤

-- so is what is said of a policy that is refused
abbrev pub RefusalsAreLeft : Type 0
RefusalsAreLeft = (fields : FieldTable) → IsWritable fields → (r : Refusal) → IsRefusalOver fields r → IsLeftByIn (refusal_line fields r)

-- the packets that it tells have values in range, and its switch and port are numbers that nk reads
abbrev pub IsVirtualRefusalOver : FieldTable → VirtualRefusal → Type 0
IsVirtualRefusalOver fields (unphysical.OffTarget switch port start h) = (switch ≤ largest) × (port ≤ largest) × IsPacket fields start × IsHistory fields h
IsVirtualRefusalOver fields (unphysical.NotCarried switch port start) = (switch ≤ largest) × (port ≤ largest) × IsPacket fields start
IsVirtualRefusalOver fields r = ⊤

-- so is what is said of a name that has no physical policy
abbrev pub VirtualRefusalsAreLeft : Type 0
VirtualRefusalsAreLeft = (fields : FieldTable) → IsWritable fields → (r : VirtualRefusal) → IsVirtualRefusalOver fields r → IsLeftByIn (unphysical_line fields r)
