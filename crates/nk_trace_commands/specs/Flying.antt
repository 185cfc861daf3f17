-- What `fly SEED STEPS PACKET` answers to the bytes of a table text: what following a packet answers, and of a packet at a
-- port the histories that have left after so many steps, in the order of leaving, and two counts.
use Rattle.std.specs.Prelude.{◌≡◌, ℕ, List, ◌++◌, length}
use Rattle.std.specs.List.{flat_map}
use Rattle.nk_field.specs.Packet.{FieldTable}
use Rattle.nk_table.specs.declared.Tables.{Tables}
use Rattle.nk_tabtext.specs.Values.{tables_of}
use Rattle.nk_flight.specs.declared.copies.Left.{Left}
use Rattle.nk_flight.specs.Draws.{after_draws}
use Rattle.nk_flight.specs.Flights.{FlightState, injected, nothing_in_flight}
use Rattle.nk_reply.specs.Outcome.{Outcome, done}
use Rattle.nk_trace_commands.specs.Following.{ToTables, counts_line, history_line}

-- the line of a history that has left
abbrev pub left_line : FieldTable → Left → List ℕ
left_line fields l = history_line fields l.history

-- a line for each history that has left, and how many these are, and how many copies are in flight
abbrev pub flown_text : FieldTable → FlightState → List ℕ
flown_text fields s = flat_map (left_line fields) s.left ++ counts_line (length s.left) (length s.flying)

-- the flight after the packet was injected and so many draws from the seed said which copy is handled
abbrev pub flown : Tables → ℕ → ℕ → List ℕ → FlightState
flown t seed steps pk = after_draws seed steps (injected pk (nothing_in_flight t))

-- what is answered to a packet at a port
abbrev pub ToFlown : ℕ → ℕ → Tables → List ℕ → Outcome → Type 0
ToFlown seed steps t pk outcome = outcome ≡ done (flown_text t.fields (flown t seed steps pk))

-- the answer of flying the packet of this word, over the bytes of a table text
abbrev pub IsFlyAnswer : ℕ → ℕ → List ℕ → List ℕ → Outcome → Type 0
IsFlyAnswer seed steps word bytes outcome = ToTables (ToFlown seed steps) (tables_of bytes) word outcome
