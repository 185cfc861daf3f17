-- What `trace HOPS PACKET` answers to the bytes of a table text: what following a packet answers, and of a packet at a port
-- the histories with which it leaves, and two counts.
use Rattle.std.specs.Prelude.{◌≡◌, ℕ, List, ◌++◌, length}
use Rattle.std.specs.List.{flat_map}
use Rattle.nk_field.specs.Packet.{FieldTable}
use Rattle.nk_table.specs.declared.Tables.{Tables}
use Rattle.nk_tabtext.specs.Values.{tables_of}
use Rattle.nk_sim.specs.declared.tracing.Traced.{Traced}
use Rattle.nk_sim.specs.Traces.{IsTrace}
use Rattle.nk_reply.specs.Outcome.{Outcome, done}
use Rattle.nk_trace_commands.specs.Following.{ToTables, counts_line, history_line}

-- a line for each history
abbrev pub history_lines : FieldTable → Traced → List ℕ
history_lines fields traced = flat_map (history_line fields) traced.histories

-- these, and how many histories leave, and how many copies would go on
abbrev pub traced_text : FieldTable → Traced → List ℕ
traced_text fields traced = history_lines fields traced ++ counts_line (length traced.histories) traced.flying

-- the text tells the histories of the packet
pub record IsTraced (t : Tables) (hops : ℕ) (pk text : List ℕ) : Type 0 where
  pub traced : Traced
  pub is : IsTrace t hops pk traced
  pub told : text ≡ traced_text t.fields traced

-- what is answered to a packet at a port
abbrev pub ToLocated : ℕ → Tables → List ℕ → Outcome → Type 0
ToLocated hops t pk (done text) = IsTraced t hops pk text
ToLocated hops t pk outcome = ⊥

-- the answer of tracing the packet of this word, over the bytes of a table text
abbrev pub IsTraceAnswer : ℕ → List ℕ → List ℕ → Outcome → Type 0
IsTraceAnswer hops word bytes outcome = ToTables (ToLocated hops) (tables_of bytes) word outcome
