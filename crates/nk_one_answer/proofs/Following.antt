-- What is answered to a packet that is followed is one.
use Rattle.std.proofs.Common.{◌≡◌, ℕ, Bool, true, false, MatchBool, List, sym, ap, ◌∙◌}
use Rattle.std.specs.Prelude.{Ok, Err, slice_index}
use Rattle.std.specs.declared.result.Result.{Result}
use Rattle.nk_field.specs.Texts.{packet_of}
use Rattle.nk_field.specs.declared.packet.Packet.{Packet}
use Rattle.nk_field.specs.declared.reading.PacketError.{PacketError}
use Rattle.nk_field.specs.declared.reading.PacketError.TheVariants as reading
use Rattle.nk_topo.specs.Topology.{is_port}
use Rattle.nk_table.specs.declared.Tables.{Tables}
use Rattle.nk_tabgrammar.specs.declared.written.ReadError.{ReadError}
use Rattle.nk_tabgrammar.specs.declared.written.ReadError.TheVariants as text
use Rattle.nk_sim.specs.Traces.{IsTrace}
use Rattle.nk_sim.specs.declared.tracing.Traced.{Traced}
use Rattle.nk_trace_commands.specs.Following.{TableOutcome, ToPacket, ToTables}
use Rattle.nk_trace_commands.specs.Flying.{ToFlown}
use Rattle.nk_reply.specs.Outcome.{Outcome, done}
use Rattle.nk_trace_commands.specs.Tracing.{ToLocated, traced_text}

module _ (tells : TableOutcome) (one : (t : Tables) (pk : Packet) (o p : Outcome) → tells t pk o → tells t pk p → o ≡ p) where
  by_port : (t : Tables) (pk : Packet) (o p q : Outcome) (b : Bool) → MatchBool b (tells t pk o) (o ≡ q) → MatchBool b (tells t pk p) (p ≡ q) → o ≡ p
  by_port t pk o p q true h k = one t pk o p h k
  by_port t pk o p q false h k = h ∙ sym k

  pub by_packet : (t : Tables) (r : Result Packet PacketError) (o p : Outcome) → ToPacket tells t r o → ToPacket tells t r p → o ≡ p
  by_packet t (Ok pk) o p h k = by_port t pk o p _ (is_port t.topo (slice_index pk 0) (slice_index pk 1)) h k
  by_packet t (Err (reading.BadPacket n)) o p h k = h ∙ sym k
  by_packet t (Err reading.NoMemory) o p h k = absurd h

  pub by_tables : (r : Result Tables ReadError) (word : List ℕ) (o p : Outcome) → ToTables tells r word o → ToTables tells r word p → o ≡ p
  by_tables (Ok t) word o p h k = by_packet t (packet_of t.fields word) o p h k
  by_tables (Err text.NoMemory) word o p h k = absurd h
  by_tables r word o p h k = h ∙ sym k

-- that a packet has one trace
abbrev pub OneTrace : Type 0
OneTrace = (t : Tables) (hops : ℕ) (pk : List ℕ) (a b : Traced) → IsTrace t hops pk a → IsTrace t hops pk b → a ≡ b

pub one_located : OneTrace → (hops : ℕ) (t : Tables) (pk : Packet) (o p : Outcome) → ToLocated hops t pk o → ToLocated hops t pk p → o ≡ p
one_located law hops t pk (done x) (done y) h k =
    ap done (h.told ∙ ap (traced_text t.fields) (law t hops pk h.traced k.traced h.is k.is) ∙ sym k.told)
one_located law hops t pk (done x) p h k = absurd k
one_located law hops t pk o p h k = absurd h

pub one_flown : (seed steps : ℕ) (t : Tables) (pk : Packet) (o p : Outcome) → ToFlown seed steps t pk o → ToFlown seed steps t pk p → o ≡ p
one_flown seed steps t pk o p h k = h ∙ sym k
