-- What commands answer that follow a packet through the tables of a text: the first fault of the text, or the first item at
-- fault of the packet's word, or that the packet stands at no port, or what is told of it there.
use Rattle.std.specs.Prelude.{◌≡◌, ℕ, List, ◌++◌, Ok, Err, MatchBool, Result, codes, decimal, false, slice_index}
use Rattle.nk_field.specs.Packet.{FieldTable}
use Rattle.nk_field.specs.Texts.{history_bytes, packet_of}
use Rattle.nk_field.specs.declared.history.History.{History}
use Rattle.nk_field.specs.declared.packet.Packet.{Packet}
use Rattle.nk_field.specs.declared.reading.PacketError.{PacketError}
use Rattle.nk_field.specs.declared.reading.PacketError.TheVariants as reading
use Rattle.nk_topo.specs.Topology.{is_port}
use Rattle.nk_table.specs.declared.Tables.{Tables}
use Rattle.nk_tabgrammar.specs.declared.written.ReadError.{ReadError}
use Rattle.nk_tabgrammar.specs.declared.written.ReadError.TheVariants as text
use Rattle.nk_names.specs.Messages.{fault_line}
use Rattle.nk_reply.specs.Outcome.{Outcome, text_refused, policy_refused}

-- the line of a history, without the tag
abbrev pub history_line : FieldTable → History → List ℕ
history_line fields h = history_bytes fields false h ++ codes "\n"

-- how many histories leave, and how many copies would go on
abbrev pub counts_line : ℕ → ℕ → List ℕ
counts_line left flying = codes "left " ++ decimal left ++ codes " flying " ++ decimal flying ++ codes "\n"

-- the line of a packet at fault
abbrev pub item_line : ℕ → List ℕ
item_line n = codes "refused C9: bad packet, item " ++ decimal n ++ codes "\n"

-- what is told of a packet at a port of tables
abbrev pub TableOutcome : Type 1
TableOutcome = Tables → List ℕ → Outcome → Type 0

-- what is answered to what the packet's word gives
abbrev pub ToPacket : TableOutcome → Tables → Result Packet PacketError → Outcome → Type 0
ToPacket tells t (Ok pk) outcome = MatchBool (is_port t.topo (slice_index pk 0) (slice_index pk 1))
    (tells t pk outcome) (outcome ≡ policy_refused (codes "refused C10: off port\n"))
ToPacket tells t (Err (reading.BadPacket n)) outcome = outcome ≡ policy_refused (item_line n)
ToPacket tells t (Err reading.NoMemory) outcome = ⊥

-- what is answered to what a table text is
abbrev pub ToTables : TableOutcome → Result Tables ReadError → List ℕ → Outcome → Type 0
ToTables tells (Ok t) word outcome = ToPacket tells t (packet_of t.fields word) outcome
ToTables tells (Err (text.BadByte line)) word outcome = outcome ≡ text_refused (fault_line line (codes "bad byte"))
ToTables tells (Err (text.NumberTooLarge line)) word outcome =
    outcome ≡ text_refused (fault_line line (codes "number too large"))
ToTables tells (Err (text.Unexpected line)) word outcome = outcome ≡ text_refused (fault_line line (codes "unexpected"))
ToTables tells (Err (text.TableFault line)) word outcome = outcome ≡ text_refused (fault_line line (codes "table fault"))
ToTables tells (Err text.NoMemory) word outcome = ⊥
