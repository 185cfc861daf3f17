-- What is said of packets and histories.
use Rattle.std.specs.Prelude.{ℕ, List, true, ◌++◌, codes}
use Rattle.nk_field.specs.declared.history.History.{History}
use Rattle.nk_field.specs.declared.packet.Packet.{Packet}
use Rattle.nk_field.specs.Packet.{FieldTable}
use Rattle.nk_field.specs.Order.{Found}
use Rattle.nk_field.specs.Texts.{history_bytes, packet_bytes}

-- a packet that something starts at, with every field
abbrev pub start_line : FieldTable → Packet → List ℕ
start_line fields start = codes "start " ++ packet_bytes fields true start ++ codes "\n"

-- the packet that a history starts at and the history, with every field
abbrev pub way_lines : FieldTable → Packet → History → List ℕ
way_lines fields start h = start_line fields start ++ codes "history " ++ history_bytes fields true h ++ codes "\n"

-- the start packet and the history of what was found, with every field
abbrev pub found_lines : FieldTable → Found → List ℕ
found_lines fields f = way_lines fields f.start (record { records = f.records; last = f.last })
